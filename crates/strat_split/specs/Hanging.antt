-- Which parts hang below the versions of each part.
use Rattle.std.specs.Prelude.{ℕ, List, map, slice_get, Option, unwrap_or, option_and_then}
use Rattle.def_split.specs.Plan.{in_no_part}
use Rattle.strat_split.specs.Chains.{first_labelled}
use Rattle.strat_split.specs.declared.parts.Part.{Part}

-- the part of the version that a part hangs below, by these labels
abbrev pub carrier_of : List ℕ → Option ℕ → ℕ
carrier_of labels above = unwrap_or (option_and_then (λ p. slice_get labels p) above) in_no_part

-- the carriers of parts
abbrev pub carriers_of : List ℕ → List Part → List ℕ
carriers_of labels parts = map (λ part. carrier_of labels part.above) parts

-- the first part from q on that hangs below a version of another
abbrev pub first_hanging : List ℕ → ℕ → ℕ → Option ℕ
first_hanging carriers part q = first_labelled carriers part q
