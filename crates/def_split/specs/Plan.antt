-- Plans: how the versions below a horizon are split into parts, each of which becomes an array.
use Rattle.std.specs.Prelude.{◌≡◌, ◌<◌, ◌≤◌, ℕ, ◌+◌, ◌*◌, ◌^◌, ◌-◌, ◌==◌, List, length, filter, sum_by, slice_index, slice_index_or, Option, None, Some, ◌⊎◌}
use Rattle.std.specs.List.{range_with_len}
use Rattle.std.specs.Option.{option_map_or}
use Rattle.strat_base.specs.Tree.{Parents, parent_of}

-- a part: the version that it hangs below, whose live entries its array takes over; how many leads and
-- entries its array has; and the least number of keys live at one of its versions
pub record Part : Type 0 where
  pub above : Option ℕ
  pub leads : ℕ
  pub entries : ℕ
  pub least : ℕ

-- a plan: the number of the part of each version below the horizon, and the parts
pub record Plan : Type 0 where
  pub labels : List ℕ
  pub parts : List Part

-- how many versions a plan splits
abbrev pub horizon_of : Plan → ℕ
horizon_of plan = length plan.labels

-- the number of a version's part
abbrev pub part_of : Plan → ℕ → ℕ
part_of plan v = slice_index plan.labels v

-- what stands for the number of a part where a version is in none
abbrev pub in_no_part : ℕ
in_no_part = 2 ^ 32 - 1

-- a part by its number
abbrev pub part_at : Plan → ℕ → Part
part_at plan q =
    slice_index_or plan.parts q (record { above = None; leads = 0; entries = 0; least = 0 })

-- the versions of a part: the tag of its array
abbrev pub members : Plan → ℕ → List ℕ
members plan q = filter (λ v. part_of plan v == q) (range_with_len 0 (horizon_of plan))

-- a plan splits versions that have so many leads each, and see so many keys each
pub record IsSplit (parents : Parents) (own live : ℕ → ℕ) (plan : Plan) : Type 0 where
  -- a version is in a part, or in none
  pub labelled : (v : ℕ) → v < horizon_of plan
      → (part_of plan v < length plan.parts) ⊎ (part_of plan v ≡ in_no_part)
  -- the part of a root takes nothing over
  pub root : (v : ℕ) → v < horizon_of plan → part_of plan v < length plan.parts
      → parent_of parents v ≡ None → (part_at plan (part_of plan v)).above ≡ None
  -- the parent of a version is in its part, or is the version that its part hangs below
  pub hangs : (v p : ℕ) → v < horizon_of plan → part_of plan v < length plan.parts
      → parent_of parents v ≡ Some p
      → (part_of plan p ≡ part_of plan v) ⊎ ((part_at plan (part_of plan v)).above ≡ Some p)
  -- a part that hangs below no version holds version 0
  pub topmost : (q : ℕ) → q < length plan.parts → (part_at plan q).above ≡ None
      → part_of plan 0 ≡ q
  -- a part hangs below a version that the plan splits
  pub placed : (q p : ℕ) → q < length plan.parts → (part_at plan q).above ≡ Some p
      → p < horizon_of plan
  -- each version that sees a key is in a part
  pub served : (v : ℕ) → v < horizon_of plan → 0 < live v → part_of plan v < length plan.parts
  -- the leads of a part are those of its versions
  pub leads : (q : ℕ) → q < length plan.parts
      → (part_at plan q).leads ≡ sum_by own (members plan q)
  -- its entries are its leads, and what is live where it hangs
  pub entries : (q : ℕ) → q < length plan.parts
      → (part_at plan q).entries
      ≡ (part_at plan q).leads + option_map_or live (part_at plan q).above 0
  -- at each version of a part at least a third of its entries are live
  pub dense : (v : ℕ) → v < horizon_of plan → part_of plan v < length plan.parts
      → (part_at plan (part_of plan v)).entries ≤ 3 * live v
  -- some version of a part sees as few keys as its least number says
  pub attained : (q : ℕ) → q < length plan.parts
      → (v : ℕ) × (v < horizon_of plan) × (part_of plan v ≡ q) × (live v ≡ (part_at plan q).least)
  -- and none sees fewer
  pub low : (v : ℕ) → v < horizon_of plan → part_of plan v < length plan.parts
      → (part_at plan (part_of plan v)).least ≤ live v
  -- a part has an entry
  pub some : (q : ℕ) → q < length plan.parts → 1 ≤ (part_at plan q).entries
  -- and at least half of its entries are leads
  pub led : (q : ℕ) → q < length plan.parts
      → (part_at plan q).entries ≤ 2 * (part_at plan q).leads
  -- parts are numbered by their least versions
  pub numbered : (q r v : ℕ) → q < r → r < length plan.parts → v < horizon_of plan
      → part_of plan v ≡ r → (u : ℕ) × (u < v) × (part_of plan u ≡ q)
