-- The order of keys and of entries.
use Rattle.std.specs.Prelude.{ℕ, nat_lt, ◌&&◌, Bool, true, List, [], ◌∷◌}
use Rattle.std.specs.List.{list_all}
use Rattle.std.specs.declared.cmp.Ordering.{Ordering}
use Rattle.std.specs.Ordering.{nat_cmp, ordering_then}
use Rattle.std.specs.Cmp.Lexicographic.{slice_cmp}

-- keys by their bytes, a proper prefix first
abbrev pub key_cmp : List ℕ → List ℕ → Ordering
key_cmp a b = slice_cmp nat_cmp a b

-- by key, and then the greater version first
abbrev pub entry_cmp : List ℕ → ℕ → List ℕ → ℕ → Ordering
entry_cmp key version other_key other_version =
    ordering_then (key_cmp key other_key) (nat_cmp other_version version)

-- numbers strictly descend
abbrev pub descends : List ℕ → Bool
descends [] = true
descends (n ∷ numbers) = list_all (λ m. nat_lt m n) numbers && descends numbers
