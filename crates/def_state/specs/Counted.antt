-- What is counted of entries by the versions of each key's group.
use Rattle.std.specs.Prelude.{ℕ, ◌==◌, Bool, List, sum_by}
use Rattle.std.specs.List.{list_any, count_by}
use Rattle.strat_base.specs.Tree.{Parents, is_ancestor}

-- how many entries are a version's own
abbrev pub own_at : List (List ℕ) → ℕ → ℕ
own_at groups v = sum_by (λ versions. count_by (λ u. u == v) versions) groups

-- a version sees a key where one of the key's versions is its own or an ancestor's
abbrev pub sees_one : Parents → ℕ → List ℕ → Bool
sees_one parents v versions = list_any (λ u. is_ancestor parents u v) versions

-- how many keys a version sees
abbrev pub keys_at : Parents → List (List ℕ) → ℕ → ℕ
keys_at parents groups v = count_by (sees_one parents v) groups
