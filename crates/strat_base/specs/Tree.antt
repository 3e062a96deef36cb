-- The versions of a store as a tree: each has at most one parent, which was made before it.
use Rattle.std.specs.Prelude.{◌≡◌, ◌<◌, ℕ, zero, suc, ◌-◌, ◌==◌, Bool, false, nat_lt, List, [], ◌∷◌, ◌++◌, length, Option, Some, None, slice_get, find, unwrap_or, option_and_then}
use Rattle.std.specs.Option.{option_map_or}
use Rattle.std.specs.List.{list_any}

-- the parent of each version, by its number; a root has none
abbrev pub Parents : Type 0
Parents = List (Option ℕ)

-- this version was made
abbrev pub is_known : Parents → ℕ → Bool
is_known parents v = nat_lt v (length parents)

-- the parent of a version, if it is there and has one
abbrev pub parent_of : Parents → ℕ → Option ℕ
parent_of parents v = option_and_then (λ parent. parent) (slice_get parents v)

-- a version and up to n of its ancestors, the nearest first
unfoldable pub climb : ℕ → Parents → ℕ → List ℕ
climb zero parents v = v ∷ []
climb (suc n) parents v = v ∷ option_map_or (λ p. climb n parents p) (parent_of parents v) []

-- a version, its parent, the parent of that, and so on to a root
abbrev pub path : Parents → ℕ → List ℕ
path parents v = climb v parents v

-- u is v or an ancestor of v
abbrev pub is_ancestor : Parents → ℕ → ℕ → Bool
is_ancestor parents u v = list_any (λ w. w == u) (path parents v)

-- the nearest of v and its ancestors that is numbered below h
abbrev pub below : Parents → ℕ → ℕ → ℕ
below parents v h = unwrap_or (find (λ u. nat_lt u h) (path parents v)) 0

-- the tree with one more version, a child of p
abbrev pub with_child : Parents → ℕ → Parents
with_child parents p = parents ++ Some p ∷ []

-- how many ancestors a version has
abbrev pub depth : Parents → ℕ → ℕ
depth parents v = length (path parents v) - 1

-- some version has this one as its parent
abbrev pub has_child : Parents → ℕ → Bool
has_child parents v = list_any (λ parent. option_map_or (λ p. p == v) parent false) parents

-- a version's parent was made before it; only a root has none
abbrev pub IsOlder : ℕ → Option (Option ℕ) → Type 0
IsOlder v None = Unit {0}
IsOlder v (Some None) = v ≡ 0
IsOlder v (Some (Some p)) = p < v

-- there is a version, version 0 alone is a root, and every other parent was made before its child
pub record IsTree (parents : Parents) : Type 0 where
  pub some : 0 < length parents
  pub older : (v : ℕ) → IsOlder v (slice_get parents v)
