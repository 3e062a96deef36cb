-- The versions below a number in an order in which each is followed at once by its descendants.
use Rattle.std.specs.Prelude.{◌≡◌, ◌<◌, ℕ, nat_lt, nat_le, ◌&&◌, Bool, List, length, slice_index}
use Rattle.strat_base.specs.Tree.{Parents, is_ancestor}

-- the number of each version in such an order, and the number after its last descendant's
pub record Numbering : Type 0 where
  pub starts : List ℕ
  pub ends : List ℕ

-- the number of v is one of those from u's number on that u and its descendants have
abbrev pub spans : Numbering → ℕ → ℕ → Bool
spans numbering u v =
    nat_le (slice_index numbering.starts u) (slice_index numbering.starts v)
    && nat_lt (slice_index numbering.starts v) (slice_index numbering.ends u)

-- below n each version spans itself and its descendants, and no other version
pub record IsPreorder (n : ℕ) (parents : Parents) (numbering : Numbering) : Type 0 where
  pub starts_len : length numbering.starts ≡ n
  pub ends_len : length numbering.ends ≡ n
  pub law : (u v : ℕ) → u < n → v < n → is_ancestor parents u v ≡ spans numbering u v

-- each of the first n versions spans itself and those of its descendants that are among them, and no other of them
abbrev pub OrdersFirst : ℕ → Parents → Numbering → Type 0
OrdersFirst n parents numbering =
    (u v : ℕ) → u < n → v < n → is_ancestor parents u v ≡ spans numbering u v
