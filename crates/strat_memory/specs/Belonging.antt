-- What the tests of a manifest find: blocks that are used, and numbers that are added to a set one after the other.
use Rattle.std.specs.Prelude.{◌≡◌, ◌↔◌, ℕ, ◌&&◌, not, Bool, true, if◌then◌else◌, List, [], ◌∷◌, Contains}
use Rattle.std.specs.Ordering.{is_eq, nat_cmp}
use Rattle.strat_extent.specs.Blocks.{SpaceView, is_used}

-- just these blocks are used, in a space that begins at a block
pub record UsesJust (space : SpaceView) (first : ℕ) (blocks : List ℕ) : Type 0 where
  pub first_is : space.first ≡ first
  pub used : (b : ℕ) → (is_used space b ≡ true) ↔ Contains blocks b

-- none of these numbers is in a set, and none stands twice
unfoldable pub are_new : (ℕ → Bool) → List ℕ → Bool
are_new has [] = true
are_new has (x ∷ xs) =
    not (has x) && are_new (λ q. if is_eq (nat_cmp x q) then true else has q) xs
