-- The frames of a page of puts.
use Rattle.std.specs.Prelude.{ℕ, List}

-- the bytes of a page's frames, and the tag of the next one
pub record Framed : Type 0 where
  pub bytes : List ℕ
  pub tag : ℕ
