-- What an arena sees of a chunk of its memory.
use Rattle.std.specs.Prelude.{ℕ, List}

-- the bytes that are written, and how many there may be
pub record ChunkView : Type 0 where
  pub bytes : List ℕ
  pub capacity : ℕ
