-- Blocks of 4,096 bytes, and what writes of whole blocks leave alone.
use Rattle.std.specs.Prelude.{◌≡◌, ℕ, ◌*◌, Bool, false, List}
use Rattle.std.specs.List.{Contains}
use Rattle.def_crash.specs.Image.{Image, SameIn}
use Rattle.def_crash.specs.Moments.{DiskView, Exposes, Images, Since, Passes}

-- two images have the same bytes in a block
abbrev pub KeepsBlock : ℕ → Image → Image → Type 0
KeepsBlock b old new = SameIn (4096 * b) 4096 old new

-- two images have the same bytes in each of these blocks
abbrev pub AgreeOn : List ℕ → Image → Image → Type 0
AgreeOn blocks old new = (b : ℕ) → Contains blocks b → KeepsBlock b old new

-- two images have the same bytes in each block that is not free
abbrev pub KeepsTaken : (ℕ → Bool) → Image → Image → Type 0
KeepsTaken free old new = (b : ℕ) → free b ≡ false → KeepsBlock b old new

-- a disk changed in free blocks alone: so each image since then is one of those before but for them, and so is what it
-- exposes
pub record TearsBlocks (free : ℕ → Bool) (old new : DiskView) : Type 0 where
  pub images : (c : Image) → Since new old.moment c
      → (d : Image) × Images old d × KeepsTaken free d c
  pub content : (f g : Image) → Exposes old f → Exposes new g → KeepsTaken free f g
  pub time : Passes old new
