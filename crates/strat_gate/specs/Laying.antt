-- A superblock laid into a slot.
use Rattle.std.specs.Prelude.{◌≡◌, ◌≢◌, ◌<◌, ◌⊎◌, ℕ, Some, IfSome, Ok}
use Rattle.def_crash.specs.Image.{Image, SameIn}
use Rattle.def_crash.specs.Moments.{DiskView, Exposes, Images}
use Rattle.def_bytes.specs.SuperBlock.{Super, chosen_in, newest_in}

-- both slots are the same in the content and in every image, and the newest is in the other slot and of a
-- smaller generation
pub record LaysOver (v : DiskView) (f : Image) (slot : ℕ) (sb : Super) : Type 0 where
  pub content : Exposes v f
  pub same : (c : Image) → Images v c → SameIn 0 8192 f c
  pub newest : IfSome (chosen_in f) (λ s. (s.0 ≢ slot) × (s.1.generation < sb.generation))

-- an image has the newest superblock of before, or this one
abbrev pub OldOrNew : Image → ℕ → Super → Image → Type 0
OldOrNew f slot sb c = (newest_in c ≡ newest_in f) ⊎ (newest_in c ≡ Ok (Some (slot, sb)))
