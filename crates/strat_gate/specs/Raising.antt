-- Bytes written after a closed gate, which is raised once they are durable.
use Rattle.std.specs.Prelude.{◌≡◌, ◌⊎◌, ℕ, ◌+◌, List, ◌∷◌, length, Some, Result, OnOk}
use Rattle.def_crash.specs.Image.{Image, Outside, patch}
use Rattle.def_crash.specs.Moments.{DiskView, Exposes, Images, Since, Passes, TearsOnly, IsDurable}
use Rattle.def_bytes.specs.Layout.{open_flag}

-- an image is one of before but for bytes after the gate, or has all of them and differs in the gate alone
abbrev pub BehindOrRaised : DiskView → Image → ℕ → List ℕ → Image → Type 0
BehindOrRaised old f gate bytes c =
    ((d : Image) × Images old d × Outside (gate + 1) (length bytes) d c)
    ⊎ Outside gate 1 (patch f (gate + 1) bytes) c

-- a call that writes bytes after a gate, syncs, raises the gate and syncs
pub record Raises {T E : Type 0} (old new : DiskView) (gate : ℕ) (bytes : List ℕ)
    (result : Result T E) : Type 0 where
  pub images : TearsOnly old new gate (1 + length bytes)
  pub time : Passes old new
  pub any_moment : (f : Image) → Exposes old f → (c : Image) → Since new old.moment c
      → BehindOrRaised old f gate bytes c
  pub content : OnOk result ((f : Image) → Exposes old f
      → new.content ≡ Some (patch f gate (open_flag ∷ bytes)))
  pub settled : OnOk result (IsDurable new)
