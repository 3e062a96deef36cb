-- What a crash may leave at each moment in the life of a disk, and how a call may change that.
use Rattle.std.specs.Prelude.{◌≡◌, ◌≤◌, ℕ, List, length, Option, Some, IsSome, IfSome, IsSomeAnd, Result, OnOk}
use Rattle.def_crash.specs.Image.{Image, HoldsBytes, Outside, window, patch}

-- a disk as its users see it: its content if exposed, the moment, and what a crash at each moment so far might leave
pub record DiskView : Type 1 where
  pub content : Option Image
  pub moment : ℕ
  pub images_at : ℕ → Image → Type 0

-- a disk exposes its content, which is this image
abbrev pub Exposes : DiskView → Image → Type 0
Exposes v f = v.content ≡ Some f

-- an exposed content has these n bytes from an offset on
abbrev pub ReadsBack : DiskView → ℕ → ℕ → List ℕ → Type 0
ReadsBack v at n bytes = IfSome v.content (λ f. bytes ≡ window f at n)

-- an exposed content stays exposed, with these bytes written over it
abbrev pub Writes : DiskView → DiskView → ℕ → List ℕ → Type 0
Writes old new at bytes = IfSome old.content (λ f. new.content ≡ Some (patch f at bytes))

-- an exposed content stays exposed, and changes only in n bytes from an offset on
abbrev pub Garbles : DiskView → DiskView → ℕ → ℕ → Type 0
Garbles old new at n = IfSome old.content (λ f. IsSomeAnd new.content (Outside at n f))

-- what a crash may leave now
abbrev pub Images : DiskView → Image → Type 0
Images v = v.images_at v.moment

-- what a crash at some moment from a given one to now might leave
pub record Since (v : DiskView) (start : ℕ) (c : Image) : Type 0 where
  pub at : ℕ
  pub from : start ≤ at
  pub till : at ≤ v.moment
  pub left : v.images_at at c

-- time goes on: no moment that has passed gains or loses an image, and an exposed content stays exposed
pub record Passes (old new : DiskView) : Type 0 where
  pub exposed : IsSome old.content → IsSome new.content
  pub later : old.moment ≤ new.moment
  pub past : (m : ℕ) (c : Image) → m ≤ old.moment → new.images_at m c → old.images_at m c
  pub kept : (m : ℕ) (c : Image) → m ≤ old.moment → old.images_at m c → new.images_at m c

-- each image since then is one of those before, but for n bytes from an offset on
pub record TearsOnly (old new : DiskView) (at n : ℕ) : Type 0 where
  pub each : (c : Image) → Since new old.moment c → (d : Image) × Images old d × Outside at n d c

-- each image since then is one of those before
pub record KeepsImages (old new : DiskView) : Type 0 where
  pub each : (c : Image) → Since new old.moment c → Images old c

-- a disk is as it was, though it may have been read
pub record OnlyReads (old new : DiskView) : Type 0 where
  pub same : new.content ≡ old.content
  pub images : KeepsImages old new
  pub time : Passes old new

-- each image of before, with any bytes in n offsets from an offset on, is an image now
pub record MayTear (old new : DiskView) (at n : ℕ) : Type 0 where
  pub each : (d c : Image) → Images old d → Outside at n d c → HoldsBytes c → Images new c

-- a write tears only its range, and where it succeeded a crash may leave any bytes there
pub record TearsRange {T E : Type 0} (old new : DiskView) (at n : ℕ)
    (result : Result T E) : Type 0 where
  pub only : TearsOnly old new at n
  pub may : OnOk result (MayTear old new at n)

-- a crash leaves what a read gives
abbrev pub IsDurable : DiskView → Type 0
IsDurable v = IfSome v.content (λ f. (c : Image) → Images v c → c ≡ f)

-- after a write and a sync: until then the range may be torn, from then on a crash leaves the bytes as written
pub record WritesThrough {T E : Type 0} (old new : DiskView) (at : ℕ) (bytes : List ℕ)
    (result : Result T E) : Type 0 where
  pub images : TearsOnly old new at (length bytes)
  pub time : Passes old new
  pub content : OnOk result (Writes old new at bytes)
  pub settled : OnOk result (IsDurable new)
