-- What a disk may hold, and what a write does to it.
use Rattle.std.specs.Prelude.{◌≡◌, ◌≤◌, ◌<◌, ℕ, zero, suc, ◌+◌, ◌-◌, nat_lt, if◌then◌else◌, List, [], ◌∷◌, length, slice_index}

-- a byte at each offset of a disk; the offsets after its end read as 0, so an image has no end
abbrev pub Image : Type 0
Image = ℕ → ℕ

-- each offset holds a byte
abbrev pub HoldsBytes : Image → Type 0
HoldsBytes c = (i : ℕ) → c i < 256

-- the n bytes of an image from an offset on
unfoldable pub window : Image → ℕ → ℕ → List ℕ
window c at zero = []
window c at (suc n) = c at ∷ window c (suc at) n

-- two images have the same n bytes from an offset on
pub record SameIn (at n : ℕ) (old new : Image) : Type 0 where
  pub byte : (i : ℕ) → at ≤ i → i < at + n → new i ≡ old i

-- two images are the same outside n bytes from an offset on
pub record Outside (at n : ℕ) (old new : Image) : Type 0 where
  pub below : (i : ℕ) → i < at → new i ≡ old i
  pub above : (i : ℕ) → at + n ≤ i → new i ≡ old i

-- one function on the n offsets from an offset on, another everywhere else
unfoldable pub over : {A : Type 0} → ℕ → ℕ → (ℕ → A) → (ℕ → A) → ℕ → A
over at n inside outside i =
    if nat_lt i at then outside i else if nat_lt i (at + n) then inside i else outside i

-- an image with these bytes written over it from an offset on
abbrev pub patch : Image → ℕ → List ℕ → Image
patch c at bytes = over at (length bytes) (λ i. slice_index bytes (i - at)) c
