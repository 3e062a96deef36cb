-- Which tables the images of a disk show while time goes on.
use Rattle.std.specs.Prelude.{◌≡◌, ◌≤◌, ◌<◌, ℕ, zero, suc, ◌+◌, List, [], ◌∷◌, length}
use Rattle.def_crash.specs.Image.{Image}
use Rattle.def_crash.specs.Moments.{DiskView}

-- the element at an index of a list has P
abbrev pub At : {T : Type 0} → List T → ℕ → (T → Type 0) → Type 0
At [] i P = ⊥
At (x ∷ xs) zero P = P x
At (x ∷ xs) (suc i) P = At xs i P

-- from a moment to now the images show these tables in order: from mark k on each shows one at index k or later
pub record Trail {T : Type 0} (shows : Image → T → Type 0) (v : DiskView) (start : ℕ)
    (tables : List T) (n : ℕ) : Type 0 where
  pub mark : ℕ → ℕ
  pub first : mark 0 ≡ start
  pub rise : (k : ℕ) → k < n → mark k ≤ mark (k + 1)
  pub last : mark n ≤ v.moment
  pub place : n < length tables
  pub each : (k m : ℕ) (c : Image) → k ≤ n → mark k ≤ m → m ≤ v.moment → v.images_at m c
      → (i : ℕ) × (k ≤ i) × At tables i (shows c)
