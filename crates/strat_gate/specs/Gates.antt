-- Gates: one byte that says whether what stands after it counts.
use Rattle.std.specs.Prelude.{◌≡◌, ◌≢◌, ◌⊎◌, ℕ, [], ◌∷◌, Some}
use Rattle.def_crash.specs.Image.{Image, patch}
use Rattle.def_crash.specs.Moments.{DiskView, Exposes, KeepsImages, IsDurable}
use Rattle.def_bytes.specs.Layout.{open_flag}

-- after a gate was closed: it read closed and nothing happened, or a zero byte is durable in its place
abbrev pub EndsShut : Image → ℕ → DiskView → DiskView → Type 0
EndsShut f at old new =
    ((f at ≢ open_flag) × (Exposes new f) × KeepsImages old new)
    ⊎ ((new.content ≡ Some (patch f at (0 ∷ []))) × IsDurable new)
