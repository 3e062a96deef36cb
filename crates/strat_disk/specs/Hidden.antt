-- A disk that exposes nothing.
use Rattle.std.specs.Prelude.{None}
use Rattle.def_crash.specs.Image.{HoldsBytes}
use Rattle.def_crash.specs.Moments.{DiskView}

-- it exposes no content, and a crash may leave any bytes
abbrev pub hidden : DiskView
hidden = record { content = None; moment = 0; images_at = λ t c. HoldsBytes c }
