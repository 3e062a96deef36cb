-- A disk that exposes nothing.
use Rattle.std.proofs.Common.{ℕ}
use Rattle.def_crash.specs.Moments.{TearsOnly}
use Rattle.def_crash.proofs.ImageLemmas.{outside_refl}
use Rattle.strat_disk.specs.Hidden.{hidden}

pub tears_hidden : (at n : ℕ) → TearsOnly hidden hidden at n
tears_hidden at n = record { each = λ c since. (c, since.left, outside_refl at n c) }
