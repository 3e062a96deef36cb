-- Arrays that are begun.
use Rattle.std.specs.Prelude.{◌≡◌, ℕ, ◌+◌, List, [], Some}
use Rattle.std.specs.List.{slice_get}
use Rattle.strat_array.specs.Progress.{ArrayProgress}
use Rattle.strat_array.specs.Pushed.{IsPushed}
use Rattle.def_crash.specs.Image.{Image}

-- nothing was pushed into an array of this number, which may keep a filter
pub record IsNew (id : ℕ) (w : ArrayProgress) : Type 0 where
  pub same : w
      ≡ record { id = id; count = 0; pending = []; extents = []; filter = w.filter }
  pub pushed : (f : Image) → IsPushed f w []

-- nothing was pushed into these arrays, whose numbers count from the first
pub record AreNew (first : ℕ) (writers : List ArrayProgress) : Type 0 where
  pub each : (q : ℕ) (w : ArrayProgress) → slice_get writers q ≡ Some w
      → IsNew (first + q) w
