-- The filters that a promotion keeps of the arrays that it makes.
use Rattle.std.specs.Prelude.{◌≡◌, ℕ, zero, suc, ◌+◌, Bool, List, [], ◌∷◌, Option, None, Some, IfSome}
use Rattle.std.specs.List.{slice_get}
use Rattle.strat_array.specs.Progress.{ArrayProgress}
use Rattle.strat_base.specs.Entries.{Entry}
use Rattle.strat_base.specs.declared.descriptors.ArrayDesc.{ArrayDesc}
use Rattle.strat_base.specs.declared.descriptors.LevelDesc.{LevelDesc}
use Rattle.strat_filter.specs.Keys.{IsFilterOf}
use Rattle.def_crash.specs.Image.{Image}
use Rattle.def_bytes.specs.Arrays.{blocks_of, entries_on}
use Rattle.strat_promote.specs.Opening.{arrays_if_any}

-- the filter that the writer at a place keeps
abbrev pub filter_kept : List ArrayProgress → ℕ → Option (List Bool)
filter_kept [] q = None
filter_kept (w ∷ writers) zero = w.filter
filter_kept (w ∷ writers) (suc q) = filter_kept writers q

-- writers of which the one at a place keeps no filter any more
abbrev pub without_filter : List ArrayProgress → ℕ → List ArrayProgress
without_filter [] q = []
without_filter (w ∷ writers) zero = record w { filter = None } ∷ writers
without_filter (w ∷ writers) (suc q) = w ∷ without_filter writers q

-- the arrays of a level are numbered from the first on, and a filter that is kept of one is of exactly the keys that it has
-- in an image
pub record AreFiltered (g : Image) (first : ℕ) (writers : List ArrayProgress)
    (made : Option LevelDesc) : Type 0 where
  pub numbered : (q : ℕ) (a : ArrayDesc) → slice_get (arrays_if_any made) q ≡ Some a
      → a.id ≡ first + q
  pub each : (q : ℕ) (a : ArrayDesc) → slice_get (arrays_if_any made) q ≡ Some a
      → IfSome (filter_kept writers q) (λ bits. (es : List Entry)
      → entries_on g (blocks_of a.extents) ≡ Some es → IsFilterOf bits es)
