-- The fields of a writer of arrays.
use Rattle.std.specs.Prelude.{◌≤◌}
use Rattle.strat_array.specs.Progress.{ArrayProgress}
use Rattle.strat_array.specs.Pushed.{AreMaximal, blocks_needed}
use Rattle.strat_array.specs.Within.{EndWithin}
use Rattle.strat_array.specs.declared.writer.ArrayWriter.TheInside.{Inside}

-- the array of these fields as far as it is written
abbrev pub progress_of : Inside → ArrayProgress
progress_of w =
    record {
      id = w.id;
      count = w.count;
      pending = w.pending.value;
      extents = w.extents;
      filter = w.filter;
    }

-- the extents are maximal and within the file, and there are no more blocks than entries, nor too many of these
pub record IsWriter (w : Inside) : Type 0 where
  pub maximal : AreMaximal w.extents
  pub within : EndWithin w.extents
  pub few : blocks_needed w.extents w.pending.value ≤ w.count
  pub most : w.count ≤ 33554432
