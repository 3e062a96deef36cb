use Rattle.std.proofs.Common.{inl, inr, refl}
use Rattle.def_recovery.specs.Disks.{formatted}
use Rattle.def_publish.specs.Worked.{prepared_disk}
use Rattle.def_publish.proofs.WorkedLemmas.{no_table}
use Rattle.strat_store_pins.proofs.OpeningLemmas.{full_shows, new_shows, other}
use Rattle.strat_store_pins.proofs.opening.an_image_shows_the_table_of_one_before.Goals as goal

pub returns : goal.returns
returns c = record {
  ok = (
    record { table = _; shows = full_shows; image = prepared_disk; left = inr refl; same = full_shows },
    record { table = _; shows = new_shows; image = formatted; left = inl refl; same = new_shows },
  );
  other = other;
  none = λ one. no_table one.table one.shows;
}
