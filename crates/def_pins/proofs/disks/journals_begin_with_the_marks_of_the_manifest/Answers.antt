use Rattle.std.proofs.Common.{refl}
use Rattle.strat_base.specs.Numbers.{number, be}
use Rattle.def_crash.specs.Image.{window, over}
use Rattle.strat_base.specs.Change.{change_in}
use Rattle.def_bytes.specs.Records.{records}
use Rattle.def_pins.proofs.disks.journals_begin_with_the_marks_of_the_manifest.Goals as goal

pub returns : goal.returns
unfolding number be window over change_in records
returns c = record { dropped = refl; living = refl }
