use Rattle.def_slice.proofs.OpenedLemmas.{begun_over, does_its_job}
use Rattle.def_slice.proofs.opened.an_open_promotion_does_its_job.Goals as goal

pub returns : goal.returns
returns c = record { over = begun_over; job = does_its_job }
