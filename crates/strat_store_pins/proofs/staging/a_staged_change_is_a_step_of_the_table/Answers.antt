use Rattle.std.proofs.Common.{length-append}
use Rattle.strat_store_pins.proofs.staging.a_staged_change_is_a_step_of_the_table.Goals as goal

pub returns : goal.returns
returns g c = record {
  ok = λ d old new x rows request is. (is.carried, is.kept, is.answer, is.stands);
  end = λ d old new x rows request is. is.place;
  len = λ s x rows. length-append s.log.list s.log.batch;
}
