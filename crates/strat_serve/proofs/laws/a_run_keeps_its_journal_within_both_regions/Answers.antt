use Rattle.std.proofs.Common.{◌*◌, ◌-◌}
use Rattle.strat_model.specs.Run.{positions_of}
use Rattle.strat_serve.proofs.TableLemmas.{few_at, fill_full, fill_short}
use Rattle.strat_serve.proofs.laws.a_run_keeps_its_journal_within_both_regions.Goals as goal

pub returns : goal.returns
returns c = record {
  most = λ budget mem status i start p x y a there. few_at (2 * mem - 2) (positions_of a.run) i p a.region there;
  full = λ mem at after request some few is done. fill_full mem at.fill after.fill some few (is.fill done);
  room = λ mem at after request low is done. fill_short mem at.fill after.fill low (is.fill done);
}
