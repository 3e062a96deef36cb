use Rattle.std.proofs.Common.{true≢false, sym, ap, ◌∙◌}
use Rattle.strat_frame.proofs.CommandLemmas.{one_form}
use Rattle.strat_model.specs.Run.{is_change}
use Rattle.strat_store_pins.proofs.serving.a_body_that_asks_for_no_change_writes_nothing.Goals as goal

pub returns : goal.returns
returns c = record {
  ok = λ body response request spells calm other spelled changes.
      absurd (true≢false (sym changes ∙ ap is_change (one_form body response.tag response.tag other request spelled.form spells.form).1 ∙ calm));
  none = λ body response calm other spelled changes. calm;
}
