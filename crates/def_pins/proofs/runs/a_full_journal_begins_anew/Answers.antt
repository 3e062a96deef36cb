use Rattle.std.proofs.Common.{refl, ap, ◌∙◌}
use Rattle.strat_model.specs.Run.{fill_after}
use Rattle.def_pins.proofs.runs.a_full_journal_begins_anew.Goals as goal

pub returns : goal.returns
returns c = record {
  some = (refl, refl);
  full = refl;
  anew = λ at after request full done empties. empties done ∙ ap (fill_after 4) full;
}
