use Rattle.std.proofs.Common.{◌∙◌}
use Rattle.strat_manifest.proofs.MarkLemmas.{none_set}
use Rattle.strat_manifest.proofs.lawful.none_is_dropped.Goals as goal

pub returns : goal.returns
returns c = record { ok = c.each_is_unset.ensures.ok ∙ none_set c.args.marks.now }
