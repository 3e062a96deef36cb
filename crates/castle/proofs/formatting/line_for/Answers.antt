use Rattle.std.proofs.Common.{◌∙◌}
use Rattle.std.proofs.lemmas.Result.{IfOk-weaker}
use Rattle.castle.proofs.TextLemmas.{format_pieces}
use Rattle.castle.proofs.formatting.line_for.Goals as goal

pub returns : goal.returns
returns c = IfOk-weaker c.format.result _ _ (λ s e. e ∙ format_pieces c.args.mem c.args.changes_max c.args.versions_max) c.format.ensures.ok
