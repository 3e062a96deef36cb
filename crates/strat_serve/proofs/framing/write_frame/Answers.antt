use Rattle.std.proofs.Common.{ap, ◌∙◌, sym}
use Rattle.strat_model.specs.Spelling.{command_body}
use Rattle.strat_model.specs.Stream.{frame}
use Rattle.def_meaning.specs.StateTable.{request_for}
use Rattle.strat_serve.specs.declared.drawing.Pick.{Pick}
use Rattle.strat_serve.specs.Generated.{picked_change}
use Rattle.strat_serve.proofs.FramingLemmas.{framed_short}
use Rattle.strat_serve.proofs.framing.write_frame.Goals as goal

pub returns-in-Clone-clause-ok : goal.returns-in-Clone-clause-ok
returns-in-Clone-clause-ok c =
    c.begin.ensures.ok ∙ framed_short c.args.i 4 c.in-Clone.version
    ∙ ap (λ (p : Pick). frame (command_body c.args.i (request_for (picked_change c.args.i p)))) (sym c.in-Clone.is)
