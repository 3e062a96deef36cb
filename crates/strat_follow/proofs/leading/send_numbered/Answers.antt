use Rattle.std.proofs.Common.{◌∙◌, sym, append-nil}
use Rattle.strat_base.specs.ChangeView.{change_of}
use Rattle.def_follow.specs.Numbered.{change_frame}
use Rattle.strat_follow.proofs.FrameLemmas.{cut_short, on_err}
use Rattle.strat_follow.proofs.leading.send_numbered.Goals as goal

pub returns-in_err-put_all-clause-err : goal.returns-in_err-put_all-clause-err
returns-in_err-put_all-clause-err g c =
    let met = (c.in_err-put_all.ensures).err in
    on_err c.from_residual.result
    (cut_short met.0 c.bytes.result.now _ _ _ (c.bytes.ensures ∙ c.write_numbered.ensures.ok ∙ sym (append-nil (change_frame (record { number = c.args.number; change = change_of c.args.change.now })))) met.1 met.2)
