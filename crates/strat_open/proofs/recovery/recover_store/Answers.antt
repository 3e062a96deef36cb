use Rattle.std.proofs.Common.{Err, Ok, ap, ◌∙◌}
use Rattle.std.proofs.lemmas.Result.{err_from_is_err_and}
use Rattle.def_crash.proofs.MomentLemmas.{reads_trans}
use Rattle.strat_gate.specs.SuperView.{super_of, seen}
use Rattle.strat_open.proofs.RecoverLemmas.{store_damaged, trouble_is}
use Rattle.strat_open.proofs.recovery.recover_store.Goals as goal

pub returns-in_err-recovered-clause-damaged : goal.returns-in_err-recovered-clause-damaged
returns-in_err-recovered-clause-damaged g c = λ block damaged f exposed.
    let p = err_from_is_err_and c.from_residual-in_err-recovered.result c.from_residual-in_err-recovered.ensures.1 in
    store_damaged f (super_of c.in-Some.sb) c.in-Some.slot block
    (c.in_ok-slot.ensures.found f exposed ∙ ap (λ (o : _). Ok (seen o)) c.in-Some.is)
    (c.in_err-recovered.ensures.damaged block (ap (λ (t : _). Err t) (trouble_is c.from_residual-in_err-recovered.result p.0 _ block p.1 p.2 damaged)) f (c.newest.ensures.same.same ∙ exposed))

pub returns-in_err-recovered-clause-same : goal.returns-in_err-recovered-clause-same
returns-in_err-recovered-clause-same g c = reads_trans c.newest.ensures.same c.recover_at.ensures.same

pub returns-clause-found : goal.returns-clause-found
returns-clause-found g c = λ f exposed.
    c.in_ok-recovered.ensures.found f (c.newest.ensures.same.same ∙ exposed) (c.in_ok-slot.ensures.found f exposed ∙ ap (λ (o : _). Ok (seen o)) c.in-Some.is)

pub returns-clause-same : goal.returns-clause-same
returns-clause-same g c = reads_trans c.newest.ensures.same c.recover_at.ensures.same
