use Rattle.std.proofs.Common.{sym, ◌∙◌, inl}
use Rattle.std.proofs.lemmas.Bool.{eqb-true, eqb-false}
use Rattle.def_crash.proofs.MomentLemmas.{leaves_then_tears}
use Rattle.strat_gate.proofs.gate.gate_ensure_shut.Goals as goal

pub returns-in_err-gate_shut-clause-same : goal.returns-in_err-gate_shut-clause-same
returns-in_err-gate_shut-clause-same g c = λ f exposed shut. absurd (shut (eqb-true (f c.args.at) 167 (sym (c.in_ok-gate_up.ensures.ok f exposed) ∙ c.if-branch.true)))

pub returns-in_err-gate_shut-clause-images : goal.returns-in_err-gate_shut-clause-images
returns-in_err-gate_shut-clause-images g c =
    leaves_then_tears _ _ _ _ _ c.gate_up.ensures.same.time c.gate_shut.ensures.ok.time c.gate_up.ensures.same.images c.gate_shut.ensures.ok.images

pub returns-in_ok-gate_shut-clause-same : goal.returns-in_ok-gate_shut-clause-same
returns-in_ok-gate_shut-clause-same g c = λ f exposed shut. absurd (shut (eqb-true (f c.args.at) 167 (sym (c.in_ok-gate_up.ensures.ok f exposed) ∙ c.if-branch.true)))

pub returns-in_ok-gate_shut-clause-images : goal.returns-in_ok-gate_shut-clause-images
returns-in_ok-gate_shut-clause-images g c =
    leaves_then_tears _ _ _ _ _ c.gate_up.ensures.same.time c.gate_shut.ensures.ok.time c.gate_up.ensures.same.images c.gate_shut.ensures.ok.images

pub returns-else-branch-clause-ok : goal.returns-else-branch-clause-ok
returns-else-branch-clause-ok g c = λ f exposed.
    inl (eqb-false (f c.args.at) 167 (sym (c.in_ok-gate_up.ensures.ok f exposed) ∙ c.if-branch.false), c.gate_up.ensures.same.same ∙ exposed, c.gate_up.ensures.same.images)
