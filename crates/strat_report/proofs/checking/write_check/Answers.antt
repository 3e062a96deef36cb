use Rattle.std.proofs.Common.{◌≡◌, [], true, sym, subst, ◌∙◌}
use Rattle.def_check.specs.Checked.{checked}
use Rattle.strat_model.specs.declared.ended.Ended.{Ended}
use Rattle.strat_report.specs.Checking.{WritesCheck, says_nothing}
use Rattle.strat_report.proofs.CheckingLemmas.{appends_nothing, device_end, no_sink_end, quiet_text, says_all, wrote_front, wrote_line}
use Rattle.strat_report.proofs.checking.write_check.Goals as goal

pub returns-then-is_quiet-clause-ok : goal.returns-then-is_quiet-clause-ok
returns-then-is_quiet-clause-ok g c = λ f exposed.
    let held = g.K.Sink.held c.args.sink.now in
    let quiet : says_nothing c.check-verdict.result ≡ true = sym c.is_quiet.ensures.ok ∙ c.if-is_quiet.true in
    subst (λ (h : Ended). WritesCheck (checked f) h held held) (sym c.end_of.ensures.ok)
    (wrote_line (checked f) c.check-verdict.result held held [] (sym (quiet_text c.check-verdict.result quiet)) (c.check-verdict.ensures.ok f exposed) (appends_nothing held))

pub returns-then-is_quiet-clause-found : goal.returns-then-is_quiet-clause-found
returns-then-is_quiet-clause-found g c = λ disk sink f exposed.
    says_all (checked f) c.end_of.result _ _ (returns-then-is_quiet-clause-ok g c f exposed)
    (λ is. disk (c.check-verdict.ensures.cause.device (device_end c.check-verdict.result (sym c.end_of.ensures.ok ∙ is))))
    (λ is. no_sink_end c.check-verdict.result (sym c.end_of.ensures.ok ∙ is))

pub returns-in-Ok-put_all-clause-ok : goal.returns-in-Ok-put_all-clause-ok
returns-in-Ok-put_all-clause-ok g c = λ f exposed.
    subst (λ (h : Ended). WritesCheck (checked f) h (g.K.Sink.held c.args.sink.now) (g.K.Sink.held c.put_all.new.sink)) (sym c.end_of-in-Ok-put_all.ensures.ok)
    (wrote_line (checked f) c.check-verdict.result _ _ c.deref.result.now (c.deref.ensures.value ∙ c.in-Ok.ensures.ok) (c.check-verdict.ensures.ok f exposed) c.in-Ok-put_all.ensures.ok)

pub returns-in-Ok-put_all-clause-found : goal.returns-in-Ok-put_all-clause-found
returns-in-Ok-put_all-clause-found g c = λ disk sink f exposed.
    says_all (checked f) c.end_of-in-Ok-put_all.result _ _ (returns-in-Ok-put_all-clause-ok g c f exposed)
    (λ is. disk (c.check-verdict.ensures.cause.device (device_end c.check-verdict.result (sym c.end_of-in-Ok-put_all.ensures.ok ∙ is))))
    (λ is. no_sink_end c.check-verdict.result (sym c.end_of-in-Ok-put_all.ensures.ok ∙ is))

pub returns-clause-ok : goal.returns-clause-ok
returns-clause-ok g c = λ f exposed.
    let front = c.in-Err.ensures.err in
    wrote_front (checked f) c.check-verdict.result _ _ c.deref.result.now front.0 (c.deref.ensures.value ∙ c.in-Ok.ensures.ok) (c.check-verdict.ensures.ok f exposed) front.1 front.2
