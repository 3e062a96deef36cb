use Rattle.std.proofs.Common.{◌≡◌, ◌∙◌, ℕ, None, refl, subst, arith}
use Rattle.strat_follow.proofs.FrameLemmas.{on_err}
use Rattle.strat_follow.proofs.WalkLemmas.{IsWalked, walk_begins, walk_cut, walk_ends, walk_finds, walk_more}
use Rattle.strat_follow.proofs.leading.send_records.Goals as goal

pub loop-i-init : goal.loop-i-init
loop-i-init g c = record {
  within = omega arith;
  walked = λ list are. walk_begins c.args.records.now list c.args.first c.args.count are (g.K.Sink.held c.args.sink.now);
  same = refl;
}

pub loop-i-preserved : goal.loop-i-preserved
loop-i-preserved g c = record {
  within = c.in-Some.ensures.len;
  walked = λ list are.
      walk_more c.args.records.now list c.args.first c.args.count are (g.K.Sink.held c.args.sink.now) c.loop-i.i c.loop-i.at (g.K.Sink.held c.loop-i.sink) (g.K.Sink.held c.send_numbered.new.sink)
      (c.in-Some.change, c.in-Some.end) (c.loop-i.invariant.walked list are) c.loop-i-test.true c.in-Some.ensures.found c.in_ok-send_numbered.ensures.ok;
  same = c.in_ok-send_numbered.ensures.cause.ok ∙ c.loop-i.invariant.same;
}

pub returns-in_default-clause-ok : goal.returns-in_default-clause-ok
returns-in_default-clause-ok g c = λ list are.
    absurd (walk_finds c.args.records.now list c.args.first c.args.count are (g.K.Sink.held c.args.sink.now) c.loop-i.i c.loop-i.at (g.K.Sink.held c.loop-i.sink) None
    (c.loop-i.invariant.walked list are) c.loop-i-test.true c.in_default.ensures.found).2

pub returns-in_err-send_numbered-clause-err : goal.returns-in_err-send_numbered-clause-err
returns-in_err-send_numbered-clause-err g c =
    on_err c.from_residual.result
    (λ list are. walk_cut c.args.records.now list c.args.first c.args.count are (g.K.Sink.held c.args.sink.now) c.loop-i.i c.loop-i.at (g.K.Sink.held c.loop-i.sink) (g.K.Sink.held c.send_numbered.new.sink)
    (c.in-Some.change, c.in-Some.end) (c.loop-i.invariant.walked list are) c.loop-i-test.true c.in-Some.ensures.found c.in_err-send_numbered.ensures.err)

pub returns-clause-ok : goal.returns-clause-ok
returns-clause-ok g c = λ list are.
    let all : c.loop-i.i ≡ c.args.count = omega (arith, c.loop-i-test.false, c.loop-i.auto.i-end) in
    walk_ends c.args.records.now list c.args.first c.args.count are (g.K.Sink.held c.args.sink.now) c.loop-i.at (g.K.Sink.held c.loop-i.sink)
    (subst (λ (n : ℕ). IsWalked c.args.records.now list c.args.first n c.loop-i.at (g.K.Sink.held c.args.sink.now) (g.K.Sink.held c.loop-i.sink)) all (c.loop-i.invariant.walked list are))
