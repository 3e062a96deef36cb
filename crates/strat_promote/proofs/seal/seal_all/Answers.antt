use Rattle.std.proofs.Common.{◌≡◌, ◌∙◌, ℕ, Some, slice_set, refl, subst, arith}
use Rattle.std.specs.Prelude.{MatchResult}
use Rattle.std.specs.List.{slice_get}
use Rattle.std.proofs.lemmas.Option.{slice_get_read}
use Rattle.strat_base.proofs.ResultFacts.{err_of}
use Rattle.strat_promote.specs.Obstacles.{MeetsObstacle}
use Rattle.strat_promote.proofs.ObstacleLemmas.{gives_kept}
use Rattle.strat_promote.proofs.ClosingLemmas.{AreTaking, taking_next, sealing_next, all_sealed}
use Rattle.strat_promote.proofs.seal.seal_all.Given.{Over}
use Rattle.strat_promote.proofs.seal.seal_all.Goals as goal
use Rattle.strat_promote.proofs.seal.seal_all.Goals.{After-seal_one}

-- the writer that is sealed next
next_one : (g : Over) (c : After-seal_one g) → slice_get c.loop-i.writers.items c.loop-i.i ≡ Some c.index_mut.result.now
next_one g c = slice_get_read c.loop-i.writers.items _ c.loop-i.i c.index_mut.result.now refl (omega arith) c.index_mut.ensures.value

-- what was taken up to one more writer
taken : (g : Over) (c : After-seal_one g)
    → AreTaking (g.D.Disk.view c.args.disk.now) (g.D.Disk.view c.seal_one.new.disk) c.args.space.now c.seal_one.new.space c.args.writers.now.items
    (slice_set c.loop-i.writers.items c.loop-i.i c.seal_one.new.writer)
taken g c =
    taking_next (g.D.Disk.view c.args.disk.now) (g.D.Disk.view c.loop-i.disk) (g.D.Disk.view c.seal_one.new.disk) c.args.space.now c.loop-i.space c.seal_one.new.space
    c.args.writers.now.items c.loop-i.writers.items c.loop-i.i c.index_mut.result.now c.seal_one.new.writer c.loop-i.invariant.0.taking (next_one g c)
    c.seal_one.ensures.room c.seal_one.ensures.same.0

pub returns-in_err-seal_one-clause-fits : goal.returns-in_err-seal_one-clause-fits
returns-in_err-seal_one-clause-fits g c = λ unfit.
    let none = c.in_err-seal_one.ensures.fits (err_of c.from_residual.result _ _ c.from_residual.ensures.1 unfit) in
    let most = c.loop-i.invariant.3 in
    let first = c.loop-i.invariant.0.taking.takes.first in
    omega (arith, none, most, first)

pub returns-in_err-seal_one-clause-cause : goal.returns-in_err-seal_one-clause-cause
returns-in_err-seal_one-clause-cause g c =
    subst (λ (n : ℕ). MatchResult c.from_residual.result (λ u. g.D.Disk.faults c.seal_one.new.disk ≡ n) (λ e. MeetsObstacle e n (g.D.Disk.faults c.seal_one.new.disk))) c.loop-i.invariant.1
    (gives_kept c.from_residual.result _ _ _ c.from_residual.ensures.1 c.in_err-seal_one.ensures.cause)

pub returns-in_err-seal_one-clause-found : goal.returns-in_err-seal_one-clause-found
returns-in_err-seal_one-clause-found g c = (taken g (goal.at.returns-in_err-seal_one-clause-found g c).After-seal_one).used

pub returns-in_err-seal_one-clause-room : goal.returns-in_err-seal_one-clause-room
returns-in_err-seal_one-clause-room g c = (taken g (goal.at.returns-in_err-seal_one-clause-room g c).After-seal_one).takes

pub returns-in_err-seal_one-clause-same : goal.returns-in_err-seal_one-clause-same
returns-in_err-seal_one-clause-same g c = (taken g (goal.at.returns-in_err-seal_one-clause-same g c).After-seal_one).torn

pub loop-i-preserved : goal.loop-i-preserved
loop-i-preserved g c = (
  sealing_next (g.D.Disk.view c.args.disk.now) (g.D.Disk.view c.loop-i.disk) (g.D.Disk.view c.seal_one.new.disk) c.args.space.now c.loop-i.space c.seal_one.new.space
      c.args.writers.now.items c.loop-i.writers.items c.loop-i.i c.index_mut.result.now c.seal_one.new.writer c.requires.found c.loop-i.invariant.0
      (next_one g (goal.at.loop-i-preserved g c).After-seal_one) c.seal_one.ensures.room c.seal_one.ensures.same.0 c.seal_one.ensures.same.1 c.seal_one.ensures.same.2 c.seal_one.ensures.filter
      c.in_ok-seal_one.ensures.ok,
  c.in_ok-seal_one.ensures.cause ∙ c.loop-i.invariant.1,
  c.seal_one.ensures.reads ∙ c.loop-i.invariant.2,
  (let one = c.seal_one.ensures.used in let most = c.loop-i.invariant.3 in let len = c.loop-i.invariant.0.taking.len in omega (arith, one, most, len, c.loop-i-test.true, c.len-i-end.ensures)),
)

pub returns-clause-ok : goal.returns-clause-ok
returns-clause-ok g c = all_sealed _ _ _ _ _ _ _ c.loop-i.invariant.0 (omega (arith, c.len-i-end.ensures))
