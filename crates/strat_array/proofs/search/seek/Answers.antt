use Rattle.std.proofs.Common.{List, None, length, refl, ap, sym, subst, ◌∙◌}
use Rattle.std.specs.Prelude.{Option}
use Rattle.strat_base.specs.declared.descriptors.Extent.{Extent}
use Rattle.def_bytes.specs.Arrays.{blocks_of}
use Rattle.strat_array.specs.Kept.{Kept}
use Rattle.strat_array.proofs.KeptLemmas.{looks_trans}
use Rattle.strat_array.proofs.LyingLemmas.{Searching, searching_begins, searching_goes_on, sought_between, settled_between, sought_here, settled_here}
use Rattle.strat_base.proofs.ResultFacts.{err_of}
use Rattle.strat_array.proofs.SearchLemmas.{no_block_same}
use Rattle.strat_array.proofs.search.seek.Goals as goal

pub loop-low-init : goal.loop-low-init
loop-low-init g c = (
  subst (λ (s : Option Kept). Searching (g.D.Disk.view c.args.disk.now) (g.D.Disk.view c.args.disk.now) c.args.desc.now.id (blocks_of c.args.desc.now.extents) c.args.cache.now c.args.cache.now None s c.args.key.now (g.D.Disk.reads c.args.disk.now) (g.D.Disk.reads c.args.disk.now) 0 c.count_blocks-high.result 4)
      (sym c.forget.ensures.ok)
      (searching_begins _ _ _ _ None _ _ c.count_blocks-high.result (c.count_blocks-high.ensures.ok ∙ ap (λ (x : List Extent). length (blocks_of x)) c.as_slice.ensures.ok)),
  refl,
)

pub returns-in_err-lies-clause-same : goal.returns-in_err-lies-clause-same
returns-in_err-lies-clause-same g c = looks_trans _ _ _ _ _ _ _ _ _ _ _ c.loop-low.invariant.0.looks c.look_in.ensures.same

pub returns-in_err-lies-clause-damaged : goal.returns-in_err-lies-clause-damaged
returns-in_err-lies-clause-damaged g c = λ b torn.
    no_block_same (g.D.Disk.view c.args.disk.now).content (g.D.Disk.view c.loop-low.disk).content (blocks_of c.args.desc.now.extents) b c.loop-low.invariant.0.looks.disk.same
    (c.in_err-lies.ensures.damaged b (err_of c.from_residual.result _ _ c.from_residual.ensures.1 torn))

pub returns-in-Some-clause-ok : goal.returns-in-Some-clause-ok
returns-in-Some-clause-ok g c = λ lists stands up.
    sought_here _ _ _ _ _ _ _ _ _ _ _ c.loop-low.low c.loop-low.high c.loop-low.tries c.probe-mid.result c.in-Some.index c.loop-low.invariant.0 c.probe-mid.ensures.ok.1 c.in_ok-lies.lies c.in-Some.ensures.found c.in_ok-lies.ensures.ok lists stands _ refl refl up

pub returns-in-Some-clause-end : goal.returns-in-Some-clause-end
returns-in-Some-clause-end g c = λ lists stands.
    settled_here _ _ _ _ _ _ _ _ _ _ _ c.loop-low.low c.loop-low.high c.loop-low.tries c.probe-mid.result c.in-Some.index c.loop-low.invariant.0 c.probe-mid.ensures.ok.1 c.in_ok-lies.lies c.in-Some.ensures.found c.in_ok-lies.ensures.ok lists stands _ refl refl

pub returns-in-Some-clause-same : goal.returns-in-Some-clause-same
returns-in-Some-clause-same g c = looks_trans _ _ _ _ _ _ _ _ _ _ _ c.loop-low.invariant.0.looks c.look_in.ensures.same

pub loop-low-preserved : goal.loop-low-preserved
loop-low-preserved g c =
    let on = c.in_ok-lies.ensures in (
      subst (λ (k : _). Searching (g.D.Disk.view c.args.disk.now) (g.D.Disk.view c.look_in.new.disk) c.args.desc.now.id (blocks_of c.args.desc.now.extents) c.args.cache.now c.look_in.new.cache None c.look_in.new.scratch c.args.key.now (g.D.Disk.reads c.args.disk.now) (g.D.Disk.reads c.look_in.new.disk) c.narrowed-first.result.0 c.narrowed-first.result.1 k)
          (sym c.saturating_sub-tries.ensures)
          (searching_goes_on _ _ _ _ _ _ _ _ _ _ _ _ _ _ _ c.loop-low.low c.loop-low.high c.probe-mid.result c.loop-low.tries c.loop-low.invariant.0 c.probe-mid.ensures.ok.0 c.probe-mid.ensures.ok.1 c.probe-mid.ensures.none on.same on.reads.later on.reads.bound
          c.in_ok-lies.lies c.in_default.ensures.none on.ok c.narrowed-first.result.0 c.narrowed-first.result.1 c.narrowed-first.ensures.ok),
      on.cause.ok ∙ c.loop-low.invariant.1,
    )

pub returns-clause-ok : goal.returns-clause-ok
returns-clause-ok g c = λ lists stands up.
    sought_between _ _ _ _ _ _ _ _ _ _ _ c.loop-low.low c.loop-low.high c.loop-low.tries c.loop-low.invariant.0 c.loop-low-test.false lists stands _ refl refl up

pub returns-clause-end : goal.returns-clause-end
returns-clause-end g c = λ lists stands.
    settled_between _ _ _ _ _ _ _ _ _ _ _ c.loop-low.low c.loop-low.high c.loop-low.tries c.loop-low.invariant.0 c.loop-low-test.false lists stands _ refl refl
