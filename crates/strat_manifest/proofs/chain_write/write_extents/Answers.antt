use Rattle.std.proofs.Common.{◌≡◌, ◌<◌, ◌≤◌, ◌+◌, ◌-◌, ◌*◌, ℕ, length, drop, List, arith, sym, ap, ◌∙◌, refl, subst}
use Rattle.strat_extent.specs.Blocks.{total_len}
use Rattle.strat_manifest.specs.Chains.{PutsRun}
use Rattle.strat_manifest.proofs.ChainWriteLemmas.{extents_none, extent_fits, extents_torn, extents_more}
use Rattle.strat_manifest.proofs.chain_write.write_extents.Given.{Over}
use Rattle.strat_manifest.proofs.chain_write.write_extents.Goals as goal
use Rattle.strat_manifest.proofs.chain_write.write_extents.Goals.{After-extent_at-run}

pub loop-i-init : goal.loop-i-init
loop-i-init g c =
    let l = c.requires.len in
    let most : 4092 * total_len c.args.extents.now ≡ 4092 * c.blocks_for.result = ap (λ (n : ℕ). 4092 * n) (l.0 ∙ sym c.blocks_for.ensures) in
    record {
      so_far = extents_none (g.D.Disk.view c.args.disk.now) c.args.extents.now (4092 * c.blocks_for.result) (length c.args.extents.now) c.args.bytes.now refl (sym most) (let n = c.blocks_for.ensures in omega (arith, n));
      len = c.requires.room;
      faults = refl;
      reads = refl;
    }

place : (g : Over) (c : After-extent_at-run g) → c.loop-i.i - 1 < length c.args.extents.now
place g c = let within = c.loop-i.invariant.so_far.within in omega (arith, within, c.loop-i-test.true)

fits : (g : Over) (c : After-extent_at-run g)
    → (0 < c.extent_at-run.result.len) × (c.extent_at-run.result.start + c.extent_at-run.result.len ≤ 4294967295) × (4092 * c.extent_at-run.result.len ≤ c.loop-i.at) × (c.loop-i.at - 4092 * c.extent_at-run.result.len ≤ length c.args.bytes.now)
    × (4092 * c.extent_at-run.result.len ≤ length (drop (c.loop-i.at - 4092 * c.extent_at-run.result.len) c.args.bytes.now) + 4091)
fits g c =
    extent_fits c.args.extents.now c.loop-i.i (c.loop-i.i - 1) c.loop-i.at c.extent_at-run.result c.args.bytes.now c.requires.kept c.requires.len.0 (omega (arith, c.loop-i-test.true)) (place g c) c.extent_at-run.ensures.ok c.loop-i.invariant.so_far.place

pub overflow_sub-at : goal.overflow_sub-at
overflow_sub-at g c = (fits g (goal.at.overflow_sub-at g c).After-extent_at-run).2

pub behind-requires : goal.behind-requires
behind-requires g c = (fits g (goal.at.behind-requires g c).After-extent_at-run).3

pub write_run-requires : goal.write_run-requires
write_run-requires g c =
    let all = fits g (goal.at.write_run-requires g c).After-extent_at-run in
    record { fits = (all.0, all.1, subst (λ (l : List ℕ). 4092 * c.extent_at-run.result.len ≤ length l + 4091) (sym c.behind.ensures.ok) all.4, c.loop-i.invariant.len) }

pub returns-in_err-head-clause-images : goal.returns-in_err-head-clause-images
returns-in_err-head-clause-images g c =
    extents_torn (g.D.Disk.view c.args.disk.now) (g.D.Disk.view c.loop-i.disk) (g.D.Disk.view c.write_run.new.disk) c.args.extents.now c.loop-i.i (c.loop-i.i - 1) c.loop-i.at c.loop-i.head c.extent_at-run.result c.args.bytes.now c.requires.kept
    (omega (arith, c.loop-i-test.true)) (place g (goal.at.returns-in_err-head-clause-images g c).After-extent_at-run) c.extent_at-run.ensures.ok c.loop-i.invariant.so_far c.write_run.ensures.images

pub loop-i-preserved : goal.loop-i-preserved
loop-i-preserved g c =
    let put = subst (λ (l : List ℕ). PutsRun (g.D.Disk.view c.loop-i.disk) (g.D.Disk.view c.write_run.new.disk) c.extent_at-run.result.start c.extent_at-run.result.len c.loop-i.head l) c.behind.ensures.ok c.in_ok-head.ensures.ok in
    record {
      so_far = extents_more (g.D.Disk.view c.args.disk.now) (g.D.Disk.view c.loop-i.disk) (g.D.Disk.view c.write_run.new.disk) c.args.extents.now c.loop-i.i (c.loop-i.i - 1) c.loop-i.at c.loop-i.head c.extent_at-run.result c.args.bytes.now c.requires.kept
          (omega (arith, c.loop-i-test.true)) (place g (goal.at.loop-i-preserved g c).After-extent_at-run) c.extent_at-run.ensures.ok c.loop-i.invariant.so_far c.write_run.ensures.images c.in_ok-head.head c.in_ok-head.ensures.found put;
      len = c.write_run.ensures.len;
      faults = c.in_ok-head.ensures.cause.ok ∙ c.loop-i.invariant.faults;
      reads = c.write_run.ensures.reads ∙ c.loop-i.invariant.reads;
    }
