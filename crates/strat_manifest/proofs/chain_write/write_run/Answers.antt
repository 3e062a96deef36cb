use Rattle.std.proofs.Common.{◌+◌, ◌-◌, ◌*◌, ℕ, List, take, arith, refl, subst, ◌∙◌}
use Rattle.def_crash.specs.Moments.{Writes}
use Rattle.def_bytes.specs.Chain.{link_bytes}
use Rattle.strat_manifest.proofs.ChainWriteLemmas.{run_more, run_tears, run_all}
use Rattle.strat_manifest.proofs.chain_write.write_run.Goals as goal

pub returns-in_err-write_link-clause-images : goal.returns-in_err-write_link-clause-images
returns-in_err-write_link-clause-images g c =
    run_tears (g.D.Disk.view c.args.disk.now) (g.D.Disk.view c.loop-left.disk) (g.D.Disk.view c.write_link.new.disk) c.args.run.start c.args.run.len c.args.next c.loop-left.left c.loop-left.head
    (c.args.run.start + (c.loop-left.left - 1)) c.args.bytes.now c.loop-left.invariant.so_far c.loop-left-test.true refl c.write_link.ensures.images

pub loop-left-preserved : goal.loop-left-preserved
loop-left-preserved g c =
    let wrote = subst (λ (l : List ℕ). Writes (g.D.Disk.view c.loop-left.disk) (g.D.Disk.view c.write_link.new.disk) (4096 * (c.args.run.start + (c.loop-left.left - 1))) (link_bytes c.loop-left.head (take 4092 l)))
    c.behind.ensures.ok c.in_ok-write_link.ensures.ok in record {
      so_far = run_more (g.D.Disk.view c.args.disk.now) (g.D.Disk.view c.loop-left.disk) (g.D.Disk.view c.write_link.new.disk) c.args.run.start c.args.run.len c.args.next c.loop-left.left (c.loop-left.left - 1) c.loop-left.head
          (c.args.run.start + (c.loop-left.left - 1)) c.args.bytes.now c.loop-left.invariant.so_far (omega (arith, c.loop-left-test.true)) refl wrote c.write_link.ensures.images;
      within = omega (arith, c.loop-left.invariant.within);
      len = c.write_link.ensures.len;
      faults = c.in_ok-write_link.ensures.cause.ok ∙ c.loop-left.invariant.faults;
      reads = c.write_link.ensures.reads ∙ c.loop-left.invariant.reads;
    }

pub returns-clause-ok : goal.returns-clause-ok
returns-clause-ok g c =
    run_all (g.D.Disk.view c.args.disk.now) (g.D.Disk.view c.loop-left.disk) c.args.run.start c.args.run.len c.args.next c.loop-left.left c.loop-left.head c.args.bytes.now c.loop-left.invariant.so_far (omega (arith, c.loop-left-test.false))
