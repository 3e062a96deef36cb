use Rattle.std.proofs.Common.{arith}
use Rattle.strat_base.proofs.ResultFacts.{err_of}
use Rattle.strat_manifest.specs.ManifestView.{manifest_of}
use Rattle.def_crash.proofs.MomentLemmas.{reads_refl}
use Rattle.strat_publish.proofs.LaidLemmas.{written_at}
use Rattle.strat_publish.proofs.ComputedLemmas.{computed_by, made_blocks, may_be_written}
use Rattle.strat_publish.proofs.next_manifest.compute_next.Goals as goal

pub returns-clause-ok : goal.returns-clause-ok
returns-clause-ok g c x log others may old_is =
    computed_by (g.D.Disk.view c.args.disk.now) c.args.space.now c.args.memory.now log x c.args.made.target c.args.made.level c.args.made.filters others may
    (manifest_of c.args.old.now) old_is (g.D.Disk.view c.write_next_manifest.new.disk) c.write_next_manifest.new.space c.in_ok-manifest.first c.in_ok-manifest.length c.in_ok-manifest.chain
    c.write_next_manifest.ensures.images c.in_ok-manifest.ensures.room (g.met.D.Disk.leaves_content c.write_next_manifest.new.disk)
    (manifest_of c.in_ok-manifest.manifest) c.in_ok-manifest.ensures.found c.in_ok-manifest.ensures.ok c.requires.fits.1

pub returns-clause-disk : goal.returns-clause-disk
returns-clause-disk g c =
    written_at (g.D.Disk.view c.args.disk.now) (g.D.Disk.view c.args.disk.now) (g.D.Disk.view c.write_next_manifest.new.disk) c.in_ok-manifest.first c.in_ok-manifest.length c.in_ok-manifest.chain
    (manifest_of c.in_ok-manifest.manifest) (reads_refl (g.D.Disk.view c.args.disk.now)).time c.in_ok-manifest.ensures.fits.3 c.in_ok-manifest.ensures.ok

pub returns-in_err-manifest-clause-err : goal.returns-in_err-manifest-clause-err
returns-in_err-manifest-clause-err g c = λ unfit room x log others may old_is.
    let none =
    c.in_err-manifest.ensures.none (err_of c.from_residual.result _ _ c.from_residual.ensures.1 unfit)
    (may_be_written (g.D.Disk.view c.args.disk.now) c.args.space.now c.args.memory.now log x c.args.made.target c.args.made.level c.args.made.filters others may (manifest_of c.args.old.now) old_is) in
    let small = made_blocks (g.D.Disk.view c.args.disk.now) c.args.space.now c.args.memory.now log x c.args.made.target c.args.made.level c.args.made.filters others may (manifest_of c.args.old.now) old_is in
    omega (arith, none, small, room)
