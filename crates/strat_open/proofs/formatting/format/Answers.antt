use Rattle.std.proofs.Common.{◌≡◌, ◌*◌, length, Some, inl, inr, arith}
use Rattle.def_crash.specs.Image.{Image}
use Rattle.def_crash.specs.Moments.{Since}
use Rattle.def_crash.proofs.MomentLemmas.{passes_trans, each_then, settled_at}
use Rattle.strat_open.specs.Format.{IsBlank, IsShut, IsNoneOrNew, KeepsOthers}
use Rattle.strat_open.specs.Format.{new_block}
use Rattle.strat_open.proofs.OtherLemmas.{tears_keep, keep_trans}
use Rattle.strat_open.proofs.ShutLemmas.{StaysBlank, blank_behind, blank_then}
use Rattle.strat_open.proofs.FormatLemmas.{length-new_block, Prepared, prepared, lays_over, laying, laid, none_yet, new_disk}
use Rattle.strat_open.proofs.formatting.format.Given.{Over}
use Rattle.strat_open.proofs.formatting.format.Goals as goal
use Rattle.strat_open.proofs.formatting.format.Goals.{After-write_manifest, After-lay}
use Rattle.def_bytes.specs.Layout.{first_free}

pub returns-in_err-shut_all-clause-images : goal.returns-in_err-shut_all-clause-images
returns-in_err-shut_all-clause-images g c = λ f exposed blank.
    none_yet c.args.format c.args.mem c.args.changes_max c.args.versions_max (g.D.Disk.view c.args.disk.now) (g.D.Disk.view c.shut_all.new.disk)
    (record { each = c.shut_all.ensures.images f exposed blank })

-- up to the manifest both slots stay shut
manifest_blank : (g : Over) (c : After-write_manifest g) (f : Image) → (g.D.Disk.view c.args.disk.now).content ≡ Some f → IsBlank (g.D.Disk.view c.args.disk.now)
    → StaysBlank (g.D.Disk.view c.args.disk.now) (g.D.Disk.view c.write_manifest.new.disk)
manifest_blank g c f exposed blank =
    blank_then _ _ _ c.shut_all.ensures.time c.write_manifest.ensures.ok.time
    (record { each = c.shut_all.ensures.images f exposed blank })
    (λ mid. blank_behind _ _ (4096 * first_free c.args.mem) _ (omega arith) mid c.write_manifest.ensures.ok.images)

pub returns-in_err-write_manifest-clause-images : goal.returns-in_err-write_manifest-clause-images
returns-in_err-write_manifest-clause-images g c = λ f exposed blank.
    none_yet c.args.format c.args.mem c.args.changes_max c.args.versions_max _ (g.D.Disk.view c.write_manifest.new.disk)
    (manifest_blank g (goal.at.returns-in_err-write_manifest-clause-images g c).After-write_manifest f exposed blank)

-- the disk once the manifest is there
ready : (g : Over) (c : After-lay g) (f : Image) → (g.D.Disk.view c.args.disk.now).content ≡ Some f → Prepared c.args.format c.args.mem (g.D.Disk.view c.write_manifest.new.disk)
ready g c f exposed =
    let v1 = g.D.Disk.view c.shut_all.new.disk in
    let shut : IsShut c.args.mem v1 = c.in_ok-shut_all.ensures.ok f exposed in
    prepared c.args.format c.args.mem (c.requires.fits.0, c.requires.fits.1) v1 _ shut c.in_ok-write_manifest.ensures.ok.content c.in_ok-write_manifest.ensures.ok.settled

-- until the superblock is laid, an image is no store or the new one
until_laid : (g : Over) (c : After-lay g) (f : Image) → (g.D.Disk.view c.args.disk.now).content ≡ Some f → StaysBlank (g.D.Disk.view c.args.disk.now) (g.D.Disk.view c.write_manifest.new.disk)
    → (d : Image) → Since (g.D.Disk.view c.lay.new.disk) (g.D.Disk.view c.args.disk.now).moment d → IsNoneOrNew c.args.format c.args.mem c.args.changes_max c.args.versions_max d
until_laid g c f exposed stays =
    let v2 = g.D.Disk.view c.write_manifest.new.disk in
    let p : Prepared c.args.format c.args.mem v2 = ready g c f exposed in
    each_then v2 _ _ (IsNoneOrNew c.args.format c.args.mem c.args.changes_max c.args.versions_max) c.lay.ensures.time
    (none_yet c.args.format c.args.mem c.args.changes_max c.args.versions_max (g.D.Disk.view c.args.disk.now) v2 stays)
    (laying c.args.format c.args.mem c.args.changes_max c.args.versions_max (omega (arith, c.requires.fits.2.mem_least)) v2 p (g.D.Disk.view c.lay.new.disk) c.first_free.result c.shortest_manifest.result
    c.first_free.ensures.ok c.shortest_manifest.ensures.ok c.lay.ensures.images (c.lay.ensures.trail p.content (lays_over c.args.format c.args.mem v2 p _)))

pub returns-in_err-lay-clause-images : goal.returns-in_err-lay-clause-images
returns-in_err-lay-clause-images g c = λ f exposed blank.
    let at = goal.at.returns-in_err-lay-clause-images g c in
    until_laid g at.After-lay f exposed (manifest_blank g at.After-write_manifest f exposed blank)

pub returns-clause-images : goal.returns-clause-images
returns-clause-images g c = λ f exposed blank.
    let at = goal.at.returns-clause-images g c in
    until_laid g at.After-lay f exposed (manifest_blank g at.After-write_manifest f exposed blank)

pub returns-clause-ok : goal.returns-clause-ok
returns-clause-ok g c = λ f exposed.
    let v2 = g.D.Disk.view c.write_manifest.new.disk in
    let v3 = g.D.Disk.view c.lay.new.disk in
    let p : Prepared c.args.format c.args.mem v2 = ready g (goal.at.returns-clause-ok g c).After-lay f exposed in
    let there = c.in_ok-lay.ensures.ok p.content p.exposed in
    new_disk c.args.format c.args.mem c.args.changes_max c.args.versions_max v3 _ there (settled_at v3 _ there c.in_ok-lay.ensures.durable) (g.met.D.Disk.leaves_content c.lay.new.disk)
    (laid c.args.format c.args.mem c.args.changes_max c.args.versions_max (omega (arith, c.requires.fits.2.mem_least)) v2 p v3 c.first_free.result c.shortest_manifest.result
    c.first_free.ensures.ok c.shortest_manifest.ensures.ok c.lay.ensures.time c.lay.ensures.images (c.in_ok-lay.ensures.found p.content (lays_over c.args.format c.args.mem v2 p _)))

-- what the manifest and the superblock leave alone
kept_manifest : (g : Over) (c : After-write_manifest g) → KeepsOthers c.args.mem (g.D.Disk.view c.args.disk.now) (g.D.Disk.view c.write_manifest.new.disk)
kept_manifest g c =
    keep_trans c.args.mem _ _ _ c.shut_all.ensures.time c.write_manifest.ensures.ok.time c.shut_all.ensures.kept
    (tears_keep c.args.mem (4096 * first_free c.args.mem) (length (new_block c.args.format)) _ _ (λ i from to. inr (inr (inr (from, omega (arith, length-new_block c.args.format (c.requires.fits.0, c.requires.fits.1)))))) c.write_manifest.ensures.ok.images)

kept_laid : (g : Over) (c : After-lay g) → KeepsOthers c.args.mem (g.D.Disk.view c.args.disk.now) (g.D.Disk.view c.lay.new.disk)
kept_laid g c =
    keep_trans c.args.mem _ _ _ (passes_trans c.shut_all.ensures.time c.write_manifest.ensures.ok.time) c.lay.ensures.time
    (kept_manifest g (goal.at.After-lay g c).After-write_manifest)
    (tears_keep c.args.mem (4096 * 0) 4096 _ _ (λ i from to. inl (omega arith)) c.lay.ensures.images)

pub returns-in_err-write_manifest-clause-kept : goal.returns-in_err-write_manifest-clause-kept
returns-in_err-write_manifest-clause-kept g c = kept_manifest g (goal.at.returns-in_err-write_manifest-clause-kept g c).After-write_manifest

pub returns-in_err-lay-clause-kept : goal.returns-in_err-lay-clause-kept
returns-in_err-lay-clause-kept g c = kept_laid g (goal.at.returns-in_err-lay-clause-kept g c).After-lay

pub returns-clause-kept : goal.returns-clause-kept
returns-clause-kept g c = kept_laid g (goal.at.returns-clause-kept g c).After-lay
