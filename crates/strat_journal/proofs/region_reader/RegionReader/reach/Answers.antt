use Rattle.std.proofs.Common.{◌∙◌, arith}
use Rattle.def_crash.specs.Image.{Image}
use Rattle.def_crash.specs.Moments.{Images}
use Rattle.def_crash.proofs.MomentLemmas.{at_told}
use Rattle.strat_journal.proofs.RegionReaderLemmas.{reads_on_trans, reads_on_err, clear_uncut, clear_long}
use Rattle.strat_journal.proofs.region_reader.RegionReader.reach.Goals as goal

pub returns-then-not-needs_more-clause-found : goal.returns-then-not-needs_more-clause-found
returns-then-not-needs_more-clause-found g c = λ f exposed shown.
    let there = at_told _ (λ (f : Image). Images (g.D.Disk.view c.args.disk.now) f) f exposed (g.met.D.Disk.leaves_content c.args.disk.now) in
    let touched = c.in_ok-touch.ensures in
    clear_uncut f (g.met.D.Disk.leaves_bytes c.args.disk.now _ f there) c.touch.new.self c.args.at touched.ok.within touched.len (touched.ok.shows f exposed shown) c.if-not-needs_more.ensures.ok.1

pub returns-in_err-more-clause-ok : goal.returns-in_err-more-clause-ok
returns-in_err-more-clause-ok g c =
    reads_on_err c.more.result _ (reads_on_trans _ _ _ _ _ _ _ _ _ _ _ c.in_ok-touch.ensures.ok c.more.ensures.ok) c.from_residual-in_err-more.ensures.0

pub returns-clause-found : goal.returns-clause-found
returns-clause-found g c = λ f exposed shown.
    let there = at_told _ (λ (f : Image). Images (g.D.Disk.view c.args.disk.now) f) f exposed (g.met.D.Disk.leaves_content c.args.disk.now) in
    let touched = c.in_ok-touch.ensures in
    let more = c.in_ok-more.ensures in
    clear_long f (g.met.D.Disk.leaves_bytes c.args.disk.now _ f there) c.more.new.self c.args.at more.ok.within (omega (arith, touched.len, more.len))
    (more.ok.shows f (touched.ok.looks.same ∙ exposed) (touched.ok.shows f exposed shown)) (omega (arith, touched.len, more.len))

pub returns-clause-ok : goal.returns-clause-ok
returns-clause-ok g c = reads_on_trans _ _ _ _ _ _ _ _ _ _ _ c.in_ok-touch.ensures.ok c.in_ok-more.ensures.ok
