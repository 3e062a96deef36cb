use Rattle.std.proofs.Common.{◌≡◌, Bool, List, ℕ, sym, subst, ◌∙◌, arith}
use Rattle.std.specs.Prelude.{Some}
use Rattle.def_crash.proofs.MomentLemmas.{reads_trans}
use Rattle.def_crash.specs.Image.{Image}
use Rattle.strat_cursor.specs.Walking.{GivesPage, HasPairsLeft}
use Rattle.strat_io.specs.Streams.{Appends}
use Rattle.strat_model.specs.Pairs.{Pairs}
use Rattle.strat_model.specs.declared.ended.Ended.{Ended}
use Rattle.strat_bulk.specs.Ending.{AreTold, WritesPairs}
use Rattle.strat_bulk.specs.Runs.{AreLawful}
use Rattle.strat_bulk.proofs.PageLemmas.{all_written, cut, page_written, stopped}
use Rattle.strat_bulk.proofs.pages.write_pages.Goals as goal

pub returns-in-Err-clause-ok : goal.returns-in-Err-clause-ok
returns-in-Err-clause-ok g c =
    let v = g.D.Disk.view c.args.disk.now in
    let before = g.K.Sink.held c.args.sink.now in
    let now = g.K.Sink.held c.loop-more.sink in
    subst (λ (how : Ended). (told : Pairs) × WritesPairs how before now told × AreLawful told × ((f : Image) (m : Pairs) → v.content ≡ Some f → HasPairsLeft f c.args.cache.now c.args.walk.now m → AreTold how told m)) (sym c.from.ensures)
    (stopped v.content before now c.args.walk.now c.loop-more.walk c.args.cache.now c.loop-more.cache c.loop-more.frames.tag c.loop-more.invariant.so_far c.in-Err.fault)

pub returns-in-Err-clause-same : goal.returns-in-Err-clause-same
returns-in-Err-clause-same g c = reads_trans c.loop-more.invariant.reads_only c.next_page.ensures.same.0.disk

pub returns-in_default-clause-ok : goal.returns-in_default-clause-ok
returns-in_default-clause-ok g c =
    let inv = c.loop-more.invariant in
    let framed = c.frame_page.ensures.ok _ inv.so_far.next in
    let bytes = c.bytes.ensures.ok ∙ framed.0 in
    let short = c.in_default.ensures.err in
    cut (g.D.Disk.view c.args.disk.now).content (g.K.Sink.held c.args.sink.now) (g.K.Sink.held c.loop-more.sink) c.args.walk.now c.loop-more.walk c.args.cache.now c.loop-more.cache c.loop-more.frames.tag inv.so_far
    c.next_page.new.out c.frame_page.ensures.fits (g.K.Sink.held c.put_all.new.sink) c.next_page.new.self c.next_page.new.cache c.in-Ok.more short.0 (rw (← bytes) short.1) (rw (← bytes) short.2)
    (λ f m exposed has. c.in-Ok.ensures.ok f m (inv.reads_only.same ∙ exposed) has)

pub returns-in_default-clause-same : goal.returns-in_default-clause-same
returns-in_default-clause-same g c = reads_trans c.loop-more.invariant.reads_only c.next_page.ensures.same.0.disk

pub returns-then-not-more-clause-ok : goal.returns-then-not-more-clause-ok
returns-then-not-more-clause-ok g c =
    let inv = c.loop-more.invariant in
    let framed = c.frame_page.ensures.ok _ inv.so_far.next in
    let bytes = c.bytes.ensures.ok ∙ framed.0 in
    all_written (g.D.Disk.view c.args.disk.now).content (g.K.Sink.held c.args.sink.now) (g.K.Sink.held c.loop-more.sink) c.args.walk.now c.loop-more.walk c.args.cache.now c.loop-more.cache c.loop-more.frames.tag inv.so_far
    c.next_page.new.out c.frame_page.ensures.fits (g.K.Sink.held c.put_all.new.sink) c.next_page.new.self c.next_page.new.cache (subst (λ (l : List ℕ). Appends (g.K.Sink.held c.loop-more.sink) (g.K.Sink.held c.put_all.new.sink) l) bytes c.in-Ok-put_all.ensures.ok)
    (λ f m exposed has. subst (λ (b : Bool). GivesPage f c.next_page.new.cache c.next_page.new.self m c.next_page.new.out b) c.if-not-more.true (c.in-Ok.ensures.ok f m (inv.reads_only.same ∙ exposed) has))

pub returns-then-not-more-clause-same : goal.returns-then-not-more-clause-same
returns-then-not-more-clause-same g c = reads_trans c.loop-more.invariant.reads_only c.next_page.ensures.same.0.disk

pub loop-more-preserved : goal.loop-more-preserved
loop-more-preserved g c =
    let inv = c.loop-more.invariant in
    let framed = c.frame_page.ensures.ok _ inv.so_far.next in
    let bytes = c.bytes.ensures.ok ∙ framed.0 in
    record {
      so_far = page_written (g.D.Disk.view c.args.disk.now).content (g.K.Sink.held c.args.sink.now) (g.K.Sink.held c.loop-more.sink) c.args.walk.now c.loop-more.walk c.args.cache.now c.loop-more.cache c.loop-more.frames.tag inv.so_far
          c.next_page.new.out c.frame_page.ensures.fits (g.K.Sink.held c.put_all.new.sink) c.next_page.new.self c.next_page.new.cache c.frame_page.new.self.tag (subst (λ (l : List ℕ). Appends (g.K.Sink.held c.loop-more.sink) (g.K.Sink.held c.put_all.new.sink) l) bytes c.in-Ok-put_all.ensures.ok) framed.1
          (λ f m exposed has. subst (λ (b : Bool). GivesPage f c.next_page.new.cache c.next_page.new.self m c.next_page.new.out b) c.if-not-more.false (c.in-Ok.ensures.ok f m (inv.reads_only.same ∙ exposed) has));
      walk = c.in-Ok.ensures.kept c.if-not-more.false;
      arrays = c.next_page.ensures.same.1 ∙ inv.arrays;
      reads_only = reads_trans inv.reads_only c.next_page.ensures.same.0.disk;
      disk_faults = c.in-Ok.ensures.cause.ok ∙ inv.disk_faults;
      sink_faults = c.in-Ok-put_all.ensures.cause.ok ∙ inv.sink_faults;
      later = omega (arith, inv.later, c.next_page.ensures.reads.later);
      reads = omega (arith, inv.reads, c.in-Ok.ensures.room);
    }
