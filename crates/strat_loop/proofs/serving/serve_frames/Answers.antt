use Rattle.std.proofs.Common.{◌≡◌, ◌≤◌, ◌<◌, ◌+◌, ◌++◌, ℕ, List, [], take, length, refl, sym, ap, subst, ◌∙◌, length-take, arith}
use Rattle.strat_base.specs.Numbers.{AreBytes}
use Rattle.def_crash.specs.Faults.{Rose}
use Rattle.strat_frame.specs.declared.deframer.Next.{Next}
use Rattle.strat_frame.specs.declared.deframer.Next.TheVariants as next
use Rattle.strat_io.specs.Streams.{Appends}
use Rattle.strat_model.specs.declared.ended.Ended.TheVariants as ended
use Rattle.strat_model.specs.Stream.{is_partial}
use Rattle.def_crash.proofs.MomentLemmas.{passes_trans, passes_refl}
use Rattle.strat_loop.specs.Pending.{Pending}
use Rattle.strat_loop.specs.Progress.{Meets, ServesPending, ServesSoFar, waiting}
use Rattle.strat_loop.specs.Session.{HasOpened, Took}
use Rattle.strat_loop.specs.World.{Streams, World, world}
use Rattle.strat_loop.proofs.GiveUpLemmas.{caused_at_long, caused_by_none, caused_by_sink}
use Rattle.strat_loop.proofs.GroupLemmas.{frames_waiting}
use Rattle.strat_loop.proofs.KeptLemmas.{pending_cut, pending_long, pending_none, pending_sent}
use Rattle.strat_loop.proofs.ProgressLemmas.{begins, reads, reads_none}
use Rattle.strat_loop.proofs.SessionLemmas.{ends_at_end, ends_budget, ends_source}
use Rattle.strat_loop.proofs.TurnLemmas.{met_next, not_yet, too_long}
use Rattle.strat_loop.proofs.serving.serve_frames.Given.{Over}
use Rattle.strat_loop.proofs.serving.serve_frames.Goals as goal
use Rattle.strat_loop.proofs.serving.serve_frames.Goals.{After-send_pending}

-- what a source, a sink and a disk show
abbrev shown : (g : Over) → g.row.S.Denot → g.row.K.Denot → g.row.D.Denot → World
shown g source sink disk = world (g.S.Source.left source) (g.S.Source.faults source) (g.K.Sink.held sink) (g.K.Sink.faults sink) (g.D.Disk.view disk) (g.D.Disk.faults disk)

-- the streams of these
abbrev streams : (g : Over) → g.row.S.Denot → g.row.K.Denot → g.row.D.Denot → Streams
streams g source sink disk = record {
  left = g.S.Source.left source;
  source_faults = g.S.Source.faults source;
  held = g.K.Sink.held sink;
  sink_faults = g.K.Sink.faults sink;
  disk_faults = g.D.Disk.faults disk;
}

pub loop-met-init : goal.loop-met-init
loop-met-init g c = record {
  progress = λ d has.
      let before = shown g c.args.source.now c.args.sink.now d in
      let now = shown g c.args.source.now c.args.sink.now c.args.disk.now in
      subst (λ (r : Pending). ServesPending g.P.Protocol.speech c.args.store.now c.args.store.now 0 c.args.buffers.now.frames.held r before now) (sym c.requires.none.1)
      (pending_none g.P.Protocol.speech c.args.store.now c.args.store.now 0 c.args.buffers.now.frames.held before now
      (begins g.P.Protocol.speech c.args.store.now c.args.buffers.now.frames.held before (g.D.Disk.view c.args.disk.now) (g.D.Disk.faults c.args.disk.now)
      c.requires.none.0 has.calm has.opened has.passes c.requires.kept (g.met.D.Disk.leaves_content c.args.disk.now)));
  meets = ap is_partial c.requires.none.0;
  bytes = subst AreBytes (sym c.requires.none.0) (λ i. omega arith);
  going = c.requires.fits;
  lawful = c.requires.kept;
  time = passes_refl (g.D.Disk.view c.args.disk.now);
  within = omega arith;
  source_same = refl;
  sink_same = refl;
  disk_same = refl;
}

-- a frame was met, and served
pub serve_turn-requires-clause-len : goal.serve_turn-requires-clause-len
serve_turn-requires-clause-len g c = subst (λ (m : Next). Meets m c.loop-met.buffers.frames) c.in-Frame.is c.loop-met.invariant.meets

pub loop-met-preserved-in-Ok : goal.loop-met-preserved-in-Ok
loop-met-preserved-in-Ok g c =
    let s = c.loop-met in
    let kept = c.in-Ok.ensures.kept in
    let cause = c.in-Ok.ensures.cause (streams g s.source s.sink s.disk) in
    record {
      progress = λ d has.
          c.in-Ok.ensures.ok c.args.store.now s.taken c.args.budget (streams g c.args.source.now c.args.sink.now d) (streams g s.source s.sink s.disk) d s.invariant.within
          (subst (λ (m : Next). ServesPending g.P.Protocol.speech c.args.store.now s.store s.taken (waiting m s.buffers.frames) s.buffers.pending (shown g c.args.source.now c.args.sink.now d) (shown g s.source s.sink s.disk)) c.in-Frame.is (s.invariant.progress d has));
      meets = kept.2;
      bytes = kept.3;
      going = kept.0;
      lawful = kept.1;
      time = passes_trans s.invariant.time c.serve_turn.ensures.time;
      within = s.invariant.within;
      source_same = s.invariant.source_same;
      sink_same = cause.0 ∙ s.invariant.sink_same;
      disk_same = cause.1 ∙ s.invariant.disk_same;
    }

pub loop-met-smaller-in-Ok : goal.loop-met-smaller-in-Ok
loop-met-smaller-in-Ok g c =
    let s = c.loop-met in
    let same : waiting s.met s.buffers.frames ≡ waiting next.Frame s.buffers.frames = ap (λ (m : Next). waiting m s.buffers.frames) c.in-Frame.is in
    omega (arith, c.in-Ok.ensures.kept.4, ap length same)

pub returns-in-Err-clause-ok : goal.returns-in-Err-clause-ok
returns-in-Err-clause-ok g c = λ d has.
    let s = c.loop-met in
    c.in-Err.ensures.ok c.args.store.now s.taken c.args.budget (streams g c.args.source.now c.args.sink.now d) (streams g s.source s.sink s.disk) d s.invariant.within
    (subst (λ (m : Next). ServesPending g.P.Protocol.speech c.args.store.now s.store s.taken (waiting m s.buffers.frames) s.buffers.pending (shown g c.args.source.now c.args.sink.now d) (shown g s.source s.sink s.disk)) c.in-Frame.is (s.invariant.progress d has))

pub returns-in-Err-clause-cause : goal.returns-in-Err-clause-cause
returns-in-Err-clause-cause g c =
    let s = c.loop-met in
    let cause = c.in-Err.ensures.cause (streams g s.source s.sink s.disk) in
    record {
      source = λ e. subst (λ (n : ℕ). Rose n (g.S.Source.faults s.source)) s.invariant.source_same (cause.source e);
      sink = λ e. subst (λ (n : ℕ). Rose n (g.K.Sink.faults c.serve_turn.new.sink)) s.invariant.sink_same (cause.sink e);
      device = λ e. subst (λ (n : ℕ). Rose n (g.D.Disk.faults c.serve_turn.new.disk)) s.invariant.disk_same (cause.device e);
      source_same = λ e. cause.source_same e ∙ s.invariant.source_same;
      sink_same = λ e. cause.sink_same e ∙ s.invariant.sink_same;
      disk_same = λ e f. cause.disk_same e f ∙ s.invariant.disk_same;
    }

-- less than a frame was met, and the pending replies could not be sent
pub returns-in_default-clause-ok : goal.returns-in_default-clause-ok
returns-in_default-clause-ok g c = λ d has.
    let s = c.loop-met in
    pending_cut g.P.Protocol.speech c.args.store.now s.store s.taken (waiting s.met s.buffers.frames) s.buffers.pending (shown g c.args.source.now c.args.sink.now d) (shown g s.source s.sink s.disk) (s.invariant.progress d has) c.args.budget
    (g.K.Sink.held c.send_pending.new.sink) (g.K.Sink.faults c.send_pending.new.sink) s.invariant.within (frames_waiting s.met s.buffers.frames s.invariant.meets s.invariant.bytes) c.in_default.ensures.err

pub returns-in_default-clause-cause : goal.returns-in_default-clause-cause
returns-in_default-clause-cause g c =
    let s = c.loop-met in
    caused_by_sink ended.Sink (shown g c.args.source.now c.args.sink.now c.args.disk.now) (shown g s.source c.send_pending.new.sink s.disk) refl
    (subst (λ (n : ℕ). Rose n (g.K.Sink.faults c.send_pending.new.sink)) s.invariant.sink_same c.in_default.ensures.cause.err) s.invariant.source_same

-- or they were
sent : (g : Over) (c : After-send_pending g) (d : g.row.D.Denot) → c.loop-met.met ≡ next.NotYet
    → HasOpened (g.D.Disk.view d) (g.D.Disk.faults d) (g.D.Disk.view c.args.disk.now) (g.D.Disk.faults c.args.disk.now) c.args.store.now
    → Appends (g.K.Sink.held c.loop-met.sink) (g.K.Sink.held c.send_pending.new.sink) c.loop-met.buffers.pending.bytes → g.K.Sink.faults c.send_pending.new.sink ≡ g.K.Sink.faults c.loop-met.sink
    → ServesSoFar g.P.Protocol.speech c.args.store.now c.loop-met.store c.loop-met.taken c.loop-met.buffers.frames.held (shown g c.args.source.now c.args.sink.now d) (shown g c.loop-met.source c.send_pending.new.sink c.loop-met.disk)
sent g c d is has all same =
    let s = c.loop-met in
    let before = shown g c.args.source.now c.args.sink.now d in
    subst (λ (h : List ℕ). ServesSoFar g.P.Protocol.speech c.args.store.now s.store s.taken h before (shown g s.source c.send_pending.new.sink s.disk)) (not_yet s.met s.buffers.frames is s.invariant.meets).1
    (pending_sent g.P.Protocol.speech c.args.store.now s.store s.taken (waiting s.met s.buffers.frames) s.buffers.pending before (shown g s.source s.sink s.disk) (s.invariant.progress d has)
    (g.K.Sink.held c.send_pending.new.sink) (g.K.Sink.faults c.send_pending.new.sink) all same)

pub returns-in_default-most_next-clause-ok : goal.returns-in_default-most_next-clause-ok
returns-in_default-most_next-clause-ok g c = λ d has.
    let s = c.loop-met in
    let p = sent g (goal.at.returns-in_default-most_next-clause-ok g c).After-send_pending d c.in-NotYet.is has c.in-Ok-send_pending.ensures.ok c.in-Ok-send_pending.ensures.cause.ok in
    ends_budget g.P.Protocol.speech c.args.store.now s.store s.taken c.args.budget s.buffers.frames.held (shown g c.args.source.now c.args.sink.now d) (shown g s.source c.send_pending.new.sink s.disk)
    p s.invariant.within (not_yet s.met s.buffers.frames c.in-NotYet.is s.invariant.meets).0 c.in_default-most_next.ensures.none

pub returns-in_default-read_piece-clause-ok : goal.returns-in_default-read_piece-clause-ok
returns-in_default-read_piece-clause-ok g c = λ d has.
    let s = c.loop-met in
    let before = shown g c.args.source.now c.args.sink.now d in
    let p = sent g (goal.at.returns-in_default-read_piece-clause-ok g c).After-send_pending d c.in-NotYet.is has c.in-Ok-send_pending.ensures.ok c.in-Ok-send_pending.ensures.cause.ok in
    let q = reads_none g.P.Protocol.speech c.args.store.now s.store s.taken s.buffers.frames.held before (shown g s.source c.send_pending.new.sink s.disk) (g.S.Source.left c.read_piece.new.source) (g.S.Source.faults c.read_piece.new.source)
    p c.in_default-read_piece.ensures.err in
    ends_source g.P.Protocol.speech c.args.store.now s.store s.taken c.args.budget s.buffers.frames.held before (shown g c.read_piece.new.source c.send_pending.new.sink s.disk) q s.invariant.within (not_yet s.met s.buffers.frames c.in-NotYet.is s.invariant.meets).0

pub returns-then-n-eq0-clause-ok : goal.returns-then-n-eq0-clause-ok
returns-then-n-eq0-clause-ok g c = λ d has.
    let s = c.loop-met in
    let before = shown g c.args.source.now c.args.sink.now d in
    let none : c.in-Ok-read_piece.n ≡ 0 = c.if-n-eq0.true in
    let took : Took (g.S.Source.left s.source) (g.S.Source.left c.read_piece.new.source) [] =
    subst (λ (k : ℕ). Took (g.S.Source.left s.source) (g.S.Source.left c.read_piece.new.source) (take k c.read_piece.new.piece)) none c.in-Ok-read_piece.ensures.ok in
    let p = sent g (goal.at.returns-then-n-eq0-clause-ok g c).After-send_pending d c.in-NotYet.is has c.in-Ok-send_pending.ensures.ok c.in-Ok-send_pending.ensures.cause.ok in
    let q = reads_none g.P.Protocol.speech c.args.store.now s.store s.taken s.buffers.frames.held before (shown g s.source c.send_pending.new.sink s.disk) (g.S.Source.left c.read_piece.new.source) (g.S.Source.faults c.read_piece.new.source) p took in
    let within : s.taken ≤ c.args.budget = s.invariant.within in
    let room : 0 < c.in-Some.most = c.in-Some.ensures.fits.0 in
    let less : s.taken < c.args.budget = omega (arith, room, c.in-Some.ensures.fits.2) in
    ends_at_end g.P.Protocol.speech c.args.store.now s.store s.taken c.args.budget s.buffers.frames.held before (shown g c.read_piece.new.source c.send_pending.new.sink s.disk)
    q within (not_yet s.met s.buffers.frames c.in-NotYet.is s.invariant.meets).0 less c.at_end.result (λ e. c.at_end.ensures.none (c.held.ensures.ok ∙ e)) (λ e. c.at_end.ensures.end (λ f. e (sym c.held.ensures.ok ∙ f)))
    (c.in-Ok-read_piece.ensures.end none room)

pub returns-then-n-eq0-clause-cause : goal.returns-then-n-eq0-clause-cause
returns-then-n-eq0-clause-cause g c =
    let s = c.loop-met in
    caused_by_none c.at_end.result c.held.result (shown g c.args.source.now c.args.sink.now c.args.disk.now) (shown g c.read_piece.new.source c.send_pending.new.sink s.disk) c.at_end.ensures.none c.at_end.ensures.end
    (c.in-Ok-read_piece.ensures.cause.ok ∙ s.invariant.source_same) (c.in-Ok-send_pending.ensures.cause.ok ∙ s.invariant.sink_same) s.invariant.disk_same

pub loop-met-preserved : goal.loop-met-preserved
loop-met-preserved g c =
    let s = c.loop-met in
    let n = c.in-Ok-read_piece.n in
    let piece = take n c.read_piece.new.piece in
    let len : length piece ≡ n = omega (arith, length-take n c.read_piece.new.piece, c.read_piece.auto.piece, c.in-Ok-read_piece.ensures.fits, c.in-Some.ensures.fits.1) in
    let found = met_next c.next-met.result c.feed.new.self c.next-met.new.self c.next-met.ensures.ok in
    record {
      progress = λ d has.
          let before = shown g c.args.source.now c.args.sink.now d in
          let now = shown g c.read_piece.new.source c.send_pending.new.sink s.disk in
          let p = sent g (goal.at.loop-met-preserved g c).After-send_pending d c.in-NotYet.is has c.in-Ok-send_pending.ensures.ok c.in-Ok-send_pending.ensures.cause.ok in
          let q = reads g.P.Protocol.speech c.args.store.now s.store s.taken n s.buffers.frames.held piece c.feed.new.self.held before (shown g s.source c.send_pending.new.sink s.disk)
          (g.S.Source.left c.read_piece.new.source) (g.S.Source.faults c.read_piece.new.source) p c.in-Ok-read_piece.ensures.ok len c.feed.ensures (not_yet s.met s.buffers.frames c.in-NotYet.is s.invariant.meets).0
          (omega (arith, c.in-Ok-read_piece.ensures.fits, c.in-Some.ensures.fits.1)) in
          subst (λ (r : Pending). ServesPending g.P.Protocol.speech c.args.store.now s.store (s.taken + n) (waiting c.next-met.result c.next-met.new.self) r before now) (sym c.in-Ok-send_pending.ensures.state)
          (pending_none g.P.Protocol.speech c.args.store.now s.store (s.taken + n) (waiting c.next-met.result c.next-met.new.self) before now
          (subst (λ (h : List ℕ). ServesSoFar g.P.Protocol.speech c.args.store.now s.store (s.taken + n) h before now) found.all q));
      meets = found.meets;
      bytes = c.next-met.ensures.fits;
      going = s.invariant.going;
      lawful = s.invariant.lawful;
      time = s.invariant.time;
      within = omega (arith, c.in-Ok-read_piece.ensures.fits, c.in-Some.ensures.fits.2);
      source_same = c.in-Ok-read_piece.ensures.cause.ok ∙ s.invariant.source_same;
      sink_same = c.in-Ok-send_pending.ensures.cause.ok ∙ s.invariant.sink_same;
      disk_same = s.invariant.disk_same;
    }

-- a frame that is too long was met
pub returns-in-TooLong-clause-ok : goal.returns-in-TooLong-clause-ok
returns-in-TooLong-clause-ok g c = λ d has.
    let s = c.loop-met in
    let before = shown g c.args.source.now c.args.sink.now d in
    let long = too_long s.met s.buffers.frames c.in-TooLong.length c.in-TooLong.is s.invariant.meets in
    pending_long g.P.Protocol.speech c.args.store.now s.store s.taken s.buffers.frames.held s.buffers.pending before (shown g s.source s.sink s.disk)
    (subst (λ (h : List ℕ). ServesPending g.P.Protocol.speech c.args.store.now s.store s.taken h s.buffers.pending before (shown g s.source s.sink s.disk)) long.1 (s.invariant.progress d has))
    c.args.budget c.refuse_long.result (g.K.Sink.held c.refuse_long.new.sink) (g.K.Sink.faults s.sink) (g.K.Sink.faults c.refuse_long.new.sink) s.invariant.within long.0 c.refuse_long.ensures

pub returns-in-TooLong-clause-cause : goal.returns-in-TooLong-clause-cause
returns-in-TooLong-clause-cause g c =
    let s = c.loop-met in
    caused_at_long c.refuse_long.result (shown g c.args.source.now c.args.sink.now c.args.disk.now) (shown g s.source c.refuse_long.new.sink s.disk) (g.K.Sink.held s.sink) (g.K.Sink.faults s.sink)
    (s.buffers.pending.bytes ++ g.P.Protocol.speech.too_long) s.invariant.source_same s.invariant.sink_same s.invariant.disk_same c.refuse_long.ensures
