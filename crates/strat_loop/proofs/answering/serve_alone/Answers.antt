use Rattle.std.proofs.Common.{◌≡◌, ◌<◌, ◌+◌, ℕ, List, ◌++◌, length, Option, Some, None, refl, sym, ap, subst, ◌∙◌, arith}
use Rattle.std.specs.Prelude.{is_some}
use Rattle.strat_base.specs.declared.failures.Fault.{Fault}
use Rattle.strat_base.specs.declared.failures.Fault.TheVariants as fault
use Rattle.strat_model.specs.Stream.{frame}
use Rattle.strat_loop.specs.Pending.{Pending, SendsAtEnd}
use Rattle.strat_loop.specs.Progress.{ServesPending}
use Rattle.strat_loop.specs.World.{Streams, World, beside, world}
use Rattle.strat_loop.proofs.GiveUpLemmas.{caused_at_end}
use Rattle.strat_loop.proofs.GroupLemmas.{frames_waiting}
use Rattle.strat_loop.proofs.KeptLemmas.{ends_at, goes_on, pending_cut, room_made}
use Rattle.strat_loop.proofs.ProgressLemmas.{Answered}
use Rattle.strat_loop.proofs.SendLemmas.{frame_shrinks}
use Rattle.strat_loop.proofs.TurnLemmas.{met_next}
use Rattle.strat_loop.proofs.answering.serve_alone.Given.{Over}
use Rattle.strat_loop.proofs.answering.serve_alone.Goals as goal
use Rattle.strat_loop.proofs.answering.serve_alone.Goals.{After-keep}
use Rattle.strat_frame.specs.declared.deframer.Next.TheVariants as next
use Rattle.strat_loop.specs.Spoken.{IsAnswered}

-- what a sink and a disk show, beside these streams
abbrev shown : (g : Over) → Streams → g.row.K.Denot → g.row.D.Denot → World
shown g y sink disk = world y.left y.source_faults (g.K.Sink.held sink) (g.K.Sink.faults sink) (g.D.Disk.view disk) (g.D.Disk.faults disk)

-- a body was answered
answered : (g : Over) (c : After-keep g) (y : Streams) (sink : g.row.K.Denot) → Answered g.P.Protocol.speech c.args.store.now c.answer_frame-met.new.store
    (shown g y c.make_way.new.sink c.args.disk.now) (shown g y sink c.answer_frame-met.new.disk) c.args.buffers.now.frames.body c.answer_frame-met.result c.answer_frame-met.new.out
answered g c y sink = record {
  left = refl;
  is = subst (λ (b : List ℕ). IsAnswered g.P.Protocol.speech (g.D.Disk.view c.args.disk.now) (g.D.Disk.view c.answer_frame-met.new.disk) c.args.store.now b c.answer_frame-met.result c.answer_frame-met.new.store c.answer_frame-met.new.out) c.body-2.ensures c.answer_frame-met.ensures.ok;
  passes = c.answer_frame-met.ensures.time;
  cause = c.answer_frame-met.ensures.cause;
  spent = c.answer_frame-met.ensures.state;
  kept = c.answer_frame-met.ensures.kept;
  same = c.answer_frame-met.ensures.same;
  leaves = g.met.D.Disk.leaves_content c.answer_frame-met.new.disk;
  damaged = c.answer_frame-met.ensures.damaged;
}

-- the replies that were pending could not be sent
pub returns-in_default-clause-ok : goal.returns-in_default-clause-ok
returns-in_default-clause-ok g c = λ start count budget x y d within p.
    let frames = c.args.buffers.now.frames in
    pending_cut g.P.Protocol.speech start c.args.store.now count (frame frames.body ++ frames.held) c.args.buffers.now.pending (beside x (g.D.Disk.view d)) (shown g y c.args.sink.now c.args.disk.now) p budget
    (g.K.Sink.held c.make_way.new.sink) (g.K.Sink.faults c.make_way.new.sink) within (frames_waiting next.Frame frames c.requires.len c.requires.room) c.in_default.ensures.err

-- its reply is pending
kept_so : (g : Over) (c : After-keep g) → c.keep.new.self ≡ record { bytes = c.make_way.new.pending.bytes ++ c.answer_frame-met.new.out; count = c.make_way.new.pending.count + 1 }
kept_so g c = c.keep.ensures.ok ∙ ap (λ (x : List ℕ). record { bytes = c.make_way.new.pending.bytes ++ x; count = c.make_way.new.pending.count + 1 }) c.bytes.ensures

pub returns-in-Some-clause-ok : goal.returns-in-Some-clause-ok
returns-in-Some-clause-ok g c = λ start count budget x y d within p.
    let frames = c.args.buffers.now.frames in
    let q = room_made g.P.Protocol.speech start c.args.store.now count (frame frames.body ++ frames.held) c.args.buffers.now.pending (beside x (g.D.Disk.view d)) (shown g y c.args.sink.now c.args.disk.now) p
    (g.K.Sink.held c.make_way.new.sink) (g.K.Sink.faults c.make_way.new.sink) c.make_way.new.pending c.in-Ok.ensures.ok c.in-Ok.ensures.cause.ok in
    ends_at g.P.Protocol.speech start c.args.store.now c.answer_frame-met.new.store count budget (frame frames.body ++ frames.held) frames.held frames.body c.answer_frame-met.result c.answer_frame-met.new.out c.make_way.new.pending
    (beside x (g.D.Disk.view d)) (shown g y c.make_way.new.sink c.args.disk.now) (shown g y c.end_run.new.sink c.answer_frame-met.new.disk)
    q within (answered g (goal.at.returns-in-Some-clause-ok g c).After-keep y c.end_run.new.sink) refl c.requires.len c.requires.room c.in-Ok.ensures.len
    c.in-Some.fault c.in-Some.is c.from.result c.end_run.result c.from.ensures (g.K.Sink.faults c.make_way.new.sink) (g.K.Sink.faults c.end_run.new.sink)
    (subst (λ (r : Pending). SendsAtEnd c.from.result c.end_run.result (g.K.Sink.held c.make_way.new.sink) (g.K.Sink.held c.end_run.new.sink) (g.K.Sink.faults c.make_way.new.sink) (g.K.Sink.faults c.end_run.new.sink) r.bytes)
    (kept_so g (goal.at.returns-in-Some-clause-ok g c).After-keep) c.end_run.ensures)

pub returns-in-Some-clause-cause : goal.returns-in-Some-clause-cause
returns-in-Some-clause-cause g c = λ y.
    let cause = c.answer_frame-met.ensures.cause in
    caused_at_end c.from.result c.end_run.result c.in-Some.fault (shown g y c.args.sink.now c.args.disk.now) (shown g y c.end_run.new.sink c.answer_frame-met.new.disk) (g.K.Sink.held c.make_way.new.sink)
    (g.K.Sink.faults c.make_way.new.sink) c.keep.new.self.bytes c.from.ensures
    (λ e. cause.rose (c.in-Some.is ∙ ap (λ (z : Fault). Some z) e))
    (λ other. cause.same (λ e. other (let same : Some c.in-Some.fault ≡ Some fault.Device = sym c.in-Some.is ∙ e in cc)))
    refl c.in-Ok.ensures.cause.ok c.end_run.ensures

-- a command that met no fault
no_fault : (o : Option Fault) → ((f : Fault) → o ≡ Some f → ⊥) → o ≡ None
no_fault None none = refl
no_fault (Some f) none = absurd (none f refl)

pub returns-clause-ok : goal.returns-clause-ok
returns-clause-ok g c = λ start count budget x y d within p.
    let frames = c.args.buffers.now.frames in
    let none : c.answer_frame-met.result ≡ None = no_fault c.answer_frame-met.result c.in_default-met.not-Some in
    let q = room_made g.P.Protocol.speech start c.args.store.now count (frame frames.body ++ frames.held) c.args.buffers.now.pending (beside x (g.D.Disk.view d)) (shown g y c.args.sink.now c.args.disk.now) p
    (g.K.Sink.held c.make_way.new.sink) (g.K.Sink.faults c.make_way.new.sink) c.make_way.new.pending c.in-Ok.ensures.ok c.in-Ok.ensures.cause.ok in
    let r = goes_on g.P.Protocol.speech start c.args.store.now c.answer_frame-met.new.store count budget (frame frames.body ++ frames.held) frames.held frames.body c.answer_frame-met.result c.answer_frame-met.new.out c.make_way.new.pending
    (beside x (g.D.Disk.view d)) (shown g y c.make_way.new.sink c.args.disk.now) (shown g y c.make_way.new.sink c.answer_frame-met.new.disk)
    q within (answered g (goal.at.returns-clause-ok g c).After-keep y c.make_way.new.sink) refl c.requires.len c.requires.room c.in-Ok.ensures.len none refl in
    subst (λ (h : List ℕ). ServesPending g.P.Protocol.speech start c.answer_frame-met.new.store count h c.keep.new.self (beside x (g.D.Disk.view d)) (shown g y c.make_way.new.sink c.answer_frame-met.new.disk))
    (met_next c.next.result frames c.next.new.self c.next.ensures.ok).all
    (subst (λ (k : Pending). ServesPending g.P.Protocol.speech start c.answer_frame-met.new.store count frames.held k (beside x (g.D.Disk.view d)) (shown g y c.make_way.new.sink c.answer_frame-met.new.disk))
    (sym (kept_so g (goal.at.returns-clause-ok g c).After-keep)) r)

pub returns-clause-kept : goal.returns-clause-kept
returns-clause-kept g c =
    let frames = c.args.buffers.now.frames in
    let none : c.answer_frame-met.result ≡ None = no_fault c.answer_frame-met.result c.in_default-met.not-Some in
    let found = met_next c.next.result frames c.next.new.self c.next.ensures.ok in
    let fewer : length frames.held < length (frame frames.body ++ frames.held) = frame_shrinks (frame frames.body ++ frames.held) frames.body frames.held refl in (
      c.answer_frame-met.ensures.state ∙ ap is_some none,
      c.answer_frame-met.ensures.kept none,
      found.meets,
      c.next.ensures.fits,
      omega (arith, fewer, ap length found.all),
    )
