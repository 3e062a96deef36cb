use Rattle.std.proofs.Common.{◌≡◌, ◌≤◌, ◌+◌, ℕ, Bool, List, ◌∷◌, ◌++◌, length, true, false, refl, sym, ap, subst, ◌∙◌, append_assoc, arith}
use Rattle.std.specs.Prelude.{is_err, is_ok}
use Rattle.std.specs.List.{flat_map, AllByRecursion}
use Rattle.strat_memory.specs.Held.{Held, IsConsistent}
use Rattle.strat_model.specs.Answer.{refusal}
use Rattle.strat_base.specs.declared.failures.Fault.TheVariants as fault
use Rattle.strat_frame.specs.declared.deframer.Next.TheVariants as next
use Rattle.strat_model.specs.declared.ended.Ended.TheVariants as ended
use Rattle.strat_model.specs.declared.replies.Refusal.TheVariants as why
use Rattle.strat_model.specs.Request.{Request, Stat}
use Rattle.strat_model.specs.Stream.{frame, IsBody}
use Rattle.strat_publish.specs.Settling.{LeavesPublished}
use Rattle.strat_store.specs.Staging.{FollowsBatch, held_joined, reply_of_commit}
use Rattle.strat_loop.specs.Grouping.{StagesBodies, StagesBody}
use Rattle.strat_loop.specs.Pending.{Pending, SendsAtEnd, SendsOrKeeps}
use Rattle.strat_loop.specs.Progress.{Meets, ServesPending, waiting}
use Rattle.strat_loop.specs.Session.{SendsPrefix}
use Rattle.strat_loop.specs.World.{Streams, World, beside, world}
use Rattle.strat_loop.proofs.CommittedLemmas.{group_broken, group_made}
use Rattle.strat_loop.proofs.GiveUpLemmas.{caused_at_end}
use Rattle.strat_loop.proofs.GroupLemmas.{GroupBroken, GroupMade, answers_batch, batch_broken, frames_waiting}
use Rattle.strat_loop.proofs.KeptLemmas.{pending_cut, room_made}
use Rattle.strat_loop.proofs.ProgressLemmas.{as_many}
use Rattle.strat_loop.proofs.StagedLemmas.{staged_answered, staged_count, staged_few}
use Rattle.strat_loop.proofs.TurnLemmas.{err_of, fewer_wait, is_err_of, is_ok_of, ok_of}
use Rattle.strat_loop.proofs.grouping.serve_group.Given.{Over}
use Rattle.strat_loop.proofs.grouping.serve_group.Goals as goal
use Rattle.strat_loop.proofs.grouping.serve_group.Goals.{After-stage_frames-met}
use Rattle.strat_loop.specs.Speech.{Said, said_bytes}

-- what a sink and a disk show, beside these streams
abbrev shown : (g : Over) → Streams → g.row.K.Denot → g.row.D.Denot → World
shown g y sink disk = world y.left y.source_faults (g.K.Sink.held sink) (g.K.Sink.faults sink) (g.D.Disk.view disk) (g.D.Disk.faults disk)

-- the bodies that were staged, with their replies
record Batch (g : Over) (c : After-stage_frames-met g) : Type 0 where
  response : Said
  others : List (List ℕ)
  more : List Said
  tag : response.tag ≡ c.in_ok-first.first
  all : StagesBodies g.P.Protocol.speech c.args.store.now (c.args.buffers.now.frames.body ∷ others) (response ∷ more) c.stage_frames-met.new.store
  each : AllByRecursion IsBody (c.args.buffers.now.frames.body ∷ others)
  behind : c.args.buffers.now.frames.held ≡ flat_map frame others ++ waiting c.stage_frames-met.result c.stage_frames-met.new.buffers.frames
  meets : Meets c.stage_frames-met.result c.stage_frames-met.new.buffers.frames
  text : c.stage_frames-met.new.buffers.staged ≡ said_bytes (response ∷ more)

batch : (g : Over) (c : After-stage_frames-met g) → Batch g c
batch g c =
    let one = c.in_ok-first.ensures.ok in
    let others = c.stage_frames-met.ensures.ok in
    record {
      response = one.0;
      others = others.bodies;
      more = others.responses;
      tag = one.1;
      all = (c.stage_body.new.store, subst (λ (b : List ℕ). StagesBody g.P.Protocol.speech c.args.store.now b one.0 c.stage_body.new.store) c.body.ensures one.2, others.stages);
      each = (c.requires.len, others.each);
      behind = others.parts;
      meets = others.meets;
      text = others.text ∙ ap (λ (x : List ℕ). x ++ said_bytes others.responses) (one.3 ∙ ap (λ (x : List ℕ). x ++ one.0.sent) c.clear.ensures);
    }

front : (g : Over) (c : After-stage_frames-met g) (b : Batch g c)
    → frame c.args.buffers.now.frames.body ++ c.args.buffers.now.frames.held ≡ flat_map frame (c.args.buffers.now.frames.body ∷ b.others) ++ waiting c.stage_frames-met.result c.stage_frames-met.new.buffers.frames
front g c b =
    ap (λ (x : List ℕ). frame c.args.buffers.now.frames.body ++ x) b.behind
    ∙ sym (append_assoc (frame c.args.buffers.now.frames.body) (flat_map frame b.others) (waiting c.stage_frames-met.result c.stage_frames-met.new.buffers.frames))

pub commit-requires-clause-len : goal.commit-requires-clause-len
commit-requires-clause-len g c =
    let before = (goal.at.commit-requires-clause-len g c).After-stage_frames-met in
    let b = batch g before in
    omega (arith, staged_count g.P.Protocol.speech c.args.store.now c.stage_frames-met.new.store (c.args.buffers.now.frames.body ∷ b.others) (b.response ∷ b.more) b.all)

-- so many changes were staged, sixteen at most
many : (g : Over) (c : After-stage_frames-met g) (b : Batch g c) (n : ℕ) → n ≡ length c.stage_frames-met.new.store.log.batch → (n ≡ length (c.args.buffers.now.frames.body ∷ b.others)) × (n ≤ 16)
many g c b n told =
    let count = staged_count g.P.Protocol.speech c.args.store.now c.stage_frames-met.new.store (c.args.buffers.now.frames.body ∷ b.others) (b.response ∷ b.more) b.all in
    let none : length c.args.store.now.log.batch ≡ 0 = ap length c.requires.kept.log.batch in (
      omega (arith, count, none, told),
      omega (arith, staged_few g.P.Protocol.speech c.args.store.now c.stage_frames-met.new.store (c.args.buffers.now.frames.body ∷ b.others) (b.response ∷ b.more) b.all (omega (arith, none)), told),
    )

pub make_room-requires : goal.make_room-requires
make_room-requires g c =
    let before = (goal.at.make_room-requires g c).After-stage_frames-met in
    record { len = (many g before (batch g before) c.staged-many.result (c.staged-many.ensures.ok c.stage_frames-met.ensures.state)).1 }

pub refuse_batch-requires-clause-len : goal.refuse_batch-requires-clause-len
refuse_batch-requires-clause-len g c =
    let before = (goal.at.refuse_batch-requires-clause-len g c).After-stage_frames-met in
    omega (arith, (many g before (batch g before) c.staged-many.result (c.staged-many.ensures.ok c.stage_frames-met.ensures.state)).0, c.in-Ok.ensures.len)

-- the replies that were pending could not be sent
pub returns-in_default-clause-ok : goal.returns-in_default-clause-ok
returns-in_default-clause-ok g c = λ start count budget x y d within p.
    let at = goal.at.returns-in_default-clause-ok g c in
    let b = batch g at.After-stage_frames-met in
    let frames = c.args.buffers.now.frames in
    pending_cut g.P.Protocol.speech start c.args.store.now count (frame frames.body ++ frames.held) c.args.buffers.now.pending (beside x (g.D.Disk.view d)) (shown g y c.args.sink.now c.args.disk.now) p budget
    (g.K.Sink.held c.make_room.new.sink) (g.K.Sink.faults c.make_room.new.sink) within
    (frames_waiting next.Frame frames c.requires.len c.requires.room)
    (subst (λ (r : Pending). SendsPrefix (g.K.Sink.held c.args.sink.now) (g.K.Sink.held c.make_room.new.sink) r.bytes) c.stage_frames-met.ensures.same c.in_default.ensures.err)

-- the batch became durable, and its replies are pending
pub returns-clause-ok : goal.returns-clause-ok
returns-clause-ok g c = λ start count budget x y d within p.
    let at = goal.at.returns-clause-ok g c in
    let b = batch g at.After-stage_frames-met in
    let frames = c.args.buffers.now.frames in
    let fine : is_err c.commit.result ≡ false = sym c.is_err.ensures.value ∙ c.if-is_err.false in
    let rest = waiting c.stage_frames-met.result c.stage_frames-met.new.buffers.frames in
    let n = many g at.After-stage_frames-met b c.staged-many.result (c.staged-many.ensures.ok c.stage_frames-met.ensures.state) in
    let count_is : length (b.response ∷ b.more) ≡ c.staged-many.result = as_many g.P.Protocol.speech (c.args.buffers.now.frames.body ∷ b.others) (b.response ∷ b.more) (staged_answered g.P.Protocol.speech c.args.store.now c.stage_frames-met.new.store (c.args.buffers.now.frames.body ∷ b.others) (b.response ∷ b.more) b.all) ∙ sym n.0 in
    let q = room_made g.P.Protocol.speech start c.args.store.now count (frame frames.body ++ frames.held) c.args.buffers.now.pending (beside x (g.D.Disk.view d)) (shown g y c.args.sink.now c.args.disk.now) p
    (g.K.Sink.held c.make_room.new.sink) (g.K.Sink.faults c.make_room.new.sink) c.make_room.new.pending
    (subst (λ (r : Pending). SendsOrKeeps (g.K.Sink.held c.args.sink.now) (g.K.Sink.held c.make_room.new.sink) r c.make_room.new.pending) c.stage_frames-met.ensures.same c.in-Ok.ensures.ok) c.in-Ok.ensures.cause.ok in
    let staged : Held = c.stage_frames-met.new.store in
    let done : is_ok c.commit.result ≡ true = is_ok_of c.commit.result fine in
    let kept : IsConsistent c.commit.new.self = (ok_of c.commit.result fine c.commit.ensures.kept).0 in
    let mid = shown g y c.make_room.new.sink c.args.disk.now in
    let now = shown g y c.make_room.new.sink c.commit.new.disk in
    let made : GroupMade g.P.Protocol.speech c.args.store.now c.commit.new.self mid now start.log.mem (frames.body ∷ b.others) (b.response ∷ b.more) =
    group_made g.P.Protocol.speech c.args.store.now staged mid now start.log.mem (c.staging_follows_the_table.ensures.ok c.args.disk.now) frames.body b.others b.response b.more b.all c.requires.kept q.so_far.mem b.each refl c.commit.ensures.time
    c.commit.new.self (ok_of c.commit.result fine c.commit.ensures.ok) kept c.requires.fits (ok_of c.commit.result fine c.commit.ensures.cause.ok) (g.met.D.Disk.leaves_content c.commit.new.disk)
    (ok_of c.commit.result fine c.commit.ensures.state)
    (λ z stands. subst (λ (k : Bool). FollowsBatch (g.D.Disk.view c.args.disk.now) (g.D.Disk.view c.commit.new.disk) z staged.log.batch k) done (c.commit.ensures.trail z stands).0)
    (subst (λ (k : Bool). LeavesPublished (g.D.Disk.view c.args.disk.now) (g.D.Disk.view c.commit.new.disk) staged k (reply_of_commit k) c.commit.new.self) done c.commit.ensures.same) in
    let r = answers_batch g.P.Protocol.speech start c.args.store.now c.commit.new.self count (frame frames.body ++ frames.held) rest (frames.body ∷ b.others) (b.response ∷ b.more) c.make_room.new.pending
    (beside x (g.D.Disk.view d)) mid now q made (front g at.After-stage_frames-met b) refl
    (omega (arith, count_is, c.in-Ok.ensures.len)) in
    let pending : c.keep.new.self ≡ record { bytes = c.make_room.new.pending.bytes ++ said_bytes (b.response ∷ b.more); count = c.make_room.new.pending.count + length (b.response ∷ b.more) } =
    c.keep.ensures.ok ∙ (λ i. record { bytes = c.make_room.new.pending.bytes ++ (c.bytes.ensures ∙ b.text) i; count = c.make_room.new.pending.count + sym count_is i }) in
    subst (λ (k : Pending). ServesPending g.P.Protocol.speech start c.commit.new.self count rest k (beside x (g.D.Disk.view d)) (shown g y c.make_room.new.sink c.commit.new.disk)) (sym pending) r

pub returns-clause-kept : goal.returns-clause-kept
returns-clause-kept g c =
    let b = batch g (goal.at.returns-clause-kept g c).After-stage_frames-met in
    let fine : is_err c.commit.result ≡ false = sym c.is_err.ensures.value ∙ c.if-is_err.false in
    let after : c.commit.new.self ≡ held_joined c.stage_frames-met.new.store = ok_of c.commit.result fine c.commit.ensures.ok in (
      ap (λ (h : Held). h.spent) after ∙ c.stage_frames-met.ensures.state,
      (ok_of c.commit.result fine c.commit.ensures.kept).0,
      b.meets,
      c.stage_frames-met.ensures.fits,
      fewer_wait c.args.buffers.now.frames.body c.args.buffers.now.frames.held (waiting c.stage_frames-met.result c.stage_frames-met.new.buffers.frames) b.others b.behind,
    )

-- the device failed, and the first of its bodies was told so behind what was pending
pub returns-then-is_err-clause-ok : goal.returns-then-is_err-clause-ok
returns-then-is_err-clause-ok g c = λ start count budget x y d within p.
    let at = goal.at.returns-then-is_err-clause-ok g c in
    let b = batch g at.After-stage_frames-met in
    let staged : Held = c.stage_frames-met.new.store in
    let frames = c.args.buffers.now.frames in
    let body : List ℕ = frames.body in
    let rest = waiting c.stage_frames-met.result c.stage_frames-met.new.buffers.frames in
    let failed : is_err c.commit.result ≡ true = sym c.is_err.ensures.value ∙ c.if-is_err.true in
    let undone : is_ok c.commit.result ≡ false = is_err_of c.commit.result failed in
    let mid = shown g y c.make_room.new.sink c.args.disk.now in
    let now = shown g y c.refuse_batch.new.sink c.commit.new.disk in
    let speech = g.P.Protocol.speech in
    let request : Request = b.all.1.request in
    let told : Said = record {
      tag = b.response.tag;
      answer = refusal why.DeviceFault;
      sent = speech.tells c.args.store.now.memory.changes b.response.tag request (refusal why.DeviceFault);
    } in
    let sent_so : speech.tells c.changes-before.result c.in_ok-first.first request (refusal why.DeviceFault) ≡ told.sent =
    (λ i. speech.tells (c.changes-before.ensures.ok i) (sym b.tag i) request (refusal why.DeviceFault)) in
    let q = room_made g.P.Protocol.speech start c.args.store.now count (frame body ++ frames.held) c.args.buffers.now.pending (beside x (g.D.Disk.view d)) (shown g y c.args.sink.now c.args.disk.now) p
    (g.K.Sink.held c.make_room.new.sink) (g.K.Sink.faults c.make_room.new.sink) c.make_room.new.pending
    (subst (λ (r : Pending). SendsOrKeeps (g.K.Sink.held c.args.sink.now) (g.K.Sink.held c.make_room.new.sink) r c.make_room.new.pending) c.stage_frames-met.ensures.same c.in-Ok.ensures.ok) c.in-Ok.ensures.cause.ok in
    let broke : GroupBroken g.P.Protocol.speech c.args.store.now mid now start.log.mem body b.others told =
    group_broken g.P.Protocol.speech c.args.store.now staged mid now start.log.mem (c.staging_follows_the_table.ensures.ok c.args.disk.now) body b.others b.response b.more b.all c.requires.kept q.so_far.mem b.each refl c.commit.ensures.time
    c.commit.new.self (err_of c.commit.result failed c.commit.ensures.cause.err)
    (λ z stands. subst (λ (k : Bool). FollowsBatch (g.D.Disk.view c.args.disk.now) (g.D.Disk.view c.commit.new.disk) z staged.log.batch k) undone (c.commit.ensures.trail z stands).0)
    (subst (λ (k : Bool). LeavesPublished (g.D.Disk.view c.args.disk.now) (g.D.Disk.view c.commit.new.disk) staged k (reply_of_commit k) c.commit.new.self) undone c.commit.ensures.same) in
    batch_broken g.P.Protocol.speech start c.args.store.now count budget (frame body ++ frames.held) rest body b.others told c.make_room.new.pending (beside x (g.D.Disk.view d)) mid now q within broke (front g at.After-stage_frames-met b)
    (frames_waiting c.stage_frames-met.result c.stage_frames-met.new.buffers.frames b.meets c.stage_frames-met.ensures.fits) (omega (arith, (many g at.After-stage_frames-met b c.staged-many.result (c.staged-many.ensures.ok c.stage_frames-met.ensures.state)).0, c.in-Ok.ensures.len)) c.refuse_batch.result (g.K.Sink.faults c.make_room.new.sink) (g.K.Sink.faults c.refuse_batch.new.sink)
    (subst (λ (x : List ℕ). SendsAtEnd ended.Device c.refuse_batch.result (g.K.Sink.held c.make_room.new.sink) (g.K.Sink.held c.refuse_batch.new.sink) (g.K.Sink.faults c.make_room.new.sink) (g.K.Sink.faults c.refuse_batch.new.sink)
    (c.make_room.new.pending.bytes ++ x)) sent_so (c.refuse_batch.ensures request))

pub returns-then-is_err-clause-cause : goal.returns-then-is_err-clause-cause
returns-then-is_err-clause-cause g c = λ y.
    let failed : is_err c.commit.result ≡ true = sym c.is_err.ensures.value ∙ c.if-is_err.true in
    caused_at_end ended.Device c.refuse_batch.result fault.Device (shown g y c.args.sink.now c.args.disk.now) (shown g y c.refuse_batch.new.sink c.commit.new.disk) (g.K.Sink.held c.make_room.new.sink)
    (g.K.Sink.faults c.make_room.new.sink) (c.make_room.new.pending.bytes ++ g.P.Protocol.speech.tells c.changes-before.result c.in_ok-first.first Stat (refusal why.DeviceFault)) refl
    (λ _. err_of c.commit.result failed c.commit.ensures.cause.err) (λ other. absurd (other refl)) refl c.in-Ok.ensures.cause.ok (c.refuse_batch.ensures Stat)
