-- A batch of a serving run: its changes become durable together, or fail together.
use Rattle.std.proofs.Common.{◌≡◌, ◌≤◌, ℕ, ◌+◌, false, List, [], ◌∷◌, ◌++◌, length, take, map, Option, Some, None, refl, sym, ap, subst, ◌∙◌, inl, inr, append_assoc, append-nil, length-append, arith}
use Rattle.std.specs.Prelude.{Contains, IfSome, IsSome}
use Rattle.std.specs.List.{flat_map, AllByRecursion}
use Rattle.std.proofs.lemmas.Bool.{or_left, or_right}
use Rattle.std.proofs.lemmas.List.{length-map, map-append, take_at}
use Rattle.std.proofs.lemmas.List.Concat.{flat_map-append}
use Rattle.strat_base.specs.Numbers.{AreBytes}
use Rattle.strat_base.specs.declared.descriptors.ArrayDesc.{ArrayDesc}
use Rattle.strat_base.specs.declared.failures.Fault.{Fault}
use Rattle.strat_base.specs.declared.failures.Fault.TheVariants as fault
use Rattle.def_crash.specs.Faults.{Rose}
use Rattle.def_crash.specs.Image.{Image}
use Rattle.def_crash.specs.Moments.{DiskView, Images, Passes}
use Rattle.def_crash.specs.Trail.{Trail}
use Rattle.def_crash.proofs.MomentLemmas.{passes_trans}
use Rattle.def_crash.proofs.TrailLemmas.{trail_put_in}
use Rattle.strat_frame.specs.Deframing.{Deframing}
use Rattle.strat_frame.specs.declared.deframer.Next.{Next}
use Rattle.strat_frame.specs.declared.deframer.Next.TheVariants as next
use Rattle.strat_io.specs.Streams.{Appends}
use Rattle.strat_model.specs.Faults.{fault_told}
use Rattle.strat_model.specs.declared.ended.Ended.{Ended}
use Rattle.strat_model.specs.declared.ended.Ended.TheVariants as ended
use Rattle.strat_model.specs.declared.replies.Refusal.TheVariants as why
use Rattle.strat_model.specs.Answer.{Answer, refusal}
use Rattle.strat_model.specs.Batch.{tables_before}
use Rattle.strat_model.specs.Stream.{frame, IsBody, is_partial, is_too_long}
use Rattle.strat_model.specs.Table.{Cursor, Table, bare}
use Rattle.strat_model.specs.Run.{Position, Exchange, Interruption, Transcript, bodies_of}
use Rattle.def_meaning.specs.StateTable.{table_of}
use Rattle.def_publish.specs.Contents.{Contents, contents_state}
use Rattle.def_publish.specs.Standing.{ShowsTable}
use Rattle.strat_open.specs.Following.{FollowsFrom}
use Rattle.strat_memory.specs.Held.{Held, IsConsistent, IsOnDisk, StandsAt, arrays_held, head_held, position_at}
use Rattle.def_state.specs.State.{IsPaid}
use Rattle.strat_memory.specs.Paying.{IsPaidIn, ArePaidSince}
use Rattle.strat_loop.specs.Pending.{Pending, ArePending, SendsAtEnd, with_sent}
use Rattle.strat_loop.specs.Progress.{ServesPending, ServesSoFar, RunSoFar, Meets, sent_also, waiting}
use Rattle.strat_loop.specs.Session.{EndsFor, Took, WaitsForNone}
use Rattle.strat_loop.specs.World.{World}
use Rattle.strat_loop.proofs.PendingLemmas.{ahead_more, ahead_within, appends_behind, are_more, sends_but, sent_then, took_behind}
use Rattle.strat_loop.proofs.FillLemmas.{begins_fit, fits_regions}
use Rattle.strat_loop.proofs.ProgressLemmas.{as_many, calm_front, follows_more, goes_from, paid_so_far}
use Rattle.strat_loop.proofs.PublishedLemmas.{held_then}
use Rattle.strat_loop.proofs.SessionLemmas.{answered_front, each_then, whole_taken}
use Rattle.strat_loop.proofs.StreamLemmas.{Frames, frames_of}
use Rattle.strat_loop.specs.Speech.{AsksToChange, IsSpokenBatch, IsSpokenRun, IsSpokenTranscript, Said, SaysFault, Speech, SpokenContinuation, said_bytes, response_of}
use Rattle.strat_loop.specs.Spoken.{AreSaidCalmly, AreSaidTo, FollowsSpokenRun, IsSitting, SaysCalmly, SendsSaid, ServedBy, Sitting, output_of, session_of}

-- what waits is frames and a rest
pub frames_waiting : (met : Next) (d : Deframing) → Meets met d → AreBytes d.held → Frames (waiting met d)
frames_waiting next.Frame d meets fits =
    let s = frames_of d.held fits in
    record {
      bodies = d.body ∷ s.bodies;
      rest = s.rest;
      splits = record {
        whole = ap (λ (x : List ℕ). frame d.body ++ x) s.splits.whole ∙ sym (append_assoc (frame d.body) (flat_map frame s.bodies) s.rest);
        each = (meets, s.splits.each);
        last = s.splits.last;
      };
    }
frames_waiting next.NotYet d meets fits = record { bodies = []; rest = d.held; splits = record { whole = refl; each = tt; last = or_right (is_too_long d.held) (is_partial d.held) meets } }
frames_waiting (next.TooLong n) d meets fits = record { bodies = []; rest = d.held; splits = record { whole = refl; each = tt; last = or_left (is_too_long d.held) (is_partial d.held) meets } }

-- the disk followed the tables of a batch
follows_batch : (before mid now : DiskView) (f : Image) (xs gs : List Exchange) (g : Exchange) (t u : Table) → bare g.at.table ≡ t → Passes mid now
    → FollowsFrom before mid f (tables_before xs ++ t ∷ []) (length xs) → Trail ShowsTable now mid.moment (t ∷ u ∷ []) 1 → (IsPaidIn f → ArePaidSince now mid.moment)
    → FollowsFrom before now f (tables_before (xs ++ g ∷ gs) ++ u ∷ []) (length (xs ++ g ∷ gs))
follows_batch before mid now f xs gs g t u at passes so_far trail pays =
    let between : List Table = tables_before gs in
    let whole : Trail ShowsTable now mid.moment (t ∷ (between ++ u ∷ [])) (1 + length between) = trail_put_in ShowsTable now mid.moment (t ∷ []) between (u ∷ []) 1 (omega arith) trail in
    let len : length (tables_before xs) ≡ length xs = length-map xs (λ (e : Exchange). bare e.at.table) in
    let joined : FollowsFrom before now f (tables_before xs ++ t ∷ (between ++ u ∷ [])) (length (tables_before xs) + (1 + length between)) =
    goes_from before mid now f (tables_before xs) (between ++ u ∷ []) t (1 + length between) passes
    (subst (λ (k : ℕ). FollowsFrom before mid f (tables_before xs ++ t ∷ []) k) (sym len) so_far) whole pays in
    let count : length (tables_before xs) + (1 + length between) ≡ length (xs ++ g ∷ gs) =
    omega (arith, len, length-map gs (λ (e : Exchange). bare e.at.table), length-append xs (g ∷ gs)) in
    let list : tables_before xs ++ t ∷ (between ++ u ∷ []) ≡ tables_before (xs ++ g ∷ gs) ++ u ∷ [] =
    sym (append_assoc (tables_before xs) (t ∷ between) (u ∷ []))
    ∙ ap (λ (l : List Table). l ++ u ∷ []) (sym (map-append (λ (e : Exchange). bare e.at.table) xs (g ∷ gs) ∙ ap (λ (v : Table). tables_before xs ++ v ∷ between) at)) in
    subst (λ (n : ℕ). FollowsFrom before now f (tables_before (xs ++ g ∷ gs) ++ u ∷ []) n) count
    (subst (λ (l : List Table). FollowsFrom before now f l (length (tables_before xs) + (1 + length between))) list joined)

module _ (speech : Speech) where
  -- lists of bodies and answers, one behind the other
  answered_then : (bodies others : List (List ℕ)) (answers more : List Said) → AreSaidTo speech bodies answers → AreSaidTo speech others more → AreSaidTo speech (bodies ++ others) (answers ++ more)
  answered_then [] others [] more all next = next
  answered_then [] others (r ∷ rs) more all next = absurd all
  answered_then (b ∷ bs) others [] more all next = absurd all
  answered_then (b ∷ bs) others (r ∷ rs) more all next = (all.0, answered_then bs others rs more all.1 next)

  quiet_then : (answers more : List Said) → AllByRecursion (λ (r : Said). fault_told r.answer.reply ≡ None) answers → AllByRecursion (λ (r : Said). fault_told r.answer.reply ≡ None) more
      → AllByRecursion (λ (r : Said). fault_told r.answer.reply ≡ None) (answers ++ more)
  quiet_then [] more all next = next
  quiet_then (r ∷ rs) more all next = (all.0, quiet_then rs more all.1 next)

  run_then : (mem : ℕ) (p q r : Position) (xs ys : List Exchange) (said more : List Said) → IsSpokenRun speech mem p xs said q → IsSpokenRun speech mem q ys more r
      → IsSpokenRun speech mem p (xs ++ ys) (said ++ more) r
  run_then mem p q r [] ys [] more run other = subst (λ (z : Position). IsSpokenRun speech mem z ys more r) run other
  run_then mem p q r [] ys (s ∷ said) more run other = absurd run
  run_then mem p q r (x ∷ xs) ys [] more run other = absurd run
  run_then mem p q r (x ∷ xs) ys (s ∷ said) more run other = (run.0, run.1, (run.2.0, run.2.1, run_then mem run.2.0 q r xs ys said more run.2.2 other))

  -- the responses behind a front that is calm are calm
  calm_back : (bodies others : List (List ℕ)) (answers more : List Said) → AreSaidTo speech bodies answers → AreSaidCalmly speech (bodies ++ others) (answers ++ more) → AreSaidCalmly speech others more
  calm_back [] others [] more all calm = calm
  calm_back [] others (r ∷ rs) more all calm = absurd all
  calm_back (b ∷ bs) others [] more all calm = absurd all
  calm_back (b ∷ bs) others (r ∷ rs) more all calm = calm_back bs others rs more all.1 calm.1

  -- a batch at a store that stands with contents: its exchanges, and what it left
  pub record IsBatchMade (mid now : DiskView) (mem : ℕ) (old new : Held) (x : Contents) (rows : List Cursor) (bodies : List (List ℕ)) (responses : List Said) : Type 0 where
    pub first : Exchange
    pub later : List Exchange
    pub after : Contents
    pub begins : first.at ≡ position_at old x rows
    pub run : IsSpokenRun speech mem (position_at old x rows) (first ∷ later) responses (position_at new after rows)
    pub bodies_are : map (λ (e : Exchange). e.body) (first ∷ later) ≡ bodies
    pub answers_are : map response_of responses ≡ map (λ (e : Exchange). e.response) (first ∷ later)
    pub stands : StandsAt now new after rows
    pub trail : Trail ShowsTable now mid.moment (table_of (contents_state x) ∷ table_of (contents_state after) ∷ []) 1
    pub paid : IsPaid (contents_state x) → ArePaidSince now mid.moment

  -- a batch of a run became durable
  pub record GroupMade (old new : Held) (mid now : World) (mem : ℕ) (bodies : List (List ℕ)) (responses : List Said) : Type 0 where
    pub left : now.left ≡ mid.left
    pub answered : AreSaidTo speech bodies responses
    pub quiet : AllByRecursion (λ (r : Said). fault_told r.answer.reply ≡ None) responses
    pub each : AllByRecursion IsBody bodies
    pub noisy : AreSaidCalmly speech bodies responses → ⊥
    pub passes : Passes mid.disk now.disk
    pub faults : now.disk_faults ≡ mid.disk_faults
    pub kept : IsConsistent new
    pub going : new.spent ≡ false
    pub mem_same : new.log.mem ≡ old.log.mem
    pub leaves : IfSome now.disk.content (Images now.disk)
    pub on_disk : IsOnDisk mid.disk old → IsOnDisk now.disk new
    pub retired : (a : ArrayDesc) → Contains new.memory.cursors.retired a → Contains (arrays_held old.memory old.levels) a
    pub batch : (x : Contents) (rows : List Cursor) → StandsAt mid.disk old x rows → IsBatchMade mid.disk now.disk mem old new x rows bodies responses

  module _ (start old new : Held) (count : ℕ) (held rest : List ℕ) (bodies : List (List ℕ)) (responses : List Said) (before mid now : World)
      (p : ServesSoFar speech start old count held before mid) (made : GroupMade old new mid now start.log.mem bodies responses) where
    -- the run of the table goes on
    batch_on : (f : Image) (t : Table) (so_far : RunSoFar speech start old before.disk mid.disk f t p.bodies p.answers)
        → IsBatchMade mid.disk now.disk start.log.mem old new so_far.contents so_far.rows bodies responses
        → RunSoFar speech start new before.disk now.disk f t (p.bodies ++ bodies) (p.answers ++ responses)
    batch_on f t so_far is =
        let group : List Exchange = is.first ∷ is.later in
        record {
          from = so_far.from;
          begins = so_far.begins;
          table = so_far.table;
          contents = is.after;
          rows = so_far.rows;
          exchanges = so_far.exchanges ++ group;
          run = run_then start.log.mem so_far.from (position_at old so_far.contents so_far.rows) (position_at new is.after so_far.rows) so_far.exchanges group p.answers responses so_far.run is.run;
          bodies_are = map-append (λ (x : Exchange). x.body) so_far.exchanges group ∙ (λ i. so_far.bodies_are i ++ is.bodies_are i);
          answers_are = map-append response_of p.answers responses ∙ (λ i. so_far.answers_are i ++ is.answers_are i) ∙ sym (map-append (λ (x : Exchange). x.response) so_far.exchanges group);
          stands = is.stands;
          follows = follows_batch before.disk mid.disk now.disk f so_far.exchanges is.later is.first (table_of (contents_state so_far.contents)) (table_of (contents_state is.after))
              (ap (λ (q : Position). bare q.table) is.begins) made.passes so_far.follows is.trail
              (λ first. is.paid (paid_so_far speech start old before.disk mid.disk f t p.bodies p.answers so_far first));
        }

    -- a batch was answered and kept, and its replies are pending behind others
    batch_kept : held ≡ flat_map frame bodies ++ rest → Appends mid.held now.held (said_bytes responses)
        → (replies : Pending) (sent : Option (List ℕ)) → ArePending replies p.taken p.bodies p.answers before.held sent → replies.count + length responses ≤ 16
        → (q : ServesSoFar speech start new count rest before now)
        × ArePending (record { bytes = replies.bytes ++ said_bytes responses; count = replies.count + length responses }) q.taken q.bodies q.answers before.held sent
    batch_kept front gives replies sent pending room =
        let ahead = ahead_more p.taken p.bodies bodies (length p.bodies) (omega arith) p.ahead in (
          record {
            taken = p.taken;
            counted = p.counted;
            took = subst (λ (x : Option (List ℕ)). Took before.left x p.taken) (sym made.left) p.took;
            bodies = p.bodies ++ bodies;
            answers = p.answers ++ responses;
            answered = answered_then p.bodies bodies p.answers responses p.answered made.answered;
            quiet = quiet_then p.answers responses p.quiet made.quiet;
            parts = whole_taken p.taken held rest p.bodies bodies p.parts front;
            each = each_then p.bodies bodies p.each made.each;
            ahead = ahead_within p.taken (p.bodies ++ bodies) (length p.bodies) (length (p.bodies ++ bodies)) (omega (arith, length-append p.bodies bodies)) ahead;
            sent = subst (λ (x : List ℕ). Appends before.held now.held x) (sym (flat_map-append (λ (r : Said). r.sent) p.answers responses))
                (sent_then before.held mid.held now.held (said_bytes p.answers) (said_bytes responses) p.sent gives);
            found = p.found;
            mem = made.mem_same ∙ p.mem;
            lawful = made.kept;
            going = made.going;
            calm = made.faults ∙ p.calm;
            passes = passes_trans p.passes made.passes;
            on_disk = λ f exposed. made.on_disk (p.on_disk f exposed);
            named = λ f exposed a among.
                held_then before.disk mid.disk now.disk old new made.passes (passes_trans p.passes made.passes).later made.leaves made.kept
                (made.on_disk (p.on_disk f exposed)) made.retired (p.named f exposed) a among;
            still = λ quiet. absurd (made.noisy (calm_back p.bodies bodies p.answers responses p.answered quiet));
            runs = λ f t e shows. let so_far = p.runs f t e shows in batch_on f t so_far (made.batch so_far.contents so_far.rows so_far.stands);
          },
          are_more speech replies p.taken p.bodies p.answers before.held sent pending (as_many speech p.bodies p.answers p.answered) bodies responses (said_bytes responses) refl room,
        )

  -- the replies to a batch that is durable are pending
  module _ (start old new : Held) (count : ℕ) (held rest : List ℕ) (bodies : List (List ℕ)) (responses : List Said) (replies : Pending) (before mid now : World)
      (p : ServesPending speech start old count held replies before mid) (made : GroupMade old new mid now start.log.mem bodies responses) where
    abbrev virtual : World
    virtual = sent_also now (replies.bytes ++ said_bytes responses)

    -- what a sink holds is no matter to the store
    abbrev made_beside : GroupMade old new (sent_also mid replies.bytes) virtual start.log.mem bodies responses
    made_beside = record {
      left = made.left;
      answered = made.answered;
      quiet = made.quiet;
      each = made.each;
      noisy = made.noisy;
      passes = made.passes;
      faults = made.faults;
      kept = made.kept;
      going = made.going;
      mem_same = made.mem_same;
      leaves = made.leaves;
      on_disk = made.on_disk;
      retired = made.retired;
      batch = made.batch;
    }

    pub answers_batch : held ≡ flat_map frame bodies ++ rest → now.held ≡ mid.held → replies.count + length responses ≤ 16
        → ServesPending speech start new count rest (record { bytes = replies.bytes ++ said_bytes responses; count = replies.count + length responses }) before now
    answers_batch front same room =
        let text : List ℕ = said_bytes responses in
        let gives : Appends (with_sent mid.held replies.bytes) (with_sent now.held (replies.bytes ++ text)) text =
        subst (λ (o : Option (List ℕ)). Appends (with_sent mid.held replies.bytes) (with_sent o (replies.bytes ++ text)) text) (sym same) (took_behind mid.held replies.bytes text) in
        let q = batch_kept start old new count held rest bodies responses before (sent_also mid replies.bytes) virtual p.so_far made_beside front gives replies now.held
        (subst (λ (o : Option (List ℕ)). ArePending replies p.so_far.taken p.so_far.bodies p.so_far.answers before.held o) (sym same) p.pending) room in
        record { so_far = q.0; pending = q.1 }

  -- a batch at a store that stands with contents failed: its first change is the run's interruption, and the others are what the run is continued over
  pub record IsBatchBroken (mid now : DiskView) (mem : ℕ) (old : Held) (x : Contents) (rows : List Cursor) (body : List ℕ) (others : List (List ℕ)) (response : Said) : Type 0 where
    pub done : Position
    pub fault : SaysFault speech mem (position_at old x rows) body response done
    pub asks : AsksToChange speech (position_at old x rows) body response.tag
    pub more : List Exchange
    pub end : Position
    pub batch : IsSpokenBatch speech mem 15 done more end
    pub more_are : map (λ (e : Exchange). e.body) more ≡ others
    pub trail : Trail ShowsTable now mid.moment (table_of (contents_state x) ∷ bare end.table ∷ []) 0
    pub paid : IsPaid (contents_state x) → ArePaidSince now mid.moment

  -- a batch of a run failed, and its first body is answered by the device's fault
  pub record GroupBroken (old : Held) (mid now : World) (mem : ℕ) (body : List ℕ) (others : List (List ℕ)) (response : Said) : Type 0 where
    pub left : now.left ≡ mid.left
    pub responds : AreSaidTo speech (body ∷ []) (response ∷ [])
    pub answer : response.answer ≡ refusal why.DeviceFault
    pub each : AllByRecursion IsBody (body ∷ others)
    pub noisy : SaysCalmly speech body response → ⊥
    pub passes : Passes mid.disk now.disk
    pub rose : Rose mid.disk_faults now.disk_faults
    pub batch : (x : Contents) (rows : List Cursor) → StandsAt mid.disk old x rows → IsBatchBroken mid.disk now.disk mem old x rows body others response

  module _ (start old : Held) (count budget : ℕ) (held rest body : List ℕ) (others : List (List ℕ)) (response : Said) (before mid now : World)
      (p : ServesSoFar speech start old count held before mid) (within : count ≤ budget) (broke : GroupBroken old mid now start.log.mem body others response)
      (front : held ≡ flat_map frame (body ∷ others) ++ rest) (frames : Frames rest) where
    told_fault : fault_told response.answer.reply ≡ Some fault.Device
    told_fault = ap (λ (a : Answer). fault_told a.reply) broke.answer

    abbrev bodies : List (List ℕ)
    bodies = p.bodies ++ ((body ∷ others) ++ frames.bodies)

    abbrev broken : Sitting
    broken = record { taken = p.taken; bodies = bodies; rest = frames.rest; answers = p.answers; broken = Some response }

    -- the bodies answered are the first
    one_more : bodies ≡ (p.bodies ++ body ∷ []) ++ (others ++ frames.bodies)
    one_more = sym (append_assoc p.bodies (body ∷ []) (others ++ frames.bodies))

    answered_all : AreSaidTo speech (p.bodies ++ body ∷ []) (p.answers ++ response ∷ [])
    answered_all = answered_then p.bodies (body ∷ []) p.answers (response ∷ []) p.answered broke.responds

    ahead_broken : WaitsForNone p.taken bodies (length p.answers)
    ahead_broken =
        subst (λ (n : ℕ). WaitsForNone p.taken bodies n) (sym (as_many speech p.bodies p.answers p.answered))
        (ahead_more p.taken p.bodies ((body ∷ others) ++ frames.bodies) (length p.bodies) (omega arith) p.ahead)

    is_broken : IsSitting speech budget broken
    is_broken = record {
      splits = record {
        whole = whole_taken p.taken held frames.rest p.bodies ((body ∷ others) ++ frames.bodies) p.parts (whole_taken held rest frames.rest (body ∷ others) frames.bodies front frames.splits.whole);
        each = each_then p.bodies ((body ∷ others) ++ frames.bodies) p.each (each_then (body ∷ others) frames.bodies broke.each frames.splits.each);
        last = frames.splits.last;
      };
      answered = subst (λ (l : List (List ℕ)). AreSaidTo speech (take (length (p.answers ++ response ∷ [])) l) (p.answers ++ response ∷ [])) (sym one_more)
          (answered_front speech (p.bodies ++ body ∷ []) (others ++ frames.bodies) (p.answers ++ response ∷ []) answered_all);
      calm = p.quiet;
      fault = let there : IsSome (Some fault.Device) = refl in subst (λ (o : Option Fault). IsSome o) (sym told_fault) there;
      within = omega (arith, p.counted, within);
      ahead = ahead_broken;
    }

    output_broken : output_of speech broken ≡ said_bytes p.answers ++ response.sent
    output_broken =
        append-nil (said_bytes (p.answers ++ response ∷ []))
        ∙ flat_map-append (λ (r : Said). r.sent) p.answers (response ∷ [])
        ∙ ap (λ (x : List ℕ). said_bytes p.answers ++ x) (append-nil (response.sent))

    -- the session is a run of the table, broken off by the device and continued over the rest of the batch
    run_broken : (f : Image) (t : Table) (so_far : RunSoFar speech start old before.disk mid.disk f t p.bodies p.answers)
        → IsBatchBroken mid.disk now.disk start.log.mem old so_far.contents so_far.rows body others response → FollowsSpokenRun speech before.disk now.disk f t broken
    run_broken f t so_far is =
        let interruption : Interruption = record { body = body; response = response_of response; done = is.done } in
        let transcript : Transcript = record { exchanges = so_far.exchanges; after = position_at old so_far.contents so_far.rows; interruption = Some interruption } in
        let bodies_all : bodies_of transcript ≡ p.bodies ++ body ∷ [] = ap (λ (l : List (List ℕ)). l ++ body ∷ []) so_far.bodies_are in
        let more_all : bodies_of transcript ++ map (λ (e : Exchange). e.body) is.more ≡ (p.bodies ++ body ∷ []) ++ others = (λ i. bodies_all i ++ is.more_are i) in
        let list : bodies ≡ ((p.bodies ++ body ∷ []) ++ others) ++ frames.bodies = one_more ∙ sym (append_assoc (p.bodies ++ body ∷ []) others frames.bodies) in
        let count : length (bodies_of transcript) + length is.more ≡ length ((p.bodies ++ body ∷ []) ++ others) =
        omega (arith, ap length bodies_all, ap length is.more_are, length-map is.more (λ (e : Exchange). e.body), length-append (p.bodies ++ body ∷ []) others) in
        let same : length so_far.exchanges + 0 ≡ length so_far.exchanges = omega arith in
        let continued : SpokenContinuation speech start.log.mem transcript = record {
          more = is.more;
          end = is.end;
          none = λ other. absurd (other broke.answer);
          batch = is.batch;
          change = inr is.asks;
        } in
        let spoken : IsSpokenTranscript speech start.log.mem so_far.from transcript p.answers (Some response) = record { run = so_far.run; interrupted = (response, refl, refl, is.fault) } in
        record {
          mem = start.log.mem;
          start = so_far.from;
          begins = so_far.begins;
          table = so_far.table;
          transcript = transcript;
          is = spoken;
          region = fits_regions speech start.log.mem (omega (arith, p.lawful.lawful.mem_least, p.lawful.log.mem, p.mem)) so_far.from transcript p.answers (Some response) spoken (begins_fit f start.log.mem so_far.from so_far.begins);
          front = ap (take (length (bodies_of transcript))) one_more
              ∙ take_at (p.bodies ++ body ∷ []) (others ++ frames.bodies) (length (bodies_of transcript)) (sym (ap length bodies_all)) ∙ sym bodies_all;
          answers_are = so_far.answers_are;
          broken_is = refl;
          device = broke.answer;
          continued = continued;
          next = ap (take (length (bodies_of transcript) + length is.more)) list
              ∙ take_at ((p.bodies ++ body ∷ []) ++ others) frames.bodies (length (bodies_of transcript) + length is.more) (sym count) ∙ sym more_all;
          follows = subst (λ (n : ℕ). FollowsFrom before.disk now.disk f (tables_before so_far.exchanges ++ table_of (contents_state so_far.contents) ∷ bare is.end.table ∷ []) n) same
              (follows_more before.disk mid.disk now.disk f so_far.exchanges (table_of (contents_state so_far.contents)) (bare is.end.table) 0 broke.passes so_far.follows is.trail
              (λ first. is.paid (paid_so_far speech start old before.disk mid.disk f t p.bodies p.answers so_far first)));
        }

    -- the run ended so
    halts : (how : Ended) → SendsSaid speech how before.held now.held broken → EndsFor how budget (session_of broken) now.left → ServedBy speech budget how before now
    halts how sends ends = record {
      head = head_held start;
      found = p.found;
      sitting = broken;
      is = is_broken;
      took = subst (λ (x : Option (List ℕ)). Took before.left x p.taken) (sym broke.left) p.took;
      sends = sends;
      ends = ends;
      faulted = λ _. subst (λ (n : ℕ). Rose n now.disk_faults) p.calm broke.rose;
      calm = λ other. absurd (other told_fault);
      damaged = λ b told. absurd (let e : ◌≡◌ {A = Option Fault} (Some fault.Device) (Some (fault.Damaged b)) = sym told_fault ∙ told in cc);
      left = λ other f exposed. absurd (other told_fault);
      still = λ calm.
          let parts = subst (λ (l : List (List ℕ)). AreSaidCalmly speech l (p.answers ++ response ∷ [])) one_more calm in
          let only = calm_back p.bodies (body ∷ []) p.answers (response ∷ []) p.answered (calm_front speech (p.bodies ++ body ∷ []) (others ++ frames.bodies) (p.answers ++ response ∷ []) answered_all parts) in
          absurd (broke.noisy only.0);
      follows = λ f t e shows. let so_far = p.runs f t e shows in run_broken f t so_far (broke.batch so_far.contents so_far.rows so_far.stands);
    }

    -- the pending replies were sent, that of its first body the last, or the sink failed at them
    batch_ends : (result : Ended) (replies : Pending) (sent : Option (List ℕ)) (was is : ℕ) → mid.held ≡ with_sent sent replies.bytes → ArePending replies p.taken p.bodies p.answers before.held sent
        → replies.count + 1 ≤ 16 → SendsAtEnd ended.Device result sent now.held was is (replies.bytes ++ response.sent) → ServedBy speech budget result before now
    batch_ends result replies sent was is there pending room (inl all) =
        let more : Appends mid.held now.held (response.sent) =
        subst (λ (o : Option (List ℕ)). Appends o now.held (response.sent)) (sym there) (appends_behind sent now.held replies.bytes (response.sent) all.1) in
        subst (λ (x : Ended). ServedBy speech budget x before now) (sym all.0)
        (halts ended.Device
        (subst (λ (x : List ℕ). Appends before.held now.held x) (sym output_broken)
        (sent_then before.held mid.held now.held (said_bytes p.answers) (response.sent) p.sent more))
        told_fault)
    batch_ends result replies sent was is there pending room (inr cut) =
        subst (λ (x : Ended). ServedBy speech budget x before now) (sym cut.0)
        (halts ended.Sink
        (sends_but speech replies p.taken p.bodies p.answers before.held sent pending (as_many speech p.bodies p.answers p.answered) now.held (response.sent) cut.1
        broken ((body ∷ others) ++ frames.bodies) (response ∷ []) [] refl refl refl (output_broken ∙ sym (append-nil (said_bytes p.answers ++ response.sent))) room)
        tt)

  -- the device failed at a batch, whose first body was answered so behind the pending replies
  pub batch_broken : (start old : Held) (count budget : ℕ) (held rest body : List ℕ) (others : List (List ℕ)) (response : Said) (replies : Pending) (before mid now : World)
      → ServesPending speech start old count held replies before mid → count ≤ budget → GroupBroken old mid now start.log.mem body others response
      → held ≡ flat_map frame (body ∷ others) ++ rest → Frames rest → replies.count + 1 ≤ 16
      → (result : Ended) (was is : ℕ) → SendsAtEnd ended.Device result mid.held now.held was is (replies.bytes ++ response.sent) → ServedBy speech budget result before now
  batch_broken start old count budget held rest body others response replies before mid now p within broke front frames room result was is ends =
      batch_ends start old count budget held rest body others response before (sent_also mid replies.bytes) now p.so_far within
      (record {
        left = broke.left;
        responds = broke.responds;
        answer = broke.answer;
        each = broke.each;
        noisy = broke.noisy;
        passes = broke.passes;
        rose = broke.rose;
        batch = broke.batch;
      })
      front frames result replies mid.held was is refl p.pending room ends
