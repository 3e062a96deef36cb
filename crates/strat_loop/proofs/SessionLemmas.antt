-- How a serving run ends.
use Rattle.std.proofs.Common.{◌≡◌, ◌≢◌, ℕ, ◌+◌, ◌-◌, ◌*◌, ◌<◌, ◌≤◌, true, false, cond, eqb, List, [], ◌∷◌, ◌++◌, length, take, map, Option, Some, None, refl, sym, ap, subst, ◌∙◌, ◌⊎◌, append_assoc, length-append, inl, inr, arith}
use Rattle.std.specs.Prelude.{IsSome, is_some}
use Rattle.std.specs.List.{flat_map, AllByRecursion}
use Rattle.std.proofs.lemmas.Bool.{and_right, or_left, or_right, eq-eqb, ne_eqb, cases_eq}
use Rattle.std.proofs.lemmas.List.{append-nil, length-map, take_at}
use Rattle.std.proofs.lemmas.List.Concat.{flat_map-append}
use Rattle.strat_base.specs.declared.failures.Fault.{Fault}
use Rattle.strat_base.specs.declared.failures.Fault.TheVariants as fault
use Rattle.strat_base.specs.Numbers.{AreBytes}
use Rattle.def_crash.specs.Faults.{Rose}
use Rattle.def_crash.specs.Image.{Image}
use Rattle.def_crash.specs.Moments.{DiskView, Passes}
use Rattle.strat_io.specs.Streams.{Appends}
use Rattle.strat_model.specs.Faults.{broken_by, fault_told}
use Rattle.strat_model.specs.declared.ended.Ended.{Ended}
use Rattle.strat_model.specs.declared.ended.Ended.TheVariants as ended
use Rattle.strat_model.specs.Answer.{Answer}
use Rattle.strat_model.specs.Stream.{frame, IsBody, is_partial, is_too_long, Splits, Whole, Rest, Long, ending_of}
use Rattle.strat_model.specs.Table.{Table, bare}
use Rattle.def_state.specs.State.{State}
use Rattle.strat_model.specs.Batch.{tables_before}
use Rattle.strat_model.specs.Run.{Exchange, Interruption, Position, Transcript, bodies_of}
use Rattle.def_meaning.specs.StateTable.{table_of}
use Rattle.def_publish.specs.Contents.{contents_state}
use Rattle.def_publish.specs.Standing.{ShowsTable}
use Rattle.strat_open.specs.Following.{FollowsFrom}
use Rattle.strat_memory.specs.Held.{Held, IsConsistent, IsOnDisk, head_held, position_at}
use Rattle.strat_memory.proofs.PayingLemmas.{paid_now}
use Rattle.strat_loop.specs.Session.{Begins, Took, IsAtEnd, SendsPrefix, AnswersAll, EndsFor, IsFoundAs, WaitsForNone}
use Rattle.strat_loop.specs.Pending.{Pending, ArePending, SendsAtEnd, with_sent}
use Rattle.strat_loop.specs.World.{World}
use Rattle.strat_loop.proofs.BatchedLemmas.{continues_over_nothing}
use Rattle.strat_loop.proofs.BeginLemmas.{found_as}
use Rattle.strat_loop.proofs.FillLemmas.{begins_fit, fits_regions}
use Rattle.strat_loop.specs.Progress.{ServesSoFar, RunSoFar}
use Rattle.strat_loop.proofs.PendingLemmas.{ahead_more, appends_behind, sends_but, sent_then}
use Rattle.strat_loop.proofs.ProgressLemmas.{Answered, follows_more, answered_more, as_many, step_responds, step_damaged, step_paid, step_reads, gate_still, calm_front, calm_parts}
use Rattle.strat_loop.proofs.PublishedLemmas.{published_still}
use Rattle.strat_loop.proofs.StreamLemmas.{Frames, frames_of, partial_not_long}
use Rattle.strat_loop.specs.Speech.{IsSpokenTranscript, Said, SaysFault, Speech, said_bytes, response_of}
use Rattle.strat_loop.specs.Spoken.{AreSaidCalmly, AreSaidTo, ContinuesWith, FollowsSpokenRun, IsSitting, SendsSaid, ServedBy, Sitting, StopsWith, all_said, last_said, output_of, session_of}

-- bodies one after the other that fit
pub each_then : (xs : List (List ℕ)) (ys : List (List ℕ)) → AllByRecursion IsBody xs → AllByRecursion IsBody ys → AllByRecursion IsBody (xs ++ ys)
each_then [] ys first second = second
each_then (x ∷ xs) ys first second = (first.0, each_then xs ys first.1 second)

-- frames taken, and the frames and the rest of what was held
pub whole_taken : (taken held rest : List ℕ) (bodies others : List (List ℕ)) → taken ≡ flat_map frame bodies ++ held → held ≡ flat_map frame others ++ rest → taken ≡ flat_map frame (bodies ++ others) ++ rest
whole_taken taken held rest bodies others front back =
    front ∙ ap (λ (x : List ℕ). flat_map frame bodies ++ x) back
    ∙ sym (append_assoc (flat_map frame bodies) (flat_map frame others) rest)
    ∙ ap (λ (x : List ℕ). x ++ rest) (sym (flat_map-append frame bodies others))

-- a content that was exposed before is exposed still
still_some : (before mid : DiskView) (f : Image) → Passes before mid → before.content ≡ Some f → (g : Image) × (mid.content ≡ Some g)
still_some before mid f passes e = go mid.content refl (passes.exposed (some before.content e))
  where
    some : (o : Option Image) → o ≡ Some f → IsSome o
    some (Some g) e = refl
    some None e = absurd (let x : ◌≡◌ {A = Option Image} None (Some f) = e in cc)

    go : (o : Option Image) → mid.content ≡ o → IsSome o → (g : Image) × (mid.content ≡ Some g)
    go (Some g) is there = (g, is)
    go None is there = absurd cc

module _ (speech : Speech) where
  -- the responses to the first of some bodies
  pub answered_front : (bodies others : List (List ℕ)) (answers : List Said) → AreSaidTo speech bodies answers → AreSaidTo speech (take (length answers) (bodies ++ others)) answers
  answered_front [] others [] all = tt
  answered_front [] others (r ∷ rs) all = absurd all
  answered_front (b ∷ bs) others [] all = absurd all
  answered_front (b ∷ bs) others (r ∷ rs) all = (all.0, answered_front bs others rs all.1)

  -- a run that was not broken, over the bodies answered and others behind them
  module _ (start current : Held) (count budget : ℕ) (held : List ℕ) (before now : World) (p : ServesSoFar speech start current count held before now) (within : count ≤ budget) where
    abbrev session : List (List ℕ) → List ℕ → Sitting
    session others rest = record { taken = p.taken; bodies = p.bodies ++ others; rest = rest; answers = p.answers; broken = None }

    tolds_all : all_said (session [] held) ≡ p.answers
    tolds_all = append-nil p.answers

    -- the last piece was read when all that waited had been answered
    ahead_all : (others : List (List ℕ)) → WaitsForNone p.taken (p.bodies ++ others) (length p.answers)
    ahead_all others =
        subst (λ (n : ℕ). WaitsForNone p.taken (p.bodies ++ others) n) (sym (as_many speech p.bodies p.answers p.answered))
        (ahead_more p.taken p.bodies others (length p.bodies) (omega arith) p.ahead)

    is_session : (others : List (List ℕ)) (rest : List ℕ) → Splits held others rest → IsSitting speech budget (session others rest)
    is_session others rest splits = record {
      splits = record {
        whole = whole_taken p.taken held rest p.bodies others p.parts splits.whole;
        each = each_then p.bodies others p.each splits.each;
        last = splits.last;
      };
      answered = subst (λ (l : List Said). AreSaidTo speech (take (length l) (p.bodies ++ others)) l) (sym tolds_all) (answered_front p.bodies others p.answers p.answered);
      calm = p.quiet;
      fault = tt;
      within = omega (arith, p.counted, within);
      ahead = ahead_all others;
    }

    many_all : length p.answers ≡ length (p.bodies ++ [])
    many_all = as_many speech p.bodies p.answers p.answered ∙ ap length (sym (append-nil p.bodies))

    is_whole : AnswersAll (session_of (session [] held))
    is_whole = record { all = length-map p.answers response_of ∙ many_all; unbroken = refl }

    -- the session is a run of the table
    follows_unbroken : (others : List (List ℕ)) (rest : List ℕ) (f : Image) (t : Table) → before.disk.content ≡ Some f → ShowsTable f t → FollowsSpokenRun speech before.disk now.disk f t (session others rest)
    follows_unbroken others rest f t exposed shows =
        let so_far = p.runs f t exposed shows in
        let transcript : Transcript = record { exchanges = so_far.exchanges; after = position_at current so_far.contents so_far.rows; interruption = None } in
        let bodies_all : bodies_of transcript ≡ p.bodies = append-nil (map (λ (x : Exchange). x.body) so_far.exchanges) ∙ so_far.bodies_are in
        let front : take (length (bodies_of transcript)) (p.bodies ++ others) ≡ bodies_of transcript = take_at p.bodies others (length (bodies_of transcript)) (sym (ap length bodies_all)) ∙ sym bodies_all in
        let continues = continues_over_nothing speech before.disk now.disk f start.log.mem (p.bodies ++ others) transcript front so_far.follows in
        let is : IsSpokenTranscript speech start.log.mem so_far.from transcript p.answers None = record { run = so_far.run; interrupted = tt } in
        record {
          mem = start.log.mem;
          start = so_far.from;
          begins = so_far.begins;
          table = so_far.table;
          transcript = transcript;
          is = is;
          region = fits_regions speech start.log.mem (omega (arith, p.lawful.lawful.mem_least, p.lawful.log.mem, p.mem)) so_far.from transcript p.answers None is (begins_fit f start.log.mem so_far.from so_far.begins);
          front = front;
          answers_are = so_far.answers_are;
          broken_is = refl;
          device = tt;
          continued = continues.continued;
          next = continues.next;
          follows = continues.follows;
        }

    -- all that was said so far
    sent_so_far : Appends before.held now.held (said_bytes (all_said (session [] held)))
    sent_so_far = subst (λ (x : List Said). Appends before.held now.held (said_bytes x)) (sym tolds_all) p.sent

    -- the run ended so, with these bytes sent
    served : (how : Ended) (others : List (List ℕ)) (rest : List ℕ) → Splits held others rest → (sent : Option (List ℕ)) (faults : ℕ)
        → SendsSaid speech how before.held sent (session others rest) → EndsFor how budget (session_of (session others rest)) now.left
        → ServedBy speech budget how before (record now { held = sent; sink_faults = faults })
    served how others rest splits sent faults sends ends = record {
      head = head_held start;
      found = p.found;
      sitting = session others rest;
      is = is_session others rest splits;
      took = p.took;
      sends = sends;
      ends = ends;
      faulted = λ told. absurd told;
      calm = λ _. p.calm;
      damaged = λ block told. absurd told;
      left = λ _ f exposed. (
        current,
        p.lawful,
        p.on_disk f exposed,
        λ t shows.
            let so_far = p.runs f t exposed shows in (
              found_as now.disk current so_far.contents so_far.stands.stands,
              p.lawful.log.few,
            ),
      );
      still = λ calm. p.still (calm_front speech p.bodies others p.answers p.answered (subst (λ (l : List Said). AreSaidCalmly speech (p.bodies ++ others) l) tolds_all calm));
      follows = follows_unbroken others rest;
    }

    -- the sink failed at the replies that were pending
    pub ends_cut : (replies : Pending) (sent now_sent : Option (List ℕ)) (faults : ℕ) → Frames held → ArePending replies p.taken p.bodies p.answers before.held sent → SendsPrefix sent now_sent replies.bytes
        → ServedBy speech budget ended.Sink before (record now { held = now_sent; sink_faults = faults })
    ends_cut replies sent now_sent faults f pending cut =
        let last = last_said speech None (eqb (length p.answers) (length (session f.bodies f.rest).bodies)) (is_too_long f.rest) in
        let output_is : said_bytes (all_said (session f.bodies f.rest)) ++ last ≡ (said_bytes p.answers ++ []) ++ last =
        ap (λ (x : List ℕ). x ++ last) (ap said_bytes tolds_all ∙ sym (append-nil (said_bytes p.answers))) in
        served ended.Sink f.bodies f.rest f.splits now_sent faults
        (sends_but speech replies p.taken p.bodies p.answers before.held sent pending (as_many speech p.bodies p.answers p.answered) now_sent []
        (subst (λ (x : List ℕ). SendsPrefix sent now_sent x) (sym (append-nil replies.bytes)) cut)
        (session f.bodies f.rest) f.bodies [] last refl refl refl output_is (omega (arith, pending.room)))
        tt

    -- behind the answers stands a frame that is too long
    module _ (long : is_too_long held ≡ true) where
      splits_long : Splits held [] held
      splits_long = record { whole = refl; each = tt; last = or_left (is_too_long held) (is_partial held) long }

      said_long : output_of speech (session [] held) ≡ said_bytes (all_said (session [] held)) ++ speech.too_long
      said_long = let all : eqb (length p.answers) (length (session [] held).bodies) ≡ true = eq-eqb _ _ many_all in rw (all, long) refl

      -- which was answered behind the replies that were pending, or the sink failed at these
      pub ends_long : (result : Ended) (replies : Pending) (sent now_sent : Option (List ℕ)) (was faults : ℕ) → now.held ≡ with_sent sent replies.bytes → ArePending replies p.taken p.bodies p.answers before.held sent
          → SendsAtEnd ended.FrameTooLong result sent now_sent was faults (replies.bytes ++ speech.too_long) → ServedBy speech budget result before (record now { held = now_sent; sink_faults = faults })
      ends_long result replies sent now_sent was faults there pending (inl all) =
          let more : Appends now.held now_sent speech.too_long = subst (λ (o : Option (List ℕ)). Appends o now_sent speech.too_long) (sym there) (appends_behind sent now_sent replies.bytes speech.too_long all.1) in
          subst (λ (how : Ended). ServedBy speech budget how before (record now { held = now_sent; sink_faults = faults })) (sym all.0)
          (served ended.FrameTooLong [] held splits_long now_sent faults
          (subst (λ (x : List ℕ). Appends before.held now_sent x) (sym said_long) (sent_then before.held now.held now_sent (said_bytes (all_said (session [] held))) speech.too_long sent_so_far more))
          (is_whole, let e : ending_of held ≡ Long = rw long refl in e))
      ends_long result replies sent now_sent was faults there pending (inr cut) =
          let output_is : output_of speech (session [] held) ≡ (said_bytes p.answers ++ speech.too_long) ++ [] =
          said_long ∙ ap (λ (l : List Said). said_bytes l ++ speech.too_long) tolds_all ∙ sym (append-nil (said_bytes p.answers ++ speech.too_long)) in
          subst (λ (how : Ended). ServedBy speech budget how before (record now { held = now_sent; sink_faults = faults })) (sym cut.0)
          (served ended.Sink [] held splits_long now_sent faults
          (sends_but speech replies p.taken p.bodies p.answers before.held sent pending (as_many speech p.bodies p.answers p.answered) now_sent speech.too_long cut.1
          (session [] held) [] [] [] refl refl refl output_is (omega (arith, pending.room)))
          tt)

    -- behind the answers stands less than a frame
    module _ (part : is_partial held ≡ true) where
      splits_part : Splits held [] held
      splits_part = record { whole = refl; each = tt; last = or_right (is_too_long held) (is_partial held) part }

      said_all : output_of speech (session [] held) ≡ said_bytes (all_said (session [] held))
      said_all = rw (partial_not_long held part) (rw (and_right (eqb (length p.answers) (length (session [] held).bodies)) false refl) (append-nil (said_bytes (all_said (session [] held)))))

      not_long : ending_of held ≢ Long
      not_long e = let f : cond (eqb (length held) 0) Whole Rest ≡ Long = rw (partial_not_long held part) at e in
          elim (eqb (length held) 0) as (λ b. cond b Whole Rest ≡ Long → ⊥) [ true ↦ λ f. absurd cc | false ↦ λ f. absurd cc ] f

      sends_all : Appends before.held now.held (output_of speech (session [] held))
      sends_all = subst (λ (x : List ℕ). Appends before.held now.held x) (sym said_all) sent_so_far

      -- the source ended
      pub ends_at_end : count < budget → (how : Ended) → (length held ≡ 0 → how ≡ ended.Done) → (length held ≢ 0 → how ≡ ended.Truncated) → IsAtEnd now.left → ServedBy speech budget how before now
      ends_at_end less how done truncated end =
          let fewer : length p.taken < budget = omega (arith, p.counted) in
          elim (cases_eq (length held) 0) [
            | inl none ↦ subst (λ (x : Ended). ServedBy speech budget x before now) (sym (done none))
                (served ended.Done [] held splits_part now.held now.sink_faults sends_all (is_whole, let e : ending_of held ≡ Whole = rw (partial_not_long held part, none) refl in e, end, fewer))
            | inr some ↦ subst (λ (x : Ended). ServedBy speech budget x before now) (sym (truncated some))
                (let none : eqb (length held) 0 ≡ false = ne_eqb _ _ some in
                served ended.Truncated [] held splits_part now.held now.sink_faults sends_all (is_whole, let e : ending_of held ≡ Rest = rw (partial_not_long held part, none) refl in e, end, fewer))
          ]

      -- the budget was used up
      pub ends_budget : count ≡ budget → ServedBy speech budget ended.Budget before now
      ends_budget all = served ended.Budget [] held splits_part now.held now.sink_faults sends_all (is_whole, not_long, p.counted ∙ all)

      -- the source failed
      pub ends_source : ServedBy speech budget ended.Source before now
      ends_source = served ended.Source [] held splits_part now.held now.sink_faults sends_all (is_whole, not_long)

  -- the next body was answered
  module _ (start old new : Held) (count budget : ℕ) (held rest body : List ℕ) (met : Option Fault) (out : List ℕ) (before mid now : World)
      (p : ServesSoFar speech start old count held before mid) (within : count ≤ budget) (done : Answered speech old new mid now body met out)
      (front : held ≡ frame body ++ rest) (fits : IsBody body) (bytes : AreBytes rest) where
    abbrev response : Said
    response = done.is.response

    -- it met a fault
    module _ (f : Fault) (some : met ≡ Some f) where
      tells : fault_told response.answer.reply ≡ Some f
      tells = sym done.is.tells ∙ some

      abbrev broken : Sitting
      broken =
          let s = frames_of rest bytes in
          record { taken = p.taken; bodies = (p.bodies ++ body ∷ []) ++ s.bodies; rest = s.rest; answers = p.answers; broken = Some response }

      -- the last piece was read when all that waited had been answered otherwise
      ahead_broken : WaitsForNone p.taken broken.bodies (length p.answers)
      ahead_broken =
          let s = frames_of rest bytes in
          let most : length p.answers ≡ length p.bodies = as_many speech p.bodies p.answers p.answered in
          ahead_more p.taken (p.bodies ++ body ∷ []) s.bodies (length p.answers) (omega (arith, most, length-append p.bodies (body ∷ [])))
          (subst (λ (n : ℕ). WaitsForNone p.taken (p.bodies ++ body ∷ []) n) (sym most) (ahead_more p.taken p.bodies (body ∷ []) (length p.bodies) (omega arith) p.ahead))

      is_broken : IsSitting speech budget broken
      is_broken =
          let s = frames_of rest bytes in
          let one : held ≡ flat_map frame (body ∷ []) ++ rest = front ∙ ap (λ (x : List ℕ). x ++ rest) (sym (append-nil (frame body))) in
          record {
            splits = record {
              whole = whole_taken p.taken rest s.rest (p.bodies ++ body ∷ []) s.bodies (whole_taken p.taken held rest p.bodies (body ∷ []) p.parts one) s.splits.whole;
              each = each_then (p.bodies ++ body ∷ []) s.bodies (each_then p.bodies (body ∷ []) p.each (fits, tt)) s.splits.each;
              last = s.splits.last;
            };
            answered = answered_front (p.bodies ++ body ∷ []) s.bodies (p.answers ++ response ∷ []) (answered_more speech p.bodies p.answers body response p.answered (step_responds speech mid.disk now.disk old body met new out done.is));
            calm = p.quiet;
            fault = let there : IsSome (Some f) = refl in subst (λ (o : Option Fault). IsSome o) (sym tells) there;
            within = omega (arith, p.counted, within);
            ahead = ahead_broken;
          }

      output_broken : output_of speech broken ≡ said_bytes p.answers ++ response.sent
      output_broken =
          append-nil (said_bytes (p.answers ++ response ∷ []))
          ∙ flat_map-append (λ (r : Said). r.sent) p.answers (response ∷ [])
          ∙ ap (λ (x : List ℕ). said_bytes p.answers ++ x) (append-nil (response.sent))

      -- the session is a run of the table, broken off by the device
      run_broken : (g : Image) (t : Table) (so_far : RunSoFar speech start old before.disk mid.disk g t p.bodies p.answers)
          → ContinuesWith speech mid.disk now.disk old so_far.contents so_far.rows body response new ⊎ StopsWith speech mid.disk now.disk old so_far.contents so_far.rows body response
          → FollowsSpokenRun speech before.disk now.disk g t broken
      run_broken g t so_far (inl goes) = absurd (let x : false ≡ true = sym goes.going ∙ done.spent ∙ ap is_some some in cc)
      run_broken g t so_far (inr stops) =
          let s = frames_of rest bytes in
          let interruption : Interruption = record { body = body; response = response_of response; done = stops.done } in
          let transcript : Transcript = record { exchanges = so_far.exchanges; after = position_at old so_far.contents so_far.rows; interruption = Some interruption } in
          let bodies_all : bodies_of transcript ≡ p.bodies ++ body ∷ [] = ap (λ (l : List (List ℕ)). l ++ body ∷ []) so_far.bodies_are in
          let same : length so_far.exchanges + 0 ≡ length so_far.exchanges = omega arith in
          let front : take (length (bodies_of transcript)) broken.bodies ≡ bodies_of transcript = take_at (p.bodies ++ body ∷ []) s.bodies (length (bodies_of transcript)) (sym (ap length bodies_all)) ∙ sym bodies_all in
          let continues = continues_over_nothing speech before.disk now.disk g start.log.mem broken.bodies transcript front
          (subst (λ (n : ℕ). FollowsFrom before.disk now.disk g (tables_before so_far.exchanges ++ table_of (contents_state so_far.contents) ∷ bare stops.done.table ∷ []) n) same
          (follows_more before.disk mid.disk now.disk g so_far.exchanges (table_of (contents_state so_far.contents)) (bare stops.done.table) 0 done.passes so_far.follows stops.trail
          (λ first.
          step_paid speech mid.disk now.disk old body met new out done.is so_far.contents so_far.stands.stands
          (paid_now mid.disk so_far.follows.synced so_far.contents so_far.stands.stands.stands so_far.follows.till (so_far.follows.paid first))))) in
          let is : IsSpokenTranscript speech start.log.mem so_far.from transcript p.answers (Some response) = record {
            run = so_far.run;
            interrupted = (response, refl, refl, subst (λ (m : ℕ). SaysFault speech m (position_at old so_far.contents so_far.rows) body response stops.done) p.mem stops.fault);
          } in
          record {
            mem = start.log.mem;
            start = so_far.from;
            begins = so_far.begins;
            table = so_far.table;
            transcript = transcript;
            is = is;
            region = fits_regions speech start.log.mem (omega (arith, p.lawful.lawful.mem_least, p.lawful.log.mem, p.mem)) so_far.from transcript p.answers (Some response) is (begins_fit g start.log.mem so_far.from so_far.begins);
            front = front;
            answers_are = so_far.answers_are;
            broken_is = refl;
            device = stops.answer;
            continued = continues.continued;
            next = continues.next;
            follows = continues.follows;
          }

      -- no block is found damaged on a disk that shows a table
      none_damaged : (b : ℕ) → f ≡ fault.Damaged b → (g : Image) (t : Table) → before.disk.content ≡ Some g → ShowsTable g t → ⊥
      none_damaged b same g t exposed shows =
          let so_far = p.runs g t exposed shows in
          elim (done.is.run so_far.contents so_far.rows so_far.stands) [
            | inl goes ↦ absurd (let x : false ≡ true = sym goes.going ∙ done.spent ∙ ap is_some some in cc)
            | inr stops ↦
                absurd (let x : ◌≡◌ {A = Option Fault} (Some fault.Device) (Some (fault.Damaged b)) = sym (ap (λ (a : Answer). fault_told a.reply) stops.answer) ∙ tells ∙ ap (λ (k : Fault). Some k) same in cc)
          ]

      -- the superblock and the manifest of the store, unless the device failed
      left_on : (k : Fault) → f ≡ k → (fault_told response.answer.reply ≡ Some fault.Device → ⊥) → (g : Image) → before.disk.content ≡ Some g
          → (store : Held) × IsConsistent store × IsOnDisk now.disk store × ((t : Table) (shows : ShowsTable g t) → IsFoundAs now.disk store × (length store.log.list ≤ 2 * store.sb.mem - 2))
      left_on fault.Device same other g exposed = absurd (other (tells ∙ ap (λ (x : Fault). Some x) same))
      left_on (fault.Damaged b) same other g exposed = (
        old,
        p.lawful,
        step_damaged speech mid.disk now.disk old body met new out done.is b (some ∙ ap (λ (x : Fault). Some x) same) (p.on_disk g exposed),
        λ t shows. absurd (none_damaged b same g t exposed shows),
      )

      -- the run ended so, with the fault told or not
      halts : Passes before.disk mid.disk → (how : Ended) → SendsSaid speech how before.held now.held broken → EndsFor how budget (session_of broken) now.left → ServedBy speech budget how before now
      halts passes how sends ends = record {
        head = head_held start;
        found = p.found;
        sitting = broken;
        is = is_broken;
        took = subst (λ (x : Option (List ℕ)). Took before.left x p.taken) (sym done.left) p.took;
        sends = sends;
        ends = ends;
        faulted = λ told. subst (λ (n : ℕ). Rose n now.disk_faults) p.calm (done.cause.rose (done.is.tells ∙ told));
        calm = λ other. done.cause.same (λ e. other (sym done.is.tells ∙ e)) ∙ p.calm;
        damaged = λ b told.
            let e : met ≡ Some (fault.Damaged b) = done.is.tells ∙ told in
            let found = done.damaged b e in
            record {
              store = old;
              lawful = p.lawful;
              on_disk = λ g exposed. step_damaged speech mid.disk now.disk old body met new out done.is b e (p.on_disk g exposed);
              named = λ g exposed a among. published_still before.disk mid.disk now.disk a done.passes (p.named g exposed a among);
              content = mid.disk.content;
              exposed = λ g exposed. let there = still_some before.disk mid.disk g passes exposed in subst IsSome (sym there.1) refl;
              listed = found.0;
              bad = λ g exposed. found.1 (p.on_disk g exposed);
              kept = found.2;
            };
        left = λ other g exposed. left_on f refl other g exposed;
        still = λ calm g exposed.
            let s = frames_of rest bytes in
            let parts = calm_parts speech p.bodies p.answers body response p.answered
            (calm_front speech (p.bodies ++ body ∷ []) s.bodies (p.answers ++ response ∷ [])
            (answered_more speech p.bodies p.answers body response p.answered (step_responds speech mid.disk now.disk old body met new out done.is)) calm) in
            let gate = p.still parts.0 g exposed in
            (gate.0, gate.1, gate_still before.disk mid.disk now.disk g gate.0 gate.1 gate.2 p.passes (step_reads speech mid.disk now.disk old body met new out done.is parts.1));
        follows = λ g t e shows. let so_far = p.runs g t e shows in run_broken g t so_far (done.is.run so_far.contents so_far.rows so_far.stands);
      }

      -- the sink failed at the replies that were pending, its own the last
      fault_cut : Passes before.disk mid.disk → (replies : Pending) (sent : Option (List ℕ)) → ArePending replies p.taken p.bodies p.answers before.held sent → replies.count + 1 ≤ 16
          → SendsPrefix sent now.held (replies.bytes ++ response.sent) → ServedBy speech budget ended.Sink before now
      fault_cut passes replies sent pending room cut =
          halts passes ended.Sink
          (sends_but speech replies p.taken p.bodies p.answers before.held sent pending (as_many speech p.bodies p.answers p.answered) now.held (response.sent) cut
          broken (body ∷ (frames_of rest bytes).bodies) (response ∷ []) [] refl (append_assoc p.bodies (body ∷ []) (frames_of rest bytes).bodies) refl
          (output_broken ∙ sym (append-nil (said_bytes p.answers ++ response.sent))) room)
          tt

      -- all of it was sent
      sends_broken : Appends mid.held now.held out → Appends before.held now.held (output_of speech broken)
      sends_broken sent =
          subst (λ (x : List ℕ). Appends before.held now.held x) (sym output_broken)
          (sent_then before.held mid.held now.held (said_bytes p.answers) (response.sent) p.sent (subst (λ (x : List ℕ). Appends mid.held now.held x) done.is.spelled sent))

      -- the pending replies were sent, its own the last, or the sink failed at them
      pub ends_broken : Passes before.disk mid.disk → (how result : Ended) → how ≡ broken_by f → (replies : Pending) (sent : Option (List ℕ)) (was is : ℕ) → mid.held ≡ with_sent sent replies.bytes
          → ArePending replies p.taken p.bodies p.answers before.held sent → replies.count + 1 ≤ 16 → SendsAtEnd how result sent now.held was is (replies.bytes ++ out) → ServedBy speech budget result before now
      ends_broken passes how result is replies sent was faults there pending room (inl all) =
          let more : Appends mid.held now.held out = subst (λ (o : Option (List ℕ)). Appends o now.held out) (sym there) (appends_behind sent now.held replies.bytes out all.1) in
          subst (λ (x : Ended). ServedBy speech budget x before now) (sym (all.0 ∙ is)) (ends f refl more)
        where
          ends : (g : Fault) → f ≡ g → Appends mid.held now.held out → ServedBy speech budget (broken_by g) before now
          ends fault.Device same more = halts passes ended.Device (sends_broken more) (tells ∙ ap (λ (x : Fault). Some x) same)
          ends (fault.Damaged b) same more = halts passes (ended.Damaged b) (sends_broken more) (tells ∙ ap (λ (x : Fault). Some x) same)
      ends_broken passes how result is replies sent was faults there pending room (inr cut) =
          subst (λ (x : Ended). ServedBy speech budget x before now) (sym cut.0)
          (fault_cut passes replies sent pending room (subst (λ (x : List ℕ). SendsPrefix sent now.held (replies.bytes ++ x)) done.is.spelled cut.1))
