-- What a commit of staged changes makes of a run.
use Rattle.std.proofs.Common.{◌≡◌, ◌≤◌, ℕ, true, false, true≢false, List, [], ◌∷◌, ◌++◌, length, refl, sym, ap, subst, ◌∙◌, inl, inr, append-nil, arith}
use Rattle.std.specs.Prelude.{Contains, IfSome}
use Rattle.std.specs.List.{AllByRecursion}
use Rattle.std.proofs.lemmas.Bool.{and_parts}
use Rattle.std.proofs.lemmas.List.{length-map}
use Rattle.std.proofs.lemmas.List.Elements.{Contains-append_right}
use Rattle.strat_base.specs.Change.{Change}
use Rattle.strat_base.specs.declared.descriptors.ArrayDesc.{ArrayDesc}
use Rattle.def_crash.specs.Faults.{Rose}
use Rattle.def_crash.specs.Moments.{Images, Passes}
use Rattle.strat_cursor.specs.Looking.{arrays_there}
use Rattle.strat_model.specs.Answer.{accepts, refusal}
use Rattle.strat_model.specs.Run.{Position, Exchange, Response, IsAfter, is_carried_out, is_change}
use Rattle.strat_model.specs.Step.{step}
use Rattle.strat_model.specs.Stream.{IsBody}
use Rattle.strat_model.specs.Table.{Cursor}
use Rattle.strat_model.specs.declared.replies.Refusal.TheVariants as why
use Rattle.strat_model.specs.declared.replies.Reply.{Reply}
use Rattle.strat_model.specs.declared.replies.Reply.TheVariants as reply
use Rattle.def_publish.specs.Appending.{with_batch}
use Rattle.def_publish.specs.Contents.{Contents, contents_state, with_journal}
use Rattle.strat_memory.specs.Held.{Held, IsConsistent, StandsAt, StandsWith, position_at}
use Rattle.strat_memory.specs.Memory.{table_with}
use Rattle.strat_publish.specs.Settling.{LeavesPublished}
use Rattle.strat_store.specs.Staging.{FollowsBatch, held_joined, position_staged}
use Rattle.strat_loop.specs.Grouping.{StagesBodies}
use Rattle.strat_loop.specs.World.{World}
use Rattle.strat_loop.proofs.AnswerLemmas.{counts_changes}
use Rattle.strat_loop.proofs.GroupLemmas.{GroupBroken, GroupMade}
use Rattle.strat_loop.proofs.ProgressLemmas.{still_on}
use Rattle.strat_loop.proofs.StagedLemmas.{HasStaged, IsStagedRun, StagesAt, asks_for, has_staged, one_at, one_by, one_writes, staged_answered, staged_count, staged_few, staged_quiet, staged_run}
use Rattle.strat_loop.specs.Speech.{IsAskedFor, IsSpokenRun, Said, SaysByTable, Speech, response_of}

-- where nothing is staged the position with what is staged is that of the store
staged_none : (s : Held) (x : Contents) (rows : List Cursor) → s.log.batch ≡ [] → position_staged s x rows ≡ position_at s x rows
staged_none s x rows none =
    ap (λ (b : List Change). position_at (record s { log = record s.log { list = s.log.list ++ b; batch = [] } }) (with_batch x b) rows) none
    ∙ (λ i. record { table = table_with (contents_state (with_journal x (append-nil x.journal i))) rows s.memory.cursors.next; fill = length (append-nil s.log.list i) })

module _ (speech : Speech) where
  -- changes were staged at a store that holds what an opening may find
  module _ (base staged : Held) (mid now : World) (mem : ℕ) (law : StagesAt mid.disk) (body : List ℕ) (others : List (List ℕ)) (response : Said) (more : List Said)
      (all : StagesBodies speech base (body ∷ others) (response ∷ more) staged) (lawful : IsConsistent base) (same_mem : base.log.mem ≡ mem) (each : AllByRecursion IsBody (body ∷ others)) (left : now.left ≡ mid.left)
      (passes : Passes mid.disk now.disk) where
    none : base.log.batch ≡ []
    none = lawful.log.batch

    abbrev has : HasStaged base staged
    has = has_staged speech base staged (body ∷ others) (response ∷ more) all

    few : length (body ∷ others) ≤ 16
    few =
        omega (
          arith,
          staged_few speech base staged (body ∷ others) (response ∷ more) all (omega (arith, ap length none)),
          staged_count speech base staged (body ∷ others) (response ∷ more) all,
        )

    -- the first of them, and the others
    abbrev second : Held
    second = all.0

    module _ (x : Contents) (rows : List Cursor) (stands : StandsAt mid.disk base x rows) where
      rest : IsStagedRun speech mid.disk mem second staged x rows others more
      rest =
          staged_run speech mid.disk law x rows mem second staged others more all.2 (one_at speech mid.disk law x rows mem base second body response all.1 stands same_mem).stands
          (ap (λ (s : Held). s.log.mem) all.1.after ∙ same_mem)

      at : position_staged base x rows ≡ position_at base x rows
      at = staged_none base x rows none

      by : SaysByTable speech mem (position_at base x rows) body response (position_staged second x rows)
      by = subst (λ (p : Position). SaysByTable speech mem p body response (position_staged second x rows)) at (one_by speech mid.disk law x rows mem base second body response all.1 stands same_mem)

      place : IsAfter mem (position_at base x rows) all.1.request (position_staged second x rows)
      place =
          subst (λ (p : Position). IsAfter mem p all.1.request (position_staged second x rows)) at
          (subst (λ (m : ℕ). IsAfter m (position_staged base x rows) all.1.request (position_staged second x rows)) same_mem (one_at speech mid.disk law x rows mem base second body response all.1 stands same_mem).place)

      carried : is_carried_out (position_at base x rows) all.1.request ≡ true
      carried = subst (λ (p : Position). is_carried_out p all.1.request ≡ true) at (one_at speech mid.disk law x rows mem base second body response all.1 stands same_mem).carried

    -- they became durable
    module _ (new : Held) (after : new ≡ held_joined staged) (kept : IsConsistent new) (going : base.spent ≡ false) (faults : now.disk_faults ≡ mid.disk_faults) (leaves : IfSome now.disk.content (Images now.disk))
        (stand : (x : Contents) (rows : List Cursor) → StandsAt mid.disk staged x rows → StandsAt now.disk new (with_batch x staged.log.batch) rows)
        (trail : (x : Contents) → StandsWith mid.disk staged x → FollowsBatch mid.disk now.disk x staged.log.batch true)
        (published : LeavesPublished mid.disk now.disk staged true reply.Done new) where
      pub group_made : GroupMade speech base new mid now mem (body ∷ others) (response ∷ more)
      group_made = record {
        left = left;
        answered = staged_answered speech base staged (body ∷ others) (response ∷ more) all;
        quiet = staged_quiet speech base staged (body ∷ others) (response ∷ more) all;
        each = each;
        noisy = λ calm. one_writes speech base second body response all.1 calm.0;
        passes = passes;
        faults = faults;
        kept = kept;
        going = ap (λ (s : Held). s.spent) after ∙ has.spent ∙ going;
        mem_same = ap (λ (s : Held). s.log.mem) after ∙ has.mem;
        leaves = leaves;
        on_disk = λ on.
            published.on_disk (λ e. let f : ◌≡◌ {A = Reply} reply.Done (reply.Refused why.DeviceFault) = e in cc)
            (still_on mid.disk base staged (record { slot = has.slot; sb = has.sb; chained = has.chained; levels = has.levels; filters = has.filters }) has.going on);
        retired = λ a among.
            Contains-append_right (arrays_there base.levels) base.memory.cursors.retired a
            (subst (λ (l : List ArrayDesc). Contains l a) (ap (λ (s : Held). s.memory.cursors.retired) after ∙ ap (λ c. c.retired) has.cursors) among);
        batch = λ x rows stands.
            let other = rest x rows stands in
            let first : Exchange = record { body = body; response = response_of response; at = position_at base x rows } in
            let end : position_at new (with_batch x staged.log.batch) rows ≡ position_staged staged x rows = ap (λ (s : Held). position_at s (with_batch x staged.log.batch) rows) after in
            record {
              first = first;
              later = other.exchanges;
              after = with_batch x staged.log.batch;
              begins = refl;
              run = (refl, refl, (position_staged second x rows, inr (inl (by x rows stands)), subst (λ (p : Position). IsSpokenRun speech mem (position_staged second x rows) other.exchanges more p) (sym end) other.run));
              bodies_are = ap (λ (l : List (List ℕ)). body ∷ l) other.bodies_are;
              answers_are = ap (λ (l : List Response). response_of response ∷ l) other.answers_are;
              stands = stand x rows other.stands;
              trail = trail x other.stands.stands;
              paid = published.paid x other.stands.stands;
            };
      }

    -- the reply of the first where the device failed
    abbrev pub faulty : Said
    faulty = record {
      tag = response.tag;
      answer = refusal why.DeviceFault;
      sent = speech.tells base.memory.changes response.tag all.1.request (refusal why.DeviceFault);
    }

    -- its body asked for what it did
    faulty_asked : IsAskedFor speech base.memory.changes body all.1.request faulty
    faulty_asked = record { asks = all.1.asked.asks; text = refl }

    -- at so many changes as the table has
    counts_at : (x : Contents) (rows : List Cursor) → StandsAt mid.disk base x rows → base.memory.changes ≡ (position_at base x rows).table.changes
    counts_at x rows stands = counts_changes mid.disk base x rows lawful stands

    -- the device failed
    module _ (new : Held) (rose : Rose mid.disk_faults now.disk_faults)
        (trail : (x : Contents) → StandsWith mid.disk staged x → FollowsBatch mid.disk now.disk x staged.log.batch false)
        (published : LeavesPublished mid.disk now.disk staged false (reply.Refused why.DeviceFault) new) where
      pub group_broken : GroupBroken speech base mid now mem body others faulty
      group_broken =
          let asks = asks_for all.1.request all.1.change all.1.wanted in
          record {
            left = left;
            responds = (
              (
                base.memory.changes,
                inr (record {
                  request = all.1.request;
                  asked = faulty_asked;
                  reached = λ _. asks.reaches;
                  short = λ _. asks.takes;
                  few = refl;
                }),
              ),
              tt,
            );
            answer = refl;
            each = each;
            noisy = λ calm. true≢false (calm base.memory.changes all.1.request all.1.asked.asks asks.change);
            passes = passes;
            rose = rose;
            batch = λ x rows stands.
                let other = rest x rows stands in
                let accepted = and_parts (is_change all.1.request) (accepts (step (position_at base x rows).table all.1.request).answer.reply) (carried x rows stands) in
                record {
                  done = position_staged second x rows;
                  fault = record {
                    request = all.1.request;
                    asked = subst (λ (n : ℕ). IsAskedFor speech n body all.1.request faulty) (counts_at x rows stands) faulty_asked;
                    reaches = asks.reaches;
                    accepted = accepted.1;
                    answer = inl refl;
                    place = place x rows stands;
                  };
                  asks = record {
                    request = all.1.request;
                    asks = subst (λ (n : ℕ). speech.Asks n body response.tag all.1.request) (counts_at x rows stands) all.1.asked.asks;
                    made = carried x rows stands;
                  };
                  more = other.exchanges;
                  end = position_staged staged x rows;
                  batch = record { answers = more; few = omega (arith, few, ap length other.bodies_are, length-map other.exchanges (λ (e : Exchange). e.body)); run = other.run; each = other.made };
                  more_are = other.bodies_are;
                  trail = trail x other.stands.stands;
                  paid = published.paid x other.stands.stands;
                };
          }
