-- A serving run while replies are pending.
use Rattle.std.proofs.Common.{◌≡◌, ◌≤◌, ℕ, ◌+◌, true, List, [], ◌++◌, Option, Some, None, refl, sym, subst, inl, inr}
use Rattle.strat_base.specs.Numbers.{AreBytes}
use Rattle.strat_base.specs.declared.failures.Fault.{Fault}
use Rattle.strat_io.specs.Streams.{Appends}
use Rattle.strat_model.specs.Faults.{broken_by}
use Rattle.strat_model.specs.declared.ended.Ended.{Ended}
use Rattle.strat_model.specs.declared.ended.Ended.TheVariants as ended
use Rattle.strat_model.specs.Stream.{frame, IsBody, is_too_long}
use Rattle.strat_memory.specs.Held.{Held}
use Rattle.strat_loop.specs.Pending.{Pending, ArePending, SendsAtEnd, SendsOrKeeps, none_pending, with_sent}
use Rattle.strat_loop.specs.Progress.{ServesPending, ServesSoFar, sent_also}
use Rattle.strat_loop.specs.Session.{SendsPrefix, WaitsForNone}
use Rattle.strat_loop.specs.World.{World}
use Rattle.strat_loop.proofs.PendingLemmas.{appends_is, are_none, took_behind, with_none}
use Rattle.strat_loop.proofs.ProgressLemmas.{Answered, answers, as_many}
use Rattle.strat_loop.proofs.SessionLemmas.{ends_broken, ends_cut, ends_long}
use Rattle.strat_loop.proofs.StreamLemmas.{Frames}
use Rattle.strat_loop.specs.Speech.{Speech, said_bytes}
use Rattle.strat_loop.specs.Spoken.{ServedBy}

module _ (speech : Speech) where
  -- nothing is pending where all replies were sent
  pub pending_none : (start current : Held) (count : ℕ) (held : List ℕ) (before now : World) → ServesSoFar speech start current count held before now → ServesPending speech start current count held none_pending before now
  pending_none start current count held before now p =
      let q : ServesSoFar speech start current count held before (sent_also now []) = subst (λ (o : Option (List ℕ)). ServesSoFar speech start current count held before (record now { held = o })) (sym (with_none now.held)) p in
      record {
        so_far = q;
        pending = are_none speech q.taken q.bodies q.answers before.held now.held
            (subst (λ (o : Option (List ℕ)). Appends before.held o (said_bytes q.answers)) (with_none now.held) q.sent)
            (subst (λ (n : ℕ). WaitsForNone q.taken q.bodies n) (sym (as_many speech q.bodies q.answers q.answered)) q.ahead);
      }

  module _ (start current : Held) (count : ℕ) (held : List ℕ) (replies : Pending) (before mid : World) (p : ServesPending speech start current count held replies before mid) where
    -- the pending replies were sent
    pub pending_sent : (sent : Option (List ℕ)) (faults : ℕ) → Appends mid.held sent replies.bytes → faults ≡ mid.sink_faults
        → ServesSoFar speech start current count held before (record mid { held = sent; sink_faults = faults })
    pending_sent sent faults all same =
        subst (λ (n : ℕ). ServesSoFar speech start current count held before (record mid { held = sent; sink_faults = n })) (sym same)
        (subst (λ (o : Option (List ℕ)). ServesSoFar speech start current count held before (record mid { held = o })) (sym (appends_is mid.held sent replies.bytes all)) p.so_far)

    -- or the sink failed at them
    pub pending_cut : (budget : ℕ) (sent : Option (List ℕ)) (faults : ℕ) → count ≤ budget → Frames held → SendsPrefix mid.held sent replies.bytes → ServedBy speech budget ended.Sink before (record mid { held = sent; sink_faults = faults })
    pending_cut budget sent faults within frames cut = ends_cut speech start current count budget held before (sent_also mid replies.bytes) p.so_far within replies mid.held sent faults frames p.pending cut

    -- they were sent or are pending still
    pub room_made : (sent : Option (List ℕ)) (faults : ℕ) (new : Pending) → SendsOrKeeps mid.held sent replies new → faults ≡ mid.sink_faults
        → ServesPending speech start current count held new before (record mid { held = sent; sink_faults = faults })
    room_made sent faults new (inl kept) same =
        subst (λ (n : ℕ). ServesPending speech start current count held new before (record mid { held = sent; sink_faults = n })) (sym same)
        (subst (λ (o : Option (List ℕ)). ServesPending speech start current count held new before (record mid { held = o })) (sym kept.0)
        (subst (λ (r : Pending). ServesPending speech start current count held r before mid) (sym kept.1) p))
    room_made sent faults new (inr all) same =
        subst (λ (r : Pending). ServesPending speech start current count held r before (record mid { held = sent; sink_faults = faults })) (sym all.1)
        (pending_none start current count held before (record mid { held = sent; sink_faults = faults }) (pending_sent sent faults all.0 same))

    -- a frame that is too long stands behind the frames that were answered
    pub pending_long : (budget : ℕ) (result : Ended) (sent : Option (List ℕ)) (was faults : ℕ) → count ≤ budget → is_too_long held ≡ true
        → SendsAtEnd ended.FrameTooLong result mid.held sent was faults (replies.bytes ++ speech.too_long) → ServedBy speech budget result before (record mid { held = sent; sink_faults = faults })
    pending_long budget result sent was faults within long ends =
        ends_long speech start current count budget held before (sent_also mid replies.bytes) p.so_far within long result replies mid.held sent was faults refl p.pending ends

  -- the next body was answered
  module _ (start old new : Held) (count budget : ℕ) (held rest body : List ℕ) (met : Option Fault) (out : List ℕ) (replies : Pending) (before mid now : World)
      (p : ServesPending speech start old count held replies before mid) (within : count ≤ budget) (done : Answered speech old new mid now body met out)
      (front : held ≡ frame body ++ rest) (fits : IsBody body) (bytes : AreBytes rest) (room : replies.count + 1 ≤ 16) where
    -- what a sink holds is no matter to the store
    abbrev done_beside : (sent : Option (List ℕ)) → Answered speech old new (sent_also mid replies.bytes) (record now { held = sent }) body met out
    done_beside sent = record {
      left = done.left;
      is = done.is;
      passes = done.passes;
      cause = done.cause;
      spent = done.spent;
      kept = done.kept;
      same = done.same;
      leaves = done.leaves;
      damaged = done.damaged;
    }

    -- it met no fault, and its reply is pending
    pub goes_on : met ≡ None → now.held ≡ mid.held → ServesPending speech start new count rest (record { bytes = replies.bytes ++ out; count = replies.count + 1 }) before now
    goes_on none same =
        let text : List ℕ = done.is.response.sent in
        let gives : Appends (with_sent mid.held replies.bytes) (with_sent now.held (replies.bytes ++ text)) text =
        subst (λ (o : Option (List ℕ)). Appends (with_sent mid.held replies.bytes) (with_sent o (replies.bytes ++ text)) text) (sym same) (took_behind mid.held replies.bytes text) in
        let q = answers speech start old new count held rest body met out before (sent_also mid replies.bytes) (sent_also now (replies.bytes ++ text)) p.so_far
        (done_beside (with_sent now.held (replies.bytes ++ text))) none front fits gives replies now.held
        (subst (λ (o : Option (List ℕ)). ArePending replies p.so_far.taken p.so_far.bodies p.so_far.answers before.held o) (sym same) p.pending) room in
        subst (λ (x : List ℕ). ServesPending speech start new count rest (record { bytes = replies.bytes ++ x; count = replies.count + 1 }) before now) (sym done.is.spelled)
        (record { so_far = q.0; pending = q.1 })

    -- it met a fault, and the run ended behind the pending replies
    pub ends_at : (f : Fault) → met ≡ Some f → (how result : Ended) → how ≡ broken_by f → (was faults : ℕ) → SendsAtEnd how result mid.held now.held was faults (replies.bytes ++ out) → ServedBy speech budget result before now
    ends_at f some how result is was faults ends =
        ends_broken speech start old new count budget held rest body met out before (sent_also mid replies.bytes) now p.so_far within (done_beside now.held) front fits bytes f some p.so_far.passes how result is
        replies mid.held was faults refl p.pending room ends
