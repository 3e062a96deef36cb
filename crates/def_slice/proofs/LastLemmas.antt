-- The last slice: what it made, and the promotion that next contents ask for.
use Rattle.std.proofs.Common.{◌≡◌, ◌≤◌, ◌<◌, ◌+◌, ◌*◌, ℕ, List, ◌++◌, length, drop, Option, None, sym, ap, ◌∙◌, subst, arith}
use Rattle.std.proofs.lemmas.Bool.{leb-true}
use Rattle.std.proofs.lemmas.List.{length-drop, length-take-le, take-append-drop}
use Rattle.strat_base.specs.Change.{Change}
use Rattle.strat_base.specs.Entries.{Entry}
use Rattle.strat_base.specs.declared.descriptors.Extent.{Extent}
use Rattle.strat_base.specs.declared.descriptors.LevelDesc.{LevelDesc}
use Rattle.def_crash.specs.Image.{Image}
use Rattle.def_crash.proofs.BlockLemmas.{keeps_refl}
use Rattle.strat_promote.specs.Budget.{count_of_key}
use Rattle.strat_promote.specs.Promotions.{SamePromotion, entries_taken, target_of, level_of}
use Rattle.strat_promote.specs.Replacing.{LeavesTheSame}
use Rattle.strat_promote.specs.Stages.{IsMade}
use Rattle.strat_promote.specs.StateInputs.{IsBegunOver, LeavesPaid, job_of_state}
use Rattle.strat_promote.specs.Steps.{Inputs}
use Rattle.strat_promote.specs.declared.promotion.Promotion.{Promotion}
use Rattle.strat_promote.specs.declared.step.Task.{Task}
use Rattle.strat_promote.proofs.StateInputsLemmas.{begun_paid, begun_leaves_later}
use Rattle.def_promote.specs.Promoted.{SaysTheSame, promoted, levels_behind}
use Rattle.def_promote.specs.Sealed.{grown_by}
use Rattle.def_slice.specs.Budget.{KeepsToBudget}
use Rattle.def_slice.specs.Ending.{SlicesLast, IsLastMade}
use Rattle.def_slice.specs.Opened.{OpenPromotion, IsOpenOver, IsMostOfKey, job_open, slice_numbers}
use Rattle.def_slice.proofs.OpenedLemmas.{begun_over}
use Rattle.def_publish.specs.Contents.{Contents, contents_state, sealed_state, sealed_part, later_part}
use Rattle.def_publish.specs.Next.{IsPromotion}
use Rattle.def_publish.specs.Publication.{Succeeds}
use Rattle.def_publish.specs.Standing.{LiesIn}
use Rattle.def_publish.proofs.PromotedLemmas.{sealed_ordered, sealed_whole, none_later}
use Rattle.def_state.specs.Level.{Level}
use Rattle.def_state.specs.Sound.{journal_max, IsOrdered, IsSound}
use Rattle.def_state.specs.State.{State, IsPaid}
use Rattle.def_state.proofs.SoundLemmas.{ordered}

-- the last slice: the level is made
module _ (f g : Image) (x : Contents) (fill : ℕ) (sealed : List Entry) (levels : List (Option LevelDesc)) (others : List Extent) (o : OpenPromotion) (q : Promotion) (inputs : Inputs)
    (p : IsOpenOver f x fill sealed levels others o) (s : SlicesLast f g x sealed levels (job_open x levels p.going.was) o q inputs) where
  over : IsBegunOver f (sealed_state x) inputs p.going.was
  over = begun_over f x sealed levels p.going.was inputs s.reads.lies p.going.begun s.lent

  whole : SamePromotion p.going.was q
  whole = record { task = s.same.task ∙ p.going.same.task }

  before : IsOrdered (sealed_state x)
  before = sealed_ordered x (ordered (contents_state x) s.sound)

  target_same : target_of q ≡ target_of p.going.was
  target_same = ap (λ (t : Task). t.target) whole.task

  made_here : IsMade f g (job_of_state (sealed_state x) inputs.levels (target_of p.going.was)) (target_of q) q.task.first (level_of q)
  made_here = subst (λ (ls : List (Option LevelDesc)). IsMade f g (job_of_state (sealed_state x) ls (target_of p.going.was)) (target_of q) q.task.first (level_of q)) (sym s.lent.levels_are) s.sliced.1

  at_was : LeavesTheSame g (level_of q) (contents_state x) (λ fresh written next.
      grown_by (promoted (sealed_state x) (fresh ++ levels_behind (target_of p.going.was) x.levels) written next) (later_part x))
  at_was = begun_leaves_later f f g (contents_state x) (sealed_part x) (later_part x) inputs p.going.was q q.task.first (level_of q) s.sound (sym (take-append-drop x.sb.mem x.journal)) over whole (λ b of. keeps_refl b f) made_here

  -- the state with it and with what came since says the same and is sound
  pub done_leaves : LeavesTheSame g (level_of q) (contents_state x) (λ fresh written next.
      grown_by (promoted (sealed_state x) (fresh ++ levels_behind (target_of q) x.levels) written next) (later_part x))
  done_leaves =
      subst (λ (n : ℕ). LeavesTheSame g (level_of q) (contents_state x) (λ fresh written next. grown_by (promoted (sealed_state x) (fresh ++ levels_behind n x.levels) written next) (later_part x)))
      (sym target_same) at_was

  -- it is paid for
  pub done_paid : IsPaid (contents_state x) → 0 < x.sb.mem → x.chained.manifest.updates ≤ x.chained.manifest.changes
      → LeavesPaid g (level_of q) (sealed_state x) (λ fresh written next. promoted (sealed_state x) (fresh ++ levels_behind (target_of q) x.levels) written next)
  done_paid paid some honest =
      let here : IsPaid (sealed_state x) = record { shallow = paid.shallow; bounded = paid.bounded } in
      let full : x.sb.mem ≤ length (sealed_part x) = omega (arith, length-take-le x.sb.mem x.journal p.going.begun.full) in
      subst (λ (n : ℕ). LeavesPaid g (level_of q) (sealed_state x) (λ fresh written next. promoted (sealed_state x) (fresh ++ levels_behind n x.levels) written next)) (sym target_same)
      (begun_paid f (sealed_state x) inputs p.going.was before over f g q q.task.first (level_of q) whole (λ b of. keeps_refl b f) made_here here some honest (λ one. full))

  -- and it did not come early: with the entries of one key both passes are exceeded
  pub done_late : (key : List ℕ) × (2 * o.sum < entries_taken o.promotion + o.budget + count_of_key f (job_open x levels p.going.was) key)
  done_late =
      let near = s.sliced.3 in
      (near.last, omega (arith, near.below, s.sliced.2, p.sum_is))

  -- so it keeps to its budget
  pub done_in_budget : (most : ℕ) → IsMostOfKey f (job_open x levels p.going.was) most → KeepsToBudget (slice_numbers o) most None
  done_in_budget most all =
      let late = done_late in
      let few = all late.0 in
      omega (arith, late.1, few)

-- so next contents may be computed of it
pub last_promotes : (g : Image) (x new : Contents) (made : Option LevelDesc) (taken : List LevelDesc) (target : ℕ) → LiesIn g x
    → (l : LeavesTheSame g made (contents_state x) (λ fresh written next. grown_by (promoted (sealed_state x) (fresh ++ levels_behind target x.levels) written next) (later_part x)))
    → new.levels ≡ l.fresh ++ levels_behind target x.levels → levels_behind target x.levels ≡ drop (length taken) x.levels → IsPromotion g x new made taken
last_promotes g x new made taken target lies l levels_are behind =
    let written : ℕ = new.chained.manifest.written in
    let next : ℕ = new.chained.manifest.next_array in
    record {
      fresh = l.fresh;
      lies = lies;
      read = l.read;
      levels = levels_are ∙ ap (λ (ls : List Level). l.fresh ++ ls) behind;
      sound = subst (λ (ls : List Level). IsSound (grown_by (promoted (sealed_state x) ls new.chained.manifest.written new.chained.manifest.next_array) (later_part x))) (sym levels_are) (l.sound written next);
      says = subst (λ (ls : List Level). SaysTheSame (contents_state x) (grown_by (promoted (sealed_state x) ls new.chained.manifest.written new.chained.manifest.next_array) (later_part x))) (sym levels_are) (l.says written next);
    }

-- after a publication of a full region the journal is shorter by it, and the region that is active then has room
pub fill_after : (x y : Contents) → IsSound (contents_state x) → x.sb.mem ≤ length x.journal → Succeeds x y → (length y.journal + x.sb.mem ≡ length x.journal) × (length y.journal + 2 ≤ y.sb.mem)
fill_after x y sound full next =
    let fits = leb-true (length x.journal) (journal_max x.sb.mem) sound.formed.fits in
    let long = ap length next.journal ∙ length-drop x.sb.mem x.journal in
    (omega (arith, long, full), omega (arith, long, full, fits, next.says.mem, next.lawful.mem_least))

-- where the journal just fills its region, all of it is promoted
pub promotes_whole : (g : Image) (x : Contents) (target : ℕ) (made : Option LevelDesc) → length x.journal ≤ x.sb.mem → IsLastMade g x target made
    → LeavesTheSame g made (contents_state x) (λ fresh written next. promoted (contents_state x) (fresh ++ levels_behind target x.levels) written next)
promotes_whole g x target made few m =
    subst (λ (s : State). LeavesTheSame g made (contents_state x) (λ fresh written next. promoted s (fresh ++ levels_behind target x.levels) written next)) (sealed_whole x few)
    (subst (λ (rest : List Change). LeavesTheSame g made (contents_state x) (λ fresh written next. grown_by (promoted (sealed_state x) (fresh ++ levels_behind target x.levels) written next) rest)) (none_later x few) m.says)
