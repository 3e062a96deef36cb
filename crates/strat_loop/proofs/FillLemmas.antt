-- How full the journal is at the positions of a run.
use Rattle.std.proofs.Common.{◌≡◌, ◌≤◌, ◌<◌, ◌+◌, ◌-◌, ◌*◌, ℕ, Bool, true, false, ltb, inl, inr, List, [], ◌∷◌, ◌++◌, length, map, Option, Some, None, refl, sym, ap, ◌∙◌, subst, arith}
use Rattle.std.specs.Prelude.{if◌then◌else◌, IfSome}
use Rattle.std.specs.List.{AllByRecursion}
use Rattle.std.proofs.lemmas.Bool.{cases_lt, le-ltb, leb-true, lt-ltb}
use Rattle.def_crash.specs.Image.{Image}
use Rattle.def_publish.specs.Standing.{ShowsTable}
use Rattle.def_state.specs.Sound.{journal_max}
use Rattle.strat_model.specs.Request.{Request}
use Rattle.strat_model.specs.Run.{Exchange, Interruption, IsAfter, MayFill, Position, Transcript, is_carried_out, of_interruption}
use Rattle.strat_model.specs.Step.{step}
use Rattle.strat_loop.specs.Session.{Begins}
use Rattle.strat_loop.specs.Speech.{IsSpokenRun, IsSpokenTranscript, Said, Says, SaysFault, Speech, response_of}
use Rattle.strat_loop.specs.Spoken.{FitsBothRegions}

-- a fill that may come after one more change, where the journal has no more than two fewer than both regions take
abbrev pub next_fill : ℕ → ℕ → ℕ
next_fill mem fill = if ltb fill mem then fill + 1 else fill + 1 - mem

next_may : (mem fill : ℕ) → 2 ≤ mem → fill ≤ 2 * mem - 2 → MayFill mem fill (next_fill mem fill)
next_may mem fill some few = elim (cases_lt fill mem) [
  | inl low ↦ inl (omega (arith, low, some), ap (λ (b : Bool). if b then fill + 1 else fill + 1 - mem) (lt-ltb fill mem low))
  | inr full ↦ inr (full, ap (λ (b : Bool). (if b then fill + 1 else fill + 1 - mem) + mem) (le-ltb fill mem full) ∙ (let e : fill + 1 - mem + mem ≡ fill + 1 = omega (arith, full) in e))
]

-- a position that may come after a command
abbrev pub place_next : ℕ → Position → Request → Position
place_next mem at r = record {
  table = (step at.table r).table;
  fill = if is_carried_out at r then next_fill mem at.fill else at.fill;
}

next_if : (mem fill : ℕ) (b : Bool) → b ≡ true → (if b then next_fill mem fill else fill) ≡ next_fill mem fill
next_if mem fill b is = ap (λ (t : Bool). if t then next_fill mem fill else fill) is

pub next_is_after : (mem : ℕ) (at : Position) (r : Request) → 2 ≤ mem → at.fill ≤ 2 * mem - 2 → IsAfter mem at r (place_next mem at r)
next_is_after mem at r some few = record {
  table = refl;
  fill = λ done. subst (λ (n : ℕ). MayFill mem at.fill n) (sym (next_if mem at.fill (is_carried_out at r) done)) (next_may mem at.fill some few);
  same = λ off. ap (λ (t : Bool). if t then next_fill mem at.fill else at.fill) off;
}

-- after each command the journal fits both regions, where it did before
may_fit : (mem before after : ℕ) → 1 ≤ mem → MayFill mem before after → before ≤ 2 * mem - 2 → after ≤ 2 * mem - 2
may_fit mem before after some (inl more) few = omega (arith, more.0, more.1)
may_fit mem before after some (inr anew) few = omega (arith, some, anew.0, anew.1, few)

after_fits : (mem : ℕ) (at after : Position) (r : Request) → 1 ≤ mem → IsAfter mem at r after → at.fill ≤ 2 * mem - 2 → after.fill ≤ 2 * mem - 2
after_fits mem at after r some is few = by (is_carried_out at r) refl
  where
    by : (b : Bool) → is_carried_out at r ≡ b → after.fill ≤ 2 * mem - 2
    by true done = may_fit mem at.fill after.fill some (is.fill done) few
    by false off = subst (λ (n : ℕ). n ≤ 2 * mem - 2) (sym (is.same off)) few

-- it does where a run begins
pub begins_fit : (f : Image) (mem : ℕ) (from : Position) → Begins f mem from → from.fill ≤ 2 * mem - 2
begins_fit f mem from begins =
    let fits = leb-true (length begins.shows.state.journal) (journal_max begins.shows.state.mem) begins.shows.sound.formed.fits in
    omega (arith, fits, begins.fill, begins.mem_is)

module _ (speech : Speech) (mem : ℕ) (some : 1 ≤ mem) where
  says_fit : (at after : Position) (body : List ℕ) (said : Said) → Says speech mem at body said after → at.fill ≤ 2 * mem - 2 → after.fill ≤ 2 * mem - 2
  says_fit at after body said (inl is) few = subst (λ (p : Position). p.fill ≤ 2 * mem - 2) (sym is.same) few
  says_fit at after body said (inr (inl is)) few = after_fits mem at after is.request some is.place few
  says_fit at after body said (inr (inr is)) few = subst (λ (p : Position). p.fill ≤ 2 * mem - 2) (sym is.same) few

  run_fits : (at after : Position) (xs : List Exchange) (said : List Said) (ps : List Position) → IsSpokenRun speech mem at xs said after → at.fill ≤ 2 * mem - 2
      → (after.fill ≤ 2 * mem - 2 → AllByRecursion (λ (p : Position). p.fill ≤ 2 * mem - 2) ps)
      → AllByRecursion (λ (p : Position). p.fill ≤ 2 * mem - 2) (map (λ (x : Exchange). x.at) xs ++ ps)
  run_fits at after [] [] ps run few last = last (subst (λ (p : Position). p.fill ≤ 2 * mem - 2) (sym run) few)
  run_fits at after [] (s ∷ said) ps run few last = absurd run
  run_fits at after (x ∷ xs) [] ps run few last = absurd run
  run_fits at after (x ∷ xs) (s ∷ said) ps run few last = (
    subst (λ (p : Position). p.fill ≤ 2 * mem - 2) (sym run.0) few,
    run_fits run.2.0 after xs said ps run.2.2 (says_fit at run.2.0 x.body s run.2.1 few) last,
  )

  -- so it does at each position of a run, and after what a fault broke off
  pub fits_regions : (at : Position) (transcript : Transcript) (answers : List Said) (broken : Option Said) → IsSpokenTranscript speech mem at transcript answers broken → at.fill ≤ 2 * mem - 2
      → FitsBothRegions mem transcript
  fits_regions at transcript answers broken is few =
      run_fits at transcript.after transcript.exchanges answers (transcript.after ∷ of_interruption (λ h. h.done) transcript.interruption) is.run few
      (λ last. (last, ended transcript.interruption is.interrupted last))
    where
      ended : (o : Option Interruption) → IfSome o (λ h. (said : Said) × (broken ≡ Some said) × (h.response ≡ response_of said) × SaysFault speech mem transcript.after h.body said h.done)
          → transcript.after.fill ≤ 2 * mem - 2 → AllByRecursion (λ (p : Position). p.fill ≤ 2 * mem - 2) (of_interruption (λ h. h.done) o)
      ended None is last = tt
      ended (Some h) is last = (after_fits mem transcript.after h.done is.3.request some is.3.place last, tt)
