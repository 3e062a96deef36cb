-- The answer of a check.
use Rattle.std.proofs.Common.{◌≡◌, ◌≢◌, ◌+◌, ◌*◌, ◌⊎◌, ℕ, length, inl, inr, List, [], ◌∷◌, Option, None, Some, Result, Ok, Err, IfOk, IsErrOf, refl, sym, ap, ◌∙◌, subst, arith}
use Rattle.std.specs.List.{slice_get}
use Rattle.strat_base.specs.declared.failures.Trouble.{Trouble}
use Rattle.strat_base.specs.declared.failures.Trouble.TheVariants as trouble
use Rattle.def_bytes.specs.Damage.{Read, and_then}
use Rattle.def_bytes.specs.Chain.{chain_length}
use Rattle.def_bytes.specs.Layout.{region_blocks}
use Rattle.def_check.specs.Checked.{checked, check_head, listed_blocks}
use Rattle.def_check.proofs.CheckedLemmas.{state_checked}
use Rattle.def_crash.specs.Faults.{Rose, HasCause, ReadsAtMost}
use Rattle.def_crash.specs.Image.{Image}
use Rattle.def_crash.specs.Moments.{DiskView, Exposes}
use Rattle.def_recovery.specs.Head.{Head}
use Rattle.def_recovery.specs.Opening.{recover, state_of}
use Rattle.def_state.specs.Breach.{Breach, breaches}
use Rattle.def_state.specs.State.{State}
use Rattle.strat_open.specs.declared.attach_fault.AttachFault.{AttachFault}
use Rattle.strat_open.specs.declared.attach_fault.AttachFault.TheVariants as fault
use Rattle.strat_check.specs.Places.{breach_of, place_of}
use Rattle.strat_check.specs.Verdicts.{verdict_for, verdict_unread, verdict_told, reads_of_check, IsRight, VerdictHasCause}
use Rattle.strat_check.specs.declared.places.Broken.{Broken}
use Rattle.strat_check.specs.declared.verdict.Verdict.{Verdict}
use Rattle.strat_check.specs.declared.verdict.Verdict.TheVariants as verdict
use Rattle.strat_check.proofs.HeadLemmas.{read_as}

-- where the store could not be read

pub fault_right : (disk : DiskView) (e : AttachFault) → (e ≡ fault.NotAStore → (f : Image) → Exposes disk f → recover f ≡ Ok None) → ((b : ℕ) → e ≡ fault.Damaged b → (f : Image) → Exposes disk f → recover f ≡ Err b)
    → IsRight disk (verdict_unread e)
fault_right disk fault.NotAStore none damaged = λ f exposed. inl (ap (λ (r : Read (Option Head)). verdict_for (and_then r (check_head f))) (sym (none refl f exposed)))
fault_right disk fault.Device none damaged = λ f exposed. inr (inr refl)
fault_right disk (fault.Damaged b) none damaged = λ f exposed. inl (ap (λ (r : Read (Option Head)). verdict_for (and_then r (check_head f))) (sym (damaged b refl f exposed)))
fault_right disk fault.NoMemory none damaged = λ f exposed. inr (inl refl)

pub fault_caused : {A : Type 0} (e : AttachFault) (before now : ℕ) → HasCause {T = A} fault.Device before now (Err e) → VerdictHasCause (verdict_unread e) before now
fault_caused fault.NotAStore before now cause = record { later = cause.later; device = λ is. absurd (cc); other = λ no'. cause.other (λ is. absurd (cc)) }
fault_caused fault.Device before now cause = record { later = cause.later; device = λ is. cause.device refl; other = λ no'. absurd (no' refl) }
fault_caused (fault.Damaged b) before now cause = record { later = cause.later; device = λ is. absurd (cc); other = λ no'. cause.other (λ is. absurd (cc)) }
fault_caused fault.NoMemory before now cause = record { later = cause.later; device = λ is. absurd (cc); other = λ no'. cause.other (λ is. absurd (cc)) }

-- where it was read

told_for : (b : Option Broken) (found : List Breach) → place_of b ≡ slice_get found 0 → verdict_told (Ok b) ≡ verdict_for (Ok (Some found))
told_for None [] same = refl
told_for None (x ∷ found) same = absurd (cc)
told_for (Some b) [] same = absurd (cc)
told_for (Some b) (x ∷ found) same =
    let is : breach_of b ≡ x = cc in
    ap (λ (y : Breach). verdict.Unsound y.rule y.level y.array) is

pub told_right : (disk : DiskView) (h : Head) (r : Result (Option Broken) Trouble) → ((f : Image) → Exposes disk f → recover f ≡ Ok (Some h))
    → IfOk r (λ b. (f : Image) → Exposes disk f → recover f ≡ Ok (Some h) → (s : State) × (state_of f h ≡ Some s) × (place_of b ≡ slice_get (breaches s) 0))
    → ((b : ℕ) → IsErrOf r (trouble.Damaged b) → (f : Image) → Exposes disk f → recover f ≡ Ok (Some h) → check_head f (Some h) ≡ Err b) → IsRight disk (verdict_told r)
told_right disk h (Ok b) found ok damaged = λ f exposed.
    let at = ok f exposed (found f exposed) in
    inl (told_for b (breaches at.0) at.2 ∙ ap verdict_for (sym (state_checked f at.0 (read_as f h at.0 (found f exposed) at.1))))
told_right disk h (Err trouble.NoMemory) found ok damaged = λ f exposed. inr (inl refl)
told_right disk h (Err trouble.Device) found ok damaged = λ f exposed. inr (inr refl)
told_right disk h (Err (trouble.Damaged b)) found ok damaged = λ f exposed.
    inl (ap verdict_for (sym (ap (λ (r : Read (Option Head)). and_then r (check_head f)) (found f exposed) ∙ damaged b refl f exposed (found f exposed))))

pub told_caused : (r : Result (Option Broken) Trouble) (before now : ℕ) → HasCause trouble.Device before now r → VerdictHasCause (verdict_told r) before now
told_caused (Ok None) before now cause = record { later = cause.later; device = λ is. absurd (cc); other = λ no'. cause.ok }
told_caused (Ok (Some b)) before now cause = record { later = cause.later; device = λ is. absurd (cc); other = λ no'. cause.ok }
told_caused (Err trouble.NoMemory) before now cause = record { later = cause.later; device = λ is. absurd (cc); other = λ no'. cause.other (λ is. absurd (cc)) }
told_caused (Err trouble.Device) before now cause = record { later = cause.later; device = λ is. cause.device refl; other = λ no'. absurd (no' refl) }
told_caused (Err (trouble.Damaged b)) before now cause = record { later = cause.later; device = λ is. absurd (cc); other = λ no'. cause.other (λ is. absurd (cc)) }

-- without a fault the answer is what a check finds, or memory ran out

pub found_from : (disk : DiskView) (answer : Verdict) (before now : ℕ) → IsRight disk answer → VerdictHasCause answer before now → (Rose before now → ⊥)
    → (f : Image) → Exposes disk f → (answer ≡ verdict_for (checked f)) ⊎ (answer ≡ verdict.NoMemory)
found_from disk answer before now right cause calm f exposed =
    elim (right f exposed) [
      | inl is ↦ inl is
      | inr other ↦ elim other [ inl short ↦ inr short | inr device ↦ absurd (calm (cause.device device)) ]
    ]

-- how often a check read that told something of a store

pub reads_both : (m n p q r : ℕ) → ReadsAtMost m p q → ReadsAtMost n q r → ReadsAtMost (m + n) p r
reads_both m n p q r first next =
    let a = first.later in
    let b = next.later in
    let c = first.bound in
    let d = next.bound in
    record { later = omega (arith, a, b); bound = omega (arith, c, d) }

pub unread_tells : (disk : DiskView) (e : AttachFault) → (e ≡ fault.NotAStore → (f : Image) → Exposes disk f → recover f ≡ Ok None) → ((b : ℕ) → e ≡ fault.Damaged b → (f : Image) → Exposes disk f → recover f ≡ Err b)
    → (f : Image) (h : Head) → Exposes disk f → recover f ≡ Ok (Some h) → verdict_unread e ≢ verdict.NoMemory → verdict_unread e ≢ verdict.Device → ⊥
unread_tells disk fault.NotAStore none damaged f h exposed found memory device = let both : ◌≡◌ {A = Read (Option Head)} (Ok None) (Ok (Some h)) = sym (none refl f exposed) ∙ found in cc
unread_tells disk fault.Device none damaged f h exposed found memory device = device refl
unread_tells disk (fault.Damaged b) none damaged f h exposed found memory device = let both : ◌≡◌ {A = Read (Option Head)} (Err b) (Ok (Some h)) = sym (damaged b refl f exposed) ∙ found in cc
unread_tells disk fault.NoMemory none damaged f h exposed found memory device = memory refl

pub reads_of_store : (f : Image) (h k : Head) (p q r : ℕ) → recover f ≡ Ok (Some k) → recover f ≡ Ok (Some h) → ReadsAtMost (chain_length k.sb.length + 2 * region_blocks k.sb.mem + 2) p q → ReadsAtMost (3 * length (listed_blocks k.manifest)) q r
    → ReadsAtMost (reads_of_check h) p r
reads_of_store f h k p q r read found first next =
    let both : ◌≡◌ {A = Read (Option Head)} (Ok (Some k)) (Ok (Some h)) = sym read ∙ found in
    let same : k ≡ h = cc in
    subst (λ (x : Head). ReadsAtMost (reads_of_check x) p r) same (reads_both _ _ p q r first next)
