-- What the steps of an append leave that goes on in the other region, behind a full one.
use Rattle.std.proofs.Common.{◌≡◌, ◌≢◌, ◌≤◌, ◌+◌, ℕ, zero, suc, ◌⊎◌, inl, inr, List, [], ◌∷◌, ◌++◌, length, take, drop, Ok, sym, ap, ◌∙◌, subst, arith, length-append}
use Rattle.std.proofs.lemmas.Bool.{cases_eq}
use Rattle.std.proofs.lemmas.List.{length-take-le, take-append-drop, append_assoc}
use Rattle.strat_base.specs.Change.{Change}
use Rattle.def_crash.specs.Image.{Image, HoldsBytes, Outside, patch}
use Rattle.def_crash.specs.Moments.{DiskView, Images}
use Rattle.def_crash.proofs.ImageLemmas.{window_same, window_patch, outside_patch}
use Rattle.def_bytes.specs.Layout.{region_at, region_size, other_region}
use Rattle.def_bytes.specs.Records.{records_bytes}
use Rattle.strat_gate.specs.Raising.{BehindOrRaised}
use Rattle.strat_gate.proofs.RaisingLemmas.{patched_first, patched_twice}
use Rattle.strat_journal.specs.Log.{Log, Stands, GivesAllOrNone, batch_joined, behind_log, gate_in}
use Rattle.strat_journal.specs.Records.{journal_changes, logged_from}
use Rattle.strat_journal.proofs.AppendLemmas.{Ready, keeps_laid, raised_laid}
use Rattle.strat_journal.proofs.LaidLemmas.{LaidIn, changes-logged_from, length-logged_from}
use Rattle.strat_journal.proofs.RecordLemmas.{laid_read, read_laid}
use Rattle.strat_journal.proofs.TwoLemmas.{in_both, both_given}

-- changes of both regions, as they stand there
pub given_laid_both : (c : Image) (mem active : ℕ) (list : List Change) → HoldsBytes c → journal_changes c mem active ≡ Ok list → mem ≤ length list
    → LaidIn c mem active (take mem list) × LaidIn c mem (other_region active) (drop mem list)
given_laid_both c mem active list holds given long =
    let both = in_both c mem active list given long in
    let r : ℕ = other_region active in
    let here = read_laid c (region_at mem active + region_size mem) mem (region_at mem active) both.front holds (omega arith) both.here in
    let there = read_laid c (region_at mem r + region_size mem) mem (region_at mem r) both.later holds (omega arith) both.there in
    (subst (LaidIn c mem active) both.front_is here.0, subst (LaidIn c mem r) both.later_is there.0)

pub laid_given_both : (c : Image) (mem active : ℕ) (front later : List Change) → LaidIn c mem active front → length front ≡ mem → LaidIn c mem (other_region active) later
    → journal_changes c mem active ≡ Ok (front ++ later)
laid_given_both c mem active front later here full there =
    let s : ℕ = region_at mem active in
    let t : ℕ = region_at mem (other_region active) in
    both_given c mem active (logged_from s front) (logged_from t later) (laid_read c (s + region_size mem) mem s front here) (length-logged_from s front ∙ full) (laid_read c (t + region_size mem) mem t later there)
    ∙ (λ i. Ok (changes-logged_from s front i ++ changes-logged_from t later i))

-- the regions lie apart
apart : (mem region : ℕ) → region ≤ 1 → (region_at mem region + region_size mem ≤ region_at mem (other_region region)) ⊎ (region_at mem (other_region region) + region_size mem ≤ region_at mem region)
apart mem zero few = inl (omega arith)
apart mem (suc zero) few = inr (omega arith)
apart mem (suc (suc k)) few = absurd (omega arith)

-- a full region stays where bytes of the other one change
full_stays : (d c : Image) (mem region at n : ℕ) (list : List Change) → region ≤ 1 → region_at mem (other_region region) ≤ at → at + n ≤ region_at mem (other_region region) + region_size mem → Outside at n d c
    → length list ≡ mem → LaidIn d mem region list → LaidIn c mem region list
full_stays d c mem region at n list few low high out full laid = record {
  text = window_same d c (region_at mem region) (length (records_bytes list)) (record {
    byte = λ i from to. elim (apart mem region few) [
      | inl under ↦ out.below i (omega (arith, under, low, to, laid.within))
      | inr past ↦ out.above i (omega (arith, past, high, from))
    ];
  }) ∙ laid.text;
  lawful = laid.lawful;
  few = laid.few;
  closed = λ lt. absurd (omega (arith, lt, full));
  within = laid.within;
}

module _ (log : Log) (few : log.active ≤ 1) (long : log.mem ≤ length log.list) (ready : Ready (behind_log log)) (old : DiskView) (holds : (d : Image) → Images old d → HoldsBytes d)
    (given : (d : Image) → Images old d → journal_changes d log.mem log.active ≡ Ok log.list)
    (f : Image) (there : Images old f) (rest : List ℕ) (split : 0xa7 ∷ rest ≡ records_bytes log.batch ++ 0 ∷ [])
    (high : gate_in (behind_log log) + 1 + length rest ≤ region_at log.mem (other_region log.active) + region_size log.mem) where
  abbrev gate : ℕ
  gate = gate_in (behind_log log)

  abbrev front : List Change
  front = take log.mem log.list

  full : length front ≡ log.mem
  full = length-take-le log.mem log.list long

  laids : (d : Image) → Images old d → LaidIn d log.mem log.active front × LaidIn d log.mem (other_region log.active) (drop log.mem log.list)
  laids d left = given_laid_both d log.mem log.active log.list (holds d left) (given d left) long

  front_stays : (d c : Image) (at n : ℕ) → region_at log.mem (other_region log.active) ≤ at → at + n ≤ region_at log.mem (other_region log.active) + region_size log.mem → Outside at n d c
      → LaidIn d log.mem log.active front → LaidIn c log.mem log.active front
  front_stays d c at n low more out = full_stays d c log.mem log.active at n front few low more out full

  abbrev written : Image
  written = patch f (gate + 1) rest

  written_front : LaidIn written log.mem log.active front
  written_front = front_stays f written (gate + 1) (length rest) (omega arith) high (outside_patch f (gate + 1) rest) (laids f there).0

  written_laid : LaidIn written log.mem (other_region log.active) (drop log.mem log.list)
  written_laid = keeps_laid (behind_log log) ready f written (length rest) (outside_patch f (gate + 1) rest) (laids f there).1

  all_is : front ++ (drop log.mem log.list ++ log.batch) ≡ log.list ++ log.batch
  all_is = sym (append_assoc front (drop log.mem log.list) log.batch) ∙ ap (λ (j : List Change). j ++ log.batch) (take-append-drop log.mem log.list)

  raised_given : (c : Image) → Outside gate 1 written c → c gate ≡ 0xa7 → journal_changes c log.mem log.active ≡ Ok (log.list ++ log.batch)
  raised_given c out up =
      laid_given_both c log.mem log.active front (drop log.mem log.list ++ log.batch)
      (front_stays written c gate 1 (omega arith) (omega (arith, high)) out written_front) full
      (raised_laid (behind_log log) ready written c rest split written_laid (window_patch f (gate + 1) rest) out up)
      ∙ ap (λ (j : List Change). Ok j) all_is

  shut_given : (c : Image) → Outside gate 1 written c → c gate ≢ 0xa7 → journal_changes c log.mem log.active ≡ Ok log.list
  shut_given c out shut =
      laid_given_both c log.mem log.active front (drop log.mem log.list)
      (front_stays written c gate 1 (omega arith) (omega (arith, high)) out written_front) full
      (record {
        text = window_same written c (region_at log.mem (other_region log.active)) (length (records_bytes (drop log.mem log.list))) (record { byte = λ i low more. out.below i (omega arith) }) ∙ written_laid.text;
        lawful = written_laid.lawful;
        few = written_laid.few;
        closed = λ lt. shut;
        within = written_laid.within;
      })
      ∙ ap (λ (j : List Change). Ok j) (take-append-drop log.mem log.list)

  -- each image gives the list or all
  pub any_behind : (c : Image) → BehindOrRaised old f gate rest c → GivesAllOrNone log c
  any_behind c (inl behind) =
      let was = laids behind.0 behind.1 in
      inl (laid_given_both c log.mem log.active front (drop log.mem log.list)
      (front_stays behind.0 c (gate + 1) (length rest) (omega arith) high behind.2 was.0) full
      (keeps_laid (behind_log log) ready behind.0 c (length rest) behind.2 was.1)
      ∙ ap (λ (j : List Change). Ok j) (take-append-drop log.mem log.list))
  any_behind c (inr out) = elim (cases_eq (c gate) 0xa7) [
    | inl up ↦ inr (raised_given c out up)
    | inr shut ↦ inl (shut_given c out shut)
  ]

  -- and after it all
  pub all_behind : (new : DiskView) → ((c : Image) → Images new c → c ≡ patch f gate (0xa7 ∷ rest)) → Stands new (batch_joined log)
  all_behind new settled =
      let out : Outside gate 1 written (patch f gate (0xa7 ∷ rest)) = patched_twice f gate rest in
      let up : patch f gate (0xa7 ∷ rest) gate ≡ 0xa7 = patched_first f gate 0xa7 rest in
      record {
        given = λ c left. subst (λ (c : Image). journal_changes c log.mem log.active ≡ Ok (log.list ++ log.batch)) (sym (settled c left)) (raised_given (patch f gate (0xa7 ∷ rest)) out up);
        shut = λ c left lt. absurd (omega (arith, lt, long, length-append log.list log.batch));
      }
