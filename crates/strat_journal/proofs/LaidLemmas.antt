-- The changes of an image are those of the records that stand in its active region.
use Rattle.std.proofs.Common.{◌≡◌, ◌≢◌, ◌≤◌, ◌<◌, ◌+◌, ◌*◌, ℕ, zero, suc, true, eqb, ◌⊎◌, inl, inr, List, [], ◌∷◌, ◌++◌, length, Result, Ok, Err, refl, sym, ap, ◌∙◌, subst, arith, length-append, append_assoc}
use Rattle.std.specs.List.{list_all}
use Rattle.std.proofs.lemmas.Bool.{eqb-true, eq-eqb, and_parts, and_from, cond-true, cases_Bool, cases_eq}
use Rattle.std.proofs.lemmas.List.{append-nil, length-map}
use Rattle.def_crash.specs.Image.{Image, HoldsBytes, Outside}
use Rattle.def_crash.proofs.ImageLemmas.{window_same}
use Rattle.strat_base.specs.Change.{Change, change_bytes, is_lawful}
use Rattle.def_bytes.specs.Layout.{region_at, region_size, other_region}
use Rattle.strat_base.proofs.ChangeLemmas.{length-change_bytes}
use Rattle.strat_journal.specs.Laid.{Laid}
use Rattle.def_bytes.specs.Damage.{Read, and_then}
use Rattle.def_bytes.specs.Records.{Logged, records_bytes, full_then, region_records, journal_of}
use Rattle.strat_journal.specs.Records.{logged_from, changes_in_order, journal_changes}
use Rattle.strat_journal.proofs.RecordLemmas.{changes, none_text, laid_read, read_laid}

-- two lists, one behind the other
abbrev pub joined : {X : Type 0} → List X → Read (List X) → Read (List X)
joined xs others = and_then others (λ later. Ok (xs ++ later))

-- a list that is read, and where it has n elements others behind it
abbrev pub fully : ℕ → Read (List Logged) → Read (List Logged) → Read (List Logged)
fully n others read = and_then read (full_then n others)

pub records_bytes-append : (xs ys : List Change) → records_bytes (xs ++ ys) ≡ records_bytes xs ++ records_bytes ys
records_bytes-append [] ys = refl
records_bytes-append (x ∷ xs) ys =
    ap (λ (z : List ℕ). 0xa7 ∷ (change_bytes x ++ z)) (records_bytes-append xs ys)
    ∙ ap (λ (z : List ℕ). 0xa7 ∷ z) (sym (append_assoc (change_bytes x) (records_bytes xs) (records_bytes ys)))

pub all_lawful-append : (xs ys : List Change) → list_all is_lawful xs ≡ true → list_all is_lawful ys ≡ true → list_all is_lawful (xs ++ ys) ≡ true
all_lawful-append [] ys e f = f
all_lawful-append (x ∷ xs) ys e f =
    let parts = and_parts (is_lawful x) (list_all is_lawful xs) e in
    and_from (is_lawful x) (list_all is_lawful (xs ++ ys)) parts.0 (all_lawful-append xs ys parts.1 f)

-- lawful records have at most 1,288 bytes each
pub length-records_bytes : (xs : List Change) → list_all is_lawful xs ≡ true → length (records_bytes xs) ≤ 1288 * length xs
length-records_bytes [] e = omega arith
length-records_bytes (x ∷ xs) e =
    let parts = and_parts (is_lawful x) (list_all is_lawful xs) e in
    omega (arith, length-append (change_bytes x) (records_bytes xs), length-change_bytes x parts.0, length-records_bytes xs parts.1)

pub changes-logged_from : (at : ℕ) (xs : List Change) → changes (logged_from at xs) ≡ xs
changes-logged_from at [] = refl
changes-logged_from at (x ∷ xs) = ap (λ (ys : List Change). x ∷ ys) (changes-logged_from (at + 1 + length (change_bytes x)) xs)

pub length-logged_from : (at : ℕ) (xs : List Change) → length (logged_from at xs) ≡ length xs
length-logged_from at [] = refl
length-logged_from at (x ∷ xs) = ap suc (length-logged_from (at + 1 + length (change_bytes x)) xs)

-- a region takes as many of the largest records, and a gate
pub region_takes : (mem : ℕ) → 1288 * mem + 1 ≤ region_size mem
region_takes mem = omega arith

abbrev pub LaidIn : Image → ℕ → ℕ → List Change → Type 0
LaidIn c mem region list = Laid c (region_at mem region + region_size mem) mem (region_at mem region) list

pub full_false : (n : ℕ) (others : Read (List Logged)) (xs : List Logged) → length xs ≢ n → fully n others (Ok xs) ≡ Ok xs
full_false n others xs apart = elim (cases_Bool (eqb (length xs) n)) [
  | inl same ↦ absurd (apart (eqb-true (length xs) n same))
  | inr other ↦ rw other refl
]

pub full_true : (n : ℕ) (others : Read (List Logged)) (xs : List Logged) → length xs ≡ n → fully n others (Ok xs) ≡ joined xs others
full_true n others xs same = cond-true (eqb (length xs) n) (joined xs others) (Ok xs) (eq-eqb (length xs) n same)

joined_long : (others : Result (List Logged) ℕ) (xs : List Logged) (list : List Change) → changes_in_order (joined xs others) ≡ Ok list → length list < length xs → ⊥
joined_long (Err block) xs list e short = absurd (cc)
joined_long (Ok ys) xs list e short =
    let same : changes (xs ++ ys) ≡ list = cc in
    omega (arith, ap length same, length-map (xs ++ ys) (λ (l : Logged). l.change), length-append xs ys)

-- a closed first gate leaves a region without records
pub closed_records : (c : Image) (mem region : ℕ) → c (region_at mem region) ≢ 0xa7 → region_records c mem region ≡ Ok []
closed_records c mem region shut = laid_read c (region_at mem region + region_size mem) mem (region_at mem region) [] (record {
  text = none_text c (region_at mem region);
  lawful = refl;
  few = omega arith;
  closed = λ lt up. let same : region_at mem region ≡ region_at mem region + 0 = omega arith in shut (ap c same ∙ up);
  within = omega arith;
})

-- the changes that stand in the active region are given, where the other region has none behind a full one
pub laid_given : (c : Image) (mem active : ℕ) (list : List Change) → LaidIn c mem active list
    → (length list ≡ mem → c (region_at mem (other_region active)) ≢ 0xa7) → journal_changes c mem active ≡ Ok list
laid_given c mem active list laid shut =
    let s : ℕ = region_at mem active in
    let read : region_records c mem active ≡ Ok (logged_from s list) = laid_read c (s + region_size mem) mem s list laid in
    let others : Result (List Logged) ℕ = region_records c mem (other_region active) in
    ap (λ (r : Result (List Logged) ℕ). changes_in_order (fully mem others r)) read
    ∙ elim (cases_eq (length list) mem) [
      | inl full ↦
          ap changes_in_order (full_true mem others (logged_from s list) (length-logged_from s list ∙ full))
          ∙ ap (λ (r : Result (List Logged) ℕ). changes_in_order (joined (logged_from s list) r)) (closed_records c mem (other_region active) (shut full))
          ∙ ap (λ (xs : List Logged). Ok (changes xs)) (append-nil (logged_from s list))
          ∙ ap (λ (xs : List Change). Ok xs) (changes-logged_from s list)
      | inr part ↦
          ap changes_in_order (full_false mem others (logged_from s list) (λ same. part (sym (length-logged_from s list) ∙ same)))
          ∙ ap (λ (xs : List Change). Ok xs) (changes-logged_from s list)
    ]

-- a journal of fewer changes than a region takes is what the active region has
given_part : (mem : ℕ) (others r : Result (List Logged) ℕ) (list : List Change) → length list < mem → changes_in_order (fully mem others r) ≡ Ok list
    → (xs : List Logged) × (r ≡ Ok xs) × (changes xs ≡ list)
given_part mem others (Err block) list few e = absurd (cc)
given_part mem others (Ok xs) list few e = elim (cases_eq (length xs) mem) [
  | inr part ↦ let same : Ok (changes xs) ≡ Ok list = ap changes_in_order (sym (full_false mem others xs part)) ∙ e in (xs, refl, cc)
  | inl full ↦ absurd (joined_long others xs list (ap changes_in_order (sym (full_true mem others xs full)) ∙ e) (omega (arith, full)))
]

-- changes that are given, fewer than a region takes, stand in the active region
pub given_laid : (c : Image) (mem active : ℕ) (list : List Change) → HoldsBytes c → journal_changes c mem active ≡ Ok list → length list < mem → LaidIn c mem active list
given_laid c mem active list holds given few =
    let s : ℕ = region_at mem active in
    let others : Result (List Logged) ℕ = region_records c mem (other_region active) in
    let found = given_part mem others (region_records c mem active) list few given in
    let read = read_laid c (s + region_size mem) mem s found.0 holds (omega arith) found.1 in
    subst (LaidIn c mem active) found.2 read.0

longer : {X : Type 0} (others : Result (List X) ℕ) (xs list : List X) → joined xs others ≡ Ok list → length list < length xs → ⊥
longer (Err block) xs list e short = absurd (cc)
longer (Ok ys) xs list e short = let same : xs ++ ys ≡ list = cc in omega (arith, ap length same, length-append xs ys)

journal_part : (mem : ℕ) (others r : Result (List Logged) ℕ) (logged : List Logged) → length logged < mem → fully mem others r ≡ Ok logged → r ≡ Ok logged
journal_part mem others (Err block) logged few e = absurd (cc)
journal_part mem others (Ok xs) logged few e = elim (cases_eq (length xs) mem) [
  | inr part ↦ sym (full_false mem others xs part) ∙ e
  | inl full ↦ absurd (longer others xs logged (sym (full_true mem others xs full) ∙ e) (omega (arith, full)))
]

-- a journal of fewer changes than a region takes stands in the active region, and the other way round
pub journal_laid : (c : Image) (mem active : ℕ) (logged : List Logged) → HoldsBytes c → journal_of c mem active ≡ Ok logged → length logged < mem
    → LaidIn c mem active (changes logged) × (logged ≡ logged_from (region_at mem active) (changes logged))
journal_laid c mem active logged holds e few =
    let s : ℕ = region_at mem active in
    let found = journal_part mem (region_records c mem (other_region active)) (region_records c mem active) logged few e in
    read_laid c (s + region_size mem) mem s logged holds (omega arith) found

pub laid_journal : (c : Image) (mem active : ℕ) (list : List Change) → LaidIn c mem active list → length list < mem → journal_of c mem active ≡ Ok (logged_from (region_at mem active) list)
laid_journal c mem active list laid few =
    let s : ℕ = region_at mem active in
    ap (fully mem (region_records c mem (other_region active))) (laid_read c (s + region_size mem) mem s list laid)
    ∙ full_false mem (region_records c mem (other_region active)) (logged_from s list) (λ full. omega (arith, few, full, length-logged_from s list))

-- the first byte of one region lies in no record of the other
pub outside_other : (mem region : ℕ) → region ≤ 1
    → (region_at mem region + 1 ≤ region_at mem (other_region region)) ⊎ (region_at mem (other_region region) + region_size mem ≤ region_at mem region)
outside_other mem zero few = inl (omega arith)
outside_other mem (suc zero) few = inr (omega arith)
outside_other mem (suc (suc k)) few = absurd (omega arith)

-- what stands in one region stays when the other's first gate changes
pub gate_keeps : (d c : Image) (mem region : ℕ) (list : List Change) → region ≤ 1 → 4 ≤ mem → length list < mem → Outside (region_at mem region) 1 d c → LaidIn d mem (other_region region) list
    → LaidIn c mem (other_region region) list
gate_keeps d c mem region list few some short out laid =
    let s : ℕ = region_at mem (other_region region) in
    let size : length (records_bytes list) + 1 ≤ region_size mem = omega (arith, length-records_bytes list laid.lawful, region_takes mem) in
    let same : (i : ℕ) → s ≤ i → i < s + region_size mem → c i ≡ d i = λ i low high. elim (outside_other mem region few) [
      | inl under ↦ out.above i (omega arith)
      | inr past ↦ out.below i (omega arith)
    ] in
    record {
      text = window_same d c s (length (records_bytes list)) (record { byte = λ i low high. same i low (omega (arith, size)) }) ∙ laid.text;
      lawful = laid.lawful;
      few = laid.few;
      closed = λ lt up. laid.closed lt (sym (same (s + length (records_bytes list)) (omega arith) (omega (arith, size))) ∙ up);
      within = laid.within;
    }

-- so the journal of the one does, too
pub journal_kept : (d c : Image) (mem region : ℕ) (logged : List Logged) → HoldsBytes d → region ≤ 1 → 4 ≤ mem → length logged < mem → Outside (region_at mem region) 1 d c
    → journal_of d mem (other_region region) ≡ Ok logged → journal_of c mem (other_region region) ≡ Ok logged
journal_kept d c mem region logged holds few some short out e =
    let read = journal_laid d mem (other_region region) logged holds e short in
    let size : length (changes logged) ≡ length logged = length-map logged (λ (l : Logged). l.change) in
    laid_journal c mem (other_region region) (changes logged) (gate_keeps d c mem region (changes logged) few some (omega (arith, size)) out read.0) (omega (arith, size))
    ∙ ap (λ (xs : List Logged). Ok xs) (sym read.1)
