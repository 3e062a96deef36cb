-- Records that stand in an image are read, and what is read stands there.
use Rattle.std.proofs.Common.{◌≡◌, ◌≢◌, ◌≤◌, ◌<◌, ◌+◌, ◌-◌, ℕ, zero, suc, true, false, cond, inl, inr, List, [], ◌∷◌, ◌++◌, length, take, drop, map, Some, Result, Ok, Err, refl, sym, ap, ◌∙◌, subst, arith, length-append}
use Rattle.std.specs.List.{list_all}
use Rattle.std.proofs.lemmas.Bool.{eqb-true, eq-eqb, and_parts, and_from, cond-true, cases_Bool, cases_lt}
use Rattle.std.proofs.lemmas.List.{take_at, drop_at, get_or_past}
use Rattle.def_crash.specs.Image.{Image, HoldsBytes, window}
use Rattle.strat_base.specs.Numbers.{AreBytes}
use Rattle.strat_base.specs.Change.{Change, Put, Delete, Clone, DropVersion, change_bytes, change_in, is_lawful, BeginsWithChange}
use Rattle.def_crash.proofs.ImageLemmas.{length-window, window_at, window_split}
use Rattle.strat_base.proofs.ChangeLemmas.{change_in-bytes, change_in-some}
use Rattle.strat_base.proofs.ResultFacts.{option_cases}
use Rattle.strat_journal.specs.Laid.{Laid}
use Rattle.def_bytes.specs.Damage.{put_first}
use Rattle.def_bytes.specs.Records.{Logged, records_bytes, block_of, record_then, records}
use Rattle.strat_journal.specs.Records.{logged_from}
use Rattle.def_bytes.specs.Layout.{is_open}

size_some : (change : Change) → 1 ≤ length (change_bytes change)
size_some (Put version key value) = omega arith
size_some (Delete version key) = omega arith
size_some (Clone version) = omega arith
size_some (DropVersion version) = omega arith

pub none_text : (c : Image) (at : ℕ) → window c at 0 ≡ []
unfolding window
none_text c at = refl

-- one text behind another
module _ (c : Image) (at : ℕ) (xs ys : List ℕ) where
  both : window c at (length (xs ++ ys)) ≡ window c at (length xs) ++ window c (at + length xs) (length ys)
  both = ap (window c at) (length-append xs ys) ∙ window_split c at (length xs) (length ys)

  pub window_front : window c at (length (xs ++ ys)) ≡ xs ++ ys → window c at (length xs) ≡ xs
  window_front e =
      sym (take_at (window c at (length xs)) (window c (at + length xs) (length ys)) (length xs) (length-window c at (length xs)))
      ∙ ap (take (length xs)) (sym both ∙ e)
      ∙ take_at xs ys (length xs) refl

  pub window_rest : window c at (length (xs ++ ys)) ≡ xs ++ ys → window c (at + length xs) (length ys) ≡ ys
  window_rest e =
      sym (drop_at (window c at (length xs)) (window c (at + length xs) (length ys)) (length xs) (length-window c at (length xs)))
      ∙ ap (drop (length xs)) (sym both ∙ e)
      ∙ drop_at xs ys (length xs) refl

  pub window_both : window c at (length xs) ≡ xs → window c (at + length xs) (length ys) ≡ ys → window c at (length (xs ++ ys)) ≡ xs ++ ys
  window_both e f = both ∙ (λ i. e i ++ f i)

-- a text at the front of a wider window
pub window_wider : (c : Image) (at m : ℕ) (xs : List ℕ) → window c at (length xs) ≡ xs → length xs ≤ m → window c at m ≡ xs ++ window c (at + length xs) (m - length xs)
window_wider c at m xs e long =
    let split : m ≡ length xs + (m - length xs) = omega arith in
    ap (window c at) split ∙ window_split c at (length xs) (m - length xs) ∙ ap (λ (x : List ℕ). x ++ window c (at + length xs) (m - length xs)) e

pub AreBytes-window : (c : Image) (at n : ℕ) → HoldsBytes c → AreBytes (window c at n)
AreBytes-window c at n holds i = elim (cases_lt i n) [
  | inl within ↦ rw (window_at c at n i within) (holds (at + i))
  | inr past ↦ rw (get_or_past (window c at n) i 0 (omega (arith, length-window c at n))) (omega arith)
]

-- the parts of the text of a first record
module _ (c : Image) (at : ℕ) (change : Change) (list : List Change) where
  pub gate_of : window c at (length (records_bytes (change ∷ list))) ≡ records_bytes (change ∷ list) → c at ≡ 0xa7
  unfolding window
  gate_of e = cc

  behind_of : window c at (length (records_bytes (change ∷ list))) ≡ records_bytes (change ∷ list)
      → window c (at + 1) (length (change_bytes change ++ records_bytes list)) ≡ change_bytes change ++ records_bytes list
  unfolding window
  behind_of e = let next : at + 1 ≡ suc at = omega arith in rw next (let f : window c (suc at) (length (change_bytes change ++ records_bytes list)) ≡ change_bytes change ++ records_bytes list = cc in f)

  pub first_of : window c at (length (records_bytes (change ∷ list))) ≡ records_bytes (change ∷ list) → window c (at + 1) (length (change_bytes change)) ≡ change_bytes change
  first_of e = window_front c (at + 1) (change_bytes change) (records_bytes list) (behind_of e)

  pub later_of : window c at (length (records_bytes (change ∷ list))) ≡ records_bytes (change ∷ list)
      → window c (at + 1 + length (change_bytes change)) (length (records_bytes list)) ≡ records_bytes list
  later_of e = window_rest c (at + 1) (change_bytes change) (records_bytes list) (behind_of e)

  pub text_of : c at ≡ 0xa7 → window c (at + 1) (length (change_bytes change)) ≡ change_bytes change
      → window c (at + 1 + length (change_bytes change)) (length (records_bytes list)) ≡ records_bytes list
      → window c at (length (records_bytes (change ∷ list))) ≡ records_bytes (change ∷ list)
  unfolding window
  text_of gate first later =
      let next : suc at ≡ at + 1 = omega arith in
      let rest : window c (suc at) (length (change_bytes change ++ records_bytes list)) ≡ change_bytes change ++ records_bytes list =
      ap (λ (n : ℕ). window c n (length (change_bytes change ++ records_bytes list))) next ∙ window_both c (at + 1) (change_bytes change) (records_bytes list) first later in
      λ i. gate i ∷ rest i

pub open_gate : (gate : ℕ) (a b : Result (List Logged) ℕ) → gate ≡ 0xa7 → cond (is_open gate) a b ≡ a
open_gate gate a b e = cond-true (is_open gate) a b (eq-eqb gate 0xa7 e)

pub shut_gate : (gate : ℕ) (a b : Result (List Logged) ℕ) → gate ≢ 0xa7 → cond (is_open gate) a b ≡ b
shut_gate gate a b shut = elim (cases_Bool (is_open gate)) [
  | inl up ↦ absurd (shut (eqb-true gate 0xa7 up))
  | inr down ↦ rw down refl
]

-- the records behind a first one
later_laid : (c : Image) (end n at : ℕ) (change : Change) (list : List Change) → Laid c end (suc n) at (change ∷ list)
    → Laid c end n (at + 1 + length (change_bytes change)) list
later_laid c end n at change list laid =
    let size : length (records_bytes (change ∷ list)) ≡ 1 + length (change_bytes change) + length (records_bytes list) = omega (arith, length-append (change_bytes change) (records_bytes list)) in
    record {
      text = later_of c at change list laid.text;
      lawful = (and_parts (is_lawful change) (list_all is_lawful list) laid.lawful).1;
      few = omega (arith, laid.few);
      closed = λ lt up. let same : at + length (records_bytes (change ∷ list)) ≡ at + 1 + length (change_bytes change) + length (records_bytes list) = omega (arith, size) in
          laid.closed (omega arith) (ap c same ∙ up);
      within = omega (arith, laid.within, size);
    }

-- a change that stands behind a gate is read there
stands_read : (c : Image) (end at : ℕ) (change : Change) → is_lawful change ≡ true → window c (at + 1) (length (change_bytes change)) ≡ change_bytes change
    → at + 1 + length (change_bytes change) ≤ end → change_in (window c (at + 1) (end - (at + 1))) ≡ Some change
stands_read c end at change lawful text within =
    ap change_in (window_wider c (at + 1) (end - (at + 1)) (change_bytes change) text (omega arith))
    ∙ change_in-bytes change (window c (at + 1 + length (change_bytes change)) (end - (at + 1) - length (change_bytes change))) lawful

-- what stands is read
pub laid_read : (c : Image) (end n at : ℕ) (list : List Change) → Laid c end n at list → records c end n at ≡ Ok (logged_from at list)
unfolding records
laid_read c end zero at [] laid = refl
laid_read c end (suc n) at [] laid =
    let same : at ≡ at + 0 = omega arith in
    shut_gate (c at) _ (Ok []) (λ up. laid.closed (omega arith) (ap c (sym same) ∙ up))
laid_read c end zero at (change ∷ list) laid = absurd (omega (arith, laid.few))
laid_read c end (suc n) at (change ∷ list) laid =
    let later = later_laid c end n at change list laid in
    open_gate (c at) _ (Ok []) (gate_of c at change list laid.text)
    ∙ ap (record_then at (λ next. records c end n next)) (stands_read c end at change (and_parts (is_lawful change) (list_all is_lawful list) laid.lawful).0 (first_of c at change list laid.text) (omega (arith, later.within)))
    ∙ ap (put_first (record { change = change; block = block_of at })) (laid_read c end n (at + 1 + length (change_bytes change)) list later)

abbrev pub changes : List Logged → List Change
changes logged = map (λ (l : Logged). l.change) logged

abbrev pub Read : Image → ℕ → ℕ → ℕ → List Logged → Type 0
Read c end n at logged = Laid c end n at (changes logged) × (logged ≡ logged_from at (changes logged))

none_read : (c : Image) (end n at : ℕ) → at ≤ end → (0 < n → c at ≢ 0xa7) → Read c end n at []
none_read c end n at within shut = (
  record {
    text = none_text c at;
    lawful = refl;
    few = omega arith;
    closed = λ lt up. let same : at ≡ at + 0 = omega arith in shut lt (ap c same ∙ up);
    within = omega arith;
  },
  refl,
)

first_read : (c : Image) (end n at : ℕ) (change : Change) (logged : List Logged) → c at ≡ 0xa7 → BeginsWithChange (window c (at + 1) (end - (at + 1))) change
    → Read c end n (at + 1 + length (change_bytes change)) logged → Read c end (suc n) at (record { change = change; block = block_of at } ∷ logged)
first_read c end n at change logged up begins later =
    let cb : List ℕ = change_bytes change in
    let size : end - (at + 1) ≡ length (cb ++ begins.rest) = sym (length-window c (at + 1) (end - (at + 1))) ∙ ap length begins.split in
    let first : window c (at + 1) (length cb) ≡ cb = window_front c (at + 1) cb begins.rest (ap (window c (at + 1)) (sym size) ∙ begins.split) in
    let more : length (records_bytes (change ∷ changes logged)) ≡ 1 + length cb + length (records_bytes (changes logged)) = omega (arith, length-append cb (records_bytes (changes logged))) in (
      record {
        text = text_of c at change (changes logged) up first later.0.text;
        lawful = and_from (is_lawful change) (list_all is_lawful (changes logged)) begins.lawful later.0.lawful;
        few = omega (arith, later.0.few);
        closed = λ lt open'. let same : at + 1 + length cb + length (records_bytes (changes logged)) ≡ at + length (records_bytes (change ∷ changes logged)) = omega (arith, more) in
            later.0.closed (omega arith) (ap c same ∙ open');
        within = omega (arith, later.0.within, more);
      },
      ap (λ (xs : List Logged). record { change = change; block = block_of at } ∷ xs) later.1,
    )

put_first_ok : {X : Type 0} (x : X) (r : Result (List X) ℕ) (xs : List X) → put_first x r ≡ Ok xs → (ys : List X) × (r ≡ Ok ys) × (x ∷ ys ≡ xs)
put_first_ok x (Ok ys) xs e = (ys, refl, cc)
put_first_ok x (Err block) xs e = absurd (cc)

begins_within : (c : Image) (end at : ℕ) (change : Change) → BeginsWithChange (window c (at + 1) (end - (at + 1))) change → at + 1 + length (change_bytes change) ≤ end
begins_within c end at change begins =
    omega (arith, length-window c (at + 1) (end - (at + 1)), ap length begins.split, length-append (change_bytes change) begins.rest, size_some change)

-- what is read stands
pub read_laid : (c : Image) (end n at : ℕ) (logged : List Logged) → HoldsBytes c → at ≤ end → records c end n at ≡ Ok logged → Read c end n at logged
unfolding records
read_laid c end zero at logged holds within e = let same : [] ≡ logged = cc in subst (Read c end zero at) same (none_read c end zero at within (λ lt up. omega arith))
read_laid c end (suc n) at logged holds within e =
    elim (cases_Bool (is_open (c at))) [
      | inr down ↦
          let shut : c at ≢ 0xa7 = λ up. let t : is_open (c at) ≡ true = eq-eqb (c at) 0xa7 up in let f : true ≡ false = sym t ∙ down in cc in
          let same : Ok [] ≡ Ok logged = sym (shut_gate (c at) _ (Ok []) shut) ∙ e in
          let none : [] ≡ logged = cc in
          subst (Read c end (suc n) at) none (none_read c end (suc n) at within (λ lt. shut))
      | inl up ↦
          let there : record_then at (λ next. records c end n next) (change_in (window c (at + 1) (end - (at + 1)))) ≡ Ok logged =
          sym (open_gate (c at) _ (Ok []) (eqb-true (c at) 0xa7 up)) ∙ e in
          elim (option_cases (change_in (window c (at + 1) (end - (at + 1))))) [
            | inl none ↦ absurd (let f : Err (block_of at) ≡ Ok logged = ap (record_then at (λ next. records c end n next)) (sym none) ∙ there in cc)
            | inr change ↦
                let begins = change_in-some (window c (at + 1) (end - (at + 1))) change.0 (AreBytes-window c (at + 1) (end - (at + 1)) holds) change.1 in
                let next : ℕ = at + 1 + length (change_bytes change.0) in
                let found = put_first_ok (record { change = change.0; block = block_of at }) (records c end n next) logged
                (ap (record_then at (λ next. records c end n next)) (sym change.1) ∙ there) in
                let few : next ≤ end = begins_within c end at change.0 begins in
                let later = read_laid c end n next found.0 holds few found.1 in
                subst (Read c end (suc n) at) found.2 (first_read c end n at change.0 found.0 (eqb-true (c at) 0xa7 up) begins later)
          ]
    ]
