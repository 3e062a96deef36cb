-- A run over a list takes a step, and takes one more entry.
use Rattle.std.proofs.Common.{◌≡◌, ◌<◌, ◌≤◌, ℕ, zero, suc, ◌+◌, ◌-◌, Bool, true, ◌&&◌, nat_lt, List, [], ◌∷◌, ◌++◌, length, map, drop, get_or, Option, Some, None, is_some, refl, sym, ap, ◌∙◌, subst, arith, true≢false}
use Rattle.std.specs.Prelude.{IfSome}
use Rattle.std.specs.List.{list_all, slice_get}
use Rattle.std.specs.Option.{option_map}
use Rattle.std.specs.Ordering.{is_lt}
use Rattle.std.proofs.lemmas.Bool.{and_parts, and_from}
use Rattle.std.proofs.lemmas.Bool.Decides.{nat_tests}
use Rattle.std.proofs.lemmas.List.{map-append}
use Rattle.std.proofs.lemmas.List.Folds.{list_all-append}
use Rattle.std.proofs.lemmas.Option.{slice_get-get_or}
use Rattle.strat_base.specs.declared.entries.Entry.{Entry as Borrowed}
use Rattle.strat_base.specs.Order.{entry_cmp}
use Rattle.strat_base.specs.Entries.{Entry, is_ascending}
use Rattle.strat_base.specs.EntryBytes.{fits_fields}
use Rattle.strat_base.specs.EntryView.{entry_of}
use Rattle.strat_base.proofs.ListFacts.{Among}
use Rattle.def_crash.specs.Moments.{DiskView}
use Rattle.strat_merge.specs.Runs.{Advances, ReadsFront}
use Rattle.strat_merge.proofs.OrderLemmas.{all_before, ascending_more}
use Rattle.strat_merge_tests.specs.ListRuns.{is_entry_list, IsBehind, list_view, ascending_left}

-- the first entry that is left

pub first_at : (entries : List Borrowed) (at : ℕ) (d : Borrowed) → at < length entries → Some (entry_of (get_or entries at d)) ≡ slice_get (drop at (map entry_of entries)) 0
first_at [] at d lt = absurd (omega arith)
first_at (e ∷ entries) zero d lt = refl
first_at (e ∷ entries) (suc at) d lt = first_at entries at d (omega arith)

pub none_at : (entries : List Borrowed) (at : ℕ) → length entries ≤ at → None ≡ slice_get (drop at (map entry_of entries)) 0
none_at [] zero le = refl
none_at [] (suc at) le = refl
none_at (e ∷ entries) zero le = absurd (omega arith)
none_at (e ∷ entries) (suc at) le = none_at entries at (omega arith)

all_left : (p : Entry → Bool) (at : ℕ) (entries : List Entry) (e : Entry) → list_all p entries ≡ true → slice_get (drop at entries) 0 ≡ Some e → p e ≡ true
all_left p zero [] e all is = cc
all_left p (suc at) [] e all is = cc
all_left p zero (x ∷ entries) e all is =
    let same : x ≡ e = cc in
    subst (λ (y : Entry). p y ≡ true) same (and_parts (p x) (list_all p entries) all).0
all_left p (suc at) (x ∷ entries) e all is = all_left p at entries e (and_parts (p x) (list_all p entries) all).1 is

module _ (versions at : ℕ) (entries : List Entry) (kept : is_entry_list versions entries ≡ true) where
  parts : (list_all fits_fields entries ≡ true) × (list_all (λ e. nat_lt e.version versions) entries ≡ true)
  parts = and_parts (list_all fits_fields entries) (list_all (λ e. nat_lt e.version versions) entries)
      (and_parts (is_ascending entries) (list_all fits_fields entries && list_all (λ e. nat_lt e.version versions) entries) kept).1

  -- it is lawful
  pub first_fits : (r : Option Borrowed) → option_map entry_of r ≡ slice_get (drop at entries) 0 → IfSome r (λ e. fits_fields (entry_of e) ≡ true)
  first_fits None is = tt
  first_fits (Some e) is = all_left fits_fields at entries (entry_of e) parts.0 (sym is)

  pub first_below : (r : Option Borrowed) → option_map entry_of r ≡ slice_get (drop at entries) 0 → IfSome r (λ e. e.version < versions)
  first_below None is = tt
  first_below (Some e) is = let low = all_left (λ d. nat_lt d.version versions) at entries (entry_of e) parts.1 (sym is) in grind (arith, nat_tests)

-- a step

drop_next : (n : ℕ) (entries : List Entry) → drop (suc n) entries ≡ drop 1 (drop n entries)
drop_next zero entries = refl
drop_next (suc n) [] = refl
drop_next (suc n) (e ∷ entries) = drop_next n entries

pub drop_step : (n : ℕ) (entries : List Entry) → drop (n + 1) entries ≡ drop 1 (drop n entries)
drop_step n entries = let same : n + 1 ≡ suc n = omega arith in ap (λ (m : ℕ). drop m entries) same ∙ drop_next n entries

second_behind : (entries : List Entry) (e f : Entry) → is_ascending entries ≡ true → slice_get entries 0 ≡ Some e → slice_get (drop 1 entries) 0 ≡ Some f → is_lt (entry_cmp e.key e.version f.key f.version) ≡ true
second_behind [] e f up first second = cc
second_behind (x ∷ []) e f up first second = cc
second_behind (x ∷ y ∷ entries) e f up first second =
    let here : x ≡ e = cc in
    let there : y ≡ f = cc in
    let all = (and_parts (list_all (λ later. is_lt (entry_cmp x.key x.version later.key later.version)) (y ∷ entries)) (is_ascending (y ∷ entries)) up).0 in
    subst (λ (z : Entry). is_lt (entry_cmp z.key z.version f.key f.version) ≡ true) here
    (subst (λ (z : Entry). is_lt (entry_cmp x.key x.version z.key z.version) ≡ true) there
    (and_parts (is_lt (entry_cmp x.key x.version y.key y.version)) (list_all (λ later. is_lt (entry_cmp x.key x.version later.key later.version)) entries) all).0)

pub list_advances : (disk : DiskView) (versions block good at : ℕ) (entries : List Entry) → is_entry_list versions entries ≡ true → Advances disk (list_view versions block good at entries) (list_view versions block good (at + 1) entries)
list_advances disk versions block good at entries kept =
    let up = (and_parts (is_ascending entries) (list_all fits_fields entries && list_all (λ e. nat_lt e.version versions) entries) kept).0 in
    record {
      rest = λ _ _. drop_step at entries;
      later = λ e f first second. second_behind (drop at entries) e f (ascending_left at entries up) first (ap (λ (xs : List Entry). slice_get xs 0) (sym (drop_step at entries)) ∙ second);
      bound = refl;
    }

front : (block before now : ℕ) (entries : List Entry) → is_some (slice_get entries 0) ≡ true → before ≤ now → now ≤ before + 1 → ReadsFront (map (λ _. block) entries) (map (λ _. block) (drop 1 entries)) before now
front block before now [] some later most = absurd (true≢false (sym some))
front block before now (e ∷ entries) some later most = record { read = block ∷ []; split = refl; later = later; most = most }

pub list_reads : (block at before now : ℕ) (entries : List Entry) → is_some (slice_get (drop at entries) 0) ≡ true → before ≤ now → now ≤ before + 1 → ReadsFront (map (λ _. block) (drop at entries)) (map (λ _. block) (drop (at + 1) entries)) before now
list_reads block at before now entries some later most =
    subst (λ (xs : List Entry). ReadsFront (map (λ _. block) (drop at entries)) (map (λ _. block) xs) before now) (sym (drop_step at entries))
    (front block before now (drop at entries) some later most)

-- one more entry

last_there : (entries : List Entry) (d : Entry) → Among d entries → (last : Entry) × (slice_get entries (length entries - 1) ≡ Some last)
last_there [] d among = absurd among
last_there (x ∷ entries) d among = (get_or (x ∷ entries) (length (x ∷ entries) - 1) x, slice_get-get_or (x ∷ entries) (length (x ∷ entries) - 1) x (omega arith))

pub list_pushed : (versions : ℕ) (entries : List Borrowed) (e : Borrowed) → fits_fields (entry_of e) ≡ true → e.version < versions → IsBehind (map entry_of entries) (entry_of e)
    → is_entry_list versions (map entry_of entries) ≡ true → is_entry_list versions (map entry_of (entries ++ e ∷ [])) ≡ true
list_pushed versions entries e fits below behind kept =
    let es : List Entry = map entry_of entries in
    let first = and_parts (is_ascending es) (list_all fits_fields es && list_all (λ d. nat_lt d.version versions) es) kept in
    let second = and_parts (list_all fits_fields es) (list_all (λ d. nat_lt d.version versions) es) first.1 in
    let low : nat_lt e.version versions ≡ true = grind (arith, nat_tests) in
    subst (λ (xs : List Entry). is_entry_list versions xs ≡ true) (sym (map-append entry_of entries (e ∷ [])))
    (and_from (is_ascending (es ++ entry_of e ∷ [])) (list_all fits_fields (es ++ entry_of e ∷ []) && list_all (λ d. nat_lt d.version versions) (es ++ entry_of e ∷ []))
    (ascending_more es (entry_of e) first.0 (λ d among. let last = last_there es d among in all_before es last.0 (entry_of e) d first.0 last.1 (behind last.0 last.1) among))
    (and_from (list_all fits_fields (es ++ entry_of e ∷ [])) (list_all (λ d. nat_lt d.version versions) (es ++ entry_of e ∷ []))
    (list_all-append fits_fields es (entry_of e ∷ []) ∙ and_from (list_all fits_fields es) (fits_fields (entry_of e) && true) second.0 (and_from (fits_fields (entry_of e)) true fits refl))
    (list_all-append (λ d. nat_lt d.version versions) es (entry_of e ∷ []) ∙ and_from (list_all (λ d. nat_lt d.version versions) es) (nat_lt e.version versions && true) second.1 (and_from (nat_lt e.version versions) true low refl))))
