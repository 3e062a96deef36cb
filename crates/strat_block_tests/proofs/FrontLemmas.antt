-- Entries that were pushed one after the other.
use Rattle.std.proofs.Common.{◌≡◌, ◌<◌, ◌+◌, ℕ, zero, suc, Bool, true, List, [], ◌∷◌, ◌++◌, length, take, get_or, map, refl, ap, ◌∙◌, arith}
use Rattle.std.specs.List.{list_all}
use Rattle.std.specs.Ordering.{is_lt}
use Rattle.strat_base.specs.Order.{entry_cmp}
use Rattle.std.proofs.lemmas.Bool.{and_parts, and_from}
use Rattle.strat_base.specs.declared.entries.Entry.{Entry as Borrowed}
use Rattle.strat_base.specs.Entries.{Entry, is_ascending}
use Rattle.strat_base.specs.EntryBytes.{fits_fields}
use Rattle.strat_base.specs.EntryView.{entry_of}

-- an entry stands after another
abbrev is_later : Entry → Entry → Bool
is_later e later = is_lt (entry_cmp e.key e.version later.key later.version)

all_take : (p : Entry → Bool) (n : ℕ) (entries : List Entry) → list_all p entries ≡ true → list_all p (take n entries) ≡ true
all_take p zero entries h = refl
all_take p (suc n) [] h = refl
all_take p (suc n) (e ∷ entries) h =
    let both = and_parts (p e) (list_all p entries) h in
    and_from (p e) (list_all p (take n entries)) both.0 (all_take p n entries both.1)

ascending_take : (n : ℕ) (entries : List Entry) → is_ascending entries ≡ true → is_ascending (take n entries) ≡ true
ascending_take zero entries up = refl
ascending_take (suc n) [] up = refl
ascending_take (suc n) (e ∷ entries) up =
    let both = and_parts (list_all (is_later e) entries) (is_ascending entries) up in
    and_from (list_all (is_later e) (take n entries)) (is_ascending (take n entries)) (all_take (is_later e) n entries both.0) (ascending_take n entries both.1)

one_more : (entries : List Borrowed) (i : ℕ) (d : Borrowed) → i < length entries → map entry_of (take i entries) ++ entry_of (get_or entries i d) ∷ [] ≡ take (i + 1) (map entry_of entries)
one_more [] i d lt = absurd (omega arith)
one_more (e ∷ entries) zero d lt = refl
one_more (e ∷ entries) (suc i) d lt = ap (λ (x : List Entry). entry_of e ∷ x) (one_more entries i d (omega arith)) ∙ next
  where
    next : entry_of e ∷ take (i + 1) (map entry_of entries) ≡ take (suc i + 1) (map entry_of (e ∷ entries))
    next = let same : suc (i + 1) ≡ suc i + 1 = omega arith in ap (λ (n : ℕ). take n (map entry_of (e ∷ entries))) same

-- the entries up to one ascend with it
pub front_ascends : (entries : List Borrowed) (i : ℕ) (d : Borrowed) → is_ascending (map entry_of entries) ≡ true → i < length entries → is_ascending (map entry_of (take i entries) ++ entry_of (get_or entries i d) ∷ []) ≡ true
front_ascends entries i d up lt = ap is_ascending (one_more entries i d lt) ∙ ascending_take (i + 1) (map entry_of entries) up

-- one of these fits its fields
pub one_fits : (entries : List Borrowed) (i : ℕ) (d : Borrowed) → list_all fits_fields (map entry_of entries) ≡ true → i < length entries → fits_fields (entry_of (get_or entries i d)) ≡ true
one_fits [] i d fit lt = absurd (omega arith)
one_fits (e ∷ entries) zero d fit lt = (and_parts (fits_fields (entry_of e)) (list_all fits_fields (map entry_of entries)) fit).0
one_fits (e ∷ entries) (suc i) d fit lt = one_fits entries i d (and_parts (fits_fields (entry_of e)) (list_all fits_fields (map entry_of entries)) fit).1 (omega arith)
