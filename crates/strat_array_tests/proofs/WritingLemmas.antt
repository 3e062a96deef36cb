-- Entries that are pushed one after the other.
use Rattle.std.proofs.Common.{◌≡◌, ◌<◌, ◌+◌, ℕ, zero, suc, Bool, true, List, [], ◌∷◌, ◌++◌, length, take, get_or, map, refl, sym, ap, ◌∙◌, subst, arith}
use Rattle.std.specs.List.{list_all}
use Rattle.std.specs.Ordering.{is_lt}
use Rattle.std.proofs.lemmas.Bool.{and_parts, and_from}
use Rattle.strat_base.specs.declared.entries.Entry.{Entry as Borrowed}
use Rattle.strat_base.specs.Order.{entry_cmp}
use Rattle.strat_base.specs.Entries.{Entry, is_ascending}
use Rattle.strat_base.specs.EntryBytes.{fits_fields}
use Rattle.strat_base.specs.EntryView.{entry_of}
use Rattle.strat_array.specs.Pushed.{IsEndOf, with_entry}
use Rattle.strat_array.proofs.StayLemmas.{more_end, end_ascends}

-- an entry stands before another
abbrev is_before : Entry → Entry → Bool
is_before e later = is_lt (entry_cmp e.key e.version later.key later.version)

all_take : (p : Entry → Bool) (n : ℕ) (entries : List Entry) → list_all p entries ≡ true → list_all p (take n entries) ≡ true
all_take p zero entries h = refl
all_take p (suc n) [] h = refl
all_take p (suc n) (e ∷ entries) h =
    let both = and_parts (p e) (list_all p entries) h in
    and_from (p e) (list_all p (take n entries)) both.0 (all_take p n entries both.1)

ascending_take : (n : ℕ) (entries : List Entry) → is_ascending entries ≡ true → is_ascending (take n entries) ≡ true
ascending_take zero entries up = refl
ascending_take (suc n) [] up = refl
ascending_take (suc n) (e ∷ entries) up =
    let both = and_parts (list_all (is_before e) entries) (is_ascending entries) up in
    and_from (list_all (is_before e) (take n entries)) (is_ascending (take n entries)) (all_take (is_before e) n entries both.0) (ascending_take n entries both.1)

one_more : (entries : List Borrowed) (i : ℕ) (d : Borrowed) → i < length entries → map entry_of (take i entries) ++ entry_of (get_or entries i d) ∷ [] ≡ take (i + 1) (map entry_of entries)
one_more [] i d lt = absurd (omega arith)
one_more (e ∷ entries) zero d lt = refl
one_more (e ∷ entries) (suc i) d lt = ap (λ (x : List Entry). entry_of e ∷ x) (one_more entries i d (omega arith)) ∙ next
  where
    next : entry_of e ∷ take (i + 1) (map entry_of entries) ≡ take (suc i + 1) (map entry_of (e ∷ entries))
    next = let same : suc (i + 1) ≡ suc i + 1 = omega arith in ap (λ (n : ℕ). take n (map entry_of (e ∷ entries))) same

same_take : (n : ℕ) (entries : List Borrowed) → take n (map entry_of entries) ≡ map entry_of (take n entries)
same_take zero entries = refl
same_take (suc n) [] = refl
same_take (suc n) (e ∷ entries) = ap (λ (x : List Entry). entry_of e ∷ x) (same_take n entries)

-- what is in no block ascends with the next entry
pub pending_ascends : (entries : List Borrowed) (i : ℕ) (d : Borrowed) (pending : List Entry) → is_ascending (map entry_of entries) ≡ true → i < length entries → IsEndOf pending (map entry_of (take i entries)) → is_ascending (pending ++ entry_of (get_or entries i d) ∷ []) ≡ true
pending_ascends entries i d pending up lt ends =
    end_ascends (map entry_of (take i entries)) pending (entry_of (get_or entries i d)) ends
    (ap is_ascending (one_more entries i d lt) ∙ ascending_take (i + 1) (map entry_of entries) up)

-- and is the end of all with it
pub pending_then : (entries : List Borrowed) (i : ℕ) (d : Borrowed) (pending next : List Entry) → i < length entries → next ≡ with_entry pending (entry_of (get_or entries i d)) → IsEndOf pending (map entry_of (take i entries)) → IsEndOf next (map entry_of (take (i + 1) entries))
pending_then entries i d pending next lt is ends =
    let e : Entry = entry_of (get_or entries i d) in
    subst (λ (l : List Entry). IsEndOf l (map entry_of (take (i + 1) entries))) (sym is)
    (subst (λ (l : List Entry). IsEndOf (with_entry pending e) l) (one_more entries i d lt ∙ same_take (i + 1) entries) (more_end (map entry_of (take i entries)) pending e ends))

-- one of these fits its fields
pub one_fits : (entries : List Borrowed) (i : ℕ) (d : Borrowed) → list_all fits_fields (map entry_of entries) ≡ true → i < length entries → fits_fields (entry_of (get_or entries i d)) ≡ true
one_fits [] i d fit lt = absurd (omega arith)
one_fits (e ∷ entries) zero d fit lt = (and_parts (fits_fields (entry_of e)) (list_all fits_fields (map entry_of entries)) fit).0
one_fits (e ∷ entries) (suc i) d fit lt = one_fits entries i d (and_parts (fits_fields (entry_of e)) (list_all fits_fields (map entry_of entries)) fit).1 (omega arith)
