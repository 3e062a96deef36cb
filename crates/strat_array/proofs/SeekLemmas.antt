-- Two borders decide where the entries from a key on begin.
use Rattle.std.proofs.Common.{◌≡◌, ◌<◌, ◌≤◌, ◌+◌, ◌-◌, ℕ, zero, suc, true, false, not, get_or, inl, inr, ◌⊎◌, List, [], ◌∷◌, ◌++◌, length, take, drop, refl, sym, ap, ◌∙◌, subst, arith, true≢false, take-append-drop}
use Rattle.std.specs.List.{filter, list_all}
use Rattle.std.specs.Ordering.{is_lt}
use Rattle.std.proofs.lemmas.Bool.{and_parts, and_from, cases_lt}
use Rattle.std.proofs.lemmas.List.{drop_all, drop_more}
use Rattle.std.proofs.lemmas.List.Elements.{filter-append}
use Rattle.strat_base.specs.Order.{key_cmp}
use Rattle.strat_base.specs.Entries.{Entry, is_ascending}
use Rattle.strat_base.proofs.ListFacts.{Among, among_left, among_right, all_at, all_from}
use Rattle.def_state.proofs.SettingLemmas.{order, stands_first}
use Rattle.strat_block.specs.Places.{IsFirstFrom}
use Rattle.strat_array.specs.Left.{all_in, left_at, has_entry, is_from, starts_below, Bound}
use Rattle.strat_array.proofs.OrderLemmas.{ascending_right, ascending_across, below_before, filter_none, filter_each, all_after_first}

-- where the first entry is not below a key, none is dropped
from_first : (entries : List Entry) (key : List ℕ) → is_ascending entries ≡ true → starts_below key entries ≡ false → filter (is_from key) entries ≡ entries
from_first [] key up above = refl
from_first (e ∷ entries) key up above = filter_each (is_from key) (e ∷ entries) (all_after_first e entries key up (ap not above))

-- the first entry of blocks is that of the first block
starts_flat : (entries : List Entry) (lists : List (List Entry)) (key : List ℕ) → has_entry entries ≡ true → starts_below key entries ≡ starts_below key (all_in (entries ∷ lists))
starts_flat [] lists key filled = absurd (true≢false (sym filled))
starts_flat (e ∷ entries) lists key filled = refl

-- blocks of which the first does not start below a key are all not below it
pub none_dropped : (lists : List (List Entry)) (key : List ℕ) → is_ascending (all_in lists) ≡ true → list_all has_entry lists ≡ true → (0 < length lists → starts_below key (get_or lists 0 []) ≡ false) → filter (is_from key) (all_in lists) ≡ all_in lists
none_dropped [] key up filled above = refl
none_dropped (entries ∷ lists) key up filled above =
    from_first (all_in (entries ∷ lists)) key up
    (sym (starts_flat entries lists key (and_parts (has_entry entries) (list_all has_entry lists) filled).0) ∙ above (omega arith))

-- an element of a front stands at an index below its length
front_at : {X : Type 0} (i : ℕ) (xs : List X) (x : X) → Among x (take i xs) → (k : ℕ) × (k < i) × (x ≡ get_or xs k x)
front_at zero xs x among = absurd among
front_at (suc i) [] x among = absurd among
front_at (suc i) (y ∷ ys) x (inl here) = (0, omega arith, here)
front_at (suc i) (y ∷ ys) x (inr there) = let found = front_at i ys x there in (suc found.0, omega (arith, found.1), found.2)

-- the entries of a block from a key on are those from an index on
split_block : (key : List ℕ) (i : ℕ) (entries : List Entry) → is_ascending entries ≡ true → IsFirstFrom key entries i → filter (is_from key) entries ≡ drop i entries
split_block key i entries up splits =
    ap (filter (is_from key)) (sym (take-append-drop i entries))
    ∙ filter-append (is_from key) (take i entries) (drop i entries)
    ∙ ap (λ (x : List Entry). x ++ filter (is_from key) (drop i entries)) front
    ∙ back (cases_lt i (length entries))
  where
    front : filter (is_from key) (take i entries) ≡ []
    front = filter_none (is_from key) (take i entries) (λ e among. let at = front_at i entries e among in ap (is_from key) at.2 ∙ ap not (splits.before at.0 e at.1))

    rising : is_ascending (drop i entries) ≡ true
    rising = ascending_right (take i entries) (drop i entries) (ap is_ascending (take-append-drop i entries) ∙ up)

    back : (i < length entries) ⊎ (length entries ≤ i) → filter (is_from key) (drop i entries) ≡ drop i entries
    back (inl lt) = go entries rising lt (λ d l. ap not (splits.after i d (omega arith) l))
      where
        go : (xs : List Entry) → is_ascending (drop i xs) ≡ true → i < length xs → ((d : Entry) → i < length xs → is_from key (get_or xs i d) ≡ true) → filter (is_from key) (drop i xs) ≡ drop i xs
        go [] r l above = absurd (omega arith)
        go (x ∷ xs) r l above =
            let e = drop_more (x ∷ xs) i x l in
            let P : List Entry → Type 0 = λ r. filter (is_from key) r ≡ r in
            subst P (sym e)
            (filter_each (is_from key) (get_or (x ∷ xs) i x ∷ drop (i + 1) (x ∷ xs))
            (all_after_first (get_or (x ∷ xs) i x) (drop (i + 1) (x ∷ xs)) key (ap is_ascending (sym e) ∙ r) (above x l)))
    back (inr le) =
        let e = drop_all i entries le in
        let P : List Entry → Type 0 = λ r. filter (is_from key) r ≡ r in
        subst P (sym e) refl

ascending_left : (xs ys : List Entry) → is_ascending (xs ++ ys) ≡ true → is_ascending xs ≡ true
ascending_left [] ys up = refl
ascending_left (e ∷ xs) ys up =
    let parts = and_parts (stands_first e (xs ++ ys)) (is_ascending (xs ++ ys)) up in
    and_from (stands_first e xs) (is_ascending xs)
    (all_from (λ later. is_lt (order e later)) xs (λ d among. all_at (λ later. is_lt (order e later)) d (xs ++ ys) parts.0 (among_left xs ys d among)))
    (ascending_left xs ys parts.1)

-- an entry of the first block is below a key where a later block starts below it
all_below : (key : List ℕ) (entries later : List Entry) (e d : Entry) → is_ascending (entries ++ later) ≡ true → Among d later → is_lt (key_cmp d.key key) ≡ true → Among e entries → is_from key e ≡ false
all_below key entries later e d up there below among =
    ap not (below_before e d key (ascending_across entries later e d up among there) below)

-- the first entry of a block that starts below a key
first_below : (key : List ℕ) (m : ℕ) (lists : List (List Entry)) → starts_below key (get_or lists m []) ≡ true → (d : Entry) × Among d (all_in lists) × (is_lt (key_cmp d.key key) ≡ true)
first_below key m [] below = absurd (true≢false (sym below))
first_below key zero ([] ∷ lists) below = absurd (true≢false (sym below))
first_below key zero ((e ∷ entries) ∷ lists) below = (e, inl refl, below)
first_below key (suc m) (entries ∷ lists) below =
    let found = first_below key m lists below in (found.0, among_right entries (all_in lists) found.0 found.1, found.2)

-- from an index of the last block that starts below a key on, just the entries from the key on are left
pub sought_left : (key : List ℕ) (m i : ℕ) (lists : List (List Entry)) → is_ascending (all_in lists) ≡ true → list_all has_entry lists ≡ true → m < length lists → Bound key (m + 1) lists → IsFirstFrom key (get_or lists m []) i → left_at lists m i ≡ filter (is_from key) (all_in lists)
sought_left key m i [] up filled within bound splits = absurd (omega arith)
sought_left key zero i (entries ∷ lists) up filled within bound splits =
    let rest = ascending_right entries (all_in lists) up in
    let parts = and_parts (has_entry entries) (list_all has_entry lists) filled in
    let others = none_dropped lists key rest parts.1 (λ some. bound.above (omega arith)) in
    sym (filter-append (is_from key) entries (all_in lists)
    ∙ (λ j. split_block key i entries (ascending_left entries (all_in lists) up) splits j ++ others j))
sought_left key (suc m) i (entries ∷ lists) up filled within bound splits =
    let rest = ascending_right entries (all_in lists) up in
    let parts = and_parts (has_entry entries) (list_all has_entry lists) filled in
    let one : suc m + 1 - 1 ≡ suc (m + 1 - 1) = omega arith in
    let two : suc m + 1 ≡ suc (m + 1) = omega arith in
    let inner : Bound key (m + 1) lists = record {
      within = omega (arith, bound.within);
      below = λ some. ap (λ (n : ℕ). starts_below key (get_or (entries ∷ lists) n [])) (sym one) ∙ bound.below (omega arith);
      above = λ lt. ap (λ (n : ℕ). starts_below key (get_or (entries ∷ lists) n [])) (sym two) ∙ bound.above (omega arith);
    } in
    let last : m + 1 - 1 ≡ m = omega arith in
    let first = first_below key m lists (ap (λ (n : ℕ). starts_below key (get_or lists n [])) (sym last) ∙ inner.below (omega arith)) in
    let none = filter_none (is_from key) entries (λ e among. all_below key entries (all_in lists) e first.0 up first.1 first.2 among) in
    ap (λ (n : ℕ). drop i (get_or lists m []) ++ all_in (drop n (entries ∷ lists))) two
    ∙ sought_left key m i lists rest parts.1 (omega arith) inner splits
    ∙ sym (filter-append (is_from key) entries (all_in lists) ∙ ap (λ (x : List Entry). x ++ filter (is_from key) (all_in lists)) none)
