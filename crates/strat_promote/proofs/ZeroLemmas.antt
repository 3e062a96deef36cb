-- A copy of level 0 as it is walked over.
use Rattle.std.proofs.Common.{◌≡◌, ◌<◌, ◌≤◌, ◌+◌, ℕ, zero, suc, Bool, true, List, [], ◌∷◌, ◌++◌, length, take, drop, get_or, Some, refl, sym, ap, ◌∙◌, arith}
use Rattle.std.specs.List.{list_all, slice_get}
use Rattle.std.proofs.lemmas.Bool.{and_parts}
use Rattle.std.proofs.lemmas.Option.{slice_get_past}
use Rattle.std.specs.Ordering.{is_lt}
use Rattle.strat_base.specs.Order.{entry_cmp}
use Rattle.std.proofs.Math.Seq.{take-suc, drop-nil}
use Rattle.strat_base.specs.Entries.{Entry, is_ascending}
use Rattle.strat_arena.specs.ArenaView.{KeyValue}
use Rattle.strat_arena.specs.Items.{entry_of_item, entries_of}
use Rattle.strat_arena.specs.declared.items.Item.{Item}

-- the entry of an item at a place passes a test that all entries pass
pub passes_at : (p : Entry → Bool) (pairs : List KeyValue) (items : List Item) (i : ℕ) (d : Item) → list_all p (entries_of pairs items) ≡ true → i < length items
    → p (entry_of_item pairs (get_or items i d)) ≡ true
passes_at p pairs [] i d all within = absurd (omega (arith, within))
passes_at p pairs (x ∷ items) zero d all within = (and_parts (p (entry_of_item pairs x)) (list_all p (entries_of pairs items)) all).0
passes_at p pairs (x ∷ items) (suc i) d all within =
    passes_at p pairs items i d (and_parts (p (entry_of_item pairs x)) (list_all p (entries_of pairs items)) all).1 (omega (arith, within))

-- one step further
drop_suc : {X : Type 0} (xs : List X) (i : ℕ) → drop (suc i) xs ≡ drop 1 (drop i xs)
drop_suc [] i = drop-nil (suc i) ∙ sym (ap (λ ys. drop 1 ys) (drop-nil i))
drop_suc (x ∷ xs) zero = refl
drop_suc (x ∷ xs) (suc i) = drop_suc xs i

pub drop_next : {X : Type 0} (xs : List X) (i : ℕ) → drop (i + 1) xs ≡ drop 1 (drop i xs)
drop_next xs i =
    let next : i + 1 ≡ suc i = omega arith in
    ap (λ (n : ℕ). drop n xs) next ∙ drop_suc xs i

-- the front of a list grows by its next item
pub front_next : (xs : List Entry) (i : ℕ) (e : Entry) → i < length xs → e ≡ get_or xs i e → take i xs ++ e ∷ [] ≡ take (i + 1) xs
front_next xs i e within is =
    let next : i + 1 ≡ suc i = omega arith in
    ap (λ (x : Entry). take i xs ++ x ∷ []) is ∙ sym (ap (λ (n : ℕ). take n xs) next ∙ take-suc xs i e within)

-- an entry comes before the next in order
pub next_later : (xs : List Entry) (i : ℕ) (e f : Entry) → is_ascending xs ≡ true → slice_get xs i ≡ Some e → slice_get xs (suc i) ≡ Some f → is_lt (entry_cmp e.key e.version f.key f.version) ≡ true
next_later [] i e f up here there = absurd (cc)
next_later (x ∷ []) i e f up here there = absurd (cc)
next_later (x ∷ y ∷ xs) zero e f up here there =
    let one : x ≡ e = cc in
    let two : y ≡ f = cc in
    let first = (and_parts (list_all (λ later. is_lt (entry_cmp x.key x.version later.key later.version)) (y ∷ xs)) (is_ascending (y ∷ xs)) up).0 in
    let lt = (and_parts (is_lt (entry_cmp x.key x.version y.key y.version)) (list_all (λ later. is_lt (entry_cmp x.key x.version later.key later.version)) xs) first).0 in
    ap (λ (d : Entry). is_lt (entry_cmp d.key d.version f.key f.version)) (sym one) ∙ ap (λ (d : Entry). is_lt (entry_cmp x.key x.version d.key d.version)) (sym two) ∙ lt
next_later (x ∷ y ∷ xs) (suc i) e f up here there =
    next_later (y ∷ xs) i e f (and_parts (list_all (λ later. is_lt (entry_cmp x.key x.version later.key later.version)) (y ∷ xs)) (is_ascending (y ∷ xs)) up).1 here there

pub later_then : (xs : List Entry) (i : ℕ) (e f : Entry) → is_ascending xs ≡ true → slice_get xs i ≡ Some e → slice_get xs (i + 1) ≡ Some f → is_lt (entry_cmp e.key e.version f.key f.version) ≡ true
later_then xs i e f up here there =
    let next : i + 1 ≡ suc i = omega arith in
    next_later xs i e f up here (ap (λ (n : ℕ). slice_get xs n) (sym next) ∙ there)

pub never_past : (xs : List Entry) (i : ℕ) (e : Entry) → length xs ≤ i → slice_get xs i ≡ Some e → ⊥
never_past xs i e past here = let none = slice_get_past xs i past in absurd (cc)
