-- The items of one array in a group, without their marks, and which of them is live at a version.
use Rattle.std.proofs.Common.{◌≡◌, ◌<◌, ◌≤◌, ◌+◌, ◌*◌, ◌/◌, ◌%◌, ℕ, suc, Bool, true, false, cond, eqb, ltb, ◌&&◌, ◌||◌, not, inl, inr, List, [], ◌∷◌, length, map, filter, get_or, Some, None, refl, sym, ap, ◌∙◌, arith, true≢false}
use Rattle.std.specs.List.{list_any, list_all, position, position_or_len, prefix_len}
use Rattle.std.proofs.lemmas.Bool.{and_parts, and_from, ltb-true, lt-ltb, eqb-true, cases_lt, le-ltb}
use Rattle.strat_arena.specs.ArenaView.{KeyValue}
use Rattle.strat_arena.specs.Items.{entry_of_item, entries_of, have_pairs}
use Rattle.strat_arena.specs.declared.items.Item.{Item}
use Rattle.strat_base.specs.Entries.{Entry, is_of}
use Rattle.strat_base.specs.Tree.{Parents, is_ancestor, IsTree}
use Rattle.strat_base.proofs.ListFacts.{Among, all_at, all_from, among_filter, filter_among}
use Rattle.strat_base.proofs.EntryLemmas.{is_of_key, same_bytes}
use Rattle.def_state.specs.Live.{is_hidden_by, is_live, live}
use Rattle.def_state.proofs.LiveLemmas.{live_version}
use Rattle.def_split.proofs.ListLemmas.{bool_same, map_among, among_map}
use Rattle.def_check.specs.Marked.{unmarked, is_from_run}
use Rattle.strat_live.specs.Counting.{are_below}
use Rattle.strat_live.specs.Group.{is_descending, is_nearer, is_live_item}
use Rattle.strat_check.specs.Strays.{unmarked_where}
use Rattle.strat_check.specs.StrayGroups.{unmarked_item, items_told}
use Rattle.strat_check.proofs.HeldLemmas.{same_item, place_among}

-- an item without its mark comes from one of its array
pub told_among : (i : ℕ) (items : List Item) (y : Item) → Among y (items_told i items) → (x : Item) × Among x items × (eqb (x.version % 16384) i ≡ true) × (y ≡ unmarked_item x)
told_among i items y among =
    let at = map_among unmarked_item (filter (λ (item : Item). eqb (item.version % 16384) i) items) y among in
    let kept = filter_among (λ (item : Item). eqb (item.version % 16384) i) items at.0 at.1 in
    (at.0, kept.0, kept.1, at.2)

-- what is so of each item without its mark
pub told_all : (p q : Item → Bool) (i : ℕ) (items : List Item) → list_all p items ≡ true → ((x : Item) → p x ≡ true → q (unmarked_item x) ≡ true) → list_all q (items_told i items) ≡ true
told_all p q i items all implies =
    all_from q (items_told i items) (λ y among. let from = told_among i items y among in ap q from.3 ∙ implies from.0 (all_at p from.0 items all from.1))

pub told_slots : (pairs : List KeyValue) (i : ℕ) (items : List Item) → have_pairs pairs items ≡ true → have_pairs pairs (items_told i items) ≡ true
told_slots pairs i items slots = told_all (λ item. ltb item.slot.0 (length pairs)) (λ item. ltb item.slot.0 (length pairs)) i items slots (λ x is. is)

pub told_low : (n i : ℕ) (items : List Item) → are_below (16384 * n) items ≡ true → are_below n (items_told i items) ≡ true
told_low n i items low =
    told_all (λ item. ltb item.version (16384 * n)) (λ item. ltb item.version n) i items low (λ x is. let less = ltb-true x.version (16384 * n) is in lt-ltb (x.version / 16384) n (omega (arith, less)))

pub told_descending : (i : ℕ) (items : List Item) → is_descending items ≡ true → is_descending (items_told i items) ≡ true
told_descending i [] down = refl
told_descending i (x ∷ items) down = go (eqb (x.version % 16384) i) refl (told_descending i items parts.1)
  where
    parts : (list_all (λ later. ltb later.version x.version) items ≡ true) × (is_descending items ≡ true)
    parts = and_parts (list_all (λ later. ltb later.version x.version) items) (is_descending items) down

    go : (b : Bool) → eqb (x.version % 16384) i ≡ b → is_descending (items_told i items) ≡ true
        → is_descending (map unmarked_item (cond b (x ∷ filter (λ (item : Item). eqb (item.version % 16384) i) items) (filter (λ (item : Item). eqb (item.version % 16384) i) items))) ≡ true
    go true mine rest =
        and_from (list_all (λ later. ltb later.version (x.version / 16384)) (items_told i items)) (is_descending (items_told i items))
        (all_from (λ later. ltb later.version (x.version / 16384)) (items_told i items) (λ y among.
        let from = told_among i items y among in
        let less = ltb-true from.0.version x.version (all_at (λ later. ltb later.version x.version) from.0 items parts.0 from.1) in
        let one = eqb-true (x.version % 16384) i mine in
        let other = eqb-true (from.0.version % 16384) i from.2 in
        let at : y.version ≡ from.0.version / 16384 = ap (λ (z : Item). z.version) from.3 in
        lt-ltb y.version (x.version / 16384) (omega (arith, less, one, other, at))))
        rest
    go false mine rest = rest

-- they are the array's entries of the group
pub told_entries : (pairs : List KeyValue) (i : ℕ) (items : List Item) → entries_of pairs (items_told i items) ≡ unmarked_where (is_from_run i) (entries_of pairs items)
told_entries pairs i [] = refl
told_entries pairs i (x ∷ items) = go (eqb (x.version % 16384) i) (told_entries pairs i items)
  where
    go : (b : Bool) → entries_of pairs (items_told i items) ≡ unmarked_where (is_from_run i) (entries_of pairs items)
        → entries_of pairs (map unmarked_item (cond b (x ∷ filter (λ (item : Item). eqb (item.version % 16384) i) items) (filter (λ (item : Item). eqb (item.version % 16384) i) items)))
        ≡ map unmarked (cond b (entry_of_item pairs x ∷ filter (is_from_run i) (entries_of pairs items)) (filter (is_from_run i) (entries_of pairs items)))
    go true rest = ap (λ (es : List Entry). entry_of_item pairs (unmarked_item x) ∷ es) rest
    go false rest = rest

pub told_keyed : (pairs : List KeyValue) (key : List ℕ) (i : ℕ) (items : List Item) → list_all (is_of key) (entries_of pairs items) ≡ true → list_all (is_of key) (entries_of pairs (items_told i items)) ≡ true
told_keyed pairs key i items keyed =
    all_from (is_of key) (entries_of pairs (items_told i items)) (λ e among.
    let at = map_among (entry_of_item pairs) (items_told i items) e among in
    let from = told_among i items at.0 at.1 in
    let it : is_of key (entry_of_item pairs from.0) ≡ true = all_at (is_of key) (entry_of_item pairs from.0) (entries_of pairs items) keyed (among_map (entry_of_item pairs) items from.0 from.1) in
    ap (is_of key) (at.2 ∙ ap (entry_of_item pairs) from.3) ∙ it)

-- places of what passes

passes_there : {X : Type 0} (p : X → Bool) (xs : List X) (d : X) → position_or_len p xs < length xs → p (get_or xs (position_or_len p xs) d) ≡ true
passes_there p [] d within = absurd (omega arith)
passes_there p (x ∷ xs) d within = go (p x) refl (passes_there p xs d) within
  where
    go : (b : Bool) → p x ≡ b → (position_or_len p xs < length xs → p (get_or xs (position_or_len p xs) d) ≡ true)
        → cond (not b) (1 + prefix_len (λ y. not (p y)) xs) 0 < suc (length xs) → p (get_or (x ∷ xs) (cond (not b) (1 + prefix_len (λ y. not (p y)) xs) 0) d) ≡ true
    go true is rest low = is
    go false is rest low =
        let one : 1 + prefix_len (λ y. not (p y)) xs ≡ suc (prefix_len (λ y. not (p y)) xs) = omega arith in
        ap (λ (n : ℕ). p (get_or (x ∷ xs) n d)) one ∙ rest (omega (arith, low))

fails_all : {X : Type 0} (p : X → Bool) (xs : List X) → length xs ≤ position_or_len p xs → (x : X) → Among x xs → p x ≡ false
fails_all p [] past x among = absurd among
fails_all p (y ∷ xs) past x among = go (p y) refl (fails_all p xs) past among
  where
    go : (b : Bool) → p y ≡ b → (length xs ≤ position_or_len p xs → (z : _) → Among z xs → p z ≡ false) → suc (length xs) ≤ cond (not b) (1 + prefix_len (λ z. not (p z)) xs) 0 → Among x (y ∷ xs) → p x ≡ false
    go true is rest far among = absurd (omega arith)
    go false is rest far (inl here) = ap p here ∙ is
    go false is rest far (inr there) = rest (omega (arith, far)) x there

position_some : {X : Type 0} (p : X → Bool) (xs : List X) (i : ℕ) (d : X) → Some i ≡ position p xs → (i < length xs) × (p (get_or xs i d) ≡ true)
position_some p xs i d is =
    elim (cases_lt (position_or_len p xs) (length xs)) [
      | inl within ↦
          let at : Some i ≡ Some (position_or_len p xs) = is ∙ ap (λ (b : Bool). cond b (Some (position_or_len p xs)) None) (lt-ltb (position_or_len p xs) (length xs) within) in
          let same : i ≡ position_or_len p xs = cc in
          (omega (arith, same, within), ap (λ (n : ℕ). p (get_or xs n d)) same ∙ passes_there p xs d within)
      | inr past ↦
          let none : Some i ≡ None = is ∙ ap (λ (b : Bool). cond b (Some (position_or_len p xs)) None) (le-ltb (position_or_len p xs) (length xs) past) in
          absurd (cc)
    ]

position_none : {X : Type 0} (p : X → Bool) (xs : List X) → None ≡ position p xs → (x : X) → Among x xs → p x ≡ false
position_none p xs is x among =
    elim (cases_lt (position_or_len p xs) (length xs)) [
      | inl within ↦
          let some : None ≡ Some (position_or_len p xs) = is ∙ ap (λ (b : Bool). cond b (Some (position_or_len p xs)) None) (lt-ltb (position_or_len p xs) (length xs) within) in
          absurd (cc)
      | inr past ↦ fails_all p xs past x among
    ]

-- among items of one key the tests of the key say nothing
module _ (parents : Parents) (tree : IsTree parents) (v : ℕ) (pairs : List KeyValue) (items : List Item) (key : List ℕ) (keyed : list_all (is_of key) (entries_of pairs items) ≡ true) where
  its_key : (item : Item) → Among item items → (entry_of_item pairs item).key ≡ key
  its_key item among = is_of_key key (entry_of_item pairs item) (all_at (is_of key) (entry_of_item pairs item) (entries_of pairs items) keyed (among_map (entry_of_item pairs) items item among))

  hidden_item : (item : Item) → Among item items → (others : List Item) → ((y : Item) → Among y others → Among y items)
      → list_any (is_hidden_by parents v (entry_of_item pairs item)) (entries_of pairs others) ≡ list_any (is_nearer parents v item.version) others
  hidden_item item among [] inside = refl
  hidden_item item among (y ∷ others) inside =
      let same : is_of (entry_of_item pairs item).key (entry_of_item pairs y) ≡ true =
      same_bytes (entry_of_item pairs y).key (entry_of_item pairs item).key (its_key y (inside y (inl refl)) ∙ sym (its_key item among)) in
      (λ j. ((same j && ltb item.version y.version) && is_ancestor parents y.version v) || hidden_item item among others (λ z there. inside z (inr there)) j)

  live_item : (item : Item) → Among item items → is_live parents (entries_of pairs items) v (entry_of_item pairs item) ≡ is_live_item parents items v item
  live_item item among = ap (λ (b : Bool). is_ancestor parents item.version v && not b) (hidden_item item among items (λ y there. there))

  module _ (h : Entry → Bool) (down : is_descending items ≡ true) where
    -- what is said of the live entries is said of the live item
    pub one_lives : (i : ℕ) (d : Item) → Some i ≡ position (is_live_item parents items v) items → h (entry_of_item pairs (get_or items i d)) ≡ list_all h (live parents (entries_of pairs items) v)
    one_lives i d is =
        let at = position_some (is_live_item parents items v) items i d is in
        let inside : Among (get_or items i d) items = place_among items i d at.0 in
        let lives : is_live parents (entries_of pairs items) v (entry_of_item pairs (get_or items i d)) ≡ true = live_item (get_or items i d) inside ∙ at.1 in
        let among = among_map (entry_of_item pairs) items (get_or items i d) inside in
        bool_same (h (entry_of_item pairs (get_or items i d))) (list_all h (live parents (entries_of pairs items) v))
        (λ holds. all_from h (live parents (entries_of pairs items) v) (λ e there.
        let kept = filter_among (is_live parents (entries_of pairs items) v) (entries_of pairs items) e there in
        let its = map_among (entry_of_item pairs) items e kept.0 in
        let other : is_live parents (entries_of pairs items) v (entry_of_item pairs its.0) ≡ true = ap (is_live parents (entries_of pairs items) v) (sym its.2) ∙ kept.1 in
        let version = live_version parents tree (entries_of pairs items) v (entry_of_item pairs its.0) (entry_of_item pairs (get_or items i d)) (among_map (entry_of_item pairs) items its.0 its.1) among other lives
        (its_key its.0 its.1 ∙ sym (its_key (get_or items i d) inside)) in
        ap h (its.2 ∙ ap (entry_of_item pairs) (same_item items its.0 (get_or items i d) down its.1 inside version)) ∙ holds))
        (λ all. all_at h (entry_of_item pairs (get_or items i d)) (live parents (entries_of pairs items) v) all
        (among_filter (is_live parents (entries_of pairs items) v) (entries_of pairs items) (entry_of_item pairs (get_or items i d)) among lives))

    pub none_lives : None ≡ position (is_live_item parents items v) items → list_all h (live parents (entries_of pairs items) v) ≡ true
    none_lives is =
        all_from h (live parents (entries_of pairs items) v) (λ e there.
        let kept = filter_among (is_live parents (entries_of pairs items) v) (entries_of pairs items) e there in
        let its = map_among (entry_of_item pairs) items e kept.0 in
        let lives : is_live_item parents items v its.0 ≡ true = sym (live_item its.0 its.1) ∙ ap (is_live parents (entries_of pairs items) v) (sym its.2) ∙ kept.1 in
        absurd (true≢false (sym lives ∙ position_none (is_live_item parents items v) items is its.0 its.1)))

  pub lives_within : (i : ℕ) (d : Item) → Some i ≡ position (is_live_item parents items v) items → i < length items
  lives_within i d is = (position_some (is_live_item parents items v) items i d is).0
