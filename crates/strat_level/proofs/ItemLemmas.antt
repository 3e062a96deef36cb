-- Level 0 after a pair was pushed into its arena and an item for it was put in its place.
use Rattle.std.proofs.Common.{◌≡◌, ◌<◌, ℕ, zero, suc, Bool, true, ltb, get_or, List, [], ◌∷◌, ◌++◌, length, take, drop, refl, sym, ap, ◌∙◌, arith, length-append}
use Rattle.std.proofs.Math.ListN.{set}
use Rattle.std.specs.List.{list_all, insert}
use Rattle.std.proofs.lemmas.Bool.{and_parts, and_from, ltb-true, lt-ltb}
use Rattle.std.proofs.lemmas.List.{get_or-map, map-set, map-append, take-map, drop-map, get_or_append_left, get_or_push}
use Rattle.strat_base.specs.Entries.{Entry, is_ascending}
use Rattle.strat_base.specs.EntryBytes.{fits_fields}
use Rattle.strat_base.proofs.ListFacts.{all_at, all_from, map_same}
use Rattle.strat_arena.specs.ArenaView.{KeyValue}
use Rattle.strat_arena.specs.declared.items.Item.{Item}
use Rattle.def_state.specs.Setting.{set_entry}
use Rattle.strat_arena.specs.Items.{pair_of, said_by, entry_of_item, entries_of, have_pairs}
use Rattle.strat_level.specs.Places.{compared, IsPlaceOf, IsPlaceFor}
use Rattle.strat_level.proofs.PlaceLemmas.{set_at_place, set_between}

-- an entry of the list compares as the entry of its item
pub compared_at : (pairs : List KeyValue) (items : List Item) (k : ℕ) (d : Item) (e : Entry) (key : List ℕ) (version : ℕ) → k < length items
    → compared (get_or (entries_of pairs items) k e) key version ≡ compared (entry_of_item pairs (get_or items k d)) key version
compared_at pairs items k d e key version lt = ap (λ (x : Entry). compared x key version) (get_or-map (entry_of_item pairs) items k d e lt)

-- items read as before when pairs are added behind theirs
pub entries_kept : (pairs more : List KeyValue) (items : List Item) → have_pairs pairs items ≡ true → entries_of (pairs ++ more) items ≡ entries_of pairs items
entries_kept pairs more items have =
    map_same (entry_of_item (pairs ++ more)) (entry_of_item pairs) items (λ item among.
    let lt = ltb-true item.slot.0 (length pairs) (all_at (λ x. ltb x.slot.0 (length pairs)) item items have among) in
    ap (λ (pair : KeyValue). the_entry item pair) (get_or_append_left pairs more no_pair item.slot.0 lt))
  where
    no_pair : KeyValue
    no_pair = record { key = []; value = [] }

    the_entry : Item → KeyValue → Entry
    the_entry item pair = record { key = pair.key; version = item.version; value = said_by item.gone pair.value }

pub slots_kept : (pairs more : List KeyValue) (items : List Item) → have_pairs pairs items ≡ true → have_pairs (pairs ++ more) items ≡ true
slots_kept pairs more items have =
    all_from (λ x. ltb x.slot.0 (length (pairs ++ more))) items (λ item among.
    let lt = ltb-true item.slot.0 (length pairs) (all_at (λ x. ltb x.slot.0 (length pairs)) item items have among) in
    lt-ltb item.slot.0 (length (pairs ++ more)) (omega (arith, length-append pairs more)))

all_set : {X : Type 0} (p : X → Bool) (xs : List X) (i : ℕ) (y : X) → list_all p xs ≡ true → p y ≡ true → list_all p (set xs i y) ≡ true
all_set p [] i y all here = refl
all_set p (x ∷ xs) zero y all here = and_from (p y) (list_all p xs) here (and_parts (p x) (list_all p xs) all).1
all_set p (x ∷ xs) (suc i) y all here =
    let parts = and_parts (p x) (list_all p xs) all in
    and_from (p x) (list_all p (set xs i y)) parts.0 (all_set p xs i y parts.1 here)

all_insert : {X : Type 0} (p : X → Bool) (xs : List X) (i : ℕ) (y : X) → list_all p xs ≡ true → p y ≡ true → list_all p (insert xs i y) ≡ true
all_insert p xs zero y all here = and_from (p y) (list_all p xs) here all
all_insert p [] (suc i) y all here = and_from (p y) true here refl
all_insert p (x ∷ xs) (suc i) y all here =
    let parts = and_parts (p x) (list_all p xs) all in
    and_from (p x) (list_all p (insert xs i y)) parts.0 (all_insert p xs i y parts.1 here)

-- an item for a pair that was pushed, and the entry that both make
pub record Makes (pairs : List KeyValue) (pair : KeyValue) (item : Item) (e : Entry) : Type 0 where
  pub slot : item.slot.0 ≡ length pairs
  pub key : pair.key ≡ e.key
  pub version : item.version ≡ e.version
  pub value : said_by item.gone pair.value ≡ e.value

module _ (pairs : List KeyValue) (pair : KeyValue) (items : List Item) (item : Item) (e : Entry) (makes : Makes pairs pair item e) (have : have_pairs pairs items ≡ true) where
  now : List KeyValue
  now = pairs ++ pair ∷ []

  pushed_entry : entry_of_item now item ≡ e
  unfolding now
  pushed_entry =
      let at : pair_of now item ≡ pair = get_or_push pairs pair (record { key = []; value = [] }) item.slot.0 (sym makes.slot) in
      λ i. record {
        key = (ap (λ (p : KeyValue). p.key) at ∙ makes.key) i;
        version = makes.version i;
        value = (ap (λ (p : KeyValue). said_by item.gone p.value) at ∙ makes.value) i;
      }

  pushed_slot : ltb item.slot.0 (length now) ≡ true
  unfolding now
  pushed_slot = lt-ltb item.slot.0 (length now) (let slot = makes.slot in omega (arith, length-append pairs (pair ∷ [])))

  pub set_slots : (i : ℕ) → have_pairs (pairs ++ pair ∷ []) (set items i item) ≡ true
  unfolding now
  set_slots i = all_set (λ x. ltb x.slot.0 (length now)) items i item (slots_kept pairs (pair ∷ []) items have) pushed_slot

  pub insert_slots : (i : ℕ) → have_pairs (pairs ++ pair ∷ []) (insert items i item) ≡ true
  unfolding now
  insert_slots i = all_insert (λ x. ltb x.slot.0 (length now)) items i item (slots_kept pairs (pair ∷ []) items have) pushed_slot

  -- over the item of its key and version
  pub set_items : (i : ℕ) → is_ascending (entries_of pairs items) ≡ true → IsPlaceOf (entries_of pairs items) e.key e.version i
      → entries_of (pairs ++ pair ∷ []) (set items i item) ≡ set_entry e (entries_of pairs items)
  unfolding now
  set_items i up at =
      map-set (entry_of_item now) items i item
      ∙ (λ j. set (entries_kept pairs (pair ∷ []) items have j) i (pushed_entry j))
      ∙ sym (set_at_place (entries_of pairs items) e i up at)

  -- in between, where it belongs
  pub insert_items : (i : ℕ) → IsPlaceFor (entries_of pairs items) e.key e.version i
      → entries_of (pairs ++ pair ∷ []) (insert items i item) ≡ set_entry e (entries_of pairs items)
  unfolding now
  insert_items i at =
      map-append (entry_of_item now) (take i items) (item ∷ drop i items)
      ∙ (λ j. sym (take-map (entry_of_item now) i items) j ++ pushed_entry j ∷ sym (drop-map (entry_of_item now) i items) j)
      ∙ ap (λ (es : List Entry). insert es i e) (entries_kept pairs (pair ∷ []) items have)
      ∙ sym (set_between (entries_of pairs items) e i at)

-- the entry of an item at a place is lawful where all are
pub lawful_at : (pairs : List KeyValue) (items : List Item) (i : ℕ) (item : Item) → list_all fits_fields (entries_of pairs items) ≡ true → i < length items → item ≡ get_or items i item
    → fits_fields (entry_of_item pairs item) ≡ true
lawful_at pairs [] i item all within is = absurd (omega (arith, within))
lawful_at pairs (x ∷ items) zero item all within is =
    ap (λ (y : Item). fits_fields (entry_of_item pairs y)) is ∙ (and_parts (fits_fields (entry_of_item pairs x)) (list_all fits_fields (entries_of pairs items)) all).0
lawful_at pairs (x ∷ items) (suc i) item all within is =
    lawful_at pairs items i item (and_parts (fits_fields (entry_of_item pairs x)) (list_all fits_fields (entries_of pairs items)) all).1 (omega (arith, within)) is
