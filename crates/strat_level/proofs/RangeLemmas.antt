-- The items of a key, and which of them is live.
use Rattle.std.proofs.Common.{◌≡◌, ◌<◌, ◌≤◌, ◌+◌, ◌-◌, ℕ, suc, Bool, true, false, cond, ltb, get_or, ◌&&◌, inl, inr, List, [], ◌∷◌, length, drop, Option, Some, None, refl, sym, ap, ◌∙◌, subst, arith, true≢false, length-take, length-drop}
use Rattle.std.specs.List.{find, list_all, slice_get, slice_range, position, position_or_len}
use Rattle.std.specs.Option.{option_and_then}
use Rattle.std.specs.Ordering.{is_lt, is_gt, nat_cmp, ordering_then}
use Rattle.std.specs.declared.cmp.Ordering.{Ordering}
use Rattle.std.specs.declared.cmp.Ordering.TheVariants.{Less, Equal, Greater}
use Rattle.std.proofs.lemmas.Bool.{and_parts, and_from, cases_lt, lt-ltb, le-ltb, false_from_ne_true}
use Rattle.std.proofs.lemmas.Cmp.{ranked, tied_itself, nat_list_cmp_total}
use Rattle.std.proofs.lemmas.List.{get_or-map, get_or-take, get_or-drop, length-map}
use Rattle.std.proofs.lemmas.List.Folds.{find_at}
use Rattle.std.proofs.lemmas.List.Sums.{position_or_len_is, fails_before_first, passes_at_first}
use Rattle.std.proofs.lemmas.Option.{slice_get_past}
use Rattle.strat_base.specs.Order.{key_cmp}
use Rattle.strat_base.specs.Tree.{Parents, is_ancestor, IsTree}
use Rattle.strat_base.specs.Entries.{Entry, is_of, is_ascending}
use Rattle.strat_base.proofs.EntryLemmas.{same_bytes, is_of_key}
use Rattle.strat_base.proofs.TreeLemmas.{ancestor_among, path_le}
use Rattle.strat_arena.specs.ArenaView.{KeyValue}
use Rattle.strat_arena.specs.declared.items.Item.{Item}
use Rattle.def_state.specs.Live.{live}
use Rattle.def_state.proofs.MapLemmas.{same_key}
use Rattle.def_state.proofs.LevelLemmas.{ascending_single}
use Rattle.def_state.proofs.LiveLemmas.{deciding_live}
use Rattle.def_state.proofs.GroupLemmas.{deciding_first}
use Rattle.def_state.proofs.SettingLemmas.{order_version}
use Rattle.strat_live.specs.Group.{is_descending, is_live_item}
use Rattle.strat_live.proofs.GroupLemmas.{live_first}
use Rattle.strat_level.specs.Places.{compared, IsStart, IsEnd, IsKeyRange}
use Rattle.strat_arena.specs.PoolView.{arena_at}
use Rattle.strat_arena.specs.declared.pool.PoolEntry.{PoolEntry}
use Rattle.strat_arena.specs.Items.{entry_of_item, entries_of}
use Rattle.strat_level.specs.Memtable.{ItemList, entries_held, ListStands}
use Rattle.strat_level.proofs.PlaceLemmas.{ascending_at}

-- an entry of another key compares alike with every version
apart_less : (e : Entry) (key : List ℕ) (version : ℕ) → key_cmp e.key key ≡ Less → compared e key version ≡ Less
apart_less e key version is = ap (λ (o : Ordering). ordering_then o (nat_cmp version e.version)) is

apart_greater : (e : Entry) (key : List ℕ) (version : ℕ) → key_cmp e.key key ≡ Greater → compared e key version ≡ Greater
apart_greater e key version is = ap (λ (o : Ordering). ordering_then o (nat_cmp version e.version)) is

-- an entry of a key is not greater than the key's version 0
of_key_low : (e : Entry) (key : List ℕ) → is_of key e ≡ true → compared e key 0 ≡ Greater → ⊥
of_key_low e key of above =
    let k : key_cmp e.key key ≡ Equal = ap (λ (x : List ℕ). key_cmp x key) (is_of_key key e of) ∙ tied_itself nat_list_cmp_total key in
    let low : e.version < 0 = ranked 0 e.version Greater (sym (sym (ap (λ (o : Ordering). ordering_then o (nat_cmp 0 e.version)) k) ∙ above)) in
    omega arith

-- an entry that is neither less than a key at a version nor greater than it at version 0 is of the key
between_of : (e : Entry) (key : List ℕ) (v : ℕ) → is_lt (compared e key v) ≡ false → is_gt (compared e key 0) ≡ false → is_of key e ≡ true
between_of e key v above below = go (key_cmp e.key key) refl
  where
    go : (o : Ordering) → key_cmp e.key key ≡ o → is_of key e ≡ true
    go Less is = absurd (true≢false (sym (ap is_lt (apart_less e key v is)) ∙ above))
    go Equal is = same_bytes e.key key (same_key e.key key is)
    go Greater is = absurd (true≢false (sym (ap is_gt (apart_greater e key 0 is)) ∙ below))

-- no entry is less than a key at a version and greater than it at version 0
no_cross : (e : Entry) (key : List ℕ) (v : ℕ) → compared e key v ≡ Less → compared e key 0 ≡ Greater → ⊥
no_cross e key v less greater = go (key_cmp e.key key) refl
  where
    go : (o : Ordering) → key_cmp e.key key ≡ o → ⊥
    go Less is = let both : Less ≡ Greater = sym (apart_less e key 0 is) ∙ greater in cc
    go Equal is = of_key_low e key (same_bytes e.key key (same_key e.key key is)) greater
    go Greater is = let both : Less ≡ Greater = sym less ∙ apart_greater e key v is in cc

pub range_of : (entries : List Entry) (key : List ℕ) (v from to : ℕ) → IsStart entries key v from → IsEnd entries key to → IsKeyRange entries key v from to
range_of entries key v from to start end = record {
  order =
      elim (cases_lt to from) [
        | inl lt ↦
            let d : Entry = record { key = key; version = v; value = None } in
            let within : to < length entries = let le = start.within in omega arith in
            absurd (no_cross (get_or entries to d) key v (start.before to d lt) (end.after to d (omega arith) within))
        | inr le ↦ le
      ];
  within = end.within;
  before = λ k d lt of. order_version (get_or entries k d) (record { key = key; version = v; value = None }) (start.before k d lt) (is_of_key key (get_or entries k d) of);
  inside = λ k d le lt.
      let within : k < length entries = let most = end.within in omega arith in
      between_of (get_or entries k d) key v (start.after k d le within) (end.before k d lt);
  after = λ k d le within. false_from_ne_true (is_of key (get_or entries k d)) (λ of. of_key_low (get_or entries k d) key of (end.after k d le within));
}

module _ (pairs : List KeyValue) (items : List Item) (key : List ℕ) (v from to : ℕ) (range : IsKeyRange (entries_of pairs items) key v from to) where
  entries : List Entry
  entries = entries_of pairs items

  group : List Item
  group = slice_range items from to

  to_within : to ≤ length items
  to_within = let most = range.within in omega (arith, length-map items (entry_of_item pairs))

  length_group : length group ≡ to - from
  unfolding group
  length_group = let most = to_within in omega (arith, length-take (to - from) (drop from items), length-drop from items)

  -- the entry of an item, and the version of an item of the group
  entry_at : (k : ℕ) (d : Item) (e : Entry) → k < length items → get_or entries k e ≡ entry_of_item pairs (get_or items k d)
  unfolding entries
  entry_at k d e lt = get_or-map (entry_of_item pairs) items k d e lt

  group_at : (k : ℕ) (d : Item) → k < to - from → get_or group k d ≡ get_or items (from + k) d
  unfolding group
  group_at k d lt = get_or-take (to - from) (drop from items) k d lt ∙ get_or-drop from items k d

  -- versions of one key descend
  group_descends : is_ascending entries ≡ true → (i j : ℕ) (d : Item) → i < j → j < length group → (get_or group j d).version < (get_or group i d).version
  unfolding entries group
  group_descends up i j d lt within =
      let len = length_group in
      let few : j < to - from = omega arith in
      let most = to_within in
      let e : Entry = entry_of_item pairs d in
      let first = entry_at (from + i) d e (omega arith) in
      let second = entry_at (from + j) d e (omega arith) in
      let of_first = is_of_key key (get_or entries (from + i) e) (range.inside (from + i) e (omega arith) (omega arith)) in
      let of_second = is_of_key key (get_or entries (from + j) e) (range.inside (from + j) e (omega arith) (omega arith)) in
      let less = order_version (get_or entries (from + i) e) (get_or entries (from + j) e) (ascending_at entries (from + i) (from + j) e e up (omega arith) (omega (arith, length-map items (entry_of_item pairs)))) (of_first ∙ sym of_second) in
      omega (arith, less, ap (λ (x : Entry). x.version) first, ap (λ (x : Entry). x.version) second, ap (λ (x : Item). x.version) (group_at i d (omega arith)), ap (λ (x : Item). x.version) (group_at j d few))

-- a test that passes at each place passes throughout
all_places : {X : Type 0} (p : X → Bool) (xs : List X) → ((k : ℕ) (d : X) → k < length xs → p (get_or xs k d) ≡ true) → list_all p xs ≡ true
all_places p [] each = refl
all_places p (x ∷ xs) each = and_from (p x) (list_all p xs) (each 0 x (omega arith)) (all_places p xs (λ k d lt. each (suc k) d (omega arith)))

descends_from : (xs : List Item) → ((i j : ℕ) (d : Item) → i < j → j < length xs → (get_or xs j d).version < (get_or xs i d).version) → is_descending xs ≡ true
descends_from [] each = refl
descends_from (x ∷ xs) each =
    and_from (list_all (λ later. ltb later.version x.version) xs) (is_descending xs)
    (all_places (λ later. ltb later.version x.version) xs (λ k d lt. lt-ltb (get_or xs k d).version x.version (each 0 (suc k) d (omega arith) (omega arith))))
    (descends_from xs (λ i j d lt within. each (suc i) (suc j) d (omega arith) (omega arith)))

pub range_descends : (pairs : List KeyValue) (items : List Item) (key : List ℕ) (v from to : ℕ) → IsKeyRange (entries_of pairs items) key v from to → is_ascending (entries_of pairs items) ≡ true → is_descending (slice_range items from to) ≡ true
unfolding entries group
range_descends pairs items key v from to range up = descends_from (slice_range items from to) (group_descends pairs items key v from to range up)

no_item : Item
no_item = record { slot = record { 0 = 0 }; version = 0; gone = false }

no_entry : Entry
no_entry = record { key = []; version = 0; value = None }

module _ (parents : Parents) (tree : IsTree parents) (pairs : List KeyValue) (items : List Item) (key : List ℕ) (v from to : ℕ) (range : IsKeyRange (entries_of pairs items) key v from to) where
  on_way : Item → Bool
  on_way item = is_ancestor parents item.version v

  of_way : Entry → Bool
  of_way e = is_of key e && is_ancestor parents e.version v

  off_way : (e : Entry) → (is_of key e ≡ true → is_ancestor parents e.version v ≡ true → ⊥) → of_way e ≡ false
  unfolding of_way
  off_way e not_both = false_from_ne_true (is_of key e && is_ancestor parents e.version v) (λ both. let parts = and_parts (is_of key e) (is_ancestor parents e.version v) both in not_both parts.0 parts.1)

  found_in_range : option_and_then (λ i. slice_get (entries_of pairs items) (from + i)) (position on_way (slice_range items from to)) ≡ find of_way (entries_of pairs items)
  unfolding on_way of_way entries group
  found_in_range =
      let es : List Entry = entries_of pairs items in
      let xs : List Item = slice_range items from to in
      let n : ℕ = position_or_len on_way xs in
      let len : length xs ≡ to - from = length_group pairs items key v from to range in
      let most : to ≤ length items = to_within pairs items key v from to range in
      let ends : from ≤ to = range.order in
      let before : (k : ℕ) (e : Entry) → k < from → of_way (get_or es k e) ≡ false = λ k e lt.
      off_way (get_or es k e) (λ of on. let above = range.before k e lt of in let le = path_le parents tree (get_or es k e).version v (ancestor_among parents tree (get_or es k e).version v on) in omega arith) in
      let after : (k : ℕ) (e : Entry) → to ≤ k → k < length es → of_way (get_or es k e) ≡ false = λ k e le within.
      off_way (get_or es k e) (λ of on. true≢false (sym of ∙ range.after k e le within)) in
      let way_at : (k : ℕ) (d : Item) (e : Entry) → k < to - from → is_ancestor parents (get_or es (from + k) e).version v ≡ on_way (get_or xs k d) = λ k d e lt.
      ap (λ (x : Entry). is_ancestor parents x.version v) (entry_at pairs items key v from to range (from + k) d e (omega arith))
      ∙ ap (λ (x : Item). is_ancestor parents x.version v) (sym (group_at pairs items key v from to range k d lt)) in
      let inside : (k : ℕ) (e : Entry) → from ≤ k → k < from + n → k < to → of_way (get_or es k e) ≡ false = λ k e le lt below.
      off_way (get_or es k e) (λ of on.
      let back : from + (k - from) ≡ k = omega arith in
      let off = fails_before_first on_way xs (k - from) no_item (omega arith) in
      let way = way_at (k - from) no_item e (omega arith) in
      true≢false (sym on ∙ ap (λ (j : ℕ). is_ancestor parents (get_or es j e).version v) (sym back) ∙ way ∙ off)) in
      sym (find_at of_way es
      ∙ elim (cases_lt n (length xs)) [
        | inl lt ↦
            let on : is_ancestor parents (get_or es (from + n) no_entry).version v ≡ true = way_at n no_item no_entry (omega arith) ∙ passes_at_first on_way xs no_item lt in
            let at : position_or_len of_way es ≡ from + n =
            position_or_len_is of_way es (from + n) no_entry (let all = range.within in omega arith)
            (λ k below. elim (cases_lt k from) [ inl less ↦ before k no_entry less | inr le ↦ inside k no_entry le below (omega arith) ])
            (λ within. and_from (is_of key (get_or es (from + n) no_entry)) (is_ancestor parents (get_or es (from + n) no_entry).version v) (range.inside (from + n) no_entry (omega arith) (omega arith)) on) in
            ap (slice_get es) at ∙ sym (ap (λ (b : Bool). option_and_then (λ i. slice_get es (from + i)) (cond b (Some n) None)) (lt-ltb n (length xs) lt))
        | inr le ↦
            let at : position_or_len of_way es ≡ length es =
            position_or_len_is of_way es (length es) no_entry (omega arith)
            (λ k below. elim (cases_lt k from) [
              | inl less ↦ before k no_entry less
              | inr more ↦ elim (cases_lt k to) [ inl inner ↦ inside k no_entry more (omega arith) inner | inr outer ↦ after k no_entry outer below ]
            ])
            (λ within. absurd (omega arith)) in
            ap (slice_get es) at ∙ slice_get_past es (length es) (omega arith)
            ∙ sym (ap (λ (b : Bool). option_and_then (λ i. slice_get es (from + i)) (cond b (Some n) None)) (le-ltb n (length xs) le))
      ])

  -- what was found among the items of the key at versions up to v is its live entry
  pub found_lives : is_ascending (entries_of pairs items) ≡ true → (place : Option ℕ) → place ≡ position (is_live_item parents (slice_range items from to) v) (slice_range items from to)
      → option_and_then (λ i. slice_get (entries_of pairs items) (from + i)) place ≡ find (is_of key) (live parents (entries_of pairs items) v)
  unfolding on_way of_way
  found_lives up place is =
      let es : List Entry = entries_of pairs items in
      ap (option_and_then (λ i. slice_get es (from + i)))
      (is ∙ sym (live_first parents v (slice_range items from to) (range_descends pairs items key v from to range up)))
      ∙ found_in_range ∙ sym (deciding_first parents tree es up key v) ∙ sym (deciding_live parents tree es key v (ascending_single es up))

-- a look-up in a list that stands in a pool, through fields of its own
pub held_range : (pool : List PoolEntry) (list : ItemList) (arena : ℕ) (items : List Item) (key : List ℕ) (v from to : ℕ) → arena ≡ list.arena → items ≡ list.items
    → IsKeyRange (entries_of (arena_at pool arena).pairs items) key v from to → IsKeyRange (entries_held pool list) key v from to
held_range pool list arena items key v from to same_arena same_items range =
    subst (λ (xs : List Item). IsKeyRange (entries_of (arena_at pool list.arena).pairs xs) key v from to) same_items
    (subst (λ (n : ℕ). IsKeyRange (entries_of (arena_at pool n).pairs items) key v from to) same_arena range)

module _ (pool : List PoolEntry) (list : ItemList) (stands : ListStands pool list) (key : List ℕ) (v from to : ℕ) (range : IsKeyRange (entries_held pool list) key v from to) (items : List Item) (same : items ≡ list.items) where
  pub held_descends : is_descending (slice_range items from to) ≡ true
  held_descends =
      subst (λ (xs : List Item). is_descending (slice_range xs from to) ≡ true) (sym same)
      (range_descends (arena_at pool list.arena).pairs list.items key v from to range stands.ascending)

  pub held_lives : (parents : Parents) → IsTree parents → (place : Option ℕ) → place ≡ position (is_live_item parents (slice_range items from to) v) (slice_range items from to)
      → option_and_then (λ i. slice_get (entries_held pool list) (from + i)) place ≡ find (is_of key) (live parents (entries_held pool list) v)
  held_lives parents tree place is =
      found_lives parents tree (arena_at pool list.arena).pairs list.items key v from to range stands.ascending place
      (is ∙ ap (λ (xs : List Item). position (is_live_item parents (slice_range xs from to) v) (slice_range xs from to)) same)
