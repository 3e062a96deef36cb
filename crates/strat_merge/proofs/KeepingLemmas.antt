-- Items that say something, and the entries that do.
use Rattle.std.proofs.Common.{◌≡◌, ◌≤◌, ◌<◌, ℕ, zero, suc, ◌+◌, ◌-◌, Bool, true, false, cond, ◌||◌, not, nat_lt, inl, inr, List, [], ◌∷◌, ◌++◌, length, map, filter, take, drop, get_or, Option, Some, None, is_some, refl, sym, ap, ◌∙◌, subst, arith, length-drop, append_assoc}
use Rattle.std.specs.List.{list_all, find, slice_get, position, position_or_len, prefix_len}
use Rattle.std.specs.Option.{option_map, option_map_or, option_and_then}
use Rattle.std.specs.Cmp.{nat_cmp_is}
use Rattle.std.specs.Ordering.{is_lt, nat_cmp, ordering_then}
use Rattle.std.specs.declared.cmp.Ordering.TheVariants.{Less}
use Rattle.std.proofs.lemmas.Cmp.{nat_list_cmp_total, tied_itself}
use Rattle.std.proofs.lemmas.Bool.{and_from, and_parts, cases_Bool}
use Rattle.std.proofs.lemmas.Bool.Decides.{nat_tests}
use Rattle.std.proofs.lemmas.List.{take_all}
use Rattle.std.proofs.lemmas.Option.{slice_get_past}
use Rattle.strat_arena.specs.ArenaView.{KeyValue}
use Rattle.strat_arena.specs.declared.items.Item.{Item}
use Rattle.strat_base.specs.Tree.{Parents, parent_of, is_ancestor, IsTree}
use Rattle.strat_base.specs.Entries.{Entry, is_of, is_ascending}
use Rattle.strat_base.proofs.ListFacts.{Among, all_at, all_from, map_same, among_right}
use Rattle.strat_base.proofs.EntryLemmas.{is_of_key, same_bytes}
use Rattle.strat_base.proofs.TreeLemmas.{path_le, ancestor_among, parent_older}
use Rattle.strat_base.specs.Order.{entry_cmp}
use Rattle.def_state.proofs.GroupLemmas.{deciding_group}
use Rattle.def_split.proofs.ListLemmas.{filter_every, map_among, among_map}
use Rattle.def_promote.specs.Purge.{is_valued, is_needed, purged}
use Rattle.strat_live.specs.Group.{is_descending, is_live_item}
use Rattle.strat_live.specs.Counting.{are_below}
use Rattle.strat_live.proofs.GroupLemmas.{live_first}
use Rattle.strat_arena.specs.Items.{pair_of, said_by, entry_of_item, entries_of}
use Rattle.strat_merge.specs.Keeping.{is_put_at, is_kept, kept_items}

-- places and elements

one_behind : {X : Type 0} (x : X) (xs : List X) (n : ℕ) → slice_get (x ∷ xs) (1 + n) ≡ slice_get xs n
one_behind x xs n = let e : 1 + n ≡ suc n = omega arith in ap (λ m. slice_get (x ∷ xs) m) e

find_place : {X : Type 0} (p : X → Bool) (xs : List X) → find p xs ≡ slice_get xs (position_or_len p xs)
find_place p [] = refl
find_place p (x ∷ xs) = go (p x) (find_place p xs)
  where
    go : (b : Bool) → find p xs ≡ slice_get xs (position_or_len p xs) → cond b (Some x) (find p xs) ≡ slice_get (x ∷ xs) (cond (not b) (1 + prefix_len (λ y. not (p y)) xs) 0)
    go true ih = refl
    go false ih = ih ∙ sym (one_behind x xs (prefix_len (λ y. not (p y)) xs))

find_position : {X : Type 0} (p : X → Bool) (xs : List X) → find p xs ≡ option_and_then (λ n. slice_get xs n) (position p xs)
find_position p xs =
    find_place p xs
    ∙ elim (cases_Bool (nat_lt (position_or_len p xs) (length xs))) [
      | inl within ↦ sym (ap (λ b. option_and_then (λ n. slice_get xs n) (cond b (Some (position_or_len p xs)) None)) within)
      | inr past ↦
          let le : length xs ≤ position_or_len p xs = grind (arith, nat_tests) in
          slice_get_past xs (position_or_len p xs) le ∙ sym (ap (λ b. option_and_then (λ n. slice_get xs n) (cond b (Some (position_or_len p xs)) None)) past)
    ]

get_default : {X : Type 0} (xs : List X) (i : ℕ) (x d : X) → slice_get xs i ≡ Some x → get_or xs i d ≡ x
get_default [] i x d is = cc
get_default (y ∷ xs) zero x d is = cc
get_default (y ∷ xs) (suc i) x d is = get_default xs i x d is

module _ (parents : Parents) (items : List Item) (v : ℕ) (down : is_descending items ≡ true) where
  pub found_live : find (λ (item : Item). is_ancestor parents item.version v) items ≡ option_and_then (λ n. slice_get items n) (position (is_live_item parents items v) items)
  found_live = find_position (λ (item : Item). is_ancestor parents item.version v) items ∙ ap (λ o. option_and_then (λ n. slice_get items n) o) (live_first parents v items down)

  pub value_none : None ≡ position (is_live_item parents items v) items → false ≡ is_put_at parents items v
  value_none none = sym (ap (λ o. option_map_or (λ (item : Item). not item.gone) o false) (found_live ∙ ap (λ o. option_and_then (λ n. slice_get items n) o) (sym none)))

  pub value_some : (i : ℕ) (d : Item) → i < length items → Some i ≡ position (is_live_item parents items v) items → not (get_or items i d).gone ≡ is_put_at parents items v
  value_some i d within some =
      let at : find (λ (item : Item). is_ancestor parents item.version v) items ≡ slice_get items i = found_live ∙ ap (λ o. option_and_then (λ n. slice_get items n) o) (sym some) in
      sym (ap (λ o. option_map_or (λ (item : Item). not item.gone) o false) (at ∙ get_there items i d within))
    where
      get_there : (xs : List Item) (j : ℕ) (e : Item) → j < length xs → slice_get xs j ≡ Some (get_or xs j e)
      get_there [] j e low = absurd (omega arith)
      get_there (x ∷ xs) zero e low = refl
      get_there (x ∷ xs) (suc j) e low = get_there xs j e (omega arith)

-- parts of a group

pub whole_rest : {X : Type 0} (n : ℕ) (xs : List X) → take (length xs - n) (drop n xs) ≡ drop n xs
whole_rest n xs = let size = length-drop n xs in take_all (length xs - n) (drop n xs) (omega arith)

pub descending_drop : (i : ℕ) (items : List Item) → is_descending items ≡ true → is_descending (drop i items) ≡ true
descending_drop zero items down = down
descending_drop (suc i) [] down = refl
descending_drop (suc i) (x ∷ items) down = descending_drop i items (and_parts (list_all (λ later. nat_lt later.version x.version) items) (is_descending items) down).1

pub below_at : (i : ℕ) (items : List Item) (n : ℕ) (d : Item) → are_below n items ≡ true → i < length items → (get_or items i d).version < n
below_at i [] n d low within = absurd (omega arith)
below_at zero (x ∷ items) n d low within = let one = (and_parts (nat_lt x.version n) (are_below n items) low).0 in grind (arith, nat_tests)
below_at (suc i) (x ∷ items) n d low within = below_at i items n d (and_parts (nat_lt x.version n) (are_below n items) low).1 (omega arith)

pub position_within : {X : Type 0} (p : X → Bool) (xs : List X) (i : ℕ) → Some i ≡ position p xs → i < length xs
position_within p xs i is =
    elim (cases_Bool (nat_lt (position_or_len p xs) (length xs))) [
      | inl within ↦
          let at : Some i ≡ Some (position_or_len p xs) = is ∙ ap (λ b. cond b (Some (position_or_len p xs)) None) within in
          let same : i ≡ position_or_len p xs = cc in
          grind (arith, nat_tests)
      | inr past ↦
          let at : Some i ≡ None = is ∙ ap (λ b. cond b (Some (position_or_len p xs)) None) past in
          cc
    ]

-- the entries of the items that say something are those that do
pub find_mapped : (parents : Parents) (v : ℕ) (entry : Item → Entry) (items : List Item) → ((item : Item) → (entry item).version ≡ item.version)
    → find (λ (e : Entry). is_ancestor parents e.version v) (map entry items) ≡ option_map entry (find (λ (item : Item). is_ancestor parents item.version v) items)
find_mapped parents v entry [] at = refl
find_mapped parents v entry (x ∷ items) at =
    ap (λ u. cond (is_ancestor parents u v) (Some (entry x)) (find (λ (e : Entry). is_ancestor parents e.version v) (map entry items))) (at x)
    ∙ go (is_ancestor parents x.version v) (find_mapped parents v entry items at)
  where
    go : (b : Bool) → find (λ (e : Entry). is_ancestor parents e.version v) (map entry items) ≡ option_map entry (find (λ (item : Item). is_ancestor parents item.version v) items)
        → cond b (Some (entry x)) (find (λ (e : Entry). is_ancestor parents e.version v) (map entry items)) ≡ option_map entry (cond b (Some x) (find (λ (item : Item). is_ancestor parents item.version v) items))
    go true ih = refl
    go false ih = ih

-- greater versions are on no path
pub find_behind : (parents : Parents) (v : ℕ) (front rest : List Item) → IsTree parents → ((x : Item) → Among x front → v < x.version)
    → find (λ (item : Item). is_ancestor parents item.version v) (front ++ rest) ≡ find (λ (item : Item). is_ancestor parents item.version v) rest
find_behind parents v [] rest tree above = refl
find_behind parents v (x ∷ front) rest tree above =
    ap (λ b. cond b (Some x) (find (λ (item : Item). is_ancestor parents item.version v) (front ++ rest))) off
    ∙ find_behind parents v front rest tree (λ y among. above y (inr among))
  where
    off : is_ancestor parents x.version v ≡ false
    off =
        elim (cases_Bool (is_ancestor parents x.version v)) [
          | inr no' ↦ no'
          | inl on ↦ let le : x.version ≤ v = path_le parents tree x.version v (ancestor_among parents tree x.version v on) in let lt = above x (inl refl) in absurd (omega arith)
        ]

-- the items in front of one have greater versions
pub front_above : (front : List Item) (item : Item) (rest : List Item) → is_descending (front ++ item ∷ rest) ≡ true → (x : Item) → Among x front → item.version < x.version
front_above [] item rest down x among = absurd among
front_above (y ∷ front) item rest down x (inl here) =
    let all = (and_parts (list_all (λ later. nat_lt later.version y.version) (front ++ item ∷ rest)) (is_descending (front ++ item ∷ rest)) down).0 in
    let one : nat_lt item.version y.version ≡ true = all_at (λ later. nat_lt later.version y.version) item (front ++ item ∷ rest) all (among_right front (item ∷ rest) item (inl refl)) in
    let lt : item.version < y.version = grind (arith, nat_tests) in
    subst (λ (z : Item). item.version < z.version) (sym here) lt
front_above (y ∷ front) item rest down x (inr there) =
    front_above front item rest (and_parts (list_all (λ later. nat_lt later.version y.version) (front ++ item ∷ rest)) (is_descending (front ++ item ∷ rest)) down).1 x there

some_unless : (gone : Bool) (value : List ℕ) → is_some (said_by gone value) ≡ not gone
some_unless true value = refl
some_unless false value = refl

module _ (parents : Parents) (tree : IsTree parents) (key : List ℕ) (value : Item → List ℕ) where
  abbrev entry : Item → Entry
  entry item = record { key = key; version = item.version; value = said_by item.gone (value item) }

  pub ascends : (items : List Item) → is_descending items ≡ true → is_ascending (map entry items) ≡ true
  ascends [] down = refl
  ascends (x ∷ items) down =
      let parts = and_parts (list_all (λ later. nat_lt later.version x.version) items) (is_descending items) down in
      and_from (list_all (λ later. is_lt (entry_cmp key x.version later.key later.version)) (map entry items)) (is_ascending (map entry items)) (go items parts.0) (ascends items parts.1)
    where
      go : (rest : List Item) → list_all (λ later. nat_lt later.version x.version) rest ≡ true → list_all (λ later. is_lt (entry_cmp key x.version later.key later.version)) (map entry rest) ≡ true
      go [] all = refl
      go (y ∷ rest) all =
          let parts = and_parts (nat_lt y.version x.version) (list_all (λ later. nat_lt later.version x.version) rest) all in
          let lt : y.version < x.version = let one = parts.0 in grind (arith, nat_tests) in
          and_from (is_lt (entry_cmp key x.version key y.version)) (list_all (λ later. is_lt (entry_cmp key x.version later.key later.version)) (map entry rest))
          (ap (λ o. is_lt (ordering_then o (nat_cmp y.version x.version))) (tied_itself nat_list_cmp_total key) ∙ ap is_lt (sym (nat_cmp_is y.version x.version Less lt)))
          (go rest parts.1)

  pub all_of_key : (items : List Item) → filter (is_of key) (map entry items) ≡ map entry items
  all_of_key items = filter_every (is_of key) (map entry items) (λ e among. let at = map_among entry items e among in ap (is_of key) at.2 ∙ same_bytes key key refl)

  valued_is : (items : List Item) (v : ℕ) → is_descending items ≡ true → is_valued parents (map entry items) key v ≡ is_put_at parents items v
  valued_is items v down =
      ap (λ o. is_some (option_and_then (λ (e : Entry). e.value) o))
      (deciding_group parents tree (map entry items) (ascends items down) key v ∙ ap (λ es. find (λ (e : Entry). is_ancestor parents e.version v) es) (all_of_key items) ∙ find_mapped parents v entry items (λ item. refl))
      ∙ go (find (λ (item : Item). is_ancestor parents item.version v) items)
    where
      go : (o : Option Item) → is_some (option_and_then (λ (e : Entry). e.value) (option_map entry o)) ≡ option_map_or (λ (item : Item). not item.gone) o false
      go None = refl
      go (Some x) = some_unless x.gone (value x)

  needed_is : (front : List Item) (item : Item) (rest : List Item) → is_descending (front ++ item ∷ rest) ≡ true → is_needed parents (map entry (front ++ item ∷ rest)) (entry item) ≡ is_kept parents item rest
  needed_is front item rest down =
      (λ i. some_unless item.gone (value item) i || above (parent_of parents item.version) refl i)
    where
      above : (o : Option ℕ) → parent_of parents item.version ≡ o → option_map_or (λ p. is_valued parents (map entry (front ++ item ∷ rest)) key p) o false ≡ option_map_or (λ p. is_put_at parents rest p) o false
      above None is = refl
      above (Some p) is =
          let older : p < item.version = parent_older parents tree item.version p is in
          let over = front_above front item rest down in
          valued_is (front ++ item ∷ rest) p down
          ∙ ap (λ o. option_map_or (λ (x : Item). not x.gone) o false)
          (find_behind parents p front (item ∷ rest) tree (λ x among. let lt = over x among in omega arith) ∙ find_behind parents p (item ∷ []) rest tree (λ x among. only x among older))
        where
          only : (x : Item) → Among x (item ∷ []) → p < item.version → p < x.version
          only x (inl here) lt = subst (λ (z : Item). p < z.version) (sym here) lt
          only x (inr there) lt = absurd there

  kept_entries : (front rest : List Item) → is_descending (front ++ rest) ≡ true → map entry (kept_items parents rest) ≡ filter (is_needed parents (map entry (front ++ rest))) (map entry rest)
  kept_entries front [] down = refl
  kept_entries front (item ∷ rest) down =
      let moved : (front ++ item ∷ []) ++ rest ≡ front ++ item ∷ rest = append_assoc front (item ∷ []) rest in
      let more : map entry (kept_items parents rest) ≡ filter (is_needed parents (map entry (front ++ item ∷ rest))) (map entry rest) =
      subst (λ (its : List Item). map entry (kept_items parents rest) ≡ filter (is_needed parents (map entry its)) (map entry rest)) moved
      (kept_entries (front ++ item ∷ []) rest (subst (λ (its : List Item). is_descending its ≡ true) (sym moved) down)) in
      go (is_kept parents item rest) ∙ (λ i. cond (sym (needed_is front item rest down) i) (entry item ∷ more i) (more i))
    where
      go : (b : Bool) → map entry (cond b (item ∷ kept_items parents rest) (kept_items parents rest)) ≡ cond b (entry item ∷ map entry (kept_items parents rest)) (map entry (kept_items parents rest))
      go true = refl
      go false = refl

kept_among : (parents : Parents) (items : List Item) (x : Item) → Among x (kept_items parents items) → Among x items
kept_among parents [] x among = among
kept_among parents (y ∷ items) x among = go (is_kept parents y items) (λ there. kept_among parents items x there) among
  where
    go : (b : Bool) → (Among x (kept_items parents items) → Among x items) → Among x (cond b (y ∷ kept_items parents items) (kept_items parents items)) → Among x (y ∷ items)
    go true more (inl here) = inl here
    go true more (inr there) = inr (more there)
    go false more there = inr (more there)

pub kept_purged : (parents : Parents) (pairs : List KeyValue) (items : List Item) (key : List ℕ) → IsTree parents → is_descending items ≡ true → list_all (is_of key) (entries_of pairs items) ≡ true
    → entries_of pairs (kept_items parents items) ≡ purged parents (entries_of pairs items)
kept_purged parents pairs items key tree down keyed =
    let value : Item → List ℕ = λ item. (pair_of pairs item).value in
    entries_are (kept_items parents items) (λ x among. kept_among parents items x among)
    ∙ kept_entries parents tree key (λ item. (pair_of pairs item).value) [] items down
    ∙ sym (ap (λ es. purged parents es) (entries_are items (λ x among. among)))
  where
    entries_are : (its : List Item) → ((x : Item) → Among x its → Among x items) → entries_of pairs its ≡ map (entry parents tree key (λ item. (pair_of pairs item).value)) its
    entries_are its within =
        map_same (entry_of_item pairs) (entry parents tree key (λ item. (pair_of pairs item).value)) its (λ x among.
        ap (λ k. record { key = k; version = x.version; value = said_by x.gone (pair_of pairs x).value })
        (is_of_key key (entry_of_item pairs x) (all_at (is_of key) (entry_of_item pairs x) (entries_of pairs items) keyed (among_map (entry_of_item pairs) items x (within x among)))))

drop_next : {X : Type 0} (i : ℕ) (xs : List X) → drop (suc i) xs ≡ drop 1 (drop i xs)
drop_next zero xs = refl
drop_next (suc i) [] = refl
drop_next (suc i) (x ∷ xs) = drop_next i xs

pub drop_more : {X : Type 0} (i : ℕ) (xs : List X) → drop (i + 1) xs ≡ drop 1 (drop i xs)
drop_more i xs = let e : i + 1 ≡ suc i = omega arith in ap (λ n. drop n xs) e ∙ drop_next i xs

pub get_drop : {X : Type 0} (i : ℕ) (xs : List X) (d : X) → get_or (drop i xs) 0 d ≡ get_or xs i d
get_drop zero xs d = refl
get_drop (suc i) [] d = refl
get_drop (suc i) (x ∷ xs) d = get_drop i xs d

-- items whose rest is that of a group
pub rest_descends : (i : ℕ) (items old : List Item) → drop i items ≡ drop i old → is_descending old ≡ true → is_descending (take (length items - (i + 1)) (drop (i + 1) items)) ≡ true
rest_descends i items old same down =
    let rest : take (length items - (i + 1)) (drop (i + 1) items) ≡ drop (i + 1) old = whole_rest (i + 1) items ∙ drop_more i items ∙ ap (λ xs. drop 1 xs) same ∙ sym (drop_more i old) in
    ap is_descending rest ∙ descending_drop (i + 1) old down

pub item_below : (i : ℕ) (items old : List Item) (n : ℕ) (d : Item) → drop i items ≡ drop i old → are_below n old ≡ true → i < length old → (get_or items i d).version < n
item_below i items old n d same low within =
    let at : get_or items i d ≡ get_or old i d = sym (get_drop i items d) ∙ ap (λ xs. get_or xs 0 d) same ∙ get_drop i old d in
    subst (λ (x : Item). x.version < n) (sym at) (below_at i old n d low within)

-- what holds of all items holds of those that stay, and these descend too
pub kept_all : (parents : Parents) (p : Item → Bool) (items : List Item) → list_all p items ≡ true → list_all p (kept_items parents items) ≡ true
kept_all parents p items all = all_from p (kept_items parents items) (λ x among. all_at p x items all (kept_among parents items x among))

pub kept_descend : (parents : Parents) (items : List Item) → is_descending items ≡ true → is_descending (kept_items parents items) ≡ true
kept_descend parents [] down = refl
kept_descend parents (x ∷ items) down =
    let parts = and_parts (list_all (λ later. nat_lt later.version x.version) items) (is_descending items) down in
    go (is_kept parents x items) (kept_all parents (λ later. nat_lt later.version x.version) items parts.0) (kept_descend parents items parts.1)
  where
    go : (b : Bool) → list_all (λ later. nat_lt later.version x.version) (kept_items parents items) ≡ true → is_descending (kept_items parents items) ≡ true
        → is_descending (cond b (x ∷ kept_items parents items) (kept_items parents items)) ≡ true
    go true all rest = and_from (list_all (λ later. nat_lt later.version x.version) (kept_items parents items)) (is_descending (kept_items parents items)) all rest
    go false all rest = rest
