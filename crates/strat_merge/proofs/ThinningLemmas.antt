-- Items that tell something, and the entries that do.
use Rattle.std.proofs.Common.{◌≡◌, ◌<◌, ℕ, zero, suc, Bool, true, false, cond, ◌&&◌, not, nat_lt, inl, inr, List, [], ◌∷◌, ◌++◌, length, map, filter, take, drop, ◌+◌, ◌-◌, get_or, Option, Some, None, refl, sym, ap, ◌∙◌, subst, arith, append_assoc}
use Rattle.std.specs.List.{list_all, find, position, slice_get}
use Rattle.std.specs.Option.{option_map, option_and_then}
use Rattle.std.proofs.lemmas.Bool.{ltb-true, and_from, and_parts}
use Rattle.strat_base.specs.Tree.{Parents, parent_of, is_ancestor, IsTree}
use Rattle.strat_base.specs.Marks.{Marks, is_dropped}
use Rattle.strat_base.specs.Entries.{Entry, is_of, is_same_value}
use Rattle.strat_base.proofs.ListFacts.{Among, all_at, all_from, map_same}
use Rattle.strat_base.proofs.EntryLemmas.{is_of_key}
use Rattle.strat_base.proofs.TreeLemmas.{parent_older}
use Rattle.def_state.specs.Maps.{value_over}
use Rattle.def_state.proofs.GroupLemmas.{deciding_group}
use Rattle.def_split.proofs.ListLemmas.{among_map}
use Rattle.def_promote.specs.Thin.{is_telling, thinned}
use Rattle.strat_arena.specs.ArenaView.{KeyValue}
use Rattle.strat_arena.specs.declared.items.Item.{Item}
use Rattle.strat_arena.specs.Items.{pair_of, said_by, entry_of_item, entries_of, have_pairs}
use Rattle.strat_live.specs.Group.{is_descending, is_live_item}
use Rattle.strat_merge.specs.Thinning.{item_says, said_at, is_told, told_items}
use Rattle.strat_merge.proofs.KeepingLemmas.{whole_rest, drop_more, get_drop, found_live, find_mapped, find_behind, front_above, ascends, all_of_key}

module _ (parents : Parents) (tree : IsTree parents) (marks : Marks) (pairs : List KeyValue) (key : List ℕ) where
  abbrev value : Item → List ℕ
  value item = (pair_of pairs item).value

  abbrev made : Item → Entry
  made item = record { key = key; version = item.version; value = said_by item.gone (pair_of pairs item).value }

  value_is : (items : List Item) (v : ℕ) → is_descending items ≡ true → value_over parents (map made items) v key ≡ said_at parents pairs items v
  value_is items v down =
      ap (λ (o : Option Entry). option_and_then (λ (e : Entry). e.value) o)
      (deciding_group parents tree (map made items) (ascends parents tree key value items down) key v ∙ ap (λ es. find (λ (e : Entry). is_ancestor parents e.version v) es) (all_of_key parents tree key value items) ∙ find_mapped parents v made items (λ item. refl))
      ∙ go (find (λ (item : Item). is_ancestor parents item.version v) items)
    where
      go : (o : Option Item) → option_and_then (λ (e : Entry). e.value) (option_map made o) ≡ option_and_then (item_says pairs) o
      go None = refl
      go (Some x) = refl

  telling_is : (front : List Item) (item : Item) (rest : List Item) → is_descending (front ++ item ∷ rest) ≡ true → is_telling parents marks (map made (front ++ item ∷ rest)) (made item) ≡ is_told parents marks pairs item rest
  telling_is front item rest down =
      ap (λ (o : Option (List ℕ)). not (is_dropped marks item.version) && not (is_same_value (item_says pairs item) o)) (above (parent_of parents item.version) refl)
    where
      above : (o : Option ℕ) → parent_of parents item.version ≡ o → option_and_then (λ p. value_over parents (map made (front ++ item ∷ rest)) p key) o ≡ option_and_then (λ p. said_at parents pairs rest p) o
      above None is = refl
      above (Some p) is =
          let older : p < item.version = parent_older parents tree item.version p is in
          let over = front_above front item rest down in
          value_is (front ++ item ∷ rest) p down
          ∙ ap (λ (o : Option Item). option_and_then (item_says pairs) o)
          (find_behind parents p front (item ∷ rest) tree (λ x among. let lt = over x among in omega arith) ∙ find_behind parents p (item ∷ []) rest tree (λ x among. only x among older))
        where
          only : (x : Item) → Among x (item ∷ []) → p < item.version → p < x.version
          only x (inl here) lt = subst (λ (z : Item). p < z.version) (sym here) lt
          only x (inr there) lt = absurd there

  told_entries : (front rest : List Item) → is_descending (front ++ rest) ≡ true → map made (told_items parents marks pairs rest) ≡ filter (is_telling parents marks (map made (front ++ rest))) (map made rest)
  told_entries front [] down = refl
  told_entries front (item ∷ rest) down =
      let moved : (front ++ item ∷ []) ++ rest ≡ front ++ item ∷ rest = append_assoc front (item ∷ []) rest in
      let more : map made (told_items parents marks pairs rest) ≡ filter (is_telling parents marks (map made (front ++ item ∷ rest))) (map made rest) =
      subst (λ (its : List Item). map made (told_items parents marks pairs rest) ≡ filter (is_telling parents marks (map made its)) (map made rest)) moved
      (told_entries (front ++ item ∷ []) rest (subst (λ (its : List Item). is_descending its ≡ true) (sym moved) down)) in
      go (is_told parents marks pairs item rest) ∙ (λ i. cond (sym (telling_is front item rest down) i) (made item ∷ more i) (more i))
    where
      go : (b : Bool) → map made (cond b (item ∷ told_items parents marks pairs rest) (told_items parents marks pairs rest)) ≡ cond b (made item ∷ map made (told_items parents marks pairs rest)) (map made (told_items parents marks pairs rest))
      go true = refl
      go false = refl

told_among : (parents : Parents) (marks : Marks) (pairs : List KeyValue) (items : List Item) (x : Item) → Among x (told_items parents marks pairs items) → Among x items
told_among parents marks pairs [] x among = among
told_among parents marks pairs (y ∷ items) x among = go (is_told parents marks pairs y items) (λ there. told_among parents marks pairs items x there) among
  where
    go : (b : Bool) → (Among x (told_items parents marks pairs items) → Among x items) → Among x (cond b (y ∷ told_items parents marks pairs items) (told_items parents marks pairs items)) → Among x (y ∷ items)
    go true more (inl here) = inl here
    go true more (inr there) = inr (more there)
    go false more there = inr (more there)

-- the entries of the items that tell something are those that do
pub told_thinned : (parents : Parents) (marks : Marks) (pairs : List KeyValue) (items : List Item) (key : List ℕ) → IsTree parents → is_descending items ≡ true → list_all (is_of key) (entries_of pairs items) ≡ true
    → entries_of pairs (told_items parents marks pairs items) ≡ thinned parents marks (entries_of pairs items)
told_thinned parents marks pairs items key tree down keyed =
    entries_are (told_items parents marks pairs items) (λ x among. told_among parents marks pairs items x among)
    ∙ told_entries parents tree marks pairs key [] items down
    ∙ sym (ap (λ es. thinned parents marks es) (entries_are items (λ x among. among)))
  where
    entries_are : (its : List Item) → ((x : Item) → Among x its → Among x items) → entries_of pairs its ≡ map (made parents tree marks pairs key) its
    entries_are its within =
        map_same (entry_of_item pairs) (made parents tree marks pairs key) its (λ x among.
        ap (λ k. record { key = k; version = x.version; value = said_by x.gone (pair_of pairs x).value })
        (is_of_key key (entry_of_item pairs x) (all_at (is_of key) (entry_of_item pairs x) (entries_of pairs items) keyed (among_map (entry_of_item pairs) items x (within x among)))))

-- what holds of all items holds of those that stay, and these descend too
pub told_all : (parents : Parents) (marks : Marks) (pairs : List KeyValue) (p : Item → Bool) (items : List Item) → list_all p items ≡ true → list_all p (told_items parents marks pairs items) ≡ true
told_all parents marks pairs p items all = all_from p (told_items parents marks pairs items) (λ x among. all_at p x items all (told_among parents marks pairs items x among))

pub told_descend : (parents : Parents) (marks : Marks) (pairs : List KeyValue) (items : List Item) → is_descending items ≡ true → is_descending (told_items parents marks pairs items) ≡ true
told_descend parents marks pairs [] down = refl
told_descend parents marks pairs (x ∷ items) down =
    let parts = and_parts (list_all (λ later. nat_lt later.version x.version) items) (is_descending items) down in
    go (is_told parents marks pairs x items) (told_all parents marks pairs (λ later. nat_lt later.version x.version) items parts.0) (told_descend parents marks pairs items parts.1)
  where
    go : (b : Bool) → list_all (λ later. nat_lt later.version x.version) (told_items parents marks pairs items) ≡ true → is_descending (told_items parents marks pairs items) ≡ true
        → is_descending (cond b (x ∷ told_items parents marks pairs items) (told_items parents marks pairs items)) ≡ true
    go true all rest = and_from (list_all (λ later. nat_lt later.version x.version) (told_items parents marks pairs items)) (is_descending (told_items parents marks pairs items)) all rest
    go false all rest = rest

-- what the item that is live says
pub live_says : (parents : Parents) (pairs : List KeyValue) (items : List Item) (v i : ℕ) (d : Item) → is_descending items ≡ true → i < length items → Some i ≡ position (is_live_item parents items v) items
    → item_says pairs (get_or items i d) ≡ said_at parents pairs items v
live_says parents pairs items v i d down within some =
    sym (ap (λ (o : Option Item). option_and_then (item_says pairs) o) (found_live parents items v down ∙ ap (λ o. option_and_then (λ n. slice_get items n) o) (sym some) ∙ get_there items i d within))
  where
    get_there : (xs : List Item) (j : ℕ) (e : Item) → j < length xs → slice_get xs j ≡ Some (get_or xs j e)
    get_there [] j e low = absurd (omega arith)
    get_there (x ∷ xs) zero e low = refl
    get_there (x ∷ xs) (suc j) e low = get_there xs j e (omega arith)

pub none_says : (parents : Parents) (pairs : List KeyValue) (items : List Item) (v : ℕ) → is_descending items ≡ true → None ≡ position (is_live_item parents items v) items → None ≡ said_at parents pairs items v
none_says parents pairs items v down none =
    sym (ap (λ (o : Option Item). option_and_then (item_says pairs) o) (found_live parents items v down ∙ ap (λ o. option_and_then (λ n. slice_get items n) o) (sym none)))

pub none_same : (gone : Bool) (bytes : List ℕ) → gone ≡ is_same_value (said_by gone bytes) None
none_same true bytes = refl
none_same false bytes = refl

all_drop : {X : Type 0} (p : X → Bool) (i : ℕ) (xs : List X) → list_all p xs ≡ true → list_all p (drop i xs) ≡ true
all_drop p zero xs all = all
all_drop p (suc i) [] all = refl
all_drop p (suc i) (x ∷ xs) all = all_drop p i xs (and_parts (p x) (list_all p xs) all).1

all_get : {X : Type 0} (p : X → Bool) (xs : List X) (i : ℕ) (d : X) → list_all p xs ≡ true → i < length xs → p (get_or xs i d) ≡ true
all_get p [] i d all within = absurd (omega (arith, within))
all_get p (x ∷ xs) zero d all within = (and_parts (p x) (list_all p xs) all).0
all_get p (x ∷ xs) (suc i) d all within = all_get p xs i d (and_parts (p x) (list_all p xs) all).1 (omega (arith, within))

-- items whose rest is that of a group have its pairs
pub rest_pairs : (pairs : List KeyValue) (i : ℕ) (items old : List Item) → drop i items ≡ drop i old → have_pairs pairs old ≡ true → have_pairs pairs (take (length items - (i + 1)) (drop (i + 1) items)) ≡ true
rest_pairs pairs i items old same all =
    let rest : take (length items - (i + 1)) (drop (i + 1) items) ≡ drop (i + 1) old = whole_rest (i + 1) items ∙ drop_more i items ∙ ap (λ xs. drop 1 xs) same ∙ sym (drop_more i old) in
    ap (have_pairs pairs) rest ∙ all_drop (λ item. nat_lt item.slot.0 (length pairs)) (i + 1) old all

pub item_pair : (pairs : List KeyValue) (i : ℕ) (items old : List Item) (d : Item) → drop i items ≡ drop i old → have_pairs pairs old ≡ true → i < length old → (get_or items i d).slot.0 < length pairs
item_pair pairs i items old d same all within =
    let at : get_or items i d ≡ get_or old i d = sym (get_drop i items d) ∙ ap (λ xs. get_or xs 0 d) same ∙ get_drop i old d in
    subst (λ (x : Item). x.slot.0 < length pairs) (sym at) (ltb-true (get_or old i d).slot.0 (length pairs) (all_get (λ item. nat_lt item.slot.0 (length pairs)) old i d all within))
