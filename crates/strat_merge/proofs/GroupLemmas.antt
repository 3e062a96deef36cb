-- The items of a group and their entries.
use Rattle.std.proofs.Common.{◌≡◌, ◌≤◌, ◌<◌, ℕ, ◌+◌, true, ◌&&◌, nat_lt, nat_le, ◌^◌, List, [], ◌∷◌, ◌++◌, length, get_or, refl, sym, ap, ◌∙◌, arith, length-append}
use Rattle.std.specs.List.{list_all}
use Rattle.std.specs.Ordering.{is_lt, nat_cmp, ordering_then}
use Rattle.std.specs.declared.cmp.Ordering.{Ordering}
use Rattle.std.specs.declared.cmp.Ordering.TheVariants.{Less, Equal, Greater}
use Rattle.std.proofs.lemmas.Bool.{and_parts, and_from}
use Rattle.std.proofs.lemmas.Bool.Decides.{nat_tests}
use Rattle.std.proofs.lemmas.Cmp.{nat_list_cmp_total, tied_itself, ranked}
use Rattle.std.proofs.lemmas.List.{get_or_append_left, map-append}
use Rattle.std.proofs.lemmas.List.Folds.{list_all-append}
use Rattle.std.proofs.Math.Seq.{get_or-append_seam}
use Rattle.strat_arena.specs.ArenaView.{KeyValue}
use Rattle.strat_arena.specs.declared.items.Item.{Item}
use Rattle.strat_base.specs.Order.{key_cmp, entry_cmp}
use Rattle.strat_base.specs.Entries.{Entry, is_of, is_ascending}
use Rattle.strat_base.specs.EntryBytes.{fits_fields, is_markable}
use Rattle.strat_base.specs.Sizes.{is_key}
use Rattle.strat_base.proofs.ListFacts.{all_at, all_from, map_same}
use Rattle.strat_base.proofs.EntryLemmas.{is_of_key}
use Rattle.strat_live.specs.Group.{is_descending}
use Rattle.strat_live.specs.Counting.{are_below}
use Rattle.strat_arena.specs.Items.{said_by, entry_of_item, entries_of, have_pairs}

below_test : (a b : ℕ) → nat_lt a b ≡ true → a < b
below_test a b is = grind (arith, nat_tests)

test_below : (a b : ℕ) → a < b → nat_lt a b ≡ true
test_below a b is = grind (arith, nat_tests)

-- one more pair and its item
module _ (pairs after : List KeyValue) (items new : List Item) (pair : KeyValue) (item : Item) (e : Entry) (slots : have_pairs pairs items ≡ true) (pushed : after ≡ pairs ++ pair ∷ [])
    (slot : item.slot.0 ≡ length pairs) (says : e ≡ record { key = pair.key; version = item.version; value = said_by item.gone pair.value }) (added : new ≡ items ++ item ∷ []) where
  abbrev more : List KeyValue
  more = pairs ++ pair ∷ []

  entries_stay : entries_of more items ≡ entries_of pairs items
  entries_stay = map_same (entry_of_item more) (entry_of_item pairs) items (λ x among.
      let within = below_test x.slot.0 (length pairs) (all_at (λ y. nat_lt y.slot.0 (length pairs)) x items slots among) in
      ap (λ (p : KeyValue). record { key = p.key; version = x.version; value = said_by x.gone p.value }) (get_or_append_left pairs (pair ∷ []) (record { key = []; value = [] }) x.slot.0 within))

  entry_new : entry_of_item more item ≡ e
  entry_new =
      ap (λ (p : KeyValue). record { key = p.key; version = item.version; value = said_by item.gone p.value })
      (ap (λ n. get_or more n (record { key = []; value = [] })) slot ∙ get_or-append_seam pairs pair [] (record { key = []; value = [] })) ∙ sym says

  pub entries_more : entries_of after new ≡ entries_of pairs items ++ e ∷ []
  entries_more =
      (λ i. entries_of (pushed i) (added i)) ∙ map-append (entry_of_item more) items (item ∷ [])
      ∙ (λ i. entries_stay i ++ entry_new i ∷ [])

  pub slots_more : have_pairs after new ≡ true
  slots_more =
      let size = length-append pairs (pair ∷ []) in
      (λ i. have_pairs (pushed i) (added i)) ∙ list_all-append (λ x. nat_lt x.slot.0 (length more)) items (item ∷ [])
      ∙ and_from (list_all (λ x. nat_lt x.slot.0 (length more)) items) (nat_lt item.slot.0 (length more) && true)
      (all_from (λ x. nat_lt x.slot.0 (length more)) items (λ x among.
      let within = below_test x.slot.0 (length pairs) (all_at (λ y. nat_lt y.slot.0 (length pairs)) x items slots among) in
      test_below x.slot.0 (length more) (omega arith)))
      (and_from (nat_lt item.slot.0 (length more)) true (test_below item.slot.0 (length more) (omega arith)) refl)

-- the bytes of a lawful entry
pub size_small : (e : Entry) (size : ℕ) → fits_fields e ≡ true → (is_markable e.value ≡ true → size ≤ 1024) → length e.key + size ≤ 1279
size_small e size fits small =
    let parts = and_parts (is_key e.key && nat_lt e.version (2 ^ 32)) (is_markable e.value) fits in
    let key = and_parts (is_key e.key) (nat_lt e.version (2 ^ 32)) parts.0 in
    let le = small parts.1 in
    let long : length e.key ≤ 255 = key_small e.key key.0 in
    omega arith
  where
    key_small : (k : List ℕ) → is_key k ≡ true → length k ≤ 255
    key_small k is = let both = and_parts (nat_le 1 (length k)) (nat_le (length k) 255) is in grind (arith, nat_tests)

-- entries of one key descend by version
lt_version : (e f : Entry) → e.key ≡ f.key → is_lt (entry_cmp e.key e.version f.key f.version) ≡ true → f.version < e.version
lt_version e f same lt =
    let tie : key_cmp e.key f.key ≡ Equal = ap (λ k. key_cmp k f.key) same ∙ tied_itself nat_list_cmp_total f.key in
    less (nat_cmp f.version e.version) refl (sym (ap (λ o. is_lt (ordering_then o (nat_cmp f.version e.version))) tie) ∙ lt)
  where
    less : (o : Ordering) → o ≡ nat_cmp f.version e.version → is_lt o ≡ true → f.version < e.version
    less Less is lt' = ranked f.version e.version Less is
    less Equal is lt' = cc
    less Greater is lt' = cc

pub items_descend : (pairs : List KeyValue) (items : List Item) (key : List ℕ) → list_all (is_of key) (entries_of pairs items) ≡ true → is_ascending (entries_of pairs items) ≡ true → is_descending items ≡ true
items_descend pairs [] key keyed up = refl
items_descend pairs (item ∷ items) key keyed up =
    let of = and_parts (is_of key (entry_of_item pairs item)) (list_all (is_of key) (entries_of pairs items)) keyed in
    let parts = and_parts (list_all (λ later. is_lt (entry_cmp (entry_of_item pairs item).key item.version later.key later.version)) (entries_of pairs items)) (is_ascending (entries_of pairs items)) up in
    and_from (list_all (λ later. nat_lt later.version item.version) items) (is_descending items)
    (go items of.1 parts.0 (is_of_key key (entry_of_item pairs item) of.0))
    (items_descend pairs items key of.1 parts.1)
  where
    go : (rest : List Item) → list_all (is_of key) (entries_of pairs rest) ≡ true
        → list_all (λ later. is_lt (entry_cmp (entry_of_item pairs item).key item.version later.key later.version)) (entries_of pairs rest) ≡ true
        → (entry_of_item pairs item).key ≡ key → list_all (λ later. nat_lt later.version item.version) rest ≡ true
    go [] keyed' all here = refl
    go (x ∷ rest) keyed' all here =
        let of = and_parts (is_of key (entry_of_item pairs x)) (list_all (is_of key) (entries_of pairs rest)) keyed' in
        let parts = and_parts (is_lt (entry_cmp (entry_of_item pairs item).key item.version (entry_of_item pairs x).key x.version)) (list_all (λ later. is_lt (entry_cmp (entry_of_item pairs item).key item.version later.key later.version)) (entries_of pairs rest)) all in
        and_from (nat_lt x.version item.version) (list_all (λ later. nat_lt later.version item.version) rest)
        (test_below x.version item.version (lt_version (entry_of_item pairs item) (entry_of_item pairs x) (here ∙ sym (is_of_key key (entry_of_item pairs x) of.0)) parts.0))
        (go rest of.1 parts.1 here)

pub items_below : (pairs : List KeyValue) (items : List Item) (n : ℕ) → list_all (λ (e : Entry). nat_lt e.version n) (entries_of pairs items) ≡ true → are_below n items ≡ true
items_below pairs [] n all = refl
items_below pairs (item ∷ items) n all =
    let parts = and_parts (nat_lt item.version n) (list_all (λ (e : Entry). nat_lt e.version n) (entries_of pairs items)) all in
    and_from (nat_lt item.version n) (are_below n items) parts.0 (items_below pairs items n parts.1)
