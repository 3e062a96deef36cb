-- Level 0 and its pool after a put.
use Rattle.std.proofs.Common.{◌≡◌, ◌<◌, ◌≤◌, ◌+◌, ◌*◌, ◌-◌, ◌^◌, ℕ, Bool, true, ltb, leb, ◌&&◌, inl, inr, List, [], ◌∷◌, ◌++◌, length, Result, Ok, Err, refl, sym, ap, ◌∙◌, subst, arith}
use Rattle.std.proofs.Math.ListN.{set}
use Rattle.std.specs.List.{insert, list_all}
use Rattle.std.specs.Ordering.{match_ordering}
use Rattle.std.proofs.Common.{Ordering, Less, Equal, Greater}
use Rattle.std.specs.Result.{IfOk, IfErr}
use Rattle.std.proofs.lemmas.Bool.{cases_eq, and_parts, and_from, leb-true}
use Rattle.strat_base.specs.Order.{entry_cmp}
use Rattle.strat_base.specs.Entries.{Entry, is_ascending}
use Rattle.strat_base.specs.Sizes.{is_key}
use Rattle.strat_base.specs.EntryBytes.{fits_fields, is_markable}
use Rattle.strat_arena.specs.ArenaView.{KeyValue, ArenaView}
use Rattle.strat_arena.specs.PoolView.{pool_entry, arena_at, shares_at, SameBeside}
use Rattle.strat_arena.specs.declared.items.Item.{Item}
use Rattle.strat_arena.specs.declared.pool.PoolEntry.{PoolEntry}
use Rattle.def_state.specs.Setting.{set_entry}
use Rattle.def_state.proofs.SettingLemmas.{set_ascending}
use Rattle.strat_arena.specs.Items.{entries_of, have_pairs}
use Rattle.strat_level.specs.Memtable.{ItemList, Memtable, entries_held, ListStands, MemtableStands}
use Rattle.strat_level.specs.Places.{IsPlaceOf, IsPlaceFor}
use Rattle.strat_level.proofs.ItemLemmas.{Makes, entries_kept, slots_kept, set_slots, insert_slots, set_items, insert_items}

-- a pair was pushed into an arena of a pool
pub record Pushed (pool after : List PoolEntry) (arena : ℕ) (pair : KeyValue) : Type 0 where
  pub pairs : (arena_at after arena).pairs ≡ (arena_at pool arena).pairs ++ pair ∷ []
  pub shares : shares_at after arena ≡ shares_at pool arena
  pub beside : SameBeside pool after arena

-- an item was put where its key and version were sought
pub record PutAt (pool : List PoolEntry) (arena : ℕ) (items : List Item) (list new : ItemList) (e : Entry) (item : Item) (place : Result ℕ ℕ) : Type 0 where
  pub found : IfOk place (λ i. IsPlaceOf (entries_of (arena_at pool arena).pairs items) e.key e.version i)
  pub between : IfErr place (λ i. IsPlaceFor (entries_of (arena_at pool arena).pairs items) e.key e.version i)
  pub over : IfOk place (λ i. new.items ≡ set list.items i item)
  pub beside : IfErr place (λ i. new.items ≡ insert list.items i item)
  pub stays : new.arena ≡ list.arena

module _ (pool after : List PoolEntry) (arena : ℕ) (pair : KeyValue) (pushed : Pushed pool after arena pair) where
  -- every list that stood in the pool stands there, and reads as before
  pub others_stand : (list : ItemList) → ListStands pool list → ListStands after list × (entries_held after list ≡ entries_held pool list)
  others_stand list stands =
      elim (cases_eq list.arena arena) [
        | inl here ↦
            let more : (arena_at after list.arena).pairs ≡ (arena_at pool list.arena).pairs ++ pair ∷ [] =
            subst (λ (n : ℕ). (arena_at after n).pairs ≡ (arena_at pool n).pairs ++ pair ∷ []) (sym here) pushed.pairs in
            let reads : entries_held after list ≡ entries_held pool list =
            ap (λ (ps : List KeyValue). entries_of ps list.items) more ∙ entries_kept (arena_at pool list.arena).pairs (pair ∷ []) list.items stands.slots in
            let shares : shares_at after list.arena ≡ shares_at pool list.arena = subst (λ (n : ℕ). shares_at after n ≡ shares_at pool n) (sym here) pushed.shares in
            let some : 0 < shares_at pool list.arena = stands.shared in (
              record {
                shared = omega arith;
                slots = ap (λ (ps : List KeyValue). have_pairs ps list.items) more ∙ slots_kept (arena_at pool list.arena).pairs (pair ∷ []) list.items stands.slots;
                ascending = ap (λ (es : List Entry). is_ascending es) reads ∙ stands.ascending;
                lawful = ap (λ (es : List Entry). list_all fits_fields es) reads ∙ stands.lawful;
              },
              reads,
            )
        | inr apart ↦
            let same : pool_entry after list.arena ≡ pool_entry pool list.arena = pushed.beside list.arena apart in
            let reads : entries_held after list ≡ entries_held pool list = ap (λ (x : PoolEntry). entries_of x.arena.pairs list.items) same in
            let shares : shares_at after list.arena ≡ shares_at pool list.arena = ap (λ (x : PoolEntry). x.shares) same in
            let some : 0 < shares_at pool list.arena = stands.shared in (
              record {
                shared = omega arith;
                slots = ap (λ (x : PoolEntry). have_pairs x.arena.pairs list.items) same ∙ stands.slots;
                ascending = ap (λ (es : List Entry). is_ascending es) reads ∙ stands.ascending;
                lawful = ap (λ (es : List Entry). list_all fits_fields es) reads ∙ stands.lawful;
              },
              reads,
            )
      ]

-- what each entry has, and the one that is set, each has afterwards
set_passes : (p : Entry → Bool) (e : Entry) (entries : List Entry) → p e ≡ true → list_all p entries ≡ true → list_all p (set_entry e entries) ≡ true
set_passes p e [] one all = and_from (p e) true one refl
set_passes p e (d ∷ entries) one all =
    let parts = and_parts (p d) (list_all p entries) all in
    go parts.0 parts.1 (set_passes p e entries one parts.1) (entry_cmp e.key e.version d.key d.version)
  where
    go : p d ≡ true → list_all p entries ≡ true → list_all p (set_entry e entries) ≡ true → (o : Ordering)
        → list_all p (match_ordering o (e ∷ d ∷ entries) (e ∷ entries) (d ∷ set_entry e entries)) ≡ true
    go first all rest Less = and_from (p e) (p d && list_all p entries) one (and_from (p d) (list_all p entries) first all)
    go first all rest Equal = and_from (p e) (list_all p entries) one all
    go first all rest Greater = and_from (p d) (list_all p (set_entry e entries)) first rest

-- what holds of an arena and items that are those of a list holds of the list's own
own : (P : ℕ → List Item → Type 0) (list : ItemList) (arena : ℕ) (items : List Item) → arena ≡ list.arena → items ≡ list.items → P arena items → P list.arena list.items
own P list arena items a i p = subst (λ (xs : List Item). P list.arena xs) i (subst (λ (n : ℕ). P n items) a p)

module _ (pool after : List PoolEntry) (pair : KeyValue) (list new : ItemList) (e : Entry) (item : Item) (stands : ListStands pool list)
    (pushed : Pushed pool after list.arena pair) (makes : Makes (arena_at pool list.arena).pairs pair item e) (fits : fits_fields e ≡ true) where
  put_parts : (place : Result ℕ ℕ) → PutAt pool list.arena list.items list new e item place
      → (entries_held after new ≡ set_entry e (entries_held pool list)) × (have_pairs (arena_at after new.arena).pairs new.items ≡ true)
  put_parts (Ok i) put =
      let pairs : List KeyValue = (arena_at pool list.arena).pairs in (
        (λ j. entries_of (arena_at after (put.stays j)).pairs (put.over j)) ∙ ap (λ (ps : List KeyValue). entries_of ps (set list.items i item)) pushed.pairs
            ∙ set_items pairs pair list.items item e makes stands.slots i stands.ascending put.found,
        (λ j. have_pairs (arena_at after (put.stays j)).pairs (put.over j)) ∙ ap (λ (ps : List KeyValue). have_pairs ps (set list.items i item)) pushed.pairs
            ∙ set_slots pairs pair list.items item e makes stands.slots i,
      )
  put_parts (Err i) put =
      let pairs : List KeyValue = (arena_at pool list.arena).pairs in (
        (λ j. entries_of (arena_at after (put.stays j)).pairs (put.beside j)) ∙ ap (λ (ps : List KeyValue). entries_of ps (insert list.items i item)) pushed.pairs
            ∙ insert_items pairs pair list.items item e makes stands.slots i put.between,
        (λ j. have_pairs (arena_at after (put.stays j)).pairs (put.beside j)) ∙ ap (λ (ps : List KeyValue). have_pairs ps (insert list.items i item)) pushed.pairs
            ∙ insert_slots pairs pair list.items item e makes stands.slots i,
      )

  -- the entries are those with one set, and the list stands
  pub put_stands : (place : Result ℕ ℕ) → PutAt pool list.arena list.items list new e item place → ListStands after new × (entries_held after new ≡ set_entry e (entries_held pool list))
  put_stands place put =
      let parts = put_parts place put in
      let shares : shares_at after new.arena ≡ shares_at pool list.arena = ap (shares_at after) put.stays ∙ pushed.shares in
      let some : 0 < shares_at pool list.arena = stands.shared in (
        record {
          shared = omega arith;
          slots = parts.1;
          ascending = ap (λ (es : List Entry). is_ascending es) parts.0 ∙ set_ascending e (entries_held pool list) stands.ascending;
          lawful = ap (λ (es : List Entry). list_all fits_fields es) parts.0 ∙ set_passes fits_fields e (entries_held pool list) fits stands.lawful;
        },
        parts.0,
      )

pub own_put : (pool : List PoolEntry) (arena : ℕ) (items : List Item) (list new : ItemList) (e : Entry) (item : Item) (place : Result ℕ ℕ) → arena ≡ list.arena → items ≡ list.items
    → PutAt pool arena items list new e item place → PutAt pool list.arena list.items list new e item place
own_put pool arena items list new e item place a i put = own (λ n xs. PutAt pool n xs list new e item place) list arena items a i put

pub own_pushed : (pool after : List PoolEntry) (arena : ℕ) (pair : KeyValue) (list : ItemList) → arena ≡ list.arena → Pushed pool after arena pair → Pushed pool after list.arena pair
own_pushed pool after arena pair list a pushed = subst (λ (n : ℕ). Pushed pool after n pair) a pushed

pub own_makes : (pool : List PoolEntry) (arena : ℕ) (pair : KeyValue) (item : Item) (e : Entry) (list : ItemList) → arena ≡ list.arena → Makes (arena_at pool arena).pairs pair item e → Makes (arena_at pool list.arena).pairs pair item e
own_makes pool arena pair item e list a makes = subst (λ (n : ℕ). Makes (arena_at pool n).pairs pair item e) a makes

-- a pair of at most the largest size leaves room for one fewer
pub room_left : (pool after : List PoolEntry) (n old new spare left size : ℕ) → n ≡ old → n ≡ new → left ≡ spare → 1 ≤ spare → size ≤ 1279
    → spare ≤ (arena_at pool old).spare_pairs → 1279 * spare ≤ (arena_at pool old).spare_bytes
    → (arena_at after n).spare_pairs + 1 ≡ (arena_at pool n).spare_pairs → (arena_at after n).spare_bytes + size ≡ (arena_at pool n).spare_bytes
    → (left - 1 ≤ (arena_at after new).spare_pairs) × (1279 * (left - 1) ≤ (arena_at after new).spare_bytes)
room_left pool after n old new spare left size a b l some small pairs bytes pairs_after bytes_after =
    let p : (arena_at pool n).spare_pairs ≡ (arena_at pool old).spare_pairs = ap (λ (k : ℕ). (arena_at pool k).spare_pairs) a in
    let q : (arena_at pool n).spare_bytes ≡ (arena_at pool old).spare_bytes = ap (λ (k : ℕ). (arena_at pool k).spare_bytes) a in
    let r : (arena_at after n).spare_pairs ≡ (arena_at after new).spare_pairs = ap (λ (k : ℕ). (arena_at after k).spare_pairs) b in
    let s : (arena_at after n).spare_bytes ≡ (arena_at after new).spare_bytes = ap (λ (k : ℕ). (arena_at after k).spare_bytes) b in
    (omega arith, omega arith)

-- key and value of an entry that fits its fields are no larger than the largest pair
pub size_fits : (e : Entry) (size : ℕ) → fits_fields e ≡ true → (is_markable e.value ≡ true → size ≤ 1024) → length e.key + size ≤ 1279
size_fits e size fits value =
    let outer = and_parts (is_key e.key && ltb e.version (2 ^ 32)) (is_markable e.value) fits in
    let inner = and_parts (is_key e.key) (ltb e.version (2 ^ 32)) outer.0 in
    let key = and_parts (leb 1 (length e.key)) (leb (length e.key) 255) inner.0 in
    omega (arith, leb-true (length e.key) 255 key.1, value outer.1)

-- a list stands in a pool in which its arena is as before and has a share
pub stands_while : (old new : List PoolEntry) (list : ItemList) → arena_at new list.arena ≡ arena_at old list.arena → 0 < shares_at new list.arena → ListStands old list
    → ListStands new list × (entries_held new list ≡ entries_held old list)
stands_while old new list same some stands =
    let reads : entries_held new list ≡ entries_held old list = ap (λ (a : ArenaView). entries_of a.pairs list.items) same in (
      record {
        shared = some;
        slots = ap (λ (a : ArenaView). have_pairs a.pairs list.items) same ∙ stands.slots;
        ascending = ap (λ (es : List Entry). is_ascending es) reads ∙ stands.ascending;
        lawful = ap (λ (es : List Entry). list_all fits_fields es) reads ∙ stands.lawful;
      },
      reads,
    )

pub memtable_stands_while : (old new : List PoolEntry) (zero : Memtable) → arena_at new zero.list.arena ≡ arena_at old zero.list.arena → 0 < shares_at new zero.list.arena → MemtableStands old zero → MemtableStands new zero
memtable_stands_while old new zero same some stands =
    let pairs = ap (λ (a : ArenaView). a.spare_pairs) same in
    let bytes = ap (λ (a : ArenaView). a.spare_bytes) same in
    let pairs_room = stands.pairs_room in
    let bytes_room = stands.bytes_room in
    record { list = (stands_while old new zero.list same some stands.list).0; pairs_room = omega arith; bytes_room = omega arith }
