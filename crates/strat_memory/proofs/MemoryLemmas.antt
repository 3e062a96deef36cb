-- What a store has in memory, as its calls change and read it.
use Rattle.std.proofs.Common.{◌≡◌, ◌<◌, ◌≤◌, ℕ, zero, suc, ◌+◌, true, false, eqb, ltb, leb, inl, inr, List, [], ◌∷◌, length, map, take, Some, None, sym, ap, ◌∙◌, get_or, arith, length-append}
use Rattle.std.specs.Ordering.{match_ordering}
use Rattle.std.specs.declared.cmp.Ordering.{Ordering}
use Rattle.std.specs.declared.cmp.Ordering.TheVariants.{Less, Equal, Greater}
use Rattle.std.specs.Prelude.{slice_index_or, fold}
use Rattle.std.specs.List.{list_all, slice_get}
use Rattle.std.proofs.lemmas.Bool.{and_parts, leb-true, ltb-true, lt-ltb}
use Rattle.std.proofs.lemmas.List.{length-map, length-take-le}
use Rattle.std.proofs.lemmas.Option.{slice_get-get_or}
use Rattle.strat_arena.specs.Items.{entry_of_item}
use Rattle.strat_arena.specs.PoolView.{arena_at}
use Rattle.strat_arena.specs.declared.pool.PoolEntry.{PoolEntry}
use Rattle.strat_base.specs.declared.limits.TheConstants.{KEY_MAX, VALUE_MAX}
use Rattle.strat_base.specs.Entries.{Entry, is_of}
use Rattle.strat_base.specs.EntryBytes.{is_markable, fits_fields}
use Rattle.strat_base.specs.PairBuf.{IsPair}
use Rattle.strat_base.specs.Sizes.{is_key}
use Rattle.strat_base.specs.Order.{entry_cmp}
use Rattle.strat_base.specs.Tree.{Parents, is_known, with_child}
use Rattle.strat_base.proofs.EntryLemmas.{bytes_same}
use Rattle.strat_base.proofs.ListFacts.{all_at, all_from, find_some, get_among}
use Rattle.def_bytes.specs.Manifest.{are_older}
use Rattle.strat_level.specs.Memtable.{ItemList, entries_held}
use Rattle.def_meaning.specs.TableOver.{are_known}
use Rattle.def_state.specs.Reading.{live_of}
use Rattle.def_state.specs.Setting.{set_entry, set_all}
use Rattle.def_state.proofs.SettingLemmas.{set_among}
use Rattle.strat_model.specs.declared.replies.Refusal.TheVariants as why
use Rattle.strat_memory.specs.Memory.{Memory, refusal_of_update, refusal_of_clone, refusal_of_drop, has_version}
use Rattle.strat_memory.proofs.ThreeTests.{three_none, four_none}
use Rattle.strat_base.specs.Marks.{has_living_child}

-- a parent is older than its version
pub older_at : (v i d : ℕ) (ps : List ℕ) → are_older v ps ≡ true → i < length ps → get_or ps i d < v + i
older_at v i d [] older within = absurd (omega (arith, within))
older_at v zero d (p ∷ ps) older within =
    let lt = ltb-true p v (and_parts (ltb p v) (are_older (suc v) ps) older).0 in omega (arith, lt)
older_at v (suc i) d (p ∷ ps) older within =
    let lt = older_at (suc v) i d ps (and_parts (ltb p v) (are_older (suc v) ps) older).1 (omega (arith, within)) in omega (arith, lt)

-- and so it is among the versions that were made before
pub parent_made : (i : ℕ) (ps : List ℕ) (tree : Parents) → are_older 1 ps ≡ true → i < length ps → tree ≡ None ∷ map (λ p. Some p) (take i ps) → get_or ps i 0 < length tree
parent_made i ps tree older within is =
    let made : length tree ≡ suc (length (map (λ p. Some p) (take i ps))) = ap (λ (t : Parents). length t) is in
    let lt = older_at 1 i 0 ps older within in
    omega (arith, lt, within, made, length-map (take i ps) (λ p. Some p), length-take-le i ps)

-- there are as many entries as items
pub held_within : (pool : List PoolEntry) (list : ItemList) (i : ℕ) → i < length list.items → i < length (entries_held pool list)
held_within pool list i within = omega (arith, within, length-map list.items (entry_of_item (arena_at pool list.arena).pairs))

pub items_counted : (pool : List PoolEntry) (list : ItemList) → length list.items ≡ length (entries_held pool list)
items_counted pool list = sym (length-map list.items (entry_of_item (arena_at pool list.arena).pairs))

-- the versions of entries that are as before are there
pub known_same : (parents : Parents) (old new : List Entry) → new ≡ old → are_known parents old ≡ true → are_known parents new ≡ true
known_same parents old new same known = ap (are_known parents) same ∙ known

-- what an update and a clone that are not refused find
pub update_taken : (m : Memory) (v : ℕ) → refusal_of_update m v ≡ None → (has_version m v ≡ true) × (has_living_child m.parents m.marks v ≡ false) × (eqb m.changes m.changes_max ≡ false)
update_taken m v none = three_none (has_version m v) (has_living_child m.parents m.marks v) (eqb m.changes m.changes_max) why.UnknownVersion why.Frozen why.ChangeLimit none

pub clone_taken : (m : Memory) (v : ℕ) → refusal_of_clone m v ≡ None
    → (has_version m v ≡ true) × (eqb (length m.parents) m.versions_max ≡ false) × (eqb m.changes m.changes_max ≡ false)
clone_taken m v none = three_none (has_version m v) (eqb (length m.parents) m.versions_max) (eqb m.changes m.changes_max) why.UnknownVersion why.VersionLimit why.ChangeLimit none

-- and a drop
pub drop_taken : (m : Memory) (v : ℕ) → refusal_of_drop m v ≡ None
    → (has_version m v ≡ true) × (eqb v 0 ≡ false) × (has_living_child m.parents m.marks v ≡ false) × (eqb m.changes m.changes_max ≡ false)
drop_taken m v none =
    four_none (has_version m v) (eqb v 0) (has_living_child m.parents m.marks v) (eqb m.changes m.changes_max) why.UnknownVersion why.Root why.Frozen why.ChangeLimit none

-- after an update at a version that is there
pub known_set : (parents : Parents) (e : Entry) (old new : List Entry) → new ≡ set_entry e old → is_known parents e.version ≡ true → are_known parents old ≡ true → are_known parents new ≡ true
known_set parents e old new is here known =
    ap (are_known parents) is
    ∙ all_from (λ d. is_known parents d.version) (set_entry e old) (λ d among. elim (set_among e old d among) [
      | inl same ↦ ap (λ (x : Entry). is_known parents x.version) same ∙ here
      | inr older ↦ all_at (λ x. is_known parents x.version) d old known older
    ])

-- and after a clone
pub known_grown : (parents grown : Parents) (v : ℕ) (entries : List Entry) → are_known parents entries ≡ true → grown ≡ with_child parents v → are_known grown entries ≡ true
known_grown parents grown v entries known is =
    all_from (λ d. is_known grown d.version) entries (λ d among.
    let lt : d.version < length parents = ltb-true d.version (length parents) (all_at (λ x. is_known parents x.version) d entries known among) in
    let more : length grown ≡ length (with_child parents v) = ap (λ (ps : Parents). length ps) is in
    lt-ltb d.version (length grown) (omega (arith, lt, more, length-append parents (Some v ∷ []))))

-- no more entries are left than were set
set_few : (e : Entry) (entries : List Entry) → length (set_entry e entries) ≤ length entries + 1
set_few e [] = omega arith
set_few e (d ∷ entries) = go (set_few e entries) (entry_cmp e.key e.version d.key d.version)
  where
    go : length (set_entry e entries) ≤ length entries + 1 → (o : Ordering) → length (match_ordering o (e ∷ d ∷ entries) (e ∷ entries) (d ∷ set_entry e entries)) ≤ length (d ∷ entries) + 1
    go rest Less = omega arith
    go rest Equal = omega arith
    go rest Greater = omega (arith, rest)

onto_few : (entries updates : List Entry) → length (fold (λ es e. set_entry e es) entries updates) ≤ length entries + length updates
onto_few entries [] = omega arith
onto_few entries (e ∷ updates) = let rest = onto_few (set_entry e entries) updates in omega (arith, rest, set_few e entries)

pub left_few : (updates : List Entry) → length (set_all updates) ≤ length updates
left_few updates = let few = onto_few [] updates in omega (arith, few)

-- the key that was asked for and the value that was found are a pair
pub pair_found : (parents : Parents) (entries : List Entry) (v : ℕ) (key value : List ℕ) (i : ℕ) (d : Entry) → list_all fits_fields entries ≡ true → i < length entries
    → slice_get entries i ≡ live_of parents entries v key → Some value ≡ (slice_index_or entries i d).value → IsPair (key, value)
pair_found parents entries v key value i d lawful within at is =
    let e : Entry = slice_index_or entries i d in
    let got : slice_get entries i ≡ Some e = slice_get-get_or entries i d within in
    let fits : fits_fields e ≡ true = all_at fits_fields e entries lawful (get_among entries i e got) in
    let front = and_parts _ (is_markable e.value) fits in
    let of : is_of key e ≡ true = (find_some (is_of key) _ e (sym at ∙ got)).1 in
    let same : e.key ≡ key = bytes_same e.key key of in
    let key_fits : is_key key ≡ true = ap is_key (sym same) ∙ (and_parts (is_key e.key) _ front.0).0 in
    let sizes = and_parts (leb 1 (length key)) (leb (length key) KEY_MAX) key_fits in
    record {
      key_some = leb-true 1 (length key) sizes.0;
      key = leb-true (length key) KEY_MAX sizes.1;
      value = leb-true (length value) VALUE_MAX (ap is_markable is ∙ front.1);
    }

-- what is said where a place was found
pub said_found : (parents : Parents) (entries : List Entry) (v : ℕ) (key : List ℕ) (i : ℕ) (d : Entry) → i < length entries
    → slice_get entries i ≡ live_of parents entries v key → live_of parents entries v key ≡ Some (slice_index_or entries i d)
said_found parents entries v key i d within at = sym at ∙ slice_get-get_or entries i d within
