-- What an opening reads has what it tested.
use Rattle.std.proofs.Common.{◌≡◌, ◌≤◌, ◌+◌, ◌-◌, ◌*◌, ◌^◌, ℕ, zero, suc, Bool, true, false, cond, eqb, leb, ltb, get_or, not, ◌&&◌, inl, inr, List, [], ◌∷◌, ◌++◌, length, take, drop, map, Option, Some, None, Ok, Err, refl, sym, ap, ◌∙◌, subst, arith, length-append}
use Rattle.std.specs.Prelude.{option_map, option_and_then, flat_map, filter_map, fold}
use Rattle.std.specs.Option.{option_map_or}
use Rattle.std.specs.List.{list_all, AllByRecursion}
use Rattle.std.proofs.lemmas.Bool.{and_parts, and_from, leb-true, ltb-true}
use Rattle.std.proofs.lemmas.Bool.Decides.{nat_tests}
use Rattle.std.proofs.lemmas.Option.{cond_some}
use Rattle.std.proofs.lemmas.List.{map-append}
use Rattle.std.proofs.Math.ListN.{length-map}
use Rattle.strat_base.specs.declared.limits.TheConstants.{BLOCK}
use Rattle.strat_base.specs.Numbers.{number}
use Rattle.strat_base.specs.Sizes.{is_key, is_value}
use Rattle.strat_base.specs.Fields.{key_field, key_in, value_in}
use Rattle.strat_base.specs.Tree.{Parents}
use Rattle.strat_base.specs.Change.{Change, Put, Delete, Clone, DropVersion, change_bytes, change_of_kind, change_in}
use Rattle.strat_base.specs.Entries.{Entry, is_ascending}
use Rattle.strat_base.specs.EntryBytes.{fits_fields, is_markable}
use Rattle.strat_base.proofs.FieldLemmas.{key_in-some}
use Rattle.strat_base.proofs.ListFacts.{Among, all_at, all_from, among_split}
use Rattle.def_crash.specs.Image.{Image, window}
use Rattle.def_bytes.specs.Block.{block_front, block_in}
use Rattle.def_bytes.specs.Chained.{Chained, manifest_at}
use Rattle.def_bytes.specs.Damage.{Read, passed_or, put_first}
use Rattle.def_bytes.specs.Layout.{region_first, region_at, region_size, other_region, is_open}
use Rattle.def_bytes.specs.Manifest.{Manifest, versions_in, is_rising, are_apart, is_counted, is_lawful_extent, is_lawful_array, is_lawful_level, is_lawful_manifest, first_version}
use Rattle.strat_base.specs.declared.descriptors.ArrayDesc.{ArrayDesc}
use Rattle.strat_base.specs.declared.descriptors.LevelDesc.{LevelDesc}
use Rattle.def_bytes.specs.Records.{Logged, block_of, record_then, records, first_records, records_behind, journal_in_two}
use Rattle.def_bytes.specs.SuperBlock.{Super, AreLimits, in_range, chosen_in, verdict}
use Rattle.def_bytes.proofs.BlockLemmas.{block_in-some}
use Rattle.def_bytes.proofs.DamageLemmas.{and_then_ok, passed_ok, put_first_ok}
use Rattle.def_bytes.proofs.ManifestLemmas.{pass_at}
use Rattle.def_bytes.proofs.TwoRegionsLemmas.{journal_cut}
use Rattle.def_state.specs.Level.{TaggedArray, Level, is_distinct}
use Rattle.def_state.specs.State.{State, tree_after, update_of, marks_after}
use Rattle.def_state.specs.Sound.{is_accepted, are_accepted, is_there, takes_updates}
use Rattle.def_recovery.specs.Head.{descriptors}
use Rattle.def_bytes.specs.Arrays.{blocks_of, entries_on}
use Rattle.def_bytes.specs.Arrays.{all_some}
use Rattle.def_recovery.specs.Opened.{array_on, level_on, parents_in}
use Rattle.def_recovery.specs.Opening.{has_own_blocks, has_own_ids, has_own_versions, is_filled, has_few_publications, belongs, recover_manifest, accepted_in, recover_journal, state_of, reads_as}
use Rattle.def_recovery.specs.Passed.{is_sized, IsTestedArray, IsTestedLevel, PassesOpening}
use Rattle.def_recovery.proofs.OpeningLemmas.{map_some, next_some, each_some, manifest_tests, level_tests, lawful_found, journal_tests, state_found}
use Rattle.strat_base.specs.Marks.{Marks}

-- an entry that is read from a block has lawful sizes
sized_fits : (e : Entry) → fits_fields e ≡ true → is_sized e ≡ true
sized_fits e fits =
    let parts = and_parts (is_key e.key && ltb e.version (2 ^ 32)) (is_markable e.value) fits in
    let front = and_parts (is_key e.key) (ltb e.version (2 ^ 32)) parts.0 in
    and_from (is_key e.key) (is_markable e.value) front.0 parts.1

block_sized : (bytes : List ℕ) (entries : List Entry) → block_in bytes ≡ Some entries → (e : Entry) → Among e entries → is_sized e ≡ true
block_sized bytes entries is e among =
    let block = block_in-some bytes entries is in
    let all' = and_parts (ltb 0 (length entries) && list_all fits_fields entries && is_ascending entries) (leb (length (block_front entries)) BLOCK) block.fits in
    let most = and_parts (ltb 0 (length entries) && list_all fits_fields entries) (is_ascending entries) all'.0 in
    sized_fits e (all_at fits_fields e entries (and_parts (ltb 0 (length entries)) (list_all fits_fields entries) most.0).1 among)

entries_sized : (c : Image) (blocks : List ℕ) (entries : List Entry) → entries_on c blocks ≡ Some entries → list_all is_sized entries ≡ true
unfolding entries_on
entries_sized c [] entries e = let none : [] ≡ entries = cc in ap (list_all is_sized) (sym none)
entries_sized c (b ∷ blocks) entries e =
    let first = next_some (λ xs. option_map (λ rest. xs ++ rest) (entries_on c blocks)) (block_in (window c (BLOCK * b) BLOCK)) entries e in
    let rest = map_some (λ rest. first.0 ++ rest) (entries_on c blocks) entries first.2 in
    let later : list_all is_sized rest.0 ≡ true = entries_sized c blocks rest.0 rest.1 in
    let P : List Entry → Type 0 = λ xs. list_all is_sized xs ≡ true in
    subst P rest.2
    (all_from is_sized (first.0 ++ rest.0) (λ x among. elim (among_split first.0 rest.0 x among) [
      | inl here ↦ block_sized (window c (BLOCK * b) BLOCK) first.0 first.1 x here
      | inr there ↦ all_at is_sized x rest.0 later there
    ]))

-- what is made of each item has what the item has
pub kept_in_order : {A B X : Type 0} (f : A → Option B) (g : A → X) (h : B → X) → ((a : A) (b : B) → f a ≡ Some b → h b ≡ g a)
    → (ds : List A) (bs : List B) → all_some f ds ≡ Some bs → map h bs ≡ map g ds
kept_in_order f g h same [] bs e = let none : [] ≡ bs = cc in ap (map h) (sym none)
kept_in_order f g h same (a ∷ ds) bs e =
    let parts = each_some f a ds bs e in
    ap (map h) (sym parts.4) ∙ (λ i. same a parts.0 parts.2 i ∷ kept_in_order f g h same ds parts.1 parts.3 i)

abbrev pub array_tests : ℕ → ArrayDesc → List Bool
array_tests next a =
    leb 1 a.id ∷ ltb a.id next ∷ leb 1 a.entries ∷ ltb a.entries (2 ^ 32) ∷ leb a.leads a.entries ∷ leb a.least a.entries
    ∷ is_counted a.extents ∷ list_all is_lawful_extent a.extents ∷ are_apart a.extents
    ∷ is_counted a.versions ∷ list_all (λ v. ltb v (2 ^ 32)) a.versions ∷ is_rising a.versions ∷ []

abbrev array_with : ArrayDesc → List Entry → TaggedArray
array_with a entries = record { id = a.id; tag = a.versions; content = entries; entries = a.entries; leads = a.leads; least = a.least }

abbrev array_id : TaggedArray → ℕ
array_id a = a.id

abbrev first_tagged : TaggedArray → ℕ
first_tagged a = get_or a.tag 0 0

module _ (c : Image) where
  id_kept : (a : ArrayDesc) (x : TaggedArray) → array_on c a ≡ Some x → array_id x ≡ a.id
  id_kept a x on = ap array_id (sym (map_some (array_with a) (entries_on c (blocks_of a.extents)) x on).2)

  ids_kept : (ds : List LevelDesc) (levels : List Level) → all_some (level_on c) ds ≡ Some levels
      → map array_id (flat_map (λ (l : Level). l.arrays) levels) ≡ map (λ (a : ArrayDesc). a.id) (flat_map (λ (d : LevelDesc). d.arrays) ds)
  ids_kept [] levels e = let none : [] ≡ levels = cc in ap (λ (x : List Level). map array_id (flat_map (λ (l : Level). l.arrays) x)) (sym none)
  ids_kept (d ∷ ds) levels e =
      let parts = each_some (level_on c) d ds levels e in
      let made = map_some (λ arrays. record { number = d.number; horizon = d.horizon; arrays = arrays }) (all_some (array_on c) d.arrays) parts.0 parts.2 in
      let here : map array_id parts.0.arrays ≡ map (λ (a : ArrayDesc). a.id) d.arrays =
      ap (λ (l : Level). map array_id l.arrays) (sym made.2) ∙ kept_in_order (array_on c) (λ a. a.id) array_id id_kept d.arrays made.0 made.1 in
      ap (λ (x : List Level). map array_id (flat_map (λ (l : Level). l.arrays) x)) (sym parts.4)
      ∙ map-append array_id parts.0.arrays (flat_map (λ (l : Level). l.arrays) parts.1)
      ∙ (λ i. here i ++ ids_kept ds parts.1 parts.3 i)
      ∙ sym (map-append (λ (a : ArrayDesc). a.id) d.arrays (flat_map (λ (x : LevelDesc). x.arrays) ds))

  module _ (versions next : ℕ) where
    array_tested : (a : ArrayDesc) (x : TaggedArray) → array_on c a ≡ Some x → is_lawful_array next a ≡ true → IsTestedArray next x
    array_tested a x on lawful =
        let made = map_some (array_with a) (entries_on c (blocks_of a.extents)) x on in
        let some = and_parts (leb 1 (length a.versions)) (ltb (length a.versions) (2 ^ 32)) (pass_at (array_tests next a) 9 lawful) in
        subst (IsTestedArray next) made.2 (record {
          numbered = leb-true 1 a.id (pass_at (array_tests next a) 0 lawful);
          below_next = ltb-true a.id next (pass_at (array_tests next a) 1 lawful);
          tagged = leb-true 1 (length a.versions) some.0;
          rising = pass_at (array_tests next a) 11 lawful;
          counted = leb-true 1 a.entries (pass_at (array_tests next a) 2 lawful);
          sized = entries_sized c (blocks_of a.extents) made.0 made.1;
        })

    arrays_tested : (ds : List ArrayDesc) (xs : List TaggedArray) → all_some (array_on c) ds ≡ Some xs → list_all (is_lawful_array next) ds ≡ true → AllByRecursion (IsTestedArray next) xs
    arrays_tested [] xs e lawful = let none : [] ≡ xs = cc in subst (AllByRecursion (IsTestedArray next)) none tt
    arrays_tested (a ∷ ds) xs e lawful =
        let parts = each_some (array_on c) a ds xs e in
        let laws = and_parts (is_lawful_array next a) (list_all (is_lawful_array next) ds) lawful in
        subst (AllByRecursion (IsTestedArray next)) parts.4 (array_tested a parts.0 parts.2 laws.0, arrays_tested ds parts.1 parts.3 laws.1)

    level_tested : (d : LevelDesc) (level : Level) → level_on c d ≡ Some level → is_lawful_level versions next d ≡ true → IsTestedLevel next level
    level_tested d level on lawful =
        let made = map_some (λ arrays. record { number = d.number; horizon = d.horizon; arrays = arrays }) (all_some (array_on c) d.arrays) level on in
        let first : map first_tagged made.0 ≡ map first_version d.arrays =
        kept_in_order (array_on c) first_version first_tagged (λ a x is. ap first_tagged (sym (map_some (array_with a) (entries_on c (blocks_of a.extents)) x is).2)) d.arrays made.0 made.1 in
        subst (IsTestedLevel next) made.2 (record {
          aged = leb-true 1 d.horizon (pass_at (level_tests versions next d) 2 lawful);
          each = arrays_tested d.arrays made.0 made.1 (pass_at (level_tests versions next d) 5 lawful);
          ordered = ap is_rising first ∙ pass_at (level_tests versions next d) 6 lawful;
        })

    levels_tested : (ds : List LevelDesc) (levels : List Level) → all_some (level_on c) ds ≡ Some levels → list_all (is_lawful_level versions next) ds ≡ true → AllByRecursion (IsTestedLevel next) levels
    levels_tested [] levels e lawful = let none : [] ≡ levels = cc in subst (AllByRecursion (IsTestedLevel next)) none tt
    levels_tested (d ∷ ds) levels e lawful =
        let parts = each_some (level_on c) d ds levels e in
        let laws = and_parts (is_lawful_level versions next d) (list_all (is_lawful_level versions next) ds) lawful in
        subst (AllByRecursion (IsTestedLevel next)) parts.4 (level_tested d parts.0 parts.2 laws.0, levels_tested ds parts.1 parts.3 laws.1)

-- counts that have not come to their limits may rise by one
apart : (n m : ℕ) → not (eqb n m) ≡ true → n ≤ m → suc n ≤ m
apart n m differ le = grind (arith, nat_tests)

module _ (changes_max versions_max : ℕ) where
  one_within : (parents : Parents) (marks : Marks) (n : ℕ) (c : Change) → is_accepted changes_max versions_max parents marks n c ≡ true → n ≤ changes_max → length parents ≤ versions_max
      → (suc n ≤ changes_max) × (length (tree_after parents c) ≤ versions_max)
  one_within parents marks n (Put v key value) is le few =
      let parts = and_parts (takes_updates parents marks v) (not (eqb n changes_max)) is in
      (apart n changes_max parts.1 le, few)
  one_within parents marks n (Delete v key) is le few =
      let parts = and_parts (takes_updates parents marks v) (not (eqb n changes_max)) is in
      (apart n changes_max parts.1 le, few)
  one_within parents marks n (Clone v) is le few =
      let parts = and_parts (is_there parents marks v && not (eqb (length parents) versions_max)) (not (eqb n changes_max)) is in
      let more = apart (length parents) versions_max (and_parts (is_there parents marks v) (not (eqb (length parents) versions_max)) parts.0).1 few in
      (apart n changes_max parts.1 le, omega (arith, more, length-append parents (Some v ∷ [])))
  one_within parents marks n (DropVersion v) is le few =
      let parts = and_parts (takes_updates parents marks v && not (eqb v 0)) (not (eqb n changes_max)) is in
      (apart n changes_max parts.1 le, few)

  within : (parents : Parents) (marks : Marks) (n : ℕ) (journal : List Change) → are_accepted changes_max versions_max parents marks n journal ≡ true → n ≤ changes_max → length parents ≤ versions_max
      → (n + length journal ≤ changes_max) × (length (fold tree_after parents journal) ≤ versions_max)
  within parents marks n [] all' le few = (omega (arith, le), few)
  within parents marks n (c ∷ journal) all' le few =
      let parts = and_parts (is_accepted changes_max versions_max parents marks n c) (are_accepted changes_max versions_max (tree_after parents c) (marks_after marks c) (suc n) journal) all' in
      let more = one_within parents marks n c parts.0 le few in
      let rest = within (tree_after parents c) (marks_after marks c) (suc n) journal parts.1 more.0 more.1 in
      (omega (arith, rest.0), rest.1)

-- what a change writes has lawful sizes
abbrev is_sized_change : Change → Bool
is_sized_change c = option_map_or is_sized (update_of c) true

value_sized : (bytes value : List ℕ) → value_in bytes ≡ Some value → is_value value ≡ true
value_sized bytes value e =
    let n : ℕ = number 2 bytes in
    let here : List ℕ = take n (drop 2 bytes) in
    let found = cond_some (leb (2 + n) (length bytes) && is_value here) here value e in
    subst (λ (x : List ℕ). is_value x ≡ true) found.1 (and_parts (leb (2 + n) (length bytes)) (is_value here) found.0).1

kind_sized : (kind v : ℕ) (fields : List ℕ) (c : Change) → change_of_kind kind v fields ≡ Some c → is_sized_change c ≡ true
kind_sized kind v fields c e = by_kind (eqb kind 1) (eqb kind 2) (eqb kind 3) (eqb kind 4) e
  where
    P : Change → Type 0
    P x = is_sized_change x ≡ true

    put : List ℕ → Option Change
    put key = option_map (λ value. Put v key value) (value_in (drop (length (key_field key)) fields))

    by_kind : (one two three four : Bool) → cond one (option_and_then put (key_in fields)) (cond two (option_map (λ key. Delete v key) (key_in fields)) (cond three (Some (Clone v)) (cond four (Some (DropVersion v)) None))) ≡ Some c → P c
    by_kind true two three four e =
        let key = next_some put (key_in fields) c e in
        let value = map_some (λ value. Put v key.0 value) (value_in (drop (length (key_field key.0)) fields)) c key.2 in
        subst P value.2 (and_from (is_key key.0) (is_value value.0) (key_in-some fields key.0 key.1).0 (value_sized (drop (length (key_field key.0)) fields) value.0 value.1))
    by_kind false true three four e =
        let key = map_some (λ key. Delete v key) (key_in fields) c e in
        subst P key.2 (and_from (is_key key.0) true (key_in-some fields key.0 key.1).0 refl)
    by_kind false false true four e = let same : Clone v ≡ c = cc in subst P same refl
    by_kind false false false true e = let same : DropVersion v ≡ c = cc in subst P same refl
    by_kind false false false false e = absurd (cc)

change_sized : (bytes : List ℕ) (c : Change) → change_in bytes ≡ Some c → is_sized_change c ≡ true
unfolding change_in
change_sized [] c e = absurd (cc)
change_sized (kind ∷ bytes) c e = by_length (leb 4 (length bytes)) e
  where
    by_length : (b : Bool) → cond b (change_of_kind kind (number 4 bytes) (drop 4 bytes)) None ≡ Some c → is_sized_change c ≡ true
    by_length true e = kind_sized kind (number 4 bytes) (drop 4 bytes) c e
    by_length false e = absurd (cc)

abbrev is_sized_record : Logged → Bool
is_sized_record l = is_sized_change l.change

records_sized : (c : Image) (end n at : ℕ) (logged : List Logged) → records c end n at ≡ Ok logged → list_all is_sized_record logged ≡ true
unfolding records
records_sized c end zero at logged e = let none : [] ≡ logged = cc in ap (list_all is_sized_record) (sym none)
records_sized c end (suc n) at logged e =
    by_gate (is_open (c at)) (change_in (window c (at + 1) (end - (at + 1)))) refl (λ next. records_sized c end n next) e
  where
    P : List Logged → Type 0
    P l = list_all is_sized_record l ≡ true

    by_gate : (b : Bool) (o : Option Change) → change_in (window c (at + 1) (end - (at + 1))) ≡ o → ((next : ℕ) (l : List Logged) → records c end n next ≡ Ok l → P l)
        → cond b (record_then at (λ next. records c end n next) o) (Ok []) ≡ Ok logged → P logged
    by_gate false o is rest e = let none : [] ≡ logged = cc in subst P none refl
    by_gate true None is rest e = absurd (cc)
    by_gate true (Some change) is rest e =
        let next : ℕ = at + 1 + length (change_bytes change) in
        let parts = put_first_ok (record { change = change; block = block_of at }) (records c end n next) logged e in
        subst P parts.2 (and_from (is_sized_change change) (list_all is_sized_record parts.0) (change_sized (window c (at + 1) (end - (at + 1))) change is) (rest next parts.0 parts.1))

accepted_sized : (changes_max versions_max : ℕ) (parents : Parents) (marks : Marks) (changes : ℕ) (logged : List Logged) (journal : List Change)
    → accepted_in changes_max versions_max parents marks changes logged ≡ Ok journal → list_all is_sized_record logged ≡ true → list_all is_sized_change journal ≡ true
accepted_sized changes_max versions_max parents marks changes [] journal e all' = let none : [] ≡ journal = cc in ap (list_all is_sized_change) (sym none)
accepted_sized changes_max versions_max parents marks changes (l ∷ logged) journal e all' =
    by_test (is_accepted changes_max versions_max parents marks changes l.change)
    (accepted_sized changes_max versions_max (tree_after parents l.change) (marks_after marks l.change) (suc changes) logged) e
  where
    later : Read (List Change)
    later = accepted_in changes_max versions_max (tree_after parents l.change) (marks_after marks l.change) (suc changes) logged

    P : List Change → Type 0
    P j = list_all is_sized_change j ≡ true

    by_test : (b : Bool) → ((j : List Change) → later ≡ Ok j → list_all is_sized_record logged ≡ true → P j)
        → cond b (put_first l.change later) (Err l.block) ≡ Ok journal → P journal
    by_test true rest e =
        let parts = put_first_ok l.change later journal e in
        let sizes = and_parts (is_sized_record l) (list_all is_sized_record logged) all' in
        subst P parts.2 (and_from (is_sized_change l.change) (list_all is_sized_change parts.0) sizes.0 (rest parts.0 parts.1 sizes.1))
    by_test false rest e = absurd (cc)

updates_sized : (journal : List Change) → list_all is_sized_change journal ≡ true → list_all is_sized (filter_map update_of journal) ≡ true
updates_sized [] all' = refl
updates_sized (Put v key value ∷ journal) all' =
    let parts = and_parts (is_sized_change (Put v key value)) (list_all is_sized_change journal) all' in
    and_from (is_sized_change (Put v key value)) (list_all is_sized (filter_map update_of journal)) parts.0 (updates_sized journal parts.1)
updates_sized (Delete v key ∷ journal) all' =
    let parts = and_parts (is_sized_change (Delete v key)) (list_all is_sized_change journal) all' in
    and_from (is_sized_change (Delete v key)) (list_all is_sized (filter_map update_of journal)) parts.0 (updates_sized journal parts.1)
updates_sized (Clone v ∷ journal) all' = updates_sized journal (and_parts true (list_all is_sized_change journal) all').1
updates_sized (DropVersion v ∷ journal) all' = updates_sized journal (and_parts true (list_all is_sized_change journal) all').1

region_sized : (c : Image) (mem region n : ℕ) (logged : List Logged) → first_records c mem region n ≡ Ok logged → list_all is_sized_record logged ≡ true
region_sized c mem region n logged e = records_sized c (region_at mem region + region_size mem) n (region_at mem region) logged e

all_joined : (xs ys : List Logged) → list_all is_sized_record xs ≡ true → list_all is_sized_record ys ≡ true → list_all is_sized_record (xs ++ ys) ≡ true
all_joined [] ys one two = two
all_joined (x ∷ xs) ys one two =
    let parts = and_parts (is_sized_record x) (list_all is_sized_record xs) one in
    and_from (is_sized_record x) (list_all is_sized_record (xs ++ ys)) parts.0 (all_joined xs ys parts.1 two)

-- the records of both regions have sizes as they may
two_sized : (c : Image) (mem active : ℕ) (logged : List Logged) → journal_in_two c mem active ≡ Ok logged → list_all is_sized_record logged ≡ true
two_sized c mem active logged e = elim (journal_cut c mem active (records_behind c mem (other_region active)) logged e) [
  | inl short ↦ region_sized c mem active mem logged short.0
  | inr both ↦
      let behind = and_then_ok (first_records c mem (other_region active) (mem - 1)) (λ l. passed_or (region_first mem (other_region active)) (ltb (length l) (mem - 1)) l) both.1 both.4 in
      let passed = passed_ok (region_first mem (other_region active)) (ltb (length behind.0) (mem - 1)) behind.0 both.1 behind.2 in
      let later : list_all is_sized_record both.1 ≡ true = subst (λ (x : List Logged). list_all is_sized_record x ≡ true) passed.1 (region_sized c mem (other_region active) (mem - 1) behind.0 behind.1) in
      subst (λ (x : List Logged). list_all is_sized_record x ≡ true) both.5 (all_joined both.0 both.1 (region_sized c mem active mem both.0 both.2) later)
]

journal_sized : (c : Image) (sb : Super) (m : Manifest) (journal : List Change) → recover_journal c sb m ≡ Ok journal → list_all is_sized (filter_map update_of journal) ≡ true
journal_sized c sb m journal e =
    let read = and_then_ok (journal_in_two c sb.mem sb.region) (accepted_in sb.changes_max sb.versions_max (parents_in m) m.marks m.changes) journal e in
    let sized = two_sized c sb.mem sb.region read.0 read.1 in
    updates_sized journal (accepted_sized sb.changes_max sb.versions_max (parents_in m) m.marks m.changes read.0 journal read.2 sized)

-- the limits in a superblock that was chosen
limits_from : (s : Super) → in_range s ≡ true → AreLimits s.mem s.changes_max s.versions_max
limits_from s e =
    let v_most = and_parts _ _ e in
    let v_least = and_parts _ _ v_most.0 in
    let c_most = and_parts _ _ v_least.0 in
    let c_least = and_parts _ _ c_most.0 in
    let region = and_parts _ _ c_least.0 in
    let long = and_parts _ _ region.0 in
    let last = and_parts _ _ long.0 in
    let first = and_parts _ _ last.0 in
    let m_most = and_parts _ _ first.0 in
    let m_least = and_parts _ _ m_most.0 in
    record {
      mem_least = leb-true 4 s.mem m_least.1;
      mem_most = leb-true s.mem 4096 m_most.1;
      changes_least = leb-true 1 s.changes_max c_least.1;
      changes_most = leb-true s.changes_max 16777216 c_most.1;
      versions_least = leb-true 1 s.versions_max v_least.1;
      versions_most = leb-true s.versions_max 16384 v_most.1;
    }

limits_of : (o : Option (ℕ × Super)) (slot : ℕ × Super) → verdict o ≡ Ok (Some slot) → AreLimits slot.1.mem slot.1.changes_max slot.1.versions_max
limits_of None slot e = absurd (cc)
limits_of (Some x) slot e = by_range (in_range x.1) refl e
  where
    by_range : (b : Bool) → in_range x.1 ≡ b → cond b (Ok (Some (x.0, x.1))) (Err x.0) ≡ Ok (Some slot) → AreLimits slot.1.mem slot.1.changes_max slot.1.versions_max
    by_range true is e =
        let same : (x.0, x.1) ≡ slot = cc in
        subst (λ (y : ℕ × Super). AreLimits y.1.mem y.1.changes_max y.1.versions_max) same (limits_from x.1 is)
    by_range false is e = absurd (cc)

abbrev pub belonging_tests : Super → Chained → List Bool
belonging_tests sb found =
    has_own_blocks sb found.blocks found.manifest ∷ has_own_ids found.manifest ∷ list_all has_own_versions found.manifest.levels
    ∷ leb (versions_in found.manifest) sb.versions_max ∷ leb found.manifest.changes sb.changes_max
    ∷ leb (fold (λ n a. n + a.leads) 0 (descriptors found.manifest)) found.manifest.updates
    ∷ list_all is_filled (descriptors found.manifest) ∷ has_few_publications sb found.manifest ∷ []

-- what an opening tests of a manifest with its superblock
record Belongs (sb : Super) (m : Manifest) : Type 0 where
  ids : is_distinct (map (λ (a : ArrayDesc). a.id) (descriptors m)) ≡ true
  versions : versions_in m ≤ sb.versions_max
  changes : m.changes ≤ sb.changes_max
  next : m.next_array ≤ 16384 * m.changes + 1
  written : m.written ≤ 33554432 * m.changes
  compacted : m.compacted ≤ 33554432 * m.changes

belongs_from : (sb : Super) (x : Chained) → belongs sb x ≡ true → Belongs sb x.manifest
belongs_from sb x e =
    let m : Manifest = x.manifest in
    let tests = and_parts (leb sb.generation (m.changes + 1) && leb m.next_array (16384 * m.changes + 1) && leb m.written (33554432 * m.changes)) (leb m.compacted (33554432 * m.changes)) (pass_at (belonging_tests sb x) 7 e) in
    let few = and_parts (leb sb.generation (m.changes + 1) && leb m.next_array (16384 * m.changes + 1)) (leb m.written (33554432 * m.changes)) tests.0 in
    record {
      ids = pass_at (belonging_tests sb x) 1 e;
      versions = leb-true (versions_in m) sb.versions_max (pass_at (belonging_tests sb x) 3 e);
      changes = leb-true m.changes sb.changes_max (pass_at (belonging_tests sb x) 4 e);
      next = leb-true m.next_array (16384 * m.changes + 1) (and_parts (leb sb.generation (m.changes + 1)) (leb m.next_array (16384 * m.changes + 1)) few.0).1;
      written = leb-true m.written (33554432 * m.changes) few.1;
      compacted = leb-true m.compacted (33554432 * m.changes) tests.1;
    }

belongs_read : (c : Image) (sb : Super) (m : Manifest) → recover_manifest c sb ≡ Ok m → Belongs sb m
belongs_read c sb m e =
    let test : Chained → Read Manifest = λ x. passed_or sb.manifest (belongs sb x) x.manifest in
    let chained = and_then_ok (manifest_at sb.format c sb.manifest sb.length) test m e in
    let here = passed_ok sb.manifest (belongs sb chained.0) chained.0.manifest m chained.2 in
    subst (Belongs sb) here.1 (belongs_from sb chained.0 here.0)

module _ (c : Image) (sb : Super) (m : Manifest) (journal : List Change) (found : recover_manifest c sb ≡ Ok m) (changes : recover_journal c sb m ≡ Ok journal) (limits : AreLimits sb.mem sb.changes_max sb.versions_max) where
  passes : (s : State) → state_of c (record { sb = sb; manifest = m; journal = journal }) ≡ Some s → PassesOpening s
  passes s e =
      let make : List Level → State = λ levels. record {
        mem = sb.mem;
        changes_max = sb.changes_max;
        versions_max = sb.versions_max;
        parents = parents_in m;
        marks = m.marks;
        changes = m.changes;
        updates = m.updates;
        written = m.written;
        compacted = m.compacted;
        next_array = m.next_array;
        levels = levels;
        journal = journal;
      } in
      let made = map_some make (all_some (level_on c) m.levels) s e in
      let lawful : is_lawful_manifest sb.format m ≡ true = lawful_found c sb m journal found changes in
      let fits = belongs_read c sb m found in
      let tree : length (parents_in m) ≤ sb.versions_max = omega (arith, fits.versions, length-map m.parents (λ p. Some p)) in
      let counts = within sb.changes_max sb.versions_max (parents_in m) m.marks m.changes journal (journal_tests c sb m journal found changes).0 fits.changes tree in
      subst PassesOpening made.2 (record {
        limits = limits;
        few_updates = leb-true m.updates m.changes (pass_at (manifest_tests sb.format m) 1 lawful);
        few_changes = counts.0;
        few_versions = counts.1;
        next_least = leb-true 1 m.next_array (pass_at (manifest_tests sb.format m) 3 lawful);
        next_most = fits.next;
        written_most = fits.written;
        compacted_most = fits.compacted;
        distinct = ap is_distinct (ids_kept c m.levels made.0 made.1) ∙ fits.ids;
        tested = levels_tested c (versions_in m) m.next_array m.levels made.0 made.1 (pass_at (manifest_tests sb.format m) 8 lawful);
        sized = journal_sized c sb m journal changes;
      })

pub read_passes : (c : Image) (s : State) → reads_as c ≡ Some s → PassesOpening s
read_passes c s e =
    let f = state_found c s e in
    passes c f.slot.1 f.manifest f.journal f.chained f.logged (limits_of (chosen_in c) f.slot f.newest) s f.state
