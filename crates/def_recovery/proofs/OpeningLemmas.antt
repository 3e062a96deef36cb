-- What an opening reads has what an opening tests.
use Rattle.std.proofs.Common.{◌≡◌, ◌≤◌, ◌<◌, ◌-◌, ◌^◌, ℕ, suc, Bool, true, false, cond, eqb, leb, ltb, ◌&&◌, List, [], ◌∷◌, length, take, drop, map, Option, Some, None, Ok, Err, refl, sym, ap, ◌∙◌, subst, arith}
use Rattle.std.specs.Prelude.{option_map, option_and_then}
use Rattle.std.specs.List.{list_all}
use Rattle.std.proofs.lemmas.Bool.{and_parts, leb-true, le-leb, ltb-true, lt-ltb}
use Rattle.strat_base.specs.declared.limits.TheConstants.{LEVELS, VERSIONS_MAX}
use Rattle.def_crash.specs.Image.{Image}
use Rattle.strat_base.specs.Tree.{Parents}
use Rattle.strat_base.specs.Change.{Change}
use Rattle.def_state.specs.Level.{Level}
use Rattle.def_bytes.specs.Manifest.{Manifest, is_rising, are_older, is_counted, first_version, versions_in, is_lawful_array, is_lawful_level, is_lawful_manifest, manifest_in, has_fields}
use Rattle.strat_base.specs.declared.descriptors.LevelDesc.{LevelDesc}
use Rattle.def_bytes.specs.Arrays.{all_some}
use Rattle.def_recovery.specs.Opened.{array_on, level_on, parents_in}
use Rattle.def_state.specs.State.{State, tree_after, marks_after}
use Rattle.def_state.specs.Sound.{is_tree, is_tree_from, is_numbered_from, is_accepted, are_accepted, journal_max, IsWellFormed}
use Rattle.def_bytes.specs.SuperBlock.{Super, newest_in}
use Rattle.def_bytes.specs.Damage.{Read, and_then, passed_or, put_first}
use Rattle.def_bytes.specs.Chained.{Chained, chain_from, chained_bytes, manifest_filled, manifest_in_chain, manifest_at}
use Rattle.def_bytes.specs.Records.{Logged, journal_in_two}
use Rattle.def_bytes.specs.Chain.{chain_length}
use Rattle.def_bytes.proofs.DamageLemmas.{and_then_ok, passed_ok, found_ok, put_first_ok}
use Rattle.def_bytes.proofs.ManifestLemmas.{pass_at, manifest_in-some}
use Rattle.def_bytes.proofs.TwoRegionsLemmas.{length-two}
use Rattle.def_recovery.specs.Head.{Head}
use Rattle.def_recovery.specs.Opening.{belongs, recover_manifest, accepted_in, recover_journal, recover_head, recover_slot, recover, opened, state_of, reads_as}
use Rattle.strat_base.specs.Marks.{Marks, are_pruned}

pub map_some : {A B : Type 0} (f : A → B) (o : Option A) (y : B) → option_map f o ≡ Some y → (x : A) × (o ≡ Some x) × (f x ≡ y)
map_some f None y e = absurd (cc)
map_some f (Some x) y e = (x, refl, cc)

pub next_some : {A B : Type 0} (f : A → Option B) (o : Option A) (y : B) → option_and_then f o ≡ Some y → (x : A) × (o ≡ Some x) × (f x ≡ Some y)
next_some f None y e = absurd (cc)
next_some f (Some x) y e = (x, refl, e)

-- what is made of a first item, and of the others
pub each_some : {A B : Type 0} (f : A → Option B) (x : A) (xs : List A) (zs : List B) → all_some f (x ∷ xs) ≡ Some zs
    → (y : B) × (ys : List B) × (f x ≡ Some y) × (all_some f xs ≡ Some ys) × (y ∷ ys ≡ zs)
each_some f x xs zs e =
    let head = next_some (λ y. option_map (λ ys. y ∷ ys) (all_some f xs)) (f x) zs e in
    let rest = map_some (λ ys. head.0 ∷ ys) (all_some f xs) zs head.2 in
    (head.0, rest.0, head.1, rest.1, rest.2)

pub length-all_some : {A B : Type 0} (f : A → Option B) (xs : List A) (ys : List B) → all_some f xs ≡ Some ys → length ys ≡ length xs
length-all_some f [] ys e = let none : [] ≡ ys = cc in ap length (sym none)
length-all_some f (x ∷ xs) ys e =
    let parts = each_some f x xs ys e in
    ap length (sym parts.4) ∙ ap suc (length-all_some f xs parts.1 parts.3)

-- the parents of a lawful manifest are those of a tree
pub older_tree : (v : ℕ) (ps : List ℕ) → are_older v ps ≡ is_tree_from v (map (λ p. Some p) ps)
older_tree v [] = refl
older_tree v (p ∷ ps) = ap (λ (b : Bool). ltb p v && b) (older_tree (suc v) ps)

both_true : (a b : Bool) → a ≡ true → b ≡ true → a && b ≡ true
both_true a b e f = (λ i. e i && b) ∙ f

-- the tests of a manifest, and of a level
abbrev pub manifest_tests : ℕ → Manifest → List Bool
manifest_tests format m =
    ltb m.changes (2 ^ 32) ∷ leb m.updates m.changes ∷ ltb m.written (2 ^ 64) ∷ leb 1 m.next_array ∷ ltb m.next_array (2 ^ 64)
    ∷ leb (versions_in m) VERSIONS_MAX ∷ are_older 1 m.parents ∷ leb (length m.levels) LEVELS
    ∷ list_all (is_lawful_level (versions_in m) m.next_array) m.levels ∷ is_rising (map (λ level. level.number) m.levels)
    ∷ has_fields format m ∷ ltb m.compacted (2 ^ 64) ∷ are_pruned (parents_in m) m.marks ∷ []

abbrev pub level_tests : ℕ → ℕ → LevelDesc → List Bool
level_tests versions next d =
    leb 1 d.number ∷ leb d.number LEVELS ∷ leb 1 d.horizon ∷ leb d.horizon versions
    ∷ is_counted d.arrays ∷ list_all (is_lawful_array next) d.arrays ∷ is_rising (map first_version d.arrays) ∷ []

lawful_tree : (format : ℕ) (m : Manifest) → is_lawful_manifest format m ≡ true → is_tree (parents_in m) ≡ true
lawful_tree format m lawful =
    both_true (ltb 0 (length (parents_in m))) (is_tree_from 0 (parents_in m))
    (lt-ltb 0 (length (parents_in m)) (omega arith))
    (sym (older_tree 1 m.parents) ∙ pass_at (manifest_tests format m) 6 lawful)

-- a level is numbered from a number on, if there is one
abbrev Begins : ℕ → List LevelDesc → Type 0
Begins least [] = Unit {0}
Begins least (d ∷ ds) = least ≤ d.number

begins_next : (d : LevelDesc) (ds : List LevelDesc) → is_rising (map (λ level. level.number) (d ∷ ds)) ≡ true
    → Begins (suc d.number) ds × (is_rising (map (λ level. level.number) ds) ≡ true)
begins_next d [] rising = (tt, refl)
begins_next d (e ∷ ds) rising =
    let parts = and_parts (ltb d.number e.number) (is_rising (map (λ level. level.number) (e ∷ ds))) rising in
    (ltb-true d.number e.number parts.0, parts.1)

module _ (c : Image) (versions next : ℕ) where
  one_numbered : (d : LevelDesc) (level : Level) (least : ℕ) (levels : List Level) → level_on c d ≡ Some level → is_lawful_level versions next d ≡ true
      → least ≤ d.number → is_numbered_from (suc d.number) levels ≡ true → is_numbered_from least (level ∷ levels) ≡ true
  one_numbered d level least levels on lawful le rest =
      let made = map_some (λ arrays. record { number = d.number; horizon = d.horizon; arrays = arrays }) (all_some (array_on c) d.arrays) level on in
      let some : 1 ≤ length d.arrays = leb-true 1 (length d.arrays) (and_parts (leb 1 (length d.arrays)) (ltb (length d.arrays) (2 ^ 32)) (pass_at (level_tests versions next d) 4 lawful)).0 in
      let arrays : 0 < length made.0 = omega (arith, length-all_some (array_on c) d.arrays made.0 made.1) in
      let P : Level → Type 0 = λ l. is_numbered_from least (l ∷ levels) ≡ true in
      subst P made.2
      (both_true _ _ (both_true _ _ (both_true _ _ (le-leb least d.number le) (pass_at (level_tests versions next d) 1 lawful)) (lt-ltb 0 (length made.0) arrays)) rest)

  numbered : (ds : List LevelDesc) (levels : List Level) (least : ℕ) → all_some (level_on c) ds ≡ Some levels → list_all (is_lawful_level versions next) ds ≡ true
      → is_rising (map (λ level. level.number) ds) ≡ true → Begins least ds → is_numbered_from least levels ≡ true
  numbered [] levels least on lawful rising begins = let none : [] ≡ levels = cc in ap (is_numbered_from least) (sym none)
  numbered (d ∷ ds) levels least on lawful rising begins =
      let parts = each_some (level_on c) d ds levels on in
      let laws = and_parts (is_lawful_level versions next d) (list_all (is_lawful_level versions next) ds) lawful in
      let further = begins_next d ds rising in
      let P : List Level → Type 0 = λ ls. is_numbered_from least ls ≡ true in
      subst P parts.4
      (one_numbered d parts.0 least parts.1 parts.2 laws.0 begins (numbered ds parts.1 (suc d.number) parts.3 laws.1 further.1 further.0))

-- the first level of a lawful manifest is numbered from 1 on
begins_lawful : (versions next : ℕ) (ds : List LevelDesc) → list_all (is_lawful_level versions next) ds ≡ true → Begins 1 ds
begins_lawful versions next [] lawful = tt
begins_lawful versions next (d ∷ ds) lawful =
    let laws = and_parts (is_lawful_level versions next d) (list_all (is_lawful_level versions next) ds) lawful in
    leb-true 1 d.number (pass_at (level_tests versions next d) 0 laws.0)

-- changes that are accepted in their turn
accepted_all : (changes_max versions_max : ℕ) (parents : Parents) (marks : Marks) (changes : ℕ) (logged : List Logged) (journal : List Change)
    → accepted_in changes_max versions_max parents marks changes logged ≡ Ok journal
    → (are_accepted changes_max versions_max parents marks changes journal ≡ true) × (length journal ≡ length logged)
accepted_all changes_max versions_max parents marks changes [] journal e =
    let none : [] ≡ journal = cc in
    let P : List Change → Type 0 = λ j. (are_accepted changes_max versions_max parents marks changes j ≡ true) × (length j ≡ 0) in
    subst P none (refl, refl)
accepted_all changes_max versions_max parents marks changes (l ∷ logged) journal e =
    by_test (is_accepted changes_max versions_max parents marks changes l.change) refl
    (accepted_all changes_max versions_max (tree_after parents l.change) (marks_after marks l.change) (suc changes) logged) e
  where
    later : Read (List Change)
    later = accepted_in changes_max versions_max (tree_after parents l.change) (marks_after marks l.change) (suc changes) logged

    P : List Change → Type 0
    P j = (are_accepted changes_max versions_max parents marks changes j ≡ true) × (length j ≡ suc (length logged))

    by_test : (b : Bool) → is_accepted changes_max versions_max parents marks changes l.change ≡ b
        → ((j : List Change) → later ≡ Ok j → (are_accepted changes_max versions_max (tree_after parents l.change) (marks_after marks l.change) (suc changes) j ≡ true) × (length j ≡ length logged))
        → cond b (put_first l.change later) (Err l.block) ≡ Ok journal → P journal
    by_test true is rest e =
        let parts = put_first_ok l.change later journal e in
        let there = rest parts.0 parts.1 in
        subst P parts.2 (both_true _ _ is there.0, ap suc there.1)
    by_test false is rest e = absurd (cc)

cond_some : {A : Type 0} (b : Bool) (o : Option A) (y : A) → cond b o None ≡ Some y → o ≡ Some y
cond_some true o y e = e
cond_some false o y e = absurd (cc)

-- a manifest that is read has a spelling
pub lawful_read : (format : ℕ) (c : Image) (first n : ℕ) (blocks : List ℕ) (found : Chained) → manifest_in_chain format c first n blocks ≡ Ok found → is_lawful_manifest format found.manifest ≡ true
lawful_read format c first n blocks found e =
    let bytes : List ℕ = chained_bytes c blocks in
    let read = map_some (λ m. record { manifest = m; blocks = blocks }) (manifest_filled format n bytes) found (found_ok first (option_map (λ m. record { manifest = m; blocks = blocks }) (manifest_filled format n bytes)) found e) in
    let here = cond_some (list_all (λ x. eqb x 0) (drop n bytes)) (manifest_in format (take n bytes)) read.0 read.1 in
    let P : Chained → Type 0 = λ x. is_lawful_manifest format x.manifest ≡ true in
    subst P read.2 (manifest_in-some format read.0 (take n bytes) here).lawful

module _ (c : Image) (sb : Super) (m : Manifest) (journal : List Change) (found : recover_manifest c sb ≡ Ok m) (changes : recover_journal c sb m ≡ Ok journal) where
  pub lawful_found : is_lawful_manifest sb.format m ≡ true
  lawful_found =
      let test : Chained → Read Manifest = λ x. passed_or sb.manifest (belongs sb x) x.manifest in
      let chained = and_then_ok (manifest_at sb.format c sb.manifest sb.length) test m found in
      let blocks = and_then_ok (chain_from c [] sb.manifest (chain_length sb.length - 1)) (manifest_in_chain sb.format c sb.manifest sb.length) chained.0 chained.1 in
      let here = passed_ok sb.manifest (belongs sb chained.0) chained.0.manifest m chained.2 in
      let P : Manifest → Type 0 = λ x. is_lawful_manifest sb.format x ≡ true in
      subst P here.1 (lawful_read sb.format c sb.manifest sb.length blocks.0 chained.0 blocks.2)

  pub journal_tests : (are_accepted sb.changes_max sb.versions_max (parents_in m) m.marks m.changes journal ≡ true) × (length journal ≤ journal_max sb.mem)
  journal_tests =
      let read = and_then_ok (journal_in_two c sb.mem sb.region) (accepted_in sb.changes_max sb.versions_max (parents_in m) m.marks m.changes) journal changes in
      let accepted = accepted_all sb.changes_max sb.versions_max (parents_in m) m.marks m.changes read.0 journal read.2 in
      let few = length-two c sb.mem sb.region read.0 read.1 in
      (accepted.0, omega (arith, accepted.1, few))

  openable : (s : State) → state_of c (record { sb = sb; manifest = m; journal = journal }) ≡ Some s → IsWellFormed s
  openable s e =
      let make : List Level → State = λ levels. record {
        mem = sb.mem;
        changes_max = sb.changes_max;
        versions_max = sb.versions_max;
        parents = parents_in m;
        marks = m.marks;
        changes = m.changes;
        updates = m.updates;
        written = m.written;
        compacted = m.compacted;
        next_array = m.next_array;
        levels = levels;
        journal = journal;
      } in
      let made = map_some make (all_some (level_on c) m.levels) s e in
      let laws : list_all (is_lawful_level (versions_in m) m.next_array) m.levels ≡ true = pass_at (manifest_tests sb.format m) 8 lawful_found in
      let tests = journal_tests in
      subst IsWellFormed made.2 (record {
        tree = lawful_tree sb.format m lawful_found;
        pruned = pass_at (manifest_tests sb.format m) 12 lawful_found;
        numbered = numbered c (versions_in m) m.next_array m.levels made.0 1 made.1 laws (pass_at (manifest_tests sb.format m) 9 lawful_found) (begins_lawful (versions_in m) m.next_array m.levels laws);
        accepted = tests.0;
        fits = le-leb (length journal) (journal_max sb.mem) tests.1;
      })

opened_ok : (r : Read (Option Head)) (h : Head) → opened r ≡ Some h → r ≡ Ok (Some h)
opened_ok (Ok found) h e = ap (λ (o : Option Head). Ok o) e
opened_ok (Err b) h e = absurd (cc)

-- a head that is found is the one behind its superblock
slot_ok : (c : Image) (slot : Option (ℕ × Super)) (h : Head) → recover_slot c slot ≡ Ok (Some h) → (x : ℕ × Super) × (slot ≡ Some x) × (recover_head c x.1 ≡ Ok h)
slot_ok c None h e = absurd (cc)
slot_ok c (Some slot) h e =
    let found = and_then_ok (recover_head c slot.1) (λ x. Ok (Some x)) (Some h) e in
    let last : Ok (Some found.0) ≡ Ok (Some h) = found.2 in
    let same : found.0 ≡ h = cc in
    (slot, refl, found.1 ∙ ap (λ (x : Head). Ok x) same)

-- where a state that is read was found: behind the newest superblock, with its manifest and journal
pub record FoundState (c : Image) (s : State) : Type 0 where
  pub slot : ℕ × Super
  pub manifest : Manifest
  pub journal : List Change
  pub newest : newest_in c ≡ Ok (Some slot)
  pub chained : recover_manifest c slot.1 ≡ Ok manifest
  pub logged : recover_journal c slot.1 manifest ≡ Ok journal
  pub state : state_of c (record { sb = slot.1; manifest = manifest; journal = journal }) ≡ Some s

state_at : (c : Image) (s : State) (h k : Head) → k ≡ h → state_of c h ≡ Some s → state_of c k ≡ Some s
state_at c s h k same is = ap (state_of c) same ∙ is

pub state_found : (c : Image) (s : State) → reads_as c ≡ Some s → FoundState c s
state_found c s e =
    let head = next_some (state_of c) (opened (recover c)) s e in
    let slot = and_then_ok (newest_in c) (recover_slot c) (Some head.0) (opened_ok (recover c) head.0 head.1) in
    let behind = slot_ok c slot.0 head.0 slot.2 in
    let sb : Super = behind.0.1 in
    let rest : Manifest → Read Head = λ m. and_then (recover_journal c sb m) (λ journal. Ok (record { sb = sb; manifest = m; journal = journal })) in
    let manifest = and_then_ok (recover_manifest c sb) rest head.0 behind.2 in
    let journal = and_then_ok (recover_journal c sb manifest.0) (λ journal. Ok (record { sb = sb; manifest = manifest.0; journal = journal })) head.0 manifest.2 in
    let last : Ok (record { sb = sb; manifest = manifest.0; journal = journal.0 }) ≡ Ok head.0 = journal.2 in
    let same : record { sb = sb; manifest = manifest.0; journal = journal.0 } ≡ head.0 = cc in
    record {
      slot = behind.0;
      manifest = manifest.0;
      journal = journal.0;
      newest = slot.1 ∙ ap (λ (o : Option (ℕ × Super)). Ok o) behind.1;
      chained = manifest.1;
      logged = journal.1;
      state = state_at c s head.0 (record { sb = sb; manifest = manifest.0; journal = journal.0 }) same head.2;
    }

-- what an opening reads has passed what an opening tests
pub read_openable : (c : Image) (s : State) → reads_as c ≡ Some s → IsWellFormed s
read_openable c s e =
    let f = state_found c s e in
    openable c f.slot.1 f.manifest f.journal f.chained f.logged s f.state
