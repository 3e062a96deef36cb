-- What recovery gives of a state, and what a check of it finds.
use Rattle.std.proofs.Common.{◌≡◌, ◌≤◌, ◌^◌, ◌&&◌, ℕ, Bool, true, false, cond, ltb, inl, inr, List, [], ◌∷◌, ◌++◌, length, Option, None, Some, Ok, Err, refl, sym, ap, ◌∙◌, subst, arith, append-nil}
use Rattle.std.specs.List.{list_all, sum_by, flat_map, find, Contains}
use Rattle.std.specs.Option.{option_map, option_and_then, unwrap_or}
use Rattle.std.proofs.lemmas.Bool.{and_parts, leb-true}
use Rattle.std.proofs.Math.ListN.{length-map}
use Rattle.strat_base.specs.declared.descriptors.ArrayDesc.{ArrayDesc}
use Rattle.strat_base.specs.declared.descriptors.LevelDesc.{LevelDesc}
use Rattle.strat_base.specs.Tree.{Parents}
use Rattle.strat_base.proofs.ListFacts.{Among, all_at, all_from, among_flat, empty_each}
use Rattle.def_bytes.proofs.DamageLemmas.{and_then_ok, passed_ok}
use Rattle.def_bytes.proofs.ManifestLemmas.{pass_at}
use Rattle.def_bytes.specs.Arrays.{all_some, blocks_of}
use Rattle.def_bytes.specs.Chained.{Chained, manifest_at}
use Rattle.def_bytes.specs.Damage.{Read, and_then, passed_or, found_or}
use Rattle.def_bytes.specs.Manifest.{Manifest, versions_in, is_lawful_level, is_lawful_manifest}
use Rattle.def_bytes.specs.SuperBlock.{Super, in_range, verdict, chosen_in, newest_in}
use Rattle.def_check.specs.Checked.{is_unread, listed_blocks, check_head}
use Rattle.def_recovery.proofs.BadLemmas.{contained_at}
use Rattle.strat_promote.specs.Job.{blocks_listed, IsBadInput}
use Rattle.strat_promote.proofs.LeadLemmas.{read_whole}
use Rattle.strat_check.proofs.StoreLemmas.{passed_levels}
use Rattle.def_crash.specs.Image.{Image}
use Rattle.def_publish.specs.Occupied.{arrays_in}
use Rattle.def_recovery.proofs.OpeningLemmas.{map_some, each_some, manifest_tests, level_tests, lawful_found, read_openable}
use Rattle.def_recovery.proofs.PassedLemmas.{belonging_tests}
use Rattle.def_recovery.specs.Head.{Head, descriptors, head_marks}
use Rattle.def_recovery.specs.Opened.{array_on, level_on, parents_in}
use Rattle.def_recovery.specs.Opening.{recover, recover_slot, recover_head, recover_manifest, recover_journal, opened, state_of, reads_as, belongs, has_own_versions}
use Rattle.def_state.specs.Breach.{Breach, breach, breach_unless, breaches, array_breaches}
use Rattle.def_state.specs.Level.{TaggedArray, Level, has_disjoint_tags, is_distinct}
use Rattle.def_state.specs.Sound.{has_ascending_entries, IsWellFormed}
use Rattle.def_state.specs.State.{State, marks_of}
use Rattle.def_state.proofs.AppendedLemmas.{length-grown}
use Rattle.strat_check.specs.StoreScans.{content_scanned}
use Rattle.strat_check.specs.Walked.{MayBeTold}
use Rattle.strat_check.proofs.WalkLemmas.{array_of, level_of, part_few}

-- where a head was found: its manifest belongs to its superblock, and has a spelling

-- the limit of changes in a superblock that was chosen

range_most : (s : Super) → in_range s ≡ true → s.changes_max ≤ 16777216
range_most s e =
    let v_most = and_parts _ _ e in
    let v_least = and_parts _ _ v_most.0 in
    let c_most = and_parts _ _ v_least.0 in
    leb-true s.changes_max 16777216 c_most.1

chosen_most : (o : Option (ℕ × Super)) (slot : ℕ × Super) → verdict o ≡ Ok (Some slot) → slot.1.changes_max ≤ 16777216
chosen_most None slot e = absurd (cc)
chosen_most (Some x) slot e = by_range (in_range x.1) refl e
  where
    by_range : (b : Bool) → in_range x.1 ≡ b → cond b (Ok (Some (x.0, x.1))) (Err x.0) ≡ Ok (Some slot) → slot.1.changes_max ≤ 16777216
    by_range true is e =
        let same : (x.0, x.1) ≡ slot = cc in
        subst (λ (y : ℕ × Super). y.1.changes_max ≤ 16777216) same (range_most x.1 is)
    by_range false is e = absurd (cc)

pub record IsFoundHead (c : Image) (h : Head) : Type 0 where
  pub belonging : (x : Chained) × (belongs h.sb x ≡ true) × (x.manifest ≡ h.manifest)
  pub spelled : (format : ℕ) × (is_lawful_manifest format h.manifest ≡ true)
  pub limit : h.sb.changes_max ≤ 16777216

slot_found : (c : Image) (slot : Option (ℕ × Super)) (h : Head) → recover_slot c slot ≡ Ok (Some h) → (x : ℕ × Super) × (slot ≡ Some x) × (recover_head c x.1 ≡ Ok h)
slot_found c None h e = absurd (cc)
slot_found c (Some slot) h e =
    let found = and_then_ok (recover_head c slot.1) (λ x. Ok (Some x)) (Some h) e in
    let last : Ok (Some found.0) ≡ Ok (Some h) = found.2 in
    let same : found.0 ≡ h = cc in
    (slot, refl, found.1 ∙ ap (λ (x : Head). Ok x) same)

pub head_found : (c : Image) (h : Head) → recover c ≡ Ok (Some h) → IsFoundHead c h
head_found c h e =
    let slot = and_then_ok (newest_in c) (recover_slot c) (Some h) e in
    let behind = slot_found c slot.0 h slot.2 in
    let sb : Super = behind.0.1 in
    let manifest = and_then_ok (recover_manifest c sb) (λ m. and_then (recover_journal c sb m) (λ journal. Ok (record { sb = sb; manifest = m; journal = journal }))) h behind.2 in
    let journal = and_then_ok (recover_journal c sb manifest.0) (λ journal. Ok (record { sb = sb; manifest = manifest.0; journal = journal })) h manifest.2 in
    let last : Ok (record { sb = sb; manifest = manifest.0; journal = journal.0 }) ≡ Ok h = journal.2 in
    let same : record { sb = sb; manifest = manifest.0; journal = journal.0 } ≡ h = cc in
    let chained = and_then_ok (manifest_at sb.format c sb.manifest sb.length) (λ x. passed_or sb.manifest (belongs sb x) x.manifest) manifest.0 manifest.1 in
    let here = passed_ok sb.manifest (belongs sb chained.0) chained.0.manifest manifest.0 chained.2 in
    subst (IsFoundHead c) same (record {
      belonging = (chained.0, here.0, here.1);
      spelled = (sb.format, lawful_found c sb manifest.0 journal.0 manifest.1 journal.1);
      limit = chosen_most (chosen_in c) behind.0 (slot.1 ∙ ap (λ (o : Option (ℕ × Super)). Ok o) behind.1);
    })

-- a state is read from the levels of a head
abbrev state_with : Head → List Level → State
state_with h levels = record {
  mem = h.sb.mem;
  changes_max = h.sb.changes_max;
  versions_max = h.sb.versions_max;
  parents = parents_in h.manifest;
  marks = h.manifest.marks;
  changes = h.manifest.changes;
  updates = h.manifest.updates;
  written = h.manifest.written;
  compacted = h.manifest.compacted;
  next_array = h.manifest.next_array;
  levels = levels;
  journal = h.journal;
}

pub state_made : (c : Image) (h : Head) (levels : List Level) → all_some (level_on c) h.manifest.levels ≡ Some levels → (s : State) × (state_of c h ≡ Some s) × (s.levels ≡ levels)
state_made c h levels e = (state_with h levels, ap (option_map (state_with h)) e, refl)

pub levels_of : (c : Image) (h : Head) (s : State) → state_of c h ≡ Some s → all_some (level_on c) h.manifest.levels ≡ Some s.levels
levels_of c h s e =
    let made = map_some (state_with h) (all_some (level_on c) h.manifest.levels) s e in
    made.1 ∙ ap (λ (x : State). Some x.levels) made.2

pub parts_of : (c : Image) (h : Head) (s : State) → state_of c h ≡ Some s → (s.mem ≡ h.sb.mem) × (s.updates ≡ h.manifest.updates) × (s.parents ≡ parents_in h.manifest) × (s.journal ≡ h.journal)
parts_of c h s e =
    let made = map_some (state_with h) (all_some (level_on c) h.manifest.levels) s e in
    (ap (λ (x : State). x.mem) (sym made.2), ap (λ (x : State). x.updates) (sym made.2), ap (λ (x : State). x.parents) (sym made.2), ap (λ (x : State). x.journal) (sym made.2))

-- the versions that were dropped, those that the journal drops among them
pub marks_said : (c : Image) (h : Head) (s : State) → state_of c h ≡ Some s → head_marks h ≡ marks_of s
marks_said c h s e = ap marks_of (map_some (state_with h) (all_some (level_on c) h.manifest.levels) s e).2

pub read_as : (c : Image) (h : Head) (s : State) → recover c ≡ Ok (Some h) → state_of c h ≡ Some s → reads_as c ≡ Some s
read_as c h s found e = ap (λ (r : Read (Option Head)). option_and_then (state_of c) (opened r)) found ∙ e

-- the levels that are read have the descriptors' horizons and tags

some_back : {A B : Type 0} (g : A → Option B) (xs : List A) (ys : List B) (y : B) → all_some g xs ≡ Some ys → Among y ys → (x : A) × Among x xs × (g x ≡ Some y)
some_back g [] ys y e among = let none : [] ≡ ys = cc in absurd (subst (Among y) (sym none) among)
some_back g (x ∷ xs) ys y e among =
    let parts = each_some g x xs ys e in
    go parts.0 parts.1 parts.2 parts.3 (subst (Among y) (sym parts.4) among) (some_back g xs parts.1 y parts.3)
  where
    go : (z : _) (zs : List _) → g x ≡ Some z → all_some g xs ≡ Some zs → Among y (z ∷ zs) → (Among y zs → (w : _) × Among w xs × (g w ≡ Some y)) → (w : _) × Among w (x ∷ xs) × (g w ≡ Some y)
    go z zs here rest (inl same) more = (x, inl refl, here ∙ ap (λ w. Some w) (sym same))
    go z zs here rest (inr there) more = let found = more there in (found.0, inr found.1, found.2)

tags_kept : (f : Image) (ds : List ArrayDesc) (as' : List TaggedArray) → all_some (array_on f) ds ≡ Some as' → flat_map (λ (a : TaggedArray). a.tag) as' ≡ flat_map (λ (a : ArrayDesc). a.versions) ds
tags_kept f [] as' e = let none : [] ≡ as' = cc in ap (flat_map (λ (a : TaggedArray). a.tag)) (sym none)
tags_kept f (d ∷ ds) as' e =
    let parts = each_some (array_on f) d ds as' e in
    ap (flat_map (λ (a : TaggedArray). a.tag)) (sym parts.4) ∙ (λ i. (array_of f d parts.0 parts.2).tag i ++ tags_kept f ds parts.1 parts.3 i)

passed_none : (b : Bool) (x : Breach) → breach_unless b x ≡ [] → b ≡ true
passed_none true x e = refl
passed_none false x e = absurd (cc)

contained_among : {X : Type 0} (xs : List X) (x : X) → Contains xs x → Among x xs
contained_among xs x has = contained_at x xs has.0 has.1 has.2

-- where all arrays ascend, and there are few entries, the rules of a state may be told
module _ (c : Image) (h : Head) (s : State) (found : recover c ≡ Ok (Some h)) (e : state_of c h ≡ Some s) where
  abbrev m : Manifest
  m = h.manifest

  formed : IsWellFormed s
  formed = read_openable c s (read_as c h s found e)

  level_at : (level : Level) → Among level s.levels → (d : LevelDesc) × Among d m.levels × (level_on c d ≡ Some level)
  level_at level among = some_back (level_on c) m.levels s.levels level (levels_of c h s e) among

  disjoint : (level : Level) → Among level s.levels → has_disjoint_tags level ≡ true
  disjoint level among =
      let d = level_at level among in
      let its = level_of c d.0 level d.2 in
      let head = head_found c h found in
      let own = all_at has_own_versions d.0 m.levels (ap (λ (x : Manifest). list_all has_own_versions x.levels) (sym head.belonging.2) ∙ pass_at (belonging_tests h.sb head.belonging.0) 2 head.belonging.1) d.1 in
      (λ i. is_distinct (tags_kept c d.0.arrays level.arrays its.arrays i) && list_all (λ v. ltb v (its.horizon i)) (tags_kept c d.0.arrays level.arrays its.arrays i)) ∙ own

  old : (level : Level) → Among level s.levels → level.horizon ≤ length s.parents
  old level among =
      let d = level_at level among in
      let its = level_of c d.0 level d.2 in
      let head = head_found c h found in
      let lawful = all_at (is_lawful_level (versions_in m) m.next_array) d.0 m.levels (pass_at (manifest_tests head.spelled.0 m) 8 head.spelled.1) d.1 in
      let le = leb-true d.0.horizon (versions_in m) (pass_at (level_tests (versions_in m) m.next_array d.0) 3 lawful) in
      let same = its.horizon in
      let parents = ap (λ (ps : Parents). length ps) (parts_of c h s e).2 in
      let count = length-map m.parents (λ (p : ℕ). Some p) in
      omega (arith, le, same, parents, count)

  pub may_be_told : array_breaches s 109 (λ level a. has_ascending_entries a) ≡ [] → sum_by content_scanned s.levels ≤ 2 ^ 48 → MayBeTold s
  may_be_told ascend few = record {
    formed = formed;
    known = (let grown = length-grown s.parents s.journal in grown);
    counted = λ level has.
        let among = contained_among s.levels level has in
        record {
          ascending = all_from has_ascending_entries level.arrays (λ a here.
              passed_none (has_ascending_entries a) (breach 109 level.number a.id)
              (empty_each (λ (b : TaggedArray). breach_unless (has_ascending_entries b) (breach 109 level.number b.id)) level.arrays a
              (empty_each (λ (l : Level). flat_map (λ (b : TaggedArray). breach_unless (has_ascending_entries b) (breach 109 l.number b.id)) l.arrays) s.levels level ascend among) here));
          disjoint = disjoint level among;
        };
    old = λ level has. old level (contained_among s.levels level has);
    few = λ level has. let part = part_few content_scanned s.levels level (contained_among s.levels level has) in omega (arith, part, few);
  }

-- a block of entries that ascend is no bad one

pub none_bad : (c : Image) (h : Head) (s : State) (b : ℕ) → state_of c h ≡ Some s → array_breaches s 109 (λ level a. has_ascending_entries a) ≡ [] → IsBadInput c (descriptors h.manifest) b → ⊥
none_bad c h s b e ascend bad =
    let among = contained_among (descriptors h.manifest) bad.array bad.one in
    let d = among_flat (λ (l : LevelDesc). l.arrays) h.manifest.levels bad.array among in
    let level = some_there (level_on c) h.manifest.levels s.levels d.0 (levels_of c h s e) d.1 in
    let its = level_of c d.0 level.0 level.2 in
    let array = some_there (array_on c) d.0.arrays level.0.arrays bad.array its.arrays d.2 in
    let up = passed_none (has_ascending_entries array.0) (breach 109 level.0.number array.0.id)
    (empty_each (λ (x : TaggedArray). breach_unless (has_ascending_entries x) (breach 109 level.0.number x.id)) level.0.arrays array.0
    (empty_each (λ (l : Level). flat_map (λ (x : TaggedArray). breach_unless (has_ascending_entries x) (breach 109 l.number x.id)) l.arrays) s.levels level.0 ascend level.1) array.1) in
    let none = (read_whole c None (blocks_of bad.array.extents) array.0.content (array_of c bad.array array.0 array.2).read up).1 in
    let both : None ≡ Some b = sym none ∙ bad.misfit in
    cc
  where
    some_there : {A B : Type 0} (g : A → Option B) (xs : List A) (ys : List B) (x : A) → all_some g xs ≡ Some ys → Among x xs → (y : B) × Among y ys × (g x ≡ Some y)
    some_there g [] ys x e among = absurd among
    some_there g (z ∷ xs) ys x e (inl here) = let parts = each_some g z xs ys e in (parts.0, subst (Among parts.0) parts.4 (inl refl), ap g here ∙ parts.2)
    some_there g (z ∷ xs) ys x e (inr there) =
        let parts = each_some g z xs ys e in
        let found = some_there g xs parts.1 x parts.3 there in
        (found.0, subst (Among found.0) parts.4 (inr found.1), found.2)

-- a block that is none makes a check blame it

pub blamed_head : (c : Image) (h : Head) (b : ℕ) → find (is_unread c) (blocks_listed (arrays_in h.manifest.levels)) ≡ Some b → check_head c (Some h) ≡ Err b
blamed_head c h b e = go (state_of c h) refl
  where
    go : (o : Option State) → state_of c h ≡ o → check_head c (Some h) ≡ Err b
    go None none =
        ap (λ (o : Option State). and_then (found_or (unwrap_or (find (is_unread c) (listed_blocks h.manifest)) 0) o) (λ s. Ok (Some (breaches s)))) none
        ∙ ap (λ (o : Option ℕ). and_then (found_or (unwrap_or o 0) None) (λ (s : State). Ok (Some (breaches s)))) e
    go (Some s) some =
        let passed = passed_levels c h.manifest.levels s.levels [] (levels_of c h s some) in
        let both : None ≡ Some b = sym passed ∙ ap (find (is_unread c)) (append-nil (blocks_listed (arrays_in h.manifest.levels))) ∙ e in
        absurd (cc)
