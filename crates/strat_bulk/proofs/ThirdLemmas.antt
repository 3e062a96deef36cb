-- The arrays that an image has for a version are a third live at it, where the state that it shows is sound.
use Rattle.strat_bulk.specs.Density.{AreThirdLive}
use Rattle.strat_bulk.proofs.DenseLemmas.{third_live}
use Rattle.std.proofs.Common.{◌≡◌, ◌≤◌, ◌<◌, ◌*◌, ℕ, Bool, true, false, cond, inl, inr, List, [], ◌∷◌, length, filter_map, Contains, Option, Some, None, refl, sym, ap, ◌∙◌, subst}
use Rattle.std.specs.List.{cons_option, find}
use Rattle.def_bytes.specs.Arrays.{all_some, blocks_of, entries_on}
use Rattle.def_crash.specs.Image.{Image}
use Rattle.def_recovery.proofs.BadLemmas.{contained_at}
use Rattle.def_recovery.proofs.OpeningLemmas.{each_some, map_some}
use Rattle.def_recovery.specs.Opened.{array_on, level_on}
use Rattle.def_state.specs.Level.{Level, TaggedArray}
use Rattle.def_state.specs.Live.{live}
use Rattle.def_state.specs.LookUp.{array_asked, of_state}
use Rattle.def_state.specs.Sound.{IsSound}
use Rattle.def_state.specs.State.{State, versions_of}
use Rattle.strat_base.proofs.ListFacts.{Among}
use Rattle.def_publish.proofs.ListLemmas.{among_contained}
use Rattle.strat_base.specs.Entries.{Entry, is_tagged}
use Rattle.strat_base.specs.Tree.{Parents, below}
use Rattle.strat_base.specs.declared.descriptors.ArrayDesc.{ArrayDesc}
use Rattle.strat_base.specs.declared.descriptors.LevelDesc.{LevelDesc}
use Rattle.strat_level.specs.Levels.{desc_for, is_for}
use Rattle.def_crash.specs.Moments.{DiskView}
use Rattle.def_publish.specs.Contents.{Contents, contents_state}
use Rattle.def_state.proofs.MarkLemmas.{there_known}
use Rattle.strat_cursor.specs.Looking.{arrays_asked}
use Rattle.strat_memory.specs.Held.{Held, IsConsistent, StandsWith, contents_held}
use Rattle.strat_memory.specs.Memory.{has_version}

-- what an image has of an array that is found by its tag is found by it too
tagged_on : (c : Image) (u : ℕ) (ds : List ArrayDesc) (xs : List TaggedArray) (a : ArrayDesc) → all_some (array_on c) ds ≡ Some xs → find (is_for u) ds ≡ Some a
    → (t : TaggedArray) × (find (λ (x : TaggedArray). is_tagged x.tag u) xs ≡ Some t) × (array_on c a ≡ Some t)
tagged_on c u [] xs a all found = absurd (cc)
tagged_on c u (d ∷ ds) xs a all found =
    let parts = each_some (array_on c) d ds xs all in
    let made = map_some (λ entries. record { id = d.id; tag = d.versions; content = entries; entries = d.entries; leads = d.leads; least = d.least }) (entries_on c (blocks_of d.extents)) parts.0 parts.2 in
    let tag : d.versions ≡ parts.0.tag = ap (λ (y : TaggedArray). y.tag) made.2 in
    let one = by parts.0 parts.1 parts.2 (is_for u d) found (λ got. tagged_on c u ds parts.1 a parts.3 got) in (
      one.0,
      ap (λ (ys : List TaggedArray). find (λ (x : TaggedArray). is_tagged x.tag u) ys) (sym parts.4)
          ∙ ap (λ (t : List ℕ). cond (is_tagged t u) (Some parts.0) (find (λ (x : TaggedArray). is_tagged x.tag u) parts.1)) (sym tag)
          ∙ one.1,
      one.2,
    )
  where
    by : (y : TaggedArray) (ys : List TaggedArray) → array_on c d ≡ Some y → (b : Bool) → cond b (Some d) (find (is_for u) ds) ≡ Some a
        → (find (is_for u) ds ≡ Some a → (t : TaggedArray) × (find (λ (x : TaggedArray). is_tagged x.tag u) ys ≡ Some t) × (array_on c a ≡ Some t))
        → (t : TaggedArray) × (cond b (Some y) (find (λ (x : TaggedArray). is_tagged x.tag u) ys) ≡ Some t) × (array_on c a ≡ Some t)
    by y ys on true got rest = let same : d ≡ a = cc in (y, refl, ap (array_on c) (sym same) ∙ on)
    by y ys on false got rest = rest got

module _ (c : Image) (parents : Parents) (v : ℕ) (a : ArrayDesc) where
  -- an array of a level that is asked at a version, as the image has both
  pub record IsAskedIn (levels : List Level) : Type 0 where
    pub level : Level
    pub there : Among level levels
    pub array : TaggedArray
    pub asked : array_asked of_state parents level v ≡ Some array
    pub on : array_on c a ≡ Some array

  asked_in : (ds : List LevelDesc) (levels : List Level) → all_some (level_on c) ds ≡ Some levels → Among a (filter_map (λ level. desc_for parents level v) ds) → IsAskedIn levels
  asked_in [] levels all there = absurd there
  asked_in (d ∷ ds) levels all there =
      let parts = each_some (level_on c) d ds levels all in
      subst IsAskedIn parts.4 (by parts.0 parts.1 parts.2 (desc_for parents d v) refl there (λ later. asked_in ds parts.1 parts.3 later))
    where
      later_in : (x : Level) (xs : List Level) → IsAskedIn xs → IsAskedIn (x ∷ xs)
      later_in x xs is = record { level = is.level; there = inr is.there; array = is.array; asked = is.asked; on = is.on }

      by : (x : Level) (xs : List Level) → level_on c d ≡ Some x → (o : Option ArrayDesc) → desc_for parents d v ≡ o
          → Among a (cons_option o (filter_map (λ level. desc_for parents level v) ds)) → (Among a (filter_map (λ level. desc_for parents level v) ds) → IsAskedIn xs) → IsAskedIn (x ∷ xs)
      by x xs on None is later rest = later_in x xs (rest later)
      by x xs on (Some b) is (inl here) rest =
          let made = map_some (λ arrays. record { number = d.number; horizon = d.horizon; arrays = arrays }) (all_some (array_on c) d.arrays) x on in
          let one = tagged_on c (below parents v d.horizon) d.arrays made.0 b made.1 is in
          record {
            level = x;
            there = inl refl;
            array = one.0;
            asked = subst (λ (l : Level). array_asked of_state parents l v ≡ Some one.0) made.2 one.1;
            on = ap (array_on c) here ∙ one.2;
          }
      by x xs on (Some b) is (inr later) rest = later_in x xs (rest later)

-- so each of them is a third live
pub thirds_live : (c : Image) (s : State) (ds : List LevelDesc) (v : ℕ) → IsSound s → all_some (level_on c) ds ≡ Some s.levels → v < length (versions_of s)
    → AreThirdLive c (versions_of s) v (filter_map (λ level. desc_for (versions_of s) level v) ds)
thirds_live c s ds v sound all known = record { each = each }
  where
    each : (a : ArrayDesc) → Contains (filter_map (λ level. desc_for (versions_of s) level v) ds) a
        → (entries : List Entry) × (entries_on c (blocks_of a.extents) ≡ Some entries) × (length entries ≤ 3 * length (live (versions_of s) entries v))
    each a at =
        let is = asked_in c (versions_of s) v a ds s.levels all (contained_at a (filter_map (λ level. desc_for (versions_of s) level v) ds) at.0 at.1 at.2) in
        let made = map_some (λ entries. record { id = a.id; tag = a.versions; content = entries; entries = a.entries; leads = a.leads; least = a.least }) (entries_on c (blocks_of a.extents)) is.array is.on in
        let content : made.0 ≡ is.array.content = ap (λ (t : TaggedArray). t.content) made.2 in (
          is.array.content,
          made.1 ∙ ap (λ (l : List Entry). Some l) content,
          third_live s is.level is.array v sound (among_contained s.levels is.level is.there) known is.asked,
        )

-- the arrays that are asked at a version of a store that stands, too
held_thirds : (w : DiskView) (s : Held) (levels : List Level) (f : Image) (v : ℕ) → IsConsistent s → StandsWith w s (contents_held s levels) → w.content ≡ Some f → has_version s.memory v ≡ true
    → AreThirdLive f s.memory.parents v (arrays_asked s.memory.parents s.levels v)
held_thirds w s levels f v whole stands exposed is =
    let y = contents_state (contents_held s levels) in
    let tree : s.memory.parents ≡ versions_of y = whole.memory.parents in
    let known : v < length (versions_of y) = subst (λ (ps : Parents). v < length ps) tree (there_known s.memory.parents s.memory.marks v is) in
    let g = stands.stands.content in
    let lies = (stands.stands.reads g stands.stands.left).lies.arrays in
    let one : AreThirdLive g (versions_of y) v (filter_map (λ level. desc_for (versions_of y) level v) s.chained.manifest.levels) = thirds_live g y s.chained.manifest.levels v stands.stands.sound lies known in
    let both : Some g ≡ Some f = sym stands.stands.exposed ∙ exposed in
    let here : g ≡ f = cc in
    subst (λ (c : Image). AreThirdLive c s.memory.parents v (arrays_asked s.memory.parents s.levels v)) here
    (subst (λ (ds : List LevelDesc). AreThirdLive g s.memory.parents v (filter_map (λ level. desc_for s.memory.parents level v) ds)) (sym whole.placed.listed_are)
    (subst (λ (ps : Parents). AreThirdLive g ps v (filter_map (λ level. desc_for ps level v) s.chained.manifest.levels)) (sym tree) one))

pub asked_thirds : (w : DiskView) (s : Held) (x : Contents) (f : Image) (v : ℕ) → IsConsistent s → StandsWith w s x → w.content ≡ Some f → has_version s.memory v ≡ true
    → AreThirdLive f s.memory.parents v (arrays_asked s.memory.parents s.levels v)
asked_thirds w s x f v whole stands exposed is = held_thirds w s x.levels f v whole (subst (StandsWith w s) stands.held stands) exposed is
