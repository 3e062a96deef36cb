-- How many bytes the next manifest has, and that its superblock is lawful.
use Rattle.std.proofs.Common.{◌≡◌, ◌≤◌, ◌<◌, ◌+◌, ◌*◌, ◌^◌, ℕ, suc, inl, inr, true, false, eqb, leb, ltb, List, [], ◌∷◌, ◌++◌, length, Option, refl, sym, subst, arith, length-append, Bool, cond, if◌then◌else◌, ap, Some}
use Rattle.std.specs.List.{list_all, flat_map, sum_by, IsDistinct}
use Rattle.std.proofs.lemmas.Bool.{and_parts, eqb-true, leb-true, ltb-true, false_from_ne_true}
use Rattle.std.proofs.lemmas.List.Sums.{sum_by-cons, sum_by-append}
use Rattle.std.proofs.lemmas.Map.Steps.{length-le_from_distinct_below}
use Rattle.strat_base.specs.Numbers.{be}
use Rattle.strat_base.specs.declared.descriptors.ArrayDesc.{ArrayDesc}
use Rattle.strat_base.specs.declared.descriptors.Extent.{Extent}
use Rattle.strat_base.specs.declared.descriptors.LevelDesc.{LevelDesc}
use Rattle.strat_base.specs.declared.limits.TheConstants.{LEVELS}
use Rattle.strat_base.proofs.ListFacts.{Among, all_at, any_among, each_from, among_left, among_right, among_flat}
use Rattle.strat_base.proofs.NumberLemmas.{length-be}
use Rattle.def_crash.specs.Image.{Image}
use Rattle.def_bytes.specs.Layout.{first_free, shortest_manifest}
use Rattle.def_bytes.specs.Manifest.{Manifest, versions_in, is_lawful_array, list_bytes, extent_bytes, array_bytes, level_bytes, manifest_bytes, only, mark_bytes}
use Rattle.def_bytes.specs.SuperBlock.{IsLawful}
use Rattle.def_bytes.proofs.ManifestLemmas.{pass_at}
use Rattle.def_split.proofs.ListLemmas.{distinct_head, distinct_tail}
use Rattle.def_promote.specs.Promoted.{SaysTheSame}
use Rattle.def_recovery.specs.Head.{descriptors}
use Rattle.def_recovery.specs.Opening.{has_own_blocks, has_own_versions}
use Rattle.def_recovery.proofs.OpeningLemmas.{manifest_tests, level_tests}
use Rattle.def_recovery.proofs.PassedLemmas.{array_tests}
use Rattle.def_state.specs.Level.{is_distinct}
use Rattle.def_publish.specs.Contents.{Contents, contents_state, named_blocks}
use Rattle.def_publish.specs.Next.{MayBeNext}
use Rattle.def_publish.specs.Publication.{Succeeds}
use Rattle.def_publish.proofs.BelongLemmas as belong
use Rattle.def_publish.proofs.NextLemmas as next
use Rattle.strat_base.specs.Marks.{Marks}
use Rattle.def_state.proofs.MarkLemmas.{pruned_from_test}
use Rattle.def_recovery.specs.Opened.{parents_in}
use Rattle.std.proofs.Math.ListN.{length-map}

-- numbers below another, none of which stands twice, are no more than that
pairs_apart : (xs : List ℕ) → is_distinct xs ≡ true → IsDistinct eqb xs
unfolding IsDistinct
pairs_apart [] h = tt
pairs_apart (x ∷ xs) h = (
  each_from (λ y. eqb x y ≡ false) xs (λ y among. false_from_ne_true (eqb x y) (λ same. distinct_head x xs h (subst (λ (z : ℕ). Among z xs) (sym (eqb-true x y same)) among))),
  pairs_apart xs (distinct_tail x xs h),
)

distinct_few : (xs : List ℕ) (n : ℕ) → is_distinct xs ≡ true → ((x : ℕ) → Among x xs → x < n) → length xs ≤ n
distinct_few xs n h each =
    length-le_from_distinct_below xs n (pairs_apart xs h) (λ q any.
    let found = any_among (eqb q) xs any in
    omega (arith, each found.0 found.1, eqb-true q found.0 found.2))

-- the bytes of lists
versions_long : (vs : List ℕ) → length (flat_map (be 4) vs) ≡ 4 * length vs
versions_long [] = refl
versions_long (v ∷ vs) = omega (arith, length-append (be 4 v) (flat_map (be 4) vs), length-be 4 v, versions_long vs)

extents_long : (xs : List Extent) → length (flat_map extent_bytes xs) ≡ 8 * length xs
extents_long [] = refl
extents_long (x ∷ xs) =
    omega (arith, length-append (extent_bytes x) (flat_map extent_bytes xs), length-append (be 4 x.start) (be 4 x.len), length-be 4 x.start, length-be 4 x.len, extents_long xs)

list_long : {A : Type 0} (bytes : A → List ℕ) (xs : List A) → length (list_bytes bytes xs) ≡ 4 + length (flat_map bytes xs)
list_long bytes xs = omega (arith, length-append (be 4 (length xs)) (flat_map bytes xs), length-be 4 (length xs))

array_long : (a : ArrayDesc) → length (array_bytes a) ≡ 28 + 8 * length a.extents + 4 * length a.versions
array_long a =
    let tags : List ℕ = list_bytes (be 4) a.versions in
    let lists : List ℕ = list_bytes extent_bytes a.extents ++ tags in
    omega (
      arith,
      length-append (be 8 a.id) (be 4 a.entries ++ (be 4 a.leads ++ (be 4 a.least ++ lists))),
      length-append (be 4 a.entries) (be 4 a.leads ++ (be 4 a.least ++ lists)),
      length-append (be 4 a.leads) (be 4 a.least ++ lists),
      length-append (be 4 a.least) lists,
      length-append (list_bytes extent_bytes a.extents) tags,
      length-be 8 a.id,
      length-be 4 a.entries,
      length-be 4 a.leads,
      length-be 4 a.least,
      list_long extent_bytes a.extents,
      list_long (be 4) a.versions,
      extents_long a.extents,
      versions_long a.versions,
    )

-- an array that has an entry, and no more extents than entries
record IsSmall (a : ArrayDesc) : Type 0 where
  some : 1 ≤ a.entries
  few : length a.extents ≤ a.entries

arrays_long : (rs : List ArrayDesc) → ((a : ArrayDesc) → Among a rs → IsSmall a)
    → length (flat_map array_bytes rs) ≤ 36 * sum_by (λ a. a.entries) rs + 4 * length (flat_map (λ a. a.versions) rs)
arrays_long [] each = omega arith
arrays_long (a ∷ rs) each =
    let small = each a (inl refl) in
    omega (
      arith,
      small.some,
      small.few,
      arrays_long rs (λ b among. each b (inr among)),
      array_long a,
      length-append (array_bytes a) (flat_map array_bytes rs),
      length-append a.versions (flat_map (λ (x : ArrayDesc). x.versions) rs),
      sum_by-cons (λ (x : ArrayDesc). x.entries) a rs,
    )

levels_long : (ds : List LevelDesc) → ((d : LevelDesc) → Among d ds → length (flat_map (λ a. a.versions) d.arrays) ≤ 16384) → ((a : ArrayDesc) → Among a (flat_map (λ d. d.arrays) ds) → IsSmall a)
    → length (flat_map level_bytes ds) ≤ 65549 * length ds + 36 * sum_by (λ a. a.entries) (flat_map (λ d. d.arrays) ds)
levels_long [] tags each = omega arith
levels_long (d ∷ ds) tags each =
    let rest : List ArrayDesc = flat_map (λ x. x.arrays) ds in
    omega (
      arith,
      tags d (inl refl),
      arrays_long d.arrays (λ a among. each a (among_left d.arrays rest a among)),
      levels_long ds (λ e among. tags e (inr among)) (λ a among. each a (among_right d.arrays rest a among)),
      length-append (level_bytes d) (flat_map level_bytes ds),
      length-append (be 1 d.number) (be 4 d.horizon ++ list_bytes array_bytes d.arrays),
      length-append (be 4 d.horizon) (list_bytes array_bytes d.arrays),
      length-be 1 d.number,
      length-be 4 d.horizon,
      list_long array_bytes d.arrays,
      sum_by-append (λ (a : ArrayDesc). a.entries) d.arrays rest,
    )

-- the fields that a format has alone
only_few : (format : ℕ) (bytes : List ℕ) → length (only format bytes) ≤ length bytes
only_few format bytes = by (eqb format 2)
  where
    by : (b : Bool) → length (cond b bytes []) ≤ length bytes
    by true = omega arith
    by false = omega arith

marks_long : (marks : Marks) → length (flat_map mark_bytes marks) ≡ length marks
marks_long [] = refl
marks_long (mark ∷ marks) = omega (arith, length-append (mark_bytes mark) (flat_map mark_bytes marks), marks_long marks, length-be 1 (if mark then 1 else 0))

manifest_long : (format : ℕ) (m : Manifest) → length (manifest_bytes format m)
    ≡ 29 + 4 * length m.parents + length (flat_map level_bytes m.levels) + length (only format (be 8 m.compacted)) + length (only format (flat_map mark_bytes m.marks))
unfolding manifest_bytes
manifest_long format m =
    let levels : List ℕ = be 1 (length m.levels) ++ flat_map level_bytes m.levels in
    let marked : List ℕ = only format (flat_map mark_bytes m.marks) ++ levels in
    let parents : List ℕ = flat_map (be 4) m.parents ++ marked in
    let versions : List ℕ = be 4 (versions_in m) ++ parents in
    let arrays : List ℕ = be 8 m.next_array ++ versions in
    let compacted : List ℕ = only format (be 8 m.compacted) ++ arrays in
    omega (
      arith,
      length-append (be 4 m.changes) (be 4 m.updates ++ (be 8 m.written ++ compacted)),
      length-append (be 4 m.updates) (be 8 m.written ++ compacted),
      length-append (be 8 m.written) compacted,
      length-append (only format (be 8 m.compacted)) arrays,
      length-append (be 8 m.next_array) versions,
      length-append (be 4 (versions_in m)) parents,
      length-append (flat_map (be 4) m.parents) marked,
      length-append (only format (flat_map mark_bytes m.marks)) levels,
      length-append (be 1 (length m.levels)) (flat_map level_bytes m.levels),
      length-be 4 m.changes,
      length-be 4 m.updates,
      length-be 8 m.written,
      length-be 8 m.next_array,
      length-be 4 (versions_in m),
      length-be 1 (length m.levels),
      versions_long m.parents,
    )

module _ (f g : Image) (old new : Contents) (made : Option LevelDesc) (taken kept : List LevelDesc) (m : MayBeNext f g old new made taken kept) where
  abbrev now : Manifest
  now = new.chained.manifest

  tags_few : (d : LevelDesc) → Among d now.levels → length (flat_map (λ a. a.versions) d.arrays) ≤ 16384
  tags_few d among =
      let tags : List ℕ = flat_map (λ a. a.versions) d.arrays in
      let own = and_parts (is_distinct tags) (list_all (λ v. ltb v d.horizon) tags) (all_at has_own_versions d now.levels (belong.own_versions f g old new made taken kept m) among) in
      let few = distinct_few tags d.horizon own.0 (λ v there. ltb-true v d.horizon (all_at (λ w. ltb w d.horizon) v tags own.1 there)) in
      omega (arith, few, next.horizon_most f g old new made taken kept m.follows d among, next.versions_bound f g old new made taken kept m.follows)

  small : (a : ArrayDesc) → Among a (descriptors now) → IsSmall a
  small a among =
      let found = among_flat (λ (l : LevelDesc). l.arrays) now.levels a among in
      let level = next.lawful_at f g old new made taken kept m.follows found.0 found.1 in
      let array = all_at (is_lawful_array now.next_array) a found.0.arrays (pass_at (level_tests (versions_in now) now.next_array found.0) 5 level) found.2 in
      let x = next.array_at f g old new made taken kept m.follows found.0 a found.1 found.2 in
      let short = next.extents_few a.extents (pass_at (array_tests now.next_array a) 7 array) in
      record { some = leb-true 1 a.entries (pass_at (array_tests now.next_array a) 2 array); few = omega (arith, short, x.few) }

  marks_count : length now.marks ≡ suc (length now.parents)
  marks_count =
      let pruned = pruned_from_test (parents_in now) now.marks m.follows.is_sound.formed.pruned in
      omega (arith, pruned.len, length-map now.parents (λ p. Some p))

  marks_few : length now.marks ≤ 16384
  marks_few = omega (arith, marks_count, next.versions_bound f g old new made taken kept m.follows)

  pub bytes_few : length (manifest_bytes new.sb.format now) < 2 ^ 31
  bytes_few =
      omega (
        arith,
        manifest_long new.sb.format now,
        only_few new.sb.format (be 8 now.compacted),
        length-be 8 now.compacted,
        only_few new.sb.format (flat_map mark_bytes now.marks),
        marks_long now.marks,
        marks_few,
        levels_long now.levels tags_few small,
        next.entries_all f g old new made taken kept m.follows,
        next.versions_bound f g old new made taken kept m.follows,
        leb-true (length now.levels) LEVELS (pass_at (manifest_tests new.sb.format now) 7 (next.next_lawful f g old new made taken kept m.follows m.few)),
      )

  -- each publication writes the newest format
  shortest : shortest_manifest new.sb.format ≡ 38
  shortest = ap shortest_manifest m.follows.next.promoted.format

  only_there : (bytes : List ℕ) → length (only new.sb.format bytes) ≡ length bytes
  only_there bytes = ap (λ (format : ℕ). length (only format bytes)) m.follows.next.promoted.format

  pub bytes_some : shortest_manifest new.sb.format ≤ length (manifest_bytes new.sb.format now)
  bytes_some =
      omega (
        arith,
        manifest_long new.sb.format now,
        shortest,
        only_there (be 8 now.compacted),
        length-be 8 now.compacted,
        only_there (flat_map mark_bytes now.marks),
        marks_long now.marks,
        marks_count,
      )

  module _ (length_is : new.sb.length ≡ length (manifest_bytes new.sb.format now)) (blocks : List ℕ) (blocks_are : new.chained.blocks ≡ new.sb.manifest ∷ blocks)
      (own : has_own_blocks new.sb new.chained.blocks now ≡ true) (below : new.sb.manifest < 4294967295) where
    super_lawful : IsLawful new.sb
    super_lawful =
        let limits = (next.passed f g old new made taken kept m.follows).limits in
        let promoted = m.follows.next.promoted in
        let generation = (next.few_parts new.sb now m.few).0 in
        let behind = and_parts (is_distinct (named_blocks new)) (list_all (λ b. leb (first_free new.sb.mem) b) (named_blocks new)) own in
        let named : Among new.sb.manifest (named_blocks new) = among_left new.chained.blocks _ new.sb.manifest (subst (Among new.sb.manifest) (sym blocks_are) (inl refl)) in
        record {
          format_least = omega (arith, promoted.format);
          format_most = omega (arith, promoted.format);
          generation_least = omega (arith, m.follows.next.generation);
          generation_fits = omega (arith, generation, next.changes_bound f g old new made taken kept m.follows);
          manifest_least = leb-true (first_free new.sb.mem) new.sb.manifest (all_at (λ b. leb (first_free new.sb.mem) b) new.sb.manifest (named_blocks new) behind.1 named);
          manifest_most = below;
          length_least = omega (arith, length_is, bytes_some);
          length_fits = omega (arith, length_is, bytes_few);
          region_most = omega (arith, m.follows.next.region);
          mem_least = omega (arith, promoted.mem, limits.mem_least);
          mem_most = omega (arith, promoted.mem, limits.mem_most);
          changes_least = omega (arith, promoted.changes_max, limits.changes_least);
          changes_most = omega (arith, promoted.changes_max, limits.changes_most);
          versions_least = omega (arith, promoted.versions_max, limits.versions_least);
          versions_most = omega (arith, promoted.versions_max, limits.versions_most);
        }

    pub next_succeeds : SaysTheSame (contents_state old) (contents_state new) → Succeeds old new
    next_succeeds says = record {
      lawful = super_lawful;
      slot = m.follows.next.slot;
      later = omega (arith, m.follows.next.generation);
      region = m.follows.next.region;
      journal = m.follows.next.promoted.journal;
      sound = m.follows.is_sound;
      says = says;
    }
