-- The arrays of a manifest have numbers of their own, and without cursors a store keeps these alone.
use Rattle.std.proofs.Common.{◌≡◌, ◌<◌, true, leb, List, [], ◌++◌, Contains, flat_map, Option, sym, ap, subst, ◌∙◌, append-nil, arith, ℕ, ltb, inl, inr, ◌∷◌}
use Rattle.std.specs.List.{list_all}
use Rattle.std.proofs.lemmas.Bool.{and_parts, ltb-true, leb-true}
use Rattle.strat_base.specs.declared.descriptors.ArrayDesc.{ArrayDesc}
use Rattle.strat_base.specs.declared.descriptors.LevelDesc.{LevelDesc}
use Rattle.strat_cursor.specs.Cursors.{are_named, arrays_named}
use Rattle.strat_cursor.specs.Held.{HeldCursors, no_cursors}
use Rattle.strat_cursor.specs.Looking.{HaveOwnIds, arrays_there}
use Rattle.strat_extent.specs.Blocks.{times_in}
use Rattle.def_bytes.proofs.ManifestLemmas.{pass_at}
use Rattle.def_bytes.specs.Layout.{first_free, newest_format}
use Rattle.def_bytes.specs.Chained.{Chained}
use Rattle.def_bytes.specs.Manifest.{is_lawful_manifest, versions_in, is_lawful_array, is_lawful_level}
use Rattle.def_bytes.specs.SuperBlock.{Super}
use Rattle.def_recovery.proofs.OpeningLemmas.{manifest_tests, level_tests}
use Rattle.def_recovery.proofs.PassedLemmas.{array_tests, belonging_tests}
use Rattle.def_recovery.specs.Head.{descriptors}
use Rattle.def_recovery.specs.Opening.{belongs, has_own_versions}
use Rattle.def_publish.proofs.ListLemmas.{contained_among}
use Rattle.def_publish.specs.Occupied.{extents_of}
use Rattle.def_state.specs.Level.{is_distinct}
use Rattle.strat_memory.proofs.OwnLemmas.{once_counted}
use Rattle.strat_memory.specs.Held.{AreKept, ArePlaced, arrays_held, blocks_named}
use Rattle.strat_memory.specs.Memory.{Memory}
use Rattle.strat_base.proofs.ListFacts.{Among, all_at, among_split, among_in_flat}
use Rattle.strat_base.specs.Entries.{is_tagged}
use Rattle.def_state.proofs.LevelLemmas.{tagged_among}

-- each array of lawful levels is lawful, and its versions are there
pub array_lawful : (versions next : ℕ) (ds : List LevelDesc) → list_all (is_lawful_level versions next) ds ≡ true → list_all has_own_versions ds ≡ true → (a : ArrayDesc)
    → Among a (flat_map (λ (d : LevelDesc). d.arrays) ds) → (is_lawful_array next a ≡ true) × ((v : ℕ) → is_tagged a.versions v ≡ true → v < versions)
array_lawful versions next [] lawful own a among = absurd among
array_lawful versions next (d ∷ ds) lawful own a among =
    let laws = and_parts (is_lawful_level versions next d) (list_all (is_lawful_level versions next) ds) lawful in
    let owns = and_parts (has_own_versions d) (list_all has_own_versions ds) own in
    elim (among_split d.arrays (flat_map (λ (e : LevelDesc). e.arrays) ds) a among) [
      | inl here ↦ (
        all_at (is_lawful_array next) a d.arrays (pass_at (level_tests versions next d) 5 laws.0) here,
        λ v tagged.
            let tags : List ℕ = flat_map (λ (b : ArrayDesc). b.versions) d.arrays in
            let low = (and_parts (is_distinct tags) (list_all (λ u. ltb u d.horizon) tags) owns.0).1 in
            let there = among_in_flat (λ (b : ArrayDesc). b.versions) d.arrays a v here (tagged_among a.versions v tagged) in
            let lt = ltb-true v d.horizon (all_at (λ u. ltb u d.horizon) v tags low there) in
            let le = leb-true d.horizon versions (pass_at (level_tests versions next d) 3 laws.0) in
            omega (arith, lt, le),
      )
      | inr there ↦ array_lawful versions next ds laws.1 owns.1 a there
    ]

-- the arrays of a manifest that belongs have numbers of their own, below the next one
module _ (sb : Super) (chained : Chained) (levels : List (Option LevelDesc)) (placed : ArePlaced chained.manifest.levels levels)
    (spelled : is_lawful_manifest newest_format chained.manifest ≡ true) (belonging : belongs sb chained ≡ true) where
  listed : arrays_there levels ≡ descriptors chained.manifest
  listed = ap (flat_map (λ (l : LevelDesc). l.arrays)) placed.listed_are

  pub own_numbers : HaveOwnIds (arrays_there levels)
  own_numbers = subst HaveOwnIds (sym listed) (pass_at (belonging_tests sb chained) 1 belonging)

  pub low_numbers : (a : ArrayDesc) → Contains (arrays_there levels) a → a.id < chained.manifest.next_array
  low_numbers a of =
      let lawful = array_lawful (versions_in chained.manifest) chained.manifest.next_array chained.manifest.levels (pass_at (manifest_tests newest_format chained.manifest) 8 spelled) (pass_at (belonging_tests sb chained) 2 belonging) in
      ltb-true a.id chained.manifest.next_array (pass_at (array_tests chained.manifest.next_array a) 1
      (lawful a (contained_among (descriptors chained.manifest) a (subst (λ (rs : List ArrayDesc). Contains rs a) listed of))).0)

  -- without cursors all that is named is there
  pub kept_without : (m : Memory) → m.cursors ≡ no_cursors → AreKept sb chained levels m
  kept_without m none =
      let all : arrays_held m levels ≡ arrays_there levels = ap (λ (c : HeldCursors). arrays_there levels ++ c.retired) none ∙ append-nil (arrays_there levels) in
      record {
        named = λ a of. absurd (contained_among [] a (subst (λ (c : HeldCursors). Contains (arrays_named c.opened) a) none of));
        needed = ap (λ (c : HeldCursors). are_named c.opened c.retired) none;
        ids = subst HaveOwnIds (sym all) own_numbers;
        below = λ a of. low_numbers a (subst (λ (rs : List ArrayDesc). Contains rs a) all of);
        within = λ b some.
            let few : times_in (extents_of m.cursors.retired) b ≡ 0 = ap (λ (c : HeldCursors). times_in (extents_of c.retired) b) none in
            absurd (omega (arith, some, few));
        once = λ b.
            let few : times_in (extents_of m.cursors.retired) b ≡ 0 = ap (λ (c : HeldCursors). times_in (extents_of c.retired) b) none in
            let own = and_parts (is_distinct (blocks_named chained)) (list_all (λ k. leb (first_free sb.mem) k) (blocks_named chained)) (pass_at (belonging_tests sb chained) 0 belonging) in
            omega (arith, once_counted (blocks_named chained) b own.0, few);
        few = λ c of. absurd (contained_among [] c (subst (λ (h : HeldCursors). Contains h.opened c) none of));
      }
