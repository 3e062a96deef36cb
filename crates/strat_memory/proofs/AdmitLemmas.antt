-- Whether a store may have a manifest that was read.
use Rattle.std.proofs.Common.{◌≡◌, ◌≤◌, ◌^◌, ℕ, Bool, true, false, ltb, inl, inr, List, [], ◌∷◌, get_or, map, Option, Some, None, Result, Ok, Err, refl, sym, ap, ◌∙◌, subst, arith, true≢false, ◌<◌, ◌-◌, zero, suc, cond, eqb, leb, not, ◌&&◌}
use Rattle.std.specs.List.{list_all, sum_by, list_any}
use Rattle.std.specs.Prelude.{IfOk, IfSome, IfNone, option_map}
use Rattle.std.proofs.lemmas.Bool.{leb-true, ltb-true, false_from_ne_true, and_parts, and_from, lt-ltb}
use Rattle.std.proofs.lemmas.List.Sums.{sum_by-append}
use Rattle.strat_base.proofs.ListFacts.{Among, all_at, all_from, among_flat}
use Rattle.strat_base.specs.declared.descriptors.ArrayDesc.{ArrayDesc}
use Rattle.strat_base.specs.declared.descriptors.Extent.{Extent}
use Rattle.strat_base.specs.declared.descriptors.LevelDesc.{LevelDesc}
use Rattle.def_bytes.specs.Arrays.{blocks_of}
use Rattle.def_bytes.specs.Chained.{Chained, link_at, may_follow, chain_from, chained_bytes, manifest_filled, manifest_in_chain, manifest_at}
use Rattle.def_bytes.specs.Layout.{first_free, newest_format}
use Rattle.def_bytes.specs.Manifest.{Manifest, is_lawful_manifest, is_lawful_level, is_lawful_array, is_lawful_extent, is_rising, versions_in}
use Rattle.def_bytes.specs.SuperBlock.{Super}
use Rattle.def_bytes.proofs.ManifestLemmas.{pass_at}
use Rattle.def_recovery.specs.Head.{descriptors}
use Rattle.def_recovery.specs.Opening.{has_own_blocks, has_own_ids, has_own_versions, belongs}
use Rattle.def_recovery.proofs.OpeningLemmas.{manifest_tests, level_tests, map_some}
use Rattle.def_recovery.proofs.PassedLemmas.{array_tests, belonging_tests}
use Rattle.def_publish.proofs.ListLemmas.{contained_among}
use Rattle.def_publish.proofs.NextLemmas.{pass_more, pass_none}
use Rattle.def_publish.proofs.OccupiedLemmas
use Rattle.def_publish.specs.Contents.{Contents, named_blocks}
use Rattle.def_publish.specs.Occupied.{IsSpaceOf, arrays_in, extents_of}
use Rattle.strat_extent.specs.Blocks.{SpaceView}
use Rattle.def_state.specs.Level.{is_distinct}
use Rattle.strat_memory.specs.Belonging.{UsesJust}
use Rattle.strat_memory.specs.Held.{ArePlaced}
use Rattle.strat_memory.specs.Admitting.{MayBePlaced, counts_belong, count_tests, chained_of, IsAdmitted}
use Rattle.strat_memory.specs.declared.admitting.Published.{Published}
use Rattle.def_crash.specs.Image.{Image}
use Rattle.def_bytes.specs.Chain.{chain_length}
use Rattle.def_bytes.specs.Damage.{put_first}
use Rattle.def_bytes.proofs.DamageLemmas.{and_then_ok, passed_ok, found_ok, put_first_ok}

-- the tests that a manifest belongs, one by one
module _ (sb : Super) (y : Chained) where
  pub belongs_from : has_own_blocks sb y.blocks y.manifest ≡ true → has_own_ids y.manifest ≡ true → counts_belong sb y.manifest ≡ true → list_all has_own_versions y.manifest.levels ≡ true → belongs sb y ≡ true
  belongs_from blocks ids counts versions =
      let at : (k : ℕ) → get_or (count_tests sb y.manifest) k true ≡ true = λ k. pass_at (count_tests sb y.manifest) k counts in
      pass_more _ _ blocks (pass_more _ _ ids (pass_more _ _ versions
      (pass_more _ _ (at 0) (pass_more _ _ (at 1) (pass_more _ _ (at 2) (pass_more _ _ (at 3) (pass_more _ _ (at 4) pass_none)))))))

  fails : (k : ℕ) → get_or (belonging_tests sb y) k true ≡ false → belongs sb y ≡ false
  fails k no' = false_from_ne_true (belongs sb y) (λ all. true≢false (sym (pass_at (belonging_tests sb y) k all) ∙ no'))

  pub blocks_fail : has_own_blocks sb y.blocks y.manifest ≡ false → belongs sb y ≡ false
  blocks_fail = fails 0

  pub ids_fail : has_own_ids y.manifest ≡ false → belongs sb y ≡ false
  ids_fail = fails 1

  pub versions_fail : list_all has_own_versions y.manifest.levels ≡ false → belongs sb y ≡ false
  versions_fail = fails 2

  pub counts_fail : counts_belong sb y.manifest ≡ false → belongs sb y ≡ false
  counts_fail no' = false_from_ne_true (belongs sb y) (λ all.
      let at : (k : ℕ) → get_or (belonging_tests sb y) k true ≡ true = λ k. pass_at (belonging_tests sb y) k all in
      let counts : counts_belong sb y.manifest ≡ true =
      pass_more _ _ (at 3) (pass_more _ _ (at 4) (pass_more _ _ (at 5) (pass_more _ _ (at 6) (pass_more _ _ (at 7) pass_none)))) in
      true≢false (sym counts ∙ no'))

-- the leads of one level are not more than those of all
leads_within : (levels : List LevelDesc) (level : LevelDesc) → Among level levels → sum_by (λ (a : ArrayDesc). a.leads) level.arrays ≤ sum_by (λ (a : ArrayDesc). a.leads) (arrays_in levels)
leads_within [] level there = absurd there
leads_within (l ∷ levels) level (inl here) =
    subst (λ (z : LevelDesc). sum_by (λ (a : ArrayDesc). a.leads) z.arrays ≤ sum_by (λ (a : ArrayDesc). a.leads) (arrays_in (l ∷ levels))) (sym here)
    (omega (arith, sum_by-append (λ (a : ArrayDesc). a.leads) l.arrays (arrays_in levels)))
leads_within (l ∷ levels) level (inr there) = omega (arith, sum_by-append (λ (a : ArrayDesc). a.leads) l.arrays (arrays_in levels), leads_within levels level there)

module _ (m : Manifest) (lawful : is_lawful_manifest newest_format m ≡ true) where
  level_lawful : (level : LevelDesc) → Among level m.levels → is_lawful_level (versions_in m) m.next_array level ≡ true
  level_lawful level there = all_at (is_lawful_level (versions_in m) m.next_array) level m.levels (pass_at (manifest_tests newest_format m) 8 lawful) there

  array_lawful : (level : LevelDesc) (a : ArrayDesc) → Among level m.levels → Among a level.arrays → is_lawful_array m.next_array a ≡ true
  array_lawful level a there here = all_at (is_lawful_array m.next_array) a level.arrays (pass_at (level_tests (versions_in m) m.next_array level) 5 (level_lawful level there)) here

  -- its levels may come into memory, where they have no more leads than updates
  pub may_be_placed : (sb : Super) → counts_belong sb m ≡ true → MayBePlaced m.levels
  may_be_placed sb counts = record {
    each = λ level of.
        let there = contained_among m.levels level of in
        let one = level_lawful level there in
        let tests = level_tests (versions_in m) m.next_array level in
        record {
          least = leb-true 1 level.number (pass_at tests 0 one);
          most = leb-true level.number 22 (pass_at tests 1 one);
          horizon = leb-true 1 level.horizon (pass_at tests 2 one);
          rising = all_from (λ (a : ArrayDesc). is_rising a.versions) level.arrays (λ a here. pass_at (array_tests m.next_array a) 11 (array_lawful level a there here));
          leads = omega (
            arith,
            leads_within m.levels level there,
            leb-true (sum_by (λ (a : ArrayDesc). a.leads) (descriptors m)) m.updates (pass_at (count_tests sb m) 2 counts),
            leb-true m.updates m.changes (pass_at (manifest_tests newest_format m) 1 lawful),
            ltb-true m.changes (2 ^ 32) (pass_at (manifest_tests newest_format m) 0 lawful),
          );
        };
    rise = pass_at (manifest_tests newest_format m) 9 lawful;
  }

  -- and its extents are lawful
  pub extents_lawful : list_all is_lawful_extent (extents_of (arrays_in m.levels)) ≡ true
  extents_lawful = all_from is_lawful_extent (extents_of (arrays_in m.levels)) (λ x among.
      let array = among_flat (λ (a : ArrayDesc). a.extents) (arrays_in m.levels) x among in
      let level = among_flat (λ (l : LevelDesc). l.arrays) m.levels array.0 array.1 in
      all_at is_lawful_extent x array.0.extents (pass_at (array_tests m.next_array array.0) 7 (array_lawful level.0 array.0 level.1 level.2)) array.2)

-- the outcome of the test of numbers, told of a list of the levels
pub ids_are : (m : Manifest) (levels : List LevelDesc) (own b : Bool) → levels ≡ m.levels → own ≡ is_distinct (map (λ a. a.id) (arrays_in levels)) → own ≡ b → has_own_ids m ≡ b
ids_are m levels own b same is outcome = ap (λ (ls : List LevelDesc). is_distinct (map (λ (a : ArrayDesc). a.id) (arrays_in ls))) (sym same) ∙ sym is ∙ outcome

-- a chain of these extents with this manifest, as contents
abbrev contents_of : Super → Manifest → List Extent → Contents
contents_of sb m chain = record { slot = 0; sb = sb; chained = record { manifest = m; blocks = blocks_of chain }; journal = []; levels = [] }

module _ {E : Type 0} (sb : Super) (m : Manifest) (chain : List Extent) (levels : List LevelDesc) (same : levels ≡ m.levels) where
  -- where its blocks are its own a manifest belongs, if its versions are
  pub space_kept : (r : Result (Option SpaceView) E)
      → IfOk r (λ own. IfSome own (λ space. (x : Contents) → x.sb.mem ≡ sb.mem → x.chained.blocks ≡ blocks_of chain → x.chained.manifest.levels ≡ levels
      → IsSpaceOf space x [] × UsesJust space (first_free x.sb.mem) (named_blocks x)))
      → has_own_ids m ≡ true → counts_belong sb m ≡ true
      → IfOk r (λ own. IfSome own (λ space. list_all has_own_versions m.levels ≡ true → belongs sb (record { manifest = m; blocks = blocks_of chain }) ≡ true))
  space_kept (Ok (Some space)) is ids counts = λ versions.
      belongs_from sb (record { manifest = m; blocks = blocks_of chain })
      (OccupiedLemmas.own_blocks space (contents_of sb m chain) [] (is (contents_of sb m chain) refl refl (sym same)).0) ids counts versions
  space_kept (Ok None) is ids counts = tt
  space_kept (Err e) is ids counts = tt

  pub space_none : (r : Result (Option SpaceView) E)
      → IfOk r (λ own. IfNone own ((s : Super) (n : Manifest) → s.mem ≡ sb.mem → n.levels ≡ levels → list_all (λ b. ltb b 4294967295) (blocks_of chain) ≡ true
      → list_all is_lawful_extent (extents_of (arrays_in levels)) ≡ true → has_own_blocks s (blocks_of chain) n ≡ false))
      → IfOk r (λ own. IfNone own (is_lawful_manifest newest_format m ≡ true → list_all (λ b. ltb b 4294967295) (blocks_of chain) ≡ true
      → belongs sb (record { manifest = m; blocks = blocks_of chain }) ≡ false))
  space_none (Ok None) is = λ lawful low.
      blocks_fail sb (record { manifest = m; blocks = blocks_of chain })
      (is sb m refl (sym same) low (ap (λ (ls : List LevelDesc). list_all is_lawful_extent (extents_of (arrays_in ls))) same ∙ extents_lawful m lawful))
  space_none (Ok (Some space)) is = tt
  space_none (Err e) is = tt

-- what was taken into memory of a manifest with its levels in their places
pub admitted : (sb : Super) (m : Manifest) (chain : List Extent) (levels : List (Option LevelDesc)) (p : Published) → chained_of p ≡ record { manifest = m; blocks = blocks_of chain } → p.levels ≡ levels
    → ArePlaced m.levels levels → is_lawful_manifest newest_format m ≡ true → list_all has_own_versions m.levels ≡ true
    → (list_all has_own_versions m.levels ≡ true → belongs sb (record { manifest = m; blocks = blocks_of chain }) ≡ true) → IsAdmitted sb p
admitted sb m chain levels p read levels_are placed lawful versions own = record {
  spelled = subst (λ (y : Chained). is_lawful_manifest newest_format y.manifest ≡ true) (sym read) lawful;
  belonging = subst (λ (y : Chained). belongs sb y ≡ true) (sym read) (own versions);
  placed = subst (λ (y : Chained). ArePlaced y.manifest.levels p.levels) (sym read) (subst (λ (ls : List (Option LevelDesc)). ArePlaced m.levels ls) (sym levels_are) placed);
}

-- each block of a chain has a number
chain_low : (c : Image) (before : List ℕ) (b n : ℕ) (blocks : List ℕ) → b < 4294967295 → chain_from c before b n ≡ Ok blocks → list_all (λ x. ltb x 4294967295) blocks ≡ true
unfolding chain_from
chain_low c before b zero blocks low e =
    let passed = passed_ok b (eqb (link_at c b) 0) (b ∷ []) blocks e in
    subst (λ (xs : List ℕ). list_all (λ x. ltb x 4294967295) xs ≡ true) passed.1 (and_from (ltb b 4294967295) true (lt-ltb b 4294967295 low) refl)
chain_low c before b (suc n) blocks low e = by_test (may_follow (b ∷ before) (link_at c b)) refl (λ xs less. chain_low c (b ∷ before) (link_at c b) n xs less) e
  where
    by_test : (t : Bool) → may_follow (b ∷ before) (link_at c b) ≡ t
        → ((xs : List ℕ) → link_at c b < 4294967295 → chain_from c (b ∷ before) (link_at c b) n ≡ Ok xs → list_all (λ x. ltb x 4294967295) xs ≡ true)
        → cond t (put_first b (chain_from c (b ∷ before) (link_at c b) n)) (Err b) ≡ Ok blocks → list_all (λ x. ltb x 4294967295) blocks ≡ true
    by_test false is later e = absurd (cc)
    by_test true is later e =
        let parts = put_first_ok b (chain_from c (b ∷ before) (link_at c b) n) blocks e in
        let next = and_parts (leb 1 (link_at c b) && ltb (link_at c b) 4294967295) (not (list_any (λ other. eqb other (link_at c b)) (b ∷ before))) is in
        let less = and_parts (leb 1 (link_at c b)) (ltb (link_at c b) 4294967295) next.0 in
        subst (λ (xs : List ℕ). list_all (λ x. ltb x 4294967295) xs ≡ true) parts.2
        (and_from (ltb b 4294967295) (list_all (λ x. ltb x 4294967295) parts.0) (lt-ltb b 4294967295 low)
        (later parts.0 (ltb-true (link_at c b) 4294967295 less.1) parts.1))

pub manifest_low : (format : ℕ) (c : Image) (first n : ℕ) (y : Chained) → first < 4294967295 → manifest_at format c first n ≡ Ok y → list_all (λ x. ltb x 4294967295) y.blocks ≡ true
manifest_low format c first n y low e =
    let chain = and_then_ok (chain_from c [] first (chain_length n - 1)) (manifest_in_chain format c first n) y e in
    let made = map_some (λ m. record { manifest = m; blocks = chain.0 }) (manifest_filled format n (chained_bytes c chain.0)) y (found_ok first (option_map (λ m. record { manifest = m; blocks = chain.0 }) (manifest_filled format n (chained_bytes c chain.0))) y chain.2) in
    subst (λ (x : Chained). list_all (λ b. ltb b 4294967295) x.blocks ≡ true) made.2 (chain_low c [] first (chain_length n - 1) chain.0 low chain.1)
