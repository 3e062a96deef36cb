-- Each manifest that recovery finds is fit for the passes over its arrays.
use Rattle.std.proofs.Common.{◌≡◌, ◌<◌, ◌≤◌, ◌+◌, ◌*◌, ◌^◌, ◌&&◌, ℕ, true, false, eqb, leb, ltb, inl, inr, List, [], ◌∷◌, ◌++◌, length, Some, Ok, refl, sym, ap, ◌∙◌, subst, arith, length-append}
use Rattle.std.specs.List.{list_all, flat_map, sum_by, IsDistinct}
use Rattle.std.proofs.lemmas.Bool.{and_parts, and_from, eqb-true, leb-true, le-leb, ltb-true, false_from_ne_true}
use Rattle.std.proofs.lemmas.List.Sums.{sum_by-cons}
use Rattle.std.proofs.lemmas.Map.Steps.{length-le_from_distinct_below}
use Rattle.std.proofs.Math.ListN.{length-map}
use Rattle.strat_base.specs.declared.descriptors.ArrayDesc.{ArrayDesc}
use Rattle.strat_base.specs.declared.descriptors.Extent.{Extent}
use Rattle.strat_base.specs.declared.descriptors.LevelDesc.{LevelDesc}
use Rattle.strat_base.specs.declared.limits.TheConstants.{VERSIONS_MAX}
use Rattle.strat_base.proofs.ListFacts.{Among, all_at, all_from, any_among, each_from, among_in_flat}
use Rattle.def_bytes.proofs.ManifestLemmas.{pass_at}
use Rattle.def_bytes.specs.Manifest.{Manifest, versions_in, is_lawful_extent, is_lawful_array, is_lawful_level}
use Rattle.def_crash.specs.Image.{Image}
use Rattle.def_publish.specs.Occupied.{arrays_in}
use Rattle.def_recovery.proofs.OpeningLemmas.{manifest_tests, level_tests}
use Rattle.def_recovery.proofs.PassedLemmas.{array_tests, belonging_tests}
use Rattle.def_recovery.specs.Head.{Head, head_versions, descriptors}
use Rattle.def_recovery.specs.Opened.{parents_in}
use Rattle.def_recovery.specs.Opening.{recover, has_own_versions, is_filled, array_blocks}
use Rattle.def_split.proofs.ListLemmas.{distinct_head, distinct_tail}
use Rattle.def_state.specs.Level.{is_distinct}
use Rattle.def_state.proofs.AppendedLemmas.{length-grown}
use Rattle.strat_check.specs.Fit.{ends_within, is_fit_array, is_fit_level, blocks_of_levels, are_fit}
use Rattle.strat_check.proofs.HeadLemmas.{IsFoundHead, head_found}

-- numbers below another, none of which stands twice, are no more than that

pairs_apart : (xs : List ℕ) → is_distinct xs ≡ true → IsDistinct eqb xs
unfolding IsDistinct
pairs_apart [] h = tt
pairs_apart (x ∷ xs) h = (
  each_from (λ y. eqb x y ≡ false) xs (λ y among. false_from_ne_true (eqb x y) (λ same. distinct_head x xs h (subst (λ (z : ℕ). Among z xs) (sym (eqb-true x y same)) among))),
  pairs_apart xs (distinct_tail x xs h),
)

distinct_few : (xs : List ℕ) (n : ℕ) → is_distinct xs ≡ true → ((x : ℕ) → Among x xs → x < n) → length xs ≤ n
distinct_few xs n h each =
    length-le_from_distinct_below xs n (pairs_apart xs h) (λ q any.
    let found = any_among (eqb q) xs any in
    omega (arith, each found.0 found.1, eqb-true q found.0 found.2))

arrays_few : (arrays : List ArrayDesc) → ((a : ArrayDesc) → Among a arrays → 1 ≤ length a.versions) → length arrays ≤ length (flat_map (λ (a : ArrayDesc). a.versions) arrays)
arrays_few [] each = omega arith
arrays_few (a ∷ arrays) each =
    let here = each a (inl refl) in
    let rest = arrays_few arrays (λ b among. each b (inr among)) in
    let both = length-append a.versions (flat_map (λ (b : ArrayDesc). b.versions) arrays) in
    omega (arith, here, rest, both)

-- blocks, by entries, by leads

blocks_filled : (arrays : List ArrayDesc) → list_all is_filled arrays ≡ true → sum_by (λ (a : ArrayDesc). sum_by (λ (x : Extent). x.len) a.extents) arrays ≤ 2 * sum_by (λ (a : ArrayDesc). a.leads) arrays
blocks_filled [] filled = omega arith
blocks_filled (a ∷ arrays) filled =
    let parts = and_parts (is_filled a) (list_all is_filled arrays) filled in
    let both = and_parts (leb a.entries (2 * a.leads)) (leb (array_blocks a) a.entries) parts.0 in
    let led = leb-true a.entries (2 * a.leads) both.0 in
    let few = leb-true (array_blocks a) a.entries both.1 in
    let rest = blocks_filled arrays parts.1 in
    let one = sum_by-cons (λ (b : ArrayDesc). sum_by (λ (x : Extent). x.len) b.extents) a arrays in
    let two = sum_by-cons (λ (b : ArrayDesc). b.leads) a arrays in
    omega (arith, led, few, rest, one, two)

sum_joined : (g : ArrayDesc → ℕ) (xs ys : List ArrayDesc) → sum_by g (xs ++ ys) ≡ sum_by g xs + sum_by g ys
sum_joined g [] ys = omega arith
sum_joined g (x ∷ xs) ys =
    let rest = sum_joined g xs ys in
    let left = sum_by-cons g x (xs ++ ys) in
    let right = sum_by-cons g x xs in
    omega (arith, rest, left, right)

blocks_all : (levels : List LevelDesc) → blocks_of_levels levels ≡ sum_by (λ (a : ArrayDesc). sum_by (λ (x : Extent). x.len) a.extents) (arrays_in levels)
blocks_all [] = refl
blocks_all (level ∷ levels) =
    let rest = blocks_all levels in
    let cons = sum_by-cons (λ (l : LevelDesc). sum_by (λ (a : ArrayDesc). sum_by (λ (x : Extent). x.len) a.extents) l.arrays) level levels in
    let both = sum_joined (λ (a : ArrayDesc). sum_by (λ (x : Extent). x.len) a.extents) level.arrays (arrays_in levels) in
    omega (arith, rest, cons, both)

module _ (c : Image) (h : Head) (found : recover c ≡ Ok (Some h)) where
  abbrev m : Manifest
  m = h.manifest

  head : IsFoundHead c h
  head = head_found c h found

  own : list_all has_own_versions m.levels ≡ true
  own = ap (λ (x : Manifest). list_all has_own_versions x.levels) (sym head.belonging.2) ∙ pass_at (belonging_tests h.sb head.belonging.0) 2 head.belonging.1

  level_fit : (d : LevelDesc) → Among d m.levels → is_fit_level (length (head_versions h)) d ≡ true
  level_fit d among =
      let lawful = all_at (is_lawful_level (versions_in m) m.next_array) d m.levels (pass_at (manifest_tests head.spelled.0 m) 8 head.spelled.1) among in
      let arrays = pass_at (level_tests (versions_in m) m.next_array d) 5 lawful in
      let old = leb-true d.horizon (versions_in m) (pass_at (level_tests (versions_in m) m.next_array d) 3 lawful) in
      let grown = length-grown (parents_in m) h.journal in
      let count = length-map m.parents (λ (p : ℕ). Some p) in
      let most = leb-true (versions_in m) VERSIONS_MAX (pass_at (manifest_tests head.spelled.0 m) 5 head.spelled.1) in
      let tags : List ℕ = flat_map (λ (a : ArrayDesc). a.versions) d.arrays in
      let apart = and_parts (is_distinct tags) (list_all (λ v. ltb v d.horizon) tags) (all_at has_own_versions d m.levels own among) in
      let few = distinct_few tags d.horizon apart.0 (λ v there. ltb-true v d.horizon (all_at (λ u. ltb u d.horizon) v tags apart.1 there)) in
      let some = arrays_few d.arrays (λ a here.
      leb-true 1 (length a.versions) (and_parts (leb 1 (length a.versions)) (ltb (length a.versions) (2 ^ 32)) (pass_at (array_tests m.next_array a) 9 (all_at (is_lawful_array m.next_array) a d.arrays arrays here))).0) in
      and_from (leb d.number 22 && leb d.horizon (length (head_versions h)) && leb (length d.arrays) 16384) (list_all (is_fit_array d.horizon) d.arrays)
      (and_from (leb d.number 22 && leb d.horizon (length (head_versions h))) (leb (length d.arrays) 16384)
      (and_from (leb d.number 22) (leb d.horizon (length (head_versions h)))
      (pass_at (level_tests (versions_in m) m.next_array d) 1 lawful)
      (le-leb d.horizon (length (head_versions h)) (omega (arith, old, grown, count))))
      (le-leb (length d.arrays) 16384 (omega (arith, some, few, old, most))))
      (all_from (is_fit_array d.horizon) d.arrays (λ a here.
      and_from (list_all ends_within a.extents) (list_all (λ v. ltb v d.horizon) a.versions)
      (all_from ends_within a.extents (λ x there.
      let one = all_at is_lawful_extent x a.extents (pass_at (array_tests m.next_array a) 7 (all_at (is_lawful_array m.next_array) a d.arrays arrays here)) there in
      let below = ltb-true (x.start + x.len) (2 ^ 32) (and_parts (leb 1 x.len) (ltb (x.start + x.len) (2 ^ 32)) one).1 in
      le-leb (x.start + x.len) 4294967295 (omega (arith, below))))
      (all_from (λ v. ltb v d.horizon) a.versions (λ v there. all_at (λ u. ltb u d.horizon) v tags apart.1 (among_in_flat (λ (b : ArrayDesc). b.versions) d.arrays a v here there)))))

  pub found_fit : are_fit (length (head_versions h)) m.levels ≡ true
  found_fit =
      let tests = belonging_tests h.sb head.belonging.0 in
      let filled = ap (λ (x : Manifest). list_all is_filled (descriptors x)) (sym head.belonging.2) ∙ pass_at tests 6 head.belonging.1 in
      let led = leb-true (sum_by (λ (a : ArrayDesc). a.leads) (descriptors m)) m.updates (ap (λ (x : Manifest). leb (sum_by (λ (a : ArrayDesc). a.leads) (descriptors x)) x.updates) (sym head.belonging.2) ∙ pass_at tests 5 head.belonging.1) in
      let changes = leb-true m.changes h.sb.changes_max (ap (λ (x : Manifest). leb x.changes h.sb.changes_max) (sym head.belonging.2) ∙ pass_at tests 4 head.belonging.1) in
      let updates = leb-true m.updates m.changes (pass_at (manifest_tests head.spelled.0 m) 1 head.spelled.1) in
      let blocks = blocks_filled (descriptors m) filled in
      let all = blocks_all m.levels in
      let most = head.limit in
      and_from (list_all (is_fit_level (length (head_versions h))) m.levels) (leb (blocks_of_levels m.levels) 33554432)
      (all_from (is_fit_level (length (head_versions h))) m.levels level_fit)
      (le-leb (blocks_of_levels m.levels) 33554432 (omega (arith, led, changes, updates, blocks, all, most)))
