-- A store uses few blocks: those of its manifest and of its arrays, and those of the arrays that its cursors name.
use Rattle.std.proofs.Common.{◌≡◌, ◌<◌, ◌≤◌, ◌+◌, ◌-◌, ◌*◌, ◌^◌, ℕ, zero, suc, Bool, true, false, cond, eqb, leb, inl, inr, List, [], ◌∷◌, ◌++◌, length, flat_map, Option, None, Some, Ok, Err, option_map, refl, sym, ap, ◌∙◌, subst, arith}
use Rattle.std.specs.List.{cons_option, count_by, filter_map, list_all, list_any, sum_by}
use Rattle.std.proofs.lemmas.Bool.{and_parts, eqb-true, leb-true}
use Rattle.std.proofs.lemmas.List.Concat.{flat_map-append}
use Rattle.std.proofs.lemmas.List.Sums.{sum_by-cons}
use Rattle.strat_base.proofs.ListFacts.{Among, all_at, among_in_flat, among_right, any_among, find_some}
use Rattle.strat_base.specs.Tree.{Parents, below}
use Rattle.strat_base.specs.declared.descriptors.ArrayDesc.{ArrayDesc}
use Rattle.strat_base.specs.declared.descriptors.Extent.{Extent}
use Rattle.strat_base.specs.declared.descriptors.LevelDesc.{LevelDesc}
use Rattle.def_crash.specs.Image.{Image}
use Rattle.def_crash.specs.Moments.{DiskView}
use Rattle.strat_cursor.proofs.ThroughLemmas.{id_names}
use Rattle.strat_cursor.specs.Cursors.{arrays_named, is_array_named}
use Rattle.strat_cursor.specs.Held.{HeldCursor}
use Rattle.strat_cursor.specs.Looking.{arrays_there}
use Rattle.strat_extent.proofs.BlockLemmas.{times_listed, total_listed}
use Rattle.strat_extent.proofs.CountLemmas.{times_append, total_append}
use Rattle.strat_extent.specs.Blocks.{SpaceView, times_in, total_len, used_count, uses}
use Rattle.def_bytes.proofs.ManifestLemmas.{pass_at}
use Rattle.def_bytes.proofs.DamageLemmas.{and_then_ok, found_ok, passed_ok, put_first_ok}
use Rattle.def_bytes.specs.Arrays.{blocks_of}
use Rattle.def_bytes.specs.Chain.{chain_length}
use Rattle.def_bytes.specs.Chained.{Chained, chain_from, chained_bytes, link_at, manifest_at, manifest_filled, manifest_in_chain, may_follow}
use Rattle.def_bytes.specs.Damage.{put_first}
use Rattle.def_bytes.specs.Layout.{first_free, newest_format}
use Rattle.def_bytes.specs.Manifest.{Manifest}
use Rattle.strat_level.specs.Levels.{desc_for, is_for}
use Rattle.def_recovery.proofs.OpeningLemmas.{manifest_tests, map_some}
use Rattle.def_recovery.proofs.PassedLemmas.{belonging_tests}
use Rattle.def_recovery.specs.Head.{descriptors}
use Rattle.def_recovery.specs.Opening.{array_blocks, is_filled}
use Rattle.def_publish.proofs.ListLemmas.{among_contained, contained_among}
use Rattle.def_publish.proofs.OccupiedLemmas.{named_times}
use Rattle.def_publish.specs.Contents.{Contents}
use Rattle.def_publish.specs.Occupied.{IsSpaceOf, extents_of}
use Rattle.strat_memory.specs.Held.{Held, IsConsistent, StandsWith, arrays_held, contents_held}

-- the blocks of two lists of arrays
total_both : (xs ys : List ArrayDesc) → total_len (extents_of (xs ++ ys)) ≡ total_len (extents_of xs) + total_len (extents_of ys)
total_both xs ys = ap total_len (flat_map-append (λ (a : ArrayDesc). a.extents) xs ys) ∙ total_append (extents_of xs) (extents_of ys)

total_first : (a : ArrayDesc) (arrays : List ArrayDesc) → total_len (extents_of (a ∷ arrays)) ≡ total_len a.extents + total_len (extents_of arrays)
total_first a arrays = total_append a.extents (extents_of arrays)

-- an array has as many blocks as its extents
blocks_total : (xs : List Extent) → sum_by (λ (x : Extent). x.len) xs ≡ total_len xs
blocks_total [] = refl
blocks_total (x ∷ xs) = omega (arith, blocks_total xs, sum_by-cons (λ (y : Extent). y.len) x xs)

-- arrays that are filled have no more blocks than twice their leads
filled_total : (arrays : List ArrayDesc) → list_all is_filled arrays ≡ true → total_len (extents_of arrays) ≤ 2 * sum_by (λ (a : ArrayDesc). a.leads) arrays
filled_total [] all = omega arith
filled_total (a ∷ arrays) all =
    let parts = and_parts (is_filled a) (list_all is_filled arrays) all in
    let fits = and_parts (leb a.entries (2 * a.leads)) (leb (array_blocks a) a.entries) parts.0 in
    let led = leb-true a.entries (2 * a.leads) fits.0 in
    let few = leb-true (array_blocks a) a.entries fits.1 in
    omega (arith, led, few, blocks_total a.extents, total_first a arrays, filled_total arrays parts.1, sum_by-cons (λ (d : ArrayDesc). d.leads) a arrays)

-- the arrays of the levels of a store have few blocks
module _ (s : Held) (whole : IsConsistent s) where
  pub manifest_total : total_len (extents_of (descriptors s.chained.manifest)) ≤ 2 ^ 25
  manifest_total =
      let m : Manifest = s.chained.manifest in
      let tests = belonging_tests s.sb s.chained in
      let changes = leb-true m.changes s.sb.changes_max (pass_at tests 4 whole.belonging) in
      let updates = leb-true m.updates m.changes (pass_at (manifest_tests newest_format m) 1 whole.spelled) in
      let led = leb-true (sum_by (λ (a : ArrayDesc). a.leads) (descriptors m)) m.updates (pass_at tests 5 whole.belonging) in
      let filled = filled_total (descriptors m) (pass_at tests 6 whole.belonging) in
      omega (arith, changes, updates, led, filled, whole.lawful.changes_most)

  pub there_total : total_len (extents_of (arrays_there s.levels)) ≤ 2 ^ 25
  there_total =
      let listed = ap (λ (ls : List LevelDesc). total_len (extents_of (flat_map (λ (l : LevelDesc). l.arrays) ls))) whole.placed.listed_are in
      omega (arith, listed, manifest_total)

-- one of some arrays has no more blocks than all
one_total : (arrays : List ArrayDesc) (a : ArrayDesc) → Among a arrays → total_len a.extents ≤ total_len (extents_of arrays)
one_total [] a among = absurd among
one_total (x ∷ arrays) a (inl here) = omega (arith, total_first x arrays, ap (λ (d : ArrayDesc). total_len d.extents) here)
one_total (x ∷ arrays) a (inr there) = omega (arith, total_first x arrays, one_total arrays a there)

-- so have those that are asked at a version
pub asked_total : (parents : Parents) (levels : List LevelDesc) (v : ℕ)
    → total_len (extents_of (filter_map (λ level. desc_for parents level v) levels)) ≤ total_len (extents_of (flat_map (λ (l : LevelDesc). l.arrays) levels))
asked_total parents [] v = omega arith
asked_total parents (level ∷ levels) v =
    by (desc_for parents level v) (λ a is. (find_some (is_for (below parents v level.horizon)) level.arrays a is).0) (asked_total parents levels v)
  where
    asked : List ArrayDesc
    asked = filter_map (λ l. desc_for parents l v) levels

    others : List ArrayDesc
    others = flat_map (λ (l : LevelDesc). l.arrays) levels

    by : (o : Option ArrayDesc) → ((a : ArrayDesc) → o ≡ Some a → Among a level.arrays) → total_len (extents_of asked) ≤ total_len (extents_of others)
        → total_len (extents_of (cons_option o asked)) ≤ total_len (extents_of (level.arrays ++ others))
    by None there rest = omega (arith, rest, total_both level.arrays others)
    by (Some a) there rest = omega (arith, rest, one_total level.arrays a (there a refl), total_first a asked, total_both level.arrays others)

-- cursors of which each names few blocks name few together
named_total : (cursors : List HeldCursor) → ((c : HeldCursor) → Among c cursors → total_len (extents_of c.arrays) ≤ 2 ^ 25)
    → total_len (extents_of (arrays_named cursors)) ≤ 2 ^ 25 * length cursors
named_total [] each = omega arith
named_total (c ∷ cursors) each =
    omega (arith, each c (inl refl), named_total cursors (λ d among. each d (inr among)), total_both c.arrays (arrays_named cursors))

-- a block of an array of some
times_there : (arrays : List ArrayDesc) (a : ArrayDesc) (b : ℕ) → Among a arrays → times_in a.extents b ≤ times_in (extents_of arrays) b
times_there [] a b among = absurd among
times_there (x ∷ arrays) a b (inl here) = omega (arith, times_append x.extents (extents_of arrays) b, ap (λ (d : ArrayDesc). times_in d.extents b) here)
times_there (x ∷ arrays) a b (inr there) = omega (arith, times_append x.extents (extents_of arrays) b, times_there arrays a b there)

times_some : (arrays : List ArrayDesc) (b : ℕ) → 0 < times_in (extents_of arrays) b → (a : ArrayDesc) × Among a arrays × (0 < times_in a.extents b)
times_some [] b some = absurd (omega (arith, some))
times_some (x ∷ arrays) b some = by (λ more. times_some arrays b more) (times_in x.extents b) refl
  where
    by : (0 < times_in (extents_of arrays) b → (a : ArrayDesc) × Among a arrays × (0 < times_in a.extents b)) → (n : ℕ) → times_in x.extents b ≡ n
        → (a : ArrayDesc) × Among a (x ∷ arrays) × (0 < times_in a.extents b)
    by later (suc n) is = (x, inl refl, omega (arith, is))
    by later zero is =
        let rest = later (omega (arith, some, is, times_append x.extents (extents_of arrays) b)) in
        (rest.0, inr rest.1, rest.2)

-- each block of an array that is kept is one of those that cursors name
kept_named : (s : Held) → IsConsistent s → (b : ℕ) → times_in (extents_of s.memory.cursors.retired) b ≤ times_in (extents_of (arrays_named s.memory.cursors.opened)) b
kept_named s whole b = by (times_in (extents_of retired) b) refl
  where
    retired : List ArrayDesc
    retired = s.memory.cursors.retired

    opened : List HeldCursor
    opened = s.memory.cursors.opened

    by : (n : ℕ) → times_in (extents_of retired) b ≡ n → n ≤ times_in (extents_of (arrays_named opened)) b
    by zero is = omega arith
    by (suc n) is =
        let kept = whole.kept in
        let one = times_some retired b (omega (arith, is)) in
        let named = all_at (λ (a : ArrayDesc). is_array_named opened a.id) one.0 retired kept.needed one.1 in
        let c = any_among (λ (c : HeldCursor). list_any (λ (a : ArrayDesc). eqb a.id one.0.id) c.arrays) opened named in
        let a = any_among (λ (d : ArrayDesc). eqb d.id one.0.id) c.0.arrays c.2 in
        let there = among_in_flat (λ (k : HeldCursor). k.arrays) opened c.0 a.0 c.1 a.1 in
        let held = contained_among (arrays_held s.memory s.levels) a.0 (kept.named a.0 (among_contained (arrays_named opened) a.0 there)) in
        let same : one.0 ≡ a.0 =
        id_names (arrays_held s.memory s.levels) one.0 a.0 kept.ids (among_right (arrays_there s.levels) retired one.0 one.1) held (sym (eqb-true a.0.id one.0.id a.2)) in
        let many = times_there (arrays_named opened) a.0 b there in
        let alike = ap (λ (d : ArrayDesc). times_in d.extents b) same in
        let once = kept.once b in
        omega (arith, is, one.2, many, alike, once)

-- a space in which just the blocks of a store are used has ample room
pub ample_room : (s : Held) (space : SpaceView) (free : ℕ) (chain : List Extent) → IsConsistent s → blocks_of chain ≡ s.chained.blocks
    → IsSpaceOf space (contents_held s []) (extents_of s.memory.cursors.retired) → length s.memory.cursors.opened ≤ 64 → length s.chained.blocks ≤ 2 ^ 21
    → free ≡ 4294967295 - space.first - used_count space
    → ((xs : List Extent) → ((b : ℕ) → uses space b ≤ times_in xs b) → 4294967295 ≤ space.first + total_len xs + free) → space.first + used_count space + 2 ^ 30 < 4294967295
ample_room s space free chain whole chain_is own few short counted least =
    let x : Contents = contents_held s [] in
    let levels : List Extent = extents_of (descriptors s.chained.manifest) in
    let named : List Extent = extents_of (arrays_named s.memory.cursors.opened) in
    let most = least (chain ++ (levels ++ named)) (λ b. omega (
      arith,
      own.used b,
      named_times x b,
      times_listed chain b,
      ap (λ (bs : List ℕ). count_by (λ other. eqb other b) bs) chain_is,
      kept_named s whole b,
      times_append chain (levels ++ named) b,
      times_append levels named b,
    )) in
    let blocks = total_listed chain in
    let length_is = ap (λ (bs : List ℕ). length bs) chain_is in
    let there = manifest_total s whole in
    let cursors = named_total s.memory.cursors.opened (λ c among. whole.kept.few c (among_contained s.memory.cursors.opened c among)) in
    let first = own.first in
    let journal : first_free s.sb.mem ≤ 8192 = low_first s.sb.mem whole.lawful.mem_most in
    let all : total_len (chain ++ (levels ++ named)) ≤ 2 ^ 21 + 2 ^ 25 + 2 ^ 31 =
    omega (arith, blocks, length_is, there, cursors, few, short, total_append chain (levels ++ named), total_append levels named) in
    let low : space.first ≤ 8192 = omega (arith, first, journal) in
    left_over space.first (used_count space) free (total_len (chain ++ (levels ++ named))) counted most low all
  where
    left_over : (f used n total : ℕ) → n ≡ 4294967295 - f - used → 4294967295 ≤ f + total + n → f ≤ 8192 → total ≤ 2 ^ 21 + 2 ^ 25 + 2 ^ 31 → f + used + 2 ^ 30 < 4294967295
    left_over f used n total is least' low all = omega (arith, is, least', low, all)

    low_first : (mem : ℕ) → mem ≤ 4096 → first_free mem ≤ 8192
    low_first mem le = omega (arith, le)

-- a chain has as many blocks as it is said to have
chain_many : (c : Image) (before : List ℕ) (b n : ℕ) (blocks : List ℕ) → chain_from c before b n ≡ Ok blocks → length blocks ≡ n + 1
unfolding chain_from
chain_many c before b zero blocks e =
    let passed = passed_ok b (eqb (link_at c b) 0) (b ∷ []) blocks e in
    ap (λ (xs : List ℕ). length xs) (sym passed.1)
chain_many c before b (suc n) blocks e = by_test (may_follow (b ∷ before) (link_at c b)) (λ xs is. chain_many c (b ∷ before) (link_at c b) n xs is) e
  where
    by_test : (t : Bool) → ((xs : List ℕ) → chain_from c (b ∷ before) (link_at c b) n ≡ Ok xs → length xs ≡ n + 1)
        → cond t (put_first b (chain_from c (b ∷ before) (link_at c b) n)) (Err b) ≡ Ok blocks → length blocks ≡ suc n + 1
    by_test false later e = absurd (cc)
    by_test true later e =
        let parts = put_first_ok b (chain_from c (b ∷ before) (link_at c b) n) blocks e in
        let rest = later parts.0 parts.1 in
        let size = ap (λ (xs : List ℕ). length xs) parts.2 in
        omega (arith, rest, size)

-- so that of a superblock's manifest is short
manifest_short : (format : ℕ) (c : Image) (first n : ℕ) (y : Chained) → n < 2 ^ 32 → manifest_at format c first n ≡ Ok y → length y.blocks ≤ 2 ^ 21
manifest_short format c first n y low e =
    let chain = and_then_ok (chain_from c [] first (chain_length n - 1)) (manifest_in_chain format c first n) y e in
    let made = map_some (λ m. record { manifest = m; blocks = chain.0 }) (manifest_filled format n (chained_bytes c chain.0)) y (found_ok first (option_map (λ m. record { manifest = m; blocks = chain.0 }) (manifest_filled format n (chained_bytes c chain.0))) y chain.2) in
    let many = chain_many c [] first (chain_length n - 1) chain.0 chain.1 in
    let size = ap (λ (x : Chained). length x.blocks) made.2 in
    let least : chain_length n ≤ 2 ^ 20 + 1000000 = low_length n low in
    omega (arith, many, size, least)
  where
    low_length : (k : ℕ) → k < 2 ^ 32 → chain_length k ≤ 2 ^ 20 + 1000000
    low_length k lt = omega (arith, lt)

pub chain_short : (v : DiskView) (s : Held) (x : Contents) → IsConsistent s → StandsWith v s x → length s.chained.blocks ≤ 2 ^ 21
chain_short v s x whole stands =
    let f : Image = stands.stands.content in
    manifest_short s.sb.format f s.sb.manifest s.sb.length s.chained whole.lawful.length_fits
    (subst (λ (y : Contents). manifest_at y.sb.format f y.sb.manifest y.sb.length ≡ Ok y.chained) stands.held (stands.stands.reads f stands.stands.left).lies.chain)
