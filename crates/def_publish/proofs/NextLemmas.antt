-- The manifest of next contents has a spelling.
use Rattle.std.proofs.Common.{◌≡◌, ◌≤◌, ◌<◌, ◌+◌, ◌-◌, ◌*◌, ◌^◌, ℕ, suc, Bool, true, leb, ltb, get_or, ◌&&◌, inl, inr, List, [], ◌∷◌, ◌++◌, length, map, Option, Some, None, refl, sym, ap, ◌∙◌, subst, arith}
use Rattle.std.specs.List.{list_all, flat_map, sum_by, fold, range_with_len}
use Rattle.std.specs.Option.{option_to_list}
use Rattle.std.proofs.lemmas.Bool.{and_parts, and_from, leb-true, ltb-true, le-leb, lt-ltb}
use Rattle.std.proofs.lemmas.List.{length-append, length-map, length-drop, take-append-drop}
use Rattle.std.proofs.lemmas.List.Sums.{fold-append, sum_by-cons, sum_by-append}
use Rattle.strat_base.specs.declared.descriptors.ArrayDesc.{ArrayDesc}
use Rattle.strat_base.specs.declared.descriptors.LevelDesc.{LevelDesc}
use Rattle.strat_base.specs.declared.descriptors.Extent.{Extent}
use Rattle.strat_base.specs.declared.limits.TheConstants.{LEVELS}
use Rattle.strat_base.proofs.ListFacts.{Among, all_at, all_from, each_of, among_flat, among_in_flat, among_left, among_right, among_split, range_among}
use Rattle.strat_base.specs.Change.{Change}
use Rattle.def_crash.specs.Image.{Image}
use Rattle.def_bytes.specs.Arrays.{all_some, blocks_of}
use Rattle.def_bytes.specs.Chain.{chain_length}
use Rattle.def_bytes.specs.Chained.{chain_from, manifest_in_chain}
use Rattle.def_bytes.specs.Layout.{newest_format}
use Rattle.def_bytes.specs.SuperBlock.{Super}
use Rattle.def_bytes.specs.Manifest.{Manifest, versions_in, is_rising, is_lawful_extent, all_pass, is_lawful_array, first_version, is_lawful_level, is_lawful_manifest, manifest_bytes, SpellsManifest, has_fields}
use Rattle.def_bytes.proofs.DamageLemmas.{and_then_ok}
use Rattle.def_bytes.proofs.ManifestLemmas.{pass_at}
use Rattle.def_split.proofs.ListLemmas.{map_among, among_map}
use Rattle.def_promote.proofs.PaidLemmas.{updates_few}
use Rattle.def_recovery.specs.Head.{descriptors}
use Rattle.def_recovery.specs.Opened.{array_on, level_on, parents_in}
use Rattle.def_recovery.specs.Opening.{has_few_publications}
use Rattle.def_recovery.specs.Passed.{PassesOpening}
use Rattle.def_recovery.proofs.OpeningLemmas.{map_some, length-all_some, older_tree, manifest_tests, level_tests, lawful_read}
use Rattle.def_recovery.proofs.PassedLemmas.{kept_in_order, array_tests, belonging_tests, read_passes}
use Rattle.def_state.specs.Level.{TaggedArray, Level, level_leads, tagged_versions, IsStratified}
use Rattle.def_state.specs.Sound.{is_tree_from, is_numbered_from, has_old_horizon, shallower}
use Rattle.def_state.specs.State.{State, versions_of, tree_after}
use Rattle.def_state.proofs.AppendedLemmas.{length-grown}
use Rattle.def_state.proofs.LevelLemmas.{tagged_below}
use Rattle.def_state.proofs.SoundLemmas.{sound_tree}
use Rattle.def_publish.specs.Contents.{Contents, contents_state, sealed_state, sealed_part, later_part}
use Rattle.def_publish.specs.Next.{arrays_made, IsNewArray, IsSoundNext}
use Rattle.def_publish.proofs.DescribedLemmas.{blocks_counted, StandsAsLevel, StandsAsArray, level_there, array_there, leads_counted}
use Rattle.def_publish.proofs.PartsLemmas.{reads_state}
use Rattle.def_publish.proofs.PromotedLemmas.{promoted_state}

-- one more test that passes
pub pass_more : (test : Bool) (tests : List Bool) → test ≡ true → all_pass tests ≡ true → all_pass (test ∷ tests) ≡ true
unfolding all_pass
pass_more test tests here there = and_from test (all_pass tests) here there

pub pass_none : all_pass [] ≡ true
unfolding all_pass
pass_none = refl

-- a manifest that a format has is one that the newest has
pub lawful_newest : (format : ℕ) (m : Manifest) → is_lawful_manifest format m ≡ true → is_lawful_manifest newest_format m ≡ true
lawful_newest format m lawful =
    let at : (k : ℕ) → get_or (manifest_tests format m) k true ≡ true = λ k. pass_at (manifest_tests format m) k lawful in
    pass_more _ _ (at 0) (pass_more _ _ (at 1) (pass_more _ _ (at 2) (pass_more _ _ (at 3) (pass_more _ _ (at 4) (pass_more _ _ (at 5) (pass_more _ _ (at 6) (pass_more _ _ (at 7)
    (pass_more _ _ (at 8) (pass_more _ _ (at 9) (pass_more _ _ refl (pass_more _ _ (at 11) (pass_more _ _ (at 12) pass_none))))))))))))

abbrev StartsAt : ℕ → List ℕ → Type 0
StartsAt low [] = Unit {0}
StartsAt low (x ∷ xs) = low ≤ x

-- numbers that ascend from one on and below another are no more than lie between these
pub rising_span : (low high : ℕ) (xs : List ℕ) → low ≤ high → StartsAt low xs → ((x : ℕ) → Among x xs → x < high) → is_rising xs ≡ true → low + length xs ≤ high
rising_span low high [] le starts each rising = omega (arith, le)
rising_span low high (x ∷ []) le starts each rising = omega (arith, starts, each x (inl refl))
rising_span low high (x ∷ y ∷ rest) le starts each rising =
    let parts = and_parts (ltb x y) (is_rising (y ∷ rest)) rising in
    let further = rising_span (suc x) high (y ∷ rest) (omega (arith, each x (inl refl))) (ltb-true x y parts.0) (λ z among. each z (inr among)) parts.1 in
    omega (arith, starts, further)

pub rising_few : (high : ℕ) (xs : List ℕ) → ((x : ℕ) → Among x xs → x < high) → is_rising xs ≡ true → length xs ≤ high
rising_few high [] each rising = omega arith
rising_few high (x ∷ xs) each rising = omega (arith, rising_span 0 high (x ∷ xs) (omega arith) (omega arith) each rising)

-- the numbers of levels
record Numbered (n : ℕ) (level : Level) (levels : List Level) : Type 0 where
  least : n ≤ level.number
  most : level.number ≤ 22
  some : 0 < length level.arrays
  rest : is_numbered_from (suc level.number) levels ≡ true

numbered_parts : (n : ℕ) (level : Level) (levels : List Level) → is_numbered_from n (level ∷ levels) ≡ true → Numbered n level levels
numbered_parts n level levels e =
    let rest = and_parts (leb n level.number && leb level.number LEVELS && ltb 0 (length level.arrays)) (is_numbered_from (suc level.number) levels) e in
    let some = and_parts (leb n level.number && leb level.number LEVELS) (ltb 0 (length level.arrays)) rest.0 in
    let both = and_parts (leb n level.number) (leb level.number LEVELS) some.0 in
    record {
      least = leb-true n level.number both.0;
      most = leb-true level.number LEVELS both.1;
      some = ltb-true 0 (length level.arrays) some.1;
      rest = rest.1;
    }

numbered_few : (n : ℕ) (levels : List Level) → n ≤ 23 → is_numbered_from n levels ≡ true → n + length levels ≤ 23
numbered_few n [] le e = omega (arith, le)
numbered_few n (level ∷ levels) le e =
    let parts = numbered_parts n level levels e in
    let further = numbered_few (suc level.number) levels (omega (arith, parts.most)) parts.rest in
    omega (arith, parts.least, further)

numbered_rising : (n : ℕ) (levels : List Level) → is_numbered_from n levels ≡ true → is_rising (map (λ l. l.number) levels) ≡ true
numbered_rising n [] e = refl
numbered_rising n (l ∷ []) e = refl
numbered_rising n (l ∷ k ∷ levels) e =
    let parts = numbered_parts n l (k ∷ levels) e in
    let next = numbered_parts (suc l.number) k levels parts.rest in
    and_from (ltb l.number k.number) (is_rising (map (λ x. x.number) (k ∷ levels))) (lt-ltb l.number k.number (omega (arith, next.least))) (numbered_rising (suc l.number) (k ∷ levels) parts.rest)

numbered_at : (n : ℕ) (levels : List Level) (level : Level) → is_numbered_from n levels ≡ true → Among level levels → (n ≤ level.number) × (level.number ≤ 22) × (0 < length level.arrays)
numbered_at n [] level e among = absurd among
numbered_at n (l ∷ levels) level e (inl here) =
    let parts = numbered_parts n l levels e in
    subst (λ (x : Level). (n ≤ x.number) × (x.number ≤ 22) × (0 < length x.arrays)) (sym here) (parts.least, parts.most, parts.some)
numbered_at n (l ∷ levels) level e (inr there) =
    let parts = numbered_parts n l levels e in
    let found = numbered_at (suc l.number) levels level parts.rest there in
    (omega (arith, parts.least, found.0), found.1, found.2)

-- a descriptor stays lawful where there are more versions and later numbers
array_wider : (next more : ℕ) (a : ArrayDesc) → next ≤ more → is_lawful_array next a ≡ true → is_lawful_array more a ≡ true
array_wider next more a le lawful =
    let below = ltb-true a.id next (pass_at (array_tests next a) 1 lawful) in
    pass_more _ _ (pass_at (array_tests next a) 0 lawful) (pass_more _ _ (lt-ltb a.id more (omega (arith, below, le)))
    (pass_more _ _ (pass_at (array_tests next a) 2 lawful) (pass_more _ _ (pass_at (array_tests next a) 3 lawful)
    (pass_more _ _ (pass_at (array_tests next a) 4 lawful) (pass_more _ _ (pass_at (array_tests next a) 5 lawful)
    (pass_more _ _ (pass_at (array_tests next a) 6 lawful) (pass_more _ _ (pass_at (array_tests next a) 7 lawful)
    (pass_more _ _ (pass_at (array_tests next a) 8 lawful) (pass_more _ _ (pass_at (array_tests next a) 9 lawful)
    (pass_more _ _ (pass_at (array_tests next a) 10 lawful) (pass_more _ _ (pass_at (array_tests next a) 11 lawful) pass_none)))))))))))

level_wider : (versions more next later : ℕ) (d : LevelDesc) → versions ≤ more → next ≤ later → is_lawful_level versions next d ≡ true → is_lawful_level more later d ≡ true
level_wider versions more next later d le up lawful =
    let tests : List Bool = level_tests versions next d in
    let old = leb-true d.horizon versions (pass_at tests 3 lawful) in
    pass_more _ _ (pass_at tests 0 lawful) (pass_more _ _ (pass_at tests 1 lawful)
    (pass_more _ _ (pass_at tests 2 lawful) (pass_more _ _ (le-leb d.horizon more (omega (arith, old, le)))
    (pass_more _ _ (pass_at tests 4 lawful)
    (pass_more _ _ (all_from (is_lawful_array later) d.arrays (λ a among. array_wider next later a up (all_at (is_lawful_array next) a d.arrays (pass_at tests 5 lawful) among)))
    (pass_more _ _ (pass_at tests 6 lawful) pass_none))))))

-- where each of some arrays has twice as many leads as entries, they have together
entries_led : (rs : List ArrayDesc) → ((a : ArrayDesc) → Among a rs → a.entries ≤ 2 * a.leads) → sum_by (λ a. a.entries) rs ≤ 2 * sum_by (λ a. a.leads) rs
entries_led [] each = omega arith
entries_led (a ∷ rs) each =
    omega (arith, each a (inl refl), entries_led rs (λ b among. each b (inr among)), sum_by-cons (λ (x : ArrayDesc). x.entries) a rs, sum_by-cons (λ (x : ArrayDesc). x.leads) a rs)

one_of_sum : (rs : List ArrayDesc) (a : ArrayDesc) → Among a rs → a.leads ≤ sum_by (λ x. x.leads) rs
one_of_sum [] a among = absurd among
one_of_sum (b ∷ rs) a (inl here) = omega (arith, ap (λ (x : ArrayDesc). x.leads) here, sum_by-cons (λ (x : ArrayDesc). x.leads) b rs)
one_of_sum (b ∷ rs) a (inr there) = omega (arith, one_of_sum rs a there, sum_by-cons (λ (x : ArrayDesc). x.leads) b rs)

-- extents that are not empty are no more than their blocks
pub extents_few : (xs : List Extent) → list_all is_lawful_extent xs ≡ true → length xs ≤ length (blocks_of xs)
extents_few [] lawful = omega arith
extents_few (x ∷ xs) lawful =
    let parts = and_parts (is_lawful_extent x) (list_all is_lawful_extent xs) lawful in
    let long = leb-true 1 x.len (and_parts (leb 1 x.len) (ltb (x.start + x.len) (2 ^ 32)) parts.0).0 in
    omega (arith, long, extents_few xs parts.1, blocks_counted (x ∷ xs), blocks_counted xs, sum_by-cons (λ (y : Extent). y.len) x xs)

extents_some : (xs : List Extent) → 0 < length (blocks_of xs) → 1 ≤ length xs
extents_some [] some = absurd (omega (arith, some))
extents_some (x ∷ xs) some = omega arith

pub made_by : (made : Option LevelDesc) (kept : List LevelDesc) → flat_map (λ (l : LevelDesc). l.arrays) (option_to_list made ++ kept) ≡ arrays_made made ++ flat_map (λ l. l.arrays) kept
made_by None kept = refl
made_by (Some d) kept = refl

first_among : (vs : List ℕ) → 1 ≤ length vs → Among (get_or vs 0 0) vs
first_among [] some = absurd (omega (arith, some))
first_among (v ∷ vs) some = inl refl

-- the four counts of publications, apart and together
pub few_parts : (sb : Super) (m : Manifest) → has_few_publications sb m ≡ true
    → (sb.generation ≤ m.changes + 1) × (m.next_array ≤ 16384 * m.changes + 1) × (m.written ≤ 33554432 * m.changes) × (m.compacted ≤ 33554432 * m.changes)
few_parts sb m few =
    let three = and_parts (leb sb.generation (m.changes + 1) && leb m.next_array (16384 * m.changes + 1) && leb m.written (33554432 * m.changes)) (leb m.compacted (33554432 * m.changes)) few in
    let two = and_parts (leb sb.generation (m.changes + 1) && leb m.next_array (16384 * m.changes + 1)) (leb m.written (33554432 * m.changes)) three.0 in
    let one = and_parts (leb sb.generation (m.changes + 1)) (leb m.next_array (16384 * m.changes + 1)) two.0 in (
      leb-true sb.generation (m.changes + 1) one.0,
      leb-true m.next_array (16384 * m.changes + 1) one.1,
      leb-true m.written (33554432 * m.changes) two.1,
      leb-true m.compacted (33554432 * m.changes) three.1,
    )

pub few_from : (sb : Super) (m : Manifest) → sb.generation ≤ m.changes + 1 → m.next_array ≤ 16384 * m.changes + 1 → m.written ≤ 33554432 * m.changes → m.compacted ≤ 33554432 * m.changes
    → has_few_publications sb m ≡ true
few_from sb m generation next written compacted =
    and_from (leb sb.generation (m.changes + 1) && leb m.next_array (16384 * m.changes + 1) && leb m.written (33554432 * m.changes)) (leb m.compacted (33554432 * m.changes))
    (and_from (leb sb.generation (m.changes + 1) && leb m.next_array (16384 * m.changes + 1)) (leb m.written (33554432 * m.changes))
    (and_from (leb sb.generation (m.changes + 1)) (leb m.next_array (16384 * m.changes + 1)) (le-leb sb.generation (m.changes + 1) generation) (le-leb m.next_array (16384 * m.changes + 1) next))
    (le-leb m.written (33554432 * m.changes) written))
    (le-leb m.compacted (33554432 * m.changes) compacted)

module _ (f g : Image) (old new : Contents) (made : Option LevelDesc) (taken kept : List LevelDesc) (m : IsSoundNext f g old new made taken kept) where
  abbrev pub was : Manifest
  was = old.chained.manifest

  abbrev pub now : Manifest
  now = new.chained.manifest

  abbrev pub state : State
  state = contents_state new

  pub passed : PassesOpening (contents_state old)
  passed = read_passes f (contents_state old) (reads_state f old m.reads)

  pub was_lawful : is_lawful_manifest old.sb.format was ≡ true
  was_lawful =
      let blocks = and_then_ok (chain_from f [] old.sb.manifest (chain_length old.sb.length - 1)) (manifest_in_chain old.sb.format f old.sb.manifest old.sb.length) old.chained m.reads.lies.chain in
      lawful_read old.sb.format f old.sb.manifest old.sb.length blocks.0 old.chained blocks.2

  -- the counts
  pub was_few : has_few_publications old.sb was ≡ true
  was_few = pass_at (belonging_tests old.sb old.chained) 7 m.reads.lies.belonging

  -- what was sealed and what came behind it is the journal, and the versions of then are there still
  sealed_length : length (sealed_part old) + length (later_part old) ≡ length old.journal
  sealed_length = sym (length-append (sealed_part old) (later_part old)) ∙ ap length (take-append-drop old.sb.mem old.journal)

  later_length : length (later_part old) ≡ length old.journal - old.sb.mem
  later_length = length-drop old.sb.mem old.journal

  sealed_versions : length (versions_of (sealed_state old)) ≤ length (versions_of (contents_state old))
  sealed_versions =
      let more = length-grown (versions_of (sealed_state old)) (later_part old) in
      let whole : versions_of (contents_state old) ≡ fold tree_after (versions_of (sealed_state old)) (later_part old) =
      ap (λ (j : List Change). fold tree_after (parents_in was) j) (sym (take-append-drop old.sb.mem old.journal)) ∙ fold-append tree_after (parents_in was) (sealed_part old) (later_part old) in
      omega (arith, more, ap length whole)

  pub versions_same : versions_in now ≡ length (versions_of (sealed_state old))
  versions_same = omega (arith, length-map now.parents (λ p. Some p), ap (λ (x : State). length x.parents) (promoted_state old new m.was_sound m.next.promoted))

  pub versions_most : versions_in now ≤ new.sb.versions_max
  versions_most = omega (arith, versions_same, sealed_versions, passed.few_versions, m.next.promoted.versions_max)

  pub versions_more : versions_in was ≤ versions_in now
  versions_more = omega (arith, versions_same, length-grown (parents_in was) (sealed_part old), length-map was.parents (λ p. Some p))

  -- as many changes as the journal had, but for those that came behind a full region
  pub changes_same : now.changes + length (later_part old) ≡ was.changes + length old.journal
  changes_same = omega (arith, m.next.promoted.changes, sealed_length)

  pub changes_more : was.changes ≤ now.changes
  changes_more = omega (arith, m.next.promoted.changes)

  -- a change or two in the journal are behind the next contents, whatever came behind a full region
  pub changes_grown : (n : ℕ) → n ≤ 2 → n ≤ length old.journal → was.changes + n ≤ now.changes
  changes_grown n few some = omega (arith, changes_same, later_length, few, some, passed.limits.mem_least)

  pub changes_most : now.changes ≤ new.sb.changes_max
  changes_most = omega (arith, changes_same, m.next.promoted.changes_max, passed.few_changes)

  pub changes_bound : now.changes ≤ 16777216
  changes_bound = omega (arith, changes_same, passed.few_changes, passed.limits.changes_most)

  pub versions_bound : versions_in now ≤ 16384
  versions_bound = omega (arith, versions_same, sealed_versions, passed.few_versions, passed.limits.versions_most)

  pub updates_within : now.updates ≤ now.changes
  updates_within = omega (arith, m.next.promoted.updates, m.next.promoted.changes, passed.few_updates, updates_few (sealed_part old))

  -- the arrays
  pub arrays_are : descriptors now ≡ arrays_made made ++ flat_map (λ l. l.arrays) kept
  arrays_are = ap (flat_map (λ (l : LevelDesc). l.arrays)) m.next.levels_are ∙ made_by made kept

  pub level_at : (d : LevelDesc) → Among d now.levels → StandsAsLevel g state d
  level_at d among = level_there g state m.is_sound now.levels m.arrays d among

  pub array_at : (d : LevelDesc) (a : ArrayDesc) (in_levels : Among d now.levels) → Among a d.arrays → StandsAsArray g state (level_at d in_levels).level a
  unfolding level_at
  array_at d a in_levels among = array_there g state m.is_sound now.levels m.arrays d a in_levels among

  pub leads_within : sum_by (λ a. a.leads) (descriptors now) ≤ now.updates
  leads_within =
      omega (arith, leads_counted g state m.is_sound now.levels m.arrays, leb-true (sum_by (λ (l : Level). length (level_leads l)) new.levels) now.updates m.is_sound.few)

  pub led_at : (a : ArrayDesc) → Among a (descriptors now) → a.entries ≤ 2 * a.leads
  led_at a among =
      let found = among_flat (λ (l : LevelDesc). l.arrays) now.levels a among in
      (array_at found.0 a found.1 found.2).led

  made_at : (a : ArrayDesc) → Among a (arrays_made made) → Among a (descriptors now)
  made_at a among = subst (Among a) (sym arrays_are) (among_left (arrays_made made) (flat_map (λ l. l.arrays) kept) a among)

  leads_most : (a : ArrayDesc) → Among a (descriptors now) → a.leads ≤ 16777216
  leads_most a among = omega (arith, one_of_sum (descriptors now) a among, leads_within, updates_within, changes_bound)

  pub entries_all : sum_by (λ a. a.entries) (descriptors now) ≤ 33554432
  entries_all = omega (arith, entries_led (descriptors now) led_at, leads_within, updates_within, changes_bound)

  pub entries_made : sum_by (λ a. a.entries) (arrays_made made) ≤ 33554432
  entries_made =
      omega (
        arith,
        entries_led (arrays_made made) (λ a among. led_at a (made_at a among)),
        leads_within,
        updates_within,
        changes_bound,
        ap (sum_by (λ (a : ArrayDesc). a.leads)) arrays_are,
        sum_by-append (λ (a : ArrayDesc). a.leads) (arrays_made made) (flat_map (λ l. l.arrays) kept),
      )

  -- the versions of an array lie below the horizon of its level
  version_low : (d : LevelDesc) (a : ArrayDesc) (v : ℕ) → Among d now.levels → Among a d.arrays → Among v a.versions → v < d.horizon
  version_low d a v in_levels among there =
      let l = level_at d in_levels in
      let x = array_at d a in_levels among in
      let tagged : Among v (tagged_versions l.level) = among_in_flat (λ (y : TaggedArray). y.tag) l.level.arrays x.array v x.among (subst (Among v) (sym x.tag) there) in
      let below = tagged_below (versions_of state) (sound_tree state m.is_sound.formed) l.level (each_of (IsStratified (versions_of state)) new.levels l.level m.is_sound.stratified l.among) v tagged in
      omega (arith, below, l.aged)

  pub horizon_most : (d : LevelDesc) → Among d now.levels → d.horizon ≤ versions_in now
  horizon_most d among =
      let l = level_at d among in
      let parts = and_parts (leb l.level.horizon (length (parents_in now))) (list_all (λ (other : Level). leb l.level.horizon other.horizon) (shallower state l.level)) (all_at (has_old_horizon state) l.level new.levels m.is_sound.old l.among) in
      omega (arith, leb-true l.level.horizon (length (parents_in now)) parts.0, l.aged, length-map now.parents (λ p. Some p))

  -- the level that was made
  module _ (d : LevelDesc) (is : made ≡ Some d) where
    in_levels : Among d now.levels
    in_levels = subst (Among d) (sym (m.next.levels_are ∙ ap (λ (o : Option LevelDesc). option_to_list o ++ kept) is)) (inl refl)

    made_is : arrays_made made ≡ d.arrays
    made_is = ap arrays_made is

    new_at : (a : ArrayDesc) → Among a d.arrays → IsNewArray a
    new_at a among = each_of IsNewArray (arrays_made made) a m.fresh.each (subst (Among a) (sym made_is) among)

    ordered : is_rising (map first_version d.arrays) ≡ true
    ordered = ap (λ (rs : List ArrayDesc). is_rising (map first_version rs)) (sym made_is) ∙ m.fresh.ordered

    pub arrays_few : length d.arrays ≤ d.horizon
    arrays_few =
        let few = rising_few d.horizon (map first_version d.arrays) (λ v among.
        let at = map_among first_version d.arrays v among in
        let low = version_low d at.0 (first_version at.0) in_levels at.1 (first_among at.0.versions (new_at at.0 at.1).tagged) in
        omega (arith, at.2, low)) ordered in
        omega (arith, few, length-map d.arrays first_version)

    id_at : (a : ArrayDesc) → Among a d.arrays → (was.next_array ≤ a.id) × (a.id < now.next_array)
    id_at a among =
        let there : Among a.id (range_with_len was.next_array (length (arrays_made made))) = subst (Among a.id) m.fresh.numbered (among_map (λ (x : ArrayDesc). x.id) (arrays_made made) a (subst (Among a) (sym made_is) among)) in
        let lies = range_among was.next_array (length (arrays_made made)) a.id there in
        (lies.0, omega (arith, lies.1, m.next.next_array))

    array_lawful : (a : ArrayDesc) → Among a d.arrays → is_lawful_array now.next_array a ≡ true
    array_lawful a among =
        let id = id_at a among in
        let n = new_at a among in
        let x = array_at d a in_levels among in
        let leads = leads_most a (among_in_flat (λ (l : LevelDesc). l.arrays) now.levels d a in_levels among) in
        let low : (v : ℕ) → Among v a.versions → v < 16384 = λ v there. omega (arith, version_low d a v in_levels among there, horizon_most d in_levels, versions_bound) in
        let short = extents_few a.extents n.lawful in
        let tags = rising_few 16384 a.versions low n.rising in
        pass_more _ _ (le-leb 1 a.id (omega (arith, id.0, passed.next_least))) (pass_more _ _ (lt-ltb a.id now.next_array id.1)
        (pass_more _ _ (le-leb 1 a.entries n.counted) (pass_more _ _ (lt-ltb a.entries (2 ^ 32) (omega (arith, x.led, leads)))
        (pass_more _ _ (le-leb a.leads a.entries x.within) (pass_more _ _ (le-leb a.least a.entries x.least)
        (pass_more _ _ (and_from (leb 1 (length a.extents)) (ltb (length a.extents) (2 ^ 32)) (le-leb 1 (length a.extents) (extents_some a.extents (x.some (omega (arith, n.counted))))) (lt-ltb (length a.extents) (2 ^ 32) (omega (arith, short, x.few, x.led, leads))))
        (pass_more _ _ n.lawful (pass_more _ _ n.apart
        (pass_more _ _ (and_from (leb 1 (length a.versions)) (ltb (length a.versions) (2 ^ 32)) (le-leb 1 (length a.versions) n.tagged) (lt-ltb (length a.versions) (2 ^ 32) (omega (arith, tags))))
        (pass_more _ _ (all_from (λ v. ltb v (2 ^ 32)) a.versions (λ v there. lt-ltb v (2 ^ 32) (omega (arith, low v there))))
        (pass_more _ _ n.rising pass_none)))))))))))

    level_lawful : is_lawful_level (versions_in now) now.next_array d ≡ true
    level_lawful =
        let l = level_at d in_levels in
        let numbers = numbered_at 1 new.levels l.level m.is_sound.formed.numbered l.among in
        let long = length-all_some (array_on g) d.arrays l.level.arrays l.arrays in
        let some : 1 ≤ length d.arrays = omega (arith, numbers.2, long) in
        pass_more _ _ (le-leb 1 d.number (omega (arith, numbers.0, l.numbered))) (pass_more _ _ (le-leb d.number LEVELS (omega (arith, numbers.1, l.numbered)))
        (pass_more _ _ (le-leb 1 d.horizon (omega (arith, some, arrays_few))) (pass_more _ _ (le-leb d.horizon (versions_in now) (horizon_most d in_levels))
        (pass_more _ _ (and_from (leb 1 (length d.arrays)) (ltb (length d.arrays) (2 ^ 32)) (le-leb 1 (length d.arrays) some) (lt-ltb (length d.arrays) (2 ^ 32) (omega (arith, arrays_few, horizon_most d in_levels, versions_bound))))
        (pass_more _ _ (all_from (is_lawful_array now.next_array) d.arrays array_lawful)
        (pass_more _ _ ordered pass_none))))))

  pub made_few : length (arrays_made made) ≤ 16384
  made_few = by made refl
    where
      by : (o : Option LevelDesc) → made ≡ o → length (arrays_made made) ≤ 16384
      by None is = omega (arith, ap (λ (o : Option LevelDesc). length (arrays_made o)) is)
      by (Some d) is = omega (arith, ap (λ (o : Option LevelDesc). length (arrays_made o)) is, arrays_few d is, horizon_most d (in_levels d is), versions_bound)

  -- the levels that stay
  next_more : was.next_array ≤ now.next_array
  next_more = omega (arith, m.next.next_array)

  pub kept_was : (d : LevelDesc) → Among d kept → Among d was.levels
  kept_was d among = subst (Among d) (sym m.next.levels_were) (among_right taken kept d among)

  pub lawful_was : (d : LevelDesc) → Among d was.levels → is_lawful_level (versions_in was) was.next_array d ≡ true
  lawful_was d among = all_at (is_lawful_level (versions_in was) was.next_array) d was.levels (pass_at (manifest_tests old.sb.format was) 8 was_lawful) among

  pub lawful_at : (d : LevelDesc) → Among d now.levels → is_lawful_level (versions_in now) now.next_array d ≡ true
  lawful_at d among = elim (among_split (option_to_list made) kept d (subst (Among d) m.next.levels_are among)) [
    | inl here ↦ by made refl here
    | inr there ↦ level_wider (versions_in was) (versions_in now) was.next_array now.next_array d versions_more next_more (lawful_was d (kept_was d there))
  ]
    where
      by : (o : Option LevelDesc) → made ≡ o → Among d (option_to_list made) → is_lawful_level (versions_in now) now.next_array d ≡ true
      by None is here = absurd (subst (Among d) (ap (λ (o : Option LevelDesc). option_to_list o) is) here)
      by (Some e) is here = elim (subst (Among d) (ap (λ (o : Option LevelDesc). option_to_list o) is) here) [
        | inl same ↦ subst (λ (x : LevelDesc). is_lawful_level (versions_in now) now.next_array x ≡ true) (sym same) (level_lawful e is)
        | inr none ↦ absurd none
      ]

  -- one publication more has few enough arrays and entries if the journal had a change
  pub counted : 1 ≤ length old.journal → has_few_publications new.sb now ≡ true
  counted some =
      let grown = changes_grown 1 (omega arith) some in
      few_from new.sb now (omega (arith, m.next.generation, (few_parts old.sb was was_few).0, grown))
      (omega (arith, m.next.next_array, made_few, passed.next_most, grown))
      (omega (arith, m.next.written, entries_made, passed.written_most, grown))
      (omega (arith, m.next.promoted.compacted, passed.compacted_most, grown))

  -- the newest format has all fields
  in_format : has_fields new.sb.format now ≡ true
  in_format = ap (λ (format : ℕ). has_fields format now) m.next.promoted.format

  -- there are few publications for the changes
  module _ (few : has_few_publications new.sb now ≡ true) where
    pub next_lawful : is_lawful_manifest new.sb.format now ≡ true
    next_lawful =
        let counts = few_parts new.sb now few in
        let numbered = m.is_sound.formed.numbered in
        let tree = and_parts (ltb 0 (length (parents_in now))) (is_tree_from 0 (parents_in now)) m.is_sound.formed.tree in
        let long = length-all_some (level_on g) now.levels new.levels m.arrays in
        let numbers : map (λ (l : Level). l.number) new.levels ≡ map (λ (d : LevelDesc). d.number) now.levels =
        kept_in_order (level_on g) (λ d. d.number) (λ l. l.number) (λ d l on. ap (λ (x : Level). x.number) (sym (map_some (λ arrays. record { number = d.number; horizon = d.horizon; arrays = arrays }) (all_some (array_on g) d.arrays) l on).2)) now.levels new.levels m.arrays in
        pass_more _ _ (lt-ltb now.changes (2 ^ 32) (omega (arith, changes_bound))) (pass_more _ _ (le-leb now.updates now.changes updates_within)
        (pass_more _ _ (lt-ltb now.written (2 ^ 64) (omega (arith, counts.2, changes_bound)))
        (pass_more _ _ (le-leb 1 now.next_array (omega (arith, m.next.next_array, passed.next_least)))
        (pass_more _ _ (lt-ltb now.next_array (2 ^ 64) (omega (arith, counts.1, changes_bound)))
        (pass_more _ _ (le-leb (versions_in now) 16384 versions_bound)
        (pass_more _ _ (older_tree 1 now.parents ∙ (and_parts true (is_tree_from 1 (map (λ p. Some p) now.parents)) tree.1).1)
        (pass_more _ _ (le-leb (length now.levels) LEVELS (omega (arith, long, numbered_few 1 new.levels (omega arith) numbered)))
        (pass_more _ _ (all_from (is_lawful_level (versions_in now) now.next_array) now.levels lawful_at)
        (pass_more _ _ (ap is_rising (sym numbers) ∙ numbered_rising 1 new.levels numbered)
        (pass_more _ _ in_format (pass_more _ _ (lt-ltb now.compacted (2 ^ 64) (omega (arith, counts.3, changes_bound)))
        (pass_more _ _ m.is_sound.formed.pruned pass_none))))))))))))

    pub next_spelled : SpellsManifest new.sb.format (manifest_bytes new.sb.format now) now
    next_spelled = record { lawful = next_lawful; text = refl }
