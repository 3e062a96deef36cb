-- The arrays that a store holds after a publication: those of its levels, and those that are kept for cursors.
use Rattle.std.proofs.Common.{◌≡◌, ◌≤◌, ◌<◌, ◌+◌, ℕ, Bool, true, false, cond, leb, ltb, inl, inr, ◌⊎◌, List, [], ◌∷◌, ◌++◌, append-nil, Contains, flat_map, Option, None, Some, refl, sym, ap, ◌∙◌, subst, arith}
use Rattle.std.specs.List.{list_all}
use Rattle.std.specs.Option.{option_to_list}
use Rattle.std.specs.Prelude.{if◌then◌else◌}
use Rattle.std.proofs.lemmas.Bool.{and_parts, cases_Bool, leb-true, ltb-true, ltb-false, le-ltb}
use Rattle.std.proofs.lemmas.List.{map-append}
use Rattle.std.proofs.lemmas.List.Concat.{flat_map-append}
use Rattle.strat_base.proofs.ListFacts.{Among, all_at, among_flat, among_in_flat, among_left, among_right, among_split, filter_among}
use Rattle.strat_base.specs.declared.descriptors.ArrayDesc.{ArrayDesc}
use Rattle.strat_base.specs.declared.descriptors.Extent.{Extent}
use Rattle.strat_base.specs.declared.descriptors.LevelDesc.{LevelDesc}
use Rattle.def_crash.specs.Blocks.{AgreeOn, KeepsTaken}
use Rattle.def_crash.specs.Image.{Image}
use Rattle.strat_cursor.proofs.RetiredLemmas.{named_id, retired_from, retired_ids, retired_kept, retired_rest, retired_there}
use Rattle.strat_cursor.specs.Cursors.{are_named, arrays_named, is_array_named, retired_all}
use Rattle.strat_cursor.specs.Held.{HeldCursor, HeldCursors}
use Rattle.strat_cursor.specs.Looking.{arrays_there}
use Rattle.strat_extent.proofs.BlockLemmas.{times_listed}
use Rattle.strat_extent.proofs.CountLemmas.{times_append}
use Rattle.strat_extent.specs.Blocks.{SpaceView, is_used, times_in, uses}
use Rattle.def_bytes.proofs.ManifestLemmas.{pass_at}
use Rattle.def_bytes.specs.Arrays.{blocks_of}
use Rattle.def_bytes.specs.Chained.{Chained}
use Rattle.def_bytes.specs.Layout.{first_free, newest_format}
use Rattle.def_bytes.specs.Manifest.{Manifest, is_lawful_manifest, versions_in}
use Rattle.def_bytes.specs.SuperBlock.{Super}
use Rattle.def_split.proofs.ListLemmas.{among_map, map_among, distinct_append}
use Rattle.strat_promote.specs.Job.{blocks_listed}
use Rattle.def_recovery.proofs.OpeningLemmas.{manifest_tests}
use Rattle.def_recovery.proofs.PassedLemmas.{array_tests, belonging_tests}
use Rattle.def_recovery.specs.Head.{descriptors}
use Rattle.def_recovery.specs.Opening.{belongs}
use Rattle.def_publish.proofs.ListLemmas.{contained_among, among_contained}
use Rattle.def_publish.proofs.OccupiedLemmas.{named_times}
use Rattle.def_publish.specs.Contents.{Contents, named_blocks}
use Rattle.def_publish.specs.Next.{arrays_made}
use Rattle.def_publish.specs.Occupied.{arrays_in, extents_of}
use Rattle.strat_extent.specs.Change.{IsMarked}
use Rattle.strat_publish.specs.Promoting.{HasMade}
use Rattle.def_state.specs.Level.{is_distinct}
use Rattle.strat_memory.proofs.AdmitLemmas.{extents_lawful}
use Rattle.strat_memory.proofs.IdLemmas.{ids}
use Rattle.strat_publish.proofs.NextContentsLemmas.{numbers_rise, parted}
use Rattle.strat_memory.proofs.OwnLemmas.{below_end, counted_among}
use Rattle.strat_publish.proofs.RetiringLemmas.{distinct_parts}
use Rattle.strat_publish.proofs.SettlingLemmas.{extents_have, listed_arrays, named_there}
use Rattle.strat_publish.proofs.NeededLemmas.{needed_retired}
use Rattle.strat_memory.proofs.NumbersLemmas.{array_lawful}
use Rattle.strat_memory.specs.Held.{Held, AreKept, ArePlaced, IsConsistent, arrays_held, contents_held}
use Rattle.strat_memory.specs.Memory.{renewed}
use Rattle.strat_publish.specs.Publishing.{descs_to, descs_behind, is_in_front, manifest_after}
use Rattle.strat_publish.specs.Settling.{ArePublishedTo, StandApart, arrays_taken}

-- a block of an array that a manifest names is named
pub array_named : (s : Held) (a : ArrayDesc) (b : ℕ) → Contains (descriptors s.chained.manifest) a → Contains (blocks_of a.extents) b → Contains (named_blocks (contents_held s [])) b
array_named s a b of here =
    let arrays : List ArrayDesc = descriptors s.chained.manifest in
    among_contained (named_blocks (contents_held s [])) b
    (among_right s.chained.blocks (blocks_listed arrays) b (among_in_flat (λ (d : ArrayDesc). blocks_of d.extents) arrays a b (contained_among arrays a of) (contained_among (blocks_of a.extents) b here)))

-- what a store holds lies behind the journal
pub named_behind : (s : Held) → IsConsistent s → (b : ℕ) → Contains (named_blocks (contents_held s [])) b → first_free s.sb.mem ≤ b
named_behind s whole b of =
    let blocks : List ℕ = named_blocks (contents_held s []) in
    let own = and_parts (is_distinct blocks) (list_all (λ k. leb (first_free s.sb.mem) k) blocks) (pass_at (belonging_tests s.sb s.chained) 0 whole.belonging) in
    leb-true (first_free s.sb.mem) b (all_at (λ k. leb (first_free s.sb.mem) k) b blocks own.1 (contained_among blocks b of))

-- and so does each block of its arrays
pub held_behind : (s : Held) → IsConsistent s → (b : ℕ) → Contains (blocks_listed (arrays_held s.memory s.levels)) b → first_free s.sb.mem ≤ b
held_behind s whole b of =
    let retired : List ArrayDesc = s.memory.cursors.retired in
    let blocks : ArrayDesc → List ℕ = λ a. blocks_of a.extents in
    let one = among_flat blocks (arrays_there s.levels ++ retired) b (contained_among (blocks_listed (arrays_there s.levels ++ retired)) b of) in
    elim (among_split (arrays_there s.levels) retired one.0 one.1) [
      | inl there ↦
          named_behind s whole b (named_there s whole.placed b (among_contained (blocks_listed (arrays_there s.levels)) b (among_in_flat blocks (arrays_there s.levels) one.0 b there one.2)))
      | inr kept ↦ (whole.kept.within b (extents_have retired one.0 b kept one.2)).0
    ]

-- these blocks stay where those behind the journal do
pub behind_kept : (s : Held) (mem : ℕ) (f g : Image) → IsConsistent s → mem ≡ s.sb.mem → KeepsTaken (is_in_front mem) f g → AgreeOn (blocks_listed (arrays_held s.memory s.levels)) f g
behind_kept s mem f g whole mem_is keeps b of =
    let behind = held_behind s whole b of in
    keeps b (le-ltb b (first_free mem) (omega (arith, behind, ap first_free mem_is)))

-- the arrays of a level that was made, as a list of levels has them
pub arrays_of_made : (made : Option LevelDesc) → flat_map (λ (l : LevelDesc). l.arrays) (option_to_list made) ≡ arrays_made made
arrays_of_made None = refl
arrays_of_made (Some level) = append-nil level.arrays

-- the arrays that a promotion takes stand in levels
pub taken_there : (s : Held) (target : ℕ) (a : ArrayDesc) → ArePlaced s.chained.manifest.levels s.levels → Among a (arrays_taken target s.chained.manifest) → Among a (arrays_there s.levels)
taken_there s target a placed among =
    let arrays : LevelDesc → List ArrayDesc = λ l. l.arrays in
    let one = among_flat arrays (descs_to target s.chained.manifest.levels) a among in
    let level = filter_among (λ (l : LevelDesc). leb l.number target) s.chained.manifest.levels one.0 one.1 in
    subst (λ (xs : List ArrayDesc). Among a xs) (sym (listed_arrays s placed)) (among_in_flat arrays s.chained.manifest.levels one.0 a level.0 one.2)

-- where arrays were taken, none is kept that was not held before
pub left_held : (s : Held) (target : ℕ) (a : ArrayDesc) → ArePlaced s.chained.manifest.levels s.levels → Contains (retired_all (arrays_taken target s.chained.manifest) s.memory.cursors).retired a
    → Contains (arrays_held s.memory s.levels) a
left_held s target a placed of =
    let taken : List ArrayDesc = arrays_taken target s.chained.manifest in
    among_contained (arrays_held s.memory s.levels) a (elim (retired_from s.memory.cursors taken a of) [
      | inl before ↦ among_right (arrays_there s.levels) s.memory.cursors.retired a (contained_among s.memory.cursors.retired a before)
      | inr gone ↦ among_left (arrays_there s.levels) s.memory.cursors.retired a (taken_there s target a placed (contained_among taken a gone))
    ])

-- the blocks of two lists of arrays
times_both : (xs ys : List ArrayDesc) (b : ℕ) → times_in (extents_of (xs ++ ys)) b ≡ times_in (extents_of xs) b + times_in (extents_of ys) b
times_both xs ys b = ap (λ (es : List Extent). times_in es b) (flat_map-append (λ (a : ArrayDesc). a.extents) xs ys) ∙ times_append (extents_of xs) (extents_of ys) b

-- arrays that are kept are among those of before and those that were taken
retired_times : (arrays : List ArrayDesc) (c : HeldCursors) (b : ℕ) → times_in (extents_of (retired_all arrays c).retired) b ≤ times_in (extents_of arrays) b + times_in (extents_of c.retired) b
unfolding retired_all
retired_times [] c b = omega arith
retired_times (a ∷ arrays) c b = by (is_array_named (retired_all arrays c).opened a.id) (retired_times arrays c b)
  where
    by : (t : Bool) → times_in (extents_of (retired_all arrays c).retired) b ≤ times_in (extents_of arrays) b + times_in (extents_of c.retired) b
        → times_in (extents_of (if t then record (retired_all arrays c) { retired = (retired_all arrays c).retired ++ a ∷ [] } else retired_all arrays c).retired) b
        ≤ times_in (extents_of (a ∷ arrays)) b + times_in (extents_of c.retired) b
    by true rest = omega (
      arith,
      rest,
      times_both (retired_all arrays c).retired (a ∷ []) b,
      times_both (a ∷ []) [] b,
      times_append a.extents [] b,
      times_append a.extents (extents_of arrays) b,
    )
    by false rest = omega (arith, rest, times_append a.extents (extents_of arrays) b)

-- after a publication no block stands twice among those of the next manifest, of the arrays that were taken, and of those kept
pub stand_apart : (s : Held) (space after : SpaceView) (target : ℕ) (made : Option LevelDesc) (chain : List Extent) (m : Manifest) → IsConsistent s
    → HasMade s space target made → IsMarked space chain after
    → m ≡ manifest_after s.chained.manifest s.memory target made → StandApart target s (record { manifest = m; blocks = blocks_of chain })
stand_apart s space after target made chain m whole own more m_is =
    let old : Manifest = s.chained.manifest in
    let x : Contents = contents_held s [] in
    let y : Contents = record x { chained = record { manifest = m; blocks = blocks_of chain } } in
    let taken : List ArrayDesc = arrays_taken target old in
    let behind : List ArrayDesc = arrays_in (descs_behind target old.levels) in
    let were : descriptors old ≡ taken ++ behind =
    ap arrays_in (parted (λ (d : LevelDesc). d.number) target old.levels (numbers_rise old whole.spelled))
    ∙ flat_map-append (λ (l : LevelDesc). l.arrays) (descs_to target old.levels) (descs_behind target old.levels) in
    let are : descriptors m ≡ arrays_made made ++ behind =
    ap (λ (k : Manifest). arrays_in k.levels) m_is
    ∙ flat_map-append (λ (l : LevelDesc). l.arrays) (option_to_list made) (descs_behind target old.levels)
    ∙ ap (λ (xs : List ArrayDesc). xs ++ behind) (arrays_of_made made) in
    record {
      once = λ b. omega (
        arith,
        used_once after b,
        more.used b,
        own.apart b,
        named_times x b,
        named_times y b,
        ap (λ (xs : List ArrayDesc). times_in (extents_of xs) b) were,
        ap (λ (xs : List ArrayDesc). times_in (extents_of xs) b) are,
        times_both taken behind b,
        times_both (arrays_made made) behind b,
        times_listed chain b,
      );
    }
  where
    used_once : (t : SpaceView) (b : ℕ) → uses t b ≤ 1
    used_once t b = by (is_used t b)
      where
        by : (u : Bool) → cond {A = ℕ} u 1 0 ≤ 1
        by true = omega arith
        by false = omega arith

module _ (s : Held) (target : ℕ) (sb : Super) (chained : Chained) (levels : List (Option LevelDesc)) (whole : IsConsistent s) (are : ArePublishedTo target s.sb s.chained.manifest s.memory sb chained.manifest)
    (mem_is : sb.mem ≡ s.sb.mem) (spelled : is_lawful_manifest newest_format chained.manifest ≡ true) (belonging : belongs sb chained ≡ true) (placed : ArePlaced chained.manifest.levels levels) (apart : StandApart target s chained) where
  abbrev old : Manifest
  old = s.chained.manifest

  abbrev next : Manifest
  next = chained.manifest

  abbrev c : HeldCursors
  c = s.memory.cursors

  abbrev taken : List ArrayDesc
  taken = arrays_taken target old

  abbrev behind : List ArrayDesc
  behind = arrays_in (descs_behind target old.levels)

  abbrev made : List ArrayDesc
  made = arrays_made are.made

  abbrev left : List ArrayDesc
  left = (retired_all taken c).retired

  were : arrays_there s.levels ≡ taken ++ behind
  were =
      listed_arrays s whole.placed
      ∙ ap arrays_in (parted (λ (d : LevelDesc). d.number) target old.levels (numbers_rise old whole.spelled))
      ∙ flat_map-append (λ (l : LevelDesc). l.arrays) (descs_to target old.levels) (descs_behind target old.levels)

  now_are : arrays_there levels ≡ made ++ behind
  now_are =
      ap arrays_in placed.listed_are
      ∙ ap (λ (m : Manifest). arrays_in m.levels) are.manifest_is
      ∙ flat_map-append (λ (l : LevelDesc). l.arrays) (option_to_list are.made) (descs_behind target old.levels)
      ∙ ap (λ (xs : List ArrayDesc). xs ++ behind) (arrays_of_made are.made)

  later : old.next_array ≤ next.next_array
  later = let e = ap (λ (m : Manifest). m.next_array) are.manifest_is in omega (arith, e)

  -- the arrays of before, by their parts
  among_were : (a : ArrayDesc) → Among a ((taken ++ behind) ++ c.retired) → Among a (arrays_held s.memory s.levels)
  among_were a among = subst (λ (xs : List ArrayDesc). Among a (xs ++ c.retired)) (sym were) among

  low : (a : ArrayDesc) → Among a ((taken ++ behind) ++ c.retired) → a.id < old.next_array
  low a among = whole.kept.below a (among_contained (arrays_held s.memory s.levels) a (among_were a among))

  own : is_distinct (ids ((taken ++ behind) ++ c.retired)) ≡ true
  own = subst (λ (xs : List ArrayDesc). is_distinct (ids (xs ++ c.retired)) ≡ true) were whole.kept.ids

  own_parts : is_distinct (ids (taken ++ behind) ++ ids c.retired) ≡ true
  own_parts = ap is_distinct (sym (map-append (λ (a : ArrayDesc). a.id) (taken ++ behind) c.retired)) ∙ own

  own_levels : is_distinct (ids taken ++ ids behind) ≡ true
  own_levels = ap is_distinct (sym (map-append (λ (a : ArrayDesc). a.id) taken behind)) ∙ (distinct_parts (ids (taken ++ behind)) (ids c.retired) own_parts).0

  -- two arrays of different parts have two numbers
  levels_apart : (x y : ArrayDesc) → Among x (taken ++ behind) → Among y c.retired → x.id ≡ y.id → ⊥
  levels_apart x y one two same =
      (distinct_parts (ids (taken ++ behind)) (ids c.retired) own_parts).2 x.id (among_map (λ (a : ArrayDesc). a.id) (taken ++ behind) x one)
      (subst (λ (n : ℕ). Among n (ids c.retired)) (sym same) (among_map (λ (a : ArrayDesc). a.id) c.retired y two))

  taken_apart : (x y : ArrayDesc) → Among x taken → Among y behind → x.id ≡ y.id → ⊥
  taken_apart x y one two same =
      (distinct_parts (ids taken) (ids behind) own_levels).2 x.id (among_map (λ (a : ArrayDesc). a.id) taken x one)
      (subst (λ (n : ℕ). Among n (ids behind)) (sym same) (among_map (λ (a : ArrayDesc). a.id) behind y two))

  own_left : is_distinct (ids left) ≡ true
  own_left =
      retired_ids c taken [] (
      ap is_distinct (map-append (λ (a : ArrayDesc). a.id) taken c.retired)
      ∙ distinct_append (ids taken) (ids c.retired) (distinct_parts (ids taken) (ids behind) own_levels).0 (distinct_parts (ids (taken ++ behind)) (ids c.retired) own_parts).1 (λ v one two.
      let x = map_among (λ (a : ArrayDesc). a.id) taken v one in
      let y = map_among (λ (a : ArrayDesc). a.id) c.retired v two in
      levels_apart x.0 y.0 (among_left taken behind x.0 x.1) y.1 (sym x.2 ∙ y.2))
      )

  -- what is kept stood in a level or was kept
  left_from : (a : ArrayDesc) → Among a left → Among a c.retired ⊎ Among a taken
  left_from a among = elim (retired_from c taken a (among_contained left a among)) [
    | inl before ↦ inl (contained_among c.retired a before)
    | inr gone ↦ inr (contained_among taken a gone)
  ]

  left_were : (a : ArrayDesc) → Among a left → Among a ((taken ++ behind) ++ c.retired)
  left_were a among = elim (left_from a among) [
    | inl before ↦ among_right (taken ++ behind) c.retired a before
    | inr gone ↦ among_left (taken ++ behind) c.retired a (among_left taken behind a gone)
  ]

  left_apart : (x y : ArrayDesc) → Among x (made ++ behind) → Among y left → x.id ≡ y.id → ⊥
  left_apart x y one two same = elim (among_split made behind x one) [
    | inl fresh ↦
        let high = are.numbered x (among_contained made x fresh) in
        let under = low y (left_were y two) in
        omega (arith, high, under, same)
    | inr deep ↦ elim (left_from y two) [
      | inl before ↦ levels_apart x y (among_right taken behind x deep) before same
      | inr gone ↦ taken_apart y x gone deep (sym same)
    ]
  ]

  next_own : is_distinct (ids (arrays_there levels)) ≡ true
  next_own = ap (λ (xs : List ArrayDesc). is_distinct (ids xs)) (ap arrays_in placed.listed_are) ∙ pass_at (belonging_tests sb chained) 1 belonging

  next_low : (a : ArrayDesc) → Among a (arrays_there levels) → a.id < next.next_array
  next_low a among =
      let there : Among a (descriptors next) = subst (λ (xs : List ArrayDesc). Among a xs) (ap arrays_in placed.listed_are) among in
      let lawful = (array_lawful (versions_in next) next.next_array next.levels (pass_at (manifest_tests newest_format next) 8 spelled) (pass_at (belonging_tests sb chained) 2 belonging) a there).0 in
      ltb-true a.id next.next_array (pass_at (array_tests next.next_array a) 1 lawful)

  -- where the blocks of the arrays that were taken lie
  taken_within : (b : ℕ) → 0 < times_in (extents_of taken) b → (first_free s.sb.mem ≤ b) × (b < 4294967295)
  taken_within b some =
      let y : Contents = contents_held s [] in
      let all : descriptors old ≡ taken ++ behind = sym (listed_arrays s whole.placed) ∙ were in
      let more : 0 < times_in (extents_of (descriptors old)) b = omega (
        arith,
        some,
        ap (λ (xs : List ArrayDesc). times_in (extents_of xs) b) all,
        times_both taken behind b,
      ) in (
        named_behind s whole b (among_contained (named_blocks y) b (counted_among (named_blocks y) b (omega (arith, more, named_times y b)))),
        below_end (extents_of (descriptors old)) b (extents_lawful old whole.spelled) more,
      )

  left_times : (b : ℕ) → times_in (extents_of left) b ≤ times_in (extents_of taken) b + times_in (extents_of c.retired) b
  left_times b = retired_times taken c b

  pub kept_next : AreKept sb chained levels (renewed taken s.memory)
  kept_next = record {
    named = λ a of.
        let opened : (retired_all taken c).opened ≡ c.opened = (retired_rest c taken).0 in
        let asked : Contains (arrays_named c.opened) a = subst (λ (cs : List HeldCursor). Contains (arrays_named cs) a) opened of in
        let is_named : is_array_named c.opened a.id ≡ true = named_id c.opened a asked in
        let was : Among a ((taken ++ behind) ++ c.retired) =
        subst (λ (xs : List ArrayDesc). Among a (xs ++ c.retired)) were (contained_among (arrays_held s.memory s.levels) a (whole.kept.named a asked)) in
        among_contained (arrays_there levels ++ left) a (elim (among_split (taken ++ behind) c.retired a was) [
          | inl level ↦ elim (among_split taken behind a level) [
            | inl gone ↦ among_right (arrays_there levels) left a (contained_among left a (retired_there c taken a is_named (among_contained taken a gone)))
            | inr deep ↦ among_left (arrays_there levels) left a (subst (λ (xs : List ArrayDesc). Among a xs) (sym now_are) (among_right made behind a deep))
          ]
          | inr before ↦ among_right (arrays_there levels) left a (contained_among left a (retired_kept c taken a (among_contained c.retired a before)))
        ]);
    needed = subst (λ (cs : List HeldCursor). are_named cs (retired_all taken c).retired ≡ true) (sym (retired_rest c taken).0) (needed_retired taken c whole.kept.needed);
    ids = ap is_distinct (map-append (λ (a : ArrayDesc). a.id) (arrays_there levels) left)
        ∙ distinct_append (ids (arrays_there levels)) (ids left) next_own own_left (λ v one two.
        let x = map_among (λ (a : ArrayDesc). a.id) (arrays_there levels) v one in
        let y = map_among (λ (a : ArrayDesc). a.id) left v two in
        left_apart x.0 y.0 (subst (λ (xs : List ArrayDesc). Among x.0 xs) now_are x.1) y.1 (sym x.2 ∙ y.2));
    below = λ a of. elim (among_split (arrays_there levels) left a (contained_among (arrays_there levels ++ left) a of)) [
      | inl there ↦ next_low a there
      | inr kept ↦ let under = low a (left_were a kept) in let more = later in omega (arith, under, more)
    ];
    within = λ b some. subst (λ (n : ℕ). (first_free n ≤ b) × (b < 4294967295)) (sym mem_is) (elim (cases_Bool (ltb 0 (times_in (extents_of taken) b))) [
      | inl gone ↦ taken_within b (ltb-true 0 (times_in (extents_of taken) b) gone)
      | inr no' ↦ whole.kept.within b (let none = ltb-false 0 (times_in (extents_of taken) b) no' in omega (arith, some, left_times b, none))
    ]);
    once = λ b. omega (arith, apart.once b, left_times b);
    few = λ k of. whole.kept.few k (subst (λ (cs : List HeldCursor). Contains cs k) (retired_rest c taken).0 of);
  }
