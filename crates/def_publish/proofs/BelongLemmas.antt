-- The manifest of next contents belongs to their superblock.
use Rattle.std.proofs.Common.{◌≡◌, ◌<◌, ◌*◌, ℕ, true, leb, ltb, ◌&&◌, List, ◌++◌, length, map, Option, sym, ap, ◌∙◌, arith}
use Rattle.std.specs.List.{list_all, flat_map, range_with_len}
use Rattle.std.proofs.lemmas.Bool.{and_from, ltb-true, le-leb}
use Rattle.std.proofs.lemmas.Grind.{flat_map-append}
use Rattle.std.proofs.lemmas.List.{map-append}
use Rattle.strat_base.specs.declared.descriptors.ArrayDesc.{ArrayDesc}
use Rattle.strat_base.specs.declared.descriptors.LevelDesc.{LevelDesc}
use Rattle.strat_base.proofs.ListFacts.{Among, all_at, all_from, each_of, among_flat, range_among}
use Rattle.def_crash.specs.Image.{Image}
use Rattle.def_bytes.specs.Manifest.{Manifest, is_lawful_array, versions_in}
use Rattle.def_bytes.proofs.ManifestLemmas.{pass_at}
use Rattle.def_split.proofs.ListLemmas.{map_among, distinct_append, distinct_range}
use Rattle.def_recovery.specs.Head.{descriptors}
use Rattle.def_recovery.specs.Opening.{array_blocks, has_own_blocks, has_own_ids, has_own_versions, is_filled, belongs}
use Rattle.def_recovery.proofs.OpeningLemmas.{level_tests}
use Rattle.def_recovery.proofs.PassedLemmas.{array_tests, belonging_tests}
use Rattle.def_state.specs.Level.{is_distinct, IsStratified}
use Rattle.def_state.specs.State.{versions_of}
use Rattle.def_state.proofs.LevelLemmas.{distinct_behind}
use Rattle.def_publish.specs.Contents.{Contents}
use Rattle.def_publish.specs.Next.{arrays_made, MayBeNext}
use Rattle.def_publish.proofs.DescribedLemmas.{blocks_counted, tags_kept}
use Rattle.def_publish.proofs.NextLemmas as next

module _ (f g : Image) (old new : Contents) (made : Option LevelDesc) (taken kept : List LevelDesc) (m : MayBeNext f g old new made taken kept) where
  abbrev was : Manifest
  was = old.chained.manifest

  abbrev now : Manifest
  now = new.chained.manifest

  abbrev behind : List ArrayDesc
  behind = flat_map (λ (l : LevelDesc). l.arrays) kept

  abbrev ids : List ArrayDesc → List ℕ
  ids rs = map (λ a. a.id) rs

  pub own_versions : list_all has_own_versions now.levels ≡ true
  own_versions = all_from has_own_versions now.levels (λ d among.
      let l = next.level_at f g old new made taken kept m.follows d among in
      let tags = tags_kept g d.arrays l.level.arrays l.arrays in
      let strat = each_of (IsStratified (versions_of (next.state f g old new made taken kept m.follows))) new.levels l.level m.follows.is_sound.stratified l.among in
      sym (λ i. is_distinct (tags i) && list_all (λ v. ltb v (l.aged i)) (tags i)) ∙ strat.disjoint)

  -- the numbers of arrays
  kept_distinct : is_distinct (ids behind) ≡ true
  kept_distinct =
      let all = pass_at (belonging_tests old.sb old.chained) 1 m.follows.reads.lies.belonging in
      let split : descriptors was ≡ flat_map (λ l. l.arrays) taken ++ behind = ap (flat_map (λ (l : LevelDesc). l.arrays)) m.follows.next.levels_were ∙ flat_map-append (λ (l : LevelDesc). l.arrays) taken kept in
      let parts : ids (descriptors was) ≡ ids (flat_map (λ l. l.arrays) taken) ++ ids behind = ap ids split ∙ map-append (λ (a : ArrayDesc). a.id) (flat_map (λ (l : LevelDesc). l.arrays) taken) behind in
      distinct_behind (ids (flat_map (λ l. l.arrays) taken)) (ids behind) (ap is_distinct (sym parts) ∙ all)

  kept_below : (v : ℕ) → Among v (ids behind) → v < was.next_array
  kept_below v among =
      let at = map_among (λ (a : ArrayDesc). a.id) behind v among in
      let found = among_flat (λ (l : LevelDesc). l.arrays) kept at.0 at.1 in
      let lawful = next.lawful_was f g old new made taken kept m.follows found.0 (next.kept_was f g old new made taken kept m.follows found.0 found.1) in
      let array = all_at (is_lawful_array was.next_array) at.0 found.0.arrays (pass_at (level_tests (versions_in was) was.next_array found.0) 5 lawful) found.2 in
      omega (arith, at.2, ltb-true at.0.id was.next_array (pass_at (array_tests was.next_array at.0) 1 array))

  own_ids : has_own_ids now ≡ true
  own_ids =
      let n : ℕ = length (arrays_made made) in
      let all : ids (descriptors now) ≡ range_with_len was.next_array n ++ ids behind =
      ap ids (next.arrays_are f g old new made taken kept m.follows) ∙ map-append (λ (a : ArrayDesc). a.id) (arrays_made made) behind
      ∙ ap (λ (l : List ℕ). l ++ ids behind) m.follows.fresh.numbered in
      ap is_distinct all
      ∙ distinct_append (range_with_len was.next_array n) (ids behind) (distinct_range was.next_array n) kept_distinct (λ v a b.
      let low = range_among was.next_array n v a in
      let high = kept_below v b in
      absurd (omega (arith, low.0, high)))

  filled : list_all is_filled (descriptors now) ≡ true
  filled = all_from is_filled (descriptors now) (λ a among.
      let found = among_flat (λ (l : LevelDesc). l.arrays) now.levels a among in
      let x = next.array_at f g old new made taken kept m.follows found.0 a found.1 found.2 in
      and_from (leb a.entries (2 * a.leads)) (leb (array_blocks a) a.entries) (le-leb a.entries (2 * a.leads) x.led) (le-leb (array_blocks a) a.entries (omega (arith, x.few, blocks_counted a.extents))))

  -- the next manifest belongs to its superblock where its blocks are its own
  pub next_belongs : has_own_blocks new.sb new.chained.blocks now ≡ true → belongs new.sb new.chained ≡ true
  next_belongs own =
      next.pass_more _ _ own (next.pass_more _ _ own_ids (next.pass_more _ _ own_versions
      (next.pass_more _ _ (le-leb (versions_in now) new.sb.versions_max (next.versions_most f g old new made taken kept m.follows))
      (next.pass_more _ _ (le-leb now.changes new.sb.changes_max (next.changes_most f g old new made taken kept m.follows))
      (next.pass_more _ _ (le-leb _ now.updates (next.leads_within f g old new made taken kept m.follows))
      (next.pass_more _ _ filled (next.pass_more _ _ m.few next.pass_none)))))))
