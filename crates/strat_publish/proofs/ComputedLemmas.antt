-- The next contents of a store, from what was promoted and written.
use Rattle.std.proofs.Common.{◌≡◌, ◌≤◌, ◌+◌, ◌^◌, ℕ, true, inl, inr, List, [], ◌∷◌, ◌++◌, length, map, flat_map, Option, None, Some, IsSome, refl, sym, ap, ◌∙◌, subst, arith}
use Rattle.std.specs.List.{sum_by}
use Rattle.std.proofs.lemmas.List.Sums.{sum_by-cons}
use Rattle.strat_base.proofs.ListFacts.{Among, among_flat, among_left}
use Rattle.strat_base.specs.declared.descriptors.ArrayDesc.{ArrayDesc}
use Rattle.strat_base.specs.declared.descriptors.Extent.{Extent}
use Rattle.strat_base.specs.declared.descriptors.LevelDesc.{LevelDesc}
use Rattle.def_crash.specs.Blocks.{TearsBlocks}
use Rattle.def_crash.specs.Image.{Image}
use Rattle.def_crash.specs.Moments.{DiskView, Exposes}
use Rattle.strat_extent.specs.Blocks.{SpaceView, is_free}
use Rattle.strat_extent.specs.Change.{IsMarked}
use Rattle.def_bytes.specs.Arrays.{blocks_of}
use Rattle.def_bytes.specs.Manifest.{Manifest, is_rising}
use Rattle.strat_journal.specs.Log.{Log}
use Rattle.strat_promote.proofs.SpacesLemmas.{blocks_joined}
use Rattle.strat_promote.specs.Promotions.{entries_if_any}
use Rattle.def_promote.specs.Promoted.{levels_behind, promoted}
use Rattle.def_promote.specs.Sealed.{grown_by}
use Rattle.def_recovery.specs.Head.{descriptors}
use Rattle.def_publish.proofs.LongLemmas.{bytes_few}
use Rattle.def_publish.proofs.NextLemmas.{array_at, arrays_are, changes_bound, entries_made, few_parts, next_lawful}
use Rattle.def_publish.proofs.PromotedLemmas.{promoted_state}
use Rattle.def_publish.specs.Contents.{Contents, later_part, sealed_state}
use Rattle.def_publish.specs.Next.{IsNextOf, MayBeNext, HasManifest, arrays_made}
use Rattle.def_publish.specs.Occupied.{IsSpaceOf, extents_of, arrays_in}
use Rattle.def_publish.specs.Standing.{ContentsStand, LeavesContent}
use Rattle.def_state.specs.State.{IsPaid}
use Rattle.strat_memory.proofs.FilterLemmas.{filtered_after}
use Rattle.strat_memory.specs.Filters.{LevelFilters}
use Rattle.strat_memory.specs.Memory.{Memory}
use Rattle.strat_publish.specs.Publishing.{MayBeWritten, MayCompute, IsComputedBy, IsWrittenBeside, IsWrittenTo, manifest_after, contents_after, descs_to, descs_behind}
use Rattle.strat_publish.proofs.KeepingLemmas.{fresh_filtered, fresh_numbered}
use Rattle.strat_publish.proofs.NextContentsLemmas.{after_next, computed, next_here, numbers_rise}
use Rattle.strat_publish.proofs.WritingLemmas.{space_written}

pub entries_counted : (made : Option LevelDesc) → entries_if_any made ≡ sum_by (λ (a : ArrayDesc). a.entries) (arrays_made made)
entries_counted None = refl
entries_counted (Some level) = refl

-- arrays of which each has no more blocks than entries
blocks_filled : (arrays : List ArrayDesc) → ((a : ArrayDesc) → Among a arrays → length (blocks_of a.extents) ≤ a.entries) → length (blocks_of (extents_of arrays)) ≤ sum_by (λ (a : ArrayDesc). a.entries) arrays
blocks_filled [] each = omega arith
blocks_filled (a ∷ arrays) each =
    omega (arith, each a (inl refl), blocks_filled arrays (λ d among. each d (inr among)), blocks_joined a.extents (extents_of arrays), sum_by-cons (λ (d : ArrayDesc). d.entries) a arrays)

-- what a store has that may compute its next contents
module _ (v : DiskView) (s : SpaceView) (m : Memory) (log : Log) (x : Contents) (target : ℕ) (made : Option LevelDesc) (filters : LevelFilters) (others : List Extent) (may : MayCompute v s m log x target made filters others)
    (old : Manifest) (old_is : x.chained.manifest ≡ old) where
  abbrev at : ContentsStand v x
  at = may.stands

  rising : is_rising (map (λ (d : LevelDesc). d.number) x.chained.manifest.levels) ≡ true
  rising = numbers_rise x.chained.manifest may.lawful

  -- the next contents, with a manifest of so many bytes in these blocks
  module _ (first size : ℕ) (blocks : List ℕ) where
    abbrev new : Contents
    new = contents_after x m target made (may.promoted.last.says.fresh ++ levels_behind target x.levels) first size blocks

    next : IsNextOf x new made (descs_to target x.chained.manifest.levels) (descs_behind target x.chained.manifest.levels)
    next = after_next x m target made (may.promoted.last.says.fresh ++ levels_behind target x.levels) first size blocks may.memory may.stands.sound rising

    follows : MayBeNext at.content at.content x new made (descs_to target x.chained.manifest.levels) (descs_behind target x.chained.manifest.levels)
    follows = (next_here at.content x new target made (at.reads at.content at.left) may.stands.sound may.full may.promoted.last.says may.promoted.last.fresh refl next rising).0

  -- its manifest may be written
  pub may_be_written : MayBeWritten (manifest_after old m target made)
  may_be_written =
      let c = at.content in
      let to = descs_to target x.chained.manifest.levels in
      let behind = descs_behind target x.chained.manifest.levels in
      let y : Contents = new 0 0 [] in
      let n = follows 0 0 [] in
      let bound = changes_bound c c x y made to behind n.follows in
      let counts = few_parts y.sb y.chained.manifest n.few in
      let short = bytes_few c c x y made to behind n in
      let here : MayBeWritten y.chained.manifest = record {
        lawful = next_lawful c c x y made to behind n.follows n.few;
        short = omega (arith, short);
        written = omega (arith, counts.2, bound);
        next_array = omega (arith, counts.1, bound);
      } in
      subst (λ (k : Manifest). MayBeWritten (manifest_after k m target made)) old_is here

  -- the level that was made has few blocks
  pub made_blocks : length (blocks_of (extents_of (arrays_made made))) ≤ 2 ^ 25
  made_blocks =
      let c = at.content in
      let to = descs_to target x.chained.manifest.levels in
      let behind = descs_behind target x.chained.manifest.levels in
      let y : Contents = new 0 0 [] in
      let n = follows 0 0 [] in
      let few = blocks_filled (arrays_made made) (λ a among.
      let there : Among a (descriptors y.chained.manifest) =
      subst (λ (rs : List ArrayDesc). Among a rs) (sym (arrays_are c c x y made to behind n.follows)) (among_left (arrays_made made) (flat_map (λ (l : LevelDesc). l.arrays) behind) a among) in
      let found = among_flat (λ (l : LevelDesc). l.arrays) y.chained.manifest.levels a there in
      (array_at c c x y made to behind n.follows found.0 a found.1 found.2).few) in
      omega (arith, few, entries_made c c x y made to behind n.follows)

  -- and where it was, they are computed
  module _ (u : DiskView) (r : SpaceView) (first size : ℕ) (chain : List Extent) (writing : TearsBlocks (is_free s) v u) (marked : IsMarked s chain r)
      (after : LeavesContent u) (manifest : Manifest) (manifest_is : manifest ≡ manifest_after old m target made)
      (stored : IsSome v.content → (g : Image) → Exposes u g → (new : Contents) → IsWrittenTo first size chain manifest new → HasManifest g new)
      (low : 1 ≤ target) where
    abbrev later : Contents
    later = new first size (blocks_of chain)

    used_after : (gone : List Extent) → blocks_of gone ≡ x.chained.blocks → IsSpaceOf r later (gone ++ (extents_of (arrays_in (descs_to target x.chained.manifest.levels)) ++ others))
    used_after gone gone_is =
        space_written s r chain marked x later made (descs_to target x.chained.manifest.levels) (descs_behind target x.chained.manifest.levels) gone others (next first size (blocks_of chain)) refl gone_is may.space

    beside : IsWrittenBeside v u s r x later target made others (may.chain ++ (extents_of (arrays_in (descs_to target x.chained.manifest.levels)) ++ others))
    beside = record {
      stands = may.stands;
      full = may.full;
      promoted = may.promoted;
      space = may.space;
      writing = writing;
      after = after;
      used = used_after may.chain may.chain_is;
      manifest = λ g now. stored (some_told v.content at.content at.exposed) g now later (record {
        chained = λ i. record { manifest = (ap (λ (k : Manifest). manifest_after k m target made) old_is ∙ sym manifest_is) i; blocks = blocks_of chain };
        format = refl;
        first_is = refl;
        length_is = refl;
      });
      next = next first size (blocks_of chain);
      levels = refl;
    }
      where
        some_told : (o : Option Image) (g : Image) → o ≡ Some g → IsSome o
        some_told None g e = absurd (cc)
        some_told (Some h) g e = refl

    pub computed_by : IsComputedBy u r x m log target made first size chain others filters
    computed_by = record {
      levels = may.promoted.last.says.fresh ++ levels_behind target x.levels;
      computed = computed v u s r x later target made others (may.chain ++ (extents_of (arrays_in (descs_to target x.chained.manifest.levels)) ++ others)) beside rising log may.log_is;
      used = used_after;
      fresh = may.promoted.last.fresh;
      paid = λ paid honest full.
          let p = may.promoted.paid paid honest in
          let both : Some p.fresh ≡ Some may.promoted.last.says.fresh = sym p.read ∙ may.promoted.last.says.read in
          let same : p.fresh ≡ may.promoted.last.says.fresh = cc in
          let sum = entries_counted made in
          let state = promoted_state x later may.stands.sound (next first size (blocks_of chain)).promoted in
          let then = p.paid later.chained.manifest.next_array in
          let now : IsPaid (grown_by (promoted (sealed_state x) (p.fresh ++ levels_behind target x.levels) (x.chained.manifest.written + entries_if_any made) later.chained.manifest.next_array) (later_part x)) =
          record { shallow = then.shallow; bounded = then.bounded } in
          subst IsPaid
          ((λ i. grown_by (promoted (sealed_state x) (same i ++ levels_behind target x.levels) (x.chained.manifest.written + sum i) later.chained.manifest.next_array) (later_part x)) ∙ sym state)
          now;
      filtered = λ before of.
          filtered_after before target filters low may.promoted.last.says.fresh x.levels of
          (fresh_numbered at.content made may.promoted.last.says.fresh may.promoted.last.says.read target may.promoted.last.numbered)
          (fresh_filtered at.content made may.promoted.last.says.fresh may.promoted.last.says.read filters may.filtered);
    }
