-- The next contents, from what a promotion leaves to what a publication asks.
use Rattle.std.proofs.Common.{◌≡◌, ◌≤◌, ◌<◌, ◌^◌, ◌-◌, List, length, Option, Some, sym, ap, ◌∙◌, subst, arith}
use Rattle.std.specs.Option.{option_to_list}
use Rattle.strat_base.specs.declared.descriptors.Extent.{Extent}
use Rattle.strat_base.specs.declared.descriptors.LevelDesc.{LevelDesc}
use Rattle.def_crash.specs.Image.{Image}
use Rattle.def_crash.specs.Moments.{DiskView, OnlyReads, IsDurable}
use Rattle.strat_extent.specs.Blocks.{SpaceView}
use Rattle.def_bytes.specs.Arrays.{all_some}
use Rattle.def_bytes.specs.Manifest.{manifest_bytes}
use Rattle.def_promote.specs.Promoted.{SaysTheSame}
use Rattle.def_recovery.specs.Opened.{level_on}
use Rattle.def_state.specs.Sound.{IsSound}
use Rattle.def_publish.specs.Contents.{Contents, contents_state}
use Rattle.def_publish.specs.Next.{state_after, arrays_made, AreNewArrays, IsNextOf, IsSoundNext, MayBeNext, HasManifest, IsPromotion}
use Rattle.def_publish.specs.Occupied.{IsSpaceOf}
use Rattle.def_publish.specs.Publication.{Succeeds, IsPrepared}
use Rattle.def_publish.specs.Standing.{LiesIn, ReadsAs, LeavesContent, ContentsStand}
use Rattle.def_publish.proofs.BelongLemmas.{next_belongs}
use Rattle.def_publish.proofs.LongLemmas.{next_succeeds}
use Rattle.def_publish.proofs.NextLemmas.{few_parts, few_from, changes_grown, changes_more, made_few, entries_made, was_few, counted, next_spelled}
use Rattle.def_publish.proofs.OccupiedLemmas.{own_blocks}
use Rattle.def_publish.proofs.PromotedLemmas.{promoted_state, levels_replaced, lies_written}
use Rattle.def_publish.proofs.PublishLemmas.{synced_prepares}

module _ (f g : Image) (old new : Contents) (made : Option LevelDesc) (taken kept : List LevelDesc) where
  -- what a promotion leaves follows soundly
  pub promotion_follows : ReadsAs f old → IsSound (contents_state old) → IsNextOf old new made taken kept → AreNewArrays old.chained.manifest.next_array (arrays_made made)
      → IsPromotion g old new made taken → IsSoundNext f g old new made taken kept × SaysTheSame (contents_state old) (contents_state new)
  promotion_follows reads sound next fresh p =
      let state : state_after old new ≡ contents_state new = sym (promoted_state old new sound next.promoted) in (
        record {
          reads = reads;
          next = next;
          arrays = ap (all_some (level_on g)) next.levels_are ∙ levels_replaced g old taken kept (option_to_list made) p.fresh p.lies next.levels_were p.read ∙ ap (λ (ls : List _). Some ls) (sym p.levels);
          was_sound = sound;
          is_sound = subst IsSound state p.sound;
          fresh = fresh;
        },
        subst (SaysTheSame (contents_state old)) state p.says,
      )

  -- and may be the next contents, if the journal had a change
  pub follows_next : IsSoundNext f g old new made taken kept → 1 ≤ length old.journal → MayBeNext f g old new made taken kept
  follows_next m some = record { follows = m; few = counted f g old new made taken kept m some }

  pub promotion_next : ReadsAs f old → 1 ≤ length old.journal → IsSound (contents_state old) → IsNextOf old new made taken kept → AreNewArrays old.chained.manifest.next_array (arrays_made made)
      → IsPromotion g old new made taken → MayBeNext f g old new made taken kept × SaysTheSame (contents_state old) (contents_state new)
  promotion_next reads some sound next fresh p =
      let both = promotion_follows reads sound next fresh p in (follows_next both.0 some, both.1)

  module _ (m : MayBeNext f g old new made taken kept) (s : SpaceView) (others : List Extent) (space : IsSpaceOf s new others) (c : Image) (has : HasManifest c new) where
    -- they may take the place of the old ones
    pub computed_succeed : SaysTheSame (contents_state old) (contents_state new) → Succeeds old new
    computed_succeed says =
        let below : new.sb.manifest < 2 ^ 32 - 1 = has.chain.named.0.1 in
        next_succeeds f g old new made taken kept m has.size has.others has.blocks (own_blocks s new others space) (omega (arith, below)) says

    -- and lie where they were written
    pub computed_lie : all_some (level_on c) new.chained.manifest.levels ≡ Some new.levels → LiesIn c new
    computed_lie arrays =
        lies_written c new has.others (manifest_bytes new.sb.format new.chained.manifest) (next_spelled f g old new made taken kept m.follows m.few) has.chain has.blocks has.size
        (next_belongs f g old new made taken kept m (own_blocks s new others space)) arrays

-- of two publications in a row the second need find no change in the journal: two changes in front of both are enough
module _ (f g : Image) (old mid : Contents) (made : Option LevelDesc) (taken kept : List LevelDesc) (m : IsSoundNext f g old mid made taken kept)
    (d h : Image) (new : Contents) (more : Option LevelDesc) (from behind : List LevelDesc) (n : IsSoundNext d h mid new more from behind) (some : 2 ≤ length old.journal) where
  pub follows_again : MayBeNext d h mid new more from behind
  follows_again =
      let was = few_parts old.sb old.chained.manifest (was_few f g old mid made taken kept m) in
      let grown = changes_grown f g old mid made taken kept m 2 (omega arith) some in
      let later = changes_more d h mid new more from behind n in
      record {
        follows = n;
        few = few_from new.sb new.chained.manifest
            (omega (arith, n.next.generation, m.next.generation, was.0, grown, later))
            (omega (arith, n.next.next_array, m.next.next_array, made_few f g old mid made taken kept m, made_few d h mid new more from behind n, was.1, grown, later))
            (omega (arith, n.next.written, m.next.written, entries_made f g old mid made taken kept m, entries_made d h mid new more from behind n, was.2, grown, later))
            (omega (arith, n.next.promoted.compacted, m.next.promoted.compacted, was.3, grown, later));
      }

-- so a sync prepares them
pub computed_prepared : (v w : DiskView) (old new : Contents) (made : Option LevelDesc) (taken kept : List LevelDesc) (s : SpaceView) (others : List Extent) (stands : ContentsStand v old) (f : Image)
    → MayBeNext f stands.content old new made taken kept → SaysTheSame (contents_state old) (contents_state new) → IsSpaceOf s new others → HasManifest stands.content new
    → OnlyReads v w → IsDurable w → LeavesContent w → IsPrepared w old new
computed_prepared v w old new made taken kept s others stands f m says space has reads durable leaves =
    let c : Image = stands.content in
    synced_prepares v w old new stands (computed_succeed f c old new made taken kept m s others space c has says) (computed_lie f c old new made taken kept m s others space c has m.follows.arrays) reads durable leaves
