-- What the last slice made, on the way to its publication.
use Rattle.std.proofs.Common.{◌≡◌, ◌≤◌, ℕ, zero, suc, true, inl, inr, List, [], ◌∷◌, ◌++◌, length, map, drop, Option, Some, None, refl, sym, ap, ◌∙◌, subst, arith}
use Rattle.std.specs.List.{AllByRecursion, flat_map, slice_get}
use Rattle.std.specs.Option.{option_to_list}
use Rattle.std.proofs.lemmas.List.{append-nil}
use Rattle.std.proofs.lemmas.Option.{slice_get_within}
use Rattle.strat_array.proofs.SpellingLemmas.{maximal_lawful, maximal_apart}
use Rattle.strat_array.specs.Pushed.{AreMaximal}
use Rattle.strat_array.specs.Progress.{ArrayProgress}
use Rattle.strat_array.specs.Within.{AreWithin}
use Rattle.strat_base.proofs.ListFacts.{Among, among_split}
use Rattle.strat_base.specs.Entries.{Entry}
use Rattle.strat_base.specs.declared.descriptors.ArrayDesc.{ArrayDesc}
use Rattle.strat_base.specs.declared.descriptors.Extent.{Extent}
use Rattle.strat_base.specs.declared.descriptors.LevelDesc.{LevelDesc}
use Rattle.def_crash.specs.Blocks.{KeepsTaken}
use Rattle.def_crash.specs.Image.{Image}
use Rattle.def_crash.specs.Moments.{DiskView, OnlyReads, IsDurable}
use Rattle.strat_extent.proofs.ChangeLemmas.{used_not_free}
use Rattle.strat_extent.specs.Blocks.{SpaceView, is_used, is_free}
use Rattle.def_bytes.specs.Arrays.{blocks_of}
use Rattle.def_slice.specs.Ending.{SlicesLast, IsLastMade}
use Rattle.def_slice.specs.Opened.{OpenPromotion, IsOpenOver, job_open}
use Rattle.def_slice.proofs.LastLemmas.{last_promotes, done_leaves}
use Rattle.def_slice.proofs.OpenedLemmas.{counted, begun_over}
use Rattle.strat_promote.proofs.ReplacingLemmas.{made_arrays, made_promotes}
use Rattle.strat_promote.proofs.StateInputsLemmas.{begun_takes, begun_job}
use Rattle.strat_promote.specs.Closing.{AreAllUsed}
use Rattle.strat_promote.specs.Job.{Job}
use Rattle.strat_promote.specs.Owned.{OwnsItsBlocks, extents_made}
use Rattle.strat_promote.specs.Promotions.{target_of, level_of, writers_of}
use Rattle.strat_promote.specs.Stages.{IsMade, IsPlanMade}
use Rattle.strat_promote.specs.StateInputs.{IsBegunOver, job_of_state}
use Rattle.strat_promote.specs.Steps.{Inputs}
use Rattle.strat_promote.specs.declared.promotion.Promotion.{Promotion}
use Rattle.strat_promote.specs.declared.step.Task.{Task}
use Rattle.def_promote.specs.Promoted.{levels_to, levels_behind}
use Rattle.def_publish.proofs.ComputedLemmas.{promotion_next, computed_prepared}
use Rattle.def_publish.proofs.ListLemmas.{among_contained}
use Rattle.def_publish.proofs.LocalLemmas.{levels_local, level_blocks}
use Rattle.def_publish.proofs.PartLemmas.{arrays_new}
use Rattle.def_publish.proofs.PlaceLemmas.{newest_fits}
use Rattle.def_publish.proofs.PromotedLemmas.{sealed_ordered}
use Rattle.def_publish.specs.Contents.{Contents, contents_state, sealed_state}
use Rattle.def_publish.specs.Next.{AreNewArrays, AreArraysOf, IsNextOf, HasManifest, arrays_made}
use Rattle.def_publish.specs.Occupied.{IsSpaceOf}
use Rattle.def_publish.specs.Publication.{IsPrepared}
use Rattle.def_publish.specs.Standing.{ReadsAs, LeavesContent, ContentsStand}
use Rattle.def_state.specs.Sound.{IsOrdered}
use Rattle.def_state.proofs.SoundLemmas.{ordered}

-- what holds of the extents of each array
extents_at : (P : List Extent → Type 0) (arrays : List ArrayDesc) (q : ℕ) (a : ArrayDesc) → AllByRecursion P (map (λ (x : ArrayDesc). x.extents) arrays) → slice_get arrays q ≡ Some a → P a.extents
extents_at P [] q a all there = absurd (cc)
extents_at P (x ∷ arrays) zero a all there = let e : x ≡ a = cc in subst (λ (y : ArrayDesc). P y.extents) e all.0
extents_at P (x ∷ arrays) (suc q) a all there = extents_at P arrays q a all.1 there

-- the last slice made a level in new arrays
module _ (f g : Image) (x : Contents) (fill : ℕ) (sealed : List Entry) (levels : List (Option LevelDesc)) (others : List Extent) (o : OpenPromotion) (q : Promotion) (inputs : Inputs)
    (p : IsOpenOver f x fill sealed levels others o) (s : SlicesLast f g x sealed levels (job_open x levels p.going.was) o q inputs) (owns : OwnsItsBlocks (writers_of q) (level_of q)) where
  over : IsBegunOver f (sealed_state x) inputs p.going.was
  over = begun_over f x sealed levels p.going.was inputs s.reads.lies p.going.begun s.lent

  before : IsOrdered (sealed_state x)
  before = sealed_ordered x (ordered (contents_state x) s.sound)

  abbrev target : ℕ
  target = target_of p.going.was

  abbrev the_job : Job
  the_job = job_of_state (sealed_state x) inputs.levels target

  task_same : q.task ≡ p.going.was.task
  task_same = s.same.task ∙ p.going.same.task

  made_is : IsMade f g the_job target p.going.was.task.first (level_of q)
  made_is =
      subst (λ (ls : List (Option LevelDesc)). IsMade f g (job_of_state (sealed_state x) ls target) target p.going.was.task.first (level_of q)) (sym s.lent.levels_are)
      (subst (λ (t : Task). IsMade f g (job_open x levels p.going.was) t.target t.first (level_of q)) task_same s.sliced.1)

  arrays_of_plan : (made : Option LevelDesc) → level_of q ≡ made → AreArraysOf made_is.plan p.going.was.task.first (arrays_made made)
  arrays_of_plan None e =
      let none : made_is.plan.parts ≡ [] = subst (λ (m : Option LevelDesc). IsPlanMade g the_job target p.going.was.task.first made_is.groups made_is.plan m) e made_is.level in
      record { len = sym (ap (λ (ps : List _). length ps) none); each = λ n a there. absurd (cc) }
  arrays_of_plan (Some level) e =
      let one = subst (λ (m : Option LevelDesc). IsPlanMade g the_job target p.going.was.task.first made_is.groups made_is.plan m) e made_is.level in
      let spelled = subst (λ (m : Option LevelDesc). AllByRecursion (λ (xs : List Extent). AreMaximal xs × AreWithin xs) (extents_made m)) e owns.each in
      record {
        len = one.len;
        each = λ n a there.
            let within = slice_get_within level.arrays n a there in
            let got =
            made_arrays f g (sealed_state x) target p.going.was.task.first (levels_to target x.levels) (levels_behind target x.levels) the_job (level_of q) made_is
            (begun_job f (sealed_state x) inputs p.going.was before over) before level one n (omega (arith, within, one.len)) in
            let both : Some got.0 ≡ Some a = sym got.1 ∙ there in
            let alike : got.0 ≡ a = cc in
            let here : AreMaximal a.extents × AreWithin a.extents = extents_at (λ (xs : List Extent). AreMaximal xs × AreWithin xs) level.arrays n a spelled there in
            record {
              id = sym (ap (λ (d : ArrayDesc). d.id) alike) ∙ got.2;
              versions = sym (ap (λ (d : ArrayDesc). d.versions) alike) ∙ got.3;
              entries = sym (ap (λ (d : ArrayDesc). d.entries) alike) ∙ got.4;
              lawful = maximal_lawful a.extents here.0 here.1;
              apart = maximal_apart a.extents here.0;
            };
      }

  pub last_made : IsLastMade g x (target_of q) (level_of q)
  last_made =
      let promotes =
      made_promotes f g (sealed_state x) target p.going.was.task.first (levels_to target x.levels) (levels_behind target x.levels) the_job (level_of q) made_is
      (begun_job f (sealed_state x) inputs p.going.was before over) (begun_takes f (sealed_state x) inputs p.going.was before over) in
      let first_is : p.going.was.task.first ≡ x.chained.manifest.next_array = (p.going.begun.begun inputs.zero (counted f x sealed levels p.going.was inputs s.reads.lies p.going.begun s.lent)).first in
      record {
        says = done_leaves f g x fill sealed levels others o q inputs p s;
        fresh = subst (λ (n : ℕ). AreNewArrays n (arrays_made (level_of q))) first_is (arrays_new _ _ _ made_is.plan p.going.was.task.first (arrays_made (level_of q)) promotes.split.split (arrays_of_plan (level_of q) refl));
        numbered = λ level e.
            (subst (λ (m : Option LevelDesc). IsPlanMade g the_job target p.going.was.task.first made_is.groups made_is.plan m) e made_is.level).number
            ∙ sym (ap (λ (t : Task). t.target) task_same);
      }

-- the blocks of the level are used
each_used : (s : SpaceView) (arrays : List ArrayDesc) (writers : List ArrayProgress) → map (λ (a : ArrayDesc). a.extents) arrays ≡ map (λ (w : ArrayProgress). w.extents) writers → AreAllUsed s writers
    → (b : ℕ) → Among b (flat_map (λ (a : ArrayDesc). blocks_of a.extents) arrays) → is_used s b ≡ true
each_used s [] writers e all b among = absurd among
each_used s (a ∷ arrays) [] e all b among = absurd (cc)
each_used s (a ∷ arrays) (w ∷ writers) e all b among =
    let head : a.extents ≡ w.extents = cc in
    let rest : map (λ (d : ArrayDesc). d.extents) arrays ≡ map (λ (v : ArrayProgress). v.extents) writers = cc in
    elim (among_split (blocks_of a.extents) (flat_map (λ (d : ArrayDesc). blocks_of d.extents) arrays) b among) [
      | inl here ↦ all zero w refl b (among_contained (blocks_of w.extents) b (subst (λ (xs : List Extent). Among b (blocks_of xs)) head here))
      | inr there ↦ each_used s arrays writers rest (λ n v at. all (suc n) v at) b there
    ]

made_used : (s : SpaceView) (writers : List ArrayProgress) (made : Option LevelDesc) → OwnsItsBlocks writers made → AreAllUsed s writers → (b : ℕ) → Among b (level_blocks (option_to_list made)) → is_used s b ≡ true
made_used s writers None owns all b among = absurd among
made_used s writers (Some level) owns all b among =
    each_used s level.arrays writers owns.owned all b (subst (λ (ds : List ArrayDesc). Among b (flat_map (λ (a : ArrayDesc). blocks_of a.extents) ds)) (append-nil level.arrays) among)

-- so it stays where later writes, those of the manifest, go to free blocks
pub made_stays : (g h : Image) (x : Contents) (target : ℕ) (made : Option LevelDesc) (s : SpaceView) (writers : List ArrayProgress) → IsLastMade g x target made → OwnsItsBlocks writers made → AreAllUsed s writers
    → KeepsTaken (is_free s) g h → IsLastMade h x target made
made_stays g h x to made s writers m owns all keeps = record {
  says = record {
    fresh = m.says.fresh;
    read = levels_local g h (option_to_list made) (λ b among. keeps b (used_not_free s b (made_used s writers made owns all b among))) ∙ m.says.read;
    says = m.says.says;
    sound = m.says.sound;
  };
  fresh = m.fresh;
  numbered = m.numbered;
}

-- and a sync prepares the contents that are computed of it
pub last_prepared : (v w : DiskView) (x y : Contents) (target : ℕ) (made : Option LevelDesc) (taken kept : List LevelDesc) (s : SpaceView) (others : List Extent) (stands : ContentsStand v x)
    → (m : IsLastMade stands.content x target made) → x.sb.mem ≤ length x.journal → IsNextOf x y made taken kept → y.levels ≡ m.says.fresh ++ levels_behind target x.levels
    → levels_behind target x.levels ≡ drop (length taken) x.levels → IsSpaceOf s y others → HasManifest stands.content y → OnlyReads v w → IsDurable w → LeavesContent w → IsPrepared w x y
last_prepared v w x y to made taken kept s others stands m full next levels_are behind space has only durable leaves =
    let g : Image = stands.content in
    let reads : ReadsAs g x = stands.reads g stands.left in
    let promotion = last_promotes g x y made taken to reads.lies m.says levels_are behind in
    let both = promotion_next g g x y made taken kept reads (omega (arith, full, (newest_fits g x.slot x.sb reads.newest).mem_least)) stands.sound next m.fresh promotion in
    computed_prepared v w x y made taken kept s others stands g both.0 both.1 space has only durable leaves
