-- What the clauses of a slice say of an open promotion.
use Rattle.std.proofs.Common.{◌≡◌, ◌≤◌, ◌+◌, ℕ, List, Option, Some, sym, ap, ◌∙◌, subst}
use Rattle.strat_array.specs.Taking.{AreUsed}
use Rattle.strat_base.specs.Entries.{Entry}
use Rattle.strat_base.specs.declared.descriptors.ArrayDesc.{ArrayDesc}
use Rattle.strat_base.specs.declared.descriptors.Extent.{Extent}
use Rattle.strat_base.specs.declared.descriptors.LevelDesc.{LevelDesc}
use Rattle.def_crash.specs.Blocks.{TearsBlocks}
use Rattle.def_crash.specs.Image.{Image}
use Rattle.def_crash.specs.Moments.{DiskView, Exposes}
use Rattle.strat_extent.specs.Blocks.{SpaceView, is_free}
use Rattle.strat_promote.specs.Closing.{AreAllUsed}
use Rattle.strat_promote.specs.Job.{Job, arrays_to, blocks_listed}
use Rattle.strat_promote.specs.Promotions.{IsOpen, IsItsJob, HasBegun, IsSliced, SamePromotion, ReadsFrom, extents_taken, writers_of, entries_taken, target_of}
use Rattle.strat_promote.specs.Spaces.{TakesMore}
use Rattle.strat_promote.specs.Steps.{Inputs}
use Rattle.strat_promote.specs.declared.promotion.Progress.{Progress}
use Rattle.strat_promote.specs.declared.promotion.Progress.TheVariants as progress
use Rattle.strat_promote.specs.declared.promotion.Promotion.{Promotion}
use Rattle.strat_promote.specs.declared.step.Task.{Task}
use Rattle.def_slice.specs.Ending.{SlicesLast}
use Rattle.def_slice.specs.Opened.{AreLent, OpenPromotion, IsOpenOver, LeavesEntry, job_open}
use Rattle.def_slice.proofs.OpenedLemmas.{does_its_job, listed_used}
use Rattle.def_publish.specs.Contents.{Contents, contents_state, sealed_state}
use Rattle.def_publish.specs.Standing.{ReadsAs}
use Rattle.def_state.specs.Sound.{IsSound}

-- a content is one image
one_content : (v : DiskView) (f g : Image) → Exposes v f → Exposes v g → f ≡ g
one_content v f g first second =
    let both : Some f ≡ Some g = sym first ∙ second in
    cc

module _ (old new : DiskView) (f : Image) (x : Contents) (fill : ℕ) (sealed : List Entry) (levels : List (Option LevelDesc)) (others : List Extent) (o : OpenPromotion) (q : Promotion) (space : SpaceView) (inputs : Inputs)
    (told : Exposes old f) (reads : ReadsAs f x) (sound : IsSound (contents_state x)) (p : IsOpenOver f x fill sealed levels others o) (lent : AreLent sealed levels (sealed_state x) inputs) where
  abbrev job : Job
  job = job_open x levels p.going.was

  abbrev limit : ℕ
  limit = entries_taken o.promotion + o.budget

  abbrev Slices : Progress → Type 0
  Slices r =
      (g h : Image) (job : Job) → Exposes old g → Exposes new h → IsItsJob g o.promotion inputs job → AreUsed o.space (blocks_listed job.arrays) → HasBegun g job o.promotion
      → IsSliced g h job limit q r

  at_job : (r : Progress) → Slices r → (g h : Image) → Exposes old g → Exposes new h → IsSliced g h job limit q r
  at_job r does g h tells now =
      subst (λ (c : Image). IsSliced c h job limit q r) (one_content old f g told tells)
      (does f h job told now (does_its_job f x fill sealed levels others o inputs reads sound p lent) (listed_used f f x fill sealed levels others o p) p.underway)

  arrays_same : arrays_to inputs.levels (target_of o.promotion) ≡ job.arrays
  arrays_same =
      ap (λ (ls : List (Option LevelDesc)). arrays_to ls (target_of o.promotion)) lent.levels_are
      ∙ ap (λ (t : Task). arrays_to levels t.target) p.going.same.task

  pub leaves_entry : IsOpen q × (limit ≤ entries_taken q) → Slices progress.More → AreAllUsed space (writers_of q) → TakesMore o.space space (extents_taken o.promotion) (extents_taken q)
      → TearsBlocks (is_free o.space) old new × SamePromotion o.promotion q
      → (ReadsFrom (arrays_to inputs.levels (target_of o.promotion)) o.promotion → ReadsFrom (arrays_to inputs.levels (target_of o.promotion)) q) → LeavesEntry old new job o q space
  leaves_entry kept does used room same among = record {
    tears = same.0;
    same = same.1;
    steady = kept.0;
    takes = room;
    used = used;
    reads = subst (λ (ds : List ArrayDesc). ReadsFrom ds o.promotion → ReadsFrom ds q) arrays_same among;
    most = kept.1;
    sliced = at_job progress.More does;
  }

  pub slices_last : (g : Image) → Exposes new g → TearsBlocks (is_free o.space) old new × SamePromotion o.promotion q → Slices progress.Done → SlicesLast f g x sealed levels job o q inputs
  slices_last g now same does = record {
    reads = reads;
    sound = sound;
    lent = lent;
    same = same.1;
    sliced = at_job progress.Done does f g told now;
  }
