-- A promotion between two of its slices.
use Rattle.std.proofs.Common.{◌≡◌, ℕ, zero, suc, List, [], ◌∷◌, Some, length, sym, ap, ◌∙◌, subst}
use Rattle.std.specs.List.{slice_get, range_with_len, Contains}
use Rattle.std.proofs.lemmas.Grind.{flat_map-append}
use Rattle.std.proofs.lemmas.List.Elements.{Contains-append_left, Contains-append_right}
use Rattle.strat_array.specs.Progress.{ArrayProgress}
use Rattle.strat_array.proofs.StayLemmas.{pushed_stay}
use Rattle.strat_array.proofs.TakesLemmas.{used_agree}
use Rattle.strat_base.specs.Entries.{Entry}
use Rattle.strat_base.specs.declared.descriptors.Extent.{Extent}
use Rattle.def_crash.specs.Blocks.{AgreeOn, KeepsTaken}
use Rattle.def_crash.specs.Image.{Image}
use Rattle.strat_extent.specs.Blocks.{SpaceView, is_free}
use Rattle.def_bytes.specs.Arrays.{blocks_of}
use Rattle.strat_merge.specs.MergerFields.{consumed_of}
use Rattle.def_split.specs.Groups.{grouped_entries}
use Rattle.def_promote.specs.Merging.{Merges}
use Rattle.strat_split.specs.PlanSeen.{plan_seen}
use Rattle.strat_promote.specs.Between.{KeepsItsBlocks, HasUsedBlocks}
use Rattle.strat_promote.specs.Closing.{all_extents}
use Rattle.strat_promote.specs.Counted.{IsCounting}
use Rattle.strat_promote.specs.InputFields.{input_seen}
use Rattle.strat_promote.specs.InputLaw.{input_law}
use Rattle.strat_promote.specs.Job.{Job, blocks_listed, groups_kept, part_content}
use Rattle.strat_promote.specs.Promotions.{HasBegun, IsItsJob}
use Rattle.strat_promote.specs.Stages.{IsUnderway, stage_writers}
use Rattle.strat_promote.specs.Steps.{Inputs}
use Rattle.strat_promote.specs.Written.{IsWriting}
use Rattle.strat_promote.specs.declared.first_pass.Counting.{Counting}
use Rattle.strat_promote.specs.declared.input.Input.{Input}
use Rattle.strat_promote.specs.declared.second_pass.Writing.{Writing}
use Rattle.strat_promote.specs.declared.promotion.Promotion.{Promotion}
use Rattle.strat_promote.specs.declared.stage.Stage.{Stage}
use Rattle.strat_promote.specs.declared.stage.Stage.TheVariants as stage
use Rattle.strat_promote.proofs.SliceLemmas.{task_stays}
use Rattle.strat_promote.proofs.WrittenLemmas.{inputs_same, runs_stay}

-- the blocks of a writer are among those of all
writer_blocks : (writers : List ArrayProgress) (q : ℕ) (w : ArrayProgress) (b : ℕ) → slice_get writers q ≡ Some w → Contains (blocks_of w.extents) b → Contains (blocks_of (all_extents writers)) b
writer_blocks [] q w b there here = absurd (cc)
writer_blocks (x ∷ writers) zero w b there here =
    let same : x ≡ w = cc in
    subst (λ (bs : List ℕ). Contains bs b) (sym (flat_map-append (λ (e : Extent). range_with_len e.start e.len) x.extents (all_extents writers)))
    (Contains-append_left (blocks_of x.extents) (blocks_of (all_extents writers)) b (subst (λ (y : ArrayProgress). Contains (blocks_of y.extents) b) (sym same) here))
writer_blocks (x ∷ writers) (suc q) w b there here =
    subst (λ (bs : List ℕ). Contains bs b) (sym (flat_map-append (λ (e : Extent). range_with_len e.start e.len) x.extents (all_extents writers)))
    (Contains-append_right (blocks_of x.extents) (blocks_of (all_extents writers)) b (writer_blocks writers q w b there here))

-- each writer's blocks keep their bytes
abbrev WritersAgree : Image → Image → List ArrayProgress → Type 0
WritersAgree f g writers = (q : ℕ) (w : ArrayProgress) → slice_get writers q ≡ Some w → AgreeOn (blocks_of w.extents) f g

module _ (f g : Image) (job : Job) (agree : AgreeOn (blocks_listed job.arrays) f g) where
  counting_stays : (c : Counting Input) → IsCounting input_seen f job c → IsCounting input_seen g job c
  counting_stays c is = record {
    groups = is.groups;
    runs = runs_stay f g input_seen input_law job is.groups c.merger.runs.items (consumed_of c.merger) agree is.runs;
    tallied = is.tallied;
    least = is.least;
  }

  writing_stays : (first : ℕ) (w : Writing Input) → WritersAgree f g w.filling.writers.items → IsWriting input_seen f job first w → IsWriting input_seen g job first w
  writing_stays first w kept is = record {
    all = is.all;
    merged = subst (λ (rs : List (List Entry)). Merges rs is.all) (sym (inputs_same f g job agree)) is.merged;
    planned = is.planned;
    groups = is.groups;
    runs = runs_stay f g input_seen input_law job is.groups w.merger.runs.items (consumed_of w.merger) agree is.runs;
    content = record {
      each = λ q x there.
          let had = is.content.each q x there in
          (had.0, pushed_stay f g x (part_content job.parents (plan_seen w.filling.plan) (groups_kept job is.groups) q) (kept q x there) had.1);
    };
  }

  stage_stays : (first : ℕ) (s : Stage) → WritersAgree f g (stage_writers s) → IsUnderway f job first s → IsUnderway g job first s
  stage_stays first stage.Begun kept is = is
  stage_stays first (stage.Counting c) kept is = counting_stays c is
  stage_stays first (stage.Writing w before) kept is =
      (writing_stays first w kept is.0, is.1 ∙ sym (ap (λ (rs : List (List Entry)). length (grouped_entries rs)) (inputs_same f g job agree)))

-- a promotion goes on where its blocks keep their bytes
pub goes_on : (f g : Image) (job : Job) (p : Promotion) → KeepsItsBlocks f g job p → HasBegun f job p → HasBegun g job p
goes_on f g job p keeps begun =
    stage_stays f g job keeps.read p.task.first p.stage (λ q w there b here. keeps.taken b (writer_blocks (stage_writers p.stage) q w b there here)) begun

-- and where only free blocks change
module _ (s : SpaceView) (f g : Image) (job : Job) (p : Promotion) (used : HasUsedBlocks s job p) (keeps : KeepsTaken (is_free s) f g) where
  pub goes_on_used : HasBegun f job p → HasBegun g job p
  goes_on_used begun =
      stage_stays f g job (used_agree s (blocks_listed job.arrays) f g used.listed keeps) p.task.first p.stage (λ q w there. used_agree s (blocks_of w.extents) f g (used.written q w there) keeps) begun

  pub job_used : (inputs : Inputs) → IsItsJob f p inputs job → IsItsJob g p inputs job
  job_used inputs is = task_stays f g p.task inputs job (used_agree s (blocks_listed job.arrays) f g used.listed keeps) is
