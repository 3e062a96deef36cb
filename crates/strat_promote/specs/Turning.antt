-- How one stage of a promotion becomes the next.
use Rattle.std.specs.Prelude.{◌≡◌, ◌<◌, ℕ, List, [], Option, None, Some}
use Rattle.std.specs.List.{slice_get}
use Rattle.strat_array.specs.Progress.{ArrayProgress}
use Rattle.strat_base.specs.declared.descriptors.LevelDesc.{LevelDesc}
use Rattle.def_crash.specs.Image.{Image}
use Rattle.strat_merge.specs.MergerFields.{consumed_of}
use Rattle.strat_promote.specs.Budget.{TakesSome}
use Rattle.strat_promote.specs.InputFields.{input_seen}
use Rattle.strat_promote.specs.Job.{Job, input_count}
use Rattle.strat_promote.specs.Stages.{IsMade, how_far}
use Rattle.strat_promote.specs.Written.{IsWriting}
use Rattle.strat_promote.specs.declared.first_pass.Counting.{Counting}
use Rattle.strat_promote.specs.declared.input.Input.{Input}
use Rattle.strat_promote.specs.declared.second_pass.Writing.{Writing}
use Rattle.strat_promote.specs.declared.stage.Stage.{Stage}
use Rattle.strat_promote.specs.declared.stage.Stage.TheVariants as stage
use Rattle.strat_promote.specs.declared.step.Task.{Task}
use Rattle.strat_promote.specs.declared.step.Step.{Step}
use Rattle.strat_promote.specs.declared.step.Step.TheVariants as step

-- the stage after a count: the same, or the next
abbrev pub stage_after : Counting Input → Option Stage → Stage
stage_after counting None = stage.Counting counting
stage_after counting (Some next) = next

-- nothing was pushed into any of these arrays
pub record AreAllNew (writers : List ArrayProgress) : Type 0 where
  pub each : (q : ℕ) (w : ArrayProgress) → slice_get writers q ≡ Some w → w.extents ≡ []

-- one thing holds where there is more to do, and another of the level where it is made
abbrev pub MatchStep : Step → Type 0 → (Option LevelDesc → Type 0) → Type 0
MatchStep step.More more made = more
MatchStep (step.Made level) more made = made level

-- a step after which there is more to do brings a stage further
abbrev pub GoesFurther : Stage → Stage → Step → Type 0
GoesFurther old new step.More = how_far old < how_far new
GoesFurther old new (step.Made level) = Unit {0}

-- after a step of the second pass, before which so many entries were taken in it, there is more to write; or nothing was
-- left, and the level is made
abbrev pub WritesOn : Image → Image → Task → Job → ℕ → Writing Input → Step → Type 0
WritesOn f g task job before writing step.More =
    IsWriting input_seen g job task.first writing
    × TakesSome f job before (consumed_of writing.merger)
WritesOn f g task job before writing (step.Made level) =
    IsMade f g job task.target task.first level
    × (consumed_of writing.merger ≡ input_count f job)
    × (consumed_of writing.merger ≡ before)
