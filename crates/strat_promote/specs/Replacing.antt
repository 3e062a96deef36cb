-- A level that was made takes the place of level 0 and of the shallow levels of a state.
use Rattle.std.specs.Prelude.{◌≡◌, ℕ, ◌==◌, List, length, Option, Some}
use Rattle.std.specs.Option.{option_to_list}
use Rattle.strat_base.specs.declared.descriptors.LevelDesc.{LevelDesc}
use Rattle.def_crash.specs.Image.{Image}
use Rattle.def_bytes.specs.Arrays.{all_some}
use Rattle.def_promote.specs.Merging.{runs_taken}
use Rattle.def_promote.specs.Promoted.{SaysTheSame}
use Rattle.def_recovery.specs.Opened.{level_on}
use Rattle.def_state.specs.Level.{Level}
use Rattle.def_state.specs.Sound.{IsSound}
use Rattle.def_state.specs.State.{State, versions_of}
use Rattle.strat_promote.specs.Job.{Job, runs_in}

-- a job merges what a state promotes: the versions and the runs are the state's, and marks that say nothing are dropped
-- where no level is kept
pub record IsJobOf (f : Image) (s : State) (taken kept : List Level) (job : Job) : Type 0 where
  pub parents : job.parents ≡ versions_of s
  pub horizon : job.horizon ≡ length (versions_of s)
  pub purges : job.purges ≡ (length kept == 0)
  pub runs : runs_in f job ≡ runs_taken s taken

-- an image has the level that was made, and a next state with that level is sound and says the same as before, whatever it
-- counts
pub record LeavesTheSame (g : Image) (made : Option LevelDesc) (s : State)
    (next : List Level → ℕ → ℕ → State) : Type 0 where
  pub fresh : List Level
  pub read : all_some (level_on g) (option_to_list made) ≡ Some fresh
  pub says : (written next_array : ℕ) → SaysTheSame s (next fresh written next_array)
  pub sound : (written next_array : ℕ) → IsSound (next fresh written next_array)
