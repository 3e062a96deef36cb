-- The second pass of a promotion.
use Rattle.std.specs.Prelude.{◌≡◌, ℕ, ◌+◌, List, Some, Contains, Result, IsErrOf, IsTrue}
use Rattle.std.specs.List.{slice_get}
use Rattle.strat_array.specs.Progress.{ArrayProgress}
use Rattle.strat_array.specs.Pushed.{IsPushed}
use Rattle.strat_base.specs.Entries.{Entry}
use Rattle.def_crash.specs.Faults.{HasCause}
use Rattle.def_crash.specs.Image.{Image}
use Rattle.def_crash.specs.Moments.{DiskView, Exposes}
use Rattle.strat_merge.specs.Gathered.{are_under}
use Rattle.strat_merge.specs.MergerFields.{consumed_of, views_of, IsUnspent}
use Rattle.strat_merge.specs.Runs.{RunView, head_at, blocks_left, ReadsLeft, IsBadFor}
use Rattle.def_split.specs.Groups.{group_versions}
use Rattle.def_split.specs.Plan.{IsSplit}
use Rattle.def_promote.specs.Merging.{Merges}
use Rattle.strat_split.specs.PlanSeen.{plan_seen}
use Rattle.def_state.specs.Counted.{own_at, keys_at}
use Rattle.strat_promote.specs.Counted.{AreRunsOf}
use Rattle.strat_promote.specs.Filled.{AreReadyFor, IsFilling}
use Rattle.strat_promote.specs.Job.{Job, runs_in, input_count, groups_kept, part_content}
use Rattle.strat_promote.specs.declared.second_pass.Writing.{Writing}

-- what is known of a second pass over the versions below n, whatever disk its runs lie on
pub record IsWriterOf {R : Type 0} (view : R → RunView) (n : ℕ) (w : Writing R) : Type 0 where
  pub unspent : IsUnspent view w.merger
  pub under : IsTrue (are_under n (views_of view w.merger))
  pub filling : IsFilling n w.filling
  pub ready : (i : ℕ) (e : Entry) → head_at (views_of view w.merger) i ≡ Some e
      → AreReadyFor e.key w.filling.writers.items

-- a plan splits the versions of a job's groups
pub record PlansJob (job : Job) (groups : List (List Entry)) {R : Type 0} (w : Writing R)
    : Type 0 where
  pub split : IsSplit job.parents (own_at (group_versions (groups_kept job groups)))
      (keys_at job.parents (group_versions (groups_kept job groups))) (plan_seen w.filling.plan)

-- each array has what its part takes of groups, and its number counts from the first
pub record HasContent (f : Image) (job : Job) (first : ℕ) (groups : List (List Entry)) {R : Type 0}
    (w : Writing R) : Type 0 where
  pub each : (q : ℕ) (x : ArrayProgress) → slice_get w.filling.writers.items q ≡ Some x
      → (x.id ≡ first + q) × IsPushed f x
      (part_content job.parents (plan_seen w.filling.plan) (groups_kept job groups) q)

-- some groups of a job were written
pub record IsWriting {R : Type 0} (view : R → RunView) (f : Image) (job : Job) (first : ℕ)
    (w : Writing R) : Type 0 where
  pub all : List (List Entry)
  pub merged : Merges (runs_in f job) all
  pub planned : PlansJob job all w
  pub groups : List (List Entry)
  pub runs : AreRunsOf f job groups (views_of view w.merger) (consumed_of w.merger)
  pub content : HasContent f job first groups w

-- all groups of a job were written
pub record IsAllWritten {R : Type 0} (view : R → RunView) (f : Image) (job : Job) (first : ℕ)
    (w : Writing R) : Type 0 where
  pub all : List (List Entry)
  pub merged : Merges (runs_in f job) all
  pub planned : PlansJob job all w
  pub content : HasContent f job first all w
  pub taken : consumed_of w.merger ≡ input_count f job

-- the runs of a pass were read: the device's error has its cause, another names a block that was still to be read and
-- is bad for one of them, as what is bad for those that are left was; no block was read twice
pub record TakesInput {R T E : Type 0} (view : R → RunView) (device : E) (damaged : ℕ → E)
    (disk : DiskView) (faults failed reads read : ℕ) (old new : Writing R)
    (result : Result T E) : Type 0 where
  pub cause : HasCause device faults failed result
  pub named : (b : ℕ) → IsErrOf result (damaged b)
      → Contains (blocks_left (views_of view old.merger)) b
  pub blamed : (b : ℕ) → IsErrOf result (damaged b) → (c : Image) → Exposes disk c
      → IsBadFor (views_of view old.merger) c b
  pub fewer : (c : Image) (b : ℕ) → Exposes disk c → IsBadFor (views_of view new.merger) c b
      → IsBadFor (views_of view old.merger) c b
  pub left : ReadsLeft (views_of view old.merger) (views_of view new.merger) reads read
