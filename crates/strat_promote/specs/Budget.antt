-- How many entries the steps of a slice take.
use Rattle.std.specs.Prelude.{◌<◌, ◌≤◌, ℕ, ◌+◌, List, length, filter}
use Rattle.strat_base.specs.Entries.{is_of}
use Rattle.def_crash.specs.Image.{Image}
use Rattle.def_split.specs.Groups.{grouped_entries}
use Rattle.strat_promote.specs.Job.{Job, runs_in}

-- how many entries of a key the runs of a job have
abbrev pub count_of_key : Image → Job → List ℕ → ℕ
count_of_key f job key = length (filter (is_of key) (grouped_entries (runs_in f job)))

-- no entries were taken but those of one key
pub record TakesOneKey (f : Image) (job : Job) (before now : ℕ) : Type 0 where
  pub key : List ℕ
  pub most : now ≤ before + count_of_key f job key

-- entries were taken, and none but those of one key
pub record TakesSome (f : Image) (job : Job) (before now : ℕ) : Type 0 where
  pub some : before < now
  pub one : TakesOneKey f job before now

-- fewer entries than a limit were taken, and those of one key
pub record IsNearLimit (f : Image) (job : Job) (limit taken : ℕ) : Type 0 where
  pub last : List ℕ
  pub below : taken < limit + count_of_key f job last
