-- How far a promotion is.
use Rattle.std.specs.Prelude.{◌≡◌, ◌<◌, ℕ, ◌+◌, ◌*◌, List, [], length, Option, None, Some, IsSome, Contains, ◌≤◌, Result, OnOk}
use Rattle.std.specs.List.{slice_get}
use Rattle.strat_array.specs.Progress.{ArrayProgress}
use Rattle.strat_base.specs.Entries.{Entry}
use Rattle.strat_base.specs.declared.descriptors.ArrayDesc.{ArrayDesc}
use Rattle.strat_base.specs.declared.descriptors.LevelDesc.{LevelDesc}
use Rattle.def_crash.specs.Image.{Image}
use Rattle.def_bytes.specs.Arrays.{blocks_of, entries_on}
use Rattle.strat_merge.specs.MergerFields.{views_of, consumed_of}
use Rattle.strat_merge.specs.Runs.{RunView, head_at, blocks_left, NoneLeft}
use Rattle.def_split.specs.Groups.{SplitsGroups, group_versions, array_of_groups}
use Rattle.def_split.specs.Plan.{Plan, horizon_of}
use Rattle.def_promote.specs.Merging.{Merges}
use Rattle.def_state.specs.Counted.{own_at, keys_at}
use Rattle.def_state.specs.Level.{TaggedArray}
use Rattle.strat_promote.specs.Counted.{AreReadOf, IsCounter, IsCounting}
use Rattle.strat_promote.specs.InputFields.{input_seen}
use Rattle.strat_promote.specs.Job.{Job, runs_in, input_count, blocks_listed, groups_kept}
use Rattle.strat_promote.specs.Written.{IsWriterOf, IsWriting}
use Rattle.strat_promote.specs.declared.stage.Stage.{Stage}
use Rattle.strat_promote.specs.declared.stage.Stage.TheVariants as stage

-- what is known of a stage over the versions below n, whatever disk its runs lie on
abbrev pub IsSteady : ℕ → Stage → Type 0
IsSteady n stage.Begun = Unit {0}
IsSteady n (stage.Counting c) = IsCounter input_seen n c
IsSteady n (stage.Writing w before) = IsWriterOf input_seen n w

-- the arrays that are being written
abbrev pub stage_writers : Stage → List ArrayProgress
stage_writers stage.Begun = []
stage_writers (stage.Counting c) = []
stage_writers (stage.Writing w before) = w.filling.writers.items

-- how many entries were taken in both passes
abbrev pub stage_consumed : Stage → ℕ
stage_consumed stage.Begun = 0
stage_consumed (stage.Counting c) = consumed_of c.merger
stage_consumed (stage.Writing w before) = before + consumed_of w.merger

-- how many blocks of some arrays are still to be read, in both passes
abbrev pub blocks_due : List ArrayDesc → Stage → ℕ
blocks_due arrays stage.Begun = 2 * length (blocks_listed arrays)
blocks_due arrays (stage.Counting c) =
    length (blocks_left (views_of input_seen c.merger)) + length (blocks_listed arrays)
blocks_due arrays (stage.Writing w before) = length (blocks_left (views_of input_seen w.merger))

-- runs have only blocks of some arrays still to read
abbrev pub AreReadFrom : List ArrayDesc → List RunView → Type 0
AreReadFrom arrays runs =
    (b : ℕ) → Contains (blocks_left runs) b → Contains (blocks_listed arrays) b

-- the same of the runs of a stage
abbrev pub IsReadFrom : List ArrayDesc → Stage → Type 0
IsReadFrom arrays stage.Begun = Unit {0}
IsReadFrom arrays (stage.Counting c) = AreReadFrom arrays (views_of input_seen c.merger)
IsReadFrom arrays (stage.Writing w before) = AreReadFrom arrays (views_of input_seen w.merger)

-- the runs of a stage have only blocks of some arrays still to read, and what is bad for one of them is bad in one of the
-- arrays
abbrev pub IsReadOf : Image → List ArrayDesc → Stage → Type 0
IsReadOf f arrays stage.Begun = Unit {0}
IsReadOf f arrays (stage.Counting c) = AreReadOf f arrays (views_of input_seen c.merger)
IsReadOf f arrays (stage.Writing w before) = AreReadOf f arrays (views_of input_seen w.merger)

-- how far a stage is: how many entries were taken in both passes, and one more for each pass that was begun
abbrev pub how_far : Stage → ℕ
how_far stage.Begun = 0
how_far (stage.Counting c) = 1 + consumed_of c.merger
how_far (stage.Writing w before) = 2 + (before + consumed_of w.merger)

-- what steps read of arrays: a count of reads rose by no more than was to be read, also where they failed; where they
-- succeeded no more is left than was not read, and blocks of the arrays alone if it was so before
pub record ReadsOnce {T E : Type 0} (arrays : List ArrayDesc) (before now : ℕ)
    (old new : Stage) (result : Result T E) : Type 0 where
  pub most : now ≤ before + blocks_due arrays old
  pub rest : OnOk result (now + blocks_due arrays new ≤ before + blocks_due arrays old)
  pub among : IsReadFrom arrays old → OnOk result (IsReadFrom arrays new)

-- an entry is left to be taken in one of the passes
abbrev pub HasLeft : Stage → Type 0
HasLeft stage.Begun = Unit {0}
HasLeft (stage.Counting c) = Unit {0}
HasLeft (stage.Writing w before) = (i : ℕ) × IsSome (head_at (views_of input_seen w.merger) i)

-- no entry is left to be taken in the second pass
abbrev pub IsTakenUp : Stage → Type 0
IsTakenUp stage.Begun = ⊥
IsTakenUp (stage.Counting c) = ⊥
IsTakenUp (stage.Writing w before) = NoneLeft (views_of input_seen w.merger)

-- a stage is one of a job, in an image
abbrev pub IsUnderway : Image → Job → ℕ → Stage → Type 0
IsUnderway f job first stage.Begun = Unit {0}
IsUnderway f job first (stage.Counting c) = IsCounting input_seen f job c
IsUnderway f job first (stage.Writing w before) =
    IsWriting input_seen f job first w × (before ≡ input_count f job)

-- an array stands in an image as its descriptor says
pub record IsArrayMade (f : Image) (t : TaggedArray) (a : ArrayDesc) : Type 0 where
  pub id : a.id ≡ t.id
  pub entries : a.entries ≡ length t.content
  pub leads : a.leads ≡ t.leads
  pub least : a.least ≡ t.least
  pub versions : a.versions ≡ t.tag
  pub content : entries_on f (blocks_of a.extents) ≡ Some t.content

-- a level has the arrays of a plan for groups
pub record IsLevelMade (f : Image) (job : Job) (target first : ℕ) (groups : List (List Entry))
    (plan : Plan) (level : LevelDesc) : Type 0 where
  pub number : level.number ≡ target
  pub horizon : level.horizon ≡ job.horizon
  pub some : 0 < length plan.parts
  pub len : length level.arrays ≡ length plan.parts
  pub each : (q : ℕ) → q < length plan.parts → (a : ArrayDesc)
      × (slice_get level.arrays q ≡ Some a)
      × IsArrayMade f (array_of_groups job.parents (groups_kept job groups) plan first q) a

-- a level, or none where a plan has no parts
abbrev pub IsPlanMade : Image → Job → ℕ → ℕ → List (List Entry) → Plan → Option LevelDesc → Type 0
IsPlanMade f job target first groups plan None = plan.parts ≡ []
IsPlanMade f job target first groups plan (Some level) =
    IsLevelMade f job target first groups plan level

-- the level of a job is made: its runs in an image were merged, what is kept of their groups was split, and the arrays of
-- the plan stand in an image
pub record IsMade (f g : Image) (job : Job) (target first : ℕ) (made : Option LevelDesc)
    : Type 0 where
  pub groups : List (List Entry)
  pub plan : Plan
  pub merged : Merges (runs_in f job) groups
  pub horizon : horizon_of plan ≡ job.horizon
  pub split : SplitsGroups job.parents (groups_kept job groups)
      (own_at (group_versions (groups_kept job groups)))
      (keys_at job.parents (group_versions (groups_kept job groups))) plan
  pub level : IsPlanMade g job target first groups plan made
