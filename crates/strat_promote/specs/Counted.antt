-- The first pass of a promotion.
use Rattle.std.specs.Prelude.{◌≡◌, ◌≤◌, ℕ, ◌+◌, ◌^◌, List, length, Contains, IsTrue}
use Rattle.strat_base.specs.Entries.{Entry}
use Rattle.strat_base.specs.declared.descriptors.ArrayDesc.{ArrayDesc}
use Rattle.def_crash.specs.Image.{Image}
use Rattle.strat_live.specs.Counting.{IsTally}
use Rattle.strat_live.specs.Tallies.{items_counted}
use Rattle.strat_merge.specs.Gathered.{are_under}
use Rattle.strat_merge.specs.MergerFields.{consumed_of, views_of, IsUnspent}
use Rattle.strat_merge.specs.Runs.{RunView, lefts, blocks_left, IsBadFor}
use Rattle.def_split.specs.Groups.{grouped_entries, group_versions}
use Rattle.def_promote.specs.Merging.{MergesTo, Merges}
use Rattle.strat_promote.specs.Job.{Job, runs_in, input_count, blocks_listed, IsBadInput, groups_kept}
use Rattle.strat_promote.specs.declared.first_pass.Counting.{Counting}

-- what is known of a first pass over the versions below n, whatever disk its runs lie on
pub record IsCounter {R : Type 0} (view : R → RunView) (n : ℕ) (c : Counting R) : Type 0 where
  pub unspent : IsUnspent view c.merger
  pub len : length c.counts.own ≡ n
  pub counted : items_counted c.counts ≡ c.counted
  pub few : c.counted ≤ 16777216
  pub under : IsTrue (are_under n (views_of view c.merger))

-- runs have only blocks of some arrays still to read, and what is bad for one of them is bad in one of the arrays
pub record AreReadOf (f : Image) (arrays : List ArrayDesc) (runs : List RunView) : Type 0 where
  pub within : (b : ℕ) → Contains (blocks_left runs) b → Contains (blocks_listed arrays) b
  pub blames : (b : ℕ) → IsBadFor runs f b → IsBadInput f arrays b

-- runs of which a job's groups were taken up to some, in an image
pub record AreRunsOf (f : Image) (job : Job) (groups : List (List Entry)) (runs : List RunView)
    (consumed : ℕ) : Type 0 where
  pub few : input_count f job ≤ 2 ^ 24
  pub merged : MergesTo (runs_in f job) groups (lefts f runs)
  pub taken : consumed + length (grouped_entries (lefts f runs)) ≡ input_count f job
  pub read : AreReadOf f job.arrays runs

-- some groups of a job were counted
pub record IsCounting {R : Type 0} (view : R → RunView) (f : Image) (job : Job)
    (c : Counting R) : Type 0 where
  pub groups : List (List Entry)
  pub runs : AreRunsOf f job groups (views_of view c.merger) (consumed_of c.merger)
  pub tallied : IsTally job.parents (group_versions (groups_kept job groups)) c.counts
  -- no more items were counted than were taken
  pub least : c.counted ≤ consumed_of c.merger

-- all groups of a job were counted
pub record IsCounted {R : Type 0} (view : R → RunView) (f : Image) (job : Job)
    (c : Counting R) : Type 0 where
  pub groups : List (List Entry)
  pub merged : Merges (runs_in f job) groups
  pub tallied : IsTally job.parents (group_versions (groups_kept job groups)) c.counts
  pub taken : consumed_of c.merger ≡ input_count f job
