-- Changes that join the journal of contents.
use Rattle.std.specs.Prelude.{◌≡◌, List, ◌++◌}
use Rattle.strat_base.specs.Change.{Change}
use Rattle.def_crash.specs.Image.{Image}
use Rattle.def_crash.specs.Moments.{DiskView, Exposes, Since, Passes, TearsOnly}
use Rattle.def_bytes.specs.Layout.{region_at, region_size}
use Rattle.strat_journal.specs.Log.{Log, Stands, GivesAllOrNone, batch_region}
use Rattle.def_publish.specs.Contents.{Contents, with_journal}

-- a journal in memory is that of contents
pub record IsLogOf (x : Contents) (log : Log) : Type 0 where
  pub mem : log.mem ≡ x.sb.mem
  pub active : log.active ≡ x.sb.region
  pub list : log.list ≡ x.journal

-- contents with a batch of changes after those of their journal
abbrev pub with_batch : Contents → List Change → Contents
with_batch x batch = with_journal x (x.journal ++ batch)

-- what a call that appends the batch of a journal does, also where it fails: it tears the region that takes it
-- alone, and at any moment an image gives all of the batch or none
pub record AppendsBatch (old new : DiskView) (log : Log) : Type 0 where
  pub images : TearsOnly old new (region_at log.mem (batch_region log)) (region_size log.mem)
  pub time : Passes old new
  pub each : (f : Image) → Exposes old f → Stands old log
      → (c : Image) → Since new old.moment c → GivesAllOrNone log c
