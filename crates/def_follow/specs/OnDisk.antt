-- What a crash leaves of the disk of a follower.
use Rattle.std.specs.Prelude.{ℕ, List}
use Rattle.strat_base.specs.Change.{Change}
use Rattle.def_crash.specs.Image.{Image}
use Rattle.def_crash.specs.Moments.{DiskView, Images}
use Rattle.strat_model.specs.Table.{Table}
use Rattle.def_publish.specs.Standing.{ShowsTable}
use Rattle.def_follow.specs.Log.{IsOfLog}

-- an image shows a table of a log
pub record ShowsOfLog (changes_max versions_max : ℕ) (log : List Change) (c : Image) : Type 0 where
  pub table : Table
  pub shows : ShowsTable c table
  pub of_log : IsOfLog changes_max versions_max log table

-- each image that a crash may leave does; the prefix may differ from image to image
abbrev pub EachOfLog : ℕ → ℕ → List Change → DiskView → Type 0
EachOfLog changes_max versions_max log v =
    (c : Image) → Images v c → ShowsOfLog changes_max versions_max log c
