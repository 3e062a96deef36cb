-- A disk each of whose images shows a table, not all of them one.
use Rattle.def_crash.specs.Image.{Image}
use Rattle.def_crash.specs.Moments.{DiskView, Images, Since}
use Rattle.strat_model.specs.Table.{Table}
use Rattle.def_publish.specs.Standing.{ShowsTable}

-- each image that a crash may leave shows a table
abbrev pub EachShows : DiskView → Type 0
EachShows v = (c : Image) → Images v c → (t : Table) × ShowsTable c t

-- an image shows the table of one that a crash might have left before
pub record ShowsOneOf (before : DiskView) (c : Image) : Type 0 where
  pub table : Table
  pub shows : ShowsTable c table
  pub image : Image
  pub left : Images before image
  pub same : ShowsTable image table

-- each image since then does
abbrev pub ShowOneOfSince : DiskView → DiskView → Type 0
ShowOneOfSince before now = (c : Image) → Since now before.moment c → ShowsOneOf before c
