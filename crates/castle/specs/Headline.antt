-- What the laws of a run say, beside what those of a serving run say.
use Rattle.std.specs.Prelude.{◌≡◌, ◌≤◌, ◌⊎◌, ℕ, [], length, Ok, None}
use Rattle.def_crash.specs.Image.{Image}
use Rattle.def_crash.specs.Moments.{DiskView, Images, Since}
use Rattle.def_crash.specs.Trail.{Trail}
use Rattle.def_bytes.specs.SuperBlock.{newest_in}
use Rattle.strat_model.specs.Batch.{tables_continued}
use Rattle.strat_model.specs.Run.{Position, Transcript, bodies_of}
use Rattle.strat_model.specs.Table.{fresh}
use Rattle.def_publish.specs.Standing.{ShowsTable}
use Rattle.strat_open.specs.Format.{IsBlank}
use Rattle.strat_memory.specs.Paying.{IsPaidIn}
use Rattle.strat_serve.specs.Tables.{IsThrifty}

-- a run ended for want of memory or as the device failed, no body was answered, and a crash at any moment of it leaves
-- what it might have left before
pub record HasNotBegun (status : ℕ) (run : Transcript) (before now : DiskView) : Type 0 where
  pub ends : (status ≡ 5) ⊎ (status ≡ 8)
  pub none : bodies_of run ≡ []
  pub kept : (c : Image) → Since now before.moment c → Images before c

-- a new store of a workload was made and synced, and then the images go through the tables of a run, which may be
-- continued up to this position: up to the sync a crash leaves the new store, or, before that was made on a disk whose
-- slots were shut, none
pub record GoesThroughNewTables (run : Transcript) (end : Position) (before now : DiskView)
    : Type 0 where
  pub made : ℕ
  pub synced : ℕ
  pub from : before.moment ≤ made
  pub later : made ≤ synced
  pub till : synced ≤ now.moment
  pub until : IsBlank before → (m : ℕ) (c : Image) → before.moment ≤ m → m ≤ made
      → now.images_at m c → (newest_in c ≡ Ok None) ⊎ ShowsTable c (fresh 16777216 16384)
  pub new : (m : ℕ) (c : Image) → made ≤ m → m ≤ synced → now.images_at m c
      → ShowsTable c (fresh 16777216 16384)
  pub trail : Trail ShowsTable now synced (tables_continued run end) (length run.exchanges)

-- an image is no store, or it reads as a sound state that stores at most two entries for each update and is paid for
abbrev pub IsNoneOrThrifty : Image → Type 0
IsNoneOrThrifty c = (newest_in c ≡ Ok None) ⊎ (IsThrifty c × IsPaidIn c)
