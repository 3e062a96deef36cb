-- How a publication ends: other contents stand, memory ran out, or a block is damaged.
use Rattle.std.specs.Prelude.{◌≡◌, ◌⊎◌, ℕ, List, Contains, Option, Some, None, Result, IfErr, IsErrAnd}
use Rattle.def_crash.specs.Image.{Image}
use Rattle.def_crash.specs.Moments.{DiskView}
use Rattle.strat_base.specs.declared.descriptors.LevelDesc.{LevelDesc}
use Rattle.strat_base.specs.declared.failures.Trouble.TheVariants as trouble
use Rattle.def_bytes.specs.Arrays.{block_on}
use Rattle.strat_promote.specs.Job.{IsBadInput, blocks_listed}
use Rattle.strat_promote.specs.Obstacles.{told_as}
use Rattle.strat_promote.specs.declared.obstacle.Obstacle.{Obstacle}
use Rattle.def_meaning.specs.StateTable.{table_of}
use Rattle.def_publish.specs.Contents.{Contents, contents_state}
use Rattle.strat_memory.specs.Held.{Held, StandsWith, arrays_held}
use Rattle.strat_cursor.specs.Looking.{arrays_there}
use Rattle.strat_memory.specs.Memory.{Memory}

-- a block is one of these levels' arrays, or of one that is kept for a cursor, and where a content is exposed it is bad:
-- it holds no entries, or in a level none that come after those before it
pub record IsDamagedIn (content : Option Image) (m : Memory) (levels : List (Option LevelDesc))
    (b : ℕ) : Type 0 where
  pub listed : Contains (blocks_listed (arrays_held m levels)) b
  pub bad : (f : Image) → content ≡ Some f
      → (block_on f b ≡ None) ⊎ IsBadInput f (arrays_there levels) b

-- contents took the place of others on the disk that a store stands on: they mean the same table
pub record IsPublishedAs (now : DiskView) (x : Contents) (new : Held) : Type 0 where
  pub after : Contents
  pub stands : StandsWith now new after
  pub table : table_of (contents_state after) ≡ table_of (contents_state x)

-- a call gave up that is told as want of memory: memory ran out, or a bound was reached
abbrev pub RanShort : {T : Type 0} → Result T Obstacle → Type 0
RanShort result = IsErrAnd result (λ e. told_as e ≡ trouble.NoMemory)

-- a call succeeded, or gave up so
abbrev pub IsOkOrShort : {T : Type 0} → Result T Obstacle → Type 0
IsOkOrShort result = IfErr result (λ e. told_as e ≡ trouble.NoMemory)
