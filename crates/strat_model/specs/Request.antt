-- What a client asks, as data without places in memory.
use Rattle.std.specs.Prelude.{ℕ, List}

-- a command and what it says
pub data Request : Type 0 where
  Put : (version : ℕ) (key value : List ℕ) → Request
  Delete : (version : ℕ) (key : List ℕ) → Request
  Get : (version : ℕ) (key : List ℕ) → Request
  Clone : (version : ℕ) → Request
  DropVersion : (version : ℕ) → Request
  Scan : (version : ℕ) (lo hi : List ℕ) (limit : ℕ) → Request
  Info : (version : ℕ) → Request
  OpenCursor : (version : ℕ) (lo hi : List ℕ) → Request
  NextPairs : (cursor limit : ℕ) → Request
  CloseCursor : (cursor : ℕ) → Request
  Stat : Request
