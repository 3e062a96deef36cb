-- Records of one region in a buffer.
use Rattle.std.specs.Prelude.{◌≡◌, ◌⊎◌, ◌≤◌, ◌<◌, ℕ, zero, suc, ◌+◌, ◌*◌, true, List, [], ◌∷◌, ◌++◌, length, drop, slice_index, Option, Some, None}
use Rattle.std.specs.List.{list_all}
use Rattle.strat_base.specs.Change.{Change, change_bytes, change_in, is_lawful}
use Rattle.def_bytes.specs.Records.{records_bytes}

-- how many changes a region takes, those of the records in the buffer, and those of the batch behind them
pub record Buffered : Type 0 where
  pub mem : ℕ
  pub list : List Change
  pub batch : List Change

-- a buffer without records
abbrev pub no_records : ℕ → Buffered
no_records mem = record { mem = mem; list = []; batch = [] }

-- a change and those of the records after it
abbrev pub change_then : (List ℕ → List Change) → List ℕ → Option Change → List Change
change_then later bytes None = []
change_then later bytes (Some change) = change ∷ later (drop (length (change_bytes change)) bytes)

-- the changes of the first n records of these bytes
unfoldable pub changes_in : ℕ → List ℕ → List Change
changes_in zero bytes = []
changes_in (suc n) [] = []
changes_in (suc n) (gate ∷ bytes) = change_then (λ rest. changes_in n rest) bytes (change_in bytes)

-- bytes of a buffer for as many of the largest records as a region takes, for those of a batch, and for a
-- closed gate
abbrev pub room_for : ℕ → ℕ
room_for mem = 1288 * (mem + 16) + 1

-- the buffer has the records of the list, those of the batch after them, and a closed gate
pub record Keeps (list batch : List Change) (bytes : List ℕ) (mem count staged end len : ℕ)
    : Type 0 where
  pub text : bytes ≡ records_bytes list ++ (records_bytes batch ++ drop len bytes)
  pub closed : slice_index bytes len ≡ 0
  pub list_end : end ≡ length (records_bytes list)
  pub batch_end : len ≡ end + length (records_bytes batch)
  pub list_count : length list ≡ count
  pub batch_count : length batch ≡ staged
  pub list_fits : list_all is_lawful list ≡ true
  pub batch_fits : list_all is_lawful batch ≡ true
  pub few : count + staged ≤ mem
  pub batch_few : staged ≤ 16
  pub mem_least : 4 ≤ mem
  pub mem_most : mem ≤ 4096
  pub room : length bytes ≡ room_for mem

-- the records of a full active region, or none of it while it has room, and behind them those of the region that takes
-- the batch
pub record KeepsBoth (mem active : ℕ) (front back : Buffered) : Type 0 where
  pub front_mem : front.mem ≡ mem
  pub back_mem : back.mem ≡ mem
  pub front_batch : front.batch ≡ []
  pub split : ((front.list ≡ []) × (length back.list < mem))
      ⊎ ((length front.list ≡ mem) × (length back.list + length back.batch + 2 ≤ mem))
  pub mem_least : 4 ≤ mem
  pub mem_most : mem ≤ 4096
  pub active_most : active ≤ 1

-- so many records of the active region, and so many behind them in the other one, which has none while the first has room
abbrev pub AreOfBoth : ℕ → ℕ → ℕ → Type 0
AreOfBoth mem first later = ((first < mem) × (later ≡ 0)) ⊎ ((first ≡ mem) × (later + 2 ≤ mem))
