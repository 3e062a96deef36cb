-- Blocks of an array that are read in order, one at a time, and the run of the leads among their entries.
use Rattle.std.specs.Prelude.{◌≡◌, ◌≤◌, ◌<◌, ℕ, ◌&&◌, Bool, true, false, List, [], ◌∷◌, ◌++◌, length, drop, slice_get, Option, Some, None, IsTrue}
use Rattle.std.specs.List.{list_all}
use Rattle.std.specs.Ordering.{is_lt}
use Rattle.strat_base.specs.Order.{entry_cmp}
use Rattle.strat_base.specs.Entries.{Entry, is_ascending, is_tagged, lead_entries}
use Rattle.def_crash.specs.Image.{Image}
use Rattle.def_crash.specs.Moments.{DiskView, Exposes}
use Rattle.def_bytes.specs.Arrays.{block_on}
use Rattle.strat_array.specs.Kept.{Kept}
use Rattle.strat_merge.specs.Runs.{RunView}
use Rattle.strat_promote.specs.Leads.{comes_after, last_of, entries_after, misfit_after}

-- the entries of the block at hand, none before the first block is read, and the blocks that are still to be read
pub record BlockReading : Type 0 where
  pub entries : List Entry
  pub blocks : List ℕ

-- no block is at hand, and none is left
abbrev pub read_out : BlockReading
read_out = record { entries = []; blocks = [] }

-- in an image, the entries from an index of the block at hand on, and those of the blocks behind it
abbrev pub entries_from : Image → BlockReading → ℕ → List Entry
entries_from c r at = drop at r.entries ++ entries_after c (last_of None r.entries) r.blocks

-- in an image, the first of the blocks still to be read that is bad
abbrev pub misfit_from : Image → BlockReading → Option ℕ
misfit_from c r = misfit_after c (last_of None r.entries) r.blocks

-- the next block was read from a disk: its entries ascend, and they come after those before it
pub record ReadsNext (disk : DiskView) (old new : BlockReading) : Type 0 where
  pub block : ℕ
  pub split : old.blocks ≡ block ∷ new.blocks
  pub some : 0 < length new.entries
  pub ascending : IsTrue (is_ascending new.entries)
  pub after : IsTrue (comes_after (last_of None old.entries) new.entries)
  pub read : (f : Image) → Exposes disk f → block_on f block ≡ Some new.entries

-- the next block was read, or there was none
abbrev pub Turns : DiskView → BlockReading → BlockReading → Bool → Type 0
Turns disk old new true = ReadsNext disk old new
Turns disk old new false = (old.blocks ≡ []) × (new ≡ old)

-- an entry stands before all entries that are left from an index on
pub record IsPast (e : Entry) (r : BlockReading) (at : ℕ) : Type 0 where
  pub here : IsTrue (list_all (λ later. is_lt (entry_cmp e.key e.version later.key later.version))
      (drop at r.entries))
  pub behind : (d : Entry) → IsTrue (comes_after (last_of None r.entries) (d ∷ []))
      → IsTrue (is_lt (entry_cmp e.key e.version d.key d.version))

-- from an index of a block to one of the same block or of a later one, no lead was passed over
pub record PassesOver (disk : DiskView) (tag : List ℕ) (old : BlockReading) (from : ℕ)
    (new : BlockReading) (at : ℕ) : Type 0 where
  pub within : at ≤ length new.entries
  pub leads : (f : Image) → Exposes disk f
      → lead_entries tag (entries_from f new at) ≡ lead_entries tag (entries_from f old from)
  pub misfit : (f : Image) → Exposes disk f → misfit_from f new ≡ misfit_from f old
  pub later : (e : Entry) → IsPast e old from → IsPast e new at

-- the first of some entries is a lead, or there is none and no block either
abbrev pub begins_with_lead : List ℕ → List Entry → List ℕ → Bool
begins_with_lead tag [] [] = true
begins_with_lead tag [] (b ∷ blocks) = false
begins_with_lead tag (e ∷ entries) blocks = is_tagged tag e.version

-- the entries at hand ascend from a lead on
abbrev pub is_settled : List ℕ → List Entry → List ℕ → Bool
is_settled tag entries blocks = is_ascending entries && begins_with_lead tag entries blocks

-- what a merge sees of the leads of a tag among entries at hand and in blocks behind them; their versions are below
-- a number
abbrev pub leads_from : List ℕ → ℕ → List Entry → List ℕ → RunView
leads_from tag n entries blocks =
    record {
      blocks = blocks;
      versions = n;
      first = slice_get entries 0;
      left = λ c. lead_entries tag (entries ++ entries_after c (last_of None entries) blocks);
      misfit = λ c. misfit_after c (last_of None entries) blocks;
    }

-- the entries of the block that a scratch holds, if it holds one
abbrev pub entries_at_hand : Option Kept → List Entry
entries_at_hand None = []
entries_at_hand (Some kept) = kept.1

-- the key and the version of an entry, if there is one
abbrev pub key_alone : Option Entry → Option Entry
key_alone None = None
key_alone (Some e) = Some (record { key = e.key; version = e.version; value = None })
