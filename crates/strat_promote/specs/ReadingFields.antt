-- The fields of what reads an array block by block.
use Rattle.std.specs.Prelude.{◌≡◌, ◌≤◌, if◌then◌else◌, [], length, IsTrue}
use Rattle.strat_base.specs.Entries.{is_ascending}
use Rattle.strat_promote.specs.LeadRuns.{BlockReading, entries_at_hand}
use Rattle.strat_promote.specs.declared.lead_blocks.LeadBlocks.TheInside.{Inside}

-- the block at hand, and those still to be read unless there was an error
abbrev pub reading_of : Inside → BlockReading
reading_of b =
    record {
      entries = entries_at_hand b.scratch;
      blocks = if b.is_spent then [] else b.numbers;
    }

-- the entries at hand ascend, and are counted
pub record IsReading (b : Inside) : Type 0 where
  pub len : b.len ≡ length (entries_at_hand b.scratch)
  pub fits : b.len ≤ 454
  pub ascending : IsTrue (is_ascending (entries_at_hand b.scratch))
