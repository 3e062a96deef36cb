-- An array that is being written.
use Rattle.std.specs.Prelude.{ℕ, Bool, List, Option}
use Rattle.strat_base.specs.declared.descriptors.Extent.{Extent}
use Rattle.strat_base.specs.Entries.{Entry}

-- the array's number, how many entries were pushed, those that are in no block yet, the blocks that were written, and the
-- filter of the keys, if one is kept
pub record ArrayProgress : Type 0 where
  pub id : ℕ
  pub count : ℕ
  pub pending : List Entry
  pub extents : List Extent
  pub filter : Option (List Bool)
