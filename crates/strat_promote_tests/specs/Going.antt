-- Promotions that are under way, and what may be given to them.
use Rattle.std.specs.Prelude.{◌≤◌, ℕ, nat_le, nat_lt, ◌&&◌, Bool, List, length, Option, IsTrue}
use Rattle.std.specs.List.{list_all, range_with_len}
use Rattle.strat_arena.specs.declared.items.Item.{Item}
use Rattle.strat_base.specs.declared.descriptors.ArrayDesc.{ArrayDesc}
use Rattle.strat_base.specs.declared.descriptors.Extent.{Extent}
use Rattle.strat_base.specs.declared.descriptors.LevelDesc.{LevelDesc}
use Rattle.strat_extent.specs.Blocks.{SpaceView}
use Rattle.strat_extent.specs.Change.{CanGive}
use Rattle.strat_level.specs.Levels.{level_numbered}
use Rattle.strat_level.specs.Memtable.{ListStands}
use Rattle.strat_promote.specs.Closing.{AreAllUsed}
use Rattle.strat_promote.specs.Opening.{arrays_if_any}
use Rattle.strat_promote.specs.Promotions.{IsOpen, IsFed, writers_of, extents_taken}
use Rattle.strat_promote.specs.Steps.{Inputs}
use Rattle.strat_promote.specs.declared.promotion.Promotion.{Promotion}

-- an extent is short, and ends where block numbers do
abbrev pub is_short : Extent → Bool
is_short x = nat_le x.start 4000000000 && nat_le x.len 1000

-- there are few extents, all of them short
abbrev pub are_short : List Extent → Bool
are_short xs = nat_le (length xs) 1000 && list_all is_short xs

-- an array has few short extents and few leads, and is for versions below n
abbrev pub is_plain : ℕ → ArrayDesc → Bool
is_plain n a = (are_short a.extents && nat_le a.leads 1000) && list_all (λ v. nat_lt v n) a.versions

-- there are few arrays, all of them plain
abbrev pub are_plain : ℕ → List ArrayDesc → Bool
are_plain n arrays = nat_le (length arrays) 500 && list_all (is_plain n) arrays

-- the arrays of each level are plain
abbrev pub are_plain_levels : ℕ → List (Option LevelDesc) → Bool
are_plain_levels n levels =
    list_all (λ k. are_plain n (arrays_if_any (level_numbered levels k))) (range_with_len 1 22)

-- all items are of versions below n
abbrev pub are_early : ℕ → List Item → Bool
are_early n items = list_all (λ item. nat_lt item.version n) items

-- a promotion over the versions below n may be given these
pub record AreReadyInputs (n : ℕ) (inputs : Inputs) : Type 0 where
  pub zero : ListStands inputs.pool inputs.zero
  pub early : IsTrue (are_early n inputs.zero.items)
  pub few : length inputs.zero.items ≤ 100000
  pub levels : IsTrue (are_plain_levels n inputs.levels)
  pub some : 1 ≤ n
  pub known : n ≤ length inputs.parents

-- a promotion has more to do with what it is given, and the blocks that it took are used, each once
pub record IsGoing (inputs : Inputs) (space : SpaceView) (p : Promotion) : Type 0 where
  pub more : IsOpen p
  pub fed : IsFed p inputs
  pub used : AreAllUsed space (writers_of p)
  pub owned : CanGive space (extents_taken p)
