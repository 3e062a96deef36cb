-- The filter of the keys of entries.
use Rattle.std.specs.Prelude.{◌≡◌, ◌<◌, ℕ, Bool, List, map}
use Rattle.strat_base.specs.Entries.{Entry}
use Rattle.strat_filter.specs.Bits.{bits_after}

-- bits are those of a filter to which the keys of these entries were added, and no others
pub record IsFilterOf (bits : List Bool) (entries : List Entry) : Type 0 where
  pub size : ℕ
  pub some : 0 < size
  pub made : bits ≡ bits_after size (map (λ e. e.key) entries)
