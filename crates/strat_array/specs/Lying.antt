-- Where the first entry from a key on lies, seen from a block of an array.
use Rattle.std.specs.Prelude.{◌≡◌, ◌<◌, ℕ, ◌+◌, false, List, length}
use Rattle.strat_base.specs.Entries.{Entry}
use Rattle.strat_block.specs.Places.{IsFirstFrom}
use Rattle.strat_array.specs.Left.{starts_below}
use Rattle.strat_array.specs.declared.search.Lies.{Lies}
use Rattle.strat_array.specs.declared.search.Lies.TheVariants.{Before, Within, Behind}

-- the first entry from a key on is a block's first or stands before it, or at an index of the block, or behind it
abbrev pub LiesAt : List ℕ → List Entry → Lies → Type 0
LiesAt key entries Before = starts_below key entries ≡ false
LiesAt key entries (Within i) = IsFirstFrom key entries i × (0 < i) × (i < length entries)
LiesAt key entries Behind = IsFirstFrom key entries (length entries) × (0 < length entries)

-- the borders of a search after a block was looked at
abbrev pub Narrows : ℕ → ℕ → ℕ → Lies → ℕ → ℕ → Type 0
Narrows low mid high Before first last = (first ≡ low) × (last ≡ mid)
Narrows low mid high (Within i) first last = (first ≡ low) × (last ≡ high)
Narrows low mid high Behind first last = (first ≡ mid + 1) × (last ≡ high)
