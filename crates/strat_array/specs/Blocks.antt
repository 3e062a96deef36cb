-- The blocks of an array on a disk, each as the list of its entries.
use Rattle.std.specs.Prelude.{ℕ, List, Option}
use Rattle.strat_base.specs.Entries.{Entry}
use Rattle.def_crash.specs.Image.{Image}
use Rattle.def_bytes.specs.Arrays.{all_some, block_on}

-- the entries of each of these blocks, where each is a block of entries
abbrev pub lists_on : Image → List ℕ → Option (List (List Entry))
lists_on f blocks = all_some (block_on f) blocks
