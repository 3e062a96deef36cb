-- A manifest on the disk: a chain of blocks.
use Rattle.std.specs.Prelude.{◌≡◌, ◌≢◌, ◌≤◌, ◌<◌, ℕ, ◌+◌, ◌-◌, ◌*◌, ◌/◌, ◌^◌, AllPairs, List, [], ◌∷◌, ◌++◌, length, take, drop, replicate}
use Rattle.std.specs.List.{AllByRecursion}
use Rattle.strat_base.specs.declared.limits.TheConstants.{BLOCK}
use Rattle.strat_base.specs.Numbers.{be}
use Rattle.def_crash.specs.Image.{Image, window}

-- the block that follows, or 0 after the last
abbrev pub next_block : List ℕ → ℕ
next_block [] = 0
next_block (b ∷ blocks) = b

-- a block of a chain: the number of the next, and up to 4,092 bytes, filled with zeros
unfoldable pub link_bytes : ℕ → List ℕ → List ℕ
link_bytes after bytes = be 4 after ++ (bytes ++ replicate (BLOCK - 4 - length bytes) 0)

-- how many blocks a chain of n bytes has
abbrev pub chain_length : ℕ → ℕ
chain_length n = (n + (BLOCK - 5)) / (BLOCK - 4)

-- these blocks of an image hold these bytes, one after the other
unfoldable pub HoldsChain : Image → List ℕ → List ℕ → Type 0
HoldsChain c [] bytes = bytes ≡ []
HoldsChain c (b ∷ blocks) bytes =
    (window c (BLOCK * b) BLOCK ≡ link_bytes (next_block blocks) (take (BLOCK - 4) bytes))
    × HoldsChain c blocks (drop (BLOCK - 4) bytes)

-- the chain of a manifest's bytes: as many blocks as they need, each a valid number, none twice
pub record IsChain (c : Image) (blocks bytes : List ℕ) : Type 0 where
  pub holds : HoldsChain c blocks bytes
  pub count : length blocks ≡ chain_length (length bytes)
  pub named : AllByRecursion (λ b. (1 ≤ b) × (b < 2 ^ 32 - 1)) blocks
  pub distinct : AllPairs (λ a b. a ≢ b) blocks
