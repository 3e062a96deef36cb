-- The manifest in a chain of blocks, as it is read.
use Rattle.std.specs.Prelude.{ℕ, zero, suc, ◌+◌, ◌-◌, ◌*◌, ◌==◌, nat_le, nat_lt, ◌&&◌, not, Bool, if◌then◌else◌, List, [], ◌∷◌, take, drop, flat_map, Option, None, Err, option_map}
use Rattle.std.specs.List.{list_any, list_all}
use Rattle.strat_base.specs.declared.limits.TheConstants.{BLOCK}
use Rattle.strat_base.specs.Numbers.{number}
use Rattle.def_crash.specs.Image.{Image, window}
use Rattle.def_bytes.specs.Chain.{chain_length}
use Rattle.def_bytes.specs.Manifest.{Manifest, manifest_in}
use Rattle.def_bytes.specs.Damage.{Read, and_then, found_or, passed_or, put_first}

-- the number of the block that follows a block of a chain, as the block says it
abbrev pub link_at : Image → ℕ → ℕ
link_at c b = number 4 (window c (BLOCK * b) 4)

-- a block may follow these in a chain: it is one that a chain may have, and not there already
abbrev pub may_follow : List ℕ → ℕ → Bool
may_follow blocks b =
    nat_le 1 b && nat_lt b 4294967295 && not (list_any (λ other. other == b) blocks)

-- the blocks of a chain from b on, n after it and none of those before; or the first wrong link
unfoldable pub chain_from : Image → List ℕ → ℕ → ℕ → Read (List ℕ)
chain_from c before b zero = passed_or b (link_at c b == 0) (b ∷ [])
chain_from c before b (suc n) =
    if may_follow (b ∷ before) (link_at c b)
    then put_first b (chain_from c (b ∷ before) (link_at c b) n) else Err b

-- the bytes in blocks of a chain, after their links
abbrev pub chained_bytes : Image → List ℕ → List ℕ
chained_bytes c blocks = flat_map (λ b. window c (BLOCK * b + 4) (BLOCK - 4)) blocks

-- the manifest that the first n of these bytes spell in a format, where the others are zeros
abbrev pub manifest_filled : ℕ → ℕ → List ℕ → Option Manifest
manifest_filled format n bytes =
    if list_all (λ x. x == 0) (drop n bytes) then manifest_in format (take n bytes) else None

-- a manifest, and the blocks of its chain
pub record Chained : Type 0 where
  pub manifest : Manifest
  pub blocks : List ℕ

-- the manifest in these blocks, or the first of them
abbrev pub manifest_in_chain : ℕ → Image → ℕ → ℕ → List ℕ → Read Chained
manifest_in_chain format c first n blocks =
    found_or first (option_map
    (λ m. record { manifest = m; blocks = blocks })
    (manifest_filled format n (chained_bytes c blocks)))

-- the manifest of n bytes in the chain that begins with a block; or the block that is damaged
abbrev pub manifest_at : ℕ → Image → ℕ → ℕ → Read Chained
manifest_at format c first n =
    and_then (chain_from c [] first (chain_length n - 1)) (manifest_in_chain format c first n)
