-- A chain of blocks while it is read or written.
use Rattle.std.specs.Prelude.{◌≡◌, ◌≤◌, ℕ, ◌+◌, ◌*◌, ◌==◌, List, [], ◌∷◌, ◌++◌, length, drop, Option, Some, IsSome, Ok, Err}
use Rattle.std.specs.List.{AllByRecursion, list_any, range_with_len}
use Rattle.def_crash.specs.Image.{Image}
use Rattle.def_crash.specs.Moments.{DiskView, Exposes}
use Rattle.strat_extent.specs.Blocks.{SpaceView, is_used}
use Rattle.def_bytes.specs.Chain.{HoldsChain, IsChain, next_block}
use Rattle.def_bytes.specs.Chained.{chain_from, chained_bytes, manifest_at}
use Rattle.def_bytes.specs.Damage.{Read}
use Rattle.def_bytes.specs.Manifest.{Manifest, manifest_bytes}

-- a space in which these blocks are used, and no other
pub record AreSeen (s : SpaceView) (blocks : List ℕ) : Type 0 where
  pub first : s.first ≡ 0
  pub used : (b : ℕ) → is_used s b ≡ list_any (λ other. other == b) blocks

-- items in front of a list that is read
abbrev pub put_all : {A : Type 0} → List A → Read (List A) → Read (List A)
put_all xs (Ok ys) = Ok (xs ++ ys)
put_all xs (Err block) = Err block

-- a chain was followed from a first block to another with so many links left: the bytes of all blocks but this were read
pub record IsFollowed (content : Option Image) (first n : ℕ) (blocks bytes : List ℕ)
    (block left : ℕ) : Type 0 where
  pub front : List ℕ
  pub found : blocks ≡ front ++ block ∷ []
  pub rest : (f : Image) → content ≡ Some f
      → chain_from f [] first n ≡ put_all front (chain_from f front block left)
  pub read : (f : Image) → content ≡ Some f → bytes ≡ chained_bytes f front
  pub count : length front + left ≡ n
  pub size : length bytes ≡ 4092 * length front

-- each of these blocks is at or above a block
abbrev pub AreAbove : ℕ → List ℕ → Type 0
AreAbove low blocks = AllByRecursion (λ b. low ≤ b) blocks

-- where the disk exposed its content before, these blocks hold these bytes now
abbrev pub LeavesChain : DiskView → DiskView → List ℕ → List ℕ → Type 0
LeavesChain old new blocks bytes =
    IsSome old.content → (g : Image) → Exposes new g → HoldsChain g blocks bytes

-- where blocks behind a run held the bytes behind those of the run, the run and they hold all of them
abbrev pub PutsRun : DiskView → DiskView → ℕ → ℕ → ℕ → List ℕ → Type 0
PutsRun old new start n next bytes =
    (f g : Image) (rest : List ℕ) → Exposes old f → Exposes new g → next ≡ next_block rest
    → AreAbove (start + n) rest → HoldsChain f rest (drop (4092 * n) bytes)
    → HoldsChain g (range_with_len start n ++ rest) bytes

-- a manifest stands in a format in these blocks of an image, the first of which is told, and its bytes
-- are so many
pub record IsStored (format : ℕ) (c : Image) (first n : ℕ) (m : Manifest)
    (blocks : List ℕ) : Type 0 where
  pub read : manifest_at format c first n ≡ Ok (record { manifest = m; blocks = blocks })
  pub chain : IsChain c blocks (manifest_bytes format m)
  pub first_is : first ≡ next_block blocks
