-- A disk that was just formatted.
use Rattle.std.specs.Prelude.{◌≡◌, ◌≢◌, ◌⊎◌, ℕ, List, [], Some, None, Ok, ◌≤◌, ◌<◌, ◌+◌, ◌*◌}
use Rattle.def_crash.specs.Image.{Image}
use Rattle.def_bytes.specs.Layout.{region_at, first_free, open_flag, shortest_manifest}
use Rattle.def_crash.specs.Moments.{DiskView, Exposes, Images, Since}
use Rattle.def_state.specs.State.{fresh_state}
use Rattle.def_bytes.specs.SuperBlock.{Super, newest_in}
use Rattle.strat_model.specs.Table.{fresh}
use Rattle.def_recovery.specs.Head.{Head}
use Rattle.def_recovery.specs.Opening.{recover, reads_as}
use Rattle.def_bytes.specs.Chain.{link_bytes}
use Rattle.def_bytes.specs.Manifest.{manifest_bytes, new_manifest}
use Rattle.def_publish.specs.Standing.{ShowsTable}
use Rattle.strat_memory.specs.Paying.{IsPaidIn}

-- the superblock of a new store in a format: the first generation, with the manifest in the first free block
abbrev pub super_for : ℕ → ℕ → ℕ → ℕ → Super
super_for format mem changes_max versions_max = record {
  format = format;
  generation = 1;
  manifest = first_free mem;
  length = shortest_manifest format;
  region = 0;
  mem = mem;
  changes_max = changes_max;
  versions_max = versions_max;
}

-- the head of a new store
abbrev pub head_for : ℕ → ℕ → ℕ → ℕ → Head
head_for format mem changes_max versions_max = record {
  sb = super_for format mem changes_max versions_max;
  manifest = new_manifest;
  journal = [];
}

-- the block of a new store's manifest in a format: it is the last of its chain, and behind the manifest
-- there are zeros
abbrev pub new_block : ℕ → List ℕ
new_block format = link_bytes 0 (manifest_bytes format new_manifest)

-- a crash leaves one image, the content
pub record IsAtRest (v : DiskView) : Type 0 where
  pub content : Image
  pub exposed : Exposes v content
  pub alone : (c : Image) → Images v c → c ≡ content

-- an image is a new store in a format, with these limits: recovery finds its head, it reads as the state of a
-- new store and shows the table of one, the second superblock slot and the second journal region
-- are shut, and it has paid for what it has written, which is nothing
pub record IsNewStore (format mem changes_max versions_max : ℕ) (c : Image) : Type 0 where
  pub found : recover c ≡ Ok (Some (head_for format mem changes_max versions_max))
  pub reads : reads_as c ≡ Some (fresh_state mem changes_max versions_max)
  pub shows : ShowsTable c (fresh changes_max versions_max)
  pub slot : c 4096 ≢ open_flag
  pub region : c (region_at mem 1) ≢ open_flag
  pub paid : IsPaidIn c

-- a crash leaves one image of the disk, a new store in a format with these limits
pub record IsNewDisk (format mem changes_max versions_max : ℕ) (v : DiskView) : Type 0 where
  pub rest : IsAtRest v
  pub new : IsNewStore format mem changes_max versions_max rest.content

-- both superblock slots are shut, whatever a crash leaves
pub record IsBlank (v : DiskView) : Type 0 where
  pub first : (c : Image) → Images v c → c 0 ≢ open_flag
  pub second : (c : Image) → Images v c → c 4096 ≢ open_flag

-- the disk exposes its content, in which both slots and the first gates of both journal regions
-- are shut
pub record IsShut (mem : ℕ) (v : DiskView) : Type 0 where
  pub content : Image
  pub exposed : Exposes v content
  pub first : content 0 ≢ open_flag
  pub second : content 4096 ≢ open_flag
  pub active : content (region_at mem 0) ≢ open_flag
  pub other : content (region_at mem 1) ≢ open_flag

-- an image is no store, or the whole of a new one
abbrev pub IsNoneOrNew : ℕ → ℕ → ℕ → ℕ → Image → Type 0
IsNoneOrNew format mem changes_max versions_max c =
    (newest_in c ≡ Ok None) ⊎ IsNewStore format mem changes_max versions_max c

-- an offset that formatting may write: in the superblock slots, the first gate of a journal region, or
-- in the manifest's block
abbrev pub IsFormatted : ℕ → ℕ → Type 0
IsFormatted mem i = (i < 8192) ⊎ ((i ≡ region_at mem 0) ⊎ ((i ≡ region_at mem 1)
    ⊎ ((4096 * first_free mem ≤ i) × (i < 4096 * first_free mem + 4096))))

-- each image since then has the bytes of one of before at all other offsets
pub record KeepsOthers (mem : ℕ) (old new : DiskView) : Type 0 where
  pub each : (c : Image) → Since new old.moment c
      → (d : Image) × Images old d × ((i : ℕ) → ¬ IsFormatted mem i → c i ≡ d i)
