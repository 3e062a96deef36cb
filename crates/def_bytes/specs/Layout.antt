-- Where a store's parts lie in its file: two superblock slots, two journal regions, free blocks.
use Rattle.std.specs.Prelude.{◌≤◌, ℕ, ◌+◌, ◌-◌, ◌*◌, ◌/◌, ◌==◌, Bool, if◌then◌else◌}

-- what an open gate holds; any other byte is a closed one
abbrev pub open_flag : ℕ
open_flag = 0xa7

-- a gate that holds this byte is open
abbrev pub is_open : ℕ → Bool
is_open gate = gate == open_flag

-- bytes of the largest journal record: its gate, and a put of the longest key and the longest value
abbrev pub record_max : ℕ
record_max = 1288

-- the newest format: formats 1 and 2 are read, and what is published is written in this one
abbrev pub newest_format : ℕ
newest_format = 2

-- bytes of the shortest manifest in a format, that of a store without levels and with one version
abbrev pub shortest_manifest : ℕ → ℕ
shortest_manifest format = if format == 1 then 29 else 38

-- the blocks of a journal region for so many changes: the largest records and a closed gate fit
abbrev pub region_blocks : ℕ → ℕ
region_blocks mem = (record_max * mem + 4096) / 4096

-- region 0 or 1 of a store whose regions take so many changes
pub record IsRegion (mem region : ℕ) : Type 0 where
  pub mem_most : mem ≤ 4096
  pub region_most : region ≤ 1

-- the first block of a region
abbrev pub region_first : ℕ → ℕ → ℕ
region_first mem region = 2 + region * region_blocks mem

-- the first byte of a region, where the gate of its first record stands
abbrev pub region_at : ℕ → ℕ → ℕ
region_at mem region = 4096 * region_first mem region

-- how many bytes a region has
abbrev pub region_size : ℕ → ℕ
region_size mem = 4096 * region_blocks mem

-- the region that is not this one
abbrev pub other_region : ℕ → ℕ
other_region region = 1 - region

-- the first block after both journal regions
abbrev pub first_free : ℕ → ℕ
first_free mem = 2 + 2 * region_blocks mem
