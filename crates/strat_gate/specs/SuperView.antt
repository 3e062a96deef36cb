-- A superblock of the program as one of the definitions.
use Rattle.std.specs.Prelude.{ℕ, Option, Some, None}
use Rattle.def_bytes.specs.SuperBlock.{Super}
use Rattle.strat_gate.specs.declared.superblock.SuperBlock.{SuperBlock}

-- the fields of a superblock in memory
abbrev pub super_of : SuperBlock → Super
super_of sb = record {
  format = sb.format;
  generation = sb.generation;
  manifest = sb.manifest;
  length = sb.length;
  region = sb.region;
  mem = sb.mem;
  changes_max = sb.changes_max;
  versions_max = sb.versions_max;
}

-- what a slot holds
abbrev pub slot_seen : Option SuperBlock → Option Super
slot_seen None = None
slot_seen (Some sb) = Some (super_of sb)

-- a slot's number with its superblock
abbrev pub seen : Option (ℕ × SuperBlock) → Option (ℕ × Super)
seen None = None
seen (Some found) = Some (found.0, super_of found.1)
