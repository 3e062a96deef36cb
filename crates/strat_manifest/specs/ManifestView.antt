-- The manifest that a manifest in memory says.
use Rattle.std.specs.Prelude.{ℕ, ◌==◌, nat_le, if◌then◌else◌, Bool, List, map}
use Rattle.std.specs.List.{list_all}
use Rattle.strat_base.specs.Marks.{Marks}
use Rattle.def_bytes.specs.Manifest.{Manifest}
use Rattle.strat_manifest.specs.declared.manifest.Manifest.{Manifest as Declared}

-- the mark that a number stands for: 1 says that the version was dropped
abbrev pub is_set : ℕ → Bool
is_set n = n == 1

-- the marks that numbers stand for
abbrev pub marks_listed : List ℕ → Marks
marks_listed numbers = map is_set numbers

-- each number is that of a mark, 0 or 1
abbrev pub are_marks : List ℕ → Bool
are_marks numbers = list_all (λ n. nat_le n 1) numbers

-- a number of bytes that stand in format 2 alone
abbrev pub only_size : ℕ → ℕ → ℕ
only_size format n = if format == 2 then n else 0

-- the manifest of these fields
abbrev pub manifest_of : Declared → Manifest
manifest_of m = record {
  changes = m.changes;
  updates = m.updates;
  written = m.written;
  compacted = m.compacted;
  next_array = m.next_array;
  parents = m.parents;
  marks = marks_listed m.marks;
  levels = m.levels;
}
