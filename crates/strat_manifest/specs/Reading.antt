-- What a function read from the front of bytes, beside what reading gives.
use Rattle.std.specs.Prelude.{◌≡◌, ℕ, ◌-◌, List, replicate, Some, None, Result, Ok, Err}
use Rattle.strat_base.specs.declared.descriptors.LevelDesc.{LevelDesc}
use Rattle.def_bytes.specs.Manifest.{Parsed, next, read_number, read_items, read_only, read_level}
use Rattle.strat_manifest.specs.declared.manifest.ManifestFault.{ManifestFault}
use Rattle.strat_manifest.specs.declared.manifest.Manifest.{Manifest}
use Rattle.strat_manifest.specs.declared.parser.Head.{Head}
use Rattle.strat_manifest.specs.declared.manifest.ManifestFault.TheVariants.{Refused}

-- a function that had bytes before it read what reading them gives, and has the bytes after that left; where it
-- refused them reading gives nothing
abbrev pub Reads : {A : Type 0} → (List ℕ → Parsed A) → List ℕ → Result A ManifestFault
    → List ℕ → Type 0
Reads read before (Ok x) after = read before ≡ Some (x, after)
Reads read before (Err fault) after = fault ≡ Refused → read before ≡ None

-- the numbers in front of a manifest in a format, read from the front of bytes
unfoldable pub read_head : ℕ → List ℕ → Parsed Head
read_head format bytes =
    next (read_number 4 bytes) (λ changes b.
    next (read_number 4 b) (λ updates c.
    next (read_number 8 c) (λ written k.
    next (read_only format (read_number 8) 0 k) (λ compacted d.
    next (read_number 8 d) (λ next_array e.
    next (read_number 4 e) (λ versions f.
    Some (
      record {
        changes = changes;
        updates = updates;
        written = written;
        compacted = compacted;
        next_array = next_array;
        versions = versions;
      },
      f,
    )))))))

-- the numbers of so many marks: in format 2 a byte each, in format 1 none and all 0
unfoldable pub read_marks : ℕ → ℕ → List ℕ → Parsed (List ℕ)
read_marks format n bytes = read_only format (read_items (read_number 1) n) (replicate n 0) bytes

-- as many levels as a byte in front of them says
abbrev pub read_levels : List ℕ → Parsed (List LevelDesc)
read_levels bytes = next (read_number 1 bytes) (λ n rest. read_items read_level n rest)

-- the manifest in a format whose parents, marks and levels stand behind these numbers, read from the front of bytes
unfoldable pub read_behind : ℕ → Head → List ℕ → Parsed Manifest
read_behind format h bytes =
    next (read_items (read_number 4) (h.versions - 1) bytes) (λ parents b.
    next (read_marks format h.versions b) (λ marks c.
    next (read_levels c) (λ levels d.
    Some (
      record {
        changes = h.changes;
        updates = h.updates;
        written = h.written;
        compacted = h.compacted;
        next_array = h.next_array;
        parents = parents;
        marks = marks;
        levels = levels;
      },
      d,
    ))))
