-- A manifest for worked values.
use Rattle.std.specs.Prelude.{ℕ, [], ◌∷◌}
use Rattle.strat_base.specs.Marks.{Marks}
use Rattle.def_bytes.specs.Manifest.{Manifest}

-- a manifest of three versions, one below the other, with these marks
abbrev pub with_marks : ℕ → Marks → Manifest
with_marks compacted marks = record {
  changes = 3;
  updates = 1;
  written = 2;
  compacted = compacted;
  next_array = 4;
  parents = 0 ∷ 1 ∷ [];
  marks = marks;
  levels = [];
}
