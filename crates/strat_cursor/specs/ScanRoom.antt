-- What a scan's room holds.
use Rattle.std.specs.Prelude.{◌≡◌, ◌≤◌, ℕ, List, length}
use Rattle.strat_cursor.specs.declared.scan_buffers.SourcePosition.{SourcePosition}

-- a position for each of 24 sources, two nodes for each, and a key of 255 bytes
abbrev pub HasScanRoom : List SourcePosition → List ℕ → ℕ → Type 0
HasScanRoom positions winners room =
    (length positions ≡ 24) × (length winners ≡ 48) × (255 ≤ room)
