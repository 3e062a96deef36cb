-- Entries written out, for examples.
use Rattle.std.specs.Prelude.{ℕ, [], ◌∷◌, Some, None}
use Rattle.strat_base.specs.Entries.{Entry}

-- a value of one byte for a key of one byte
abbrev pub says : ℕ → ℕ → ℕ → Entry
says key version value = record { key = key ∷ []; version = version; value = Some (value ∷ []) }

-- a key of one byte is gone
abbrev pub gone : ℕ → ℕ → Entry
gone key version = record { key = key ∷ []; version = version; value = None }
