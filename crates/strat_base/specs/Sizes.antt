-- The sizes that keys and values may have.
use Rattle.std.specs.Prelude.{ℕ, Bool, nat_le, ◌&&◌, List, length}
use Rattle.strat_base.specs.declared.limits.TheConstants.{KEY_MAX, VALUE_MAX}

-- these bytes may be a key
abbrev pub is_key : List ℕ → Bool
is_key key = nat_le 1 (length key) && nat_le (length key) KEY_MAX

-- these bytes may be a value
abbrev pub is_value : List ℕ → Bool
is_value value = nat_le (length value) VALUE_MAX
