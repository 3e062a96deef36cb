-- The fields of what was read last.
use Rattle.std.specs.Prelude.{◌≡◌, ◌≤◌, if◌then◌else◌, length, take, Option, Some, None}
use Rattle.strat_base.specs.Entries.{Entry}
use Rattle.strat_promote.specs.declared.last_read.LastRead.TheInside.{Inside}

-- the key and the version that these fields keep, if they keep one
abbrev pub last_in : Inside → Option Entry
last_in l =
    if l.is_some then
    Some (record { key = take l.len l.bytes.items; version = l.version; value = None }) else None

-- there is room for any key
pub record HasKeyRoom (l : Inside) : Type 0 where
  pub room : length l.bytes.items ≡ 255
  pub len : l.len ≤ 255
