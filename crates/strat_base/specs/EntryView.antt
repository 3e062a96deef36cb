-- Entries in memory, as entries.
use Rattle.std.specs.Prelude.{ℕ, List, Option, Some, None}
use Rattle.strat_base.specs.declared.entries.Val.{Val}
use Rattle.strat_base.specs.declared.entries.Val.TheVariants as val
use Rattle.strat_base.specs.declared.entries.Entry.{Entry as Borrowed}
use Rattle.strat_base.specs.Entries.{Entry}

-- a value, or the mark that the key is gone, wherever its bytes lie
abbrev pub val_of : Val → Option (List ℕ)
val_of val.Gone = None
val_of (val.Put value) = Some value.now

-- an entry, wherever its bytes lie
abbrev pub entry_of : Borrowed → Entry
entry_of e = record { key = e.key.now; version = e.version; value = val_of e.val }
