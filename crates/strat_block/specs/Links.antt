-- How a block is read in one pass: entry by entry, each at its offset and behind the one before.
use Rattle.std.specs.Prelude.{ℕ, zero, suc, ◌+◌, ◌*◌, ◌==◌, Bool, true, if◌then◌else◌, List, Option, Some, None, option_and_then}
use Rattle.std.specs.List.{list_all}
use Rattle.std.specs.Ordering.{is_lt}
use Rattle.strat_base.specs.Numbers.{number_at}
use Rattle.strat_base.specs.Order.{entry_cmp}
use Rattle.strat_base.specs.Entries.{Entry}
use Rattle.strat_base.specs.EntryBytes.{entry_at}

-- an entry may stand behind another one, or first
abbrev pub may_stand_behind : Option Entry → Entry → Bool
may_stand_behind None e = true
may_stand_behind (Some d) e = is_lt (entry_cmp d.key d.version e.key e.version)

-- an entry that may stand there, and the offset after it
abbrev pub link_after : Option Entry → Option (Entry × ℕ) → Option (Entry × ℕ)
link_after before None = None
link_after before (Some x) = if may_stand_behind before x.0 then Some x else None

-- the i-th entry, where its offset says that it begins at one, and the offset after it
abbrev pub linked_entry : List ℕ → ℕ → ℕ → Option Entry → Option (Entry × ℕ)
linked_entry bytes i at before =
    option_and_then
    (λ offset. if offset == at then link_after before (entry_at bytes at) else None)
    (number_at 2 bytes (2 + 2 * i))

-- where the last of k entries ends, the first of which is the i-th
unfoldable pub chain_end : List ℕ → ℕ → ℕ → ℕ → Option Entry → Option ℕ
chain_end bytes zero i at before = Some at
chain_end bytes (suc k) i at before =
    option_and_then (λ x. chain_end bytes k (i + 1) x.1 (Some x.0)) (linked_entry bytes i at before)

-- only zeros
abbrev pub are_zeros : List ℕ → Bool
are_zeros bytes = list_all (λ b. b == 0) bytes
