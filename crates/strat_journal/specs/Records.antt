-- What a journal holds of a disk's records.
use Rattle.std.specs.Prelude.{ℕ, ◌+◌, List, [], ◌∷◌, length, map, Ok}
use Rattle.def_crash.specs.Image.{Image}
use Rattle.strat_base.specs.Change.{Change, change_bytes}
use Rattle.def_bytes.specs.Damage.{Read, and_then}
use Rattle.def_bytes.specs.Records.{Logged, block_of, journal_of}
use Rattle.strat_journal.specs.declared.journal.Logged.{Logged as Owned}

-- a change that was read and has its bytes itself, as one of a journal
abbrev pub logged_of : Owned → Logged
logged_of l = record { change = l.change; block = l.block }

-- changes with the blocks in which the gates of their records stand, from an offset on
abbrev pub logged_from : ℕ → List Change → List Logged
logged_from at [] = []
logged_from at (change ∷ changes) =
    record { change = change; block = block_of at }
    ∷ logged_from (at + 1 + length (change_bytes change)) changes

-- the changes of what is read, without their blocks
abbrev pub changes_in_order : Read (List Logged) → Read (List Change)
changes_in_order read = and_then read (λ logged. Ok (map (λ l. l.change) logged))

-- the changes of the journal of these bytes
abbrev pub journal_changes : Image → ℕ → ℕ → Read (List Change)
journal_changes c mem active = changes_in_order (journal_of c mem active)
