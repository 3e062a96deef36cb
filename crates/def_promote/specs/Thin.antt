-- Entries at dropped versions say nothing, nor do those that repeat what the version above has.
use Rattle.std.specs.Prelude.{ℕ, ◌&&◌, not, Bool, List, filter, Option, option_and_then}
use Rattle.strat_base.specs.Tree.{Parents, parent_of}
use Rattle.strat_base.specs.Marks.{Marks, is_dropped}
use Rattle.strat_base.specs.Entries.{Entry, is_same_value}
use Rattle.def_state.specs.Maps.{value_over}

-- the value of a key at a version's parent; a root has none
abbrev pub value_above : Parents → List Entry → ℕ → List ℕ → Option (List ℕ)
value_above parents entries v key =
    option_and_then (λ p. value_over parents entries p key) (parent_of parents v)

-- an entry tells something: its version is living, and the parent has another value, or none
abbrev pub is_telling : Parents → Marks → List Entry → Entry → Bool
is_telling parents marks entries e =
    not (is_dropped marks e.version)
    && not (is_same_value e.value (value_above parents entries e.version e.key))

-- the entries that tell something
abbrev pub thinned : Parents → Marks → List Entry → List Entry
thinned parents marks entries = filter (is_telling parents marks entries) entries
