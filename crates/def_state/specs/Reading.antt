-- How a key is read at a version: level by level, the newest entries first.
use Rattle.std.specs.Prelude.{ℕ, List, [], ◌∷◌, find, Option, None, option_and_then}
use Rattle.std.specs.Option.{option_or}
use Rattle.strat_base.specs.Tree.{Parents, below}
use Rattle.strat_base.specs.Entries.{Entry, is_of, is_tagged, latest}
use Rattle.def_state.specs.Live.{live}
use Rattle.def_state.specs.Level.{TaggedArray, Level}
use Rattle.def_state.specs.State.{State, versions_of, journal_updates}

-- the entry of a key that is live at a version among these
abbrev pub live_of : Parents → List Entry → ℕ → List ℕ → Option Entry
live_of parents entries v key = find (is_of key) (live parents entries v)

-- the entries of level 0: the latest update in the journal of each key and version
abbrev pub level_zero : State → List Entry
level_zero s = latest (journal_updates s)

-- the array of a level for a version: its tag holds the version, or else its nearest ancestor,
-- below the horizon
abbrev pub array_for : Parents → Level → ℕ → Option TaggedArray
array_for parents level v = find (λ a. is_tagged a.tag (below parents v level.horizon)) level.arrays

-- what a level says of a key at a version
abbrev pub found_in : Parents → Level → ℕ → List ℕ → Option Entry
found_in parents level v key =
    option_and_then (λ a. live_of parents a.content v key) (array_for parents level v)

-- what the first of these levels that says something says
abbrev pub found_first : Parents → List Level → ℕ → List ℕ → Option Entry
found_first parents [] v key = None
found_first parents (level ∷ levels) v key =
    option_or (found_in parents level v key) (found_first parents levels v key)

-- the entry that is read: level 0's, or else that of the first level with one
abbrev pub read_at : State → ℕ → List ℕ → Option Entry
read_at s v key =
    option_or (live_of (versions_of s) (level_zero s) v key)
    (found_first (versions_of s) s.levels v key)
