-- Changes that join the journal together.
use Rattle.std.specs.Prelude.{◌≤◌, ◌+◌, List, [], ◌∷◌, length, IsTrue}
use Rattle.strat_base.specs.Change.{Change}
use Rattle.strat_model.specs.Step.{step}
use Rattle.strat_model.specs.Table.{Table}
use Rattle.def_meaning.specs.StateTable.{request_for}
use Rattle.def_state.specs.Sound.{IsSound, are_accepted, journal_max}
use Rattle.def_state.specs.State.{State, changes_of, versions_of, marks_of}

-- a sound state accepts these changes one after the other, and its journal has room for them
pub record TakesBatch (s : State) (batch : List Change) : Type 0 where
  pub sound : IsSound s
  pub accepted : IsTrue
      (are_accepted s.changes_max s.versions_max (versions_of s) (marks_of s) (changes_of s) batch)
  pub room : length s.journal + length batch ≤ journal_max s.mem

-- the tables after each of these changes, as the table steps through them
abbrev pub tables_through : Table → List Change → List Table
tables_through t [] = []
tables_through t (change ∷ batch) =
    let next = (step t (request_for change)).table in next ∷ tables_through next batch
