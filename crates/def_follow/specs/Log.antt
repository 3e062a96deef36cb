-- The log of a store: the changes that it accepted, in order.
use Rattle.std.specs.Prelude.{◌≡◌, ◌≤◌, ℕ, true, List, [], ◌∷◌, length, take}
use Rattle.strat_base.specs.Change.{Change}
use Rattle.strat_model.specs.Answer.{accepts}
use Rattle.strat_model.specs.Step.{step}
use Rattle.strat_model.specs.Table.{Table, fresh, bare}
use Rattle.def_meaning.specs.StateTable.{request_for}

-- the table after a change
abbrev pub after_change : Table → Change → Table
after_change t c = (step t (request_for c)).table

-- a table accepts a change
abbrev pub IsTakenAt : Table → Change → Type 0
IsTakenAt t c = accepts (step t (request_for c)).answer.reply ≡ true

-- the table after changes, one after the other
abbrev pub table_after : Table → List Change → Table
table_after t [] = t
table_after t (c ∷ log) = table_after (after_change t c) log

-- each change is accepted in its turn
abbrev pub AreTakenFrom : Table → List Change → Type 0
AreTakenFrom t [] = Unit {0}
AreTakenFrom t (c ∷ log) = IsTakenAt t c × AreTakenFrom (after_change t c) log

-- changes are a log: a new table with these limits accepts them in turn
abbrev pub IsLog : ℕ → ℕ → List Change → Type 0
IsLog changes_max versions_max log = AreTakenFrom (fresh changes_max versions_max) log

-- the table after the first n changes of a log
abbrev pub table_of_log : ℕ → ℕ → List Change → ℕ → Table
table_of_log changes_max versions_max log n =
    table_after (fresh changes_max versions_max) (take n log)

-- a table, but for its cursors, is that after a prefix of a log
pub record IsOfLog (changes_max versions_max : ℕ) (log : List Change) (t : Table) : Type 0 where
  pub place : ℕ
  pub within : place ≤ length log
  pub table : bare t ≡ table_of_log changes_max versions_max log place
