-- A journal in two parts: what was there when a promotion began, and what came since.
use Rattle.std.specs.Prelude.{List, ◌++◌}
use Rattle.strat_base.specs.Change.{Change}
use Rattle.def_state.specs.State.{State}

-- a state when its journal held only these changes
abbrev pub sealed_at : State → List Change → State
sealed_at s sealed = record s { journal = sealed }

-- a state with more changes in its journal
abbrev pub grown_by : State → List Change → State
grown_by s rest = record s { journal = s.journal ++ rest }
