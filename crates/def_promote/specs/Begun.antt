-- States written out, as their journals are merged for the first time.
use Rattle.std.specs.Prelude.{List, [], ◌∷◌, None}
use Rattle.strat_base.specs.Change.{Put, Clone}
use Rattle.strat_base.specs.Entries.{Entry}
use Rattle.strat_base.specs.Samples.{says}
use Rattle.def_state.specs.State.{State, fresh_state}
use Rattle.def_split.specs.Plan.{Plan}

-- two changes at most: a clone of version 0, and a put of a at it
abbrev pub first_writes : State
first_writes =
    record (fresh_state 2 100 10) { journal = Clone 0 ∷ Put 1 (97 ∷ []) (49 ∷ []) ∷ [] }

-- a put of a, a clone, and the same put once more at that
abbrev pub repeated_writes : State
repeated_writes =
    record (fresh_state 4 100 10) {
      journal = Put 0 (97 ∷ []) (49 ∷ []) ∷ Clone 0 ∷ Put 1 (97 ∷ []) (49 ∷ []) ∷ [];
    }

-- what it says, by key
abbrev pub repeated_groups : List (List Entry)
repeated_groups = (says 97 1 49 ∷ says 97 0 49 ∷ []) ∷ []

-- one array for both versions, with one entry
abbrev pub repeated_plan : Plan
repeated_plan = record {
  labels = 0 ∷ 0 ∷ [];
  parts = record { above = None; leads = 1; entries = 1; least = 1 } ∷ [];
}
