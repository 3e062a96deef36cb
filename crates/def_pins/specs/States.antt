-- States that stand exactly at a bound of a definition, or one past it.
use Rattle.std.specs.Prelude.{ℕ, true, false, List, [], ◌∷◌, replicate, Some, None}
use Rattle.strat_base.specs.Change.{Put}
use Rattle.strat_base.specs.Samples.{says}
use Rattle.strat_base.specs.Tree.{Parents}
use Rattle.def_state.specs.Level.{TaggedArray, Level}
use Rattle.def_state.specs.State.{State}
use Rattle.def_state.specs.Worked.{array_of, first_level, fan}
use Rattle.def_state.specs.Broken.{with_empty_journal}

-- a level with this number, horizon and arrays
abbrev pub level_with : ℕ → ℕ → List TaggedArray → Level
level_with number horizon arrays = record { number = number; horizon = horizon; arrays = arrays }

-- one lead in level 1 and one in level 2, after eight updates and a clone
abbrev pub two_levels : State
two_levels = with_empty_journal (None ∷ Some 0 ∷ []) 8 (
    level_with 1 2 (array_of 2 (1 ∷ []) (says 98 1 49 ∷ []) 1 1 1 ∷ [])
    ∷ level_with 2 1 (array_of 1 (0 ∷ []) (says 97 0 49 ∷ []) 1 1 1 ∷ []) ∷ [])

-- the same after so many entries were written
abbrev pub two_levels_after : ℕ → State
two_levels_after written = record two_levels { written = written }

-- after nine changes, one array in the level with this number
abbrev pub only_array_in : ℕ → TaggedArray → State
only_array_in number a = record two_levels { levels = level_with number 1 (a ∷ []) ∷ [] }

-- an array with one lead
abbrev pub with_a_lead : TaggedArray
with_a_lead = array_of 1 (0 ∷ []) (says 97 0 49 ∷ []) 1 1 1

-- an array without leads
abbrev pub without_leads : TaggedArray
without_leads = array_of 1 (0 ∷ []) [] 0 0 0

-- eight leads in the level with this number, in a store whose regions take so many changes
abbrev pub eight_leads_in : ℕ → ℕ → State
eight_leads_in mem number = record (with_empty_journal (None ∷ []) 8 []) {
  mem = mem;
  levels = level_with number 1 (array_of 1 (0 ∷ []) (
      says 97 0 49 ∷ says 98 0 49 ∷ says 99 0 49 ∷ says 100 0 49
      ∷ says 101 0 49 ∷ says 102 0 49 ∷ says 103 0 49 ∷ says 104 0 49 ∷ []) 8 8 8 ∷ []) ∷ [];
}

-- three leads, of which one is live at version 0
abbrev pub a_third_is_live : State
a_third_is_live = with_empty_journal (None ∷ Some 0 ∷ Some 0 ∷ []) 3 (first_level 3 (
    array_of 1 (0 ∷ 1 ∷ 2 ∷ []) (says 97 0 49 ∷ says 98 1 49 ∷ says 99 2 49 ∷ []) 3 3 1 ∷ []))

-- three leads, of which two are live at version 1 and one at version 2
abbrev pub later_is_sparser : State
later_is_sparser = with_empty_journal (None ∷ Some 0 ∷ Some 0 ∷ []) 3 (first_level 3 (
    array_of 1 (1 ∷ 2 ∷ []) (says 97 1 49 ∷ says 98 1 49 ∷ says 99 2 49 ∷ []) 3 3 1 ∷ []))

-- a tag has a version that is the horizon
abbrev pub tag_at_the_horizon : State
tag_at_the_horizon = with_empty_journal (None ∷ Some 0 ∷ []) 1 (first_level 1 (
    array_of 1 (0 ∷ 1 ∷ []) (says 97 0 49 ∷ []) 1 1 1 ∷ []))

-- level 2 has horizon 3, and level 1 this one
abbrev pub shallower_horizon_is : ℕ → State
shallower_horizon_is horizon = with_empty_journal (None ∷ Some 0 ∷ Some 0 ∷ []) 2 (
    level_with 1 horizon (array_of 2 (1 ∷ []) (says 98 1 49 ∷ []) 1 1 1 ∷ [])
    ∷ level_with 2 3 (array_of 1 (0 ∷ 1 ∷ 2 ∷ []) (says 97 0 49 ∷ []) 1 1 1 ∷ []) ∷ [])

-- the fan's first array has three entries, three leads and at least two live ones; say these
abbrev pub fan_says : ℕ → ℕ → ℕ → State
fan_says entries leads least = record fan {
  levels = first_level 4 (
      array_of 1 (0 ∷ 1 ∷ []) (says 97 0 49 ∷ says 98 0 49 ∷ says 99 1 49 ∷ []) entries leads least
      ∷ array_of 2 (2 ∷ 3 ∷ [])
      (says 97 0 49 ∷ says 98 0 49 ∷ says 99 3 51 ∷ says 99 2 50 ∷ []) 4 2 3 ∷ []);
}

-- a new store, whose regions take four changes, with so many puts in its journal
abbrev pub after_puts : ℕ → State
after_puts n = record (with_empty_journal (None ∷ []) 0 []) {
  journal = replicate n (Put 0 (97 ∷ []) (49 ∷ []));
}

-- two levels that break all rules together
abbrev pub all_broken : State
all_broken = record (with_empty_journal (None ∷ Some 0 ∷ Some 0 ∷ Some 0 ∷ []) 3 (
    level_with 1 5 (
    array_of 1 (0 ∷ 1 ∷ []) (says 98 0 49 ∷ says 97 0 49 ∷ says 97 0 50 ∷ []) 9 3 3
    ∷ array_of 2 (1 ∷ 2 ∷ []) (says 97 2 49 ∷ says 99 3 57 ∷ says 100 3 49 ∷ []) 3 1 1 ∷ [])
    ∷ level_with 2 6 (array_of 3 (0 ∷ []) (says 97 0 49 ∷ []) 1 1 1 ∷ []) ∷ [])) { mem = 1 }

-- version 0 with two children
abbrev pub two_children : Parents
two_children = None ∷ Some 0 ∷ Some 0 ∷ []

-- the fan without its last version, which was dropped
abbrev pub drop_of_three : State
drop_of_three = record fan { marks = false ∷ false ∷ false ∷ true ∷ [] }
