-- States that are well formed but break a rule. Recovery refuses those whose tags meet, with more
-- copies than leads, with a horizon that is not reached, and with more leads than updates.
use Rattle.std.specs.Prelude.{replicate, false, ℕ, ◌+◌, ◌-◌, List, [], ◌∷◌, length, Some, None}
use Rattle.strat_base.specs.Tree.{Parents}
use Rattle.def_state.specs.Level.{Level}
use Rattle.def_state.specs.State.{State}
use Rattle.strat_base.specs.Samples.{says}
use Rattle.def_state.specs.Worked.{array_of, first_level, fan}

-- a state with an empty journal
abbrev pub with_empty_journal : Parents → ℕ → List Level → State
with_empty_journal parents updates levels = record {
  mem = 4;
  changes_max = 100;
  versions_max = 10;
  parents = parents;
  marks = replicate (length parents) false;
  changes = updates + length parents - 1;
  updates = updates;
  written = updates;
  compacted = 0;
  next_array = 9;
  levels = levels;
  journal = [];
}

-- a: version 1 is in two tags
abbrev pub overlapping_tags : State
overlapping_tags = with_empty_journal (None ∷ Some 0 ∷ Some 1 ∷ []) 2 (first_level 3 (
    array_of 1 (0 ∷ 1 ∷ []) (says 97 0 49 ∷ []) 1 1 1
    ∷ array_of 2 (1 ∷ 2 ∷ []) (says 97 0 49 ∷ says 98 2 49 ∷ []) 2 1 1 ∷ []))

-- b: version 1 sees a, and is in no tag
abbrev pub untagged_version : State
untagged_version =
    with_empty_journal (None ∷ Some 0 ∷ []) 1
    (first_level 2 (array_of 1 (0 ∷ []) (says 97 0 49 ∷ []) 1 1 1 ∷ []))

-- c: the array for version 1 lacks a copy of a
abbrev pub missing_copy : State
missing_copy = with_empty_journal (None ∷ Some 0 ∷ []) 2 (first_level 2 (
    array_of 1 (0 ∷ []) (says 97 0 49 ∷ []) 1 1 1
    ∷ array_of 2 (1 ∷ []) (says 98 1 49 ∷ []) 1 1 1 ∷ []))

-- d: of four entries one is live at version 0
abbrev pub sparse_array : State
sparse_array = with_empty_journal (None ∷ Some 0 ∷ Some 0 ∷ Some 0 ∷ []) 4 (first_level 4 (
    array_of 1 (0 ∷ 1 ∷ 2 ∷ 3 ∷ [])
    (says 97 0 49 ∷ says 98 1 49 ∷ says 99 2 49 ∷ says 100 3 49 ∷ []) 4 4 1 ∷ []))

-- e: of three entries one is a lead
abbrev pub mostly_copies : State
mostly_copies = with_empty_journal (None ∷ Some 0 ∷ []) 3 (first_level 2 (
    array_of 1 (0 ∷ []) (says 97 0 49 ∷ says 98 0 49 ∷ []) 2 2 2
    ∷ array_of 2 (1 ∷ []) (says 97 0 49 ∷ says 98 0 49 ∷ says 99 1 49 ∷ []) 3 1 3 ∷ []))

-- f: an entry that is no lead of the level
abbrev pub stray_entry : State
stray_entry = with_empty_journal (None ∷ Some 0 ∷ []) 2 (first_level 2 (
    array_of 1 (0 ∷ []) (says 97 0 49 ∷ []) 1 1 1
    ∷ array_of 2 (1 ∷ []) (says 97 1 50 ∷ says 97 0 57 ∷ []) 2 1 1 ∷ []))

-- g: a has two values at version 0
abbrev pub two_values : State
two_values =
    with_empty_journal (None ∷ []) 2
    (first_level 1 (array_of 1 (0 ∷ []) (says 97 0 49 ∷ says 97 0 50 ∷ []) 2 2 2 ∷ []))

-- h: nine leads where there is room for eight
abbrev pub overfull_level : State
overfull_level = with_empty_journal (None ∷ []) 9 (first_level 1 (array_of 1 (0 ∷ []) (
    says 97 0 49 ∷ says 98 0 49 ∷ says 99 0 49 ∷ says 100 0 49 ∷ says 101 0 49
    ∷ says 102 0 49 ∷ says 103 0 49 ∷ says 104 0 49 ∷ says 105 0 49 ∷ []) 9 9 9 ∷ []))

-- i: a horizon past the versions
abbrev pub early_horizon : State
early_horizon =
    with_empty_journal (None ∷ []) 1
    (first_level 2 (array_of 1 (0 ∷ []) (says 97 0 49 ∷ []) 1 1 1 ∷ []))

-- j: version 0 has a child below the horizon of level 2, and a lead in level 1
abbrev pub lead_above_frozen : State
lead_above_frozen = with_empty_journal (None ∷ Some 0 ∷ []) 2 (
    record {
      number = 1;
      horizon = 2;
      arrays = array_of 2 (0 ∷ 1 ∷ []) (says 98 0 49 ∷ []) 1 1 1 ∷ [];
    }
    ∷ record {
      number = 2;
      horizon = 2;
      arrays = array_of 1 (0 ∷ 1 ∷ []) (says 97 0 49 ∷ []) 1 1 1 ∷ [];
    } ∷ [])

-- k: the descriptor of an array gives it one entry more
abbrev pub wrong_descriptor : State
wrong_descriptor = record fan {
  levels = first_level 4 (
      array_of 1 (0 ∷ 1 ∷ []) (says 97 0 49 ∷ says 98 0 49 ∷ says 99 1 49 ∷ []) 4 3 2
      ∷ array_of 2 (2 ∷ 3 ∷ [])
      (says 97 0 49 ∷ says 98 0 49 ∷ says 99 3 51 ∷ says 99 2 50 ∷ []) 4 2 3 ∷ []);
}

-- l: two leads of one update
abbrev pub more_leads_than_updates : State
more_leads_than_updates =
    with_empty_journal (None ∷ []) 1
    (first_level 1 (array_of 1 (0 ∷ []) (says 97 0 49 ∷ says 98 0 49 ∷ []) 2 2 2 ∷ []))

-- m: b stands before a
abbrev pub unordered_entries : State
unordered_entries =
    with_empty_journal (None ∷ []) 2
    (first_level 1 (array_of 1 (0 ∷ []) (says 98 0 49 ∷ says 97 0 49 ∷ []) 2 2 2 ∷ []))
