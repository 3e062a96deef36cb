-- States written out, as a store leaves them.
use Rattle.std.specs.Prelude.{ℕ, false, List, [], ◌∷◌, replicate, Some, None}
use Rattle.strat_base.specs.Entries.{Entry}
use Rattle.strat_base.specs.Samples.{says, gone}
use Rattle.strat_base.specs.Change.{Put, DropVersion}
use Rattle.def_state.specs.Level.{TaggedArray, Level}
use Rattle.def_state.specs.State.{State}

-- an array with these numbers in its descriptor
abbrev pub array_of : ℕ → List ℕ → List Entry → ℕ → ℕ → ℕ → TaggedArray
array_of id tag content entries leads least =
    record {
      id = id;
      tag = tag;
      content = content;
      entries = entries;
      leads = leads;
      least = least;
    }

-- one level, level 1
abbrev pub first_level : ℕ → List TaggedArray → List Level
first_level horizon arrays = record { number = 1; horizon = horizon; arrays = arrays } ∷ []

-- four changes at most: clone 0, put a at 1, clone 1 and clone 2, published; then put b at 3
abbrev pub chain : State
chain = record {
  mem = 4;
  changes_max = 100;
  versions_max = 10;
  parents = None ∷ Some 0 ∷ Some 1 ∷ Some 2 ∷ [];
  marks = replicate 4 false;
  changes = 4;
  updates = 1;
  written = 1;
  compacted = 0;
  next_array = 2;
  levels = first_level 4 (array_of 1 (1 ∷ 2 ∷ 3 ∷ []) (says 97 1 49 ∷ []) 1 1 1 ∷ []);
  journal = Put 3 (98 ∷ []) (49 ∷ []) ∷ [];
}

-- eight changes at most: put a and b at 0, clone 0 three times and put c at each child, published;
-- then put d at 1
abbrev pub fan : State
fan = record {
  mem = 8;
  changes_max = 100;
  versions_max = 10;
  parents = None ∷ Some 0 ∷ Some 0 ∷ Some 0 ∷ [];
  marks = replicate 4 false;
  changes = 8;
  updates = 5;
  written = 7;
  compacted = 0;
  next_array = 3;
  levels = first_level 4 (
      array_of 1 (0 ∷ 1 ∷ []) (says 97 0 49 ∷ says 98 0 49 ∷ says 99 1 49 ∷ []) 3 3 2
      ∷ array_of 2 (2 ∷ 3 ∷ [])
      (says 97 0 49 ∷ says 98 0 49 ∷ says 99 3 51 ∷ says 99 2 50 ∷ []) 4 2 3
      ∷ []);
  journal = Put 1 (100 ∷ []) (49 ∷ []) ∷ [];
}

-- a at version 0, and b, c and d at its child
abbrev pub child_with_more : State
child_with_more = record {
  mem = 8;
  changes_max = 100;
  versions_max = 10;
  parents = None ∷ Some 0 ∷ [];
  marks = replicate 2 false;
  changes = 5;
  updates = 4;
  written = 5;
  compacted = 0;
  next_array = 3;
  levels = first_level 2 (
      array_of 1 (0 ∷ []) (says 97 0 49 ∷ []) 1 1 1
      ∷ array_of 2 (1 ∷ []) (says 97 0 49 ∷ says 98 1 49 ∷ says 99 1 49 ∷ says 100 1 49 ∷ []) 4 3 4
      ∷ []);
  journal = [];
}

-- four changes at most: put a at 0, clone 0, delete a at 1 and clone 1, published; then put z at 2
abbrev pub deleted_below : State
deleted_below = record {
  mem = 4;
  changes_max = 100;
  versions_max = 10;
  parents = None ∷ Some 0 ∷ Some 1 ∷ [];
  marks = replicate 3 false;
  changes = 4;
  updates = 2;
  written = 3;
  compacted = 0;
  next_array = 3;
  levels = first_level 3 (
      array_of 1 (0 ∷ []) (says 97 0 49 ∷ []) 1 1 1
      ∷ array_of 2 (1 ∷ 2 ∷ []) (gone 97 1 ∷ says 97 0 49 ∷ []) 2 1 1
      ∷ []);
  journal = Put 2 (122 ∷ []) (49 ∷ []) ∷ [];
}

-- a at version 0 above b at its child, which was dropped in the journal
abbrev pub lately_dropped : State
lately_dropped = record {
  mem = 4;
  changes_max = 100;
  versions_max = 10;
  parents = None ∷ Some 0 ∷ [];
  marks = replicate 2 false;
  changes = 8;
  updates = 5;
  written = 7;
  compacted = 0;
  next_array = 3;
  levels =
      record {
        number = 1;
        horizon = 2;
        arrays = array_of 1 (0 ∷ 1 ∷ []) (says 97 0 49 ∷ []) 1 1 1 ∷ [];
      }
      ∷ record {
        number = 2;
        horizon = 2;
        arrays = array_of 2 (1 ∷ []) (says 98 1 49 ∷ []) 1 1 1 ∷ [];
      }
      ∷ [];
  journal = DropVersion 1 ∷ [];
}
