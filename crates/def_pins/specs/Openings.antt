-- A state that meets each bound of an opening exactly, and arrays that pass none.
use Rattle.std.specs.Prelude.{ℕ, List, [], ◌∷◌}
use Rattle.strat_base.specs.Samples.{says}
use Rattle.def_state.specs.Level.{TaggedArray}
use Rattle.def_state.specs.State.{State}
use Rattle.def_state.specs.Worked.{array_of, first_level, chain}

-- the chain with its limits, updates, entries written and compacted, and number of arrays at their most
abbrev pub filled_chain : State
filled_chain = record chain {
  changes_max = 5;
  versions_max = 4;
  updates = 4;
  written = 134217728;
  compacted = 134217728;
  next_array = 65537;
}

-- the same with these arrays in level 1, at a horizon
abbrev pub chain_with : ℕ → List TaggedArray → State
chain_with horizon arrays = record filled_chain { levels = first_level horizon arrays }

-- the chain's array
abbrev pub chained_array : TaggedArray
chained_array = array_of 1 (1 ∷ 2 ∷ 3 ∷ []) (says 97 1 49 ∷ []) 1 1 1
