-- What a look-up goes through, whatever levels and arrays are made of.
use Rattle.std.specs.Prelude.{ℕ, Bool, if◌then◌else◌, List, [], ◌∷◌, ◌++◌, find, filter_map, Option, None, option_map}
use Rattle.std.specs.Option.{option_or}
use Rattle.strat_base.specs.Tree.{Parents, below}
use Rattle.strat_base.specs.Entries.{Entry, is_tagged}
use Rattle.def_state.specs.Level.{TaggedArray, Level}
use Rattle.def_state.specs.Reading.{live_of}

-- how levels and arrays are read: a level has a horizon and arrays, an array has a tag, and who asks
-- it for a key is shown entries
pub record Reading (L A : Type 0) : Type 0 where
  pub horizon : L → ℕ
  pub arrays : L → List A
  pub tag : A → List ℕ
  pub shown : A → List ℕ → List Entry

-- the array of a level that is asked at a version: its tag holds the version, or else its nearest
-- ancestor, below the horizon
abbrev pub array_asked : {L A : Type 0} → Reading L A → Parents → L → ℕ → Option A
array_asked reading parents level v =
    find (λ a. is_tagged (reading.tag a) (below parents v (reading.horizon level)))
    (reading.arrays level)

-- where a key is looked up at a version: in the lists of level 0, the newest first, and then in one
-- array of each level that has one for the version, the shallowest first
abbrev pub places : {L A : Type 0}
    → Reading L A → Parents → List (List Entry) → List L → ℕ → List ℕ → List (List Entry)
places reading parents zeros levels v key =
    zeros
    ++ filter_map
    (λ level. option_map (λ a. reading.shown a key) (array_asked reading parents level v))
    levels

-- the entry of a key that is live at a version in the first of these places with one
abbrev pub first_live : Parents → List (List Entry) → ℕ → List ℕ → Option Entry
first_live parents [] v key = None
first_live parents (entries ∷ later) v key =
    option_or (live_of parents entries v key) (first_live parents later v key)

-- the entry that a look-up finds
abbrev pub looked_up : {L A : Type 0}
    → Reading L A → Parents → List (List Entry) → List L → ℕ → List ℕ → Option Entry
looked_up reading parents zeros levels v key =
    first_live parents (places reading parents zeros levels v key) v key

-- the levels of a state, with all that their arrays hold
abbrev pub of_state : Reading Level TaggedArray
of_state = record {
  horizon = λ level. level.horizon;
  arrays = λ level. level.arrays;
  tag = λ a. a.tag;
  shown = λ a key. a.content;
}

-- levels that are read so, where an array is skipped unless it may hold the key
abbrev pub filtered : {L A : Type 0} → (A → List ℕ → Bool) → Reading L A → Reading L A
filtered may_hold reading =
    record reading { shown = λ a key. if may_hold a key then reading.shown a key else [] }
