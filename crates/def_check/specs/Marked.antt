-- Runs that are merged with all of their entries: each entry is marked with the place of its run.
use Rattle.std.specs.Prelude.{ℕ, suc, ◌+◌, ◌*◌, ◌/◌, ◌%◌, ◌==◌, nat_lt, Bool, List, [], ◌∷◌, map, filter, slice_index_or}
use Rattle.strat_base.specs.Entries.{Entry, is_tagged}
use Rattle.def_state.specs.Level.{TaggedArray}
use Rattle.def_split.specs.Groups.{grouped_entries}

-- an entry of the run at a place: behind its version stands the place
abbrev pub marked : ℕ → Entry → Entry
marked i e = record e { version = e.version * 16384 + i }

-- an entry without the place of its run
abbrev pub unmarked : Entry → Entry
unmarked e = record e { version = e.version / 16384 }

-- the entry is of the run at a place
abbrev pub is_from_run : ℕ → Entry → Bool
is_from_run i e = (e.version % 16384) == i

-- runs from a place on, their entries marked
abbrev pub marked_runs : ℕ → List (List Entry) → List (List Entry)
marked_runs i [] = []
marked_runs i (run ∷ runs) = map (marked i) run ∷ marked_runs (suc i) runs

-- the entries of the run at a place, as a merge of marked runs gives them
abbrev pub told_of_run : ℕ → List (List Entry) → List Entry
told_of_run i groups = map unmarked (filter (is_from_run i) (grouped_entries groups))

-- a marked entry is a lead: its version is in the tag at the place of its run
abbrev pub is_marked_lead : List (List ℕ) → Entry → Bool
is_marked_lead tags e = is_tagged (slice_index_or tags (e.version % 16384) []) (e.version / 16384)

-- the leads of groups of marked entries, without their marks
abbrev pub leads_of_marked : List (List ℕ) → List (List Entry) → List (List Entry)
leads_of_marked tags groups =
    map (λ group. map unmarked (filter (is_marked_lead tags) group)) groups

-- an array without its entries of versions at or past a number
abbrev pub kept_below : ℕ → TaggedArray → TaggedArray
kept_below n a = record a { content = filter (λ e. nat_lt e.version n) a.content }
