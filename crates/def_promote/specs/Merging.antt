-- Runs of entries are merged key by key, the newest run first.
use Rattle.std.specs.Prelude.{◌≡◌, ◌<◌, ℕ, ◌||◌, not, List, [], ◌∷◌, length, map, filter, find, flat_map, IsTrue}
use Rattle.std.specs.List.{list_all}
use Rattle.std.specs.Ordering.{is_lt}
use Rattle.strat_base.specs.Order.{key_cmp}
use Rattle.strat_base.specs.Entries.{Entry, is_of, is_at, is_ascending}
use Rattle.def_state.specs.Level.{Level, own_leads}
use Rattle.def_state.specs.Setting.{set_all}
use Rattle.def_state.specs.State.{State, journal_updates}
use Rattle.def_split.specs.Groups.{grouped_entries}

-- what a promotion merges: the journal's updates in order, and then the leads of each array
abbrev pub runs_taken : State → List Level → List (List Entry)
runs_taken s taken =
    set_all (journal_updates s) ∷ flat_map (λ level. map own_leads level.arrays) taken

-- a run without the entries of a key
abbrev pub rest_of : List ℕ → List Entry → List Entry
rest_of key run = filter (λ e. not (is_of key e)) run

-- the group of the least key of some runs: for each version the entry of the first run with one
pub record IsNext (runs : List (List Entry)) (key : List ℕ) (group : List Entry) : Type 0 where
  pub some : 0 < length group
  pub keyed : IsTrue (list_all (is_of key) group)
  pub ascending : IsTrue (is_ascending group)
  pub newest : (u : ℕ) → find (is_at key u) group ≡ find (is_at key u) (grouped_entries runs)
  pub least : IsTrue
      (list_all (λ e. is_of key e || is_lt (key_cmp key e.key)) (grouped_entries runs))

-- the groups that runs give one after another, and the runs that are left
abbrev pub MergesTo : List (List Entry) → List (List Entry) → List (List Entry) → Type 0
MergesTo runs [] left = left ≡ runs
MergesTo runs (group ∷ groups) left =
    (key : List ℕ) × IsNext runs key group × MergesTo (map (rest_of key) runs) groups left

-- the groups that runs give until nothing is left
abbrev pub Merges : List (List Entry) → List (List Entry) → Type 0
Merges runs groups =
    (left : List (List Entry)) × MergesTo runs groups left × (grouped_entries left ≡ [])
