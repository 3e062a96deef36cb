-- Runs over lists of entries.
use Rattle.std.specs.Prelude.{◌≡◌, ℕ, nat_lt, ◌&&◌, zero, suc, Bool, if◌then◌else◌, List, [], ◌∷◌, length, map, drop, slice_get, Some, None, IsTrue}
use Rattle.std.specs.List.{list_all}
use Rattle.std.specs.Ordering.{is_lt}
use Rattle.std.proofs.Common.{refl}
use Rattle.std.proofs.lemmas.Bool.{and_parts}
use Rattle.strat_base.specs.Order.{entry_cmp}
use Rattle.strat_base.specs.Entries.{Entry, is_ascending}
use Rattle.strat_base.specs.EntryBytes.{fits_fields}
use Rattle.strat_merge.specs.Gathered.{last_entry}
use Rattle.strat_merge.specs.Runs.{RunView, IsEntryRun}

-- entries in order, each lawful and of a version below a number
abbrev pub is_entry_list : ℕ → List Entry → Bool
is_entry_list versions entries =
    is_ascending entries
    && (list_all fits_fields entries && list_all (λ e. nat_lt e.version versions) entries)

-- an entry stands behind the last of others
abbrev pub IsBehind : List Entry → Entry → Type 0
IsBehind entries e = (last : Entry) → last_entry entries ≡ Some last
    → IsTrue (is_lt (entry_cmp last.key last.version e.key e.version))

-- a run over a list that passed some of its entries: each step reads its one block, which is bad where one of the
-- entries can't be passed
abbrev pub list_view : ℕ → ℕ → ℕ → ℕ → List Entry → RunView
list_view versions block good at entries = record {
  blocks = map (λ _. block) (drop at entries);
  versions = versions;
  first = slice_get (drop at entries) 0;
  left = λ _. drop at entries;
  misfit = λ _. if nat_lt good (length entries) then Some block else None;
}

-- what is left of entries in order is in order
pub ascending_left : (n : ℕ) (entries : List Entry) → IsTrue (is_ascending entries)
    → IsTrue (is_ascending (drop n entries))
ascending_left zero entries up = up
ascending_left (suc n) [] up = up
ascending_left (suc n) (e ∷ entries) up =
    ascending_left n entries
    (and_parts (list_all (λ d. is_lt (entry_cmp e.key e.version d.key d.version)) entries)
    (is_ascending entries) up).1

-- such a run is one
pub list_law : (versions block good at : ℕ) (entries : List Entry)
    → IsTrue (is_entry_list versions entries)
    → IsEntryRun (list_view versions block good at entries)
list_law versions block good at entries kept = record {
  ascending = λ _. ascending_left at entries (and_parts (is_ascending entries)
      (list_all fits_fields entries && list_all (λ e. nat_lt e.version versions) entries) kept).0;
  begins = λ _. refl;
  stays = λ _ _ _. refl;
  fits = λ _ _ _. refl;
}
