-- What a merge gives next.
use Rattle.std.specs.Prelude.{◌≡◌, ◌<◌, ◌≤◌, ℕ, ◌+◌, ◌-◌, ◌^◌, ◌==◌, nat_le, nat_lt, not, Bool, false, if◌then◌else◌, min, List, [], ◌∷◌, ◌++◌, length, map, find, slice_get, slice_set, Option, Some, IsTrue}
use Rattle.std.specs.List.{list_all}
use Rattle.std.specs.Option.{option_map_or, option_or}
use Rattle.std.specs.Ordering.{is_lt, is_gt}
use Rattle.strat_base.specs.Order.{key_cmp, entry_cmp}
use Rattle.strat_base.specs.Entries.{Entry, is_of, is_at, is_ascending}
use Rattle.strat_base.specs.EntryBytes.{fits_fields}
use Rattle.strat_arena.specs.ArenaView.{KeyValue}
use Rattle.strat_arena.specs.declared.items.Item.{Item}
use Rattle.def_crash.specs.Moments.{DiskView}
use Rattle.strat_live.specs.Group.{is_descending}
use Rattle.strat_live.specs.Counting.{are_below}
use Rattle.def_split.specs.Groups.{grouped_entries}
use Rattle.def_promote.specs.Merging.{IsNext, rest_of}
use Rattle.strat_merge.specs.Runs.{RunView, head_at, Advances}
use Rattle.strat_merge.specs.Bracket.{is_ahead}
use Rattle.strat_arena.specs.Items.{entries_of, have_pairs}

-- the versions of all runs are below a number
abbrev pub are_under : ℕ → List RunView → Bool
are_under n runs = list_all (λ run. nat_le run.versions n) runs

-- a group of a key that some run has left, on whatever disk: no run begins before the key, and afterwards each begins
-- behind it
pub record IsGroup (old new : List RunView) (pairs : List KeyValue) (items : List Item)
    (key : List ℕ) : Type 0 where
  pub some : 0 < length items
  pub alone : length pairs ≡ length items
  pub slots : IsTrue (have_pairs pairs items)
  pub descending : IsTrue (is_descending items)
  pub keyed : IsTrue (list_all (is_of key) (entries_of pairs items))
  pub lawful : IsTrue (list_all fits_fields (entries_of pairs items))
  pub low : (n : ℕ) → IsTrue (are_under n old) → IsTrue (are_below n items)
  pub bound : (n : ℕ) → IsTrue (are_under n old) → IsTrue (are_under n new)
  pub begins : (i : ℕ) × ((e : Entry) × (head_at old i ≡ Some e) × (e.key ≡ key))
  pub least : (i : ℕ) (e : Entry) → head_at old i ≡ Some e → is_gt (key_cmp key e.key) ≡ false
  pub behind : (i : ℕ) (e : Entry) → head_at new i ≡ Some e → IsTrue (is_lt (key_cmp key e.key))

-- of these runs a group is taken, and the others are left
abbrev pub TakesNext : List (List Entry) → List (List Entry) → List Entry → Type 0
TakesNext old new group =
    (key : List ℕ) × (IsNext old key group × (new ≡ map (rest_of key) old))

-- a count rose by how many entries were taken, up to its type's last value
pub record CountsTaken (old new : List (List Entry)) (before now : ℕ) : Type 0 where
  pub fewer : length (grouped_entries new) ≤ length (grouped_entries old)
  pub counted : now
      ≡ min (before + (length (grouped_entries old) - length (grouped_entries new))) (2 ^ 64 - 1)

-- the last of some entries
abbrev pub last_entry : List Entry → Option Entry
last_entry entries = slice_get entries (length entries - 1)

-- entries with one more, unless the last has its version
abbrev pub with_next : List Entry → Entry → List Entry
with_next entries e =
    if option_map_or (λ last. last.version == e.version) (last_entry entries) false
    then entries else entries ++ e ∷ []

-- a run has an entry, and no run is ahead of it
pub record Leads (runs : List RunView) (w : ℕ) (e : Entry) : Type 0 where
  pub head : head_at runs w ≡ Some e
  pub first : (i : ℕ) → is_ahead (head_at runs i) i (head_at runs w) w ≡ false

-- a run whose first entry has another key is not behind any that has an entry
abbrev pub LeadsAside : List RunView → List ℕ → Type 0
LeadsAside runs key =
    (i : ℕ) (e : Entry) → head_at runs i ≡ Some e
    → (w : ℕ) × ((f : Entry) × (is_of key f ≡ false) × Leads runs w f)

-- one run passed over its first entry
pub record PassesOne (disk : DiskView) (old new : List RunView) (w : ℕ) : Type 0 where
  pub before : RunView
  pub after : RunView
  pub there : slice_get old w ≡ Some before
  pub others : new ≡ slice_set old w after
  pub step : Advances disk before after

-- entries of a key that were gathered from runs, whatever disk they lie on
pub record AreGathered (old now : List RunView) (key : List ℕ) (entries : List Entry) : Type 0 where
  pub keyed : IsTrue (list_all (is_of key) entries)
  pub ascending : IsTrue (is_ascending entries)
  pub lawful : IsTrue (list_all fits_fields entries)
  pub low : (n : ℕ) → IsTrue (are_under n old)
      → IsTrue (list_all (λ e. nat_lt e.version n) entries)
  pub bound : (n : ℕ) → IsTrue (are_under n old) → IsTrue (are_under n now)
  pub least : (i : ℕ) (e : Entry) → head_at old i ≡ Some e → is_gt (key_cmp key e.key) ≡ false
  pub further : (i : ℕ) (e : Entry) → head_at now i ≡ Some e → is_gt (key_cmp key e.key) ≡ false
  pub behind : (i : ℕ) (e : Entry) → head_at now i ≡ Some e → IsTrue
      (list_all (λ d. not (is_gt (entry_cmp d.key d.version e.key e.version))) entries)

-- the same on the content of the disk: what is left beside the key, and what is said of it, are as before
pub record Gathers (old now : List (List Entry)) (key : List ℕ)
    (entries : List Entry) : Type 0 where
  pub rest : map (rest_of key) now ≡ map (rest_of key) old
  pub newest : (u : ℕ)
      → option_or (find (is_at key u) entries) (find (is_at key u) (grouped_entries now))
      ≡ find (is_at key u) (grouped_entries old)
