-- An array's entries that are gone through one after another: the versions of each key.
use Rattle.std.specs.Prelude.{◌≡◌, ℕ, nat_lt, if◌then◌else◌, List, [], ◌∷◌, ◌++◌, Some, IsTrue}
use Rattle.std.specs.List.{list_all}
use Rattle.strat_base.specs.Entries.{Entry, is_of}
use Rattle.strat_base.specs.Order.{descends}
use Rattle.strat_base.specs.Tree.{Parents}
use Rattle.strat_check.specs.MarkedRuns.{unmarked_seen}
use Rattle.strat_check.specs.Sightings.{Sightings, IsSighting}
use Rattle.strat_check.specs.declared.key_walk.KeyVersions.{KeyVersions}
use Rattle.strat_check.specs.declared.marked_run.MarkedRun.{MarkedRun}

-- the versions of a key, if there are any
abbrev pub gathered : List ℕ → List (List ℕ)
gathered [] = []
gathered (v ∷ versions) = (v ∷ versions) ∷ []

-- the versions of each key of entries, behind those of a key at hand, to which its own entries are added
unfoldable pub versions_behind : List ℕ → List ℕ → List Entry → List (List ℕ)
versions_behind key versions [] = gathered versions
versions_behind key versions (e ∷ entries) =
    if is_of key e
    then versions_behind key (versions ++ e.version ∷ []) entries
    else gathered versions ++ versions_behind e.key (e.version ∷ []) entries

-- the versions at hand descend, and are below n
pub record AreVersions (n : ℕ) (g : KeyVersions) : Type 0 where
  pub descending : IsTrue (descends g.versions.items)
  pub low : IsTrue (list_all (λ v. nat_lt v n) g.versions.items)

-- an entry of the key at hand is of a version below those at hand
abbrev pub MayJoin : Entry → KeyVersions → Type 0
MayJoin e g =
    IsTrue (is_of g.key.items e) → IsTrue (list_all (λ v. nat_lt e.version v) g.versions.items)

-- a run of versions below n, and a key at hand of which it goes on
pub record IsAtHand (n : ℕ) (run : MarkedRun) (g : KeyVersions) : Type 0 where
  pub bound : (unmarked_seen run).versions ≡ n
  pub are : AreVersions n g
  pub next : (d : Entry) → (unmarked_seen run).first ≡ Some d → MayJoin d g

-- some groups of versions were added to sights; with the key at hand and the entries that are left, they are all
pub record IsWalking (parents : Parents) (all : List (List ℕ)) (left : List Entry)
    (g : KeyVersions) (s : Sightings) : Type 0 where
  pub done : List (List ℕ)
  pub whole : done ++ versions_behind g.key.items g.versions.items left ≡ all
  pub sighted : IsSighting parents done s
