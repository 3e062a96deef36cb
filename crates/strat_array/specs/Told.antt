-- What is found of a key at a version, and how it is told.
use Rattle.std.specs.Prelude.{◌≡◌, ℕ, ◌+◌, true, false, List, [], ◌∷◌, ◌++◌, length, Option, Some, None}
use Rattle.strat_base.specs.Entries.{Entry, is_of}
use Rattle.strat_base.specs.Tree.{Parents}
use Rattle.strat_array.specs.Walk.{is_seen_at}
use Rattle.strat_array.specs.declared.seen.Seen.{Seen}
use Rattle.strat_array.specs.declared.seen.Seen.TheVariants as seen

-- pairs of key and value
abbrev pub TheirPairs : Type 0
TheirPairs = List (List ℕ × List ℕ)

-- what an entry says is told, and the pair of a value is added
abbrev pub Tells : Entry → TheirPairs → TheirPairs → Seen → Type 0
Tells e old new seen.Put =
    (value : List ℕ) × (e.value ≡ Some value) × (new ≡ old ++ (e.key, value) ∷ [])
Tells e old new seen.Gone = (e.value ≡ None) × (new ≡ old)
Tells e old new seen.None = ⊥

-- what an entry that was found says is told, or that there is none
abbrev pub TellsFound : Option Entry → List ℕ → TheirPairs → TheirPairs → Seen → Type 0
TellsFound found key old new seen.Put =
    (e : Entry) × (value : List ℕ) × (found ≡ Some e) × (e.value ≡ Some value)
    × (new ≡ old ++ (key, value) ∷ [])
TellsFound found key old new seen.Gone =
    (e : Entry) × (found ≡ Some e) × (e.value ≡ None) × (new ≡ old)
TellsFound found key old new seen.None = (found ≡ None) × (new ≡ old)

-- an entry decides a key at a version, or is of another key, or leaves it to those behind it
abbrev pub Judges : Parents → List ℕ → ℕ → Entry → TheirPairs → TheirPairs → Option Seen → Type 0
Judges parents key v e old new None = (is_seen_at parents key v e ≡ false) × (new ≡ old)
Judges parents key v e old new (Some seen.None) = (is_of key e ≡ false) × (new ≡ old)
Judges parents key v e old new (Some seen.Gone) =
    (is_seen_at parents key v e ≡ true) × Tells e old new seen.Gone
Judges parents key v e old new (Some seen.Put) =
    (is_seen_at parents key v e ≡ true) × Tells e old new seen.Put

-- an answer added a pair where it found a value, and else none
abbrev pub AddsPair : TheirPairs → TheirPairs → Seen → Type 0
AddsPair old new seen.Put = length new ≡ length old + 1
AddsPair old new seen.Gone = new ≡ old
AddsPair old new seen.None = new ≡ old
