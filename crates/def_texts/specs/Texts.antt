-- The texts that the program prints of a store.
use Rattle.std.specs.Prelude.{◌<◌, ◌≤◌, ℕ, suc, ◌+◌, ◌-◌, ◌*◌, ◌==◌, nat_lt, ◌&&◌, not, Bool, true, if◌then◌else◌, List, [], ◌∷◌, ◌++◌, length, map, flat_map, sum_by, Option, Some, None, codes}
use Rattle.std.specs.Fmt.{decimal}
use Rattle.std.specs.List.{range_with_len}
use Rattle.strat_base.specs.declared.descriptors.ArrayDesc.{ArrayDesc}
use Rattle.strat_base.specs.declared.descriptors.LevelDesc.{LevelDesc}
use Rattle.def_state.specs.Breach.{Breach}
use Rattle.def_recovery.specs.Head.{Head, head_versions, journal_count, head_changes, head_updates, descriptors, head_stored}

-- lines, each with a line feed at its end
abbrev pub text : List (List ℕ) → List ℕ
text lines = flat_map (λ line. line ++ 10 ∷ []) lines

-- pieces of a line
abbrev pub joined : List (List ℕ) → List ℕ
joined pieces = flat_map (λ piece. piece) pieces

-- a part and the whole that it is of
abbrev pub fraction : ℕ → ℕ → List ℕ
fraction part whole = joined (decimal part ∷ codes "/" ∷ decimal whole ∷ [])

-- runs, each by its first number and its length, with a number before them that may join the first
abbrev pub run_from : ℕ → List (ℕ × ℕ) → List (ℕ × ℕ)
run_from v [] = (v, 1) ∷ []
run_from v (run ∷ runs) = if run.0 == v + 1 then (v, suc run.1) ∷ runs else (v, 1) ∷ run ∷ runs

-- the longest runs of following numbers in a list
abbrev pub runs_of : List ℕ → List (ℕ × ℕ)
runs_of [] = []
runs_of (v ∷ vs) = run_from v (runs_of vs)

-- the numbers of a run
abbrev pub numbers_of : ℕ × ℕ → List ℕ
numbers_of run = range_with_len run.0 run.1

-- no run begins where the one before it ends
abbrev pub are_separate : List (ℕ × ℕ) → Bool
are_separate [] = true
are_separate (run ∷ []) = true
are_separate (run ∷ next ∷ runs) = not (next.0 == run.0 + run.1) && are_separate (next ∷ runs)

-- a run has a number
abbrev pub has_number : ℕ × ℕ → Bool
has_number run = nat_lt 0 run.1

-- a run: its number, or its first and its last
abbrev pub run_text : ℕ × ℕ → List ℕ
run_text run =
    if run.1 == 1 then decimal run.0
    else joined (decimal run.0 ∷ codes "-" ∷ decimal (run.0 + run.1 - 1) ∷ [])

-- texts with commas between them
abbrev pub with_commas : List (List ℕ) → List ℕ
with_commas [] = []
with_commas (piece ∷ pieces) = piece ++ flat_map (λ other. codes "," ++ other) pieces

-- a list of versions
abbrev pub versions_text : List ℕ → List ℕ
versions_text versions = with_commas (map run_text (runs_of versions))

-- what a new store is for
abbrev pub format_line : ℕ → ℕ → ℕ → List ℕ
format_line mem changes_max versions_max = joined (
    codes "format 2 mem " ∷ decimal mem ∷ codes " changes " ∷ decimal changes_max
    ∷ codes " versions " ∷ decimal versions_max ∷ [])

-- the store: its generation, its limits, and how far they are reached
abbrev pub store_line : Head → List ℕ
store_line h = joined (
    codes "store generation " ∷ decimal h.sb.generation ∷ codes " mem " ∷ decimal h.sb.mem
    ∷ codes " changes " ∷ decimal (head_changes h) ∷ codes " of " ∷ decimal h.sb.changes_max
    ∷ codes " versions " ∷ decimal (length (head_versions h))
    ∷ codes " of " ∷ decimal h.sb.versions_max ∷ [])

-- the journal: how many changes it has, and how many of them are updates
abbrev pub journal_line : Head → List ℕ
journal_line h = joined (
    codes "journal changes " ∷ decimal (length h.journal)
    ∷ codes " updates " ∷ decimal (journal_count h) ∷ [])

-- an array: its density, its lead fraction and its versions
abbrev pub array_line : ArrayDesc → List ℕ
array_line a = joined (
    codes "array " ∷ decimal a.id ∷ codes " density " ∷ fraction a.least a.entries
    ∷ codes " lead " ∷ fraction a.leads a.entries
    ∷ codes " versions " ∷ versions_text a.versions ∷ [])

-- a level: its horizon, and the leads and entries of all its arrays
abbrev pub level_line : LevelDesc → List ℕ
level_line level = joined (
    codes "level " ∷ decimal level.number ∷ codes " horizon " ∷ decimal level.horizon
    ∷ codes " leads " ∷ decimal (sum_by (λ a. a.leads) level.arrays)
    ∷ codes " entries " ∷ decimal (sum_by (λ a. a.entries) level.arrays) ∷ [])

-- a level, and after it its arrays
abbrev pub level_lines : LevelDesc → List (List ℕ)
level_lines level = level_line level ∷ map array_line level.arrays

-- what is stored, for how many updates, and what was written into arrays so far
abbrev pub stored_line : Head → List ℕ
stored_line h = joined (
    codes "stored " ∷ decimal (head_stored h) ∷ codes " updates " ∷ decimal (head_updates h)
    ∷ codes " written " ∷ decimal h.manifest.written ∷ [])

-- a report of a store: its limits, its journal, its levels with their arrays, and what it stores
abbrev pub report : Head → List (List ℕ)
report h =
    store_line h ∷ journal_line h ∷ flat_map level_lines h.manifest.levels ++ stored_line h ∷ []

-- an array is less dense than another
abbrev pub IsSparser : ArrayDesc → ArrayDesc → Type 0
IsSparser a b = a.least * b.entries < b.least * a.entries

-- an array is no denser than another
abbrev pub IsNoDenser : ArrayDesc → ArrayDesc → Type 0
IsNoDenser a b = a.least * b.entries ≤ b.least * a.entries

-- of an array and the sparsest of those after it the sparser, the first of equal ones
abbrev pub sparser : ArrayDesc → Option ArrayDesc → ArrayDesc
sparser a None = a
sparser a (Some b) = if nat_lt (b.least * a.entries) (a.least * b.entries) then b else a

-- the first array whose density is least
abbrev pub sparsest : List ArrayDesc → Option ArrayDesc
sparsest [] = None
sparsest (a ∷ arrays) = Some (sparser a (sparsest arrays))

-- the least density, if there is an array
abbrev pub density_line : Option ArrayDesc → List ℕ
density_line None = codes "density none"
density_line (Some a) = codes "density " ++ fraction a.least a.entries

-- a summary of a workload: its arguments, versions and changes, levels and what they store, and the
-- least density
abbrev pub summary : Head → ℕ → ℕ → List (List ℕ)
summary h seed count =
    joined (codes "workload seed " ∷ decimal seed ∷ codes " changes " ∷ decimal count ∷ [])
    ∷ joined (
    codes "versions " ∷ decimal (length (head_versions h))
    ∷ codes " updates " ∷ decimal (head_updates h)
    ∷ codes " clones " ∷ decimal (head_changes h - head_updates h) ∷ [])
    ∷ joined (
    codes "levels " ∷ decimal (length h.manifest.levels)
    ∷ codes " arrays " ∷ decimal (length (descriptors h.manifest))
    ∷ codes " stored " ∷ decimal (head_stored h)
    ∷ codes " written " ∷ decimal h.manifest.written ∷ [])
    ∷ density_line (sparsest (descriptors h.manifest))
    ∷ []

-- a rule that is broken, by its letter, with the level and the array that break it
abbrev pub breach_line : Breach → List ℕ
breach_line b = joined (
    codes "unsound " ∷ (b.rule ∷ []) ∷ codes " level " ∷ decimal b.level
    ∷ codes " array " ∷ decimal b.array ∷ [])

-- a block that is damaged
abbrev pub damaged_line : ℕ → List ℕ
damaged_line block = codes "damaged block " ++ decimal block

-- what a check says of a state with these breaches: the first of them, or that it is sound
abbrev pub check_line : List Breach → List ℕ
check_line [] = codes "sound"
check_line (b ∷ breaches) = breach_line b
