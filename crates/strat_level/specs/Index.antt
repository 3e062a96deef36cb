-- An index over versions: at each version the number of the array that is for it.
use Rattle.std.specs.Prelude.{◌≡◌, ℕ, ◌<◌, if◌then◌else◌, true, List, Option, Some, None, option_and_then, IfSome, IsSome, is_some, slice_index_or, length}
use Rattle.std.specs.List.{find, slice_get}
use Rattle.strat_base.specs.Entries.{is_tagged}
use Rattle.strat_base.specs.declared.descriptors.ArrayDesc.{ArrayDesc}
use Rattle.strat_level.specs.Levels.{is_for, arrays_for}
use Rattle.strat_level.specs.declared.index.LevelFault.{LevelFault}
use Rattle.strat_level.specs.declared.index.LevelFault.TheVariants.{Overlap, NoMemory}

-- the number at a version, if there is one
abbrev pub slot : List (Option ℕ) → ℕ → Option ℕ
slot index v = slice_index_or index v None

-- all numbers of an index are below this one
abbrev pub AreSlotsBelow : List (Option ℕ) → ℕ → Type 0
AreSlotsBelow index n = (v : ℕ) → IfSome (slot index v) (λ i. i < n)

-- an index of these arrays: it names the array for a version where there is one, which is the only one
pub record IsIndexOf (index : List (Option ℕ)) (arrays : List ArrayDesc) : Type 0 where
  pub within : AreSlotsBelow index (length arrays)
  pub named : (v : ℕ)
      → option_and_then (λ i. slice_get arrays i) (slot index v) ≡ find (is_for v) arrays
  pub counted : (v : ℕ) → arrays_for arrays v ≡ (if is_some (slot index v) then 1 else 0)

-- an index after a number was put at each version of a tag, where no other number stood
pub record IsTagAdded (before after : List (Option ℕ)) (number : ℕ) (tag : List ℕ) : Type 0 where
  pub slots : (v : ℕ) → slot after v ≡ (if is_tagged tag v then Some number else slot before v)
  pub free : (v : ℕ) → is_tagged tag v ≡ true → slot before v ≡ None

-- where a fault names a version, this holds of it
abbrev pub IfOverlap : LevelFault → (ℕ → Type 0) → Type 0
IfOverlap NoMemory P = Unit {0}
IfOverlap (Overlap v) P = P v

-- a version of a tag has a number already
abbrev pub IsTaken : List (Option ℕ) → List ℕ → ℕ → Type 0
IsTaken index tag v = (is_tagged tag v ≡ true) × IsSome (slot index v)
