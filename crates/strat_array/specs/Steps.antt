-- Places of entries, as a walk over an array steps from one to the next.
use Rattle.std.specs.Prelude.{◌≡◌, ◌<◌, ℕ, ◌+◌, ◌-◌, if◌then◌else◌, is_some, ◌⊎◌, List, [], ◌∷◌, length, slice_index_or, Option, Some, None}
use Rattle.strat_base.specs.Entries.{Entry}
use Rattle.strat_array.specs.Kept.{Kept, held_block}
use Rattle.strat_array.specs.Left.{left_at}
use Rattle.strat_array.specs.declared.place.Place.{Place}

-- the entries from a place on
abbrev pub left_from : List (List Entry) → Place → List Entry
left_from lists place = left_at lists place.block place.index

-- a scratch holds the entry at a place
pub record HoldsPlace (s : Option Kept) (array : ℕ) (place : Place) : Type 0 where
  pub entries : List Entry
  pub held : held_block s array place.block ≡ Some entries
  pub within : place.index < length entries

-- a place is another one, or at the start of the block after it
abbrev pub IsNear : Place → Place → Type 0
IsNear old new =
    (new ≡ old) ⊎ ((new.block ≡ old.block + 1) × (new.index ≡ 0))

-- a place stands just behind another, or behind the first of the block after it
abbrev pub GoesOn : Place → Place → Type 0
GoesOn old new =
    ((new.block ≡ old.block) × (new.index ≡ old.index + 1))
    ⊎ ((new.block ≡ old.block + 1) × (new.index ≡ 1))

-- where the entries from a place on begin, if any are left
abbrev pub Settles : List (List Entry) → Place → Option Place → Type 0
Settles lists place None = left_from lists place ≡ []
Settles lists place (Some at) = left_from lists place ≡ left_from lists at

-- a place is that of an entry, or the end: past the last block
abbrev pub IsSettled : List (List Entry) → Place → Type 0
IsSettled lists place =
    (place.index < length (slice_index_or lists place.block []))
    ⊎ ((place.block ≡ length lists) × (place.index ≡ 0))

-- a step of a walk: the entry at a place and what is left behind it, or that nothing is left
abbrev pub Steps : List (List Entry) → Place → Option (Entry × Place) → Type 0
Steps lists place None = left_from lists place ≡ []
Steps lists place (Some x) = left_from lists place ≡ x.0 ∷ left_from lists x.1

-- how many blocks of an array, which has so many, a walk from a place on has still to read: not the one
-- that a scratch holds
abbrev pub blocks_ahead : Option Kept → ℕ → ℕ → Place → ℕ
blocks_ahead s array count place =
    if is_some (held_block s array place.block) then count - (place.block + 1)
    else count - place.block
