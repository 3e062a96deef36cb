-- The budget of a promotion in slices: each slice takes so many entries that the last one comes while the journal has
-- room.
use Rattle.std.specs.Prelude.{◌≡◌, ◌≤◌, ◌<◌, ◌⊎◌, ℕ, ◌+◌, ◌-◌, ◌*◌, ◌^◌, max, ◌==◌, if◌then◌else◌, List, [], ◌∷◌, Option, Some, None}
use Rattle.std.specs.Int.{div_ceil}
use Rattle.def_state.specs.Sound.{journal_max}

-- how many changes more a journal takes, whose regions take `mem` changes each and which has `fill` of them
abbrev pub changes_left : ℕ → ℕ → ℕ
changes_left mem fill = journal_max mem - fill

-- the budget of each slice of a promotion that begins at this fill and goes twice over `sum` entries: the least with
-- which as many slices as changes are left take them all; where none is left, more than any promotion takes
pub record IsBudget (mem fill sum b : ℕ) : Type 0 where
  pub some : 1 ≤ b
  pub enough : 0 < changes_left mem fill → 2 * sum ≤ b * changes_left mem fill
  pub least : 0 < changes_left mem fill → (n : ℕ) → 1 ≤ n → 2 * sum ≤ n * changes_left mem fill
      → b ≤ n
  pub last : changes_left mem fill ≡ 0 → b ≡ 2 ^ 63

-- how it is computed
abbrev pub budget_for : ℕ → ℕ → ℕ → ℕ
budget_for mem fill sum =
    if changes_left mem fill == 0 then 2 ^ 63
    else max 1 (div_ceil (2 * sum) (changes_left mem fill))

-- a promotion that has taken so many entries is on time: a slice for each change that is left takes all the others
abbrev pub IsOnTime : ℕ → ℕ → ℕ → ℕ → ℕ → Type 0
IsOnTime mem fill sum b taken = 2 * sum ≤ taken + b * changes_left mem fill

-- a promotion that is to be sliced ends in time: it is on time, or this slice takes all that it has
abbrev pub EndsInTime : ℕ → ℕ → ℕ → ℕ → ℕ → Type 0
EndsInTime mem fill sum b taken = IsOnTime mem fill sum b taken ⊎ (2 * sum ≤ b)

-- slices follow each other, each of which took its budget at least and left an entry: how many entries were taken
-- after each
abbrev pub LeaveOpen : ℕ → ℕ → ℕ → List ℕ → Type 0
LeaveOpen sum b taken [] = Unit {0}
LeaveOpen sum b taken (next ∷ later) =
    (taken + b ≤ next) × (next < 2 * sum) × LeaveOpen sum b next later

-- the numbers of a promotion: the budget of its slices, how many entries each of its two passes has, and how many it
-- has taken in both
pub record SliceNumbers : Type 0 where
  pub budget : ℕ
  pub sum : ℕ
  pub taken : ℕ

-- what a slice may do where no key has more than `most` entries: it takes its budget at least, and fewer than that and
-- the entries of one key, so that the promotion stays open with these numbers; or it ends the promotion, and not
-- earlier than its budget allows
abbrev pub KeepsToBudget : SliceNumbers → ℕ → Option SliceNumbers → Type 0
KeepsToBudget n most (Some now) =
    (now.budget ≡ n.budget) × (now.sum ≡ n.sum) × (n.taken + n.budget ≤ now.taken)
    × (now.taken < n.taken + n.budget + most)
KeepsToBudget n most None = 2 * n.sum < n.taken + n.budget + most
