-- What a promotion writes, and that its level is the first with room.
use Rattle.std.specs.Prelude.{◌≡◌, ◌<◌, ◌≤◌, ℕ, ◌+◌, ◌*◌, ◌^◌, ◌==◌, if◌then◌else◌, List, length, sum_by, filter}
use Rattle.def_state.specs.Level.{Level, level_leads}
use Rattle.def_state.specs.Reading.{level_zero}
use Rattle.def_state.specs.State.{State}
use Rattle.def_promote.specs.Promoted.{levels_to}

-- the entries of some levels, as their descriptors tell
abbrev pub entries_written : List Level → ℕ
entries_written levels = sum_by (λ level. sum_by (λ a. a.entries) level.arrays) levels

-- no lesser level has room for what would be taken; where the target is level 1, the journal is full
pub record IsLeastTarget (s : State) (j : ℕ) : Type 0 where
  pub full : j ≡ 1 → s.mem ≤ length s.journal
  pub crowded : (i : ℕ) → 1 ≤ i → i < j
      → s.mem * 2 ^ i
      < length (level_zero s) + sum_by (λ level. length (level_leads level)) (levels_to i s.levels)

-- how many leads stand in each level by its number, those of level 0 being the journal's
abbrev pub leads_at : State → ℕ → ℕ
leads_at s i =
    (if i == 0 then length (level_zero s) else 0)
    + sum_by
    (λ level. length (level_leads level))
    (filter (λ level. level.number == i) s.levels)
