-- Which level a promotion fills.
use Rattle.std.specs.Prelude.{ℕ, ◌+◌, ◌*◌, ◌^◌, ◌<◌, ◌≤◌, List, take}
use Rattle.std.specs.List.{sum}

-- how many leads level 0 and the levels from 1 to j have
abbrev pub leads_down_to : List ℕ → ℕ → ℕ
leads_down_to leads j = sum (take (j + 1) leads)

-- how many leads level j has room for: twice as many as the level above it
abbrev pub room_of_level : ℕ → ℕ → ℕ
room_of_level mem j = mem * 2 ^ j

-- level j is the first from 1 on with room for its leads and those of all above it
pub record IsTarget (leads : List ℕ) (mem j : ℕ) : Type 0 where
  pub deep : 1 ≤ j
  pub fits : leads_down_to leads j ≤ room_of_level mem j
  pub first : (k : ℕ) → 1 ≤ k → k < j → room_of_level mem k < leads_down_to leads k
