-- What shows of a merger.
use Rattle.std.specs.Prelude.{◌<◌, ℕ, List, map, length}
use Rattle.strat_merge.specs.Runs.{RunView}
use Rattle.strat_merge.specs.Bracket.{IsTournament}
use Rattle.strat_merge.specs.declared.merger.Merger.{Merger}

-- the runs of a merger, the newest first
abbrev pub runs_merged : {R : Type 0} → Merger R → List R
runs_merged m = m.runs.items

-- the runs as they are seen
abbrev pub views_of : {R : Type 0} → (R → RunView) → Merger R → List RunView
views_of view m = map view m.runs.items

-- how many entries it took
abbrev pub consumed_of : {R : Type 0} → Merger R → ℕ
consumed_of m = m.consumed

-- it is not spent: once begun, its tournament is played
abbrev pub IsUnspent : {R : Type 0} → (R → RunView) → Merger R → Type 0
IsUnspent view m = 0 < length m.winners.items → IsTournament (views_of view m) m.winners.items
