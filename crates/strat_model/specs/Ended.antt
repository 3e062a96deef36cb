-- How a run ended, as a number.
use Rattle.std.specs.Prelude.{ℕ}
use Rattle.strat_model.specs.declared.ended.Ended.{Ended}
use Rattle.strat_model.specs.declared.ended.Ended.TheVariants as ended

-- the exit status of a run that ended so
abbrev pub status_of : Ended → ℕ
status_of ended.Done = 0
status_of ended.Usage = 1
status_of ended.NotAStore = 2
status_of ended.FrameTooLong = 3
status_of ended.Truncated = 4
status_of ended.Device = 5
status_of ended.Source = 6
status_of ended.Sink = 7
status_of ended.NoMemory = 8
status_of (ended.Damaged block) = 9
status_of ended.Budget = 10
status_of ended.Unsound = 11
status_of ended.UnknownVersion = 12
