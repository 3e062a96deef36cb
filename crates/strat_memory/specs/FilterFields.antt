-- The fields of the filters of a level.
use Rattle.strat_memory.specs.Filters.{LevelFilters}
use Rattle.strat_memory.specs.declared.filters.LevelFilters.TheInside.{Inside}

-- the filters of these fields
abbrev pub filters_seen : Inside → LevelFilters
filters_seen a = record { first = a.first; kept = a.kept.items }
