-- Plans as definitions have them.
use Rattle.std.specs.Prelude.{map}
use Rattle.def_split.specs.Plan as defined
use Rattle.strat_split.specs.declared.parts.Part.{Part}
use Rattle.strat_split.specs.declared.parts.Plan.{Plan}

-- a part of a plan
abbrev pub part_seen : Part → defined.Part
part_seen part = record {
  above = part.above;
  leads = part.leads;
  entries = part.entries;
  least = part.least;
}

-- a plan
abbrev pub plan_seen : Plan → defined.Plan
plan_seen plan = record { labels = plan.part_of; parts = map part_seen plan.parts }
