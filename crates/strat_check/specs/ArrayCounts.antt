-- What is counted of an array by itself.
use Rattle.std.specs.Prelude.{◌≡◌, List}
use Rattle.strat_base.specs.Entries.{Entry}
use Rattle.strat_base.specs.Tree.{Parents}
use Rattle.def_split.specs.Groups.{grouped_entries, AreGroups, group_versions}
use Rattle.strat_check.specs.Sightings.{Sightings, IsSighted}

-- the groups of some entries were sighted
pub record IsSightOf (parents : Parents) (content : List Entry) (s : Sightings) : Type 0 where
  pub groups : List (List Entry)
  pub grouped : AreGroups groups
  pub whole : grouped_entries groups ≡ content
  pub sighted : IsSighted parents (group_versions groups) s
