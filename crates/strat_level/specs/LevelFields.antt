-- The fields of a level in memory.
use Rattle.std.specs.Prelude.{◌≡◌, ◌≤◌}
use Rattle.strat_base.specs.declared.descriptors.LevelDesc.{LevelDesc}
use Rattle.strat_level.specs.Levels.{HaveDisjointTags, desc_leads}
use Rattle.strat_level.specs.Index.{IsIndexOf}
use Rattle.strat_level.specs.declared.level.Level.TheInside.{Inside}

-- the descriptor among these fields
abbrev pub desc_seen : Inside → LevelDesc
desc_seen a = a.desc

-- the index and the number of leads are those of the descriptor, whose horizon is at least 1 and whose
-- tags are disjoint
pub record IsIndexedLevel (a : Inside) : Type 0 where
  pub horizon : 1 ≤ a.desc.horizon
  pub disjoint : HaveDisjointTags a.desc.arrays
  pub leads : a.leads ≡ desc_leads a.desc
  pub few : desc_leads a.desc ≤ 4294967295
  pub index : IsIndexOf a.index.items a.desc.arrays
