-- What is taken of a manifest into memory: levels that may be, and counts and blocks that belong.
use Rattle.std.specs.Prelude.{◌≤◌, nat_le, Bool, List, [], ◌∷◌, map, sum_by, Contains, IsTrue}
use Rattle.std.specs.List.{list_all}
use Rattle.strat_base.specs.declared.descriptors.LevelDesc.{LevelDesc}
use Rattle.def_bytes.specs.Arrays.{blocks_of}
use Rattle.def_bytes.specs.Chained.{Chained}
use Rattle.def_bytes.specs.Manifest.{Manifest, is_lawful_manifest, is_rising, versions_in, all_pass}
use Rattle.def_bytes.specs.SuperBlock.{Super}
use Rattle.strat_level.specs.Levels.{desc_leads}
use Rattle.strat_manifest.specs.ManifestView.{manifest_of}
use Rattle.def_recovery.specs.Head.{descriptors}
use Rattle.def_recovery.specs.Opening.{belongs, is_filled, has_few_publications}
use Rattle.strat_memory.specs.Held.{ArePlaced}
use Rattle.strat_memory.specs.declared.admitting.Published.{Published}
use Rattle.def_bytes.specs.Layout.{newest_format}

-- a level may come into memory: it has a place among 22, a horizon, tags that rise, and leads that can be counted
pub record FitsInMemory (level : LevelDesc) : Type 0 where
  pub least : 1 ≤ level.number
  pub most : level.number ≤ 22
  pub horizon : 1 ≤ level.horizon
  pub rising : IsTrue (list_all (λ a. is_rising a.versions) level.arrays)
  pub leads : desc_leads level ≤ 4294967295

-- each of these levels may, and their numbers rise
pub record MayBePlaced (listed : List LevelDesc) : Type 0 where
  pub each : (level : LevelDesc) → Contains listed level → FitsInMemory level
  pub rise : IsTrue (is_rising (map (λ level. level.number) listed))

-- the tests of the counts of a manifest, and of each array alone, that a store with this superblock makes
abbrev pub count_tests : Super → Manifest → List Bool
count_tests sb m =
    nat_le (versions_in m) sb.versions_max
    ∷ nat_le m.changes sb.changes_max
    ∷ nat_le (sum_by (λ a. a.leads) (descriptors m)) m.updates
    ∷ list_all is_filled (descriptors m)
    ∷ has_few_publications sb m
    ∷ []

-- each of them passes
abbrev pub counts_belong : Super → Manifest → Bool
counts_belong sb m = all_pass (count_tests sb m)

-- the manifest of what the last publication left, with the blocks of its chain
abbrev pub chained_of : Published → Chained
chained_of p = record { manifest = manifest_of p.manifest; blocks = blocks_of p.chain }

-- what the last publication left is of a store with this superblock, and lies in memory as it should
pub record IsAdmitted (sb : Super) (p : Published) : Type 0 where
  pub spelled : IsTrue (is_lawful_manifest newest_format (chained_of p).manifest)
  pub belonging : IsTrue (belongs sb (chained_of p))
  pub placed : ArePlaced (chained_of p).manifest.levels p.levels
