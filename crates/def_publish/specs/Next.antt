-- The next contents of a store: what it computes of them, and what it is told of the level that was made.
use Rattle.std.specs.Prelude.{◌≡◌, ◌≤◌, ℕ, ◌+◌, ◌-◌, List, [], ◌++◌, length, map, sum_by, Option, None, Some, IsTrue, drop, ◌∷◌}
use Rattle.std.specs.List.{list_all, range_with_len, slice_get, AllByRecursion}
use Rattle.std.specs.Option.{option_to_list}
use Rattle.strat_base.specs.declared.descriptors.ArrayDesc.{ArrayDesc}
use Rattle.strat_base.specs.declared.descriptors.LevelDesc.{LevelDesc}
use Rattle.def_crash.specs.Image.{Image}
use Rattle.def_bytes.specs.Arrays.{all_some}
use Rattle.def_bytes.specs.Chain.{IsChain}
use Rattle.def_bytes.specs.Layout.{other_region}
use Rattle.def_bytes.specs.Manifest.{is_rising, is_lawful_extent, are_apart, first_version, manifest_bytes}
use Rattle.def_split.specs.Plan.{Plan, part_at, members}
use Rattle.def_promote.specs.Promoted.{SaysTheSame, promoted}
use Rattle.def_promote.specs.Sealed.{grown_by}
use Rattle.def_recovery.specs.Opened.{level_on}
use Rattle.def_recovery.specs.Opening.{has_few_publications}
use Rattle.def_state.specs.Level.{Level}
use Rattle.def_state.specs.Sound.{IsSound}
use Rattle.def_state.specs.State.{State}
use Rattle.def_publish.specs.Contents.{Contents, contents_state, sealed_state, later_part}
use Rattle.def_publish.specs.Publication.{IsPromotedFrom}
use Rattle.def_publish.specs.Standing.{LiesIn, ReadsAs}

-- the arrays of a level that was made, or none
abbrev pub arrays_made : Option LevelDesc → List ArrayDesc
arrays_made None = []
arrays_made (Some level) = level.arrays

-- an array that was made: it has versions, which ascend, and entries, and its extents have a spelling
pub record IsNewArray (a : ArrayDesc) : Type 0 where
  pub tagged : 1 ≤ length a.versions
  pub rising : IsTrue (is_rising a.versions)
  pub counted : 1 ≤ a.entries
  pub lawful : IsTrue (list_all is_lawful_extent a.extents)
  pub apart : IsTrue (are_apart a.extents)

-- arrays that were made: they are numbered from a number on, in the order of their first versions
pub record AreNewArrays (first : ℕ) (arrays : List ArrayDesc) : Type 0 where
  pub numbered : map (λ a. a.id) arrays ≡ range_with_len first (length arrays)
  pub ordered : IsTrue (is_rising (map first_version arrays))
  pub each : AllByRecursion IsNewArray arrays

-- an array has the number, the versions and the entries of a part of a plan, and its extents have a spelling
pub record IsArrayOf (plan : Plan) (first q : ℕ) (a : ArrayDesc) : Type 0 where
  pub id : a.id ≡ first + q
  pub versions : a.versions ≡ members plan q
  pub entries : a.entries ≡ (part_at plan q).entries
  pub lawful : IsTrue (list_all is_lawful_extent a.extents)
  pub apart : IsTrue (are_apart a.extents)

-- arrays are those of the parts of a plan, one for each
pub record AreArraysOf (plan : Plan) (first : ℕ) (arrays : List ArrayDesc) : Type 0 where
  pub len : length arrays ≡ length plan.parts
  pub each : (q : ℕ) (a : ArrayDesc) → slice_get arrays q ≡ Some a → IsArrayOf plan first q a

-- contents are what a store computes of others and of the level that was made, where that takes the place of
-- some of the levels and the others are kept
pub record IsNextOf (old new : Contents) (made : Option LevelDesc) (taken kept : List LevelDesc)
    : Type 0 where
  pub slot : new.slot ≡ 1 - old.slot
  pub generation : new.sb.generation ≡ old.sb.generation + 1
  pub region : new.sb.region ≡ other_region old.sb.region
  pub promoted : IsPromotedFrom old new
  pub written : new.chained.manifest.written
      ≡ old.chained.manifest.written + sum_by (λ a. a.entries) (arrays_made made)
  pub next_array : new.chained.manifest.next_array
      ≡ old.chained.manifest.next_array + length (arrays_made made)
  pub levels_were : old.chained.manifest.levels ≡ taken ++ kept
  pub levels_are : new.chained.manifest.levels ≡ option_to_list made ++ kept

-- they follow soundly: an image reads as the old contents, another image has the levels of the next ones, both are
-- sound, and the arrays that were made are numbered from the old next number on
pub record IsSoundNext (f g : Image) (old new : Contents) (made : Option LevelDesc)
    (taken kept : List LevelDesc) : Type 0 where
  pub reads : ReadsAs f old
  pub next : IsNextOf old new made taken kept
  pub arrays : all_some (level_on g) new.chained.manifest.levels ≡ Some new.levels
  pub was_sound : IsSound (contents_state old)
  pub is_sound : IsSound (contents_state new)
  pub fresh : AreNewArrays old.chained.manifest.next_array (arrays_made made)

-- they may be the next: they follow so, and there are few enough publications, arrays and entries for the changes
pub record MayBeNext (f g : Image) (old new : Contents) (made : Option LevelDesc)
    (taken kept : List LevelDesc) : Type 0 where
  pub follows : IsSoundNext f g old new made taken kept
  pub few : IsTrue (has_few_publications new.sb new.chained.manifest)

-- the manifest of contents stands in an image: in a chain that begins where their superblock says, and of so many bytes
pub record HasManifest (c : Image) (x : Contents) : Type 0 where
  pub others : List ℕ
  pub blocks : x.chained.blocks ≡ x.sb.manifest ∷ others
  pub size : x.sb.length ≡ length (manifest_bytes x.sb.format x.chained.manifest)
  pub chain : IsChain c (x.sb.manifest ∷ others)
      (manifest_bytes x.sb.format x.chained.manifest)

-- the state after a promotion of what contents sealed, with the levels and the counts of others, and what came since
abbrev pub state_after : Contents → Contents → State
state_after old new =
    grown_by (promoted (sealed_state old) new.levels
    new.chained.manifest.written new.chained.manifest.next_array) (later_part old)

-- what a promotion leaves: the old contents lie in an image still, which has the level that was made, and in the
-- next contents its array is in front of the levels that are kept; their state is sound and says the same
pub record IsPromotion (g : Image) (old new : Contents) (made : Option LevelDesc)
    (taken : List LevelDesc) : Type 0 where
  pub fresh : List Level
  pub lies : LiesIn g old
  pub read : all_some (level_on g) (option_to_list made) ≡ Some fresh
  pub levels : new.levels ≡ fresh ++ drop (length taken) old.levels
  pub sound : IsSound (state_after old new)
  pub says : SaysTheSame (contents_state old) (state_after old new)
