-- The fields of a tag.
use Rattle.std.specs.Prelude.{◌≡◌, ℕ, true, List}
use Rattle.std.specs.List.Sorted.{IsNonDecreasing}
use Rattle.strat_promote.specs.declared.tag.Tag.TheInside.{Inside}

-- the versions of these fields
abbrev pub versions_kept : Inside → List ℕ
versions_kept t = t.versions.items

-- the versions ascend where the fields say so
pub record IsSortedAsSaid (t : Inside) : Type 0 where
  pub rise : t.is_sorted ≡ true → IsNonDecreasing t.versions.items
