-- The fields of the chains of parts.
use Rattle.std.specs.Prelude.{◌≡◌, ℕ, List, length}
use Rattle.strat_split.specs.Chains.{IsLinked}
use Rattle.strat_split.specs.declared.hanging.Hanging.TheInside.{Inside}

-- the carriers of these fields
abbrev pub carriers_kept : Inside → List ℕ
carriers_kept a = a.carriers.items

-- the chains of all parts are linked
pub record AreLinked (a : Inside) : Type 0 where
  pub firsts_len : length a.firsts.items ≡ length a.carriers.items
  pub linked : IsLinked a.carriers.items a.firsts.items a.nexts.items 0
