-- Levels by their numbers.
use Rattle.std.proofs.Common.{◌≡◌, ℕ, ◌-◌, ◌<◌, ◌≤◌, Bool, true, false, cond, leb, List, length, get_or, Option, None, refl, sym, ap, ◌⊎◌, inl, inr, arith}
use Rattle.std.proofs.lemmas.List.{get_or_past}
use Rattle.strat_base.specs.declared.descriptors.LevelDesc.{LevelDesc}
use Rattle.strat_level.specs.Levels.{level_numbered}

-- there is no level 0 among them, and none past the last
pub none_past : (levels : List (Option LevelDesc)) (number : ℕ) → length levels ≡ 22 → ((1 ≤ number) × (22 < number)) ⊎ (number < 1) → None ≡ level_numbered levels number
none_past levels number len (inl past) =
    sym (both (leb 1 number) (get_or levels (number - 1) None) (get_or_past levels (number - 1) None (let p = past.1 in omega arith)))
  where
    both : (b : Bool) (x : Option LevelDesc) → x ≡ None → cond b x None ≡ None
    both true x e = e
    both false x e = refl
none_past levels number len (inr low) =
    let zero : number ≡ 0 = omega arith in sym (ap (level_numbered levels) zero)
