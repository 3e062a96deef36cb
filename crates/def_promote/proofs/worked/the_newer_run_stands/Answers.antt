use Rattle.std.proofs.Common.{◌≡◌, true, false, cond, eqb, [], ◌∷◌, Some, None, refl, arith}
use Rattle.strat_base.specs.Samples.{says}
use Rattle.def_promote.proofs.worked.the_newer_run_stands.Goals as goal

pub returns : goal.returns
returns c = (
  [] ∷ [] ∷ [],
  (
    97 ∷ [],
    record {
      some = omega arith;
      keyed = refl;
      ascending = refl;
      newest = λ u. elim (eqb 0 u) as (λ b. cond b (Some (says 97 0 50)) None ≡ cond b (Some (says 97 0 50)) (cond b (Some (says 97 0 49)) None)) [ true ↦ refl | false ↦ refl ];
      least = refl;
    },
    (98 ∷ [], record { some = omega arith; keyed = refl; ascending = refl; newest = λ u. refl; least = refl }, refl),
  ),
  refl,
)
