use Rattle.std.proofs.Common.{refl, arith}
use Rattle.strat_base.specs.Tree.{climb}
use Rattle.def_split.specs.Groups.{group_versions}
use Rattle.def_split.specs.Splits.{pair, half_groups}
use Rattle.def_state.specs.Counted.{own_at, keys_at}
use Rattle.def_split.proofs.TwoPartsLemmas.{two_parts}
use Rattle.def_split.proofs.bounds.half_are_leads.Goals as goal

pub returns-clause-met : goal.returns-clause-met
unfolding climb
returns-clause-met c = record {
  grouped = record { keyed = refl; apart = refl; ascending = refl };
  low = refl;
  own_is = λ v lt. refl;
  live_is = λ v lt. refl;
  split = two_parts (own_at (group_versions half_groups)) (keys_at pair (group_versions half_groups)) (omega arith) (omega arith) (omega arith) (omega arith) (omega arith);
}
