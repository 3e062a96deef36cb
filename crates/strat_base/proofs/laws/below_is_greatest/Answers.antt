use Rattle.strat_base.specs.Tree.{below}
use Rattle.strat_base.proofs.TreeLemmas.{below_found, below_greatest, ancestor_among, among_ancestor}
use Rattle.strat_base.proofs.laws.below_is_greatest.Goals as goal

pub returns : goal.returns
returns c = record {
  found = λ parents v h tree known positive. let there = below_found parents tree v h known positive in (among_ancestor parents tree (below parents v h) v there.0, there.1);
  greatest = λ parents u v h tree ancestor lt. below_greatest parents tree u v h (ancestor_among parents tree u v ancestor) lt;
}
