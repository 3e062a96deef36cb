-- Which versions so far are bare, and what was hidden.
use Rattle.std.proofs.Common.{◌≡◌, ◌≤◌, true, length, vec_len, vec_capacity}
use Rattle.strat_base.specs.Tree.{Parents, IsTree}
use Rattle.strat_tree.specs.Preorder.{IsPreorder}
use Rattle.strat_check.specs.Bares.{are_bare_below}
use Rattle.strat_check.proofs.HideLemmas.{HaveHidden}
use Rattle.strat_check.proofs.sights.hide_each.Given as goal

abbrev pub invariant-loop-u : goal.invariant-loop-u
invariant-loop-u l = record {
  below : are_bare_below (length l.fn.hidden) l.bare.items ≡ true;
  held : vec_len l.bare ≤ l.u-index;
  room : vec_capacity l.fn.bare ≤ vec_capacity l.bare;
  right : (parents : Parents) → IsTree parents → IsPreorder (length l.fn.hidden) parents l.order → HaveHidden parents l.order l.versions l.u-index l.bare.items l.fn.hidden l.fn.weights l.hidden l.weights;
}
