use Rattle.std.proofs.Common.{◌≡◌, length, refl, List, Option, sym, ap, ◌∙◌, subst}
use Rattle.std.specs.Option.{option_map}
use Rattle.strat_base.specs.Change.{Change}
use Rattle.strat_base.specs.Tree.{Parents, IsTree}
use Rattle.strat_level.specs.Memtable.{ItemList, entries_held}
use Rattle.def_recovery.proofs.HeadLemmas.{counts_said}
use Rattle.def_slice.specs.Lists.{HoldLists}
use Rattle.def_state.specs.State.{versions_of}
use Rattle.strat_check.specs.Children.{lowered_by_zeros}
use Rattle.strat_check.proofs.BeginLemmas.{children_from, found_none}
use Rattle.strat_check.proofs.HeadLemmas.{parts_of, marks_said}
use Rattle.strat_check.proofs.store_walk.begin.Goals as goal

pub returns-clause-ok : goal.returns-clause-ok
returns-clause-ok c = λ f s made found.
    let versions = c.tree-tree.ensures.ok.0 ∙ (counts_said f c.args.store.now s made).0 in
    let n = ap (λ (ps : Parents). length ps) versions in
    let tree : IsTree (versions_of s) = subst IsTree versions c.tree-tree.ensures.ok.2 in
    let children = children_from s c.tree-tree.result.now.parents c.tree-tree.result.now.marks c.in_ok-first.first.items versions (c.tree-tree.ensures.ok.1 ∙ marks_said f c.args.store.now s made) c.in_ok-first.ensures.len c.in_ok-first.ensures.ok in
    let sealed : Option ItemList = option_map (λ z. z.now) c.zeros.result.1 in
    let pool = c.zeros.result.2.now in
    let zeros = c.zeros.ensures.ok in
    let held = subst (λ (js : List Change). HoldLists c.args.store.now.sb.mem js (entries_held pool c.zeros.result.0.now) (option_map (entries_held pool) sealed) zeros.0) (sym (parts_of f c.args.store.now s made).3) zeros.1 in (
      children,
      found_none s c.in_ok-first.first.items c.args.store.now.sb.mem pool c.zeros.result.0.now sealed zeros.0 _ children tree held
          (c.lower_by_zeros-lowest.ensures.ok ∙ (λ i. lowered_by_zeros (c.deref.ensures.value i) ((c.count.ensures.ok ∙ n) i) c.zeros.result.0.now sealed))
          (c.count-2.ensures.ok ∙ n) refl c.new-3.ensures.ok,
    )
