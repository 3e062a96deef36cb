use Rattle.std.proofs.Common.{◌≡◌, ◌<◌, [], ◌∷◌, None, Some, length, sym, ap, ◌∙◌, subst, arith, length-append}
use Rattle.std.proofs.lemmas.Bool.{eqb-false}
use Rattle.strat_base.specs.Tree.{Parents}
use Rattle.strat_cursor.specs.Held.{opened_held}
use Rattle.strat_cursor.proofs.RowLemmas.{tree_rows}
use Rattle.strat_level.specs.Memtable.{entries_held}
use Rattle.strat_tree.specs.TreeView.{TreeView}
use Rattle.strat_memory.specs.Memory.{Memory, refusal_of_clone}
use Rattle.strat_memory.specs.MemoryFields.{lists_beside, memory_held, StandInPool}
use Rattle.strat_memory.proofs.MemoryLemmas.{known_grown, clone_taken}
use Rattle.strat_memory.proofs.PageLemmas.{held_known}
use Rattle.strat_memory.proofs.PoolLemmas.{grown_stands, same_reads, sealed_below}
use Rattle.strat_memory.proofs.memory.Memory.add_child.Goals as goal
use Rattle.strat_memory.proofs.memory.Memory.add_child.Goals.{After-add_child}
use Rattle.def_state.proofs.MarkLemmas.{there_known, there_living}

within : (c : After-add_child) → c.args.version < length c.self.inside.tree.parents
within c =
    let taken = clone_taken (memory_held c.self.inside) c.args.version (subst (λ (m : Memory). refusal_of_clone m c.args.version ≡ None) (sym c.self.view_is) c.requires.none) in
    there_known c.self.inside.tree.parents c.self.inside.tree.marks c.args.version taken.0

pub add_child-requires-clause-kept : goal.add_child-requires-clause-kept
add_child-requires-clause-kept c =
    let taken = clone_taken (memory_held c.self.inside) c.args.version (subst (λ (m : Memory). refusal_of_clone m c.args.version ≡ None) (sym c.self.view_is) c.requires.none) in
    there_living c.self.inside.tree.parents c.self.inside.tree.marks c.args.version taken.0

pub invariant_of-self : goal.invariant_of-self
invariant_of-self c =
    let taken = clone_taken (memory_held c.self.inside) c.args.version (subst (λ (m : Memory). refusal_of_clone m c.args.version ≡ None) (sym c.self.view_is) c.requires.none) in
    let apart = eqb-false c.self.inside.changes c.self.inside.changes_max taken.2 in
    let grown = ap (λ (t : TreeView). t.parents) c.add_child.ensures.ok in
    record {
      stand = subst (λ (ps : Parents). StandInPool c.self.inside.pool ps c.self.inside.zero (lists_beside c.self.inside.sealed c.self.inside.next) c.self.inside.cursors.opened) (sym grown)
          (grown_stands c.self.inside.pool c.self.inside.tree.parents c.args.version c.self.inside.zero (lists_beside c.self.inside.sealed c.self.inside.next) c.self.inside.cursors.opened c.count.ensures.kept (within c) c.self.invariant.stand);
      known = known_grown c.self.inside.tree.parents c.add_child.new.self.parents c.args.version (entries_held c.self.inside.pool c.self.inside.zero.list) c.self.invariant.known grown;
      sealed = sealed_below c.self.inside.pool c.self.inside.pool c.self.inside.tree.parents c.add_child.new.self.parents c.self.inside.sealed c.self.inside.next
          (omega (arith, ap (λ (ps : Parents). length ps) grown, length-append c.self.inside.tree.parents (Some c.args.version ∷ [])))
          (same_reads c.self.inside.pool (lists_beside c.self.inside.sealed c.self.inside.next)) c.self.invariant.sealed;
      fresh = c.self.invariant.fresh;
      changes = omega (arith, c.self.invariant.changes, apart);
      updates = omega (arith, c.self.invariant.updates);
      versions = ap (λ (t : TreeView). t.versions_max) c.add_child.ensures.ok ∙ c.self.invariant.versions;
    }

pub returns-clause-kept : goal.returns-clause-kept
returns-clause-kept c =
    rw (← c.self.view_is, c.add_child.ensures.ok) (λ f rows are.
    tree_rows c.self.inside.tree.parents c.args.version c.count.ensures.kept (within c) f (opened_held c.self.inside.pool c.self.inside.cursors.opened) rows
    (held_known c.self.inside.pool c.self.inside.tree.parents c.self.inside.cursors.opened c.self.invariant.stand.pinned) are)
