use Rattle.std.proofs.Common.{◌≡◌, Option, None, Some, sym, ap, ◌∙◌, subst}
use Rattle.std.specs.Option.{IfSome, option_map}
use Rattle.strat_level.specs.Memtable.{entries_held}
use Rattle.strat_tree.specs.TreeView.{TreeView}
use Rattle.strat_memory.specs.MemoryFields.{lists_beside, memory_held, sealed_seen, IsSealedBelow, StandInPool}
use Rattle.strat_memory.specs.declared.memory.Sealed.{Sealed}
use Rattle.strat_memory.proofs.MemoryLemmas.{known_same}
use Rattle.strat_memory.proofs.PoolLemmas.{left_entries, left_held, left_stands, without_sealed_shares}
use Rattle.strat_memory.proofs.memory.Memory.forget_sealed.Goals as goal
use Rattle.strat_memory.proofs.memory.Memory.forget_sealed.Goals.{After-number}

-- what was sealed stands beside level 0
stood : (c : After-number) → StandInPool c.self.inside.pool c.self.inside.tree.parents c.self.inside.zero (lists_beside (Some c.in-Some.sealed) c.self.inside.next) c.self.inside.cursors.opened
stood c =
    subst (λ (o : Option Sealed). StandInPool c.self.inside.pool c.self.inside.tree.parents c.self.inside.zero (lists_beside o c.self.inside.next) c.self.inside.cursors.opened) (sym c.take.ensures.value ∙ c.in-Some.is)
    c.self.invariant.stand

entries : (c : After-number) → entries_held c.release.new.pool c.self.inside.zero.list ≡ entries_held c.self.inside.pool c.self.inside.zero.list
entries c =
    left_entries c.self.inside.pool c.release.new.pool c.in-Some.sealed.zero.list.arena c.release.ensures.ok c.release.ensures.kept c.release.ensures.same
    c.self.inside.tree.parents c.self.inside.zero (lists_beside None c.self.inside.next) c.self.inside.cursors.opened (stood c).level (stood c).beside.1 (stood c).pinned
    (without_sealed_shares c.self.inside.pool c.self.inside.tree.parents c.self.inside.zero c.in-Some.sealed c.self.inside.next c.self.inside.cursors.opened (stood c))

pub invariant_of-self : goal.invariant_of-self
invariant_of-self c =
    let r : After-number = (goal.at.invariant_of-self c).After-number in
    rw c.number.ensures.ok (record {
      stand = subst (λ (o : Option Sealed). StandInPool c.release.new.pool c.self.inside.tree.parents c.self.inside.zero (lists_beside o c.self.inside.next) c.self.inside.cursors.opened) (sym c.take.ensures.after)
          (left_stands c.self.inside.pool c.release.new.pool c.in-Some.sealed.zero.list.arena c.release.ensures.ok c.release.ensures.kept c.release.ensures.same
          c.self.inside.tree.parents c.self.inside.zero (lists_beside None c.self.inside.next) c.self.inside.cursors.opened (stood r).level (stood r).beside.1 (stood r).pinned
          (without_sealed_shares c.self.inside.pool c.self.inside.tree.parents c.self.inside.zero c.in-Some.sealed c.self.inside.next c.self.inside.cursors.opened (stood r)));
      known = known_same c.self.inside.tree.parents (entries_held c.self.inside.pool c.self.inside.zero.list) (entries_held c.release.new.pool c.self.inside.zero.list) (entries r)
          c.self.invariant.known;
      sealed = subst (λ (o : Option Sealed). IfSome o (IsSealedBelow c.release.new.pool c.self.inside.tree.parents)) (sym c.take.ensures.after) tt;
      fresh = c.self.invariant.fresh;
      changes = c.self.invariant.changes;
      updates = c.self.invariant.updates;
      versions = c.self.invariant.versions;
    })

pub returns-in-Some : goal.returns-in-Some
returns-in-Some c =
    let r : After-number = (goal.at.returns-in-Some c).After-number in
    record {
      ok = rw (← c.self.view_is) (λ i. record (memory_held c.self.inside) {
        parents = ap (λ (t : TreeView). t.parents) c.number.ensures.ok i;
        marks = ap (λ (t : TreeView). t.marks) c.number.ensures.ok i;
        entries = entries r i;
        sealed = option_map (sealed_seen c.release.new.pool) (c.take.ensures.after i);
        cursors = record (memory_held c.self.inside).cursors {
          opened = left_held c.self.inside.pool c.release.new.pool c.in-Some.sealed.zero.list.arena c.release.ensures.ok c.release.ensures.kept c.release.ensures.same
              c.self.inside.tree.parents c.self.inside.zero (lists_beside None c.self.inside.next) c.self.inside.cursors.opened (stood r).level (stood r).beside.1 (stood r).pinned
              (without_sealed_shares c.self.inside.pool c.self.inside.tree.parents c.self.inside.zero c.in-Some.sealed c.self.inside.next c.self.inside.cursors.opened (stood r)) i;
        };
      });
    }
