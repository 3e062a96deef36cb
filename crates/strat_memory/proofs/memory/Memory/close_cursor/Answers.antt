use Rattle.std.proofs.Common.{◌≡◌, List, sym, ap, ◌∙◌, subst, arith}
use Rattle.strat_cursor.specs.Cursors.{CursorsView, OpenCursor}
use Rattle.strat_cursor.specs.Held.{cursors_held}
use Rattle.strat_cursor.specs.Pins.{ArePinned, SharesFollow}
use Rattle.strat_cursor.proofs.HeldLemmas.{held_gone, held_opened}
use Rattle.strat_level.specs.Memtable.{entries_held}
use Rattle.strat_memory.specs.MemoryFields.{lists_beside, memory_held}
use Rattle.strat_memory.proofs.MemoryLemmas.{known_same}
use Rattle.strat_memory.proofs.PoolLemmas.{ReadsBeside, follow_entries, follow_reads, follow_stands, sealed_below, sealed_same}
use Rattle.strat_memory.proofs.memory.Memory.close_cursor.Goals as goal
use Rattle.strat_memory.proofs.memory.Memory.close_cursor.Goals.{After-close}

entries : (c : After-close) → entries_held c.close.new.pool c.self.inside.zero.list ≡ entries_held c.self.inside.pool c.self.inside.zero.list
entries c =
    follow_entries c.self.inside.pool c.close.new.pool c.self.inside.tree.parents c.self.inside.zero (lists_beside c.self.inside.sealed c.self.inside.next) c.self.inside.cursors.opened c.close.new.self.opened
    c.self.invariant.stand c.close.ensures.same

reads : (c : After-close) → ReadsBeside c.self.inside.pool c.close.new.pool (lists_beside c.self.inside.sealed c.self.inside.next)
reads c =
    follow_reads c.self.inside.pool c.close.new.pool c.self.inside.tree.parents c.self.inside.zero (lists_beside c.self.inside.sealed c.self.inside.next) c.self.inside.cursors.opened c.close.new.self.opened
    c.self.invariant.stand c.close.ensures.same

pinned : (c : After-close) → ArePinned c.close.new.pool c.self.inside.tree.parents c.close.new.self.opened
pinned c = c.close.ensures.kept.1 c.self.inside.tree.parents c.self.invariant.stand.pinned

pub invariant_of-self : goal.invariant_of-self
invariant_of-self c = record {
  stand = follow_stands c.self.inside.pool c.close.new.pool c.self.inside.tree.parents c.self.inside.zero (lists_beside c.self.inside.sealed c.self.inside.next) c.self.inside.cursors.opened c.close.new.self.opened
      c.self.invariant.stand c.close.ensures.same (pinned c);
  known = known_same c.self.inside.tree.parents (entries_held c.self.inside.pool c.self.inside.zero.list) (entries_held c.close.new.pool c.self.inside.zero.list) (entries c) c.self.invariant.known;
  sealed = sealed_below c.self.inside.pool c.close.new.pool c.self.inside.tree.parents c.self.inside.tree.parents c.self.inside.sealed c.self.inside.next (omega arith) (reads c) c.self.invariant.sealed;
  fresh = c.self.invariant.fresh;
  changes = c.self.invariant.changes;
  updates = c.self.invariant.updates;
  versions = c.self.invariant.versions;
}

pub returns-clause-ok : goal.returns-clause-ok
returns-clause-ok c = rw (← c.self.view_is) (c.close.ensures.ok ∙ sym (held_opened c.self.inside.pool c.args.number c.self.inside.cursors.opened))

pub returns-clause-state : goal.returns-clause-state
returns-clause-state c =
    let left = ap (λ (x : CursorsView). x.opened) c.close.ensures.state in
    let gone = held_gone c.self.inside.tree.parents c.self.inside.pool c.close.new.pool c.self.inside.cursors c.args.number c.self.invariant.stand.pinned
    (subst (λ (x : List OpenCursor). ArePinned c.close.new.pool c.self.inside.tree.parents x) left (pinned c))
    (subst (λ (x : List OpenCursor). SharesFollow c.self.inside.pool c.close.new.pool c.self.inside.cursors.opened x) left c.close.ensures.same) in
    rw (← c.self.view_is) (λ i. record (memory_held c.self.inside) {
      entries = entries c i;
      sealed = sealed_same c.self.inside.pool c.close.new.pool c.self.inside.sealed c.self.inside.next (reads c) i;
      cursors = (ap (λ (x : CursorsView). cursors_held c.close.new.pool x) c.close.ensures.state ∙ gone) i;
    })
