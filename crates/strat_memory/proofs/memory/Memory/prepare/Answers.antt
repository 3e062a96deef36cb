use Rattle.std.proofs.Common.{◌≡◌, ◌≤◌, Option, Some, None, length, ap, ◌∙◌, subst, arith}
use Rattle.strat_level.specs.Memtable.{Memtable, entries_held}
use Rattle.strat_memory.specs.Memory.{Memory}
use Rattle.strat_memory.specs.MemoryFields.{lists_beside, memory_held, StandInPool}
use Rattle.strat_memory.proofs.MemoryLemmas.{known_same}
use Rattle.strat_memory.proofs.PoolLemmas.{ReadsBeside, beside_few, few_shared, made_entries, made_held, made_reads, made_stands, none_ready, sealed_below, sealed_same}
use Rattle.strat_memory.proofs.memory.Memory.prepare.Goals as goal
use Rattle.strat_memory.proofs.memory.Memory.prepare.Goals.{Joined-self}

pub new-requires-clause-room : goal.new-requires-clause-room
new-requires-clause-room c =
    let few : length c.self.inside.cursors.opened ≤ 64 = omega (arith, c.len.ensures.ok, c.len.ensures.room) in
    omega (arith, few_shared c.self.inside.pool c.self.inside.tree.parents c.self.inside.zero (lists_beside c.self.inside.sealed c.self.inside.next) c.self.inside.cursors.opened c.self.invariant.stand 64 (beside_few c.self.inside.sealed c.self.inside.next) few)

-- no next one stands beside level 0
stood : (c : Joined-self) → StandInPool c.self.inside.pool c.self.inside.tree.parents c.self.inside.zero (lists_beside c.self.inside.sealed None) c.self.inside.cursors.opened
stood c =
    subst (λ (o : Option Memtable). StandInPool c.self.inside.pool c.self.inside.tree.parents c.self.inside.zero (lists_beside c.self.inside.sealed o) c.self.inside.cursors.opened)
    (none_ready c.self.inside.next (ap (λ (m : Memory). m.ready) c.self.view_is ∙ ap (λ (m : Memory). m.ready) c.forget_next.ensures.ok))
    c.self.invariant.stand

entries : (c : Joined-self) → entries_held c.new.new.pool c.self.inside.zero.list ≡ entries_held c.self.inside.pool c.self.inside.zero.list
entries c =
    made_entries c.self.inside.pool c.new.new.pool c.self.inside.tree.parents c.self.inside.zero c.in_ok-next.next c.self.inside.sealed c.self.inside.cursors.opened (stood c)
    c.in_ok-next.ensures.kept c.in_ok-next.ensures.found c.in_ok-next.ensures.same

reads : (c : Joined-self) → ReadsBeside c.self.inside.pool c.new.new.pool (lists_beside c.self.inside.sealed None)
reads c =
    made_reads c.self.inside.pool c.new.new.pool c.self.inside.tree.parents c.self.inside.zero c.in_ok-next.next c.self.inside.sealed c.self.inside.cursors.opened (stood c)
    c.in_ok-next.ensures.kept c.in_ok-next.ensures.found c.in_ok-next.ensures.same

pub invariant_of-self-2 : goal.invariant_of-self-2
invariant_of-self-2 c = record {
  stand = made_stands c.self.inside.pool c.new.new.pool c.self.inside.tree.parents c.self.inside.zero c.in_ok-next.next c.self.inside.sealed c.self.inside.cursors.opened (stood c)
      c.in_ok-next.ensures.kept c.in_ok-next.ensures.found c.in_ok-next.ensures.same;
  known = known_same c.self.inside.tree.parents (entries_held c.self.inside.pool c.self.inside.zero.list) (entries_held c.new.new.pool c.self.inside.zero.list) (entries c) c.self.invariant.known;
  sealed = sealed_below c.self.inside.pool c.new.new.pool c.self.inside.tree.parents c.self.inside.tree.parents c.self.inside.sealed None (omega arith) (reads c) c.self.invariant.sealed;
  fresh = c.in_ok-next.ensures.ok.0;
  changes = c.self.invariant.changes;
  updates = c.self.invariant.updates;
  versions = c.self.invariant.versions;
}

pub returns-clause-ok : goal.returns-clause-ok
returns-clause-ok c =
    (λ i. record (memory_held c.self.inside) {
      entries = entries c i;
      sealed = sealed_same c.self.inside.pool c.new.new.pool c.self.inside.sealed None (reads c) i;
      ready = Some (c.in_ok-next.ensures.ok.1 i);
      cursors = record (memory_held c.self.inside).cursors {
        opened = made_held c.self.inside.pool c.new.new.pool c.self.inside.tree.parents c.self.inside.zero c.in_ok-next.next c.self.inside.sealed c.self.inside.cursors.opened (stood c)
            c.in_ok-next.ensures.kept c.in_ok-next.ensures.found c.in_ok-next.ensures.same i;
      };
    })
    ∙ ap (λ (m : Memory). record m { ready = Some c.args.mem }) (c.self.view_is ∙ c.forget_next.ensures.ok)
