use Rattle.std.proofs.Common.{◌≡◌, [], Option, None, Some, sym, ◌∙◌, subst, arith}
use Rattle.strat_level.specs.Memtable.{Memtable, entries_held}
use Rattle.std.specs.List.{AllByRecursion}
use Rattle.std.specs.Option.{IfSome, option_map}
use Rattle.strat_memory.specs.MemoryFields.{lists_beside, memory_held, StandInPool, StandsBeside}
use Rattle.strat_memory.proofs.MemoryLemmas.{known_same}
use Rattle.strat_memory.proofs.PoolLemmas.{ReadsBeside, beside_without_next, left_entries, left_held, left_reads, left_stands, sealed_below, sealed_same, without_next_shares}
use Rattle.strat_memory.proofs.memory.Memory.forget_next.Goals as goal
use Rattle.strat_memory.proofs.memory.Memory.forget_next.Goals.{After-release}

-- the next one stands beside level 0
stood : (c : After-release) → StandInPool c.self.inside.pool c.self.inside.tree.parents c.self.inside.zero (lists_beside c.self.inside.sealed (Some c.in-Some.next)) c.self.inside.cursors.opened
stood c =
    subst (λ (o : Option Memtable). StandInPool c.self.inside.pool c.self.inside.tree.parents c.self.inside.zero (lists_beside c.self.inside.sealed o) c.self.inside.cursors.opened) (sym c.take.ensures.value ∙ c.in-Some.is)
    c.self.invariant.stand

others : (c : After-release) → AllByRecursion (StandsBeside c.self.inside.pool c.self.inside.zero) (lists_beside c.self.inside.sealed None)
others c = beside_without_next c.self.inside.pool c.self.inside.zero c.in-Some.next c.self.inside.sealed (stood c).beside

entries : (c : After-release) → entries_held c.release.new.pool c.self.inside.zero.list ≡ entries_held c.self.inside.pool c.self.inside.zero.list
entries c =
    left_entries c.self.inside.pool c.release.new.pool c.in-Some.next.list.arena c.release.ensures.ok c.release.ensures.kept c.release.ensures.same
    c.self.inside.tree.parents c.self.inside.zero (lists_beside c.self.inside.sealed None) c.self.inside.cursors.opened (stood c).level (others c) (stood c).pinned
    (without_next_shares c.self.inside.pool c.self.inside.tree.parents c.self.inside.zero c.in-Some.next c.self.inside.sealed c.self.inside.cursors.opened (stood c))

reads : (c : After-release) → ReadsBeside c.self.inside.pool c.release.new.pool (lists_beside c.self.inside.sealed None)
reads c =
    left_reads c.self.inside.pool c.release.new.pool c.in-Some.next.list.arena c.release.ensures.ok c.release.ensures.kept c.release.ensures.same
    c.self.inside.tree.parents c.self.inside.zero (lists_beside c.self.inside.sealed None) c.self.inside.cursors.opened (stood c).level (others c) (stood c).pinned
    (without_next_shares c.self.inside.pool c.self.inside.tree.parents c.self.inside.zero c.in-Some.next c.self.inside.sealed c.self.inside.cursors.opened (stood c))

pub invariant_of-self : goal.invariant_of-self
invariant_of-self c =
    let r : After-release = (goal.at.invariant_of-self c).After-release in
    record {
      stand = subst (λ (o : Option Memtable). StandInPool c.release.new.pool c.self.inside.tree.parents c.self.inside.zero (lists_beside c.self.inside.sealed o) c.self.inside.cursors.opened) (sym c.take.ensures.after)
          (left_stands c.self.inside.pool c.release.new.pool c.in-Some.next.list.arena c.release.ensures.ok c.release.ensures.kept c.release.ensures.same
          c.self.inside.tree.parents c.self.inside.zero (lists_beside c.self.inside.sealed None) c.self.inside.cursors.opened (stood r).level (others r) (stood r).pinned
          (without_next_shares c.self.inside.pool c.self.inside.tree.parents c.self.inside.zero c.in-Some.next c.self.inside.sealed c.self.inside.cursors.opened (stood r)));
      known = known_same c.self.inside.tree.parents (entries_held c.self.inside.pool c.self.inside.zero.list) (entries_held c.release.new.pool c.self.inside.zero.list) (entries r)
          c.self.invariant.known;
      sealed = sealed_below c.self.inside.pool c.release.new.pool c.self.inside.tree.parents c.self.inside.tree.parents c.self.inside.sealed None (omega arith) (reads r) c.self.invariant.sealed;
      fresh = subst (λ (o : Option Memtable). IfSome o (λ z. z.list.items ≡ [])) (sym c.take.ensures.after) tt;
      changes = c.self.invariant.changes;
      updates = c.self.invariant.updates;
      versions = c.self.invariant.versions;
    }

pub returns-in-Some : goal.returns-in-Some
returns-in-Some c = record {
  ok = rw (← c.self.view_is) (λ i. record (memory_held c.self.inside) {
    entries = entries c i;
    sealed = sealed_same c.self.inside.pool c.release.new.pool c.self.inside.sealed None (reads c) i;
    ready = option_map (λ (z : Memtable). z.spare) (c.take.ensures.after i);
    cursors = record (memory_held c.self.inside).cursors {
      opened = left_held c.self.inside.pool c.release.new.pool c.in-Some.next.list.arena c.release.ensures.ok c.release.ensures.kept c.release.ensures.same
          c.self.inside.tree.parents c.self.inside.zero (lists_beside c.self.inside.sealed None) c.self.inside.cursors.opened (stood c).level (others c) (stood c).pinned
          (without_next_shares c.self.inside.pool c.self.inside.tree.parents c.self.inside.zero c.in-Some.next c.self.inside.sealed c.self.inside.cursors.opened (stood c)) i;
    };
  });
}
