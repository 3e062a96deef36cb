use Rattle.std.proofs.Common.{◌≡◌, ◌+◌, ◌-◌, None, length, sym, subst, arith}
use Rattle.std.proofs.lemmas.Bool.{eqb-false, lt-ltb}
use Rattle.def_state.proofs.MarkLemmas.{there_known}
use Rattle.strat_base.specs.EntryView.{val_of}
use Rattle.strat_level.specs.Memtable.{entries_held}
use Rattle.strat_memory.specs.Memory.{Memory, refusal_of_update}
use Rattle.strat_memory.specs.MemoryFields.{lists_beside, memory_held}
use Rattle.strat_memory.proofs.MemoryLemmas.{known_set, update_taken}
use Rattle.strat_memory.proofs.PoolLemmas.{put_stands, put_held, put_reads, sealed_below, sealed_same}
use Rattle.strat_memory.proofs.memory.Memory.set.Goals as goal

pub invariant_of-self : goal.invariant_of-self
invariant_of-self c =
    let taken = update_taken (memory_held c.self.inside) c.args.version (subst (λ (m : Memory). refusal_of_update m c.args.version ≡ None) (sym c.self.view_is) c.requires.none) in
    let apart = eqb-false c.self.inside.changes c.self.inside.changes_max taken.2 in
    record {
      stand = put_stands c.self.inside.pool c.put.new.pool c.self.inside.tree.parents c.self.inside.zero c.put.new.self (lists_beside c.self.inside.sealed c.self.inside.next) c.self.inside.cursors.opened
          c.self.invariant.stand c.put.ensures.kept c.put.ensures.found c.put.ensures.same;
      known = known_set c.self.inside.tree.parents (record { key = c.args.key.now; version = c.args.version; value = val_of c.args.val })
          (entries_held c.self.inside.pool c.self.inside.zero.list) (entries_held c.put.new.pool c.put.new.self.list) c.put.ensures.ok (lt-ltb c.args.version (length c.self.inside.tree.parents) (there_known c.self.inside.tree.parents c.self.inside.tree.marks c.args.version taken.0)) c.self.invariant.known;
      sealed = sealed_below c.self.inside.pool c.put.new.pool c.self.inside.tree.parents c.self.inside.tree.parents c.self.inside.sealed c.self.inside.next (omega arith)
          (put_reads c.self.inside.pool c.put.new.pool c.self.inside.tree.parents c.self.inside.zero c.put.new.self (lists_beside c.self.inside.sealed c.self.inside.next) c.self.inside.cursors.opened
          c.self.invariant.stand c.put.ensures.kept c.put.ensures.found c.put.ensures.same)
          c.self.invariant.sealed;
      fresh = c.self.invariant.fresh;
      changes = omega (arith, c.self.invariant.changes, apart);
      updates = omega (arith, c.self.invariant.updates);
      versions = c.self.invariant.versions;
    }

pub returns-clause-ok : goal.returns-clause-ok
returns-clause-ok c =
    let spare : c.put.new.self.spare ≡ c.self.inside.zero.spare - 1 = omega (arith, c.put.ensures.room) in
    rw (← c.self.view_is) (λ i. record (memory_held c.self.inside) {
      updates = c.self.inside.updates + 1;
      changes = c.self.inside.changes + 1;
      entries = c.put.ensures.ok i;
      sealed = sealed_same c.self.inside.pool c.put.new.pool c.self.inside.sealed c.self.inside.next
          (put_reads c.self.inside.pool c.put.new.pool c.self.inside.tree.parents c.self.inside.zero c.put.new.self (lists_beside c.self.inside.sealed c.self.inside.next) c.self.inside.cursors.opened
          c.self.invariant.stand c.put.ensures.kept c.put.ensures.found c.put.ensures.same) i;
      spare = spare i;
      cursors = record (memory_held c.self.inside).cursors {
        opened = put_held c.self.inside.pool c.put.new.pool c.self.inside.tree.parents c.self.inside.zero c.put.new.self (lists_beside c.self.inside.sealed c.self.inside.next) c.self.inside.cursors.opened
            c.self.invariant.stand c.put.ensures.kept c.put.ensures.found c.put.ensures.same i;
      };
    })
