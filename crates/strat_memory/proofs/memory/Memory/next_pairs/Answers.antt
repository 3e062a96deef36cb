use Rattle.std.proofs.Common.{List, subst, sym}
use Rattle.strat_base.specs.declared.descriptors.ArrayDesc.{ArrayDesc}
use Rattle.strat_cursor.proofs.HeldLemmas.{held_of_number, held_opened}
use Rattle.strat_cursor.specs.Cursors.{is_opened}
use Rattle.strat_cursor.specs.Held.{opened_held}
use Rattle.strat_cursor.specs.Looking.{ReadsArrays}
use Rattle.strat_memory.specs.MemoryFields.{lists_beside, memory_held}
use Rattle.strat_memory.proofs.PageLemmas.{damaged_held, found_held, found_ok, held_looks, held_paged, held_tells}
use Rattle.strat_memory.proofs.PoolLemmas.{paged_stands}
use Rattle.strat_memory.proofs.memory.Memory.next_pairs.Goals as goal

pub returns-in_err-more-clause-found : goal.returns-in_err-more-clause-found
returns-in_err-more-clause-found g c =
    rw (← c.self.view_is)
    (found_held c.self.inside.pool c.self.inside.cursors.opened c.args.number c.from_residual.result _ c.from_residual.ensures.1 c.in_err-more.ensures.found)

pub returns-in_err-more-clause-same : goal.returns-in_err-more-clause-same
returns-in_err-more-clause-same g c =
    rw (← c.self.view_is) (held_looks c.self.inside.pool c.self.inside.cursors.opened c.args.number _ _ _ _ c.in_err-more.ensures.same)

pub returns-in_err-more-clause-damaged : goal.returns-in_err-more-clause-damaged
returns-in_err-more-clause-damaged g c =
    rw (← c.self.view_is)
    (damaged_held c.self.inside.pool c.self.inside.cursors.opened c.args.number (g.D.Disk.view c.args.disk.now).content c.from_residual.result _ c.from_residual.ensures.1
    c.in_err-more.ensures.found c.in_err-more.ensures.damaged)

pub invariant_of-self-2 : goal.invariant_of-self-2
invariant_of-self-2 g c = record {
  stand = paged_stands c.self.inside.pool c.self.inside.tree.parents c.self.inside.zero (lists_beside c.self.inside.sealed c.self.inside.next) c.self.inside.cursors c.next.new.self c.args.number c.in_ok-more.more c.next.new.out
      c.self.invariant.stand c.in_ok-more.ensures.kept c.in_ok-more.ensures.state;
  known = c.self.invariant.known;
  sealed = c.self.invariant.sealed;
  fresh = c.self.invariant.fresh;
  changes = c.self.invariant.changes;
  updates = c.self.invariant.updates;
  versions = c.self.invariant.versions;
}

pub returns-clause-ok : goal.returns-clause-ok
returns-clause-ok g c =
    rw (← c.self.view_is)
    (held_tells c.self.inside.pool c.self.inside.cursors.opened c.args.number c.self.inside.tree.parents c.args.limit c.next.new.out c.in_ok-more.more (g.D.Disk.view c.args.disk.now) c.args.cache.now
    c.in_ok-more.ensures.ok.1)

pub returns-clause-state : goal.returns-clause-state
returns-clause-state g c =
    rw (← c.self.view_is) (λ i. record (memory_held c.self.inside) {
      cursors = held_paged c.self.inside.pool c.self.inside.cursors c.next.new.self c.args.number c.in_ok-more.more c.next.new.out c.in_ok-more.ensures.state i;
    })

pub returns-clause-found : goal.returns-clause-found
returns-clause-found g c =
    rw (← c.self.view_is)
    (found_ok c.in_ok-more.more (is_opened c.args.number (opened_held c.self.inside.pool c.self.inside.cursors.opened)) (is_opened c.args.number c.self.inside.cursors.opened)
    (held_opened c.self.inside.pool c.args.number c.self.inside.cursors.opened) c.in_ok-more.ensures.found)

pub returns-clause-same : goal.returns-clause-same
returns-clause-same g c =
    rw (← c.self.view_is) (held_looks c.self.inside.pool c.self.inside.cursors.opened c.args.number _ _ _ _ c.in_ok-more.ensures.same)

pub returns-clause-len : goal.returns-clause-len
returns-clause-len g c = c.in_ok-more.ensures.ok.0

pub returns-in_err-more-clause-reads : goal.returns-in_err-more-clause-reads
returns-in_err-more-clause-reads g c =
    rw (← c.self.view_is)
    (subst (λ (arrays : List ArrayDesc). ReadsArrays arrays (g.D.Disk.reads c.args.disk.now) (g.D.Disk.reads c.next.new.disk)) (sym (held_of_number c.self.inside.pool c.args.number c.self.inside.cursors.opened)) c.in_err-more.ensures.reads)

pub returns-clause-reads : goal.returns-clause-reads
returns-clause-reads g c =
    rw (← c.self.view_is)
    (subst (λ (arrays : List ArrayDesc). ReadsArrays arrays (g.D.Disk.reads c.args.disk.now) (g.D.Disk.reads c.next.new.disk)) (sym (held_of_number c.self.inside.pool c.args.number c.self.inside.cursors.opened)) c.in_ok-more.ensures.reads)
