use Rattle.std.proofs.Common.{◌≡◌, ◌≤◌, ◌<◌, Option, length, sym, ap, ◌∙◌, subst, arith}
use Rattle.std.specs.Option.{IfSome, option_copied, option_map}
use Rattle.strat_cursor.specs.Cursors.{CursorsView}
use Rattle.strat_cursor.specs.Held.{cursors_held}
use Rattle.strat_cursor.specs.Pins.{ArePinned, IsListKnown, IsSamePool, IsStarted, SharesFollow}
use Rattle.strat_cursor.proofs.HeldLemmas.{held_started}
use Rattle.strat_level.specs.Memtable.{Memtable, ListStands, entries_held}
use Rattle.strat_memory.specs.Memory.{Memory, cursor_from, sealed_entries, with_cursor}
use Rattle.strat_memory.specs.MemoryFields.{lists_beside, memory_held, sealed_seen}
use Rattle.strat_memory.proofs.MemoryLemmas.{known_same}
use Rattle.strat_memory.proofs.PageLemmas.{if_err, if_ok}
use Rattle.strat_memory.proofs.PoolLemmas.{ReadsBeside, beside_few, few_shares, follow_entries, follow_reads, follow_stands, same_held, sealed_below, sealed_lists, sealed_pinned, sealed_same, started_follow}
use Rattle.strat_memory.proofs.memory.Memory.open_cursor.Goals as goal
use Rattle.strat_memory.proofs.memory.Memory.open_cursor.Goals.{After-start}
use Rattle.strat_cursor.specs.Looking.{arrays_asked}

pub start-requires-clause-room : goal.start-requires-clause-room
start-requires-clause-room c = λ n.
    let few : length c.self.inside.cursors.opened ≤ 64 = omega (arith, c.len.ensures.ok, c.len.ensures.room) in
    omega (arith, few_shares c.self.inside.pool c.self.inside.tree.parents c.self.inside.zero (lists_beside c.self.inside.sealed c.self.inside.next) c.self.inside.cursors.opened c.self.invariant.stand 64 (beside_few c.self.inside.sealed c.self.inside.next) few n)

pub start-requires-clause-found : goal.start-requires-clause-found
start-requires-clause-found c = record {
  first = (c.self.invariant.stand.level.list, c.self.invariant.known);
  second = subst (λ (o : Option Memtable). IfSome o (λ z. ListStands c.self.inside.pool z.list × IsListKnown c.self.inside.pool c.self.inside.tree.parents z.list)) (sym c.sealed_zero.ensures.ok)
      (sealed_pinned c.self.inside.pool c.self.inside.tree.parents c.self.inside.zero c.self.inside.sealed c.self.inside.next c.self.invariant.stand.beside c.self.invariant.sealed);
  arrays = c.requires.kept;
  known = subst (λ (m : Memory). c.args.version < length m.parents) (sym c.self.view_is) c.requires.found;
}

-- the shares and the cursors, whether one was opened or not
both : (c : After-start) → SharesFollow c.self.inside.pool c.start.new.pool c.self.inside.cursors.opened c.start.new.self.opened
    × ArePinned c.start.new.pool c.self.inside.tree.parents c.start.new.self.opened
both c =
    started_follow c.start.result c.self.inside.pool c.start.new.pool c.self.inside.tree.parents c.self.inside.cursors c.start.new.self c.self.invariant.stand.pinned
    c.start.ensures.same c.start.ensures.kept c.start.ensures.err

entries : (c : After-start) → entries_held c.start.new.pool c.self.inside.zero.list ≡ entries_held c.self.inside.pool c.self.inside.zero.list
entries c =
    follow_entries c.self.inside.pool c.start.new.pool c.self.inside.tree.parents c.self.inside.zero (lists_beside c.self.inside.sealed c.self.inside.next) c.self.inside.cursors.opened c.start.new.self.opened
    c.self.invariant.stand (both c).0

reads : (c : After-start) → ReadsBeside c.self.inside.pool c.start.new.pool (lists_beside c.self.inside.sealed c.self.inside.next)
reads c =
    follow_reads c.self.inside.pool c.start.new.pool c.self.inside.tree.parents c.self.inside.zero (lists_beside c.self.inside.sealed c.self.inside.next) c.self.inside.cursors.opened c.start.new.self.opened
    c.self.invariant.stand (both c).0

sealed : (c : After-start) → option_map (sealed_seen c.start.new.pool) c.self.inside.sealed ≡ option_map (sealed_seen c.self.inside.pool) c.self.inside.sealed
sealed c = sealed_same c.self.inside.pool c.start.new.pool c.self.inside.sealed c.self.inside.next (reads c)

-- what the cursor reads of what is sealed
over : (c : After-start) → option_map (λ (z : Memtable). entries_held c.self.inside.pool z.list) (option_copied c.sealed_zero.result) ≡ sealed_entries (memory_held c.self.inside)
over c =
    ap (λ (o : Option Memtable). option_map (λ (z : Memtable). entries_held c.self.inside.pool z.list) o) c.sealed_zero.ensures.ok
    ∙ sealed_lists c.self.inside.pool c.self.inside.sealed

pub invariant_of-self : goal.invariant_of-self
invariant_of-self c = record {
  stand = follow_stands c.self.inside.pool c.start.new.pool c.self.inside.tree.parents c.self.inside.zero (lists_beside c.self.inside.sealed c.self.inside.next) c.self.inside.cursors.opened c.start.new.self.opened
      c.self.invariant.stand (both c).0 (both c).1;
  known = known_same c.self.inside.tree.parents (entries_held c.self.inside.pool c.self.inside.zero.list) (entries_held c.start.new.pool c.self.inside.zero.list) (entries c) c.self.invariant.known;
  sealed = sealed_below c.self.inside.pool c.start.new.pool c.self.inside.tree.parents c.self.inside.tree.parents c.self.inside.sealed c.self.inside.next (omega arith) (reads c) c.self.invariant.sealed;
  fresh = c.self.invariant.fresh;
  changes = c.self.invariant.changes;
  updates = c.self.invariant.updates;
  versions = c.self.invariant.versions;
}

pub returns-clause-ok : goal.returns-clause-ok
returns-clause-ok c =
    let m : Memory = memory_held c.self.inside in
    let before : CursorsView = c.self.inside.cursors in
    let arrays = arrays_asked c.self.inside.tree.parents c.args.levels.now c.args.version in
    rw (← c.self.view_is)
    (if_ok c.start.result
    (λ n. (n ≡ before.next) × IsStarted before c.start.new.self c.args.version c.args.lo.now c.args.hi.now c.self.inside.zero (option_copied c.sealed_zero.result) arrays)
    (λ n. (n ≡ before.next)
    × (record m { entries = entries_held c.start.new.pool c.self.inside.zero.list; sealed = option_map (sealed_seen c.start.new.pool) c.self.inside.sealed; cursors = cursors_held c.start.new.pool c.start.new.self }
    ≡ record m { cursors = with_cursor m.cursors (cursor_from m c.args.levels.now c.args.version c.args.lo.now c.args.hi.now) }))
    (λ n told. (
      told.0,
      λ i. record m {
        entries = entries c i;
        sealed = sealed c i;
        cursors = (held_started c.self.inside.tree.parents c.self.inside.pool c.start.new.pool before c.start.new.self c.args.version c.args.lo.now c.args.hi.now c.self.inside.zero (option_copied c.sealed_zero.result) arrays
            c.self.invariant.stand.pinned (both c).1 (both c).0 told.1
            ∙ (λ j. with_cursor m.cursors (record (cursor_from m c.args.levels.now c.args.version c.args.lo.now c.args.hi.now) { sealed = over c j }))) i;
      },
    ))
    c.start.ensures.ok)

pub returns-clause-err : goal.returns-clause-err
returns-clause-err c =
    let m : Memory = memory_held c.self.inside in
    rw (← c.self.view_is)
    (if_err c.start.result ((c.start.new.self ≡ c.self.inside.cursors) × IsSamePool c.self.inside.pool c.start.new.pool)
    (record m { entries = entries_held c.start.new.pool c.self.inside.zero.list; sealed = option_map (sealed_seen c.start.new.pool) c.self.inside.sealed; cursors = cursors_held c.start.new.pool c.start.new.self } ≡ m)
    (λ same. λ i. record m {
      entries = entries c i;
      sealed = sealed c i;
      cursors = (ap (λ (x : CursorsView). cursors_held c.start.new.pool x) same.0
          ∙ (λ j. record m.cursors {
            opened = same_held c.self.inside.pool c.start.new.pool same.1 c.self.inside.tree.parents c.self.inside.cursors.opened c.self.invariant.stand.pinned j;
          })) i;
    })
    c.start.ensures.err)
