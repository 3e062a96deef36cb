use Rattle.std.proofs.Common.{[], None, sym, refl}
use Rattle.strat_base.specs.Entries.{Entry}
use Rattle.strat_level.specs.Memtable.{entries_held}
use Rattle.strat_memory.proofs.MemoryLemmas.{held_within, pair_found, said_found}
use Rattle.strat_memory.proofs.memory.find_in.Goals as goal

nothing : Entry
nothing = record { key = []; version = 0; value = None }

pub push-requires-clause-fits : goal.push-requires-clause-fits
push-requires-clause-fits c =
    pair_found c.args.tree.now.parents (entries_held c.args.pool.now c.args.zero.now.list) c.args.version c.args.key.now c.in-Some-value.value.now c.in-Some.place nothing
    c.requires.kept.lawful (held_within c.args.pool.now c.args.zero.now.list c.in-Some.place c.in-Some.ensures.found) c.in-Some.ensures.ok (c.in-Some-value.ensures.ok nothing)

pub returns-in-None : goal.returns-in-None
returns-in-None c = record {
  ok = (
    _,
    said_found c.args.tree.now.parents (entries_held c.args.pool.now c.args.zero.now.list) c.args.version c.args.key.now c.in-Some.place nothing (held_within c.args.pool.now c.args.zero.now.list c.in-Some.place c.in-Some.ensures.found) c.in-Some.ensures.ok,
    sym (c.in-None.ensures.ok nothing),
    refl,
  );
}

pub returns-in-Some-value : goal.returns-in-Some-value
returns-in-Some-value c = record {
  ok = (
    _,
    _,
    said_found c.args.tree.now.parents (entries_held c.args.pool.now c.args.zero.now.list) c.args.version c.args.key.now c.in-Some.place nothing (held_within c.args.pool.now c.args.zero.now.list c.in-Some.place c.in-Some.ensures.found) c.in-Some.ensures.ok,
    sym (c.in-Some-value.ensures.ok nothing),
    c.push.ensures.ok,
  );
}
