use Rattle.strat_gate.specs.SuperView.{super_of}
use Rattle.strat_open.proofs.RecoverLemmas.{load_older, load_pruned, load_room, load_counts}
use Rattle.strat_open.proofs.recovery.load_memory.Goals as goal
use Rattle.std.proofs.Common.{refl, []}
use Rattle.strat_memory.specs.Admitting.{chained_of}
use Rattle.strat_memory.proofs.MemoryLawLemmas.{memory_loaded}

pub load-requires-clause-fits : goal.load-requires-clause-fits
load-requires-clause-fits c = (
  load_older (super_of c.args.sb.now) c.args.published.now c.requires.kept c.as_slice.result.now c.as_slice.ensures.ok,
  load_pruned (super_of c.args.sb.now) c.args.published.now c.requires.kept c.as_slice.result.now c.as_slice-2.result.now c.as_slice.ensures.ok c.as_slice-2.ensures.ok,
)

pub load-requires-clause-room : goal.load-requires-clause-room
load-requires-clause-room c = rw c.in_ok-memory.ensures.ok (load_room (super_of c.args.sb.now) c.args.published.now c.requires.kept c.as_slice.result.now c.as_slice.ensures.ok)

pub load-requires-clause-kept : goal.load-requires-clause-kept
load-requires-clause-kept c = rw c.in_ok-memory.ensures.ok (load_counts (super_of c.args.sb.now) c.args.published.now c.requires.kept)

pub returns-clause-ok : goal.returns-clause-ok
returns-clause-ok c =
    rw (c.load.ensures.ok, c.in_ok-memory.ensures.ok, c.as_slice.ensures.ok, c.as_slice-2.ensures.ok)
    (memory_loaded (record { sb = super_of c.args.sb.now; manifest = (chained_of c.args.published.now).manifest; journal = [] }) refl)
