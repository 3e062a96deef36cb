use Rattle.std.proofs.Common.{◌≡◌, ◌<◌, true, length, map, sym, ap, ◌∙◌, subst, arith}
use Rattle.std.proofs.lemmas.List.{length-map}
use Rattle.std.specs.Prelude.{IfSome, IfNone}
use Rattle.strat_base.specs.Entries.{Entry, is_of}
use Rattle.strat_merge.specs.Gathered.{Leads, LeadsAside}
use Rattle.strat_merge.proofs.GatherLemmas.{count_begun}
use Rattle.strat_merge.proofs.TurnLemmas.{Took, at_next, group_filled, turns_left, turns_fall, gathering_begun, gathering_next, leader_leads, group_given, next_taken, reads_then, reads_err}
use Rattle.strat_merge.proofs.merger.gather.Goals as goal

pub returns-in_default-clause-len : goal.returns-in_default-clause-len
returns-in_default-clause-len g c image exposes = count_begun _ c.args.merger.now.consumed (omega arith)

pub loop-next-init : goal.loop-next-init
loop-next-init g c =
    let held = c.contest_of.ensures.ok ∙ c.deref.ensures.value in
    let leads = leader_leads g.R.Run.view c.args.merger.now.runs.items c.contest_of.result.runs.now c.in-Some.first held c.in-Some.ensures.found.1 c.in-Some.ensures.ok in
    let many : length (map g.R.Run.view c.contest_of.result.runs.now) ≡ length c.args.merger.now.runs.items = length-map c.contest_of.result.runs.now g.R.Run.view ∙ ap (λ rs. length rs) held in
    let low : c.in-Some.first < length c.args.merger.now.runs.items = omega (arith, c.in-Some.ensures.found.0, many) in
    gathering_begun g.R.Run.view g.met.R.Run.leaves_run
    (record {
      disk = g.D.Disk.view c.args.disk.now;
      faults = g.D.Disk.faults c.args.disk.now;
      reads = g.D.Disk.reads c.args.disk.now;
      runs = c.args.merger.now.runs.items;
      winners = c.args.merger.now.winners.items;
      consumed = c.args.merger.now.consumed;
      pairs = c.args.arena.now.pairs;
      items = c.args.group.now;
    })
    c.in-Some.first (omega arith) c.requires.none.0 c.requires.none.1 c.requires.kept low leads.0 leads.1

pub returns-in-Err-clause-reads : goal.returns-in-Err-clause-reads
returns-in-Err-clause-reads g c =
    reads_err g.R.Run.view c.in-Err.trouble
    (record {
      disk = g.D.Disk.view c.args.disk.now;
      faults = g.D.Disk.faults c.args.disk.now;
      reads = g.D.Disk.reads c.args.disk.now;
      runs = c.args.merger.now.runs.items;
      winners = c.args.merger.now.winners.items;
      consumed = c.args.merger.now.consumed;
      pairs = c.args.arena.now.pairs;
      items = c.args.group.now;
    })
    (record {
      disk = g.D.Disk.view c.take.new.disk;
      faults = g.D.Disk.faults c.take.new.disk;
      reads = g.D.Disk.reads c.take.new.disk;
      runs = c.take.new.merger.runs.items;
      winners = c.take.new.merger.winners.items;
      consumed = c.take.new.merger.consumed;
      pairs = c.take.new.arena.pairs;
      items = c.take.new.group;
    })
    (reads_then g.R.Run.view
    (record {
      disk = g.D.Disk.view c.args.disk.now;
      faults = g.D.Disk.faults c.args.disk.now;
      reads = g.D.Disk.reads c.args.disk.now;
      runs = c.args.merger.now.runs.items;
      winners = c.args.merger.now.winners.items;
      consumed = c.args.merger.now.consumed;
      pairs = c.args.arena.now.pairs;
      items = c.args.group.now;
    })
    (record {
      disk = g.D.Disk.view c.loop-next.disk;
      faults = g.D.Disk.faults c.loop-next.disk;
      reads = g.D.Disk.reads c.loop-next.disk;
      runs = c.loop-next.merger.runs.items;
      winners = c.loop-next.merger.winners.items;
      consumed = c.loop-next.merger.consumed;
      pairs = c.loop-next.arena.pairs;
      items = c.loop-next.group;
    })
    (record {
      disk = g.D.Disk.view c.take.new.disk;
      faults = g.D.Disk.faults c.take.new.disk;
      reads = g.D.Disk.reads c.take.new.disk;
      runs = c.take.new.merger.runs.items;
      winners = c.take.new.merger.winners.items;
      consumed = c.take.new.merger.consumed;
      pairs = c.take.new.arena.pairs;
      items = c.take.new.group;
    })
    _ c.loop-next.invariant.reads c.in-Err.ensures.reads)

pub key_of_group-key-requires-clause-room : goal.key_of_group-key-requires-clause-room
key_of_group-key-requires-clause-room g c =
    let gathering = at_next c.in-Some-next.run' c.in-Some-next.is c.loop-next.invariant in
    let took : Took g.R.Run.view
    (record {
      disk = g.D.Disk.view c.loop-next.disk;
      faults = g.D.Disk.faults c.loop-next.disk;
      reads = g.D.Disk.reads c.loop-next.disk;
      runs = c.loop-next.merger.runs.items;
      winners = c.loop-next.merger.winners.items;
      consumed = c.loop-next.merger.consumed;
      pairs = c.loop-next.arena.pairs;
      items = c.loop-next.group;
    })
    (record {
      disk = g.D.Disk.view c.take.new.disk;
      faults = g.D.Disk.faults c.take.new.disk;
      reads = g.D.Disk.reads c.take.new.disk;
      runs = c.take.new.merger.runs.items;
      winners = c.take.new.merger.winners.items;
      consumed = c.take.new.merger.consumed;
      pairs = c.take.new.arena.pairs;
      items = c.take.new.group;
    })
    c.in-Some-next.run' = record {
      passes = c.in_default-take.ensures.ok;
      adds = c.in_default-take.ensures.found;
      won = c.in_default-take.ensures.kept;
      len = c.in_default-take.ensures.len;
      slots = c.in_default-take.ensures.room;
      counted = c.in_default-take.ensures.state;
      fits = c.in_default-take.ensures.fits;
      low = c.in_default-take.ensures.end;
      reads = c.in_default-take.ensures.reads;
    } in
    group_filled g.R.Run.view g.met.R.Run.leaves_run _ _ _ c.in-Some-next.run' gathering took

pub loop-next-smaller : goal.loop-next-smaller
loop-next-smaller g c =
    let gathering = at_next c.in-Some-next.run' c.in-Some-next.is c.loop-next.invariant in
    let took : Took g.R.Run.view
    (record {
      disk = g.D.Disk.view c.loop-next.disk;
      faults = g.D.Disk.faults c.loop-next.disk;
      reads = g.D.Disk.reads c.loop-next.disk;
      runs = c.loop-next.merger.runs.items;
      winners = c.loop-next.merger.winners.items;
      consumed = c.loop-next.merger.consumed;
      pairs = c.loop-next.arena.pairs;
      items = c.loop-next.group;
    })
    (record {
      disk = g.D.Disk.view c.take.new.disk;
      faults = g.D.Disk.faults c.take.new.disk;
      reads = g.D.Disk.reads c.take.new.disk;
      runs = c.take.new.merger.runs.items;
      winners = c.take.new.merger.winners.items;
      consumed = c.take.new.merger.consumed;
      pairs = c.take.new.arena.pairs;
      items = c.take.new.group;
    })
    c.in-Some-next.run' = record {
      passes = c.in_default-take.ensures.ok;
      adds = c.in_default-take.ensures.found;
      won = c.in_default-take.ensures.kept;
      len = c.in_default-take.ensures.len;
      slots = c.in_default-take.ensures.room;
      counted = c.in_default-take.ensures.state;
      fits = c.in_default-take.ensures.fits;
      low = c.in_default-take.ensures.end;
      reads = c.in_default-take.ensures.reads;
    } in
    subst (λ o. turns_left (map g.R.Run.view c.take.new.merger.runs.items) c.leader_of_key-next.result < turns_left (map g.R.Run.view c.loop-next.merger.runs.items) o) (sym c.in-Some-next.is)
    (turns_fall g.R.Run.view g.met.R.Run.leaves_run _ _ _ c.in-Some-next.run' gathering took c.leader_of_key-next.result c.key_of_group-key.result.now c.key_of_group-key.ensures.ok
    (subst (λ rs. IfSome c.leader_of_key-next.result (λ w. w < length rs)) c.deref-in-Some-next.ensures.value c.leader_of_key-next.ensures.fits)
    (subst (λ rs. IfSome c.leader_of_key-next.result (λ w. (e : Entry) × (Leads (map g.R.Run.view rs) w e × (is_of c.key_of_group-key.result.now e ≡ true)))) c.deref-in-Some-next.ensures.value c.leader_of_key-next.ensures.found))

pub loop-next-preserved : goal.loop-next-preserved
loop-next-preserved g c =
    let gathering = at_next c.in-Some-next.run' c.in-Some-next.is c.loop-next.invariant in
    let took : Took g.R.Run.view
    (record {
      disk = g.D.Disk.view c.loop-next.disk;
      faults = g.D.Disk.faults c.loop-next.disk;
      reads = g.D.Disk.reads c.loop-next.disk;
      runs = c.loop-next.merger.runs.items;
      winners = c.loop-next.merger.winners.items;
      consumed = c.loop-next.merger.consumed;
      pairs = c.loop-next.arena.pairs;
      items = c.loop-next.group;
    })
    (record {
      disk = g.D.Disk.view c.take.new.disk;
      faults = g.D.Disk.faults c.take.new.disk;
      reads = g.D.Disk.reads c.take.new.disk;
      runs = c.take.new.merger.runs.items;
      winners = c.take.new.merger.winners.items;
      consumed = c.take.new.merger.consumed;
      pairs = c.take.new.arena.pairs;
      items = c.take.new.group;
    })
    c.in-Some-next.run' = record {
      passes = c.in_default-take.ensures.ok;
      adds = c.in_default-take.ensures.found;
      won = c.in_default-take.ensures.kept;
      len = c.in_default-take.ensures.len;
      slots = c.in_default-take.ensures.room;
      counted = c.in_default-take.ensures.state;
      fits = c.in_default-take.ensures.fits;
      low = c.in_default-take.ensures.end;
      reads = c.in_default-take.ensures.reads;
    } in
    gathering_next g.R.Run.view g.met.R.Run.leaves_run _ _ _ c.in-Some-next.run' gathering took c.leader_of_key-next.result c.key_of_group-key.result.now c.key_of_group-key.ensures.ok
    (subst (λ rs. IfSome c.leader_of_key-next.result (λ w. w < length rs)) c.deref-in-Some-next.ensures.value c.leader_of_key-next.ensures.fits)
    (subst (λ rs. IfSome c.leader_of_key-next.result (λ w. (e : Entry) × (Leads (map g.R.Run.view rs) w e × (is_of c.key_of_group-key.result.now e ≡ true)))) c.deref-in-Some-next.ensures.value c.leader_of_key-next.ensures.found)
    (subst (λ rs. IfNone c.leader_of_key-next.result (LeadsAside (map g.R.Run.view rs) c.key_of_group-key.result.now)) c.deref-in-Some-next.ensures.value c.leader_of_key-next.ensures.none)

pub returns-clause-found : goal.returns-clause-found
returns-clause-found g c more =
    (c.loop-next.invariant.key, group_given g.R.Run.view g.met.R.Run.leaves_run _ _ c.loop-next.next c.in_default-next.is c.loop-next.invariant)

pub returns-clause-ok : goal.returns-clause-ok
returns-clause-ok g c more =
    next_taken g.R.Run.view g.met.R.Run.leaves_run _ _ c.loop-next.next c.in_default-next.is c.loop-next.invariant
