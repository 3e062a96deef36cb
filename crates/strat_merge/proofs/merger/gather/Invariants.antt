use Rattle.std.proofs.Common.{map}
use Rattle.strat_merge.proofs.TurnLemmas.{IsGathering, turns_left}
use Rattle.strat_merge.proofs.merger.gather.Given as goal

abbrev pub invariant-loop-next : goal.invariant-loop-next
invariant-loop-next g l =
    IsGathering g.R.Run.view
    (record {
      disk = g.D.Disk.view l.initial.disk;
      faults = g.D.Disk.faults l.initial.disk;
      reads = g.D.Disk.reads l.initial.disk;
      runs = l.initial.merger.runs.items;
      winners = l.initial.merger.winners.items;
      consumed = l.initial.merger.consumed;
      pairs = l.initial.arena.pairs;
      items = l.initial.group;
    })
    (record {
      disk = g.D.Disk.view l.disk;
      faults = g.D.Disk.faults l.disk;
      reads = g.D.Disk.reads l.disk;
      runs = l.merger.runs.items;
      winners = l.merger.winners.items;
      consumed = l.merger.consumed;
      pairs = l.arena.pairs;
      items = l.group;
    })
    l.next

abbrev pub decreases-loop-next : goal.decreases-loop-next
decreases-loop-next g l = turns_left (map g.R.Run.view l.merger.runs.items) l.next
