use Rattle.std.proofs.Common.{◌<◌, length}
use Rattle.strat_merge.specs.Bracket.{IsBracket, PlayedBeside}
use Rattle.strat_merge.proofs.bracket.replay.Given as goal

abbrev pub invariant-loop-k : goal.invariant-loop-k
invariant-loop-k g l = record {
  low : l.k < length (g.C.Contest.contenders l.contest);
  bracket : IsBracket (length (g.C.Contest.contenders l.contest)) l.winners;
  beside : PlayedBeside (g.C.Contest.contenders l.contest) l.winners l.k;
}

abbrev pub decreases-loop-k : goal.decreases-loop-k
decreases-loop-k g l = l.k
