use Rattle.std.proofs.Common.{◌/◌, sym, subst, arith}
use Rattle.strat_merge.specs.Bracket.{PlayedBeside}
use Rattle.strat_merge.proofs.BracketLemmas.{replayed_more, replayed_all}
use Rattle.strat_merge.proofs.bracket.replay.Goals as goal

pub loop-k-preserved : goal.loop-k-preserved
loop-k-preserved g c =
    let beside = replayed_more (g.C.Contest.contenders c.args.contest.now) c.loop-k.winners c.loop-k.k (omega arith) c.loop-k.invariant.low c.loop-k.invariant.bracket.nodes c.loop-k.invariant.beside in
    record {
      low = omega arith;
      bracket = c.play.ensures.kept;
      beside = subst (λ w. PlayedBeside (g.C.Contest.contenders c.args.contest.now) w (c.loop-k.k / 2)) (sym c.play.ensures.ok) beside;
    }

pub returns : goal.returns
returns g c = record { ok = replayed_all (g.C.Contest.contenders c.args.contest.now) c.loop-k.winners c.loop-k.k (omega arith) c.loop-k.invariant.bracket c.loop-k.invariant.beside }
