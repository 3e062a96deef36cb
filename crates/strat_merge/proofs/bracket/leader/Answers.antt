use Rattle.std.proofs.Common.{refl, sym, ◌∙◌}
use Rattle.strat_merge.proofs.BracketLemmas.{root_first, root_last}
use Rattle.strat_merge.proofs.bracket.leader.Goals as goal

pub returns-then-has_left-clause-ok : goal.returns-then-has_left-clause-ok
returns-then-has_left-clause-ok g c =
    root_first (g.C.Contest.contenders c.args.contest.now) c.args.winners.now c.requires.found _ refl

pub returns-else-has_left-clause-none : goal.returns-else-has_left-clause-none
returns-else-has_left-clause-none g c =
    root_last (g.C.Contest.contenders c.args.contest.now) c.args.winners.now c.requires.found _ refl (sym c.has_left.ensures.ok ∙ c.if-has_left.false)
