use Rattle.strat_array.proofs.TakenLemmas.{lowest_taken}
use Rattle.strat_array.proofs.blocks.take_lowest.Goals as goal

pub returns-clause-ok : goal.returns-clause-ok
returns-clause-ok c =
    let e = c.in_ok-taken.ensures in
    lowest_taken c.args.space.now c.take.new.self c.in_ok-taken.taken c.get.result.now c.get.ensures.ok e.len e.kept e.ok e.found
