use Rattle.std.proofs.Common.{ltb, rules}
use Rattle.std.proofs.lemmas.List.Sorted.{IsPartitionPoint-from_clause}
use Rattle.strat_split.proofs.WaitingLemmas.{parted, place_from_point}
use Rattle.strat_split.proofs.waiting.place_for.Goals as goal

pub returns-clause-ok : goal.returns-clause-ok
returns-clause-ok c = λ test off listed.
    let point = IsPartitionPoint-from_clause (λ r. ltb c.args.q r) _ _ c.partition_point.ensures.partitioned (parted test c.args.q off c.args.waiting.now listed) (λ a r q k. search rules) in
    place_from_point test c.args.q off c.args.waiting.now listed c.partition_point.result c.partition_point.ensures.bound point
