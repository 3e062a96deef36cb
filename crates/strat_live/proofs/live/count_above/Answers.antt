use Rattle.std.proofs.Common.{ltb, rules}
use Rattle.std.proofs.lemmas.List.Sorted.{IsPartitionPoint-from_clause}
use Rattle.strat_arena.specs.declared.items.Item.{Item}
use Rattle.strat_live.proofs.AboveLemmas.{above_parted, above_end}
use Rattle.strat_live.proofs.live.count_above.Goals as goal

pub returns-clause-ok : goal.returns-clause-ok
returns-clause-ok c =
    let point = IsPartitionPoint-from_clause (λ (item : Item). ltb c.args.v item.version) _ _ c.partition_point.ensures.partitioned (above_parted c.args.group.now c.args.v c.requires.kept) (λ a r q k. search rules) in
    above_end c.args.group.now c.args.v c.partition_point.result c.partition_point.ensures.bound point
