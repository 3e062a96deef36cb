use Rattle.std.proofs.Common.{ltb, rules}
use Rattle.std.proofs.lemmas.List.Sorted.{IsPartitionPoint-from_clause}
use Rattle.strat_arena.specs.declared.items.Item.{Item}
use Rattle.strat_check.proofs.HeldLemmas.{above_parted, above_first, behind_below}
use Rattle.strat_check.proofs.stray_group.count_above.Goals as goal

pub returns-clause-ok : goal.returns-clause-ok
returns-clause-ok c =
    let point = IsPartitionPoint-from_clause (λ (item : Item). ltb c.args.version item.version) _ _ c.partition_point.ensures.partitioned (above_parted c.args.items.now c.args.version c.requires.kept) (λ a r q k. search rules) in
    above_first c.args.items.now c.args.version c.partition_point.result c.partition_point.ensures.bound point

pub returns-clause-end : goal.returns-clause-end
returns-clause-end c =
    let point = IsPartitionPoint-from_clause (λ (item : Item). ltb c.args.version item.version) _ _ c.partition_point.ensures.partitioned (above_parted c.args.items.now c.args.version c.requires.kept) (λ a r q k. search rules) in
    behind_below c.args.items.now c.args.version c.partition_point.result c.requires.kept point
