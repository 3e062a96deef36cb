use Rattle.std.proofs.Common.{leb, rules}
use Rattle.std.proofs.lemmas.List.Sorted.{IsPartitionPoint-from_clause}
use Rattle.strat_live.specs.declared.tops.Interval.{Interval}
use Rattle.strat_live.proofs.TopsLemmas.{tops_parted, place_from_point}
use Rattle.strat_live.proofs.tops.place_of.Goals as goal

pub returns-clause-ok : goal.returns-clause-ok
returns-clause-ok c = λ apart.
    let point = IsPartitionPoint-from_clause (λ (top : Interval). leb top.start c.args.start) _ _ c.partition_point.ensures.partitioned (tops_parted c.args.tops.now c.args.start apart) (λ a r q k. search rules) in
    place_from_point c.args.tops.now c.args.start c.partition_point.result c.partition_point.ensures.bound point
