use Rattle.std.proofs.Common.{leb, rules}
use Rattle.std.proofs.lemmas.List.Sorted.{IsPartitionPoint-from_clause}
use Rattle.strat_check.specs.declared.bare.Bare.{Bare}
use Rattle.strat_check.proofs.BareLemmas.{bare_parted, place_from_point}
use Rattle.strat_check.proofs.bare.count_from.Goals as goal

pub returns-clause-ok : goal.returns-clause-ok
returns-clause-ok c = λ ordered.
    let point = IsPartitionPoint-from_clause (λ (b : Bare). leb c.args.number b.start) _ _ c.partition_point.ensures.partitioned (bare_parted c.args.bare.now c.args.number ordered) (λ a r q k. search rules) in
    place_from_point c.args.bare.now c.args.number c.partition_point.result c.partition_point.ensures.bound point
