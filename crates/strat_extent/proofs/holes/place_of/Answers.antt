use Rattle.std.proofs.Common.{◌≡◌, ◌≤◌, ◌<◌, ℕ, leb, rules, arith}
use Rattle.std.proofs.lemmas.Bool.Decides.{nat_tests}
use Rattle.std.specs.List.Sorted.{IsPartitionPoint}
use Rattle.std.proofs.lemmas.List.Sorted.{IsPartitionedBy-leb, IsPartitionPoint-from_clause}
use Rattle.std.specs.Prelude.{true, false}
use Rattle.strat_base.specs.declared.descriptors.Extent.{Extent}
use Rattle.strat_extent.proofs.RunLemmas.{starts_apart}
use Rattle.strat_extent.proofs.holes.place_of.Goals as goal

at_most : (a b : ℕ) → leb a b ≡ true → a ≤ b
at_most a b e = grind (arith, nat_tests)

more : (a b : ℕ) → leb a b ≡ false → b < a
more a b e = grind (arith, nat_tests)

pub returns-clause-ok : goal.returns-clause-ok
returns-clause-ok c low high a =
    let h : IsPartitionPoint (λ (r : Extent). leb r.start c.args.block ≡ true) (λ (r : Extent). leb r.start c.args.block ≡ false) c.args.holes.now.items c.partition_point.result
    = IsPartitionPoint-from_clause (λ (r : Extent). leb r.start c.args.block) c.args.holes.now.items c.partition_point.result c.partition_point.ensures.partitioned
    (IsPartitionedBy-leb (λ (r : Extent). r.start) c.args.holes.now.items c.args.block (starts_apart low high c.args.holes.now.items a)) (λ r b f called. search rules) in
    record {
      before = λ k d lt. at_most _ _ (h.0 k d (omega arith) lt);
      after = λ k d ge lt. more _ _ (h.1 k d ge lt);
    }
