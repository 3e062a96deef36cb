use Rattle.std.proofs.Common.{◌+◌, ◌≤◌, arith}
use Rattle.strat_extent.specs.Gap.{IsGap}
use Rattle.strat_extent.proofs.RunLemmas.{runs_joined, gap_weaker}
use Rattle.strat_extent.proofs.holes.join_run.Goals as goal

pub join_above-upper-requires-clause-kept : goal.join_above-upper-requires-clause-kept
join_above-upper-requires-clause-kept c =
    runs_joined 0 (c.args.run.start + 1) (c.args.run.start + c.args.run.len) 4294967296 c.args.holes.now.items c.args.at
    (omega arith) (omega arith) (omega arith) c.requires.kept.before c.requires.kept.after

pub join_below-requires-clause-kept : goal.join_below-requires-clause-kept
join_below-requires-clause-kept c =
    let upper : IsGap 0 c.join_above-upper.new.holes.items c.args.at (c.args.run.start + 1) (c.join_above-upper.result.start + c.join_above-upper.result.len + 1) 4294967296
    × (c.join_above-upper.result.start + c.join_above-upper.result.len ≤ 4294967296)
    = c.join_above-upper.ensures.ok 0 (c.args.run.start + 1) 4294967296 (omega arith) c.requires.kept in
    runs_joined 0 (c.args.run.start + 1) (c.join_above-upper.result.start + c.join_above-upper.result.len + 1) 4294967296 c.join_above-upper.new.holes.items c.args.at
    (omega arith) (omega arith) (omega arith) upper.0.before upper.0.after

pub returns-clause-ok : goal.returns-clause-ok
returns-clause-ok c low high le top g =
    let upper : IsGap low c.join_above-upper.new.holes.items c.args.at (c.args.run.start + 1) (c.join_above-upper.result.start + c.join_above-upper.result.len + 1) high
    × (c.join_above-upper.result.start + c.join_above-upper.result.len ≤ high)
    = c.join_above-upper.ensures.ok low (c.args.run.start + 1) high top g in
    let lower : IsGap low c.join_below.new.holes.items c.join_below.result.0 c.join_below.result.1.start (c.join_above-upper.result.start + c.join_above-upper.result.len + 1) high
    × (low ≤ c.join_below.result.1.start)
    = c.join_below.ensures.ok low (c.join_above-upper.result.start + c.join_above-upper.result.len + 1) high (omega arith)
    (gap_weaker low low (c.args.run.start + 1) (c.join_above-upper.result.start + 1) _ _ high high c.join_above-upper.new.holes.items c.args.at
    (omega arith) (omega arith) (omega arith) (omega arith) upper.0) in (
      gap_weaker low low c.join_below.result.1.start c.join_below.result.1.start (c.join_above-upper.result.start + c.join_above-upper.result.len + 1)
          (c.join_below.result.1.start + c.join_below.result.1.len + 1) high high c.join_below.new.holes.items c.join_below.result.0
          (omega arith) (omega arith) (omega arith) (omega arith) lower.0,
      lower.1,
      omega (arith, upper.1),
    )
