use Rattle.std.proofs.Common.{◌-◌, ◌+◌, ◌^◌, ℕ, map, length, ap, ◌∙◌, arith}
use Rattle.std.specs.List.{range_with_len}
use Rattle.strat_level.specs.Levels.{level_numbered, leads_if_any}
use Rattle.strat_promote.proofs.EdgeLemmas.{down_first, down_more, down_least, first_few}
use Rattle.strat_promote.proofs.edges.leads_to.Goals as goal

pub loop-number-init : goal.loop-number-init
loop-number-init c =
    let first = down_first (length c.args.zero.now.list.items) (map (λ n. leads_if_any (level_numbered c.args.levels.now n)) (range_with_len 1 22)) in
    let few = first_few (length c.args.zero.now.list.items) (2 ^ 24) (map (λ n. leads_if_any (level_numbered c.args.levels.now n)) (range_with_len 1 22)) c.requires.fits in
    record {
      counted = ap length c.items.ensures.ok ∙ first;
      few = rw c.items.ensures.ok (omega (arith, few));
      near = omega arith;
    }

pub loop-number-preserved : goal.loop-number-preserved
loop-number-preserved c = record {
  counted = ap (λ (n : ℕ). c.loop-number.total + n) c.leads.ensures.ok
      ∙ down_more (λ n. leads_if_any (level_numbered c.args.levels.now n)) (length c.args.zero.now.list.items) c.loop-number.number c.loop-number.total (omega arith) (omega arith) c.loop-number.invariant.counted;
  few = omega (arith, c.loop-number.invariant.few);
  near = omega arith;
}

pub returns : goal.returns
returns c = record {
  ok = down_least (λ n. leads_if_any (level_numbered c.args.levels.now n)) (length c.args.zero.now.list.items) (c.loop-number.number - 1) c.args.target c.loop-number.total
      (omega (arith, c.loop-number.auto.number, c.loop-number.auto.number-end, c.loop-number-test.false, c.loop-number.invariant.near, c.min-number-end.ensures)) c.loop-number.invariant.counted;
}

pub returns-2 : goal.returns-2
returns-2 c =
    let more = down_more (λ n. leads_if_any (level_numbered c.args.levels.now n)) (length c.args.zero.now.list.items) c.loop-number.number c.loop-number.total (omega arith) (omega arith) c.loop-number.invariant.counted in
    record {
      ok = ap (λ (n : ℕ). c.loop-number.total + n) c.leads.ensures.ok
          ∙ down_least (λ n. leads_if_any (level_numbered c.args.levels.now n)) (length c.args.zero.now.list.items) (c.loop-number.number + 1 - 1) c.args.target _ (omega arith) more;
    }
