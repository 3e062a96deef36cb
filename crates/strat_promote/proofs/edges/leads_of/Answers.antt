use Rattle.std.proofs.Common.{◌≡◌, ◌-◌, ℕ, map, length, ◌++◌, ◌∷◌, [], ap, ◌∙◌, arith}
use Rattle.std.specs.List.{range_with_len}
use Rattle.strat_level.specs.Levels.{level_numbered, leads_if_any}
use Rattle.strat_promote.proofs.EdgeLemmas.{leads_more}
use Rattle.strat_promote.proofs.edges.leads_of.Goals as goal

pub loop-number-preserved : goal.loop-number-preserved
loop-number-preserved c =
    c.in_ok-push-2.ensures.items ∙ ap (λ x. c.loop-number.leads.items ++ x ∷ []) c.leads.ensures.ok
    ∙ leads_more (λ n. leads_if_any (level_numbered c.args.levels.now n)) _ c.loop-number.number _ c.loop-number.auto.number c.loop-number.invariant

pub returns : goal.returns
returns c =
    let end : c.loop-number.number ≡ 23 = omega arith in
    record {
      ok = c.loop-number.invariant
          ∙ ap (λ (m : ℕ). length c.args.zero.now.list.items ∷ map (λ n. leads_if_any (level_numbered c.args.levels.now n)) (range_with_len 1 (m - 1))) end;
    }
