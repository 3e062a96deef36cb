use Rattle.std.proofs.Common.{◌≡◌, Bor, Option, None, Some, is_some, refl, sym, ap, ◌∙◌, arith}
use Rattle.std.specs.Option.{option_copied}
use Rattle.strat_promote.proofs.EdgeLemmas.{none_deeper, one_deeper}
use Rattle.strat_promote.proofs.edges.is_deepest.Goals as goal

copied_some : {T : Type 0} (o : Option (Bor T)) → is_some (option_copied o) ≡ is_some o
copied_some None = refl
copied_some (Some x) = refl

pub returns-then-is_some : goal.returns-then-is_some
returns-then-is_some c = record {
  ok = sym (one_deeper c.args.levels.now c.args.target c.loop-number.number c.get-level.ensures.len c.if-number-target.true (omega arith)
      (ap is_some (sym c.get-level.ensures.ok) ∙ copied_some c.get-level.result ∙ sym c.is_some.ensures ∙ c.if-is_some.true));
}

pub returns : goal.returns
returns c = record {
  ok = sym (none_deeper c.args.levels.now c.args.target (c.loop-number.invariant.len (omega arith))
      (λ n above below. c.loop-number.invariant.none n above (omega (arith, below))));
}
