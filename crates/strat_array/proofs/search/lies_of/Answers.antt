use Rattle.std.proofs.Common.{sym, ◌∙◌, arith, false, true}
use Rattle.strat_array.proofs.LyingLemmas.{starts_is, behind_first}
use Rattle.strat_array.proofs.search.lies_of.Goals as goal

pub returns-then-not-is_below : goal.returns-then-not-is_below
returns-then-not-is_below c = record { ok = starts_is c.args.key.now c.args.block.now false (omega (arith, c.len-len.ensures.ok, c.len-len.ensures.len)) (λ d. sym c.if-not-is_below.true ∙ c.is_below.ensures.ok d) }

pub returns-then-i-len : goal.returns-then-i-len
returns-then-i-len c = record {
  ok = (
    c.first_at_or_after-i.ensures.ok,
    behind_first c.args.key.now c.args.block.now c.first_at_or_after-i.result c.first_at_or_after-i.ensures.ok
        (starts_is c.args.key.now c.args.block.now true (omega (arith, c.len-len.ensures.ok, c.len-len.ensures.len)) (λ d. sym c.if-not-is_below.false ∙ c.is_below.ensures.ok d)),
    omega (arith, c.if-i-len.true, c.len-len.ensures.ok),
  );
}
