use Rattle.std.proofs.Common.{arith}
use Rattle.strat_cursor.proofs.OpenedLemmas.{none_keeps}
use Rattle.strat_cursor.proofs.cursors.Cursors.new.Goals as goal

pub invariant_of-result : goal.invariant_of-result
invariant_of-result c =
    let kept = none_keeps 1 64 c.in_ok-opened.opened.items c.in_ok-retired.retired.items c.in_ok-opened.ensures.items c.in_ok-retired.ensures.items in
    record { numbered = kept.numbered; few = kept.few; space = omega (arith, c.in_ok-opened.ensures.exact); named = kept.named }
