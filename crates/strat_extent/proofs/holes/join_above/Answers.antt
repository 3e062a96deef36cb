use Rattle.std.proofs.Common.{◌≡◌, ◌+◌, ◌<◌, ◌≤◌, get_or, ap, ◌∙◌, arith}
use Rattle.strat_base.specs.declared.descriptors.Extent.{Extent}
use Rattle.strat_extent.proofs.CountLemmas.{total_remove}
use Rattle.strat_extent.proofs.RunLemmas.{run_at, above_joined, above_counted, same_read}
use Rattle.strat_extent.proofs.holes.join_above.Goals as goal

-- the hole that was taken out begins where the run ends
touches : (c : goal.After-struct_known-in-Some-2-1) → c.in-Some.above.start ≡ c.args.run.start + c.args.run.len
touches c = ap (λ (z : Extent). z.start) (same_read c.args.holes.now.items c.args.at _ _ (omega arith) c.in-Some.ensures.value c.index.ensures) ∙ c.if-index-run.true

pub overflow_add-result : goal.overflow_add-result
overflow_add-result c =
    let at : (0 ≤ (get_or c.args.holes.now.items c.args.at c.in-Some.above).start) × (0 < (get_or c.args.holes.now.items c.args.at c.in-Some.above).len)
    × ((get_or c.args.holes.now.items c.args.at c.in-Some.above).start + (get_or c.args.holes.now.items c.args.at c.in-Some.above).len < 4294967296)
    = run_at 0 4294967296 c.args.holes.now.items c.args.at c.in-Some.above c.requires.kept (omega arith) in
    omega (arith, at.2, touches c, ap (λ (z : Extent). z.start) c.in-Some.ensures.value, ap (λ (z : Extent). z.len) c.in-Some.ensures.value)

pub returns-in-Some-clause-ok : goal.returns-in-Some-clause-ok
returns-in-Some-clause-ok c low from high top g =
    rw c.in-Some.ensures.items (above_joined low from high _ _ c.args.run c.in-Some.above (omega arith) c.in-Some.ensures.value (touches c) g)

pub returns-in-Some-clause-found : goal.returns-in-Some-clause-found
returns-in-Some-clause-found c b =
    rw c.in-Some.ensures.items (above_counted _ _ c.args.run c.in-Some.above b (omega arith) c.in-Some.ensures.value (touches c))

pub returns-in-Some-clause-len : goal.returns-in-Some-clause-len
returns-in-Some-clause-len c =
    rw c.in-Some.ensures.items (omega (arith, total_remove c.args.holes.now.items c.args.at c.in-Some.above (omega arith) c.in-Some.ensures.value))

pub returns-in-Some-clause-fits : goal.returns-in-Some-clause-fits
returns-in-Some-clause-fits c =
    let at : (0 ≤ (get_or c.args.holes.now.items c.args.at c.in-Some.above).start) × (0 < (get_or c.args.holes.now.items c.args.at c.in-Some.above).len)
    × ((get_or c.args.holes.now.items c.args.at c.in-Some.above).start + (get_or c.args.holes.now.items c.args.at c.in-Some.above).len < 4294967296)
    = run_at 0 4294967296 c.args.holes.now.items c.args.at c.in-Some.above c.requires.kept (omega arith) in (
      omega (arith, c.in-Some.ensures.len),
      omega (arith, c.in-Some.ensures.len),
      omega arith,
      omega (arith, at.2, touches c, ap (λ (z : Extent). z.start) c.in-Some.ensures.value, ap (λ (z : Extent). z.len) c.in-Some.ensures.value),
    )
