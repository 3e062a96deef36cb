use Rattle.std.proofs.Common.{◌≡◌, ◌+◌, ◌-◌, ◌<◌, ◌≤◌, suc, get_or, take, sym, ap, ◌∙◌, eqb-true, arith}
use Rattle.std.proofs.lemmas.List.{get_or_default}
use Rattle.std.proofs.lemmas.Bool.{eqb-false}
use Rattle.strat_base.specs.declared.descriptors.Extent.{Extent}
use Rattle.strat_extent.specs.Blocks.{AreRuns, total_len}
use Rattle.strat_extent.specs.Gap.{IsGap}
use Rattle.strat_extent.proofs.CountLemmas.{total_remove}
use Rattle.strat_extent.proofs.RunLemmas.{run_at, gap_before, below_joined, below_counted, same_read}
use Rattle.strat_extent.proofs.holes.join_below.Goals as goal
use Rattle.strat_extent.proofs.holes.join_below.Goals.{else-at-gt0-via-then-at-gt0+else-ends_at, else-at-gt0-via-else-at-gt0}

pub ends_at-requires : goal.ends_at-requires
ends_at-requires c =
    let at : (0 ≤ (get_or c.args.holes.now.items (c.args.at - 1) c.index.result.now).start) × (0 < (get_or c.args.holes.now.items (c.args.at - 1) c.index.result.now).len)
    × ((get_or c.args.holes.now.items (c.args.at - 1) c.index.result.now).start + (get_or c.args.holes.now.items (c.args.at - 1) c.index.result.now).len < 4294967296)
    = run_at 0 4294967296 c.args.holes.now.items (c.args.at - 1) c.index.result.now c.requires.kept (omega arith) in
    omega (arith, at.2, ap (λ (z : Extent). z.start) c.index.ensures, ap (λ (z : Extent). z.len) c.index.ensures)

pub returns-in-Some-clause-ok : goal.returns-in-Some-clause-ok
returns-in-Some-clause-ok c low to high top g =
    let at : c.args.at ≡ suc (c.args.at - 1) = omega arith in
    rw c.in-Some.ensures.items (below_joined low to high c.args.holes.now.items (c.args.at - 1) c.args.run c.in-Some.below (omega arith) c.in-Some.ensures.value
    (rw at at g))

pub returns-in-Some-clause-found : goal.returns-in-Some-clause-found
returns-in-Some-clause-found c b =
    let same : c.in-Some.below ≡ c.index.result.now
    = same_read c.args.holes.now.items (c.args.at - 1) _ _ (omega arith) c.in-Some.ensures.value c.index.ensures in
    let touches : c.in-Some.below.start + c.in-Some.below.len ≡ c.args.run.start
    = ap (λ (z : Extent). z.start + z.len) same ∙ eqb-true (c.index.result.now.start + c.index.result.now.len) c.args.run.start (sym c.ends_at.ensures.ok ∙ c.if-ends_at.true) in
    rw c.in-Some.ensures.items (below_counted c.args.holes.now.items (c.args.at - 1) c.args.run c.in-Some.below b (omega arith) c.in-Some.ensures.value touches)

pub returns-in-Some-clause-len : goal.returns-in-Some-clause-len
returns-in-Some-clause-len c =
    omega (
      arith,
      ap total_len c.in-Some.ensures.items,
      total_remove c.args.holes.now.items (c.args.at - 1) c.in-Some.below (omega arith) c.in-Some.ensures.value,
    )

pub returns-else-at-gt0-clause-ok : goal.returns-else-at-gt0-clause-ok
returns-else-at-gt0-clause-ok c low to high top g =
    elim c.else-at-gt0.branch [
      | else-at-gt0-via-then-at-gt0+else-ends_at w ↦
          let at : c.args.at ≡ suc (c.args.at - 1) = omega arith in
          let other : (d : Extent) → (get_or c.args.holes.now.items (c.args.at - 1) d).start + (get_or c.args.holes.now.items (c.args.at - 1) d).len ≡ c.args.run.start → ⊥
          = λ d e. eqb-false _ _ (sym w.ends_at.ensures.ok ∙ w.if-ends_at.false) (ap (λ (z : Extent). z.start + z.len)
          (w.index.ensures ∙ get_or_default c.args.holes.now.items (c.args.at - 1) w.index.result.now d (omega arith)) ∙ e) in
          let gap : IsGap low c.args.holes.now.items (suc (c.args.at - 1)) c.args.run.start to high
          = gap_before low c.args.run.start to high c.args.holes.now.items (c.args.at - 1) (omega arith) other (rw at at g) in
          (rw at gap, top)
      | else-at-gt0-via-else-at-gt0 w ↦
          let at : c.args.at ≡ 0 = omega arith in
          let before : AreRuns low (take c.args.at c.args.holes.now.items) c.args.run.start = rw at tt in
          (record { before = before; after = g.after }, top)
    ]
