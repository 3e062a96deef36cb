use Rattle.std.proofs.Common.{◌≡◌, ◌+◌, ◌-◌, ◌<◌, ◌≤◌, List, get_or, ap, refl, arith}
use Rattle.std.specs.List.{remove}
use Rattle.strat_base.specs.declared.descriptors.Extent.{Extent}
use Rattle.strat_extent.specs.Blocks.{inside, times_in, total_len}
use Rattle.strat_extent.specs.Gap.{IsGap}
use Rattle.strat_extent.proofs.CountLemmas.{inside_same, total_remove}
use Rattle.strat_extent.proofs.RunLemmas.{run_at, runs_joined, gap_weaker, cut_gap, cut_counted}
use Rattle.strat_extent.proofs.holes.cut_hole.Goals as goal

pub overflow_add-above : goal.overflow_add-above
overflow_add-above c =
    let at : (0 ≤ (get_or c.args.holes.now.items c.args.i c.in-Some.hole).start) × (0 < (get_or c.args.holes.now.items c.args.i c.in-Some.hole).len)
    × ((get_or c.args.holes.now.items c.args.i c.in-Some.hole).start + (get_or c.args.holes.now.items c.args.i c.in-Some.hole).len < 4294967296)
    = run_at 0 4294967296 c.args.holes.now.items c.args.i c.in-Some.hole c.requires.kept c.requires.found.within in
    omega (arith, at.2, ap (λ (z : Extent). z.start + z.len) c.in-Some.ensures.value)

pub returns-in-Some-clause-ok : goal.returns-in-Some-clause-ok
returns-in-Some-clause-ok c low high a =
    let start : c.in-Some.hole.start ≤ c.args.run.start = omega (arith, ap (λ (z : Extent). z.start) c.in-Some.ensures.value, c.requires.found.start c.in-Some.hole) in
    let end : c.args.run.start + c.args.run.len ≤ c.in-Some.hole.start + c.in-Some.hole.len
    = omega (arith, ap (λ (z : Extent). z.start + z.len) c.in-Some.ensures.value, c.requires.found.end c.in-Some.hole) in
    let cut : IsGap low (remove c.args.holes.now.items c.args.i) c.args.i c.in-Some.hole.start (c.in-Some.hole.start + c.in-Some.hole.len + 1) high
    × (low ≤ c.in-Some.hole.start) × (c.in-Some.hole.start + c.in-Some.hole.len < high)
    = cut_gap low high c.args.holes.now.items c.args.i c.in-Some.hole c.requires.found.within c.in-Some.ensures.value a in
    let above : IsGap low c.put_run.new.holes.items c.args.i c.in-Some.hole.start (c.args.run.start + c.args.run.len) high
    = c.put_run.ensures.ok low c.in-Some.hole.start high (omega (arith, cut.1)) (omega arith) (omega (arith, cut.2))
    (gap_weaker low low c.in-Some.hole.start c.in-Some.hole.start (c.in-Some.hole.start + c.in-Some.hole.len + 1) _ high high c.remove.new.self.items c.args.i
    (omega arith) (omega arith) (omega arith) (omega arith) (rw c.in-Some.ensures.items cut.0)) in
    let below : IsGap low c.put_run-in-Some.new.holes.items c.args.i c.in-Some.hole.start c.in-Some.hole.start high
    = c.put_run-in-Some.ensures.ok low c.in-Some.hole.start high cut.1 (omega arith) (omega (arith, cut.2))
    (gap_weaker low low c.in-Some.hole.start c.in-Some.hole.start (c.args.run.start + c.args.run.len) _ high high c.put_run.new.holes.items c.args.i
    (omega arith) (omega arith) (omega arith) (omega arith) above) in
    runs_joined low c.in-Some.hole.start c.in-Some.hole.start high c.put_run-in-Some.new.holes.items c.args.i cut.1 (omega arith) (omega (arith, cut.2))
    below.before below.after

pub returns-in-Some-clause-found : goal.returns-in-Some-clause-found
returns-in-Some-clause-found c b =
    let start : c.in-Some.hole.start ≤ c.args.run.start = omega (arith, ap (λ (z : Extent). z.start) c.in-Some.ensures.value, c.requires.found.start c.in-Some.hole) in
    let end : c.args.run.start + c.args.run.len ≤ c.in-Some.hole.start + c.in-Some.hole.len
    = omega (arith, ap (λ (z : Extent). z.start + z.len) c.in-Some.ensures.value, c.requires.found.end c.in-Some.hole) in
    let counted : inside c.args.run.start (c.args.run.start + c.args.run.len) b + (inside c.in-Some.hole.start c.args.run.start b
    + (inside (c.args.run.start + c.args.run.len) (c.in-Some.hole.start + c.in-Some.hole.len) b + times_in (remove c.args.holes.now.items c.args.i) b))
    ≡ times_in c.args.holes.now.items b
    = cut_counted c.args.holes.now.items c.args.i c.args.run c.in-Some.hole b c.requires.found.within c.in-Some.ensures.value start end in
    omega (
      arith,
      counted,
      ap (λ (z : List Extent). times_in z b) c.in-Some.ensures.items,
      c.put_run.ensures.found b,
      c.put_run-in-Some.ensures.found b,
      inside_same (c.args.run.start + c.args.run.len) (c.args.run.start + c.args.run.len)
          (c.args.run.start + c.args.run.len + (c.in-Some.hole.start + c.in-Some.hole.len - (c.args.run.start + c.args.run.len)))
          (c.in-Some.hole.start + c.in-Some.hole.len) b refl (omega arith),
      inside_same c.in-Some.hole.start c.in-Some.hole.start (c.in-Some.hole.start + (c.args.run.start - c.in-Some.hole.start)) c.args.run.start b refl (omega arith),
    )

pub returns-in-Some-clause-len : goal.returns-in-Some-clause-len
returns-in-Some-clause-len c =
    omega (
      arith,
      ap (λ (z : Extent). z.start) c.in-Some.ensures.value,
      c.requires.found.start c.in-Some.hole,
      ap (λ (z : Extent). z.start + z.len) c.in-Some.ensures.value,
      c.requires.found.end c.in-Some.hole,
      total_remove c.args.holes.now.items c.args.i c.in-Some.hole c.requires.found.within c.in-Some.ensures.value,
      ap total_len c.in-Some.ensures.items,
    )
