use Rattle.std.proofs.Common.{◌<◌, ◌+◌, List, ◌++◌, length, ◌∙◌, ap, arith, sym}
use Rattle.std.specs.Option.{option_to_list, option_and_then}
use Rattle.strat_base.specs.declared.descriptors.ArrayDesc.{ArrayDesc}
use Rattle.strat_level.specs.Levels.{desc_for, level_numbered}
use Rattle.strat_cursor.proofs.StartLemmas.{arrays_more}
use Rattle.strat_cursor.proofs.starting.arrays_at.Goals as goal

pub loop-above-preserved : goal.loop-above-preserved
loop-above-preserved c =
    let known = c.loop-above.invariant.2 in
    let within : c.loop-above.above < length c.args.levels.now = omega arith in
    let shorter = c.loop-above.invariant.1 in (
      c.in_ok-add_array.ensures.ok ∙ ap (λ (x : List ArrayDesc). x ++ option_to_list (option_and_then (λ l. desc_for c.args.tree.now.parents l c.args.version) (level_numbered c.args.levels.now (c.loop-above.above + 1)))) c.loop-above.invariant.0 ∙ sym (arrays_more c.args.tree.now.parents c.args.levels.now c.loop-above.above c.args.version within),
      omega (arith, c.in_ok-add_array.ensures.len, shorter),
      known,
    )
