use Rattle.std.proofs.Common.{◌==◌, if◌then◌else◌, drop, ap, ◌∙◌, arith}
use Rattle.std.proofs.Math.ListN.{set}
use Rattle.strat_model.proofs.PlainLemmas.{map_step}
use Rattle.strat_model.specs.Table.{Cursor}
use Rattle.strat_model.proofs.plain_rows.advance.Goals as goal

pub loop-cursor-preserved : goal.loop-cursor-preserved
loop-cursor-preserved c =
    let taken : Cursor → Cursor = λ x. if x.number == c.args.number then record x { left = drop c.args.limit x.left } else x in
    ap (set c.loop-cursor.cursors c.loop-cursor.cursor-index) c.skip.ensures.ok
    ∙ map_step taken c.args.cursors.now c.loop-cursor.cursors c.loop-cursor.cursor-index c.cursor-item.result (omega arith) c.loop-cursor.invariant
