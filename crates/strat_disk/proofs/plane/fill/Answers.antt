use Rattle.std.proofs.Common.{◌<◌, slice_index, length, arith}
use Rattle.def_crash.proofs.ImageLemmas.{is_window}
use Rattle.strat_disk.proofs.plane.fill.Goals as goal

pub returns : goal.returns
returns c =
    is_window (slice_index c.args.bytes.now.items) c.args.at (length c.args.into.now) _ c.loop-i.auto.into
    (λ i is. let passed : i < c.loop-i.i = omega arith in c.loop-i.invariant i passed)
