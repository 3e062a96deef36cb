use Rattle.std.proofs.Common.{◌≤◌, length, ap, arith}
use Rattle.strat_follow.proofs.FrameLemmas.{framed}
use Rattle.strat_follow.proofs.frames.write_numbered.Goals as goal

pub returns-clause-len : goal.returns-clause-len
returns-clause-len c =
    let some : 4 ≤ length c.put.new.self = omega (arith, c.begin.ensures.len, c.put.ensures.len) in
    omega (arith, ap length c.end.ensures, framed c.put.new.self some, c.begin.ensures.len, c.put.ensures.len, c.change_text.ensures.len)
