use Rattle.std.proofs.Common.{◌≤◌, length, ap, arith}
use Rattle.strat_follow.proofs.FrameLemmas.{framed}
use Rattle.strat_follow.proofs.frames.write_receipt.Goals as goal

pub returns-clause-len : goal.returns-clause-len
returns-clause-len c =
    let some : 4 ≤ length c.put_u8-2.new.self = omega (arith, c.begin.ensures.len, c.put_u8.ensures.len, c.put_u32.ensures.len, c.put_u8-2.ensures.len) in
    omega (arith, ap length c.end.ensures, framed c.put_u8-2.new.self some, c.begin.ensures.len, c.put_u8.ensures.len, c.put_u32.ensures.len, c.put_u8-2.ensures.len)
