use Rattle.std.proofs.Common.{◌≤◌, length, length-append, ap, arith}
use Rattle.strat_model.specs.Spelling.{reply_fields}
use Rattle.strat_frame.proofs.FrameLemmas.{framed_length}
use Rattle.strat_frame.proofs.replies.write_reply.Goals as goal

pub returns-clause-len : goal.returns-clause-len
returns-clause-len c =
    let some : 4 ≤ length c.put_fields.new.out = omega (arith, c.begin.ensures.len, c.put_u8.ensures.len, ap length c.put_fields.ensures.ok, length-append c.put_u8.new.self (reply_fields c.args.reply.now c.args.pairs.now)) in
    omega (arith, ap length c.end.ensures, framed_length c.put_fields.new.out some, c.put_fields.ensures.len, c.put_u8.ensures.len, c.begin.ensures.len)
