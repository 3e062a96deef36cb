use Rattle.std.proofs.Common.{◌≤◌, ◌<◌, ◌+◌, length, arith}
use Rattle.strat_serve.proofs.GeneratedLemmas.{refilled}
use Rattle.strat_serve.proofs.generating.Frames.refill.Goals as goal

pub returns-clause-ok : goal.returns-clause-ok
returns-clause-ok c =
    let s = c.args.self.now in
    let whole : length s.frame.items ≤ s.given = omega (arith, c.len.ensures.value, c.if-self-len.false) in
    let more : s.drawn < s.count = omega (arith, c.requires.fits, c.if-self.false) in
    refilled s.count s.drawn s.state s.given c.draw_change-pick.new.state s.parents.items c.draw_change-pick.new.parents.items s.frame.items c.write_frame.new.out.items c.draw_change-pick.result
    whole more (c.draw_change-pick.ensures.ok (s.drawn + 1)) (c.draw_change-pick.ensures.kept (s.drawn + 1)) c.draw_change-pick.ensures.state c.write_frame.ensures.ok
