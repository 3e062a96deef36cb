use Rattle.std.proofs.Common.{◌+◌, ℕ, ap, ◌∙◌, arith}
use Rattle.strat_array.proofs.TakesLemmas.{used_once_taken}
use Rattle.strat_array_tests.proofs.WritingLemmas.{one_fits, pending_ascends, pending_then}
use Rattle.strat_array_tests.proofs.writer.push_all.Goals as goal

pub push-requires-clause-fits : goal.push-requires-clause-fits
push-requires-clause-fits c = (one_fits c.args.entries.now c.loop-i.i _ c.requires.fits.0 c.loop-i-test.true, (let n = c.loop-i.invariant.count in let m = c.requires.fits.1 in omega arith))

pub push-requires-clause-kept : goal.push-requires-clause-kept
push-requires-clause-kept c = pending_ascends c.args.entries.now c.loop-i.i _ c.loop-i.writer.pending c.requires.kept c.loop-i-test.true c.loop-i.invariant.all

pub loop-i-preserved : goal.loop-i-preserved
loop-i-preserved c =
    let t = c.push.ensures.found in
    let count = t.count in
    let few = t.few in
    let first = t.first in
    let room' = c.loop-i.invariant.room in
    record {
      all = pending_then c.args.entries.now c.loop-i.i _ c.loop-i.writer.pending c.push.new.self.pending c.loop-i-test.true c.in_ok-push.ensures.state c.loop-i.invariant.all;
      count = c.in_ok-push.ensures.len.0 ∙ ap (λ (n : ℕ). n + 1) c.loop-i.invariant.count;
      room = omega arith;
      used = used_once_taken c.loop-i.space c.push.new.space c.loop-i.writer.extents c.push.new.self.extents t c.loop-i.invariant.used;
    }
