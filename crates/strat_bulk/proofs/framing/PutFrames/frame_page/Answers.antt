use Rattle.std.proofs.Common.{◌≡◌, ◌+◌, ◌%◌, ℕ, suc, ap, sym, ◌∙◌, arith}
use Rattle.strat_bulk.proofs.FramingLemmas.{lawful_more, page_more}
use Rattle.strat_bulk.proofs.framing.PutFrames.frame_page.Goals as goal

pub loop-i-preserved : goal.loop-i-preserved
loop-i-preserved c = record {
  framed = λ n is.
      let so_far = c.loop-i.invariant.framed n is in
      let put = c.put.ensures.ok (n + c.loop-i.i) so_far.1 in
      let next : suc (n + c.loop-i.i) ≡ n + (c.loop-i.i + 1) = omega arith in (
        put.0 ∙ page_more n c.args.page.now c.loop-i.i c.loop-i.self.bytes c.key.result.now c.value.result.now (omega (arith, c.loop-i-test.true, c.len-i-end.ensures.ok)) so_far.0 c.key.ensures.ok c.value.ensures.ok,
        ap (λ (k : ℕ). k % 4294967296) (sym next) ∙ put.1,
      );
  len = omega (arith, c.put.ensures.len, c.loop-i.invariant.len);
  lawful = lawful_more c.args.page.now c.loop-i.i c.key.result.now c.value.result.now (omega (arith, c.loop-i-test.true, c.len-i-end.ensures.ok)) c.loop-i.invariant.lawful c.key.ensures.ok c.value.ensures.ok c.key.ensures.len
      c.key.ensures.fits c.value.ensures.fits;
}
