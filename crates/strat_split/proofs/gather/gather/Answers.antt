use Rattle.std.proofs.Common.{◌≡◌, ◌-◌, length, sym, ◌∙◌, arith, rules}
use Rattle.std.proofs.lemmas.List.{with_items_is}
use Rattle.strat_split.specs.Survey.{told}
use Rattle.strat_split.proofs.GreedyLemmas.{sums_end, fates_more}
use Rattle.strat_split.proofs.gather.gather.Goals as goal

pub loop-c-init : goal.loop-c-init
loop-c-init c = record {
  positive = omega arith;
  within = omega arith;
  sums_is = c.in_ok-sums.ensures.ok ∙ sym (sums_end (told c.args.survey.now) (length c.args.survey.now.own.now) (omega arith));
  fates_len = c.in_ok-fates.ensures.len;
  fate_is = λ v le lt. absurd (omega arith);
}

pub loop-c-preserved : goal.loop-c-preserved
loop-c-preserved c =
    let len : length c.take_rest.new.sums ≡ c.loop-c.sums.len = omega (arith, c.take_rest.auto.sums, c.deref_mut.ensures.len) in
    let more = fates_more (told c.args.survey.now) (c.loop-c.c - 1) c.loop-c.fates.items c.take_rest.result (omega arith) c.loop-c.invariant.fates_len c.take_rest.ensures.found (λ v le lt. c.loop-c.invariant.fate_is v (omega arith) lt) in
    record {
      positive = omega arith;
      within = omega arith;
      sums_is = with_items_is c.loop-c.sums c.take_rest.new.sums len ∙ c.take_rest.ensures.ok;
      fates_len = search rules;
      fate_is = more;
    }
