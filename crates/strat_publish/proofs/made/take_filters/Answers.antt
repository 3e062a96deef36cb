use Rattle.std.proofs.Common.{◌∷◌, [], List, length, Option, Bool, ap, sym, subst, arith, length-append}
use Rattle.strat_publish.proofs.KeepingLemmas.{taken_more}
use Rattle.strat_publish.specs.Promoting.{HasTaken}
use Rattle.strat_publish.proofs.made.take_filters.Goals as goal

pub loop-i-preserved : goal.loop-i-preserved
loop-i-preserved c =
    let few = c.loop-i.invariant.few in
    let more = c.push_reserved.ensures.items in
    record {
      taken = subst (HasTaken c.args.promotion.now c.take_filter.new.self c.args.first) (sym more)
          (taken_more c.args.promotion.now c.loop-i.promotion c.take_filter.new.self c.args.first _ c.loop-i.kept.items c.take_filter.result c.ok.result c.loop-i.invariant.taken
          c.take_filter.ensures.ok c.take_filter.ensures.kept c.take_filter.ensures.same (omega (arith, few)) c.ok.ensures.value);
      few = omega (arith, few, ap (λ (xs : List (Option (List Bool))). length xs) more, length-append c.loop-i.kept.items (c.ok.result ∷ []));
      room = omega (arith, c.loop-i.invariant.room, c.push_reserved.ensures.capacity);
    }
