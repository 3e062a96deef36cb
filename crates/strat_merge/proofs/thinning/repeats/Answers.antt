use Rattle.std.proofs.Common.{Option, List, ℕ, ap, ◌∙◌}
use Rattle.strat_arena.specs.Items.{pair_of}
use Rattle.strat_base.specs.Entries.{is_same_value}
use Rattle.strat_merge.specs.Thinning.{item_says}
use Rattle.strat_merge.proofs.KeepingLemmas.{position_within}
use Rattle.strat_merge.proofs.ThinningLemmas.{live_says, none_says, none_same}
use Rattle.strat_merge.proofs.thinning.repeats.Goals as goal

pub returns-in-Some : goal.returns-in-Some
returns-in-Some c =
    let within = position_within _ c.args.later.now c.in-Some.i c.in-Some.ensures.ok in
    record {
      ok = c.say_the_same.ensures.ok
          ∙ ap (λ (o : Option (List ℕ)). is_same_value (item_says c.args.arena.now.pairs c.args.item.now) o)
          (live_says c.args.tree.now.parents c.args.arena.now.pairs c.args.later.now c.args.v c.in-Some.i _ c.requires.kept within c.in-Some.ensures.ok);
    }

pub returns-in-None : goal.returns-in-None
returns-in-None c = record {
  ok = none_same c.args.item.now.gone (pair_of c.args.arena.now.pairs c.args.item.now).value
      ∙ ap (λ (o : Option (List ℕ)). is_same_value (item_says c.args.arena.now.pairs c.args.item.now) o)
      (none_says c.args.tree.now.parents c.args.arena.now.pairs c.args.later.now c.args.v c.requires.kept c.in-None.ensures.ok);
}
