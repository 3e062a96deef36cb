use Rattle.std.proofs.Common.{sym, subst, List}
use Rattle.strat_arena.specs.declared.items.Item.{Item}
use Rattle.strat_split_tests.specs.Groups.{IsGroupFrom}
use Rattle.strat_split_tests.proofs.GroupLemmas.{from_none}
use Rattle.strat_split_tests.proofs.drawn.group_of.Goals as goal

pub loop-v-init : goal.loop-v-init
loop-v-init c = subst (λ (items : List Item). IsGroupFrom c.args.versions c.args.versions items) (sym c.new-group.ensures.items) (from_none c.args.versions)
