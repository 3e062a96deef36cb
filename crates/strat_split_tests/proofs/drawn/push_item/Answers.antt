use Rattle.std.proofs.Common.{List, sym, subst}
use Rattle.strat_arena.specs.declared.items.Item.{Item}
use Rattle.strat_split_tests.specs.Groups.{IsGroupFrom}
use Rattle.strat_split_tests.proofs.GroupLemmas.{from_less, from_push}
use Rattle.strat_split_tests.proofs.drawn.push_item.Goals as goal

pub returns-in_ok-push : goal.returns-in_ok-push
returns-in_ok-push c = record { kept = subst (λ (items : List Item). IsGroupFrom c.args.v c.args.versions items) (sym c.in_ok-push.ensures.items) (from_push c.args.v c.args.versions c.args.group.now.items c.item.result c.requires c.item.ensures) }

pub returns-else-has : goal.returns-else-has
returns-else-has c = record { kept = from_less c.args.v c.args.versions c.args.group.now.items c.requires }
