use Rattle.std.proofs.Common.{◌≤◌, length, List, subst, arith}
use Rattle.std.proofs.lemmas.List.{length-map}
use Rattle.strat_arena.specs.Items.{entry_of_item}
use Rattle.strat_arena.specs.declared.items.Item.{Item}
use Rattle.strat_promote.specs.ZeroFields.{copied}
use Rattle.strat_promote.proofs.ZeroLemmas.{drop_next, later_then, never_past}
use Rattle.strat_promote.proofs.zero_copy.ZeroRun.advance.Goals as goal

pub returns-then-self-items-clause-ok : goal.returns-then-self-items-clause-ok
returns-then-self-items-clause-ok c = λ _. drop_next (copied c.args.self.now) c.args.self.now.next

pub returns-then-self-items-clause-kept : goal.returns-then-self-items-clause-kept
returns-then-self-items-clause-kept c = λ e f here there. later_then (copied c.args.self.now) c.args.self.now.next e f c.args.self.now.ascending here there

pub returns-else-self-items-clause-kept : goal.returns-else-self-items-clause-kept
returns-else-self-items-clause-kept c = λ e f here there.
    let past : length c.args.self.now.items ≤ c.args.self.now.next = subst (λ (items : List Item). length items ≤ c.args.self.now.next) c.items.ensures.ok c.if-self-items.false in
    absurd (never_past (copied c.args.self.now) c.args.self.now.next e (omega (arith, length-map c.args.self.now.items (entry_of_item c.args.self.now.arena.pairs), past)) here)
