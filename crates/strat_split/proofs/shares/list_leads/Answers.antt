use Rattle.std.proofs.Common.{◌≡◌, ◌≤◌, length, get_or, None, arith}
use Rattle.std.specs.Option.{is_some}
use Rattle.strat_arena.specs.declared.items.Item.{Item}
use Rattle.std.proofs.lemmas.List.{length-map}
use Rattle.strat_split.specs.Shares.{labels_in, is_led_before}
use Rattle.strat_split.proofs.WaitingLemmas.{listed_same}
use Rattle.strat_split.proofs.WorkLemmas.{led_all}
use Rattle.strat_split.proofs.shares.list_leads.Goals as goal

pub returns-clause-kept : goal.returns-clause-kept
returns-clause-kept c =
    let many : length (labels_in c.args.hand.now) ≡ length c.args.hand.now.items.now = length-map c.args.hand.now.items.now (λ (item : Item). get_or c.args.hand.now.plan.now.part_of item.version 0) in
    let end : length (labels_in c.args.hand.now) ≤ c.loop-i.i = omega arith in
    listed_same (is_led_before c.args.heads.now c.loop-i.i) (λ q. is_some (get_or c.args.heads.now q None)) c.loop-i.waiting.items (led_all (labels_in c.args.hand.now) c.args.heads.now c.requires.found c.loop-i.i end) c.loop-i.invariant.listed
