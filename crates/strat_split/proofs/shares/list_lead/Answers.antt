use Rattle.std.proofs.Common.{◌≡◌, ◌<◌, ◌+◌, get_or, length, Some, None, sym, ◌∙◌, arith}
use Rattle.strat_split.specs.Shares.{labels_in, is_led_before}
use Rattle.strat_split.proofs.WaitingLemmas.{listed_same, listed_room}
use Rattle.strat_split.proofs.WorkLemmas.{first_within, led_within, led_passed, led_begun, led_off, first_found, not_first}
use Rattle.strat_split.proofs.shares.list_lead.Goals as goal

pub put-requires : goal.put-requires
put-requires c =
    let is : get_or c.args.heads.now c.label-q.result None ≡ Some c.args.i = first_found (get_or c.args.heads.now c.label-q.result None) c.args.i (sym c.is_first.ensures.ok ∙ c.if-is_first.true) in
    let few : length c.args.waiting.now.items < length c.args.heads.now = listed_room (is_led_before c.args.heads.now c.args.i) c.label-q.result (led_off (labels_in c.args.hand.now) c.args.heads.now c.requires.found c.args.i c.label-q.result is) c.args.waiting.now.items c.requires.kept (length c.args.heads.now)
    (first_within (labels_in c.args.hand.now) c.args.heads.now c.requires.found c.label-q.result c.args.i is) (led_within (labels_in c.args.hand.now) c.args.heads.now c.requires.found c.args.i) in
    record { room = omega (arith, few, c.requires.room) }

pub returns-then-is_first-clause-kept : goal.returns-then-is_first-clause-kept
returns-then-is_first-clause-kept c =
    let is : get_or c.args.heads.now c.label-q.result None ≡ Some c.args.i = first_found (get_or c.args.heads.now c.label-q.result None) c.args.i (sym c.is_first.ensures.ok ∙ c.if-is_first.true) in
    listed_same _ (is_led_before c.args.heads.now (c.args.i + 1)) c.put.new.waiting.items (led_begun (labels_in c.args.hand.now) c.args.heads.now c.requires.found c.args.i c.label-q.result (sym c.label-q.ensures.ok) is)
    (c.put.ensures.ok (is_led_before c.args.heads.now c.args.i) (led_off (labels_in c.args.hand.now) c.args.heads.now c.requires.found c.args.i c.label-q.result is) c.requires.kept)

pub returns-else-is_first-clause-kept : goal.returns-else-is_first-clause-kept
returns-else-is_first-clause-kept c =
    listed_same (is_led_before c.args.heads.now c.args.i) (is_led_before c.args.heads.now (c.args.i + 1)) c.args.waiting.now.items
    (led_passed (labels_in c.args.hand.now) c.args.heads.now c.requires.found c.args.i c.label-q.result (sym c.label-q.ensures.ok) (not_first (get_or c.args.heads.now c.label-q.result None) c.args.i (sym c.is_first.ensures.ok ∙ c.if-is_first.false))) c.requires.kept
