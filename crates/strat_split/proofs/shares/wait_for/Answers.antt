use Rattle.std.proofs.Common.{◌≡◌, ◌<◌, length, get_or, None, sym, ◌∙◌, arith}
use Rattle.std.proofs.lemmas.List.{get_or_read}
use Rattle.strat_split.proofs.WorkLemmas.{none_from, work_room}
use Rattle.strat_split.proofs.shares.wait_for.Goals as goal

pub put-requires : goal.put-requires
put-requires c =
    let head : get_or c.args.shares.now.heads.items c.args.q None ≡ None = sym (get_or_read c.args.shares.now.heads.items c.args.q c.index.result.now c.requires.fits c.index.ensures None) ∙ none_from c.index.result.now c.if-is_none.ensures in
    let gift : get_or c.args.shares.now.gifts.items c.args.q None ≡ None = sym (get_or_read c.args.shares.now.gifts.items c.args.q c.index-then-is_none.result.now (omega (arith, c.requires.kept.gifts_len)) c.index-then-is_none.ensures None) ∙ none_from c.index-then-is_none.result.now c.if-is_none-2.ensures in
    let room : length c.args.shares.now.waiting.items < length c.args.shares.now.heads.items = work_room c.args.shares.now.heads.items c.args.shares.now.gifts.items c.args.shares.now.waiting.items c.args.q c.requires.kept.gifts_len c.requires.kept.listed head gift c.requires.fits in
    record { room = omega (arith, room, c.requires.kept.room) }
