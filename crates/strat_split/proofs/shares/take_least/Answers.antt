use Rattle.std.proofs.Common.{◌≡◌, length, set, None, arith}
use Rattle.std.proofs.lemmas.List.{get_or_read, length-set}
use Rattle.strat_split.proofs.WorkLemmas.{share_taken, last_within}
use Rattle.strat_split.proofs.shares.take_least.Goals as goal

pub returns-clause-kept : goal.returns-clause-kept
returns-clause-kept c =
    let many : length (set c.args.shares.now.heads.items c.in-Some.part None) ≡ length c.args.shares.now.heads.items = length-set c.args.shares.now.heads.items c.in-Some.part None in
    let as_many : length (set c.args.shares.now.gifts.items c.in-Some.part None) ≡ length c.args.shares.now.gifts.items = length-set c.args.shares.now.gifts.items c.in-Some.part None in
    record {
      gifts_len = omega (arith, c.requires.kept.gifts_len);
      listed = share_taken c.args.shares.now.heads.items c.args.shares.now.gifts.items c.args.shares.now.waiting.items c.pop.new.self.items c.in-Some.part c.requires.kept.gifts_len c.requires.kept.listed c.in-Some.ensures.items;
      room = omega (arith, c.requires.kept.room, c.in-Some.ensures.capacity);
    }

pub returns-clause-ok : goal.returns-clause-ok
returns-clause-ok c =
    let lt = last_within c.args.shares.now.heads.items c.args.shares.now.gifts.items c.args.shares.now.waiting.items c.pop.new.self.items c.in-Some.part c.requires.kept.gifts_len c.requires.kept.listed c.in-Some.ensures.items in
    (lt, get_or_read c.args.shares.now.heads.items c.in-Some.part c.index.result.now lt c.index.ensures None, get_or_read c.args.shares.now.gifts.items c.in-Some.part c.index-2.result.now (omega arith) c.index-2.ensures None)
