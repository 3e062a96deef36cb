-- The fields of a dealer.
use Rattle.std.specs.Prelude.{◌<◌, length, vec_capacity}
use Rattle.strat_split.specs.Dealing.{Deal}
use Rattle.strat_split.specs.Shares.{AreShares}
use Rattle.strat_split.specs.declared.dealer.Dealer.TheInside.{Inside}

-- how far these fields have dealt items out
abbrev pub deal_of : Inside → Deal
deal_of a = record {
  heads = a.shares.heads.items;
  nexts = a.nexts.items;
  gifts = a.shares.gifts.items;
  waiting = a.shares.waiting.items;
  from = a.from;
  taken = a.taken.items;
}

-- the parts with a share wait, and there is room for what one takes
pub record IsDealer (a : Inside) : Type 0 where
  pub shares : AreShares a.shares
  pub room : length a.nexts.items < vec_capacity a.taken
