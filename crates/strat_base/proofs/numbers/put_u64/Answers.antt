use Rattle.std.proofs.Common.{refl}
use Rattle.strat_base.specs.Numbers.{be}
use Rattle.strat_base.proofs.NumberLemmas.{put_rest}
use Rattle.strat_base.proofs.numbers.put_u64.Goals as goal

pub returns : goal.returns
unfolding be
returns c = put_rest 8 c.args.at c.args.into.now (be 8 c.args.n) c.write_u64.new.buf refl c.requires c.write_u64.ensures
