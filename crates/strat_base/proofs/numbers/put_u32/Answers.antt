use Rattle.std.proofs.Common.{refl}
use Rattle.strat_base.specs.Numbers.{be}
use Rattle.strat_base.proofs.NumberLemmas.{put_rest}
use Rattle.strat_base.proofs.numbers.put_u32.Goals as goal

pub returns : goal.returns
unfolding be
returns c = put_rest 4 c.args.at c.args.into.now (be 4 c.args.n) c.write_u32.new.buf refl c.requires c.write_u32.ensures
