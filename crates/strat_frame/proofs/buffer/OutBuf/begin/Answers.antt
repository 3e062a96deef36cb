use Rattle.std.proofs.lemmas.List.{drop_at}
use Rattle.strat_base.specs.Numbers.{be}
use Rattle.strat_base.proofs.NumberLemmas.{length-be}
use Rattle.strat_frame.proofs.buffer.OutBuf.begin.Goals as goal

pub returns-clause-ok : goal.returns-clause-ok
returns-clause-ok c = rw (c.put_u32-2.ensures.ok, c.put_u32.ensures.ok, c.requires) (drop_at (be 4 0) (be 4 c.args.tag) 4 (length-be 4 0))
