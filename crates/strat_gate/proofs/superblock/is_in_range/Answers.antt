use Rattle.std.proofs.Common.{sym, ◌∙◌, arith}
use Rattle.strat_gate.specs.SuperView.{super_of}
use Rattle.strat_gate.proofs.RangeLemmas.{range_lawful}
use Rattle.strat_gate.proofs.superblock.is_in_range.Goals as goal

pub returns-clause-fits : goal.returns-clause-fits
returns-clause-fits c = λ yes. range_lawful (super_of c.args.sb.now) (sym c.each_is_in_range.ensures.ok ∙ yes) (omega arith) (omega arith)
