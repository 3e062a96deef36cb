use Rattle.std.proofs.Common.{arith}
use Rattle.strat_promote.proofs.ObstacleLemmas.{fit_handed, gives_handed}
use Rattle.strat_promote.proofs.SpacesLemmas.{takes_more}
use Rattle.strat_promote.proofs.seal.seal_one.Goals as goal

pub returns-in_err-seal-clause-fits : goal.returns-in_err-seal-clause-fits
returns-in_err-seal-clause-fits g c = λ unfit. absurd (fit_handed _ c.from_residual-in_err-seal.result c.from_residual-in_err-seal.ensures.1 unfit)

pub returns-in_err-seal-clause-used : goal.returns-in_err-seal-clause-used
returns-in_err-seal-clause-used g c = let takes = c.seal.ensures.found in omega (arith, takes.count, takes.few)

pub returns-in_err-seal-clause-cause : goal.returns-in_err-seal-clause-cause
returns-in_err-seal-clause-cause g c = gives_handed _ c.from_residual-in_err-seal.result c.from_residual-in_err-seal.ensures.1 _ _ c.in_err-seal.ensures.cause

pub returns-in_err-seal-clause-room : goal.returns-in_err-seal-clause-room
returns-in_err-seal-clause-room g c = takes_more c.args.space.now c.seal.new.space c.args.writer.now.extents c.seal.new.self.extents c.seal.ensures.found

pub returns-clause-room : goal.returns-clause-room
returns-clause-room g c = takes_more c.args.space.now c.seal.new.space c.args.writer.now.extents c.seal.new.self.extents c.seal.ensures.found

pub returns-clause-used : goal.returns-clause-used
returns-clause-used g c = let takes = c.seal.ensures.found in omega (arith, takes.count, takes.few)
