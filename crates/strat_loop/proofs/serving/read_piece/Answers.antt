use Rattle.std.proofs.Common.{length-take, drop, arith}
use Rattle.strat_loop.proofs.ProgressLemmas.{took_piece, at_end}
use Rattle.strat_loop.proofs.serving.read_piece.Goals as goal

pub returns-clause-ok : goal.returns-clause-ok
returns-clause-ok g c = took_piece (g.S.Source.left c.args.source.now) (g.S.Source.left c.read.new.self) c.read.new.into (drop c.args.most c.args.piece.now) c.in_ok-n.n c.in_ok-n.ensures.ok c.in_ok-n.ensures.fits

pub returns-clause-end : goal.returns-clause-end
returns-clause-end g c = λ none room. at_end (g.S.Source.left c.args.source.now) (g.S.Source.left c.read.new.self) c.read.new.into c.in_ok-n.n c.in_ok-n.ensures.ok none (omega (arith, c.read.auto.into, length-take c.args.most c.args.piece.now, c.requires.room))
