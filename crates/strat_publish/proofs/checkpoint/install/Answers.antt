use Rattle.strat_publish.proofs.checkpoint.install.Goals as goal

pub returns-clause-kept : goal.returns-clause-kept
returns-clause-kept g c = λ x y computed. (c.in_ok-lay_next.ensures.kept x y computed).0

pub returns-clause-disk : goal.returns-clause-disk
returns-clause-disk g c = c.in_ok-lay_next.ensures.disk c.requires.fits.1
