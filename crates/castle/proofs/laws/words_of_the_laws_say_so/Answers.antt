use Rattle.castle.proofs.laws.words_of_the_laws_say_so.Goals as goal

pub returns-clause-none : goal.returns-clause-none
returns-clause-none g c = λ status run d e it. (it.ends, it.none, it.kept)

pub returns-clause-moments : goal.returns-clause-moments
returns-clause-moments g c = λ run end d e goes. (goes.from, goes.later, goes.till, goes.until, goes.new)

pub returns-clause-trail : goal.returns-clause-trail
returns-clause-trail g c = λ run end d e goes. goes.trail

pub returns-clause-space : goal.returns-clause-space
returns-clause-space g c = λ c it. it
