use Rattle.strat_follow.proofs.laws.a_leader_stops_at_its_journal_for_the_sink.Goals as goal

pub returns-clause-ok : goal.returns-clause-ok
returns-clause-ok g c = λ x y d e how stop. (stop.ends, stop.source, stop.calm, stop.cut, λ f exposed. (stop.found f exposed, stop.still f exposed))

pub returns-clause-images : goal.returns-clause-images
returns-clause-images g c = λ x y d e how f t stop exposed shows. stop.follows f t exposed shows
