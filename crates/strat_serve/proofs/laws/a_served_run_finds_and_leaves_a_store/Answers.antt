use Rattle.strat_memory.specs.Held.{head_held}
use Rattle.strat_serve.proofs.TableLemmas.{no_device_at_end}
use Rattle.strat_serve.proofs.laws.a_served_run_finds_and_leaves_a_store.Goals as goal

pub returns-clause-found : goal.returns-clause-found
returns-clause-found g c = λ x y d e budget how f served exposed. (served.head, served.found f exposed)

pub returns-clause-rose : goal.returns-clause-rose
returns-clause-rose g c = λ x y d e budget served. served.faulted served.ends

pub returns-clause-same : goal.returns-clause-same
returns-clause-same g c = λ x y d e budget how served device sink. served.calm (no_device_at_end how budget served.session y.left served.ends device sink)

pub returns-clause-left : goal.returns-clause-left
returns-clause-left g c = λ x y d e budget how f served exposed device sink.
    let found = served.left (no_device_at_end how budget served.session y.left served.ends device sink) f exposed in
    (found.0, found.1, found.2)

pub returns-clause-journal : goal.returns-clause-journal
returns-clause-journal g c = λ x y d e budget how f t shows served exposed device sink image left.
    let found = served.left (no_device_at_end how budget served.session y.left served.ends device sink) f exposed in
    let there = found.3 t shows in
    (head_held found.0, there.0 image left, there.1)

pub returns-clause-still : goal.returns-clause-still
returns-clause-still g c = λ x y d e budget how f served calm exposed.
    let gate = served.still calm f exposed in
    (gate.0, gate.1, gate.2.newest, gate.2.images)
