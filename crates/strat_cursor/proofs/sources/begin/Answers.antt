use Rattle.std.proofs.Common.{ap}
use Rattle.strat_base.proofs.ResultFacts.{err_of}
use Rattle.strat_cursor.specs.declared.scan_buffers.SourcePosition.{SourcePosition}
use Rattle.strat_cursor.proofs.SourceLemmas.{zero_begins, array_begins, through_source, names_source, looks_position}
use Rattle.strat_cursor.proofs.sources.begin.Goals as goal

pub returns-in_err-at-in-Array-clause-same : goal.returns-in_err-at-in-Array-clause-same
returns-in_err-at-in-Array-clause-same g c = through_source _ _ c.args.source.now c.in-Array.desc _ _ _ _ c.in-Array.is c.begin_place.ensures.same

pub returns-in_err-at-in-Array-clause-damaged : goal.returns-in_err-at-in-Array-clause-damaged
returns-in_err-at-in-Array-clause-damaged g c = λ b torn.
    names_source _ c.args.source.now c.in-Array.desc b c.in-Array.is (c.in_err-at-in-Array.ensures.damaged b (err_of c.from_residual.result _ _ c.from_residual.ensures.1 torn))

pub returns-in-Zero-clause-ok : goal.returns-in-Zero-clause-ok
returns-in-Zero-clause-ok g c = λ f exposed may. (
  zero_begins f c.args.query.now.view.now.pool.now c.args.query.now.view.now.tree.now.parents c.args.query.now.version c.args.query.now.lo.now c.args.source.now c.in-Zero.list _ c.in-Zero.is (rw c.in-Zero.is at c.requires.kept) c.begin_item-position.ensures.ok,
  rw c.in-Zero.is tt,
)

pub returns-in_ok-at-in-Array-clause-ok : goal.returns-in_ok-at-in-Array-clause-ok
returns-in_ok-at-in-Array-clause-ok g c = λ f exposed may.
    array_begins f c.args.query.now.view.now.pool.now c.args.query.now.view.now.tree.now.parents c.args.query.now.version c.args.query.now.lo.now (g.D.Disk.view c.args.disk.now) (g.D.Disk.view c.begin_place.new.disk) c.args.source.now c.in-Array.desc c.args.cache.now c.begin_place.new.cache c.stand.new.self c.in_ok-at-in-Array.at c.args.position.now.place c.in-Array.is exposed
    (rw c.in-Array.is at may) c.in_ok-at-in-Array.ensures.ok (looks_position _ _ _ _ _ _ _ _ _ (ap (λ (d : SourcePosition). d.scratch) c.stand.ensures.ok) c.begin_place.ensures.same)
    (ap (λ (d : SourcePosition). d.there) c.stand.ensures.ok) (ap (λ (d : SourcePosition). d.place) c.stand.ensures.ok)

pub returns-in_ok-at-in-Array-clause-same : goal.returns-in_ok-at-in-Array-clause-same
returns-in_ok-at-in-Array-clause-same g c = through_source _ _ c.args.source.now c.in-Array.desc _ _ _ _ c.in-Array.is c.begin_place.ensures.same
