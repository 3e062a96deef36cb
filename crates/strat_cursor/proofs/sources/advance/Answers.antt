use Rattle.std.proofs.Common.{ap}
use Rattle.strat_base.proofs.ResultFacts.{err_of}
use Rattle.strat_array.specs.declared.place.Place.{Place}
use Rattle.strat_cursor.specs.declared.scan_buffers.SourcePosition.{SourcePosition}
use Rattle.strat_cursor.proofs.SourceLemmas.{zero_goes, zero_steps, array_goes, through_source, names_source, looks_position}
use Rattle.strat_cursor.proofs.sources.advance.Goals as goal

pub returns-in_err-at-in-Array-clause-same : goal.returns-in_err-at-in-Array-clause-same
returns-in_err-at-in-Array-clause-same g c = through_source _ _ c.args.source.now c.in-Array.desc _ _ _ _ c.in-Array.is c.stand_place.ensures.same

pub returns-in_err-at-in-Array-clause-damaged : goal.returns-in_err-at-in-Array-clause-damaged
returns-in_err-at-in-Array-clause-damaged g c = λ b torn.
    names_source _ c.args.source.now c.in-Array.desc b c.in-Array.is (c.in_err-at-in-Array.ensures.damaged b (err_of c.from_residual.result _ _ c.from_residual.ensures.1 torn))

pub returns-in-Zero-clause-ok : goal.returns-in-Zero-clause-ok
returns-in-Zero-clause-ok g c = λ f exposed stands. (
  zero_goes f c.args.query.now.view.now.pool.now c.args.query.now.view.now.tree.now.parents c.args.query.now.version c.args.last.now c.args.source.now c.in-Zero.list c.args.position.now _ c.in-Zero.is c.requires.found c.stand_item-position.ensures.ok,
  stands,
)

pub returns-in-Zero-clause-end : goal.returns-in-Zero-clause-end
returns-in-Zero-clause-end g c = zero_steps c.args.query.now.view.now.pool.now c.args.query.now.view.now.tree.now.parents c.args.query.now.version c.args.last.now c.args.source.now c.in-Zero.list c.args.position.now _ c.in-Zero.is c.requires.found c.stand_item-position.ensures.end

pub returns-in_ok-at-in-Array-clause-ok : goal.returns-in_ok-at-in-Array-clause-ok
returns-in_ok-at-in-Array-clause-ok g c = λ f exposed stands.
    array_goes f c.args.query.now.view.now.pool.now c.args.query.now.view.now.tree.now.parents c.args.query.now.version c.args.last.now (g.D.Disk.view c.args.disk.now) (g.D.Disk.view c.stand_place.new.disk) c.args.source.now c.in-Array.desc c.args.cache.now c.stand_place.new.cache c.args.position.now c.stand.new.self c.next-next.result c.in_ok-at-in-Array.at c.in-Array.is exposed stands
    c.requires.same c.requires.found (ap (λ (p : Place). p.block) c.next-next.ensures.ok) (ap (λ (p : Place). p.index) c.next-next.ensures.ok) c.in_ok-at-in-Array.ensures.ok (looks_position _ _ _ _ _ _ _ _ _ (ap (λ (d : SourcePosition). d.scratch) c.stand.ensures.ok) c.stand_place.ensures.same)
    (ap (λ (d : SourcePosition). d.there) c.stand.ensures.ok) (ap (λ (d : SourcePosition). d.place) c.stand.ensures.ok)

pub returns-in_ok-at-in-Array-clause-same : goal.returns-in_ok-at-in-Array-clause-same
returns-in_ok-at-in-Array-clause-same g c = through_source _ _ c.args.source.now c.in-Array.desc _ _ _ _ c.in-Array.is c.stand_place.ensures.same
