use Rattle.std.proofs.Common.{length, ◌∙◌, subst, arith, get_or}
use Rattle.std.proofs.lemmas.List.{length-set}
use Rattle.strat_base.proofs.ResultFacts.{err_of}
use Rattle.strat_base.specs.Entries.{Entry}
use Rattle.std.specs.declared.option.Option.{Option}
use Rattle.strat_cursor.specs.Sources.{IsSpent, steps_left, reads_left}
use Rattle.strat_cursor.proofs.TournamentLemmas.{get_here, count_contenders, contenders_bracket, won_bracket, beside_source}
use Rattle.strat_cursor.proofs.ThroughLemmas.{through_more, names_more}
use Rattle.strat_cursor.proofs.EmitLemmas.{at_hand, settled_next, up_next, sum_next, sum_has, head_here, position_at}
use Rattle.strat_cursor.proofs.emit.advance_leader.Goals as goal
use Rattle.strat_cursor.specs.Views.{arrays_read}

pub advance-requires-clause-same : goal.advance-requires-clause-same
advance-requires-clause-same g c =
    let here = get_here c.args.query.now.sources.now c.args.w c.index-sources-w.result c.requires.fits.1 c.index-sources-w.is in
    let there = position_at c.args.positions.now (length c.args.query.now.sources.now) c.args.w c.index-positions-w.result c.requires.kept.0.same c.requires.fits.1 in
    (c.requires.kept.0.each c.args.w c.index-sources-w.result (get_or c.args.positions.now c.args.w c.index-positions-w.result) here there).1.held

pub advance-requires-clause-found : goal.advance-requires-clause-found
advance-requires-clause-found g c =
    let here = get_here c.args.query.now.sources.now c.args.w c.index-sources-w.result c.requires.fits.1 c.index-sources-w.is in
    let there = position_at c.args.positions.now (length c.args.query.now.sources.now) c.args.w c.index-positions-w.result c.requires.kept.0.same c.requires.fits.1 in
    subst (λ (o : Option Entry). IsSpent c.args.last.now o) (head_here c.args.query.now.view.now.pool.now c.args.query.now.sources.now c.args.positions.now c.args.w c.index-sources-w.result (get_or c.args.positions.now c.args.w c.index-positions-w.result) here there) c.requires.room

pub returns-in_err-advance-clause-len : goal.returns-in_err-advance-clause-len
returns-in_err-advance-clause-len g c =
    (length-set c.args.positions.now c.args.w c.advance.new.position, won_bracket c.args.query.now.view.now.pool.now c.args.query.now.sources.now c.args.positions.now c.args.winners.now c.requires.kept.0.same c.requires.kept.1)

pub returns-in_err-advance-clause-same : goal.returns-in_err-advance-clause-same
returns-in_err-advance-clause-same g c =
    let here = get_here c.args.query.now.sources.now c.args.w c.index-sources-w.result c.requires.fits.1 c.index-sources-w.is in
    through_more _ _ _ (arrays_read c.args.query.now.view.now c.args.query.now.version) _ _ c.advance.ensures.same (λ a of. (c.requires.same.each c.args.w c.index-sources-w.result here).there a of)

pub returns-in_err-advance-clause-damaged : goal.returns-in_err-advance-clause-damaged
returns-in_err-advance-clause-damaged g c =
    let here = get_here c.args.query.now.sources.now c.args.w c.index-sources-w.result c.requires.fits.1 c.index-sources-w.is in
    λ b torn. names_more _ _ (arrays_read c.args.query.now.view.now c.args.query.now.version) b (λ a of. (c.requires.same.each c.args.w c.index-sources-w.result here).there a of) (c.in_err-advance.ensures.damaged b (err_of c.from_residual.result _ _ c.from_residual.ensures.1 torn))

pub returns-in_err-advance-clause-reads : goal.returns-in_err-advance-clause-reads
returns-in_err-advance-clause-reads g c =
    let here = get_here c.args.query.now.sources.now c.args.w c.index-sources-w.result c.requires.fits.1 c.index-sources-w.is in
    let there = position_at c.args.positions.now (length c.args.query.now.sources.now) c.args.w c.index-positions-w.result c.requires.kept.0.same c.requires.fits.1 in
    let all = sum_has reads_left c.args.query.now.sources.now c.args.positions.now c.args.w c.index-sources-w.result (get_or c.args.positions.now c.args.w c.index-positions-w.result) here there in
    record { later = c.advance.ensures.reads.later; bound = omega (arith, all, c.advance.ensures.reads.bound) }

pub replay-requires-clause-kept : goal.replay-requires-clause-kept
replay-requires-clause-kept g c =
    let here = get_here c.args.query.now.sources.now c.args.w c.index-sources-w.result c.requires.fits.1 c.index-sources-w.is in
    at_hand c.args.query.now.view.now.tree.now.parents c.args.query.now.version c.args.query.now.view.now.pool.now c.args.query.now.sources.now _ (settled_next c.args.query.now.view.now.tree.now.parents c.args.query.now.version c.args.query.now.view.now.pool.now c.args.query.now.sources.now c.args.positions.now c.args.w c.index-sources-w.result c.advance.new.position c.requires.kept.0 here (c.requires.same.each c.args.w c.index-sources-w.result here).read c.in_ok-advance.ensures.found)

pub replay-requires-clause-found : goal.replay-requires-clause-found
replay-requires-clause-found g c =
    contenders_bracket _ _ _ c.args.winners.now (length-set c.args.positions.now c.args.w c.advance.new.position ∙ c.requires.kept.0.same)
    (won_bracket c.args.query.now.view.now.pool.now c.args.query.now.sources.now c.args.positions.now c.args.winners.now c.requires.kept.0.same c.requires.kept.1)

pub replay-requires-clause-fits : goal.replay-requires-clause-fits
replay-requires-clause-fits g c =
    let same = length-set c.args.positions.now c.args.w c.advance.new.position ∙ c.requires.kept.0.same in
    let count = count_contenders c.args.query.now.view.now.pool.now c.args.query.now.sources.now _ same in
    omega (arith, count, c.requires.fits.1)

pub replay-requires-clause-same : goal.replay-requires-clause-same
replay-requires-clause-same g c =
    beside_source c.args.query.now.view.now.pool.now c.args.query.now.sources.now c.args.positions.now c.args.winners.now c.requires.kept.0.same c.requires.kept.1 c.args.w c.advance.new.position

pub returns-clause-kept : goal.returns-clause-kept
returns-clause-kept g c =
    let here = get_here c.args.query.now.sources.now c.args.w c.index-sources-w.result c.requires.fits.1 c.index-sources-w.is in
    (settled_next c.args.query.now.view.now.tree.now.parents c.args.query.now.version c.args.query.now.view.now.pool.now c.args.query.now.sources.now c.args.positions.now c.args.w c.index-sources-w.result c.advance.new.position c.requires.kept.0 here (c.requires.same.each c.args.w c.index-sources-w.result here).read c.in_ok-advance.ensures.found, c.replay.ensures.ok)

pub returns-clause-len : goal.returns-clause-len
returns-clause-len g c =
    (length-set c.args.positions.now c.args.w c.advance.new.position, won_bracket c.args.query.now.view.now.pool.now c.args.query.now.sources.now _ c.replay.new.winners (length-set c.args.positions.now c.args.w c.advance.new.position ∙ c.requires.kept.0.same) c.replay.ensures.ok)

pub returns-clause-ok : goal.returns-clause-ok
returns-clause-ok g c =
    let here = get_here c.args.query.now.sources.now c.args.w c.index-sources-w.result c.requires.fits.1 c.index-sources-w.is in
    let there = position_at c.args.positions.now (length c.args.query.now.sources.now) c.args.w c.index-positions-w.result c.requires.kept.0.same c.requires.fits.1 in
    λ f lo prev exposed own later up.
    up_next (g.D.Disk.view c.args.disk.now) (g.D.Disk.view c.advance.new.disk) (arrays_read c.args.query.now.view.now c.args.query.now.version) f c.args.cache.now c.advance.new.cache c.args.query.now.view.now.pool.now c.args.query.now.view.now.tree.now.parents c.args.query.now.version lo prev c.args.last.now c.args.query.now.sources.now c.args.positions.now c.args.w c.index-sources-w.result (get_or c.args.positions.now c.args.w c.index-positions-w.result) c.advance.new.position
    exposed own (through_more _ _ _ (arrays_read c.args.query.now.view.now c.args.query.now.version) _ _ c.advance.ensures.same (λ a of. (c.requires.same.each c.args.w c.index-sources-w.result here).there a of))
    (λ i t at a of. (c.requires.same.each i t at).there a of) later up here there (λ stands. c.in_ok-advance.ensures.ok f exposed stands)

pub returns-clause-end : goal.returns-clause-end
returns-clause-end g c =
    let here = get_here c.args.query.now.sources.now c.args.w c.index-sources-w.result c.requires.fits.1 c.index-sources-w.is in
    let there = position_at c.args.positions.now (length c.args.query.now.sources.now) c.args.w c.index-positions-w.result c.requires.kept.0.same c.requires.fits.1 in
    let steps = sum_next (steps_left c.args.query.now.view.now.pool.now) c.args.query.now.sources.now c.args.positions.now c.args.w c.index-sources-w.result (get_or c.args.positions.now c.args.w c.index-positions-w.result) c.advance.new.position here there in
    let reads = sum_next reads_left c.args.query.now.sources.now c.args.positions.now c.args.w c.index-sources-w.result (get_or c.args.positions.now c.args.w c.index-positions-w.result) c.advance.new.position here there in
    (omega (arith, steps, c.in_ok-advance.ensures.end), omega (arith, reads, c.in_ok-advance.ensures.room))

pub returns-clause-same : goal.returns-clause-same
returns-clause-same g c =
    let here = get_here c.args.query.now.sources.now c.args.w c.index-sources-w.result c.requires.fits.1 c.index-sources-w.is in
    through_more _ _ _ (arrays_read c.args.query.now.view.now c.args.query.now.version) _ _ c.advance.ensures.same (λ a of. (c.requires.same.each c.args.w c.index-sources-w.result here).there a of)

pub returns-clause-reads : goal.returns-clause-reads
returns-clause-reads g c =
    let here = get_here c.args.query.now.sources.now c.args.w c.index-sources-w.result c.requires.fits.1 c.index-sources-w.is in
    let there = position_at c.args.positions.now (length c.args.query.now.sources.now) c.args.w c.index-positions-w.result c.requires.kept.0.same c.requires.fits.1 in
    let all = sum_has reads_left c.args.query.now.sources.now c.args.positions.now c.args.w c.index-sources-w.result (get_or c.args.positions.now c.args.w c.index-positions-w.result) here there in
    record { later = c.advance.ensures.reads.later; bound = omega (arith, all, c.advance.ensures.reads.bound) }
