use Rattle.strat_merge.proofs.PassLemmas.{get_some, on_ok_map, passes_one, advance_one}
use Rattle.strat_merge.proofs.merger.advance_at.Goals as goal

pub returns-clause-ok : goal.returns-clause-ok
returns-clause-ok g c =
    let there = get_some c.args.runs.now.items c.args.run c.index_mut.result.now c.requires.fits c.index_mut.ensures.value in
    on_ok_map c.advance.result c.advance.ensures.ok (passes_one g.R.Run.view c.args.runs.now.items c.args.run c.index_mut.result.now c.advance.new.self there (g.D.Disk.view c.args.disk.now))

pub returns-clause-reads : goal.returns-clause-reads
returns-clause-reads g c =
    let there = get_some c.args.runs.now.items c.args.run c.index_mut.result.now c.requires.fits c.index_mut.ensures.value in
    advance_one g.R.Run.view c.args.runs.now.items c.args.run c.index_mut.result.now c.advance.new.self there _ _ _ _ _ _ _ _ _ c.advance.ensures.same c.advance.ensures.cause c.advance.ensures.damaged c.advance.ensures.err c.advance.ensures.kept c.advance.ensures.reads
