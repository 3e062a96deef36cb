use Rattle.std.proofs.Common.{refl, ◌∙◌, arith}
use Rattle.std.proofs.lemmas.List.{length-set}
use Rattle.strat_base.proofs.ResultFacts.{err_of}
use Rattle.strat_cursor.specs.Sources.{reads_left, reads_of_source, reads_to_seek}
use Rattle.strat_cursor.proofs.TournamentLemmas.{get_here}
use Rattle.strat_cursor.proofs.ThroughLemmas.{through_more, through_trans, names_more, names_earlier}
use Rattle.strat_cursor.proofs.BeginLemmas.{begins, begins_more, all_settled, all_up, sum_begins, sum_more, sum_ends, sum_rest, few_at}
use Rattle.strat_cursor.proofs.scanning.begin_all.Goals as goal
use Rattle.strat_cursor.specs.Views.{arrays_read}

pub loop-i-init : goal.loop-i-init
loop-i-init g c =
    record {
      begun = begins (g.D.Disk.view c.args.disk.now) c.args.query.now.view.now c.args.query.now.version c.args.query.now.lo.now c.args.query.now.sources.now c.args.cache.now c.args.positions.now;
      same = refl;
      faults = refl;
      later = λ n few. omega arith;
      reads = λ n few. omega (arith, sum_begins reads_left c.args.query.now.sources.now c.args.positions.now);
    }

pub begin-requires-clause-kept : goal.begin-requires-clause-kept
begin-requires-clause-kept g c =
    let here = get_here c.args.query.now.sources.now c.loop-i.i c.index-sources-i.result c.loop-i-test.true c.index-sources-i.is in
    (c.requires.same.each c.loop-i.i c.index-sources-i.result here).read

pub returns-in_err-begin-clause-same : goal.returns-in_err-begin-clause-same
returns-in_err-begin-clause-same g c =
    let here = get_here c.args.query.now.sources.now c.loop-i.i c.index-sources-i.result c.loop-i-test.true c.index-sources-i.is in
    let of = (c.requires.same.each c.loop-i.i c.index-sources-i.result here) in
    let looks = through_more _ _ _ (arrays_read c.args.query.now.view.now c.args.query.now.version) _ _ c.begin.ensures.same of.there in
    through_trans _ _ _ _ _ _ _ c.loop-i.invariant.begun.looks looks

pub returns-in_err-begin-clause-damaged : goal.returns-in_err-begin-clause-damaged
returns-in_err-begin-clause-damaged g c =
    let here = get_here c.args.query.now.sources.now c.loop-i.i c.index-sources-i.result c.loop-i-test.true c.index-sources-i.is in
    let of = (c.requires.same.each c.loop-i.i c.index-sources-i.result here) in
    λ b torn. names_earlier _ _ (arrays_read c.args.query.now.view.now c.args.query.now.version) b c.loop-i.invariant.begun.looks.disk.same (names_more _ _ (arrays_read c.args.query.now.view.now c.args.query.now.version) b of.there (c.in_err-begin.ensures.damaged b (err_of c.from_residual.result _ _ c.from_residual.ensures.1 torn)))

pub returns-in_err-begin-clause-reads : goal.returns-in_err-begin-clause-reads
returns-in_err-begin-clause-reads g c =
    let here = get_here c.args.query.now.sources.now c.loop-i.i c.index-sources-i.result c.loop-i-test.true c.index-sources-i.is in
    let of = (c.requires.same.each c.loop-i.i c.index-sources-i.result here) in
    λ n few.
    let own = c.begin.ensures.reads n (few_at n _ (arrays_read c.args.query.now.view.now c.args.query.now.version) of.there few) in
    let rest = sum_rest (reads_of_source (reads_to_seek c.args.query.now.lo.now n)) c.args.query.now.sources.now c.loop-i.i c.index-sources-i.result here in
    record { later = omega (arith, own.later, c.loop-i.invariant.later n few); bound = omega (arith, own.bound, rest, c.loop-i.invariant.reads n few) }

pub loop-i-preserved : goal.loop-i-preserved
loop-i-preserved g c =
    let here = get_here c.args.query.now.sources.now c.loop-i.i c.index-sources-i.result c.loop-i-test.true c.index-sources-i.is in
    let of = (c.requires.same.each c.loop-i.i c.index-sources-i.result here) in
    let looks = through_more _ _ _ (arrays_read c.args.query.now.view.now c.args.query.now.version) _ _ c.begin.ensures.same of.there in
    record {
      begun = begins_more (g.D.Disk.view c.args.disk.now) (g.D.Disk.view c.loop-i.disk) (g.D.Disk.view c.begin.new.disk) c.args.query.now.view.now c.args.query.now.version c.args.query.now.lo.now c.args.query.now.sources.now c.args.cache.now c.loop-i.cache c.begin.new.cache c.loop-i.i c.loop-i.positions c.index-sources-i.result c.begin.new.position c.requires.same here c.loop-i.invariant.begun looks
          c.in_ok-begin.ensures.found c.in_ok-begin.ensures.ok;
      same = length-set c.loop-i.positions c.loop-i.i c.begin.new.position ∙ c.loop-i.invariant.same;
      faults = c.in_ok-begin.ensures.cause.ok ∙ c.loop-i.invariant.faults;
      later = λ n few. omega (arith, c.loop-i.invariant.later n few, (c.begin.ensures.reads n (few_at n _ (arrays_read c.args.query.now.view.now c.args.query.now.version) of.there few)).later);
      reads = λ n few.
          let own = c.in_ok-begin.ensures.room n (few_at n _ (arrays_read c.args.query.now.view.now c.args.query.now.version) of.there few) in
          let more = sum_more c.loop-i.i reads_left c.args.query.now.sources.now c.loop-i.positions c.index-sources-i.result c.begin.new.position here (omega (arith, c.loop-i-test.true, c.loop-i.invariant.same, c.requires.room)) in
          let rest = sum_rest (reads_of_source (reads_to_seek c.args.query.now.lo.now n)) c.args.query.now.sources.now c.loop-i.i c.index-sources-i.result here in
          omega (arith, own, more, rest, c.loop-i.invariant.reads n few);
    }

pub returns-clause-kept : goal.returns-clause-kept
returns-clause-kept g c =
    all_settled _ _ c.args.query.now.view.now c.args.query.now.version c.args.query.now.lo.now c.args.query.now.sources.now _ _ c.loop-i.i c.loop-i.positions c.requires.same c.loop-i.invariant.begun c.loop-i-test.false (c.loop-i.invariant.same ∙ c.requires.room)

pub returns-clause-ok : goal.returns-clause-ok
returns-clause-ok g c =
    all_up _ _ c.args.query.now.view.now c.args.query.now.version c.args.query.now.lo.now c.args.query.now.sources.now _ _ c.loop-i.i c.loop-i.positions c.requires.same c.loop-i.invariant.begun c.loop-i-test.false

pub returns-clause-room : goal.returns-clause-room
returns-clause-room g c =
    λ n few. omega (arith, sum_ends c.loop-i.i reads_left c.args.query.now.sources.now c.loop-i.positions c.loop-i-test.false, c.loop-i.invariant.reads n few)
