use Rattle.std.proofs.Common.{List, ℕ, sym, subst, ◌∙◌}
use Rattle.strat_base.proofs.ResultFacts.{if_ok_then}
use Rattle.strat_cursor.specs.Emitting.{AreUpTo}
use Rattle.strat_cursor.proofs.ThroughLemmas.{through_trans}
use Rattle.strat_cursor.proofs.TellLemmas.{page_range}
use Rattle.strat_cursor.proofs.scanning.scan_sources.Goals as goal

pub returns-clause-ok : goal.returns-clause-ok
returns-clause-ok g c =
    if_ok_then c.tell_all.result c.tell_all.ensures.ok (λ more answers f next exposed may m seen.
    page_range m c.args.query.now.lo.now c.args.query.now.hi.now c.clear.new.self.items c.args.out.now c.args.query.now.limit _ more c.clear.ensures.items c.requires.room.1
    ((answers f c.args.query.now.lo.now m (c.in_ok-begin_contest.ensures.same.disk.same ∙ exposed) may.ids
    (subst (λ (l : List ℕ). AreUpTo f c.begin_contest.new.cache c.args.query.now.view.now.pool.now c.args.query.now.view.now.tree.now.parents c.args.query.now.version c.args.query.now.lo.now l c.args.query.now.sources.now c.begin_contest.new.positions) (sym c.clear.ensures.items) (c.in_ok-begin_contest.ensures.ok f next exposed may)) seen).0))

pub returns-clause-same : goal.returns-clause-same
returns-clause-same g c = through_trans _ _ _ _ _ _ _ c.in_ok-begin_contest.ensures.same c.tell_all.ensures.same
