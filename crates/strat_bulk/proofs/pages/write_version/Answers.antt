use Rattle.std.proofs.Common.{[], sym, subst, ◌∙◌}
use Rattle.def_crash.proofs.MomentLemmas.{reads_trans}
use Rattle.strat_cursor.specs.Views.{arrays_read}
use Rattle.strat_model.specs.Pairs.{Pairs}
use Rattle.strat_model.specs.declared.ended.Ended.{Ended}
use Rattle.strat_bulk.specs.Ending.{AreTold, WritesPairs}
use Rattle.strat_bulk.proofs.PageLemmas.{err_damaged, none_cached, unbegun}
use Rattle.strat_bulk.proofs.pages.write_version.Goals as goal

pub returns-in-Err-clause-ok : goal.returns-in-Err-clause-ok
returns-in-Err-clause-ok g c =
    let h = g.K.Sink.held c.args.sink.now in
    let both = subst (λ (how : Ended). WritesPairs how h h [] × ((m : Pairs) → AreTold how [] m)) (sym c.from.ensures) (unbegun c.in-Err.fault h) in
    ([], both.0, tt, λ f m exposed ordered ids seen. both.1 m)

pub returns-in-Err-clause-damaged : goal.returns-in-Err-clause-damaged
returns-in-Err-clause-damaged g c = λ b is. c.in-Err.ensures.damaged b (err_damaged c.in-Err.fault b (sym c.from.ensures ∙ is))

pub returns-clause-ok : goal.returns-clause-ok
returns-clause-ok g c =
    let wrote = c.write_pages.ensures.ok in (
      wrote.0,
      wrote.1,
      wrote.2,
      λ f m exposed ordered ids seen.
          wrote.3 f m (c.begin.ensures.same.disk.same ∙ exposed)
          (c.in-Ok.ensures.ok f 0 m exposed (record {
            ordered = ordered;
            ids = ids;
            cached = none_cached f 0 (arrays_read c.args.view.now c.args.version) c.args.room.cache c.requires.none.1;
          }) seen),
    )

pub returns-clause-same : goal.returns-clause-same
returns-clause-same g c = reads_trans c.begin.ensures.same.disk c.write_pages.ensures.same
