use Rattle.std.proofs.Common.{List, sym, subst, ◌∙◌}
use Rattle.def_meaning.specs.StateTable.{table_of}
use Rattle.def_publish.specs.Contents.{contents_state}
use Rattle.strat_base.specs.declared.descriptors.ArrayDesc.{ArrayDesc}
use Rattle.strat_cursor.specs.Looking.{NamesNoBlock}
use Rattle.strat_model.specs.Step.{pairs_at}
use Rattle.strat_bulk.proofs.ExportLemmas.{read_ordered, read_own, read_seen, stands_calm}
use Rattle.strat_bulk.proofs.ThirdLemmas.{asked_thirds}
use Rattle.strat_bulk.proofs.exporting.export_pairs.Goals as goal

pub returns-clause-ok : goal.returns-clause-ok
returns-clause-ok g c =
    let wrote = c.write_version.ensures.ok in
    let view = c.view-view.result in
    let lent = c.view-view.ensures.ok in
    let read = lent.2 c.args.version ∙ c.in-Ok-picked.ensures.ok in
    let known = sym c.known.ensures.ok ∙ c.if-not-known.false in (
      wrote.0,
      wrote.1,
      wrote.2,
      λ x stands.
          let f = stands.stands.content in
          let m = pairs_at (table_of (contents_state x)) c.args.version in
          let whole = c.a_version_is_read_from_its_arrays.ensures.ok c.args.disk.now c.args.store.now x f c.args.version c.requires.kept.0 stands stands.stands.exposed known in
          wrote.3 f m stands.stands.exposed (read_ordered f view c.args.store.now c.args.version m whole lent.0 lent.1 read)
          (read_own f view c.args.store.now c.args.version m whole lent.0 lent.1 read) (read_seen f view c.args.store.now c.args.version m whole lent.0 lent.1 read),
    )

pub returns-clause-kept : goal.returns-clause-kept
returns-clause-kept g c = λ x stands done.
    (c.a_version_is_read_from_its_arrays.ensures.ok c.args.disk.now c.args.store.now x stands.stands.content c.args.version c.requires.kept.0 stands stands.stands.exposed (sym c.known.ensures.ok ∙ c.if-not-known.false)).seen.ordered

pub returns-clause-found : goal.returns-clause-found
returns-clause-found g c = λ x stands disk sink.
    let read = c.view-view.ensures.ok.2 c.args.version ∙ c.in-Ok-picked.ensures.ok in
    stands_calm c.write_version.result _ _ _ _ c.write_version.ensures.end c.write_version.ensures.cause disk sink (λ block is.
    c.a_version_is_read_from_its_arrays.ensures.damaged c.args.disk.now c.args.store.now x stands.stands.content c.args.version block c.requires.kept.0 stands stands.stands.exposed
    (subst (λ (l : List ArrayDesc). NamesNoBlock (g.D.Disk.view c.args.disk.now).content l block) read (c.write_version.ensures.damaged block is)))

pub returns-clause-damaged : goal.returns-clause-damaged
returns-clause-damaged g c = λ b is.
    let read = c.view-view.ensures.ok.2 c.args.version ∙ c.in-Ok-picked.ensures.ok in
    subst (λ (l : List ArrayDesc). NamesNoBlock (g.D.Disk.view c.args.disk.now).content l b) read (c.write_version.ensures.damaged b is)

pub returns-clause-fits : goal.returns-clause-fits
returns-clause-fits g c = λ x f stands exposed is. asked_thirds (g.D.Disk.view c.args.disk.now) c.args.store.now x f c.args.version c.requires.kept.0 stands exposed is

pub returns-in_default-clause-fits : goal.returns-in_default-clause-fits
returns-in_default-clause-fits g c = λ x f stands exposed is. asked_thirds (g.D.Disk.view c.args.disk.now) c.args.store.now x f c.args.version c.requires.kept.0 stands exposed is

pub returns-in_default-picked-clause-fits : goal.returns-in_default-picked-clause-fits
returns-in_default-picked-clause-fits g c = λ x f stands exposed is. asked_thirds (g.D.Disk.view c.args.disk.now) c.args.store.now x f c.args.version c.requires.kept.0 stands exposed is
