use Rattle.std.proofs.Common.{◌∙◌}
use Rattle.def_crash.proofs.MomentLemmas.{leaves_refl}
use Rattle.castle.specs.Outcomes.{format_text}
use Rattle.strat_open.proofs.FormatLemmas.{none_yet}
use Rattle.strat_loop.proofs.SendLemmas.{sends_prefix}
use Rattle.strat_open.proofs.OtherLemmas.{keep_refl}
use Rattle.strat_open.proofs.ShutLemmas.{blank_leaves}
use Rattle.castle.proofs.formatting.make_store.Goals as goal

pub returns-clause-ok : goal.returns-clause-ok
returns-clause-ok g c =
    let sent = c.in-Err.ensures.err in
    sends_prefix sent.0 c.as_bytes.result.now (format_text c.args.mem c.args.changes_max c.args.versions_max)
    (g.K.Sink.held c.args.sink.now) (g.K.Sink.held c.put_all.new.sink) (c.as_bytes.ensures.value ∙ c.in-Ok.ensures) sent.1 sent.2

pub returns-in_default-clause-images : goal.returns-in_default-clause-images
returns-in_default-clause-images g c = λ f exposed blank.
    none_yet 2 c.args.mem c.args.changes_max c.args.versions_max (g.D.Disk.view c.args.disk.now) (g.D.Disk.view c.args.disk.now) (blank_leaves _ _ blank (leaves_refl _))

pub returns-in_default-clause-kept : goal.returns-in_default-clause-kept
returns-in_default-clause-kept g c = keep_refl c.args.mem (g.D.Disk.view c.args.disk.now)
