use Rattle.std.proofs.Common.{sym, ◌∙◌}
use Rattle.strat_gate.specs.SuperView.{super_of}
use Rattle.def_crash.proofs.MomentLemmas.{settled_at}
use Rattle.strat_open.proofs.OpenLemmas.{quiet_reads, quiet_shut, quiet_stands, quiet_tears, shut_reads, shut_stands}
use Rattle.strat_open.proofs.recovery.shut_other.Goals as goal

pub returns-in_err-close_region-clause-trail : goal.returns-in_err-close_region-clause-trail
returns-in_err-close_region-clause-trail g c = λ f x exposed settled same is.
    shut_reads (g.D.Disk.view c.args.disk.now) f x (super_of c.args.sb.now) c.args.journal.now.stale exposed settled same is _ (sym c.stale.ensures ∙ c.if-stale.true) c.close_region.ensures.images

pub returns-in_ok-close_region-clause-trail : goal.returns-in_ok-close_region-clause-trail
returns-in_ok-close_region-clause-trail g c = λ f x exposed settled same is.
    shut_reads (g.D.Disk.view c.args.disk.now) f x (super_of c.args.sb.now) c.args.journal.now.stale exposed settled same is _ (sym c.stale.ensures ∙ c.if-stale.true) c.close_region.ensures.images

pub returns-in_ok-close_region-clause-kept : goal.returns-in_ok-close_region-clause-kept
returns-in_ok-close_region-clause-kept g c = λ f x exposed settled same is.
    shut_stands (g.D.Disk.view c.args.disk.now) f x (super_of c.args.sb.now) c.args.journal.now.stale exposed settled same is _ (sym c.stale.ensures ∙ c.if-stale.true) c.close_region.ensures.images
    c.close_region.ensures.time (g.met.D.Disk.leaves_content c.close_region.new.disk) (c.in_ok-close_region.ensures.durable f exposed settled)

pub returns-else-stale-clause-trail : goal.returns-else-stale-clause-trail
returns-else-stale-clause-trail g c = λ f x exposed settled same is.
    quiet_reads (g.D.Disk.view c.args.disk.now) f x (super_of c.args.sb.now) c.args.journal.now.stale exposed settled same is

pub returns-else-stale-clause-kept : goal.returns-else-stale-clause-kept
returns-else-stale-clause-kept g c = λ f x exposed settled same is.
    quiet_stands (g.D.Disk.view c.args.disk.now) f x (super_of c.args.sb.now) c.args.journal.now.stale exposed settled same is (g.met.D.Disk.leaves_content c.args.disk.now) (sym c.stale.ensures ∙ c.if-stale.false)

pub returns-else-stale-clause-images : goal.returns-else-stale-clause-images
returns-else-stale-clause-images g c = quiet_tears (g.D.Disk.view c.args.disk.now) _ 1

pub returns-in_ok-close_region-clause-durable : goal.returns-in_ok-close_region-clause-durable
returns-in_ok-close_region-clause-durable g c = λ f exposed settled few is. c.in_ok-close_region.ensures.durable f exposed settled

pub returns-else-stale-clause-durable : goal.returns-else-stale-clause-durable
returns-else-stale-clause-durable g c = λ f exposed settled few is image left.
    quiet_shut f c.args.journal.now.stale _ _ _ is few (sym c.stale.ensures ∙ c.if-stale.false) image
    (settled_at (g.D.Disk.view c.args.disk.now) f exposed settled image left)
