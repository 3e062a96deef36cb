use Rattle.std.proofs.Common.{◌∙◌, ℕ, ap, arith}
use Rattle.def_bytes.specs.Layout.{is_open}
use Rattle.strat_journal.proofs.BothRegionsLemmas.{later_none}
use Rattle.strat_journal.proofs.read.read_later.Goals as goal

pub returns-clause-found : goal.returns-clause-found
returns-clause-found g c = λ f exposed here.
    later_none f c.args.mem c.args.region c.args.first.now here c.new.result.items c.in_ok-stale.stale (omega (arith, c.if-first-mem.false, c.requires.len)) c.new.ensures.items
    (c.in_ok-stale.ensures.ok f exposed ∙ ap (λ (n : ℕ). is_open (f n)) c.region_at.ensures.ok)
