use Rattle.std.proofs.Common.{◌<◌, length, Some, sym, ap, ◌∙◌, arith}
use Rattle.strat_base.proofs.ResultFacts.{err_of}
use Rattle.strat_promote.specs.LeadRuns.{entries_at_hand}
use Rattle.strat_promote.proofs.LeadLemmas.{first_held, held_count, held_on, misfit_none, misfit_back}
use Rattle.strat_promote.proofs.lead_blocks.read_after.Given.{Over}
use Rattle.strat_promote.proofs.lead_blocks.read_after.Goals as goal
use Rattle.strat_promote.proofs.lead_blocks.read_after.Goals.{After-count-len}

-- the block that was read has an entry
some_read : (g : Over) (c : After-count-len g) → 0 < length (entries_at_hand c.fetch.new.self)
some_read g c =
    let count = held_count c.fetch.new.self c.count-len.result c.in_ok-fetch.ensures.found c.count-len.ensures.ok in
    let fits = c.count-len.ensures.fits.0 in
    omega (arith, count, fits)

pub returns-in_err-fetch-clause-damaged : goal.returns-in_err-fetch-clause-damaged
returns-in_err-fetch-clause-damaged g c = λ b torn.
    let bad = c.in_err-fetch.ensures.damaged b (err_of c.from_residual.result _ _ c.from_residual.ensures.1 torn) in
    (bad.0, λ f blocks exposed. misfit_none f c.args.last.now c.args.block blocks (bad.1 f exposed) ∙ ap (λ n. Some n) (sym bad.0))

pub returns-then-is_before-clause-ok : goal.returns-then-is_before-clause-ok
returns-then-is_before-clause-ok g c =
    first_held c.args.last.now c.fetch.new.self _ (some_read g (goal.at.returns-then-is_before-clause-ok g c).After-count-len) c.entry.ensures.ok ∙ sym c.is_before.ensures.ok ∙ c.if-is_before.true

pub returns-clause-damaged : goal.returns-clause-damaged
returns-clause-damaged g c = λ b torn. (
  cc,
  λ f blocks exposed.
      misfit_back f c.args.last.now c.args.block blocks (entries_at_hand c.fetch.new.self)
      (held_on c.fetch.new.self _ (g.D.Disk.view c.args.disk.now) c.args.block c.in_ok-fetch.ensures.found c.in_ok-fetch.ensures.ok f exposed)
      (first_held c.args.last.now c.fetch.new.self _ (some_read g (goal.at.returns-clause-damaged g c).After-count-len) c.entry.ensures.ok ∙ sym c.is_before.ensures.ok ∙ c.if-is_before.false)
      ∙ (cc),
)
