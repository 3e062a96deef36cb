use Rattle.std.proofs.Common.{◌≡◌, ◌∷◌, List, ℕ, None, Err, refl, sym, ap, ◌∙◌, subst, arith}
use Rattle.std.specs.List.{Contains}
use Rattle.strat_base.proofs.ResultFacts.{err_of}
use Rattle.strat_base.specs.declared.failures.Fault.TheVariants.{Damaged}
use Rattle.strat_promote.specs.LeadRuns.{BlockReading, key_alone}
use Rattle.strat_promote.specs.Leads.{last_of, misfit_after}
use Rattle.strat_promote.proofs.LeadLemmas.{next_left, turned_front, ended_front, bad_next}
use Rattle.strat_promote.proofs.lead_blocks.LeadBlocks.next.Given.{Over}
use Rattle.strat_promote.proofs.lead_blocks.LeadBlocks.next.Goals as goal
use Rattle.strat_promote.proofs.lead_blocks.LeadBlocks.next.Goals.{After-keep_last}

-- the block is the first of those that were left
first_left : (g : Over) (c : After-keep_last g) → c.args.self.now.blocks ≡ c.in-Some.block ∷ c.next.new.self
first_left g c = next_left _ _ c.self.inside.is_spent c.self.inside.numbers c.next.new.self c.in-Some.block c.self.view_is c.if-self.false c.in-Some.ensures.found

pub returns-in-Ok-clause-reads : goal.returns-in-Ok-clause-reads
returns-in-Ok-clause-reads g c = turned_front _ _ _ _ _ _ (first_left g (goal.at.returns-in-Ok-clause-reads g c).After-keep_last) c.if-self.false c.in-Ok.ensures.reads

pub returns-in-Err-clause-damaged : goal.returns-in-Err-clause-damaged
returns-in-Err-clause-damaged g c = λ b torn.
    let bad = c.in-Err.ensures.damaged b (err_of {U = ℕ} (Err c.in-Err.fault) c.in-Err.fault (Damaged b) refl torn) in
    let first = first_left g (goal.at.returns-in-Err-clause-damaged g c).After-keep_last in (
      subst (λ (bs : List ℕ). Contains bs b) (sym first) (0, omega arith, sym bad.0),
      λ f exposed.
          bad_next c.args.self.now c.keep_last.new.last c.next.new.self b f (first ∙ ap (λ (n : ℕ). n ∷ c.next.new.self) (sym bad.0))
          (c.keep_last.ensures.ok ∙ ap (λ (r : BlockReading). key_alone (last_of None r.entries)) c.self.view_is)
          (ap (λ (n : ℕ). misfit_after f c.keep_last.new.last (n ∷ c.next.new.self)) bad.0 ∙ bad.1 f c.next.new.self exposed),
    )

pub returns-in-Err-clause-reads : goal.returns-in-Err-clause-reads
returns-in-Err-clause-reads g c = ended_front _ _ _ _ _ (first_left g (goal.at.returns-in-Err-clause-reads g c).After-keep_last) c.in-Err.ensures.reads
