use Rattle.std.proofs.Common.{sym, ◌∙◌}
use Rattle.strat_base.specs.EntryView.{entry_of}
use Rattle.strat_check.proofs.KeyWalkLemmas.{left_none}
use Rattle.strat_check.proofs.key_walk.take_entry.Goals as goal

pub returns-in_default-clause-none : goal.returns-in_default-clause-none
returns-in_default-clause-none g c = λ _ f. left_none f c.args.run.now c.in_default.ensures.ok

pub gather-requires-clause-found : goal.gather-requires-clause-found
gather-requires-clause-found g c = c.requires.kept.next (entry_of c.in-Some.e) (sym c.in-Some.ensures.ok)

pub returns-clause-kept : goal.returns-clause-kept
returns-clause-kept g c =
    let step = c.in_ok-pass_entry.ensures.ok in
    record {
      bound = step.bound ∙ c.requires.kept.bound;
      are = c.in_ok-gather.ensures.kept;
      next = λ d first. c.in_ok-gather.ensures.state d (step.later (entry_of c.in-Some.e) d (sym c.in-Some.ensures.ok) first);
    }
