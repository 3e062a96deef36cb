use Rattle.std.proofs.Common.{◌≤◌, ◌+◌, length, inl, inr, arith}
use Rattle.std.proofs.lemmas.Bool.{cases_lt}
use Rattle.strat_follow.proofs.WalkLemmas.{found_record, record_within}
use Rattle.strat_follow.proofs.leading.next_change.Goals as goal

pub returns-clause-len : goal.returns-clause-len
returns-clause-len c =
    let before : c.args.at + 1 ≤ length c.args.records.now = elim (cases_lt c.args.at (length c.args.records.now)) [
      | inl less ↦ omega (arith, less)
      | inr more ↦ absurd (c.if-at-records.false (omega (arith, more, c.requires.fits)))
    ] in
    record_within c.args.records.now (c.args.at + 1) c.get_change.result before c.get_change.ensures.found c.get_change.ensures.end

pub returns-clause-found : goal.returns-clause-found
returns-clause-found c = λ one rest e lawful. found_record c.args.records.now c.args.at c.get_change.result one rest e lawful c.get_change.ensures.ok
