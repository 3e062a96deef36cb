use Rattle.std.proofs.Common.{[], arith}
use Rattle.strat_promote.specs.InputFields.{input_seen}
use Rattle.strat_promote.proofs.StartLemmas.{read_begun, runs_begun, nothing_tallied}
use Rattle.strat_promote.proofs.pass_starts.begin_counting.Goals as goal

pub returns-clause-ok : goal.returns-clause-ok
returns-clause-ok g c = λ f job told over.
    let runs = c.in_ok-runs.ensures in
    record {
      groups = [];
      runs = runs_begun input_seen f _ _ job _ _ _ over c.in_ok-merger.ensures.ok c.in_ok-merger.ensures.len (runs.ok f told) runs.reads.2 (λ b bad. runs.kept f b told bad);
      tallied = nothing_tallied job _ (c.in_ok-counts.ensures.ok job.parents);
      least = omega arith;
    }

pub returns-clause-damaged : goal.returns-clause-damaged
returns-clause-damaged g c = λ f told.
    let runs = c.in_ok-runs.ensures in
    read_begun input_seen f _ _ _ c.in_ok-merger.ensures.ok runs.reads.2 (λ b bad. runs.kept f b told bad)
