use Rattle.std.proofs.Common.{◌∙◌, map, ap}
use Rattle.std.proofs.lemmas.List.{map-append}
use Rattle.strat_check.specs.MarkedRuns.{marked_seen}
use Rattle.strat_check.proofs.level_runs.open_run.Goals as goal

pub returns-clause-ok : goal.returns-clause-ok
returns-clause-ok g c =
    let run = c.in_ok-run.ensures in
    record {
      run = marked_seen c.in_ok-run.run';
      behind = ap (λ runs. map marked_seen runs) c.in_ok-push.ensures.items ∙ map-append marked_seen c.args.runs.now.items _;
      left = λ f exposed content on up. (run.ok f exposed content on up).1;
      under = run.found;
      blames = run.kept;
      read = run.reads;
    }
