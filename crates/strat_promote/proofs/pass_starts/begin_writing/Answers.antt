use Rattle.std.proofs.Common.{◌≡◌, ℕ, List, [], length, map, ap, sym, subst, ◌∙◌, IsTrue}
use Rattle.strat_live.specs.Counting.{SameParents}
use Rattle.strat_live.specs.Tallies.{Tallies}
use Rattle.strat_merge.specs.Gathered.{are_under}
use Rattle.def_split.specs.Groups.{group_versions}
use Rattle.strat_split.specs.PlanSeen.{plan_seen}
use Rattle.strat_promote.specs.Filled.{IsFilling}
use Rattle.strat_promote.specs.InputFields.{input_seen}
use Rattle.strat_promote.specs.Job.{groups_kept}
use Rattle.strat_promote.specs.declared.input.Input.{Input}
use Rattle.strat_promote.proofs.StartLemmas.{read_begun, runs_begun, new_ready, new_content}
use Rattle.strat_promote.proofs.pass_starts.begin_writing.Goals as goal

-- the counts are of as many versions as before
counted_versions : (g : _) (c : goal.In_ok-merger g) → length c.own_counts.result.now ≡ length c.args.counting.now.counts.own
counted_versions g c = ap (λ (ns : List ℕ). length ns) c.own_counts.ensures.ok ∙ ap (λ (t : Tallies). length t.own) c.finish.ensures.same

pub returns-clause-kept : goal.returns-clause-kept
returns-clause-kept g c =
    let size = counted_versions g c in
    record {
      unspent = c.in_ok-merger.ensures.kept input_seen;
      under = subst (λ (runs : List Input). IsTrue (are_under (length c.args.counting.now.counts.own) (map input_seen runs))) (sym c.in_ok-merger.ensures.ok)
          (subst (λ (n : ℕ). IsTrue (are_under n (map input_seen c.in_ok-runs.runs.items))) size c.in_ok-runs.ensures.found);
      filling = subst (λ (n : ℕ). IsFilling n c.in_ok-filling.filling) size c.in_ok-filling.ensures.kept;
      ready = λ i e head. new_ready _ _ e.key c.in_ok-filling.ensures.found;
    }

pub returns-clause-ok : goal.returns-clause-ok
returns-clause-ok g c = λ f job told over within horizon counted.
    let runs = c.in_ok-runs.ensures in
    let kept = group_versions (groups_kept job counted.groups) in
    let known = subst (λ (n : ℕ). SameParents n job.parents c.args.tree.now.parents) horizon within.same in
    let same = subst (λ (n : ℕ). SameParents n job.parents c.args.tree.now.parents) (sym (counted_versions g c)) known in
    record {
      all = counted.groups;
      merged = counted.merged;
      planned = record { split = c.in_ok-filling.ensures.ok job.parents kept same (c.finish.ensures.ok job.parents kept known counted.tallied) };
      groups = [];
      runs = runs_begun input_seen f _ _ job _ _ _ over c.in_ok-merger.ensures.ok c.in_ok-merger.ensures.len (runs.ok f told) runs.reads.2 (λ b bad. runs.kept f b told bad);
      content = record { each = new_content f job (plan_seen c.in_ok-filling.filling.plan) c.args.first c.in_ok-filling.filling.writers.items c.in_ok-filling.ensures.found };
    }

pub returns-clause-damaged : goal.returns-clause-damaged
returns-clause-damaged g c = λ f told.
    let runs = c.in_ok-runs.ensures in
    read_begun input_seen f _ _ _ c.in_ok-merger.ensures.ok runs.reads.2 (λ b bad. runs.kept f b told bad)
