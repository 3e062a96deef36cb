use Rattle.std.proofs.Common.{◌∙◌, ℕ, List, map, Err, refl, sym, subst, arith}
use Rattle.strat_base.specs.declared.descriptors.ArrayDesc.{ArrayDesc}
use Rattle.strat_check.specs.Owners.{AreOwners}
use Rattle.strat_check.specs.MarkedRuns.{marked_seen}
use Rattle.strat_merge.specs.MergerFields.{views_of, runs_merged}
use Rattle.strat_merge.specs.Runs.{lefts}
use Rattle.strat_check.proofs.ArrayCountLemmas.{read_none, read_on, read_well, read_failed, none_taken, one_taken, few_taken}
use Rattle.strat_check.proofs.level_count.count_groups.Goals as goal

pub returns-in-Ok-false-clause-ok : goal.returns-in-Ok-false-clause-ok
returns-in-Ok-false-clause-ok g c = λ _ f runs told own counting.
    let inv = c.loop.invariant in
    c.in-Ok-false.ensures.none c.in-Ok-false.field-0-test f runs (inv.reads.same.same ∙ told) (inv.counted f runs told own counting)

pub returns-in-Ok-false-clause-reads : goal.returns-in-Ok-false-clause-reads
returns-in-Ok-false-clause-reads g c = read_on marked_seen _ _ _ _ _ _ _ _ _ _ _ _ _ c.loop.invariant.reads (read_well marked_seen _ _ _ _ _ _ _ _ _ _ c.in-Ok-false.ensures.reads)

pub returns-in-Err-clause-reads : goal.returns-in-Err-clause-reads
returns-in-Err-clause-reads g c =
    read_on marked_seen _ _ _ _ _ _ _ _ _ _ _ _ (Err c.in-Err.trouble) c.loop.invariant.reads (read_failed marked_seen (Err c.in-Err.trouble) c.in-Err.trouble refl _ _ _ _ _ _ _ _ c.in-Err.ensures.reads)

pub loop-preserved : goal.loop-preserved
loop-preserved g c =
    let inv = c.loop.invariant in
    let next = c.in-Ok-true.ensures in
    record {
      kept = next.kept;
      owners = next.same ∙ inv.owners;
      len = next.len ∙ inv.len;
      placed = next.found ∙ inv.placed;
      reads = read_on marked_seen _ _ _ _ _ _ _ _ _ _ _ _ _ inv.reads (read_well marked_seen _ _ _ _ _ _ _ _ _ _ next.reads);
      taken = λ f runs told same.
          let more = next.state c.in-Ok-true.field-0-test in
          one_taken runs (lefts f (views_of marked_seen c.loop.pass.merging.merger)) (lefts f (views_of marked_seen c.count_group.new.pass.merging.merger)) _ more.0 more.1
          (λ groups merged. more.2 f runs groups (inv.reads.same.same ∙ told) merged) (inv.taken f runs told same);
      counted = λ f runs told own counting.
          next.ok c.in-Ok-true.field-0-test f runs (inv.reads.same.same ∙ told)
          (subst (λ (xs : List ℕ). AreOwners (map (λ (a : ArrayDesc). a.versions) c.args.arrays.now) xs) (sym inv.owners) own) (inv.counted f runs told own counting);
    }

pub loop-init : goal.loop-init
loop-init g c =
    record {
      kept = c.requires.kept;
      owners = refl;
      len = refl;
      placed = refl;
      reads = read_none marked_seen (g.D.Disk.view c.args.disk.now) (g.D.Disk.faults c.args.disk.now) (g.D.Disk.reads c.args.disk.now) (runs_merged c.args.pass.now.merging.merger);
      taken = λ f runs told same. none_taken runs (lefts f (views_of marked_seen c.args.pass.now.merging.merger)) same;
      counted = λ f runs told own counting. counting;
    }

pub returns-clause-none : goal.returns-clause-none
returns-clause-none g c = λ _ f runs told same.
    let most = few_taken runs (lefts f (views_of marked_seen c.loop.pass.merging.merger)) _ (c.loop.invariant.taken f runs told same) in
    omega (arith, most)

pub returns-clause-reads : goal.returns-clause-reads
returns-clause-reads g c = read_well marked_seen _ _ _ _ _ _ _ _ _ _ c.loop.invariant.reads
