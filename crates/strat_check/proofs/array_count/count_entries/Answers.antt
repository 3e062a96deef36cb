use Rattle.std.proofs.Common.{◌≡◌, ℕ, ltb, [], length, ap, ◌∙◌, subst, arith}
use Rattle.std.specs.List.{list_all}
use Rattle.strat_base.specs.Order.{descends}
use Rattle.def_bytes.specs.Arrays.{blocks_of}
use Rattle.def_crash.specs.Faults.{HasCause}
use Rattle.def_crash.proofs.MomentLemmas.{reads_trans}
use Rattle.strat_base.specs.declared.failures.Trouble.TheVariants.{Device}
use Rattle.strat_check.specs.MarkedRuns.{unmarked_seen}
use Rattle.strat_check.proofs.ArrayCountLemmas.{few_below, bad_alone}
use Rattle.strat_check.proofs.KeyWalkLemmas.{ok_then, reads_alone, alone_sighted}
use Rattle.strat_check.proofs.array_count.count_entries.Goals as goal

pub walk-requires-clause-kept : goal.walk-requires-clause-kept
walk-requires-clause-kept g c =
    let n : ℕ = length c.args.tree.now.parents in
    let none : c.new-group.result.versions.items ≡ [] = c.new-group.ensures.ok.1 in
    record {
      bound = omega (arith, c.in_ok-run.ensures.found, c.count.ensures.ok);
      are = record {
        descending = ap descends none;
        low = ap (list_all (λ v. ltb v n)) none;
      };
      next = λ d first of_key. ap (list_all (λ v. ltb d.version v)) none;
    }

pub returns-clause-ok : goal.returns-clause-ok
returns-clause-ok g c =
    ok_then c.walk.result c.walk.ensures.ok (λ whole walks is f content exposed on up begun.
    alone_sighted c.args.tree.now.parents c.count.ensures.kept c.count.result c.count.ensures.ok content up c.new-group.result c.args.sights.now c.walk.new.sights ((unmarked_seen c.in_ok-run.run').left f)
    c.new-group.ensures.ok.1 ((c.in_ok-run.ensures.ok f exposed content on up).0) (few_below c.count.result f (blocks_of c.args.desc.now.extents) content c.requires.fits.few on) begun
    (c.walk.ensures.len ∙ c.requires.len) (λ all few walking. walks is f all (c.open.ensures.same.same ∙ exposed) few walking))

pub returns-clause-none : goal.returns-clause-none
returns-clause-none g c =
    ok_then c.walk.result c.walk.ensures.none (λ whole more is f content exposed on up.
    let many = more is f (c.open.ensures.same.same ∙ exposed) in
    let left = ap (λ es. length es) ((c.in_ok-run.ensures.ok f exposed content on up).0) in
    let few = few_below c.count.result f (blocks_of c.args.desc.now.extents) content c.requires.fits.few on in
    omega (arith, many, left, few))

pub returns-clause-damaged : goal.returns-clause-damaged
returns-clause-damaged g c = λ b torn f exposed.
    c.in_ok-run.ensures.kept f b exposed (bad_alone (unmarked_seen c.in_ok-run.run') f b (c.walk.ensures.reads.blamed b torn f (c.open.ensures.same.same ∙ exposed)))

pub returns-clause-same : goal.returns-clause-same
returns-clause-same g c = reads_trans c.open.ensures.same c.walk.ensures.reads.same

pub returns-clause-cause : goal.returns-clause-cause
returns-clause-cause g c = subst (λ (n : ℕ). HasCause Device n (g.D.Disk.faults c.walk.new.disk) c.walk.result) c.in_ok-run.ensures.cause.ok c.walk.ensures.reads.cause

pub returns-clause-reads : goal.returns-clause-reads
returns-clause-reads g c =
    reads_alone (blocks_of c.args.desc.now.extents) c.in_ok-run.run' c.walk.new.run _ _ _ c.in_ok-run.ensures.reads c.walk.ensures.reads.left
