use Rattle.std.proofs.Common.{ℕ, List, Some, refl, sym, ap, ◌∙◌, subst, length, arith}
use Rattle.def_crash.proofs.MomentLemmas.{reads_trans, reads_refl}
use Rattle.def_bytes.specs.Arrays.{blocks_of}
use Rattle.strat_promote.proofs.LeadLemmas.{front_refl}
use Rattle.strat_promote.proofs.LeadRunLemmas.{damage_told}
use Rattle.strat_merge.specs.Runs.{ReadsFront}
use Rattle.strat_check.specs.declared.scan.Scan.{Scan}
use Rattle.strat_check.proofs.ScanLemmas.{scan_begins, scan_goes_on, scan_ends, scan_blames, front_step, front_has}
use Rattle.strat_check.proofs.scan.scan_array.Goals as goal

pub loop-block-init : goal.loop-block-init
loop-block-init g c =
    let same = c.in_ok-numbers.ensures.ok in
    record {
      told = λ f exposed. scan_begins f (blocks_of c.args.desc.now.extents) _ c.args.versions c.in_ok-last.last same c.in_ok-last.ensures.ok;
      same = reads_refl (g.D.Disk.view c.args.disk.now);
      faults = refl;
      reads = subst (λ (left : List ℕ). ReadsFront (blocks_of c.args.desc.now.extents) left (g.D.Disk.reads c.args.disk.now) (g.D.Disk.reads c.args.disk.now)) (sym same) (front_refl (blocks_of c.args.desc.now.extents) (g.D.Disk.reads c.args.disk.now));
      few = omega (arith, ap (λ (bs : List ℕ). length bs) same);
    }

pub returns-in_err-found-clause-damaged : goal.returns-in_err-found-clause-damaged
returns-in_err-found-clause-damaged g c = λ b torn.
    let bad = c.in_err-found.ensures.damaged b (damage_told {U = Scan} c.from_residual-in_err-found.result c.in_err-found.field-0.0 b c.from_residual-in_err-found.ensures.1 torn) in
    let inv = c.loop-block.invariant in (
      front_has _ _ _ c.in-Some.block b _ _ inv.reads c.in-Some.ensures.found bad.0,
      λ f exposed.
          scan_blames f _ _ _ c.in-Some.block _ _ _ (inv.told f exposed) c.in-Some.ensures.found (bad.1 f (inv.same.same ∙ exposed)) ∙ ap (λ (n : ℕ). Some n) (sym bad.0),
    )

pub returns-in_err-found-clause-same : goal.returns-in_err-found-clause-same
returns-in_err-found-clause-same g c = reads_trans c.loop-block.invariant.same c.read_behind.ensures.same

pub loop-block-preserved : goal.loop-block-preserved
loop-block-preserved g c =
    let inv = c.loop-block.invariant in
    let on = c.in_ok-found.ensures in
    record {
      told = λ f exposed.
          scan_goes_on f _ _ _ c.in-Some.block _ _ _ c.loop-block.all c.in_ok-found.found _ (inv.told f exposed) c.in-Some.ensures.found (on.ok f (inv.same.same ∙ exposed)) c.with-all.ensures.ok c.with-all.ensures.len;
      same = reads_trans inv.same c.read_behind.ensures.same;
      faults = on.cause.ok ∙ inv.faults;
      reads = front_step _ _ _ c.in-Some.block _ _ _ inv.reads c.in-Some.ensures.found on.reads;
      few = omega (arith, inv.few, on.len, c.with-all.ensures.len, ap (λ (bs : List ℕ). length bs) c.in-Some.ensures.found);
    }

pub returns-clause-ok : goal.returns-clause-ok
returns-clause-ok g c = λ f exposed. scan_ends f _ _ _ _ c.loop-block.all (c.loop-block.invariant.told f exposed) (c.in_default.ensures.none.0)
