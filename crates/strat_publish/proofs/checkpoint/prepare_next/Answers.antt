use Rattle.std.proofs.Common.{ℕ, sym, ap, subst, ◌∙◌, arith}
use Rattle.strat_base.proofs.ResultFacts.{err_of}
use Rattle.def_bytes.specs.Arrays.{blocks_of}
use Rattle.def_bytes.specs.Chained.{Chained}
use Rattle.def_bytes.specs.Manifest.{Manifest}
use Rattle.def_bytes.specs.SuperBlock.{Super}
use Rattle.strat_manifest.specs.ManifestView.{manifest_of}
use Rattle.strat_publish.specs.Publishing.{manifest_after}
use Rattle.strat_publish.specs.Settling.{StandApart}
use Rattle.strat_memory.specs.RecoveredFields.{held_of, empty_cache}
use Rattle.strat_publish.proofs.LaidLemmas.{written_as}
use Rattle.strat_publish.proofs.ObstacleLemmas.{short_block, short_cause}
use Rattle.strat_publish.proofs.SettlingLemmas.{may_admit, numbered_from, readied_as}
use Rattle.strat_publish.specs.declared.made.Made.{Made}
use Rattle.strat_publish.proofs.checkpoint.prepare_next.Goals as goal

pub admit_next-requires-clause-kept : goal.admit_next-requires-clause-kept
admit_next-requires-clause-kept g c = ((c.requires.kept (empty_cache 0)).0.lawful, c.in_ok-computed.ensures.fits.3)

pub returns-clause-ok : goal.returns-clause-ok
returns-clause-ok g c = λ x cached stands.
    readied_as (g.D.Disk.view c.compute_beside.new.disk) (held_of c.args.held.now cached) x _ _ _ _ _ _ _ _ c.in_ok-next.ensures.ok.0 c.in_ok-next.ensures.found c.in_ok-next.ensures.ok.2 c.in_ok-next.ensures.filters
    (c.in_ok-computed.ensures.ok x cached stands).0

pub returns-clause-found : goal.returns-clause-found
returns-clause-found g c = record {
  made = c.in_ok-computed.computed.made.level;
  first = c.in_ok-computed.computed.first;
  size = c.in_ok-computed.computed.length;
  numbered = numbered_from _ c.in_ok-computed.computed.made.level c.in_ok-next.ensures.same;
  manifest_is = ap (λ (h : Chained). h.manifest) c.in_ok-next.ensures.found ∙ c.in_ok-computed.ensures.found
      ∙ (λ i. manifest_after (manifest_of c.args.held.now.published.manifest) c.args.held.now.memory (sym c.in_ok-next.ensures.ok.2 i) c.in_ok-computed.computed.made.level);
  sb_is = c.in_ok-next.ensures.ok.0;
}

pub returns-clause-fits : goal.returns-clause-fits
returns-clause-fits g c = λ cached.
    let sb_is = c.in_ok-next.ensures.ok.0 in
    let manifest_is = ap (λ (h : Chained). h.manifest) c.in_ok-next.ensures.found ∙ c.in_ok-computed.ensures.found in
    record {
      lawful = c.in_ok-next.ensures.ok.1;
      region = ap (λ (sb : Super). sb.region) sb_is;
      mem = ap (λ (sb : Super). sb.mem) sb_is;
      changes_max = ap (λ (sb : Super). sb.changes_max) sb_is;
      versions_max = ap (λ (sb : Super). sb.versions_max) sb_is;
      changes = ap (λ (m : Manifest). m.changes) manifest_is;
      updates = ap (λ (m : Manifest). m.updates) manifest_is;
      parents = ap (λ (m : Manifest). m.parents) manifest_is;
      marks = ap (λ (m : Manifest). m.marks) manifest_is;
    }

pub returns-clause-disk : goal.returns-clause-disk
returns-clause-disk g c =
    written_as (g.D.Disk.view c.args.disk.now) (g.D.Disk.view c.compute_beside.new.disk) _ _ _ _ c.in_ok-next.ensures.ok.0 c.in_ok-next.ensures.found c.in_ok-computed.ensures.disk

pub returns-in_err-computed-clause-damaged : goal.returns-in_err-computed-clause-damaged
returns-in_err-computed-clause-damaged g c = λ b torn. c.in_err-computed.ensures.damaged b (err_of c.from_residual.result _ _ c.from_residual.ensures.1 torn)

pub returns-in_err-computed-clause-err : goal.returns-in_err-computed-clause-err
returns-in_err-computed-clause-err g c = λ unfit. c.in_err-computed.ensures.err (err_of c.from_residual.result _ _ c.from_residual.ensures.1 unfit)

pub returns-in_err-next-clause-err : goal.returns-in_err-next-clause-err
returns-in_err-next-clause-err g c = λ unfit x cached stands.
    let ready = c.in_ok-computed.ensures.ok x cached stands in
    c.in_err-next.ensures.err (err_of c.from_residual-in_err-next.result _ _ c.from_residual-in_err-next.ensures.1 unfit)
    (may_admit (g.D.Disk.view c.compute_beside.new.disk) (held_of c.args.held.now cached) x _ _ _ _ (c.requires.kept cached).0 ready.0 ready.1)

pub returns-in_err-next-clause-cause : goal.returns-in_err-next-clause-cause
returns-in_err-next-clause-cause g c = short_cause c.from_residual-in_err-next.result _ c.from_residual-in_err-next.ensures.1 c.in_err-next.ensures.cause _ _ c.in_ok-computed.ensures.cause.ok

pub returns-in_err-next-clause-damaged : goal.returns-in_err-next-clause-damaged
returns-in_err-next-clause-damaged g c = λ b bad. absurd (short_block c.from_residual-in_err-next.result _ c.from_residual-in_err-next.ensures.1 c.in_err-next.ensures.cause b bad)

pub returns-clause-kept : goal.returns-clause-kept
returns-clause-kept g c = (
  c.in_ok-next.ensures.kept,
  λ cached.
      let apart = c.in_ok-computed.ensures.room cached in
      let y : Chained = record { manifest = manifest_of c.in_ok-computed.computed.manifest; blocks = blocks_of c.in_ok-computed.computed.chain } in
      subst (λ (y : Chained). StandApart c.in_ok-next.next.target (held_of c.args.held.now cached) y) (sym c.in_ok-next.ensures.found)
      (subst (λ (n : ℕ). StandApart n (held_of c.args.held.now cached) y) (sym c.in_ok-next.ensures.ok.2) apart),
  (let made = (c.requires.kept (empty_cache 0)).1 in omega (arith, c.in_ok-next.ensures.ok.2, ap (λ (m : Made). m.target) c.in_ok-computed.ensures.fits.4, made.low)),
  (let made = (c.requires.kept (empty_cache 0)).1 in omega (arith, c.in_ok-next.ensures.ok.2, ap (λ (m : Made). m.target) c.in_ok-computed.ensures.fits.4, made.fits)),
)
