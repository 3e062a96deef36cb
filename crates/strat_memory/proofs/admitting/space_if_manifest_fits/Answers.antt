use Rattle.std.proofs.Common.{sym, ◌∙◌}
use Rattle.def_bytes.specs.Arrays.{blocks_of}
use Rattle.strat_gate.specs.SuperView.{super_of}
use Rattle.strat_manifest.specs.ManifestView.{manifest_of}
use Rattle.strat_memory.proofs.AdmitLemmas.{counts_fail, ids_fail, ids_are, space_kept, space_none}
use Rattle.strat_memory.proofs.admitting.space_if_manifest_fits.Goals as goal

pub returns-then-not-counts_are_plausible-clause-none : goal.returns-then-not-counts_are_plausible-clause-none
returns-then-not-counts_are_plausible-clause-none c = λ _ _.
    counts_fail (super_of c.args.sb.now) (record { manifest = manifest_of c.args.manifest.now; blocks = blocks_of c.args.chain.now })
    (sym c.counts_are_plausible.ensures.ok ∙ c.if-not-counts_are_plausible.true)

pub returns-then-not-branch-clause-none : goal.returns-then-not-branch-clause-none
returns-then-not-branch-clause-none c = λ _ _.
    ids_fail (super_of c.args.sb.now) (record { manifest = manifest_of c.args.manifest.now; blocks = blocks_of c.args.chain.now })
    (ids_are (manifest_of c.args.manifest.now) c.as_slice.result.now _ _ c.as_slice.ensures.ok c.in_ok-ids_are_distinct.ensures.ok c.if-not-branch.true)

pub returns-clause-kept : goal.returns-clause-kept
returns-clause-kept c =
    space_kept (super_of c.args.sb.now) (manifest_of c.args.manifest.now) c.args.chain.now c.as_slice-2.result.now c.as_slice-2.ensures.ok c.space_if_blocks_distinct.result c.space_if_blocks_distinct.ensures.ok
    (ids_are (manifest_of c.args.manifest.now) c.as_slice.result.now _ _ c.as_slice.ensures.ok c.in_ok-ids_are_distinct.ensures.ok c.if-not-branch.false)
    (sym c.counts_are_plausible.ensures.ok ∙ c.if-not-counts_are_plausible.false)

pub returns-clause-none : goal.returns-clause-none
returns-clause-none c =
    space_none (super_of c.args.sb.now) (manifest_of c.args.manifest.now) c.args.chain.now c.as_slice-2.result.now c.as_slice-2.ensures.ok c.space_if_blocks_distinct.result c.space_if_blocks_distinct.ensures.none
