use Rattle.std.proofs.Common.{ℕ, Err, ap, ◌∙◌}
use Rattle.def_bytes.specs.Arrays.{blocks_of}
use Rattle.strat_gate.specs.SuperView.{super_of}
use Rattle.strat_manifest.specs.ManifestView.{manifest_of}
use Rattle.strat_open.proofs.RecoverLemmas.{damaged_block, manifest_damaged}
use Rattle.def_publish.proofs.NextLemmas.{lawful_newest}
use Rattle.strat_open.proofs.recovery.read_published.Goals as goal

pub admit-requires-clause-kept : goal.admit-requires-clause-kept
admit-requires-clause-kept g c = lawful_newest c.args.sb.now.format (manifest_of c.in_ok-manifest.manifest) c.in_ok-manifest.ensures.kept

pub returns-in-None-clause-damaged : goal.returns-in-None-clause-damaged
returns-in-None-clause-damaged g c = λ block damaged f exposed.
    manifest_damaged f (super_of c.args.sb.now) (record { manifest = manifest_of c.in_ok-manifest.manifest; blocks = blocks_of c.in_ok-manifest.chain })
    c.requires.fits.manifest_most (c.in_ok-manifest.ensures.ok f exposed) (rw c.in-None.is at c.in_ok-published.ensures.none)
    ∙ ap (λ (b : ℕ). Err b) (damaged_block c.args.sb.now.manifest block damaged)
