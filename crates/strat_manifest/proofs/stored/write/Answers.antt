use Rattle.std.proofs.Common.{◌≤◌, ℕ, length, sym, ap, ◌∙◌, subst, arith}
use Rattle.def_bytes.specs.Arrays.{blocks_of}
use Rattle.def_bytes.specs.Chain.{IsChain}
use Rattle.strat_manifest.specs.ManifestView.{manifest_of}
use Rattle.def_bytes.specs.Layout.{shortest_manifest}
use Rattle.strat_manifest.proofs.ChainStoredLemmas.{some_byte, some_bytes, chain_stored}
use Rattle.strat_manifest.proofs.stored.write.Goals as goal

pub write_chain-requires-clause-fits : goal.write_chain-requires-clause-fits
write_chain-requires-clause-fits g c =
    let long = ap length (c.deref.ensures.value ∙ c.in_ok-bytes.ensures.ok.text) in
    let some = some_byte c.args.format (manifest_of c.args.m.now) in
    (omega (arith, long, some), omega (arith, long, c.requires.fits.0), c.requires.fits.1)

pub returns-clause-ok : goal.returns-clause-ok
returns-clause-ok g c = λ told f now.
    let chain = subst (IsChain f (blocks_of c.in_ok-first.blocks)) c.deref.ensures.value (c.in_ok-first.ensures.ok told f now) in
    record {
      read = chain_stored c.args.format f c.in_ok-first.first c.len.result (blocks_of c.in_ok-first.blocks) c.in_ok-bytes.bytes.items (manifest_of c.args.m.now) c.in_ok-bytes.ensures.ok
          chain c.in_ok-first.ensures.found.2 (c.len.ensures ∙ c.in_ok-bytes.ensures.len);
      chain = subst (IsChain f (blocks_of c.in_ok-first.blocks)) c.in_ok-bytes.ensures.ok.text chain;
      first_is = c.in_ok-first.ensures.found.2;
    }

pub returns-clause-fits : goal.returns-clause-fits
returns-clause-fits g c =
    let e = c.in_ok-first.ensures.fits in
    (e.0, e.1, subst (λ (n : ℕ). shortest_manifest c.args.format ≤ n) (sym (c.len.ensures ∙ c.in_ok-bytes.ensures.len)) (some_bytes c.args.format (manifest_of c.args.m.now) c.requires.kept))
