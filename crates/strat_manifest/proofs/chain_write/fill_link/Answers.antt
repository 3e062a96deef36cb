use Rattle.std.proofs.Common.{◌∙◌, ℕ, replicate, ap, length}
use Rattle.strat_manifest.proofs.ChainWriteLemmas.{link_put, length_link}
use Rattle.strat_manifest.proofs.chain_write.fill_link.Goals as goal

pub returns : goal.returns
returns c =
    let zeros = c.fill.ensures.after (λ y same. same) ∙ ap (λ (n : ℕ). replicate n 0) c.requires.fits.0 in
    let is = link_put c.args.next c.args.bytes.now c.fill.new.self c.put_u32.new.into c.put_part.new.into c.requires.fits.1 zeros c.put_u32.ensures c.put_part.ensures.ok in
    record { ok = is; len = ap length is ∙ length_link c.args.next c.args.bytes.now c.requires.fits.1 }
