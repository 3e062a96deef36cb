use Rattle.std.proofs.Common.{◌≡◌, ◌*◌, length, sym, ◌∙◌, ap}
use Rattle.def_crash.specs.Image.{Image, window}
use Rattle.def_crash.proofs.MomentLemmas.{at_told}
use Rattle.strat_manifest.proofs.ChainReadLemmas.{link_told}
use Rattle.strat_manifest.proofs.chain.read_link.Goals as goal

pub returns-clause-ok : goal.returns-clause-ok
returns-clause-ok g c = λ f told.
    let back : c.read_at.new.into ≡ window f (4096 * c.args.block) (length c.args.buffer.now) = at_told (g.D.Disk.view c.args.disk.now).content (λ (h : Image). c.read_at.new.into ≡ window h (4096 * c.args.block) (length c.args.buffer.now)) f told c.in_ok-read_at.ensures.ok in
    link_told f c.args.block c.unwrap.result c.read_at.new.into c.args.bytes.now.items c.extend_from_slice.new.self.items (back ∙ ap (window f (4096 * c.args.block)) c.requires.fits.1)
    (sym c.unwrap.ensures ∙ c.get_u32.ensures) c.in_ok-extend_from_slice.ensures.items
