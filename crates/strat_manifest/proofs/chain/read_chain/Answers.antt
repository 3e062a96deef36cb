use Rattle.std.proofs.Common.{◌≡◌, ◌-◌, ℕ, [], Err, ap, sym, ◌∙◌, refl}
use Rattle.def_crash.specs.Image.{Image}
use Rattle.def_crash.proofs.MomentLemmas.{reads_trans}
use Rattle.def_bytes.specs.Arrays.{blocks_of}
use Rattle.def_bytes.specs.Chain.{chain_length}
use Rattle.def_bytes.specs.Chained.{chain_from}
use Rattle.strat_manifest.proofs.ChainReadLemmas.{ReadsLink, followed_all, followed_on}
use Rattle.strat_manifest.proofs.chain.read_chain.Given.{Over}
use Rattle.strat_manifest.proofs.chain.read_chain.Goals as goal
use Rattle.strat_manifest.proofs.chain.read_chain.Goals.{In_ok-next}

pub returns-in_err-next-clause-same : goal.returns-in_err-next-clause-same
returns-in_err-next-clause-same g c = reads_trans c.follow_all.ensures.same c.read_link.ensures.same

pub returns-then-next-ne0-clause-same : goal.returns-then-next-ne0-clause-same
returns-then-next-ne0-clause-same g c = reads_trans c.follow_all.ensures.same c.read_link.ensures.same

pub returns-clause-same : goal.returns-clause-same
returns-clause-same g c = reads_trans c.follow_all.ensures.same c.read_link.ensures.same

-- what was read of the last block
link : (g : Over) (c : In_ok-next g) → ReadsLink (g.D.Disk.view c.args.disk.now).content c.in_ok-last.last c.in_ok-next.next c.follow_all.new.self.bytes.items c.read_link.new.bytes.items
link g c = λ f told. c.in_ok-next.ensures.ok f (c.follow_all.ensures.same.same ∙ told)

-- how many links there are
links : (g : Over) (c : In_ok-next g) (f : Image) → chain_from f [] c.args.first (chain_length c.args.size - 1) ≡ chain_from f [] c.args.first c.saturating_sub-links.result
links g c f = ap (chain_from f [] c.args.first) (ap (λ (n : ℕ). n - 1) (sym c.blocks_for.ensures) ∙ sym c.saturating_sub-links.ensures)

pub returns-then-next-ne0-clause-damaged : goal.returns-then-next-ne0-clause-damaged
returns-then-next-ne0-clause-damaged g c = λ b torn f told.
    let w = (goal.at.returns-then-next-ne0-clause-damaged g c).In_ok-next in
    let same : c.in_ok-last.last ≡ b = cc in
    links g w f
    ∙ followed_on (g.D.Disk.view c.args.disk.now).content c.args.first c.saturating_sub-links.result (blocks_of c.follow_all.new.self.extents) c.follow_all.new.self.bytes.items c.in_ok-last.last 0
    c.in_ok-next.next c.read_link.new.bytes.items c.in_ok-last.ensures.ok.1 (link g w) refl c.if-next-ne0.true f told
    ∙ ap (λ (k : ℕ). Err k) same

pub returns-clause-ok : goal.returns-clause-ok
returns-clause-ok g c = λ f told.
    let w = (goal.at.returns-clause-ok g c).In_ok-next in
    let all = followed_all (g.D.Disk.view c.args.disk.now).content c.args.first c.saturating_sub-links.result (blocks_of c.follow_all.new.self.extents) c.follow_all.new.self.bytes.items c.in_ok-last.last 0
    c.in_ok-next.next c.read_link.new.bytes.items c.in_ok-last.ensures.ok.1 (link g w) refl c.if-next-ne0.false f told in
    (links g w f ∙ all.0, all.1)
