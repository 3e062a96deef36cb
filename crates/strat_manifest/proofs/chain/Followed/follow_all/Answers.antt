use Rattle.std.proofs.Common.{◌-◌, ℕ, List, Err, arith, ap, sym, ◌∙◌, subst}
use Rattle.def_crash.proofs.MomentLemmas.{reads_trans}
use Rattle.def_bytes.specs.Arrays.{blocks_of}
use Rattle.strat_manifest.specs.Chains.{IsFollowed}
use Rattle.strat_manifest.proofs.ChainReadLemmas.{ReadsLink, followed_more, followed_wrong, follows_low, err_told}
use Rattle.strat_manifest.proofs.chain.Followed.follow_all.Given.{Over}
use Rattle.strat_manifest.proofs.chain.Followed.follow_all.Goals as goal
use Rattle.strat_manifest.proofs.chain.Followed.follow_all.Goals.{After-follow}

pub returns-in_err-next-clause-same : goal.returns-in_err-next-clause-same
returns-in_err-next-clause-same g c = reads_trans c.loop-left.invariant.same c.read_link.ensures.same

pub returns-in_err-follow-clause-same : goal.returns-in_err-follow-clause-same
returns-in_err-follow-clause-same g c = reads_trans c.loop-left.invariant.same c.read_link.ensures.same

-- what was read of the block
link : (g : Over) (c : After-follow g) → ReadsLink (g.D.Disk.view c.args.disk.now).content c.loop-left.block c.in_ok-next.next c.loop-left.self.bytes.items c.read_link.new.bytes.items
link g c = λ f told. c.in_ok-next.ensures.ok f (c.loop-left.invariant.same.same ∙ told)

pub returns-in_err-follow-clause-damaged : goal.returns-in_err-follow-clause-damaged
returns-in_err-follow-clause-damaged g c = λ b torn f told.
    let bad = c.in_err-follow.ensures.damaged b (err_told c.from_residual-in_err-follow.result _ _ c.from_residual-in_err-follow.ensures.1 torn) in
    followed_wrong (g.D.Disk.view c.args.disk.now).content c.args.first c.args.links (blocks_of c.loop-left.self.extents) c.loop-left.self.bytes.items c.loop-left.block c.loop-left.left
    c.in_ok-next.next c.read_link.new.bytes.items c.loop-left.invariant.followed (link g (goal.at.returns-in_err-follow-clause-damaged g c).After-follow) (c.loop-left.left - 1) (omega (arith, c.loop-left-test.true)) bad.1 f told
    ∙ ap (λ (k : ℕ). Err k) (sym bad.0)

pub loop-left-preserved : goal.loop-left-preserved
loop-left-preserved g c =
    let e = c.in_ok-follow.ensures in
    let more = followed_more (g.D.Disk.view c.args.disk.now).content c.args.first c.args.links (blocks_of c.loop-left.self.extents) c.loop-left.self.bytes.items c.loop-left.block c.loop-left.left
    c.in_ok-next.next c.read_link.new.bytes.items c.loop-left.invariant.followed (link g (goal.at.loop-left-preserved g c).After-follow) (c.loop-left.left - 1) (blocks_of c.follow.new.self.extents)
    (omega (arith, c.loop-left-test.true)) e.found e.ok c.in_ok-next.ensures.len.1 in
    record {
      followed = subst (λ (l : List ℕ). IsFollowed (g.D.Disk.view c.args.disk.now).content c.args.first c.args.links (blocks_of c.follow.new.self.extents) l c.in_ok-next.next (c.loop-left.left - 1)) (sym c.follow.ensures.same) more;
      seen = e.kept;
      same = reads_trans c.loop-left.invariant.same c.read_link.ensures.same;
      within = follows_low (blocks_of c.loop-left.self.extents) c.in_ok-next.next e.found;
      len = c.in_ok-next.ensures.len.0;
      faults = c.in_ok-next.ensures.cause.ok ∙ c.loop-left.invariant.faults;
      later = let r = c.read_link.ensures.reads in omega (arith, r.later, c.loop-left.invariant.later);
      reads = let r = c.read_link.ensures.reads in omega (arith, r.bound, c.loop-left.invariant.reads, c.loop-left-test.true);
    }
