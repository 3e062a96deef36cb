use Rattle.std.proofs.Common.{sym, subst}
use Rattle.def_bytes.specs.Arrays.{blocks_of}
use Rattle.strat_manifest.specs.Chains.{AreSeen}
use Rattle.strat_manifest.proofs.chain.Followed.add.Goals as goal

pub returns-clause-kept : goal.returns-clause-kept
returns-clause-kept c = λ yes.
    subst (AreSeen c.mark_block.new.seen) (sym c.in_ok-push_block.ensures.ok) (c.in_ok-mark_block.ensures.ok (blocks_of c.args.self.now.extents) c.if-not-branch.false c.requires.kept)
