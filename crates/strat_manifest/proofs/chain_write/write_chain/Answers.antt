use Rattle.std.proofs.Common.{◌≤◌, ap, ◌≡◌, ◌<◌, ◌^◌, ℕ, true, List, arith, sym, ◌∙◌, subst}
use Rattle.strat_base.specs.declared.descriptors.Extent.{Extent}
use Rattle.strat_extent.specs.Blocks.{AreRuns, times_in, is_free}
use Rattle.strat_extent.proofs.RunLemmas.{runs_weaker}
use Rattle.def_bytes.specs.Arrays.{blocks_of}
use Rattle.def_bytes.specs.Chain.{HoldsChain, next_block}
use Rattle.strat_manifest.proofs.ChainWriteLemmas.{taken_free, chain_made, first_fits}
use Rattle.strat_manifest.proofs.chain_write.write_chain.Given.{Over}
use Rattle.strat_manifest.proofs.chain_write.write_chain.Goals as goal
use Rattle.strat_manifest.proofs.chain_write.write_chain.Goals.{After-as_slice}

pub write_extents-requires-clause-kept : goal.write_extents-requires-clause-kept
write_extents-requires-clause-kept g c =
    subst (λ (l : List Extent). AreRuns 0 l (2 ^ 32)) (sym c.as_slice.ensures.ok) (runs_weaker c.args.space.now.first 0 (2 ^ 32) (2 ^ 32) c.in_ok-taken.taken (omega arith) (omega arith) c.in_ok-taken.ensures.kept)

-- each block that was taken was free
frees : (g : Over) (c : After-as_slice g) (b : ℕ) → 0 < times_in c.as_slice.result.now b → is_free c.args.space.now b ≡ true
frees g c b some =
    taken_free c.args.space.now c.take.new.self c.in_ok-taken.taken c.in_ok-taken.ensures.ok c.in_ok-taken.ensures.kept b (subst (λ (l : List Extent). 0 < times_in l b) c.as_slice.ensures.ok some)

pub returns-in-Ok-clause-ok : goal.returns-in-Ok-clause-ok
returns-in-Ok-clause-ok g c = λ told f now.
    let held = subst (λ (l : List Extent). HoldsChain f (blocks_of l) c.args.bytes.now) c.as_slice.ensures.ok (c.in-Ok.ensures.ok told f now) in
    chain_made c.args.space.now.first c.in_ok-taken.taken c.args.bytes.now f c.requires.fits.2 c.in_ok-taken.ensures.kept (c.in_ok-taken.ensures.len ∙ c.blocks_for.ensures) held

pub returns-in-Ok-clause-images : goal.returns-in-Ok-clause-images
returns-in-Ok-clause-images g c = c.write_extents.ensures.images (is_free c.args.space.now) (frees g (goal.at.returns-in-Ok-clause-images g c).After-as_slice)

pub returns-clause-images : goal.returns-clause-images
returns-clause-images g c = c.write_extents.ensures.images (is_free c.args.space.now) (frees g (goal.at.returns-clause-images g c).After-as_slice)

pub returns-in-Ok-clause-fits : goal.returns-in-Ok-clause-fits
returns-in-Ok-clause-fits g c =
    let some : 1 ≤ c.blocks_for.result = let n = c.blocks_for.ensures in let l = c.requires.fits in omega (arith, n, l.0) in
    let head = c.in-Ok.ensures.found ∙ ap (λ (l : List Extent). next_block (blocks_of l)) c.as_slice.ensures.ok in
    first_fits c.args.space.now.first c.in-Ok.first c.blocks_for.result c.in_ok-taken.taken c.in_ok-taken.ensures.kept c.in_ok-taken.ensures.len some head
