use Rattle.strat_extent.specs.Blocks.{is_free}
use Rattle.def_bytes.specs.Arrays.{blocks_of}
use Rattle.strat_block.proofs.BlockFacts.{block_stands-in}
use Rattle.strat_array.proofs.PushLemmas.{block_added}
use Rattle.strat_array.proofs.TakesLemmas.{takes_nothing, takes_one}
use Rattle.strat_array.proofs.writer.write_pending.Goals as goal

pub returns-in_err-block-clause-found : goal.returns-in_err-block-clause-found
returns-in_err-block-clause-found g c =
    let e = c.in_err-block.ensures.err in
    takes_nothing c.args.space.now c.take_block.new.space c.args.extents.now c.take_block.new.extents e.0 e.1

pub returns-in_err-written-clause-found : goal.returns-in_err-written-clause-found
returns-in_err-written-clause-found g c =
    takes_one c.args.space.now c.take_block.new.space c.args.extents.now c.take_block.new.extents c.in_ok-block.block c.in_ok-block.ensures.found c.in_ok-block.ensures.ok

pub returns-clause-found : goal.returns-clause-found
returns-clause-found g c =
    takes_one c.args.space.now c.take_block.new.space c.args.extents.now c.take_block.new.extents c.in_ok-block.block c.in_ok-block.ensures.found c.in_ok-block.ensures.ok

pub returns-in_err-written-clause-same : goal.returns-in_err-written-clause-same
returns-in_err-written-clause-same g c = c.write_block-written.ensures.same (is_free c.args.space.now) c.in_ok-block.ensures.found.free

pub returns-clause-same : goal.returns-clause-same
returns-clause-same g c = c.write_block-written.ensures.same (is_free c.args.space.now) c.in_ok-block.ensures.found.free

pub returns-clause-ok : goal.returns-clause-ok
returns-clause-ok g c = λ f h es told now old.
    block_added c.args.space.now (g.D.Disk.view c.args.disk.now) (g.D.Disk.view c.write_block-written.new.disk) f h (blocks_of c.args.extents.now) (blocks_of c.take_block.new.extents)
    c.in_ok-block.block c.spell.result es c.args.pending.now (block_stands-in c.spell.result c.args.pending.now c.spell.ensures.ok).len c.spell.ensures.ok c.in_ok-block.ensures.ok
    c.requires.found told now c.in_ok-written.ensures.ok (c.write_block-written.ensures.same (is_free c.args.space.now) c.in_ok-block.ensures.found.free) old
