use Rattle.std.proofs.Common.{◌≡◌, Some, List, ap, sym, ◌∙◌}
use Rattle.std.specs.List.{slice_get}
use Rattle.strat_base.specs.declared.descriptors.Extent.{Extent}
use Rattle.def_bytes.specs.Arrays.{blocks_of}
use Rattle.strat_base.proofs.ResultFacts.{on_ok_then}
use Rattle.strat_array.proofs.SearchLemmas.{kept_listed, no_block}
use Rattle.strat_array.proofs.reading.ensure_block_at.Goals as goal
use Rattle.strat_array.proofs.reading.ensure_block_at.Given.{Over}
use Rattle.strat_array.proofs.reading.ensure_block_at.Goals.{After-ensure_block}

place : (g : Over) (c : After-ensure_block g) → slice_get (blocks_of c.args.desc.now.extents) c.args.index ≡ Some c.unwrap-block.result
place g c = ap (λ (x : List Extent). slice_get (blocks_of x) c.args.index) (sym c.as_slice.ensures.ok) ∙ sym c.block_at.ensures.ok ∙ c.unwrap-block.ensures

pub returns-clause-ok : goal.returns-clause-ok
returns-clause-ok g c =
    on_ok_then c.ensure_block.result c.ensure_block.ensures.found (λ found lists stands.
    kept_listed (g.D.Disk.view c.args.disk.now) (g.D.Disk.view c.ensure_block.new.disk) c.args.desc.now.id (blocks_of c.args.desc.now.extents) c.args.cache.now c.ensure_block.new.cache c.args.scratch.now c.ensure_block.new.scratch lists
    c.args.index c.unwrap-block.result (c.ensure_block.ensures.same (blocks_of c.args.desc.now.extents) (place g c)) (place g c) found stands)

pub returns-clause-damaged : goal.returns-clause-damaged
returns-clause-damaged g c = λ b torn.
    let at = c.ensure_block.ensures.damaged b torn in
    no_block (g.D.Disk.view c.args.disk.now).content (blocks_of c.args.desc.now.extents) c.args.index c.unwrap-block.result b (place g c) at.0 at.1
