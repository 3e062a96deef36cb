use Rattle.std.proofs.Common.{◌≡◌, List, Some, ap, sym, ◌∙◌, arith}
use Rattle.std.specs.List.{slice_get}
use Rattle.strat_base.specs.declared.descriptors.Extent.{Extent}
use Rattle.def_bytes.specs.Arrays.{blocks_of}
use Rattle.strat_array.proofs.HoldLemmas.{get_within, looks_taken, held_within, place_within, place_past}
use Rattle.strat_base.proofs.ResultFacts.{err_of}
use Rattle.strat_array.proofs.SearchLemmas.{no_block}
use Rattle.strat_array.proofs.walk.load_scratch.Given.{Over}
use Rattle.strat_array.proofs.walk.load_scratch.Goals as goal
use Rattle.strat_array.proofs.walk.load_scratch.Goals.{After-ensure_block}

place : (g : Over) (c : After-ensure_block g) → slice_get (blocks_of c.args.desc.now.extents) c.args.index ≡ Some c.in-Some.block
place g c = ap (λ (x : List Extent). slice_get (blocks_of x) c.args.index) (sym c.as_slice.ensures.ok) ∙ sym c.block_at.ensures.ok ∙ c.in-Some.is

pub returns-then-is_held-clause-ok : goal.returns-then-is_held-clause-ok
returns-then-is_held-clause-ok g c = λ lists stands. held_within _ _ _ _ _ lists stands c.args.index (sym c.is_held.ensures.ok ∙ c.if-is_held.true)

pub returns-in_default-clause-ok : goal.returns-in_default-clause-ok
returns-in_default-clause-ok g c = λ lists stands.
    place_past _ _ _ _ _ lists stands c.args.index (ap (λ (x : List Extent). slice_get (blocks_of x) c.args.index) (sym c.as_slice.ensures.ok) ∙ sym c.block_at.ensures.ok ∙ c.in_default.is)

pub returns-in_err-ensure_block-clause-damaged : goal.returns-in_err-ensure_block-clause-damaged
returns-in_err-ensure_block-clause-damaged g c = λ b torn.
    let at = c.in_err-ensure_block.ensures.damaged b (err_of c.from_residual.result _ _ c.from_residual.ensures.1 torn) in
    no_block (g.D.Disk.view c.args.disk.now).content (blocks_of c.args.desc.now.extents) c.args.index c.in-Some.block b (place g (goal.at.returns-in_err-ensure_block-clause-damaged g c).After-ensure_block) at.0 at.1

pub returns-clause-ok : goal.returns-clause-ok
returns-clause-ok g c = λ lists stands. place_within _ _ _ _ _ lists stands c.args.index c.in-Some.block (place g (goal.at.returns-clause-ok g c).After-ensure_block)

pub returns-clause-same : goal.returns-clause-same
returns-clause-same g c =
    let at = place g (goal.at.returns-clause-same g c).After-ensure_block in
    looks_taken _ _ _ (blocks_of c.args.desc.now.extents) _ _ _ _ _ c.args.index c.in-Some.block (c.ensure_block.ensures.same (blocks_of c.args.desc.now.extents) at) c.copy_from_cache.ensures.kept at

pub returns-in_err-ensure_block-clause-len : goal.returns-in_err-ensure_block-clause-len
returns-in_err-ensure_block-clause-len g c = λ past.
    let lt = get_within (blocks_of c.args.desc.now.extents) c.args.index c.in-Some.block (place g (goal.at.returns-in_err-ensure_block-clause-len g c).After-ensure_block) in
    absurd (omega (arith, lt, past))

pub returns-clause-len : goal.returns-clause-len
returns-clause-len g c = λ past.
    let lt = get_within (blocks_of c.args.desc.now.extents) c.args.index c.in-Some.block (place g (goal.at.returns-clause-len g c).After-ensure_block) in
    absurd (omega (arith, lt, past))
