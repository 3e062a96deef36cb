use Rattle.std.proofs.Common.{◌≤◌, ◌<◌, ◌+◌, ◌-◌, length, is_some, sym, ◌∙◌, arith}
use Rattle.std.proofs.lemmas.Bool.{OnTrue_at, ltb-true}
use Rattle.def_bytes.specs.Arrays.{blocks_of}
use Rattle.strat_array.specs.Kept.{held_block}
use Rattle.strat_array.specs.Steps.{blocks_ahead}
use Rattle.strat_array.proofs.AheadLemmas.{held_ahead, next_ahead, ahead_held}
use Rattle.strat_array.proofs.KeptLemmas.{listed_length, looks_trans, stands_after}
use Rattle.strat_array.proofs.HoldLemmas.{left_past_held, left_none, holds_place}
use Rattle.strat_base.proofs.ResultFacts.{err_of}
use Rattle.strat_array.proofs.SearchLemmas.{no_block_same}
use Rattle.strat_array.proofs.walk.first_place_from.Given.{Over}
use Rattle.strat_array.proofs.walk.first_place_from.Goals as goal
use Rattle.strat_array.proofs.walk.first_place_from.Goals.{After-load_scratch, After-load_scratch-2}

pub returns-in_err-load_scratch-clause-damaged : goal.returns-in_err-load_scratch-clause-damaged
returns-in_err-load_scratch-clause-damaged g c = λ b torn. c.in_err-load_scratch.ensures.damaged b (err_of c.from_residual.result _ _ c.from_residual.ensures.1 torn)

pub returns-in_default-clause-ok : goal.returns-in_default-clause-ok
returns-in_default-clause-ok g c = λ lists stands.
    let len = listed_length stands.image (blocks_of c.args.desc.now.extents) lists stands.listed in
    let within : c.args.place.block < length lists = ltb-true c.args.place.block (length lists) (sym (c.in_ok-load_scratch.ensures.ok lists stands) ∙ c.if-not-branch.false) in
    absurd (c.in_default.ensures (omega (arith, len, within, c.requires.fits.few)))

pub returns-in_err-load_scratch-2-clause-same : goal.returns-in_err-load_scratch-2-clause-same
returns-in_err-load_scratch-2-clause-same g c = looks_trans _ _ _ _ _ _ _ _ _ _ _ c.load_scratch.ensures.same c.load_scratch-2.ensures.same

pub returns-in_err-load_scratch-2-clause-damaged : goal.returns-in_err-load_scratch-2-clause-damaged
returns-in_err-load_scratch-2-clause-damaged g c = λ b torn.
    no_block_same (g.D.Disk.view c.args.disk.now).content (g.D.Disk.view c.load_scratch.new.disk).content (blocks_of c.args.desc.now.extents) b c.load_scratch.ensures.same.disk.same
    (c.in_err-load_scratch-2.ensures.damaged b (err_of c.from_residual-in_err-load_scratch-2.result _ _ c.from_residual-in_err-load_scratch-2.ensures.1 torn))

pub returns-then-not-branch-2-clause-ok : goal.returns-then-not-branch-2-clause-ok
returns-then-not-branch-2-clause-ok g c = λ lists stands.
    let now = stands_after _ _ _ _ _ _ _ _ lists c.load_scratch.ensures.same stands in
    left_past_held _ _ _ _ _ lists now c.args.place.block c.args.place.index c.in-Some.block c.has.result (OnTrue_at c.if-not-branch.false c.in_ok-load_scratch.ensures.found) c.has.ensures.ok c.if-has.false (omega arith)
    ∙ left_none lists c.in-Some.block 0 c.in_ok-load_scratch-2.field-0 (c.in_ok-load_scratch-2.ensures.ok lists now) c.if-not-branch-2.true

pub returns-then-not-branch-2-clause-same : goal.returns-then-not-branch-2-clause-same
returns-then-not-branch-2-clause-same g c = looks_trans _ _ _ _ _ _ _ _ _ _ _ c.load_scratch.ensures.same c.load_scratch-2.ensures.same

pub returns-clause-found : goal.returns-clause-found
returns-clause-found g c = holds_place c.load_scratch-2.new.scratch c.args.desc.now.id _ (OnTrue_at c.if-not-branch-2.false c.in_ok-load_scratch-2.ensures.found) c.has-some.ensures.len

pub returns-clause-ok : goal.returns-clause-ok
returns-clause-ok g c = λ lists stands.
    let now = stands_after _ _ _ _ _ _ _ _ lists c.load_scratch.ensures.same stands in
    left_past_held _ _ _ _ _ lists now c.args.place.block c.args.place.index c.in-Some.block c.has.result (OnTrue_at c.if-not-branch.false c.in_ok-load_scratch.ensures.found) c.has.ensures.ok c.if-has.false (omega arith)

pub returns-clause-same : goal.returns-clause-same
returns-clause-same g c = looks_trans _ _ _ _ _ _ _ _ _ _ _ c.load_scratch.ensures.same c.load_scratch-2.ensures.same

-- the reads up to the first block that is held
first : (g : Over) (c : After-load_scratch g) → g.D.Disk.reads c.load_scratch.new.disk + (length (blocks_of c.args.desc.now.extents) - (c.args.place.block + 1))
    ≤ g.D.Disk.reads c.args.disk.now + blocks_ahead c.args.scratch.now c.args.desc.now.id (length (blocks_of c.args.desc.now.extents)) c.args.place
first g c =
    held_ahead (is_some (held_block c.args.scratch.now c.args.desc.now.id c.args.place.block)) (length (blocks_of c.args.desc.now.extents)) c.args.place.block _ _
    c.load_scratch.ensures.reads.bound c.load_scratch.ensures.none c.load_scratch.ensures.len

pub returns-in_err-load_scratch-clause-len : goal.returns-in_err-load_scratch-clause-len
returns-in_err-load_scratch-clause-len g c = let before = first g (goal.at.returns-in_err-load_scratch-clause-len g c).After-load_scratch in omega (arith, before)

pub returns-then-not-branch-clause-len : goal.returns-then-not-branch-clause-len
returns-then-not-branch-clause-len g c = let before = first g (goal.at.returns-then-not-branch-clause-len g c).After-load_scratch in omega (arith, before)

pub returns-then-has-clause-len : goal.returns-then-has-clause-len
returns-then-has-clause-len g c = let before = first g (goal.at.returns-then-has-clause-len g c).After-load_scratch in omega (arith, before)

pub returns-then-has-clause-room : goal.returns-then-has-clause-room
returns-then-has-clause-room g c =
    let before = first g (goal.at.returns-then-has-clause-room g c).After-load_scratch in
    let held = ahead_held c.load_scratch.new.scratch c.args.desc.now.id (length (blocks_of c.args.desc.now.extents)) c.args.place (OnTrue_at c.if-not-branch.false c.in_ok-load_scratch.ensures.found) in
    omega (arith, before, held)

pub returns-in_default-clause-len : goal.returns-in_default-clause-len
returns-in_default-clause-len g c = let before = first g (goal.at.returns-in_default-clause-len g c).After-load_scratch in omega (arith, before)

second : (g : Over) (c : After-load_scratch-2 g) → g.D.Disk.reads c.load_scratch-2.new.disk + (length (blocks_of c.args.desc.now.extents) - (c.in-Some.block + 1))
    ≤ g.D.Disk.reads c.args.disk.now + blocks_ahead c.args.scratch.now c.args.desc.now.id (length (blocks_of c.args.desc.now.extents)) c.args.place
second g c =
    next_ahead (is_some (held_block c.load_scratch.new.scratch c.args.desc.now.id c.in-Some.block)) (length (blocks_of c.args.desc.now.extents)) c.args.place.block c.in-Some.block _ _ _ (omega arith)
    (held_ahead (is_some (held_block c.args.scratch.now c.args.desc.now.id c.args.place.block)) (length (blocks_of c.args.desc.now.extents)) c.args.place.block _ _
    c.load_scratch.ensures.reads.bound c.load_scratch.ensures.none c.load_scratch.ensures.len)
    c.load_scratch-2.ensures.reads.bound c.load_scratch-2.ensures.none c.load_scratch-2.ensures.len

pub returns-in_err-load_scratch-2-clause-len : goal.returns-in_err-load_scratch-2-clause-len
returns-in_err-load_scratch-2-clause-len g c = let before = second g (goal.at.returns-in_err-load_scratch-2-clause-len g c).After-load_scratch-2 in omega (arith, before)

pub returns-then-not-branch-2-clause-len : goal.returns-then-not-branch-2-clause-len
returns-then-not-branch-2-clause-len g c = let before = second g (goal.at.returns-then-not-branch-2-clause-len g c).After-load_scratch-2 in omega (arith, before)

pub returns-clause-len : goal.returns-clause-len
returns-clause-len g c = let before = second g (goal.at.returns-clause-len g c).After-load_scratch-2 in omega (arith, before)

pub returns-clause-room : goal.returns-clause-room
returns-clause-room g c =
    let before = second g (goal.at.returns-clause-room g c).After-load_scratch-2 in
    let held = ahead_held c.load_scratch-2.new.scratch c.args.desc.now.id (length (blocks_of c.args.desc.now.extents)) (record { block = c.in-Some.block; index = 0 }) (OnTrue_at c.if-not-branch-2.false c.in_ok-load_scratch-2.ensures.found) in
    omega (arith, before, held)
