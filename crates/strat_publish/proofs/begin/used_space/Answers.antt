use Rattle.std.proofs.Common.{refl, sym, subst, List, []}
use Rattle.strat_base.specs.declared.descriptors.ArrayDesc.{ArrayDesc}
use Rattle.def_publish.specs.Occupied.{UsesMore, extents_of}
use Rattle.strat_memory.specs.Held.{contents_held}
use Rattle.strat_memory.specs.RecoveredFields.{held_of, empty_cache}
use Rattle.strat_extent.specs.Change.{CanMark}
use Rattle.strat_publish.proofs.RoomLemmas.{ample_room}
use Rattle.strat_publish.proofs.SettlingLemmas.{keeps_own, owns_blocks, space_held}
use Rattle.strat_publish.proofs.begin.used_space.Goals as goal

pub space_if_blocks_distinct-requires : goal.space_if_blocks_distinct-requires
space_if_blocks_distinct-requires c = record { fits = (c.requires.kept (empty_cache 0)).lawful.mem_most }

pub returns-clause-ok : goal.returns-clause-ok
returns-clause-ok c = λ cached levels.
    let x = contents_held (held_of c.args.held.now cached) levels in
    space_held c.in-Some.space c.mark_arrays.new.space x c.args.held.now.memory.cursors.retired
    ((rw c.in-Some.is at c.in_ok-space.ensures.ok) x refl refl (sym c.as_slice-levels.ensures.ok)).0
    (subst (λ (rs : List ArrayDesc). UsesMore c.in-Some.space (extents_of rs) c.mark_arrays.new.space) c.retired.ensures.ok (rw c.if-not-branch.false at c.in_ok-mark_arrays.ensures.ok))

pub returns-in_default-clause-err : goal.returns-in_default-clause-err
returns-in_default-clause-err c = λ _ low.
    owns_blocks (held_of c.args.held.now (empty_cache 0)) _ (c.requires.kept (empty_cache 0)) c.as_slice-levels.ensures.ok low (rw c.in_default.is at c.in_ok-space.ensures.none)

pub returns-then-not-branch-clause-err : goal.returns-then-not-branch-clause-err
returns-then-not-branch-clause-err c = λ _ low.
    let s = held_of c.args.held.now (empty_cache 0) in
    let own = ((rw c.in-Some.is at c.in_ok-space.ensures.ok) (contents_held s []) refl refl (sym c.as_slice-levels.ensures.ok)).0 in
    (rw c.if-not-branch.true at c.in_ok-mark_arrays.ensures.ok)
    (subst (λ (rs : List ArrayDesc). CanMark c.in-Some.space (extents_of rs)) (sym c.retired.ensures.ok) (keeps_own s c.in-Some.space (c.requires.kept (empty_cache 0)) own))

pub returns-clause-room : goal.returns-clause-room
returns-clause-room c = λ short.
    let s = held_of c.args.held.now (empty_cache 0) in
    let own =
    (space_held c.in-Some.space c.mark_arrays.new.space (contents_held s []) c.args.held.now.memory.cursors.retired
    ((rw c.in-Some.is at c.in_ok-space.ensures.ok) (contents_held s []) refl refl (sym c.as_slice-levels.ensures.ok)).0
    (subst (λ (rs : List ArrayDesc). UsesMore c.in-Some.space (extents_of rs) c.mark_arrays.new.space) c.retired.ensures.ok (rw c.if-not-branch.false at c.in_ok-mark_arrays.ensures.ok))) in
    ample_room s c.mark_arrays.new.space c.free.result c.args.held.now.published.chain (c.requires.kept (empty_cache 0)) refl own c.retired.ensures.len short c.free.ensures.ok c.free.ensures.len
