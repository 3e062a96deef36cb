use Rattle.std.proofs.Common.{◌≡◌, ◌+◌, ◌∷◌, [], length, refl, sym, ap, subst, ◌∙◌, arith, length-append}
use Rattle.strat_base.specs.ChangeView.{change_of}
use Rattle.strat_cursor.specs.Looking.{AreOfOldArrays}
use Rattle.strat_memory.specs.Admitting.{chained_of}
use Rattle.strat_memory.specs.RecoveredFields.{held_of}
use Rattle.strat_memory.specs.declared.open_store.OpenStore.{OpenStore}
use Rattle.strat_store.specs.Staging.{HasRoomForStaged, IsStaged, replies_staged, takes_staged}
use Rattle.strat_store.proofs.StagingLemmas.{place_free, place_room, replies_counted, replies_pushed, staged_of}
use Rattle.strat_store.proofs.store.Store.stage.Goals as goal
use Rattle.strat_store.proofs.store.Store.stage.Goals.{After-len-staged}

-- the store that was given
given : (c : After-len-staged) → IsStaged (record (held_of c.self.inside.held c.self.inside.cache) { spent = c.self.inside.spent })
given c =
    let going = rw (← c.self.view_is) at c.requires.kept in
    let whole = c.self.invariant going in
    staged_of c.self.inside.held c.self.inside.cache c.self.inside.spent c.self.inside.replies whole.0 whole.1 whole.2 (omega (arith, c.len-staged.ensures.ok, c.len-staged.ensures.fits)) whole.3

pub returns-in_default-clause-kept : goal.returns-in_default-clause-kept
returns-in_default-clause-kept c =
    let all = given (goal.at.returns-in_default-clause-kept c).After-len-staged in
    rw (← c.self.view_is) (all, all, λ f rows are. are)

pub stage_change-requires-clause-kept : goal.stage_change-requires-clause-kept
stage_change-requires-clause-kept c =
    let going = rw (← c.self.view_is) at c.requires.kept in
    (c.self.invariant going).0

pub stage_change-requires-clause-len : goal.stage_change-requires-clause-len
stage_change-requires-clause-len c =
    let going = rw (← c.self.view_is) at c.requires.kept in
    c.len-staged.ensures.ok ∙ replies_counted c.self.inside.held c.self.inside.cache c.self.inside.replies (c.self.invariant going).2

pub invariant_of-self : goal.invariant_of-self
invariant_of-self c calm =
    let whole = c.self.invariant calm in
    let same = sym (c.in_default-stage_change.ensures.none refl) in (
      c.in_default-stage_change.ensures.kept,
      subst (λ (o : OpenStore). AreOfOldArrays (chained_of o.published).manifest.next_array c.self.inside.cache) same whole.1,
      subst (λ (o : OpenStore). c.self.inside.replies ≡ replies_staged (held_of o c.self.inside.cache)) same whole.2,
      subst (λ (o : OpenStore). HasRoomForStaged o.journal) same whole.3,
    )

pub returns-in_default-stage_change-clause-ok : goal.returns-in_default-stage_change-clause-ok
returns-in_default-stage_change-clause-ok c =
    rw (← c.self.view_is)
    (c.in_default-stage_change.ensures.ok c.self.inside.cache ∙ ap (takes_staged (record (held_of c.self.inside.held c.self.inside.cache) { spent = c.self.inside.spent })) (sym c.in-Some.ensures))

pub returns-in_default-stage_change-clause-kept : goal.returns-in_default-stage_change-clause-kept
returns-in_default-stage_change-clause-kept c =
    let all = given (goal.at.returns-in_default-stage_change-clause-kept c).After-len-staged in
    let same = sym (c.in_default-stage_change.ensures.none refl) in
    rw (← c.self.view_is) (
      all,
      subst (λ (o : OpenStore). IsStaged (record (held_of o c.self.inside.cache) { spent = c.self.inside.spent })) same all,
      c.in_default-stage_change.ensures.same,
    )

pub push-requires : goal.push-requires
push-requires c =
    let going = rw (← c.self.view_is) at c.requires.kept in
    let place = (place_free (held_of c.self.inside.held c.self.inside.cache) (change_of c.in-Some.asked) (sym (c.in-Some-stage_change.ensures.ok c.self.inside.cache))).0 in
    let few = (place_room c.self.inside.held.journal place).0 in
    record { room = omega (arith, few, replies_counted c.self.inside.held c.self.inside.cache c.self.inside.replies (c.self.invariant going).2) }

pub invariant_of-self-2 : goal.invariant_of-self-2
invariant_of-self-2 c calm =
    let whole = c.self.invariant calm in
    let is = c.in-Some-stage_change.ensures.state refl in (
      c.in-Some-stage_change.ensures.kept,
      subst (λ (o : OpenStore). AreOfOldArrays (chained_of o.published).manifest.next_array c.self.inside.cache) (sym is) whole.1,
      replies_pushed c.self.inside.held c.stage_change.new.held c.self.inside.cache (change_of c.in-Some.asked) c.self.inside.replies c.push.new.self c.in-Some-stage_change.told (whole.0 c.self.inside.cache) whole.2 is
          c.in-Some-stage_change.ensures.found c.push.ensures.ok,
      c.in-Some-stage_change.ensures.room refl,
    )

pub returns-clause-ok : goal.returns-clause-ok
returns-clause-ok c =
    rw (← c.self.view_is)
    (c.in-Some-stage_change.ensures.ok c.self.inside.cache ∙ ap (takes_staged (record (held_of c.self.inside.held c.self.inside.cache) { spent = c.self.inside.spent })) (sym c.in-Some.ensures))

pub returns-clause-kept : goal.returns-clause-kept
returns-clause-kept c =
    let all = given (goal.at.returns-clause-kept c).After-len-staged in
    let going = rw (← c.self.view_is) at c.requires.kept in
    let whole = c.self.invariant going in
    let is = c.in-Some-stage_change.ensures.state refl in
    let place = (place_free (held_of c.self.inside.held c.self.inside.cache) (change_of c.in-Some.asked) (sym (c.in-Some-stage_change.ensures.ok c.self.inside.cache))).0 in
    let few = (place_room c.self.inside.held.journal place).0 in
    let counted = replies_counted c.self.inside.held c.self.inside.cache c.self.inside.replies whole.2 in
    let longer : length c.push.new.self ≡ length c.self.inside.replies + 1 = ap length c.push.ensures.ok ∙ length-append c.self.inside.replies (c.in-Some-stage_change.told ∷ []) in
    let replies = replies_pushed c.self.inside.held c.stage_change.new.held c.self.inside.cache (change_of c.in-Some.asked) c.self.inside.replies c.push.new.self c.in-Some-stage_change.told (whole.0 c.self.inside.cache) whole.2 is
    c.in-Some-stage_change.ensures.found c.push.ensures.ok in
    let old = subst (λ (o : OpenStore). AreOfOldArrays (chained_of o.published).manifest.next_array c.self.inside.cache) (sym is) whole.1 in
    rw (← c.self.view_is) (
      all,
      staged_of c.stage_change.new.held c.self.inside.cache c.self.inside.spent c.push.new.self c.in-Some-stage_change.ensures.kept old replies (omega (arith, longer, counted, few)) (c.in-Some-stage_change.ensures.room refl),
      c.in-Some-stage_change.ensures.same,
    )
