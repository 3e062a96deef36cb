use Rattle.std.proofs.Common.{◌≡◌, ◌≤◌, List, length, eqb, get_or, sym, ap, ◌∙◌, subst, arith}
use Rattle.std.specs.List.{position, count_by}
use Rattle.strat_arena.specs.PoolView.{shares_at}
use Rattle.strat_cursor.specs.Cursors.{OpenCursor, CursorsView, AreNumberedBelow, are_named, those_named, without_cursor}
use Rattle.strat_cursor.specs.CursorsFields.{cursors_seen}
use Rattle.strat_cursor.specs.Pins.{ArePinned, HoldShares, GivesShares, arenas_of}
use Rattle.strat_cursor.proofs.OpenedLemmas.{IsFoundAt, found_at, place_none, closed_none, closed_keeps}
use Rattle.strat_cursor.proofs.PinLemmas.{closed_room, closed_follow, closed_held, closed_pinned}
use Rattle.strat_cursor.proofs.cursors.Cursors.close.Goals as goal
use Rattle.strat_cursor.proofs.cursors.Cursors.close.Goals.{After-remove-cursor, After-keep_named}

pub returns-in_default-clause-ok : goal.returns-in_default-clause-ok
returns-in_default-clause-ok c =
    rw (← c.self.view_is)
    (sym (place_none (λ (x : OpenCursor). eqb x.number c.args.number) c.self.inside.opened.items
    (ap (λ (xs : List OpenCursor). position (λ (x : OpenCursor). eqb x.number c.args.number) xs) (sym c.deref.ensures.value) ∙ sym c.in_default.ensures.ok)))

pub returns-in_default-clause-state : goal.returns-in_default-clause-state
returns-in_default-clause-state c =
    rw (← c.self.view_is)
    (sym (closed_none c.args.number (cursors_seen c.self.inside)
    (place_none (λ (x : OpenCursor). eqb x.number c.args.number) c.self.inside.opened.items
    (ap (λ (xs : List OpenCursor). position (λ (x : OpenCursor). eqb x.number c.args.number) xs) (sym c.deref.ensures.value) ∙ sym c.in_default.ensures.ok))
    c.self.invariant.named))

found : (c : After-remove-cursor) → IsFoundAt c.self.inside.opened.items c.args.number c.in-Some.place c.remove-cursor.result
found c =
    found_at c.self.inside.opened.items c.self.inside.next c.args.number c.in-Some.place c.remove-cursor.result c.self.invariant.numbered
    (c.in-Some.ensures.ok ∙ ap (λ (xs : List OpenCursor). position (λ (x : OpenCursor). eqb x.number c.args.number) xs) c.deref.ensures.value)

left : (c : After-remove-cursor) → c.remove-cursor.new.self.items ≡ without_cursor c.args.number c.self.inside.opened.items
left c = c.remove-cursor.ensures.items ∙ sym (found c).rest

held : (c : After-remove-cursor) → HoldShares c.args.pool.now c.self.inside.opened.items
held c = subst (λ (v : CursorsView). HoldShares c.args.pool.now v.opened) (sym c.self.view_is) c.requires.kept

gives : (c : After-keep_named) → GivesShares c.args.pool.now c.release.new.pool (arenas_of (get_or c.self.inside.opened.items c.in-Some.place c.remove-cursor.result))
gives c = subst (λ (x : OpenCursor). GivesShares c.args.pool.now c.release.new.pool (arenas_of x)) c.remove-cursor.ensures.value c.release.ensures.same

kept_arrays : (c : After-keep_named) → c.keep_named.new.retired.items ≡ those_named (without_cursor c.args.number c.self.inside.opened.items) c.self.inside.retired.items
kept_arrays c =
    c.keep_named.ensures.ok
    ∙ ap (λ (xs : List OpenCursor). those_named xs c.self.inside.retired.items) (c.deref-2.ensures.value ∙ left (goal.at.returns-clause-ok c).After-remove-cursor)

pub release-requires-clause-room : goal.release-requires-clause-room
release-requires-clause-room c = λ n.
    subst (λ (x : OpenCursor). count_by (λ a. eqb a n) (arenas_of x) ≤ shares_at c.args.pool.now n) (sym c.remove-cursor.ensures.value)
    (closed_room c.args.pool.now c.args.pool.now c.self.inside.opened.items c.args.number c.in-Some.place c.remove-cursor.result (found (goal.at.release-requires-clause-room c).After-remove-cursor).within (found (goal.at.release-requires-clause-room c).After-remove-cursor).rest (held (goal.at.release-requires-clause-room c).After-remove-cursor) n)

pub invariant_of-self : goal.invariant_of-self
invariant_of-self c =
    let kept = closed_keeps c.args.number c.self.inside.opened.items c.self.inside.next 64 c.self.inside.retired.items c.self.invariant.numbered c.self.invariant.few in
    let rest : c.remove-cursor.new.self.items ≡ without_cursor c.args.number c.self.inside.opened.items = left (goal.at.invariant_of-self c).After-remove-cursor in
    record {
      numbered = subst (λ (xs : List OpenCursor). AreNumberedBelow xs c.self.inside.next) (sym rest) kept.numbered;
      few = subst (λ (xs : List OpenCursor). length xs ≤ 64) (sym rest) kept.few;
      space = omega (arith, c.remove-cursor.ensures.capacity, c.self.invariant.space);
      named = (λ i. are_named (rest i) (kept_arrays c i)) ∙ kept.named;
    }

pub returns-clause-ok : goal.returns-clause-ok
returns-clause-ok c = rw (← c.self.view_is) (sym (found (goal.at.returns-clause-ok c).After-remove-cursor).opened)

pub returns-clause-state : goal.returns-clause-state
returns-clause-state c =
    rw (← c.self.view_is) (λ i. record (cursors_seen c.self.inside) { opened = left (goal.at.returns-clause-state c).After-remove-cursor i; retired = kept_arrays c i; room = c.keep_named.ensures.room i })

pub returns-clause-kept : goal.returns-clause-kept
returns-clause-kept c =
    let at = (goal.at.returns-clause-kept c).After-remove-cursor in
    let stays = closed_held c.args.pool.now c.release.new.pool c.self.inside.opened.items c.args.number c.in-Some.place c.remove-cursor.result (found at).within (found at).rest (held at) (gives c) in
    let follow = closed_follow c.args.pool.now c.release.new.pool c.self.inside.opened.items c.args.number c.in-Some.place c.remove-cursor.result (found at).within (found at).rest (gives c) in
    rw (left at) (
      stays,
      λ parents pinned.
          closed_pinned c.args.pool.now c.release.new.pool parents c.args.number c.self.inside.opened.items stays follow
          (subst (λ (v : CursorsView). ArePinned c.args.pool.now parents v.opened) (sym c.self.view_is) pinned),
    )

pub returns-clause-same : goal.returns-clause-same
returns-clause-same c =
    rw (← c.self.view_is, left (goal.at.returns-clause-same c).After-remove-cursor)
    (closed_follow c.args.pool.now c.release.new.pool c.self.inside.opened.items c.args.number c.in-Some.place c.remove-cursor.result (found (goal.at.returns-clause-same c).After-remove-cursor).within (found (goal.at.returns-clause-same c).After-remove-cursor).rest (gives c))
