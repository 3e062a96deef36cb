use Rattle.std.proofs.Common.{◌≡◌, ◌≤◌, ◌<◌, ◌+◌, ◌++◌, ◌∷◌, [], List, eqb, length, sym, ap, ◌∙◌, subst, arith}
use Rattle.std.proofs.lemmas.Bool.{eqb-false}
use Rattle.strat_cursor.specs.Cursors.{OpenCursor, CursorsView, AreNumberedBelow, are_named}
use Rattle.strat_cursor.specs.Pins.{ArePinned}
use Rattle.strat_cursor.proofs.OpenedLemmas.{started_keeps}
use Rattle.strat_cursor.proofs.PinLemmas.{started_follow, started_pinned}
use Rattle.strat_cursor.proofs.cursors.Cursors.start.Goals as goal

pub invariant_of-self : goal.invariant_of-self
invariant_of-self c =
    let apart = eqb-false (length c.self.inside.opened.items) 64 (ap (λ (v : CursorsView). eqb (length v.opened) 64) c.self.view_is ∙ sym c.is_full.ensures.ok ∙ c.if-is_full.false) in
    let few : length c.self.inside.opened.items < 64 = omega (arith, c.self.invariant.few, apart) in
    let kept = started_keeps c.self.inside.opened.items c.in_ok-cursor.cursor c.self.inside.next 64 c.self.inside.retired.items c.self.invariant.numbered few c.self.invariant.named
    (ap (λ (x : OpenCursor). x.number) c.in_ok-cursor.ensures.ok) in
    let more : c.push_reserved.new.self.items ≡ c.self.inside.opened.items ++ c.in_ok-cursor.cursor ∷ [] = c.push_reserved.ensures.items in
    record {
      numbered = subst (λ (xs : List OpenCursor). AreNumberedBelow xs (c.self.inside.next + 1)) (sym more) kept.numbered;
      few = subst (λ (xs : List OpenCursor). length xs ≤ 64) (sym more) kept.few;
      space = omega (arith, c.push_reserved.ensures.capacity, c.self.invariant.space);
      named = ap (λ (xs : List OpenCursor). are_named xs c.self.inside.retired.items) more ∙ kept.named;
    }

pub returns-clause-same : goal.returns-clause-same
returns-clause-same c =
    rw (← c.self.view_is, c.push_reserved.ensures.items)
    (started_follow c.args.pool.now c.open_cursor.new.pool c.self.inside.opened.items c.in_ok-cursor.cursor c.in_ok-cursor.ensures.same)

pub returns-clause-kept : goal.returns-clause-kept
returns-clause-kept c =
    rw (c.push_reserved.ensures.items)
    (started_pinned c.args.pool.now c.open_cursor.new.pool c.self.inside.opened.items c.in_ok-cursor.cursor c.in_ok-cursor.ensures.same
    c.args.tree.now.parents c.args.zero.now _ c.args.levels.now c.args.version
    (subst (λ (v : CursorsView). ArePinned c.args.pool.now c.args.tree.now.parents v.opened) (sym c.self.view_is) c.requires.kept)
    c.requires.found c.in_ok-cursor.ensures.found (ap (λ (x : OpenCursor). x.arrays) c.in_ok-cursor.ensures.ok) (ap (λ (x : OpenCursor). x.version) c.in_ok-cursor.ensures.ok) c.in_ok-cursor.ensures.fits)
