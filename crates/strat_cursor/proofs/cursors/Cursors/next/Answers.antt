use Rattle.std.proofs.Common.{◌≡◌, ◌≤◌, List, length, eqb, refl, sym, ap, ◌∙◌, subst}
use Rattle.std.proofs.Math.ListN.{set}
use Rattle.std.specs.List.{position, Contains}
use Rattle.strat_cursor.specs.Cursors.{OpenCursor, CursorsView, AreNumberedBelow, are_named, moved_on, moved_at, IsMapPinned, MayGoOn, TellsNext}
use Rattle.strat_cursor.specs.Looking.{NamesNoBlock}
use Rattle.strat_cursor.specs.CursorsFields.{cursors_seen}
use Rattle.strat_cursor.specs.Pins.{ArePinned}
use Rattle.strat_cursor.proofs.OpenedLemmas.{IsFoundAt, found_at, place_none, moved_keeps}
use Rattle.strat_cursor.proofs.PinLemmas.{pinned_moved}
use Rattle.strat_cursor.proofs.NextLemmas.{next_told}
use Rattle.strat_cursor.proofs.ReadLemmas.{reads_of_one}
use Rattle.strat_cursor.proofs.FaultLemmas.{found_err, found_ok, damaged_err, looks_named}
use Rattle.strat_cursor.proofs.cursors.Cursors.next.Given.{Over}
use Rattle.strat_cursor.proofs.cursors.Cursors.next.Goals as goal
use Rattle.strat_cursor.proofs.cursors.Cursors.next.Goals.{After-index_mut-cursor, After-advance}

pub returns-in_default-clause-found : goal.returns-in_default-clause-found
returns-in_default-clause-found g c =
    rw (← c.self.view_is) (
      λ is. place_none (λ (x : OpenCursor). eqb x.number c.args.number) c.self.inside.opened.items
          (ap (λ (xs : List OpenCursor). position (λ (x : OpenCursor). eqb x.number c.args.number) xs) (sym c.deref.ensures.value) ∙ sym c.in_default.ensures.ok),
      λ none. refl,
    )

found : (g : Over) (c : After-index_mut-cursor g) → IsFoundAt c.self.inside.opened.items c.args.number c.in-Some.place c.index_mut-cursor.result.now
found g c =
    found_at c.self.inside.opened.items c.self.inside.next c.args.number c.in-Some.place c.index_mut-cursor.result.now c.self.invariant.numbered
    (c.in-Some.ensures.ok ∙ ap (λ (xs : List OpenCursor). position (λ (x : OpenCursor). eqb x.number c.args.number) xs) c.deref.ensures.value)

-- the cursor that goes on is one of those that are open
there : (g : Over) (c : After-index_mut-cursor g) → Contains c.self.inside.opened.items c.index_mut-cursor.result.now
there g c = (c.in-Some.place, (found g c).within, sym c.index_mut-cursor.ensures.value)

is_number : (g : Over) (c : After-index_mut-cursor g) → c.index_mut-cursor.result.now.number ≡ c.args.number
is_number g c = ap (λ (x : OpenCursor). x.number) c.index_mut-cursor.ensures.value ∙ (found g c).number

-- it is the one that is meant
meant : (g : Over) (c : After-index_mut-cursor g) (x : OpenCursor) → Contains c.args.self.now.opened x → x.number ≡ c.args.number → c.index_mut-cursor.result.now ≡ x
meant g c x open_there number =
    c.index_mut-cursor.ensures.value
    ∙ sym ((found g c).only x (subst (λ (v : CursorsView). Contains v.opened x) (sym c.self.view_is) open_there) number)

pub tell_page-requires-clause-kept : goal.tell_page-requires-clause-kept
tell_page-requires-clause-kept g c =
    (subst (λ (v : CursorsView). ArePinned c.args.pool.now c.args.tree.now.parents v.opened) (sym c.self.view_is) c.requires.kept).each c.index_mut-cursor.result.now (there g (goal.at.tell_page-requires-clause-kept g c).After-index_mut-cursor)

moved : (g : Over) (c : After-advance g) → IsFoundAt c.self.inside.opened.items c.args.number c.in-Some.place c.index_mut-cursor.result.now
    → set c.self.inside.opened.items c.in-Some.place c.advance.new.self ≡ moved_at c.args.number c.in_ok-more.more c.tell_page.new.out c.self.inside.opened.items
moved g c at =
    ap (λ (x : OpenCursor). set c.self.inside.opened.items c.in-Some.place x) (c.advance.ensures.ok ∙ ap (λ (x : OpenCursor). moved_on c.in_ok-more.more c.tell_page.new.out x) c.index_mut-cursor.ensures.value)
    ∙ sym (at.moved c.in_ok-more.more c.tell_page.new.out)

pub returns-in_err-more-clause-found : goal.returns-in_err-more-clause-found
returns-in_err-more-clause-found g c =
    rw (← c.self.view_is)
    (found_err c.from_residual.result _ _ c.from_residual.ensures.1 (found g (goal.at.returns-in_err-more-clause-found g c).After-index_mut-cursor).opened)

pub returns-in_err-more-clause-same : goal.returns-in_err-more-clause-same
returns-in_err-more-clause-same g c =
    rw (← c.self.view_is)
    (looks_named _ _ _ _ c.self.inside.opened.items c.index_mut-cursor.result.now (there g (goal.at.returns-in_err-more-clause-same g c).After-index_mut-cursor) c.in_err-more.ensures.same)

pub returns-in_err-more-clause-damaged : goal.returns-in_err-more-clause-damaged
returns-in_err-more-clause-damaged g c = λ b one torn open_there number.
    subst (λ (x : OpenCursor). NamesNoBlock (g.D.Disk.view c.args.disk.now).content x.arrays b)
    (meant g (goal.at.returns-in_err-more-clause-damaged g c).After-index_mut-cursor one open_there number)
    (c.in_err-more.ensures.damaged b (damaged_err c.from_residual.result _ b c.from_residual.ensures.1 torn))

pub invariant_of-self-2 : goal.invariant_of-self-2
invariant_of-self-2 g c =
    let kept = moved_keeps c.args.number c.in_ok-more.more c.tell_page.new.out c.self.inside.opened.items c.self.inside.next 64 c.self.inside.retired.items c.self.invariant.numbered c.self.invariant.few c.self.invariant.named in
    let at = goal.at.invariant_of-self-2 g c in
    let same = moved g at.After-advance (found g at.After-index_mut-cursor) in
    record {
      numbered = subst (λ (xs : List OpenCursor). AreNumberedBelow xs c.self.inside.next) (sym same) kept.numbered;
      few = subst (λ (xs : List OpenCursor). length xs ≤ 64) (sym same) kept.few;
      space = c.self.invariant.space;
      named = ap (λ (xs : List OpenCursor). are_named xs c.self.inside.retired.items) same ∙ kept.named;
    }

pub returns-clause-state : goal.returns-clause-state
returns-clause-state g c = rw (← c.self.view_is) (λ i. record (cursors_seen c.self.inside) { opened = moved g (goal.at.returns-clause-state g c).After-advance (found g (goal.at.returns-clause-state g c).After-index_mut-cursor) i })

pub returns-clause-found : goal.returns-clause-found
returns-clause-found g c =
    rw (← c.self.view_is) (found_ok c.in_ok-more.more _ (found g (goal.at.returns-clause-found g c).After-index_mut-cursor).opened)

pub returns-clause-same : goal.returns-clause-same
returns-clause-same g c =
    rw (← c.self.view_is)
    (looks_named _ _ _ _ c.self.inside.opened.items c.index_mut-cursor.result.now (there g (goal.at.returns-clause-same g c).After-index_mut-cursor) c.in_ok-more.ensures.same)

pub returns-clause-ok : goal.returns-clause-ok
returns-clause-ok g c = (
  c.in_ok-more.ensures.len,
  λ one open_there number f next m shown goes reads.
      let same = meant g (goal.at.returns-clause-ok g c).After-index_mut-cursor one open_there number in
      subst (λ (x : OpenCursor). TellsNext m x c.args.limit c.tell_page.new.out c.in_ok-more.more) same
      (let here = subst (λ (x : OpenCursor). IsMapPinned f c.args.tree.now.parents c.args.pool.now x m) (sym same) reads in
      next_told m c.index_mut-cursor.result.now c.args.limit c.tell_page.new.out c.in_ok-more.more here.ordered c.requires.fits.0
      (c.in_ok-more.ensures.ok f next m shown (subst (λ (x : OpenCursor). MayGoOn f next x c.args.cache.now) (sym same) goes) here)),
)

pub returns-in_err-more-clause-reads : goal.returns-in_err-more-clause-reads
returns-in_err-more-clause-reads g c =
    let at = (goal.at.returns-in_err-more-clause-reads g c).After-index_mut-cursor in
    rw (← c.self.view_is)
    (reads_of_one c.self.inside.opened.items c.args.number c.index_mut-cursor.result.now _ _ (there g at) (is_number g at) c.in_err-more.ensures.reads)

pub returns-clause-reads : goal.returns-clause-reads
returns-clause-reads g c =
    let at = (goal.at.returns-clause-reads g c).After-index_mut-cursor in
    rw (← c.self.view_is)
    (reads_of_one c.self.inside.opened.items c.args.number c.index_mut-cursor.result.now _ _ (there g at) (is_number g at) c.in_ok-more.ensures.reads)

pub returns-clause-kept : goal.returns-clause-kept
returns-clause-kept g c =
    rw (moved g (goal.at.returns-clause-kept g c).After-advance (found g (goal.at.returns-clause-kept g c).After-index_mut-cursor))
    (pinned_moved c.args.pool.now c.args.tree.now.parents c.args.number c.in_ok-more.more c.tell_page.new.out c.self.inside.opened.items
    (subst (λ (v : CursorsView). ArePinned c.args.pool.now c.args.tree.now.parents v.opened) (sym c.self.view_is) c.requires.kept))
