-- What a page leaves of a walk.
use Rattle.std.proofs.Common.{◌≡◌, ◌≤◌, ℕ, Bool, true, false, List, [], ◌∷◌, ◌++◌, cond, length, refl, sym, ap, ◌∙◌, arith}
use Rattle.std.proofs.lemmas.Bool.{ltb-false}
use Rattle.std.proofs.lemmas.List.{take_all}
use Rattle.strat_array.specs.Kept.{Blocks}
use Rattle.def_crash.specs.Image.{Image}
use Rattle.strat_model.specs.Pairs.{Pairs, range}
use Rattle.strat_cursor.specs.Ahead.{range_after}
use Rattle.strat_cursor.specs.Emitting.{AreUpTo}
use Rattle.strat_cursor.specs.Looking.{HaveOwnIds}
use Rattle.strat_cursor.specs.Ranges.{IsMapSeen, IsPageOf}
use Rattle.strat_cursor.specs.Views.{zeros_in}
use Rattle.strat_cursor.specs.Walking.{GivesPage, HasPairsLeft, arrays_walked, sources_walked}
use Rattle.strat_cursor.specs.declared.walk.Walk.{Walk}
use Rattle.strat_cursor.proofs.FirstLemmas.{from_start}
use Rattle.strat_cursor.proofs.RangeLemmas.{range_all}

-- all pairs are in the range without bounds
range_whole : (m : Pairs) → range m [] [] ≡ m
range_whole [] = refl
range_whole (p ∷ m) = ap (λ (b : Bool). cond b (p ∷ range m [] []) (range m [] [])) (from_start p.0) ∙ ap (λ (l : Pairs). p ∷ l) (range_whole m)

-- before the first pair all are left
pub all_left : (m : Pairs) (last : List ℕ) → last ≡ [] → m ≡ range_after m [] [] last
all_left m last none = sym (ap (range_after m [] []) none ∙ range_all m [] [] ∙ range_whole m)

-- a page of what was left
pub page_given : (f : Image) (c : Blocks) (w : Walk) (map left told empty : Pairs) (last : List ℕ) (more : Bool) → empty ≡ [] → HaveOwnIds (arrays_walked w)
    → IsMapSeen f w.view.now.tree.now.parents (zeros_in w.view.now) (arrays_walked w) w.version map → left ≡ range_after map [] [] last
    → IsPageOf (empty ++ range_after map [] [] last) 256 told more
    → (more ≡ true → AreUpTo f c w.view.now.pool.now w.view.now.tree.now.parents w.version [] w.last.items (sources_walked w) w.positions.items × (empty ++ range_after map [] [] last ≡ told ++ range_after map [] [] w.last.items))
    → GivesPage f c w left told more
page_given f c w map left told empty last false none own seen is page goes =
    let bare : empty ++ range_after map [] [] last ≡ range_after map [] [] last = ap (λ (l : Pairs). l ++ range_after map [] [] last) none in
    let few : length (empty ++ range_after map [] [] last) ≤ 256 = ltb-false 256 (length (empty ++ range_after map [] [] last)) (sym page.more_is) in
    page.pairs_are ∙ take_all 256 (empty ++ range_after map [] [] last) few ∙ bare ∙ sym is
page_given f c w map left told empty last true none own seen is page goes =
    let bare : empty ++ range_after map [] [] last ≡ range_after map [] [] last = ap (λ (l : Pairs). l ++ range_after map [] [] last) none in
    let on = goes refl in (
      range_after map [] [] w.last.items,
      is ∙ sym bare ∙ on.1,
      record { map = map; own = own; seen = seen; up = on.0; left_is = refl },
    )
