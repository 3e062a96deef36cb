-- Filters of levels: none is kept after an opening, and after a promotion those of the deeper levels and of the new one.
use Rattle.std.proofs.Common.{◌≡◌, ◌≤◌, ◌<◌, ◌+◌, ◌-◌, ℕ, zero, suc, Bool, true, false, cond, leb, ltb, get_or, inl, inr, List, [], ◌∷◌, ◌++◌, drop, replicate, Contains, None, Some, refl, sym, ap, ◌∙◌, arith}
use Rattle.std.proofs.lemmas.Bool.{le-leb, ltb-true}
use Rattle.std.proofs.lemmas.Grind.{get_or_head}
use Rattle.std.proofs.lemmas.List.{get_or-append_right, get_or-drop, get_or_past, length-replicate}
use Rattle.strat_base.proofs.ListFacts.{among_split, filter_among}
use Rattle.strat_filter.specs.Keys.{IsFilterOf}
use Rattle.def_promote.specs.Promoted.{levels_behind}
use Rattle.def_publish.proofs.ListLemmas.{contained_among, among_contained}
use Rattle.def_state.specs.Level.{Level, TaggedArray}
use Rattle.strat_memory.specs.Filters.{LevelFilters, AreFiltersOf, filter_at, filter_of, filters_after, filters_of_level, no_filters}

-- both branches of a choice are the same
either : {X : Type 0} (b : Bool) (x y : X) → x ≡ y → cond b x y ≡ y
either true x y e = e
either false x y e = refl

-- the first branch is taken
first : {X : Type 0} (b : Bool) (x y : X) → b ≡ true → cond b x y ≡ x
first true x y e = refl
first false x y e = absurd (cc)

clear : (n i : ℕ) → get_or (replicate n no_filters) i no_filters ≡ no_filters
clear zero i = get_or_past [] i no_filters (omega arith)
clear (suc n) zero = refl
clear (suc n) (suc i) = clear n i

none_of : (id : ℕ) → filter_of no_filters id ≡ None
none_of id = either (leb 0 id) (get_or [] (id - 0) None) None (get_or_past [] (id - 0) None (omega arith))

none_kept : (n number id : ℕ) → filter_at (replicate n no_filters) number id ≡ None
none_kept n number id =
    ap (λ (f : LevelFilters). filter_of f id) (either (leb 1 number) (get_or (replicate n no_filters) (number - 1) no_filters) no_filters (clear n (number - 1)))
    ∙ none_of id

-- no filters are of exactly the keys of any arrays
pub none_filtered : (levels : List Level) (filters : List LevelFilters) → filters ≡ replicate 22 no_filters → AreFiltersOf levels filters
none_filtered levels filters none = record {
  each = λ level t bits of there at.
      let e : None ≡ Some bits = sym (ap (λ (fs : List LevelFilters). filter_at fs level.number t.id) none ∙ none_kept 22 level.number t.id) ∙ at in
      absurd (cc);
}

module _ (filters : List LevelFilters) (target : ℕ) (made : LevelFilters) (low : 1 ≤ target) where
  front : List LevelFilters
  front = replicate (target - 1) no_filters

  -- the level that was made has its filters
  level_made : filters_of_level (filters_after filters target made) target ≡ made
  level_made =
      first (leb 1 target) (get_or (filters_after filters target made) (target - 1) no_filters) no_filters (le-leb 1 target low)
      ∙ get_or-append_right (replicate (target - 1) no_filters) (made ∷ drop target filters) (target - 1) (target - 1) no_filters (length-replicate {A = LevelFilters} (target - 1) no_filters) (omega arith)
      ∙ get_or_head made (drop target filters) (target - 1 - (target - 1)) no_filters (omega arith)

  -- and a deeper one those that it had
  level_behind : (number : ℕ) → target < number → filters_of_level (filters_after filters target made) number ≡ filters_of_level filters number
  level_behind number deep =
      let some : leb 1 number ≡ true = le-leb 1 number (omega (arith, deep)) in
      let at : get_or (filters_after filters target made) (number - 1) no_filters ≡ get_or (made ∷ drop target filters) (number - 1 - (target - 1)) no_filters =
      get_or-append_right (replicate (target - 1) no_filters) (made ∷ drop target filters) (target - 1) (number - 1) no_filters (length-replicate {A = LevelFilters} (target - 1) no_filters) (omega (arith, deep)) in
      let step : number - 1 - (target - 1) ≡ suc (number - 1 - target) = omega (arith, deep, low) in
      let there : target + (number - 1 - target) ≡ number - 1 = omega (arith, deep) in
      first (leb 1 number) (get_or (filters_after filters target made) (number - 1) no_filters) no_filters some
      ∙ at
      ∙ ap (λ (i : ℕ). get_or (made ∷ drop target filters) i no_filters) step
      ∙ get_or-drop target filters (number - 1 - target) no_filters
      ∙ ap (λ (i : ℕ). get_or filters i no_filters) there
      ∙ sym (first (leb 1 number) (get_or filters (number - 1) no_filters) no_filters some)

  -- so filters of new levels of that number and of old ones are together those of both
  pub filtered_after : (fresh old : List Level) → AreFiltersOf old filters → ((level : Level) → Contains fresh level → level.number ≡ target)
      → ((level : Level) (t : TaggedArray) (bits : List Bool) → Contains fresh level → Contains level.arrays t → filter_of made t.id ≡ Some bits → IsFilterOf bits t.content)
      → AreFiltersOf (fresh ++ levels_behind target old) (filters_after filters target made)
  filtered_after fresh old before numbered new = record {
    each = λ level t bits of there at. elim (among_split fresh (levels_behind target old) level (contained_among (fresh ++ levels_behind target old) level of)) [
      | inl here ↦
          let in_fresh : Contains fresh level = among_contained fresh level here in
          let same : filters_of_level (filters_after filters target made) level.number ≡ made = ap (λ (n : ℕ). filters_of_level (filters_after filters target made) n) (numbered level in_fresh) ∙ level_made in
          new level t bits in_fresh there (sym (ap (λ (f : LevelFilters). filter_of f t.id) same) ∙ at)
      | inr kept ↦
          let both = filter_among (λ (l : Level). ltb target l.number) old level kept in
          before.each level t bits (among_contained old level both.0) there (sym (ap (λ (f : LevelFilters). filter_of f t.id) (level_behind level.number (ltb-true target level.number both.1))) ∙ at)
    ];
  }
