-- Filters of the arrays that a promotion made: those that were taken, and those of the level as an image has it.
use Rattle.std.proofs.Common.{◌≡◌, ◌≤◌, ◌+◌, ◌-◌, ℕ, Bool, true, false, cond, leb, get_or, inl, inr, ◌⊎◌, List, [], ◌∷◌, ◌++◌, length, Contains, Option, None, Some, Result, Ok, Err, refl, sym, ap, ◌∙◌, subst, arith}
use Rattle.std.specs.Option.{option_to_list}
use Rattle.std.specs.Prelude.{IfOk}
use Rattle.std.specs.Result.{result_ok}
use Rattle.std.proofs.lemmas.Bool.{cases_lt, leb-true}
use Rattle.std.proofs.lemmas.Grind.{get_or_head}
use Rattle.std.proofs.lemmas.List.{get_or-append_right, get_or_append_left, get_or_past}
use Rattle.strat_base.proofs.ListFacts.{Among}
use Rattle.strat_base.specs.Entries.{Entry}
use Rattle.strat_base.specs.declared.descriptors.ArrayDesc.{ArrayDesc}
use Rattle.strat_base.specs.declared.descriptors.LevelDesc.{LevelDesc}
use Rattle.strat_filter.specs.Keys.{IsFilterOf}
use Rattle.def_bytes.specs.Arrays.{all_some, blocks_of, entries_on}
use Rattle.def_crash.specs.Image.{Image}
use Rattle.def_publish.proofs.ListLemmas.{contained_among, among_contained}
use Rattle.def_publish.specs.Next.{arrays_made}
use Rattle.def_recovery.proofs.OpeningLemmas.{each_some, map_some}
use Rattle.def_recovery.specs.Opened.{array_on, level_on}
use Rattle.def_state.specs.Level.{Level, TaggedArray}
use Rattle.strat_memory.specs.Filters.{LevelFilters, AreFiltersOn, filter_of}
use Rattle.strat_promote.specs.declared.promotion.Promotion.{Promotion}
use Rattle.strat_publish.specs.Promoting.{HasTaken}
use Rattle.strat_promote.specs.Opening.{arrays_if_any}
use Rattle.strat_promote.specs.Promotions.{FiltersStand, HasMadeTheSame, arrays_promoted}

-- what an image makes of a list is made of an item of it
some_back : {A B : Type 0} (h : A → Option B) (xs : List A) (ys : List B) (y : B) → all_some h xs ≡ Some ys → Among y ys → (x : A) × Among x xs × (h x ≡ Some y)
some_back h [] ys y all there = let none : [] ≡ ys = cc in absurd (subst (Among y) (sym none) there)
some_back h (x ∷ xs) ys y all there =
    let parts = each_some h x xs ys all in
    elim (subst (Among y) (sym parts.4) there) [
      | inl here ↦ (x, inl refl, parts.2 ∙ ap (λ (t : _). Some t) (sym here))
      | inr later ↦ let found = some_back h xs parts.1 y parts.3 later in (found.0, inr found.1, found.2)
    ]

-- the levels that an image makes of the one that was made have its number, and their arrays are its own
module _ (g : Image) (made : Option LevelDesc) (fresh : List Level) (read : all_some (level_on g) (option_to_list made) ≡ Some fresh) where
  from_made : (o : Option LevelDesc) → made ≡ o → (level : Level) (d : LevelDesc) → Among d (option_to_list o) → level_on g d ≡ Some level
      → (made ≡ Some d) × (level.number ≡ d.number) × (all_some (array_on g) d.arrays ≡ Some level.arrays)
  from_made None e level d among is = absurd among
  from_made (Some x) e level d (inr none) is = absurd none
  from_made (Some x) e level d (inl here) is =
      let from = map_some (λ arrays. record { number = d.number; horizon = d.horizon; arrays = arrays }) (all_some (array_on g) d.arrays) level is in (
        e ∙ ap (λ (l : LevelDesc). Some l) (sym here),
        ap (λ (l : Level). l.number) (sym from.2),
        from.1 ∙ ap (λ (l : Level). Some l.arrays) from.2,
      )

  level_back : (level : Level) → Contains fresh level → (d : LevelDesc) × (made ≡ Some d) × (level.number ≡ d.number) × (all_some (array_on g) d.arrays ≡ Some level.arrays)
  level_back level of =
      let found = some_back (level_on g) (option_to_list made) fresh level read (contained_among fresh level of) in
      let is = from_made made refl level found.0 found.1 found.2 in
      (found.0, is.0, is.1, is.2)

  pub fresh_numbered : (target : ℕ) → ((level : LevelDesc) → made ≡ Some level → level.number ≡ target) → (level : Level) → Contains fresh level → level.number ≡ target
  fresh_numbered target numbered level of =
      let d = level_back level of in
      d.2 ∙ numbered d.0 d.1

  pub fresh_filtered : (filters : LevelFilters) → AreFiltersOn g (arrays_made made) filters → (level : Level) (t : TaggedArray) (bits : List Bool) → Contains fresh level → Contains level.arrays t
      → filter_of filters t.id ≡ Some bits → IsFilterOf bits t.content
  fresh_filtered filters on level t bits of there at =
      let d = level_back level of in
      let a = some_back (array_on g) d.0.arrays level.arrays t d.3 (contained_among level.arrays t there) in
      let from = map_some (λ entries. record { id = a.0.id; tag = a.0.versions; content = entries; entries = a.0.entries; leads = a.0.leads; least = a.0.least }) (entries_on g (blocks_of a.0.extents)) t a.2 in
      let id : a.0.id ≡ t.id = ap (λ (x : TaggedArray). x.id) from.2 in
      let in_made : Contains (arrays_made made) a.0 = subst (λ (o : Option LevelDesc). Contains (arrays_made o) a.0) (sym d.1) (among_contained d.0.arrays a.0 a.1) in
      subst (λ (es : List Entry). IsFilterOf bits es) (ap (λ (x : TaggedArray). x.content) from.2)
      (on.each a.0 from.0 bits in_made (ap (filter_of filters) id ∙ at) from.1)

-- a list of filters that are kept of arrays, with one more
filter_next : (first : ℕ) (kept : List (Option (List Bool))) (o : Option (List Bool)) (id : ℕ) (bits : List Bool) → filter_of (record { first = first; kept = kept ++ o ∷ [] }) id ≡ Some bits
    → (filter_of (record { first = first; kept = kept }) id ≡ Some bits) ⊎ ((id ≡ first + length kept) × (o ≡ Some bits))
filter_next first kept o id bits at = here (leb first id) refl
  where
    rest : (b : Bool) → leb first id ≡ b → cond b (get_or (kept ++ o ∷ []) (id - first) None) None ≡ Some bits
    rest b e = ap (λ (x : Bool). cond x (get_or (kept ++ o ∷ []) (id - first) None) None) (sym e) ∙ at

    here : (b : Bool) → leb first id ≡ b → (cond (leb first id) (get_or kept (id - first) None) None ≡ Some bits) ⊎ ((id ≡ first + length kept) × (o ≡ Some bits))
    here false e = let none : None ≡ Some bits = rest false e in absurd (cc)
    here true e =
        let low : first ≤ id = leb-true first id e in
        let found : get_or (kept ++ o ∷ []) (id - first) None ≡ Some bits = rest true e in
        elim (cases_lt (id - first) (length kept)) [
          | inl front ↦ inl (ap (λ (x : Bool). cond x (get_or kept (id - first) None) None) e ∙ sym (get_or_append_left kept (o ∷ []) None (id - first) front) ∙ found)
          | inr past ↦
              let last : get_or (o ∷ []) (id - first - length kept) None ≡ Some bits = sym (get_or-append_right kept (o ∷ []) (length kept) (id - first) None refl past) ∙ found in
              elim (cases_lt (id - first - length kept) 1) [
                | inl one ↦
                    let zero_is : id - first - length kept ≡ 0 = omega (arith, one) in
                    inr (omega (arith, zero_is, low, past), sym (get_or_head o [] (id - first - length kept) None zero_is) ∙ last)
                | inr more ↦
                    let none : None ≡ Some bits = sym (get_or_past (o ∷ []) (id - first - length kept) None (omega (arith, more))) ∙ last in
                    absurd (cc)
              ]
        ]

-- one more was taken
pub taken_more : {E : Type 0} (old now next : Promotion) (first id : ℕ) (kept : List (Option (List Bool))) (r : Result (List Bool) E) (o : Option (List Bool)) → HasTaken old now first kept
    → IfOk r (λ bits. (g : Image) (a : ArrayDesc) (es : List Entry) → FiltersStand g now → Contains (arrays_promoted now) a → a.id ≡ id → entries_on g (blocks_of a.extents) ≡ Some es → IsFilterOf bits es)
    → ((g : Image) → FiltersStand g now → FiltersStand g next) → HasMadeTheSame now next → id ≡ first + length kept → o ≡ result_ok r → HasTaken old next first (kept ++ o ∷ [])
taken_more old now next first id kept r o before told stand same id_is o_is = record {
  stand = λ g stands. stand g (before.stand g stands);
  level = same.level ∙ before.level;
  task = same.task ∙ before.task;
  ended = same.ended ∙ before.ended;
  filters = λ g stands. record {
    each = λ a es bits of at on. elim (filter_next first kept o a.id bits at) [
      | inl earlier ↦ (before.filters g stands).each a es bits of earlier on
      | inr last ↦ of_result r told (sym o_is ∙ last.1) g a es (before.stand g stands) (subst (λ (m : Option LevelDesc). Contains (arrays_if_any m) a) (sym before.level) of) (last.0 ∙ sym id_is) on
    ];
  };
}
  where
    of_result : {E : Type 0} {bits : List Bool} (r : Result (List Bool) E)
        → IfOk r (λ bits. (g : Image) (a : ArrayDesc) (es : List Entry) → FiltersStand g now → Contains (arrays_promoted now) a → a.id ≡ id → entries_on g (blocks_of a.extents) ≡ Some es → IsFilterOf bits es)
        → result_ok r ≡ Some bits → (g : Image) (a : ArrayDesc) (es : List Entry) → FiltersStand g now → Contains (arrays_promoted now) a → a.id ≡ id → entries_on g (blocks_of a.extents) ≡ Some es → IsFilterOf bits es
    of_result {bits = bits} (Ok x) told is g a es stands of here on = let e : x ≡ bits = cc in subst (λ (y : List Bool). IsFilterOf y es) e (told g a es stands of here on)
    of_result {bits = bits} (Err x) told is g a es stands of here on = let e : None ≡ Some bits = is in absurd (cc)

-- the arrays of a level that was made
pub arrays_same : (made : Option LevelDesc) → arrays_if_any made ≡ arrays_made made
arrays_same None = refl
arrays_same (Some level) = refl

-- so the filters of a promotion are of exactly their keys
pub taken_of_made : (g : Image) (p : Promotion) (made : Option LevelDesc) (filters : LevelFilters) → made ≡ p.level → AreFiltersOn g (arrays_promoted p) filters → AreFiltersOn g (arrays_made made) filters
taken_of_made g p made filters is on = subst (λ (ds : List ArrayDesc). AreFiltersOn g ds filters) (ap arrays_if_any (sym is) ∙ arrays_same made) on
