-- Levels that are put into the places of their numbers, the deepest first.
use Rattle.std.proofs.Common.{◌≡◌, ◌≢◌, ◌<◌, ◌≤◌, ◌+◌, ◌-◌, ℕ, zero, suc, true, false, inl, inr, List, [], ◌∷◌, ◌++◌, length, map, get_or, replicate, Option, Some, None, refl, sym, ap, ◌∙◌, subst, arith, append_assoc}
use Rattle.std.proofs.lemmas.Bool.{cases_eq, and_from, false_from_ne_true, true≢false}
use Rattle.std.proofs.lemmas.List.{append-nil, get_or-set_same, get_or-set_other, length-set}
use Rattle.std.proofs.Math.ListN.{set}
use Rattle.std.specs.List.{list_all}
use Rattle.strat_base.proofs.ListFacts.{Among, all_at, among_left, among_right}
use Rattle.strat_base.specs.declared.descriptors.LevelDesc.{LevelDesc}
use Rattle.def_bytes.specs.Manifest.{is_rising}
use Rattle.strat_level.specs.Levels.{level_numbered}
use Rattle.def_recovery.specs.Opening.{has_own_versions}
use Rattle.def_publish.proofs.ListLemmas.{among_contained}
use Rattle.strat_cursor.specs.Looking.{levels_there}
use Rattle.strat_memory.specs.Admitting.{FitsInMemory, MayBePlaced}
use Rattle.strat_memory.proofs.TagLemmas.{rising_parts}
use Rattle.strat_cursor.proofs.PickLemmas.{level_next}

-- a level before all that are there is the first of them
set_first : (levels : List (Option LevelDesc)) (i : ℕ) (level : LevelDesc) → i < length levels → ((j : ℕ) → j ≤ i → get_or levels j None ≡ None)
    → levels_there (set levels i (Some level)) ≡ level ∷ levels_there levels
set_first [] i level within none = absurd (omega arith)
set_first (x ∷ xs) zero level within none = ap (λ (o : Option LevelDesc). level ∷ levels_there (o ∷ xs)) (sym (none 0 (omega arith)))
set_first (x ∷ xs) (suc i) level within none =
    let empty : x ≡ None = none 0 (omega arith) in
    ap (λ (o : Option LevelDesc). levels_there (o ∷ set xs i (Some level))) empty
    ∙ set_first xs i level (omega arith) (λ j low. none (suc j) (omega arith))
    ∙ ap (λ (o : Option LevelDesc). level ∷ levels_there (o ∷ xs)) (sym empty)

mid_among : (xs ys : List LevelDesc) (level : LevelDesc) → Among level.number (map (λ (l : LevelDesc). l.number) (xs ++ level ∷ ys))
mid_among [] ys level = inl refl
mid_among (x ∷ xs) ys level = inr (mid_among xs ys level)

-- of levels whose numbers rise one before another has the smaller number
lower : (xs ys : List LevelDesc) (level l : LevelDesc) → is_rising (map (λ (l : LevelDesc). l.number) (xs ++ level ∷ ys)) ≡ true → Among l xs → l.number < level.number
lower [] ys level l up there = absurd there
lower (x ∷ xs) ys level l up (inl here) =
    let parts = rising_parts x.number (map (λ (l : LevelDesc). l.number) (xs ++ level ∷ ys)) up in
    subst (λ (z : LevelDesc). z.number < level.number) (sym here) (parts.0 level.number (mid_among xs ys level))
lower (x ∷ xs) ys level l up (inr there) =
    lower xs ys level l (rising_parts x.number (map (λ (l : LevelDesc). l.number) (xs ++ level ∷ ys)) up).1 there

-- the levels that are not left are in their places, and the places of those that are left are empty
pub record IsPlacing (listed left : List LevelDesc) (levels : List (Option LevelDesc)) : Type 0 where
  pub done : List LevelDesc
  pub all : listed ≡ left ++ done
  pub may : MayBePlaced listed
  pub count : length levels ≡ 22
  pub there : levels_there levels ≡ done
  pub numbered : (n : ℕ) (level : LevelDesc) → level_numbered levels n ≡ Some level → level.number ≡ n
  pub empty : (l : LevelDesc) → Among l left → (n : ℕ) → n ≤ l.number → level_numbered levels n ≡ None
  pub own : list_all has_own_versions done ≡ true

none_numbered : (k n : ℕ) → level_numbered (replicate k None) n ≡ None
none_numbered k zero = refl
none_numbered k (suc n) =
    let next : n + 1 ≡ suc n = omega arith in
    ap (λ (m : ℕ). level_numbered (replicate k None) m) (sym next) ∙ level_next (replicate k None) n ∙ at k n
  where
    at : (k n : ℕ) → get_or (replicate {A = Option LevelDesc} k None) n None ≡ None
    at zero n = refl
    at (suc k) zero = refl
    at (suc k) (suc n) = at k n

pub placing_begins : (listed : List LevelDesc) → MayBePlaced listed → IsPlacing listed listed (replicate 22 None)
placing_begins listed may = record {
  done = [];
  all = sym (append-nil listed);
  may = may;
  count = refl;
  there = refl;
  numbered = λ n level e. let no' : None ≡ Some level = sym (none_numbered 22 n) ∙ e in absurd (cc);
  empty = λ l there n low. none_numbered 22 n;
  own = refl;
}

module _ (listed left rest : List LevelDesc) (level : LevelDesc) (levels : List (Option LevelDesc)) (old : IsPlacing listed left levels) (popped : left ≡ rest ++ level ∷ []) where
  whole : listed ≡ rest ++ level ∷ old.done
  whole = old.all ∙ ap (λ (xs : List LevelDesc). xs ++ old.done) popped ∙ append_assoc rest (level ∷ []) old.done

  pub popped_fits : FitsInMemory level
  popped_fits = old.may.each level (among_contained listed level (subst (λ (xs : List LevelDesc). Among level xs) (sym whole) (among_right rest (level ∷ old.done) level (inl refl))))

  pub placed_not : has_own_versions level ≡ false → list_all has_own_versions listed ≡ false
  placed_not not' = false_from_ne_true (list_all has_own_versions listed) (λ own.
      let yes = all_at has_own_versions level listed own (subst (λ (xs : List LevelDesc). Among level xs) (sym whole) (among_right rest (level ∷ old.done) level (inl refl))) in
      true≢false (sym yes ∙ not'))

  pub placed_more : has_own_versions level ≡ true → IsPlacing listed rest (set levels (level.number - 1) (Some level))
  placed_more mine =
      let fits = popped_fits in
      let at : level.number - 1 < length levels = omega (arith, fits.most, fits.least, old.count) in
      let mine_left : Among level left = subst (λ (xs : List LevelDesc). Among level xs) (sym popped) (among_right rest (level ∷ []) level (inl refl)) in
      let none : (j : ℕ) → j ≤ level.number - 1 → get_or levels j None ≡ None = λ j low. sym (level_next levels j) ∙ old.empty level mine_left (j + 1) (omega (arith, low, fits.least)) in
      let other : (n : ℕ) → n ≢ level.number → level_numbered (set levels (level.number - 1) (Some level)) n ≡ level_numbered levels n = λ n apart. other_numbered n apart fits.least in
      record {
        done = level ∷ old.done;
        all = whole;
        may = old.may;
        count = length-set levels (level.number - 1) (Some level) ∙ old.count;
        there = set_first levels (level.number - 1) level at none ∙ ap (λ (xs : List LevelDesc). level ∷ xs) old.there;
        numbered = λ n l e. elim (cases_eq n level.number) [
          | inl here ↦ same_numbered n l here fits.least at e
          | inr apart ↦ old.numbered n l (sym (other n apart) ∙ e)
        ];
        empty = λ l there n low.
            let less : l.number < level.number = lower rest old.done level l (subst (λ (xs : List LevelDesc). is_rising (map (λ (x : LevelDesc). x.number) xs) ≡ true) whole old.may.rise) there in
            other n (λ same. absurd (omega (arith, less, low, same)))
            ∙ old.empty l (subst (λ (xs : List LevelDesc). Among l xs) (sym popped) (among_left rest (level ∷ []) l there)) n low;
        own = and_from (has_own_versions level) (list_all has_own_versions old.done) mine old.own;
      }
    where
      other_numbered : (n : ℕ) → n ≢ level.number → 1 ≤ level.number → level_numbered (set levels (level.number - 1) (Some level)) n ≡ level_numbered levels n
      other_numbered zero apart least = refl
      other_numbered (suc n) apart least =
          let next : n + 1 ≡ suc n = omega arith in
          ap (λ (m : ℕ). level_numbered (set levels (level.number - 1) (Some level)) m) (sym next)
          ∙ level_next (set levels (level.number - 1) (Some level)) n
          ∙ get_or-set_other levels (level.number - 1) n (Some level) None (λ same. apart (omega (arith, same, least)))
          ∙ sym (level_next levels n)
          ∙ ap (λ (m : ℕ). level_numbered levels m) next

      same_numbered : (n : ℕ) (l : LevelDesc) → n ≡ level.number → 1 ≤ level.number → level.number - 1 < length levels → level_numbered (set levels (level.number - 1) (Some level)) n ≡ Some l → l.number ≡ n
      same_numbered n l here least at e =
          let next : level.number - 1 + 1 ≡ n = omega (arith, here, least) in
          let found : Some level ≡ Some l =
          sym (get_or-set_same levels (level.number - 1) (Some level) None at)
          ∙ sym (level_next (set levels (level.number - 1) (Some level)) (level.number - 1))
          ∙ ap (λ (m : ℕ). level_numbered (set levels (level.number - 1) (Some level)) m) next
          ∙ e in
          let it : level ≡ l = cc in
          ap (λ (z : LevelDesc). z.number) (sym it) ∙ sym here

-- a level that has versions of its own was put into its place
pub placed_in : (listed left rest : List LevelDesc) (level l : LevelDesc) (levels new : List (Option LevelDesc)) → IsPlacing listed left levels → left ≡ rest ++ level ∷ []
    → (l ≡ level) × (has_own_versions level ≡ true) → new ≡ set levels (level.number - 1) (Some l) → IsPlacing listed rest new
placed_in listed left rest level l levels new old popped own is =
    subst (λ (ls : List (Option LevelDesc)). IsPlacing listed rest ls) (sym (is ∙ ap (λ (x : LevelDesc). set levels (level.number - 1) (Some x)) own.0))
    (placed_more listed left rest level levels old popped own.1)
