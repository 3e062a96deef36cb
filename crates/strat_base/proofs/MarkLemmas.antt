-- Where no version was dropped, a living child is a child.
use Rattle.std.proofs.Common.{◌≡◌, ◌<◌, ◌+◌, ◌≤◌, ℕ, zero, suc, Bool, true, false, eqb, ◌&&◌, not, ◌⊎◌, inl, inr, List, [], ◌∷◌, length, Option, Some, None, refl, sym, ap, ◌∙◌, arith, true≢false}
use Rattle.std.specs.List.{list_any, list_all, slice_get, range_with_len}
use Rattle.std.specs.Option.{option_and_then, option_map_or}
use Rattle.std.proofs.lemmas.Bool.{cases_Bool, and_parts, and_from, not-true, not_from_false}
use Rattle.strat_base.specs.Tree.{Parents, parent_of, has_child}
use Rattle.strat_base.specs.Marks.{Marks, is_dropped, has_living_child, none_dropped}
use Rattle.strat_base.proofs.ListFacts.{Among, any_among, any_from, get_among, among_range}

pub living_at : (marks : Marks) → none_dropped marks ≡ true → (v : ℕ) → is_dropped marks v ≡ false
living_at [] none v = refl
living_at (m ∷ marks) none zero = not-true m (and_parts (not m) (none_dropped marks) none).0
living_at (m ∷ marks) none (suc v) = living_at marks (and_parts (not m) (none_dropped marks) none).1 v

-- an item of a list stands at a place
place_of : {X : Type 0} (xs : List X) (x : X) → Among x xs → (i : ℕ) × (i < length xs) × (slice_get xs i ≡ Some x)
place_of [] x among = absurd among
place_of (y ∷ ys) x (inl here) = (0, omega arith, ap Some (sym here))
place_of (y ∷ ys) x (inr there) = let rest = place_of ys x there in (suc rest.0, (let low = rest.1 in omega (arith, low)), rest.2)

same_tests : (a b : Bool) → (a ≡ true → b ≡ true) → (b ≡ true → a ≡ true) → a ≡ b
same_tests true b there back = sym (there refl)
same_tests false true there back = back refl
same_tests false false there back = refl

module _ (parents : Parents) (marks : Marks) (none : none_dropped marks ≡ true) (v : ℕ) where
  is_child : ℕ → Bool
  is_child c = option_map_or (λ p. eqb p v) (parent_of parents c) false

  there : has_living_child parents marks v ≡ true → has_child parents v ≡ true
  unfolding is_child
  there some =
      let found = any_among (λ c. is_child c && not (is_dropped marks c)) (range_with_len 0 (length parents)) some in
      let child = (and_parts (is_child found.0) (not (is_dropped marks found.0)) found.2).0 in
      at found.0 (slice_get parents found.0) refl child
    where
      at : (c : ℕ) (o : Option (Option ℕ)) → slice_get parents c ≡ o → option_map_or (λ p. eqb p v) (option_and_then (λ parent. parent) o) false ≡ true → has_child parents v ≡ true
      at c None is e = absurd (true≢false (sym e))
      at c (Some parent) is e = any_from (λ q. option_map_or (λ p. eqb p v) q false) parent parents (get_among parents c parent is) e

  back : has_child parents v ≡ true → has_living_child parents marks v ≡ true
  unfolding is_child
  back some =
      let found = any_among (λ q. option_map_or (λ p. eqb p v) q false) parents some in
      let place = place_of parents found.0 found.1 in
      any_from (λ c. is_child c && not (is_dropped marks c)) place.0 (range_with_len 0 (length parents))
      (among_range 0 (length parents) place.0 (omega arith) (let low = place.1 in omega (arith, low)))
      (and_from (is_child place.0) (not (is_dropped marks place.0))
      (ap (λ (o : Option (Option ℕ)). option_map_or (λ p. eqb p v) (option_and_then (λ parent. parent) o) false) place.2 ∙ found.2)
      (not_from_false (is_dropped marks place.0) (living_at marks none place.0)))

  pub living_child : has_living_child parents marks v ≡ has_child parents v
  living_child = same_tests (has_living_child parents marks v) (has_child parents v) there back
