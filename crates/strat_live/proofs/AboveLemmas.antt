-- The items of one key whose versions are above a version stand at the front.
use Rattle.std.proofs.Common.{◌≡◌, ◌<◌, ◌≤◌, ◌+◌, ◌-◌, ℕ, zero, suc, Bool, true, false, cond, ltb, leb, not, get_or, take, drop, length-take, length-drop, inl, inr, List, [], ◌∷◌, length, Some, None, refl, sym, ap, ◌∙◌, arith, true≢false}
use Rattle.std.specs.List.{list_all, position, position_or_len}
use Rattle.std.specs.List.Sorted.{IsPartitionedBy, IsPartitionPoint}
use Rattle.std.proofs.lemmas.Bool.{and_parts, false_from_ne_true, cases_lt, le-ltb, lt-ltb, ltb-true, ltb-false, le-leb, lt-leb}
use Rattle.std.proofs.lemmas.List.{take_all}
use Rattle.std.proofs.lemmas.List.Sums.{position_or_len_is}
use Rattle.strat_base.specs.Tree.{Parents, is_ancestor, IsTree}
use Rattle.strat_base.proofs.TreeLemmas.{ancestor_among, path_le}
use Rattle.strat_arena.specs.declared.items.Item.{Item}
use Rattle.strat_live.specs.Group.{is_descending}
use Rattle.strat_live.proofs.BegunLemmas.{version_below}

-- a later item has a lower version
versions_fall : (items : List Item) (i j : ℕ) (d : Item) → is_descending items ≡ true → i ≤ j → j < length items → (get_or items j d).version ≤ (get_or items i d).version
versions_fall [] i j d down le lt = absurd (omega arith)
versions_fall (x ∷ items) zero zero d down le lt = omega arith
versions_fall (x ∷ items) zero (suc j) d down le lt =
    let parts = and_parts (list_all (λ later. ltb later.version x.version) items) (is_descending items) down in
    let less : (get_or items j d).version < x.version = version_below items x.version j d parts.0 (omega arith) in
    omega arith
versions_fall (x ∷ items) (suc i) zero d down le lt = absurd (omega arith)
versions_fall (x ∷ items) (suc i) (suc j) d down le lt =
    versions_fall items i j d (and_parts (list_all (λ later. ltb later.version x.version) items) (is_descending items) down).1 (omega arith) (omega arith)

-- those above v come first
pub above_parted : (items : List Item) (v : ℕ) → is_descending items ≡ true → IsPartitionedBy (λ (item : Item). ltb v item.version) items
above_parted items v down i j d le lt e =
    let above : v < (get_or items j d).version = ltb-true v (get_or items j d).version e in
    let fall : (get_or items j d).version ≤ (get_or items i d).version = versions_fall items i j d down le lt in
    lt-ltb v (get_or items i d).version (omega arith)

-- where they end, the first item at or below v stands
pub above_end : (items : List Item) (v at : ℕ) → at ≤ length items → IsPartitionPoint (λ (item : Item). ltb v item.version ≡ true) (λ (item : Item). ltb v item.version ≡ false) items at
    → at ≡ position_or_len (λ (item : Item). leb item.version v) items
above_end items v at within point =
    let d : Item = record { slot = record { 0 = 0 }; version = 0; gone = false } in
    sym (position_or_len_is (λ (item : Item). leb item.version v) items at d within
    (λ k lt. let above : v < (get_or items k d).version = ltb-true v (get_or items k d).version (point.0 k d (omega arith) lt) in lt-leb (get_or items k d).version v above)
    (λ lt. let under : (get_or items at d).version ≤ v = ltb-false v (get_or items at d).version (point.1 at d (omega arith) lt) in le-leb (get_or items at d).version v under))

-- where a first test implies a second, what passes the first stands at or behind the first that passes the second
first_behind : {X : Type 0} (p q : X → Bool) → ((x : X) → p x ≡ true → q x ≡ true) → (xs : List X) → position_or_len p xs ≡ position_or_len q xs + position_or_len p (drop (position_or_len q xs) xs)
first_behind p q implies [] = refl
first_behind p q implies (x ∷ xs) = go (q x) refl (first_behind p q implies xs)
  where
    go : (c : Bool) → q x ≡ c → position_or_len p xs ≡ position_or_len q xs + position_or_len p (drop (position_or_len q xs) xs)
        → position_or_len p (x ∷ xs) ≡ cond (not c) (1 + position_or_len q xs) 0 + position_or_len p (drop (cond (not c) (1 + position_or_len q xs) 0) (x ∷ xs))
    go true is ih = omega arith
    go false is ih =
        let off : p x ≡ false = false_from_ne_true (p x) (λ on. true≢false (sym (implies x on) ∙ is)) in
        let first : position_or_len p (x ∷ xs) ≡ 1 + position_or_len p xs = ap (λ (b : Bool). cond (not b) (1 + position_or_len p xs) 0) off in
        let one : 1 + position_or_len q xs ≡ suc (position_or_len q xs) = omega arith in
        let rest : position_or_len p (drop (1 + position_or_len q xs) (x ∷ xs)) ≡ position_or_len p (drop (position_or_len q xs) xs) = ap (λ (n : ℕ). position_or_len p (drop n (x ∷ xs))) one in
        omega arith

-- a place among the elements behind a number of others
place_some : (n m size rest above i : ℕ) → n ≡ above + m → size ≡ above + rest → Some i ≡ cond (ltb m rest) (Some m) None → Some (above + i) ≡ cond (ltb n size) (Some n) None
place_some n m size rest above i at whole is =
    elim (cases_lt m rest) [
      | inl within ↦
          let here : Some i ≡ Some m = is ∙ ap (λ (b : Bool). cond b (Some m) None) (lt-ltb m rest within) in
          let same : i ≡ m = cc in
          let low : n < size = omega arith in
          let moved : above + i ≡ n = omega arith in
          ap (λ (x : ℕ). Some x) moved ∙ sym (ap (λ (b : Bool). cond b (Some n) None) (lt-ltb n size low))
      | inr past ↦
          let none : Some i ≡ None = is ∙ ap (λ (b : Bool). cond b (Some m) None) (le-ltb m rest past) in
          cc
    ]

place_none : (n m size rest above : ℕ) → n ≡ above + m → size ≡ above + rest → None ≡ cond (ltb m rest) (Some m) None → None ≡ cond (ltb n size) (Some n) None
place_none n m size rest above at whole is =
    elim (cases_lt m rest) [
      | inl within ↦
          let some : None ≡ Some m = is ∙ ap (λ (b : Bool). cond b (Some m) None) (lt-ltb m rest within) in
          cc
      | inr past ↦
          let high : size ≤ n = omega arith in
          sym (ap (λ (b : Bool). cond b (Some n) None) (le-ltb n size high))
    ]

-- the first on the path to v among those at or below v is the first on it of all
module _ (parents : Parents) (tree : IsTree parents) (v : ℕ) (items : List Item) (above : ℕ) (are : above ≡ position_or_len (λ (item : Item). leb item.version v) items) (within : above ≤ length items) where
  abbrev on_way : Item → Bool
  on_way item = is_ancestor parents item.version v

  abbrev rest : List Item
  rest = take (length items - above) (drop above items)

  size : length items ≡ above + length rest
  size = omega (arith, length-drop above items, length-take (length items - above) (drop above items))

  whole : rest ≡ drop above items
  whole = take_all (length items - above) (drop above items) (omega (arith, length-drop above items))

  behind : position_or_len on_way items ≡ above + position_or_len on_way rest
  behind = rw (whole, are) (first_behind on_way (λ (item : Item). leb item.version v) (λ item on. le-leb item.version v (path_le parents tree item.version v (ancestor_among parents tree item.version v on))) items)

  pub some_above : (i : ℕ) → Some i ≡ position on_way rest → Some (above + i) ≡ position on_way items
  some_above i is = place_some (position_or_len on_way items) (position_or_len on_way rest) (length items) (length rest) above i behind size is

  pub none_above : None ≡ position on_way rest → None ≡ position on_way items
  none_above is = place_none (position_or_len on_way items) (position_or_len on_way rest) (length items) (length rest) above behind size is
