-- Trees and levels in order, from tests and as tests.
use Rattle.std.proofs.Common.{◌≡◌, ◌<◌, ◌≤◌, ◌+◌, ℕ, suc, true, eqb, ltb, leb, ◌&&◌, ap, inl, inr, List, [], ◌∷◌, ◌++◌, length, Option, Some, None, refl, arith}
use Rattle.std.specs.List.{slice_get}
use Rattle.std.proofs.lemmas.Bool.{eq-eqb, lt-ltb, ltb-true, le-leb, leb-true, and_parts, and_from}
use Rattle.strat_base.specs.Tree.{Parents, IsOlder, IsTree}
use Rattle.def_state.specs.Level.{Level}
use Rattle.def_state.specs.Sound.{is_tree, is_tree_from, is_numbered_from}
use Rattle.strat_base.proofs.ListFacts.{Among, among_right}

-- a tree passes the test of trees
tree_from : (n : ℕ) (parents : Parents) → ((i : ℕ) → IsOlder (n + i) (slice_get parents i)) → is_tree_from n parents ≡ true
tree_from n [] older = refl
tree_from n (None ∷ parents) older =
    let here : n + 0 ≡ 0 = older 0 in
    and_from (eqb n 0) (is_tree_from (suc n) parents) (eq-eqb n 0 (omega (arith, here))) (tree_from (suc n) parents (λ i. next n parents i (older (suc i))))
  where
    next : (n : ℕ) (parents : Parents) (i : ℕ) → IsOlder (n + suc i) (slice_get parents i) → IsOlder (suc n + i) (slice_get parents i)
    next n parents i is = go (slice_get parents i) is
      where
        go : (o : Option (Option ℕ)) → IsOlder (n + suc i) o → IsOlder (suc n + i) o
        go None is = tt
        go (Some None) is = omega (arith, is)
        go (Some (Some p)) is = omega (arith, is)
tree_from n (Some p ∷ parents) older =
    let here : p < n + 0 = older 0 in
    and_from (ltb p n) (is_tree_from (suc n) parents) (lt-ltb p n (omega (arith, here))) (tree_from (suc n) parents (λ i. next n parents i (older (suc i))))
  where
    next : (n : ℕ) (parents : Parents) (i : ℕ) → IsOlder (n + suc i) (slice_get parents i) → IsOlder (suc n + i) (slice_get parents i)
    next n parents i is = go (slice_get parents i) is
      where
        go : (o : Option (Option ℕ)) → IsOlder (n + suc i) o → IsOlder (suc n + i) o
        go None is = tt
        go (Some None) is = omega (arith, is)
        go (Some (Some p)) is = omega (arith, is)

pub tree_test : (parents : Parents) → IsTree parents → is_tree parents ≡ true
tree_test parents tree =
    and_from (ltb 0 (length parents)) (is_tree_from 0 parents) (lt-ltb 0 (length parents) tree.some) (tree_from 0 parents (λ i. at i (slice_get parents i) (tree.older i)))
  where
    at : (i : ℕ) (o : Option (Option ℕ)) → IsOlder i o → IsOlder (0 + i) o
    at i None is = tt
    at i (Some None) is = omega (arith, is)
    at i (Some (Some p)) is = omega (arith, is)

-- what a level in order is
pub record InPlace (least : ℕ) (level : Level) (levels : List Level) : Type 0 where
  pub low : least ≤ level.number
  pub high : level.number ≤ 22
  pub filled : 0 < length level.arrays
  pub rest : is_numbered_from (suc level.number) levels ≡ true

pub numbered_parts : (least : ℕ) (level : Level) (levels : List Level) → is_numbered_from least (level ∷ levels) ≡ true → InPlace least level levels
numbered_parts least level levels h =
    let outer = and_parts (leb least level.number && leb level.number 22 && ltb 0 (length level.arrays)) (is_numbered_from (suc level.number) levels) h in
    let middle = and_parts (leb least level.number && leb level.number 22) (ltb 0 (length level.arrays)) outer.0 in
    let inner = and_parts (leb least level.number) (leb level.number 22) middle.0 in
    record {
      low = leb-true least level.number inner.0;
      high = leb-true level.number 22 inner.1;
      filled = ltb-true 0 (length level.arrays) middle.1;
      rest = outer.1;
    }

pub numbered_from : (least : ℕ) (level : Level) (levels : List Level) → InPlace least level levels → is_numbered_from least (level ∷ levels) ≡ true
numbered_from least level levels p =
    and_from (leb least level.number && leb level.number 22 && ltb 0 (length level.arrays)) (is_numbered_from (suc level.number) levels)
    (and_from (leb least level.number && leb level.number 22) (ltb 0 (length level.arrays))
    (and_from (leb least level.number) (leb level.number 22) (le-leb least level.number p.low) (le-leb level.number 22 p.high))
    (lt-ltb 0 (length level.arrays) p.filled))
    p.rest

-- the last of some levels in order are in order
pub numbered_tail : (least : ℕ) (front back : List Level) → is_numbered_from least (front ++ back) ≡ true → (n : ℕ) × (is_numbered_from n back ≡ true)
numbered_tail least [] back h = (least, h)
numbered_tail least (level ∷ front) back h = numbered_tail (suc level.number) front back (numbered_parts least level (front ++ back) h).rest

-- and the first are
pub numbered_front : (least : ℕ) (front back : List Level) → is_numbered_from least (front ++ back) ≡ true → is_numbered_from least front ≡ true
numbered_front least [] back h = refl
numbered_front least (level ∷ front) back h =
    let p = numbered_parts least level (front ++ back) h in
    numbered_from least level front (record { low = p.low; high = p.high; filled = p.filled; rest = numbered_front (suc level.number) front back p.rest })

-- levels in order are in order from any number that none is below
pub numbered_least : (least : ℕ) (levels : List Level) → is_numbered_from least levels ≡ true → (n : ℕ) → ((level : Level) → Among level levels → n ≤ level.number) → is_numbered_from n levels ≡ true
numbered_least least [] h n low = refl
numbered_least least (level ∷ levels) h n low =
    let p = numbered_parts least level levels h in
    numbered_from n level levels (record { low = low level (inl refl); high = p.high; filled = p.filled; rest = p.rest })

-- each of the first of some levels in order is above each of the last
pub numbered_apart : (least : ℕ) (front back : List Level) → is_numbered_from least (front ++ back) ≡ true → (a b : Level) → Among a front → Among b back → a.number < b.number
numbered_apart least [] back h a b here there = absurd here
numbered_apart least (level ∷ front) back h a b (inl same) there =
    let p = numbered_parts least level (front ++ back) h in
    let low = least_among (suc level.number) (front ++ back) p.rest b (among_right front back b there) in
    let number = ap (λ (l : Level). l.number) same in
    omega (arith, low, number)
  where
    least_among : (n : ℕ) (levels : List Level) → is_numbered_from n levels ≡ true → (b : Level) → Among b levels → n ≤ b.number
    least_among n [] h b among = absurd among
    least_among n (l ∷ levels) h b (inl here) = let q = numbered_parts n l levels h in let low = q.low in let number = ap (λ (x : Level). x.number) here in omega (arith, low, number)
    least_among n (l ∷ levels) h b (inr later) = let q = numbered_parts n l levels h in let low = q.low in let rest = least_among (suc l.number) levels q.rest b later in omega (arith, low, rest)
numbered_apart least (level ∷ front) back h a b (inr later) there =
    let p = numbered_parts least level (front ++ back) h in numbered_apart (suc level.number) front back p.rest a b later there
