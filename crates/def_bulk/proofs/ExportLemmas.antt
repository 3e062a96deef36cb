-- What is exported of a map, served on a new store, gives the map.
use Rattle.std.proofs.Common.{◌≡◌, ◌≤◌, ◌<◌, ◌+◌, ℕ, suc, eqb, false, List, [], ◌∷◌, ◌++◌, length, refl, sym, ap, ◌∙◌, subst, arith, append_assoc}
use Rattle.std.specs.List.{AllByRecursion}
use Rattle.std.specs.List.Sorted.{IsStrictlySortedBy}
use Rattle.std.specs.Map.{keys_of}
use Rattle.std.specs.declared.cmp.Ordering.{Ordering}
use Rattle.std.specs.declared.cmp.Ordering.TheVariants.{Less, Greater}
use Rattle.std.proofs.lemmas.Bool.{ne_eqb}
use Rattle.std.proofs.lemmas.List.{append-nil}
use Rattle.strat_base.specs.Change.{Change}
use Rattle.std.specs.Ordering.{match_ordering, ordering_reverse}
use Rattle.std.proofs.lemmas.Cmp.{nat_list_cmp_total}
use Rattle.strat_base.specs.Change as change
use Rattle.strat_base.specs.Order.{key_cmp}
use Rattle.strat_model.specs.Kept.{IsMap}
use Rattle.strat_model.specs.Pairs.{Pair, Pairs, set}
use Rattle.strat_model.specs.Table.{Table}
use Rattle.def_bulk.specs.Exporting.{puts_of, sole_version}
use Rattle.def_follow.specs.Log.{after_change, IsTakenAt, table_after, AreTakenFrom}

-- the other way round
greater : (a b : List ℕ) → key_cmp a b ≡ Less → key_cmp b a ≡ Greater
greater a b h = nat_list_cmp_total.antisymm b a ∙ ap ordering_reverse h

-- a key behind all others is set last
set_last : (pairs : Pairs) (key value : List ℕ) → AllByRecursion (λ k. key_cmp k key ≡ Less) (keys_of pairs) → set key value pairs ≡ pairs ++ (key, value) ∷ []
set_last [] key value all = refl
set_last (e ∷ es) key value all =
    ap (λ (o : Ordering). match_ordering o ((key, value) ∷ e ∷ es) ((e.0, value) ∷ es) (e ∷ set key value es)) (greater e.0 key all.0)
    ∙ ap (λ (l : Pairs). e ∷ l) (set_last es key value all.1)

-- a key amid others
all_mid : (P : List ℕ → Type 0) (front : Pairs) (p : Pair) (rest : Pairs) → AllByRecursion P (keys_of (front ++ p ∷ rest)) → P p.0
all_mid P [] p rest all = all.0
all_mid P (e ∷ es) p rest all = all_mid P es p rest all.1

-- a key of a map is behind those in front of it
behind_front : (front : Pairs) (p : Pair) (rest : Pairs) → IsMap (front ++ p ∷ rest) → AllByRecursion (λ k. key_cmp k p.0 ≡ Less) (keys_of front)
unfolding IsStrictlySortedBy
behind_front [] p rest sorted = tt
behind_front (e ∷ es) p rest sorted = (all_mid (λ k. key_cmp e.0 k ≡ Less) es p rest sorted.0, behind_front es p rest sorted.1)

module _ (changes_max versions_max : ℕ) where
  -- one put
  put_one : (n : ℕ) (pairs : Pairs) (key value : List ℕ) → n < changes_max
      → IsTakenAt (sole_version changes_max versions_max n pairs) (change.Put 0 key value)
      × (after_change (sole_version changes_max versions_max n pairs) (change.Put 0 key value) ≡ sole_version changes_max versions_max (n + 1) (set key value pairs))
  put_one n pairs key value less = let room : eqb n changes_max ≡ false = ne_eqb n changes_max (λ e. absurd (omega (arith, e, less))) in (rw room refl, rw (after_change, room) refl)

  -- all of them
  pub puts_taken : (n : ℕ) (front rest : Pairs) → IsMap (front ++ rest) → n + length rest ≤ changes_max
      → AreTakenFrom (sole_version changes_max versions_max n front) (puts_of rest)
      × (table_after (sole_version changes_max versions_max n front) (puts_of rest) ≡ sole_version changes_max versions_max (n + length rest) (front ++ rest))
  puts_taken n front [] sorted room = (tt, (let z : n ≡ n + 0 = omega arith in (λ i. sole_version changes_max versions_max (z i) (sym (append-nil front) i))))
  puts_taken n front (p ∷ rest) sorted room =
      let first = put_one n front p.0 p.1 (omega (arith, room)) in
      let here : after_change (sole_version changes_max versions_max n front) (change.Put 0 p.0 p.1) ≡ sole_version changes_max versions_max (n + 1) (front ++ p ∷ []) =
      first.1 ∙ ap (sole_version changes_max versions_max (n + 1)) (set_last front p.0 p.1 (behind_front front p rest sorted)) in
      let joined : (front ++ p ∷ []) ++ rest ≡ front ++ p ∷ rest = append_assoc front (p ∷ []) rest in
      let later = puts_taken (n + 1) (front ++ p ∷ []) rest (subst IsMap (sym joined) sorted) (omega (arith, room)) in
      let count : (n + 1) + length rest ≡ n + suc (length rest) = omega arith in (
        (first.0, subst (λ (t : Table). AreTakenFrom t (puts_of rest)) (sym here) later.0),
        ap (λ (t : Table). table_after t (puts_of rest)) here ∙ later.1 ∙ (λ i. sole_version changes_max versions_max (count i) (joined i)),
      )
