-- Maps as lists of pairs: what a change of one key does to look-ups, and that the keys go on ascending.
use Rattle.std.proofs.Common.{◌≡◌, ◌≢◌, ℕ, Bool, true, false, cond, zero, suc, drop, List, [], ◌∷◌, Some, None, refl, sym, ap, ◌∙◌, subst}
use Rattle.std.specs.List.{AllByRecursion, filter}
use Rattle.std.specs.List.Sorted.{IsStrictlySortedBy}
use Rattle.std.specs.Map.{keys_of}
use Rattle.std.specs.Ordering.{match_ordering, is_eq, ordering_reverse, ordering_then, nat_cmp}
use Rattle.std.specs.declared.cmp.Ordering.{Ordering}
use Rattle.std.specs.declared.cmp.Ordering.TheVariants.{Less, Equal, Greater}
use Rattle.std.proofs.lemmas.Cmp.{nat_list_cmp_total, alike_right, tied_itself, eq_by_cmp_equiv, ranked}
use Rattle.std.proofs.lemmas.Map.{lookup-remove_entry}
use Rattle.std.proofs.lemmas.Map.Keys.{IsDistinct-from_sorted}
use Rattle.strat_base.specs.Order.{key_cmp}
use Rattle.strat_model.specs.Pairs.{Pair, Pairs, value_of, set, unset}
use Rattle.strat_model.specs.Kept.{IsMap}

-- the other way round
reversed : (a b : List ℕ) (o : Ordering) → key_cmp a b ≡ o → key_cmp b a ≡ ordering_reverse o
reversed a b o h = nat_list_cmp_total.antisymm b a ∙ ap ordering_reverse h

-- what holds of all keys and of one more holds of all keys when it has got a value
all_keys_set : (P : List ℕ → Type 0) (key value : List ℕ) (pairs : Pairs) → AllByRecursion P (keys_of pairs) → P key
    → AllByRecursion P (keys_of (set key value pairs))
all_keys_set P key value [] all here = (here, tt)
all_keys_set P key value (e ∷ es) all here = by_order (all_keys_set P key value es all.1 here) (key_cmp key e.0)
  where
    by_order : AllByRecursion P (keys_of (set key value es)) → (o : Ordering)
        → AllByRecursion P (keys_of (match_ordering o ((key, value) ∷ e ∷ es) ((e.0, value) ∷ es) (e ∷ set key value es)))
    by_order rest Less = (here, all)
    by_order rest Equal = all
    by_order rest Greater = (all.0, rest)

-- what is above a key is above a lesser one
above_less : (key : List ℕ) (e : List ℕ) (keys : List (List ℕ)) → key_cmp key e ≡ Less → AllByRecursion (λ k. key_cmp e k ≡ Less) keys
    → AllByRecursion (λ k. key_cmp key k ≡ Less) keys
above_less key e [] less all = tt
above_less key e (k ∷ keys) less all = (nat_list_cmp_total.trans key e k less all.0, above_less key e keys less all.1)

-- a map is one when a key has got a value
pub set_keeps_map : (key value : List ℕ) (pairs : Pairs) → IsMap pairs → IsMap (set key value pairs)
unfolding IsStrictlySortedBy
set_keeps_map key value [] sorted = (tt, tt)
set_keeps_map key value (e ∷ es) sorted = by_order (set_keeps_map key value es sorted.1) (key_cmp key e.0) refl
  where
    by_order : IsMap (set key value es) → (o : Ordering) → key_cmp key e.0 ≡ o
        → IsMap (match_ordering o ((key, value) ∷ e ∷ es) ((e.0, value) ∷ es) (e ∷ set key value es))
    by_order rest Less h = ((h, above_less key e.0 (keys_of es) h sorted.0), sorted)
    by_order rest Equal h = sorted
    by_order rest Greater h = (all_keys_set (λ k. key_cmp e.0 k ≡ Less) key value es sorted.0 (reversed key e.0 Greater h), rest)

-- what holds of all keys holds of all but one
all_keys_unset : (P : List ℕ → Type 0) (key : List ℕ) (pairs : Pairs) → AllByRecursion P (keys_of pairs) → AllByRecursion P (keys_of (unset key pairs))
all_keys_unset P key [] all = tt
all_keys_unset P key (e ∷ es) all = by_test (all_keys_unset P key es all.1) (is_eq (key_cmp key e.0))
  where
    by_test : AllByRecursion P (keys_of (unset key es)) → (b : Bool) → AllByRecursion P (keys_of (cond b es (e ∷ unset key es)))
    by_test rest true = all.1
    by_test rest false = (all.0, rest)

-- a map is one without a key
pub unset_keeps_map : (key : List ℕ) (pairs : Pairs) → IsMap pairs → IsMap (unset key pairs)
unfolding IsStrictlySortedBy
unset_keeps_map key [] sorted = tt
unset_keeps_map key (e ∷ es) sorted = by_test (unset_keeps_map key es sorted.1) (is_eq (key_cmp key e.0))
  where
    by_test : IsMap (unset key es) → (b : Bool) → IsMap (cond b es (e ∷ unset key es))
    by_test rest true = sorted.1
    by_test rest false = (all_keys_unset (λ k. key_cmp e.0 k ≡ Less) key es sorted.0, rest)

-- what holds of all keys holds of those that a test picks
all_keys_filter : (P : List ℕ → Type 0) (test : Pair → Bool) (pairs : Pairs) → AllByRecursion P (keys_of pairs) → AllByRecursion P (keys_of (filter test pairs))
all_keys_filter P test [] all = tt
all_keys_filter P test (e ∷ es) all = by_test (all_keys_filter P test es all.1) (test e)
  where
    by_test : AllByRecursion P (keys_of (filter test es)) → (b : Bool) → AllByRecursion P (keys_of (cond b (e ∷ filter test es) (filter test es)))
    by_test rest true = (all.0, rest)
    by_test rest false = rest

-- the pairs of a map that a test picks are a map
pub filter_keeps_map : (test : Pair → Bool) (pairs : Pairs) → IsMap pairs → IsMap (filter test pairs)
unfolding IsStrictlySortedBy
filter_keeps_map test [] sorted = tt
filter_keeps_map test (e ∷ es) sorted = by_test (filter_keeps_map test es sorted.1) (test e)
  where
    by_test : IsMap (filter test es) → (b : Bool) → IsMap (cond b (e ∷ filter test es) (filter test es))
    by_test rest true = (all_keys_filter (λ k. key_cmp e.0 k ≡ Less) test es sorted.0, rest)
    by_test rest false = rest

-- a map from a place on is a map
pub drop_keeps_map : (n : ℕ) (pairs : Pairs) → IsMap pairs → IsMap (drop n pairs)
unfolding IsStrictlySortedBy
drop_keeps_map zero pairs sorted = sorted
drop_keeps_map (suc n) [] sorted = tt
drop_keeps_map (suc n) (e ∷ es) sorted = drop_keeps_map n es sorted.1

-- a look-up after a key has got a value
pub value_of_after_set : (key value other : List ℕ) (pairs : Pairs)
    → value_of (set key value pairs) other ≡ cond (is_eq (key_cmp other key)) (Some value) (value_of pairs other)
value_of_after_set key value other [] = refl
value_of_after_set key value other (e ∷ es) = by_order (value_of_after_set key value other es) (key_cmp key e.0) refl
  where
    here : Bool
    here = is_eq (key_cmp other key)

    same : (b : Bool) → cond b (Some value) (value_of es other) ≡ cond b (Some value) (cond b (Some e.1) (value_of es other))
    same true = refl
    same false = refl

    apart : (o : Ordering) → key_cmp other e.0 ≡ o → key_cmp key e.0 ≡ Greater
        → cond (is_eq o) (Some e.1) (cond here (Some value) (value_of es other)) ≡ cond here (Some value) (cond (is_eq o) (Some e.1) (value_of es other))
    apart Less h above = refl
    apart Equal h above =
        let not_here : here ≡ false = ap is_eq (nat_list_cmp_total.congr other e.0 key h ∙ reversed key e.0 Greater above) in
        sym (ap (λ b. cond b (Some value) (Some e.1)) not_here)
    apart Greater h above = refl

    by_order : value_of (set key value es) other ≡ cond here (Some value) (value_of es other) → (o : Ordering) → key_cmp key e.0 ≡ o
        → value_of (match_ordering o ((key, value) ∷ e ∷ es) ((e.0, value) ∷ es) (e ∷ set key value es)) other
        ≡ cond here (Some value) (value_of (e ∷ es) other)
    by_order rest Less h = refl
    by_order rest Equal h =
        let tied : is_eq (key_cmp other e.0) ≡ here = ap is_eq (sym (alike_right nat_list_cmp_total key e.0 other h)) in
        ap (λ b. cond b (Some value) (value_of es other)) tied ∙ same here
        ∙ ap (λ b. cond here (Some value) (cond b (Some e.1) (value_of es other))) (sym tied)
    by_order rest Greater h = ap (λ v. cond (is_eq (key_cmp other e.0)) (Some e.1) v) rest ∙ apart (key_cmp other e.0) refl h

-- a look-up after a key was taken away
pub value_of_after_unset : (key other : List ℕ) (pairs : Pairs) → IsMap pairs
    → value_of (unset key pairs) other ≡ cond (is_eq (key_cmp key other)) None (value_of pairs other)
value_of_after_unset key other pairs sorted =
    lookup-remove_entry (eq_by_cmp_equiv nat_list_cmp_total) (λ k. is_eq (key_cmp key k)) ((eq_by_cmp_equiv nat_list_cmp_total).congr key) other pairs (IsDistinct-from_sorted key_cmp (keys_of pairs) sorted)

-- keys that compare equal are the same key
pub same_key : (a b : List ℕ) → key_cmp a b ≡ Equal → a ≡ b
same_key [] [] h = refl
same_key [] (y ∷ ys) h = cc
same_key (x ∷ xs) [] h = cc
same_key (x ∷ xs) (y ∷ ys) h = by_order (same_key xs ys) (nat_cmp x y) refl h
  where
    by_order : (key_cmp xs ys ≡ Equal → xs ≡ ys) → (o : Ordering) → nat_cmp x y ≡ o → ordering_then o (key_cmp xs ys) ≡ Equal → x ∷ xs ≡ y ∷ ys
    by_order rest Less e t = cc
    by_order rest Equal e t = let first : x ≡ y = ranked x y Equal (sym e) in let others : xs ≡ ys = rest t in cc
    by_order rest Greater e t = cc

-- the first key has its value
value_of_first : (e : Pair) (es : Pairs) → value_of (e ∷ es) e.0 ≡ Some e.1
value_of_first e es = ap (λ o. cond (is_eq o) (Some e.1) (value_of es e.0)) (tied_itself nat_list_cmp_total e.0)

-- a key below all others has no value
value_of_below : (key : List ℕ) (pairs : Pairs) → AllByRecursion (λ k. key_cmp key k ≡ Less) (keys_of pairs) → value_of pairs key ≡ None
value_of_below key [] all = refl
value_of_below key (e ∷ es) all = ap (λ o. cond (is_eq o) (Some e.1) (value_of es key)) all.0 ∙ value_of_below key es all.1

-- another key than the first has the value that it has in the rest
value_of_later : (key : List ℕ) (e : Pair) (es : Pairs) → is_eq (key_cmp key e.0) ≡ false → value_of (e ∷ es) key ≡ value_of es key
value_of_later key e es apart = ap (λ b. cond b (Some e.1) (value_of es key)) apart

-- the first key of a map has no value in the rest
value_of_gone : (key : List ℕ) (e : Pair) (es : Pairs) → key ≡ e.0 → AllByRecursion (λ k. key_cmp e.0 k ≡ Less) (keys_of es) → value_of es key ≡ None
value_of_gone key e es same all =
    let P : List ℕ → Type 0 = λ x. AllByRecursion (λ k. key_cmp x k ≡ Less) (keys_of es) in
    value_of_below key es (subst P (sym same) all)

-- two maps that answer every look-up alike are the same map
pub same_map : (a b : Pairs) → IsMap a → IsMap b → ((key : List ℕ) → value_of a key ≡ value_of b key) → a ≡ b
unfolding IsStrictlySortedBy
same_map [] [] ma mb alike = refl
same_map [] (f ∷ fs) ma mb alike = let none = alike f.0 ∙ value_of_first f fs in cc
same_map (e ∷ es) [] ma mb alike = let none = sym (alike e.0) ∙ value_of_first e es in cc
same_map (e ∷ es) (f ∷ fs) ma mb alike = by_order (same_map es fs ma.1 mb.1) (key_cmp e.0 f.0) refl
  where
    later : key_cmp e.0 f.0 ≡ Equal → (q : List ℕ) → is_eq (key_cmp q e.0) ≡ false → value_of es q ≡ value_of fs q
    later tied q apart =
        sym (value_of_later q e es apart) ∙ alike q
        ∙ value_of_later q f fs (ap is_eq (sym (alike_right nat_list_cmp_total e.0 f.0 q tied)) ∙ apart)

    rest_alike : key_cmp e.0 f.0 ≡ Equal → (q : List ℕ) (o : Ordering) → key_cmp q e.0 ≡ o → value_of es q ≡ value_of fs q
    rest_alike tied q Less h = later tied q (ap is_eq h)
    rest_alike tied q Equal h =
        let first : q ≡ e.0 = same_key q e.0 h in
        value_of_gone q e es first ma.0 ∙ sym (value_of_gone q f fs (first ∙ same_key e.0 f.0 tied) mb.0)
    rest_alike tied q Greater h = later tied q (ap is_eq h)

    by_order : (((key : List ℕ) → value_of es key ≡ value_of fs key) → es ≡ fs) → (o : Ordering) → key_cmp e.0 f.0 ≡ o → e ∷ es ≡ f ∷ fs
    by_order rest Less h =
        let none : value_of (f ∷ fs) e.0 ≡ None = value_of_below e.0 (f ∷ fs) (h, above_less e.0 f.0 (keys_of fs) h mb.0) in
        let two : Some e.1 ≡ None = sym (value_of_first e es) ∙ alike e.0 ∙ none in cc
    by_order rest Greater h =
        let less : key_cmp f.0 e.0 ≡ Less = reversed e.0 f.0 Greater h in
        let none : value_of (e ∷ es) f.0 ≡ None = value_of_below f.0 (e ∷ es) (less, above_less f.0 e.0 (keys_of es) less ma.0) in
        let two : Some f.1 ≡ None = sym (value_of_first f fs) ∙ sym (alike f.0) ∙ none in cc
    by_order rest Equal h =
        let key : e.0 ≡ f.0 = same_key e.0 f.0 h in
        let two : Some e.1 ≡ Some f.1 = sym (value_of_first e es) ∙ alike e.0 ∙ ap (λ k. value_of (f ∷ fs) k) key ∙ value_of_first f fs in
        let value : e.1 ≡ f.1 = cc in
        let others : es ≡ fs = rest (λ q. rest_alike h q (key_cmp q e.0) refl) in
        λ j. (key j, value j) ∷ others j

-- different keys do not compare equal
apart_keys : (a b : List ℕ) → a ≢ b → is_eq (key_cmp a b) ≡ false
apart_keys a b apart = by_order (key_cmp a b) refl
  where
    by_order : (o : Ordering) → key_cmp a b ≡ o → is_eq o ≡ false
    by_order Less h = refl
    by_order Equal h = absurd (apart (same_key a b h))
    by_order Greater h = refl

-- a key that got a value has it
pub value_of_set_here : (pairs : Pairs) (key value : List ℕ) → value_of (set key value pairs) key ≡ Some value
value_of_set_here pairs key value =
    value_of_after_set key value key pairs ∙ ap (λ o. cond (is_eq o) (Some value) (value_of pairs key)) (tied_itself nat_list_cmp_total key)

-- another key has what it had
pub value_of_set_other : (pairs : Pairs) (key value other : List ℕ) → other ≢ key → value_of (set key value pairs) other ≡ value_of pairs other
value_of_set_other pairs key value other apart =
    value_of_after_set key value other pairs ∙ ap (λ b. cond b (Some value) (value_of pairs other)) (apart_keys other key apart)

-- a key that was taken away has no value
pub value_of_unset_here : (pairs : Pairs) (key : List ℕ) → IsMap pairs → value_of (unset key pairs) key ≡ None
value_of_unset_here pairs key sorted =
    value_of_after_unset key key pairs sorted ∙ ap (λ o. cond (is_eq o) None (value_of pairs key)) (tied_itself nat_list_cmp_total key)

-- another key has what it had
pub value_of_unset_other : (pairs : Pairs) (key other : List ℕ) → IsMap pairs → other ≢ key → value_of (unset key pairs) other ≡ value_of pairs other
value_of_unset_other pairs key other sorted apart =
    value_of_after_unset key other pairs sorted ∙ ap (λ b. cond b None (value_of pairs other)) (apart_keys key other (λ same. apart (sym same)))
