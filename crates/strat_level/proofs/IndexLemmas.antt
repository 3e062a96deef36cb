-- An index over versions while tags are put into it, one version after another.
use Rattle.std.proofs.Common.{◌≡◌, ℕ, zero, suc, length-append, ◌+◌, ◌<◌, ◌≤◌, Bool, true, false, cond, eqb, List, [], ◌∷◌, ◌++◌, length, take, get_or, Option, Some, None, IfSome, option_and_then, refl, sym, ap, ◌∙◌, subst, ◌⊎◌, inl, inr, arith, add-one}
use Rattle.std.proofs.Math.ListN.{set}
use Rattle.std.specs.List.{find, slice_get}
use Rattle.std.specs.Option.{is_some, option_or}
use Rattle.std.proofs.lemmas.Bool.{cases_eq, eq-eqb, ne_eqb}
use Rattle.std.proofs.lemmas.List.{get_or-set_same, get_or-set_other, length-take-le, take_all}
use Rattle.std.proofs.lemmas.List.Folds.{find-append}
use Rattle.std.proofs.lemmas.List.Sums.{sum_by-append, sum_by-take-le, count_by_more_yes}
use Rattle.std.proofs.Math.Seq.{take-suc}
use Rattle.strat_base.specs.declared.descriptors.ArrayDesc.{ArrayDesc}
use Rattle.strat_level.specs.Levels.{is_for, arrays_for, HaveDisjointTags}
use Rattle.strat_base.specs.Entries.{is_tagged}
use Rattle.strat_level.specs.declared.index.LevelFault.{LevelFault}
use Rattle.strat_level.specs.declared.index.LevelFault.TheVariants.{Overlap, NoMemory}
use Rattle.strat_level.specs.Index.{slot, IsIndexOf, IsTagAdded, IfOverlap, IsTaken}

-- an index that reaches to a version, after a number was put there
pub slot_put : (old reached : List (Option ℕ)) (i n : ℕ) → i < length reached → ((v : ℕ) → slot reached v ≡ slot old v) → (v : ℕ)
    → slot (set reached i (Some n)) v ≡ cond (eqb i v) (Some n) (slot old v)
slot_put old reached i n lt same v = put (cases_eq v i)
  where
    put : (v ≡ i) ⊎ (v ≡ i → ⊥) → slot (set reached i (Some n)) v ≡ cond (eqb i v) (Some n) (slot old v)
    put (inl e) =
        ap (slot (set reached i (Some n))) e ∙ get_or-set_same reached i (Some n) None lt ∙ ap (λ (b : Bool). cond b (Some n) (slot old v)) (sym (eq-eqb i v (sym e)))
    put (inr ne) =
        get_or-set_other reached i v (Some n) None ne ∙ same v ∙ ap (λ (b : Bool). cond b (Some n) (slot old v)) (sym (ne_eqb i v (λ e. ne (sym e))))

get_left : (xs ys : List ArrayDesc) (k : ℕ) → k < length xs → slice_get (xs ++ ys) k ≡ slice_get xs k
get_left [] ys k less = absurd (omega arith)
get_left (x ∷ xs) ys zero less = refl
get_left (x ∷ xs) ys (suc k) less = get_left xs ys k (omega arith)

get_push : (xs : List ArrayDesc) (x : ArrayDesc) → slice_get (xs ++ x ∷ []) (length xs) ≡ Some x
get_push [] x = refl
get_push (x ∷ xs) y = get_push xs y

some_below : (o : Option ℕ) (m n : ℕ) → m ≤ n → IfSome o (λ k. k < m) → IfSome o (λ k. k < n)
some_below None m n le below = below
some_below (Some k) m n le below = omega arith

or_none : (o : Option ArrayDesc) → option_or o None ≡ o
or_none None = refl
or_none (Some x) = refl

module _ (before after : List (Option ℕ)) (done : List ArrayDesc) (a : ArrayDesc) (indexed : IsIndexOf before done) (added : IsTagAdded before after (length done) a.versions) where
  all : List ArrayDesc
  all = done ++ a ∷ []

  longer : length all ≡ length done + 1
  unfolding all
  longer = omega (arith, length-append done (a ∷ []))

  found : (v : ℕ) → find (is_for v) all ≡ option_or (find (is_for v) done) (cond (is_for v a) (Some a) None)
  unfolding all
  found v = find-append (is_for v) done (a ∷ [])

  count_more : (v : ℕ) → arrays_for all v ≡ arrays_for done v + cond (is_for v a) 1 0
  unfolding all
  count_more v = sum_by-append (λ x. cond (is_for v x) 1 0) done (a ∷ []) ∙ ap (λ (n : ℕ). arrays_for done v + n) (omega arith)

  -- a version of the tag
  module _ (v : ℕ) (there : is_for v a ≡ true) where
    slot_there : slot after v ≡ Some (length done)
    slot_there = added.slots v ∙ ap (λ (b : Bool). cond b (Some (length done)) (slot before v)) there

    none_before : slot before v ≡ None
    none_before = added.free v there

    named_there : option_and_then (λ i. slice_get all i) (slot after v) ≡ find (is_for v) all
    unfolding all
    named_there =
        ap (λ (o : Option ℕ). option_and_then (λ i. slice_get all i) o) slot_there
        ∙ get_push done a
        ∙ sym (found v ∙ ap (λ (b : Bool). option_or (find (is_for v) done) (cond b (Some a) None)) there ∙ ap (λ (o : Option ArrayDesc). option_or o (Some a)) (sym (indexed.named v) ∙ ap (λ (o : Option ℕ). option_and_then (λ i. slice_get done i) o) none_before))

    counted_there : arrays_for all v ≡ cond (is_some (slot after v)) 1 0
    counted_there =
        count_more v
        ∙ ap (λ (b : Bool). arrays_for done v + cond b 1 0) there
        ∙ ap (λ (n : ℕ). n + 1) (indexed.counted v ∙ ap (λ (o : Option ℕ). cond (is_some o) 1 0) none_before)
        ∙ ap (λ (o : Option ℕ). cond (is_some o) 1 0) (sym slot_there)

  -- another version
  module _ (v : ℕ) (away : is_for v a ≡ false) where
    slot_away : slot after v ≡ slot before v
    slot_away = added.slots v ∙ ap (λ (b : Bool). cond b (Some (length done)) (slot before v)) away

    named_before : (o : Option ℕ) → IfSome o (λ i. i < length done) → option_and_then (λ i. slice_get all i) o ≡ option_and_then (λ i. slice_get done i) o
    unfolding all
    named_before None below = refl
    named_before (Some i) below = get_left done (a ∷ []) i below

    named_away : option_and_then (λ i. slice_get all i) (slot after v) ≡ find (is_for v) all
    named_away =
        ap (λ (o : Option ℕ). option_and_then (λ i. slice_get all i) o) slot_away
        ∙ named_before (slot before v) (indexed.within v)
        ∙ indexed.named v
        ∙ sym (found v ∙ ap (λ (b : Bool). option_or (find (is_for v) done) (cond b (Some a) None)) away ∙ or_none (find (is_for v) done))

    counted_away : arrays_for all v ≡ cond (is_some (slot after v)) 1 0
    counted_away =
        count_more v
        ∙ ap (λ (b : Bool). arrays_for done v + cond b 1 0) away
        ∙ omega arith
        ∙ indexed.counted v
        ∙ ap (λ (o : Option ℕ). cond (is_some o) 1 0) (sym slot_away)

  within_all : (v : ℕ) (b : Bool) → is_for v a ≡ b → IfSome (slot after v) (λ i. i < length all)
  within_all v true e =
      let more = longer in
      subst (λ (o : Option ℕ). IfSome o (λ i. i < length all)) (sym (slot_there v e)) (omega arith)
  within_all v false e =
      let more = longer in
      subst (λ (o : Option ℕ). IfSome o (λ i. i < length all)) (sym (slot_away v e)) (some_below (slot before v) (length done) (length all) (omega arith) (indexed.within v))

  named_all : (v : ℕ) (b : Bool) → is_for v a ≡ b → option_and_then (λ i. slice_get all i) (slot after v) ≡ find (is_for v) all
  named_all v true e = named_there v e
  named_all v false e = named_away v e

  counted_all : (v : ℕ) (b : Bool) → is_for v a ≡ b → arrays_for all v ≡ cond (is_some (slot after v)) 1 0
  counted_all v true e = counted_there v e
  counted_all v false e = counted_away v e

  -- the tag of one more array
  pub indexed_push : IsIndexOf after (done ++ a ∷ [])
  unfolding all
  indexed_push = record {
    within = λ v. within_all v (is_for v a) refl;
    named = λ v. named_all v (is_for v a) refl;
    counted = λ v. counted_all v (is_for v a) refl;
  }

module _ (before : List (Option ℕ)) (arrays : List ArrayDesc) (i : ℕ) (d : ArrayDesc) (lt : i < length arrays) (indexed : IsIndexOf before (take i arrays)) where
  more : take (i + 1) arrays ≡ take i arrays ++ get_or arrays i d ∷ []
  more = ap (λ (n : ℕ). take n arrays) (add-one i) ∙ take-suc arrays i d lt

  len : length (take i arrays) ≡ i
  len = length-take-le i arrays (omega arith)

  pub indexed_more : (after : List (Option ℕ)) → IsTagAdded before after i (get_or arrays i d).versions → IsIndexOf after (take (i + 1) arrays)
  unfolding more len
  indexed_more after added =
      subst (λ (xs : List ArrayDesc). IsIndexOf after xs) (sym more)
      (indexed_push before after (take i arrays) (get_or arrays i d) indexed (subst (λ (n : ℕ). IsTagAdded before after n (get_or arrays i d).versions) (sym len) added))

  -- the same of a number and a tag as a loop has them
  pub indexed_next : (after : List (Option ℕ)) (number : ℕ) (tag : List ℕ) → number ≡ i → tag ≡ (get_or arrays i d).versions → IsTagAdded before after number tag
      → IsIndexOf after (take (i + 1) arrays)
  indexed_next after number tag number_is tag_is added =
      indexed_more after
      (subst (λ (n : ℕ). IsTagAdded before after n (get_or arrays i d).versions) number_is
      (subst (λ (vs : List ℕ). IsTagAdded before after number vs) tag_is added))

  -- a version of the next tag that has a number stands in two tags
  pub stands_in_two : (tag : List ℕ) → tag ≡ (get_or arrays i d).versions → (e : LevelFault) → IfOverlap e (IsTaken before tag) → IfOverlap e (λ v. 1 < arrays_for arrays v)
  stands_in_two tag tag_is NoMemory taken = tt
  stands_in_two tag tag_is (Overlap v) taken =
      let here : is_for v (get_or arrays i d) ≡ true = ap (λ (vs : List ℕ). is_tagged vs v) (sym tag_is) ∙ taken.0 in
      let part : arrays_for (take (i + 1) arrays) v ≤ arrays_for arrays v = sum_by-take-le (λ x. cond (is_for v x) 1 0) arrays (i + 1) in
      let more : arrays_for (take (i + 1) arrays) v ≡ arrays_for (take i arrays) v + 1 = count_by_more_yes (is_for v) arrays i d lt here in
      let one : arrays_for (take i arrays) v ≡ 1 = indexed.counted v ∙ ap (λ (b : Bool). cond b 1 0) taken.1 in
      omega arith

-- no version stands in two tags of arrays that have an index
pub disjoint_from : (index : List (Option ℕ)) (arrays : List ArrayDesc) (i : ℕ) → length arrays ≤ i → IsIndexOf index (take i arrays) → HaveDisjointTags arrays
disjoint_from index arrays i end indexed = record { once = λ v. once v (is_some (slot index v)) (ap (λ (xs : List ArrayDesc). arrays_for xs v) (sym (take_all i arrays end)) ∙ indexed.counted v) }
  where
    once : (v : ℕ) (b : Bool) → arrays_for arrays v ≡ cond b 1 0 → arrays_for arrays v ≤ 1
    once v true e = omega arith
    once v false e = omega arith
