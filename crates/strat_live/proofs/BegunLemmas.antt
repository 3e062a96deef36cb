-- Counts of the versions at which a key begins, while its items are taken from the least version up.
use Rattle.std.proofs.Common.{◌≡◌, ◌<◌, ◌≤◌, ℕ, zero, suc, ◌+◌, ◌-◌, Bool, true, false, ltb, eqb, ◌&&◌, ◌||◌, not, get_or, set, drop, inl, inr, List, [], ◌∷◌, length, sum, refl, sym, ap, ◌∙◌, subst, arith}
use Rattle.std.specs.List.{list_any, list_all}
use Rattle.std.proofs.Math.Seq.{drop-cons}
use Rattle.std.proofs.lemmas.Bool.{cases_eq, eq-eqb, ne_eqb, and_parts, ltb-true}
use Rattle.std.proofs.lemmas.List.{get_or-set_same, get_or-set_other, length-map, drop_all}
use Rattle.std.proofs.lemmas.List.Sums.{sum_by-set, get_or-le-sum_by}
use Rattle.strat_base.specs.Tree.{Parents, IsTree}
use Rattle.strat_base.proofs.ListFacts.{Among}
use Rattle.strat_arena.specs.declared.items.Item.{Item}
use Rattle.strat_tree.specs.Preorder.{Numbering, IsPreorder}
use Rattle.strat_live.specs.declared.tops.Interval.{Interval}
use Rattle.strat_live.specs.Counting.{item_versions, are_below, AreAdded, is_seen_above}
use Rattle.strat_base.specs.Order.{descends}
use Rattle.strat_live.specs.Group.{is_descending}
use Rattle.strat_live.specs.Tops.{interval_of, AreApart, IsCovered, IsAmong}
use Rattle.strat_live.proofs.CountingLemmas.{one_if, descends_from, below_from}
use Rattle.strat_live.proofs.TopsLemmas.{AreTops, AreLater, tops_none, tops_passed, tops_begun, seen_covered, unseen_begun, later_of}

-- the versions us of a key, all but the greatest ones, were taken
pub record HaveBegun (n : ℕ) (parents : Parents) (order : Numbering) (versions us before begun : List ℕ) (tops : List Interval) : Type 0 where
  pub are : AreTops order us tops
  pub counts : (w : ℕ) → w < n → get_or begun w 0 ≡ get_or before w 0 + one_if (list_any (λ u. eqb u w) us && not (is_seen_above parents w versions))

pub begun_starts : (n : ℕ) (parents : Parents) (order : Numbering) (versions before : List ℕ) → HaveBegun n parents order versions [] before before []
begun_starts n parents order versions before = record { are = tops_none order; counts = λ w lt. omega arith }

-- one more version counts at itself alone, where nothing is seen from above
counted : (us : List ℕ) (v w now : ℕ) (seen seen_w : Bool) (was : ℕ) → list_any (λ u. eqb u v) us ≡ false → (w ≡ v → seen_w ≡ seen) → (w ≡ v → now ≡ one_if (not seen) + was) → ((w ≡ v → ⊥) → now ≡ was) → (before : ℕ) → was ≡ before + one_if (list_any (λ u. eqb u w) us && not seen_w)
    → now ≡ before + one_if ((eqb v w || list_any (λ u. eqb u w) us) && not seen_w)
counted us v w now seen seen_w was none same here apart before is =
    elim (cases_eq w v) [
      | inl one ↦
          let on : eqb v w ≡ true = eq-eqb v w (sym one) in
          let off : list_any (λ u. eqb u w) us ≡ false = ap (λ (x : ℕ). list_any (λ u. eqb u x) us) one ∙ none in
          let was_is : was ≡ before + 0 = is ∙ ap (λ (b : Bool). before + one_if (b && not seen_w)) off in
          let now_is : now ≡ one_if (not seen) + was = here one in
          let first : one_if ((eqb v w || list_any (λ u. eqb u w) us) && not seen_w) ≡ one_if (not seen_w) = ap (λ (b : Bool). one_if ((b || list_any (λ u. eqb u w) us) && not seen_w)) on in
          let second : one_if (not seen_w) ≡ one_if (not seen) = ap (λ (b : Bool). one_if (not b)) (same one) in
          omega arith
      | inr other ↦
          let off : eqb v w ≡ false = ne_eqb v w (λ e. other (sym e)) in
          let first : one_if ((eqb v w || list_any (λ u. eqb u w) us) && not seen_w) ≡ one_if (list_any (λ u. eqb u w) us && not seen_w) = ap (λ (b : Bool). one_if ((b || list_any (λ u. eqb u w) us) && not seen_w)) off in
          let now_is : now ≡ was = apart other in
          omega arith
    ]

none_later : (us : List ℕ) (v : ℕ) → ((u : ℕ) → Among u us → u < v) → list_any (λ u. eqb u v) us ≡ false
none_later [] v less = refl
none_later (u ∷ us) v less =
    let lt : u < v = less u (inl refl) in
    let off : eqb u v ≡ false = ne_eqb u v (λ e. absurd (omega arith)) in
    ap (λ (b : Bool). b || list_any (λ u. eqb u v) us) off ∙ none_later us v (λ w among. less w (inr among))

module _ (n : ℕ) (parents : Parents) (tree : IsTree parents) (order : Numbering) (placed : IsPreorder n parents order) (versions : List ℕ) (down : descends versions ≡ true) (below : list_all (λ u. ltb u n) versions ≡ true) where
  module _ (i : ℕ) (lt : i < length versions) (before begun : List ℕ) (tops : List Interval) (have : HaveBegun n parents order versions (drop (suc i) versions) before begun tops) where
    later : AreLater versions (get_or versions i 0) (drop (suc i) versions)
    later = later_of versions i down lt

    -- the version before has an item of the key above it
    pub begun_passed : get_or versions i 0 < n → IsCovered tops (get_or order.starts (get_or versions i 0) 0) → HaveBegun n parents order versions (drop i versions) before begun tops
    begun_passed known covered =
        let v : ℕ = get_or versions i 0 in
        let us : List ℕ = drop (suc i) versions in
        let seen : is_seen_above parents v versions ≡ true = seen_covered parents tree n order placed us tops have.are v known later.less versions later.part later.rest covered in
        rw (drop-cons versions i 0 lt) (record {
          are = tops_passed parents tree n order placed us tops have.are v known later.less covered;
          counts = λ w under. counted us v w (get_or begun w 0) true (is_seen_above parents w versions) (get_or begun w 0) (none_later us v later.less)
              (λ same. ap (λ (x : ℕ). is_seen_above parents x versions) same ∙ seen)
              (λ same. omega arith)
              (λ other. refl)
              (get_or before w 0) (have.counts w under);
        })

    -- the version before has none
    pub begun_taken : get_or versions i 0 < n → length begun ≡ n → (after : List Interval) → IsAmong tops (interval_of order (get_or versions i 0)) after
        → HaveBegun n parents order versions (drop i versions) before (set begun (get_or versions i 0) (get_or begun (get_or versions i 0) 0 + 1)) after
    begun_taken known len after among =
        let v : ℕ = get_or versions i 0 in
        let us : List ℕ = drop (suc i) versions in
        let unseen : is_seen_above parents v versions ≡ false = unseen_begun parents tree n order placed us tops have.are v known later.less versions later.part later.rest after among in
        rw (drop-cons versions i 0 lt) (record {
          are = tops_begun parents tree n order placed us tops have.are v known later.less after among;
          counts = λ w under. counted us v w (get_or (set begun v (get_or begun v 0 + 1)) w 0) false (is_seen_above parents w versions) (get_or begun w 0) (none_later us v later.less)
              (λ same. ap (λ (x : ℕ). is_seen_above parents x versions) same ∙ unseen)
              (λ same. let at : get_or (set begun v (get_or begun v 0 + 1)) v 0 ≡ get_or begun v 0 + 1 = get_or-set_same begun v (get_or begun v 0 + 1) 0 (omega arith) in rw same (omega arith))
              (λ other. get_or-set_other begun v w (get_or begun v 0 + 1) 0 other)
              (get_or before w 0) (have.counts w under);
        })

-- descending versions below n are at most n
pub few_versions : (versions : List ℕ) (n : ℕ) → descends versions ≡ true → list_all (λ u. ltb u n) versions ≡ true → length versions ≤ n
few_versions [] n down below = omega arith
few_versions (x ∷ xs) n down below =
    let parts = and_parts (list_all (λ u. ltb u x) xs) (descends xs) down in
    let lt : x < n = ltb-true x n (and_parts (ltb x n) (list_all (λ u. ltb u n) xs) below).0 in
    let rest : length xs ≤ x = few_versions xs x parts.1 parts.0 in
    omega arith

pub few_items : (group : List Item) (n : ℕ) → is_descending group ≡ true → are_below n group ≡ true → length group ≤ n
few_items group n down below =
    let same : length (item_versions group) ≡ length group = length-map group (λ (item : Item). item.version) in
    let few : length (item_versions group) ≤ n = few_versions (item_versions group) n (descends_from group down) (below_from n group below) in
    omega arith

version_of : (group : List Item) (k : ℕ) (d : Item) → k < length group → get_or (item_versions group) k 0 ≡ (get_or group k d).version
version_of [] k d lt = absurd (omega arith)
version_of (x ∷ group) zero d lt = refl
version_of (x ∷ group) (suc k) d lt = version_of group k d (omega arith)

pub version_below : (group : List Item) (n k : ℕ) (d : Item) → are_below n group ≡ true → k < length group → (get_or group k d).version < n
version_below [] n k d below lt = absurd (omega arith)
version_below (x ∷ group) n zero d below lt = ltb-true x.version n (and_parts (ltb x.version n) (are_below n group) below).0
version_below (x ∷ group) n (suc k) d below lt = version_below group n k d (and_parts (ltb x.version n) (are_below n group) below).1 (omega arith)

-- one more in a list of counts is one more in their sum
pub sum_counted : (begun : List ℕ) (v : ℕ) → v < length begun → sum (set begun v (get_or begun v 0 + 1)) ≡ sum begun + 1
sum_counted begun v lt = let set_is = sum_by-set (λ (x : ℕ). x) begun v (get_or begun v 0 + 1) 0 lt in omega arith

pub at_most_sum : (begun : List ℕ) (v : ℕ) → v < length begun → get_or begun v 0 ≤ sum begun
at_most_sum begun v lt = get_or-le-sum_by (λ (x : ℕ). x) begun v 0 lt

pub none_begun : (n : ℕ) (parents : Parents) (order : Numbering) (group : List Item) (before : List ℕ) (tops : List Interval) → tops ≡ [] → HaveBegun n parents order (item_versions group) (drop (length group) (item_versions group)) before before tops
none_begun n parents order group before tops empty =
    let same : length (item_versions group) ≡ length group = length-map group (λ (item : Item). item.version) in
    let none : drop (length group) (item_versions group) ≡ [] = drop_all (length group) (item_versions group) (omega arith) in
    rw (none, empty) (begun_starts n parents order (item_versions group) before)

pub all_begun : (n : ℕ) (parents : Parents) (order : Numbering) (group : List Item) (i : ℕ) (before begun : List ℕ) (tops : List Interval) → i ≡ 0 → length before ≡ n → HaveBegun n parents order (item_versions group) (drop i (item_versions group)) before begun tops
    → AreAdded parents (item_versions group) before begun
all_begun n parents order group i before begun tops none len have v lt =
    (subst (λ (k : ℕ). HaveBegun n parents order (item_versions group) (drop k (item_versions group)) before begun tops) none have).counts v (omega arith)

module _ (n : ℕ) (parents : Parents) (tree : IsTree parents) (order : Numbering) (placed : IsPreorder n parents order) (group : List Item) (d : Item) (down : is_descending group ≡ true) (below : are_below n group ≡ true) where
  pub item_passed : (i : ℕ) → 0 < i → i ≤ length group → (before begun : List ℕ) (tops after : List Interval) → HaveBegun n parents order (item_versions group) (drop i (item_versions group)) before begun tops
      → (AreApart tops → IsCovered tops (get_or order.starts (get_or group (i - 1) d).version 0)) → after ≡ tops
      → HaveBegun n parents order (item_versions group) (drop (i - 1) (item_versions group)) before begun after
  item_passed zero some lt before begun tops after have covered same = absurd (omega arith)
  item_passed (suc k) some lt before begun tops after have covered same =
      let less : suc k - 1 ≡ k = omega arith in
      let is : get_or (item_versions group) k 0 ≡ (get_or group k d).version = version_of group k d (omega arith) in
      let here : get_or group (suc k - 1) d ≡ get_or group k d = ap (λ (x : ℕ). get_or group x d) less in
      let known : (get_or group k d).version < n = version_below group n k d below (omega arith) in
      let cover : IsCovered tops (get_or order.starts (get_or (item_versions group) k 0) 0) = rw is (rw less at (covered have.are.apart)) in
      rw (less, same) (begun_passed n parents tree order placed (item_versions group) (descends_from group down) (below_from n group below) k (omega (arith, length-map group (λ (item : Item). item.version))) before begun tops have (omega arith) cover)

  pub item_taken : (i : ℕ) → 0 < i → i ≤ length group → (before begun : List ℕ) → length begun ≡ n → (tops after : List Interval) → HaveBegun n parents order (item_versions group) (drop i (item_versions group)) before begun tops
      → (AreApart tops → IsAmong tops (interval_of order (get_or group (i - 1) d).version) after)
      → HaveBegun n parents order (item_versions group) (drop (i - 1) (item_versions group)) before (set begun (get_or group (i - 1) d).version (get_or begun (get_or group (i - 1) d).version 0 + 1)) after
  item_taken zero some lt before begun len tops after have among = absurd (omega arith)
  item_taken (suc k) some lt before begun len tops after have among =
      let less : suc k - 1 ≡ k = omega arith in
      let is : get_or (item_versions group) k 0 ≡ (get_or group k d).version = version_of group k d (omega arith) in
      let known : (get_or group k d).version < n = version_below group n k d below (omega arith) in
      let place : IsAmong tops (interval_of order (get_or (item_versions group) k 0)) after = rw is (rw less at (among have.are.apart)) in
      let next = begun_taken n parents tree order placed (item_versions group) (descends_from group down) (below_from n group below) k (omega (arith, length-map group (λ (item : Item). item.version))) before begun tops have (omega arith) len after place in
      rw less (rw is at next)
