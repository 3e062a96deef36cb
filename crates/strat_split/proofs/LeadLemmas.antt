-- Leads, and the one live item behind them.
use Rattle.std.proofs.Common.{◌≡◌, ◌<◌, ◌≤◌, ◌+◌, ◌-◌, ℕ, zero, suc, Bool, true, false, cond, eqb, ltb, ◌||◌, not, inl, inr, List, [], ◌∷◌, ◌++◌, length, filter, drop, get_or, Option, Some, None, refl, sym, ap, ◌∙◌, arith, true≢false, add-one, drop-cons, append-nil}
use Rattle.std.specs.List.{list_any, list_all, find, range_with_len, slice_get}
use Rattle.std.specs.Option.{option_map_or}
use Rattle.std.proofs.lemmas.Bool.{and_parts, and_from, ltb-true, lt-ltb, false_from_ne_true, not-true}
use Rattle.std.proofs.lemmas.List.{get_or-map, length-map, drop_all}
use Rattle.strat_base.specs.Tree.{Parents, is_ancestor, IsTree}
use Rattle.strat_base.proofs.ListFacts.{Among, any_from, all_at, filter_among, find_some, find_none, get_among}
use Rattle.strat_base.proofs.TreeLemmas.{ancestor_among, path_le}
use Rattle.strat_arena.specs.declared.items.Item.{Item}
use Rattle.strat_live.specs.Group.{is_descending, is_nearer, is_live_item}
use Rattle.strat_split.specs.Chains.{first_labelled}
use Rattle.strat_split.specs.Dealing.{labels_of, is_below_last, with_gift}
use Rattle.strat_split.specs.declared.parts.Plan.{Plan}
use Rattle.strat_split.proofs.ChainLemmas.{labelled_step}

-- tests that agree keep the same
pub filter_same : {X : Type 0} (p q : X → Bool) (xs : List X) → ((x : X) → Among x xs → p x ≡ q x) → filter p xs ≡ filter q xs
filter_same p q [] each = refl
filter_same p q (x ∷ xs) each = λ i. cond (each x (inl refl) i) (x ∷ filter_same p q xs (λ y among. each y (inr among)) i) (filter_same p q xs (λ y among. each y (inr among)) i)

pub filter_none : {X : Type 0} (p : X → Bool) (xs : List X) → ((x : X) → Among x xs → p x ≡ false) → filter p xs ≡ []
filter_none p [] each = refl
filter_none p (x ∷ xs) each = ap (λ (b : Bool). cond b (x ∷ filter p xs) (filter p xs)) (each x (inl refl)) ∙ filter_none p xs (λ y among. each y (inr among))

-- what a test finds is found in what another keeps, if that keeps all that passes
pub find_kept : {X : Type 0} (p keep : X → Bool) (xs : List X) → ((x : X) → Among x xs → p x ≡ true → keep x ≡ true) → find p (filter keep xs) ≡ find p xs
find_kept p keep [] each = refl
find_kept {X = X} p keep (x ∷ xs) each =
    let rest : find p (filter keep xs) ≡ find p xs = find_kept p keep xs (λ y among. each y (inr among)) in
    elim (keep x) as (λ b. keep x ≡ b → find p (cond b (x ∷ filter keep xs) (filter keep xs)) ≡ cond (p x) (Some x) (find p xs)) [
      | true ↦ λ is. ap (λ (o : Option X). cond (p x) (Some x) o) rest
      | false ↦ λ is.
          let not_found : p x ≡ false = false_from_ne_true (p x) (λ passes. true≢false (sym (each x (inl refl) passes) ∙ is)) in
          rest ∙ sym (ap (λ (b : Bool). cond b (Some x) (find p xs)) not_found)
    ] refl

pub find_same : {X : Type 0} (p q : X → Bool) (xs : List X) → ((x : X) → Among x xs → p x ≡ q x) → find p xs ≡ find q xs
find_same p q [] each = refl
find_same p q (x ∷ xs) each = λ i. cond (each x (inl refl) i) (Some x) (find_same p q xs (λ y among. each y (inr among)) i)

older : (x : Item) (rest : List Item) → list_all (λ later. ltb later.version x.version) rest ≡ true → (y : Item) → Among y rest → y.version < x.version
older x rest all y among = ltb-true y.version x.version (all_at (λ (later : Item). ltb later.version x.version) y rest all among)

-- where each lead is newer than a version and what is live is not, the leads stand first
module _ (a : ℕ) (lead lives : Item → Bool) where
  leads_first : (items : List Item) → is_descending items ≡ true → ((x : Item) → Among x items → lead x ≡ true → a < x.version) → ((x : Item) → Among x items → lives x ≡ true → x.version ≤ a)
      → filter (λ x. lead x || lives x) items ≡ filter lead items ++ filter lives items
  leads_first [] down high low = refl
  leads_first (x ∷ rest) down high low =
      let parts = and_parts (list_all (λ later. ltb later.version x.version) rest) (is_descending rest) down in
      let more : filter (λ y. lead y || lives y) rest ≡ filter lead rest ++ filter lives rest = leads_first rest parts.1 (λ y among. high y (inr among)) (λ y among. low y (inr among)) in
      elim (lead x) as (λ b. lead x ≡ b → cond (b || lives x) (x ∷ filter (λ y. lead y || lives y) rest) (filter (λ y. lead y || lives y) rest) ≡ cond b (x ∷ filter lead rest) (filter lead rest) ++ cond (lives x) (x ∷ filter lives rest) (filter lives rest)) [
        | true ↦ λ leads.
            let above : a < x.version = high x (inl refl) leads in
            let off : lives x ≡ false = false_from_ne_true (lives x) (λ on. let le : x.version ≤ a = low x (inl refl) on in omega arith) in
            ap (λ (ys : List Item). x ∷ ys) more ∙ sym (ap (λ (b : Bool). (x ∷ filter lead rest) ++ cond b (x ∷ filter lives rest) (filter lives rest)) off)
        | false ↦ λ off.
            elim (lives x) as (λ b. lives x ≡ b → cond b (x ∷ filter (λ y. lead y || lives y) rest) (filter (λ y. lead y || lives y) rest) ≡ filter lead rest ++ cond b (x ∷ filter lives rest) (filter lives rest)) [
              | true ↦ λ on.
                  let none : filter lead rest ≡ [] = filter_none lead rest (λ y among. false_from_ne_true (lead y) (λ leads.
                  let le : x.version ≤ a = low x (inl refl) on in
                  let lt : a < y.version = high y (inr among) leads in
                  let less : y.version < x.version = older x rest parts.0 y among in
                  omega arith)) in
                  ap (λ (ys : List Item). x ∷ ys) (more ∙ ap (λ (ys : List Item). ys ++ filter lives rest) none) ∙ sym (ap (λ (ys : List Item). ys ++ x ∷ filter lives rest) none)
              | false ↦ λ still. more
            ] refl
      ] refl

-- one item at most passes, and so it is all that a filter keeps
pub kept_none : {X : Type 0} (p : X → Bool) (xs : List X) → find p xs ≡ None → filter p xs ≡ []
kept_none p xs none = filter_none p xs (λ x among. find_none p xs x none among)

kept_one : (lives : Item → Bool) (items : List Item) (z : Item) → is_descending items ≡ true → ((x y : Item) → Among x items → Among y items → lives x ≡ true → lives y ≡ true → x.version < y.version → ⊥) → find lives items ≡ Some z → filter lives items ≡ z ∷ []
kept_one lives [] z down apart found = absurd (cc)
kept_one lives (x ∷ rest) z down apart found =
    elim (lives x) as (λ b. lives x ≡ b → cond b (Some x) (find lives rest) ≡ Some z → cond b (x ∷ filter lives rest) (filter lives rest) ≡ z ∷ []) [
      | true ↦ λ on is.
          let same : x ≡ z = cc in
          let none : filter lives rest ≡ [] = filter_none lives rest (λ y among. false_from_ne_true (lives y) (λ also. apart y x (inr among) (inl refl) also on (older x rest parts.0 y among))) in
          λ i. same i ∷ none i
      | false ↦ λ off is. kept_one lives rest z parts.1 (λ u w a b. apart u w (inr a) (inr b)) is
    ] refl found
  where
    parts : (list_all (λ later. ltb later.version x.version) rest ≡ true) × (is_descending rest ≡ true)
    parts = and_parts (list_all (λ later. ltb later.version x.version) rest) (is_descending rest) down

-- what is older than each lead is older than the last
below_last : (leads : List Item) (z : Item) → ((x : Item) → Among x leads → z.version < x.version) → is_below_last leads z ≡ true
below_last leads z each = go (slice_get leads (length leads - 1)) refl
  where
    go : (o : Option Item) → slice_get leads (length leads - 1) ≡ o → option_map_or (λ last. ltb z.version last.version) o true ≡ true
    go None is = refl
    go (Some x) is = lt-ltb z.version x.version (each x (get_among leads (length leads - 1) x is))

module _ (parents : Parents) (tree : IsTree parents) (items : List Item) (p : ℕ) where
  live_low : (x : Item) → is_live_item parents items p x ≡ true → x.version ≤ p
  live_low x lives = path_le parents tree x.version p (ancestor_among parents tree x.version p (and_parts (is_ancestor parents x.version p) (not (list_any (is_nearer parents p x.version) items)) lives).0)

  live_apart : (x y : Item) → Among y items → is_live_item parents items p x ≡ true → is_live_item parents items p y ≡ true → x.version < y.version → ⊥
  live_apart x y among first second less =
      let none = not-true (list_any (is_nearer parents p x.version) items) (and_parts (is_ancestor parents x.version p) (not (list_any (is_nearer parents p x.version) items)) first).1 in
      let on = (and_parts (is_ancestor parents y.version p) (not (list_any (is_nearer parents p y.version) items)) second).0 in
      true≢false (sym (any_from (is_nearer parents p x.version) y items among (and_from (ltb x.version y.version) (is_ancestor parents y.version p) (lt-ltb x.version y.version less) on)) ∙ none)

  -- leads that are newer than p, and what is live at p
  pub leads_and_live : (lead : Item → Bool) → is_descending items ≡ true → ((x : Item) → Among x items → lead x ≡ true → p < x.version)
      → filter (λ x. lead x || is_live_item parents items p x) items ≡ with_gift (filter lead items) (find (is_live_item parents items p) items)
  leads_and_live lead down high =
      leads_first p lead (is_live_item parents items p) items down high (λ x among lives. live_low x lives) ∙ go (find (is_live_item parents items p) items) refl
    where
      go : (o : Option Item) → find (is_live_item parents items p) items ≡ o → filter lead items ++ filter (is_live_item parents items p) items ≡ with_gift (filter lead items) o
      go None is = ap (λ (ys : List Item). filter lead items ++ ys) (kept_none (is_live_item parents items p) items is) ∙ append-nil (filter lead items)
      go (Some z) is =
          let one : filter (is_live_item parents items p) items ≡ z ∷ [] = kept_one (is_live_item parents items p) items z down (λ x y a b. live_apart x y b) is in
          let low : z.version ≤ p = live_low z (find_some (is_live_item parents items p) items z is).1 in
          let last : is_below_last (filter lead items) z ≡ true = below_last (filter lead items) z (λ x among.
          let found = filter_among lead items x among in
          let lt : p < x.version = high x found.0 found.1 in
          omega arith) in
          ap (λ (ys : List Item). filter lead items ++ ys) one ∙ sym (ap (λ (b : Bool). cond b (filter lead items ++ z ∷ []) (filter lead items)) last)

-- the leads behind a place
abbrev pub rest_leads : Plan → List Item → ℕ → Option ℕ → List Item
rest_leads plan items q None = []
rest_leads plan items q (Some i) = filter (λ item. eqb (get_or plan.part_of item.version 0) q) (drop i items)

-- what is left of the leads begins with the first place of their label
pub leads_from : (plan : Plan) (items : List Item) (q n i : ℕ) → i + n ≡ length items → filter (λ item. eqb (get_or plan.part_of item.version 0) q) (drop i items) ≡ rest_leads plan items q (first_labelled (labels_of plan items) q i)
leads_from plan items q zero i end =
    let gone : drop i items ≡ [] = drop_all i items (omega arith) in
    let many : length (labels_of plan items) ≡ length items = length-map items (λ (item : Item). get_or plan.part_of item.version 0) in
    let none : length (labels_of plan items) - i ≡ 0 = omega arith in
    ap (filter (λ (item : Item). eqb (get_or plan.part_of item.version 0) q)) gone
    ∙ sym (ap (λ (m : ℕ). rest_leads plan items q (find (λ k. eqb (get_or (labels_of plan items) k 0) q) (range_with_len i m))) none)
leads_from plan items q (suc n) i end =
    let lead : Item → Bool = λ (item : Item). eqb (get_or plan.part_of item.version 0) q in
    let d : Item = record { slot = record { 0 = 0 }; version = 0; gone = false } in
    let lt : i < length items = omega arith in
    let many : length (labels_of plan items) ≡ length items = length-map items (λ (item : Item). get_or plan.part_of item.version 0) in
    let here : drop i items ≡ get_or items i d ∷ drop (suc i) items = drop-cons items i d lt in
    let at : get_or (labels_of plan items) i 0 ≡ get_or plan.part_of (get_or items i d).version 0 = get_or-map (λ (item : Item). get_or plan.part_of item.version 0) items i d 0 lt in
    let step : first_labelled (labels_of plan items) q i ≡ cond (eqb (get_or (labels_of plan items) i 0) q) (Some i) (first_labelled (labels_of plan items) q (i + 1)) = labelled_step (labels_of plan items) q i (omega arith) in
    let more : filter lead (drop (i + 1) items) ≡ rest_leads plan items q (first_labelled (labels_of plan items) q (i + 1)) = leads_from plan items q n (i + 1) (omega arith) in
    let cases : filter lead (drop i items) ≡ rest_leads plan items q (cond (eqb (get_or (labels_of plan items) i 0) q) (Some i) (first_labelled (labels_of plan items) q (i + 1))) = elim (eqb (get_or (labels_of plan items) i 0) q) as (λ b. eqb (get_or (labels_of plan items) i 0) q ≡ b → filter lead (drop i items) ≡ rest_leads plan items q (cond b (Some i) (first_labelled (labels_of plan items) q (i + 1)))) [
      | true ↦ λ is. refl
      | false ↦ λ is.
          let off : lead (get_or items i d) ≡ false = ap (λ (l : ℕ). eqb l q) (sym at) ∙ is in
          ap (filter lead) here ∙ ap (λ (b : Bool). cond b (get_or items i d ∷ filter lead (drop (suc i) items)) (filter lead (drop (suc i) items))) off ∙ ap (λ (j : ℕ). filter lead (drop j items)) (sym (add-one i)) ∙ more
    ] refl in
    cases ∙ sym (ap (rest_leads plan items q) step)
