-- Counts of items and of keys, and how they are kept.
use Rattle.std.proofs.Common.{◌≡◌, ◌<◌, ◌≤◌, ◌+◌, ℕ, zero, suc, Bool, true, false, cond, ltb, eqb, ◌&&◌, ◌||◌, not, inl, inr, List, [], ◌∷◌, ◌++◌, length, sum, get_or, set, take, min, Option, Some, None, refl, sym, ap, ◌∙◌, subst, arith}
use Rattle.std.specs.List.{list_any, list_all, fold, sum_by, count_by}
use Rattle.std.specs.Option.{option_map_or}
use Rattle.std.proofs.lemmas.Bool.{and_parts, and_from, cases_lt, ltb-true, eqb-true, eq-eqb, false_from_ne_true, ne_eqb, cases_eq}
use Rattle.std.proofs.lemmas.List.{get_or-set_same, get_or-set_other, get_or_past, length-set, length-map, length-take, take-take}
use Rattle.std.proofs.lemmas.List.Sums.{sum_by-cons, sum_by_push, sum_by_more, sum_by-set, sum_by-take-le, get_or-le-sum_by}
use Rattle.std.proofs.lemmas.List.Folds.{list_all-append, list_all-map}
use Rattle.strat_base.specs.Tree.{Parents, parent_of, IsTree}
use Rattle.strat_base.proofs.ListFacts.{any_among, all_at}
use Rattle.strat_base.proofs.ResultFacts.{option_cases}
use Rattle.strat_base.proofs.TreeLemmas.{parent_older, along_path}
use Rattle.strat_arena.specs.declared.items.Item.{Item}
use Rattle.strat_live.specs.Group.{is_descending}
use Rattle.strat_live.specs.CountFields.{AreSmall}
use Rattle.strat_tree.specs.Preorder.{Numbering, IsPreorder}
use Rattle.strat_tree.proofs.PreorderLemmas.{ancestors_same}
use Rattle.strat_live.specs.Tallies.{Tallies}
use Rattle.strat_live.specs.Counting.{item_versions, are_below, is_seen_above, is_begun, begun_count, tallied, SameParents, IsTally, IsCount, AreAdded, AreSummed}
use Rattle.strat_base.specs.Order.{descends}
use Rattle.def_state.specs.Counted.{sees_one, keys_at}
use Rattle.strat_live.proofs.SeenLemmas.{seen_parts, seen_same, begun_same}

-- 1 for a test that passes
abbrev pub one_if : Bool → ℕ
one_if b = cond b 1 0

same_sum : {X : Type 0} (f g : X → ℕ) → ((x : X) → f x ≡ g x) → (xs : List X) → sum_by f xs ≡ sum_by g xs
same_sum f g same xs = λ i. fold (λ a x. a + same x i) 0 xs

-- one more at each of some places
pub length_tallied : (counts places : List ℕ) → length (tallied counts places) ≡ length counts
length_tallied counts [] = refl
length_tallied counts (u ∷ places) = length_tallied (set counts u (get_or counts u 0 + 1)) places ∙ length-set counts u (get_or counts u 0 + 1)

pub sum_tallied : (counts places : List ℕ) → list_all (λ u. ltb u (length counts)) places ≡ true → sum (tallied counts places) ≡ sum counts + length places
sum_tallied counts [] below = omega arith
sum_tallied counts (u ∷ places) below =
    let parts = and_parts (ltb u (length counts)) (list_all (λ u. ltb u (length counts)) places) below in
    let lt : u < length counts = ltb-true u (length counts) parts.0 in
    let same : length (set counts u (get_or counts u 0 + 1)) ≡ length counts = length-set counts u (get_or counts u 0 + 1) in
    let rest : sum (tallied (set counts u (get_or counts u 0 + 1)) places) ≡ sum (set counts u (get_or counts u 0 + 1)) + length places = sum_tallied (set counts u (get_or counts u 0 + 1)) places (ap (λ (n : ℕ). list_all (λ u. ltb u n) places) same ∙ parts.1) in
    let one : sum (set counts u (get_or counts u 0 + 1)) + get_or counts u 0 ≡ sum counts + (get_or counts u 0 + 1) = sum_by-set (λ (x : ℕ). x) counts u (get_or counts u 0 + 1) 0 lt in
    omega arith

pub tallied_at : (counts places : List ℕ) (v : ℕ) → list_all (λ u. ltb u (length counts)) places ≡ true → get_or (tallied counts places) v 0 ≡ get_or counts v 0 + count_by (λ u. eqb u v) places
tallied_at counts [] v below = omega arith
tallied_at counts (u ∷ places) v below =
    let parts = and_parts (ltb u (length counts)) (list_all (λ u. ltb u (length counts)) places) below in
    let lt : u < length counts = ltb-true u (length counts) parts.0 in
    let same : length (set counts u (get_or counts u 0 + 1)) ≡ length counts = length-set counts u (get_or counts u 0 + 1) in
    let rest : get_or (tallied (set counts u (get_or counts u 0 + 1)) places) v 0 ≡ get_or (set counts u (get_or counts u 0 + 1)) v 0 + count_by (λ u. eqb u v) places = tallied_at (set counts u (get_or counts u 0 + 1)) places v (ap (λ (n : ℕ). list_all (λ u. ltb u n) places) same ∙ parts.1) in
    let more : count_by (λ u. eqb u v) (u ∷ places) ≡ one_if (eqb u v) + count_by (λ u. eqb u v) places = sum_by-cons (λ u. one_if (eqb u v)) u places in
    elim (cases_eq u v) [
      | inl here ↦
          let on : one_if (eqb u v) ≡ 1 = ap one_if (eq-eqb u v here) in
          let at : get_or (set counts u (get_or counts u 0 + 1)) v 0 ≡ get_or counts u 0 + 1 = ap (λ (w : ℕ). get_or (set counts u (get_or counts u 0 + 1)) w 0) (sym here) ∙ get_or-set_same counts u (get_or counts u 0 + 1) 0 lt in
          let old : get_or counts u 0 ≡ get_or counts v 0 = ap (λ (w : ℕ). get_or counts w 0) here in
          omega arith
      | inr apart ↦
          let off : one_if (eqb u v) ≡ 0 = ap one_if (ne_eqb u v apart) in
          let at : get_or (set counts u (get_or counts u 0 + 1)) v 0 ≡ get_or counts v 0 = get_or-set_other counts u v (get_or counts u 0 + 1) 0 (λ e. apart (sym e)) in
          omega arith
    ]

-- the versions of items descend, and are below a number
pub descends_from : (items : List Item) → is_descending items ≡ true → descends (item_versions items) ≡ true
descends_from [] down = refl
descends_from (x ∷ items) down =
    let parts = and_parts (list_all (λ later. ltb later.version x.version) items) (is_descending items) down in
    and_from (list_all (λ u. ltb u x.version) (item_versions items)) (descends (item_versions items)) (list_all-map (λ u. ltb u x.version) (λ (item : Item). item.version) items ∙ parts.0) (descends_from items parts.1)

pub below_from : (n : ℕ) (items : List Item) → are_below n items ≡ true → list_all (λ u. ltb u n) (item_versions items) ≡ true
below_from n items below = list_all-map (λ u. ltb u n) (λ (item : Item). item.version) items ∙ below

all_take : {X : Type 0} (p : X → Bool) (i : ℕ) (xs : List X) → list_all p xs ≡ true → list_all p (take i xs) ≡ true
all_take p zero xs all = refl
all_take p (suc i) [] all = refl
all_take p (suc i) (x ∷ xs) all = let parts = and_parts (p x) (list_all p xs) all in and_from (p x) (list_all p (take i xs)) parts.0 (all_take p i xs parts.1)

-- counts stay small while few items are added
tallied_fits : (counts places : List ℕ) (v m : ℕ) → list_all (λ u. ltb u (length counts)) places ≡ true → sum counts + length places ≤ m → get_or (tallied counts places) v 0 ≤ m
tallied_fits counts places v m below room =
    let all : sum (tallied counts places) ≡ sum counts + length places = sum_tallied counts places below in
    elim (cases_lt v (length (tallied counts places))) [
      | inl lt ↦ let le : get_or (tallied counts places) v 0 ≤ sum (tallied counts places) = get_or-le-sum_by (λ (x : ℕ). x) (tallied counts places) v 0 lt in omega arith
      | inr past ↦ let none : get_or (tallied counts places) v 0 ≡ 0 = get_or_past (tallied counts places) v 0 past in omega arith
    ]

part_below : (n i : ℕ) (items : List Item) → are_below n items ≡ true → list_all (λ u. ltb u n) (item_versions (take i items)) ≡ true
part_below n i items below = below_from n (take i items) (all_take (λ (item : Item). ltb item.version n) i items below)

part_short : (i : ℕ) (items : List Item) → length (item_versions (take i items)) ≤ length items
part_short i items =
    let a : length (item_versions (take i items)) ≡ length (take i items) = length-map (take i items) (λ (item : Item). item.version) in
    let b : length (take i items) ≡ min i (length items) = length-take i items in
    omega arith

pub own_fits : (counts : List ℕ) (items : List Item) (i m : ℕ) (now : List ℕ) → are_below (length counts) items ≡ true → sum counts + length items ≤ m → now ≡ tallied counts (item_versions (take i items)) → (v : ℕ) → get_or now v 0 ≤ m
own_fits counts items i m now below room is v =
    let short = part_short i items in
    let le : get_or (tallied counts (item_versions (take i items))) v 0 ≤ m = tallied_fits counts (item_versions (take i items)) v m (part_below (length counts) i items below) (omega arith) in
    subst (λ (ns : List ℕ). get_or ns v 0 ≤ m) (sym is) le

-- and sum up to the items that were added
pub own_sum : (counts : List ℕ) (items : List Item) → are_below (length counts) items ≡ true → sum (tallied counts (item_versions items)) ≡ sum counts + length items
own_sum counts items below =
    let a : length (item_versions items) ≡ length items = length-map items (λ (item : Item). item.version) in
    let b : sum (tallied counts (item_versions items)) ≡ sum counts + length (item_versions items) = sum_tallied counts (item_versions items) (below_from (length counts) items below) in
    omega arith

pub small_added : (own begun live after : List ℕ) (items : List Item) → AreSmall own begun live → are_below (length own) items ≡ true → sum own + length items ≤ 16777216 → length after ≡ length begun → sum after ≤ sum begun + length items
    → AreSmall (tallied own (item_versions items)) after live
small_added own begun live after items small below room same more =
    let all : sum (tallied own (item_versions items)) ≡ sum own + length items = own_sum own items below in
    let own_len : length (tallied own (item_versions items)) ≡ length own = length_tallied own (item_versions items) in
    let few' = small.few in
    let begun_few' = small.begun_few in
    let lens = small.begun_len in
    let live_lens = small.live_len in
    record {
      begun_len = omega arith;
      live_len = omega arith;
      few = omega arith;
      begun_few = omega arith;
      live_few = small.live_few;
    }

-- of descending versions one at most is v
pub none_equal : (v : ℕ) (us : List ℕ) → list_all (λ u. ltb u v) us ≡ true → list_any (λ u. eqb u v) us ≡ false
none_equal v us less = false_from_ne_true (list_any (λ u. eqb u v) us) (λ any.
    let found = any_among (λ u. eqb u v) us any in
    let lt : found.0 < v = ltb-true found.0 v (all_at (λ u. ltb u v) found.0 us less found.1) in
    let same : found.0 ≡ v = eqb-true found.0 v found.2 in
    absurd (omega arith))

-- a key more
pub tally_added : (parents others : Parents) (tree : IsTree others) (n : ℕ) (groups : List (List ℕ)) (versions : List ℕ) (tallies : Tallies) (after : List ℕ) (order : Numbering)
    → SameParents n parents others → length tallies.own ≡ n → length tallies.begun ≡ n → descends versions ≡ true → list_all (λ u. ltb u n) versions ≡ true
    → IsTally parents groups tallies → AreAdded others versions tallies.begun after → IsPreorder n parents order
    → IsTally parents (groups ++ versions ∷ []) (record { own = tallied tallies.own versions; begun = after; live = tallies.live; is_numbered = true; order = order })
tally_added parents others tree n groups versions tallies after order same own_len begun_len down below tally added placed =
    let longer : length (tallied tallies.own versions) ≡ length tallies.own = length_tallied tallies.own versions in
    record {
      descending = list_all-append descends groups (versions ∷ []) ∙ (λ i. tally.descending i && (down i && true));
      own = λ v lt.
          tallied_at tallies.own versions v (ap (λ (m : ℕ). list_all (λ u. ltb u m) versions) own_len ∙ below)
          ∙ (λ i. tally.own v (omega (arith, lt)) i + count_by (λ u. eqb u v) versions)
          ∙ sym (sum_by_push (λ group. count_by (λ u. eqb u v) group) groups versions);
      begun = λ v lt.
          let few : v < length tallies.own = omega (arith, lt) in
          added v (omega arith)
          ∙ (λ i. tally.begun v few i + one_if (sym (begun_same others tree n parents same v (omega arith) versions) i))
          ∙ sym (sum_by_push (λ group. one_if (is_begun parents v group)) groups versions);
      placed = λ yes'. subst (λ (m : ℕ). IsPreorder m parents order) (sym (longer ∙ own_len)) placed;
    }

-- an order of versions is one for each tree that gives them the same parents
pub order_moved : (parents others : Parents) (tree : IsTree others) (n : ℕ) (order : Numbering) → SameParents n parents others → IsPreorder n parents order → IsPreorder n others order
order_moved parents others tree n order same placed =
    record {
      starts_len = placed.starts_len;
      ends_len = placed.ends_len;
      law = λ u v known_u known_v. sym (ancestors_same parents others tree n same u v known_v) ∙ placed.law u v known_u known_v;
    }

module _ (parents : Parents) (tree : IsTree parents) where
  one_parts : (a b : Bool) → one_if (a || b) ≡ one_if (a && not b) + one_if b
  one_parts true true = refl
  one_parts true false = refl
  one_parts false true = refl
  one_parts false false = refl

  -- what is live at a version: what begins there, and what is live at its parent
  live_parts : (groups : List (List ℕ)) (v : ℕ) → keys_at parents groups v ≡ begun_count parents groups v + count_by (is_seen_above parents v) groups
  live_parts [] v = refl
  live_parts (group ∷ groups) v =
      let one : one_if (sees_one parents v group) ≡ one_if (is_begun parents v group) + one_if (is_seen_above parents v group) = ap one_if (seen_parts parents tree v group) ∙ one_parts (list_any (λ u. eqb u v) group) (is_seen_above parents v group) in
      let rest : keys_at parents groups v ≡ begun_count parents groups v + count_by (is_seen_above parents v) groups = live_parts groups v in
      let a : keys_at parents (group ∷ groups) v ≡ one_if (sees_one parents v group) + keys_at parents groups v = sum_by-cons (λ g. one_if (sees_one parents v g)) group groups in
      let b : begun_count parents (group ∷ groups) v ≡ one_if (is_begun parents v group) + begun_count parents groups v = sum_by-cons (λ g. one_if (is_begun parents v g)) group groups in
      let c : count_by (is_seen_above parents v) (group ∷ groups) ≡ one_if (is_seen_above parents v group) + count_by (is_seen_above parents v) groups = sum_by-cons (λ g. one_if (is_seen_above parents v g)) group groups in
      omega arith

  above_none : (groups : List (List ℕ)) (v : ℕ) → parent_of parents v ≡ None → count_by (is_seen_above parents v) groups ≡ 0
  above_none [] v none = refl
  above_none (group ∷ groups) v none =
      let one : one_if (is_seen_above parents v group) ≡ 0 = ap (λ (o : Option ℕ). one_if (option_map_or (λ p. sees_one parents p group) o false)) none in
      let c : count_by (is_seen_above parents v) (group ∷ groups) ≡ one_if (is_seen_above parents v group) + count_by (is_seen_above parents v) groups = sum_by-cons (λ g. one_if (is_seen_above parents v g)) group groups in
      let rest : count_by (is_seen_above parents v) groups ≡ 0 = above_none groups v none in
      omega arith

  above_some : (groups : List (List ℕ)) (v p : ℕ) → parent_of parents v ≡ Some p → count_by (is_seen_above parents v) groups ≡ keys_at parents groups p
  above_some [] v p some = refl
  above_some (group ∷ groups) v p some =
      let one : one_if (is_seen_above parents v group) ≡ one_if (sees_one parents p group) = ap (λ (o : Option ℕ). one_if (option_map_or (λ p. sees_one parents p group) o false)) some in
      let c : count_by (is_seen_above parents v) (group ∷ groups) ≡ one_if (is_seen_above parents v group) + count_by (is_seen_above parents v) groups = sum_by-cons (λ g. one_if (is_seen_above parents v g)) group groups in
      let d : keys_at parents (group ∷ groups) p ≡ one_if (sees_one parents p group) + keys_at parents groups p = sum_by-cons (λ g. one_if (sees_one parents p g)) group groups in
      let rest : count_by (is_seen_above parents v) groups ≡ keys_at parents groups p = above_some groups v p some in
      omega arith

  pub live_root : (groups : List (List ℕ)) (v : ℕ) → parent_of parents v ≡ None → keys_at parents groups v ≡ begun_count parents groups v
  live_root groups v none = let parts = live_parts groups v in let none' = above_none groups v none in omega arith

  pub live_up : (groups : List (List ℕ)) (v p : ℕ) → parent_of parents v ≡ Some p → keys_at parents groups v ≡ begun_count parents groups v + keys_at parents groups p
  live_up groups v p some = let parts = live_parts groups v in let same = above_some groups v p some in omega arith

  -- counts that are summed down are those of live keys
  pub summed_live : (groups : List (List ℕ)) (begun live : List ℕ) (n : ℕ) → AreSummed parents begun live n → ((v : ℕ) → v < n → get_or begun v 0 ≡ begun_count parents groups v) → (v : ℕ) → v < n → get_or live v 0 ≡ keys_at parents groups v
  summed_live groups begun live n summed begins = along_path parents tree (λ v. v < n → get_or live v 0 ≡ keys_at parents groups v)
      (λ v none lt.
      let at : get_or live v 0 ≡ get_or begun v 0 + 0 = summed v lt ∙ ap (λ (o : Option ℕ). get_or begun v 0 + option_map_or (λ p. get_or live p 0) o 0) none in
      let b : get_or begun v 0 ≡ begun_count parents groups v = begins v lt in
      let e : keys_at parents groups v ≡ begun_count parents groups v = live_root groups v none in
      omega arith)
      (λ v p some ih lt.
      let older : p < v = parent_older parents tree v p some in
      let at : get_or live v 0 ≡ get_or begun v 0 + get_or live p 0 = summed v lt ∙ ap (λ (o : Option ℕ). get_or begun v 0 + option_map_or (λ p. get_or live p 0) o 0) some in
      let b : get_or begun v 0 ≡ begun_count parents groups v = begins v lt in
      let up : get_or live p 0 ≡ keys_at parents groups p = ih (omega arith) in
      let e : keys_at parents groups v ≡ begun_count parents groups v + keys_at parents groups p = live_up groups v p some in
      omega arith)

  -- and stay below all that begins
  part_le : (begun : List ℕ) (i j : ℕ) → i ≤ j → sum (take i begun) ≤ sum (take j begun)
  part_le begun i j le = let P : ℕ → Type 0 = λ n. n ≤ sum (take j begun) in subst P (ap sum (take-take i j begun le)) (sum_by-take-le (λ (x : ℕ). x) (take j begun) i)

  pub summed_small : (begun live : List ℕ) (n : ℕ) → n ≤ length begun → AreSummed parents begun live n → (v : ℕ) → v < n → get_or live v 0 ≤ sum (take (v + 1) begun)
  summed_small begun live n fits summed = along_path parents tree (λ v. v < n → get_or live v 0 ≤ sum (take (v + 1) begun))
      (λ v none lt.
      let at : get_or live v 0 ≡ get_or begun v 0 + 0 = summed v lt ∙ ap (λ (o : Option ℕ). get_or begun v 0 + option_map_or (λ p. get_or live p 0) o 0) none in
      let more : sum (take (v + 1) begun) ≡ sum (take v begun) + get_or begun v 0 = sum_by_more (λ (x : ℕ). x) begun v 0 (omega arith) in
      omega arith)
      (λ v p some ih lt.
      let older : p < v = parent_older parents tree v p some in
      let at : get_or live v 0 ≡ get_or begun v 0 + get_or live p 0 = summed v lt ∙ ap (λ (o : Option ℕ). get_or begun v 0 + option_map_or (λ p. get_or live p 0) o 0) some in
      let up : get_or live p 0 ≤ sum (take (p + 1) begun) = ih (omega arith) in
      let less : sum (take (p + 1) begun) ≤ sum (take v begun) = part_le begun (p + 1) v (omega arith) in
      let more : sum (take (v + 1) begun) ≡ sum (take v begun) + get_or begun v 0 = sum_by_more (λ (x : ℕ). x) begun v 0 (omega arith) in
      omega arith)

  pub next_small : (begun live : List ℕ) (v : ℕ) → v < length begun → AreSummed parents begun live v → get_or begun v 0 + option_map_or (λ p. get_or live p 0) (parent_of parents v) 0 ≤ sum begun
  next_small begun live v lt summed = elim (option_cases (parent_of parents v)) [
    | inl none ↦
        let at : get_or begun v 0 + option_map_or (λ p. get_or live p 0) (parent_of parents v) 0 ≡ get_or begun v 0 + 0 = ap (λ (o : Option ℕ). get_or begun v 0 + option_map_or (λ p. get_or live p 0) o 0) none in
        let le : get_or begun v 0 ≤ sum begun = get_or-le-sum_by (λ (x : ℕ). x) begun v 0 lt in
        omega arith
    | inr some ↦
        let older : some.0 < v = parent_older parents tree v some.0 some.1 in
        let at : get_or begun v 0 + option_map_or (λ p. get_or live p 0) (parent_of parents v) 0 ≡ get_or begun v 0 + get_or live some.0 0 = ap (λ (o : Option ℕ). get_or begun v 0 + option_map_or (λ p. get_or live p 0) o 0) some.1 in
        let up : get_or live some.0 0 ≤ sum (take (some.0 + 1) begun) = summed_small begun live v (omega arith) summed some.0 older in
        let less : sum (take (some.0 + 1) begun) ≤ sum (take v begun) = part_le begun (some.0 + 1) v (omega arith) in
        let more : sum (take (v + 1) begun) ≡ sum (take v begun) + get_or begun v 0 = sum_by_more (λ (x : ℕ). x) begun v 0 lt in
        let whole : sum (take (v + 1) begun) ≤ sum begun = sum_by-take-le (λ (x : ℕ). x) begun (v + 1) in
        omega arith
  ]

  -- one more version is summed
  pub summed_more : (begun live : List ℕ) (v n : ℕ) → v < length live → AreSummed parents begun live v → n ≡ get_or begun v 0 + option_map_or (λ p. get_or live p 0) (parent_of parents v) 0 → AreSummed parents begun (set live v n) (v + 1)
  summed_more begun live v n lt summed is u under =
      elim (cases_eq u v) [
        | inl here ↦ subst (λ (w : ℕ). get_or (set live v n) w 0 ≡ get_or begun w 0 + option_map_or (λ p. get_or (set live v n) p 0) (parent_of parents w) 0) (sym here) (get_or-set_same live v n 0 lt ∙ is ∙ ap (λ (m : ℕ). get_or begun v 0 + m) (sym (kept v (omega arith))))
        | inr apart ↦ get_or-set_other live v u n 0 apart ∙ summed u (omega arith) ∙ ap (λ (m : ℕ). get_or begun u 0 + m) (sym (kept u (omega arith)))
      ]
    where
      kept : (w : ℕ) → w ≤ v → option_map_or (λ p. get_or (set live v n) p 0) (parent_of parents w) 0 ≡ option_map_or (λ p. get_or live p 0) (parent_of parents w) 0
      kept w le = elim (option_cases (parent_of parents w)) [
        | inl none ↦ ap (λ (o : Option ℕ). option_map_or (λ p. get_or (set live v n) p 0) o 0) none ∙ sym (ap (λ (o : Option ℕ). option_map_or (λ p. get_or live p 0) o 0) none)
        | inr some ↦
            let older : some.0 < w = parent_older parents tree w some.0 some.1 in
            ap (λ (o : Option ℕ). option_map_or (λ p. get_or (set live v n) p 0) o 0) some.1 ∙ get_or-set_other live v some.0 n 0 (λ e. omega arith) ∙ sym (ap (λ (o : Option ℕ). option_map_or (λ p. get_or live p 0) o 0) some.1)
      ]

  -- a tree that gives the versions below n the same parents counts the same
  pub live_same : (n : ℕ) (others : Parents) → SameParents n others parents → (groups : List (List ℕ)) (v : ℕ) → v < n → keys_at others groups v ≡ keys_at parents groups v
  live_same n others same groups v lt = same_sum (λ g. one_if (sees_one others v g)) (λ g. one_if (sees_one parents v g)) (λ g. ap one_if (seen_same parents tree n others same v lt g)) groups

  begun_count_same : (n : ℕ) (others : Parents) → SameParents n others parents → (groups : List (List ℕ)) (v : ℕ) → v < n → begun_count others groups v ≡ begun_count parents groups v
  begun_count_same n others same groups v lt = same_sum (λ g. one_if (is_begun others v g)) (λ g. one_if (is_begun parents v g)) (λ g. ap one_if (begun_same parents tree n others same v lt g)) groups

  -- a finished count
  pub finished : (others : Parents) (groups : List (List ℕ)) (own begun before live : List ℕ) (is_numbered : Bool) (order : Numbering) → SameParents (length own) others parents → length begun ≡ length own → AreSummed parents begun live (length begun)
      → IsTally others groups (record { own = own; begun = begun; live = before; is_numbered = is_numbered; order = order })
      → IsCount others groups (record { own = own; begun = begun; live = live; is_numbered = is_numbered; order = order })
  finished others groups own begun before live is_numbered order same len summed tally =
      record {
        descending = tally.descending;
        own = tally.own;
        live = λ v lt. summed_live groups begun live (length begun) summed (λ u under. tally.begun u (omega arith) ∙ begun_count_same (length own) others same groups u (omega arith)) v (omega arith) ∙ sym (live_same (length own) others same groups v lt);
      }

  pub small_summed : (own begun before live : List ℕ) → AreSmall own begun before → length live ≡ length before → length begun ≤ length parents → AreSummed parents begun live (length begun) → AreSmall own begun live
  small_summed own begun before live small len fits summed =
      let lens = small.live_len in
      let begun_lens = small.begun_len in
      record {
        begun_len = small.begun_len;
        live_len = omega arith;
        few = small.few;
        begun_few = small.begun_few;
        live_few = λ v. elim (cases_lt v (length begun)) [
          | inl lt ↦
              let part : get_or live v 0 ≤ sum (take (v + 1) begun) = summed_small begun live (length begun) (omega arith) summed v lt in
              let whole : sum (take (v + 1) begun) ≤ sum begun = sum_by-take-le (λ (x : ℕ). x) begun (v + 1) in
              let few' = small.few in
              let begun_few' = small.begun_few in
              omega arith
          | inr past ↦ let none : get_or live v 0 ≡ 0 = get_or_past live v 0 (omega arith) in omega arith
        ];
      }
