-- Which items of a key have none above them, told by intervals of the versions' numbers.
use Rattle.std.proofs.Common.{◌≡◌, ◌<◌, ◌≤◌, ℕ, zero, suc, ◌+◌, ◌-◌, true, false, ltb, leb, get_or, drop, inl, inr, List, [], ◌∷◌, length, Option, refl, sym, ap, ◌∙◌, subst, arith}
use Rattle.std.specs.List.{list_all, insert}
use Rattle.std.specs.Option.{option_map_or}
use Rattle.std.specs.List.Sorted.{IsPartitionedBy, IsPartitionPoint}
use Rattle.std.proofs.lemmas.Bool.{and_parts, and_from, cases_eq, cases_lt, cases_order, le-leb, leb-true, leb-false, lt-ltb, ltb-true, false_from_ne_true}
use Rattle.std.proofs.lemmas.List.Edits.{length-insert, get_or-insert_at, get_or-insert_below, get_or-insert_above}
use Rattle.strat_base.specs.Tree.{Parents, parent_of, path, is_ancestor, IsTree}
use Rattle.strat_base.proofs.ListFacts.{Among, any_among, any_from, all_at}
use Rattle.strat_base.proofs.ResultFacts.{option_cases}
use Rattle.strat_base.proofs.TreeLemmas.{parent_older, path_le, path_trans, on_path, on_root, from_path, self_on_path, ancestor_among, among_ancestor}
use Rattle.strat_tree.specs.Preorder.{Numbering, IsPreorder}
use Rattle.def_state.specs.Counted.{sees_one}
use Rattle.strat_live.specs.declared.tops.Interval.{Interval}
use Rattle.strat_live.specs.Counting.{is_seen_above}
use Rattle.strat_base.specs.Order.{descends}
use Rattle.strat_live.specs.Tops.{top_at, interval_of, AreApart, IsCovered, IsPlaceAmong, IsAmong}

-- the starts of intervals that are apart ascend
starts_ascend : (tops : List Interval) → AreApart tops → (i j : ℕ) → i ≤ j → j < length tops → (top_at tops i).start ≤ (top_at tops j).start
starts_ascend tops apart i j le lt =
    elim (cases_eq i j) [
      | inl same ↦ rw same (omega arith)
      | inr other ↦
          let some : (top_at tops i).start < (top_at tops i).end = apart.some i (omega arith) in
          let gap : (top_at tops i).end ≤ (top_at tops j).start = apart.gaps i j (omega arith) lt in
          omega arith
    ]

read_top : (tops : List Interval) (k : ℕ) (d : Interval) → k < length tops → get_or tops k d ≡ top_at tops k
read_top [] k d lt = absurd (omega arith)
read_top (x ∷ tops) zero d lt = refl
read_top (x ∷ tops) (suc k) d lt = read_top tops k d (omega arith)

-- where a search by halving ends
pub tops_parted : (tops : List Interval) (x : ℕ) → AreApart tops → IsPartitionedBy (λ (top : Interval). leb top.start x) tops
tops_parted tops x apart i j d le lt e =
    let later : (get_or tops j d).start ≤ x = leb-true (get_or tops j d).start x e in
    let up : (top_at tops i).start ≤ (top_at tops j).start = starts_ascend tops apart i j le lt in
    let at_i = ap (λ (top : Interval). top.start) (read_top tops i d (omega arith)) in
    let at_j = ap (λ (top : Interval). top.start) (read_top tops j d lt) in
    le-leb (get_or tops i d).start x (omega arith)

pub place_from_point : (tops : List Interval) (x at : ℕ) → at ≤ length tops → IsPartitionPoint (λ (top : Interval). leb top.start x ≡ true) (λ (top : Interval). leb top.start x ≡ false) tops at → IsPlaceAmong tops x at
place_from_point tops x at le point =
    let d : Interval = record { start = 0; end = 0 } in
    record {
      low = λ k lt. leb-true (get_or tops k d).start x (point.0 k d (omega arith) lt);
      high = λ k le lt. leb-false (get_or tops k d).start x (point.1 k d le lt);
    }

-- an interval in a list with one more: one before it, the new one, or one behind it
data FromInsert (tops : List Interval) (at : ℕ) (interval : Interval) (k : ℕ) : Type 0 where
  below : k < at → top_at (insert tops at interval) k ≡ top_at tops k → FromInsert tops at interval k
  here : k ≡ at → top_at (insert tops at interval) k ≡ interval → FromInsert tops at interval k
  above : at < k → k - 1 < length tops → top_at (insert tops at interval) k ≡ top_at tops (k - 1) → FromInsert tops at interval k

from_insert : (tops : List Interval) (at : ℕ) (interval : Interval) (k : ℕ) → at ≤ length tops → k < length (insert tops at interval) → FromInsert tops at interval k
from_insert tops at interval k within lt =
    let longer : length (insert tops at interval) ≡ length tops + 1 = length-insert tops at interval within in
    let d : Interval = record { start = 0; end = 0 } in
    elim (cases_order k at) [
      | inl same ↦ here same (ap (top_at (insert tops at interval)) same ∙ get_or-insert_at tops at interval d within)
      | inr (inl less) ↦ below less (get_or-insert_below tops at interval d k less within)
      | inr (inr more) ↦
          let next : k ≡ k - 1 + 1 = omega arith in
          above more (omega arith) (ap (top_at (insert tops at interval)) next ∙ get_or-insert_above tops at interval d (k - 1) (omega arith) within)
    ]

-- these are the intervals of versions, such that each of the versions is below one of them
pub record AreTops (order : Numbering) (versions : List ℕ) (tops : List Interval) : Type 0 where
  pub apart : AreApart tops
  pub each : (k : ℕ) → k < length tops → (t : ℕ) × Among t versions × (top_at tops k ≡ interval_of order t)
  pub all : (u : ℕ) → Among u versions → IsCovered tops (get_or order.starts u 0)

pub tops_none : (order : Numbering) → AreTops order [] []
tops_none order =
    record {
      apart = record { some = λ k lt. absurd (omega arith); gaps = λ j k less lt. absurd (omega arith) };
      each = λ k lt. absurd (omega arith);
      all = λ u among. absurd among;
    }

module _ (parents : Parents) (tree : IsTree parents) (n : ℕ) (order : Numbering) (placed : IsPreorder n parents order) where
  spans_from : (u v : ℕ) → u < n → v < n → Among u (path parents v) → (get_or order.starts u 0 ≤ get_or order.starts v 0) × (get_or order.starts v 0 < get_or order.ends u 0)
  spans_from u v known_u known_v among =
      let tests = sym (placed.law u v known_u known_v) ∙ among_ancestor parents tree u v among in
      let both = and_parts (leb (get_or order.starts u 0) (get_or order.starts v 0)) (ltb (get_or order.starts v 0) (get_or order.ends u 0)) tests in
      (leb-true (get_or order.starts u 0) (get_or order.starts v 0) both.0, ltb-true (get_or order.starts v 0) (get_or order.ends u 0) both.1)

  among_from : (u v : ℕ) → u < n → v < n → get_or order.starts u 0 ≤ get_or order.starts v 0 → get_or order.starts v 0 < get_or order.ends u 0 → Among u (path parents v)
  among_from u v known_u known_v le lt =
      ancestor_among parents tree u v (placed.law u v known_u known_v ∙ and_from (leb (get_or order.starts u 0) (get_or order.starts v 0)) (ltb (get_or order.starts v 0) (get_or order.ends u 0)) (le-leb (get_or order.starts u 0) (get_or order.starts v 0) le) (lt-ltb (get_or order.starts v 0) (get_or order.ends u 0) lt))

  module _ (us : List ℕ) (tops : List Interval) (are : AreTops order us tops) (v : ℕ) (known : v < n) (less : (u : ℕ) → Among u us → u < v) where
    -- a version whose start an interval holds is below one of the versions
    covered_below : IsCovered tops (get_or order.starts v 0) → (u : ℕ) × Among u us × Among u (path parents v)
    covered_below covered =
        let top = are.each covered.0 covered.1 in
        let lt : top.0 < v = less top.0 top.1 in
        let start = ap (λ (x : Interval). x.start) top.2 in
        let end = ap (λ (x : Interval). x.end) top.2 in
        (top.0, top.1, among_from top.0 v (omega arith) known (omega (arith, covered.2)) (omega (arith, covered.3)))

    below_covered : (u : ℕ) → Among u us → Among u (path parents v) → IsCovered tops (get_or order.starts v 0)
    below_covered u among on =
        let lt : u < v = less u among in
        let cover = are.all u among in
        let top = are.each cover.0 cover.1 in
        let lt' : top.0 < v = less top.0 top.1 in
        let start = ap (λ (x : Interval). x.start) top.2 in
        let end = ap (λ (x : Interval). x.end) top.2 in
        let first : Among top.0 (path parents u) = among_from top.0 u (omega arith) (omega arith) (omega (arith, cover.2)) (omega (arith, cover.3)) in
        let both = spans_from top.0 v (omega arith) known (path_trans parents tree top.0 u v first on) in
        (cover.0, cover.1, omega (arith, both.0), omega (arith, both.1))

    -- a version below one of the others changes nothing
    pub tops_passed : IsCovered tops (get_or order.starts v 0) → AreTops order (v ∷ us) tops
    tops_passed covered =
        record {
          apart = are.apart;
          each = λ k lt. let top = are.each k lt in (top.0, inr top.1, top.2);
          all = λ u among. elim among [ inl same ↦ rw same covered | inr there ↦ are.all u there ];
        }

    -- its interval lies before those that start behind it
    ends_before : (k : ℕ) → k < length tops → get_or order.starts v 0 < (top_at tops k).start → get_or order.ends v 0 ≤ (top_at tops k).start
    ends_before k lt behind =
        let top = are.each k lt in
        let lt' : top.0 < v = less top.0 top.1 in
        let start = ap (λ (x : Interval). x.start) top.2 in
        elim (cases_lt (top_at tops k).start (get_or order.ends v 0)) [
          | inl within ↦
              let on : Among v (path parents top.0) = among_from v top.0 known (omega arith) (omega arith) (omega arith) in
              let le : v ≤ top.0 = path_le parents tree v top.0 on in
              absurd (omega arith)
          | inr past ↦ past
        ]

    -- a version below none of them is one of those that the others are below
    pub tops_begun : (after : List Interval) → IsAmong tops (interval_of order v) after → AreTops order (v ∷ us) after
    tops_begun after among =
        let x : Interval = interval_of order v in
        let at : ℕ = among.at in
        let within : at ≤ length tops = among.within in
        let longer : length (insert tops at x) ≡ length tops + 1 = length-insert tops at x within in
        let own = spans_from v v known known (self_on_path parents tree v) in
        let high : (k : ℕ) → at ≤ k → k < length tops → x.end ≤ (top_at tops k).start = λ k le lt. ends_before k lt (among.high k le lt) in
        subst (AreTops order (v ∷ us)) (sym among.is) (record {
          apart = record {
            some = λ k lt.
                elim (from_insert tops at x k within lt) [
                  | below less is ↦ rw is (are.apart.some k (omega arith))
                  | here same is ↦ rw is own.1
                  | above more lt' is ↦ rw is (are.apart.some (k - 1) lt')
                ];
            gaps = λ j k less lt.
                elim (from_insert tops at x k within lt) [
                  | below less_k is_k ↦
                      elim (from_insert tops at x j within (omega arith)) [
                        | below less_j is_j ↦ rw (is_j, is_k) (are.apart.gaps j k less (omega arith))
                        | here same_j is_j ↦ absurd (omega arith)
                        | above more_j lt_j is_j ↦ absurd (omega arith)
                      ]
                  | here same_k is_k ↦
                      elim (from_insert tops at x j within (omega arith)) [
                        | below less_j is_j ↦ rw (is_j, is_k) (among.low j less_j)
                        | here same_j is_j ↦ absurd (omega arith)
                        | above more_j lt_j is_j ↦ absurd (omega arith)
                      ]
                  | above more_k lt_k is_k ↦
                      elim (from_insert tops at x j within (omega arith)) [
                        | below less_j is_j ↦
                            let first : (top_at tops j).end ≤ x.start = among.low j less_j in
                            let second : x.start < (top_at tops (k - 1)).start = among.high (k - 1) (omega arith) lt_k in
                            rw (is_j, is_k) (omega arith)
                        | here same_j is_j ↦ rw (is_j, is_k) (high (k - 1) (omega arith) lt_k)
                        | above more_j lt_j is_j ↦ rw (is_j, is_k) (are.apart.gaps (j - 1) (k - 1) (omega arith) lt_k)
                      ]
                ];
          };
          each = λ k lt.
              elim (from_insert tops at x k within lt) [
                | below less is ↦ let top = are.each k (omega arith) in (top.0, inr top.1, is ∙ top.2)
                | here same is ↦ (v, inl refl, is)
                | above more lt' is ↦ let top = are.each (k - 1) lt' in (top.0, inr top.1, is ∙ top.2)
              ];
          all = λ u one.
              elim one [
                | inl same ↦
                    let is : top_at (insert tops at x) at ≡ x = get_or-insert_at tops at x (record { start = 0; end = 0 }) within in
                    rw same (at, omega arith, rw is (omega arith), rw is own.1)
                | inr there ↦
                    let cover = are.all u there in
                    let k : ℕ = cover.0 in
                    elim (cases_lt k at) [
                      | inl less ↦
                          let is : top_at (insert tops at x) k ≡ top_at tops k = get_or-insert_below tops at x (record { start = 0; end = 0 }) k less within in
                          (k, omega (arith, cover.1), rw is cover.2, rw is cover.3)
                      | inr le ↦
                          let is : top_at (insert tops at x) (k + 1) ≡ top_at tops k = get_or-insert_above tops at x (record { start = 0; end = 0 }) k le within in
                          (k + 1, omega (arith, cover.1), rw is cover.2, rw is cover.3)
                    ]
              ];
        })

    -- what an interval holds is free where the new one goes
    not_covered : (after : List Interval) → IsAmong tops (interval_of order v) after → IsCovered tops (get_or order.starts v 0) → ⊥
    not_covered after among cover =
        elim (cases_lt cover.0 among.at) [
          | inl less ↦ let past = among.low cover.0 less in absurd (omega (arith, past, cover.3))
          | inr le ↦ let behind = among.high cover.0 le cover.1 in absurd (omega (arith, behind, cover.2))
        ]

    module _ (versions : List ℕ) (part : (u : ℕ) → Among u us → Among u versions) (rest : (u : ℕ) → Among u versions → u < v → Among u us) where
      -- a version of which an interval holds the start is seen from above
      pub seen_covered : IsCovered tops (get_or order.starts v 0) → is_seen_above parents v versions ≡ true
      seen_covered covered =
          let above = covered_below covered in
          let lt : above.0 < v = less above.0 above.1 in
          elim (option_cases (parent_of parents v)) [
            | inl none ↦ let same : above.0 ≡ v = on_root parents tree above.0 v none above.2 in absurd (omega arith)
            | inr some ↦
                elim (on_path parents tree above.0 v some.0 some.1 above.2) [
                  | inl same ↦ absurd (omega arith)
                  | inr there ↦
                      ap (λ (o : Option ℕ). option_map_or (λ p. sees_one parents p versions) o false) some.1
                      ∙ any_from (λ u. is_ancestor parents u some.0) above.0 versions (part above.0 above.1) (among_ancestor parents tree above.0 some.0 there)
                ]
          ]

      -- and no other is
      pub unseen_begun : (after : List Interval) → IsAmong tops (interval_of order v) after → is_seen_above parents v versions ≡ false
      unseen_begun after among = false_from_ne_true (is_seen_above parents v versions) (λ seen.
          elim (option_cases (parent_of parents v)) [
            | inl none ↦ absurd (cc)
            | inr some ↦
                let sees : sees_one parents some.0 versions ≡ true = sym (ap (λ (o : Option ℕ). option_map_or (λ p. sees_one parents p versions) o false) some.1) ∙ seen in
                let found = any_among (λ u. is_ancestor parents u some.0) versions sees in
                let on : Among found.0 (path parents some.0) = ancestor_among parents tree found.0 some.0 found.2 in
                let le : found.0 ≤ some.0 = path_le parents tree found.0 some.0 on in
                let older : some.0 < v = parent_older parents tree v some.0 some.1 in
                let inside : Among found.0 us = rest found.0 found.1 (omega arith) in
                not_covered after among (below_covered found.0 inside (from_path parents tree found.0 v some.0 some.1 (inr on)))
          ])

-- of descending versions those behind one are the smaller ones
pub record AreLater (versions : List ℕ) (v : ℕ) (us : List ℕ) : Type 0 where
  pub less : (u : ℕ) → Among u us → u < v
  pub part : (u : ℕ) → Among u us → Among u versions
  pub rest : (u : ℕ) → Among u versions → u < v → Among u us
  pub own : Among v versions

pub later_of : (versions : List ℕ) (i : ℕ) → descends versions ≡ true → i < length versions → AreLater versions (get_or versions i 0) (drop (suc i) versions)
later_of [] i down lt = absurd (omega arith)
later_of (x ∷ xs) zero down lt =
    let parts = and_parts (list_all (λ u. ltb u x) xs) (descends xs) down in
    record {
      less = λ u among. ltb-true u x (all_at (λ u. ltb u x) u xs parts.0 among);
      part = λ u among. inr among;
      rest = λ u among less. elim among [ inl same ↦ absurd (omega arith) | inr there ↦ there ];
      own = inl refl;
    }
later_of (x ∷ xs) (suc i) down lt =
    let parts = and_parts (list_all (λ u. ltb u x) xs) (descends xs) down in
    let later = later_of xs i parts.1 (omega arith) in
    let first : get_or xs i 0 < x = ltb-true (get_or xs i 0) x (all_at (λ u. ltb u x) (get_or xs i 0) xs parts.0 later.own) in
    record {
      less = later.less;
      part = λ u among. inr (later.part u among);
      rest = λ u among less. elim among [ inl same ↦ absurd (omega arith) | inr there ↦ later.rest u there less ];
      own = inr later.own;
    }
