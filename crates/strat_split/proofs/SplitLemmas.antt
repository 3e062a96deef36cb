-- What the passes leave is a split, and counts are what a split can go by.
use Rattle.std.proofs.Common.{◌≡◌, ◌<◌, ◌+◌, ℕ, zero, suc, ◌⊎◌, inl, inr, List, [], ◌∷◌, length, map, get_or, Option, Some, None, refl, sym, ap, ◌∙◌, subst, arith}
use Rattle.std.specs.List.{sum_by}
use Rattle.std.specs.Option.{option_map_or}
use Rattle.std.proofs.lemmas.List.{length-map}
use Rattle.strat_base.specs.Tree.{Parents, parent_of}
use Rattle.strat_base.proofs.ResultFacts.{option_cases}
use Rattle.strat_base.proofs.TreeLemmas.{root_is_zero, parent_older}
use Rattle.strat_tree.specs.Ancestor.{up}
use Rattle.def_state.specs.Counted.{own_at, keys_at}
use Rattle.strat_live.specs.Tallies.{Tallies}
use Rattle.strat_live.specs.Counting.{IsCount, SameParents}
use Rattle.strat_live.proofs.CountingLemmas.{live_same}
use Rattle.strat_live.proofs.CountingLaws.{live_grows, live_grows_by_own, root_live, own_live}
use Rattle.def_split.specs.Plan.{IsSplit, in_no_part, horizon_of, part_of, part_at, members}
use Rattle.def_split.specs.Plan as defined
use Rattle.strat_split.specs.Survey.{Told, IsSized, AreCounted}
use Rattle.strat_split.specs.Greedy.{sums_from}
use Rattle.strat_split.specs.Placing.{nth_part, part_sum, IsSoFar, IsDivided}
use Rattle.strat_split.specs.PlanSeen.{part_seen}
use Rattle.strat_split.specs.declared.parts.Part.{Part}
use Rattle.strat_split.proofs.SumLemmas.{part_sum_zeros, sum_members}
use Rattle.strat_split.proofs.GreedyLemmas.{up_is, sums_end}

-- a part that is plan_seen
shown_at : (parts : List Part) (q : ℕ) → get_or (map part_seen parts) q (record { above = None; leads = 0; entries = 0; least = 0 }) ≡ part_seen (nth_part parts q)
shown_at [] q = refl
shown_at (part ∷ parts) zero = refl
shown_at (part ∷ parts) (suc q) = shown_at parts q

module _ (t : Told) (lawful : AreCounted t) (labels : List ℕ) (parts : List Part) (divided : IsDivided t labels parts)
    (others : Parents) (same : SameParents (length t.own) others t.parents) (own live : ℕ → ℕ)
    (own_is : (v : ℕ) → v < length t.own → own v ≡ get_or t.own v 0) (live_is : (v : ℕ) → v < length t.own → live v ≡ get_or t.live v 0) where
  far : IsSoFar t (length t.own) labels divided.joins divided.before
  far = divided.so_far

  labels_len : length labels ≡ length t.own
  labels_len = far.labels_len

  parts_len : length (map part_seen parts) ≡ length divided.before
  parts_len = length-map parts part_seen ∙ divided.lowered.len

  above_is : (q : ℕ) → q < length divided.before → (get_or (map part_seen parts) q (record { above = None; leads = 0; entries = 0; least = 0 })).above ≡ (nth_part divided.before q).above
  above_is q lt = ap (λ (x : defined.Part). x.above) (shown_at parts q) ∙ (divided.lowered.same q lt).0

  leads_is : (q : ℕ) → q < length divided.before → (get_or (map part_seen parts) q (record { above = None; leads = 0; entries = 0; least = 0 })).leads ≡ (nth_part divided.before q).leads
  leads_is q lt = ap (λ (x : defined.Part). x.leads) (shown_at parts q) ∙ (divided.lowered.same q lt).1

  entries_is : (q : ℕ) → q < length divided.before → (get_or (map part_seen parts) q (record { above = None; leads = 0; entries = 0; least = 0 })).entries ≡ (nth_part divided.before q).entries
  entries_is q lt = ap (λ (x : defined.Part). x.entries) (shown_at parts q) ∙ (divided.lowered.same q lt).2

  least_is : (q : ℕ) → (get_or (map part_seen parts) q (record { above = None; leads = 0; entries = 0; least = 0 })).least ≡ (nth_part parts q).least
  least_is q = ap (λ (x : defined.Part). x.least) (shown_at parts q)

  -- what is live where a part hangs
  inherited_is : (above : Option ℕ) → ((p : ℕ) → above ≡ Some p → p < length t.own) → option_map_or (λ p. get_or t.live p 0) above 0 ≡ option_map_or live above 0
  inherited_is None placed = refl
  inherited_is (Some p) placed = sym (live_is p (placed p refl))

  labelled : (v : ℕ) → v < length labels → (get_or labels v 0 < length (map part_seen parts)) ⊎ (get_or labels v 0 ≡ in_no_part)
  labelled v lt = elim (far.served v (omega (arith, labels_len))) [ inl there ↦ inl (omega (arith, there.0, parts_len)) | inr out ↦ inr out.0 ]

  pub divided_split : IsSplit others own live (record { labels = labels; parts = map part_seen parts })
  divided_split = record {
    labelled = labelled;
    root = λ v lt is_part none.
        let parent : parent_of t.parents v ≡ None = sym (same v (omega (arith, labels_len))) ∙ none in
        let zero' : v ≡ 0 = root_is_zero t.parents lawful.tree v (omega (arith, labels_len, lawful.fits)) parent in
        let old : get_or labels v 0 < length divided.before = omega (arith, parts_len) in
        above_is (get_or labels v 0) old ∙ subst (λ (w : ℕ). get_or labels w 0 < length divided.before → (nth_part divided.before (get_or labels w 0)).above ≡ None) (sym zero') far.root old;
    hangs = λ v p lt is_part some.
        let parent : parent_of t.parents v ≡ Some p = sym (same v (omega (arith, labels_len))) ∙ some in
        let older : p < v = parent_older t.parents lawful.tree v p parent in
        let up' = (up_is t.parents lawful.tree v (omega arith) (omega (arith, labels_len, lawful.fits))).0 in
        let is : up t.parents v ≡ p = cc in
        let old : get_or labels v 0 < length divided.before = omega (arith, parts_len) in
        elim (subst (λ (u : ℕ). (get_or labels u 0 ≡ get_or labels v 0) ⊎ ((nth_part divided.before (get_or labels v 0)).above ≡ Some u)) is (far.hangs v (omega arith) (omega (arith, labels_len)) old)) [
          | inl joined ↦ inl joined
          | inr hung ↦ inr (above_is (get_or labels v 0) old ∙ hung)
        ];
    topmost = λ q lt none. let old : q < length divided.before = omega (arith, parts_len) in far.topmost q old (sym (above_is q old) ∙ none);
    placed = λ q p lt some.
        let old : q < length divided.before = omega (arith, parts_len) in
        let within : p < length t.own = (far.fit q old).placed p (sym (above_is q old) ∙ some) in
        omega (arith, labels_len);
    served = λ v lt positive. elim (far.served v (omega (arith, labels_len))) [
      | inl there ↦ omega (arith, there.0, parts_len)
      | inr out ↦ let none = out.1 in let is = live_is v (omega (arith, labels_len)) in absurd (omega arith)
    ];
    leads = λ q lt.
        let old : q < length divided.before = omega (arith, parts_len) in
        let sum : part_sum q labels t.own (length t.own) + part_sum q divided.joins (sums_from t (length t.own)) (length t.own) ≡ (nth_part divided.before q).leads = far.leads q old in
        let none : part_sum q divided.joins (sums_from t (length t.own)) (length t.own) ≡ 0 = ap (λ (ns : List ℕ). part_sum q divided.joins ns (length t.own)) (sums_end t (length t.own) (omega arith)) ∙ part_sum_zeros q (length t.own) divided.joins (length t.own) in
        let all : sum_by own (members (record { labels = labels; parts = map part_seen parts }) q) ≡ part_sum q labels t.own (length labels) = sum_members own q labels t.own (length labels) (λ v under. own_is v (omega (arith, labels_len))) in
        let len : part_sum q labels t.own (length labels) ≡ part_sum q labels t.own (length t.own) = ap (part_sum q labels t.own) labels_len in
        let is = leads_is q old in
        omega arith;
    entries = λ q lt.
        let old : q < length divided.before = omega (arith, parts_len) in
        entries_is q old ∙ (far.fit q old).entries ∙ (λ i. sym (leads_is q old) i + inherited_is (nth_part divided.before q).above (far.fit q old).placed i) ∙ ap (λ (o : Option ℕ). (part_at (record { labels = labels; parts = map part_seen parts }) q).leads + option_map_or live o 0) (sym (above_is q old));
    dense = λ v lt is_part.
        let old : get_or labels v 0 < length divided.before = omega (arith, parts_len) in
        let entries' = entries_is (get_or labels v 0) old in
        let is = live_is v (omega (arith, labels_len)) in
        elim (far.served v (omega (arith, labels_len))) [
          | inl there ↦ let le = there.1 in omega arith
          | inr out ↦ let far_off : get_or labels v 0 ≡ in_no_part = out.0 in let few' = far.few in let few'' = lawful.few in absurd (omega arith)
        ];
    attained = λ q lt.
        let old : q < length divided.before = omega (arith, parts_len) in
        elim (divided.lowered.attained q old) [
          | inl kept ↦ let found = far.met q old in (found.0, omega (arith, found.1, labels_len), found.2, live_is found.0 found.1 ∙ found.3 ∙ sym kept ∙ sym (least_is q))
          | inr found ↦ (found.0, omega (arith, found.1, labels_len), found.2, live_is found.0 found.1 ∙ found.3 ∙ sym (least_is q))
        ];
    low = λ v lt is_part.
        let old : get_or labels v 0 < length divided.before = omega (arith, parts_len) in
        let le = divided.lowered.low v (omega (arith, labels_len)) old in
        let is = live_is v (omega (arith, labels_len)) in
        let shown' = least_is (get_or labels v 0) in
        omega arith;
    some = λ q lt. let old : q < length divided.before = omega (arith, parts_len) in let is = entries_is q old in let some' = (far.fit q old).some in omega arith;
    led = λ q lt. let old : q < length divided.before = omega (arith, parts_len) in let is = entries_is q old in let is' = leads_is q old in let led' = (far.fit q old).led in omega arith;
    numbered = λ q r v less lt under is. far.numbered q r v less (omega (arith, parts_len)) (omega (arith, labels_len)) is;
  }

-- counts are numbers that a split can go by
module _ (t : Told) (sized : IsSized t) (others : Parents) (groups : List (List ℕ)) (counts : Tallies) (own_same : t.own ≡ counts.own) (live_same' : t.live ≡ counts.live)
    (same : SameParents (length t.own) others t.parents) (is : IsCount others groups counts) where
  pub own_counted : (v : ℕ) → v < length t.own → own_at groups v ≡ get_or t.own v 0
  own_counted v lt = sym (is.own v (subst (λ (ns : List ℕ). v < length ns) own_same lt)) ∙ ap (λ (ns : List ℕ). get_or ns v 0) (sym own_same)

  pub live_counted : (v : ℕ) → v < length t.own → keys_at others groups v ≡ get_or t.live v 0
  live_counted v lt = sym (is.live v (subst (λ (ns : List ℕ). v < length ns) own_same lt)) ∙ ap (λ (ns : List ℕ). get_or ns v 0) (sym live_same')

  live_at : (v : ℕ) → v < length t.own → get_or t.live v 0 ≡ keys_at t.parents groups v
  live_at v lt = sym (live_counted v lt) ∙ live_same t.parents sized.tree (length t.own) others same groups v lt

  pub counted_lawful : AreCounted t
  counted_lawful = record {
    tree = sized.tree;
    some = sized.some;
    live_len = sized.live_len;
    fits = sized.fits;
    few = sized.few;
    grows = λ v p lt some.
        let older : p < v = parent_older t.parents sized.tree v p some in
        let a = live_at v lt in
        let b = live_at p (omega arith) in
        let le = live_grows t.parents sized.tree groups v p some in
        omega arith;
    grows_by_own = λ v p lt some.
        let older : p < v = parent_older t.parents sized.tree v p some in
        let a = live_at v lt in
        let b = live_at p (omega arith) in
        let own' = own_counted v lt in
        let le = live_grows_by_own t.parents sized.tree groups v p some in
        omega arith;
    first = elim (option_cases (parent_of t.parents 0)) [
      | inl none ↦
          let a = live_at 0 sized.some in
          let own' = own_counted 0 sized.some in
          let le = root_live t.parents sized.tree groups 0 none in
          omega arith
      | inr some ↦ let older : some.0 < 0 = parent_older t.parents sized.tree 0 some.0 some.1 in absurd (omega arith)
    ];
    held = λ v lt.
        let a = live_at v lt in
        let own' = own_counted v lt in
        let le = own_live t.parents sized.tree groups v is.descending in
        omega arith;
    small = sized.small;
  }
