-- A split of numbers is a plan for the entries that the numbers count.
use Rattle.std.proofs.Common.{◌≡◌, ◌<◌, ◌≤◌, ◌+◌, ℕ, map, inl, inr, List, [], ◌∷◌, length, Option, Some, None, refl, sym, ap, ◌∙◌, subst, arith, min, ltb}
use Rattle.std.specs.Option.{option_map_or}
use Rattle.std.proofs.lemmas.Bool.{cases_lt, ltb-true}
use Rattle.strat_base.specs.Tree.{Parents, IsTree}
use Rattle.strat_base.specs.Entries.{Entry}
use Rattle.def_state.specs.Live.{live}
use Rattle.def_state.specs.Level.{least}
use Rattle.strat_base.proofs.ListFacts.{Among, all_at}
use Rattle.def_split.specs.Plan.{Plan, horizon_of, part_of, part_at, members, IsSplit}
use Rattle.def_split.specs.Planned.{inherited, IsPlan}
use Rattle.def_split.specs.Groups.{grouped_entries, own_of, SplitsGroups}
use Rattle.def_split.proofs.ListLemmas.{map_among, among_map}
use Rattle.def_split.proofs.PlannedLemmas.{member_of, of_member}
use Rattle.def_split.proofs.CountedLemmas.{sum_same, part_sum, own_groups, live_count}

-- the least of some numbers is among them, and none is less
least_among : (n : ℕ) (ns : List ℕ) → Among (least (n ∷ ns)) (n ∷ ns)
least_among n [] = inl refl
least_among n (m ∷ ns) =
    elim (cases_lt n (least (m ∷ ns))) [
      | inl less ↦ inl (omega (arith, less))
      | inr most ↦
          let same : min n (least (m ∷ ns)) ≡ least (m ∷ ns) = omega (arith, most) in
          inr (subst (λ (k : ℕ). Among k (m ∷ ns)) (sym same) (least_among m ns))
    ]

least_low : (n : ℕ) (ns : List ℕ) (m : ℕ) → Among m (n ∷ ns) → least (n ∷ ns) ≤ m
least_low n [] m (inl here) = omega arith
least_low n [] m (inr there) = absurd there
least_low n (k ∷ ns) m (inl here) = omega (arith, here)
least_low n (k ∷ ns) m (inr there) = let low = least_low k ns m there in omega (arith, low)

least_unique : (ns : List ℕ) (m : ℕ) → Among m ns → ((k : ℕ) → Among k ns → m ≤ k) → m ≡ least ns
least_unique [] m among low = absurd among
least_unique (n ∷ ns) m among low = let below = low (least (n ∷ ns)) (least_among n ns) in let above = least_low n ns m among in omega (arith, below, above)

module _ (parents : Parents) (entries : List Entry) (own seen : ℕ → ℕ) (plan : Plan)
    (low : (e : Entry) → Among e entries → e.version < horizon_of plan)
    (own_is : (v : ℕ) → v < horizon_of plan → own v ≡ own_of entries v)
    (seen_is : (v : ℕ) → v < horizon_of plan → seen v ≡ length (live parents entries v))
    (split : IsSplit parents own seen plan) where
  inherited_is : (above : Option ℕ) → ((p : ℕ) → above ≡ Some p → p < horizon_of plan) → option_map_or seen above 0 ≡ inherited parents entries above
  inherited_is None placed = refl
  inherited_is (Some p) placed = seen_is p (placed p refl)

  pub plan_of_split : IsPlan parents entries plan
  plan_of_split = record {
    root = split.root;
    hangs = split.hangs;
    served = λ v lt some. let same = seen_is v lt in split.served v lt (omega (arith, some, same));
    leads = λ q lt.
        split.leads q lt
        ∙ sum_same own (λ v. own_of entries v) (members plan q) (λ v among. own_is v (of_member plan q v among).0)
        ∙ part_sum entries plan low q;
    entries_are = λ q lt.
        split.entries q lt ∙ ap (λ (n : ℕ). (part_at plan q).leads + n) (inherited_is (part_at plan q).above (λ p hung. split.placed q p lt hung));
    dense = λ v lt inside. let same = seen_is v lt in let dense = split.dense v lt inside in omega (arith, same, dense);
    least_is = λ q lt.
        let found = split.attained q lt in
        least_unique (map (λ v. length (live parents entries v)) (members plan q)) (part_at plan q).least
        (subst (λ (n : ℕ). Among n (map (λ v. length (live parents entries v)) (members plan q))) (sym (seen_is found.0 found.1) ∙ found.3)
        (among_map (λ v. length (live parents entries v)) (members plan q) found.0 (member_of plan q found.0 found.1 found.2)))
        (λ k among.
        let at = map_among (λ v. length (live parents entries v)) (members plan q) k among in
        let member = of_member plan q at.0 at.1 in
        let same : part_of plan at.0 ≡ q = member.1 in
        let bound = split.low at.0 member.0 (omega (arith, same, lt)) in
        let here : (part_at plan q).least ≤ seen at.0 = subst (λ (r : ℕ). (part_at plan r).least ≤ seen at.0) same bound in
        let number = seen_is at.0 member.0 in
        let is = at.2 in
        omega (arith, here, number, is));
    led = split.led;
  }

-- groups that are split by their numbers are planned
pub plan_of_groups : (parents : Parents) → IsTree parents → (groups : List (List Entry)) (own seen : ℕ → ℕ) (plan : Plan) → SplitsGroups parents groups own seen plan
    → ((e : Entry) → Among e (grouped_entries groups) → e.version < horizon_of plan) × IsPlan parents (grouped_entries groups) plan
plan_of_groups parents tree groups own seen plan splits = (
  low,
  plan_of_split parents (grouped_entries groups) own seen plan low
      (λ v lt. splits.own_is v lt ∙ sym (own_groups groups v))
      (λ v lt. splits.live_is v lt ∙ sym (live_count parents tree groups splits.grouped v))
      splits.split,
)
  where
    low : (e : Entry) → Among e (grouped_entries groups) → e.version < horizon_of plan
    low e among = ltb-true e.version (horizon_of plan) (all_at (λ d. ltb d.version (horizon_of plan)) e (grouped_entries groups) splits.low among)
