-- The level of a plan is stratified, its descriptors are true, and its arrays ascend.
use Rattle.std.proofs.Common.{◌≡◌, ◌<◌, ◌≤◌, ◌*◌, ℕ, Bool, true, eqb, ltb, leb, ◌&&◌, ◌||◌, inl, inr, List, length, filter, Option, Some, None, refl, sym, ap, ◌∙◌, subst, arith, true≢false}
use Rattle.std.specs.List.{list_all, flat_map, range_with_len}
use Rattle.std.proofs.lemmas.Bool.{eqb-true, eq-eqb, lt-ltb, le-leb, cases_lt, and_parts, and_from, or_left, or_right}
use Rattle.std.proofs.lemmas.Option.{none-some}
use Rattle.std.proofs.lemmas.List.Folds.{flat_map-map}
use Rattle.strat_base.specs.Tree.{Parents, IsTree}
use Rattle.strat_base.specs.Entries.{Entry, is_tagged, holds_entry, is_ascending, are_same}
use Rattle.def_state.specs.Live.{is_live, live}
use Rattle.def_state.specs.Level.{TaggedArray, Level, own_leads, least, least_live, level_leads, tagged_versions, is_distinct, agrees, is_dense, is_led, is_drawn, has_disjoint_tags, has_live_tagged, IsStratified}
use Rattle.strat_base.proofs.ListFacts.{Among, all_from, among_flat, among_in_flat, among_filter, filter_among, among_range, range_among, map_same}
use Rattle.strat_base.proofs.EntryLemmas.{among_held}
use Rattle.strat_base.proofs.TreeLemmas.{parent_older, along_path, on_root, on_path, path_le}
use Rattle.def_state.proofs.LiveLemmas.{live_on_path}
use Rattle.def_state.proofs.LevelLemmas.{tagged_among, among_tagged, ordered_single}
use Rattle.def_split.specs.Plan.{Plan, horizon_of, part_of, part_at, members}
use Rattle.def_split.specs.Planned.{part_leads, is_inherited, is_taken, inherited, array_of_part, planned_level, IsPlan}
use Rattle.def_split.proofs.ListLemmas.{bool_same, filter_both, filter_none, count_either, some_length, empty_length, among_map, map_among, all_mapped, filter_ascending, distinct_range, distinct_labelled}
use Rattle.def_split.proofs.LiveSetLemmas.{live_self, live_up, live_alike, live_kept}

-- the versions of a part
module _ (plan : Plan) (q : ℕ) where
  pub member_of : (v : ℕ) → v < horizon_of plan → part_of plan v ≡ q → Among v (members plan q)
  member_of v lt same = among_filter (λ u. eqb (part_of plan u) q) (range_with_len 0 (horizon_of plan)) v (among_range 0 (horizon_of plan) v (omega arith) (omega (arith, lt))) (eq-eqb (part_of plan v) q same)

  pub of_member : (v : ℕ) → Among v (members plan q) → (v < horizon_of plan) × (part_of plan v ≡ q)
  of_member v among =
      let kept = filter_among (λ u. eqb (part_of plan u) q) (range_with_len 0 (horizon_of plan)) v among in
      let lt = range_among 0 (horizon_of plan) v kept.0 in
      (omega (arith, lt.1), eqb-true (part_of plan v) q kept.1)

-- as many entries are inherited as are live where a part hangs
counted : (parents : Parents) (entries : List Entry) (above : Option ℕ) → length (filter (is_inherited parents entries above) entries) ≡ inherited parents entries above
counted parents entries None = ap (λ (es : List Entry). length es) (filter_none (is_inherited parents entries None) entries (λ e among. refl))
counted parents entries (Some p) = refl

module _ (parents : Parents) (tree : IsTree parents) (entries : List Entry) (plan : Plan)
    (low : (e : Entry) → Among e entries → e.version < horizon_of plan) (split : IsPlan parents entries plan) where
  -- the version of an entry is in a part
  pub lead_served : (e : Entry) → Among e entries → part_of plan e.version < length plan.parts
  lead_served e among =
      split.served e.version (low e among)
      (some_length (live parents entries e.version) e (among_filter (is_live parents entries e.version) entries e among (live_self parents tree entries e)))

  -- what is live at a version of a part is taken by the part
  pub live_taken : (v : ℕ) → v < horizon_of plan → part_of plan v < length plan.parts → (e : Entry) → Among e entries → is_live parents entries v e ≡ true → is_taken parents plan entries (part_of plan v) e ≡ true
  live_taken v known inside e among lives =
      along_path parents tree (λ v. v < horizon_of plan → part_of plan v < length plan.parts → is_live parents entries v e ≡ true → is_taken parents plan entries (part_of plan v) e ≡ true)
      (λ v none known inside lives.
      let here : e.version ≡ v = on_root parents tree e.version v none (live_on_path parents tree entries v e lives) in
      own v here)
      (λ v p some ih known inside lives.
      let older : p < v = parent_older parents tree v p some in
      elim (on_path parents tree e.version v p some (live_on_path parents tree entries v e lives)) [
        | inl here ↦ own v here
        | inr there ↦
            let deeper = live_up parents tree entries v p e some lives there in
            elim (split.hangs v p known inside some) [
              | inl same ↦
                  subst (λ (q : ℕ). is_taken parents plan entries q e ≡ true) same
                  (ih (omega (arith, older, known)) (omega (arith, same, inside)) deeper)
              | inr above ↦
                  or_right (eqb (part_of plan e.version) (part_of plan v)) (is_inherited parents entries (part_at plan (part_of plan v)).above e)
                  (ap (λ (o : Option ℕ). is_inherited parents entries o e) above ∙ deeper)
            ]
      ]) v known inside lives
    where
      own : (v : ℕ) → e.version ≡ v → is_taken parents plan entries (part_of plan v) e ≡ true
      own v here = or_left (eqb (part_of plan e.version) (part_of plan v)) (is_inherited parents entries (part_at plan (part_of plan v)).above e)
          (eq-eqb (part_of plan e.version) (part_of plan v) (ap (λ (u : ℕ). part_of plan u) here))

  -- a part hangs below its versions
  pub part_below : (v p : ℕ) → v < horizon_of plan → part_of plan v < length plan.parts → (part_at plan (part_of plan v)).above ≡ Some p → v ≤ p → ⊥
  part_below v p known inside above le =
      along_path parents tree (λ v. v < horizon_of plan → part_of plan v < length plan.parts → (part_at plan (part_of plan v)).above ≡ Some p → v ≤ p → ⊥)
      (λ v none known inside above le. none-some p (sym (split.root v known inside none) ∙ above))
      (λ v u some ih known inside above le.
      let older : u < v = parent_older parents tree v u some in
      elim (split.hangs v u known inside some) [
        | inl same ↦
            ih (omega (arith, older, known)) (omega (arith, same, inside)) (subst (λ (q : ℕ). (part_at plan q).above ≡ Some p) (sym same) above) (omega (arith, older, le))
        | inr hung ↦ let both : Some u ≡ Some p = sym hung ∙ above in let equal : u ≡ p = cc in absurd (omega (arith, equal, older, le))
      ]) v known inside above le

  -- no lead of a part is inherited by it
  pub lead_not_inherited : (q : ℕ) (e : Entry) → Among e entries → eqb (part_of plan e.version) q ≡ true → is_inherited parents entries (part_at plan q).above e ≡ true → ⊥
  lead_not_inherited q e among own taken = go (part_at plan q).above refl taken
    where
      go : (above : Option ℕ) → (part_at plan q).above ≡ above → is_inherited parents entries above e ≡ true → ⊥
      go None is lives = absurd (true≢false (sym lives))
      go (Some p) is lives =
          let same : part_of plan e.version ≡ q = eqb-true (part_of plan e.version) q own in
          part_below e.version p (low e among) (lead_served e among)
          (ap (λ (r : ℕ). (part_at plan r).above) same ∙ is)
          (path_le parents tree e.version p (live_on_path parents tree entries p e lives))

  module _ (number first : ℕ) (up : is_ascending entries ≡ true) where
    abbrev level : Level
    level = planned_level parents entries plan number first

    abbrev made : ℕ → TaggedArray
    made q = array_of_part parents entries plan first q

    abbrev numbers : List ℕ
    numbers = range_with_len 0 (length plan.parts)

    number_low : (q : ℕ) → Among q numbers → q < length plan.parts
    number_low q among = let lt = range_among 0 (length plan.parts) q among in omega (arith, lt.1)

    all_made : (p : TaggedArray → Bool) → ((q : ℕ) → q < length plan.parts → p (made q) ≡ true) → list_all p level.arrays ≡ true
    all_made p each = all_mapped p made numbers (λ q among. each q (number_low q among))

    among_made : (a : TaggedArray) → Among a level.arrays → (q : ℕ) × (q < length plan.parts) × (a ≡ made q)
    among_made a among = let found = map_among made numbers a among in (found.0, number_low found.0 found.1, found.2)

    pub made_among : (q : ℕ) → q < length plan.parts → Among (made q) level.arrays
    made_among q lt = among_map made numbers q (among_range 0 (length plan.parts) q (omega arith) (omega (arith, lt)))

    -- at the versions of its tag an array has the entries live that all the entries have
    array_live : (q v : ℕ) → q < length plan.parts → Among v (members plan q) → live parents (made q).content v ≡ live parents entries v
    array_live q v lt among =
        let member = of_member plan q v among in
        live_kept parents tree (is_taken parents plan entries q) entries v (λ e there lives.
        subst (λ (r : ℕ). is_taken parents plan entries r e ≡ true) member.1 (live_taken v member.0 (omega (arith, member.1, lt)) e there lives))

    array_leads : (q : ℕ) → q < length plan.parts → own_leads (made q) ≡ part_leads plan entries q
    array_leads q lt =
        filter_both (is_taken parents plan entries q) (λ e. is_tagged (members plan q) e.version) (λ e. eqb (part_of plan e.version) q) entries (λ e among.
        bool_same (is_taken parents plan entries q e && is_tagged (members plan q) e.version) (eqb (part_of plan e.version) q)
        (λ both.
        let tagged = (and_parts (is_taken parents plan entries q e) (is_tagged (members plan q) e.version) both).1 in
        let member = of_member plan q e.version (tagged_among (members plan q) e.version tagged) in
        eq-eqb (part_of plan e.version) q member.1)
        (λ own.
        and_from (is_taken parents plan entries q e) (is_tagged (members plan q) e.version)
        (or_left (eqb (part_of plan e.version) q) (is_inherited parents entries (part_at plan q).above e) own)
        (among_tagged (members plan q) e.version (member_of plan q e.version (low e among) (eqb-true (part_of plan e.version) q own)))))

    array_entries : (q : ℕ) → q < length plan.parts → (part_at plan q).entries ≡ length (made q).content
    array_entries q lt =
        let sum = count_either (λ e. eqb (part_of plan e.version) q) (is_inherited parents entries (part_at plan q).above) entries (λ e among own taken. lead_not_inherited q e among own taken) in
        let more = counted parents entries (part_at plan q).above in
        let leads = split.leads q lt in
        let all = split.entries_are q lt in
        omega (arith, sum, more, leads, all)

    array_lead_count : (q : ℕ) → q < length plan.parts → (part_at plan q).leads ≡ length (own_leads (made q))
    array_lead_count q lt = split.leads q lt ∙ sym (ap (λ (es : List Entry). length es) (array_leads q lt))

    pub lead_entry : (e : Entry) → Among e (level_leads level) → Among e entries
    lead_entry e among =
        let found = among_flat own_leads level.arrays e among in
        let at = among_made found.0 found.1 in
        let there : Among e (own_leads (made at.0)) = subst (λ (a : TaggedArray). Among e (own_leads a)) at.2 found.2 in
        let inside = filter_among (λ d. is_tagged (members plan at.0) d.version) (made at.0).content e there in
        (filter_among (is_taken parents plan entries at.0) entries e inside.0).0

    pub entry_lead : (e : Entry) → Among e entries → Among e (level_leads level)
    entry_lead e among =
        let q : ℕ = part_of plan e.version in
        let lt : q < length plan.parts = lead_served e among in
        among_in_flat own_leads level.arrays (made q) e (made_among q lt)
        (subst (λ (es : List Entry). Among e es) (sym (array_leads q lt))
        (among_filter (λ d. eqb (part_of plan d.version) q) entries e among (eq-eqb (part_of plan e.version) q refl)))

    level_live : (v : ℕ) (e : Entry) → is_live parents entries v e ≡ is_live parents (level_leads level) v e
    level_live v e = live_alike parents tree entries (level_leads level) v e lead_entry entry_lead

    live_lead : (v : ℕ) (e : Entry) → Among e (live parents entries v) → Among e (live parents (level_leads level) v)
    live_lead v e among =
        let kept = filter_among (is_live parents entries v) entries e among in
        among_filter (is_live parents (level_leads level) v) (level_leads level) e (entry_lead e kept.0) (sym (level_live v e) ∙ kept.1)

    lead_live : (v : ℕ) (e : Entry) → Among e (live parents (level_leads level) v) → Among e (live parents entries v)
    lead_live v e among =
        let kept = filter_among (is_live parents (level_leads level) v) (level_leads level) e among in
        among_filter (is_live parents entries v) entries e (lead_entry e kept.0) (level_live v e ∙ kept.1)

    tags_are : tagged_versions level ≡ flat_map (λ q. members plan q) numbers
    tags_are = flat_map-map (λ (a : TaggedArray). a.tag) made numbers

    -- a
    rule_a : has_disjoint_tags level ≡ true
    rule_a =
        and_from (is_distinct (tagged_versions level)) (list_all (λ v. ltb v level.horizon) (tagged_versions level))
        (ap is_distinct tags_are ∙ distinct_labelled (λ v. part_of plan v) (range_with_len 0 (horizon_of plan)) numbers (distinct_range 0 (horizon_of plan)) (distinct_range 0 (length plan.parts)))
        (all_from (λ v. ltb v level.horizon) (tagged_versions level) (λ v among.
        let found = among_flat (λ a. a.tag) level.arrays v among in
        let at = among_made found.0 found.1 in
        let there : Among v (members plan at.0) = subst (λ (a : TaggedArray). Among v a.tag) at.2 found.2 in
        lt-ltb v level.horizon (of_member plan at.0 v there).0))

    -- b
    rule_b : has_live_tagged parents level ≡ true
    rule_b =
        all_from (λ v. is_tagged (tagged_versions level) v || eqb (length (live parents (level_leads level) v)) 0) (range_with_len 0 level.horizon) (λ v among.
        let lt = range_among 0 level.horizon v among in
        let known : v < horizon_of plan = omega (arith, lt.1) in
        elim (cases_lt (part_of plan v) (length plan.parts)) [
          | inl inside ↦
              or_left (is_tagged (tagged_versions level) v) (eqb (length (live parents (level_leads level) v)) 0)
              (among_tagged (tagged_versions level) v (among_in_flat (λ a. a.tag) level.arrays (made (part_of plan v)) v (made_among (part_of plan v) inside) (member_of plan (part_of plan v) v known refl)))
          | inr outside ↦
              or_right (is_tagged (tagged_versions level) v) (eqb (length (live parents (level_leads level) v)) 0)
              (eq-eqb (length (live parents (level_leads level) v)) 0 (empty_length (live parents (level_leads level) v) (λ e there.
              let inside = split.served v known (some_length (live parents entries v) e (lead_live v e there)) in
              omega (arith, inside, outside))))
        ])

    -- c
    rule_c : list_all (agrees parents level) level.arrays ≡ true
    rule_c =
        all_made (agrees parents level) (λ q lt.
        all_from (λ v. are_same (live parents (made q).content v) (live parents (level_leads level) v)) (members plan q) (λ v among.
        ap (λ (es : List Entry). are_same es (live parents (level_leads level) v)) (array_live q v lt among)
        ∙ and_from (list_all (holds_entry (live parents (level_leads level) v)) (live parents entries v)) (list_all (holds_entry (live parents entries v)) (live parents (level_leads level) v))
        (all_from (holds_entry (live parents (level_leads level) v)) (live parents entries v) (λ e there. among_held (live parents (level_leads level) v) e (live_lead v e there)))
        (all_from (holds_entry (live parents entries v)) (live parents (level_leads level) v) (λ e there. among_held (live parents entries v) e (lead_live v e there)))))

    -- d
    rule_d : list_all (is_dense parents) level.arrays ≡ true
    rule_d =
        all_made (is_dense parents) (λ q lt.
        all_from (λ v. leb (length (made q).content) (3 * length (live parents (made q).content v))) (members plan q) (λ v among.
        let member = of_member plan q v among in
        let same : part_of plan v ≡ q = member.1 in
        let dense = split.dense v member.0 (omega (arith, same, lt)) in
        let here : (part_at plan q).entries ≤ 3 * length (live parents entries v) = subst (λ (r : ℕ). (part_at plan r).entries ≤ 3 * length (live parents entries v)) same dense in
        let size = array_entries q lt in
        let lives = ap (λ (es : List Entry). length es) (array_live q v lt among) in
        le-leb (length (made q).content) (3 * length (live parents (made q).content v)) (omega (arith, here, size, lives))))

    -- e
    rule_e : list_all is_led level.arrays ≡ true
    rule_e =
        all_made is_led (λ q lt.
        let size = array_entries q lt in
        let leads = array_lead_count q lt in
        let led = split.led q lt in
        le-leb (length (made q).content) (2 * length (own_leads (made q))) (omega (arith, size, leads, led)))

    -- f
    rule_f : list_all (is_drawn level) level.arrays ≡ true
    rule_f =
        all_made (is_drawn level) (λ q lt.
        all_from (holds_entry (level_leads level)) (made q).content (λ e among. among_held (level_leads level) e (entry_lead e (filter_among (is_taken parents plan entries q) entries e among).0)))

    -- m
    pub rule_m : list_all (λ a. is_ascending a.content) level.arrays ≡ true
    rule_m = all_made (λ a. is_ascending a.content) (λ q lt. filter_ascending (is_taken parents plan entries q) entries up)

    -- k
    pub rule_k : list_all (λ a. (eqb a.entries (length a.content) && eqb a.leads (length (own_leads a))) && eqb a.least (least_live parents a)) level.arrays ≡ true
    rule_k =
        all_made (λ a. (eqb a.entries (length a.content) && eqb a.leads (length (own_leads a))) && eqb a.least (least_live parents a)) (λ q lt.
        and_from (eqb (made q).entries (length (made q).content) && eqb (made q).leads (length (own_leads (made q)))) (eqb (made q).least (least_live parents (made q)))
        (and_from (eqb (made q).entries (length (made q).content)) (eqb (made q).leads (length (own_leads (made q))))
        (eq-eqb (made q).entries (length (made q).content) (array_entries q lt))
        (eq-eqb (made q).leads (length (own_leads (made q))) (array_lead_count q lt)))
        (eq-eqb (made q).least (least_live parents (made q))
        (split.least_is q lt
        ∙ sym (ap least (map_same (λ v. length (live parents (made q).content v)) (λ v. length (live parents entries v)) (members plan q) (λ v among. ap (λ (es : List Entry). length es) (array_live q v lt among)))))))

    pub plan_stratified : IsStratified parents level
    plan_stratified = record {
      disjoint = rule_a;
      tagged = rule_b;
      agreeing = rule_c;
      dense = rule_d;
      led = rule_e;
      drawn = rule_f;
      single = ordered_single level rule_m rule_a;
    }
