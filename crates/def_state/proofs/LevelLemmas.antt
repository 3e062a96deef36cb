-- A stratified level is read through one of its arrays.
use Rattle.std.proofs.Common.{◌≡◌, ◌<◌, ℕ, Bool, ◌++◌, flat_map, filter, true, eqb, ltb, ◌||◌, not, inl, inr, List, [], ◌∷◌, length, Some, refl, sym, ap, ◌∙◌, subst, arith, true≢false}
use Rattle.std.specs.List.{list_any, list_all, range_with_len}
use Rattle.std.specs.Option.{option_and_then}
use Rattle.std.specs.Ordering.{is_lt, nat_cmp, ordering_then}
use Rattle.std.specs.declared.cmp.Ordering.{Ordering}
use Rattle.std.specs.declared.cmp.Ordering.TheVariants.{Equal}
use Rattle.std.proofs.lemmas.Option.{none-some}
use Rattle.std.proofs.lemmas.Bool.{not-true, eqb-true, eq-eqb, ltb-true, and_parts, and_from, or_cases, not_from_false, false_from_ne_true}
use Rattle.std.proofs.lemmas.Cmp.{tied_itself, nat_list_cmp_total, nat_cmp_total}
use Rattle.strat_base.specs.Order.{entry_cmp}
use Rattle.strat_base.specs.Tree.{Parents, below, IsTree}
use Rattle.strat_base.specs.Entries.{Entry, is_at, is_single, is_ascending, is_tagged, holds_entry, are_same}
use Rattle.def_state.specs.Live.{is_live, live, deciding}
use Rattle.def_state.specs.Reading.{live_of, array_for, found_in}
use Rattle.def_state.specs.Level.{TaggedArray, Level, own_leads, level_leads, tagged_versions, is_distinct, IsStratified, agrees, is_drawn, has_disjoint_tags, has_single_leads}
use Rattle.strat_base.proofs.ListFacts.{Among, any_among, any_from, all_at, find_some, find_none, among_flat, among_in_flat, among_filter, filter_among, among_range, among_split, among_right}
use Rattle.strat_base.proofs.EntryLemmas.{is_at_key, is_at_version, held_among}
use Rattle.strat_base.proofs.ResultFacts.{option_cases}
use Rattle.strat_base.proofs.TreeLemmas.{below_found}
use Rattle.def_state.proofs.LiveLemmas.{deciding_some, deciding_found, decides_live, live_one, deciding_live, single_filter}
use Rattle.def_state.proofs.ReadingLemmas.{deciding_below}

pub tagged_among : (tag : List ℕ) (v : ℕ) → is_tagged tag v ≡ true → Among v tag
tagged_among tag v e = let found = any_among (λ w. eqb w v) tag e in subst (λ (x : ℕ). Among x tag) (eqb-true found.0 v found.2) found.1

pub among_tagged : (tag : List ℕ) (v : ℕ) → Among v tag → is_tagged tag v ≡ true
among_tagged tag v among = any_from (λ w. eqb w v) v tag among (eq-eqb v v refl)

not_empty : (entries : List Entry) (e : Entry) → Among e entries → length entries ≡ 0 → ⊥
not_empty [] e among none = among
not_empty (d ∷ entries) e among none = omega arith

-- entries that ascend strictly are one per key and version
pub ascending_single : (entries : List Entry) → is_ascending entries ≡ true → is_single entries ≡ true
ascending_single [] up = refl
ascending_single (e ∷ entries) up =
    let parts = and_parts (list_all (λ later. is_lt (entry_cmp e.key e.version later.key later.version)) entries) (is_ascending entries) up in
    and_from (not (list_any (is_at e.key e.version) entries)) (is_single entries)
    (not_from_false (list_any (is_at e.key e.version) entries) (false_from_ne_true (list_any (is_at e.key e.version) entries) (λ any.
    let found = any_among (is_at e.key e.version) entries any in
    let d = found.0 in
    let less = all_at (λ later. is_lt (entry_cmp e.key e.version later.key later.version)) d entries parts.0 found.1 in
    let k : d.key ≡ e.key = is_at_key e.key e.version d found.2 in
    let v : d.version ≡ e.version = is_at_version e.key e.version d found.2 in
    let tie : entry_cmp e.key e.version d.key d.version ≡ Equal =
    ap (λ (x : List ℕ). entry_cmp e.key e.version x d.version) k ∙ ap (λ (x : ℕ). entry_cmp e.key e.version e.key x) v
    ∙ ap (λ (o : Ordering). ordering_then o (nat_cmp e.version e.version)) (tied_itself nat_list_cmp_total e.key)
    ∙ tied_itself nat_cmp_total e.version in
    true≢false (sym less ∙ ap is_lt tie))))
    (ascending_single entries parts.1)

module _ (parents : Parents) (tree : IsTree parents) (level : Level) (strat : IsStratified parents level) where
  pub lead_tagged : (e : Entry) → Among e (level_leads level) → Among e.version (tagged_versions level)
  lead_tagged e among =
      let found = among_flat own_leads level.arrays e among in
      let kept = filter_among (λ d. is_tagged found.0.tag d.version) found.0.content e found.2 in
      among_in_flat (λ a. a.tag) level.arrays found.0 e.version found.1 (tagged_among found.0.tag e.version kept.1)

  pub tagged_below : (v : ℕ) → Among v (tagged_versions level) → v < level.horizon
  tagged_below v among =
      let parts = and_parts (is_distinct (tagged_versions level)) (list_all (λ w. ltb w level.horizon) (tagged_versions level)) strat.disjoint in
      ltb-true v level.horizon (all_at (λ w. ltb w level.horizon) v (tagged_versions level) parts.1 among)

  pub lead_below : (e : Entry) → Among e (level_leads level) → e.version < level.horizon
  lead_below e among = tagged_below e.version (lead_tagged e among)

  module _ (a : TaggedArray) (here : Among a level.arrays) where
    content_lead : (e : Entry) → Among e a.content → Among e (level_leads level)
    content_lead e among =
        held_among (level_leads level) e (all_at (holds_entry (level_leads level)) e a.content (all_at (is_drawn level) a level.arrays strat.drawn here) among)

    content_below : (e : Entry) → Among e a.content → e.version < level.horizon
    content_below e among = lead_below e (content_lead e among)

    -- at a version of its tag an array decides as the level's leads do
    array_decides : (key : List ℕ) (b : ℕ) → Among b a.tag → deciding parents a.content key b ≡ deciding parents (level_leads level) key b
    array_decides key b tagged =
        let same = all_at (λ v. are_same (live parents a.content v) (live parents (level_leads level) v)) b a.tag (all_at (agrees parents level) a level.arrays strat.agreeing here) tagged in
        let halves = and_parts (list_all (holds_entry (live parents (level_leads level) b)) (live parents a.content b)) (list_all (holds_entry (live parents a.content b)) (live parents (level_leads level) b)) same in
        elim (option_cases (deciding parents a.content key b)) [
          | inl none ↦
              elim (option_cases (deciding parents (level_leads level) key b)) [
                | inl nothing ↦ none ∙ sym nothing
                | inr d ↦
                    let decides = deciding_some parents tree (level_leads level) key b d.0 d.1 in
                    let lives = among_filter (is_live parents (level_leads level) b) (level_leads level) d.0 decides.among (decides_live parents tree (level_leads level) key b d.0 decides) in
                    let held = held_among (live parents a.content b) d.0 (all_at (holds_entry (live parents a.content b)) d.0 (live parents (level_leads level) b) halves.1 lives) in
                    let kept = filter_among (is_live parents a.content b) a.content d.0 held in
                    let found = deciding_found parents tree a.content key b d.0 kept.0 decides.of_key decides.on_path in
                    absurd (none-some found.0 (sym none ∙ found.1))
              ]
          | inr e ↦
              let decides = deciding_some parents tree a.content key b e.0 e.1 in
              let lives = among_filter (is_live parents a.content b) a.content e.0 decides.among (decides_live parents tree a.content key b e.0 decides) in
              let held = held_among (live parents (level_leads level) b) e.0 (all_at (holds_entry (live parents (level_leads level) b)) e.0 (live parents a.content b) halves.0 lives) in
              let kept = filter_among (is_live parents (level_leads level) b) (level_leads level) e.0 held in
              let d = deciding_found parents tree (level_leads level) key b e.0 kept.0 decides.of_key decides.on_path in
              let also = deciding_some parents tree (level_leads level) key b d.0 d.1 in
              let equal = live_one parents tree (level_leads level) b strat.single e.0 d.0 kept.0 also.among kept.1 (decides_live parents tree (level_leads level) key b d.0 also) (decides.of_key ∙ sym also.of_key) in
              e.1 ∙ ap (λ (x : Entry). Some x) equal ∙ sym d.1
        ]

    pub array_reads : (key : List ℕ) (v : ℕ) → is_single a.content ≡ true → v < length parents → Among (below parents v level.horizon) a.tag → live_of parents a.content v key ≡ deciding parents (level_leads level) key v
    array_reads key v one known tagged =
        let b : ℕ = below parents v level.horizon in
        let lt : b < level.horizon = tagged_below b (among_in_flat (λ x. x.tag) level.arrays a b here tagged) in
        let positive : 0 < level.horizon = omega arith in
        deciding_live parents tree a.content key v one
        ∙ deciding_below parents tree key a.content level.horizon v content_below positive known
        ∙ array_decides key b tagged
        ∙ sym (deciding_below parents tree key (level_leads level) level.horizon v lead_below positive known)

  -- a level says what its leads say
  pub found_in_leads : (key : List ℕ) (v : ℕ) → list_all (λ a. is_ascending a.content) level.arrays ≡ true → v < length parents → found_in parents level v key ≡ deciding parents (level_leads level) key v
  found_in_leads key v ascending known =
      let b : ℕ = below parents v level.horizon in
      elim (option_cases (array_for parents level v)) [
        | inr found ↦
            let there = find_some (λ x. is_tagged x.tag b) level.arrays found.0 found.1 in
            ap (option_and_then (λ x. live_of parents x.content v key)) found.1
            ∙ array_reads found.0 there.0 key v (ascending_single found.0.content (all_at (λ x. is_ascending x.content) found.0 level.arrays ascending there.0)) known (tagged_among found.0.tag b there.1)
        | inl none ↦
            ap (option_and_then (λ x. live_of parents x.content v key)) none
            ∙ sym (elim (option_cases (deciding parents (level_leads level) key v)) [
              | inl nothing ↦ nothing
              | inr d ↦
                  let decides = deciding_some parents tree (level_leads level) key v d.0 d.1 in
                  let lt : d.0.version < level.horizon = lead_below d.0 decides.among in
                  let positive : 0 < level.horizon = omega arith in
                  let lower : deciding parents (level_leads level) key b ≡ Some d.0 = sym (deciding_below parents tree key (level_leads level) level.horizon v lead_below positive known) ∙ d.1 in
                  let decides' = deciding_some parents tree (level_leads level) key b d.0 lower in
                  let lives = among_filter (is_live parents (level_leads level) b) (level_leads level) d.0 decides'.among (decides_live parents tree (level_leads level) key b d.0 decides') in
                  let b_lt = (below_found parents tree v level.horizon known positive).1 in
                  let case = all_at (λ w. is_tagged (tagged_versions level) w || eqb (length (live parents (level_leads level) w)) 0) b (range_with_len 0 level.horizon) strat.tagged (among_range 0 level.horizon b (omega arith) (omega (arith, b_lt))) in
                  elim (or_cases (is_tagged (tagged_versions level) b) (eqb (length (live parents (level_leads level) b)) 0) case) [
                    | inl tagged ↦
                        let at = among_flat (λ x. x.tag) level.arrays b (tagged_among (tagged_versions level) b tagged) in
                        absurd (true≢false (sym (among_tagged at.0.tag b at.2) ∙ find_none (λ x. is_tagged x.tag b) level.arrays at.0 none at.1))
                    | inr empty ↦ absurd (not_empty (live parents (level_leads level) b) d.0 lives (eqb-true (length (live parents (level_leads level) b)) 0 empty))
                  ]
            ])
      ]

-- arrays in order with disjoint tags have one lead per key and version

filter_single : (p : Entry → Bool) (entries : List Entry) → is_single entries ≡ true → is_single (filter p entries) ≡ true
filter_single p entries single = single_filter p entries single

append_single : (xs ys : List Entry) → is_single xs ≡ true → is_single ys ≡ true → ((e d : Entry) → Among e xs → Among d ys → is_at e.key e.version d ≡ true → ⊥) → is_single (xs ++ ys) ≡ true
append_single [] ys one two apart = two
append_single (e ∷ xs) ys one two apart =
    let parts = and_parts (not (list_any (is_at e.key e.version) xs)) (is_single xs) one in
    and_from (not (list_any (is_at e.key e.version) (xs ++ ys))) (is_single (xs ++ ys))
    (not_from_false (list_any (is_at e.key e.version) (xs ++ ys)) (false_from_ne_true (list_any (is_at e.key e.version) (xs ++ ys)) (λ any.
    let found = any_among (is_at e.key e.version) (xs ++ ys) any in
    elim (among_split xs ys found.0 found.1) [
      | inl left ↦ true≢false (sym (any_from (is_at e.key e.version) found.0 xs left found.2) ∙ not-true (list_any (is_at e.key e.version) xs) parts.0)
      | inr right ↦ apart e found.0 (inl refl) right found.2
    ])))
    (append_single xs ys parts.1 two (λ d f a b at. apart d f (inr a) b at))

-- a version of one list stands in no other where all are distinct
distinct_apart : (xs ys : List ℕ) (v : ℕ) → is_distinct (xs ++ ys) ≡ true → Among v xs → Among v ys → ⊥
distinct_apart [] ys v h a b = a
distinct_apart (x ∷ xs) ys v h (inl here) b =
    let parts = and_parts (not (is_tagged (xs ++ ys) x)) (is_distinct (xs ++ ys)) h in
    true≢false (sym (among_tagged (xs ++ ys) x (among_right xs ys x (subst (λ (w : ℕ). Among w ys) here b))) ∙ not-true (is_tagged (xs ++ ys) x) parts.0)
distinct_apart (x ∷ xs) ys v h (inr there) b = distinct_apart xs ys v (and_parts (not (is_tagged (xs ++ ys) x)) (is_distinct (xs ++ ys)) h).1 there b

pub distinct_behind : (xs ys : List ℕ) → is_distinct (xs ++ ys) ≡ true → is_distinct ys ≡ true
distinct_behind [] ys h = h
distinct_behind (x ∷ xs) ys h = distinct_behind xs ys (and_parts (not (is_tagged (xs ++ ys) x)) (is_distinct (xs ++ ys)) h).1

arrays_single : (arrays : List TaggedArray) → list_all (λ a. is_ascending a.content) arrays ≡ true → is_distinct (flat_map (λ a. a.tag) arrays) ≡ true → is_single (flat_map own_leads arrays) ≡ true
arrays_single [] up apart = refl
arrays_single (a ∷ arrays) up apart =
    let parts = and_parts (is_ascending a.content) (list_all (λ x. is_ascending x.content) arrays) up in
    append_single (own_leads a) (flat_map own_leads arrays)
    (filter_single (λ e. is_tagged a.tag e.version) a.content (ascending_single a.content parts.0))
    (arrays_single arrays parts.1 (distinct_behind a.tag (flat_map (λ x. x.tag) arrays) apart))
    (λ e d one other at.
    let here = filter_among (λ x. is_tagged a.tag x.version) a.content e one in
    let found = among_flat own_leads arrays d other in
    let there = filter_among (λ x. is_tagged found.0.tag x.version) found.0.content d found.2 in
    let same : d.version ≡ e.version = is_at_version e.key e.version d at in
    distinct_apart a.tag (flat_map (λ x. x.tag) arrays) e.version apart (tagged_among a.tag e.version here.1)
    (among_in_flat (λ x. x.tag) arrays found.0 e.version found.1 (subst (λ (w : ℕ). Among w found.0.tag) same (tagged_among found.0.tag d.version there.1))))

pub ordered_single : (level : Level) → list_all (λ a. is_ascending a.content) level.arrays ≡ true → has_disjoint_tags level ≡ true → has_single_leads level ≡ true
ordered_single level up disjoint =
    arrays_single level.arrays up (and_parts (is_distinct (tagged_versions level)) (list_all (λ v. ltb v level.horizon) (tagged_versions level)) disjoint).0
