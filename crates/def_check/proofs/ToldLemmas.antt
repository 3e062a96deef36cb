-- The rules of a level are told by numbers that are counted group by group.
use Rattle.std.proofs.Common.{◌≡◌, ◌*◌, arith, ℕ, true, eqb, leb, ◌&&◌, ◌||◌, List, [], ◌∷◌, ◌++◌, length, map, refl, sym, ap, ◌∙◌}
use Rattle.std.specs.List.{list_all, sum_by, flat_map, range_with_len, find}
use Rattle.strat_base.specs.Tree.{Parents, IsTree}
use Rattle.strat_base.specs.Entries.{Entry, is_at, is_single, is_ascending, is_tagged, holds_entry, are_same}
use Rattle.strat_base.proofs.ListFacts.{Among, all_at, all_from, all_same, map_same, among_filter, filter_among}
use Rattle.strat_base.proofs.EntryLemmas.{held_among, among_held}
use Rattle.def_state.specs.Live.{is_live, live}
use Rattle.def_state.specs.Level.{TaggedArray, Level, own_leads, level_leads, tagged_versions, has_live_tagged, agrees, is_dense, is_drawn, least, least_live}
use Rattle.def_state.specs.Sound.{has_ascending_entries}
use Rattle.def_state.proofs.LevelLemmas.{ascending_single, ordered_single}
use Rattle.def_split.specs.Groups.{grouped_entries, AreGroups}
use Rattle.def_split.proofs.ListLemmas.{bool_same}
use Rattle.def_split.proofs.LiveSetLemmas.{live_alike}
use Rattle.def_promote.proofs.UnionLemmas.{found_among, single_fits}
use Rattle.def_state.proofs.LiveLemmas.{single_filter}
use Rattle.def_promote.specs.Merging.{Merges}
use Rattle.def_promote.proofs.MergingLemmas.{merged}
use Rattle.def_check.specs.Weights.{weight_of, weights_seen}
use Rattle.def_check.specs.Told.{seen_by, MayBeCounted, AreLeadsOf, AreContentOf, tags_seen, weighs_as, sees_third, least_seen}
use Rattle.def_check.proofs.AgreeLemmas.{told_by_weights, sum_ones}
use Rattle.def_check.proofs.WeightLemmas.{groups_weigh}

-- lists that are joined, made before or after
flat_ids : (arrays : List TaggedArray) → grouped_entries (map own_leads arrays) ≡ flat_map own_leads arrays
flat_ids [] = refl
flat_ids (a ∷ arrays) = ap (λ (es : List Entry). own_leads a ++ es) (flat_ids arrays)

ones_live : (entries : List Entry) → sum_by (λ e. 1) entries ≡ length entries
ones_live entries = sum_ones entries

module _ (parents : Parents) (tree : IsTree parents) (level : Level) (may : MayBeCounted level) (groups : List (List Entry)) (leads : AreLeadsOf level groups) where
  single : is_single (level_leads level) ≡ true
  single = ordered_single level may.ascending may.disjoint

  one : is_single (grouped_entries groups) ≡ true
  one = ascending_single (grouped_entries groups) leads.grouped.ascending

  -- the groups have the level's leads, and no others
  to : (e : Entry) → Among e (grouped_entries groups) → Among e (level_leads level)
  to e among = held_among (level_leads level) e (sym (leads.same e) ∙ among_held (grouped_entries groups) e among)

  back : (e : Entry) → Among e (level_leads level) → Among e (grouped_entries groups)
  back e among = held_among (grouped_entries groups) e (leads.same e ∙ among_held (level_leads level) e among)

  held_alike : (e : Entry) → holds_entry (level_leads level) e ≡ holds_entry (grouped_entries groups) e
  held_alike e = sym (leads.same e)

  live_to : (v : ℕ) (e : Entry) → Among e (live parents (grouped_entries groups) v) → Among e (live parents (level_leads level) v)
  live_to v e among =
      let kept = filter_among (is_live parents (grouped_entries groups) v) (grouped_entries groups) e among in
      among_filter (is_live parents (level_leads level) v) (level_leads level) e (to e kept.0)
      (sym (live_alike parents tree (grouped_entries groups) (level_leads level) v e back to) ∙ kept.1)

  live_back : (v : ℕ) (e : Entry) → Among e (live parents (level_leads level) v) → Among e (live parents (grouped_entries groups) v)
  live_back v e among =
      let kept = filter_among (is_live parents (level_leads level) v) (level_leads level) e among in
      among_filter (is_live parents (grouped_entries groups) v) (grouped_entries groups) e (back e kept.0)
      (live_alike parents tree (grouped_entries groups) (level_leads level) v e back to ∙ kept.1)

  same_live : (entries : List Entry) (v : ℕ) → are_same entries (live parents (level_leads level) v) ≡ are_same entries (live parents (grouped_entries groups) v)
  same_live entries v = λ i.
      all_same (holds_entry (live parents (level_leads level) v)) (holds_entry (live parents (grouped_entries groups) v)) entries (λ e among.
      bool_same (holds_entry (live parents (level_leads level) v) e) (holds_entry (live parents (grouped_entries groups) v) e)
      (λ h. among_held (live parents (grouped_entries groups) v) e (live_back v e (held_among (live parents (level_leads level) v) e h)))
      (λ h. among_held (live parents (level_leads level) v) e (live_to v e (held_among (live parents (grouped_entries groups) v) e h)))) i
      && bool_same (list_all (holds_entry entries) (live parents (level_leads level) v)) (list_all (holds_entry entries) (live parents (grouped_entries groups) v))
      (λ h. all_from (holds_entry entries) (live parents (grouped_entries groups) v) (λ e among. all_at (holds_entry entries) e (live parents (level_leads level) v) h (live_to v e among)))
      (λ h. all_from (holds_entry entries) (live parents (level_leads level) v) (λ e among. all_at (holds_entry entries) e (live parents (grouped_entries groups) v) h (live_back v e among))) i

  count_alike : (v : ℕ) → length (live parents (level_leads level) v) ≡ seen_by parents groups v
  count_alike v =
      let few = single_fits (live parents (level_leads level) v) (live parents (grouped_entries groups) v) (single_filter (is_live parents (level_leads level) v) (level_leads level) single) (live_back v) in
      let more = single_fits (live parents (grouped_entries groups) v) (live parents (level_leads level) v) (single_filter (is_live parents (grouped_entries groups) v) (grouped_entries groups) one) (live_to v) in
      let same : length (live parents (level_leads level) v) ≡ length (live parents (grouped_entries groups) v) = omega (arith, few, more) in
      same ∙ sym (sum_ones (live parents (grouped_entries groups) v)) ∙ groups_weigh parents tree (λ e. 1) groups grouped v
    where
      grouped : AreGroups groups
      grouped = leads.grouped

  -- b
  pub told_tags : has_live_tagged parents level ≡ tags_seen parents level groups
  told_tags =
      all_same (λ v. is_tagged (tagged_versions level) v || eqb (length (live parents (level_leads level) v)) 0) (λ v. is_tagged (tagged_versions level) v || eqb (seen_by parents groups v) 0)
      (range_with_len 0 level.horizon) (λ v among i. is_tagged (tagged_versions level) v || eqb (count_alike v i) 0)

  module _ (a : TaggedArray) (here : Among a level.arrays) (mine : List (List Entry)) (content : AreContentOf a mine) where
    up : is_ascending a.content ≡ true
    up = all_at has_ascending_entries a level.arrays may.ascending here

    count_mine : (v : ℕ) → length (live parents a.content v) ≡ seen_by parents mine v
    count_mine v =
        sym (sum_ones (live parents a.content v)) ∙ ap (λ (es : List Entry). sum_by (λ e. 1) (live parents es v)) (sym content.whole) ∙ groups_weigh parents tree (λ e. 1) mine content.grouped v

    weight_mine : (v : ℕ) → sum_by weight_of (live parents a.content v) ≡ weights_seen parents weight_of mine v
    weight_mine v =
        ap (λ (es : List Entry). sum_by weight_of (live parents es v)) (sym content.whole) ∙ groups_weigh parents tree weight_of mine content.grouped v

    count_union : (v : ℕ) → length (live parents (grouped_entries groups) v) ≡ seen_by parents groups v
    count_union v = sym (sum_ones (live parents (grouped_entries groups) v)) ∙ groups_weigh parents tree (λ e. 1) groups leads.grouped v

    weight_union : (v : ℕ) → sum_by weight_of (live parents (grouped_entries groups) v) ≡ weights_seen parents weight_of groups v
    weight_union v = groups_weigh parents tree weight_of groups leads.grouped v

    -- c
    pub told_agreement : agrees parents level a ≡ weighs_as parents groups a mine
    told_agreement =
        all_same (λ v. are_same (live parents a.content v) (live parents (level_leads level) v))
        (λ v. list_all (holds_entry (grouped_entries groups)) (live parents a.content v) && eqb (seen_by parents mine v) (seen_by parents groups v)
        && eqb (weights_seen parents weight_of mine v) (weights_seen parents weight_of groups v))
        a.tag (λ v among.
        same_live (live parents a.content v) v
        ∙ told_by_weights parents tree (grouped_entries groups) a.content one (ascending_single a.content up) v
        ∙ (λ i. list_all (holds_entry (grouped_entries groups)) (live parents a.content v) && eqb (count_mine v i) (count_union v i) && eqb (weight_mine v i) (weight_union v i)))

    -- d
    pub told_density : is_dense parents a ≡ sees_third parents a mine
    told_density =
        all_same (λ v. leb (length a.content) (3 * length (live parents a.content v))) (λ v. leb (length a.content) (3 * seen_by parents mine v)) a.tag
        (λ v among i. leb (length a.content) (3 * count_mine v i))

    -- f
    pub told_drawn : is_drawn level a ≡ list_all (holds_entry (grouped_entries groups)) a.content
    told_drawn = all_same (holds_entry (level_leads level)) (holds_entry (grouped_entries groups)) a.content (λ e among. held_alike e)

    -- k
    pub told_least : least_live parents a ≡ least_seen parents a mine
    told_least = ap least (map_same (λ v. length (live parents a.content v)) (λ v. seen_by parents mine v) a.tag (λ v among. count_mine v))

-- the leads of a level, merged, are its groups
pub merged_leads : (level : Level) → MayBeCounted level → (groups : List (List Entry)) → Merges (map own_leads level.arrays) groups → AreLeadsOf level groups
merged_leads level may groups merges =
    let both = merged (map own_leads level.arrays) groups merges in
    let found : (key : List ℕ) (u : ℕ) → find (is_at key u) (grouped_entries groups) ≡ find (is_at key u) (level_leads level) =
    λ key u. both.0.first key u ∙ ap (λ (es : List Entry). find (is_at key u) es) (flat_ids level.arrays) in
    let one : is_single (grouped_entries groups) ≡ true = ascending_single (grouped_entries groups) both.0.ascending in
    let two : is_single (level_leads level) ≡ true = ordered_single level may.ascending may.disjoint in
    record {
      grouped = both.1;
      same = λ e. bool_same (holds_entry (grouped_entries groups) e) (holds_entry (level_leads level) e)
          (λ h. among_held (level_leads level) e (found_among (grouped_entries groups) (level_leads level) found one e (held_among (grouped_entries groups) e h)))
          (λ h. among_held (grouped_entries groups) e (found_among (level_leads level) (grouped_entries groups) (λ key u. sym (found key u)) two e (held_among (level_leads level) e h)));
    }
