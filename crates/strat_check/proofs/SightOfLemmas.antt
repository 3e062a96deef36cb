-- What is counted of an array's entries of versions below their number is what is counted of all of them.
use Rattle.std.proofs.Common.{◌≡◌, ◌<◌, ◌&&◌, not, ℕ, Bool, true, eqb, ltb, List, length, filter, sum_by, sym, ap, ◌∙◌, arith}
use Rattle.std.specs.List.{list_any}
use Rattle.std.proofs.lemmas.Bool.{and_parts, and_from, eqb-true, lt-ltb}
use Rattle.strat_base.specs.Entries.{Entry, is_ascending}
use Rattle.strat_base.specs.Tree.{Parents, IsTree, is_ancestor}
use Rattle.strat_base.proofs.ListFacts.{any_among, any_from, among_filter, filter_among}
use Rattle.strat_base.proofs.TreeLemmas.{path_le, ancestor_among}
use Rattle.def_state.specs.Counted.{own_at, keys_at}
use Rattle.def_state.specs.Live.{is_hidden_by, is_live, live}
use Rattle.def_split.specs.Groups.{grouped_entries, group_versions, AreGroups, own_of}
use Rattle.def_split.proofs.CountedLemmas.{own_groups}
use Rattle.def_split.proofs.ListLemmas.{bool_same, filter_both, filter_ascending}
use Rattle.def_check.specs.Weights.{weight_of, nearest_sum}
use Rattle.def_check.proofs.WeightLemmas.{groups_weigh, versions_weigh, versions_count}
use Rattle.strat_check.specs.ArrayCounts.{IsSightOf}
use Rattle.strat_check.specs.Sightings.{Sightings, IsSighted}
use Rattle.strat_check.proofs.GroupingLemmas.{key_groups, groups_of}

abbrev pub entries_below : ℕ → List Entry → List Entry
entries_below n entries = filter (λ e. ltb e.version n) entries

-- What versions below n see of entries.
module _ (parents : Parents) (tree : IsTree parents) (n v : ℕ) (low : v < n) where
  -- an entry that a version sees is of a version below n, too
  seen_low : (e : Entry) → is_ancestor parents e.version v ≡ true → ltb e.version n ≡ true
  seen_low e above = let le = path_le parents tree e.version v (ancestor_among parents tree e.version v above) in lt-ltb e.version n (omega (arith, le, low))

  hidden_same : (entries : List Entry) (e : Entry) → list_any (is_hidden_by parents v e) (entries_below n entries) ≡ list_any (is_hidden_by parents v e) entries
  hidden_same entries e =
      bool_same (list_any (is_hidden_by parents v e) (entries_below n entries)) (list_any (is_hidden_by parents v e) entries)
      (λ any.
      let found = any_among (is_hidden_by parents v e) (entries_below n entries) any in
      any_from (is_hidden_by parents v e) found.0 entries (filter_among (λ (d : Entry). ltb d.version n) entries found.0 found.1).0 found.2)
      (λ any.
      let found = any_among (is_hidden_by parents v e) entries any in
      let above = (and_parts _ (is_ancestor parents found.0.version v) found.2).1 in
      any_from (is_hidden_by parents v e) found.0 (entries_below n entries) (among_filter (λ (d : Entry). ltb d.version n) entries found.0 found.1 (seen_low found.0 above)) found.2)

  pub live_same : (entries : List Entry) → live parents (entries_below n entries) v ≡ live parents entries v
  live_same entries =
      filter_both (λ (e : Entry). ltb e.version n) (is_live parents (entries_below n entries) v) (is_live parents entries v) entries (λ e among.
      let same : is_live parents (entries_below n entries) v e ≡ is_live parents entries v e = ap (λ (t : Bool). is_ancestor parents e.version v && not t) (hidden_same entries e) in
      bool_same (ltb e.version n && is_live parents (entries_below n entries) v e) (is_live parents entries v e)
      (λ both. sym same ∙ (and_parts (ltb e.version n) (is_live parents (entries_below n entries) v e) both).1)
      (λ lives.
      and_from (ltb e.version n) (is_live parents (entries_below n entries) v e)
      (seen_low e (and_parts (is_ancestor parents e.version v) (not (list_any (is_hidden_by parents v e) entries)) lives).0)
      (same ∙ lives)))

  own_same : (entries : List Entry) → own_of (entries_below n entries) v ≡ own_of entries v
  own_same entries =
      ap (λ (es : List Entry). length es)
      (filter_both (λ (e : Entry). ltb e.version n) (λ e. eqb e.version v) (λ e. eqb e.version v) entries (λ e among.
      bool_same (ltb e.version n && eqb e.version v) (eqb e.version v)
      (λ both. (and_parts (ltb e.version n) (eqb e.version v) both).1)
      (λ is. let same = eqb-true e.version v is in and_from (ltb e.version n) (eqb e.version v) (lt-ltb e.version n (omega (arith, same, low))) is)))

  module _ (some all : List (List Entry)) (fewer : AreGroups some) (grouped : AreGroups all) (below : grouped_entries some ≡ entries_below n (grouped_entries all)) where
    pub own_counted : own_at (group_versions some) v ≡ own_at (group_versions all) v
    own_counted =
        sym (own_groups some v) ∙ ap (λ (es : List Entry). own_of es v) below ∙ own_same (grouped_entries all) ∙ own_groups all v

    weights : (w : Entry → ℕ) → sum_by w (live parents (grouped_entries some) v) ≡ sum_by w (live parents (grouped_entries all) v)
    weights w = ap (λ (es : List Entry). sum_by w (live parents es v)) below ∙ ap (sum_by w) (live_same (grouped_entries all))

    pub keys_counted : keys_at parents (group_versions some) v ≡ keys_at parents (group_versions all) v
    keys_counted =
        sym (groups_weigh parents tree (λ e. 1) some fewer v ∙ versions_count parents tree some fewer v)
        ∙ weights (λ e. 1)
        ∙ groups_weigh parents tree (λ e. 1) all grouped v ∙ versions_count parents tree all grouped v

    pub nearest_counted : nearest_sum parents (group_versions some) v ≡ nearest_sum parents (group_versions all) v
    nearest_counted =
        sym (groups_weigh parents tree weight_of some fewer v ∙ versions_weigh parents some v)
        ∙ weights weight_of
        ∙ groups_weigh parents tree weight_of all grouped v ∙ versions_weigh parents all v

-- the sights of an array's entries of versions below their number are those of the array
pub sight_of_keys : (parents : Parents) → IsTree parents → (content : List Entry) → is_ascending content ≡ true → (s : Sightings) → length s.own ≡ length parents
    → IsSighted parents (group_versions (key_groups (entries_below (length parents) content))) s → IsSightOf parents content s
sight_of_keys parents tree content up s len sighted =
    let n : ℕ = length parents in
    let some : List (List Entry) = key_groups (entries_below n content) in
    let all : List (List Entry) = key_groups content in
    let are = groups_of content up in
    let fewer = groups_of (entries_below n content) (filter_ascending (λ (e : Entry). ltb e.version n) content up) in
    let below : grouped_entries some ≡ entries_below n (grouped_entries all) = fewer.1 ∙ ap (entries_below n) (sym are.1) in
    record {
      groups = key_groups content;
      grouped = are.0;
      whole = are.1;
      sighted = record {
        own = λ v less. sighted.own v less ∙ own_counted parents tree n v (omega (arith, less, len)) some all fewer.0 are.0 below;
        seen = λ v less. sighted.seen v less ∙ keys_counted parents tree n v (omega (arith, less, len)) some all fewer.0 are.0 below;
        weight = λ v less. sighted.weight v less ∙ nearest_counted parents tree n v (omega (arith, less, len)) some all fewer.0 are.0 below;
      };
    }
