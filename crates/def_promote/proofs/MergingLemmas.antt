-- Groups that are merged from runs are the runs' union.
use Rattle.std.proofs.Common.{◌≡◌, ℕ, Bool, true, cond, ◌&&◌, ◌||◌, not, inl, inr, List, [], ◌∷◌, ◌++◌, map, reverse, Option, Some, None, refl, sym, ap, ◌∙◌, subst, true≢false, bytes_eq}
use Rattle.std.specs.List.{list_any, list_all, flat_map, find}
use Rattle.std.specs.Option.{option_or}
use Rattle.std.specs.Ordering.{is_lt, nat_cmp, ordering_then}
use Rattle.std.specs.declared.cmp.Ordering.{Ordering}
use Rattle.std.specs.declared.cmp.Ordering.TheVariants.{Less, Equal, Greater}
use Rattle.std.proofs.lemmas.Bool.{and_parts, and_from, or_cases, not-true, not_from_false, false_from_ne_true, cases_Bool}
use Rattle.std.proofs.lemmas.List.Concat.{flat_map-append}
use Rattle.std.proofs.lemmas.List.Folds.{flat_map-map}
use Rattle.strat_base.specs.Order.{key_cmp, entry_cmp}
use Rattle.strat_base.specs.Entries.{Entry, is_of, is_at, is_ascending}
use Rattle.def_state.specs.Level.{Level, own_leads, level_leads}
use Rattle.def_state.specs.Setting.{set_all}
use Rattle.def_state.specs.State.{State, journal_updates}
use Rattle.strat_base.proofs.ListFacts.{Among, any_among, all_at, all_from, find_some, filter_among}
use Rattle.strat_base.proofs.EntryLemmas.{same_bytes, bytes_same, is_of_key, is_at_key}
use Rattle.strat_base.proofs.ResultFacts.{option_cases}
use Rattle.def_state.proofs.GroupLemmas.{find_filter}
use Rattle.def_state.proofs.LevelLemmas.{ascending_single}
use Rattle.def_state.proofs.ReadingLemmas.{find-append, or_none}
use Rattle.def_state.proofs.UpdateLemmas.{all_found}
use Rattle.def_split.specs.Groups.{grouped_entries, has_one_key, are_keyed_apart, AreGroups}
use Rattle.def_split.proofs.ListLemmas.{bool_same}
use Rattle.def_split.proofs.GroupedLemmas.{filter_groups}
use Rattle.def_promote.specs.Union.{IsUnion}
use Rattle.def_promote.specs.Merging.{runs_taken, rest_of, IsNext, MergesTo, Merges}
use Rattle.def_promote.specs.Promoted.{told_by}
use Rattle.def_promote.proofs.UnionLemmas.{found_among}

find_same : {X : Type 0} (p q : X → Bool) (xs : List X) → ((x : X) → p x ≡ q x) → find p xs ≡ find q xs
find_same p q [] each = refl
find_same p q (x ∷ xs) each = let rest : find p xs ≡ find q xs = find_same p q xs each in λ i. cond (each x i) (Some x) (rest i)

-- entries without those of a key
module _ (key : List ℕ) (entries : List Entry) where
  find_gone : (u : ℕ) → find (is_at key u) (rest_of key entries) ≡ None
  find_gone u =
      elim (option_cases (find (is_at key u) (rest_of key entries))) [
        | inl none ↦ none
        | inr found ↦
            let at = find_some (is_at key u) (rest_of key entries) found.0 found.1 in
            let kept = filter_among (λ e. not (is_of key e)) entries found.0 at.0 in
            absurd (true≢false (sym (same_bytes found.0.key key (is_at_key key u found.0 at.1)) ∙ not-true (is_of key found.0) kept.1))
      ]

  find_rest : (other : List ℕ) (u : ℕ) → (other ≡ key → ⊥) → find (is_at other u) (rest_of key entries) ≡ find (is_at other u) entries
  find_rest other u apart =
      find_filter (λ e. not (is_of key e)) (is_at other u) entries
      ∙ find_same (λ e. not (is_of key e) && is_at other u e) (is_at other u) entries (λ e.
      bool_same (not (is_of key e) && is_at other u e) (is_at other u e)
      (λ both. (and_parts (not (is_of key e)) (is_at other u e) both).1)
      (λ at.
      and_from (not (is_of key e)) (is_at other u e)
      (not_from_false (is_of key e) (false_from_ne_true (is_of key e) (λ one. apart (sym (is_at_key other u e at) ∙ is_of_key key e one)))) at))

rest_groups : (key : List ℕ) (runs : List (List Entry)) → grouped_entries (map (rest_of key) runs) ≡ rest_of key (grouped_entries runs)
rest_groups key runs =
    flat_map-map (λ (run : List Entry). run) (rest_of key) runs
    ∙ sym (filter_groups (λ (e : Entry). not (is_of key e)) (λ run e. not (is_of key e)) runs (λ run among e there. refl))

-- a lesser key stands first, whatever the versions
lesser_key : (e d : Entry) → is_lt (key_cmp e.key d.key) ≡ true → is_lt (entry_cmp e.key e.version d.key d.version) ≡ true
lesser_key e d = go (key_cmp e.key d.key)
  where
    go : (o : Ordering) → is_lt o ≡ true → is_lt (ordering_then o (nat_cmp d.version e.version)) ≡ true
    go Less h = refl
    go Equal h = absurd (true≢false (sym h))
    go Greater h = absurd (true≢false (sym h))

ascending_join : (xs ys : List Entry) → is_ascending xs ≡ true → is_ascending ys ≡ true → ((e d : Entry) → Among e xs → Among d ys → is_lt (entry_cmp e.key e.version d.key d.version) ≡ true) → is_ascending (xs ++ ys) ≡ true
ascending_join [] ys one two before = two
ascending_join (e ∷ xs) ys one two before =
    let parts = and_parts (list_all (λ later. is_lt (entry_cmp e.key e.version later.key later.version)) xs) (is_ascending xs) one in
    and_from (list_all (λ later. is_lt (entry_cmp e.key e.version later.key later.version)) (xs ++ ys)) (is_ascending (xs ++ ys))
    (all_join (λ later. is_lt (entry_cmp e.key e.version later.key later.version)) xs ys parts.0 (λ d among. before e d (inl refl) among))
    (ascending_join xs ys parts.1 two (λ a b x y. before a b (inr x) y))
  where
    all_join : (p : Entry → Bool) (us ws : List Entry) → list_all p us ≡ true → ((d : Entry) → Among d ws → p d ≡ true) → list_all p (us ++ ws) ≡ true
    all_join p [] ws first each = all_from p ws each
    all_join p (x ∷ us) ws first each = let parts = and_parts (p x) (list_all p us) first in and_from (p x) (list_all p (us ++ ws)) parts.0 (all_join p us ws parts.1 each)

one_key : (key : List ℕ) (group : List Entry) → list_all (is_of key) group ≡ true → has_one_key group ≡ true
one_key key [] keyed = refl
one_key key (e ∷ group) keyed =
    let parts = and_parts (is_of key e) (list_all (is_of key) group) keyed in
    all_from (is_of e.key) group (λ d among. same_bytes d.key e.key (is_of_key key d (all_at (is_of key) d group parts.1 among) ∙ sym (is_of_key key e parts.0)))

-- a group in front of groups of greater keys
module _ (runs : List (List Entry)) (key : List ℕ) (group : List Entry) (next : IsNext runs key group) (groups : List (List Entry))
    (union : IsUnion (grouped_entries (map (rest_of key) runs)) (grouped_entries groups)) (grouped : AreGroups groups) where
  group_of : (e : Entry) → Among e group → e.key ≡ key
  group_of e among = is_of_key key e (all_at (is_of key) e group next.keyed among)

  behind : (d : Entry) → Among d (grouped_entries groups) → (d.key ≡ key → ⊥) × (is_lt (key_cmp key d.key) ≡ true)
  behind d among =
      let left = found_among (grouped_entries groups) (grouped_entries (map (rest_of key) runs)) union.first (ascending_single (grouped_entries groups) union.ascending) d among in
      let kept = filter_among (λ e. not (is_of key e)) (grouped_entries runs) d (subst (λ (es : List Entry). Among d es) (rest_groups key runs) left) in
      let apart : d.key ≡ key → ⊥ = λ same. true≢false (sym (same_bytes d.key key same) ∙ not-true (is_of key d) kept.1) in (
        apart,
        elim (or_cases (is_of key d) (is_lt (key_cmp key d.key)) (all_at (λ e. is_of key e || is_lt (key_cmp key e.key)) d (grouped_entries runs) next.least kept.0)) [
          | inl same ↦ absurd (apart (is_of_key key d same))
          | inr less ↦ less
        ],
      )

  joined_ascends : is_ascending (group ++ grouped_entries groups) ≡ true
  joined_ascends =
      ascending_join group (grouped_entries groups) next.ascending union.ascending (λ e d here there.
      lesser_key e d (ap (λ (k : List ℕ). is_lt (key_cmp k d.key)) (group_of e here) ∙ (behind d there).1))

  joined_first : (other : List ℕ) (u : ℕ) → find (is_at other u) (group ++ grouped_entries groups) ≡ find (is_at other u) (grouped_entries runs)
  joined_first other u =
      let rest : find (is_at other u) (grouped_entries groups) ≡ find (is_at other u) (rest_of key (grouped_entries runs)) =
      union.first other u ∙ ap (λ (es : List Entry). find (is_at other u) es) (rest_groups key runs) in
      find-append (is_at other u) group (grouped_entries groups)
      ∙ elim (cases_Bool (bytes_eq other key)) [
        | inl is ↦
            let same : other ≡ key = bytes_same other key is in
            let none : find (is_at other u) (grouped_entries groups) ≡ None =
            rest ∙ ap (λ (k : List ℕ). find (is_at k u) (rest_of key (grouped_entries runs))) same ∙ find_gone key (grouped_entries runs) u in
            ap (λ (o : Option Entry). option_or (find (is_at other u) group) o) none ∙ or_none (find (is_at other u) group)
            ∙ ap (λ (k : List ℕ). find (is_at k u) group) same ∙ next.newest u ∙ ap (λ (k : List ℕ). find (is_at k u) (grouped_entries runs)) (sym same)
        | inr apart ↦
            let other_key : other ≡ key → ⊥ = λ same. true≢false (sym (same_bytes other key same) ∙ apart) in
            let none : find (is_at other u) group ≡ None =
            elim (option_cases (find (is_at other u) group)) [
              | inl nothing ↦ nothing
              | inr found ↦ let at = find_some (is_at other u) group found.0 found.1 in absurd (other_key (sym (is_at_key other u found.0 at.1) ∙ group_of found.0 at.0))
            ] in
            ap (λ (o : Option Entry). option_or o (find (is_at other u) (grouped_entries groups))) none
            ∙ rest ∙ find_rest key (grouped_entries runs) other u other_key
      ]

  joined_apart : are_keyed_apart (group ∷ groups) ≡ true
  joined_apart =
      and_from (list_all (λ e. not (list_any (is_of e.key) (grouped_entries groups))) group) (are_keyed_apart groups)
      (all_from (λ e. not (list_any (is_of e.key) (grouped_entries groups))) group (λ e here.
      not_from_false (list_any (is_of e.key) (grouped_entries groups)) (false_from_ne_true (list_any (is_of e.key) (grouped_entries groups)) (λ any.
      let found = any_among (is_of e.key) (grouped_entries groups) any in
      (behind found.0 found.1).0 (is_of_key e.key found.0 found.2 ∙ group_of e here)))))
      grouped.apart

-- groups that runs give until nothing is left
merged_to : (groups runs left : List (List Entry)) → MergesTo runs groups left → grouped_entries left ≡ [] → IsUnion (grouped_entries runs) (grouped_entries groups) × AreGroups groups
merged_to [] runs left same empty =
    let none : grouped_entries runs ≡ [] = ap (λ (lists : List (List Entry)). grouped_entries lists) (sym same) ∙ empty in
    (record { ascending = refl; first = λ key u. ap (λ (es : List Entry). find (is_at key u) es) (sym none) }, record { keyed = refl; apart = refl; ascending = refl })
merged_to (group ∷ groups) runs left steps empty =
    let key = steps.0 in
    let next = steps.1 in
    let rest = merged_to groups (map (rest_of key) runs) left steps.2 empty in
    let up = joined_ascends runs key group next groups rest.0 rest.1 in (
      record { ascending = up; first = joined_first runs key group next groups rest.0 rest.1 },
      record {
        keyed = and_from (has_one_key group) (list_all has_one_key groups) (one_key key group next.keyed) rest.1.keyed;
        apart = joined_apart runs key group next groups rest.0 rest.1;
        ascending = up;
      },
    )

pub merged : (runs groups : List (List Entry)) → Merges runs groups → IsUnion (grouped_entries runs) (grouped_entries groups) × AreGroups groups
merged runs groups merges = merged_to groups runs merges.0 merges.1 merges.2

-- one more group
pub merged_more : (runs groups left : List (List Entry)) → MergesTo runs groups left → (key : List ℕ) (group : List Entry) → IsNext left key group → MergesTo runs (groups ++ group ∷ []) (map (rest_of key) left)
merged_more runs [] left same key group next =
    (key, subst (λ (lists : List (List Entry)). IsNext lists key group) same next, ap (λ (lists : List (List Entry)). map (rest_of key) lists) same)
merged_more runs (first ∷ groups) left steps key group next = (steps.0, steps.1, merged_more (map (rest_of steps.0) runs) groups left steps.2 key group next)

-- the runs of a state say what it says

leads_of_runs : (taken : List Level) → grouped_entries (flat_map (λ level. map own_leads level.arrays) taken) ≡ flat_map level_leads taken
leads_of_runs [] = refl
leads_of_runs (level ∷ taken) =
    flat_map-append (λ (run : List Entry). run) (map own_leads level.arrays) (flat_map (λ l. map own_leads l.arrays) taken)
    ∙ (λ i. flat_map-map (λ (run : List Entry). run) own_leads level.arrays i ++ leads_of_runs taken i)

pub runs_said : (s : State) (taken : List Level) (key : List ℕ) (u : ℕ) → find (is_at key u) (grouped_entries (runs_taken s taken)) ≡ find (is_at key u) (told_by s taken)
runs_said s taken key u =
    find-append (is_at key u) (set_all (journal_updates s)) (grouped_entries (flat_map (λ level. map own_leads level.arrays) taken))
    ∙ (λ i. option_or (all_found key u (journal_updates s) i) (find (is_at key u) (leads_of_runs taken i)))
    ∙ sym (find-append (is_at key u) (reverse (journal_updates s)) (flat_map level_leads taken))

pub runs_union : (s : State) (taken : List Level) (entries : List Entry) → IsUnion (grouped_entries (runs_taken s taken)) entries → IsUnion (told_by s taken) entries
runs_union s taken entries union = record { ascending = union.ascending; first = λ key u. union.first key u ∙ runs_said s taken key u }
