-- The groups that runs give are determined.
use Rattle.std.proofs.Common.{◌≡◌, ◌<◌, ℕ, true, ◌||◌, inl, inr, List, [], ◌∷◌, ◌++◌, length, map, Some, refl, sym, ap, ◌∙◌, subst, arith, true≢false}
use Rattle.std.specs.List.{find}
use Rattle.std.specs.Ordering.{is_lt, ordering_reverse}
use Rattle.std.specs.declared.cmp.Ordering.{Ordering}
use Rattle.std.specs.declared.cmp.Ordering.TheVariants.{Less, Equal, Greater}
use Rattle.std.proofs.lemmas.Bool.{or_cases}
use Rattle.std.proofs.lemmas.Cmp.{nat_list_cmp_total}
use Rattle.strat_base.specs.Order.{key_cmp}
use Rattle.strat_base.specs.Entries.{Entry, is_of, is_at}
use Rattle.strat_base.proofs.ListFacts.{Among, all_at, find_some}
use Rattle.strat_base.proofs.EntryLemmas.{is_of_key}
use Rattle.def_state.proofs.LevelLemmas.{ascending_single}
use Rattle.def_split.specs.Groups.{grouped_entries}
use Rattle.def_promote.specs.Merging.{rest_of, IsNext, MergesTo, Merges}
use Rattle.def_promote.proofs.UnionLemmas.{find_single, ascending_unique}

-- no key stands before another that stands before it
never_both : (a b : List ℕ) → is_lt (key_cmp a b) ≡ true → is_lt (key_cmp b a) ≡ true → ⊥
never_both a b one two = go (key_cmp a b) refl one
  where
    go : (o : Ordering) → key_cmp a b ≡ o → is_lt o ≡ true → ⊥
    go Less is h =
        let back : key_cmp b a ≡ Greater = nat_list_cmp_total.antisymm b a ∙ ap ordering_reverse is in
        absurd (true≢false (sym two ∙ ap is_lt back))
    go Equal is h = absurd (true≢false (sym h))
    go Greater is h = absurd (true≢false (sym h))

-- a group of the least key of runs
module _ (runs : List (List Entry)) (key : List ℕ) (group : List Entry) (next : IsNext runs key group) where
  key_of : (e : Entry) → Among e group → e.key ≡ key
  key_of e among = is_of_key key e (all_at (is_of key) e group next.keyed among)

  told : (e : Entry) → Among e group → find (is_at key e.version) (grouped_entries runs) ≡ Some e
  told e among =
      sym (next.newest e.version)
      ∙ ap (λ (k : List ℕ). find (is_at k e.version) group) (sym (key_of e among))
      ∙ find_single group e (ascending_single group next.ascending) among

  told_among : (e : Entry) → Among e group → Among e (grouped_entries runs)
  told_among e among = (find_some (is_at key e.version) (grouped_entries runs) e (told e among)).0

  pub group_begins : (e : Entry) × Among e group
  group_begins = first group next.some
    where
      first : (entries : List Entry) → 0 < length entries → (e : Entry) × Among e entries
      first [] some = absurd (omega (arith, some))
      first (e ∷ entries) some = (e, inl refl)

  -- where runs have nothing left there is none
  pub next_needs_some : grouped_entries runs ≡ [] → ⊥
  next_needs_some none = subst (λ (es : List Entry). Among group_begins.0 es) none (told_among group_begins.0 group_begins.1)

-- the least key is one, and its group too
module _ (runs : List (List Entry)) (key other : List ℕ) (group others : List Entry) (next : IsNext runs key group) (again : IsNext runs other others) where
  pub one_key_next : key ≡ other
  one_key_next =
      let e = group_begins runs key group next in
      let d = group_begins runs other others again in
      elim (or_cases (is_of other e.0) (is_lt (key_cmp other e.0.key)) (all_at (λ x. is_of other x || is_lt (key_cmp other x.key)) e.0 (grouped_entries runs) again.least (told_among runs key group next e.0 e.1))) [
        | inl same ↦ sym (key_of runs key group next e.0 e.1) ∙ is_of_key other e.0 same
        | inr less ↦
            elim (or_cases (is_of key d.0) (is_lt (key_cmp key d.0.key)) (all_at (λ x. is_of key x || is_lt (key_cmp key x.key)) d.0 (grouped_entries runs) next.least (told_among runs other others again d.0 d.1))) [
              | inl same ↦ sym (is_of_key key d.0 same) ∙ key_of runs other others again d.0 d.1
              | inr more ↦
                  absurd (never_both key other
                  (ap (λ (k : List ℕ). is_lt (key_cmp key k)) (sym (key_of runs other others again d.0 d.1)) ∙ more)
                  (ap (λ (k : List ℕ). is_lt (key_cmp other k)) (sym (key_of runs key group next e.0 e.1)) ∙ less))
            ]
      ]

among_both : (runs : List (List Entry)) (key : List ℕ) (group others : List Entry) → IsNext runs key group → IsNext runs key others → (e : Entry) → Among e group → Among e others
among_both runs key group others next again e among =
    (find_some (is_at key e.version) others e (again.newest e.version ∙ told runs key group next e among)).0

pub one_group_next : (runs : List (List Entry)) (key other : List ℕ) (group others : List Entry) → IsNext runs key group → IsNext runs other others → group ≡ others
one_group_next runs key other group others next again =
    let same : IsNext runs key others = subst (λ (k : List ℕ). IsNext runs k others) (sym (one_key_next runs key other group others next again)) again in
    ascending_unique group others next.ascending same.ascending (among_both runs key group others next same) (among_both runs key others group same next)

-- after the same group the same runs are left
same_rest : (runs : List (List Entry)) (key other : List ℕ) (group others : List Entry) → IsNext runs key group → IsNext runs other others → (groups left : List (List Entry)) → MergesTo (map (rest_of other) runs) groups left → MergesTo (map (rest_of key) runs) groups left
same_rest runs key other group others next again groups left steps =
    subst (λ (k : List ℕ). MergesTo (map (rest_of k) runs) groups left) (sym (one_key_next runs key other group others next again)) steps

-- two merges of the same runs are one
merges_same : (all groups runs done left : List (List Entry)) → MergesTo runs all done → grouped_entries done ≡ [] → MergesTo runs groups left → grouped_entries left ≡ [] → all ≡ groups
merges_same [] [] runs done left one none two nothing = refl
merges_same [] (g ∷ groups) runs done left one none two nothing =
    absurd (next_needs_some runs two.0 g two.1 (ap (λ (lists : List (List Entry)). grouped_entries lists) (sym one) ∙ none))
merges_same (a ∷ all) [] runs done left one none two nothing =
    absurd (next_needs_some runs one.0 a one.1 (ap (λ (lists : List (List Entry)). grouped_entries lists) (sym two) ∙ nothing))
merges_same (a ∷ all) (g ∷ groups) runs done left one none two nothing =
    let rest = merges_same all groups (map (rest_of one.0) runs) done left one.2 none (same_rest runs one.0 two.0 a g one.1 two.1 groups left two.2) nothing in
    λ i. one_group_next runs one.0 two.0 a g one.1 two.1 i ∷ rest i

pub one_merge : (runs all groups left : List (List Entry)) → Merges runs all → MergesTo runs groups left → grouped_entries left ≡ [] → all ≡ groups
one_merge runs all groups left merges steps none = merges_same all groups runs merges.0 left merges.1 merges.2 steps none

-- what was merged so far, and the next group, begin the whole
merges_on : (all groups runs done left : List (List Entry)) → MergesTo runs all done → grouped_entries done ≡ [] → MergesTo runs groups left → (key : List ℕ) (group : List Entry) → IsNext left key group → (rest : List (List Entry)) × (all ≡ groups ++ group ∷ rest)
merges_on [] [] runs done left one none two key group next =
    absurd (next_needs_some left key group next (ap (λ (lists : List (List Entry)). grouped_entries lists) (two ∙ sym one) ∙ none))
merges_on [] (g ∷ groups) runs done left one none two key group next =
    absurd (next_needs_some runs two.0 g two.1 (ap (λ (lists : List (List Entry)). grouped_entries lists) (sym one) ∙ none))
merges_on (a ∷ all) [] runs done left one none two key group next =
    (all, ap (λ (g : List Entry). g ∷ all) (one_group_next runs one.0 key a group one.1 (subst (λ (lists : List (List Entry)). IsNext lists key group) two next)))
merges_on (a ∷ all) (g ∷ groups) runs done left one none two key group next =
    let rest = merges_on all groups (map (rest_of one.0) runs) done left one.2 none (same_rest runs one.0 two.0 a g one.1 two.1 groups left two.2) key group next in
    (rest.0, λ i. one_group_next runs one.0 two.0 a g one.1 two.1 i ∷ rest.1 i)

pub merge_goes_on : (runs all groups left : List (List Entry)) (key : List ℕ) (group : List Entry) → Merges runs all → MergesTo runs groups left → IsNext left key group → (rest : List (List Entry)) × (all ≡ groups ++ group ∷ rest)
merge_goes_on runs all groups left key group merges steps next = merges_on all groups runs merges.0 left merges.1 merges.2 steps key group next
