-- What one more change in the journal of a sound state does to the values.
use Rattle.std.proofs.Common.{◌≡◌, ◌<◌, ℕ, true, false, ◌⊎◌, inl, inr, List, [], ◌∷◌, ◌++◌, length, reverse, ap, ◌∙◌, subst}
use Rattle.std.specs.List.{list_all, flat_map, filter_map}
use Rattle.std.proofs.lemmas.List.{reverse-append}
use Rattle.strat_base.specs.Tree.{Parents, parent_of, path}
use Rattle.strat_base.specs.Marks.{has_living_child}
use Rattle.strat_base.specs.Entries.{Entry}
use Rattle.strat_base.specs.Change.{Change}
use Rattle.def_state.specs.Maps.{map_over}
use Rattle.def_state.specs.Level.{level_leads}
use Rattle.def_state.specs.State.{State, versions_of, marks_of, tree_after, marks_after, update_of, journal_updates, sources, appended}
use Rattle.def_state.specs.Sound.{accepts_change, is_above_frozen, journal_max, IsOrdered}
use Rattle.strat_base.proofs.ListFacts.{Among, among_split, fold-push, filter_map-append}
use Rattle.def_state.proofs.AppendedLemmas.{ordered_appended, settled_appended}

module _ (s : State) (c : Change) where
  pub versions-appended : versions_of (appended s c) ≡ tree_after (versions_of s) c
  versions-appended = fold-push tree_after s.parents s.journal c

  pub marks-appended : marks_of (appended s c) ≡ marks_after (marks_of s) c
  marks-appended = fold-push marks_after s.marks s.journal c

  pub updates-appended : journal_updates (appended s c) ≡ journal_updates s ++ filter_map update_of (c ∷ [])
  updates-appended = filter_map-append update_of s.journal (c ∷ [])

  -- an entry that it writes stands in front
  pub sources-appended : (e : Entry) → filter_map update_of (c ∷ []) ≡ e ∷ [] → sources (appended s c) ≡ e ∷ sources s
  sources-appended e writes =
      ap (λ (x : List Entry). reverse x ++ flat_map level_leads s.levels) (updates-appended ∙ ap (λ (x : List Entry). journal_updates s ++ x) writes)
      ∙ ap (λ (x : List Entry). x ++ flat_map level_leads s.levels) (reverse-append (journal_updates s) (e ∷ []))

-- a change that writes an entry
module _ (s : State) (sound : IsOrdered s) (c : Change) (e : Entry) (writes : filter_map update_of (c ∷ []) ≡ e ∷ []) (stays : tree_after (versions_of s) c ≡ versions_of s)
    (accepted : accepts_change s c ≡ true) (childless : has_living_child (versions_of s) (marks_of s) e.version ≡ false) (room : length s.journal < journal_max s.mem) where
  pub update_versions : versions_of (appended s c) ≡ versions_of s
  update_versions = versions-appended s c ∙ stays

  update_parts : (d : Entry) → Among d (journal_updates (appended s c)) → Among d (journal_updates s) ⊎ (has_living_child (versions_of s) (marks_of s) d.version ≡ false)
  update_parts = (λ d among.
      elim (among_split (journal_updates s) (e ∷ []) d (subst (Among d) (updates-appended s c ∙ ap (λ (x : List Entry). journal_updates s ++ x) writes) among)) [
        | inl older ↦ inl older
        | inr here ↦ elim here [ inl same ↦ inr (ap (λ (x : Entry). has_living_child (versions_of s) (marks_of s) x.version) same ∙ childless) | inr none ↦ absurd none ]
      ])

  pub update_ordered : IsOrdered (appended s c)
  update_ordered = ordered_appended s sound c accepted room (λ v lt. ap (λ (p : Parents). path p v) update_versions) (λ v lt. ap (λ (p : Parents). parent_of p v) update_versions) update_parts

  pub update_settled : list_all (is_above_frozen s) s.levels ≡ true → list_all (is_above_frozen (appended s c)) s.levels ≡ true
  update_settled = settled_appended s sound c accepted room (λ v lt. ap (λ (p : Parents). path p v) update_versions) (λ v lt. ap (λ (p : Parents). parent_of p v) update_versions) update_parts

  -- its maps are those with the entry in front
  pub update_map : (u : ℕ) → map_over (versions_of (appended s c)) (sources (appended s c)) u ≡ map_over (versions_of s) (e ∷ sources s) u
  update_map u = λ i. map_over (update_versions i) (sources-appended s c e writes i) u
