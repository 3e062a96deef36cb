-- What one more change in the journal of a sound state does to the maps.
use Rattle.std.proofs.Common.{◌≡◌, ◌<◌, ◌≤◌, ℕ, zero, suc, Bool, true, false, cond, eqb, leb, not, set, get_or, sym, true≢false, inl, inr, List, [], ◌∷◌, ◌++◌, length, reverse, Some, None, refl, ap, ◌∙◌, subst, arith, append-nil}
use Rattle.std.specs.List.{list_all, flat_map, filter_map, fold}
use Rattle.std.specs.Map.{remove_entry}
use Rattle.std.specs.BTreeMap.{insert_entry}
use Rattle.std.specs.Ordering.{is_eq}
use Rattle.std.proofs.lemmas.Bool.{cases_Bool, cases_eq, eqb-true, eq-eqb, ne_eqb, leb-true, and_parts, false_from_ne_true}
use Rattle.std.proofs.lemmas.List.{get_or-set_same, get_or-set_other}
use Rattle.strat_base.specs.Marks.{Marks, is_dropped, has_living_child}
use Rattle.def_state.proofs.MapLemmas.{Pairs}
use Rattle.def_state.proofs.MarkLemmas.{there_known, there_living, open_there, open_childless, open_apart, put_open, delete_open, clone_there, droppable_open}
use Rattle.strat_base.proofs.PrunedLemmas.{mark_kept}
use Rattle.strat_base.specs.Order.{key_cmp}
use Rattle.strat_base.specs.Tree.{Parents, parent_of, path, with_child}
use Rattle.strat_base.specs.Entries.{Entry}
use Rattle.strat_base.specs.Change.{Change, Put, Delete, Clone, DropVersion}
use Rattle.def_state.specs.Maps.{map_over}
use Rattle.def_state.specs.Level.{level_leads, IsStratified}
use Rattle.def_state.specs.State.{State, versions_of, marks_of, tree_after, update_of, journal_updates, sources, map_at, changes_of, appended}
use Rattle.def_state.specs.Sound.{has_old_horizon, shallower, is_there, takes_updates, is_droppable, is_accepted, are_accepted, accepts_change, is_above_frozen, journal_max, IsOrdered, IsSound}
use Rattle.strat_base.proofs.ListFacts.{Among, all_at, among_split, among_flat, each_of}
use Rattle.strat_base.proofs.TreeLemmas.{path_kept, parent_kept}
use Rattle.def_state.proofs.LevelLemmas.{lead_below}
use Rattle.def_state.proofs.SoundLemmas.{sound_tree, sound_pruned, ordered, with_settled, among_back}
use Rattle.def_state.proofs.AppendedLemmas.{length-grown, ordered_appended, settled_appended}
use Rattle.def_state.proofs.StepLemmas.{versions-appended, marks-appended, updates-appended, update_map, update_ordered, update_settled}
use Rattle.def_state.proofs.ValueLemmas.{map_put, map_delete, map_kept, map_child}

-- what a sound state speaks of are its versions
pub known_updates : (changes_max versions_max : ℕ) (journal : List Change) (parents : Parents) (marks : Marks) (n : ℕ) → are_accepted changes_max versions_max parents marks n journal ≡ true
    → (e : Entry) → Among e (filter_map update_of journal) → e.version < length (fold tree_after parents journal)
known_updates changes_max versions_max [] parents marks n h e among = absurd among
known_updates changes_max versions_max (Put v key value ∷ journal) parents marks n h e among =
    let parts = and_parts (is_accepted changes_max versions_max parents marks n (Put v key value)) (are_accepted changes_max versions_max parents marks (suc n) journal) h in
    elim among [
      | inl here ↦
          let known = there_known parents marks v (open_there parents marks v (put_open changes_max versions_max parents marks n v key value parts.0)) in
          let more = length-grown parents journal in
          omega (arith, ap (λ (x : Entry). x.version) here, known, more)
      | inr there ↦ known_updates changes_max versions_max journal parents marks (suc n) parts.1 e there
    ]
known_updates changes_max versions_max (Delete v key ∷ journal) parents marks n h e among =
    let parts = and_parts (is_accepted changes_max versions_max parents marks n (Delete v key)) (are_accepted changes_max versions_max parents marks (suc n) journal) h in
    elim among [
      | inl here ↦
          let known = there_known parents marks v (open_there parents marks v (delete_open changes_max versions_max parents marks n v key parts.0)) in
          let more = length-grown parents journal in
          omega (arith, ap (λ (x : Entry). x.version) here, known, more)
      | inr there ↦ known_updates changes_max versions_max journal parents marks (suc n) parts.1 e there
    ]
known_updates changes_max versions_max (Clone v ∷ journal) parents marks n h e among =
    known_updates changes_max versions_max journal (with_child parents v) (marks ++ false ∷ []) (suc n) (and_parts (is_accepted changes_max versions_max parents marks n (Clone v)) (are_accepted changes_max versions_max (with_child parents v) (marks ++ false ∷ []) (suc n) journal) h).1 e among
known_updates changes_max versions_max (DropVersion v ∷ journal) parents marks n h e among =
    known_updates changes_max versions_max journal parents (set marks v true) (suc n) (and_parts (is_accepted changes_max versions_max parents marks n (DropVersion v)) (are_accepted changes_max versions_max parents (set marks v true) (suc n) journal) h).1 e among

module _ (s : State) (sound : IsOrdered s) where
  pub known_sources : (e : Entry) → Among e (sources s) → e.version < length (versions_of s)
  known_sources e among =
      elim (among_split (reverse (journal_updates s)) (flat_map level_leads s.levels) e among) [
        | inl update ↦ known_updates s.changes_max s.versions_max s.journal s.parents s.marks s.changes sound.formed.accepted e (among_back (journal_updates s) e update)
        | inr lead ↦
            let at = among_flat level_leads s.levels e lead in
            let low = lead_below (versions_of s) (sound_tree s sound.formed) at.0 (each_of (IsStratified (versions_of s)) s.levels at.0 sound.stratified at.1) e at.2 in
            let old = and_parts (leb at.0.horizon (length s.parents)) (list_all (λ other. leb at.0.horizon other.horizon) (shallower s at.0)) (all_at (has_old_horizon s) at.0 s.levels sound.old at.1) in
            let le = leb-true at.0.horizon (length s.parents) old.0 in
            let more = length-grown s.parents s.journal in
            omega (arith, low, le, more)
      ]

pub past_end : (marks : Marks) (v : ℕ) → length marks ≤ v → get_or marks v false ≡ false
past_end [] v le = refl
past_end (m ∷ marks) zero le = absurd (omega (arith, le))
past_end (m ∷ marks) (suc v) le = past_end marks v (omega (arith, le))

-- what is seen of a map
seen : (marks : Marks) (u : ℕ) (pairs : Pairs) → is_dropped marks u ≡ false → cond (not (is_dropped marks u)) pairs [] ≡ pairs
seen marks u pairs living = ap (λ (b : Bool). cond (not b) pairs []) living

unseen : (marks : Marks) (u : ℕ) (pairs : Pairs) → is_dropped marks u ≡ true → cond (not (is_dropped marks u)) pairs [] ≡ []
unseen marks u pairs dropped = ap (λ (b : Bool). cond (not b) pairs []) dropped

-- an update at an open version
module _ (s : State) (sound : IsOrdered s) (c : Change) (v : ℕ) (open' : takes_updates (versions_of s) (marks_of s) v ≡ true) (marks : marks_of (appended s c) ≡ marks_of s)
    (change : Pairs → Pairs)
    (map : (u : ℕ) → is_dropped (marks_of s) u ≡ false → map_over (versions_of (appended s c)) (sources (appended s c)) u ≡ cond (eqb u v) (change (map_over (versions_of s) (sources s) u)) (map_over (versions_of s) (sources s) u)) where
  changed_map : (u : ℕ) → map_at (appended s c) u ≡ cond (eqb u v) (change (map_at s u)) (map_at s u)
  changed_map u =
      let before : Pairs = map_over (versions_of s) (sources s) u in
      let after : Pairs = map_over (versions_of (appended s c)) (sources (appended s c)) u in
      elim (cases_Bool (is_dropped (marks_of s) u)) [
        | inr living ↦
            seen (marks_of (appended s c)) u after (ap (λ (m : Marks). is_dropped m u) marks ∙ living) ∙ map u living
            ∙ sym (λ i. cond (eqb u v) (change (seen (marks_of s) u before living i)) (seen (marks_of s) u before living i))
        | inl dropped ↦
            let apart : eqb u v ≡ false = false_from_ne_true (eqb u v) (λ same. true≢false (sym dropped ∙ ap (is_dropped (marks_of s)) (eqb-true u v same) ∙ there_living (versions_of s) (marks_of s) v (open_there (versions_of s) (marks_of s) v open'))) in
            unseen (marks_of (appended s c)) u after (ap (λ (m : Marks). is_dropped m u) marks ∙ dropped)
            ∙ sym (ap (λ (b : Bool). cond b (change (map_at s u)) (map_at s u)) apart ∙ unseen (marks_of s) u before dropped)
      ]

-- a put
module _ (s : State) (sound : IsOrdered s) (v : ℕ) (key value : List ℕ) (accepted : accepts_change s (Put v key value) ≡ true) (room : length s.journal < journal_max s.mem) where
  put_entry : Entry
  put_entry = record { key = key; version = v; value = Some value }

  put_at : takes_updates (versions_of s) (marks_of s) v ≡ true
  put_at = put_open s.changes_max s.versions_max (versions_of s) (marks_of s) (changes_of s) v key value accepted

  put_childless : has_living_child (versions_of s) (marks_of s) v ≡ false
  put_childless = open_childless (versions_of s) (marks_of s) v put_at

  pub put_ordered : IsOrdered (appended s (Put v key value))
  unfolding put_entry
  put_ordered = update_ordered s sound (Put v key value) put_entry refl refl accepted put_childless room

  pub put_settled : list_all (is_above_frozen s) s.levels ≡ true → list_all (is_above_frozen (appended s (Put v key value))) s.levels ≡ true
  unfolding put_entry
  put_settled = update_settled s sound (Put v key value) put_entry refl refl accepted put_childless room

  pub put_versions : versions_of (appended s (Put v key value)) ≡ versions_of s
  put_versions = versions-appended s (Put v key value)

  pub put_map : (u : ℕ) → map_at (appended s (Put v key value)) u ≡ cond (eqb u v) (insert_entry key_cmp (map_at s u) key value) (map_at s u)
  unfolding put_entry
  put_map u = changed_map s sound (Put v key value) v put_at (marks-appended s (Put v key value)) (λ pairs. insert_entry key_cmp pairs key value) (λ w living.
      update_map s sound (Put v key value) put_entry refl refl accepted put_childless room w
      ∙ map_put (versions_of s) (sound_tree s sound.formed) (sources s) v key w (open_apart (versions_of s) (sound_tree s sound.formed) (marks_of s) (sound_pruned s sound.formed) v w put_childless living) value) u

-- a deletion
module _ (s : State) (sound : IsOrdered s) (v : ℕ) (key : List ℕ) (accepted : accepts_change s (Delete v key) ≡ true) (room : length s.journal < journal_max s.mem) where
  delete_entry : Entry
  delete_entry = record { key = key; version = v; value = None }

  delete_at : takes_updates (versions_of s) (marks_of s) v ≡ true
  delete_at = delete_open s.changes_max s.versions_max (versions_of s) (marks_of s) (changes_of s) v key accepted

  delete_childless : has_living_child (versions_of s) (marks_of s) v ≡ false
  delete_childless = open_childless (versions_of s) (marks_of s) v delete_at

  pub delete_ordered : IsOrdered (appended s (Delete v key))
  unfolding delete_entry
  delete_ordered = update_ordered s sound (Delete v key) delete_entry refl refl accepted delete_childless room

  pub delete_settled : list_all (is_above_frozen s) s.levels ≡ true → list_all (is_above_frozen (appended s (Delete v key))) s.levels ≡ true
  unfolding delete_entry
  delete_settled = update_settled s sound (Delete v key) delete_entry refl refl accepted delete_childless room

  pub delete_versions : versions_of (appended s (Delete v key)) ≡ versions_of s
  delete_versions = versions-appended s (Delete v key)

  pub delete_map : (u : ℕ) → map_at (appended s (Delete v key)) u ≡ cond (eqb u v) (remove_entry (λ k. is_eq (key_cmp key k)) (map_at s u)) (map_at s u)
  unfolding delete_entry
  delete_map u = changed_map s sound (Delete v key) v delete_at (marks-appended s (Delete v key)) (λ pairs. remove_entry (λ k. is_eq (key_cmp key k)) pairs) (λ w living.
      update_map s sound (Delete v key) delete_entry refl refl accepted delete_childless room w
      ∙ map_delete (versions_of s) (sound_tree s sound.formed) (sources s) v key w (open_apart (versions_of s) (sound_tree s sound.formed) (marks_of s) (sound_pruned s sound.formed) v w delete_childless living)) u

-- a clone
module _ (s : State) (sound : IsOrdered s) (p : ℕ) (accepted : accepts_change s (Clone p) ≡ true) (room : length s.journal < journal_max s.mem) where
  clone_at : is_there (versions_of s) (marks_of s) p ≡ true
  clone_at = clone_there s.changes_max s.versions_max (versions_of s) (marks_of s) (changes_of s) p accepted

  clone_parent : p < length (versions_of s)
  clone_parent = there_known (versions_of s) (marks_of s) p clone_at

  pub clone_versions : versions_of (appended s (Clone p)) ≡ with_child (versions_of s) p
  clone_versions = versions-appended s (Clone p)

  clone_updates : journal_updates (appended s (Clone p)) ≡ journal_updates s
  clone_updates = updates-appended s (Clone p) ∙ append-nil (journal_updates s)

  pub clone_sources : sources (appended s (Clone p)) ≡ sources s
  clone_sources = ap (λ (x : List Entry). reverse x ++ flat_map level_leads s.levels) clone_updates

  clone_path : (v : ℕ) → v < length (versions_of s) → path (versions_of (appended s (Clone p))) v ≡ path (versions_of s) v
  clone_path v lt = ap (λ (x : Parents). path x v) clone_versions ∙ path_kept (versions_of s) (sound_tree s sound.formed) p clone_parent v lt

  pub clone_ordered : IsOrdered (appended s (Clone p))
  clone_ordered = ordered_appended s sound (Clone p) accepted room clone_path
      (λ v lt. ap (λ (x : Parents). parent_of x v) clone_versions ∙ parent_kept (versions_of s) (sound_tree s sound.formed) p clone_parent v lt)
      (λ e among. inl (subst (Among e) clone_updates among))

  pub clone_settled : list_all (is_above_frozen s) s.levels ≡ true → list_all (is_above_frozen (appended s (Clone p))) s.levels ≡ true
  clone_settled = settled_appended s sound (Clone p) accepted room clone_path
      (λ v lt. ap (λ (x : Parents). parent_of x v) clone_versions ∙ parent_kept (versions_of s) (sound_tree s sound.formed) p clone_parent v lt)
      (λ e among. inl (subst (Among e) clone_updates among))

  clone_over : (u : ℕ) → map_over (versions_of (appended s (Clone p))) (sources (appended s (Clone p))) u ≡ map_over (with_child (versions_of s) p) (sources s) u
  clone_over u = λ i. map_over (clone_versions i) (clone_sources i) u

  clone_dropped : (u : ℕ) → is_dropped (marks_of (appended s (Clone p))) u ≡ is_dropped (marks_of s) u
  clone_dropped u = ap (λ (m : Marks). is_dropped m u) (marks-appended s (Clone p)) ∙ mark_kept (marks_of s) u

  pub clone_map : (u : ℕ) → u < length (versions_of s) → map_at (appended s (Clone p)) u ≡ map_at s u
  clone_map u lt = (λ i. cond (not (clone_dropped u i)) ((clone_over u ∙ map_kept (versions_of s) (sound_tree s sound.formed) p clone_parent (sources s) u lt) i) [])

  pub clone_map_new : map_at (appended s (Clone p)) (length (versions_of s)) ≡ map_at s p
  clone_map_new =
      let n : ℕ = length (versions_of s) in
      seen (marks_of (appended s (Clone p))) n (map_over (versions_of (appended s (Clone p))) (sources (appended s (Clone p))) n)
      (clone_dropped n ∙ past_end (marks_of s) n (let size = (sound_pruned s sound.formed).len in omega (arith, size)))
      ∙ clone_over n ∙ map_child (versions_of s) (sound_tree s sound.formed) p clone_parent (sources s) (known_sources s sound)
      ∙ sym (seen (marks_of s) p (map_over (versions_of s) (sources s) p) (there_living (versions_of s) (marks_of s) p clone_at))

-- a version is dropped
module _ (s : State) (v : ℕ) where
  pub drop_versions : versions_of (appended s (DropVersion v)) ≡ versions_of s
  drop_versions = versions-appended s (DropVersion v)

  drop_updates : journal_updates (appended s (DropVersion v)) ≡ journal_updates s
  drop_updates = updates-appended s (DropVersion v) ∙ append-nil (journal_updates s)

  pub drop_sources : sources (appended s (DropVersion v)) ≡ sources s
  drop_sources = ap (λ (x : List Entry). reverse x ++ flat_map level_leads s.levels) drop_updates

  drop_over : (u : ℕ) → map_over (versions_of (appended s (DropVersion v))) (sources (appended s (DropVersion v))) u ≡ map_over (versions_of s) (sources s) u
  drop_over u = λ i. map_over (drop_versions i) (drop_sources i) u

  pub drop_map : IsOrdered s → is_droppable s.changes_max (versions_of s) (marks_of s) (changes_of s) v ≡ true
      → (u : ℕ) → map_at (appended s (DropVersion v)) u ≡ cond (eqb u v) [] (map_at s u)
  drop_map sound may u =
      let drop_at = (droppable_open s.changes_max s.versions_max (versions_of s) (marks_of s) (changes_of s) v may).0 in
      let marks = ap (λ (m : Marks). is_dropped m u) (marks-appended s (DropVersion v)) in
      let low = there_known (versions_of s) (marks_of s) v (open_there (versions_of s) (marks_of s) v drop_at) in
      let size = (sound_pruned s sound.formed).len in
      elim (cases_eq u v) [
        | inl same ↦
            unseen (marks_of (appended s (DropVersion v))) u (map_over (versions_of (appended s (DropVersion v))) (sources (appended s (DropVersion v))) u)
            (marks ∙ ap (λ (w : ℕ). get_or (set (marks_of s) w true) u false) (sym same) ∙ get_or-set_same (marks_of s) u true false (omega (arith, low, size, same)))
            ∙ sym (ap (λ (b : Bool). cond b [] (map_at s u)) (eq-eqb u v same))
        | inr apart ↦
            (λ i. cond (not ((marks ∙ get_or-set_other (marks_of s) v u true false apart) i)) (drop_over u i) [])
            ∙ sym (ap (λ (b : Bool). cond b [] (map_at s u)) (ne_eqb u v apart))
      ]

-- and the rules stay kept
module _ (s : State) (sound : IsOrdered s) (v : ℕ) (accepted : accepts_change s (DropVersion v) ≡ true) (room : length s.journal < journal_max s.mem) where
  pub drop_ordered : IsOrdered (appended s (DropVersion v))
  drop_ordered = ordered_appended s sound (DropVersion v) accepted room
      (λ u lt. ap (λ (x : Parents). path x u) (drop_versions s v))
      (λ u lt. ap (λ (x : Parents). parent_of x u) (drop_versions s v))
      (λ e among. inl (subst (Among e) (drop_updates s v) among))

  pub drop_settled : list_all (is_above_frozen s) s.levels ≡ true → list_all (is_above_frozen (appended s (DropVersion v))) s.levels ≡ true
  drop_settled = settled_appended s sound (DropVersion v) accepted room
      (λ u lt. ap (λ (x : Parents). path x u) (drop_versions s v))
      (λ u lt. ap (λ (x : Parents). parent_of x u) (drop_versions s v))
      (λ e among. inl (subst (Among e) (drop_updates s v) among))

-- any change that is taken
pub taken_ordered : (s : State) (c : Change) → IsOrdered s → accepts_change s c ≡ true → length s.journal < journal_max s.mem → IsOrdered (appended s c)
taken_ordered s (Put v key value) sound accepted room = put_ordered s sound v key value accepted room
taken_ordered s (Delete v key) sound accepted room = delete_ordered s sound v key accepted room
taken_ordered s (Clone v) sound accepted room = clone_ordered s sound v accepted room
taken_ordered s (DropVersion v) sound accepted room = drop_ordered s sound v accepted room

taken_settled : (s : State) (c : Change) → IsOrdered s → accepts_change s c ≡ true → length s.journal < journal_max s.mem → list_all (is_above_frozen s) s.levels ≡ true → list_all (is_above_frozen (appended s c)) s.levels ≡ true
taken_settled s (Put v key value) sound accepted room = put_settled s sound v key value accepted room
taken_settled s (Delete v key) sound accepted room = delete_settled s sound v key accepted room
taken_settled s (Clone v) sound accepted room = clone_settled s sound v accepted room
taken_settled s (DropVersion v) sound accepted room = drop_settled s sound v accepted room

pub taken_sound : (s : State) (c : Change) → IsSound s → accepts_change s c ≡ true → length s.journal < journal_max s.mem → IsSound (appended s c)
taken_sound s c sound accepted room =
    with_settled (appended s c) (taken_ordered s c (ordered s sound) accepted room) (taken_settled s c (ordered s sound) accepted room sound.settled)
