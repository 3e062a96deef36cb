-- Where the first changes of a journal are promoted, the others follow: the state stays sound and says the same.
use Rattle.std.proofs.Common.{◌≡◌, ◌<◌, ◌≤◌, ◌+◌, ℕ, suc, true, false, cond, eqb, leb, ◌&&◌, not, inl, inr, List, [], ◌∷◌, ◌++◌, length, Option, Some, None, refl, sym, ap, ◌∙◌, subst, arith, true≢false, length-append, append-nil}
use Rattle.std.specs.BTreeMap.{insert_entry}
use Rattle.std.specs.List.{list_any, list_all, flat_map, filter_map, fold, range_with_len}
use Rattle.std.specs.Map.{remove_entry}
use Rattle.std.specs.Option.{option_map_or}
use Rattle.std.specs.Ordering.{is_eq}
use Rattle.std.proofs.lemmas.Bool.{leb-true, le-leb, eqb-true, and_parts, and_from, not-true, not_from_false, false_from_ne_true, cases_lt}
use Rattle.std.proofs.lemmas.List.{append_assoc}
use Rattle.std.proofs.lemmas.List.Sums.{fold-append}
use Rattle.strat_base.specs.Order.{key_cmp}
use Rattle.strat_base.specs.Tree.{Parents, parent_of, path, IsTree}
use Rattle.strat_base.specs.Marks.{Marks, is_dropped}
use Rattle.strat_base.specs.Change.{Change, Put, Delete, Clone, DropVersion}
use Rattle.strat_base.specs.Entries.{Entry}
use Rattle.def_state.specs.Level.{Level, own_leads, level_leads, IsStratified}
use Rattle.def_state.specs.State.{State, versions_of, marks_of, tree_after, marks_after, update_of, is_living, journal_updates, map_at, changes_of, appended}
use Rattle.def_state.specs.Sound.{has_child_below, shallower, has_old_horizon, is_above_frozen, is_described, is_accepted, are_accepted, accepts_change, journal_max, IsOrdered, IsSound}
use Rattle.strat_base.proofs.ListFacts.{Among, any_among, all_at, all_from, all_same, among_split, among_left, among_right, among_flat, among_in_flat, range_among, each_of, each_from, filter_map-append}
use Rattle.strat_base.proofs.TreeLemmas.{path_kept}
use Rattle.def_state.proofs.AppendedLemmas.{stratified_kept, least_kept}
use Rattle.def_state.proofs.SealLemmas.{no_child}
use Rattle.def_state.proofs.SoundLemmas.{sound_tree, tree_from_test, clone_known, tree_accepted, ordered, with_settled}
use Rattle.def_state.proofs.StepLemmas.{versions-appended, marks-appended, updates-appended}
use Rattle.def_state.proofs.StepMaps.{taken_ordered, taken_sound, put_map, delete_map, clone_map, clone_map_new, drop_map}
use Rattle.def_promote.specs.Promoted.{SaysTheSame, promoted}
use Rattle.def_promote.specs.Replaced.{Replaces}
use Rattle.def_promote.specs.Sealed.{sealed_at, grown_by}
use Rattle.def_promote.proofs.ReplacedLemmas.{replaced_says, replaced_ordered, fresh_is, kept_was, nothing_above, above_kept, stood_above, fresh_said}

module _ (changes_max versions_max : ℕ) where
  accepted_front : (front back : List Change) (parents : Parents) (marks : Marks) (n : ℕ) → are_accepted changes_max versions_max parents marks n (front ++ back) ≡ true → are_accepted changes_max versions_max parents marks n front ≡ true
  accepted_front [] back parents marks n h = refl
  accepted_front (c ∷ front) back parents marks n h =
      let parts = and_parts (is_accepted changes_max versions_max parents marks n c) (are_accepted changes_max versions_max (tree_after parents c) (marks_after marks c) (suc n) (front ++ back)) h in
      and_from (is_accepted changes_max versions_max parents marks n c) (are_accepted changes_max versions_max (tree_after parents c) (marks_after marks c) (suc n) front) parts.0 (accepted_front front back (tree_after parents c) (marks_after marks c) (suc n) parts.1)

  accepted_back : (front back : List Change) (parents : Parents) (marks : Marks) (n : ℕ) → are_accepted changes_max versions_max parents marks n (front ++ back) ≡ true
      → are_accepted changes_max versions_max (fold tree_after parents front) (fold marks_after marks front) (n + length front) back ≡ true
  accepted_back [] back parents marks n h = let same : n + 0 ≡ n = omega arith in ap (λ (m : ℕ). are_accepted changes_max versions_max parents marks m back) same ∙ h
  accepted_back (c ∷ front) back parents marks n h =
      let parts = and_parts (is_accepted changes_max versions_max parents marks n c) (are_accepted changes_max versions_max (tree_after parents c) (marks_after marks c) (suc n) (front ++ back)) h in
      let same : n + suc (length front) ≡ suc n + length front = omega arith in
      ap (λ (m : ℕ). are_accepted changes_max versions_max (fold tree_after (tree_after parents c) front) (fold marks_after (marks_after marks c) front) m back) same ∙ accepted_back front back (tree_after parents c) (marks_after marks c) (suc n) parts.1

  -- what one change leaves of the tree
  path_stays : (c : Change) (parents : Parents) (marks : Marks) (n : ℕ) → IsTree parents → is_accepted changes_max versions_max parents marks n c ≡ true → (v : ℕ) → v < length parents
      → (path (tree_after parents c) v ≡ path parents v) × (length parents ≤ length (tree_after parents c))
  path_stays (Put u key value) parents marks n tree h v lt = (refl, omega arith)
  path_stays (Delete u key) parents marks n tree h v lt = (refl, omega arith)
  path_stays (Clone p) parents marks n tree h v lt =
      let known = clone_known changes_max versions_max parents marks n p h in
      let more = length-append parents (Some p ∷ []) in
      (path_kept parents tree p known v lt, omega (arith, more))
  path_stays (DropVersion u) parents marks n tree h v lt = (refl, omega arith)

  path_grown : (journal : List Change) (parents : Parents) (marks : Marks) (n : ℕ) → IsTree parents → are_accepted changes_max versions_max parents marks n journal ≡ true → (v : ℕ) → v < length parents
      → path (fold tree_after parents journal) v ≡ path parents v
  path_grown [] parents marks n tree h v lt = refl
  path_grown (c ∷ journal) parents marks n tree h v lt =
      let parts = and_parts (is_accepted changes_max versions_max parents marks n c) (are_accepted changes_max versions_max (tree_after parents c) (marks_after marks c) (suc n) journal) h in
      let here = path_stays c parents marks n tree parts.0 v lt in
      path_grown journal (tree_after parents c) (marks_after marks c) (suc n) (tree_accepted changes_max versions_max parents marks n c tree parts.0) parts.1 v (omega (arith, lt, here.1))
      ∙ here.0

module _ (s : State) (sound : IsOrdered s) (sealed rest : List Change) (parts : s.journal ≡ sealed ++ rest) where
  abbrev before : State
  before = sealed_at s sealed

  tree : IsTree s.parents
  tree = tree_from_test s.parents sound.formed.tree

  pub whole_accepted : are_accepted s.changes_max s.versions_max s.parents s.marks s.changes (sealed ++ rest) ≡ true
  whole_accepted = ap (λ (journal : List Change). are_accepted s.changes_max s.versions_max s.parents s.marks s.changes journal) (sym parts) ∙ sound.formed.accepted

  accepted : are_accepted s.changes_max s.versions_max s.parents s.marks s.changes sealed ≡ true
  accepted = accepted_front s.changes_max s.versions_max sealed rest s.parents s.marks s.changes whole_accepted

  path_before : (v : ℕ) → v < length s.parents → path (versions_of before) v ≡ path (versions_of s) v
  path_before v lt =
      path_grown s.changes_max s.versions_max sealed s.parents s.marks s.changes tree accepted v lt
      ∙ sym (path_grown s.changes_max s.versions_max s.journal s.parents s.marks s.changes tree sound.formed.accepted v lt)

  horizon_old : (level : Level) → Among level s.levels → level.horizon ≤ length s.parents
  horizon_old level here =
      leb-true level.horizon (length s.parents) (and_parts (leb level.horizon (length s.parents)) (list_all (λ other. leb level.horizon other.horizon) (shallower s level)) (all_at (has_old_horizon s) level s.levels sound.old here)).0

  pub updates_parts : journal_updates s ≡ journal_updates before ++ filter_map update_of rest
  updates_parts = ap (λ (journal : List Change). filter_map update_of journal) parts ∙ filter_map-append update_of sealed rest

  -- before its last changes a state kept all rules but j
  pub before_ordered : IsOrdered before
  before_ordered = record {
    formed = record {
      tree = sound.formed.tree;
      pruned = sound.formed.pruned;
      numbered = sound.formed.numbered;
      accepted = accepted;
      fits =
          let whole = ap (λ (journal : List Change). length journal) parts in
          let sum = length-append sealed rest in
          let fits = leb-true (length s.journal) (journal_max s.mem) sound.formed.fits in
          le-leb (length sealed) (journal_max s.mem) (omega (arith, whole, sum, fits));
    };
    stratified = each_from (IsStratified (versions_of before)) s.levels (λ level here.
        stratified_kept (versions_of s) (versions_of before) (length s.parents) path_before level (sound_tree s sound.formed) (each_of (IsStratified (versions_of s)) s.levels level sound.stratified here) (horizon_old level here));
    roomy = sound.roomy;
    old = sound.old;
    described =
        all_same (λ level. list_all (is_described before) level.arrays) (λ level. list_all (is_described s) level.arrays) s.levels (λ level here.
        all_same (is_described before) (is_described s) level.arrays (λ a inside.
        ap (λ (n : ℕ). (eqb a.entries (length a.content) && eqb a.leads (length (own_leads a))) && eqb a.least n)
        (least_kept (versions_of s) (versions_of before) (length s.parents) path_before level (sound_tree s sound.formed) (each_of (IsStratified (versions_of s)) s.levels level sound.stratified here) (horizon_old level here) a inside)))
        ∙ sound.described;
    few = sound.few;
    ascending = sound.ascending;
  }

-- the same change of two states that say the same

module _ (a b : State) (same : SaysTheSame a b) (one : IsOrdered a) (two : IsOrdered b) where
  maps_after : (c : Change) → accepts_change a c ≡ true → accepts_change b c ≡ true → length a.journal < journal_max a.mem → length b.journal < journal_max b.mem → (v : ℕ) → v < length (versions_of (appended a c)) → map_at (appended b c) v ≡ map_at (appended a c) v
  maps_after (Put u key value) left right fits_a fits_b v known =
      let lt : v < length (versions_of a) = subst (λ (parents : Parents). v < length parents) (versions-appended a (Put u key value)) known in
      put_map b two u key value right fits_b v
      ∙ (λ i. cond (eqb v u) (insert_entry key_cmp (same.maps v lt i) key value) (same.maps v lt i))
      ∙ sym (put_map a one u key value left fits_a v)
  maps_after (Delete u key) left right fits_a fits_b v known =
      let lt : v < length (versions_of a) = subst (λ (parents : Parents). v < length parents) (versions-appended a (Delete u key)) known in
      delete_map b two u key right fits_b v
      ∙ (λ i. cond (eqb v u) (remove_entry (λ k. is_eq (key_cmp key k)) (same.maps v lt i)) (same.maps v lt i))
      ∙ sym (delete_map a one u key left fits_a v)
  maps_after (Clone p) left right fits_a fits_b v known =
      let length_same = ap (λ (parents : Parents). length parents) same.versions in
      let grown = ap (λ (parents : Parents). length parents) (versions-appended a (Clone p)) in
      let more = length-append (versions_of a) (Some p ∷ []) in
      elim (cases_lt v (length (versions_of a))) [
        | inl lt ↦
            clone_map b two p right fits_b v (omega (arith, lt, length_same))
            ∙ same.maps v lt
            ∙ sym (clone_map a one p left fits_a v lt)
        | inr le ↦
            let here : v ≡ length (versions_of a) = omega (arith, le, known, grown, more) in
            let there : v ≡ length (versions_of b) = omega (arith, here, length_same) in
            let parent = clone_known a.changes_max a.versions_max (versions_of a) (marks_of a) (changes_of a) p left in
            ap (λ (u : ℕ). map_at (appended b (Clone p)) u) there
            ∙ clone_map_new b two p right fits_b
            ∙ same.maps p parent
            ∙ sym (ap (λ (u : ℕ). map_at (appended a (Clone p)) u) here ∙ clone_map_new a one p left fits_a)
      ]
  maps_after (DropVersion u) left right fits_a fits_b v known =
      let lt : v < length (versions_of a) = subst (λ (parents : Parents). v < length parents) (versions-appended a (DropVersion u)) known in
      drop_map b u two right v
      ∙ (λ i. cond (eqb v u) [] (same.maps v lt i))
      ∙ sym (drop_map a u one left v)

  says_after : (c : Change) → accepts_change a c ≡ true → accepts_change b c ≡ true → length a.journal < journal_max a.mem → length b.journal < journal_max b.mem → SaysTheSame (appended a c) (appended b c)
  says_after c accepts_a accepts_b fits_a fits_b =
      let left = ap (λ (es : List Entry). length es) (updates-appended a c) in
      let right = ap (λ (es : List Entry). length es) (updates-appended b c) in
      let left_sum = length-append (journal_updates a) (filter_map update_of (c ∷ [])) in
      let right_sum = length-append (journal_updates b) (filter_map update_of (c ∷ [])) in
      let left_more = length-append a.journal (c ∷ []) in
      let right_more = length-append b.journal (c ∷ []) in
      let updates = same.updates in
      let changes = same.changes in
      record {
        mem = same.mem;
        changes_max = same.changes_max;
        versions_max = same.versions_max;
        versions = versions-appended b c ∙ ap (λ (parents : Parents). tree_after parents c) same.versions ∙ sym (versions-appended a c);
        marks = marks-appended b c ∙ ap (λ (marks : Marks). marks_after marks c) same.marks ∙ sym (marks-appended a c);
        maps = maps_after c accepts_a accepts_b fits_a fits_b;
        updates = omega (arith, left, right, left_sum, right_sum, updates);
        changes = omega (arith, left_more, right_more, changes);
      }

  accepted_same : (c : Change) → accepts_change a c ≡ true → accepts_change b c ≡ true
  accepted_same c accepts = (λ i. is_accepted (same.changes_max i) (same.versions_max i) (same.versions i) (same.marks i) (same.changes i) c) ∙ accepts

grown_step : (s : State) (c : Change) (rest : List Change) → grown_by (appended s c) rest ≡ grown_by s (c ∷ rest)
grown_step s c rest = ap (λ (journal : List Change). record s { journal = journal }) (append_assoc s.journal (c ∷ []) rest)

grown_none : (s : State) → grown_by s [] ≡ s
grown_none s = ap (λ (journal : List Change). record s { journal = journal }) (append-nil s.journal)

-- changes that one of two states takes in turn lead both to states in order that say the same
pub replayed : (rest : List Change) (a b : State) → IsOrdered a → IsOrdered b → SaysTheSame a b → are_accepted a.changes_max a.versions_max (versions_of a) (marks_of a) (changes_of a) rest ≡ true
    → length a.journal + length rest ≤ journal_max a.mem → length b.journal + length rest ≤ journal_max b.mem → IsOrdered (grown_by b rest) × SaysTheSame (grown_by a rest) (grown_by b rest)
replayed [] a b one two same accepts left right = (
  subst (λ (s : State). IsOrdered s) (sym (grown_none b)) two,
  (subst (λ (s : State). SaysTheSame s (grown_by b [])) (sym (grown_none a)) (subst (λ (s : State). SaysTheSame a s) (sym (grown_none b)) same)),
)
replayed (c ∷ rest) a b one two same accepts left right =
    let parts = and_parts (is_accepted a.changes_max a.versions_max (versions_of a) (marks_of a) (changes_of a) c) (are_accepted a.changes_max a.versions_max (tree_after (versions_of a) c) (marks_after (marks_of a) c) (suc (changes_of a)) rest) accepts in
    let also = accepted_same a b same one two c parts.0 in
    let room_a : length a.journal < journal_max a.mem = omega (arith, left) in
    let room_b : length b.journal < journal_max b.mem = omega (arith, right) in
    let left_more = length-append a.journal (c ∷ []) in
    let right_more = length-append b.journal (c ∷ []) in
    let counted : changes_of (appended a c) ≡ suc (changes_of a) = omega (arith, left_more) in
    let later = replayed rest (appended a c) (appended b c) (taken_ordered a c one parts.0 room_a) (taken_ordered b c two also room_b) (says_after a b same one two c parts.0 also room_a room_b)
    ((λ i. are_accepted a.changes_max a.versions_max (versions-appended a c i) (marks-appended a c i) (counted i) rest) ∙ parts.1)
    (omega (arith, left, left_more)) (omega (arith, right, right_more)) in (
      subst (λ (s : State). IsOrdered s) (grown_step b c rest) later.0,
      (subst (λ (s : State). SaysTheSame s (grown_by b (c ∷ rest))) (grown_step a c rest)
          (subst (λ (s : State). SaysTheSame (grown_by (appended a c) rest) s) (grown_step b c rest) later.1)),
    )

-- where the first changes of a journal are promoted, the others follow
module _ (s : State) (sound : IsSound s) (sealed rest : List Change) (parts : s.journal ≡ sealed ++ rest) (j : ℕ) (taken kept fresh : List Level) (entries over : List Entry)
    (r : Replaces (sealed_at s sealed) j taken kept fresh entries over) (written next_array : ℕ) where
  abbrev old : State
  old = sealed_at s sealed

  abbrev new : State
  new = promoted old (fresh ++ kept) written next_array

  abbrev final : State
  final = grown_by new rest

  was : IsOrdered old
  was = before_ordered s (ordered s sound) sealed rest parts

  both : IsOrdered final × SaysTheSame (grown_by old rest) final
  both =
      let whole = ap (λ (journal : List Change). length journal) parts in
      let sum = length-append sealed rest in
      let fits = leb-true (length s.journal) (journal_max s.mem) sound.formed.fits in
      replayed rest old new was (replaced_ordered old was j taken kept fresh entries over r written next_array) (replaced_says old was j taken kept fresh entries over r written next_array)
      (accepted_back s.changes_max s.versions_max sealed rest s.parents s.marks s.changes (whole_accepted s (ordered s sound) sealed rest parts))
      (omega (arith, whole, sum, fits)) (omega (arith, whole, sum, fits))

  pub follows_says : SaysTheSame s final
  follows_says = subst (λ (x : State). SaysTheSame x final) (ap (λ (journal : List Change). record s { journal = journal }) (sym parts)) both.1

  child_same : (h v : ℕ) → has_child_below final h v ≡ has_child_below s h v
  child_same h v = λ i. list_any (λ c. option_map_or (λ p. eqb p v) (parent_of (follows_says.versions i) c) false && not (is_dropped (follows_says.marks i) c)) (range_with_len 0 h)

  -- a late update is at a version without a living child that was there when the promotion began
  late_childless : (e : Entry) → Among e (filter_map update_of rest) → has_child_below s (length (versions_of old)) e.version ≡ false
  late_childless e late =
      false_from_ne_true (has_child_below s (length (versions_of old)) e.version) (λ some.
      let found = any_among (λ c. option_map_or (λ p. eqb p e.version) (parent_of (versions_of s) c) false && is_living s c) (range_with_len 0 (length (versions_of old))) some in
      let tests = and_parts (option_map_or (λ p. eqb p e.version) (parent_of (versions_of s) found.0) false) (is_living s found.0) found.2 in
      let lt = range_among 0 (length (versions_of old)) found.0 found.1 in
      let tree_is : versions_of s ≡ fold tree_after (versions_of old) rest = ap (fold tree_after s.parents) parts ∙ fold-append tree_after s.parents sealed rest in
      let marks_are : marks_of s ≡ fold marks_after (marks_of old) rest = ap (fold marks_after s.marks) parts ∙ fold-append marks_after s.marks sealed rest in
      no_child s.changes_max s.versions_max rest (versions_of old) (marks_of old) (s.changes + length sealed) e found.0
      (accepted_back s.changes_max s.versions_max sealed rest s.parents s.marks s.changes (whole_accepted s (ordered s sound) sealed rest parts))
      late (omega (arith, lt.1))
      (ap (λ (p : Parents). parent_of p found.0) (sym tree_is) ∙ parent_is (parent_of (versions_of s) found.0) e.version tests.0)
      (ap (λ (m : Marks). is_dropped m found.0) (sym marks_are) ∙ not-true (is_dropped (marks_of s) found.0) tests.1))
    where
      parent_is : (o : Option ℕ) (v : ℕ) → option_map_or (λ p. eqb p v) o false ≡ true → o ≡ Some v
      parent_is None v is = absurd (true≢false (sym is))
      parent_is (Some p) v is = ap (λ (q : ℕ). Some q) (eqb-true p v is)

  frozen : list_all (is_above_frozen final) (fresh ++ kept) ≡ true
  frozen =
      all_from (is_above_frozen final) (fresh ++ kept) (λ level among.
      all_from (λ e. not (has_child_below final level.horizon e.version)) (filter_map update_of rest ++ flat_map level_leads (shallower new level)) (λ e above.
      not_from_false (has_child_below final level.horizon e.version) (child_same level.horizon e.version ∙ childless level among e above)))
    where
      in_s : (level : Level) → Among level s.levels → (e : Entry) → Among e (journal_updates s ++ flat_map level_leads (shallower s level)) → has_child_below s level.horizon e.version ≡ false
      in_s level here e there =
          not-true (has_child_below s level.horizon e.version)
          (all_at (λ x. not (has_child_below s level.horizon x.version)) e (journal_updates s ++ flat_map level_leads (shallower s level)) (all_at (is_above_frozen s) level s.levels sound.settled here) there)

      updates_are : journal_updates s ≡ journal_updates old ++ filter_map update_of rest
      updates_are = updates_parts s (ordered s sound) sealed rest parts

      from_old : (level : Level) (e : Entry) → Among e (journal_updates old ++ flat_map level_leads (shallower s level)) → Among e (journal_updates s ++ flat_map level_leads (shallower s level))
      from_old level e there =
          elim (among_split (journal_updates old) (flat_map level_leads (shallower s level)) e there) [
            | inl update ↦ among_left (journal_updates s) (flat_map level_leads (shallower s level)) e (subst (λ (es : List Entry). Among e es) (sym updates_are) (among_left (journal_updates old) (filter_map update_of rest) e update))
            | inr lead ↦ among_right (journal_updates s) (flat_map level_leads (shallower s level)) e lead
          ]

      childless : (level : Level) → Among level (fresh ++ kept) → (e : Entry) → Among e (filter_map update_of rest ++ flat_map level_leads (shallower new level)) → has_child_below s level.horizon e.version ≡ false
      childless level among e above =
          elim (among_split fresh kept level among) [
            | inl here ↦
                elim (among_split (filter_map update_of rest) (flat_map level_leads (shallower new level)) e above) [
                  | inl late ↦ ap (λ (h : ℕ). has_child_below s h e.version) (fresh_is old was j taken kept fresh entries over r written next_array level here).horizon ∙ late_childless e late
                  | inr lead ↦
                      let at = among_flat level_leads (shallower new level) e lead in
                      absurd (nothing_above old was j taken kept fresh entries over r written next_array level at.0 here at.1)
                ]
            | inr there ↦
                let stood = kept_was old was j taken kept fresh entries over r written next_array level there in
                elim (among_split (filter_map update_of rest) (flat_map level_leads (shallower new level)) e above) [
                  | inl late ↦
                      in_s level stood e (among_left (journal_updates s) (flat_map level_leads (shallower s level)) e (subst (λ (es : List Entry). Among e es) (sym updates_are) (among_right (journal_updates old) (filter_map update_of rest) e late)))
                  | inr lead ↦
                      let at = among_flat level_leads (shallower new level) e lead in
                      elim (above_kept old was j taken kept fresh entries over r written next_array level at.0 there at.1) [
                        | inl one ↦
                            in_s level stood e (from_old level e (stood_above old was j taken kept fresh entries over r written next_array level there e
                            (fresh_said old was j taken kept fresh entries over r written next_array e (among_in_flat level_leads fresh at.0 e one at.2))))
                        | inr two ↦ in_s level stood e (among_right (journal_updates s) (flat_map level_leads (shallower s level)) e (among_in_flat level_leads (shallower s level) at.0 e two at.2))
                      ]
                ]
          ]

  pub follows_sound : IsSound final
  follows_sound = with_settled final both.0 frozen

-- changes that a sound state takes in turn leave it sound
pub sound_after : (rest : List Change) (s : State) → IsSound s → are_accepted s.changes_max s.versions_max (versions_of s) (marks_of s) (changes_of s) rest ≡ true → length s.journal + length rest ≤ journal_max s.mem
    → IsSound (grown_by s rest)
sound_after [] s sound accepts room = subst (λ (x : State). IsSound x) (sym (grown_none s)) sound
sound_after (c ∷ rest) s sound accepts room =
    let parts = and_parts (is_accepted s.changes_max s.versions_max (versions_of s) (marks_of s) (changes_of s) c) (are_accepted s.changes_max s.versions_max (tree_after (versions_of s) c) (marks_after (marks_of s) c) (suc (changes_of s)) rest) accepts in
    let more = length-append s.journal (c ∷ []) in
    let counted : changes_of (appended s c) ≡ suc (changes_of s) = omega (arith, more) in
    subst (λ (x : State). IsSound x) (grown_step s c rest)
    (sound_after rest (appended s c) (taken_sound s c sound parts.0 (omega (arith, room)))
    ((λ i. are_accepted s.changes_max s.versions_max (versions-appended s c i) (marks-appended s c i) (counted i) rest) ∙ parts.1)
    (omega (arith, room, more)))
