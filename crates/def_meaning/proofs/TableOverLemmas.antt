-- What each command answers at the table of a tree and entries, and the table after it.
use Rattle.std.proofs.Common.{◌≡◌, ◌≢◌, ◌<◌, ◌+◌, ℕ, Bool, true, false, if◌then◌else◌, eqb, not, set, inl, inr, List, [], ◌∷◌, ◌++◌, length, reverse, Some, None, refl, sym, ap, ◌∙◌, subst, arith, length-append, append-nil}
use Rattle.std.specs.List.{find, flat_map}
use Rattle.std.proofs.lemmas.Bool.{ltb-true, lt-ltb}
use Rattle.strat_base.specs.Tree.{Parents, is_known, parent_of, depth, with_child}
use Rattle.strat_base.specs.Marks.{Marks, has_living_child}
use Rattle.strat_base.specs.Entries.{Entry, is_at}
use Rattle.strat_base.proofs.ListFacts.{Among, all_at, all_from, among_reverse}
use Rattle.strat_base.proofs.PrunedLemmas.{pruned_root, pruned_grown, pruned_dropped}
use Rattle.strat_base.proofs.TreeLemmas.{tree_grown}
use Rattle.def_state.specs.Maps.{value_over, map_over}
use Rattle.def_state.specs.Setting.{set_entry, set_all}
use Rattle.def_state.specs.Level.{Level, level_leads}
use Rattle.def_state.specs.State.{State, versions_of, marks_of, journal_updates, sources}
use Rattle.def_state.specs.Sound.{is_there, takes_updates, IsSound}
use Rattle.def_state.proofs.MapLemmas.{value_in-lookup}
use Rattle.def_state.proofs.ValueLemmas.{map_value}
use Rattle.def_state.proofs.SettingLemmas.{find_set, set_among}
use Rattle.def_state.proofs.MarkLemmas.{there_known, there_living, open_there, open_childless}
use Rattle.def_state.proofs.SoundLemmas.{tree_from_test, sound_tree, sound_pruned, ordered}
use Rattle.def_state.proofs.StepMaps.{known_sources}
use Rattle.def_state.proofs.UpdateLemmas.{all_among, all_found}
use Rattle.strat_model.specs.Pairs.{Pairs, value_of}
use Rattle.strat_model.specs.Pairs as pairs
use Rattle.strat_model.specs.Table.{Row, Table, fresh, parents_of}
use Rattle.strat_model.specs.declared.replies.Reply.TheVariants as reply
use Rattle.strat_model.specs.declared.replies.Refusal.TheVariants as why
use Rattle.strat_model.specs.Answer.{Answer, plain}
use Rattle.strat_model.specs.Request.{Put, Delete, Get, Clone, DropVersion, Info, Stat}
use Rattle.strat_model.specs.Step.{Outcome, refuses, replies_with, step, update, found, has_row, is_frozen, pairs_at, with_pairs, with_dropped}
use Rattle.def_meaning.specs.StateTable.{table_of}
use Rattle.def_meaning.specs.TableOver.{pairs_over, rows_over, IsTableOver, update_over, clone_over, drop_over, get_over, info_over, stat_over}
use Rattle.def_meaning.proofs.RowLemmas.{rows_many, parents_are, rows_known, rows_frozen, row_pairs, pairs_living, rows_found, put_rows, delete_rows, clone_rows, drop_rows}

-- an update, by what refuses it and the rows that it makes
abbrev update_chosen : Table → Bool → Bool → Bool → List Row → Outcome
update_chosen t known frozen full rows =
    if not known then refuses t why.UnknownVersion else if frozen then refuses t why.Frozen else if full then refuses t why.ChangeLimit else
    record { answer = plain reply.Done; table = record t { rows = rows; updates = t.updates + 1; changes = t.changes + 1 } }

update_same : (t : Table) (known frozen full : Bool) (rows others : List Row) → (known ≡ true → frozen ≡ false → rows ≡ others) → update_chosen t known frozen full rows ≡ update_chosen t known frozen full others
update_same t false frozen full rows others same = refl
update_same t true true full rows others same = refl
update_same t true false full rows others same = ap (update_chosen t true false full) (same refl refl)

-- a clone, by what refuses it, its number and the rows that it makes
abbrev clone_chosen : Table → Bool → Bool → Bool → ℕ → List Row → Outcome
clone_chosen t known many full n rows =
    if not known then refuses t why.UnknownVersion else if many then refuses t why.VersionLimit else if full then refuses t why.ChangeLimit else
    record { answer = plain (reply.Made n); table = record t { rows = rows; changes = t.changes + 1 } }

clone_same : (t : Table) (known many full : Bool) (n : ℕ) (rows others : List Row) → (known ≡ true → rows ≡ others) → clone_chosen t known many full n rows ≡ clone_chosen t known many full n others
clone_same t false many full n rows others same = refl
clone_same t true many full n rows others same = ap (clone_chosen t true many full n) (same refl)

-- a drop, by what refuses it and the rows that it makes
abbrev drop_chosen : Table → Bool → Bool → Bool → Bool → List Row → Outcome
drop_chosen t known root frozen full rows =
    if not known then refuses t why.UnknownVersion else if root then refuses t why.Root else if frozen then refuses t why.Frozen else if full then refuses t why.ChangeLimit else
    record { answer = plain reply.Done; table = record t { rows = rows; changes = t.changes + 1 } }

drop_same : (t : Table) (known root frozen full : Bool) (rows others : List Row) → (known ≡ true → rows ≡ others) → drop_chosen t known root frozen full rows ≡ drop_chosen t known root frozen full others
drop_same t false root frozen full rows others same = refl
drop_same t true root frozen full rows others same = ap (drop_chosen t true root frozen full) (same refl)

-- an answer about a version
abbrev told_chosen : Table → Bool → Answer → Outcome
told_chosen t known answer = if known then replies_with t answer else refuses t why.UnknownVersion

told_same : (t : Table) (known : Bool) (answer other : Answer) → (known ≡ true → answer ≡ other) → told_chosen t known answer ≡ told_chosen t known other
told_same t false answer other same = refl
told_same t true answer other same = ap (replies_with t) (same refl)

abbrev child_row : ℕ → Pairs → Row
child_row p m = record { parent = Some p; dropped = false; pairs = m }

-- a new table is that of version 0 alone and no entry
pub fresh_over : (changes_max versions_max : ℕ) → IsTableOver (None ∷ []) (false ∷ []) [] (fresh changes_max versions_max)
fresh_over changes_max versions_max = record { tree = tree_from_test (None ∷ []) refl; pruned = pruned_root; known = refl; rows = refl }

module _ (parents : Parents) (marks : Marks) (entries : List Entry) (t : Table) (over : IsTableOver parents marks entries t) where
  pub length_over : length t.rows ≡ length parents
  length_over = rows_many (pairs_over parents marks entries) marks parents t over.rows

  pub parents_over : parents_of t ≡ parents
  parents_over = parents_are (pairs_over parents marks entries) marks parents t over.rows

  pub known_over : (v : ℕ) → has_row t v ≡ is_there parents marks v
  known_over = rows_known (pairs_over parents marks entries) marks parents t over.rows

  pub frozen_over : (v : ℕ) → is_frozen t v ≡ has_living_child parents marks v
  frozen_over = rows_frozen (pairs_over parents marks entries) marks parents t over.rows

  pub map_over_is : (v : ℕ) → is_there parents marks v ≡ true → pairs_at t v ≡ pairs_over parents marks entries v
  map_over_is v there = ap (λ (x : List Row). pairs_at (record t { rows = x }) v) over.rows ∙ row_pairs parents marks entries v (there_known parents marks v there)

  entry_known : (e : Entry) → Among e entries → e.version < length parents
  entry_known e among = ltb-true e.version (length parents) (all_at (λ d. is_known parents d.version) e entries over.known among)

  -- after an entry was set at a version of the tree
  pub set_stands : (e : Entry) → is_known parents e.version ≡ true → (after : Table) → after.rows ≡ rows_over parents marks (set_entry e entries) → IsTableOver parents marks (set_entry e entries) after
  set_stands e here after rows = record {
    tree = over.tree;
    pruned = over.pruned;
    known = all_from (λ d. is_known parents d.version) (set_entry e entries) (λ d among.
        elim (set_among e entries d among) [
          | inl same ↦ ap (λ (x : Entry). is_known parents x.version) same ∙ here
          | inr older ↦ all_at (λ x. is_known parents x.version) d entries over.known older
        ]);
    rows = rows;
  }

  -- after a child was made of a version that is there
  pub clone_stands : (p : ℕ) → is_there parents marks p ≡ true → (after : Table) → after.rows ≡ rows_over (with_child parents p) (marks ++ false ∷ []) entries
      → IsTableOver (with_child parents p) (marks ++ false ∷ []) entries after
  clone_stands p here after rows = record {
    tree = tree_grown parents over.tree p (there_known parents marks p here);
    pruned = pruned_grown parents over.tree marks over.pruned p (there_known parents marks p here) (there_living parents marks p here);
    known = all_from (λ d. is_known (with_child parents p) d.version) entries (λ d among.
        let lt : d.version < length parents = entry_known d among in
        lt-ltb d.version (length (with_child parents p)) (omega (arith, length-append parents (Some p ∷ []))));
    rows = rows;
  }

  -- after a version without a living child was dropped
  pub drop_stands : (v : ℕ) → takes_updates parents marks v ≡ true → v ≢ 0 → (after : Table) → after.rows ≡ rows_over parents (set marks v true) entries → IsTableOver parents (set marks v true) entries after
  drop_stands v here apart after rows = record {
    tree = over.tree;
    pruned = pruned_dropped parents over.tree marks over.pruned v (omega (arith, apart)) (there_known parents marks v (open_there parents marks v here)) (open_childless parents marks v here);
    known = over.known;
    rows = rows;
  }

  updated_over : (v : ℕ) (new : Pairs) (e : Entry) → (is_there parents marks v ≡ true → has_living_child parents marks v ≡ false → with_pairs t.rows v new ≡ rows_over parents marks (set_entry e entries))
      → update t v new ≡ update_chosen t (is_there parents marks v) (has_living_child parents marks v) (eqb t.changes t.changes_max) (rows_over parents marks (set_entry e entries))
  updated_over v new e rows =
      (λ i. update_chosen t (known_over v i) (frozen_over v i) (eqb t.changes t.changes_max) (with_pairs t.rows v new))
      ∙ update_same t (is_there parents marks v) (has_living_child parents marks v) (eqb t.changes t.changes_max) (with_pairs t.rows v new) (rows_over parents marks (set_entry e entries)) rows

  rows_set_over : (e : Entry) → rows_over parents marks (e ∷ entries) ≡ rows_over parents marks (set_entry e entries)
  rows_set_over e = sym (rows_found parents over.tree marks (e ∷ entries) (set_entry e entries) (λ key u. find_set key u e entries))

  pub put_over : (v : ℕ) (key value : List ℕ) → step t (Put v key value) ≡ update_over parents marks entries t (record { key = key; version = v; value = Some value })
  put_over v key value =
      updated_over v (pairs.set key value (pairs_at t v)) (record { key = key; version = v; value = Some value }) (λ there free.
      (λ i. with_pairs (over.rows i) v (pairs.set key value (map_over_is v there i)))
      ∙ put_rows parents over.tree marks over.pruned entries v key (there_known parents marks v there) (there_living parents marks v there) free value
      ∙ rows_set_over (record { key = key; version = v; value = Some value }))

  pub delete_over : (v : ℕ) (key : List ℕ) → step t (Delete v key) ≡ update_over parents marks entries t (record { key = key; version = v; value = None })
  delete_over v key =
      updated_over v (pairs.unset key (pairs_at t v)) (record { key = key; version = v; value = None }) (λ there free.
      (λ i. with_pairs (over.rows i) v (pairs.unset key (map_over_is v there i)))
      ∙ delete_rows parents over.tree marks over.pruned entries v key (there_known parents marks v there) (there_living parents marks v there) free
      ∙ rows_set_over (record { key = key; version = v; value = None }))

  pub clone_is_over : (p : ℕ) → step t (Clone p) ≡ clone_over parents marks entries t p
  clone_is_over p =
      let after : List Row = rows_over (with_child parents p) (marks ++ false ∷ []) entries in
      (λ i. clone_chosen t (known_over p i) (eqb (length_over i) t.versions_max) (eqb t.changes t.changes_max) (length_over i) (t.rows ++ child_row p (pairs_at t p) ∷ []))
      ∙ clone_same t (is_there parents marks p) (eqb (length parents) t.versions_max) (eqb t.changes t.changes_max) (length parents) (t.rows ++ child_row p (pairs_at t p) ∷ []) after
      (λ there. (λ i. over.rows i ++ child_row p (map_over_is p there i) ∷ [])
      ∙ clone_rows parents over.tree marks over.pruned.len entries p (there_known parents marks p there) (there_living parents marks p there) entry_known)

  pub drop_is_over : (v : ℕ) → step t (DropVersion v) ≡ drop_over parents marks entries t v
  drop_is_over v =
      let after : List Row = rows_over parents (set marks v true) entries in
      (λ i. drop_chosen t (known_over v i) (eqb v 0) (frozen_over v i) (eqb t.changes t.changes_max) (with_dropped t.rows v))
      ∙ drop_same t (is_there parents marks v) (eqb v 0) (has_living_child parents marks v) (eqb t.changes t.changes_max) (with_dropped t.rows v) after
      (λ there. ap (λ (x : List Row). with_dropped x v) over.rows ∙ drop_rows parents over.tree marks over.pruned.len entries v (there_known parents marks v there))

  pub value_is_over : (v : ℕ) (key : List ℕ) → is_there parents marks v ≡ true → value_of (pairs_at t v) key ≡ value_over parents entries v key
  value_is_over v key there =
      ap (λ (m : Pairs). value_of m key) (map_over_is v there ∙ pairs_living parents marks entries v (there_living parents marks v there))
      ∙ value_in-lookup key (map_over parents entries v) ∙ map_value parents entries v over.tree key

  pub get_is_over : (v : ℕ) (key : List ℕ) → step t (Get v key) ≡ get_over parents marks entries t v key
  get_is_over v key =
      ap (λ (b : Bool). told_chosen t b (found key (value_of (pairs_at t v) key))) (known_over v)
      ∙ told_same t (is_there parents marks v) (found key (value_of (pairs_at t v) key)) (found key (value_over parents entries v key)) (λ there. ap (found key) (value_is_over v key there))

  pub info_is_over : (v : ℕ) → step t (Info v) ≡ info_over parents marks t v
  info_is_over v = λ i. told_chosen t (known_over v i) (plain (reply.Info (parent_of (parents_over i) v) (depth (parents_over i) v) (frozen_over v i)))

  pub stat_is_over : step t Stat ≡ stat_over parents t
  stat_is_over = ap (λ (n : ℕ). replies_with t (plain (reply.Stat n t.updates t.changes (length t.cursors)))) length_over

-- a sound state without levels means the table of what its updates leave
pub state_over : (s : State) → IsSound s → s.levels ≡ [] → IsTableOver (versions_of s) (marks_of s) (set_all (journal_updates s)) (table_of s)
state_over s sound none =
    let updates : List Entry = journal_updates s in
    let all : sources s ≡ reverse updates = ap (λ (x : List Level). reverse updates ++ flat_map level_leads x) none ∙ append-nil (reverse updates) in
    record {
      tree = sound_tree s sound.formed;
      pruned = sound_pruned s sound.formed;
      known = all_from (λ e. is_known (versions_of s) e.version) (set_all updates) (λ e among.
          let here : Among e (sources s) = subst (Among e) (sym all) (among_reverse updates e (subst (Among e) (append-nil updates) (all_among updates e among))) in
          lt-ltb e.version (length (versions_of s)) (known_sources s (ordered s sound) e here));
      rows = rows_found (versions_of s) (sound_tree s sound.formed) (marks_of s) (set_all updates) (sources s) (λ key u. ap (find (is_at key u)) all ∙ sym (all_found key u updates));
    }
