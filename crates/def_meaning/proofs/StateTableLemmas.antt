-- A state with one more change means the table after that change.
use Rattle.std.proofs.Common.{◌≡◌, ◌<◌, ◌+◌, ℕ, Bool, true, false, if◌then◌else◌, cond, eqb, not, ◌&&◌, inl, inr, set, List, [], ◌∷◌, ◌++◌, length, Option, Some, None, refl, sym, ap, ◌∙◌, arith, length-append}
use Rattle.std.proofs.lemmas.Bool.{cases_lt, eq-eqb, ne_eqb, and_parts, not-true, cond-true, cond-false}
use Rattle.std.proofs.lemmas.List.{get_or_past, get_or-set_same, get_or-set_other}
use Rattle.strat_base.specs.Tree.{Parents}
use Rattle.strat_base.specs.Marks.{Marks, is_dropped, has_living_child}
use Rattle.strat_base.specs.Change.{Change}
use Rattle.strat_base.specs.Change as change
use Rattle.strat_base.specs.Entries.{Entry}
use Rattle.def_state.specs.State.{State, journal_updates, versions_of, marks_of, is_living, tree_after, marks_after, sources, map_at, updates_of, changes_of, appended}
use Rattle.std.specs.Option.{option_and_then}
use Rattle.def_state.specs.Reading.{read_at}
use Rattle.def_state.specs.Sound.{is_there, takes_updates, accepts_change, IsSound, Takes}
use Rattle.def_state.proofs.MapLemmas.{value_in-lookup}
use Rattle.def_state.proofs.SoundLemmas.{sound_tree, sound_pruned, ordered, read_decides}
use Rattle.def_state.proofs.MarkLemmas.{there_known, open_there, open_childless, droppable_open}
use Rattle.strat_base.proofs.PrunedLemmas.{mark_kept}
use Rattle.def_state.specs.Maps.{map_over}
use Rattle.def_state.proofs.StepLemmas.{versions-appended, marks-appended, updates-appended}
use Rattle.def_state.proofs.ValueLemmas.{map_value}
use Rattle.def_state.proofs.StepMaps.{past_end, put_map, delete_map, clone_versions, clone_map, clone_map_new, drop_versions, drop_map, taken_sound}
use Rattle.strat_model.specs.Pairs.{Pairs, value_of}
use Rattle.strat_model.specs.Pairs as pairs
use Rattle.strat_model.specs.Table.{Row, Table, bare}
use Rattle.strat_model.specs.declared.replies.Reply.TheVariants as reply
use Rattle.strat_model.specs.declared.replies.Refusal.TheVariants as why
use Rattle.strat_model.specs.declared.replies.Refusal.{Refusal}
use Rattle.strat_model.specs.Answer.{plain, accepts}
use Rattle.strat_model.specs.Request.{Put, Delete, Clone, DropVersion}
use Rattle.strat_model.specs.Step.{Outcome, refuses, step, update, clone, drop_version, no_row, has_row, is_frozen, pairs_at, with_pairs, with_dropped}
use Rattle.def_meaning.specs.TableOver.{rows_from}
use Rattle.def_meaning.specs.StateTable.{table_of, request_for, answer_for}
use Rattle.def_meaning.proofs.RowLemmas.{rows_many, rows_known, rows_frozen, row_at, rows_same, rows_set, rows_drop, rows_push}

module _ (s : State) where
  pub length-rows_from : length (table_of s).rows ≡ length (versions_of s)
  length-rows_from = rows_many (map_at s) (marks_of s) (versions_of s) (table_of s) refl

  pub known_same : (v : ℕ) → has_row (table_of s) v ≡ is_there (versions_of s) (marks_of s) v
  known_same = rows_known (map_at s) (marks_of s) (versions_of s) (table_of s) refl

  pub frozen_same : (v : ℕ) → is_frozen (table_of s) v ≡ has_living_child (versions_of s) (marks_of s) v
  frozen_same = rows_frozen (map_at s) (marks_of s) (versions_of s) (table_of s) refl

  pub pairs_same : (v : ℕ) → v < length (versions_of s) → pairs_at (table_of s) v ≡ map_at s v
  pairs_same v lt = row_at (map_at s) (marks_of s) 0 v (versions_of s) lt ∙ ap (map_at s) (omega arith)

-- an update that is accepted
module _ (t : Table) (v : ℕ) (new : Pairs) where
  update_made : has_row t v ≡ true → is_frozen t v ≡ false → eqb t.changes t.changes_max ≡ false
      → update t v new ≡ record { answer = plain reply.Done; table = record t { rows = with_pairs t.rows v new; updates = t.updates + 1; changes = t.changes + 1 } }
  update_made known free some =
      let choose : Bool → Bool → Bool → Outcome = λ k f l.
      if not k then refuses t why.UnknownVersion else if f then refuses t why.Frozen else if l then refuses t why.ChangeLimit else
      record { answer = plain reply.Done; table = record t { rows = with_pairs t.rows v new; updates = t.updates + 1; changes = t.changes + 1 } } in
      λ i. choose (known i) (free i) (some i)

-- a clone that is accepted
module _ (t : Table) (v : ℕ) where
  clone_made : has_row t v ≡ true → eqb (length t.rows) t.versions_max ≡ false → eqb t.changes t.changes_max ≡ false
      → clone t v ≡ record { answer = plain (reply.Made (length t.rows)); table = record t { rows = t.rows ++ record { parent = Some v; dropped = false; pairs = pairs_at t v } ∷ []; changes = t.changes + 1 } }
  clone_made known few some =
      let choose : Bool → Bool → Bool → Outcome = λ k f l.
      if not k then refuses t why.UnknownVersion else if f then refuses t why.VersionLimit else if l then refuses t why.ChangeLimit else
      record { answer = plain (reply.Made (length t.rows)); table = record t { rows = t.rows ++ record { parent = Some v; dropped = false; pairs = pairs_at t v } ∷ []; changes = t.changes + 1 } } in
      λ i. choose (known i) (few i) (some i)

-- a drop that is accepted
module _ (t : Table) (v : ℕ) where
  drop_made : has_row t v ≡ true → eqb v 0 ≡ false → is_frozen t v ≡ false → eqb t.changes t.changes_max ≡ false
      → drop_version t v ≡ record { answer = plain reply.Done; table = record t { rows = with_dropped t.rows v; changes = t.changes + 1 } }
  drop_made known apart free some =
      let choose : Bool → Bool → Bool → Bool → Outcome = λ k r f l.
      if not k then refuses t why.UnknownVersion else if r then refuses t why.Root else if f then refuses t why.Frozen else if l then refuses t why.ChangeLimit else
      record { answer = plain reply.Done; table = record t { rows = with_dropped t.rows v; changes = t.changes + 1 } } in
      λ i. choose (known i) (apart i) (free i) (some i)

-- of three tests that refuse in turn, none refuses exactly where all pass
three_taken : (k f l : Bool) (t : Table) (a b c : Refusal) (made : Outcome) → accepts made.answer.reply ≡ true
    → accepts (if not k then refuses t a else if f then refuses t b else if l then refuses t c else made).answer.reply ≡ ((k && not f) && not l)
three_taken false f l t a b c made takes = refl
three_taken true true l t a b c made takes = refl
three_taken true false true t a b c made takes = refl
three_taken true false false t a b c made takes = takes

update_taken : (t : Table) (v : ℕ) (new : Pairs) → accepts (update t v new).answer.reply ≡ ((has_row t v && not (is_frozen t v)) && not (eqb t.changes t.changes_max))
update_taken t v new =
    three_taken (has_row t v) (is_frozen t v) (eqb t.changes t.changes_max) t why.UnknownVersion why.Frozen why.ChangeLimit
    (record { answer = plain reply.Done; table = record t { rows = with_pairs t.rows v new; updates = t.updates + 1; changes = t.changes + 1 } }) refl

clone_taken : (t : Table) (v : ℕ) → accepts (clone t v).answer.reply ≡ ((has_row t v && not (eqb (length t.rows) t.versions_max)) && not (eqb t.changes t.changes_max))
clone_taken t v =
    three_taken (has_row t v) (eqb (length t.rows) t.versions_max) (eqb t.changes t.changes_max) t why.UnknownVersion why.VersionLimit why.ChangeLimit
    (record { answer = plain (reply.Made (length t.rows)); table = record t { rows = t.rows ++ record { parent = Some v; dropped = false; pairs = pairs_at t v } ∷ []; changes = t.changes + 1 } }) refl

-- and of four
four_taken : (k r f l : Bool) (t : Table) (a b c d : Refusal) (made : Outcome) → accepts made.answer.reply ≡ true
    → accepts (if not k then refuses t a else if r then refuses t b else if f then refuses t c else if l then refuses t d else made).answer.reply ≡ (((k && not f) && not r) && not l)
four_taken false r f l t a b c d made takes = refl
four_taken true true true l t a b c d made takes = refl
four_taken true true false l t a b c d made takes = refl
four_taken true false true l t a b c d made takes = refl
four_taken true false false true t a b c d made takes = refl
four_taken true false false false t a b c d made takes = takes

drop_taken : (t : Table) (v : ℕ) → accepts (drop_version t v).answer.reply ≡ (((has_row t v && not (is_frozen t v)) && not (eqb v 0)) && not (eqb t.changes t.changes_max))
drop_taken t v =
    four_taken (has_row t v) (eqb v 0) (is_frozen t v) (eqb t.changes t.changes_max) t why.UnknownVersion why.Root why.Frozen why.ChangeLimit
    (record { answer = plain reply.Done; table = record t { rows = with_dropped t.rows v; changes = t.changes + 1 } }) refl

module _ (s : State) where
  -- a table with these rows and counts, and else that of a state
  table_with : List Row → ℕ → ℕ → Table
  table_with rows updates changes = record { changes_max = s.changes_max; versions_max = s.versions_max; rows = rows; updates = updates; changes = changes; cursors = []; next_cursor = 1 }

  counts_push : (c : Change) → changes_of (appended s c) ≡ changes_of s + 1
  counts_push c = omega (arith, length-append s.journal (c ∷ []))

  rows_now : List Row
  rows_now = rows_from (map_at s) (marks_of s) 0 (versions_of s)

  -- the tests that an update passes
  open_parts : (v : ℕ) → takes_updates (versions_of s) (marks_of s) v && not (eqb (changes_of s) s.changes_max) ≡ true
      → (is_there (versions_of s) (marks_of s) v ≡ true) × (has_living_child (versions_of s) (marks_of s) v ≡ false) × (eqb (changes_of s) s.changes_max ≡ false)
  open_parts v accepted =
      let outer = and_parts (takes_updates (versions_of s) (marks_of s) v) (not (eqb (changes_of s) s.changes_max)) accepted in
      (open_there (versions_of s) (marks_of s) v outer.0, open_childless (versions_of s) (marks_of s) v outer.0, not-true (eqb (changes_of s) s.changes_max) outer.1)

  -- the rows after an update of one version
  module _ (c : Change) (v : ℕ) (known : v < length (versions_of s)) (change : Pairs → Pairs)
      (map : (u : ℕ) → map_at (appended s c) u ≡ cond (eqb u v) (change (map_at s u)) (map_at s u))
      (stays : tree_after (versions_of s) c ≡ versions_of s) (marks : marks_after (marks_of s) c ≡ marks_of s) where
    update_rows : with_pairs rows_now v (change (pairs_at (table_of s) v)) ≡ (table_of (appended s c)).rows
    unfolding rows_now
    update_rows =
        ap (λ (m : Pairs). with_pairs rows_now v (change m)) (pairs_same s v known)
        ∙ rows_set (map_at s) (map_at (appended s c)) (marks_of s) 0 v (versions_of s) (change (map_at s v)) known
        (ap (map_at (appended s c)) (omega arith) ∙ map v ∙ cond-true (eqb v v) (change (map_at s v)) (map_at s v) (eq-eqb v v refl))
        (λ u apart. map u ∙ cond-false (eqb u v) (change (map_at s u)) (map_at s u) (ne_eqb u v (λ e. apart (omega arith))))
        ∙ sym (λ i. rows_from (map_at (appended s c)) ((marks-appended s c ∙ marks) i) 0 ((versions-appended s c ∙ stays) i))

  module _ (v : ℕ) (key value : List ℕ) (takes : Takes s (change.Put v key value)) where
    put_now : with_pairs rows_now v (pairs.set key value (pairs_at (table_of s) v)) ≡ (table_of (appended s (change.Put v key value))).rows
    put_now =
        let parts = open_parts v takes.accepted in
        update_rows (change.Put v key value) v (there_known (versions_of s) (marks_of s) v parts.0) (pairs.set key value)
        (put_map s (ordered s takes.sound) v key value takes.accepted takes.room) refl refl

    pub put_steps : step (table_of s) (Put v key value) ≡ record { answer = plain reply.Done; table = table_of (appended s (change.Put v key value)) }
    unfolding rows_now table_with
    put_steps =
        let new : State = appended s (change.Put v key value) in
        let updates : updates_of s + 1 ≡ updates_of new = omega (arith, ap (λ (x : List Entry). length x) (updates-appended s (change.Put v key value)), length-append (journal_updates s) (record { key = key; version = v; value = Some value } ∷ [])) in
        let parts = open_parts v takes.accepted in
        update_made (table_of s) v (pairs.set key value (pairs_at (table_of s) v)) (known_same s v ∙ parts.0) (frozen_same s v ∙ parts.1) parts.2
        ∙ (λ i. record { answer = plain reply.Done; table = table_with (put_now i) (updates i) (sym (counts_push (change.Put v key value)) i) })

  module _ (v : ℕ) (key : List ℕ) (takes : Takes s (change.Delete v key)) where
    delete_now : with_pairs rows_now v (pairs.unset key (pairs_at (table_of s) v)) ≡ (table_of (appended s (change.Delete v key))).rows
    delete_now =
        let parts = open_parts v takes.accepted in
        update_rows (change.Delete v key) v (there_known (versions_of s) (marks_of s) v parts.0) (pairs.unset key)
        (delete_map s (ordered s takes.sound) v key takes.accepted takes.room) refl refl

    pub delete_steps : step (table_of s) (Delete v key) ≡ record { answer = plain reply.Done; table = table_of (appended s (change.Delete v key)) }
    unfolding rows_now table_with
    delete_steps =
        let new : State = appended s (change.Delete v key) in
        let updates : updates_of s + 1 ≡ updates_of new = omega (arith, ap (λ (x : List Entry). length x) (updates-appended s (change.Delete v key)), length-append (journal_updates s) (record { key = key; version = v; value = None } ∷ [])) in
        let parts = open_parts v takes.accepted in
        update_made (table_of s) v (pairs.unset key (pairs_at (table_of s) v)) (known_same s v ∙ parts.0) (frozen_same s v ∙ parts.1) parts.2
        ∙ (λ i. record { answer = plain reply.Done; table = table_with (delete_now i) (updates i) (sym (counts_push (change.Delete v key)) i) })

  module _ (p : ℕ) (takes : Takes s (change.Clone p)) where
    clone_parts : (is_there (versions_of s) (marks_of s) p ≡ true) × (eqb (length (versions_of s)) s.versions_max ≡ false) × (eqb (changes_of s) s.changes_max ≡ false)
    clone_parts =
        let outer = and_parts (is_there (versions_of s) (marks_of s) p && not (eqb (length (versions_of s)) s.versions_max)) (not (eqb (changes_of s) s.changes_max)) takes.accepted in
        let inner = and_parts (is_there (versions_of s) (marks_of s) p) (not (eqb (length (versions_of s)) s.versions_max)) outer.0 in
        (inner.0, not-true (eqb (length (versions_of s)) s.versions_max) inner.1, not-true (eqb (changes_of s) s.changes_max) outer.1)

    the_row : Bool → Pairs → Row
    the_row d m = record { parent = Some p; dropped = d; pairs = m }

    clone_now : rows_now ++ record { parent = Some p; dropped = false; pairs = pairs_at (table_of s) p } ∷ [] ≡ (table_of (appended s (change.Clone p))).rows
    unfolding clone_parts the_row rows_now
    clone_now =
        let new : State = appended s (change.Clone p) in
        let old : Parents = versions_of s in
        let orderly = ordered s takes.sound in
        let marks : marks_of new ≡ marks_of s ++ false ∷ [] = marks-appended s (change.Clone p) in
        let kept : (u : ℕ) → is_dropped (marks_of s ++ false ∷ []) u ≡ is_dropped (marks_of s) u = mark_kept (marks_of s) in
        let size = (sound_pruned s takes.sound.formed).len in
        let last : false ≡ is_dropped (marks_of s ++ false ∷ []) (0 + length old) = sym (kept (0 + length old) ∙ past_end (marks_of s) (0 + length old) (omega (arith, size))) in
        let copy : map_at s p ≡ map_at new (0 + length old) = sym (clone_map_new s orderly p takes.accepted takes.room) ∙ ap (map_at new) (omega arith) in
        ap (λ (m : Pairs). rows_now ++ the_row false m ∷ []) (pairs_same s p (there_known old (marks_of s) p clone_parts.0))
        ∙ (λ i. sym (rows_same (map_at s) (map_at new) (marks_of s) (marks_of s ++ false ∷ []) 0 old (λ u le lt. clone_map s orderly p takes.accepted takes.room u (omega (arith, lt))) kept) i ++ the_row (last i) (copy i) ∷ [])
        ∙ sym (rows_push (map_at new) (marks_of s ++ false ∷ []) 0 old (Some p))
        ∙ sym (λ i. rows_from (map_at new) (marks i) 0 (clone_versions s orderly p takes.accepted takes.room i))

    pub clone_steps : step (table_of s) (Clone p) ≡ record { answer = plain (reply.Made (length (versions_of s))); table = table_of (appended s (change.Clone p)) }
    unfolding clone_parts rows_now table_with
    clone_steps =
        let new : State = appended s (change.Clone p) in
        let updates : updates_of s ≡ updates_of new = omega (arith, ap (λ (x : List Entry). length x) (updates-appended s (change.Clone p)), length-append (journal_updates s) []) in
        clone_made (table_of s) p (known_same s p ∙ clone_parts.0) (ap (λ (n : ℕ). eqb n s.versions_max) (length-rows_from s) ∙ clone_parts.1) clone_parts.2
        ∙ (λ i. record { answer = plain (reply.Made (length-rows_from s i)); table = table_with (clone_now i) (updates i) (sym (counts_push (change.Clone p)) i) })

  module _ (v : ℕ) (takes : Takes s (change.DropVersion v)) where
    drop_parts : (is_there (versions_of s) (marks_of s) v ≡ true) × (eqb v 0 ≡ false) × (has_living_child (versions_of s) (marks_of s) v ≡ false) × (eqb (changes_of s) s.changes_max ≡ false)
    drop_parts =
        let full = and_parts (takes_updates (versions_of s) (marks_of s) v && not (eqb v 0)) (not (eqb (changes_of s) s.changes_max)) takes.accepted in
        let at = droppable_open s.changes_max s.versions_max (versions_of s) (marks_of s) (changes_of s) v takes.accepted in
        (open_there (versions_of s) (marks_of s) v at.0, at.1, open_childless (versions_of s) (marks_of s) v at.0, not-true (eqb (changes_of s) s.changes_max) full.1)

    drop_now : with_dropped rows_now v ≡ (table_of (appended s (change.DropVersion v))).rows
    unfolding drop_parts rows_now
    drop_now =
        let new : State = appended s (change.DropVersion v) in
        let old : Parents = versions_of s in
        let marks : marks_of new ≡ set (marks_of s) v true = marks-appended s (change.DropVersion v) in
        let known = there_known old (marks_of s) v drop_parts.0 in
        let size = (sound_pruned s takes.sound.formed).len in
        let changed : (u : ℕ) → map_at new u ≡ cond (eqb u v) [] (map_at s u) = drop_map s v (ordered s takes.sound) takes.accepted in
        rows_drop (map_at s) (map_at new) (marks_of s) (set (marks_of s) v true) 0 v old known
        (ap (map_at new) (omega arith) ∙ changed v ∙ cond-true (eqb v v) [] (map_at s v) (eq-eqb v v refl))
        (ap (is_dropped (set (marks_of s) v true)) (omega arith) ∙ get_or-set_same (marks_of s) v true false (omega (arith, known, size)))
        (λ u apart. changed u ∙ cond-false (eqb u v) [] (map_at s u) (ne_eqb u v (λ e. apart (omega arith))))
        (λ u apart. get_or-set_other (marks_of s) v u true false (λ e. apart (omega arith)))
        ∙ sym (λ i. rows_from (map_at new) (marks i) 0 (drop_versions s v i))

    pub drop_steps : step (table_of s) (DropVersion v) ≡ record { answer = plain reply.Done; table = table_of (appended s (change.DropVersion v)) }
    unfolding drop_parts rows_now table_with
    drop_steps =
        let new : State = appended s (change.DropVersion v) in
        let updates : updates_of s ≡ updates_of new = omega (arith, ap (λ (x : List Entry). length x) (updates-appended s (change.DropVersion v)), length-append (journal_updates s) []) in
        drop_made (table_of s) v (known_same s v ∙ drop_parts.0) drop_parts.1 (frozen_same s v ∙ drop_parts.2) drop_parts.3
        ∙ (λ i. record { answer = plain reply.Done; table = table_with (drop_now i) (updates i) (sym (counts_push (change.DropVersion v)) i) })

  -- the step takes a change exactly where the state accepts it
  pub accepts_same : (c : Change) → accepts (step (table_of s) (request_for c)).answer.reply ≡ accepts_change s c
  accepts_same (change.Put v key value) =
      update_taken (table_of s) v (pairs.set key value (pairs_at (table_of s) v)) ∙ (λ i. (known_same s v i && not (frozen_same s v i)) && not (eqb (changes_of s) s.changes_max))
  accepts_same (change.Delete v key) =
      update_taken (table_of s) v (pairs.unset key (pairs_at (table_of s) v)) ∙ (λ i. (known_same s v i && not (frozen_same s v i)) && not (eqb (changes_of s) s.changes_max))
  accepts_same (change.Clone p) =
      clone_taken (table_of s) p ∙ (λ i. (known_same s p i && not (eqb (length-rows_from s i) s.versions_max)) && not (eqb (changes_of s) s.changes_max))
  accepts_same (change.DropVersion v) =
      drop_taken (table_of s) v ∙ (λ i. ((known_same s v i && not (frozen_same s v i)) && not (eqb v 0)) && not (eqb (changes_of s) s.changes_max))

-- every change that a sound state takes is a step of its table
pub steps_to : (s : State) (c : Change) → Takes s c → (step (table_of s) (request_for c)).table ≡ table_of (appended s c)
steps_to s (change.Put v key value) takes = ap (λ (o : Outcome). o.table) (put_steps s v key value takes)
steps_to s (change.Delete v key) takes = ap (λ (o : Outcome). o.table) (delete_steps s v key takes)
steps_to s (change.Clone p) takes = ap (λ (o : Outcome). o.table) (clone_steps s p takes)
steps_to s (change.DropVersion v) takes = ap (λ (o : Outcome). o.table) (drop_steps s v takes)

-- and is answered so
pub answers_as : (s : State) (c : Change) → Takes s c → (step (table_of s) (request_for c)).answer ≡ answer_for s c
answers_as s (change.Put v key value) takes = ap (λ (o : Outcome). o.answer) (put_steps s v key value takes)
answers_as s (change.Delete v key) takes = ap (λ (o : Outcome). o.answer) (delete_steps s v key takes)
answers_as s (change.Clone p) takes = ap (λ (o : Outcome). o.answer) (clone_steps s p takes)
answers_as s (change.DropVersion v) takes = ap (λ (o : Outcome). o.answer) (drop_steps s v takes)

-- of three tests that refuse in turn, each leaves the cursors aside
three_bare : (k f l : Bool) (t : Table) (a b c : Refusal) (made other : Outcome) → bare made.table ≡ other.table → made.answer ≡ other.answer
    → (bare (if not k then refuses t a else if f then refuses t b else if l then refuses t c else made).table
    ≡ (if not k then refuses (bare t) a else if f then refuses (bare t) b else if l then refuses (bare t) c else other).table)
    × ((if not k then refuses t a else if f then refuses t b else if l then refuses t c else made).answer
    ≡ (if not k then refuses (bare t) a else if f then refuses (bare t) b else if l then refuses (bare t) c else other).answer)
three_bare false f l t a b c made other table answer = (refl, refl)
three_bare true true l t a b c made other table answer = (refl, refl)
three_bare true false true t a b c made other table answer = (refl, refl)
three_bare true false false t a b c made other table answer = (table, answer)

update_bare : (t : Table) (v : ℕ) (new : Pairs) → (bare (update t v new).table ≡ (update (bare t) v new).table) × ((update t v new).answer ≡ (update (bare t) v new).answer)
update_bare t v new =
    three_bare (has_row t v) (is_frozen t v) (eqb t.changes t.changes_max) t why.UnknownVersion why.Frozen why.ChangeLimit
    (record { answer = plain reply.Done; table = record t { rows = with_pairs t.rows v new; updates = t.updates + 1; changes = t.changes + 1 } })
    (record { answer = plain reply.Done; table = record (bare t) { rows = with_pairs t.rows v new; updates = t.updates + 1; changes = t.changes + 1 } })
    refl refl

clone_bare : (t : Table) (v : ℕ) → (bare (clone t v).table ≡ (clone (bare t) v).table) × ((clone t v).answer ≡ (clone (bare t) v).answer)
clone_bare t v =
    three_bare (has_row t v) (eqb (length t.rows) t.versions_max) (eqb t.changes t.changes_max) t why.UnknownVersion why.VersionLimit why.ChangeLimit
    (record { answer = plain (reply.Made (length t.rows)); table = record t { rows = t.rows ++ record { parent = Some v; dropped = false; pairs = pairs_at t v } ∷ []; changes = t.changes + 1 } })
    (record { answer = plain (reply.Made (length t.rows)); table = record (bare t) { rows = t.rows ++ record { parent = Some v; dropped = false; pairs = pairs_at t v } ∷ []; changes = t.changes + 1 } })
    refl refl

-- of four tests that refuse in turn, each leaves the cursors aside
four_bare : (k r f l : Bool) (t : Table) (a b c d : Refusal) (made other : Outcome) → bare made.table ≡ other.table → made.answer ≡ other.answer
    → (bare (if not k then refuses t a else if r then refuses t b else if f then refuses t c else if l then refuses t d else made).table
    ≡ (if not k then refuses (bare t) a else if r then refuses (bare t) b else if f then refuses (bare t) c else if l then refuses (bare t) d else other).table)
    × ((if not k then refuses t a else if r then refuses t b else if f then refuses t c else if l then refuses t d else made).answer
    ≡ (if not k then refuses (bare t) a else if r then refuses (bare t) b else if f then refuses (bare t) c else if l then refuses (bare t) d else other).answer)
four_bare false r f l t a b c d made other table answer = (refl, refl)
four_bare true true f l t a b c d made other table answer = (refl, refl)
four_bare true false true l t a b c d made other table answer = (refl, refl)
four_bare true false false true t a b c d made other table answer = (refl, refl)
four_bare true false false false t a b c d made other table answer = (table, answer)

drop_bare : (t : Table) (v : ℕ) → (bare (drop_version t v).table ≡ (drop_version (bare t) v).table) × ((drop_version t v).answer ≡ (drop_version (bare t) v).answer)
drop_bare t v =
    four_bare (has_row t v) (eqb v 0) (is_frozen t v) (eqb t.changes t.changes_max) t why.UnknownVersion why.Root why.Frozen why.ChangeLimit
    (record { answer = plain reply.Done; table = record t { rows = with_dropped t.rows v; changes = t.changes + 1 } })
    (record { answer = plain reply.Done; table = record (bare t) { rows = with_dropped t.rows v; changes = t.changes + 1 } })
    refl refl

-- a change leaves the cursors aside, and they it
pub change_bare : (t : Table) (c : Change)
    → (bare (step t (request_for c)).table ≡ (step (bare t) (request_for c)).table) × ((step t (request_for c)).answer ≡ (step (bare t) (request_for c)).answer)
change_bare t (change.Put v key value) = update_bare t v (pairs.set key value (pairs_at t v))
change_bare t (change.Delete v key) = update_bare t v (pairs.unset key (pairs_at t v))
change_bare t (change.Clone p) = clone_bare t p
change_bare t (change.DropVersion v) = drop_bare t v

pub steps_bare : (t : Table) (s : State) (c : Change) → Takes s c → bare t ≡ table_of s → bare (step t (request_for c)).table ≡ table_of (appended s c)
steps_bare t s c takes means = (change_bare t c).0 ∙ ap (λ (x : Table). (step x (request_for c)).table) means ∙ steps_to s c takes

pub answers_bare : (t : Table) (s : State) (c : Change) → Takes s c → bare t ≡ table_of s → (step t (request_for c)).answer ≡ answer_for s c
answers_bare t s c takes means = (change_bare t c).1 ∙ ap (λ (x : Table). (step x (request_for c)).answer) means ∙ answers_as s c takes

pub stays_sound : (s : State) (c : Change) → Takes s c → IsSound (appended s c)
stays_sound s c takes = taken_sound s c takes.sound takes.accepted takes.room

-- what a table has at a key is what is read in the state
pub read_same : (s : State) (v : ℕ) (key : List ℕ) → IsSound s → v < length (versions_of s) → is_living s v ≡ true → value_of (pairs_at (table_of s) v) key ≡ option_and_then (λ e. e.value) (read_at s v key)
read_same s v key sound known living =
    ap (λ (m : Pairs). value_of m key) (pairs_same s v known ∙ ap (λ (b : Bool). if b then map_over (versions_of s) (sources s) v else []) living)
    ∙ value_in-lookup key (map_over (versions_of s) (sources s) v) ∙ map_value (versions_of s) (sources s) v (sound_tree s sound.formed) key
    ∙ sym (ap (λ (o : Option Entry). option_and_then (λ e. e.value) o) (read_decides s sound key v known (not-true (is_dropped (marks_of s) v) living)))

-- a version that was dropped has no pairs
pub pairs_dropped : (s : State) (v : ℕ) → is_dropped (marks_of s) v ≡ true → pairs_at (table_of s) v ≡ []
pairs_dropped s v dropped =
    elim (cases_lt v (length (versions_of s))) [
      | inl lt ↦ pairs_same s v lt ∙ ap (λ (b : Bool). if not b then map_over (versions_of s) (sources s) v else []) dropped
      | inr past ↦ ap (λ (row : Row). row.pairs) (get_or_past (table_of s).rows v no_row (let many = length-rows_from s in omega (arith, many, past)))
    ]
