-- What a store has in memory, beside the head and the table that it is of.
use Rattle.std.proofs.Common.{◌≡◌, ◌<◌, ◌≤◌, ◌+◌, ℕ, Bool, true, false, if◌then◌else◌, eqb, not, ◌&&◌, List, [], ◌∷◌, ◌++◌, append-nil, fold, length, take, drop, Option, Some, None, refl, sym, ap, ◌∙◌, subst, arith, true≢false, length-append}
use Rattle.std.specs.Option.{IfSome, option_map, option_map_or}
use Rattle.std.specs.Prelude.{filter_map, is_some, slice_set}
use Rattle.std.proofs.lemmas.List.{append_assoc, length-drop, take_all, take-append-drop, take-append-le}
use Rattle.std.proofs.lemmas.List.Sums.{fold-append}
use Rattle.strat_base.specs.Change.{Change}
use Rattle.strat_base.specs.Change as change
use Rattle.strat_base.specs.Entries.{Entry}
use Rattle.strat_base.specs.Tree.{Parents, parent_of, depth, with_child}
use Rattle.strat_base.proofs.ListFacts.{fold-push, filter_map-append}
use Rattle.def_crash.specs.Image.{Image}
use Rattle.def_bytes.specs.Arrays.{all_some}
use Rattle.strat_model.specs.Answer.{Answer, plain, accepts}
use Rattle.strat_model.specs.Pairs.{Pairs, set, unset, value_of}
use Rattle.strat_model.specs.Plain.{update_refusal, clone_refusal, drop_refusal}
use Rattle.strat_model.specs.Request.{Get, Info, Stat}
use Rattle.strat_model.specs.Step.{Outcome, refuses, replies_with, step, update, found, has_row, is_frozen, pairs_at}
use Rattle.strat_model.specs.Table.{Cursor, Table, parents_of}
use Rattle.strat_model.specs.declared.replies.Refusal.{Refusal}
use Rattle.strat_model.specs.declared.replies.Refusal.TheVariants as why
use Rattle.strat_model.specs.declared.replies.Reply.TheVariants as reply
use Rattle.def_recovery.specs.Asked.{asked}
use Rattle.def_recovery.specs.Head.{Head, head_versions, head_updates, head_changes, head_marks}
use Rattle.def_recovery.specs.Opened.{level_on, parents_in}
use Rattle.def_recovery.specs.Opening.{state_of}
use Rattle.def_meaning.specs.StateTable.{table_of, request_for}
use Rattle.def_recovery.proofs.HeadLemmas.{state_with}
use Rattle.def_recovery.proofs.OpeningLemmas.{map_some}
use Rattle.def_meaning.proofs.RowLemmas.{rows_many, parents_are, rows_known, rows_frozen}
use Rattle.def_meaning.proofs.StateTableLemmas.{accepts_same}
use Rattle.def_state.specs.Reading.{live_of, level_zero}
use Rattle.def_slice.specs.Lists.{entries_left, HoldLists}
use Rattle.def_slice.proofs.ListLemmas.{lists_asked, lists_kept, lists_room, lists_set, seal}
use Rattle.def_state.specs.Setting.{set_all}
use Rattle.def_state.specs.Sound.{is_there, is_accepted, accepts_change, journal_max, IsSound}
use Rattle.def_state.specs.State.{State, versions_of, journal_updates, updates_of, changes_of, tree_after, update_of, marks_of, marks_after, map_at, is_living}
use Rattle.def_state.proofs.SoundLemmas.{sound_tree}
use Rattle.def_state.proofs.UpdateLemmas.{all_lives}
use Rattle.strat_memory.specs.Memory.{Memory, SealedLevel, refusal_of_update, refusal_of_clone, refusal_of_drop, refusal_of_change, with_update, memory_after, HasRoomFor, reply_to, info_told, stat_told, fresh_memory, head_full, lists_in_memory, oldest_changes, oldest_entries, oldest_marks, oldest_parents, oldest_updates, oldest_versions, sealed_entries, sealed_off, unsealed, table_with, CountsSealed, IsMemoryOf, has_version}
use Rattle.def_promote.proofs.PaidLemmas.{updates_few}
use Rattle.strat_memory.proofs.MemoryLemmas.{left_few}
use Rattle.strat_memory.proofs.ThreeTests.{three_none, three_pass, three_refuse, four_pass, four_refuse}
use Rattle.strat_base.specs.Marks.{Marks, is_dropped, has_living_child}
use Rattle.def_state.proofs.MarkLemmas.{there_known, there_living}
use Rattle.std.proofs.lemmas.Bool.{not_from_false}

-- of three tests that refuse in turn none does where all pass
three_pass_all : (k f l : Bool) (a b c : Refusal) → (k && not f && not l) ≡ not (is_some (if not k then Some a else if f then Some b else if l then Some c else None))
three_pass_all false f l a b c = refl
three_pass_all true true l a b c = refl
three_pass_all true false true a b c = refl
three_pass_all true false false a b c = refl

-- nor of four, in the order of a drop
four_pass_all : (k z f l : Bool) (a b c d : Refusal) → (k && not f && not z && not l) ≡ not (is_some (if not k then Some a else if z then Some b else if f then Some c else if l then Some d else None))
four_pass_all false z f l a b c d = refl
four_pass_all true true true l a b c d = refl
four_pass_all true true false l a b c d = refl
four_pass_all true false true l a b c d = refl
four_pass_all true false false true a b c d = refl
four_pass_all true false false false a b c d = refl

pub accepted_same : (m : Memory) (c : Change) → is_accepted m.changes_max m.versions_max m.parents m.marks m.changes c ≡ not (is_some (refusal_of_change m c))
accepted_same m (change.Put v key value) =
    three_pass_all (has_version m v) (has_living_child m.parents m.marks v) (eqb m.changes m.changes_max) why.UnknownVersion why.Frozen why.ChangeLimit
accepted_same m (change.Delete v key) =
    three_pass_all (has_version m v) (has_living_child m.parents m.marks v) (eqb m.changes m.changes_max) why.UnknownVersion why.Frozen why.ChangeLimit
accepted_same m (change.Clone v) =
    three_pass_all (has_version m v) (eqb (length m.parents) m.versions_max) (eqb m.changes m.changes_max) why.UnknownVersion why.VersionLimit why.ChangeLimit
accepted_same m (change.DropVersion v) =
    four_pass_all (has_version m v) (eqb v 0) (has_living_child m.parents m.marks v) (eqb m.changes m.changes_max) why.UnknownVersion why.Root why.Frozen why.ChangeLimit

-- memory is that of a state
record Mirrors (s : State) (m : Memory) : Type 0 where
  changes_max : m.changes_max ≡ s.changes_max
  versions_max : m.versions_max ≡ s.versions_max
  parents : m.parents ≡ versions_of s
  marks : m.marks ≡ marks_of s
  updates : m.updates ≡ updates_of s
  changes : m.changes ≡ changes_of s
  lists : HoldLists s.mem s.journal m.entries (sealed_entries m) m.spare

-- lists where nothing is sealed, and where something is
alone : (mem : ℕ) (journal : List Change) (entries : List Entry) (sealed : Option SealedLevel) (spare : ℕ) → sealed ≡ None → HoldLists mem journal entries (option_map (λ z. z.entries) sealed) spare
    → HoldLists mem journal entries None spare
alone mem journal entries sealed spare none lists = subst (λ (o : Option SealedLevel). HoldLists mem journal entries (option_map (λ z. z.entries) o) spare) none lists

unmapped : (sealed : Option SealedLevel) → option_map (λ z. z.entries) sealed ≡ None → sealed ≡ None
unmapped None none = refl
unmapped (Some z) none = absurd (cc)

sealed_full : (mem : ℕ) (journal : List Change) (entries : List Entry) (sealed : Option SealedLevel) (spare : ℕ) → HoldLists mem journal entries (option_map (λ z. z.entries) sealed) spare → length journal < mem → sealed ≡ None
sealed_full mem journal entries None spare lists lt = refl
sealed_full mem journal entries (Some z) spare lists lt = absurd (omega (arith, lists.0, lt))

oldest_all : (mem : ℕ) (journal : List Change) (entries : List Entry) (sealed : Option SealedLevel) (spare : ℕ) → HoldLists mem journal entries (option_map (λ z. z.entries) sealed) spare → length journal ≤ mem
    → option_map_or (λ (z : SealedLevel). z.entries) sealed entries ≡ entries_left journal
oldest_all mem journal entries None spare lists few = lists.1
oldest_all mem journal entries (Some z) spare lists few = lists.1 ∙ ap entries_left (take_all mem journal few)

-- what a promotion takes is what fills the active region, or all of the journal where nothing is sealed
oldest_part : (mem : ℕ) (journal : List Change) (entries : List Entry) (sealed : Option SealedLevel) (spare : ℕ) → HoldLists mem journal entries (option_map (λ z. z.entries) sealed) spare
    → option_map_or (λ (z : SealedLevel). z.entries) sealed entries ≡ entries_left (take mem journal)
oldest_part mem journal entries None spare lists = lists.1 ∙ ap entries_left (sym (take_all mem journal lists.0))
oldest_part mem journal entries (Some z) spare lists = lists.1

-- the counts of that are those of the head then
record CountsOldest (h : Head) (m : Memory) (sealed : Option SealedLevel) : Type 0 where
  versions : option_map_or (λ (z : SealedLevel). z.versions) sealed (length m.parents) ≡ length (head_versions (head_full h))
  updates : option_map_or (λ (z : SealedLevel). z.updates) sealed m.updates ≡ head_updates (head_full h)
  changes : option_map_or (λ (z : SealedLevel). z.changes) sealed m.changes ≡ head_changes (head_full h)
  marks : option_map_or (λ (z : SealedLevel). z.marks) sealed m.marks ≡ head_marks (head_full h)

counts_part : (h : Head) (m : Memory) → IsMemoryOf h m → (sealed : Option SealedLevel) → HoldLists h.sb.mem h.journal m.entries (option_map (λ z. z.entries) sealed) m.spare → IfSome sealed (CountsSealed h) → CountsOldest h m sealed
counts_part h m of None lists counted =
    let front : h.journal ≡ take h.sb.mem h.journal = sym (take_all h.sb.mem h.journal lists.0) in
    record {
      versions = ap (λ (ps : Parents). length ps) of.parents ∙ ap (λ (js : List Change). length (head_versions (record h { journal = js }))) front;
      updates = of.updates ∙ ap (λ (js : List Change). head_updates (record h { journal = js })) front;
      changes = of.changes ∙ ap (λ (js : List Change). head_changes (record h { journal = js })) front;
      marks = of.marks ∙ ap (λ (js : List Change). head_marks (record h { journal = js })) front;
    }
counts_part h m of (Some z) lists counted = record { versions = counted.versions; updates = counted.updates; changes = counted.changes; marks = counted.marks }

-- versions that were there stay in front while changes come
grown_front : (parents : Parents) (journal : List Change) → (rest : Parents) × (fold tree_after parents journal ≡ parents ++ rest)
grown_front parents [] = ([], sym (append-nil parents))
grown_front parents (change.Put v key value ∷ journal) = grown_front parents journal
grown_front parents (change.Delete v key ∷ journal) = grown_front parents journal
grown_front parents (change.DropVersion v ∷ journal) = grown_front parents journal
grown_front parents (change.Clone v ∷ journal) =
    let more = grown_front (with_child parents v) journal in
    (Some v ∷ more.0, more.1 ∙ append_assoc parents (Some v ∷ []) more.0)

spare_some : (mem : ℕ) (journal : List Change) (entries : List Entry) (sealed : Option (List Entry)) (spare : ℕ) → HoldLists mem journal entries sealed spare → length journal < mem → 1 ≤ spare
spare_some mem journal entries None spare lists lt = omega (arith, lists.2, lt)
spare_some mem journal entries (Some older) spare lists lt = absurd (omega (arith, lists.0, lt))

held_few : (mem : ℕ) (journal : List Change) (entries : List Entry) (sealed : Option (List Entry)) (spare : ℕ) → HoldLists mem journal entries sealed spare → length entries ≤ length journal
held_few mem journal entries None spare lists =
    let same : length entries ≡ length (entries_left journal) = ap (λ (es : List Entry). length es) lists.1 in
    omega (arith, same, left_few (filter_map update_of journal), updates_few journal)
held_few mem journal entries (Some older) spare lists =
    let same : length entries ≡ length (entries_left (drop mem journal)) = ap (λ (es : List Entry). length es) lists.2 in
    omega (arith, same, left_few (filter_map update_of (drop mem journal)), updates_few (drop mem journal), length-drop mem journal)

mirrors : (f : Image) (h : Head) (s : State) (m : Memory) → state_of f h ≡ Some s → IsMemoryOf h m → Mirrors s m
mirrors f h s m read of =
    let made = map_some (state_with h) (all_some (level_on f) h.manifest.levels) s read in
    record {
      changes_max = of.changes_max ∙ ap (λ (x : State). x.changes_max) made.2;
      versions_max = of.versions_max ∙ ap (λ (x : State). x.versions_max) made.2;
      parents = of.parents ∙ ap versions_of made.2;
      marks = of.marks ∙ ap marks_of made.2;
      updates = of.updates ∙ ap updates_of made.2;
      changes = of.changes ∙ ap changes_of made.2;
      lists = subst (λ (x : State). HoldLists x.mem x.journal m.entries (sealed_entries m) m.spare) made.2 of.lists;
    }

module _ (s : State) (m : Memory) (of : Mirrors s m) (cursors : List Cursor) (n : ℕ) where
  many : length m.parents ≡ length (table_with s cursors n).rows
  many = ap (λ (ps : Parents). length ps) of.parents ∙ sym (rows_many (map_at s) (marks_of s) (versions_of s) (table_with s cursors n) refl)

  tree : m.parents ≡ parents_of (table_with s cursors n)
  tree = of.parents ∙ sym (parents_are (map_at s) (marks_of s) (versions_of s) (table_with s cursors n) refl)

  known : (v : ℕ) → has_version m v ≡ has_row (table_with s cursors n) v
  known v = (λ i. is_there (of.parents i) (of.marks i) v) ∙ sym (rows_known (map_at s) (marks_of s) (versions_of s) (table_with s cursors n) refl v)

  frozen : (v : ℕ) → has_living_child m.parents m.marks v ≡ is_frozen (table_with s cursors n) v
  frozen v = (λ i. has_living_child (of.parents i) (of.marks i) v) ∙ sym (rows_frozen (map_at s) (marks_of s) (versions_of s) (table_with s cursors n) refl v)

  updates_refused : (v : ℕ) → refusal_of_update m v ≡ update_refusal (table_with s cursors n) v
  updates_refused v =
      λ i. if not (known v i) then Some why.UnknownVersion else if frozen v i then Some why.Frozen else if eqb (of.changes i) (of.changes_max i) then Some why.ChangeLimit else None

  clones_refused : (v : ℕ) → refusal_of_clone m v ≡ clone_refusal (table_with s cursors n) v
  clones_refused v =
      λ i. if not (known v i) then Some why.UnknownVersion else if eqb (many i) (of.versions_max i) then Some why.VersionLimit else if eqb (of.changes i) (of.changes_max i) then Some why.ChangeLimit else None

  drops_refused : (v : ℕ) → refusal_of_drop m v ≡ drop_refusal (table_with s cursors n) v
  drops_refused v =
      λ i. if not (known v i) then Some why.UnknownVersion else if eqb v 0 then Some why.Root else if frozen v i then Some why.Frozen else if eqb (of.changes i) (of.changes_max i) then Some why.ChangeLimit else None

  update_refuses : (v : ℕ) (pairs : Pairs) (r : Refusal) → refusal_of_update m v ≡ Some r → update (table_with s cursors n) v pairs ≡ refuses (table_with s cursors n) r
  update_refuses v pairs r e =
      let t : Table = table_with s cursors n in
      three_refuse (has_row t v) (is_frozen t v) (eqb t.changes t.changes_max) t why.UnknownVersion why.Frozen why.ChangeLimit r _ (sym (updates_refused v) ∙ e)

  refused : (c : Change) (r : Refusal) → refusal_of_change m c ≡ Some r → step (table_with s cursors n) (request_for c) ≡ refuses (table_with s cursors n) r
  refused (change.Put v key value) r e = update_refuses v (set key value (pairs_at (table_with s cursors n) v)) r e
  refused (change.Delete v key) r e = update_refuses v (unset key (pairs_at (table_with s cursors n) v)) r e
  refused (change.Clone v) r e =
      let t : Table = table_with s cursors n in
      three_refuse (has_row t v) (eqb (length t.rows) t.versions_max) (eqb t.changes t.changes_max) t why.UnknownVersion why.VersionLimit why.ChangeLimit r _ (sym (clones_refused v) ∙ e)
  refused (change.DropVersion v) r e =
      let t : Table = table_with s cursors n in
      four_refuse (has_row t v) (eqb v 0) (is_frozen t v) (eqb t.changes t.changes_max) t why.UnknownVersion why.Root why.Frozen why.ChangeLimit r _ (sym (drops_refused v) ∙ e)

  update_done : (v : ℕ) (pairs : Pairs) → refusal_of_update m v ≡ None → (update (table_with s cursors n) v pairs).answer ≡ plain reply.Done
  update_done v pairs e =
      let t : Table = table_with s cursors n in
      let three = three_none (has_row t v) (is_frozen t v) (eqb t.changes t.changes_max) why.UnknownVersion why.Frozen why.ChangeLimit (sym (updates_refused v) ∙ e) in
      ap (λ (o : Outcome). o.answer) (three_pass (has_row t v) (is_frozen t v) (eqb t.changes t.changes_max) t why.UnknownVersion why.Frozen why.ChangeLimit _ three.0 three.1 three.2)

  answered : (c : Change) → refusal_of_change m c ≡ None → (step (table_with s cursors n) (request_for c)).answer ≡ plain (reply_to m c)
  answered (change.Put v key value) e = update_done v (set key value (pairs_at (table_with s cursors n) v)) e
  answered (change.Delete v key) e = update_done v (unset key (pairs_at (table_with s cursors n) v)) e
  answered (change.Clone v) e =
      let t : Table = table_with s cursors n in
      let three = three_none (has_row t v) (eqb (length t.rows) t.versions_max) (eqb t.changes t.changes_max) why.UnknownVersion why.VersionLimit why.ChangeLimit (sym (clones_refused v) ∙ e) in
      ap (λ (o : Outcome). o.answer) (three_pass (has_row t v) (eqb (length t.rows) t.versions_max) (eqb t.changes t.changes_max) t why.UnknownVersion why.VersionLimit why.ChangeLimit _ three.0 three.1 three.2)
      ∙ ap (λ (k : ℕ). plain (reply.Made k)) (sym many)
  answered (change.DropVersion v) e =
      let t : Table = table_with s cursors n in
      ap (λ (o : Outcome). o.answer) (four_pass (has_row t v) (eqb v 0) (is_frozen t v) (eqb t.changes t.changes_max) t why.UnknownVersion why.Root why.Frozen why.ChangeLimit _ (sym (drops_refused v) ∙ e))

  informed : (v : ℕ) → has_version m v ≡ true → (step (table_with s cursors n) (Info v)).answer ≡ plain (info_told m v)
  informed v here =
      let t : Table = table_with s cursors n in
      ap (λ (b : Bool). (if b then replies_with t (plain (reply.Info (parent_of (parents_of t) v) (depth (parents_of t) v) (is_frozen t v))) else refuses t why.UnknownVersion).answer) (sym (known v) ∙ here)
      ∙ (λ i. plain (reply.Info (parent_of (sym tree i) v) (depth (sym tree i) v) (sym (frozen v) i)))

  counted : length cursors ≡ length m.cursors.opened → (step (table_with s cursors n) Stat).answer ≡ plain (stat_told m)
  counted same = λ i. plain (reply.Stat (sym many i) (sym of.updates i) (sym of.changes i) (same i))

  uninformed : (v : ℕ) → has_version m v ≡ false → step (table_with s cursors n) (Info v) ≡ refuses (table_with s cursors n) why.UnknownVersion
  uninformed v off =
      let t : Table = table_with s cursors n in
      ap (λ (b : Bool). if b then replies_with t (plain (reply.Info (parent_of (parents_of t) v) (depth (parents_of t) v) (is_frozen t v))) else refuses t why.UnknownVersion) (sym (known v) ∙ off)

  unfound : (v : ℕ) (key : List ℕ) → has_version m v ≡ false → step (table_with s cursors n) (Get v key) ≡ refuses (table_with s cursors n) why.UnknownVersion
  unfound v key off =
      let t : Table = table_with s cursors n in
      ap (λ (b : Bool). if b then replies_with t (found key (value_of (pairs_at t v) key)) else refuses t why.UnknownVersion) (sym (known v) ∙ off)

module _ (s : State) (m : Memory) (of : Mirrors s m) where
  told_accepts : (c : Change) → accepts (reply_to m c) ≡ true
  told_accepts (change.Put v key value) = refl
  told_accepts (change.Delete v key) = refl
  told_accepts (change.Clone v) = refl
  told_accepts (change.DropVersion v) = refl

  taken : (c : Change) → refusal_of_change m c ≡ None → accepts_change s c ≡ true
  taken c e = sym (accepts_same s c) ∙ ap (λ (a : Answer). accepts a.reply) (answered s m of [] 1 c e) ∙ told_accepts c

  lives_same : IsSound s → m.sealed ≡ None → (v : ℕ) (key : List ℕ) → live_of m.parents m.entries v key ≡ live_of m.parents (level_zero s) v key
  lives_same sound none v key =
      let here : live_of (versions_of s) m.entries v key ≡ live_of (versions_of s) (level_zero s) v key =
      ap (λ (es : List Entry). live_of (versions_of s) es v key) (alone s.mem s.journal m.entries m.sealed m.spare none of.lists).1 ∙ all_lives (versions_of s) (sound_tree s sound.formed) (journal_updates s) v key in
      subst (λ (ps : Parents). live_of ps m.entries v key ≡ live_of ps (level_zero s) v key) (sym of.parents) here

-- the laws of a state that was read, at its table with any cursors
module _ (f : Image) (h : Head) (s : State) (m : Memory) (read : state_of f h ≡ Some s) (of : IsMemoryOf h m) where
  the : Mirrors s m
  the = mirrors f h s m read of

  pub living_of : (v : ℕ) → has_version m v ≡ true → is_living s v ≡ true
  living_of v here = not_from_false (is_dropped (marks_of s) v) (ap (λ (ms : Marks). is_dropped ms v) (sym the.marks) ∙ there_living m.parents m.marks v here)

  pub known_of : (v : ℕ) → has_version m v ≡ has_row (table_of s) v
  known_of = known s m the [] 1

  pub frozen_of : (v : ℕ) → has_living_child m.parents m.marks v ≡ is_frozen (table_of s) v
  frozen_of = frozen s m the [] 1

  module _ (rows : List Cursor) (n : ℕ) where
    pub change_refused_with : (c : Change) (r : Refusal) → refusal_of_change m c ≡ Some r → step (table_with s rows n) (request_for c) ≡ refuses (table_with s rows n) r
    change_refused_with = refused s m the rows n

    pub change_answered_with : (c : Change) → refusal_of_change m c ≡ None → (step (table_with s rows n) (request_for c)).answer ≡ plain (reply_to m c)
    change_answered_with = answered s m the rows n

    pub version_told_with : (v : ℕ) → has_version m v ≡ true → (step (table_with s rows n) (Info v)).answer ≡ plain (info_told m v)
    version_told_with = informed s m the rows n

    pub store_told_with : length rows ≡ length m.cursors.opened → (step (table_with s rows n) Stat).answer ≡ plain (stat_told m)
    store_told_with = counted s m the rows n

    pub version_unknown_with : (v : ℕ) → has_version m v ≡ false → step (table_with s rows n) (Info v) ≡ refuses (table_with s rows n) why.UnknownVersion
    version_unknown_with = uninformed s m the rows n

    pub key_unknown_with : (v : ℕ) (key : List ℕ) → has_version m v ≡ false → step (table_with s rows n) (Get v key) ≡ refuses (table_with s rows n) why.UnknownVersion
    key_unknown_with = unfound s m the rows n

  pub change_refused : (c : Change) (r : Refusal) → refusal_of_change m c ≡ Some r → step (table_of s) (request_for c) ≡ refuses (table_of s) r
  change_refused = refused s m the [] 1

  pub change_answered : (c : Change) → refusal_of_change m c ≡ None → (step (table_of s) (request_for c)).answer ≡ plain (reply_to m c)
  change_answered = answered s m the [] 1

  pub change_taken : (c : Change) → refusal_of_change m c ≡ None → accepts_change s c ≡ true
  change_taken = taken s m the

  pub version_told : (v : ℕ) → has_version m v ≡ true → (step (table_of s) (Info v)).answer ≡ plain (info_told m v)
  version_told = informed s m the [] 1

  pub version_unknown : (v : ℕ) → has_version m v ≡ false → step (table_of s) (Info v) ≡ refuses (table_of s) why.UnknownVersion
  version_unknown = uninformed s m the [] 1

  pub key_unknown : (v : ℕ) (key : List ℕ) → has_version m v ≡ false → step (table_of s) (Get v key) ≡ refuses (table_of s) why.UnknownVersion
  key_unknown = unfound s m the [] 1

  pub key_found : IsSound s → m.sealed ≡ None → (v : ℕ) (key : List ℕ) → live_of m.parents m.entries v key ≡ live_of m.parents (level_zero s) v key
  key_found = lives_same s m the

  -- level 0, what is sealed and the levels are asked as the table is
  pub key_asked : IsSound s → (v : ℕ) (key : List ℕ) → has_version m v ≡ true → asked f m.parents (lists_in_memory m) h.manifest.levels v key ≡ value_of (pairs_at (table_of s) v) key
  key_asked sound v key here =
      let lt : v < length (versions_of s) = subst (λ (ps : Parents). v < length ps) the.parents (there_known m.parents m.marks v here) in
      ap (λ (ps : Parents). asked f ps (lists_in_memory m) h.manifest.levels v key) the.parents
      ∙ lists_asked f h s m.entries (sealed_entries m) m.spare v key read sound the.lists lt (living_of v here)

-- a head with one more change
module _ (h : Head) (m : Memory) (of : IsMemoryOf h m) where
  grown_versions : (c : Change) → head_versions (record h { journal = h.journal ++ c ∷ [] }) ≡ tree_after (head_versions h) c
  grown_versions c = fold-push tree_after (parents_in h.manifest) h.journal c

  marks_pushed : (c : Change) → head_marks (record h { journal = h.journal ++ c ∷ [] }) ≡ marks_after (head_marks h) c
  marks_pushed c = fold-push marks_after h.manifest.marks h.journal c

  -- the journal of the region that was full stays
  counted_more : (c : Change) (sealed : Option SealedLevel) → HoldLists h.sb.mem h.journal m.entries (option_map (λ z. z.entries) sealed) m.spare → IfSome sealed (CountsSealed h)
      → IfSome sealed (CountsSealed (record h { journal = h.journal ++ c ∷ [] }))
  counted_more c None lists counted = tt
  counted_more c (Some z) lists counted =
      let same : take h.sb.mem h.journal ≡ take h.sb.mem (h.journal ++ c ∷ []) = sym (take-append-le h.sb.mem h.journal (c ∷ []) lists.0) in
      record {
        versions = counted.versions ∙ ap (λ (js : List Change). length (head_versions (record h { journal = js }))) same;
        updates = counted.updates ∙ ap (λ (js : List Change). head_updates (record h { journal = js })) same;
        changes = counted.changes ∙ ap (λ (js : List Change). head_changes (record h { journal = js })) same;
        marks = counted.marks ∙ ap (λ (js : List Change). head_marks (record h { journal = js })) same;
      }

  module _ (c : Change) (free : refusal_of_change m c ≡ None) (room : m.sealed ≡ None → length h.journal < h.sb.mem) where
    room_here : sealed_entries m ≡ None → length h.journal < h.sb.mem
    room_here none = room (unmapped m.sealed none)

    with_entry : (e : Entry) → update_of c ≡ Some e → filter_map update_of (c ∷ []) ≡ e ∷ [] → tree_after (head_versions h) c ≡ head_versions h
        → marks_after (head_marks h) c ≡ head_marks h → IsMemoryOf (record h { journal = h.journal ++ c ∷ [] }) (with_update m e)
    with_entry e is one same marked =
        let more = filter_map-append update_of h.journal (c ∷ []) in
        let long : length (filter_map update_of (h.journal ++ c ∷ [])) ≡ length (filter_map update_of h.journal) + 1 =
        ap (λ (es : List Entry). length es) (more ∙ ap (λ (es : List Entry). filter_map update_of h.journal ++ es) one) ∙ length-append (filter_map update_of h.journal) (e ∷ []) in
        record {
          changes_max = of.changes_max;
          versions_max = of.versions_max;
          parents = of.parents ∙ sym (grown_versions c ∙ same);
          marks = of.marks ∙ sym (marks_pushed c ∙ marked);
          updates = omega (arith, of.updates, long);
          changes = omega (arith, of.changes, length-append h.journal (c ∷ []));
          lists = lists_set h.sb.mem h.journal c m.entries (sealed_entries m) m.spare e is of.lists room_here;
          counted = counted_more c m.sealed of.lists of.counted;
        }

  pub memory_follows : (c : Change) → refusal_of_change m c ≡ None → (m.sealed ≡ None → length h.journal < h.sb.mem) → IsMemoryOf (record h { journal = h.journal ++ c ∷ [] }) (memory_after m c)
  memory_follows (change.Put v key value) free room = with_entry (change.Put v key value) free room (record { key = key; version = v; value = Some value }) refl refl refl refl
  memory_follows (change.Delete v key) free room = with_entry (change.Delete v key) free room (record { key = key; version = v; value = None }) refl refl refl refl
  memory_follows (change.Clone v) free room =
      let more = filter_map-append update_of h.journal (change.Clone v ∷ []) in
      let long : length (filter_map update_of (h.journal ++ change.Clone v ∷ [])) ≡ length (filter_map update_of h.journal) + 0 =
      ap (λ (es : List Entry). length es) more ∙ length-append (filter_map update_of h.journal) [] in
      record {
        changes_max = of.changes_max;
        versions_max = of.versions_max;
        parents = ap (λ (ps : Parents). with_child ps v) of.parents ∙ sym (grown_versions (change.Clone v));
        marks = ap (λ (ms : Marks). ms ++ false ∷ []) of.marks ∙ sym (marks_pushed (change.Clone v));
        updates = omega (arith, of.updates, long);
        changes = omega (arith, of.changes, length-append h.journal (change.Clone v ∷ []));
        lists = lists_kept h.sb.mem h.journal (change.Clone v) m.entries (sealed_entries m) m.spare refl of.lists (λ none. room (unmapped m.sealed none));
        counted = counted_more (change.Clone v) m.sealed of.lists of.counted;
      }
  memory_follows (change.DropVersion v) free room =
      let more = filter_map-append update_of h.journal (change.DropVersion v ∷ []) in
      let long : length (filter_map update_of (h.journal ++ change.DropVersion v ∷ [])) ≡ length (filter_map update_of h.journal) + 0 =
      ap (λ (es : List Entry). length es) more ∙ length-append (filter_map update_of h.journal) [] in
      record {
        changes_max = of.changes_max;
        versions_max = of.versions_max;
        parents = of.parents ∙ sym (grown_versions (change.DropVersion v));
        marks = ap (λ (ms : Marks). slice_set ms v true) of.marks ∙ sym (marks_pushed (change.DropVersion v));
        updates = omega (arith, of.updates, long);
        changes = omega (arith, of.changes, length-append h.journal (change.DropVersion v ∷ []));
        lists = lists_kept h.sb.mem h.journal (change.DropVersion v) m.entries (sealed_entries m) m.spare refl of.lists (λ none. room (unmapped m.sealed none));
        counted = counted_more (change.DropVersion v) m.sealed of.lists of.counted;
      }

  room_any : (c : Change) → 1 ≤ m.spare → HasRoomFor m c
  room_any (change.Put v key value) some = some
  room_any (change.Delete v key) some = some
  room_any (change.Clone v) some = tt
  room_any (change.DropVersion v) some = tt

  pub room_for : (c : Change) → length h.journal < h.sb.mem → HasRoomFor m c
  room_for c free = room_any c (spare_some h.sb.mem h.journal m.entries (sealed_entries m) m.spare of.lists free)

  pub room_behind : (c : Change) → (m.sealed ≡ None → length h.journal < h.sb.mem) → length h.journal < journal_max h.sb.mem → HasRoomFor m c
  room_behind c room free =
      room_any c (lists_room h.sb.mem h.journal m.entries (sealed_entries m) m.spare of.lists (λ none. room (unmapped m.sealed none)) free)

  pub entries_few : length m.entries ≤ length h.journal
  entries_few = held_few h.sb.mem h.journal m.entries (sealed_entries m) m.spare of.lists

  -- what a promotion takes is all that the journal says, where that fits a region
  pub oldest_whole : length h.journal ≤ h.sb.mem → oldest_entries m ≡ set_all (filter_map update_of h.journal)
  oldest_whole few = oldest_all h.sb.mem h.journal m.entries m.sealed m.spare of.lists few

  pub oldest_front : oldest_entries m ≡ entries_left (take h.sb.mem h.journal)
  oldest_front = oldest_part h.sb.mem h.journal m.entries m.sealed m.spare of.lists

  pub oldest_counted : (oldest_versions m ≡ length (head_versions (head_full h))) × (oldest_updates m ≡ head_updates (head_full h)) × (oldest_changes m ≡ head_changes (head_full h))
  oldest_counted = let counts = counts_part h m of m.sealed of.lists of.counted in (counts.versions, counts.updates, counts.changes)

  -- the versions then are the first ones
  pub versions_front : (rest : Parents) × (m.parents ≡ head_versions (head_full h) ++ rest)
  versions_front =
      let front = take h.sb.mem h.journal in
      let back = drop h.sb.mem h.journal in
      let two : head_versions h ≡ fold tree_after (head_versions (head_full h)) back =
      ap (fold tree_after (parents_in h.manifest)) (sym (take-append-drop h.sb.mem h.journal)) ∙ fold-append tree_after (parents_in h.manifest) front back in
      let more = grown_front (head_versions (head_full h)) back in
      (more.0, of.parents ∙ two ∙ more.1)

  pub parents_front : oldest_parents m ≡ head_versions (head_full h)
  parents_front =
      let vs : Parents = head_versions (head_full h) in
      let more = versions_front in
      ap (λ (n : ℕ). take n m.parents) oldest_counted.0 ∙ ap (take (length vs)) more.1 ∙ take-append-le (length vs) vs more.0 (omega arith) ∙ take_all (length vs) vs (omega arith)

  pub marks_front : oldest_marks m ≡ head_marks (head_full h)
  marks_front = (counts_part h m of m.sealed of.lists of.counted).marks

  pub unsealed_below : length h.journal < h.sb.mem → m.sealed ≡ None
  unsealed_below lt = sealed_full h.sb.mem h.journal m.entries m.sealed m.spare of.lists lt

  -- level 0 may be sealed
  pub memory_sealed : m.sealed ≡ None → length h.journal ≡ h.sb.mem → IsMemoryOf h (sealed_off h.sb.mem m)
  memory_sealed none full =
      let front : h.journal ≡ take h.sb.mem h.journal = sym (take_all h.sb.mem h.journal (omega (arith, full))) in
      record {
        changes_max = of.changes_max;
        versions_max = of.versions_max;
        parents = of.parents;
        marks = of.marks;
        updates = of.updates;
        changes = of.changes;
        lists = seal h.sb.mem h.journal m.entries m.spare (alone h.sb.mem h.journal m.entries m.sealed m.spare none of.lists) full;
        counted = record {
          versions = ap (λ (ps : Parents). length ps) of.parents ∙ ap (λ (js : List Change). length (head_versions (record h { journal = js }))) front;
          updates = of.updates ∙ ap (λ (js : List Change). head_updates (record h { journal = js })) front;
          changes = of.changes ∙ ap (λ (js : List Change). head_changes (record h { journal = js })) front;
          marks = of.marks ∙ ap (λ (js : List Change). head_marks (record h { journal = js })) front;
        };
      }

-- after a publication
left_behind : (mem : ℕ) (journal : List Change) (entries : List Entry) (sealed : Option SealedLevel) (spare : ℕ) → HoldLists mem journal entries (option_map (λ z. z.entries) sealed) spare → is_some sealed ≡ true
    → length (drop mem journal) ≤ mem → HoldLists mem (drop mem journal) entries None spare
left_behind mem journal entries None spare lists some few = absurd (true≢false (sym some))
left_behind mem journal entries (Some z) spare lists some few = (few, lists.2, lists.3)

pub memory_unsealed : (h new : Head) (m : Memory) → IsMemoryOf h m → is_some m.sealed ≡ true → new.journal ≡ drop h.sb.mem h.journal → length new.journal ≤ new.sb.mem → new.sb.mem ≡ h.sb.mem
    → new.sb.changes_max ≡ h.sb.changes_max → new.sb.versions_max ≡ h.sb.versions_max
    → head_versions new ≡ head_versions h → head_updates new ≡ head_updates h → head_changes new ≡ head_changes h → head_marks new ≡ head_marks h → IsMemoryOf new (unsealed m)
memory_unsealed h new m of some journal few mem changes_max versions_max versions updates changes marks = record {
  changes_max = of.changes_max ∙ sym changes_max;
  versions_max = of.versions_max ∙ sym versions_max;
  parents = of.parents ∙ sym versions;
  marks = of.marks ∙ sym marks;
  updates = of.updates ∙ sym updates;
  changes = of.changes ∙ sym changes;
  lists =
      let less : length (drop h.sb.mem h.journal) ≤ h.sb.mem = let size = ap (λ (js : List Change). length js) journal in omega (arith, few, mem, size) in
      let left = left_behind h.sb.mem h.journal m.entries m.sealed m.spare of.lists some less in
      subst (λ (n : ℕ). HoldLists n new.journal m.entries None m.spare) (sym mem) (subst (λ (js : List Change). HoldLists h.sb.mem js m.entries None m.spare) (sym journal) left);
  counted = tt;
}

-- and of a manifest alone
pub memory_loaded : (h : Head) → h.journal ≡ []
    → IsMemoryOf h (record (fresh_memory h.sb.mem h.sb.changes_max h.sb.versions_max) { parents = parents_in h.manifest; marks = h.manifest.marks; updates = h.manifest.updates; changes = h.manifest.changes })
memory_loaded h none =
    let changes : length h.journal ≡ 0 = ap (λ (js : List Change). length js) none in
    let updates : length (filter_map update_of h.journal) ≡ 0 = ap (λ (js : List Change). length (filter_map update_of js)) none in
    record {
      changes_max = refl;
      versions_max = refl;
      parents = ap (λ (js : List Change). head_versions (record h { journal = js })) (sym none);
      marks = ap (λ (js : List Change). head_marks (record h { journal = js })) (sym none);
      updates = omega (arith, updates);
      changes = omega (arith, changes);
      lists = (omega (arith, changes), ap entries_left (sym none), omega arith);
      counted = tt;
    }
