-- Level 0 and a sealed one.
use Rattle.std.proofs.Common.{◌≡◌, ◌≤◌, ◌<◌, ◌+◌, ◌-◌, ◌*◌, ℕ, true, List, [], ◌∷◌, ◌++◌, length, take, drop, Option, Some, None, refl, sym, ap, ◌∙◌, arith, length-append}
use Rattle.std.specs.List.{filter_map}
use Rattle.std.specs.Prelude.{option_and_then}
use Rattle.std.specs.Option.{option_or, option_to_list}
use Rattle.std.proofs.lemmas.Bool.{not-true}
use Rattle.std.proofs.lemmas.List.{append-nil, length-drop, take-append-drop, take_all, drop_all, take-append-le, drop-append-le}
use Rattle.strat_base.specs.Change.{Change, Put, Delete, Clone, DropVersion}
use Rattle.strat_base.specs.Entries.{Entry, latest}
use Rattle.strat_base.specs.Marks.{is_dropped}
use Rattle.strat_base.specs.Tree.{Parents, IsTree}
use Rattle.strat_base.proofs.ListFacts.{filter_map-append, fold-push}
use Rattle.def_crash.specs.Image.{Image}
use Rattle.strat_model.specs.Pairs.{value_of}
use Rattle.strat_model.specs.Step.{pairs_at}
use Rattle.def_recovery.specs.Asked.{asked}
use Rattle.def_recovery.specs.Head.{Head}
use Rattle.def_recovery.specs.Opening.{state_of}
use Rattle.def_meaning.specs.StateTable.{table_of}
use Rattle.def_recovery.proofs.AskedLemmas.{bytes_shown, asked_same}
use Rattle.def_slice.specs.Lists.{entries_left, lists_read, HoldLists}
use Rattle.def_state.specs.LookUp.{looked_up, first_live, of_state, places}
use Rattle.def_state.specs.Reading.{live_of, level_zero, read_at}
use Rattle.def_state.specs.Setting.{set_entry, set_all}
use Rattle.def_state.specs.Sound.{IsSound}
use Rattle.def_state.specs.State.{State, versions_of, marks_of, is_living, update_of, journal_updates}
use Rattle.def_state.proofs.LookUpLemmas.{looked_up_read}
use Rattle.def_state.proofs.SealLemmas.{sealed_read}
use Rattle.def_state.proofs.SoundLemmas.{sound_tree}
use Rattle.def_state.proofs.UpdateLemmas.{all_lives}

pub seal : (mem : ℕ) (journal : List Change) (entries : List Entry) (spare : ℕ) → HoldLists mem journal entries None spare → length journal ≡ mem → HoldLists mem journal [] (Some entries) mem
seal mem journal entries spare h full =
    let front : take mem journal ≡ journal = take_all mem journal (omega (arith, full)) in
    let back : drop mem journal ≡ [] = drop_all mem journal (omega (arith, full)) in (
      omega (arith, full),
      (h.1 ∙ ap entries_left (sym front)),
      ap entries_left (sym back),
      omega arith,
    )

module _ (parents : Parents) (tree : IsTree parents) (v : ℕ) (key : List ℕ) where
  same_one : (updates : List Entry) (later : Option Entry) → option_or (live_of parents (set_all updates) v key) later ≡ option_or (live_of parents (latest updates) v key) later
  same_one updates later = ap (λ (o : Option Entry). option_or o later) (all_lives parents tree updates v key)

pub lists_look : (s : State) (entries : List Entry) (sealed : Option (List Entry)) (spare v : ℕ) (key : List ℕ) → IsSound s → HoldLists s.mem s.journal entries sealed spare → is_living s v ≡ true
    → looked_up of_state (versions_of s) (lists_read entries sealed) s.levels v key ≡ read_at s v key
lists_look s entries None spare v key sound h living =
    let parents : Parents = versions_of s in
    ap (λ (es : List Entry). looked_up of_state parents (es ∷ []) s.levels v key) h.1
    ∙ same_one parents (sound_tree s sound.formed) v key (journal_updates s) (first_live parents (places of_state parents [] s.levels v key) v key)
    ∙ looked_up_read s v key
lists_look s entries (Some sealed) spare v key sound h living =
    let parents : Parents = versions_of s in
    let older : List Change = take s.mem s.journal in
    let newer : List Change = drop s.mem s.journal in
    let rest : Option Entry = first_live parents (places of_state parents [] s.levels v key) v key in
    (λ i. looked_up of_state parents (h.2 i ∷ h.1 i ∷ []) s.levels v key)
    ∙ same_one parents (sound_tree s sound.formed) v key (filter_map update_of newer) (option_or (live_of parents (entries_left older) v key) rest)
    ∙ ap (λ (o : Option Entry). option_or (live_of parents (latest (filter_map update_of newer)) v key) o) (same_one parents (sound_tree s sound.formed) v key (filter_map update_of older) rest)
    ∙ sealed_read s sound older newer (sym (take-append-drop s.mem s.journal)) v (not-true (is_dropped (marks_of s) v) living) key

pub lists_asked : (c : Image) (h : Head) (s : State) (entries : List Entry) (sealed : Option (List Entry)) (spare v : ℕ) (key : List ℕ) → state_of c h ≡ Some s → IsSound s
    → HoldLists s.mem s.journal entries sealed spare → v < length (versions_of s) → is_living s v ≡ true → asked c (versions_of s) (lists_read entries sealed) h.manifest.levels v key ≡ value_of (pairs_at (table_of s) v) key
lists_asked c h s entries sealed spare v key is sound lists lt living =
    let value : Option Entry → Option (List ℕ) = λ o. option_and_then (λ e. e.value) o in
    ap value (bytes_shown c h s (versions_of s) (lists_read entries sealed) v key is ∙ lists_look s entries sealed spare v key sound lists living ∙ sym (looked_up_read s v key)
    ∙ sym (bytes_shown c h s (versions_of s) (level_zero s ∷ []) v key is))
    ∙ asked_same c h s v key is sound lt living

-- what one more change leaves
entries_more : (journal : List Change) (c : Change) (e : Entry) → update_of c ≡ Some e → set_entry e (entries_left journal) ≡ entries_left (journal ++ c ∷ [])
entries_more journal c e is =
    sym (ap set_all (filter_map-append update_of journal (c ∷ []) ∙ ap (λ (es : List Entry). filter_map update_of journal ++ es) (one_update c e is)) ∙ fold-push (λ entries x. set_entry x entries) [] (filter_map update_of journal) e)
  where
    by_option : (o : Option Entry) (x : Entry) → o ≡ Some x → option_to_list o ≡ x ∷ []
    by_option None x is = absurd (cc)
    by_option (Some y) x is = let same : y ≡ x = cc in ap (λ (z : Entry). z ∷ []) same

    one_update : (c : Change) (e : Entry) → update_of c ≡ Some e → filter_map update_of (c ∷ []) ≡ e ∷ []
    one_update (Put u k x) e is = by_option (Some (record { key = k; version = u; value = Some x })) e is
    one_update (Delete u k) e is = by_option (Some (record { key = k; version = u; value = None })) e is
    one_update (Clone u) e is = absurd (cc)
    one_update (DropVersion u) e is = absurd (cc)

entries_same : (journal : List Change) (c : Change) → update_of c ≡ None → entries_left journal ≡ entries_left (journal ++ c ∷ [])
entries_same journal c is = sym (ap set_all (filter_map-append update_of journal (c ∷ []) ∙ ap (λ (es : List Entry). filter_map update_of journal ++ es) (no_update c is) ∙ append-nil (filter_map update_of journal)))
  where
    no_update : (c : Change) → update_of c ≡ None → filter_map update_of (c ∷ []) ≡ []
    no_update (Put u k x) is = absurd (cc)
    no_update (Delete u k) is = absurd (cc)
    no_update (Clone u) is = refl
    no_update (DropVersion u) is = refl

module _ (mem : ℕ) (journal : List Change) (c : Change) where
  more_front : mem ≤ length journal → take mem (journal ++ c ∷ []) ≡ take mem journal
  more_front le = take-append-le mem journal (c ∷ []) le

  more_back : mem ≤ length journal → drop mem (journal ++ c ∷ []) ≡ drop mem journal ++ c ∷ []
  more_back le = drop-append-le mem journal (c ∷ []) le

  abbrev long : length (journal ++ c ∷ []) ≡ length journal + 1
  long = length-append journal (c ∷ [])

  long_back : mem ≤ length journal → length (drop mem (journal ++ c ∷ [])) ≡ length (drop mem journal) + 1
  long_back le = ap (λ (j : List Change). length j) (more_back le) ∙ length-append (drop mem journal) (c ∷ [])

  pub lists_set : (entries : List Entry) (sealed : Option (List Entry)) (spare : ℕ) (e : Entry) → update_of c ≡ Some e → HoldLists mem journal entries sealed spare → (sealed ≡ None → length journal < mem)
      → HoldLists mem (journal ++ c ∷ []) (set_entry e entries) sealed (spare - 1)
  lists_set entries None spare e is h room = (
    omega (arith, long, room refl),
    ap (set_entry e) h.1 ∙ entries_more journal c e is,
    omega (arith, long, h.2, room refl),
  )
  lists_set entries (Some sealed) spare e is h room = (
    omega (arith, long, h.0),
    h.1 ∙ ap entries_left (sym (more_front h.0)),
    ap (set_entry e) h.2 ∙ entries_more (drop mem journal) c e is ∙ ap entries_left (sym (more_back h.0)),
    omega (arith, long_back h.0, h.3),
  )

  pub lists_kept : (entries : List Entry) (sealed : Option (List Entry)) (spare : ℕ) → update_of c ≡ None → HoldLists mem journal entries sealed spare → (sealed ≡ None → length journal < mem)
      → HoldLists mem (journal ++ c ∷ []) entries sealed spare
  lists_kept entries None spare is h room = (
    omega (arith, long, room refl),
    h.1 ∙ entries_same journal c is,
    omega (arith, long, h.2, room refl),
  )
  lists_kept entries (Some sealed) spare is h room = (
    omega (arith, long, h.0),
    h.1 ∙ ap entries_left (sym (more_front h.0)),
    h.2 ∙ entries_same (drop mem journal) c is ∙ ap entries_left (sym (more_back h.0)),
    omega (arith, long_back h.0, h.3),
  )

-- level 0 has room for an update, while the journal has room for a change
pub lists_room : (mem : ℕ) (journal : List Change) (entries : List Entry) (sealed : Option (List Entry)) (spare : ℕ) → HoldLists mem journal entries sealed spare → (sealed ≡ None → length journal < mem)
    → length journal < 2 * mem - 2 → 1 ≤ spare
lists_room mem journal entries None spare h room lt = omega (arith, h.2, room refl)
lists_room mem journal entries (Some sealed) spare h room lt = omega (arith, h.3, h.0, lt, length-drop mem journal)
