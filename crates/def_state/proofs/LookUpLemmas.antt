-- A state is read by looking up, and filters change no answer.
use Rattle.std.proofs.Common.{◌≡◌, ◌<◌, ℕ, Bool, true, false, cond, inl, inr, List, [], ◌∷◌, length, Option, Some, None, refl, sym, ap, ◌∙◌, true≢false}
use Rattle.std.specs.List.{list_any, filter_map, cons_option}
use Rattle.std.specs.Option.{option_or, option_map, option_and_then}
use Rattle.strat_base.specs.Tree.{Parents}
use Rattle.strat_base.specs.Entries.{Entry, is_of}
use Rattle.strat_base.proofs.ListFacts.{any_from, find_some, filter_among}
use Rattle.strat_base.proofs.ResultFacts.{option_cases}
use Rattle.def_state.specs.Level.{TaggedArray, Level}
use Rattle.def_state.specs.Live.{is_live, live}
use Rattle.def_state.specs.LookUp.{Reading, array_asked, first_live, looked_up, of_state, filtered}
use Rattle.def_state.specs.Reading.{live_of, level_zero, array_for, found_first, read_at}
use Rattle.def_state.specs.Sound.{IsSound}
use Rattle.std.proofs.lemmas.Bool.{not-true}
use Rattle.strat_base.specs.Marks.{is_dropped}
use Rattle.def_state.specs.State.{State, versions_of, marks_of, is_living, value_at}
use Rattle.def_state.proofs.SoundLemmas.{read_decides}

-- the place that a level adds, if it has an array for the version
abbrev pub place_in : {L A : Type 0} → Reading L A → Parents → ℕ → List ℕ → L → Option (List Entry)
place_in reading parents v key level = option_map (λ a. reading.shown a key) (array_asked reading parents level v)

module _ (parents : Parents) (v : ℕ) (key : List ℕ) where
  pub levels_read : (levels : List Level) → first_live parents (filter_map (place_in of_state parents v key) levels) v key ≡ found_first parents levels v key
  levels_read [] = refl
  levels_read (level ∷ levels) = by_array (array_for parents level v) (levels_read levels)
    where
      later : List (List Entry)
      later = filter_map (place_in of_state parents v key) levels

      by_array : (o : Option TaggedArray) → first_live parents later v key ≡ found_first parents levels v key
          → first_live parents (cons_option (option_map (λ a. a.content) o) later) v key
          ≡ option_or (option_and_then (λ a. live_of parents a.content v key) o) (found_first parents levels v key)
      by_array None rest = rest
      by_array (Some a) rest = ap (option_or (live_of parents a.content v key)) rest

  pub none_live : (entries : List Entry) → list_any (is_of key) entries ≡ false → live_of parents entries v key ≡ None
  none_live entries none' =
      elim (option_cases (live_of parents entries v key)) [
        | inl none ↦ none
        | inr e ↦
            let found = find_some (is_of key) (live parents entries v) e.0 e.1 in
            let among = filter_among (is_live parents entries v) entries e.0 found.0 in
            absurd (true≢false (sym (any_from (is_of key) e.0 entries among.0 found.1) ∙ none'))
      ]

  module _ (may_hold : TaggedArray → List ℕ → Bool) (right : (a : TaggedArray) → may_hold a key ≡ false → list_any (is_of key) a.content ≡ false) where
    levels_filtered : (levels : List Level) → first_live parents (filter_map (place_in (filtered may_hold of_state) parents v key) levels) v key ≡ first_live parents (filter_map (place_in of_state parents v key) levels) v key
    levels_filtered [] = refl
    levels_filtered (level ∷ levels) = by_array (array_for parents level v) (levels_filtered levels)
      where
        later : List (List Entry)
        later = filter_map (place_in of_state parents v key) levels

        passed : List (List Entry)
        passed = filter_map (place_in (filtered may_hold of_state) parents v key) levels

        one : (a : TaggedArray) (b : Bool) → may_hold a key ≡ b → live_of parents (cond b a.content []) v key ≡ live_of parents a.content v key
        one a true is = refl
        one a false is = sym (none_live a.content (right a is))

        by_array : (o : Option TaggedArray) → first_live parents passed v key ≡ first_live parents later v key
            → first_live parents (cons_option (option_map (λ a. cond (may_hold a key) a.content []) o) passed) v key
            ≡ first_live parents (cons_option (option_map (λ a. a.content) o) later) v key
        by_array None rest = rest
        by_array (Some a) rest = λ i. option_or (one a (may_hold a key) refl i) (rest i)

    pub filters_agree : (zeros : List (List Entry)) (levels : List Level) → looked_up (filtered may_hold of_state) parents zeros levels v key ≡ looked_up of_state parents zeros levels v key
    filters_agree [] levels = levels_filtered levels
    filters_agree (entries ∷ zeros) levels = ap (option_or (live_of parents entries v key)) (filters_agree zeros levels)

pub looked_up_read : (s : State) (v : ℕ) (key : List ℕ) → looked_up of_state (versions_of s) (level_zero s ∷ []) s.levels v key ≡ read_at s v key
looked_up_read s v key = ap (option_or (live_of (versions_of s) (level_zero s) v key)) (levels_read (versions_of s) v key s.levels)

pub looked_up_value : (s : State) (v : ℕ) (key : List ℕ) → IsSound s → v < length (versions_of s) → is_living s v ≡ true
    → option_and_then (λ e. e.value) (looked_up of_state (versions_of s) (level_zero s ∷ []) s.levels v key) ≡ value_at s v key
looked_up_value s v key sound known living = ap (λ (o : Option Entry). option_and_then (λ e. e.value) o) (looked_up_read s v key ∙ read_decides s sound key v known (not-true (is_dropped (marks_of s) v) living))
