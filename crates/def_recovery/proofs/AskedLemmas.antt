-- The bytes of a state answer as the state and its table do.
use Rattle.std.proofs.Common.{◌≡◌, ◌<◌, ℕ, Bool, true, false, cond, List, [], ◌∷◌, ◌++◌, length, Option, Some, sym, ap, ◌∙◌}
use Rattle.std.specs.List.{find, filter_map, cons_option}
use Rattle.std.specs.Option.{option_map, option_and_then, unwrap_or}
use Rattle.strat_base.specs.Entries.{Entry, is_tagged}
use Rattle.strat_base.specs.Tree.{Parents, below}
use Rattle.def_crash.specs.Image.{Image}
use Rattle.strat_base.specs.declared.descriptors.ArrayDesc.{ArrayDesc}
use Rattle.strat_base.specs.declared.descriptors.LevelDesc.{LevelDesc}
use Rattle.def_state.specs.Level.{TaggedArray, Level}
use Rattle.def_state.specs.LookUp.{first_live, looked_up, of_state}
use Rattle.def_state.specs.Reading.{level_zero}
use Rattle.def_state.specs.Sound.{IsSound}
use Rattle.def_state.specs.State.{State, versions_of, is_living}
use Rattle.def_state.proofs.LookUpLemmas.{place_in, looked_up_read}
use Rattle.strat_model.specs.Pairs.{value_of}
use Rattle.strat_model.specs.Step.{pairs_at}
use Rattle.def_recovery.specs.Asked.{on_disk, asked}
use Rattle.def_recovery.specs.Head.{Head}
use Rattle.def_bytes.specs.Arrays.{blocks_of, entries_on}
use Rattle.def_bytes.specs.Arrays.{all_some}
use Rattle.def_recovery.specs.Opened.{array_on, level_on}
use Rattle.def_recovery.specs.Opening.{state_of}
use Rattle.def_meaning.specs.StateTable.{table_of}
use Rattle.def_recovery.proofs.HeadLemmas.{state_with}
use Rattle.def_recovery.proofs.OpeningLemmas.{map_some, each_some}
use Rattle.def_meaning.proofs.StateTableLemmas.{read_same}

module _ (c : Image) (key : List ℕ) where
  -- what a descriptor's blocks show
  abbrev on : ArrayDesc → List Entry
  on a = unwrap_or (entries_on c (blocks_of a.extents)) []

  array_shown : (a : ArrayDesc) (x : TaggedArray) → array_on c a ≡ Some x → (a.versions ≡ x.tag) × (on a ≡ x.content)
  array_shown a x is =
      let made = map_some (λ entries. record { id = a.id; tag = a.versions; content = entries; entries = a.entries; leads = a.leads; least = a.least }) (entries_on c (blocks_of a.extents)) x is in
      (ap (λ (y : TaggedArray). y.tag) made.2, ap (λ (o : Option (List Entry)). unwrap_or o []) made.1 ∙ ap (λ (y : TaggedArray). y.content) made.2)

  arrays_shown : (u : ℕ) (ds : List ArrayDesc) (xs : List TaggedArray) → all_some (array_on c) ds ≡ Some xs
      → option_map on (find (λ a. is_tagged a.versions u) ds) ≡ option_map (λ x. x.content) (find (λ (x : TaggedArray). is_tagged x.tag u) xs)
  arrays_shown u [] xs e = let none : [] ≡ xs = cc in ap (λ (x : List TaggedArray). option_map (λ y. y.content) (find (λ y. is_tagged y.tag u) x)) none
  arrays_shown u (a ∷ ds) xs e =
      let parts = each_some (array_on c) a ds xs e in
      let same = array_shown a parts.0 parts.2 in
      by_tag parts.0 parts.1 same.1 (arrays_shown u ds parts.1 parts.3) (is_tagged a.versions u)
      ∙ ap (λ (t : List ℕ). option_map (λ y. y.content) (cond (is_tagged t u) (Some parts.0) (find (λ (y : TaggedArray). is_tagged y.tag u) parts.1))) same.0
      ∙ ap (λ (x : List TaggedArray). option_map (λ y. y.content) (find (λ y. is_tagged y.tag u) x)) parts.4
    where
      by_tag : (x : TaggedArray) (ys : List TaggedArray) → on a ≡ x.content
          → option_map on (find (λ a. is_tagged a.versions u) ds) ≡ option_map (λ x. x.content) (find (λ (x : TaggedArray). is_tagged x.tag u) ys)
          → (b : Bool) → option_map on (cond b (Some a) (find (λ a. is_tagged a.versions u) ds)) ≡ option_map (λ y. y.content) (cond b (Some x) (find (λ (y : TaggedArray). is_tagged y.tag u) ys))
      by_tag x ys here rest true = ap (λ (z : List Entry). Some z) here
      by_tag x ys here rest false = rest

  module _ (parents : Parents) (v : ℕ) where
    levels_shown : (ds : List LevelDesc) (levels : List Level) → all_some (level_on c) ds ≡ Some levels
        → filter_map (place_in (on_disk c) parents v key) ds ≡ filter_map (place_in of_state parents v key) levels
    levels_shown [] levels e = let none : [] ≡ levels = cc in ap (filter_map (place_in of_state parents v key)) none
    levels_shown (d ∷ ds) levels e =
        let parts = each_some (level_on c) d ds levels e in
        let made = map_some (λ arrays. record { number = d.number; horizon = d.horizon; arrays = arrays }) (all_some (array_on c) d.arrays) parts.0 parts.2 in
        let place : place_in (on_disk c) parents v key d ≡ place_in of_state parents v key parts.0 =
        arrays_shown (below parents v d.horizon) d.arrays made.0 made.1 ∙ ap (place_in of_state parents v key) made.2 in
        (λ i. cons_option (place i) (levels_shown ds parts.1 parts.3 i))
        ∙ ap (filter_map (place_in of_state parents v key)) parts.4

pub bytes_shown : (c : Image) (h : Head) (s : State) (parents : Parents) (zeros : List (List Entry)) (v : ℕ) (key : List ℕ) → state_of c h ≡ Some s
    → looked_up (on_disk c) parents zeros h.manifest.levels v key ≡ looked_up of_state parents zeros s.levels v key
bytes_shown c h s parents zeros v key e =
    let made = map_some (state_with h) (all_some (level_on c) h.manifest.levels) s e in
    ap (λ (found : List (List Entry)). first_live parents (zeros ++ found) v key)
    (levels_shown c key parents v h.manifest.levels made.0 made.1 ∙ ap (λ (x : State). filter_map (place_in of_state parents v key) x.levels) made.2)

pub asked_same : (c : Image) (h : Head) (s : State) (v : ℕ) (key : List ℕ) → state_of c h ≡ Some s → IsSound s → v < length (versions_of s) → is_living s v ≡ true
    → asked c (versions_of s) (level_zero s ∷ []) h.manifest.levels v key ≡ value_of (pairs_at (table_of s) v) key
asked_same c h s v key e sound known living =
    ap (λ (o : Option Entry). option_and_then (λ x. x.value) o) (bytes_shown c h s (versions_of s) (level_zero s ∷ []) v key e ∙ looked_up_read s v key)
    ∙ sym (read_same s v key sound known living)
