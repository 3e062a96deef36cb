-- A level that a descriptor and an image give.
use Rattle.std.proofs.Common.{◌≡◌, ℕ, suc, true, false, ltb, inl, inr, List, [], ◌∷◌, ◌++◌, length, map, filter, unwrap_or, Option, Some, None, option_and_then, refl, ap, ◌∙◌, subst}
use Rattle.std.specs.List.{list_all, flat_map}
use Rattle.std.specs.Option.{option_map, option_map_or}
use Rattle.std.proofs.lemmas.Bool.{and_parts, and_from}
use Rattle.strat_base.specs.Entries.{Entry, is_ascending}
use Rattle.strat_base.specs.declared.descriptors.ArrayDesc.{ArrayDesc}
use Rattle.strat_base.specs.declared.descriptors.LevelDesc.{LevelDesc}
use Rattle.strat_base.proofs.ResultFacts.{option_cases}
use Rattle.def_crash.specs.Image.{Image}
use Rattle.def_bytes.specs.Arrays.{all_some, blocks_of, entries_on}
use Rattle.def_recovery.specs.Opened.{array_on, level_on}
use Rattle.def_state.specs.Level.{TaggedArray, Level, is_distinct, tagged_versions}
use Rattle.def_state.specs.Sound.{has_ascending_entries}
use Rattle.def_check.specs.Marked.{kept_below}
use Rattle.def_check.specs.Told.{MayBeCounted}
use Rattle.strat_check.specs.LevelRuns.{is_in_order, kept_on}

-- an array of a level, and its descriptor
record IsOn (f : Image) (a : ArrayDesc) (t : TaggedArray) : Type 0 where
  tag : a.versions ≡ t.tag
  content : entries_on f (blocks_of a.extents) ≡ Some t.content

abbrev array_of : ArrayDesc → List Entry → TaggedArray
array_of a es = record { id = a.id; tag = a.versions; content = es; entries = a.entries; leads = a.leads; least = a.least }

abbrev level_of : LevelDesc → List TaggedArray → Level
level_of level arrays = record { number = level.number; horizon = level.horizon; arrays = arrays }

array_is : (f : Image) (a : ArrayDesc) (t : TaggedArray) → array_on f a ≡ Some t → IsOn f a t
array_is f a t is =
    elim (option_cases (entries_on f (blocks_of a.extents))) [
      | inl none ↦ let no : array_on f a ≡ None = ap (λ (o : Option (List Entry)). option_map (λ (es : List Entry). array_of a es) o) none in absurd (cc)
      | inr some ↦
          let there : array_on f a ≡ Some (array_of a some.0) = ap (λ (o : Option (List Entry)). option_map (λ (es : List Entry). array_of a es) o) some.1 in
          let same : array_of a some.0 ≡ t = cc in
          record { tag = ap (λ (x : TaggedArray). x.tag) same; content = some.1 ∙ ap (λ (x : TaggedArray). Some x.content) same }
    ]

-- descriptors and what an image gives of them
pub record AreOn (f : Image) (arrays : List ArrayDesc) (there : List TaggedArray) : Type 0 where
  pub tags : map (λ (a : ArrayDesc). a.versions) arrays ≡ map (λ (a : TaggedArray). a.tag) there
  pub listed : flat_map (λ (a : ArrayDesc). a.versions) arrays ≡ flat_map (λ (a : TaggedArray). a.tag) there
  pub len : length arrays ≡ length there
  pub kept : (n : ℕ) → map (kept_on f n) arrays ≡ map (λ (a : TaggedArray). a.content) (map (kept_below n) there)
  pub ordered : list_all has_ascending_entries there ≡ true → list_all (is_in_order f) arrays ≡ true

arrays_are : (f : Image) (arrays : List ArrayDesc) (there : List TaggedArray) → all_some (array_on f) arrays ≡ Some there → AreOn f arrays there
arrays_are f [] there is =
    let same : [] ≡ there = cc in
    subst (λ (ts : List TaggedArray). AreOn f [] ts) same (record { tags = refl; listed = refl; len = refl; kept = λ n. refl; ordered = λ all. refl })
arrays_are f (a ∷ arrays) there is =
    elim (option_cases (array_on f a)) [
      | inl none ↦
          let no : all_some (array_on f) (a ∷ arrays) ≡ None = ap (λ (o : Option TaggedArray). option_and_then (λ y. option_map (λ ys. y ∷ ys) (all_some (array_on f) arrays)) o) none in absurd (cc)
      | inr some ↦
          let step : all_some (array_on f) (a ∷ arrays) ≡ option_map (λ ys. some.0 ∷ ys) (all_some (array_on f) arrays) =
          ap (λ (o : Option TaggedArray). option_and_then (λ y. option_map (λ ys. y ∷ ys) (all_some (array_on f) arrays)) o) some.1 in
          elim (option_cases (all_some (array_on f) arrays)) [
            | inl none ↦ let no : all_some (array_on f) (a ∷ arrays) ≡ None = step ∙ ap (λ (o : Option (List TaggedArray)). option_map (λ ys. some.0 ∷ ys) o) none in absurd (cc)
            | inr rest ↦
                let whole : all_some (array_on f) (a ∷ arrays) ≡ Some (some.0 ∷ rest.0) = step ∙ ap (λ (o : Option (List TaggedArray)). option_map (λ ys. some.0 ∷ ys) o) rest.1 in
                let same : some.0 ∷ rest.0 ≡ there = cc in
                let one = array_is f a some.0 some.1 in
                let more = arrays_are f arrays rest.0 rest.1 in
                subst (λ (ts : List TaggedArray). AreOn f (a ∷ arrays) ts) same (record {
                  tags = λ j. one.tag j ∷ more.tags j;
                  listed = λ j. one.tag j ++ more.listed j;
                  len = ap suc more.len;
                  kept = λ n j. filter (λ (e : Entry). ltb e.version n) (unwrap_or (one.content j) []) ∷ more.kept n j;
                  ordered = λ all.
                      let parts = and_parts (is_ascending some.0.content) (list_all has_ascending_entries rest.0) all in
                      and_from (is_in_order f a) (list_all (is_in_order f) arrays) (ap (λ (o : Option (List Entry)). option_map_or is_ascending o false) one.content ∙ parts.0) (more.ordered parts.1);
                })
          ]
    ]

-- a level's arrays
pub level_is : (f : Image) (level : LevelDesc) (on : Level) → level_on f level ≡ Some on → AreOn f level.arrays on.arrays
level_is f level on is =
    elim (option_cases (all_some (array_on f) level.arrays)) [
      | inl none ↦ let no : level_on f level ≡ None = ap (λ (o : Option (List TaggedArray)). option_map (λ (arrays : List TaggedArray). level_of level arrays) o) none in absurd (cc)
      | inr some ↦
          let there : level_on f level ≡ Some (level_of level some.0) = ap (λ (o : Option (List TaggedArray)). option_map (λ (arrays : List TaggedArray). level_of level arrays) o) some.1 in
          let same : level_of level some.0 ≡ on = cc in
          let arrays : some.0 ≡ on.arrays = ap (λ (l : Level). l.arrays) same in
          arrays_are f level.arrays on.arrays (some.1 ∙ ap (λ (ts : List TaggedArray). Some ts) arrays)
    ]

-- no version is in two tags
pub tags_apart : (f : Image) (level : LevelDesc) (on : Level) → level_on f level ≡ Some on → MayBeCounted on → is_distinct (flat_map (λ (a : ArrayDesc). a.versions) level.arrays) ≡ true
tags_apart f level on is may =
    ap is_distinct (level_is f level on is).listed ∙ (and_parts (is_distinct (tagged_versions on)) (list_all (λ v. ltb v on.horizon) (tagged_versions on)) may.disjoint).0
