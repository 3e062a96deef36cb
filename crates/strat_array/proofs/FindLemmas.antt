-- A walk to the entry that decides a key at a version.
use Rattle.std.proofs.Common.{◌≡◌, ◌+◌, ℕ, get_or, List, [], ◌∷◌, ◌++◌, length, Option, Some, None, IfSome, IsTrue, refl, sym, ap, ◌∙◌, subst, length-append}
use Rattle.std.specs.List.{list_all, find, slice_get}
use Rattle.std.proofs.lemmas.Bool.{and_parts}
use Rattle.strat_base.specs.Tree.{Parents, is_ancestor}
use Rattle.strat_base.proofs.EntryLemmas.{is_of_key}
use Rattle.strat_base.specs.Entries.{Entry, is_of, is_ascending}
use Rattle.def_crash.specs.Moments.{DiskView}
use Rattle.strat_array.specs.declared.place.Place.{Place}
use Rattle.strat_array.specs.declared.seen.Seen.{Seen}
use Rattle.strat_array.specs.declared.seen.Seen.TheVariants as seen
use Rattle.strat_array.specs.Told.{TheirPairs, TellsFound, AddsPair, Judges}
use Rattle.strat_array.specs.Kept.{Kept, Blocks, Looks, ArrayStands}
use Rattle.strat_array.specs.Left.{is_from}
use Rattle.strat_array.specs.Steps.{left_from, Settles, HoldsPlace}
use Rattle.strat_array.specs.Walk.{is_seen_at, Going}
use Rattle.strat_array.proofs.HoldLemmas.{held_has}
use Rattle.strat_array.proofs.KeptLemmas.{looks_refl, looks_trans, stands_after, held_is}
use Rattle.strat_array.proofs.WalkLemmas.{left_here, goes_on, found_here, stops}

-- a walk so far
pub record Walking (old now : DiskView) (array : ℕ) (blocks : List ℕ) (c d : Blocks) (s t : Option Kept) (parents : Parents) (key : List ℕ) (v : ℕ) (first place : Place) : Type 0 where
  pub looks : Looks old now array blocks c d s t
  pub going : (lists : List (List Entry)) → ArrayStands old.content array blocks c s lists → IsTrue (is_ascending (left_from lists first)) → IsTrue (list_all (is_from key) (left_from lists first))
      → Going (is_seen_at parents key v) key (left_from lists first) (left_from lists place)

pub walk_begins : (v0 : DiskView) (array : ℕ) (blocks : List ℕ) (c : Blocks) (s : Option Kept) (parents : Parents) (key : List ℕ) (v : ℕ) (place : Place) → Walking v0 v0 array blocks c c s s parents key v place place
walk_begins v0 array blocks c s parents key v place = record {
  looks = looks_refl v0 array blocks c s;
  going = λ lists stands up from. record { found = refl; ascending = up; from = from };
}

-- the entry at a place that a scratch holds, and those behind it
pub left_held : (content : Option (ℕ → ℕ)) (array : ℕ) (blocks : List ℕ) (c : Blocks) (s : Option Kept) (lists : List (List Entry)) → ArrayStands content array blocks c s lists → (place : Place) (e : Entry) → HoldsPlace s array place
    → IfSome s (λ kept. (d : Entry) → e ≡ get_or kept.1 place.index d) → (next : Place) → next.block ≡ place.block → next.index ≡ place.index + 1 → left_from lists place ≡ e ∷ left_from lists next
left_held content array blocks c s lists stands place e holds is next block index =
    let here : slice_get lists place.block ≡ Some holds.entries = held_is content array blocks c lists place.block holds.entries s stands holds.held in
    let e_is = held_has s array place.block holds.entries (λ entries. (d : Entry) → e ≡ get_or entries place.index d) holds.held is e in
    left_here lists place.block place.index holds.entries e here holds.within
    ∙ (λ j. sym e_is j ∷ left_from lists (again j))
  where
    again : record { block = place.block; index = place.index + 1 } ≡ next
    again = λ j. record { block = sym block j; index = sym index j }

module _ (old mid now : DiskView) (array : ℕ) (blocks : List ℕ) (c d e : Blocks) (s t u : Option Kept) (parents : Parents) (key : List ℕ) (v : ℕ) (first place : Place) (walking : Walking old mid array blocks c d s t parents key v first place)
    (looks : Looks mid now array blocks d e t u) where
  pub looked_on : Looks old now array blocks c e s u
  looked_on = looks_trans old mid now array blocks c d e s t u walking.looks looks

  -- nothing is left
  pub walk_ends : ((lists : List (List Entry)) → ArrayStands mid.content array blocks d t lists → Settles lists place None) → (pairs : TheirPairs) (same : TheirPairs) → same ≡ pairs
      → (lists : List (List Entry)) → ArrayStands old.content array blocks c s lists → IsTrue (is_ascending (left_from lists first)) → IsTrue (list_all (is_from key) (left_from lists first))
      → TellsFound (find (is_seen_at parents key v) (left_from lists first)) key pairs same seen.None
  walk_ends settles pairs same is lists stands up from =
      let now' = stands_after old mid array blocks c d s t lists walking.looks stands in
      ((walking.going lists stands up from).found ∙ ap (find (is_seen_at parents key v)) (settles lists now'), is)

  module _ (at : Place) (settles : (lists : List (List Entry)) → ArrayStands mid.content array blocks d t lists → Settles lists place (Some at)) (holds : HoldsPlace u array at) (entry : Entry)
      (entry_is : IfSome u (λ kept. (x : Entry) → entry ≡ get_or kept.1 at.index x)) (next : Place) (block : next.block ≡ at.block) (index : next.index ≡ at.index + 1) where
    there : (lists : List (List Entry)) → ArrayStands old.content array blocks c s lists → IsTrue (is_ascending (left_from lists first)) → IsTrue (list_all (is_from key) (left_from lists first))
        → Going (is_seen_at parents key v) key (left_from lists first) (entry ∷ left_from lists next)
    there lists stands up from =
        let mid' = stands_after old mid array blocks c d s t lists walking.looks stands in
        let now' = stands_after mid now array blocks d e t u lists looks mid' in
        subst (λ (l : List Entry). Going (is_seen_at parents key v) key (left_from lists first) l)
        (settles lists mid' ∙ left_held now.content array blocks e u lists now' at entry holds entry_is next block index)
        (walking.going lists stands up from)

    pub walks_on : (pairs same : TheirPairs) → Judges parents key v entry pairs same None → Walking old now array blocks c e s u parents key v first next
    walks_on pairs same judged = record {
      looks = looked_on;
      going = λ lists stands up from. goes_on (is_seen_at parents key v) key (left_from lists first) (left_from lists next) entry (there lists stands up from) judged.0;
    }

    pub walk_answers : (pairs more : TheirPairs) (told : Seen) → Judges parents key v entry pairs more (Some told) → (lists : List (List Entry)) → ArrayStands old.content array blocks c s lists → IsTrue (is_ascending (left_from lists first)) → IsTrue (list_all (is_from key) (left_from lists first))
        → TellsFound (find (is_seen_at parents key v) (left_from lists first)) key pairs more told
    walk_answers pairs more seen.None judged lists stands up from = (stops parents key v (left_from lists first) (left_from lists next) entry (there lists stands up from) judged.0, judged.1)
    walk_answers pairs more seen.Gone judged lists stands up from =
        (entry, found_here (is_seen_at parents key v) key (left_from lists first) (left_from lists next) entry (there lists stands up from) judged.0, judged.1.0, judged.1.1)
    walk_answers pairs more seen.Put judged lists stands up from =
        let found = found_here (is_seen_at parents key v) key (left_from lists first) (left_from lists next) entry (there lists stands up from) judged.0 in
        let of : entry.key ≡ key = is_of_key key entry (and_parts (is_of key entry) (is_ancestor parents entry.version v) judged.0).0 in
        (entry, judged.1.0, found, judged.1.1, judged.1.2 ∙ ap (λ (k : List ℕ). pairs ++ (k, judged.1.0) ∷ []) of)

-- an entry that decides a key adds a pair where it has a value
pub judged_adds : (parents : Parents) (key : List ℕ) (v : ℕ) (e : Entry) (old new : TheirPairs) (told : Seen) → Judges parents key v e old new (Some told) → AddsPair old new told
judged_adds parents key v e old new seen.None judged = judged.1
judged_adds parents key v e old new seen.Gone judged = judged.1.1
judged_adds parents key v e old new seen.Put judged = ap (λ (l : TheirPairs). length l) judged.1.2 ∙ length-append {A = List ℕ × List ℕ} old ((e.key, judged.1.0) ∷ [])
