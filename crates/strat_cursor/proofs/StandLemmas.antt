-- A source passes over entries that say nothing of the keys to come.
use Rattle.std.proofs.Common.{◌≡◌, ◌<◌, ◌≤◌, ◌+◌, ◌^◌, ℕ, Bool, true, false, cond, get_or, inl, inr, zero, suc, List, [], ◌∷◌, length, drop, Option, Some, None, IfSome, IsTrue, refl, sym, ap, ◌∙◌, subst, arith, true≢false}
use Rattle.std.specs.List.{list_all, find, slice_get}
use Rattle.std.proofs.lemmas.Bool.{and_parts, cases_Bool}
use Rattle.std.proofs.lemmas.List.{drop_more, length-map}
use Rattle.strat_base.specs.Tree.{Parents, is_ancestor}
use Rattle.strat_base.specs.Entries.{Entry, is_of, is_ascending}
use Rattle.strat_base.proofs.EntryLemmas.{is_of_key}
use Rattle.def_crash.specs.Moments.{DiskView}
use Rattle.def_state.proofs.SettingLemmas.{stands_first}
use Rattle.strat_arena.specs.Items.{entry_of_item}
use Rattle.strat_arena.specs.PoolView.{arena_at}
use Rattle.strat_arena.specs.declared.pool.PoolEntry.{PoolEntry}
use Rattle.strat_level.specs.Memtable.{ItemList, entries_held}
use Rattle.strat_array.specs.declared.place.Place.{Place}
use Rattle.strat_array.specs.Kept.{Kept, Blocks, Looks, ArrayStands}
use Rattle.strat_array.specs.Steps.{left_from, Settles, HoldsPlace, IsNear}
use Rattle.strat_array.specs.Walk.{is_seen_at}
use Rattle.strat_array.proofs.FindLemmas.{left_held}
use Rattle.strat_array.proofs.KeptLemmas.{looks_trans, stands_after}
use Rattle.strat_cursor.specs.Ahead.{is_after}
use Rattle.strat_cursor.specs.Sources.{PassesUndue, is_due, left_behind, entry_held, places_ahead}

pub passes_none : (parents : Parents) (v : ℕ) (last : List ℕ) (entries : List Entry) → PassesUndue parents v last entries entries
passes_none parents v last entries = record { same = λ key after. refl; ordered = λ up. up; among = λ p all. all }

-- what is not due says nothing of a key to come
pub not_due : (parents : Parents) (v : ℕ) (last key : List ℕ) (e : Entry) → is_due parents v last e ≡ false → is_after last key ≡ true → is_seen_at parents key v e ≡ false
not_due parents v last key e off after = elim (cases_Bool (is_seen_at parents key v e)) [
  | inr unseen ↦ unseen
  | inl seen ↦
      let parts = and_parts (is_of key e) (is_ancestor parents e.version v) seen in
      let due : is_due parents v last e ≡ true = ap (λ (b : Bool). cond b (is_ancestor parents e.version v) false) (ap (is_after last) (is_of_key key e parts.0) ∙ after) ∙ parts.1 in
      absurd (true≢false (sym due ∙ off))
]

pub passes_one : (parents : Parents) (v : ℕ) (last : List ℕ) (old rest : List Entry) (e : Entry) → PassesUndue parents v last old (e ∷ rest) → is_due parents v last e ≡ false → PassesUndue parents v last old rest
passes_one parents v last old rest e passes off = record {
  same = λ key after.
      sym (ap (λ (b : Bool). cond b (Some e) (find (is_seen_at parents key v) rest)) (not_due parents v last key e off after)) ∙ passes.same key after;
  ordered = λ up. (and_parts (stands_first e rest) (is_ascending rest) (passes.ordered up)).1;
  among = λ p all. (and_parts (p e) (list_all p rest) (passes.among p all)).1;
}

pub passes_trans : (parents : Parents) (v : ℕ) (last : List ℕ) (old mid new : List Entry) → PassesUndue parents v last old mid → PassesUndue parents v last mid new → PassesUndue parents v last old new
passes_trans parents v last old mid new first second = record {
  same = λ key after. second.same key after ∙ first.same key after;
  ordered = λ up. second.ordered (first.ordered up);
  among = λ p all. second.among p (first.among p all);
}

-- in a list of items
module _ (parents : Parents) (v : ℕ) (last : List ℕ) (entries : List Entry) (from i : ℕ) where
  pub passes_item : (e : Entry) → ((d : Entry) → e ≡ get_or entries i d) → i < length entries → PassesUndue parents v last (drop from entries) (drop i entries) → is_due parents v last e ≡ false
      → PassesUndue parents v last (drop from entries) (drop (i + 1) entries)
  passes_item e is within passes off =
      passes_one parents v last (drop from entries) (drop (i + 1) entries) e
      (subst (λ (l : List Entry). PassesUndue parents v last (drop from entries) l) (drop_more entries i e within ∙ ap (λ (x : Entry). x ∷ drop (i + 1) entries) (sym (is e))) passes) off

-- a step of a walk leaves no more places
pub near_ahead : (place at : Place) → IsNear place at → at.block < 2 ^ 32 → places_ahead at ≤ places_ahead place
near_ahead place at (inl same) low =
    let block : at.block ≡ place.block = ap (λ (p : Place). p.block) same in
    let index : at.index ≡ place.index = ap (λ (p : Place). p.index) same in
    omega (arith, block, index)
near_ahead place at (inr next) low = omega (arith, next.0, next.1)

pub due_path : (parents : Parents) (v : ℕ) (last : List ℕ) (e : Entry) → is_due parents v last e ≡ true → is_ancestor parents e.version v ≡ true
due_path parents v last e due = go (is_after last e.key) due
  where
    go : (b : Bool) → cond b (is_ancestor parents e.version v) false ≡ true → is_ancestor parents e.version v ≡ true
    go true h = h
    go false h = absurd (true≢false (sym h))

get_is : (entries : List Entry) (i : ℕ) (d : Entry) → slice_get entries i ≡ Some d → (e : Entry) → ((x : Entry) → e ≡ get_or entries i x) → d ≡ e
get_is entries i d at e is = got entries i at ∙ sym (is d)
  where
    got : (xs : List Entry) (n : ℕ) → slice_get xs n ≡ Some d → d ≡ get_or xs n d
    got [] n a = absurd (cc)
    got (x ∷ xs) zero a = cc
    got (x ∷ xs) (suc n) a = got xs n a

pub item_path : (parents : Parents) (v : ℕ) (last : List ℕ) (entries : List Entry) (i : ℕ) (e : Entry) → ((x : Entry) → e ≡ get_or entries i x) → is_due parents v last e ≡ true → IfSome (slice_get entries i) (λ d. IsTrue (is_ancestor parents d.version v))
item_path parents v last entries i e is due = go (slice_get entries i) refl
  where
    go : (o : Option Entry) → slice_get entries i ≡ o → IfSome o (λ d. IsTrue (is_ancestor parents d.version v))
    go None at = tt
    go (Some d) at = subst (λ (x : Entry). is_ancestor parents x.version v ≡ true) (sym (get_is entries i d at e is)) (due_path parents v last e due)

pub item_past : (parents : Parents) (v : ℕ) (entries : List Entry) (i : ℕ) → length entries ≤ i → IfSome (slice_get entries i) (λ d. IsTrue (is_ancestor parents d.version v))
item_past parents v [] i past = tt
item_past parents v (x ∷ xs) zero past = absurd (omega arith)
item_past parents v (x ∷ xs) (suc i) past = item_past parents v xs i (omega arith)

-- a walk over an array so far
pub record Standing (old now : DiskView) (array : ℕ) (blocks : List ℕ) (c d : Blocks) (s t : Option Kept) (parents : Parents) (v : ℕ) (last : List ℕ) (first place : Place) : Type 0 where
  pub looks : Looks old now array blocks c d s t
  pub passes : (lists : List (List Entry)) → ArrayStands old.content array blocks c s lists → PassesUndue parents v last (left_from lists first) (left_from lists place)

module _ (old mid now : DiskView) (array : ℕ) (blocks : List ℕ) (c d e : Blocks) (s t u : Option Kept) (parents : Parents) (v : ℕ) (last : List ℕ) (first place : Place) (standing : Standing old mid array blocks c d s t parents v last first place)
    (looks : Looks mid now array blocks d e t u) where
  pub stood_on : Looks old now array blocks c e s u
  stood_on = looks_trans old mid now array blocks c d e s t u standing.looks looks

  pub stood : (r : Option Place) → ((lists : List (List Entry)) → ArrayStands mid.content array blocks d t lists → Settles lists place r)
      → (lists : List (List Entry)) → ArrayStands old.content array blocks c s lists → PassesUndue parents v last (left_from lists first) (left_behind lists r)
  stood None settles lists stands =
      subst (λ (l : List Entry). PassesUndue parents v last (left_from lists first) l) (settles lists (stands_after old mid array blocks c d s t lists standing.looks stands)) (standing.passes lists stands)
  stood (Some at) settles lists stands =
      subst (λ (l : List Entry). PassesUndue parents v last (left_from lists first) l) (settles lists (stands_after old mid array blocks c d s t lists standing.looks stands)) (standing.passes lists stands)

  module _ (at : Place) (settles : (lists : List (List Entry)) → ArrayStands mid.content array blocks d t lists → Settles lists place (Some at)) (holds : HoldsPlace u array at) (entry : Entry)
      (entry_is : IfSome u (λ kept. (x : Entry) → entry ≡ get_or kept.1 at.index x)) where
    pub stands_on : (next : Place) → next.block ≡ at.block → next.index ≡ at.index + 1 → is_due parents v last entry ≡ false → Standing old now array blocks c e s u parents v last first next
    stands_on next block index off = record {
      looks = stood_on;
      passes = λ lists stands.
          let mid' = stands_after old mid array blocks c d s t lists standing.looks stands in
          let now' = stands_after mid now array blocks d e t u lists looks mid' in
          passes_one parents v last (left_from lists first) (left_from lists next) entry
          (subst (λ (l : List Entry). PassesUndue parents v last (left_from lists first) l)
          (settles lists mid' ∙ left_held now.content array blocks e u lists now' at entry holds entry_is next block index)
          (standing.passes lists stands)) off;
    }

pub held_path : (parents : Parents) (v : ℕ) (last : List ℕ) (u : Option Kept) (i : ℕ) (entry : Entry) → IfSome u (λ kept. (x : Entry) → entry ≡ get_or kept.1 i x) → is_due parents v last entry ≡ true
    → IfSome (entry_held u i) (λ d. IsTrue (is_ancestor parents d.version v))
held_path parents v last None i entry is due = tt
held_path parents v last (Some kept) i entry is due = item_path parents v last kept.1 i entry is due

pub held_length : (pool : List PoolEntry) (list : ItemList) → length (entries_held pool list) ≡ length list.items
held_length pool list = length-map list.items (entry_of_item (arena_at pool list.arena).pairs)
