-- What is found before any level, and what all levels together say.
use Rattle.std.proofs.Common.{◌≡◌, ◌<◌, ◌≤◌, ◌-◌, ◌^◌, ◌&&◌, ℕ, Bool, true, false, leb, not, min, get_or, inl, inr, List, [], ◌∷◌, ◌++◌, length, map, reverse, take, drop, Option, None, Some, refl, sym, ap, ◌∙◌, subst, arith, append-nil, true≢false}
use Rattle.std.specs.List.{filter_map, list_all, find, slice_get}
use Rattle.std.specs.Option.{option_map, option_or, is_some}
use Rattle.std.proofs.lemmas.Bool.{leb-true, le-leb}
use Rattle.std.proofs.lemmas.List.{take-append-drop}
use Rattle.std.proofs.lemmas.List.Folds.{list_all-append}
use Rattle.strat_arena.specs.declared.items.Item.{Item}
use Rattle.strat_arena.specs.Items.{entry_of_item}
use Rattle.strat_arena.specs.ArenaView.{KeyValue}
use Rattle.strat_arena.specs.PoolView.{arena_at}
use Rattle.strat_arena.specs.declared.pool.PoolEntry.{PoolEntry}
use Rattle.strat_base.specs.Change.{Change}
use Rattle.strat_base.specs.Entries.{Entry, is_at}
use Rattle.strat_base.specs.Marks.{Marks}
use Rattle.strat_base.specs.Tree.{Parents, IsTree}
use Rattle.strat_base.proofs.EntryLemmas.{is_at_version, at_key_version}
use Rattle.strat_base.proofs.ListFacts.{Among, filter_map-append, all_at, all_from, all_same, among_reverse, find_some, find_none}
use Rattle.strat_base.proofs.ResultFacts.{option_cases}
use Rattle.def_check.specs.Firsts.{by_rule, first_in}
use Rattle.def_check.proofs.FirstLemmas.{first_of_rules}
use Rattle.def_split.proofs.ListLemmas.{bool_same}
use Rattle.def_state.specs.Breach.{Breach, breaches, array_breaches}
use Rattle.def_state.specs.Setting.{set_all}
use Rattle.def_state.specs.Sound.{has_child_below, has_ascending_entries}
use Rattle.def_slice.specs.Lists.{HoldLists}
use Rattle.def_state.specs.State.{State, versions_of, marks_of, journal_updates, update_of}
use Rattle.def_state.proofs.UpdateLemmas.{all_among, all_found}
use Rattle.strat_check.specs.Children.{first_from, lowered_by_items, lowered_by_zeros}
use Rattle.strat_level.specs.Memtable.{ItemList, entries_held}
use Rattle.strat_check.specs.Places.{place_of, first_in_arrays, NoPlaces}
use Rattle.strat_check.specs.Walked.{AreFirstChildren, IsFound}
use Rattle.strat_check.specs.declared.level_walk.Findings.{Findings}
use Rattle.strat_check.specs.declared.places.Broken.{Broken}
use Rattle.strat_check.proofs.LevelLemmas.{lowest_of, child_told}

pub children_from : (s : State) (parents : Parents) (marks : Marks) (first : List ℕ) → parents ≡ versions_of s → marks ≡ marks_of s → length first ≡ length parents
    → ((v : ℕ) → v < length parents → get_or first v (length parents) ≡ first_from parents marks 0 v) → AreFirstChildren s first
children_from s parents marks first same marked len each =
    let both : (length first ≡ length (versions_of s)) × ((v : ℕ) → v < length (versions_of s) → get_or first v (length (versions_of s)) ≡ first_from (versions_of s) (marks_of s) 0 v) =
    subst (λ (ms : Marks). (length first ≡ length (versions_of s)) × ((v : ℕ) → v < length (versions_of s) → get_or first v (length (versions_of s)) ≡ first_from (versions_of s) ms 0 v)) marked
    (subst (λ (ps : Parents). (length first ≡ length ps) × ((v : ℕ) → v < length ps → get_or first v (length ps) ≡ first_from ps marks 0 v)) same (len, each)) in
    record { len = both.0; each = both.1 }

all_mapped : {A B : Type 0} (p : B → Bool) (g : A → B) (xs : List A) → list_all p (map g xs) ≡ list_all (λ x. p (g x)) xs
all_mapped p g [] = refl
all_mapped p g (x ∷ xs) = ap (λ (b : Bool). p (g x) && b) (all_mapped p g xs)

-- what is left of updates has their versions

updates_same : (t : ℕ → Bool) (updates : List Entry) → list_all (λ (e : Entry). t e.version) (set_all updates) ≡ list_all (λ (e : Entry). t e.version) updates
updates_same t updates =
    bool_same (list_all test (set_all updates)) (list_all test updates)
    (λ all. all_from test updates (λ e among. latest e among all))
    (λ all. all_from test (set_all updates) (λ e among. all_at test e updates all (subst (Among e) (append-nil updates) (all_among updates e among))))
  where
    test : Entry → Bool
    test e = t e.version

    latest : (e : Entry) → Among e updates → list_all test (set_all updates) ≡ true → t e.version ≡ true
    latest e among all =
        elim (option_cases (find (is_at e.key e.version) (reverse updates))) [
          | inl none ↦ absurd (true≢false (sym (at_key_version e.key e.version e refl refl) ∙ find_none (is_at e.key e.version) (reverse updates) e none (among_reverse updates e among)))
          | inr some ↦
              let at = find_some (is_at e.key e.version) (set_all updates) some.0 (all_found e.key e.version updates ∙ some.1) in
              ap t (sym (is_at_version e.key e.version some.0 at.1)) ∙ all_at test some.0 (set_all updates) all at.0
        ]

-- the least living children of the versions with an update

module _ (s : State) (first : List ℕ) (children : AreFirstChildren s first) (tree : IsTree (versions_of s)) (h : ℕ) (le : h ≤ length (versions_of s)) where
  lowest_items : (pool : List PoolEntry) (list : ItemList) (updates : List Entry) (n : ℕ) → entries_held pool list ≡ set_all updates
      → leb h (lowered_by_items first n list.items) ≡ (leb h n && list_all (λ (e : Entry). not (has_child_below s h e.version)) updates)
  lowest_items pool list updates n held =
      let pairs : List KeyValue = (arena_at pool list.arena).pairs in
      lowest_of (λ (item : Item). item.version) h first n list.items
      ∙ ap (λ (b : Bool). leb h n && b) (
      all_same (λ (item : Item). leb h (get_or first item.version h)) (λ item. not (has_child_below s h item.version)) list.items (λ item among. child_told s first children tree h le item.version)
      ∙ sym (all_mapped (λ (e : Entry). not (has_child_below s h e.version)) (entry_of_item pairs) list.items)
      ∙ ap (list_all (λ (e : Entry). not (has_child_below s h e.version))) held
      ∙ updates_same (λ v. not (has_child_below s h v)) updates)

  -- in level 0 and in the sealed one
  lowest_zeros : (mem : ℕ) (journal : List Change) (pool : List PoolEntry) (zero : ItemList) (sealed : Option ItemList) (spare : ℕ) → HoldLists mem journal (entries_held pool zero) (option_map (entries_held pool) sealed) spare
      → leb h (lowered_by_zeros first (length (versions_of s)) zero sealed) ≡ list_all (λ (e : Entry). not (has_child_below s h e.version)) (filter_map update_of journal)
  lowest_zeros mem journal pool zero None spare hold =
      lowest_items pool zero (filter_map update_of journal) (length (versions_of s)) hold.1
      ∙ ap (λ (b : Bool). b && list_all (λ (e : Entry). not (has_child_below s h e.version)) (filter_map update_of journal)) (le-leb h (length (versions_of s)) le)
  lowest_zeros mem journal pool zero (Some z) spare hold =
      let front : List Entry = filter_map update_of (take mem journal) in
      let behind : List Entry = filter_map update_of (drop mem journal) in
      let both : front ++ behind ≡ filter_map update_of journal =
      sym (filter_map-append update_of (take mem journal) (drop mem journal)) ∙ ap (filter_map update_of) (take-append-drop mem journal) in
      lowest_items pool zero behind (lowered_by_items first (length (versions_of s)) z.items) hold.2
      ∙ ap (λ (b : Bool). b && list_all (λ (e : Entry). not (has_child_below s h e.version)) behind) (
      lowest_items pool z front (length (versions_of s)) hold.1
      ∙ ap (λ (b : Bool). b && list_all (λ (e : Entry). not (has_child_below s h e.version)) front) (le-leb h (length (versions_of s)) le))
      ∙ sym (list_all-append (λ (e : Entry). not (has_child_below s h e.version)) front behind)
      ∙ ap (list_all (λ (e : Entry). not (has_child_below s h e.version))) both

pub found_none : (s : State) (first : List ℕ) (mem : ℕ) (pool : List PoolEntry) (zero : ItemList) (sealed : Option ItemList) (spare : ℕ) (x : Findings) → AreFirstChildren s first → IsTree (versions_of s)
    → HoldLists mem s.journal (entries_held pool zero) (option_map (entries_held pool) sealed) spare
    → x.lowest ≡ lowered_by_zeros first (length (versions_of s)) zero sealed → x.horizon ≡ length (versions_of s) → x.leads ≡ 0 → NoPlaces x.places → IsFound s [] x
found_none s first mem pool zero sealed spare x children tree held lowest horizon leads none = record {
  firsts = record {
    tagged = none.tagged;
    arrays = record { agreeing = none.arrays.agreeing; dense = none.arrays.dense; led = none.arrays.led; drawn = none.arrays.drawn; described = none.arrays.described };
    roomy = none.roomy;
    old = none.old;
    settled = none.settled;
  };
  lowest = λ h le.
      ap (leb h) lowest ∙ lowest_zeros s first children tree h le mem s.journal pool zero sealed spare held
      ∙ ap (list_all (λ (e : Entry). not (has_child_below s h e.version))) (sym (append-nil (journal_updates s)));
  horizon = λ h. ap (leb h) horizon ∙ and_true (leb h (length (versions_of s)));
  leads = leads;
}
  where
    and_true : (a : Bool) → a ≡ (a && true)
    and_true true = refl
    and_true false = refl

-- too many leads

pub few_told : (sum updates leads : ℕ) → updates ≤ 2 ^ 24 → leads ≡ min sum (2 ^ 64 - 1) → leb leads updates ≡ leb sum updates
few_told sum updates leads small is =
    bool_same (leb leads updates) (leb sum updates) (λ le. let low = leb-true leads updates le in le-leb sum updates (omega (arith, low, is, small))) (λ le. let low = leb-true sum updates le in le-leb leads updates (omega (arith, low, is)))

-- arrays that do not ascend come first

none_first : {A : Type 0} (xs : List A) → slice_get xs 0 ≡ None → xs ≡ []
none_first [] e = refl
none_first (x ∷ xs) e = absurd (cc)

pub all_ascend : (s : State) (place : Option Broken) → place_of place ≡ first_in_arrays 109 (λ level. has_ascending_entries) s.levels → is_some place ≡ false → array_breaches s 109 (λ level a. has_ascending_entries a) ≡ []
all_ascend s None told none = none_first (array_breaches s 109 (λ level a. has_ascending_entries a)) (sym told)
all_ascend s (Some x) told none = absurd (true≢false none)

pub unordered_first : (s : State) (place : Option Broken) → place_of place ≡ first_in_arrays 109 (λ level. has_ascending_entries) s.levels → is_some place ≡ true → place_of place ≡ slice_get (breaches s) 0
unordered_first s None told some = absurd (true≢false (sym some))
unordered_first s (Some x) told some = ap (λ (o : Option Breach). option_or o (first_in (drop 1 (by_rule s)))) told ∙ sym (first_of_rules s)
