-- A look-up goes through the levels, and asks an array in each.
use Rattle.std.proofs.Common.{◌≡◌, ◌≤◌, ◌<◌, ◌+◌, ℕ, zero, suc, inl, inr, true, false, cond, get_or, drop, List, [], ◌∷◌, length, Option, Some, None, IsTrue, refl, sym, ap, ◌∙◌, subst, arith, true≢false, Result, Ok, Err}
use Rattle.std.proofs.lemmas.List.{drop_all, drop_more}
use Rattle.std.proofs.lemmas.List.FromFn.{get_or-range_with_len, length-range_with_len}
use Rattle.std.specs.List.{Contains, find, filter_map, cons_option, range_with_len}
use Rattle.std.specs.Prelude.{IfOk, OnErr, Bool, if◌then◌else◌, map}
use Rattle.std.specs.Option.{option_and_then, option_map, option_or, option_to_list, unwrap_or}
use Rattle.strat_array.specs.Kept.{Blocks, ArrayStands}
use Rattle.strat_array.specs.Left.{all_in}
use Rattle.strat_array.specs.Told.{TheirPairs, TellsFound, AddsPair}
use Rattle.strat_array.specs.declared.seen.Seen.{Seen}
use Rattle.strat_array.specs.declared.seen.Seen.TheVariants as seen
use Rattle.strat_array.proofs.LawLemmas.{array_stands}
use Rattle.strat_base.proofs.ListFacts.{Among, among_range}
use Rattle.strat_base.specs.Entries.{Entry, is_ascending}
use Rattle.strat_base.specs.Tree.{Parents, below}
use Rattle.strat_base.specs.declared.descriptors.ArrayDesc.{ArrayDesc}
use Rattle.strat_base.specs.declared.descriptors.LevelDesc.{LevelDesc}
use Rattle.strat_base.specs.declared.failures.Fault.{Fault}
use Rattle.def_crash.specs.Faults.{ReadsAtMost}
use Rattle.def_crash.specs.Image.{Image}
use Rattle.def_crash.specs.Moments.{DiskView}
use Rattle.def_bytes.specs.Arrays.{blocks_of, entries_on}
use Rattle.strat_level.specs.Levels.{desc_for, is_for, level_numbered}
use Rattle.strat_memory.specs.Filters.{LevelFilters, filter_refuses}
use Rattle.strat_store.specs.Filtering.{AreNumberedByPlace, arrays_unrefused, filtered_says, on_disk_filtered, shown_unless_refused, unrefused_of_level}
use Rattle.def_state.specs.LookUp.{array_asked, looked_up, first_live}
use Rattle.def_state.specs.Reading.{live_of}
use Rattle.strat_cursor.specs.Looking.{levels_there, arrays_asked, arrays_there, AreInOrder, AreCachedFrom, LooksThrough, HaveFewBlocks, HaveOwnIds, MayBeAsked, asked_of_level, array_says, decides, reads_of_arrays}
use Rattle.strat_cursor.proofs.ThroughLemmas.{still_one, through_trans}
use Rattle.strat_cursor.proofs.PickLemmas.{asked_among, asked_there, level_next, only}

-- what an array says, as it was found in the lists of its blocks
pub tell_one : (content : Option Image) (f : Image) (a : ArrayDesc) (c : Blocks) (parents : Parents) (key : List ℕ) (v : ℕ) (old new : TheirPairs) (told : Seen) → content ≡ Some f → MayBeAsked f c a
    → ((lists : List (List Entry)) → ArrayStands content a.id (blocks_of a.extents) c None lists → IsTrue (is_ascending (all_in lists)) → TellsFound (live_of parents (all_in lists) v key) key old new told)
    → TellsFound (array_says f parents v key (Some a)) key old new told
tell_one content f a c parents key v old new told exposed may answers =
    let made = array_stands content f a.id (blocks_of a.extents) c may.entries exposed may.read may.cached in
    subst (λ (es : List Entry). TellsFound (live_of parents es v key) key old new told) (made.2 ∙ sym (ap (λ (o : Option (List Entry)). unwrap_or o []) may.read))
    (answers made.0 made.1 (subst (λ (es : List Entry). IsTrue (is_ascending es)) (sym made.2) may.ordered))

-- an array is asked as it says, unless its filter refuses the key; then it says nothing
pub passed_one : (f : Image) (filters : List LevelFilters) (parents : Parents) (number v : ℕ) (key : List ℕ) (a : ArrayDesc) → filter_refuses filters number a.id key ≡ false → filtered_says f filters parents number v key (Some a) ≡ array_says f parents v key (Some a)
passed_one f filters parents number v key a passes = ap (λ (b : Bool). live_of parents (if b then [] else unwrap_or (entries_on f (blocks_of a.extents)) []) v key) passes

pub refused_one : (f : Image) (filters : List LevelFilters) (parents : Parents) (number v : ℕ) (key : List ℕ) (a : ArrayDesc) → filter_refuses filters number a.id key ≡ true → filtered_says f filters parents number v key (Some a) ≡ None
refused_one f filters parents number v key a refused = ap (λ (b : Bool). live_of parents (if b then [] else unwrap_or (entries_on f (blocks_of a.extents)) []) v key) refused

-- an array that is found among those of a level is found with the number of the level
pub find_numbered : (n : ℕ) (p : ArrayDesc → Bool) (arrays : List ArrayDesc) → find (λ (one : ℕ × ArrayDesc). p one.1) (map (λ a. (n, a)) arrays) ≡ option_map (λ a. (n, a)) (find p arrays)
find_numbered n p [] = refl
find_numbered n p (a ∷ arrays) = by (p a) (find_numbered n p arrays)
  where
    by : (b : Bool) → find (λ (one : ℕ × ArrayDesc). p one.1) (map (λ x. (n, x)) arrays) ≡ option_map (λ x. (n, x)) (find p arrays)
        → cond b (Some (n, a)) (find (λ (one : ℕ × ArrayDesc). p one.1) (map (λ x. (n, x)) arrays)) ≡ option_map (λ x. (n, x)) (cond b (Some a) (find p arrays))
    by true rest = refl
    by false rest = rest

-- what is looked up in levels: what the first of them says, or else what the others do
said_first : (f : Image) (filters : List LevelFilters) (parents : Parents) (n v : ℕ) (key : List ℕ) (level : Option LevelDesc) (levels : List (Option LevelDesc)) → ((l : LevelDesc) → level ≡ Some l → l.number ≡ n)
    → looked_up (on_disk_filtered f filters) parents [] (levels_there (level ∷ levels)) v key
    ≡ option_or (filtered_says f filters parents n v key (option_and_then (λ l. desc_for parents l v) level)) (looked_up (on_disk_filtered f filters) parents [] (levels_there levels) v key)
said_first f filters parents n v key None levels numbered = refl
said_first f filters parents n v key (Some level) levels numbered =
    ap (λ (o : Option (ℕ × ArrayDesc)). first_live parents (cons_option (option_map (λ (one : ℕ × ArrayDesc). shown_unless_refused f filters one.0 one.1 key) o) rest) v key) (find_numbered level.number (is_for (below parents v level.horizon)) level.arrays)
    ∙ by (desc_for parents level v)
    ∙ ap (λ (m : ℕ). option_or (filtered_says f filters parents m v key (desc_for parents level v)) (first_live parents rest v key)) (numbered level refl)
  where
    rest : List (List Entry)
    rest = filter_map (λ (l : LevelDesc). option_map (λ (one : ℕ × ArrayDesc). shown_unless_refused f filters one.0 one.1 key) (array_asked (on_disk_filtered f filters) parents l v)) (levels_there levels)

    by : (o : Option ArrayDesc) → first_live parents (cons_option (option_map (λ (one : ℕ × ArrayDesc). shown_unless_refused f filters one.0 one.1 key) (option_map (λ a. (level.number, a)) o)) rest) v key
        ≡ option_or (filtered_says f filters parents level.number v key o) (first_live parents rest v key)
    by None = refl
    by (Some a) = refl

-- what an answer says goes on to the first of two that says something
tells_on : (said rest : Option Entry) (key : List ℕ) (old new : TheirPairs) (told : Seen) → TellsFound said key old new told → decides told ≡ true → TellsFound (option_or said rest) key old new told
tells_on said rest key old new seen.None tells some = absurd (true≢false (sym some))
tells_on said rest key old new seen.Gone tells some = (tells.0, ap (λ (o : Option Entry). option_or o rest) tells.1, tells.2, tells.3)
tells_on said rest key old new seen.Put tells some = (tells.0, tells.1, ap (λ (o : Option Entry). option_or o rest) tells.2, tells.3, tells.4)

tells_none : (said : Option Entry) (key : List ℕ) (old new : TheirPairs) (told : Seen) → TellsFound said key old new told → decides told ≡ false → said ≡ None
tells_none said key old new seen.None tells none = tells.0
tells_none said key old new seen.Gone tells none = absurd (true≢false none)
tells_none said key old new seen.Put tells none = absurd (true≢false none)

pub adds_none : (old new : TheirPairs) (told : Seen) → AddsPair old new told → decides told ≡ false → new ≡ old
adds_none old new seen.None adds none = adds
adds_none old new seen.Gone adds none = adds
adds_none old new seen.Put adds none = absurd (true≢false none)

-- a look-up so far: the levels that were asked say nothing
pub record Passing (old now : DiskView) (filters : List LevelFilters) (levels : List (Option LevelDesc)) (parents : Parents) (key : List ℕ) (v above : ℕ) (c d : Blocks) : Type 0 where
  pub looks : LooksThrough old now (arrays_there levels) c d
  pub silent : (f : Image) (next : ℕ) → old.content ≡ Some f → AreInOrder f (arrays_asked parents levels v) → HaveOwnIds (arrays_there levels) → AreNumberedByPlace levels → AreCachedFrom f next (arrays_asked parents levels v) c
      → looked_up (on_disk_filtered f filters) parents [] (levels_there (drop above levels)) v key ≡ looked_up (on_disk_filtered f filters) parents [] (levels_there levels) v key

module _ (old mid : DiskView) (filters : List LevelFilters) (levels : List (Option LevelDesc)) (parents : Parents) (key : List ℕ) (v above : ℕ) (c d : Blocks) where
  abbrev asks : Option ArrayDesc
  asks = asked_of_level parents levels (above + 1) v

  -- an array that is asked after others
  pub may_be_asked : Passing old mid filters levels parents key v above c d → (f : Image) (next : ℕ) → old.content ≡ Some f → AreInOrder f (arrays_asked parents levels v) → HaveOwnIds (arrays_there levels) → AreNumberedByPlace levels → AreCachedFrom f next (arrays_asked parents levels v) c
      → (a : ArrayDesc) → asks ≡ Some a → MayBeAsked f d a
  may_be_asked passing f next exposed ordered own numbered cached a is =
      let of = asked_among parents levels (above + 1) v a is in
      let entries = ordered.each a of in
      record {
        entries = entries.0;
        read = entries.1;
        ordered = entries.2;
        cached = still_one old.content f (arrays_there levels) c d exposed own passing.looks.cached a (asked_there parents levels (above + 1) v a is) (λ index block x there at. cached.same a index block x of there at);
      }

  left_first : (f : Image) → above < length levels → AreNumberedByPlace levels
      → looked_up (on_disk_filtered f filters) parents [] (levels_there (drop above levels)) v key ≡ option_or (filtered_says f filters parents (above + 1) v key asks) (looked_up (on_disk_filtered f filters) parents [] (levels_there (drop (above + 1) levels)) v key)
  left_first f within numbered =
      ap (λ (ls : List (Option LevelDesc)). looked_up (on_disk_filtered f filters) parents [] (levels_there ls) v key) (drop_more levels above None within)
      ∙ said_first f filters parents (above + 1) v key (get_or levels above None) (drop (above + 1) levels) (λ l is. numbered (above + 1) l (level_next levels above ∙ is))
      ∙ ap (λ (o : Option LevelDesc). option_or (filtered_says f filters parents (above + 1) v key (option_and_then (λ l. desc_for parents l v) o)) (looked_up (on_disk_filtered f filters) parents [] (levels_there (drop (above + 1) levels)) v key)) (sym (level_next levels above))

  module _ (new : DiskView) (e : Blocks) (before after : TheirPairs) (told : Seen) where
    abbrev Asked : Type 0
    Asked = (f : Image) → mid.content ≡ Some f → ((a : ArrayDesc) → asks ≡ Some a → MayBeAsked f d a) → TellsFound (filtered_says f filters parents (above + 1) v key asks) key before after told

    pub passes_on : above < length levels → Passing old mid filters levels parents key v above c d → LooksThrough mid new (arrays_there levels) d e → Asked → decides told ≡ false → Passing old new filters levels parents key v (above + 1) c e
    passes_on within passing looks answers none = record {
      looks = through_trans old mid new (arrays_there levels) c d e passing.looks looks;
      silent = λ f next exposed ordered own numbered cached.
          let tells = answers f (passing.looks.disk.same ∙ exposed) (may_be_asked passing f next exposed ordered own numbered cached) in
          sym (left_first f within numbered ∙ ap (λ (o : Option Entry). option_or o (looked_up (on_disk_filtered f filters) parents [] (levels_there (drop (above + 1) levels)) v key)) (tells_none _ key before after told tells none))
          ∙ passing.silent f next exposed ordered own numbered cached;
    }

    pub passing_answers : above < length levels → Passing old mid filters levels parents key v above c d → Asked → decides told ≡ true
        → (f : Image) (next : ℕ) → old.content ≡ Some f → AreInOrder f (arrays_asked parents levels v) → HaveOwnIds (arrays_there levels) → AreNumberedByPlace levels → AreCachedFrom f next (arrays_asked parents levels v) c
        → TellsFound (looked_up (on_disk_filtered f filters) parents [] (levels_there levels) v key) key before after told
    passing_answers within passing answers some f next exposed ordered own numbered cached =
        let tells = answers f (passing.looks.disk.same ∙ exposed) (may_be_asked passing f next exposed ordered own numbered cached) in
        subst (λ (o : Option Entry). TellsFound o key before after told) (sym (left_first f within numbered) ∙ passing.silent f next exposed ordered own numbered cached)
        (tells_on _ (looked_up (on_disk_filtered f filters) parents [] (levels_there (drop (above + 1) levels)) v key) key before after told tells some)

-- an array whose filter does not refuse the key is the one that is read
pub unrefused_is : (filters : List LevelFilters) (parents : Parents) (levels : List (Option LevelDesc)) (number v : ℕ) (key : List ℕ) (a : ArrayDesc) → asked_of_level parents levels number v ≡ Some a → filter_refuses filters number a.id key ≡ false
    → unrefused_of_level filters parents levels number v key ≡ Some a
unrefused_is filters parents levels number v key a is passes =
    ap (λ (o : Option ArrayDesc). option_and_then (λ b. if filter_refuses filters number b.id key then None else Some b) o) is
    ∙ ap (λ (b : Bool). if b then None else Some a) passes

-- and the one that is read was asked, and does not refuse the key
pub unrefused_asked : (filters : List LevelFilters) (parents : Parents) (levels : List (Option LevelDesc)) (number v : ℕ) (key : List ℕ) (a : ArrayDesc) → unrefused_of_level filters parents levels number v key ≡ Some a
    → (asked_of_level parents levels number v ≡ Some a) × (filter_refuses filters number a.id key ≡ false)
unrefused_asked filters parents levels number v key a is = by (asked_of_level parents levels number v) refl
  where
    kept : (b : ArrayDesc) (refuses : Bool) → filter_refuses filters number b.id key ≡ refuses → (if refuses then None else Some b) ≡ Some a → (b ≡ a) × (filter_refuses filters number b.id key ≡ false)
    kept b true at e = absurd (cc)
    kept b false at e = let same : b ≡ a = cc in (same, at)

    by : (o : Option ArrayDesc) → asked_of_level parents levels number v ≡ o → (asked_of_level parents levels number v ≡ Some a) × (filter_refuses filters number a.id key ≡ false)
    by None at = let none : ◌≡◌ {A = Option ArrayDesc} None (Some a) = sym (ap (λ (o : Option ArrayDesc). option_and_then (λ b. if filter_refuses filters number b.id key then None else Some b) o) at) ∙ is in absurd (cc)
    by (Some b) at =
        let here = kept b (filter_refuses filters number b.id key) refl (sym (ap (λ (o : Option ArrayDesc). option_and_then (λ b. if filter_refuses filters number b.id key then None else Some b) o) at) ∙ is) in
        (at ∙ ap (λ (x : ArrayDesc). Some x) here.0, ap (λ (x : ArrayDesc). filter_refuses filters number x.id key) (sym here.0) ∙ here.1)

-- what is found of some numbers
mapped : (f : ℕ → Option ArrayDesc) (ks : List ℕ) (k : ℕ) (x : ArrayDesc) → Among k ks → f k ≡ Some x → Contains (filter_map f ks) x
mapped f [] k x among is = absurd among
mapped f (j ∷ ks) k x (inl here) is = subst (λ (o : Option ArrayDesc). Contains (cons_option o (filter_map f ks)) x) (sym (ap f (sym here) ∙ is)) (0, omega arith, refl)
mapped f (j ∷ ks) k x (inr there) is = more (f j) (mapped f ks k x there is)
  where
    more : (o : Option ArrayDesc) → Contains (filter_map f ks) x → Contains (cons_option o (filter_map f ks)) x
    more None at = at
    more (Some y) at = (suc at.0, omega (arith, at.1), at.2)

mapped_from : (f : ℕ → Option ArrayDesc) (ks : List ℕ) (x : ArrayDesc) → Contains (filter_map f ks) x → (k : ℕ) × (f k ≡ Some x)
mapped_from f [] x at = absurd (omega (arith, at.1))
mapped_from f (k ∷ ks) x at = by (λ later. mapped_from f ks x later) (f k) refl
  where
    first : ((i : ℕ) → i < length (filter_map f ks) → get_or (filter_map f ks) i x ≡ x → (j : ℕ) × (f j ≡ Some x)) → (y : ArrayDesc) → f k ≡ Some y → Contains (y ∷ filter_map f ks) x → (j : ℕ) × (f j ≡ Some x)
    first rest y is (zero, lt, here) = (k, is ∙ ap (λ (z : ArrayDesc). Some z) here)
    first rest y is (suc i, lt, here) = rest i (omega (arith, lt)) here

    by : (Contains (filter_map f ks) x → (j : ℕ) × (f j ≡ Some x)) → (o : Option ArrayDesc) → f k ≡ o → (j : ℕ) × (f j ≡ Some x)
    by rest None is = rest (subst (λ (o : Option ArrayDesc). Contains (cons_option o (filter_map f ks)) x) is at)
    by rest (Some y) is = first (λ i lt here. rest (i, lt, here)) y is (subst (λ (o : Option ArrayDesc). Contains (cons_option o (filter_map f ks)) x) is at)

-- each array that a get may read is asked in some level, where its filter does not refuse the key
pub unrefused_from : (filters : List LevelFilters) (parents : Parents) (levels : List (Option LevelDesc)) (v : ℕ) (key : List ℕ) (a : ArrayDesc) → Contains (arrays_unrefused filters parents levels v key) a
    → (number : ℕ) × (asked_of_level parents levels number v ≡ Some a) × (filter_refuses filters number a.id key ≡ false)
unrefused_from filters parents levels v key a at =
    let here = mapped_from (λ number. unrefused_of_level filters parents levels number v key) (range_with_len 1 (length levels)) a at in
    let both = unrefused_asked filters parents levels here.0 v key a here.1 in
    (here.0, both.0, both.1)

-- so none is read where all refuse
pub none_unrefused : (filters : List LevelFilters) (parents : Parents) (levels : List (Option LevelDesc)) (v : ℕ) (key : List ℕ)
    → ((number : ℕ) (a : ArrayDesc) → asked_of_level parents levels number v ≡ Some a → filter_refuses filters number a.id key ≡ true) → arrays_unrefused filters parents levels v key ≡ []
none_unrefused filters parents levels v key all = by (arrays_unrefused filters parents levels v key) refl
  where
    by : (xs : List ArrayDesc) → arrays_unrefused filters parents levels v key ≡ xs → arrays_unrefused filters parents levels v key ≡ []
    by [] is = is
    by (a ∷ xs) is =
        let from = unrefused_from filters parents levels v key a (subst (λ (ys : List ArrayDesc). Contains ys a) (sym is) (0, omega arith, refl)) in
        absurd (true≢false (sym (all from.0 a from.1) ∙ from.2))

-- how many reads are left
reads_first : (n : ℕ) (f : ℕ → Option ArrayDesc) (k : ℕ) (ks : List ℕ) → reads_of_arrays n (filter_map f (k ∷ ks)) ≡ reads_of_arrays n (option_to_list (f k)) + reads_of_arrays n (filter_map f ks)
reads_first n f k ks =
    elim (f k) as (λ (o : Option ArrayDesc). reads_of_arrays n (cons_option o (filter_map f ks)) ≡ reads_of_arrays n (option_to_list o) + reads_of_arrays n (filter_map f ks)) [
      | None ↦ omega arith
      | Some a ↦ omega arith
    ]

module _ (filters : List LevelFilters) (parents : Parents) (levels : List (Option LevelDesc)) (v : ℕ) (key : List ℕ) where
  abbrev one_of : ℕ → Option ArrayDesc
  one_of number = unrefused_of_level filters parents levels number v key

  -- the arrays that may be read behind some levels
  abbrev pub unrefused_behind : ℕ → List ArrayDesc
  unrefused_behind above = filter_map one_of (drop above (range_with_len 1 (length levels)))

  pub reads_left : (n above : ℕ) → above < length levels → reads_of_arrays n (unrefused_behind above) ≡ reads_of_arrays n (option_to_list (one_of (above + 1))) + reads_of_arrays n (unrefused_behind (above + 1))
  reads_left n above within =
      let numbers : List ℕ = range_with_len 1 (length levels) in
      let all : length numbers ≡ length levels = length-range_with_len 1 (length levels) in
      let at : get_or numbers above 0 ≡ above + 1 = get_or-range_with_len 1 (length levels) above 0 within ∙ omega arith in
      ap (λ (ks : List ℕ). reads_of_arrays n (filter_map one_of ks)) (drop_more numbers above 0 (omega (arith, within, all)))
      ∙ reads_first n one_of (get_or numbers above 0) (drop (above + 1) numbers)
      ∙ ap (λ (k : ℕ). reads_of_arrays n (option_to_list (one_of k)) + reads_of_arrays n (unrefused_behind (above + 1))) at

  -- an array that is read in a level has few blocks where all that are read have
  pub few_unrefused : (n above : ℕ) → above < length levels → HaveFewBlocks n (arrays_unrefused filters parents levels v key) → HaveFewBlocks n (option_to_list (one_of (above + 1)))
  few_unrefused n above within few = by (one_of (above + 1)) refl
    where
      by : (o : Option ArrayDesc) → one_of (above + 1) ≡ o → HaveFewBlocks n (option_to_list o)
      by None is a there = absurd (omega (arith, there.1))
      by (Some b) is a there =
          let among = among_range 1 (length levels) (above + 1) (omega arith) (omega (arith, within)) in
          few a (subst (λ (x : ArrayDesc). Contains (arrays_unrefused filters parents levels v key) x) (sym (only b a there)) (mapped one_of (range_with_len 1 (length levels)) (above + 1) b among is))

-- and is read no more than it may be
pub one_read : (n : ℕ) (a : ArrayDesc) (before now : ℕ) → ReadsAtMost (n + 4 + length (blocks_of a.extents)) before now → ReadsAtMost (reads_of_arrays n (a ∷ [])) before now
one_read n a before now reads = record { later = reads.later; bound = omega (arith, reads.bound) }

-- where the whole of the levels was passed, nothing is found
pub passed_all : (old now : DiskView) (filters : List LevelFilters) (levels : List (Option LevelDesc)) (parents : Parents) (key : List ℕ) (v above : ℕ) (c d : Blocks) → length levels ≤ above → Passing old now filters levels parents key v above c d
    → (f : Image) (next : ℕ) → old.content ≡ Some f → AreInOrder f (arrays_asked parents levels v) → HaveOwnIds (arrays_there levels) → AreNumberedByPlace levels → AreCachedFrom f next (arrays_asked parents levels v) c
    → looked_up (on_disk_filtered f filters) parents [] (levels_there levels) v key ≡ None
passed_all old now filters levels parents key v above c d past passing f next exposed ordered own numbered cached =
    sym (passing.silent f next exposed ordered own numbered cached)
    ∙ ap (λ (ls : List (Option LevelDesc)). looked_up (on_disk_filtered f filters) parents [] (levels_there ls) v key) (drop_all above levels past)

-- an answer that is not that nothing is said says something
pub decided : (told : Seen) → (told ≡ seen.None → ⊥) → decides told ≡ true
decided seen.None other = absurd (other refl)
decided seen.Gone other = refl
decided seen.Put other = refl

-- what is looked up in lists and levels: what the lists say, or else what the levels do
or_or : (a b c : Option Entry) → option_or a (option_or b c) ≡ option_or (option_or a b) c
or_or None b c = refl
or_or (Some x) b c = refl

looked_behind : (f : Image) (filters : List LevelFilters) (parents : Parents) (zeros : List (List Entry)) (levels : List LevelDesc) (v : ℕ) (key : List ℕ)
    → looked_up (on_disk_filtered f filters) parents zeros levels v key ≡ option_or (first_live parents zeros v key) (looked_up (on_disk_filtered f filters) parents [] levels v key)
looked_behind f filters parents [] levels v key = refl
looked_behind f filters parents (entries ∷ zeros) levels v key =
    ap (option_or (live_of parents entries v key)) (looked_behind f filters parents zeros levels v key)
    ∙ or_or (live_of parents entries v key) (first_live parents zeros v key) (looked_up (on_disk_filtered f filters) parents [] levels v key)

-- what the lists of level 0 say of a key is what is told, whatever the levels say
pub looks_here : (content : Option Image) (filters : List LevelFilters) (parents : Parents) (zeros : List (List Entry)) (levels : List (Option LevelDesc)) (n : ℕ) (key : List ℕ) (c : Blocks) (out : TheirPairs) (told : Seen)
    → TellsFound (first_live parents zeros n key) key [] out told → decides told ≡ true
    → (f : Image) (next : ℕ) → content ≡ Some f → AreInOrder f (arrays_asked parents levels n) → HaveOwnIds (arrays_there levels) → AreNumberedByPlace levels → AreCachedFrom f next (arrays_asked parents levels n) c
    → TellsFound (looked_up (on_disk_filtered f filters) parents zeros (levels_there levels) n key) key [] out told
looks_here content filters parents zeros levels n key c out told tells some f next exposed ordered own numbered cached =
    subst (λ (o : Option Entry). TellsFound o key [] out told) (sym (looked_behind f filters parents zeros (levels_there levels) n key))
    (tells_on (first_live parents zeros n key) (looked_up (on_disk_filtered f filters) parents [] (levels_there levels) n key) key [] out told tells some)

-- pairs that a fault leaves as they were are none where there were none
pub none_more : (r : Result Seen Fault) (mid out : TheirPairs) → OnErr r (out ≡ mid) → mid ≡ [] → OnErr r (out ≡ [])
none_more (Ok told) mid out same none = tt
none_more (Err f) mid out same none = same ∙ none

-- what the lists of level 0 say nothing of is what the levels say
pub looks_on : (content : Option Image) (filters : List LevelFilters) (parents ps : Parents) (zeros : List (List Entry)) (levels : List (Option LevelDesc)) (n : ℕ) (key : List ℕ) (c : Blocks) (mid out : TheirPairs) (r : Result Seen Fault)
    → ps ≡ parents → first_live parents zeros n key ≡ None → mid ≡ []
    → IfOk r (λ seen. (f : Image) (next : ℕ) → content ≡ Some f → AreInOrder f (arrays_asked ps levels n) → HaveOwnIds (arrays_there levels) → AreNumberedByPlace levels → AreCachedFrom f next (arrays_asked ps levels n) c
    → TellsFound (looked_up (on_disk_filtered f filters) ps [] (levels_there levels) n key) key mid out seen)
    → IfOk r (λ seen. (f : Image) (next : ℕ) → content ≡ Some f → AreInOrder f (arrays_asked parents levels n) → HaveOwnIds (arrays_there levels) → AreNumberedByPlace levels → AreCachedFrom f next (arrays_asked parents levels n) c
    → TellsFound (looked_up (on_disk_filtered f filters) parents zeros (levels_there levels) n key) key [] out seen)
looks_on content filters parents ps zeros levels n key c mid out (Err e) same none empty tells = tt
looks_on content filters parents ps zeros levels n key c mid out (Ok seen) same none empty tells = λ f next exposed ordered own numbered cached.
    let rest : Parents → Option Entry = λ (qs : Parents). looked_up (on_disk_filtered f filters) qs [] (levels_there levels) n key in
    subst (λ (o : Option Entry). TellsFound o key [] out seen) (sym (looked_behind f filters parents zeros (levels_there levels) n key ∙ ap (λ (o : Option Entry). option_or o (rest parents)) none))
    (subst (λ (p : TheirPairs). TellsFound (rest parents) key p out seen) empty
    (subst (λ (qs : Parents). TellsFound (rest qs) key mid out seen) same (tells f next exposed (subst (λ (qs : Parents). AreInOrder f (arrays_asked qs levels n)) (sym same) ordered) own numbered (subst (λ (qs : Parents). AreCachedFrom f next (arrays_asked qs levels n) c) (sym same) cached))))

-- levels are counted from 1
pub next_level : (levels : List (Option LevelDesc)) (i : ℕ) → level_numbered levels (i + 1) ≡ get_or levels i None
next_level = level_next

-- what a search in an array found is what the array says, if its filter does not refuse the key
pub tell_passed : (content : Option Image) (f : Image) (filters : List LevelFilters) (a : ArrayDesc) (c : Blocks) (parents ps : Parents) (number : ℕ) (key : List ℕ) (v : ℕ) (old new : TheirPairs) (told : Seen) → ps ≡ parents → filter_refuses filters number a.id key ≡ false
    → content ≡ Some f → MayBeAsked f c a
    → ((lists : List (List Entry)) → ArrayStands content a.id (blocks_of a.extents) c None lists → IsTrue (is_ascending (all_in lists)) → TellsFound (live_of ps (all_in lists) v key) key old new told)
    → TellsFound (filtered_says f filters parents number v key (Some a)) key old new told
tell_passed content f filters a c parents ps number key v old new told same passes exposed may answers =
    subst (λ (o : Option Entry). TellsFound o key old new told) (sym (passed_one f filters parents number v key a passes))
    (tell_one content f a c parents key v old new told exposed may
    (subst (λ (qs : Parents). (lists : List (List Entry)) → ArrayStands content a.id (blocks_of a.extents) c None lists → IsTrue (is_ascending (all_in lists)) → TellsFound (live_of qs (all_in lists) v key) key old new told) same answers))
