-- An array that is asked at a version is one of a view's.
use Rattle.std.proofs.Common.{◌≡◌, ◌<◌, ◌≤◌, ◌+◌, ◌-◌, Bor, set, ℕ, zero, suc, Bool, true, cond, leb, eqb, get_or, inl, inr, List, [], ◌∷◌, ◌++◌, length, Contains, flat_map, map, Option, Some, None, refl, sym, ap, ◌∙◌, subst, arith}
use Rattle.std.proofs.lemmas.Bool.{le-leb, cases_lt, ne_eqb}
use Rattle.std.proofs.lemmas.List.{length-map}
use Rattle.std.specs.List.{filter_map, cons_option, slice_get}
use Rattle.std.specs.Option.{option_and_then, option_or, option_to_list}
use Rattle.strat_arena.specs.declared.pool.PoolEntry.{PoolEntry}
use Rattle.strat_base.proofs.ListFacts.{Among, find_some, among_in_flat}
use Rattle.strat_base.specs.Entries.{Entry}
use Rattle.strat_base.specs.Tree.{Parents, below}
use Rattle.strat_base.specs.declared.descriptors.ArrayDesc.{ArrayDesc}
use Rattle.strat_base.specs.declared.descriptors.LevelDesc.{LevelDesc}
use Rattle.def_crash.specs.Image.{Image}
use Rattle.strat_level.specs.Levels.{desc_for, is_for, level_numbered}
use Rattle.def_recovery.proofs.OpeningLemmas.{next_some}
use Rattle.def_state.specs.LookUp.{first_live}
use Rattle.def_state.specs.Reading.{live_of}
use Rattle.strat_cursor.specs.Looking.{arrays_asked, levels_there, arrays_there, asked_of_level}
use Rattle.strat_cursor.specs.Picking.{array_picked, arrays_numbered, HaveNumbers, content_if, sealed_if, content_at, IsOfView, AreSourcesOf}
use Rattle.strat_cursor.specs.Ranges.{arrays_in_view, arrays_picked, content_on, seen_in, sealed_held}
use Rattle.strat_cursor.specs.Sources.{arrays_at, content_of}
use Rattle.strat_cursor.specs.Views.{ViewStands, arrays_read, sealed_in, zeros_in}
use Rattle.strat_cursor.specs.declared.sources.Source.{Source}
use Rattle.strat_cursor.specs.declared.sources.Source.TheVariants as source
use Rattle.strat_cursor.specs.declared.view.Picked.{Picked}
use Rattle.strat_cursor.specs.declared.view.Picked.TheVariants as picked
use Rattle.strat_cursor.specs.declared.view.View.{View}
use Rattle.strat_level.specs.Memtable.{ItemList, entries_held}

among_contained : {X : Type 0} (xs : List X) (x : X) → Among x xs → Contains xs x
among_contained [] x among = absurd among
among_contained (y ∷ ys) x (inl here) = (0, omega arith, sym here)
among_contained (y ∷ ys) x (inr there) = let at = among_contained ys x there in (suc at.0, omega (arith, at.1), at.2)

got_contained : {X : Type 0} (xs : List X) (i : ℕ) (x : X) → slice_get xs i ≡ Some x → Contains xs x
got_contained [] i x at = absurd (cc)
got_contained (y ∷ ys) zero x at = let same : y ≡ x = cc in (0, omega arith, same)
got_contained (y ∷ ys) (suc i) x at = let rest = got_contained ys i x at in (suc rest.0, omega (arith, rest.1), rest.2)

-- an array that is asked is one of those that are there
at_there : (levels : List (Option LevelDesc)) (i : ℕ) (level : LevelDesc) → get_or levels i None ≡ Some level → Among level (levels_there levels)
at_there [] i level e = absurd (cc)
at_there (None ∷ levels) zero level e = absurd (cc)
at_there (Some l ∷ levels) zero level e = let same : l ≡ level = cc in inl (sym same)
at_there (None ∷ levels) (suc i) level e = at_there levels i level e
at_there (Some l ∷ levels) (suc i) level e = inr (at_there levels i level e)

-- levels are counted from 1
pub level_next : (levels : List (Option LevelDesc)) (i : ℕ) → level_numbered levels (i + 1) ≡ get_or levels i None
level_next levels i =
    let some : leb 1 (i + 1) ≡ true = le-leb 1 (i + 1) (omega arith) in
    let before : i + 1 - 1 ≡ i = omega arith in
    (λ j. cond (some j) (get_or levels (before j) None) None)

numbered_there : (levels : List (Option LevelDesc)) (number : ℕ) (level : LevelDesc) → level_numbered levels number ≡ Some level → Among level (levels_there levels)
numbered_there levels zero level e = absurd (cc)
numbered_there levels (suc i) level e =
    let next : i + 1 ≡ suc i = omega arith in
    at_there levels i level (sym (level_next levels i) ∙ ap (λ (n : ℕ). level_numbered levels n) next ∙ e)

pub asked_there : (parents : Parents) (levels : List (Option LevelDesc)) (number v : ℕ) (a : ArrayDesc) → asked_of_level parents levels number v ≡ Some a → Contains (arrays_there levels) a
asked_there parents levels number v a e =
    let found = next_some (λ level. desc_for parents level v) (level_numbered levels number) a e in
    let among = find_some (is_for (below parents v found.0.horizon)) found.0.arrays a found.2 in
    among_contained (arrays_there levels) a (among_in_flat (λ (l : LevelDesc). l.arrays) (levels_there levels) found.0 a (numbered_there levels number found.0 found.1) among.0)

-- what is picked of one that is there is among what is picked of all
among_picked : {X A : Type 0} (h : X → Option A) (xs : List X) (x : X) (a : A) → Among x xs → h x ≡ Some a → Among a (filter_map h xs)
among_picked h [] x a there is = absurd there
among_picked {A = A} h (y ∷ xs) x a (inl here) is = subst (λ (o : Option A). Among a (cons_option o (filter_map h xs))) (sym (ap h (sym here) ∙ is)) (inl refl)
among_picked h (y ∷ xs) x a (inr there) is =
    let rest = among_picked h xs x a there is in
    elim (h y) as (λ o. Among a (cons_option o (filter_map h xs))) [
      | None ↦ rest
      | Some b ↦ inr rest
    ]

-- an array that is asked in a level is one of those that are asked
pub asked_among : (parents : Parents) (levels : List (Option LevelDesc)) (number v : ℕ) (a : ArrayDesc) → asked_of_level parents levels number v ≡ Some a → Contains (arrays_asked parents levels v) a
asked_among parents levels number v a e =
    let found = next_some (λ level. desc_for parents level v) (level_numbered levels number) a e in
    among_contained (arrays_asked parents levels v) a (among_picked (λ (level : LevelDesc). desc_for parents level v) (levels_there levels) found.0 a (numbered_there levels number found.0 found.1) found.2)

-- the array of a number is one of the view's
pub picked_there : (parents : Parents) (levels : Picked) (v n : ℕ) (a : ArrayDesc) → array_picked parents levels v n ≡ Some a → Contains (arrays_in_view levels) a
picked_there parents (picked.Live levels) v n a is = asked_there parents levels.now (n + 1) v a is
picked_there parents (picked.Pinned arrays) v n a is = got_contained arrays.now n a is

-- and one of those that are read
pub picked_among : (parents : Parents) (levels : Picked) (v n : ℕ) (a : ArrayDesc) → array_picked parents levels v n ≡ Some a → Contains (arrays_picked parents levels v) a
picked_among parents (picked.Live levels) v n a is = asked_among parents levels.now (n + 1) v a is
picked_among parents (picked.Pinned arrays) v n a is = got_contained arrays.now n a is

pub only : {X : Type 0} (x y : X) → Contains (x ∷ []) y → y ≡ x
only x y (zero, low, at) = sym at
only x y (suc n, low, at) = absurd (omega (arith, low))

pub array_of_view : (view : View) (v n : ℕ) (a : Bor ArrayDesc) → ViewStands view → array_picked view.tree.now.parents view.levels v n ≡ Some a.now → IsOfView view v (source.Array a)
array_of_view view v n a stands is =
    record {
      read = stands.arrays.each a.now (picked_there view.tree.now.parents view.levels v n a.now is);
      there = λ b of. subst (λ (x : ArrayDesc). Contains (arrays_read view v) x) (sym (only a.now b of)) (picked_among view.tree.now.parents view.levels v n a.now is);
    }

-- the arrays of all numbers
picks : Parents → Picked → ℕ → List (Option ArrayDesc)
picks parents (picked.Live levels) v = map (λ level. option_and_then (λ l. desc_for parents l v) level) levels.now
picks parents (picked.Pinned arrays) v = map (λ a. Some a) arrays.now

get_map : {X Y : Type 0} (h : X → Y) (xs : List X) (i : ℕ) (x : X) → get_or (map h xs) i (h x) ≡ h (get_or xs i x)
get_map h [] i x = refl
get_map h (y ∷ ys) zero x = refl
get_map h (y ∷ ys) (suc i) x = get_map h ys i x

get_some : (arrays : List ArrayDesc) (i : ℕ) → get_or (map (λ a. Some a) arrays) i None ≡ slice_get arrays i
get_some [] i = refl
get_some (a ∷ arrays) zero = refl
get_some (a ∷ arrays) (suc i) = get_some arrays i

get_picks : (parents : Parents) (levels : Picked) (v n : ℕ) → get_or (picks parents levels v) n None ≡ array_picked parents levels v n
unfolding picks
get_picks parents (picked.Live levels) v n =
    get_map (λ level. option_and_then (λ l. desc_for parents l v) level) levels.now n None
    ∙ ap (λ (o : Option LevelDesc). option_and_then (λ l. desc_for parents l v) o) (sym (level_next levels.now n))
get_picks parents (picked.Pinned arrays) v n = get_some arrays.now n

few_picks : (parents : Parents) (levels : Picked) (v : ℕ) → HaveNumbers levels → length (picks parents levels v) ≤ 22
unfolding picks
few_picks parents (picked.Live levels) v have = omega (arith, length-map levels.now (λ level. option_and_then (λ l. desc_for parents l v) level), have)
few_picks parents (picked.Pinned arrays) v have = omega (arith, length-map {A = ArrayDesc} {B = Option ArrayDesc} arrays.now (λ a. Some a), have)

-- lists that are the same by their numbers, none where there is no list, find the same
first_same : (parents : Parents) (v : ℕ) (key : List ℕ) (xs ys : List (List Entry)) → ((i : ℕ) → get_or xs i [] ≡ get_or ys i []) → first_live parents xs v key ≡ first_live parents ys v key
first_same parents v key [] [] each = refl
first_same parents v key [] (y ∷ ys) each =
    first_same parents v key [] ys (λ i. each (suc i)) ∙ ap (λ (es : List Entry). option_or (live_of parents es v key) (first_live parents ys v key)) (each zero)
first_same parents v key (x ∷ xs) [] each =
    ap (λ (es : List Entry). option_or (live_of parents es v key) (first_live parents xs v key)) (each zero) ∙ first_same parents v key xs [] (λ i. each (suc i))
first_same parents v key (x ∷ xs) (y ∷ ys) each =
    (λ j. option_or (live_of parents (each zero j) v key) (first_same parents v key xs ys (λ i. each (suc i)) j))

-- where there is none, nothing is found
module _ (f : Image) (parents : Parents) (v : ℕ) (key : List ℕ) where
  skip_levels : (levels : List (Option LevelDesc)) → first_live parents (map (content_if f) (map (λ level. option_and_then (λ l. desc_for parents l v) level) levels)) v key ≡ first_live parents (map (content_on f) (filter_map (λ level. desc_for parents level v) (levels_there levels))) v key
  skip_levels [] = refl
  skip_levels (None ∷ levels) = skip_levels levels
  skip_levels (Some level ∷ levels) =
      elim (desc_for parents level v) as (λ (o : Option ArrayDesc). option_or (live_of parents (content_if f o) v key) (first_live parents (map (content_if f) (map (λ x. option_and_then (λ l. desc_for parents l v) x) levels)) v key)
      ≡ first_live parents (map (content_on f) (cons_option o (filter_map (λ x. desc_for parents x v) (levels_there levels)))) v key) [
        | None ↦ skip_levels levels
        | Some a ↦ ap (λ (r : Option Entry). option_or (live_of parents (content_on f a) v key) r) (skip_levels levels)
      ]

  skip_arrays : (arrays : List ArrayDesc) → first_live parents (map (content_if f) (map (λ a. Some a) arrays)) v key ≡ first_live parents (map (content_on f) arrays) v key
  skip_arrays [] = refl
  skip_arrays (a ∷ arrays) = ap (λ (r : Option Entry). option_or (live_of parents (content_on f a) v key) r) (skip_arrays arrays)

  skip_picks : (levels : Picked) → first_live parents (map (content_if f) (picks parents levels v)) v key ≡ first_live parents (map (content_on f) (arrays_picked parents levels v)) v key
  unfolding picks
  skip_picks (picked.Live levels) = skip_levels levels.now
  skip_picks (picked.Pinned arrays) = skip_arrays arrays.now

-- the places of a view
all_places : Image → View → ℕ → List (List Entry)
all_places f view v = entries_held view.pool.now view.zero.now ∷ sealed_if view.pool.now (sealed_in view) ∷ map (content_if f) (picks view.tree.now.parents view.levels v)

get_places : (f : Image) (view : View) (v i : ℕ) → get_or (all_places f view v) i [] ≡ content_at f view v i
unfolding all_places
get_places f view v zero = refl
get_places f view v (suc zero) = refl
get_places f view v (suc (suc n)) =
    let less : suc (suc n) - 2 ≡ n = omega arith in
    let far : content_if f (array_picked view.tree.now.parents view.levels v (suc (suc n) - 2)) ≡ content_at f view v (suc (suc n)) =
    sym (ap (λ (b : Bool). cond b (entries_held view.pool.now view.zero.now) (cond (eqb (suc (suc n)) 1) (sealed_if view.pool.now (sealed_in view)) (content_if f (array_picked view.tree.now.parents view.levels v (suc (suc n) - 2))))) (ne_eqb (suc (suc n)) 0 (λ e. omega arith))
    ∙ ap (λ (b : Bool). cond b (sealed_if view.pool.now (sealed_in view)) (content_if f (array_picked view.tree.now.parents view.levels v (suc (suc n) - 2)))) (ne_eqb (suc (suc n)) 1 (λ e. omega arith))) in
    get_map (content_if f) (picks view.tree.now.parents view.levels v) n None
    ∙ ap (content_if f) (get_picks view.tree.now.parents view.levels v n ∙ ap (λ (k : ℕ). array_picked view.tree.now.parents view.levels v k) (sym less))
    ∙ far

seen_places : (f : Image) (view : View) (v : ℕ) (key : List ℕ) → first_live view.tree.now.parents (all_places f view v) v key ≡ seen_in f view.tree.now.parents (zeros_in view) (arrays_picked view.tree.now.parents view.levels v) v key
unfolding all_places
seen_places f view v key = ap (λ (r : Option Entry). option_or (live_of parents (entries_held pool view.zero.now) v key) r) (sealed_first (sealed_in view))
  where
    parents : Parents
    parents = view.tree.now.parents

    pool : List PoolEntry
    pool = view.pool.now

    sealed_first : (o : Option ItemList) → option_or (live_of parents (sealed_if pool o) v key) (first_live parents (map (content_if f) (picks parents view.levels v)) v key)
        ≡ first_live parents (sealed_held pool o ++ map (content_on f) (arrays_picked parents view.levels v)) v key
    sealed_first None = skip_picks f parents v key view.levels
    sealed_first (Some list) = ap (λ (r : Option Entry). option_or (live_of parents (entries_held pool list) v key) r) (skip_picks f parents v key view.levels)

get_past : {X : Type 0} (xs : List X) (i : ℕ) (d : X) → length xs ≤ i → get_or xs i d ≡ d
get_past [] i d past = refl
get_past (x ∷ xs) zero d past = absurd (omega arith)
get_past (x ∷ xs) (suc i) d past = get_past xs i d (omega (arith, past))

get_mapped : {X Y : Type 0} (h : X → Y) (xs : List X) (i : ℕ) (x : X) (d : Y) → slice_get xs i ≡ Some x → get_or (map h xs) i d ≡ h x
get_mapped h [] i x d at = absurd (cc)
get_mapped h (y ∷ ys) zero x d at = let same : y ≡ x = cc in ap h same
get_mapped h (y ∷ ys) (suc i) x d at = get_mapped h ys i x d at

pub get_within : {X : Type 0} (xs : List X) (i : ℕ) → i < length xs → (x : X) × (slice_get xs i ≡ Some x)
get_within [] i low = absurd (omega (arith, low))
get_within (x ∷ xs) zero low = (x, refl)
get_within (x ∷ xs) (suc i) low = get_within xs i (omega (arith, low))

-- lists that are the same by their numbers, none where there is no list, are the same when they are joined
joined_same : (sources : List Source) (lists : List (List ArrayDesc)) → ((i : ℕ) → get_or (map arrays_at sources) i [] ≡ get_or lists i []) → flat_map arrays_at sources ≡ flat_map (λ l. l) lists
joined_same [] [] each = refl
joined_same [] (l ∷ lists) each = joined_same [] lists (λ i. each (suc i)) ∙ ap (λ (x : List ArrayDesc). x ++ flat_map (λ r. r) lists) (each zero)
joined_same (s ∷ sources) [] each = ap (λ (x : List ArrayDesc). x ++ flat_map arrays_at sources) (each zero) ∙ joined_same sources [] (λ i. each (suc i))
joined_same (s ∷ sources) (l ∷ lists) each = (λ j. each zero j ++ joined_same sources lists (λ i. each (suc i)) j)

joined_levels : (parents : Parents) (v : ℕ) (levels : List (Option LevelDesc)) → flat_map (λ (l : List ArrayDesc). l) (map option_to_list (map (λ level. option_and_then (λ l. desc_for parents l v) level) levels)) ≡ arrays_asked parents levels v
joined_levels parents v [] = refl
joined_levels parents v (None ∷ levels) = joined_levels parents v levels
joined_levels parents v (Some level ∷ levels) =
    elim (desc_for parents level v) as (λ (o : Option ArrayDesc). option_to_list o ++ flat_map (λ (l : List ArrayDesc). l) (map option_to_list (map (λ x. option_and_then (λ l. desc_for parents l v) x) levels)) ≡ cons_option o (arrays_asked parents levels v)) [
      | None ↦ joined_levels parents v levels
      | Some a ↦ ap (λ (r : List ArrayDesc). a ∷ r) (joined_levels parents v levels)
    ]

joined_arrays : (arrays : List ArrayDesc) → flat_map (λ (l : List ArrayDesc). l) (map option_to_list (map (λ a. Some a) arrays)) ≡ arrays
joined_arrays [] = refl
joined_arrays (a ∷ arrays) = ap (λ (r : List ArrayDesc). a ∷ r) (joined_arrays arrays)

joined_picks : (parents : Parents) (levels : Picked) (v : ℕ) → flat_map (λ (l : List ArrayDesc). l) (map option_to_list (picks parents levels v)) ≡ arrays_picked parents levels v
unfolding picks
joined_picks parents (picked.Live levels) v = joined_levels parents v levels.now
joined_picks parents (picked.Pinned arrays) v = joined_arrays arrays.now

-- the arrays of all sources of a view
all_arrays : View → ℕ → List (List ArrayDesc)
all_arrays view v = [] ∷ [] ∷ map option_to_list (picks view.tree.now.parents view.levels v)

get_arrays : (view : View) (v i : ℕ) → get_or (all_arrays view v) i [] ≡ arrays_numbered view v i
unfolding all_arrays
get_arrays view v zero = refl
get_arrays view v (suc zero) = refl
get_arrays view v (suc (suc n)) =
    let less : suc (suc n) - 2 ≡ n = omega arith in
    let here : List ArrayDesc = option_to_list (array_picked view.tree.now.parents view.levels v (suc (suc n) - 2)) in
    let far : here ≡ arrays_numbered view v (suc (suc n)) =
    sym (ap (λ (b : Bool). cond b [] (cond (eqb (suc (suc n)) 1) [] here)) (ne_eqb (suc (suc n)) 0 (λ e. omega arith))
    ∙ ap (λ (b : Bool). cond b [] here) (ne_eqb (suc (suc n)) 1 (λ e. omega arith))) in
    get_map option_to_list (picks view.tree.now.parents view.levels v) n None
    ∙ ap option_to_list (get_picks view.tree.now.parents view.levels v n ∙ ap (λ (k : ℕ). array_picked view.tree.now.parents view.levels v k) (sym less))
    ∙ far

-- what a source has and where it is read from is so by its number
abbrev pub IsNumbered : View → ℕ → ℕ → Source → Type 0
IsNumbered view v i s = IsOfView view v s × ((f : Image) → content_of f view.pool.now s ≡ content_at f view v i) × (arrays_at s ≡ arrays_numbered view v i)

-- sources that are each that of its number
pub sources_of : (view : View) (v : ℕ) (sources : List Source) → HaveNumbers view.levels → length sources ≡ 24 → ((i : ℕ) (s : Source) → slice_get sources i ≡ Some s → IsNumbered view v i s) → AreSourcesOf view v sources
unfolding all_places all_arrays
sources_of view v sources have count each = record {
  few = omega (arith, count);
  each = λ i s at. (each i s at).0;
  arrays = joined_same sources (all_arrays view v) same ∙ joined_picks view.tree.now.parents view.levels v;
  seen = λ f key. first_same view.tree.now.parents v key (map (content_of f view.pool.now) sources) (all_places f view v) (λ i. alike f i) ∙ seen_places f view v key;
}
  where
    alike : (f : Image) (i : ℕ) → get_or (map (content_of f view.pool.now) sources) i [] ≡ get_or (all_places f view v) i []
    alike f i = elim (cases_lt i 24) [
      | inl low ↦
          let s = get_within sources i (omega (arith, low, count)) in
          get_mapped (content_of f view.pool.now) sources i s.0 [] s.1 ∙ (each i s.0 s.1).1 f ∙ sym (get_places f view v i)
      | inr past ↦
          get_past (map (content_of f view.pool.now) sources) i [] (omega (arith, past, count, length-map sources (content_of f view.pool.now)))
          ∙ sym (get_past (all_places f view v) i [] (omega (arith, past, few_picks view.tree.now.parents view.levels v have, length-map (picks view.tree.now.parents view.levels v) (content_if f))))
    ]

    same : (i : ℕ) → get_or (map arrays_at sources) i [] ≡ get_or (all_arrays view v) i []
    same i = elim (cases_lt i 24) [
      | inl low ↦
          let s = get_within sources i (omega (arith, low, count)) in
          get_mapped arrays_at sources i s.0 [] s.1 ∙ (each i s.0 s.1).2 ∙ sym (get_arrays view v i)
      | inr past ↦
          get_past (map arrays_at sources) i [] (omega (arith, past, count, length-map sources arrays_at))
          ∙ sym (get_past (all_arrays view v) i [] (omega (arith, past, few_picks view.tree.now.parents view.levels v have, length-map (picks view.tree.now.parents view.levels v) (λ (o : Option ArrayDesc). option_to_list o))))
    ]

-- a cursor's arrays are no more than may be picked
pub pinned_few : (parents : Parents) (levels : Picked) (v : ℕ) (arrays : _) → levels ≡ picked.Pinned arrays → length (arrays_picked parents levels v) ≤ 22 → HaveNumbers levels
pinned_few parents levels v arrays is few =
    subst (λ (x : Picked). HaveNumbers x) (sym is) (subst (λ (x : Picked). length (arrays_picked parents x v) ≤ 22) is few)

-- what holds of each below a number and of the one that is set there holds of each up to it
pub each_more : {X : Type 0} (P : ℕ → X → Type 0) (xs : List X) (i : ℕ) (x : X) → ((j : ℕ) (s : X) → j < i → slice_get xs j ≡ Some s → P j s) → P i x
    → (j : ℕ) (s : X) → j < i + 1 → slice_get (set xs i x) j ≡ Some s → P j s
each_more P [] i x each here j s low at = absurd (cc)
each_more P (y ∷ ys) zero x each here zero s low at = let same : x ≡ s = cc in subst (P 0) same here
each_more P (y ∷ ys) zero x each here (suc j) s low at = absurd (omega (arith, low))
each_more P (y ∷ ys) (suc i) x each here zero s low at = each zero s (omega arith) at
each_more P (y ∷ ys) (suc i) x each here (suc j) s low at = each_more (λ k. P (suc k)) ys i x (λ k t below at. each (suc k) t (omega (arith, below)) at) here j s (omega (arith, low)) at

pub got_low : {X : Type 0} (xs : List X) (i : ℕ) (x : X) → slice_get xs i ≡ Some x → i < length xs
got_low [] i x at = absurd (cc)
got_low (y ∷ ys) zero x at = omega arith
got_low (y ∷ ys) (suc i) x at = let low = got_low ys i x at in omega (arith, low)
