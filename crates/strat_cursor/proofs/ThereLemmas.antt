-- The sources of a view without those that are no place.
use Rattle.std.proofs.Common.{◌≡◌, ◌≤◌, ◌<◌, ◌+◌, ◌-◌, ◌*◌, set, ℕ, zero, suc, Bool, true, false, cond, get_or, inl, inr, List, [], ◌∷◌, ◌++◌, length, take, flat_map, map, Option, Some, refl, sym, ap, ◌∙◌, subst, arith}
use Rattle.std.proofs.lemmas.Bool.{cases_lt}
use Rattle.std.proofs.lemmas.Grind.{get_or-set_at}
use Rattle.std.proofs.lemmas.List.{get_or-set_other, length-append, length-set}
use Rattle.std.specs.List.{filter, slice_get}
use Rattle.std.specs.Option.{option_or}
use Rattle.strat_arena.specs.declared.pool.PoolEntry.{PoolEntry}
use Rattle.strat_base.specs.Entries.{Entry}
use Rattle.strat_base.specs.Tree.{Parents}
use Rattle.strat_base.specs.declared.descriptors.ArrayDesc.{ArrayDesc}
use Rattle.def_crash.specs.Image.{Image}
use Rattle.def_state.specs.LookUp.{first_live}
use Rattle.def_state.specs.Reading.{live_of}
use Rattle.strat_level.specs.Memtable.{entries_held}
use Rattle.strat_merge.specs.Bracket.{IsBracket}
use Rattle.strat_cursor.proofs.PickLemmas.{IsNumbered, sources_of}
use Rattle.strat_cursor.specs.Picking.{HaveNumbers, AreSourcesOf}
use Rattle.strat_cursor.specs.Ranges.{content_on}
use Rattle.strat_cursor.specs.Sources.{is_place, arrays_at, content_of}
use Rattle.strat_cursor.specs.declared.sources.Source.{Source}
use Rattle.strat_cursor.specs.declared.sources.Source.TheVariants as source
use Rattle.strat_cursor.specs.declared.view.View.{View}

-- one more is taken where one is set behind those that are taken
pub take_set : {X : Type 0} (xs : List X) (n : ℕ) (x : X) → n < length xs → take (suc n) (set xs n x) ≡ take n xs ++ x ∷ []
take_set [] n x low = absurd (omega (arith, low))
take_set (y ∷ ys) zero x low = refl
take_set (y ∷ ys) (suc n) x low = ap (λ (l : List _). y ∷ l) (take_set ys n x (omega (arith, low)))

pub filter_yes : {X : Type 0} (p : X → Bool) (xs : List X) (x : X) → p x ≡ true → filter p (xs ++ x ∷ []) ≡ filter p xs ++ x ∷ []
filter_yes p [] x is = ap (λ (b : Bool). cond b (x ∷ []) []) is
filter_yes {X = X} p (y ∷ ys) x is =
    let rest = filter_yes p ys x is in
    elim (p y) as (λ (b : Bool). cond b (y ∷ filter p (ys ++ x ∷ [])) (filter p (ys ++ x ∷ [])) ≡ cond b (y ∷ filter p ys) (filter p ys) ++ x ∷ []) [
      | true ↦ ap (λ (l : List X). y ∷ l) rest
      | false ↦ rest
    ]

pub filter_no : {X : Type 0} (p : X → Bool) (xs : List X) (x : X) → p x ≡ false → filter p (xs ++ x ∷ []) ≡ filter p xs
filter_no p [] x is = ap (λ (b : Bool). cond b (x ∷ []) []) is
filter_no {X = X} p (y ∷ ys) x is =
    let rest = filter_no p ys x is in
    elim (p y) as (λ (b : Bool). cond b (y ∷ filter p (ys ++ x ∷ [])) (filter p (ys ++ x ∷ [])) ≡ cond b (y ∷ filter p ys) (filter p ys)) [
      | true ↦ ap (λ (l : List X). y ∷ l) rest
      | false ↦ rest
    ]

-- what holds of each and of one more holds of each with that at the end
pub each_with : {X : Type 0} (P : ℕ → X → Type 0) (xs : List X) (x : X) → ((j : ℕ) (s : X) → slice_get xs j ≡ Some s → P j s) → P (length xs) x → (j : ℕ) (s : X) → slice_get (xs ++ x ∷ []) j ≡ Some s → P j s
each_with P [] x each here zero s at = let same : x ≡ s = cc in subst (P 0) same here
each_with P [] x each here (suc j) s at = absurd (cc)
each_with P (y ∷ ys) x each here zero s at = each zero s at
each_with P (y ∷ ys) x each here (suc j) s at = each_with (λ k. P (suc k)) ys x (λ k t got. each (suc k) t got) here j s at

got_filtered : {X : Type 0} (p : X → Bool) (xs : List X) (i : ℕ) (s : X) → slice_get (filter p xs) i ≡ Some s → (j : ℕ) × (slice_get xs j ≡ Some s)
got_filtered p [] i s at = absurd (cc)
got_filtered {X = X} p (x ∷ xs) i s at =
    (elim (p x) as (λ (b : Bool). slice_get (cond b (x ∷ filter p xs) (filter p xs)) i ≡ Some s → (j : ℕ) × (slice_get (x ∷ xs) j ≡ Some s)) [
      | true ↦ λ got. first i (λ k there. got_filtered p xs k s there) got
      | false ↦ λ got. let rest = got_filtered p xs i s got in (suc rest.0, rest.1)
    ]) at
  where
    first : (k : ℕ) → ((l : ℕ) → slice_get (filter p xs) l ≡ Some s → (j : ℕ) × (slice_get xs j ≡ Some s)) → slice_get (x ∷ filter p xs) k ≡ Some s → (j : ℕ) × (slice_get (x ∷ xs) j ≡ Some s)
    first zero rest got = (0, got)
    first (suc k) rest got = let found = rest k got in (suc found.0, found.1)

filter_few : {X : Type 0} (p : X → Bool) (xs : List X) → length (filter p xs) ≤ length xs
filter_few p [] = omega arith
filter_few p (x ∷ xs) =
    let rest = filter_few p xs in
    elim (p x) as (λ (b : Bool). length (cond b (x ∷ filter p xs) (filter p xs)) ≤ suc (length xs)) [
      | true ↦ omega (arith, rest)
      | false ↦ omega (arith, rest)
    ]

-- what is no place has no array and no entry
joined_there : (sources : List Source) → flat_map arrays_at (filter is_place sources) ≡ flat_map arrays_at sources
joined_there [] = refl
joined_there (source.None ∷ sources) = joined_there sources
joined_there (source.Zero list ∷ sources) = joined_there sources
joined_there (source.Array a ∷ sources) = ap (λ (l : List ArrayDesc). a.now ∷ l) (joined_there sources)

seen_there : (f : Image) (pool : List PoolEntry) (parents : Parents) (v : ℕ) (key : List ℕ) (sources : List Source) → first_live parents (map (content_of f pool) (filter is_place sources)) v key ≡ first_live parents (map (content_of f pool) sources) v key
seen_there f pool parents v key [] = refl
seen_there f pool parents v key (source.None ∷ sources) = seen_there f pool parents v key sources
seen_there f pool parents v key (source.Zero list ∷ sources) = ap (λ (r : Option Entry). option_or (live_of parents (entries_held pool list.now) v key) r) (seen_there f pool parents v key sources)
seen_there f pool parents v key (source.Array a ∷ sources) = ap (λ (r : Option Entry). option_or (live_of parents (content_on f a.now) v key) r) (seen_there f pool parents v key sources)

-- the sources of a view are those that are there
pub those_there : (view : View) (v : ℕ) (sources there : List Source) → AreSourcesOf view v sources → there ≡ filter is_place sources → AreSourcesOf view v there
those_there view v sources there are is = subst (λ (l : List Source). AreSourcesOf view v l) (sym is) (record {
  few = omega (arith, are.few, filter_few is_place sources);
  each = λ i s at. let from = got_filtered is_place sources i s at in are.each from.0 s from.1;
  arrays = joined_there sources ∙ are.arrays;
  seen = λ f key. seen_there f view.pool.now view.tree.now.parents v key sources ∙ are.seen f key;
})

-- the first places have the sources that are there of those whose numbers were asked
pub record Packs (view : View) (v i count : ℕ) (places : List Source) : Type 0 where
  pub len : length places ≡ 24
  pub low : count ≤ i
  pub all : List Source
  pub many : length all ≡ i
  pub each : (j : ℕ) (s : Source) → slice_get all j ≡ Some s → IsNumbered view v j s
  pub packed : take count places ≡ filter is_place all

pub packs_none : (view : View) (v : ℕ) (places : List Source) → length places ≡ 24 → Packs view v 0 0 places
packs_none view v places len = record {
  len = len;
  low = omega arith;
  all = [];
  many = refl;
  each = λ j s at. absurd (cc);
  packed = refl;
}

module _ (view : View) (v i count : ℕ) (places : List Source) (h : Packs view v i count places) where
  module _ (s : Source) (is : IsNumbered view v i s) (count' : ℕ) (places' : List Source) where
    abbrev all' : List Source
    all' = h.all ++ s ∷ []

    many' : length all' ≡ i + 1
    many' = let both = length-append {A = Source} h.all (s ∷ []) in omega (arith, both, h.many)

    each' : (j : ℕ) (t : Source) → slice_get all' j ≡ Some t → IsNumbered view v j t
    each' = each_with (λ (j : ℕ) (t : Source). IsNumbered view v j t) h.all s h.each (subst (λ (k : ℕ). IsNumbered view v k s) (sym h.many) is)

    pub packs_more : count < 24 → is_place s ≡ true → places' ≡ set places count s → count' ≡ count + 1 → Packs view v (i + 1) count' places'
    packs_more low there places_is count_is =
        let next : count' ≡ suc count = omega (arith, count_is) in
        record {
          len = ap (λ (l : List Source). length l) places_is ∙ length-set places count s ∙ h.len;
          low = omega (arith, h.low, count_is);
          all = all';
          many = many';
          each = each';
          packed = (λ j. take (next j) (places_is j)) ∙ take_set places count s (omega (arith, h.len, low)) ∙ ap (λ (l : List Source). l ++ s ∷ []) h.packed ∙ sym (filter_yes is_place h.all s there);
        }

    pub packs_same : is_place s ≡ false → places' ≡ places → count' ≡ count → Packs view v (i + 1) count' places'
    packs_same none places_is count_is = record {
      len = ap (λ (l : List Source). length l) places_is ∙ h.len;
      low = omega (arith, h.low, count_is);
      all = all';
      many = many';
      each = each';
      packed = (λ j. take (count_is j) (places_is j)) ∙ h.packed ∙ sym (filter_no is_place h.all s none);
    }

  pub packs_all : HaveNumbers view.levels → i ≡ 24 → AreSourcesOf view v (take count places)
  packs_all have last = those_there view v h.all (take count places) (sources_of view v h.all have (h.many ∙ last) h.each) h.packed

-- contenders are seated where each node has the number that is due there
pub seated : (contenders : ℕ) (winners : List ℕ) → length winners ≡ 2 * contenders → ((k : ℕ) → k < length winners → get_or winners k 0 ≡ k - contenders) → IsBracket contenders winners
seated contenders winners nodes each = record {
  nodes = nodes;
  low = λ k within. let is : get_or winners k 0 ≡ k - contenders = each k within in omega (arith, is, within, nodes);
  leaves = λ i within. let is : get_or winners (contenders + i) 0 ≡ (contenders + i) - contenders = each (contenders + i) (omega (arith, within, nodes)) in omega (arith, is);
}

-- a node more is set
pub seated_more : (contenders : ℕ) (winners : List ℕ) (k n : ℕ) → n ≡ k - contenders → ((j : ℕ) → j < k → get_or winners j 0 ≡ j - contenders) → k < length winners → (j : ℕ) → j < k + 1 → get_or (set winners k n) j 0 ≡ j - contenders
seated_more contenders winners k n is each within j low = elim (cases_lt j k) [
  | inl before ↦ get_or-set_other winners k j n 0 (λ e. absurd (omega (arith, e, before))) ∙ each j before
  | inr after ↦
      let same : j ≡ k = omega (arith, low, after) in
      let due : n ≡ j - contenders = omega (arith, is, same) in
      get_or-set_at winners k j n 0 same within ∙ due
]
