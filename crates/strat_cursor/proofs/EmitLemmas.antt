-- One source goes on, and the others stay as they are.
use Rattle.std.proofs.Common.{◌≡◌, ◌<◌, ◌≤◌, ◌+◌, ℕ, zero, suc, true, not, get_or, set, inl, inr, ◌⊎◌, List, [], ◌∷◌, length, Contains, Option, Some, refl, sym, ap, ◌∙◌, subst, arith}
use Rattle.std.specs.List.{slice_get}
use Rattle.std.specs.Option.{option_and_then}
use Rattle.std.proofs.lemmas.Bool.{and_parts, and_from}
use Rattle.std.proofs.lemmas.List.{length-set}
use Rattle.strat_arena.specs.declared.pool.PoolEntry.{PoolEntry}
use Rattle.strat_array.specs.Kept.{Kept, Blocks}
use Rattle.strat_array.specs.Left.{is_from}
use Rattle.strat_array.proofs.KeptLemmas.{listed_at}
use Rattle.strat_base.specs.Order.{key_cmp}
use Rattle.strat_base.specs.Tree.{Parents}
use Rattle.strat_base.specs.declared.descriptors.ArrayDesc.{ArrayDesc}
use Rattle.def_crash.specs.Image.{Image}
use Rattle.def_crash.specs.Moments.{DiskView}
use Rattle.def_bytes.specs.Arrays.{blocks_of, block_on}
use Rattle.strat_cursor.specs.Ahead.{is_after, is_to_come}
use Rattle.strat_cursor.specs.Contenders.{head_in, AreAtHand}
use Rattle.strat_cursor.specs.Looking.{LooksThrough, HaveOwnIds}
use Rattle.strat_cursor.specs.Sources.{PassesUndue, MayBeRead, IsSettledAt, IsUpTo, StandsIn, arrays_at, left_at_source, first_at_source, lists_of}
use Rattle.strat_cursor.specs.Emitting.{AreSettled, AreUpTo, IsLater, sum_over}
use Rattle.strat_cursor.specs.declared.scan_buffers.SourcePosition.{SourcePosition}
use Rattle.strat_cursor.specs.declared.sources.Source.{Source}
use Rattle.strat_cursor.specs.declared.sources.Source.TheVariants as source
use Rattle.strat_cursor.proofs.ThroughLemmas.{same_array}
use Rattle.std.specs.Ordering.{is_lt}

pub at_hand : (parents : Parents) (v : ℕ) (pool : List PoolEntry) (sources : List Source) (positions : List SourcePosition) → AreSettled parents v pool sources positions → AreAtHand pool sources positions
at_hand parents v pool sources positions settled = record { same = settled.same; each = λ i s d at there. let both = settled.each i s d at there in (both.0, both.1.held) }

-- what stands at a number after one was set
pub set_cases : {X : Type 0} (xs : List X) (w : ℕ) (x : X) (i : ℕ) (y : X) → slice_get (set xs w x) i ≡ Some y → ((i ≡ w) × (y ≡ x)) ⊎ (slice_get xs i ≡ Some y)
set_cases [] w x i y at = inr at
set_cases (z ∷ zs) zero x zero y at = let same : x ≡ y = cc in inl (refl, sym same)
set_cases (z ∷ zs) zero x (suc i) y at = inr at
set_cases (z ∷ zs) (suc w) x zero y at = inr at
set_cases (z ∷ zs) (suc w) x (suc i) y at =
    elim (set_cases zs w x i y at) [
      | inl here ↦ inl (ap (λ n. suc n) here.0, here.1)
      | inr before ↦ inr before
    ]

same_at : {X : Type 0} (xs : List X) (i w : ℕ) (x y : X) → i ≡ w → slice_get xs i ≡ Some y → slice_get xs w ≡ Some x → y ≡ x
same_at xs i w x y same at there = let both : Some y ≡ Some x = sym at ∙ ap (λ n. slice_get xs n) same ∙ there in cc

pub settled_next : (parents : Parents) (v : ℕ) (pool : List PoolEntry) (sources : List Source) (positions : List SourcePosition) (w : ℕ) (s : Source) (d : SourcePosition) → AreSettled parents v pool sources positions → slice_get sources w ≡ Some s → MayBeRead pool s → IsSettledAt parents v pool s d
    → AreSettled parents v pool sources (set positions w d)
settled_next parents v pool sources positions w s d settled here read next = record {
  same = length-set positions w d ∙ settled.same;
  each = λ i t e at there.
      elim (set_cases positions w d i e there) [
        | inr before ↦ settled.each i t e at before
        | inl this ↦
            let source_is : t ≡ s = same_at sources i w s t this.0 at here in
            let P : Source → SourcePosition → Type 0 = λ x y. MayBeRead pool x × IsSettledAt parents v pool x y in
            subst (λ (x : Source). P x e) (sym source_is) (subst (λ (y : SourcePosition). P s y) (sym this.1) (read, next))
      ];
}

-- blocks that are kept as they stand stay so
pub stands_still : (old new : DiskView) (arrays : List ArrayDesc) (f : Image) (c d : Blocks) (s : Source) (t : Option Kept) → LooksThrough old new arrays c d → old.content ≡ Some f → HaveOwnIds arrays → ((a : ArrayDesc) → Contains (arrays_at s) a → Contains arrays a)
    → StandsIn f c s t → StandsIn f d s t
stands_still old new arrays f c d source.None t looks exposed own of stands = tt
stands_still old new arrays f c d (source.Zero list) t looks exposed own of stands = tt
stands_still old new arrays f c d (source.Array a) t looks exposed own of stands = record {
  image = stands.image;
  exposed = stands.exposed;
  listed = stands.listed;
  cached = λ index x y there at.
      elim (looks.cached (a.now.id, index) x there) [
        | inl before ↦ stands.cached index x y before at
        | inr got ↦
            let read = got.2 in
            let one : got.0 ≡ a.now = same_array arrays got.0 a.now own got.1 (of a.now (0, omega arith, refl)) (sym read.mine) in
            let place : slice_get (blocks_of a.now.extents) index ≡ Some read.block = ap (λ (z : ArrayDesc). slice_get (blocks_of z.extents) index) (sym one) ∙ read.place in
            let shown = listed_at stands.image (blocks_of a.now.extents) (lists_of f a.now) index read.block stands.listed place in
            let images : Some f ≡ Some stands.image = stands.exposed in
            let image : f ≡ stands.image = cc in
            let here : block_on f read.block ≡ Some x = read.read f exposed in
            let both : Some x ≡ Some y = sym here ∙ ap (λ (g : Image). block_on g read.block) image ∙ shown.2 ∙ sym shown.1 ∙ at in
            cc
      ];
  held = stands.held;
}

later_come : (lo prev last key : List ℕ) → IsLater prev last → is_to_come lo last key ≡ true → is_to_come lo prev key ≡ true
later_come lo prev last key later come =
    let parts = and_parts (not (is_lt (key_cmp key lo))) (is_after last key) come in
    and_from (not (is_lt (key_cmp key lo))) (is_after prev key) parts.0 (later key parts.1)

module _ (f : Image) (pool : List PoolEntry) (parents : Parents) (v : ℕ) (lo prev last : List ℕ) (later : IsLater prev last) (s : Source) where
  -- with a later key
  up_later : (d : SourcePosition) → IsUpTo f pool parents v lo prev s d → IsUpTo f pool parents v lo last s d
  up_later d up = record { same = λ key come. up.same key (later_come lo prev last key later come); ordered = up.ordered; from = up.from }

  -- and after entries were passed over
  up_passed : (d e : SourcePosition) → IsUpTo f pool parents v lo prev s d → PassesUndue parents v last (left_at_source f pool s d) (left_at_source f pool s e) → IsUpTo f pool parents v lo last s e
  up_passed d e up passes = record {
    same = λ key come. passes.same key (and_parts (not (is_lt (key_cmp key lo))) (is_after last key) come).1 ∙ up.same key (later_come lo prev last key later come);
    ordered = passes.ordered up.ordered;
    from = passes.among (is_from lo) up.from;
  }

pub up_next : (old new : DiskView) (arrays : List ArrayDesc) (f : Image) (c d : Blocks) (pool : List PoolEntry) (parents : Parents) (v : ℕ) (lo prev last : List ℕ) (sources : List Source) (positions : List SourcePosition) (w : ℕ) (s : Source) (before after : SourcePosition)
    → old.content ≡ Some f → HaveOwnIds arrays → LooksThrough old new arrays c d → ((i : ℕ) (t : Source) → slice_get sources i ≡ Some t → (a : ArrayDesc) → Contains (arrays_at t) a → Contains arrays a) → IsLater prev last
    → AreUpTo f c pool parents v lo prev sources positions → slice_get sources w ≡ Some s → slice_get positions w ≡ Some before
    → (StandsIn f c s before.scratch → PassesUndue parents v last (left_at_source f pool s before) (left_at_source f pool s after) × StandsIn f d s after.scratch)
    → AreUpTo f d pool parents v lo last sources (set positions w after)
up_next old new arrays f c d pool parents v lo prev last sources positions w s before after exposed own looks of later up here there goes = record {
  ordered = up.ordered;
  each = λ i t e at set_at.
      elim (set_cases positions w after i e set_at) [
        | inr stays ↦
            let both = up.each i t e at stays in
            (up_later f pool parents v lo prev last later t e both.0, stands_still old new arrays f c d t e.scratch looks exposed own (of i t at) both.1)
        | inl this ↦
            let source_is : t ≡ s = same_at sources i w s t this.0 at here in
            let P : Source → SourcePosition → Type 0 = λ x y. IsUpTo f pool parents v lo last x y × StandsIn f d x y.scratch in
            let both = up.each w s before here there in
            let gone = goes both.1 in
            subst (λ (x : Source). P x e) (sym source_is) (subst (λ (y : SourcePosition). P s y) (sym this.1) (up_passed f pool parents v lo prev last later s before after both.0 gone.0, gone.1))
      ];
}

-- sums
pub sum_next : (h : Source → SourcePosition → ℕ) (sources : List Source) (positions : List SourcePosition) (w : ℕ) (s : Source) (d e : SourcePosition) → slice_get sources w ≡ Some s → slice_get positions w ≡ Some d → sum_over h sources (set positions w e) + h s d ≡ sum_over h sources positions + h s e
sum_next h [] positions w s d e here there = absurd (cc)
sum_next h (x ∷ sources) [] w s d e here there = absurd (cc)
sum_next h (x ∷ sources) (y ∷ positions) zero s d e here there =
    let xs : x ≡ s = cc in
    let yd : y ≡ d = cc in
    let now : h x y ≡ h s d = (λ j. h (xs j) (yd j)) in
    let then_is : h x e ≡ h s e = ap (λ (z : Source). h z e) xs in
    omega (arith, now, then_is)
sum_next h (x ∷ sources) (y ∷ positions) (suc w) s d e here there = let rest = sum_next h sources positions w s d e here there in omega (arith, rest)

pub sum_has : (h : Source → SourcePosition → ℕ) (sources : List Source) (positions : List SourcePosition) (w : ℕ) (s : Source) (d : SourcePosition) → slice_get sources w ≡ Some s → slice_get positions w ≡ Some d → h s d ≤ sum_over h sources positions
sum_has h [] positions w s d here there = absurd (cc)
sum_has h (x ∷ sources) [] w s d here there = absurd (cc)
sum_has h (x ∷ sources) (y ∷ positions) zero s d here there =
    let xs : x ≡ s = cc in
    let yd : y ≡ d = cc in
    let now : h x y ≡ h s d = (λ j. h (xs j) (yd j)) in
    omega (arith, now)
sum_has h (x ∷ sources) (y ∷ positions) (suc w) s d here there = let rest = sum_has h sources positions w s d here there in omega (arith, rest)

pub head_here : (pool : List PoolEntry) (sources : List Source) (positions : List SourcePosition) (w : ℕ) (s : Source) (d : SourcePosition) → slice_get sources w ≡ Some s → slice_get positions w ≡ Some d → head_in pool sources positions w ≡ first_at_source pool s d
head_here pool sources positions w s d here there =
    ap (λ (o : Option Source). option_and_then (λ t. option_and_then (λ x. first_at_source pool t x) (slice_get positions w)) o) here
    ∙ ap (λ (o : Option SourcePosition). option_and_then (λ x. first_at_source pool s x) o) there

-- a position by its number
pub position_at : (positions : List SourcePosition) (count w : ℕ) (d : SourcePosition) → length positions ≡ count → w < count → slice_get positions w ≡ Some (get_or positions w d)
position_at positions count w d same low = go positions w d (omega (arith, same, low))
  where
    go : (ds : List SourcePosition) (n : ℕ) (x : SourcePosition) → n < length ds → slice_get ds n ≡ Some (get_or ds n x)
    go [] n x low = absurd (omega (arith, low))
    go (y ∷ ys) zero x low = refl
    go (y ∷ ys) (suc n) x low = go ys n x (omega (arith, low))
