-- Sources begin one after the other.
use Rattle.std.proofs.Common.{true, ◌≡◌, ◌<◌, ◌≤◌, ◌+◌, ℕ, zero, suc, get_or, set, drop, List, [], ◌∷◌, length, Contains, sum_by, Option, Some, refl, sym, ap, ◌∙◌, subst, arith}
use Rattle.std.specs.List.{slice_get}
use Rattle.std.specs.Option.{unwrap_or}
use Rattle.std.proofs.lemmas.List.{drop_more}
use Rattle.std.proofs.lemmas.List.Sums.{sum_by-cons}
use Rattle.strat_array.specs.Kept.{Blocks}
use Rattle.strat_base.specs.Entries.{Entry, is_ascending}
use Rattle.strat_base.specs.declared.descriptors.ArrayDesc.{ArrayDesc}
use Rattle.def_crash.specs.Image.{Image}
use Rattle.def_crash.specs.Moments.{DiskView}
use Rattle.strat_cursor.specs.Looking.{LooksThrough, HaveFewBlocks}
use Rattle.strat_cursor.specs.Picking.{IsOfView, AreSourcesOf}
use Rattle.strat_cursor.specs.Sources.{MayBeRead, MayBeBegun, IsSettledAt, IsUpTo, StandsIn, content_of}
use Rattle.strat_cursor.specs.Emitting.{AreSettled, AreUpTo, sum_over}
use Rattle.strat_cursor.specs.Views.{IsReadable, arrays_read}
use Rattle.strat_cursor.specs.declared.scan_buffers.SourcePosition.{SourcePosition}
use Rattle.strat_cursor.specs.declared.sources.Source.{Source}
use Rattle.strat_cursor.specs.declared.sources.Source.TheVariants as source
use Rattle.strat_cursor.specs.declared.view.View.{View}
use Rattle.strat_cursor.proofs.PickLemmas.{each_more, got_low}
use Rattle.strat_cursor.proofs.ThroughLemmas.{still_same, through_refl, through_trans}
use Rattle.strat_cursor.proofs.EmitLemmas.{stands_still}

-- a source of a view may begin, after others did
pub may_begin : (old now : DiskView) (view : View) (v : ℕ) (f : Image) (next : ℕ) (c d : Blocks) (s : Source) → IsOfView view v s → LooksThrough old now (arrays_read view v) c d → old.content ≡ Some f → IsReadable f next view v c → MayBeBegun f d s
may_begin old now view v f next c d source.None of looks exposed may = tt
may_begin old now view v f next c d (source.Zero list) of looks exposed may = tt
may_begin old now view v f next c d (source.Array a) of looks exposed may =
    let there = of.there a.now (0, omega arith, refl) in
    let entries = may.ordered.each a.now there in
    record {
      entries = entries.0;
      read = entries.1;
      ordered = entries.2;
      cached = λ index block x at place. still_same old.content f (arrays_read view v) c d exposed may.ids looks.cached may.cached.same a.now index block x there at place;
    }

-- its entries are in order
in_order : (view : View) (v : ℕ) (f : Image) (next : ℕ) (c : Blocks) (s : Source) → IsOfView view v s → IsReadable f next view v c → is_ascending (content_of f view.pool.now s) ≡ true
in_order view v f next c source.None of may = refl
in_order view v f next c (source.Zero list) of may = of.read.ascending
in_order view v f next c (source.Array a) of may =
    let entries = may.ordered.each a.now (of.there a.now (0, omega arith, refl)) in
    ap (λ (o : Option (List Entry)). is_ascending (unwrap_or o [])) entries.1 ∙ entries.2

-- the sources below a number have begun
pub record Beginning (old now : DiskView) (view : View) (v : ℕ) (lo : List ℕ) (sources : List Source) (c d : Blocks) (i : ℕ) (positions : List SourcePosition) : Type 0 where
  pub looks : LooksThrough old now (arrays_read view v) c d
  pub settled : (j : ℕ) (e : SourcePosition) → j < i → slice_get positions j ≡ Some e → (s : Source) → slice_get sources j ≡ Some s → MayBeRead view.pool.now s × IsSettledAt view.tree.now.parents v view.pool.now s e
  pub up : (f : Image) (next : ℕ) → old.content ≡ Some f → IsReadable f next view v c → (j : ℕ) (e : SourcePosition) → j < i → slice_get positions j ≡ Some e → (s : Source) → slice_get sources j ≡ Some s
      → IsUpTo f view.pool.now view.tree.now.parents v lo [] s e × StandsIn f d s e.scratch

pub begins : (v0 : DiskView) (view : View) (v : ℕ) (lo : List ℕ) (sources : List Source) (c : Blocks) (positions : List SourcePosition) → Beginning v0 v0 view v lo sources c c 0 positions
begins v0 view v lo sources c positions = record {
  looks = through_refl v0 (arrays_read view v) c;
  settled = λ j e low at s there. absurd (omega (arith, low));
  up = λ f next exposed may j e low at s there. absurd (omega (arith, low));
}

module _ (old now new : DiskView) (view : View) (v : ℕ) (lo : List ℕ) (sources : List Source) (c d g : Blocks) (i : ℕ) (positions : List SourcePosition) (s : Source) (e : SourcePosition) (are : AreSourcesOf view v sources) (here : slice_get sources i ≡ Some s) (begun : Beginning old now view v lo sources c d i positions) where
  same_source : (t : Source) → slice_get sources i ≡ Some t → t ≡ s
  same_source t at = let both : Some t ≡ Some s = sym at ∙ here in cc

  pub begins_more : LooksThrough now new (arrays_read view v) d g → IsSettledAt view.tree.now.parents v view.pool.now s e
      → ((f : Image) → now.content ≡ Some f → MayBeBegun f d s → IsUpTo f view.pool.now view.tree.now.parents v lo [] s e × StandsIn f g s e.scratch)
      → Beginning old new view v lo sources c g (i + 1) (set positions i e)
  begins_more looks next_settled next_up = record {
    looks = through_trans old now new (arrays_read view v) c d g begun.looks looks;
    settled =
        each_more (λ (j : ℕ) (x : SourcePosition). (t : Source) → slice_get sources j ≡ Some t → MayBeRead view.pool.now t × IsSettledAt view.tree.now.parents v view.pool.now t x) positions i e begun.settled
        (λ t at. subst (λ (x : Source). MayBeRead view.pool.now x × IsSettledAt view.tree.now.parents v view.pool.now x e) (sym (same_source t at)) ((are.each i s here).read, next_settled));
    up = λ f next exposed may.
        each_more (λ (j : ℕ) (x : SourcePosition). (t : Source) → slice_get sources j ≡ Some t → IsUpTo f view.pool.now view.tree.now.parents v lo [] t x × StandsIn f g t x.scratch) positions i e
        (λ j x low at t there.
        let both = begun.up f next exposed may j x low at t there in
        (both.0, stands_still now new (arrays_read view v) f d g t x.scratch looks (begun.looks.disk.same ∙ exposed) may.ids (are.each j t there).there both.1))
        (λ t at.
        subst (λ (x : Source). IsUpTo f view.pool.now view.tree.now.parents v lo [] x e × StandsIn f g x e.scratch) (sym (same_source t at))
        (next_up f (begun.looks.disk.same ∙ exposed) (may_begin old now view v f next c d s (are.each i s here) begun.looks exposed may)));
  }

module _ (old now : DiskView) (view : View) (v : ℕ) (lo : List ℕ) (sources : List Source) (c d : Blocks) (i : ℕ) (positions : List SourcePosition) (are : AreSourcesOf view v sources) (begun : Beginning old now view v lo sources c d i positions) (all : length sources ≤ i) where
  pub all_settled : length positions ≡ length sources → AreSettled view.tree.now.parents v view.pool.now sources positions
  all_settled same = record { same = same; each = λ j s e at there. begun.settled j e (omega (arith, all, got_low sources j s at)) there s at }

  pub all_up : (f : Image) (next : ℕ) → old.content ≡ Some f → IsReadable f next view v c → AreUpTo f d view.pool.now view.tree.now.parents v lo [] sources positions
  all_up f next exposed may = record {
    ordered = λ j s at. in_order view v f next c s (are.each j s at) may;
    each = λ j s e at there. begun.up f next exposed may j e (omega (arith, all, got_low sources j s at)) there s at;
  }

-- a sum over the sources below a number
pub sum_first : ℕ → (Source → SourcePosition → ℕ) → List Source → List SourcePosition → ℕ
sum_first zero h sources positions = 0
sum_first (suc i) h [] positions = 0
sum_first (suc i) h (s ∷ sources) [] = 0
sum_first (suc i) h (s ∷ sources) (d ∷ positions) = h s d + sum_first i h sources positions

pub sum_begins : (h : Source → SourcePosition → ℕ) (sources : List Source) (positions : List SourcePosition) → sum_first 0 h sources positions ≡ 0
unfolding sum_first
sum_begins h sources positions = refl

pub sum_more : (i : ℕ) (h : Source → SourcePosition → ℕ) (sources : List Source) (positions : List SourcePosition) (s : Source) (e : SourcePosition) → slice_get sources i ≡ Some s → i < length positions → sum_first (i + 1) h sources (set positions i e) ≡ sum_first i h sources positions + h s e
unfolding sum_first
sum_more i h [] positions s e here low = absurd (cc)
sum_more i h (x ∷ sources) [] s e here low = absurd (omega (arith, low))
sum_more zero h (x ∷ sources) (d ∷ positions) s e here low = let same : x ≡ s = cc in ap (λ (y : Source). h y e + 0) same ∙ omega arith
sum_more (suc i) h (x ∷ sources) (d ∷ positions) s e here low =
    let rest = sum_more i h sources positions s e here (omega (arith, low)) in
    let next : suc i + 1 ≡ suc (i + 1) = omega arith in
    ap (λ (n : ℕ). sum_first n h (x ∷ sources) (d ∷ set positions i e)) next ∙ omega (arith, rest)

pub sum_ends : (i : ℕ) (h : Source → SourcePosition → ℕ) (sources : List Source) (positions : List SourcePosition) → length sources ≤ i → sum_first i h sources positions ≡ sum_over h sources positions
unfolding sum_first
sum_ends zero h [] positions all = refl
sum_ends zero h (x ∷ sources) positions all = absurd (omega (arith, all))
sum_ends (suc i) h [] positions all = refl
sum_ends (suc i) h (x ∷ sources) [] all = refl
sum_ends (suc i) h (x ∷ sources) (d ∷ positions) all = ap (λ (n : ℕ). h x d + n) (sum_ends i h sources positions (omega (arith, all)))

-- the sources from a number on
pub sum_rest : (h : Source → ℕ) (sources : List Source) (i : ℕ) (s : Source) → slice_get sources i ≡ Some s → sum_by h (drop i sources) ≡ h s + sum_by h (drop (i + 1) sources)
sum_rest h sources i s here = ap (λ (l : List Source). sum_by h l) (drop_more sources i s (got_low sources i s here) ∙ ap (λ (x : Source). x ∷ drop (i + 1) sources) (got sources i here)) ∙ sum_by-cons h s (drop (i + 1) sources)
  where
    got : (ss : List Source) (n : ℕ) → slice_get ss n ≡ Some s → get_or ss n s ≡ s
    got [] n at = absurd (cc)
    got (x ∷ xs) zero at = cc
    got (x ∷ xs) (suc n) at = got xs n at

pub few_at : (n : ℕ) (some arrays : List ArrayDesc) → ((a : ArrayDesc) → Contains some a → Contains arrays a) → HaveFewBlocks n arrays → HaveFewBlocks n some
few_at n some arrays of few = λ a there. few a (of a there)
