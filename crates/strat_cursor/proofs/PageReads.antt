-- A page of a cursor is a page of its view.
use Rattle.std.proofs.Common.{◌≡◌, ℕ, Bool, List, ◌∷◌, Option, Some, Result, Ok, Err, sym, subst}
use Rattle.std.specs.Result.{IfOk}
use Rattle.strat_array.specs.Kept.{Blocks}
use Rattle.strat_base.specs.Entries.{Entry}
use Rattle.strat_base.specs.declared.descriptors.ArrayDesc.{ArrayDesc}
use Rattle.strat_base.specs.declared.failures.Fault.{Fault}
use Rattle.def_crash.specs.Image.{Image}
use Rattle.strat_level.specs.Memtable.{entries_held}
use Rattle.strat_model.specs.Pairs.{Pairs}
use Rattle.strat_cursor.specs.Looking.{AreInOrder, HaveOwnIds, AreCachedFrom}
use Rattle.strat_cursor.specs.Ranges.{sealed_held, IsMapSeen, IsPageOf}
use Rattle.strat_cursor.specs.Views.{arrays_read, sealed_in, zeros_in, IsReadable, TellsPage}
use Rattle.strat_cursor.specs.Cursors.{OpenCursor, range_left, pairs_left, zeros_pinned, IsMapPinned, MayGoOn}
use Rattle.strat_cursor.specs.declared.view.View.{View}

pub page_told : (exposed : Image → Type 0) (view : View) (c : OpenCursor) (version : ℕ) (lo hi : List ℕ) (cached : Blocks) (limit : ℕ) (told : Pairs) (r : Result Bool Fault)
    → view.zero.now ≡ c.zero → sealed_in view ≡ c.sealed → arrays_read view version ≡ c.arrays → version ≡ c.version → c.from ≡ Some lo → hi ≡ c.hi
    → IfOk r (λ more. (f : Image) (next : ℕ) → exposed f → IsReadable f next view version cached → TellsPage f view version lo hi limit told more)
    → IfOk r (λ more. (f : Image) (next : ℕ) (m : Pairs) → exposed f → MayGoOn f next c cached
    → IsMapPinned f view.tree.now.parents view.pool.now c m → IsPageOf (pairs_left m c) limit told more)
page_told exposed view c version lo hi cached limit told (Ok more) zero sealed arrays at from upto tells =
    λ f next m shown goes reads.
    let readable : IsReadable f next view version cached = record {
      ordered = subst (λ (x : List ArrayDesc). AreInOrder f x) (sym arrays) goes.ordered;
      ids = subst (λ (x : List ArrayDesc). HaveOwnIds x) (sym arrays) goes.ids;
      cached = subst (λ (x : List ArrayDesc). AreCachedFrom f next x cached) (sym arrays) goes.same;
    } in
    let zeros : zeros_pinned view.pool.now c ≡ zeros_in view =
    λ i. entries_held view.pool.now (sym zero i) ∷ sealed_held view.pool.now (sym sealed i) in
    let seen : IsMapSeen f view.tree.now.parents (zeros_in view) (arrays_read view version) c.version m =
    subst (λ (x : List (List Entry)). IsMapSeen f view.tree.now.parents x (arrays_read view version) c.version m) zeros
    (subst (λ (x : List ArrayDesc). IsMapSeen f view.tree.now.parents (zeros_pinned view.pool.now c) x c.version m) (sym arrays) reads) in
    let here : IsMapSeen f view.tree.now.parents (zeros_in view) (arrays_read view version) version m =
    subst (λ v. IsMapSeen f view.tree.now.parents (zeros_in view) (arrays_read view version) v m) (sym at) seen in
    subst (λ (o : Option (List ℕ)). IsPageOf (range_left m o c.hi) limit told more) (sym from)
    (subst (λ (h : List ℕ). IsPageOf (range_left m (Some lo) h) limit told more) upto (tells f next shown readable m here))
page_told exposed view c version lo hi cached limit told (Err e) zero sealed arrays at from upto tells = tt
