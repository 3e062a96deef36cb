-- An export of a store's version.
use Rattle.std.proofs.Common.{◌≡◌, ℕ, List, refl, sym, subst}
use Rattle.def_crash.specs.Faults.{Rose}
use Rattle.def_crash.specs.Image.{Image}
use Rattle.strat_base.specs.Entries.{Entry}
use Rattle.strat_base.specs.Tree.{Parents}
use Rattle.strat_base.specs.declared.descriptors.ArrayDesc.{ArrayDesc}
use Rattle.strat_cursor.specs.Looking.{AreInOrder, HaveOwnIds, arrays_asked}
use Rattle.strat_cursor.specs.Ranges.{IsMapSeen}
use Rattle.strat_cursor.specs.Views.{arrays_read, zeros_in}
use Rattle.strat_cursor.specs.declared.view.View.{View}
use Rattle.strat_memory.specs.Held.{Held}
use Rattle.strat_memory.specs.Memory.{lists_in_memory}
use Rattle.strat_model.specs.Pairs.{Pairs}
use Rattle.strat_model.specs.declared.ended.Ended.{Ended}
use Rattle.strat_model.specs.declared.ended.Ended.TheVariants as ended
use Rattle.strat_store.specs.Exporting.{IsReadWhole}
use Rattle.strat_bulk.specs.Ending.{EndsStanding, EndsWalk, ExportHasCause}

-- a version that is read whole is so through a view of the store
module _ (f : Image) (view : View) (s : Held) (v : ℕ) (m : Pairs) (whole : IsReadWhole f s v m) (zeros : zeros_in view ≡ lists_in_memory s.memory) (tree : view.tree.now.parents ≡ s.memory.parents) (arrays : arrays_read view v ≡ arrays_asked s.memory.parents s.levels v) where
  pub read_ordered : AreInOrder f (arrays_read view v)
  read_ordered = subst (λ (l : List ArrayDesc). AreInOrder f l) (sym arrays) whole.ordered

  pub read_own : HaveOwnIds (arrays_read view v)
  read_own = subst (λ (l : List ArrayDesc). HaveOwnIds l) (sym arrays) whole.ids

  pub read_seen : IsMapSeen f view.tree.now.parents (zeros_in view) (arrays_read view v) v m
  read_seen =
      subst (λ (l : List ArrayDesc). IsMapSeen f view.tree.now.parents (zeros_in view) l v m) (sym arrays)
      (subst (λ (z : List (List Entry)). IsMapSeen f view.tree.now.parents z (arrays_asked s.memory.parents s.levels v) v m) (sym zeros)
      (subst (λ (ps : Parents). IsMapSeen f ps (lists_in_memory s.memory) (arrays_asked s.memory.parents s.levels v) v m) (sym tree) whole.seen))

-- where nothing failed and no block is damaged all was written
pub stands_calm : (how : Ended) (a b c d : ℕ) → EndsWalk how → ExportHasCause how a b c d → ¬ Rose a b → ¬ Rose c d → ((block : ℕ) → how ≡ ended.Damaged block → ⊥) → EndsStanding how
stands_calm ended.Done a b c d ends cause disk sink sound = tt
stands_calm ended.Device a b c d ends cause disk sink sound = absurd (disk (cause.device refl))
stands_calm ended.Sink a b c d ends cause disk sink sound = absurd (sink (cause.sink refl))
stands_calm (ended.Damaged block) a b c d ends cause disk sink sound = absurd (sound block refl)
stands_calm ended.UnknownVersion a b c d ends cause disk sink sound = tt
stands_calm ended.NoMemory a b c d ends cause disk sink sound = tt
stands_calm ended.NotAStore a b c d ends cause disk sink sound = absurd ends
stands_calm ended.Usage a b c d ends cause disk sink sound = absurd ends
stands_calm ended.FrameTooLong a b c d ends cause disk sink sound = absurd ends
stands_calm ended.Truncated a b c d ends cause disk sink sound = absurd ends
stands_calm ended.Source a b c d ends cause disk sink sound = absurd ends
stands_calm ended.Budget a b c d ends cause disk sink sound = absurd ends
stands_calm ended.Unsound a b c d ends cause disk sink sound = absurd ends
