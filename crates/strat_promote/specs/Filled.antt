-- The arrays of a plan's parts as the second pass fills them.
use Rattle.std.specs.Prelude.{◌≡◌, ◌≤◌, ℕ, List, ◌++◌, length, Some, IsTrue}
use Rattle.std.specs.List.{list_all, slice_get}
use Rattle.std.specs.Ordering.{is_lt}
use Rattle.strat_arena.specs.ArenaView.{KeyValue}
use Rattle.strat_arena.specs.Items.{entries_of, have_pairs}
use Rattle.strat_arena.specs.declared.items.Item.{Item}
use Rattle.strat_array.specs.Progress.{ArrayProgress}
use Rattle.strat_array.specs.Pushed.{IsPushed}
use Rattle.strat_base.specs.Entries.{Entry, is_of, is_ascending}
use Rattle.strat_base.specs.EntryBytes.{fits_fields}
use Rattle.strat_base.specs.Order.{key_cmp}
use Rattle.strat_base.specs.Tree.{Parents}
use Rattle.def_crash.specs.Image.{Image}
use Rattle.def_crash.specs.Moments.{DiskView, Exposes}
use Rattle.strat_live.specs.Counting.{are_below}
use Rattle.strat_live.specs.Group.{is_descending}
use Rattle.strat_split.specs.Dealing.{items_taken}
use Rattle.strat_split.specs.Hanging.{carriers_of}
use Rattle.strat_split.specs.declared.parts.Plan.{Plan}
use Rattle.strat_promote.specs.declared.filling.Filling.{Filling}

-- what is known of a plan of the versions below n and its arrays, whatever was pushed
pub record IsFilling (n : ℕ) (a : Filling) : Type 0 where
  pub labels : length a.plan.part_of ≡ n
  pub small : n ≤ 16384
  pub hangs : a.hanging ≡ carriers_of a.plan.part_of a.plan.parts
  pub heads : length a.dealer.heads ≡ length a.plan.parts
  pub writers : length a.writers.items ≡ length a.plan.parts
  pub parts : length a.plan.parts ≤ n

-- the same plan is filled
pub record SameFilling (old new : Filling) : Type 0 where
  pub plan : new.plan ≡ old.plan
  pub hanging : new.hanging ≡ old.hanging
  pub len : length new.writers.items ≡ length old.writers.items

-- what of each array is in no block yet ascends, and its keys come before one
pub record AreReadyFor (key : List ℕ) (writers : List ArrayProgress) : Type 0 where
  pub ascending : (q : ℕ) (w : ArrayProgress) → slice_get writers q ≡ Some w
      → IsTrue (is_ascending w.pending)
  pub before : (q : ℕ) (w : ArrayProgress) → slice_get writers q ≡ Some w
      → IsTrue (list_all (λ e. is_lt (key_cmp e.key key)) w.pending)

-- items of one key may be dealt out to these arrays
pub record IsDealable (n : ℕ) (tree : Parents) (pairs : List KeyValue) (items : List Item)
    (writers : List ArrayProgress) : Type 0 where
  pub key : List ℕ
  pub slots : IsTrue (have_pairs pairs items)
  pub descending : IsTrue (is_descending items)
  pub keyed : IsTrue (list_all (is_of key) (entries_of pairs items))
  pub lawful : IsTrue (list_all fits_fields (entries_of pairs items))
  pub low : IsTrue (are_below n items)
  pub known : n ≤ length tree
  pub ready : AreReadyFor key writers

-- each part had just the items pushed that it takes
pub record DealsOut (disk now : DiskView) (parents : Parents) (plan : Plan) (pairs : List KeyValue)
    (items : List Item) (old new : List ArrayProgress) : Type 0 where
  pub each : (q : ℕ) (w : ArrayProgress) → slice_get old q ≡ Some w → (x : ArrayProgress)
      × (slice_get new q ≡ Some x) × (x.id ≡ w.id)
      × ((f g : Image) (es : List Entry) → Exposes disk f → Exposes now g → IsPushed f w es
      → IsPushed g x (es ++ entries_of pairs (items_taken parents plan items q)))
