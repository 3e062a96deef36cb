-- How the items of one key are dealt out to the parts of a plan, one part after the other.
use Rattle.std.specs.Prelude.{◌≡◌, ◌<◌, ◌≤◌, ℕ, ◌+◌, ◌-◌, ◌==◌, nat_lt, if◌then◌else◌, Bool, true, false, List, [], ◌∷◌, ◌++◌, length, map, filter, find, slice_get, slice_index, slice_index_or, Option, None, Some, option_and_then, IsTrue}
use Rattle.std.specs.List.{list_all}
use Rattle.std.specs.Option.{option_map_or, option_or}
use Rattle.strat_base.specs.Tree.{Parents, IsTree}
use Rattle.strat_arena.specs.declared.items.Item.{Item}
use Rattle.strat_live.specs.Counting.{SameParents, item_versions, are_below}
use Rattle.strat_live.specs.Group.{is_descending, is_live_item}
use Rattle.def_split.specs.Plan.{part_at, IsSplit}
use Rattle.def_state.specs.Counted.{sees_one}
use Rattle.strat_split.specs.Chains.{first_labelled}
use Rattle.strat_split.specs.Hanging.{carriers_of}
use Rattle.strat_split.specs.PlanSeen.{plan_seen}
use Rattle.strat_split.specs.Taken.{is_taken_item}
use Rattle.strat_split.specs.Waiting.{has_work}
use Rattle.strat_split.specs.declared.parts.Plan.{Plan}

-- how far items are dealt out: the first lead of each part, the lead behind each item, what each part takes
-- over, the parts that wait, the least part that is not dealt yet, and what the last one took
pub record Deal : Type 0 where
  pub heads : List (Option ℕ)
  pub nexts : List (Option ℕ)
  pub gifts : List (Option Item)
  pub waiting : List ℕ
  pub from : ℕ
  pub taken : List Item

-- the part of each item's version
abbrev pub labels_of : Plan → List Item → List ℕ
labels_of plan items = map (λ item. slice_index plan.part_of item.version) items

-- the version that a part hangs below
abbrev pub above_of : Plan → ℕ → Option ℕ
above_of plan q = (part_at (plan_seen plan) q).above

-- the items that a part takes
abbrev pub items_taken : Parents → Plan → List Item → ℕ → List Item
items_taken parents plan items q = filter (is_taken_item parents (plan_seen plan) items q) items

-- the items whose own version is in a part
abbrev pub item_leads : Plan → List Item → ℕ → List Item
item_leads plan items q = filter (λ item. slice_index plan.part_of item.version == q) items

-- the item that is live where a part hangs
abbrev pub taken_over : Parents → List Item → Option ℕ → Option Item
taken_over parents items above =
    option_and_then (λ p. find (is_live_item parents items p) items) above

-- an item is older than the last of some leads
abbrev pub is_below_last : List Item → Item → Bool
is_below_last leads item =
    option_map_or (λ last. nat_lt item.version last.version)
    (slice_get leads (length leads - 1)) true

-- leads, and what a part takes over behind them
abbrev pub with_gift : List Item → Option Item → List Item
with_gift leads None = leads
with_gift leads (Some item) =
    if is_below_last leads item then leads ++ item ∷ [] else leads

-- what a part takes over, by what it has so far, once another passes on what it took
abbrev pub passed_on : Parents → Plan → List Item → ℕ → List (Option Item) → ℕ → Option Item
passed_on tree plan taken from gifts q =
    if nat_lt from q
    then option_or (taken_over tree taken (above_of plan q)) (slice_index_or gifts q None)
    else slice_index_or gifts q None

-- a plan splits the versions of a tree, and knows which of them see these items
pub record IsSplitFor (tree parents : Parents) (plan : Plan) (items : List Item) : Type 0 where
  pub own : ℕ → ℕ
  pub live : ℕ → ℕ
  pub rooted : IsTree parents
  pub same : SameParents (length plan.part_of) parents tree
  pub split : IsSplit parents own live (plan_seen plan)
  pub seen : (v : ℕ) → v < length plan.part_of → IsTrue (sees_one parents v (item_versions items))
      → 0 < live v

-- each part that is not dealt yet has what it takes over, if the part that it hangs from is dealt
abbrev pub IsGiven : Parents → Plan → List Item → Deal → Type 0
IsGiven parents plan items deal = (q : ℕ) → deal.from ≤ q → q < length plan.parts
    → slice_index_or deal.gifts q None
    ≡ (if nat_lt (slice_index (carriers_of plan.part_of plan.parts) q) deal.from
    then taken_over parents items (above_of plan q) else None)

-- the items of a key are being dealt out
pub record IsDealing (tree : Parents) (plan : Plan) (items : List Item) (deal : Deal) : Type 0 where
  pub descending : IsTrue (is_descending items)
  pub low : IsTrue (are_below (length plan.part_of) items)
  pub known : IsTrue (are_below (length tree) items)
  pub heads_len : length deal.heads ≡ length plan.parts
  pub nexts_len : length items ≤ length deal.nexts
  pub due : (q : ℕ) → deal.from ≤ q → q < length plan.parts
      → slice_index_or deal.heads q None ≡ first_labelled (labels_of plan items) q 0
  pub past : (q : ℕ) → q < deal.from → has_work deal.heads deal.gifts q ≡ false
  pub next : (i : ℕ) → i < length items
      → slice_index (labels_of plan items) i < length plan.parts
      → slice_index_or deal.nexts i None
      ≡ first_labelled (labels_of plan items) (slice_index (labels_of plan items) i) (i + 1)
  pub gifts : (q : ℕ) (test : Item → Bool) → q < length plan.parts → IsTrue (list_all test items)
      → IsTrue (option_map_or test (slice_index_or deal.gifts q None) true)
  pub given : (parents : Parents) → IsSplitFor tree parents plan items
      → IsGiven parents plan items deal

-- of the parts from one on a part is the first that takes something, and takes these items
pub record IsNextPart (parents : Parents) (plan : Plan) (items : List Item) (from q : ℕ)
    (taken : List Item) : Type 0 where
  pub none : (r : ℕ) → from ≤ r → r < q → items_taken parents plan items r ≡ []
  pub all : taken ≡ items_taken parents plan items q

-- no part from one on takes anything
abbrev pub TakeNothing : Parents → Plan → List Item → ℕ → Type 0
TakeNothing parents plan items from = (q : ℕ) → from ≤ q → q < length plan.parts
    → items_taken parents plan items q ≡ []
