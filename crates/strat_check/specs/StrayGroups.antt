-- A group of marked entries at hand, and what is found of an array in it.
use Rattle.std.specs.Prelude.{◌≤◌, ℕ, ◌*◌, ◌/◌, ◌%◌, ◌==◌, ◌&&◌, ◌||◌, not, Bool, List, length, map, filter, IsTrue}
use Rattle.std.specs.List.{list_all}
use Rattle.strat_arena.specs.Items.{entries_of, have_pairs}
use Rattle.strat_arena.specs.declared.items.Item.{Item}
use Rattle.strat_base.specs.Entries.{Entry, is_of, holds_entry}
use Rattle.def_check.specs.Marked.{unmarked, is_from_run}
use Rattle.strat_live.specs.Counting.{are_below}
use Rattle.strat_live.specs.Group.{is_descending}
use Rattle.strat_check.specs.MarkedGroups.{is_owned}
use Rattle.strat_check.specs.Strays.{unmarked_where}
use Rattle.strat_check.specs.declared.stray_group.StrayGroup.{StrayGroup}
use Rattle.strat_check.specs.declared.strays.Strays.{Strays}

-- the entries of a group
abbrev pub group_entries : StrayGroup → List Entry
group_entries g = entries_of g.arena.now.pairs g.items.now

-- its leads
abbrev pub group_leads : StrayGroup → List Entry
group_leads g = unmarked_where (is_owned g.owners.now) (group_entries g)

-- the items of a group are of one key, their versions marked, the greatest first, and of at most 16,384 versions
pub record IsStrayGroup (g : StrayGroup) : Type 0 where
  pub slots : IsTrue (have_pairs g.arena.now.pairs g.items.now)
  pub descending : IsTrue (is_descending g.items.now)
  pub key : List ℕ
  pub keyed : IsTrue (list_all (is_of key) (group_entries g))
  pub low : IsTrue (are_below (16384 * length g.owners.now) g.items.now)
  pub few : length g.owners.now ≤ 16384

-- an item without its mark
abbrev pub unmarked_item : Item → Item
unmarked_item item = record item { version = item.version / 16384 }

-- the items of the array at a place, without their marks
abbrev pub items_told : ℕ → List Item → List Item
items_told i items = map unmarked_item (filter (λ item. (item.version % 16384) == i) items)

-- an entry is of the run at a place, and none of these leads
abbrev pub is_stray : List Entry → ℕ → Entry → Bool
is_stray leads i e = is_from_run i e && not (holds_entry leads (unmarked e))

-- what is found of an array that may have a stray in the group at hand
abbrev pub noted : Bool → Strays → Strays
noted strays s = record {
  has_any = s.has_any || strays;
  is_live = s.is_live;
  is_due = s.is_due || strays;
}

-- and once it is asked, where it is due, whether one of these is live
abbrev pub with_answer : Bool → Bool → Strays → Strays
with_answer asked lives s = record {
  has_any = s.has_any;
  is_live = s.is_live || (asked && s.is_due && lives);
  is_due = s.is_due && not asked;
}

-- nothing is due
abbrev pub AreAllAsked : List Strays → Type 0
AreAllAsked found = IsTrue (list_all (λ s. not s.is_due) found)
