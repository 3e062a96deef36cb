use Rattle.std.proofs.Common.{◌≡◌, ◌<◌, ℕ, length, take}
use Rattle.std.specs.List.{list_any}
use Rattle.strat_arena.specs.Items.{entries_of}
use Rattle.strat_check.specs.Strays.{strays_at}
use Rattle.strat_check.specs.StrayGroups.{group_leads, is_stray, noted}
use Rattle.strat_check.proofs.stray_group.note_all.Given as goal

abbrev pub invariant-loop-item : goal.invariant-loop-item
invariant-loop-item l =
    (length l.found ≡ length l.initial.found)
    × ((i : ℕ) → i < length l.initial.found → strays_at l.found i
    ≡ noted (list_any (is_stray (group_leads l.g) i) (entries_of l.g.arena.now.pairs (take l.item-index l.g.items.now))) (strays_at l.initial.found i))
