use Rattle.std.proofs.Common.{◌≡◌, ◌<◌, ℕ, [], length, take, map}
use Rattle.std.specs.List.{list_any, slice_index_or}
use Rattle.strat_arena.specs.Items.{entries_of}
use Rattle.strat_base.specs.declared.descriptors.ArrayDesc.{ArrayDesc}
use Rattle.def_check.specs.Marked.{is_from_run}
use Rattle.strat_check.specs.MarkedGroups.{is_owned}
use Rattle.strat_check.specs.Strays.{strays_at, has_live_stray}
use Rattle.strat_check.specs.StrayGroups.{group_entries, with_answer}
use Rattle.strat_check.proofs.stray_group.settle_all.Given as goal

abbrev pub invariant-loop-item : goal.invariant-loop-item
invariant-loop-item l =
    (length l.found ≡ length l.initial.found)
    × ((i : ℕ) → i < length l.initial.found → strays_at l.found i
    ≡ with_answer (list_any (is_from_run i) (entries_of l.g.arena.now.pairs (take l.item-index l.g.items.now)))
    (has_live_stray l.tree.parents (is_owned l.g.owners.now) (slice_index_or (map (λ (a : ArrayDesc). a.versions) l.arrays) i []) i (group_entries l.g)) (strays_at l.initial.found i))
