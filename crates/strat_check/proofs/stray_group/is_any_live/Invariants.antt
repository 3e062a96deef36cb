use Rattle.std.proofs.Common.{◌≡◌, true, take}
use Rattle.std.specs.List.{list_all}
use Rattle.strat_arena.specs.Items.{entries_of}
use Rattle.strat_base.specs.Entries.{holds_entry}
use Rattle.def_state.specs.Live.{live}
use Rattle.strat_check.specs.StrayGroups.{group_leads}
use Rattle.strat_check.proofs.stray_group.is_any_live.Given as goal

abbrev pub invariant-loop-v : goal.invariant-loop-v
invariant-loop-v l = list_all (λ v. list_all (holds_entry (group_leads l.g)) (live l.tree.parents (entries_of l.g.arena.now.pairs l.told) v)) (take l.v-index l.tag) ≡ true
