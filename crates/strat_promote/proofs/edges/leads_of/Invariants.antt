use Rattle.std.proofs.Common.{◌≡◌, ◌-◌, length, map, ◌∷◌}
use Rattle.std.specs.List.{range_with_len}
use Rattle.strat_level.specs.Levels.{level_numbered, leads_if_any}
use Rattle.strat_promote.proofs.edges.leads_of.Given as goal

abbrev pub invariant-loop-number : goal.invariant-loop-number
invariant-loop-number l =
    l.leads.items ≡ length l.zero.list.items ∷ map (λ n. leads_if_any (level_numbered l.levels n)) (range_with_len 1 (l.number - 1))
