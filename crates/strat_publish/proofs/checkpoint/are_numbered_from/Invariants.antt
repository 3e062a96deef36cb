use Rattle.std.proofs.Common.{◌≡◌, drop}
use Rattle.std.specs.List.{list_all}
use Rattle.std.specs.Prelude.{nat_le}
use Rattle.strat_publish.proofs.checkpoint.are_numbered_from.Given as goal

abbrev pub invariant-loop-array : goal.invariant-loop-array
invariant-loop-array l = list_all (λ a. nat_le l.next_array a.id) (drop l.array-index l.arrays) ≡ list_all (λ a. nat_le l.next_array a.id) l.arrays
