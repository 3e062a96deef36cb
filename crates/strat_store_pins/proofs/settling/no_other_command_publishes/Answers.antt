use Rattle.std.proofs.Common.{inl, inr, refl}
use Rattle.strat_store_pins.proofs.settling.no_other_command_publishes.Goals as goal

pub returns-clause-same : goal.returns-clause-same
returns-clause-same g c = λ d e old new told leaves calm.
    let keeps = leaves.kept refl calm in
    (keeps.slot, keeps.sb, keeps.chained, keeps.levels, keeps.filters)

pub returns-clause-err : goal.returns-clause-err
returns-clause-err g c = λ d e old new leaves. elim leaves.either [
  | inl keeps ↦ inl keeps.slot
  | inr has ↦ inr has.slot
]
