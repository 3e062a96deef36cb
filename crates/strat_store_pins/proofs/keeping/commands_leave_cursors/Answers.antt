use Rattle.std.proofs.Common.{refl, ap}
use Rattle.strat_base.specs.Change as change
use Rattle.strat_memory.specs.Held.{Held}
use Rattle.strat_store_pins.proofs.keeping.commands_leave_cursors.Goals as goal

pub returns-clause-looked : goal.returns-clause-looked
returns-clause-looked c = λ old new a leaves.
    let same = leaves.looked refl in
    (ap (λ (s : Held). s.memory.cursors) same, ap (λ (s : Held). s.log) same, ap (λ (s : Held). s.memory.entries) same, ap (λ (s : Held). s.levels) same)

pub returns-clause-changed : goal.returns-clause-changed
returns-clause-changed c = λ old new a v key leaves. leaves.changed (change.Delete v key) refl

pub returns-clause-kept : goal.returns-clause-kept
returns-clause-kept c = λ old new a b leaves among. leaves.retired b among
