use Rattle.std.proofs.Common.{Bool, Some, refl, ap, not, if◌then◌else◌}
use Rattle.strat_base.specs.Change as change
use Rattle.strat_model.specs.declared.replies.Refusal.TheVariants as why
use Rattle.strat_memory.specs.Held.{Held}
use Rattle.strat_store_pins.proofs.untouched.a_drop_sets_one_mark.Goals as goal

pub returns-clause-err : goal.returns-clause-err
returns-clause-err g c = λ d e old new told known is.
    let left = is.refused (change.DropVersion 0) why.Root refl (ap (λ (b : Bool). if not b then Some why.UnknownVersion else Some why.Root) known) in
    (left.0, ap (λ (s : Held). s.memory) left.1, ap (λ (s : Held). s.log) left.1, ap (λ (s : Held). s.chained) left.1, left.2)

pub returns-clause-same : goal.returns-clause-same
returns-clause-same g c = λ m v. refl
