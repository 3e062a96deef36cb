use Rattle.std.proofs.Common.{refl, ap}
use Rattle.strat_base.specs.Change as change
use Rattle.strat_model.specs.declared.replies.Refusal.TheVariants as why
use Rattle.strat_memory.specs.Held.{Held}
use Rattle.strat_store_pins.proofs.untouched.a_refused_change_leaves_store_and_disk.Goals as goal

pub returns : goal.returns
returns g c = record {
  err = λ d e old new v key told refused is.
      let left = is.refused (change.Delete v key) why.Frozen refl refused in
      (left.0, ap (λ (s : Held). s.memory) left.1, ap (λ (s : Held). s.log) left.1, ap (λ (s : Held). s.chained) left.1, left.2);
}
