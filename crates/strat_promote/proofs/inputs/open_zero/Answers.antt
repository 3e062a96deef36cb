use Rattle.std.proofs.Common.{[], ◌∷◌, ◌++◌, ◌∙◌, ap, List, map}
use Rattle.strat_base.specs.Entries.{Entry}
use Rattle.strat_merge.specs.Runs.{lefts}
use Rattle.strat_promote.specs.InputFields.{input_seen}
use Rattle.strat_promote.specs.declared.input.Input.{Input}
use Rattle.strat_promote.specs.declared.input.Input.TheVariants as input
use Rattle.strat_promote.proofs.inputs.open_zero.Goals as goal

pub returns-clause-ok : goal.returns-clause-ok
returns-clause-ok c = λ f.
    ap (λ (runs : List Input). lefts f (map input_seen runs)) (c.in_ok-push.ensures.items ∙ ap (λ (runs : List Input). runs ++ input.Zero c.in_ok-new.field-0 ∷ []) c.new-runs.ensures.items)
    ∙ ap (λ (es : List Entry). es ∷ []) (c.in_ok-new.ensures.ok f)
