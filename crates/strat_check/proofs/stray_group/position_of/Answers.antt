use Rattle.std.proofs.Common.{◌∙◌, ap, arith}
use Rattle.strat_arena.specs.declared.items.Item.{Item}
use Rattle.strat_check.proofs.HeldLemmas.{none_equal}
use Rattle.strat_check.proofs.OwnerLemmas.{same_default}
use Rattle.strat_check.proofs.stray_group.position_of.Goals as goal
use Rattle.strat_check.proofs.stray_group.position_of.Goals.{else-at-items-via-then-at-items+else-items-at, else-at-items-via-else-at-items}

pub returns-else-at-items-clause-none : goal.returns-else-at-items-clause-none
returns-else-at-items-clause-none c =
    none_equal c.args.items.now c.args.version c.count_above-at.result c.requires.kept c.count_above-at.ensures.ok c.count_above-at.ensures.end (λ d within same.
    elim c.else-at-items.branch [
      | else-at-items-via-then-at-items+else-items-at w ↦ absurd (w.if-items-at.false (ap (λ (item : Item). item.version) (same_default c.args.items.now c.count_above-at.result _ d within) ∙ same))
      | else-at-items-via-else-at-items w ↦ let past = w.if-at-items.false in absurd (omega (arith, past, within))
    ])
