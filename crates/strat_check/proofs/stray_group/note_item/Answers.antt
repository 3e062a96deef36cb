use Rattle.std.proofs.Common.{Bool, sym, ap, ◌∙◌}
use Rattle.strat_arena.specs.Items.{entry_of_item}
use Rattle.strat_check.specs.StrayGroups.{group_leads, noted}
use Rattle.strat_check.specs.Strays.{strays_at}
use Rattle.strat_check.proofs.SettledLemmas.{stray_here, no_stray_here, not_noted}
use Rattle.strat_check.proofs.stray_group.note_item.Goals as goal

pub returns-then-not-says_lead-clause-ok : goal.returns-then-not-says_lead-clause-ok
returns-then-not-says_lead-clause-ok c = λ i low.
    c.note.ensures.ok i low
    ∙ ap (λ (b : Bool). noted b (strays_at c.args.found.now i))
    (stray_here (group_leads c.args.g.now) i (entry_of_item c.args.g.now.arena.now.pairs c.args.item.now) (sym c.says_lead.ensures.ok ∙ c.if-not-says_lead.true))

pub returns-else-not-says_lead-clause-ok : goal.returns-else-not-says_lead-clause-ok
returns-else-not-says_lead-clause-ok c = λ i low.
    not_noted (strays_at c.args.found.now i)
    ∙ ap (λ (b : Bool). noted b (strays_at c.args.found.now i))
    (no_stray_here (group_leads c.args.g.now) i (entry_of_item c.args.g.now.arena.now.pairs c.args.item.now) (sym c.says_lead.ensures.ok ∙ c.if-not-says_lead.false))
