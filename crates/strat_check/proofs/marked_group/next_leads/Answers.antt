use Rattle.std.proofs.Common.{◌≡◌, ◌*◌, ℕ, true, ltb, List, length, ap, sym, ◌∙◌, subst}
use Rattle.std.specs.List.{list_all}
use Rattle.strat_base.specs.Order.{descends}
use Rattle.strat_merge.specs.MergerFields.{views_of}
use Rattle.strat_merge.specs.Runs.{lefts}
use Rattle.strat_check.specs.MarkedGroups.{leads_among}
use Rattle.strat_check.specs.MarkedRuns.{marked_seen}
use Rattle.strat_check.proofs.MarkedGroupLemmas.{leads_descend, leads_low, owned_items, merges_more, none_marked}
use Rattle.strat_check.proofs.marked_group.next_leads.Goals as goal

pub returns-then-not-branch-clause-none : goal.returns-then-not-branch-clause-none
returns-then-not-branch-clause-none g c = λ _ f runs groups merged.
    let none = c.in_ok-next_group.ensures.none c.if-not-branch.true in
    (lefts f (views_of marked_seen c.args.merging.now.merger), merged, none_marked f c.args.merging.now.merger.runs.items none.0)

pub returns-clause-kept : goal.returns-clause-kept
returns-clause-kept g c =
    let found = c.in_ok-next_group.ensures.found c.if-not-branch.false in
    let leads : c.take_leads.new.versions.items ≡ leads_among c.args.owners.now c.next_group.new.group = c.in_ok-take_leads.ensures.ok ∙ ap (leads_among c.args.owners.now) c.items.ensures.ok in
    record {
      unspent = c.in_ok-next_group.ensures.kept;
      under = found.1.bound (16384 * length c.args.owners.now) c.requires.kept.under;
      descending = subst (λ (vs : List ℕ). descends vs ≡ true) (sym leads) (leads_descend c.args.owners.now c.next_group.new.group found.1.descending);
      low = subst (λ (vs : List ℕ). list_all (λ v. ltb v (length c.args.owners.now)) vs ≡ true) (sym leads)
          (leads_low c.args.owners.now (length c.args.owners.now) c.next_group.new.group (found.1.low (16384 * length c.args.owners.now) c.requires.kept.under));
    }

pub returns-clause-state : goal.returns-clause-state
returns-clause-state g c = λ _.
    c.in_ok-take_leads.ensures.ok ∙ ap (leads_among c.args.owners.now) c.items.ensures.ok ∙ sym (owned_items c.args.owners.now c.next_group.new.arena.pairs c.next_group.new.group)

pub returns-clause-ok : goal.returns-clause-ok
returns-clause-ok g c = λ _ f runs groups exposed merged.
    merges_more runs groups (lefts f (views_of marked_seen c.args.merging.now.merger)) (lefts f (views_of marked_seen c.next_group.new.self)) _ merged (c.in_ok-next_group.ensures.ok c.if-not-branch.false f exposed)
