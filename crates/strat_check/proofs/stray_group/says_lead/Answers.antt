use Rattle.std.proofs.Common.{◌≡◌, ◌∙◌, ℕ, Bool, true, List, sym, ap}
use Rattle.strat_arena.specs.Items.{entry_of_item}
use Rattle.strat_arena.specs.declared.items.Item.{Item}
use Rattle.strat_base.specs.Entries.{holds_entry, is_of}
use Rattle.strat_base.proofs.EntryLemmas.{among_held}
use Rattle.strat_base.proofs.ListFacts.{all_at}
use Rattle.def_split.proofs.ListLemmas.{among_map}
use Rattle.def_check.specs.Marked.{unmarked}
use Rattle.std.specs.List.{list_all, Contains}
use Rattle.strat_check.specs.MarkedGroups.{is_owned}
use Rattle.strat_check.specs.StrayGroups.{group_entries, group_leads, unmarked_item, IsStrayGroup}
use Rattle.strat_check.specs.declared.stray_group.StrayGroup.{StrayGroup}
use Rattle.strat_check.proofs.HeldLemmas.{contained}
use Rattle.strat_check.proofs.StrayLemmas.{among_unmarked}
use Rattle.strat_check.proofs.stray_group.says_lead.Goals as goal

-- an item of the array that owns its version is a lead
owned : (g : StrayGroup) (item : Item) → Contains g.items.now item → is_owned g.owners.now (entry_of_item g.arena.now.pairs item) ≡ true
    → true ≡ holds_entry (group_leads g) (unmarked (entry_of_item g.arena.now.pairs item))
owned g item inside mine =
    sym (among_held (group_leads g) (unmarked (entry_of_item g.arena.now.pairs item))
    (among_unmarked (is_owned g.owners.now) (group_entries g) (entry_of_item g.arena.now.pairs item)
    (among_map (entry_of_item g.arena.now.pairs) g.items.now item (contained g.items.now item inside)) mine))

-- and of another it is asked whether it says what one does
asked : (g : StrayGroup) (kept : IsStrayGroup g) (item plain : Item) → Contains g.items.now item → plain ≡ unmarked_item item → (result : Bool)
    → ((key : List ℕ) → list_all (is_of key) (group_entries g) ≡ true → is_of key (entry_of_item g.arena.now.pairs plain) ≡ true → result ≡ holds_entry (group_leads g) (entry_of_item g.arena.now.pairs plain))
    → result ≡ holds_entry (group_leads g) (unmarked (entry_of_item g.arena.now.pairs item))
asked g kept item plain inside is result ok =
    let of_key : is_of kept.key (entry_of_item g.arena.now.pairs item) ≡ true =
    all_at (is_of kept.key) (entry_of_item g.arena.now.pairs item) (group_entries g) kept.keyed
    (among_map (entry_of_item g.arena.now.pairs) g.items.now item (contained g.items.now item inside)) in
    ok kept.key kept.keyed (ap (λ (x : Item). is_of kept.key (entry_of_item g.arena.now.pairs x)) is ∙ of_key)
    ∙ ap (λ (x : Item). holds_entry (group_leads g) (entry_of_item g.arena.now.pairs x)) is

pub returns-then-is_owned : goal.returns-then-is_owned
returns-then-is_owned c = record { ok = owned c.args.g.now c.args.item.now c.requires.found (sym c.is_owned.ensures.ok ∙ c.if-is_owned.true) }

pub returns : goal.returns
returns c = record { ok = asked c.args.g.now c.requires.kept c.args.item.now c.unmark.result c.requires.found c.unmark.ensures.ok c.is_lead.result c.is_lead.ensures.ok }
