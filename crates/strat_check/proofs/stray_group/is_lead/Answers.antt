use Rattle.std.proofs.Common.{◌∙◌, false, get_or, arith}
use Rattle.strat_arena.specs.Items.{entry_of_item}
use Rattle.strat_arena.specs.declared.items.Item.{Item}
use Rattle.strat_base.specs.Entries.{is_same_value}
use Rattle.strat_check.proofs.HeldLemmas.{unowned, unfound, found_lead, place_among}
use Rattle.strat_check.proofs.stray_group.is_lead.Goals as goal

abbrev none : Item
none = record { slot = record { 0 = 0 }; version = 0; gone = false }

pub returns-then-place-ge-PLACES : goal.returns-then-place-ge-PLACES
returns-then-place-ge-PLACES c =
    record { ok = λ key keyed of_key. unowned c.args.g.now.arena.now.pairs c.args.g.now.items.now c.args.g.now.owners.now (entry_of_item c.args.g.now.arena.now.pairs c.args.item.now) (omega arith) }

pub returns-in-Some : goal.returns-in-Some
returns-in-Some c =
    let at = c.in-Some.ensures.found in
    record {
      ok = λ key keyed of_key.
          c.is_same_val.ensures.ok
          ∙ (λ j. is_same_value (c.entry.ensures j).value (c.entry-in-Some.ensures j).value)
          ∙ found_lead c.args.g.now.arena.now.pairs c.args.g.now.items.now c.args.g.now.owners.now (entry_of_item c.args.g.now.arena.now.pairs c.args.item.now) key keyed of_key
          (get_or c.args.g.now.items.now c.in-Some.at none) c.requires.kept.descending (place_among c.args.g.now.items.now c.in-Some.at none at.0) c.if-place-ge-PLACES.false (at.1 none);
    }

pub returns-in-None : goal.returns-in-None
returns-in-None c =
    record {
      ok = λ key keyed of_key.
          unfound c.args.g.now.arena.now.pairs c.args.g.now.items.now c.args.g.now.owners.now (entry_of_item c.args.g.now.arena.now.pairs c.args.item.now) none c.in-None.ensures.none;
    }
