use Rattle.std.proofs.Common.{◌≡◌, ◌∙◌, ℕ, ltb, true, false, not, List, get_or, length, sym, ap}
use Rattle.std.specs.List.{list_all}
use Rattle.std.proofs.lemmas.Bool.{ltb-true}
use Rattle.strat_arena.specs.Items.{entry_of_item, entries_of, have_pairs}
use Rattle.strat_arena.specs.declared.items.Item.{Item}
use Rattle.strat_base.specs.Entries.{holds_entry, is_of}
use Rattle.strat_base.proofs.ListFacts.{all_at}
use Rattle.def_split.proofs.ListLemmas.{among_map}
use Rattle.strat_live.specs.Counting.{are_below}
use Rattle.strat_live.specs.Group.{is_descending}
use Rattle.strat_check.specs.StrayGroups.{group_leads, items_told, IsStrayGroup}
use Rattle.strat_check.specs.declared.stray_group.StrayGroup.{StrayGroup}
use Rattle.strat_check.proofs.HeldLemmas.{place_among}
use Rattle.strat_check.proofs.ToldLemmas.{told_descending, told_keyed, told_slots, told_low, one_lives, none_lives, lives_within}
use Rattle.strat_check.proofs.stray_group.is_stray_at.Goals as goal

abbrev none : Item
none = record { slot = record { 0 = 0 }; version = 0; gone = false }

-- what is so of the items told is so of these
module _ (g : StrayGroup) (kept : IsStrayGroup g) (told : List Item) (found : (place : ℕ) × (told ≡ items_told place g.items.now)) where
  down : is_descending told ≡ true
  down = ap is_descending found.1 ∙ told_descending found.0 g.items.now kept.descending

  keyed : list_all (is_of kept.key) (entries_of g.arena.now.pairs told) ≡ true
  keyed =
      ap (λ (items : List Item). list_all (is_of kept.key) (entries_of g.arena.now.pairs items)) found.1
      ∙ told_keyed g.arena.now.pairs kept.key found.0 g.items.now kept.keyed

pub live_in-requires-clause-kept : goal.live_in-requires-clause-kept
live_in-requires-clause-kept c = down c.args.g.now c.requires.kept c.args.told.now c.requires.found

pub is_lead-requires-clause-fits : goal.is_lead-requires-clause-fits
is_lead-requires-clause-fits c =
    let pairs = c.args.g.now.arena.now.pairs in
    let within = lives_within c.args.tree.now.parents c.count.ensures.kept c.args.v pairs c.args.told.now c.requires.kept.key (keyed c.args.g.now c.requires.kept c.args.told.now c.requires.found) c.in-Some.at none c.in-Some.ensures.ok in
    let inside = place_among c.args.told.now c.in-Some.at none within in
    let slots : have_pairs pairs c.args.told.now ≡ true = ap (have_pairs pairs) c.requires.found.1 ∙ told_slots pairs c.requires.found.0 c.args.g.now.items.now c.requires.kept.slots in
    let low : are_below (length c.args.g.now.owners.now) c.args.told.now ≡ true =
    ap (are_below (length c.args.g.now.owners.now)) c.requires.found.1 ∙ told_low (length c.args.g.now.owners.now) c.requires.found.0 c.args.g.now.items.now c.requires.kept.low in (
      ltb-true (get_or c.args.told.now c.in-Some.at none).slot.0 (length pairs) (all_at (λ (item : Item). ltb item.slot.0 (length pairs)) (get_or c.args.told.now c.in-Some.at none) c.args.told.now slots inside),
      ltb-true (get_or c.args.told.now c.in-Some.at none).version (length c.args.g.now.owners.now)
          (all_at (λ (item : Item). ltb item.version (length c.args.g.now.owners.now)) (get_or c.args.told.now c.in-Some.at none) c.args.told.now low inside),
    )

pub returns-in-Some : goal.returns-in-Some
returns-in-Some c =
    let pairs = c.args.g.now.arena.now.pairs in
    let within = lives_within c.args.tree.now.parents c.count.ensures.kept c.args.v pairs c.args.told.now c.requires.kept.key (keyed c.args.g.now c.requires.kept c.args.told.now c.requires.found) c.in-Some.at none c.in-Some.ensures.ok in
    let of_key : is_of c.requires.kept.key (entry_of_item pairs (get_or c.args.told.now c.in-Some.at none)) ≡ true =
    all_at (is_of c.requires.kept.key) (entry_of_item pairs (get_or c.args.told.now c.in-Some.at none)) (entries_of pairs c.args.told.now) (keyed c.args.g.now c.requires.kept c.args.told.now c.requires.found)
    (among_map (entry_of_item pairs) c.args.told.now (get_or c.args.told.now c.in-Some.at none) (place_among c.args.told.now c.in-Some.at none within)) in
    record {
      ok = ap not (c.is_lead.ensures.ok c.requires.kept.key c.requires.kept.keyed of_key
          ∙ one_lives c.args.tree.now.parents c.count.ensures.kept c.args.v pairs c.args.told.now c.requires.kept.key (keyed c.args.g.now c.requires.kept c.args.told.now c.requires.found) (holds_entry (group_leads c.args.g.now)) (down c.args.g.now c.requires.kept c.args.told.now c.requires.found) c.in-Some.at none c.in-Some.ensures.ok);
    }

pub returns-in-None : goal.returns-in-None
returns-in-None c =
    let pairs = c.args.g.now.arena.now.pairs in
    record { ok = ap not (sym (none_lives c.args.tree.now.parents c.count.ensures.kept c.args.v pairs c.args.told.now c.requires.kept.key (keyed c.args.g.now c.requires.kept c.args.told.now c.requires.found) (holds_entry (group_leads c.args.g.now)) (down c.args.g.now c.requires.kept c.args.told.now c.requires.found) c.in-None.ensures.ok)) }
