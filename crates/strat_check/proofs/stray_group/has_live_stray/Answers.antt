use Rattle.std.proofs.Common.{◌∙◌, List, not, ap}
use Rattle.std.specs.List.{list_all}
use Rattle.strat_arena.specs.Items.{entries_of}
use Rattle.strat_base.specs.Entries.{Entry, holds_entry}
use Rattle.def_state.specs.Live.{live}
use Rattle.strat_check.specs.StrayGroups.{group_leads}
use Rattle.strat_check.proofs.ToldLemmas.{told_entries}
use Rattle.strat_check.proofs.stray_group.has_live_stray.Goals as goal

pub returns : goal.returns
returns c =
    let pairs = c.args.g.now.arena.now.pairs in
    let told = ap (entries_of pairs) (c.deref.ensures.value ∙ c.in_ok-told.ensures.ok) ∙ told_entries pairs c.args.place c.args.g.now.items.now in
    record {
      ok = c.is_any_live.ensures.ok
          ∙ ap (λ (es : List Entry). not (list_all (λ v. list_all (holds_entry (group_leads c.args.g.now)) (live c.args.tree.now.parents es v)) c.args.tag.now)) told;
    }
