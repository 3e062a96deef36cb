use Rattle.std.proofs.Common.{◌≡◌, List, sym, ap, ◌∙◌, rules}
use Rattle.std.specs.List.{list_any}
use Rattle.strat_model.specs.Plain.{is_living_row_under}
use Rattle.strat_model.specs.Table.{Row}
use Rattle.strat_model.proofs.DropLemmas.{frozen_by_rows}
use Rattle.strat_model.proofs.plain_table.PlainTable.is_frozen.Goals as goal

pub returns : goal.returns
returns c =
    let same : c.deref.result.now ≡ c.args.self.now.rows = search rules in
    record {
      ok = c.has_living_child.ensures.ok ∙ ap (λ (rows : List Row). list_any (is_living_row_under c.args.version) rows) same
          ∙ sym (frozen_by_rows c.args.self.now c.args.version);
    }
