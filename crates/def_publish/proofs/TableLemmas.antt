-- States that say the same mean the same table.
use Rattle.std.proofs.Common.{◌≡◌, [], ap, ◌∙◌, arith}
use Rattle.strat_base.specs.Tree.{Parents}
use Rattle.def_promote.specs.Promoted.{SaysTheSame}
use Rattle.def_meaning.specs.StateTable.{table_of}
use Rattle.def_meaning.specs.TableOver.{rows_from}
use Rattle.def_meaning.proofs.RowLemmas.{rows_same}
use Rattle.def_state.specs.State.{State, versions_of, map_at, marks_of}
use Rattle.strat_base.specs.Marks.{Marks, is_dropped}

pub same_table : (old new : State) → SaysTheSame old new → table_of new ≡ table_of old
same_table old new says =
    let rows : rows_from (map_at new) (marks_of new) 0 (versions_of new) ≡ rows_from (map_at old) (marks_of old) 0 (versions_of old) =
    ap (λ (parents : Parents). rows_from (map_at new) (marks_of new) 0 parents) says.versions
    ∙ rows_same (map_at old) (map_at new) (marks_of old) (marks_of new) 0 (versions_of old) (λ v le lt. says.maps v (omega (arith, lt))) (λ v. ap (λ (m : Marks). is_dropped m v) says.marks) in
    λ i. record {
      changes_max = says.changes_max i;
      versions_max = says.versions_max i;
      rows = rows i;
      updates = says.updates i;
      changes = says.changes i;
      cursors = [];
      next_cursor = 1;
    }
