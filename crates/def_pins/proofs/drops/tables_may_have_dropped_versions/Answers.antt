use Rattle.std.proofs.Common.{◌≡◌, ℕ, true, false, List, [], ◌∷◌, Some, None, refl, sym, true≢false, arith}
use Rattle.std.specs.List.Sorted.{IsStrictlySortedBy}
use Rattle.std.proofs.lemmas.List.Elements.{All-nil, All-cons}
use Rattle.def_state.proofs.MarkLemmas.{pruned_from_test}
use Rattle.def_state.proofs.SoundLemmas.{tree_from_test}
use Rattle.strat_model.specs.Kept.{IsMap, IsTable}
use Rattle.strat_model.specs.Step.{no_row}
use Rattle.strat_model.specs.Table.{Row, Cursor}
use Rattle.def_pins.specs.Drops.{with_a_drop, row_of, dropped_row}
use Rattle.def_pins.proofs.drops.tables_may_have_dropped_versions.Goals as goal

one : Row
one = row_of None ((97 ∷ [], 49 ∷ []) ∷ [])

table : IsTable with_a_drop
unfolding IsStrictlySortedBy one
table = record {
  maps = All-cons {X = Row} (λ row. IsMap row.pairs) one (dropped_row (Some 0) ∷ []) (tt, tt)
      (All-cons {X = Row} (λ row. IsMap row.pairs) (dropped_row (Some 0)) [] tt (All-nil (λ (row : Row). IsMap row.pairs)));
  cursors = All-cons {X = Cursor} (λ c. IsMap c.left) (record { number = 1; left = (98 ∷ [], 49 ∷ []) ∷ [] }) [] (tt, tt) (All-nil (λ (c : Cursor). IsMap c.left));
  tree = tree_from_test (None ∷ Some 0 ∷ []) refl;
  pruned = pruned_from_test (None ∷ Some 0 ∷ []) (false ∷ true ∷ []) refl;
  emptied = All-cons {X = Row} (λ row. row.dropped ≡ true → row.pairs ≡ []) one (dropped_row (Some 0) ∷ []) (λ gone. absurd (true≢false (sym gone)))
      (All-cons {X = Row} (λ row. row.dropped ≡ true → row.pairs ≡ []) (dropped_row (Some 0)) [] (λ gone. refl) (All-nil (λ (row : Row). row.dropped ≡ true → row.pairs ≡ [])));
  within = record { changes_max = omega arith; versions_max = omega arith; rows = omega arith; changes = omega arith; updates = omega arith; cursors = omega arith };
}

pub returns-clause-table : goal.returns-clause-table
returns-clause-table c = table

pub returns-clause-child : goal.returns-clause-child
returns-clause-child c = λ p. true≢false (sym (p.pruned.down 2 1 refl refl))

pub returns-clause-pairs : goal.returns-clause-pairs
returns-clause-pairs c = λ p. let none : ◌≡◌ {A = List (List ℕ × List ℕ)} ((98 ∷ [], []) ∷ []) [] = p.emptied 1 no_row (omega arith) refl in cc
