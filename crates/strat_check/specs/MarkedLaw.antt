-- A marked run is a run.
use Rattle.std.proofs.Common.{◌≡◌, ℕ, List, [], ◌∷◌, map, refl, ap, ◌∙◌}
use Rattle.std.specs.Option.{option_map}
use Rattle.std.specs.List.{slice_get}
use Rattle.strat_base.specs.Entries.{Entry}
use Rattle.strat_merge.specs.Runs.{RunView, IsEntryRun}
use Rattle.def_check.specs.Marked.{marked}
use Rattle.def_check.proofs.MarkedLemmas.{marked_ascending}
use Rattle.strat_check.specs.MarkedRuns.{marked_view, unmarked_seen, marked_seen}
use Rattle.strat_check.specs.declared.marked_run.MarkedRun.{MarkedRun}

first_mapped : (i : ℕ) (xs : List Entry)
    → option_map (marked i) (slice_get xs 0) ≡ slice_get (map (marked i) xs) 0
first_mapped i [] = refl
first_mapped i (x ∷ xs) = refl

view_law : (i : ℕ) (run : RunView) → IsEntryRun run → IsEntryRun (marked_view i run)
view_law i run law = record {
  ascending = λ c. marked_ascending i (run.left c) (law.ascending c);
  begins = λ c. ap (option_map (marked i)) (law.begins c) ∙ first_mapped i (run.left c);
  stays = λ c d agree. ap (λ (xs : List Entry). map (marked i) xs) (law.stays c d agree);
  fits = λ c d agree. law.fits c d agree;
}

-- a marked run is a run of entries
pub marked_law : (r : MarkedRun) → IsEntryRun (marked_seen r)
marked_law r = view_law r.place (unmarked_seen r) r.law
