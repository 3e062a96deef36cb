-- Each run of a promotion is one.
use Rattle.std.proofs.Common.{◌≡◌, ℕ, zero, suc, true, List, [], ◌∷◌, drop, refl}
use Rattle.std.specs.List.{slice_get, list_all}
use Rattle.std.specs.Ordering.{is_lt}
use Rattle.std.proofs.lemmas.Bool.{and_parts}
use Rattle.strat_base.specs.Entries.{Entry, is_ascending}
use Rattle.strat_base.specs.Order.{entry_cmp}
use Rattle.strat_merge.specs.Runs.{IsEntryRun}
use Rattle.strat_promote.specs.ZeroFields.{copied, zero_run_seen}
use Rattle.strat_promote.specs.InputFields.{input_seen}
use Rattle.strat_promote.specs.declared.zero_copy.ZeroRun.{ZeroRun}
use Rattle.strat_promote.specs.declared.input.Input.{Input}
use Rattle.strat_promote.specs.declared.input.Input.TheVariants as input

-- what is left of entries in order is in order
rest_ascends : (n : ℕ) (entries : List Entry) → is_ascending entries ≡ true
    → is_ascending (drop n entries) ≡ true
rest_ascends zero entries up = up
rest_ascends (suc n) [] up = refl
rest_ascends (suc n) (e ∷ entries) up =
    rest_ascends n entries
    (and_parts
    (list_all (λ later. is_lt (entry_cmp e.key e.version later.key later.version)) entries)
    (is_ascending entries) up).1

-- what comes next is the first that is left
first_left : (xs : List Entry) (n : ℕ) → slice_get xs n ≡ slice_get (drop n xs) 0
first_left xs zero = refl
first_left [] (suc n) = refl
first_left (x ∷ xs) (suc n) = first_left xs n

-- a copy of level 0 is a run
zero_law : (r : ZeroRun) → IsEntryRun (zero_run_seen r)
zero_law r = record {
  ascending = λ c. rest_ascends r.next (copied r) r.ascending;
  begins = λ c. first_left (copied r) r.next;
  stays = λ c d same. refl;
  fits = λ c d same. refl;
}

-- a run of a promotion is one
pub input_law : (r : Input) → IsEntryRun (input_seen r)
input_law (input.Zero run) = zero_law run
input_law (input.Leads run) = run.law
