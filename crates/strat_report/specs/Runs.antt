-- Runs of versions, as they are printed one after the other.
use Rattle.std.specs.Prelude.{◌≡◌, ◌+◌, ℕ, ◌==◌, if◌then◌else◌, List, [], ◌∷◌, ◌++◌, flat_map, map, codes}
use Rattle.def_texts.specs.Texts.{runs_of, run_text}

-- a run, and the runs of what follows it: one that begins where it ends is a part of it
abbrev pub run_with : ℕ × ℕ → List (ℕ × ℕ) → List (ℕ × ℕ)
run_with run [] = run ∷ []
run_with run (next ∷ runs) =
    if next.0 == run.0 + run.1 then (run.0, run.1 + next.1) ∷ runs else run ∷ next ∷ runs

-- the longest runs of some versions, each with a comma in front of it
abbrev pub later_runs : List ℕ → List ℕ
later_runs versions = flat_map (λ other. codes "," ++ other) (map run_text (runs_of versions))

-- the first of the longest runs of some versions was added, and these are left behind it
pub record AddsRun (before now : List ℕ) (versions left : List ℕ) : Type 0 where
  pub run : ℕ × ℕ
  pub runs : runs_of versions ≡ run ∷ runs_of left
  pub text : now ≡ before ++ run_text run
