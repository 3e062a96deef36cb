-- The longest run at the front of a list of versions, and the runs behind it.
use Rattle.std.proofs.Common.{◌≡◌, ◌<◌, ◌≤◌, ◌+◌, ℕ, suc, Bool, true, false, cond, eqb, List, [], ◌∷◌, ◌++◌, length, drop, get_or, refl, sym, ap, ◌∙◌, arith, append_assoc, append-nil}
use Rattle.std.specs.Prelude.{flat_map, map, codes}
use Rattle.std.proofs.lemmas.Bool.{eqb-true, eq-eqb, cond-true, cond-false}
use Rattle.std.proofs.lemmas.List.{drop_more, drop_all}
use Rattle.def_texts.specs.Texts.{run_from, runs_of, run_text, with_commas, versions_text}
use Rattle.strat_report.specs.Runs.{run_with, later_runs, AddsRun}

-- a run of one number
run_one : (v : ℕ) (runs : List (ℕ × ℕ)) → run_from v runs ≡ run_with (v, 1) runs
run_one v [] = refl
run_one v (run ∷ runs) =
    let count : suc run.1 ≡ 1 + run.1 = omega arith in
    ap (λ (n : ℕ). cond (eqb run.0 (v + 1)) ((v, n) ∷ runs) ((v, 1) ∷ run ∷ runs)) count

-- a list begins with a run of one number
pub run_begins : (vs : List ℕ) → 0 < length vs → runs_of vs ≡ run_with (get_or vs 0 0, 1) (runs_of (drop 1 vs))
run_begins [] some = absurd (omega arith)
run_begins (v ∷ vs) some = run_one v (runs_of vs)

-- the number behind a run that goes on with it
grown : (v n x : ℕ) (runs : List (ℕ × ℕ)) → x ≡ v + n → run_with (v, n) (run_from x runs) ≡ run_with (v, n + 1) runs
grown v n x [] is = cond-true (eqb x (v + n)) ((v, n + 1) ∷ []) ((v, n) ∷ (x, 1) ∷ []) (eq-eqb x (v + n) is)
grown v n x (run ∷ runs) is = by_test (eqb run.0 (x + 1)) refl
  where
    by_test : (b : Bool) → eqb run.0 (x + 1) ≡ b
        → run_with (v, n) (cond b ((x, suc run.1) ∷ runs) ((x, 1) ∷ run ∷ runs)) ≡ run_with (v, n + 1) (run ∷ runs)
    by_test true e =
        let same : eqb run.0 (v + (n + 1)) ≡ true = eq-eqb run.0 (v + (n + 1)) (omega (arith, eqb-true run.0 (x + 1) e, is)) in
        let count : n + suc run.1 ≡ n + 1 + run.1 = omega arith in
        cond-true (eqb x (v + n)) ((v, n + suc run.1) ∷ runs) ((v, n) ∷ (x, suc run.1) ∷ runs) (eq-eqb x (v + n) is)
        ∙ ap (λ (k : ℕ). (v, k) ∷ runs) count
        ∙ sym (cond-true (eqb run.0 (v + (n + 1))) ((v, n + 1 + run.1) ∷ runs) ((v, n + 1) ∷ run ∷ runs) same)
    by_test false e =
        let place : x + 1 ≡ v + (n + 1) = omega (arith, is) in
        cond-true (eqb x (v + n)) ((v, n + 1) ∷ run ∷ runs) ((v, n) ∷ (x, 1) ∷ run ∷ runs) (eq-eqb x (v + n) is)
        ∙ sym (cond-false (eqb run.0 (v + (n + 1))) ((v, n + 1 + run.1) ∷ runs) ((v, n + 1) ∷ run ∷ runs) (sym (ap (λ (k : ℕ). eqb run.0 k) place) ∙ e))

-- a run grew by the number behind it
pub run_grows : (vs : List ℕ) (v n : ℕ) → n < length vs → get_or vs n 0 ≡ v + n → runs_of vs ≡ run_with (v, n) (runs_of (drop n vs)) → runs_of vs ≡ run_with (v, n + 1) (runs_of (drop (n + 1) vs))
run_grows vs v n more is sofar =
    sofar ∙ ap (λ (xs : List ℕ). run_with (v, n) (runs_of xs)) (drop_more vs n 0 more) ∙ grown v n (get_or vs n 0) (runs_of (drop (n + 1) vs)) is

-- the number behind a run that does not go on with it
apart : (v n x : ℕ) (runs : List (ℕ × ℕ)) → eqb x (v + n) ≡ false → run_with (v, n) (run_from x runs) ≡ (v, n) ∷ run_from x runs
apart v n x [] e = cond-false (eqb x (v + n)) ((v, n + 1) ∷ []) ((v, n) ∷ (x, 1) ∷ []) e
apart v n x (run ∷ runs) e = by_test (eqb run.0 (x + 1))
  where
    by_test : (b : Bool) → run_with (v, n) (cond b ((x, suc run.1) ∷ runs) ((x, 1) ∷ run ∷ runs)) ≡ (v, n) ∷ cond b ((x, suc run.1) ∷ runs) ((x, 1) ∷ run ∷ runs)
    by_test true = cond-false (eqb x (v + n)) ((v, n + suc run.1) ∷ runs) ((v, n) ∷ (x, suc run.1) ∷ runs) e
    by_test false = cond-false (eqb x (v + n)) ((v, n + 1) ∷ run ∷ runs) ((v, n) ∷ (x, 1) ∷ run ∷ runs) e

-- a run ends before a number that does not go on with it
pub run_ends : (vs : List ℕ) (v n : ℕ) → n < length vs → eqb (get_or vs n 0) (v + n) ≡ false → runs_of vs ≡ run_with (v, n) (runs_of (drop n vs)) → runs_of vs ≡ (v, n) ∷ runs_of (drop n vs)
run_ends vs v n more not' sofar =
    sofar ∙ ap (λ (xs : List ℕ). run_with (v, n) (runs_of xs)) (drop_more vs n 0 more) ∙ apart v n (get_or vs n 0) (runs_of (drop (n + 1) vs)) not'
    ∙ ap (λ (xs : List ℕ). (v, n) ∷ runs_of xs) (sym (drop_more vs n 0 more))

-- and at the end of the list
pub run_last : (vs : List ℕ) (v n : ℕ) → length vs ≤ n → runs_of vs ≡ run_with (v, n) (runs_of (drop n vs)) → runs_of vs ≡ (v, n) ∷ runs_of (drop n vs)
run_last vs v n over sofar =
    sofar ∙ ap (λ (xs : List ℕ). run_with (v, n) (runs_of xs)) (drop_all n vs over) ∙ ap (λ (xs : List ℕ). (v, n) ∷ runs_of xs) (sym (drop_all n vs over))

-- the first run of a list stands without a comma
pub text_begins : (before now : List ℕ) (vs left : List ℕ) → AddsRun before now vs left → now ++ later_runs left ≡ before ++ versions_text vs
text_begins before now vs left a =
    ap (λ (x : List ℕ). x ++ later_runs left) a.text
    ∙ append_assoc before (run_text a.run) (later_runs left)
    ∙ sym (ap (λ (runs : List (ℕ × ℕ)). before ++ with_commas (map run_text runs)) a.runs)

-- each later one behind a comma
pub text_goes_on : (all before comma now : List ℕ) (vs left : List ℕ) → before ++ later_runs vs ≡ all → comma ≡ before ++ codes "," → AddsRun comma now vs left → now ++ later_runs left ≡ all
text_goes_on all before comma now vs left sofar mark a =
    ap (λ (x : List ℕ). x ++ later_runs left) (a.text ∙ ap (λ (x : List ℕ). x ++ run_text a.run) mark)
    ∙ regrouped before (codes ",") (run_text a.run) (later_runs left)
    ∙ sym (ap (λ (runs : List (ℕ × ℕ)). before ++ flat_map (λ other. codes "," ++ other) (map run_text runs)) a.runs)
    ∙ sofar
  where
    regrouped : (a b c d : List ℕ) → ((a ++ b) ++ c) ++ d ≡ a ++ ((b ++ c) ++ d)
    regrouped a b c d = simp append_assoc

-- nothing is left
pub text_ends : (now all : List ℕ) (left : List ℕ) → length left ≤ 0 → now ++ later_runs left ≡ all → now ≡ all
text_ends now all [] none sofar = sym (append-nil now) ∙ sofar
text_ends now all (v ∷ vs) none sofar = absurd (omega (arith, none))
