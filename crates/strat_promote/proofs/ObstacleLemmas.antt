-- Troubles that are handed on as obstacles.
use Rattle.std.proofs.Common.{◌≡◌, ℕ, List, Result, Err, IfOk, IsErrAnd, refl, sym, ap, ◌∙◌, subst, arith}
use Rattle.std.specs.Prelude.{IsErrOf, MatchResult}
use Rattle.std.proofs.lemmas.Result.{err_from_is_err_and}
use Rattle.strat_base.specs.declared.failures.Trouble.{Trouble}
use Rattle.strat_base.specs.declared.failures.Trouble.TheVariants as trouble
use Rattle.strat_array.specs.Pushed.{HasReason}
use Rattle.def_crash.specs.Faults.{HasCause}
use Rattle.def_crash.specs.Moments.{DiskView}
use Rattle.strat_merge.specs.Reading.{ReadsRuns}
use Rattle.strat_merge.specs.Runs.{RunView}
use Rattle.strat_promote.specs.Obstacles.{as_obstacle, MeetsObstacle}
use Rattle.strat_promote.specs.declared.obstacle.Obstacle.{Obstacle}
use Rattle.strat_promote.specs.declared.obstacle.Obstacle.TheVariants.{NoMemory, Device, Damaged, Unfit}

cause_told : {T U : Type 0} (before now : ℕ) (t : Trouble) → HasCause {T = T} trouble.Device before now (Err t) → HasCause {T = U} Device before now (Err (as_obstacle t))
cause_told before now trouble.NoMemory c = record { later = c.later; ok = tt; device = λ is. absurd (cc); other = λ no. c.other (λ e. cc) }
cause_told before now trouble.Device c = record { later = c.later; ok = tt; device = λ is. c.device refl; other = λ no. absurd (no refl) }
cause_told before now (trouble.Damaged b) c = record { later = c.later; ok = tt; device = λ is. absurd (cc); other = λ no. c.other (λ e. cc) }

block_told : {T U : Type 0} (t : Trouble) (b : ℕ) → ◌≡◌ {A = Result U Obstacle} (Err (as_obstacle t)) (Err (Damaged b)) → ◌≡◌ {A = Result T Trouble} (Err t) (Err (trouble.Damaged b))
block_told trouble.NoMemory b is = absurd (cc)
block_told trouble.Device b is = absurd (cc)
block_told (trouble.Damaged a) b is = let same : a ≡ b = cc in ap (λ (n : ℕ). Err (trouble.Damaged n)) same

fit_told : {U : Type 0} (t : Trouble) → ◌≡◌ {A = Result U Obstacle} (Err (as_obstacle t)) (Err Unfit) → ⊥
fit_told trouble.NoMemory is = cc
fit_told trouble.Device is = cc
fit_told (trouble.Damaged b) is = cc

-- the exit of a call whose obstacle is handed on
pub none_kept : {U : Type 0} (r : Result U Obstacle) (o : Obstacle) (P : U → Type 0) → IsErrAnd r (λ e. e ≡ o) → IfOk r P
none_kept {U} r o P told = let p = err_from_is_err_and r told in subst (λ (x : Result U Obstacle). IfOk x P) (sym p.1) tt

-- why a writer gave up, as it is handed on
pub gives_kept : {U : Type 0} (r : Result U Obstacle) (o : Obstacle) (before now : ℕ) → IsErrAnd r (λ e. e ≡ o) → MeetsObstacle o before now
    → MatchResult r (λ u. now ≡ before) (λ e. MeetsObstacle e before now)
gives_kept {U} r o before now told gives =
    let p = err_from_is_err_and r told in
    subst (λ (x : Result U Obstacle). MatchResult x (λ u. now ≡ before) (λ e. MeetsObstacle e before now)) (sym p.1)
    (subst (λ (e : Obstacle). MeetsObstacle e before now) (sym p.2) gives)

gives_told : (t : Trouble) (before now : ℕ) → HasReason t before now → MeetsObstacle (as_obstacle t) before now
gives_told trouble.NoMemory before now reason = reason
gives_told trouble.Device before now reason = reason
gives_told (trouble.Damaged b) before now reason = absurd reason

-- and as the cause of a call
pub gives_cause : {U : Type 0} (r : Result U Obstacle) (o : Obstacle) (before now : ℕ) → IsErrAnd r (λ e. e ≡ o) → MeetsObstacle o before now → HasCause Device before now r
gives_cause {U} r o before now told gives =
    let p = err_from_is_err_and r told in
    subst (λ (x : Result U Obstacle). HasCause Device before now x) (sym p.1)
    (subst (λ (e : Obstacle). HasCause {T = U} Device before now (Err e)) (sym p.2) (go o gives))
  where
    go : (e : Obstacle) → MeetsObstacle e before now → HasCause {T = U} Device before now (Err e)
    go NoMemory same = record { later = omega (arith, same); ok = tt; device = λ is. absurd (cc); other = λ no. same }
    go Device rose = record { later = rose.0; ok = tt; device = λ is. rose.1; other = λ no. absurd (no refl) }
    go (Damaged b) never = absurd never
    go Unfit same = record { later = omega (arith, same); ok = tt; device = λ is. absurd (cc); other = λ no. same }

-- a writer names no damaged block
pub gives_none : {U : Type 0} (r : Result U Obstacle) (o : Obstacle) (before now b : ℕ) → IsErrAnd r (λ e. e ≡ o) → MeetsObstacle o before now → IsErrOf r (Damaged b) → ⊥
gives_none r o before now b told gives is =
    let p = err_from_is_err_and r told in
    let same : Err p.0 ≡ Err (Damaged b) = sym p.1 ∙ is in
    let e : p.0 ≡ Damaged b = cc in
    subst (λ (x : Obstacle). MeetsObstacle x before now) (sym p.2 ∙ e) gives

-- where memory ran out no bound was reached
pub short_fit : {U : Type 0} (r : Result U Obstacle) → IsErrAnd r (λ e. e ≡ NoMemory) → IsErrOf r Unfit → ⊥
short_fit r told is =
    let p = err_from_is_err_and r told in
    let same : Err p.0 ≡ Err Unfit = sym p.1 ∙ is in
    let e : p.0 ≡ Unfit = cc in
    let both : NoMemory ≡ Unfit = sym p.2 ∙ e in
    cc

-- the exit of a call whose trouble is handed on
module _ {U : Type 0} (t : Trouble) (r : Result U Obstacle) (told : IsErrAnd r (λ e. e ≡ as_obstacle t)) where
  result_is : r ≡ Err (as_obstacle t)
  result_is = let p = err_from_is_err_and r told in p.1 ∙ ap (λ (e : Obstacle). Err e) p.2

  pub none_ok : (P : U → Type 0) → IfOk r P
  none_ok P = subst (λ (x : Result U Obstacle). IfOk x P) (sym result_is) tt

  pub fit_handed : IsErrOf r Unfit → ⊥
  fit_handed is = fit_told t (sym result_is ∙ is)

  pub gives_handed : (before now : ℕ) → HasReason t before now → MatchResult r (λ u. now ≡ before) (λ e. MeetsObstacle e before now)
  gives_handed before now reason = gives_kept r (as_obstacle t) before now told (gives_told t before now reason)

  module _ {T : Type 0} where
    pub cause_handed : (before now : ℕ) → HasCause {T = T} trouble.Device before now (Err t) → HasCause Device before now r
    cause_handed before now c = subst (λ (x : Result U Obstacle). HasCause Device before now x) (sym result_is) (cause_told before now t c)

    pub block_handed : (b : ℕ) → IsErrOf r (Damaged b) → IsErrOf {T = T} (Err t) (trouble.Damaged b)
    block_handed b is = block_told t b (sym result_is ∙ is)

    pub reads_handed : {R : Type 0} (view : R → RunView) (disk after : DiskView) (faults failed reads read : ℕ) (old new : List R)
        → ReadsRuns {T = T} view trouble.Device trouble.Damaged disk after faults failed reads read old new (Err t) → ReadsRuns view Device Damaged disk after faults failed reads read old new r
    reads_handed view disk after faults failed reads read old new c = record {
      same = c.same;
      cause = cause_handed faults failed c.cause;
      named = λ b is. c.named b (block_handed b is);
      blamed = λ b is. c.blamed b (block_handed b is);
      fewer = c.fewer;
      left = c.left;
    }
