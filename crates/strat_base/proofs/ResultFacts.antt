-- What follows of an option or a result whatever it holds.
use Rattle.std.proofs.Common.{◌≡◌, ◌⊎◌, inl, inr, Option, Some, None, Result, Ok, Err, OnOk, IfOk, IsErrAnd, refl, sym, ap, ◌∙◌}
use Rattle.std.proofs.lemmas.Result.{err_from_is_err_and}

-- an option is none or some
pub option_cases : {X : Type 0} (o : Option X) → (o ≡ None) ⊎ ((x : X) × (o ≡ Some x))
option_cases None = inl refl
option_cases (Some x) = inr (x, refl)

pub on_ok_then : {T E : Type 0} {P Q : Type 0} (r : Result T E) → OnOk r P → (P → Q) → OnOk r Q
on_ok_then (Ok x) is then = then is
on_ok_then (Err e) is then = tt

-- the error that is handed on is the one that came
pub err_of : {T U E : Type 0} (r : Result T E) (y z : E) → IsErrAnd r (λ e. e ≡ y) → r ≡ Err z → ◌≡◌ {A = Result U E} (Err y) (Err z)
err_of r y z and is =
    let p = err_from_is_err_and r and in
    let same : Err p.0 ≡ Err z = sym p.1 ∙ is in
    let one : p.0 ≡ z = cc in
    ap (λ (w : _). Err w) (sym p.2 ∙ one)

pub if_ok_then : {T E : Type 0} {P Q : T → Type 0} (r : Result T E) → IfOk r P → ((x : T) → P x → Q x) → IfOk r Q
if_ok_then (Ok x) is then = then x is
if_ok_then (Err e) is then = tt
