-- What is met behind the frames of a turn.
use Rattle.std.proofs.Common.{◌≡◌, ◌<◌, ℕ, true, false, true≢false, Option, Some, None, refl, List, ◌++◌, length, ◌∙◌, sym, ap, subst, length-append, arith}
use Rattle.std.specs.List.{flat_map}
use Rattle.std.specs.Prelude.{IfSome, OnErr, OnOk, Result, Ok, Err, is_err, is_ok, is_some}
use Rattle.strat_base.specs.Numbers.{be}
use Rattle.strat_base.proofs.NumberLemmas.{length-be}
use Rattle.strat_frame.specs.Deframing.{Deframing, TakesFrame}
use Rattle.strat_frame.specs.declared.deframer.Next.{Next}
use Rattle.strat_frame.specs.declared.deframer.Next.TheVariants as next
use Rattle.strat_model.specs.Stream.{frame, is_partial, is_too_long}
use Rattle.strat_loop.specs.Progress.{Meets, waiting}

-- what the deframer finds is met, and nothing is lost
pub record Met (met : Next) (before after : Deframing) : Type 0 where
  pub meets : Meets met after
  pub all : before.held ≡ waiting met after

pub met_next : (met : Next) (before after : Deframing) → TakesFrame met before after → Met met before after
met_next next.Frame before after takes = record { meets = takes.1; all = takes.0 }
met_next next.NotYet before after takes = record { meets = ap is_partial takes.1 ∙ takes.0; all = sym takes.1 }
met_next (next.TooLong n) before after takes = record { meets = ap is_too_long takes.2 ∙ takes.0; all = sym takes.2 }

-- where less than a frame was met, or one that is too long, what waits is what is held
pub not_yet : (met : Next) (d : Deframing) → met ≡ next.NotYet → Meets met d → (is_partial d.held ≡ true) × (waiting met d ≡ d.held)
not_yet met d is meets = (subst (λ (m : Next). Meets m d) is meets, ap (λ (m : Next). waiting m d) is)

pub too_long : (met : Next) (d : Deframing) (n : ℕ) → met ≡ next.TooLong n → Meets met d → (is_too_long d.held ≡ true) × (waiting met d ≡ d.held)
too_long met d n is meets = (subst (λ (m : Next). Meets m d) is meets, ap (λ (m : Next). waiting m d) is)

pub is_frame : (met : Next) (d : Deframing) → met ≡ next.Frame → waiting met d ≡ frame d.body ++ d.held
is_frame met d is = ap (λ (m : Next). waiting m d) is

-- a frame and those behind it are more bytes than what is met then
pub fewer_wait : (body held rest : List ℕ) (others : List (List ℕ)) → held ≡ flat_map frame others ++ rest → length rest < length (frame body ++ held)
fewer_wait body held rest others parts =
    omega (
      arith,
      ap length parts,
      length-append (flat_map frame others) rest,
      length-append (frame body) held,
      length-append (be 4 (length body)) body,
      length-be 4 (length body),
    )

-- what is said of an option that is there, and of a call that failed or did not
pub some_of : {P : ℕ → Type 0} (o : Option ℕ) → is_some o ≡ true → IfSome o P → (x : ℕ) × P x
some_of (Some x) some p = (x, p)
some_of None none p = absurd (true≢false (sym none))

pub err_of : {T E P : Type 0} (r : Result T E) → is_err r ≡ true → OnErr r P → P
err_of (Ok x) failed p = absurd (true≢false (sym failed))
err_of (Err e) failed p = p

pub ok_of : {T E P : Type 0} (r : Result T E) → is_err r ≡ false → OnOk r P → P
ok_of (Ok x) fine p = p
ok_of (Err e) failed p = absurd (true≢false failed)

-- a result is a failure or not
pub is_ok_of : {T E : Type 0} (r : Result T E) → is_err r ≡ false → is_ok r ≡ true
is_ok_of (Ok x) fine = refl
is_ok_of (Err e) failed = absurd (true≢false failed)

pub is_err_of : {T E : Type 0} (r : Result T E) → is_err r ≡ true → is_ok r ≡ false
is_err_of (Ok x) failed = absurd (true≢false (sym failed))
is_err_of (Err e) failed = refl
