-- What a sink was sent.
use Rattle.std.proofs.Common.{◌≡◌, ℕ, ◌<◌, List, ◌++◌, length, take, drop, Option, sym, ap, ◌∙◌, length-append, length-drop, arith}
use Rattle.std.proofs.lemmas.List.{take-append-drop}
use Rattle.std.specs.Prelude.{Result, Ok, Err, OnErr}
use Rattle.strat_base.specs.Numbers.{be}
use Rattle.strat_base.proofs.NumberLemmas.{length-be}
use Rattle.strat_io.specs.Streams.{Appends}
use Rattle.strat_model.specs.Stream.{frame}
use Rattle.strat_loop.specs.Session.{SendsPrefix}

-- a fact that holds whatever the outcome
pub on_err : {T E P : Type 0} (r : Result T E) → P → OnErr r P
on_err (Ok x) p = tt
on_err (Err e) p = p

-- a prefix of bytes that are known
pub sends_prefix : (n : ℕ) (bytes all : List ℕ) (s0 s1 : Option (List ℕ)) → bytes ≡ all → n < length bytes → Appends s0 s1 (take n bytes) → SendsPrefix s0 s1 all
sends_prefix n bytes all s0 s1 e fewer sent = record {
  sent = take n bytes;
  later = drop n bytes;
  parts = sym e ∙ sym (take-append-drop n bytes);
  some = omega (arith, length-drop n bytes);
  appends = sent;
}

-- a frame that is taken leaves fewer bytes
pub frame_shrinks : (held body rest : List ℕ) → held ≡ frame body ++ rest → length rest < length held
frame_shrinks held body rest e =
    omega (arith, ap length e, length-append (frame body) rest, length-append (be 4 (length body)) body, length-be 4 (length body))
