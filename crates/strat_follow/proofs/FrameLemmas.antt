-- The bytes of frames and of receipts.
use Rattle.std.proofs.Common.{◌≡◌, ◌≤◌, ◌<◌, ◌+◌, ◌%◌, ℕ, List, [], ◌∷◌, ◌++◌, length, take, drop, Option, Result, Ok, Err, refl, sym, ap, ◌∙◌, subst, inl, inr, length-append, length-drop, arith}
use Rattle.std.specs.Prelude.{OnErr}
use Rattle.std.proofs.Math.Nat.{mod-eq_of_lt}
use Rattle.std.proofs.lemmas.Bool.{cases_lt}
use Rattle.std.proofs.lemmas.List.{take-append-drop}
use Rattle.strat_base.specs.Numbers.{be}
use Rattle.strat_base.proofs.NumberLemmas.{length-be}
use Rattle.strat_io.specs.Streams.{Appends}
use Rattle.strat_model.specs.Stream.{frame}
use Rattle.def_follow.specs.Following.{Fate, cause_byte, fate_byte, receipt_frame}
use Rattle.strat_loop.specs.Session.{SendsPrefix}

-- the frame of what stands behind the room for its length is as long
pub framed : (bytes : List ℕ) → 4 ≤ length bytes → length (frame (drop 4 bytes)) ≡ length bytes
framed bytes some =
    omega (arith, some, length-append (be 4 (length (drop 4 bytes))) (drop 4 bytes), length-be 4 (length (drop 4 bytes)), length-drop 4 bytes)

-- four bytes of a number that is one more, whether it wraps or not
wrapped : be 4 (4294967296 % 4294967296) ≡ be 4 4294967296
unfolding be
wrapped = refl

pub be-next : (n : ℕ) → n < 4294967296 → be 4 ((n + 1) % 4294967296) ≡ be 4 (n + 1)
be-next n few = elim (cases_lt (n + 1) 4294967296) [
  | inl less ↦ ap (be 4) (mod-eq_of_lt less)
  | inr more ↦ let is : 4294967296 ≡ n + 1 = omega (arith, few, more) in subst (λ (m : ℕ). be 4 (m % 4294967296) ≡ be 4 m) is wrapped
]

-- a receipt is its bytes
pub receipt_by : (number : ℕ) (fate : Fate) (a b : ℕ) → be 4 a ≡ be 4 b → receipt_frame (record { number = number; fate = fate; next = a }) ≡ receipt_frame (record { number = number; fate = fate; next = b })
receipt_by number fate a b same = ap (λ (x : List ℕ). frame (be 4 number ++ (fate_byte fate ∷ (x ++ (cause_byte fate ∷ []))))) same

-- a fact that holds whatever the outcome
pub on_err : {T E P : Type 0} (r : Result T E) → P → OnErr r P
on_err (Ok x) p = tt
on_err (Err e) p = p

-- a prefix of bytes that are known
pub cut_short : (n : ℕ) (bytes all : List ℕ) (a b : Option (List ℕ)) → bytes ≡ all → n < length bytes → Appends a b (take n bytes) → SendsPrefix a b all
cut_short n bytes all a b e fewer sent = record {
  sent = take n bytes;
  later = drop n bytes;
  parts = sym e ∙ sym (take-append-drop n bytes);
  some = omega (arith, length-drop n bytes);
  appends = sent;
}
