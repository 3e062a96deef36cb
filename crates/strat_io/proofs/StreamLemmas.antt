-- One append after another.
use Rattle.std.proofs.Common.{◌≡◌, ℕ, ◌+◌, ◌-◌, ◌≤◌, List, ◌++◌, length, take, drop, Option, Some, sym, ap, ◌∙◌, subst, append_assoc, length-drop, arith}
use Rattle.std.proofs.lemmas.List.{take-append-drop, take_all, length-take-le}
use Rattle.std.proofs.Math.Seq.{take-append-add}
use Rattle.strat_io.specs.Streams.{Appends}

pub appends_then : (a b c : Option (List ℕ)) (x y : List ℕ) → Appends a b x → Appends b c y → Appends a c (x ++ y)
appends_then a b c x y first second = record {
  exposed = λ held e. second.exposed (held ++ x) (first.exposed held e) ∙ ap (λ (z : List ℕ). Some z) (append_assoc held x y);
  hidden = λ e. second.hidden (first.hidden e);
}

-- the front of a list, and the next n items
pub take_then : (i n : ℕ) (xs : List ℕ) → i ≤ length xs → take (i + n) xs ≡ take i xs ++ take n (drop i xs)
take_then i n xs fits =
    let at : length (take i xs) ≡ i = length-take-le i xs fits in
    let joined : take (i + n) (take i xs ++ drop i xs) ≡ take i xs ++ take n (drop i xs) = subst (λ (k : ℕ). take (k + n) (take i xs ++ drop i xs) ≡ take i xs ++ take n (drop i xs)) at (take-append-add (take i xs) (drop i xs) n) in
    subst (λ (ys : List ℕ). take (i + n) ys ≡ take i xs ++ take n (drop i xs)) (take-append-drop i xs) joined

-- what a sink holds after it took the next n bytes
pub appends_more : (a b c : Option (List ℕ)) (i n : ℕ) (bytes : List ℕ) → i ≤ length bytes
    → Appends a b (take i bytes) → Appends b c (take n (take (length bytes - i) (drop i bytes))) → Appends a c (take (i + n) bytes)
appends_more a b c i n bytes fits first second =
    let rest : take (length bytes - i) (drop i bytes) ≡ drop i bytes = take_all (length bytes - i) (drop i bytes) (omega (arith, length-drop i bytes)) in
    let next : Appends b c (take n (drop i bytes)) = subst (λ (ys : List ℕ). Appends b c (take n ys)) rest second in
    subst (λ (ys : List ℕ). Appends a c ys) (sym (take_then i n bytes fits)) (appends_then a b c (take i bytes) (take n (drop i bytes)) first next)
