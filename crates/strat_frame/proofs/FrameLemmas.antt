-- Bytes that begin with a whole frame.
use Rattle.std.proofs.Common.{◌≡◌, ℕ, ◌+◌, ◌-◌, ◌≤◌, length-append, List, ◌++◌, [], length, take, drop, sym, ap, ◌∙◌, append_assoc, length-drop, length-take, arith}
use Rattle.std.proofs.lemmas.List.{drop-drop, drop_all, take_all, append-nil, take-append-drop}
use Rattle.strat_base.specs.Numbers.{be, number, placed, AreBytes}
use Rattle.strat_base.proofs.NumberLemmas.{be-number_4, length-be}
use Rattle.strat_model.specs.Stream.{frame}

-- bytes with a length in front and so many bytes behind it are a frame and what follows
pub begins_with_frame : (held : List ℕ) (n : ℕ) → AreBytes held → n ≡ number 4 held → 4 + n ≤ length held
    → held ≡ frame (take n (drop 4 held)) ++ drop (4 + n) held
begins_with_frame held n fits n-is long =
    let body : List ℕ = take n (drop 4 held) in
    let len : length body ≡ n = omega (arith, length-take n (drop 4 held), length-drop 4 held) in
    let front : take 4 held ≡ be 4 (length body) = sym (be-number_4 held (omega arith) fits) ∙ ap (be 4) (sym n-is ∙ sym len) in
    let rest : drop 4 held ≡ body ++ drop (4 + n) held = sym (take-append-drop n (drop 4 held)) ∙ ap (λ (x : List ℕ). body ++ x) (drop-drop n 4 held) in
    sym (take-append-drop 4 held) ∙ (λ j. front j ++ rest j) ∙ sym (append_assoc (be 4 (length body)) body (drop (4 + n) held))

-- a frame of what is behind the first four bytes is as long as all of them
pub framed_length : (bytes : List ℕ) → 4 ≤ length bytes → length (frame (drop 4 bytes)) ≡ length bytes
framed_length bytes some = omega (arith, length-append (be 4 (length (drop 4 bytes))) (drop 4 bytes), length-be 4 (length (drop 4 bytes)), length-drop 4 bytes)

-- the first bytes of a buffer are written over, and the rest stays
pub framed : (old new : List ℕ) (len : ℕ) → 4 ≤ length old → len ≡ length old → new ≡ placed old 0 (be 4 (len - 4))
    → take len (new ++ drop (length new) old) ≡ frame (drop 4 old)
framed old new len some len-is e =
    let n : len - 4 ≡ length (drop 4 old) = omega (arith, length-drop 4 old) in
    let front : new ≡ be 4 (length (drop 4 old)) ++ drop (0 + length (be 4 (length (drop 4 old)))) old = e ∙ ap (λ (k : ℕ). placed old 0 (be 4 k)) n in
    let size : 0 + length (be 4 (length (drop 4 old))) ≡ 4 = omega (arith, length-be 4 (length (drop 4 old))) in
    let whole : new ≡ frame (drop 4 old) = front ∙ ap (λ (k : ℕ). be 4 (length (drop 4 old)) ++ drop k old) size in
    let long : length new ≡ length old = ap length whole ∙ framed_length old some in
    let behind : drop (length new) old ≡ [] = drop_all (length new) old (omega arith) in
    let all : take len new ≡ new = take_all len new (omega arith) in
    ap (λ (x : List ℕ). take len (new ++ x)) behind ∙ ap (take len) (append-nil new) ∙ all ∙ whole
