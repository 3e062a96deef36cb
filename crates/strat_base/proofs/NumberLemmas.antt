-- Numbers written into a slice.
use Rattle.std.proofs.Common.{◌≡◌, ℕ, ◌+◌, ◌-◌, ◌^◌, ◌<◌, ◌≤◌, List, ◌++◌, [], length, take, drop, refl, sym, ap, ◌∙◌, append_assoc, length-drop, length-take, inl, inr, arith, Some, None, true, false, nat_le, ◌∷◌, ◌*◌, ◌%◌}
use Rattle.std.proofs.lemmas.List.{drop-drop, drop_all, take_all, append-nil, get_or-take, get_or-drop, get_or_past}
use Rattle.std.proofs.lemmas.Bool.{cases_lt, lt-leb, le-leb}
use Rattle.std.proofs.lemmas.Nat.{be_bytes_2, be_bytes_4, be_bytes_8}
use Rattle.byteorder.specs.Numbers.{length-bytes_high_first, big_number-reads_back, big_from-lt, big_from-take}
use Rattle.strat_base.specs.Numbers.{be, number, number_at, placed, AreBytes}
use borrow.Rule.Slice.PartMut.{put_mid}

-- what a write at the front of the rest of a slice leaves
pub put_rest : (k at : ℕ) (old bytes new : List ℕ) → length bytes ≡ k → at + k ≤ length old
    → new ≡ bytes ++ drop k (take (length old - at) (drop at old)) → put_mid at (length old - at) old new ≡ placed old at bytes
put_rest k at old bytes new len fits e =
    let whole : take (length old - at) (drop at old) ≡ drop at old = take_all (length old - at) (drop at old) (omega (arith, length-drop at old)) in
    let behind : drop (length old - at) (drop at old) ≡ [] = drop_all (length old - at) (drop at old) (omega (arith, length-drop at old)) in
    let filled : new ≡ bytes ++ drop (at + length bytes) old = e ∙ ap (λ (x : List ℕ). bytes ++ drop k x) whole ∙ ap (λ (x : List ℕ). bytes ++ x) (drop-drop k at old) ∙ ap (λ (n : ℕ). bytes ++ drop (at + n) old) (sym len) in
    ap (λ (x : List ℕ). take at old ++ (new ++ x)) behind
    ∙ ap (λ (x : List ℕ). take at old ++ x) (append-nil new ∙ filled)
    ∙ sym (append_assoc (take at old) bytes (drop (at + length bytes) old))

-- a number has as many bytes as were asked for
pub length-be : (k n : ℕ) → length (be k n) ≡ k
unfolding be
length-be k n = length-bytes_high_first k n

-- a number is read as it was written, whatever follows it
pub number-be : (k n : ℕ) (rest : List ℕ) → n < 256 ^ k → number k (be k n ++ rest) ≡ n
unfolding be number
number-be k n rest fits = big_number-reads_back k n rest fits

-- a number read from bytes is below the power of its width
pub number-lt : (k : ℕ) (bytes : List ℕ) → AreBytes bytes → number k bytes < 256 ^ k
unfolding number
number-lt k bytes fits = big_from-lt 0 k bytes fits

-- the front of bytes is bytes
pub AreBytes-take : (n : ℕ) (bytes : List ℕ) → AreBytes bytes → AreBytes (take n bytes)
AreBytes-take n bytes fits i =
    elim (cases_lt i n) [
      | inl lt ↦ rw (get_or-take n bytes i 0 lt) (fits i)
      | inr le ↦ rw (get_or_past (take n bytes) i 0 (omega (arith, length-take n bytes))) (omega arith)
    ]

-- the rest of bytes is bytes
pub AreBytes-drop : (n : ℕ) (bytes : List ℕ) → AreBytes bytes → AreBytes (drop n bytes)
AreBytes-drop n bytes fits i = rw get_or-drop (fits (n + i))

-- the number in the first bytes looks at no others
pub number-take : (k : ℕ) (bytes : List ℕ) → number k (take k bytes) ≡ number k bytes
unfolding number
number-take k bytes = big_from-take 0 k k bytes (omega arith)

-- two bytes are those of the number in them
pub be-number_2 : (bytes : List ℕ) → 2 ≤ length bytes → AreBytes bytes → be 2 (number 2 bytes) ≡ take 2 bytes
unfolding be number
be-number_2 bytes long fits =
    ap (be 2) (sym (number-take 2 bytes)) ∙ be_bytes_2 (take 2 bytes) (number 2 (take 2 bytes)) (omega (arith, length-take 2 bytes)) (AreBytes-take 2 bytes fits) (omega arith)

-- four bytes are those of the number in them
pub be-number_4 : (bytes : List ℕ) → 4 ≤ length bytes → AreBytes bytes → be 4 (number 4 bytes) ≡ take 4 bytes
unfolding be number
be-number_4 bytes long fits =
    ap (be 4) (sym (number-take 4 bytes)) ∙ be_bytes_4 (take 4 bytes) (number 4 (take 4 bytes)) (omega (arith, length-take 4 bytes)) (AreBytes-take 4 bytes fits) (omega arith)

-- eight bytes are those of the number in them
pub be-number_8 : (bytes : List ℕ) → 8 ≤ length bytes → AreBytes bytes → be 8 (number 8 bytes) ≡ take 8 bytes
unfolding be number
be-number_8 bytes long fits =
    ap (be 8) (sym (number-take 8 bytes)) ∙ be_bytes_8 (take 8 bytes) (number 8 (take 8 bytes)) (omega (arith, length-take 8 bytes)) (AreBytes-take 8 bytes fits) (omega arith)

-- bytes that are written over a whole slice
pub placed_whole : (old bytes : List ℕ) → length old ≤ length bytes → placed old 0 bytes ≡ bytes
placed_whole old bytes short =
    ap (λ (x : List ℕ). bytes ++ x) (drop_all (0 + length bytes) old (omega arith)) ∙ append-nil bytes

-- a number that is there
pub number_at_some : (k : ℕ) (bytes : List ℕ) (at n : ℕ) → Some n ≡ number_at k bytes at → (at + k ≤ length bytes) × (n ≡ number k (drop at bytes))
number_at_some k bytes at n e =
    elim (cases_lt (length bytes) (at + k)) [
      | inl short ↦ let no : nat_le (at + k) (length bytes) ≡ false = lt-leb _ _ short in absurd (let f : Some n ≡ None = rw no at e in cc)
      | inr long ↦ let yes : nat_le (at + k) (length bytes) ≡ true = le-leb _ _ long in (long, let f : Some n ≡ Some (number k (drop at bytes)) = rw yes at e in cc)
    ]

-- one byte is that of the number in it
pub be-number_1 : (bytes : List ℕ) → 1 ≤ length bytes → AreBytes bytes → be 1 (number 1 bytes) ≡ take 1 bytes
unfolding be number
be-number_1 [] long fits = absurd (omega arith)
be-number_1 (b ∷ bytes) long fits = let h : b < 256 = fits 0 in let e : (b * 1 + 0) % 256 ≡ b = omega arith in rw e refl
