-- Bytes written one behind the other into a slice.
use Rattle.std.proofs.Common.{◌≡◌, ℕ, ◌+◌, ◌-◌, ◌≤◌, List, ◌++◌, length, take, drop, sym, ap, ◌∙◌, append_assoc, length-append, length-take, length-drop, arith}
use Rattle.std.proofs.lemmas.List.{take_at, take_all, drop_at, drop-drop}
use Rattle.strat_base.specs.Numbers.{placed}

pub length-placed : (old bytes : List ℕ) (at : ℕ) → at + length bytes ≤ length old → length (placed old at bytes) ≡ length old
length-placed old bytes at fits =
    omega (arith, length-append (take at old ++ bytes) (drop (at + length bytes) old), length-append (take at old) bytes, length-take at old, length-drop (at + length bytes) old)

-- what is written behind bytes that were written stands with them
pub placed_next : (old xs ys : List ℕ) (at k : ℕ) → k ≡ at + length xs → at + length xs ≤ length old → placed (placed old at xs) k ys ≡ placed old at (xs ++ ys)
placed_next old xs ys at k next fits =
    let behind : List ℕ = drop (at + length xs) old in
    let front : length (take at old ++ xs) ≡ k = omega (arith, length-append (take at old) xs, length-take at old) in
    let kept : take k (placed old at xs) ≡ take at old ++ xs = take_at (take at old ++ xs) behind k front in
    let same : at + length xs + length ys ≡ at + length (xs ++ ys) = omega (arith, length-append xs ys) in
    let rest : drop (k + length ys) (placed old at xs) ≡ drop (at + length (xs ++ ys)) old =
    sym (drop-drop (length ys) k (placed old at xs))
    ∙ ap (drop (length ys)) (drop_at (take at old ++ xs) behind k front)
    ∙ drop-drop (length ys) (at + length xs) old
    ∙ ap (λ (n : ℕ). drop n old) same in
    ap (λ (x : List ℕ). x ++ ys ++ drop (k + length ys) (placed old at xs)) kept
    ∙ ap (λ (x : List ℕ). (take at old ++ xs) ++ ys ++ x) rest
    ∙ ap (λ (x : List ℕ). x ++ drop (at + length (xs ++ ys)) old) (append_assoc (take at old) xs ys)

-- the rest of a slice from a place on
pub rest_of : {X : Type 0} (xs : List X) (k : ℕ) → take (length xs - k) (drop k xs) ≡ drop k xs
rest_of xs k = take_all (length xs - k) (drop k xs) (omega (arith, length-drop k xs))

-- three pieces written one behind the other
pub placed_three : (old xs ys zs : List ℕ) (at k m : ℕ) → k ≡ at + length xs → m ≡ k + length ys → m ≤ length old
    → placed (placed (placed old at xs) k ys) m zs ≡ placed old at (xs ++ (ys ++ zs))
placed_three old xs ys zs at k m next last fits =
    ap (λ (x : List ℕ). placed x m zs) (placed_next old xs ys at k next (omega arith))
    ∙ placed_next old (xs ++ ys) zs at m (omega (arith, length-append xs ys)) (omega (arith, length-append xs ys))
    ∙ ap (placed old at) (append_assoc xs ys zs)
