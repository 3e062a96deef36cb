-- A list whose front was filled with one item.
use Rattle.std.proofs.Common.{◌≡◌, ◌<◌, ◌+◌, ℕ, zero, suc, List, [], ◌∷◌, ◌++◌, length, drop, replicate, slice_set, refl, sym, ap, ◌∙◌, arith}

-- the item after the front is replaced
pub set_front : {X : Type 0} (k : ℕ) (a b : X) (xs : List X) → k < length xs → slice_set (replicate k a ++ drop k xs) k b ≡ replicate k a ++ b ∷ drop (suc k) xs
set_front k a b [] few = absurd (omega (arith, few))
set_front zero a b (x ∷ xs) few = refl
set_front (suc k) a b (x ∷ xs) few = ap (λ (ys : List _). a ∷ ys) (set_front k a b xs (omega (arith, few)))

one_more : {X : Type 0} (k : ℕ) (a : X) (xs : List X) → replicate k a ++ a ∷ xs ≡ replicate (suc k) a ++ xs
one_more zero a xs = refl
one_more (suc k) a xs = ap (λ (ys : List _). a ∷ ys) (one_more k a xs)

-- so the front grows
pub front_grows : {X : Type 0} (k : ℕ) (a : X) (now xs : List X) → k < length xs → now ≡ replicate k a ++ drop k xs → slice_set now k a ≡ replicate (k + 1) a ++ drop (k + 1) xs
front_grows k a now xs few is =
    let more : k + 1 ≡ suc k = omega arith in
    ap (λ (ys : List _). slice_set ys k a) is ∙ set_front k a a xs few ∙ one_more k a (drop (suc k) xs) ∙ ap (λ (n : ℕ). replicate n a ++ drop n xs) (sym more)
