-- The next manifest, and the contents that it makes.
use Rattle.std.proofs.Common.{◌≡◌, ◌<◌, ◌+◌, ℕ, zero, suc, List, [], ◌∷◌, ◌++◌, length, take, None, Some, refl, ap, ◌∙◌, arith}
use Rattle.std.specs.Option.{option_to_list}
use Rattle.strat_base.specs.Tree.{Parents, parent_of}
use Rattle.def_recovery.specs.Head.{parent_numbers}

-- one more version's parent
pub parent_next : (ps : Parents) (v : ℕ) → v < length ps → parent_numbers (take (v + 1) ps) ≡ parent_numbers (take v ps) ++ option_to_list (parent_of ps v)
parent_next [] v lt = absurd (omega (arith, lt))
parent_next (None ∷ ps) zero lt = refl
parent_next (Some p ∷ ps) zero lt = refl
parent_next (None ∷ ps) (suc v) lt =
    let more : suc v + 1 ≡ suc (v + 1) = omega arith in
    ap (λ (n : ℕ). parent_numbers (take n (None ∷ ps))) more ∙ parent_next ps v (omega (arith, lt))
parent_next (Some p ∷ ps) (suc v) lt =
    let more : suc v + 1 ≡ suc (v + 1) = omega arith in
    ap (λ (n : ℕ). parent_numbers (take n (Some p ∷ ps))) more ∙ ap (λ (ns : List ℕ). p ∷ ns) (parent_next ps v (omega (arith, lt)))
