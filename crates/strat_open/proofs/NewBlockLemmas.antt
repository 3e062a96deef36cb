-- The block of a new store's manifest, spelled into zeros.
use Rattle.std.proofs.Common.{◌≡◌, ◌≤◌, ◌⊎◌, inl, inr, ℕ, zero, suc, ◌+◌, List, [], ◌∷◌, ◌++◌, replicate, refl, ap, ◌∙◌, arith}
use Rattle.def_bytes.specs.Chain.{link_bytes}
use Rattle.def_bytes.specs.Manifest.{manifest_bytes, new_manifest}
use Rattle.strat_base.specs.Numbers.{be, placed}
use Rattle.def_bytes.specs.SuperBlock.{spelled, zeros}
use Rattle.def_bytes.proofs.SuperBlockLemmas.{spelled_next}
use Rattle.strat_open.specs.Format.{new_block}

-- there are two formats
pub two_formats : (format : ℕ) → 1 ≤ format → format ≤ 2 → (format ≡ 1) ⊎ (format ≡ 2)
two_formats zero least most = absurd (omega arith)
two_formats (suc zero) least most = inl refl
two_formats (suc (suc zero)) least most = inr refl
two_formats (suc (suc (suc n))) least most = absurd (omega arith)

-- zeros are zeros in front of zeros
zeros_joined : (k m : ℕ) → zeros (k + m) ≡ zeros k ++ zeros m
unfolding zeros
zeros_joined zero m = let e : 0 + m ≡ m = omega arith in ap (λ (n : ℕ). zeros n) e
zeros_joined (suc k) m = let e : suc k + m ≡ suc (k + m) = omega arith in ap (λ (n : ℕ). zeros n) e ∙ ap (λ (l : List ℕ). 0 ∷ l) (zeros_joined k m)

-- zeros begin with a number that is zero
front_zeros : (m : ℕ) → zeros 20 ++ zeros m ≡ spelled ((20, 0) ∷ []) ++ zeros m
unfolding zeros be
front_zeros m = refl

further_zeros : (m : ℕ) → zeros 28 ++ zeros m ≡ spelled ((28, 0) ∷ []) ++ zeros m
unfolding zeros be
further_zeros m = refl

-- the block of a new store's manifest, by its numbers and n zeros, in format 1
first_numbers : (n : ℕ) → spelled ((20, 0) ∷ (8, 1) ∷ (4, 1) ∷ []) ++ (zeros 1 ++ zeros n) ≡ be 4 0 ++ (manifest_bytes 1 new_manifest ++ replicate n 0)
unfolding zeros be manifest_bytes
first_numbers n = refl

-- and in format 2
second_numbers : (n : ℕ) → spelled ((28, 0) ∷ (8, 1) ∷ (4, 1) ∷ []) ++ (zeros 2 ++ zeros n) ≡ be 4 0 ++ (manifest_bytes 2 new_manifest ++ replicate n 0)
unfolding zeros be manifest_bytes
second_numbers n = refl

-- behind the manifest there are so many zeros
first_rest : be 4 0 ++ (manifest_bytes 1 new_manifest ++ replicate 4063 0) ≡ new_block 1
unfolding link_bytes manifest_bytes be
first_rest = refl

second_rest : be 4 0 ++ (manifest_bytes 2 new_manifest ++ replicate 4054 0) ≡ new_block 2
unfolding link_bytes manifest_bytes be
second_rest = refl

-- the two numbers of a new store's manifest that are not zero, written into a block of zeros
pub first_block_spelled : (old : List ℕ) → old ≡ zeros 4096 → placed (placed old 20 (be 8 1)) 28 (be 4 1) ≡ new_block 1
first_block_spelled old blank =
    let first : placed old 20 (be 8 1) ≡ spelled ((20, 0) ∷ (8, 1) ∷ []) ++ zeros 4068 =
    ap (λ (l : List ℕ). placed l 20 (be 8 1)) (blank ∙ zeros_joined 20 4076 ∙ front_zeros 4076) ∙ spelled_next ((20, 0) ∷ []) 8 1 4068 in
    ap (λ (l : List ℕ). placed l 28 (be 4 1)) first
    ∙ spelled_next ((20, 0) ∷ (8, 1) ∷ []) 4 1 4064
    ∙ ap (λ (l : List ℕ). spelled ((20, 0) ∷ (8, 1) ∷ (4, 1) ∷ []) ++ l) (zeros_joined 1 4063)
    ∙ first_numbers 4063
    ∙ first_rest

pub second_block_spelled : (old : List ℕ) → old ≡ zeros 4096 → placed (placed old 28 (be 8 1)) 36 (be 4 1) ≡ new_block 2
second_block_spelled old blank =
    let first : placed old 28 (be 8 1) ≡ spelled ((28, 0) ∷ (8, 1) ∷ []) ++ zeros 4060 =
    ap (λ (l : List ℕ). placed l 28 (be 8 1)) (blank ∙ zeros_joined 28 4068 ∙ further_zeros 4068) ∙ spelled_next ((28, 0) ∷ []) 8 1 4060 in
    ap (λ (l : List ℕ). placed l 36 (be 4 1)) first
    ∙ spelled_next ((28, 0) ∷ (8, 1) ∷ []) 4 1 4056
    ∙ ap (λ (l : List ℕ). spelled ((28, 0) ∷ (8, 1) ∷ (4, 1) ∷ []) ++ l) (zeros_joined 2 4054)
    ∙ second_numbers 4054
    ∙ second_rest
