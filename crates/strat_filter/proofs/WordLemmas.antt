-- Bits in words of 64.
use Rattle.std.proofs.Common.{◌≡◌, ◌≢◌, ◌<◌, ◌*◌, ◌/◌, ◌%◌, ◌^◌, inl, inr, ℕ, suc, Bool, true, false, eqb, max, List, [], ◌∷◌, length, replicate, set, get_or, refl, sym, ap, ◌∙◌, arith}
use Rattle.std.specs.Int.{bit_at}
use Rattle.std.specs.Int.Bits.{bit_or, bit_and}
use Rattle.std.proofs.lemmas.Bool.{cases_eq}
use Rattle.std.proofs.lemmas.List.{length-set, length-replicate, get_or-set_same, get_or-set_other, get_or-replicate}
use Rattle.std.proofs.lemmas.List.FromFn.{get_or-map-range_with_len, length-map-range_with_len}
use Rattle.std.proofs.lemmas.Nat.{mod_below, one_shl}
use Rattle.std.proofs.lemmas.Nat.Bits.{bit_at-zero, bit_at-lt, bit_at-pow_same, bit_at-pow_other, bit_at_or, shr_and_one}
use Rattle.std.proofs.Math.Nat.{div-add-mod}
use Rattle.strat_filter.specs.Bits.{bit_of, bits_of}

-- lists of one length that have the same everywhere are the same
same_all : (xs ys : List Bool) → length xs ≡ length ys → ((i : ℕ) → i < length xs → get_or xs i false ≡ get_or ys i false) → xs ≡ ys
same_all [] [] len each = refl
same_all [] (y ∷ ys) len each = absurd (omega (arith, len))
same_all (x ∷ xs) [] len each = absurd (omega (arith, len))
same_all (x ∷ xs) (y ∷ ys) len each =
    let head : x ≡ y = each 0 (omega arith) in
    let rest = same_all xs ys (omega (arith, len)) (λ i lt. each (suc i) (omega (arith, lt))) in
    ap (λ (a : Bool). a ∷ xs) head ∙ ap (λ (zs : List Bool). y ∷ zs) rest

pub length_bits : (words : List ℕ) → length (bits_of words) ≡ 64 * length words
length_bits words = length-map-range_with_len (bit_of words) 0 (64 * length words)

-- where a bit lies
pub word_below : (words : List ℕ) (at : ℕ) → at < 64 * length words → at / 64 < length words
word_below words at lt = let parts = div-add-mod at 64 in omega (arith, lt, parts)

pub bit_below : (at : ℕ) → at % 64 < 64
bit_below at = mod_below at 64 (omega arith)

pub bit_is : (words : List ℕ) (at : ℕ) → at < 64 * length words → get_or (bits_of words) at false ≡ bit_of words at
bit_is words at lt = get_or-map-range_with_len (bit_of words) 0 (64 * length words) at at false lt (omega arith)

pub bit_read : (words : List ℕ) (at : ℕ) → at < 64 * length words
    → eqb (bit_and (get_or words (at / 64) 0 / 2 ^ (at % 64)) 1) 1 ≡ get_or (bits_of words) at false
bit_read words at lt = ap (λ (b : ℕ). eqb b 1) (shr_and_one (get_or words (at / 64) 0) (at % 64)) ∙ sym (bit_is words at lt)

-- a word with one bit more
one_more : (w r : ℕ) → r < 64 → bit_at (bit_or w (1 * 2 ^ r % 2 ^ 64)) r ≡ 1
one_more w r low =
    let other = bit_at-lt w r in
    ap (λ (p : ℕ). bit_at (bit_or w p) r) (one_shl r 64 low) ∙ bit_at_or w (2 ^ r) r ∙ ap (λ (b : ℕ). max (bit_at w r) b) (bit_at-pow_same r) ∙ omega (arith, other)

no_more : (w r i : ℕ) → r < 64 → i ≢ r → bit_at (bit_or w (1 * 2 ^ r % 2 ^ 64)) i ≡ bit_at w i
no_more w r i low other =
    ap (λ (p : ℕ). bit_at (bit_or w p) i) (one_shl r 64 low) ∙ bit_at_or w (2 ^ r) i ∙ ap (λ (b : ℕ). max (bit_at w i) b) (bit_at-pow_other r i other) ∙ omega arith

module _ (words : List ℕ) (at : ℕ) (lt : at < 64 * length words) where
  abbrev pub word : ℕ
  word = bit_or (get_or words (at / 64) 0) (1 * 2 ^ (at % 64) % 2 ^ 64)

  below : at / 64 < length words
  below = word_below words at lt

  low : at % 64 < 64
  low = bit_below at

  here : bit_of (set words (at / 64) word) at ≡ true
  here =
      ap (λ (w : ℕ). eqb (bit_at w (at % 64)) 1) (get_or-set_same words (at / 64) word 0 below)
      ∙ ap (λ (b : ℕ). eqb b 1) (one_more (get_or words (at / 64) 0) (at % 64) low)

  there : (i : ℕ) → i ≢ at → bit_of (set words (at / 64) word) i ≡ bit_of words i
  there i other = elim (cases_eq (i / 64) (at / 64)) [
    | inl same ↦
        let parts = div-add-mod at 64 in
        let mine = div-add-mod i 64 in
        let apart : i % 64 ≢ at % 64 = λ e. other (omega (arith, parts, mine, same, e)) in
        ap (λ (q : ℕ). eqb (bit_at (get_or (set words (at / 64) word) q 0) (i % 64)) 1) same
        ∙ ap (λ (w : ℕ). eqb (bit_at w (i % 64)) 1) (get_or-set_same words (at / 64) word 0 below)
        ∙ ap (λ (b : ℕ). eqb b 1) (no_more (get_or words (at / 64) 0) (at % 64) (i % 64) low apart)
        ∙ ap (λ (q : ℕ). eqb (bit_at (get_or words q 0) (i % 64)) 1) (sym same)
    | inr differ ↦ ap (λ (w : ℕ). eqb (bit_at w (i % 64)) 1) (get_or-set_other words (at / 64) (i / 64) word 0 differ)
  ]

  each : (i : ℕ) → i < 64 * length words → get_or (bits_of (set words (at / 64) word)) i false ≡ get_or (set (bits_of words) at true) i false
  each i within =
      let len : length (set words (at / 64) word) ≡ length words = length-set words (at / 64) word in
      let size = length_bits words in
      elim (cases_eq i at) [
        | inl same ↦
            bit_is (set words (at / 64) word) i (omega (arith, within, len)) ∙ ap (bit_of (set words (at / 64) word)) same ∙ here
            ∙ sym (ap (λ (k : ℕ). get_or (set (bits_of words) at true) k false) same ∙ get_or-set_same (bits_of words) at true false (omega (arith, lt, size)))
        | inr differ ↦
            bit_is (set words (at / 64) word) i (omega (arith, within, len)) ∙ there i differ ∙ sym (bit_is words i within) ∙ sym (get_or-set_other (bits_of words) at i true false differ)
      ]

  -- a bit is set in its word
  pub bit_set : bits_of (set words (at / 64) word) ≡ set (bits_of words) at true
  bit_set =
      let len : length (set words (at / 64) word) ≡ length words = length-set words (at / 64) word in
      let size = length_bits words in
      let more = length_bits (set words (at / 64) word) in
      same_all (bits_of (set words (at / 64) word)) (set (bits_of words) at true) (omega (arith, len, size, more) ∙ sym (length-set (bits_of words) at true)) (λ i within. each i (omega (arith, within, more, len)))

-- words without a bit
abbrev none_set : ℕ
none_set = 0

clear_each : (n i : ℕ) → i < 64 * n → bit_of (replicate n 0) i ≡ false
clear_each n i lt =
    let parts = div-add-mod i 64 in
    ap (λ (w : ℕ). eqb (bit_at w (i % 64)) 1) (get_or-replicate n (i / 64) 0 0 (omega (arith, lt, parts)))
    ∙ ap (λ (b : ℕ). eqb b 1) (bit_at-zero (i % 64))

pub all_clear : (n : ℕ) → bits_of (replicate n 0) ≡ replicate (64 * n) false
all_clear n =
    let words : List ℕ = replicate n 0 in
    let clear : List Bool = replicate (64 * n) false in
    let len : length words ≡ n = length-replicate n none_set in
    let size : length (bits_of words) ≡ 64 * length words = length_bits words in
    let all : length clear ≡ 64 * n = length-replicate (64 * n) false in
    same_all (bits_of words) clear (omega (arith, len, size, all))
    (λ i within.
    let lt : i < 64 * n = omega (arith, within, size, len) in
    bit_is words i (omega (arith, lt, len)) ∙ clear_each n i lt ∙ sym (get_or-replicate (64 * n) i false false lt))
