-- The words of a command line.
use Rattle.std.proofs.Common.{◌≡◌, ◌≢◌, ◌<◌, ◌^◌, ℕ, inl, inr, Bool, true, false, eqb, ltb, leb, not, cond, ◌&&◌, ◌||◌, List, [], ◌∷◌, length, get_or, Some, None, Result, Err, refl, sym, ap, subst, ◌∙◌, arith}
use Rattle.std.proofs.lemmas.Bool.{cases_lt, lt-leb, ltb-true, and_parts}
use Rattle.std.proofs.lemmas.Str.Parse.{IsNumeralModel, numerals_by_value, tells_all_ascii_digits, parse_digits}
use Rattle.std.specs.Result.{OkIff}
use Rattle.std.specs.Str.{all_ascii_digits}
use Rattle.std.specs.Str.Parse.{digits_value, ParsesUnsigned}
use Rattle.castle.specs.Arguments.{is_numeral, number_in, subcommand_in}

-- the digits of std and their value
digits : IsNumeralModel (λ ds. all_ascii_digits ds ≡ true) (digits_value 10)
digits = numerals_by_value _ tells_all_ascii_digits

and_false : (b : Bool) → b && false ≡ false
and_false true = refl
and_false false = refl

-- a numeral that is no number of so many bits is above each of them
pub number_too_great : {E : Type 0} (w least most : ℕ) (word : List ℕ) (r : Result ℕ E) (e : E) → is_numeral word ≡ true → ParsesUnsigned w 10 word r → r ≡ Err e → most < 2 ^ w
    → None ≡ number_in least most word
number_too_great w least most word r e numeral parses failed few =
    let value : ℕ = digits_value 10 word in
    let parts = and_parts (ltb 0 (length word)) (all_ascii_digits word && (not (eqb (get_or word 0 0) 48) || eqb (length word) 1)) numeral in
    let rest = and_parts (all_ascii_digits word) (not (eqb (get_or word 0 0) 48) || eqb (length word) 1) parts.1 in
    let refuses : OkIff (Err e) ((0 < length word) × (value < 2 ^ w)) value =
    subst (λ (x : Result ℕ _). OkIff x ((0 < length word) × (value < 2 ^ w)) value) failed (parse_digits digits w word r parses rest.0) in
    elim (cases_lt value (2 ^ w)) [
      | inl fits ↦ absurd (refuses (ltb-true 0 (length word) parts.0, fits))
      | inr great ↦
          let no : leb value most ≡ false = lt-leb value most (omega (arith, great, few)) in
          sym (ap (λ (b : Bool). cond (is_numeral word && (leb least value && b)) (Some value) None) no
          ∙ ap (λ (b : Bool). cond (is_numeral word && b) (Some value) None) (and_false (leb least value))
          ∙ ap (λ (b : Bool). cond b (Some value) None) (and_false (is_numeral word)))
    ]

-- no job has another number of words than two, three, four or five
pub no_subcommand : (words : List (List ℕ)) → length words ≢ 2 → length words ≢ 3 → length words ≢ 4 → length words ≢ 5 → subcommand_in words ≡ None
no_subcommand [] two three four five = refl
no_subcommand (a ∷ []) two three four five = refl
no_subcommand (a ∷ b ∷ []) two three four five = absurd (two refl)
no_subcommand (a ∷ b ∷ c ∷ []) two three four five = absurd (three refl)
no_subcommand (a ∷ b ∷ c ∷ d ∷ []) two three four five = absurd (four refl)
no_subcommand (a ∷ b ∷ c ∷ d ∷ e ∷ []) two three four five = absurd (five refl)
no_subcommand (a ∷ b ∷ c ∷ d ∷ e ∷ f ∷ rest) two three four five = refl
