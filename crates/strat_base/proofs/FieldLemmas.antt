-- Fields are read as they were written.
use Rattle.std.proofs.Common.{◌≡◌, ◌<◌, ◌≤◌, ◌+◌, ◌^◌, ℕ, true, leb, ◌&&◌, List, [], ◌∷◌, ◌++◌, length, take, drop, Some, None, refl, sym, ap, ◌∙◌, arith, length-append, length-take, length-drop, take-append-drop, append_assoc}
use Rattle.std.proofs.lemmas.Bool.{leb-true, le-leb, and_parts, and_from, cond-true}
use Rattle.std.proofs.lemmas.Option.{cond_some}
use Rattle.std.proofs.lemmas.List.{take_at, drop_at, drop-drop}
use Rattle.strat_base.specs.Numbers.{be, number, AreBytes}
use Rattle.strat_base.specs.Fields.{is_key, is_value, key_field, value_field, key_in, value_in}
use Rattle.strat_base.proofs.NumberLemmas.{length-be, number-be, be-number_2}

pub value_max : (value : List ℕ) → is_value value ≡ true → length value ≤ 1024
value_max value e = leb-true (length value) 1024 e

pub key_max : (key : List ℕ) → is_key key ≡ true → length key ≤ 255
key_max key e = leb-true (length key) 255 (and_parts (leb 1 (length key)) (leb (length key) 255) e).1

pub length-value_field : (value : List ℕ) → length (value_field value) ≡ 2 + length value
length-value_field value = omega (arith, length-append (be 2 (length value)) value, length-be 2 (length value))

pub key_in-field : (key rest : List ℕ) → is_key key ≡ true → key_in (key_field key ++ rest) ≡ Some key
key_in-field key rest lawful =
    let at : take (length key) (key ++ rest) ≡ key = take_at key rest (length key) refl in
    let test : (leb (length key) (length (key ++ rest)) && is_key (take (length key) (key ++ rest))) ≡ true =
    and_from (leb (length key) (length (key ++ rest))) (is_key (take (length key) (key ++ rest)))
    (le-leb (length key) (length (key ++ rest)) (omega (arith, length-append key rest)))
    (ap is_key at ∙ lawful) in
    cond-true (leb (length key) (length (key ++ rest)) && is_key (take (length key) (key ++ rest))) (Some (take (length key) (key ++ rest))) None test
    ∙ ap (λ (x : List ℕ). Some x) at

pub key_in-some : (bytes key : List ℕ) → key_in bytes ≡ Some key → (is_key key ≡ true) × (bytes ≡ key_field key ++ drop (length (key_field key)) bytes)
key_in-some [] key e = absurd (cc)
key_in-some (n ∷ bytes) key e =
    let found = cond_some (leb n (length bytes) && is_key (take n bytes)) (take n bytes) key e in
    let parts = and_parts (leb n (length bytes)) (is_key (take n bytes)) found.0 in
    let fits : n ≤ length bytes = leb-true n (length bytes) parts.0 in
    let len : length key ≡ n = omega (arith, ap length found.1, length-take n bytes) in (
      ap is_key (sym found.1) ∙ parts.1,
      (λ i. sym len i ∷ (sym (take-append-drop n bytes) ∙ ap (λ (x : List ℕ). x ++ drop n bytes) found.1 ∙ ap (λ (m : ℕ). key ++ drop m bytes) (sym len)) i),
    )

module _ (value rest : List ℕ) (lawful : is_value value ≡ true) where
  value_split : value_field value ++ rest ≡ be 2 (length value) ++ (value ++ rest)
  value_split = append_assoc (be 2 (length value)) value rest

  value_number : number 2 (value_field value ++ rest) ≡ length value
  value_number =
      let few : length value ≤ 1024 = value_max value lawful in
      let fits : length value < 256 ^ 2 = omega arith in
      ap (number 2) value_split ∙ number-be 2 (length value) (value ++ rest) fits

  value_behind : drop 2 (value_field value ++ rest) ≡ value ++ rest
  value_behind = ap (drop 2) value_split ∙ drop_at (be 2 (length value)) (value ++ rest) 2 (length-be 2 (length value))

  value_taken : take (number 2 (value_field value ++ rest)) (drop 2 (value_field value ++ rest)) ≡ value
  value_taken =
      ap (λ (n : ℕ). take n (drop 2 (value_field value ++ rest))) value_number
      ∙ ap (take (length value)) value_behind
      ∙ take_at value rest (length value) refl

  pub value_in-field : value_in (value_field value ++ rest) ≡ Some value
  value_in-field =
      let bytes : List ℕ = value_field value ++ rest in
      let n : ℕ = number 2 bytes in
      let test : (leb (2 + n) (length bytes) && is_value (take n (drop 2 bytes))) ≡ true =
      and_from (leb (2 + n) (length bytes)) (is_value (take n (drop 2 bytes)))
      (le-leb (2 + n) (length bytes) (omega (arith, value_number, length-append (value_field value) rest, length-value_field value)))
      (ap is_value value_taken ∙ lawful) in
      cond-true (leb (2 + n) (length bytes) && is_value (take n (drop 2 bytes))) (Some (take n (drop 2 bytes))) None test
      ∙ ap (λ (x : List ℕ). Some x) value_taken

pub value_in-some : (bytes value : List ℕ) → AreBytes bytes → value_in bytes ≡ Some value → (is_value value ≡ true) × (bytes ≡ value_field value ++ drop (length (value_field value)) bytes)
value_in-some bytes value fits e =
    let n : ℕ = number 2 bytes in
    let found = cond_some (leb (2 + n) (length bytes) && is_value (take n (drop 2 bytes))) (take n (drop 2 bytes)) value e in
    let parts = and_parts (leb (2 + n) (length bytes)) (is_value (take n (drop 2 bytes))) found.0 in
    let long : 2 + n ≤ length bytes = leb-true (2 + n) (length bytes) parts.0 in
    let len : length value ≡ n = omega (arith, ap length found.1, length-take n (drop 2 bytes), length-drop 2 bytes) in
    let front : be 2 (length value) ≡ take 2 bytes = ap (be 2) len ∙ be-number_2 bytes (omega arith) fits in
    let middle : drop 2 bytes ≡ value ++ drop n (drop 2 bytes) = sym (take-append-drop n (drop 2 bytes)) ∙ ap (λ (x : List ℕ). x ++ drop n (drop 2 bytes)) found.1 in
    let behind : drop n (drop 2 bytes) ≡ drop (length (value_field value)) bytes = drop-drop n 2 bytes ∙ ap (λ (m : ℕ). drop m bytes) (omega (arith, length-value_field value, len)) in (
      ap is_value (sym found.1) ∙ parts.1,
      sym (take-append-drop 2 bytes)
          ∙ ap (λ (x : List ℕ). x ++ drop 2 bytes) (sym front)
          ∙ ap (λ (x : List ℕ). be 2 (length value) ++ x) (middle ∙ ap (λ (x : List ℕ). value ++ x) behind)
          ∙ sym (append_assoc (be 2 (length value)) value (drop (length (value_field value)) bytes)),
    )
