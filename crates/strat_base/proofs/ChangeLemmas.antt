-- Changes are read as they were written, and what is read was written so.
use Rattle.std.proofs.Common.{◌≡◌, ◌<◌, ◌≤◌, ◌^◌, inl, inr, ℕ, suc, true, false, eqb, ltb, leb, ◌&&◌, List, [], ◌∷◌, ◌++◌, length, drop, Option, Some, None, cond, refl, sym, ap, ◌∙◌, subst, arith, length-append, take-append-drop, append_assoc}
use Rattle.std.specs.Option.{option_map, option_and_then}
use Rattle.std.proofs.lemmas.Bool.{eqb-true, ltb-true, lt-ltb, leb-true, le-leb, and_parts, and_from, cond-true}
use Rattle.std.proofs.lemmas.List.{drop_at}
use Rattle.strat_base.specs.Numbers.{be, number, AreBytes}
use Rattle.strat_base.specs.Fields.{is_key, is_value, key_field, value_field, key_in, value_in}
use Rattle.strat_base.specs.Change.{Change, Put, Delete, Clone, DropVersion, is_lawful, change_bytes, change_of_kind, change_in, BeginsWithChange}
use Rattle.strat_base.proofs.NumberLemmas.{length-be, number-be, number-lt, be-number_4, AreBytes-drop}
use Rattle.strat_base.proofs.FieldLemmas.{key_max, value_max, length-value_field, key_in-field, key_in-some, value_in-field, value_in-some}
use Rattle.strat_base.proofs.ResultFacts.{option_cases}

-- a version in front of further fields
module _ (v : ℕ) (fits : v < 2 ^ 32) (fields : List ℕ) where
  version_long : leb 4 (length (be 4 v ++ fields)) ≡ true
  version_long = le-leb 4 (length (be 4 v ++ fields)) (omega (arith, length-append (be 4 v) fields, length-be 4 v))

  version_read : number 4 (be 4 v ++ fields) ≡ v
  version_read = number-be 4 v fields fits

  version_behind : drop 4 (be 4 v ++ fields) ≡ fields
  version_behind = drop_at (be 4 v) fields 4 (length-be 4 v)

  change_in-kind : (kind : ℕ) → change_in (kind ∷ (be 4 v ++ fields)) ≡ change_of_kind kind v fields
  unfolding change_in
  change_in-kind kind =
      cond-true (leb 4 (length (be 4 v ++ fields))) (change_of_kind kind (number 4 (be 4 v ++ fields)) (drop 4 (be 4 v ++ fields))) None version_long
      ∙ ap (λ (n : ℕ). change_of_kind kind n (drop 4 (be 4 v ++ fields))) version_read
      ∙ ap (change_of_kind kind v) version_behind

delete_read : (v : ℕ) (key rest : List ℕ) → is_key key ≡ true → change_of_kind 2 v (key_field key ++ rest) ≡ Some (Delete v key)
delete_read v key rest lawful = ap (λ (o : Option (List ℕ)). option_map (λ k. Delete v k) o) (key_in-field key rest lawful)

put_read : (v : ℕ) (key value rest : List ℕ) → is_key key ≡ true → is_value value ≡ true → change_of_kind 1 v (key_field key ++ (value_field value ++ rest)) ≡ Some (Put v key value)
put_read v key value rest lawful lawful' =
    let fields : List ℕ = key_field key ++ (value_field value ++ rest) in
    ap (λ (o : Option (List ℕ)). option_and_then (λ k. option_map (λ w. Put v k w) (value_in (drop (length (key_field k)) fields))) o) (key_in-field key (value_field value ++ rest) lawful)
    ∙ ap (λ (x : List ℕ). option_map (λ w. Put v key w) (value_in x)) (drop_at (key_field key) (value_field value ++ rest) (length (key_field key)) refl)
    ∙ ap (λ (o : Option (List ℕ)). option_map (λ w. Put v key w) o) (value_in-field value rest lawful')

-- a change is read where its bytes stand
pub change_in-bytes : (c : Change) (rest : List ℕ) → is_lawful c ≡ true → change_in (change_bytes c ++ rest) ≡ Some c
change_in-bytes (Put v key value) rest lawful =
    let parts = and_parts (ltb v (2 ^ 32)) (is_key key && is_value value) lawful in
    let sizes = and_parts (is_key key) (is_value value) parts.1 in
    let split : (be 4 v ++ (key_field key ++ value_field value)) ++ rest ≡ be 4 v ++ (key_field key ++ (value_field value ++ rest)) =
    append_assoc (be 4 v) (key_field key ++ value_field value) rest ∙ ap (λ (x : List ℕ). be 4 v ++ x) (append_assoc (key_field key) (value_field value) rest) in
    ap (λ (x : List ℕ). change_in (1 ∷ x)) split
    ∙ change_in-kind v (ltb-true v (2 ^ 32) parts.0) (key_field key ++ (value_field value ++ rest)) 1
    ∙ put_read v key value rest sizes.0 sizes.1
change_in-bytes (Delete v key) rest lawful =
    let parts = and_parts (ltb v (2 ^ 32)) (is_key key) lawful in
    ap (λ (x : List ℕ). change_in (2 ∷ x)) (append_assoc (be 4 v) (key_field key) rest)
    ∙ change_in-kind v (ltb-true v (2 ^ 32) parts.0) (key_field key ++ rest) 2
    ∙ delete_read v key rest parts.1
change_in-bytes (Clone v) rest lawful = change_in-kind v (ltb-true v (2 ^ 32) lawful) rest 3
change_in-bytes (DropVersion v) rest lawful = change_in-kind v (ltb-true v (2 ^ 32) lawful) rest 4

module _ (v : ℕ) (fits : v < 2 ^ 32) (fields : List ℕ) (bytes : AreBytes fields) where
  put_written : (c : Change) → change_of_kind 1 v fields ≡ Some c → BeginsWithChange (1 ∷ (be 4 v ++ fields)) c
  put_written c e =
      elim (option_cases (key_in fields)) [
        | inl none ↦ absurd (cc)
        | inr key ↦
            let key_is = key_in-some fields key.0 key.1 in
            let behind : List ℕ = drop (length (key_field key.0)) fields in
            let behind_is : List ℕ = behind in
            elim (option_cases (value_in behind)) [
              | inl none ↦ absurd (let e' = ap (λ (o : Option (List ℕ)). option_and_then (λ k. option_map (λ w. Put v k w) (value_in (drop (length (key_field k)) fields))) o) (sym key.1) ∙ e in let e'' = ap (λ (o : Option (List ℕ)). option_map (λ w. Put v key.0 w) o) (sym none) ∙ e' in cc)
              | inr value ↦
                  let value_is = value_in-some behind value.0 (AreBytes-drop (length (key_field key.0)) fields bytes) value.1 in
                  let e' = ap (λ (o : Option (List ℕ)). option_and_then (λ k. option_map (λ w. Put v k w) (value_in (drop (length (key_field k)) fields))) o) (sym key.1) ∙ e in
                  let e'' = ap (λ (o : Option (List ℕ)). option_map (λ w. Put v key.0 w) o) (sym value.1) ∙ e' in
                  let same : Put v key.0 value.0 ≡ c = cc in
                  let rest : List ℕ = drop (length (value_field value.0)) behind in
                  subst (BeginsWithChange (1 ∷ (be 4 v ++ fields))) same (record {
                    lawful = and_from (ltb v (2 ^ 32)) (is_key key.0 && is_value value.0) (lt-ltb v (2 ^ 32) fits) (and_from (is_key key.0) (is_value value.0) key_is.0 value_is.0);
                    rest = rest;
                    split = ap (λ (x : List ℕ). 1 ∷ (be 4 v ++ x)) (key_is.1 ∙ ap (λ (x : List ℕ). key_field key.0 ++ x) value_is.1 ∙ sym (append_assoc (key_field key.0) (value_field value.0) rest))
                        ∙ ap (λ (x : List ℕ). 1 ∷ x) (sym (append_assoc (be 4 v) (key_field key.0 ++ value_field value.0) rest));
                  })
            ]
      ]

  delete_written : (c : Change) → change_of_kind 2 v fields ≡ Some c → BeginsWithChange (2 ∷ (be 4 v ++ fields)) c
  delete_written c e =
      elim (option_cases (key_in fields)) [
        | inl none ↦ absurd (cc)
        | inr key ↦
            let key_is = key_in-some fields key.0 key.1 in
            let e' = ap (λ (o : Option (List ℕ)). option_map (λ k. Delete v k) o) (sym key.1) ∙ e in
            let same : Delete v key.0 ≡ c = cc in
            let rest : List ℕ = drop (length (key_field key.0)) fields in
            subst (BeginsWithChange (2 ∷ (be 4 v ++ fields))) same (record {
              lawful = and_from (ltb v (2 ^ 32)) (is_key key.0) (lt-ltb v (2 ^ 32) fits) key_is.0;
              rest = rest;
              split = ap (λ (x : List ℕ). 2 ∷ (be 4 v ++ x)) key_is.1 ∙ ap (λ (x : List ℕ). 2 ∷ x) (sym (append_assoc (be 4 v) (key_field key.0) rest));
            })
      ]

  clone_written : (c : Change) → Some (Clone v) ≡ Some c → BeginsWithChange (3 ∷ (be 4 v ++ fields)) c
  clone_written c e =
      let same : Clone v ≡ c = cc in
      subst (BeginsWithChange (3 ∷ (be 4 v ++ fields))) same (record { lawful = lt-ltb v (2 ^ 32) fits; rest = fields; split = refl })

  drop_written : (c : Change) → Some (DropVersion v) ≡ Some c → BeginsWithChange (4 ∷ (be 4 v ++ fields)) c
  drop_written c e =
      let same : DropVersion v ≡ c = cc in
      subst (BeginsWithChange (4 ∷ (be 4 v ++ fields))) same (record { lawful = lt-ltb v (2 ^ 32) fits; rest = fields; split = refl })

  kind_written : (kind : ℕ) (c : Change) → change_of_kind kind v fields ≡ Some c → BeginsWithChange (kind ∷ (be 4 v ++ fields)) c
  kind_written kind c e =
      elim (eqb kind 1) as (λ b. eqb kind 1 ≡ b → cond b (change_of_kind 1 v fields) (cond (eqb kind 2) (change_of_kind 2 v fields) (cond (eqb kind 3) (Some (Clone v)) (cond (eqb kind 4) (Some (DropVersion v)) None))) ≡ Some c → BeginsWithChange (kind ∷ (be 4 v ++ fields)) c) [
        | true ↦ λ is one. subst (λ (k : ℕ). BeginsWithChange (k ∷ (be 4 v ++ fields)) c) (sym (eqb-true kind 1 is)) (put_written c one)
        | false ↦ λ is other.
            elim (eqb kind 2) as (λ b. eqb kind 2 ≡ b → cond b (change_of_kind 2 v fields) (cond (eqb kind 3) (Some (Clone v)) (cond (eqb kind 4) (Some (DropVersion v)) None)) ≡ Some c → BeginsWithChange (kind ∷ (be 4 v ++ fields)) c) [
              | true ↦ λ is' two. subst (λ (k : ℕ). BeginsWithChange (k ∷ (be 4 v ++ fields)) c) (sym (eqb-true kind 2 is')) (delete_written c two)
              | false ↦ λ is' last.
                  elim (eqb kind 3) as (λ b. eqb kind 3 ≡ b → cond b (Some (Clone v)) (cond (eqb kind 4) (Some (DropVersion v)) None) ≡ Some c → BeginsWithChange (kind ∷ (be 4 v ++ fields)) c) [
                    | true ↦ λ is'' three. subst (λ (k : ℕ). BeginsWithChange (k ∷ (be 4 v ++ fields)) c) (sym (eqb-true kind 3 is'')) (clone_written c three)
                    | false ↦ λ is'' rest.
                        elim (eqb kind 4) as (λ b. eqb kind 4 ≡ b → cond b (Some (DropVersion v)) None ≡ Some c → BeginsWithChange (kind ∷ (be 4 v ++ fields)) c) [
                          | true ↦ λ four some. subst (λ (k : ℕ). BeginsWithChange (k ∷ (be 4 v ++ fields)) c) (sym (eqb-true kind 4 four)) (drop_written c some)
                          | false ↦ λ four none. absurd (cc)
                        ] refl rest
                  ] refl last
            ] refl other
      ] refl e

-- what is read was written so
pub change_in-some : (bytes : List ℕ) (c : Change) → AreBytes bytes → change_in bytes ≡ Some c → BeginsWithChange bytes c
unfolding change_in
change_in-some [] c fit e = absurd (cc)
change_in-some (kind ∷ bytes) c fit e =
    let rest_fit : AreBytes bytes = λ i. fit (suc i) in
    elim (leb 4 (length bytes)) as (λ b. leb 4 (length bytes) ≡ b → cond b (change_of_kind kind (number 4 bytes) (drop 4 bytes)) None ≡ Some c → BeginsWithChange (kind ∷ bytes) c) [
      | true ↦ λ long some.
          let front : be 4 (number 4 bytes) ++ drop 4 bytes ≡ bytes = ap (λ (x : List ℕ). x ++ drop 4 bytes) (be-number_4 bytes (leb-true 4 (length bytes) long) rest_fit) ∙ take-append-drop 4 bytes in
          subst (λ (x : List ℕ). BeginsWithChange (kind ∷ x) c) front
          (kind_written (number 4 bytes) (number-lt 4 bytes rest_fit) (drop 4 bytes) (AreBytes-drop 4 bytes rest_fit) kind c some)
      | false ↦ λ short none. absurd (cc)
    ] refl e

-- a change has at most 1,287 bytes
pub length-change_bytes : (c : Change) → is_lawful c ≡ true → length (change_bytes c) ≤ 1287
length-change_bytes (Put v key value) lawful =
    let parts = and_parts (ltb v (2 ^ 32)) (is_key key && is_value value) lawful in
    let sizes = and_parts (is_key key) (is_value value) parts.1 in
    omega (arith, length-append (be 4 v) (key_field key ++ value_field value), length-append (key_field key) (value_field value), length-be 4 v, length-value_field value, key_max key sizes.0, value_max value sizes.1)
length-change_bytes (Delete v key) lawful =
    let parts = and_parts (ltb v (2 ^ 32)) (is_key key) lawful in
    omega (arith, length-append (be 4 v) (key_field key), length-be 4 v, key_max key parts.1)
length-change_bytes (Clone v) lawful = omega (arith, length-be 4 v)
length-change_bytes (DropVersion v) lawful = omega (arith, length-be 4 v)
