-- Entries are read as they were written, and what is read was written so.
use Rattle.std.proofs.Common.{◌≡◌, ◌≤◌, ◌^◌, inl, inr, ℕ, suc, true, false, eqb, ltb, leb, ◌&&◌, List, [], ◌∷◌, ◌++◌, length, drop, Option, Some, None, cond, refl, sym, ap, ◌∙◌, subst, arith, length-append, take-append-drop, append_assoc}
use Rattle.std.specs.Option.{option_map, option_and_then}
use Rattle.std.proofs.lemmas.Bool.{eqb-true, ltb-true, lt-ltb, leb-true, le-leb, and_parts, and_from, cond-true}
use Rattle.std.proofs.lemmas.List.{drop_at}
use Rattle.strat_base.specs.Numbers.{be, number, AreBytes}
use Rattle.strat_base.specs.Sizes.{is_key}
use Rattle.strat_base.specs.Fields.{key_field, value_field, key_in, value_in}
use Rattle.strat_base.specs.Entries.{Entry}
use Rattle.strat_base.specs.EntryBytes.{is_markable, fits_fields, mark_field, entry_bytes, mark_in, entry_of_key, entry_in, BeginsWithEntry}
use Rattle.strat_base.proofs.NumberLemmas.{length-be, number-be, number-lt, be-number_4, AreBytes-drop}
use Rattle.strat_base.proofs.FieldLemmas.{key_max, value_max, length-value_field, key_in-field, key_in-some, value_in-field, value_in-some}
use Rattle.strat_base.proofs.ResultFacts.{option_cases}

mark_in-field : (value : Option (List ℕ)) (rest : List ℕ) → is_markable value ≡ true → mark_in (mark_field value ++ rest) ≡ Some value
mark_in-field None rest lawful = refl
mark_in-field (Some value) rest lawful = ap (λ (o : Option (List ℕ)). option_map (λ v. Some v) o) (value_in-field value rest lawful)

-- a mark is read where its field stands
pub record MarkBegins (bytes : List ℕ) (value : Option (List ℕ)) : Type 0 where
  pub lawful : is_markable value ≡ true
  pub rest : List ℕ
  pub split : bytes ≡ mark_field value ++ rest

mark_in-some : (bytes : List ℕ) (value : Option (List ℕ)) → AreBytes bytes → mark_in bytes ≡ Some value → MarkBegins bytes value
mark_in-some [] value fit e = absurd (cc)
mark_in-some (mark ∷ bytes) value fit e =
    elim (eqb mark 0) as (λ b. eqb mark 0 ≡ b → cond b (Some None) (cond (eqb mark 1) (option_map (λ v. Some v) (value_in bytes)) None) ≡ Some value → MarkBegins (mark ∷ bytes) value) [
      | true ↦ λ is here.
          let same : None ≡ value = cc in
          subst (MarkBegins (mark ∷ bytes)) same (record { lawful = refl; rest = bytes; split = ap (λ (x : ℕ). x ∷ bytes) (eqb-true mark 0 is) })
      | false ↦ λ is other.
          elim (eqb mark 1) as (λ b. eqb mark 1 ≡ b → cond b (option_map (λ v. Some v) (value_in bytes)) None ≡ Some value → MarkBegins (mark ∷ bytes) value) [
            | true ↦ λ is' some.
                elim (option_cases (value_in bytes)) [
                  | inl none ↦ absurd (cc)
                  | inr found ↦
                      let some' = ap (λ (o : Option (List ℕ)). option_map (λ v. Some v) o) (sym found.1) ∙ some in
                      let same : Some found.0 ≡ value = cc in
                      let there = value_in-some bytes found.0 (λ i. fit (suc i)) found.1 in
                      subst (MarkBegins (mark ∷ bytes)) same (record {
                        lawful = there.0;
                        rest = drop (length (value_field found.0)) bytes;
                        split = (λ i. eqb-true mark 1 is' i ∷ there.1 i);
                      })
                ]
            | false ↦ λ is' none. absurd (cc)
          ] refl other
    ] refl e

module _ (e : Entry) (rest : List ℕ) (lawful : fits_fields e ≡ true) where
  parts : (is_key e.key ≡ true) × (ltb e.version (2 ^ 32) ≡ true) × (is_markable e.value ≡ true)
  parts =
      let outer = and_parts (is_key e.key && ltb e.version (2 ^ 32)) (is_markable e.value) lawful in
      let inner = and_parts (is_key e.key) (ltb e.version (2 ^ 32)) outer.0 in
      (inner.0, inner.1, outer.1)

  entry_split : entry_bytes e ++ rest ≡ key_field e.key ++ (be 4 e.version ++ (mark_field e.value ++ rest))
  entry_split = append_assoc (key_field e.key) (be 4 e.version ++ mark_field e.value) rest ∙ ap (λ (x : List ℕ). key_field e.key ++ x) (append_assoc (be 4 e.version) (mark_field e.value) rest)

  behind_key : entry_of_key e.key (be 4 e.version ++ (mark_field e.value ++ rest)) ≡ Some e
  unfolding parts
  behind_key =
      let fields : List ℕ = be 4 e.version ++ (mark_field e.value ++ rest) in
      let test : leb 4 (length fields) ≡ true = le-leb 4 (length fields) (omega (arith, length-append (be 4 e.version) (mark_field e.value ++ rest), length-be 4 e.version)) in
      let version : number 4 fields ≡ e.version = number-be 4 e.version (mark_field e.value ++ rest) (ltb-true e.version (2 ^ 32) parts.1) in
      let mark : mark_in (drop 4 fields) ≡ Some e.value = ap mark_in (drop_at (be 4 e.version) (mark_field e.value ++ rest) 4 (length-be 4 e.version)) ∙ mark_in-field e.value rest parts.2 in
      cond-true (leb 4 (length fields)) (option_map (λ value. record { key = e.key; version = number 4 fields; value = value }) (mark_in (drop 4 fields))) None test
      ∙ ap (λ (n : ℕ). option_map (λ value. record { key = e.key; version = n; value = value }) (mark_in (drop 4 fields))) version
      ∙ ap (λ (o : Option (Option (List ℕ))). option_map (λ value. record { key = e.key; version = e.version; value = value }) o) mark

  pub entry_in-bytes : entry_in (entry_bytes e ++ rest) ≡ Some e
  unfolding entry_in parts
  entry_in-bytes =
      let behind : List ℕ = be 4 e.version ++ (mark_field e.value ++ rest) in
      ap (λ (x : List ℕ). option_and_then (λ key. entry_of_key key (drop (length (key_field key)) x)) (key_in x)) entry_split
      ∙ ap (λ (o : Option (List ℕ)). option_and_then (λ key. entry_of_key key (drop (length (key_field key)) (key_field e.key ++ behind))) o) (key_in-field e.key behind parts.0)
      ∙ ap (entry_of_key e.key) (drop_at (key_field e.key) behind (length (key_field e.key)) refl)
      ∙ behind_key

  pub length-entry_bytes : length (entry_bytes e) ≤ 1287
  unfolding parts
  length-entry_bytes =
      let long : length (mark_field e.value) ≤ 1027 = mark_long e.value parts.2 in
      omega (arith, length-append (key_field e.key) (be 4 e.version ++ mark_field e.value), length-append (be 4 e.version) (mark_field e.value), length-be 4 e.version, key_max e.key parts.0, long)
    where
      mark_long : (value : Option (List ℕ)) → is_markable value ≡ true → length (mark_field value) ≤ 1027
      mark_long None h = omega arith
      mark_long (Some value) h = omega (arith, value_max value h, length-value_field value)

-- what is read as an entry was written so
pub entry_in-some : (bytes : List ℕ) (e : Entry) → AreBytes bytes → entry_in bytes ≡ Some e → BeginsWithEntry bytes e
unfolding entry_in
entry_in-some bytes e fit is =
    elim (option_cases (key_in bytes)) [
      | inl none ↦ absurd (cc)
      | inr key ↦
          let key_is = key_in-some bytes key.0 key.1 in
          let fields : List ℕ = drop (length (key_field key.0)) bytes in
          let fields_fit : AreBytes fields = AreBytes-drop (length (key_field key.0)) bytes fit in
          let is' : entry_of_key key.0 fields ≡ Some e = ap (λ (o : Option (List ℕ)). option_and_then (λ k. entry_of_key k (drop (length (key_field k)) bytes)) o) (sym key.1) ∙ is in
          elim (leb 4 (length fields)) as (λ b. leb 4 (length fields) ≡ b → cond b (option_map (λ value. record { key = key.0; version = number 4 fields; value = value }) (mark_in (drop 4 fields))) None ≡ Some e → BeginsWithEntry bytes e) [
            | false ↦ λ short none. absurd (cc)
            | true ↦ λ long some.
                elim (option_cases (mark_in (drop 4 fields))) [
                  | inl none ↦ absurd (let some' = ap (λ (o : Option (Option (List ℕ))). option_map (λ value. make key.0 (number 4 fields) value) o) (sym none) ∙ some in cc)
                  | inr mark ↦
                      let some' = ap (λ (o : Option (Option (List ℕ))). option_map (λ value. make key.0 (number 4 fields) value) o) (sym mark.1) ∙ some in
                      let same : make key.0 (number 4 fields) mark.0 ≡ e = cc in
                      let mark_is = mark_in-some (drop 4 fields) mark.0 (AreBytes-drop 4 fields fields_fit) mark.1 in
                      let version_is : fields ≡ be 4 (number 4 fields) ++ drop 4 fields = sym (take-append-drop 4 fields) ∙ ap (λ (x : List ℕ). x ++ drop 4 fields) (sym (be-number_4 fields (leb-true 4 (length fields) long) fields_fit)) in
                      subst (BeginsWithEntry bytes) same (record {
                        lawful = and_from (is_key key.0 && ltb (number 4 fields) (2 ^ 32)) (is_markable mark.0) (and_from (is_key key.0) (ltb (number 4 fields) (2 ^ 32)) key_is.0 (lt-ltb (number 4 fields) (2 ^ 32) (number-lt 4 fields fields_fit))) mark_is.lawful;
                        rest = mark_is.rest;
                        split =
                            key_is.1
                            ∙ ap (λ (x : List ℕ). key_field key.0 ++ x) (version_is ∙ ap (λ (x : List ℕ). be 4 (number 4 fields) ++ x) mark_is.split ∙ sym (append_assoc (be 4 (number 4 fields)) (mark_field mark.0) mark_is.rest))
                            ∙ sym (append_assoc (key_field key.0) (be 4 (number 4 fields) ++ mark_field mark.0) mark_is.rest);
                      })
                ]
          ] refl is'
    ]
  where
    make : List ℕ → ℕ → Option (List ℕ) → Entry
    make key version value = record { key = key; version = version; value = value }
