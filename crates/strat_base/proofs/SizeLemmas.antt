-- How many bytes changes have, and how their fields are found.
use Rattle.std.proofs.Common.{◌≡◌, ℕ, ◌+◌, List, ◌++◌, length, drop, Option, Some, None, sym, ap, ◌∙◌, arith, length-append}
use Rattle.std.specs.Option.{option_map, option_and_then}
use Rattle.strat_base.specs.Numbers.{be}
use Rattle.strat_base.specs.Change.{Put, Delete, Clone, DropVersion, change_bytes, change_of_kind}
use Rattle.strat_base.specs.Fields.{key_field, value_field, key_in, value_in}
use Rattle.strat_base.proofs.NumberLemmas.{length-be}
use Rattle.strat_base.proofs.FieldLemmas.{length-value_field}

pub length-put : (v : ℕ) (key value : List ℕ) → length (change_bytes (Put v key value)) ≡ 8 + length key + length value
length-put v key value = omega (arith, length-append (be 4 v) (key_field key ++ value_field value), length-append (key_field key) (value_field value), length-be 4 v, length-value_field value)

pub length-delete : (v : ℕ) (key : List ℕ) → length (change_bytes (Delete v key)) ≡ 6 + length key
length-delete v key = omega (arith, length-append (be 4 v) (key_field key), length-be 4 v)

pub length-clone : (v : ℕ) → length (change_bytes (Clone v)) ≡ 5
length-clone v = omega (arith, length-be 4 v)

pub length-drop_version : (v : ℕ) → length (change_bytes (DropVersion v)) ≡ 5
length-drop_version v = omega (arith, length-be 4 v)

module _ (v : ℕ) (fields key : List ℕ) (found : key_in fields ≡ Some key) (k : ℕ) (next : k ≡ length (key_field key)) where
  put_is : change_of_kind 1 v fields ≡ option_map (λ value. Put v key value) (value_in (drop k fields))
  put_is =
      ap (λ (o : Option (List ℕ)). option_and_then (λ key. option_map (λ value. Put v key value) (value_in (drop (length (key_field key)) fields))) o) found
      ∙ ap (λ (n : ℕ). option_map (λ value. Put v key value) (value_in (drop n fields))) (sym next)

  pub put_found : (value : List ℕ) → value_in (drop k fields) ≡ Some value → change_of_kind 1 v fields ≡ Some (Put v key value)
  put_found value there = put_is ∙ ap (λ (o : Option (List ℕ)). option_map (λ value. Put v key value) o) there

  pub put_missing : value_in (drop k fields) ≡ None → change_of_kind 1 v fields ≡ None
  put_missing missing = put_is ∙ ap (λ (o : Option (List ℕ)). option_map (λ value. Put v key value) o) missing
