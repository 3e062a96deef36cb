-- How many bytes entries have, and how their fields are found.
use Rattle.std.proofs.Common.{◌≡◌, ℕ, ◌+◌, ◌≤◌, List, ◌++◌, length, drop, Option, Some, None, sym, ap, ◌∙◌, arith, length-append}
use Rattle.std.specs.Option.{option_map, option_and_then}
use Rattle.std.proofs.lemmas.List.{drop_all}
use Rattle.strat_base.specs.Numbers.{be}
use Rattle.strat_base.specs.Fields.{key_field, key_in}
use Rattle.strat_base.specs.Entries.{Entry}
use Rattle.strat_base.specs.EntryBytes.{mark_field, entry_bytes, entry_of_key, entry_in, entry_at, BeginsWithEntry}
use Rattle.strat_base.proofs.NumberLemmas.{length-be}
use Rattle.strat_base.proofs.EntryBytesLemmas.{entry_in-bytes}

pub length-entry : (e : Entry) → length (entry_bytes e) ≡ 5 + length e.key + length (mark_field e.value)
length-entry e = omega (arith, length-append (key_field e.key) (be 4 e.version ++ mark_field e.value), length-append (be 4 e.version) (mark_field e.value), length-be 4 e.version)

pub entry_found : (bytes key : List ℕ) (k : ℕ) → key_in bytes ≡ Some key → k ≡ length (key_field key) → entry_in bytes ≡ entry_of_key key (drop k bytes)
unfolding entry_in
entry_found bytes key k found next =
    ap (λ (o : Option (List ℕ)). option_and_then (λ key. entry_of_key key (drop (length (key_field key)) bytes)) o) found
    ∙ ap (λ (n : ℕ). entry_of_key key (drop n bytes)) (sym next)

pub entry_in-past : (bytes : List ℕ) (at : ℕ) → length bytes ≤ at → entry_in (drop at bytes) ≡ None
unfolding entry_in
entry_in-past bytes at past = ap entry_in (drop_all at bytes past)

-- where nothing is read no entry stands
pub no_entry_begins : (bytes : List ℕ) (e : Entry) → entry_in bytes ≡ None → BeginsWithEntry bytes e → ⊥
no_entry_begins bytes e none begins = let f : None ≡ Some e = sym none ∙ ap entry_in begins.split ∙ entry_in-bytes e begins.rest begins.lawful in cc

pub entry_at-is : (bytes : List ℕ) (at : ℕ) (o : Option Entry) → entry_in (drop at bytes) ≡ o → entry_at bytes at ≡ option_map (λ e. (e, at + length (entry_bytes e))) o
entry_at-is bytes at o e = ap (λ (o : Option Entry). option_map (λ e. (e, at + length (entry_bytes e))) o) e
