-- A change is found exactly where its bytes stand.
use Rattle.std.proofs.Common.{◌≡◌, ◌+◌, ◌≤◌, ℕ, List, length, drop, Option, Some, None, sym, ap, ◌∙◌}
use Rattle.std.specs.Option.{option_map}
use Rattle.std.proofs.lemmas.List.{drop_all}
use Rattle.strat_base.specs.Change.{Change, change_bytes, change_in, change_at, BeginsWithChange}
use Rattle.strat_base.proofs.ChangeLemmas.{change_in-bytes}

pub begins_read : (bytes : List ℕ) (c : Change) → BeginsWithChange bytes c → change_in bytes ≡ Some c
begins_read bytes c begins = ap change_in begins.split ∙ change_in-bytes c begins.rest begins.lawful

pub change_at-is : (bytes : List ℕ) (at : ℕ) (o : Option Change) → change_in (drop at bytes) ≡ o → change_at bytes at ≡ option_map (λ c. (c, at + length (change_bytes c))) o
change_at-is bytes at o e = ap (λ (o : Option Change). option_map (λ c. (c, at + length (change_bytes c))) o) e

pub change_in-past : (bytes : List ℕ) (at : ℕ) → length bytes ≤ at → change_in (drop at bytes) ≡ None
unfolding change_in
change_in-past bytes at past = ap change_in (drop_all at bytes past)

-- where nothing is read no change stands
pub none_begins : (bytes : List ℕ) (c : Change) → change_in bytes ≡ None → BeginsWithChange bytes c → ⊥
none_begins bytes c none begins = let e : None ≡ Some c = sym none ∙ begins_read bytes c begins in cc
