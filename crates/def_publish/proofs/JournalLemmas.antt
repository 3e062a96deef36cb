-- The records of a journal stay while the bytes of their region do.
use Rattle.std.proofs.Common.{◌≡◌, ◌≤◌, ◌<◌, ◌+◌, ◌-◌, ◌*◌, inl, inr, ℕ, zero, suc, Bool, true, false, cond, eqb, leb, ltb, ◌&&◌, List, [], ◌∷◌, ◌++◌, length-append, length, drop, take, Option, Some, None, Ok, refl, sym, ap, ◌∙◌, subst, arith}
use Rattle.std.specs.Prelude.{option_map, option_and_then}
use Rattle.std.proofs.lemmas.Bool.{and_parts}
use Rattle.std.proofs.lemmas.Option.{cond_some}
use Rattle.strat_base.specs.Numbers.{number}
use Rattle.strat_base.specs.Sizes.{is_value}
use Rattle.strat_base.specs.Fields.{key_field, key_in, value_in}
use Rattle.strat_base.specs.Change.{Change, Put, Delete, Clone, DropVersion, change_bytes, change_of_kind, change_in}
use Rattle.strat_base.proofs.FieldLemmas.{key_max, value_max, key_in-some}
use Rattle.strat_base.proofs.SizeLemmas.{length-put, length-delete, length-clone, length-drop_version}
use Rattle.def_crash.specs.Image.{Image, SameIn, window}
use Rattle.def_crash.proofs.ImageLemmas.{window_same}
use Rattle.def_bytes.specs.Damage.{Read, and_then, passed_or, put_first}
use Rattle.def_bytes.specs.Layout.{region_first, region_at, region_size, other_region, is_open}
use Rattle.def_bytes.specs.Records.{Logged, block_of, record_then, records, region_records, full_then, first_records, records_behind, journal_in_two}
use Rattle.def_bytes.proofs.TwoRegionsLemmas.{journal_cut, join_short, behind_whole}
use Rattle.strat_journal.proofs.LaidLemmas.{region_takes}
use Rattle.def_recovery.proofs.OpeningLemmas.{map_some, next_some}

value_short : (bytes value : List ℕ) → value_in bytes ≡ Some value → length value ≤ 1024
value_short bytes value e =
    let found = cond_some (leb (2 + number 2 bytes) (length bytes) && is_value (take (number 2 bytes) (drop 2 bytes))) (take (number 2 bytes) (drop 2 bytes)) value e in
    let parts = and_parts (leb (2 + number 2 bytes) (length bytes)) (is_value (take (number 2 bytes) (drop 2 bytes))) found.0 in
    value_max value (ap is_value (sym found.1) ∙ parts.1)

key_short : (bytes key : List ℕ) → key_in bytes ≡ Some key → length key ≤ 255
key_short bytes key e = key_max key (key_in-some bytes key e).0

-- the put of a key to a version with the value that follows it
abbrev put_at : ℕ → List ℕ → List ℕ → Option Change
put_at v fields key = option_map (λ value. Put v key value) (value_in (drop (length (key_field key)) fields))

-- of any kind, whatever the version and the fields
kind_short : (kind v : ℕ) (fields : List ℕ) (c : Change) → change_of_kind kind v fields ≡ Some c → length (change_bytes c) ≤ 1287
kind_short kind v fields c e = by_test (eqb kind 1) (eqb kind 2) (eqb kind 3) (eqb kind 4) e
  where
    by_test : (one two three four : Bool) → cond one (option_and_then (put_at v fields) (key_in fields)) (cond two (option_map (λ key. Delete v key) (key_in fields)) (cond three (Some (Clone v)) (cond four (Some (DropVersion v)) None))) ≡ Some c → length (change_bytes c) ≤ 1287
    by_test true two three four e =
        let key = next_some (put_at v fields) (key_in fields) c e in
        let value = map_some (λ value. Put v key.0 value) (value_in (drop (length (key_field key.0)) fields)) c key.2 in
        subst (λ (d : Change). length (change_bytes d) ≤ 1287) value.2
        (omega (arith, length-put v key.0 value.0, key_short fields key.0 key.1, value_short (drop (length (key_field key.0)) fields) value.0 value.1))
    by_test false true three four e =
        let key = map_some (λ key. Delete v key) (key_in fields) c e in
        subst (λ (d : Change). length (change_bytes d) ≤ 1287) key.2 (omega (arith, length-delete v key.0, key_short fields key.0 key.1))
    by_test false false true four e =
        let same : Clone v ≡ c = cc in
        subst (λ (d : Change). length (change_bytes d) ≤ 1287) same (omega (arith, length-clone v))
    by_test false false false true e =
        let same : DropVersion v ≡ c = cc in
        subst (λ (d : Change). length (change_bytes d) ≤ 1287) same (omega (arith, length-drop_version v))
    by_test false false false false e = absurd (cc)

-- a change that is read has at most 1,287 bytes, whatever bytes it is read from
pub change_short : (bytes : List ℕ) (c : Change) → change_in bytes ≡ Some c → length (change_bytes c) ≤ 1287
unfolding change_in
change_short [] c e = absurd (cc)
change_short (kind ∷ bytes) c e = by_test (leb 4 (length bytes)) e
  where
    by_test : (long : Bool) → cond long (change_of_kind kind (number 4 bytes) (drop 4 bytes)) None ≡ Some c → length (change_bytes c) ≤ 1287
    by_test true e = kind_short kind (number 4 bytes) (drop 4 bytes) c e
    by_test false e = absurd (cc)

-- records are read from the bytes between their first gate and the end, where there is room for as many of the largest
pub records_local : (f c : Image) (start end n at : ℕ) → start ≤ at → at + 1288 * n < end → SameIn start (end - start) f c → records c end n at ≡ records f end n at
unfolding records
records_local f c start end zero at low room same = refl
records_local f c start end (suc n) at low room same =
    let gate : c at ≡ f at = same.byte at low (omega arith) in
    let text : window c (at + 1) (end - (at + 1)) ≡ window f (at + 1) (end - (at + 1)) =
    window_same f c (at + 1) (end - (at + 1)) (record { byte = λ i from to. same.byte i (omega arith) (omega arith) }) in
    (λ i. cond (is_open (gate i)) (record_then at (λ next. records c end n next) (change_in (text i))) (Ok []))
    ∙ ap (λ (r : Read (List Logged)). cond (is_open (f at)) r (Ok [])) (by_change (change_in (window f (at + 1) (end - (at + 1)))) (λ change is.
    records_local f c start end n (at + 1 + length (change_bytes change)) (omega arith) (omega (arith, change_short (window f (at + 1) (end - (at + 1))) change is)) same))
  where
    by_change : (o : Option Change) → ((change : Change) → o ≡ Some change → records c end n (at + 1 + length (change_bytes change)) ≡ records f end n (at + 1 + length (change_bytes change)))
        → record_then at (λ next. records c end n next) o ≡ record_then at (λ next. records f end n next) o
    by_change None later = refl
    by_change (Some change) later = ap (λ (r : Read (List Logged)). put_first (record { change = change; block = block_of at }) r) (later change refl)

pub region_local : (f c : Image) (mem region : ℕ) → SameIn (region_at mem region) (region_size mem) f c → region_records c mem region ≡ region_records f mem region
region_local f c mem region same =
    records_local f c (region_at mem region) (region_at mem region + region_size mem) mem (region_at mem region) (omega arith) (omega (arith, region_takes mem)) (record { byte = λ i low high. same.byte i low (omega arith) })

-- the same of the first records of a region
pub first_local : (f c : Image) (mem region n : ℕ) → n ≤ mem → SameIn (region_at mem region) (region_size mem) f c → first_records c mem region n ≡ first_records f mem region n
first_local f c mem region n few same =
    records_local f c (region_at mem region) (region_at mem region + region_size mem) n (region_at mem region) (omega arith) (omega (arith, few, region_takes mem)) (record { byte = λ i low high. same.byte i low (omega arith) })

behind_local : (f c : Image) (mem region : ℕ) → SameIn (region_at mem region) (region_size mem) f c → records_behind c mem region ≡ records_behind f mem region
behind_local f c mem region same =
    ap (λ (r : Read (List Logged)). and_then r (λ later. passed_or (region_first mem region) (ltb (length later) (mem - 1)) later)) (first_local f c mem region (mem - 1) (omega arith) same)

-- the journal is read from both regions
pub journal_local : (f c : Image) (mem active : ℕ) → SameIn (region_at mem active) (region_size mem) f c → SameIn (region_at mem (other_region active)) (region_size mem) f c
    → journal_in_two c mem active ≡ journal_in_two f mem active
journal_local f c mem active same other =
    λ i. and_then (region_local f c mem active same i) (full_then mem (behind_local f c mem (other_region active) other i))

-- a journal that leaves room in the active region doesn't look at the other one
pub journal_kept : (f c : Image) (mem active : ℕ) (logged : List Logged) → SameIn (region_at mem active) (region_size mem) f c → length logged < mem → journal_in_two f mem active ≡ Ok logged
    → journal_in_two c mem active ≡ Ok logged
journal_kept f c mem active logged same few e = elim (journal_cut f mem active (records_behind f mem (other_region active)) logged e) [
  | inl short ↦ join_short c mem active (records_behind c mem (other_region active)) logged (region_local f c mem active same ∙ short.0) few
  | inr both ↦ absurd (omega (arith, few, both.3, length-append both.0 both.1, ap length both.5))
]

-- once it is full the journal of the other region is what is behind it, and few
pub journal_turned : (c : Image) (mem active : ℕ) (logged : List Logged) → 0 < mem → active ≤ 1 → journal_in_two c mem active ≡ Ok logged → mem ≤ length logged
    → (later : List Logged) × (front : List Logged) × (length front ≡ mem) × (front ++ later ≡ logged) × (length later < mem) × (region_records c mem (other_region active) ≡ Ok later)
journal_turned c mem active logged some few e full = elim (journal_cut c mem active (records_behind c mem (other_region active)) logged e) [
  | inl short ↦ absurd (omega (arith, full, short.1))
  | inr both ↦
      let whole = behind_whole c mem (other_region active) some both.1 both.4 in
      (both.1, both.0, both.3, both.5, omega (arith, whole.1), whole.0)
]
