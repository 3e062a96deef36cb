-- Where entries stand in a block.
use Rattle.std.proofs.Common.{◌≡◌, ◌<◌, ◌≤◌, ◌+◌, ◌*◌, ◌^◌, ℕ, zero, suc, true, List, [], ◌∷◌, ◌++◌, length, take, drop, get_or, refl, sym, ap, ◌∙◌, arith, length-append, take-append-drop, append_assoc, drop-cons, length-take, length-drop}
use Rattle.std.specs.List.{list_all, flat_map}
use Rattle.std.proofs.lemmas.Bool.{and_parts}
use Rattle.std.proofs.lemmas.List.{drop_at}
use Rattle.std.proofs.lemmas.Grind.{flat_map-append}
use Rattle.strat_base.specs.Numbers.{be, number}
use Rattle.strat_base.specs.Entries.{Entry}
use Rattle.strat_base.specs.EntryBytes.{fits_fields, entry_bytes, BeginsWithEntry}
use Rattle.strat_base.proofs.NumberLemmas.{number-be}
use Rattle.def_bytes.specs.Block.{offsets}
use Rattle.def_bytes.proofs.BlockLemmas.{length-offsets}

-- the offsets of joined entries
pub offsets-append : (at : ℕ) (xs ys : List Entry) → offsets at (xs ++ ys) ≡ offsets at xs ++ offsets (at + length (flat_map entry_bytes xs)) ys
offsets-append at [] ys = ap (λ (n : ℕ). offsets n ys) (omega arith)
offsets-append at (x ∷ xs) ys =
    let next : ℕ = at + length (entry_bytes x) in
    let same : next + length (flat_map entry_bytes xs) ≡ at + length (entry_bytes x ++ flat_map entry_bytes xs) = omega (arith, length-append (entry_bytes x) (flat_map entry_bytes xs)) in
    ap (λ (z : List ℕ). be 2 at ++ z) (offsets-append next xs ys ∙ ap (λ (n : ℕ). offsets next xs ++ offsets n ys) same)
    ∙ sym (append_assoc (be 2 at) (offsets next xs) (offsets (at + length (entry_bytes x ++ flat_map entry_bytes xs)) ys))

module _ (entries : List Entry) (i : ℕ) (d : Entry) (within : i < length entries) where
  -- the bytes of the entries before a place
  abbrev pub front_at : List ℕ
  front_at = flat_map entry_bytes (take i entries)

  pub entries_around : entries ≡ take i entries ++ get_or entries i d ∷ drop (suc i) entries
  entries_around = sym (take-append-drop i entries) ∙ ap (λ (x : List Entry). take i entries ++ x) (drop-cons entries i d within)

  pub text_around : flat_map entry_bytes entries ≡ front_at ++ (entry_bytes (get_or entries i d) ++ flat_map entry_bytes (drop (suc i) entries))
  text_around = ap (flat_map entry_bytes) entries_around ∙ flat_map-append entry_bytes (take i entries) (get_or entries i d ∷ drop (suc i) entries)

  -- the offset at a place
  pub offset_there : (at : ℕ) (rest : List ℕ) → at + length (flat_map entry_bytes entries) < 65536 → number 2 (drop (2 * i) (offsets at entries ++ rest)) ≡ at + length front_at
  offset_there at rest small =
      let x : Entry = get_or entries i d in
      let here : ℕ = at + length front_at in
      let behind : List ℕ = offsets (here + length (entry_bytes x)) (drop (suc i) entries) in
      let small' : here < 256 ^ 2 = omega (arith, ap length text_around, length-append front_at (entry_bytes x ++ flat_map entry_bytes (drop (suc i) entries))) in
      let split : offsets at entries ++ rest ≡ offsets at (take i entries) ++ (be 2 here ++ (behind ++ rest)) =
      ap (λ (z : List Entry). offsets at z ++ rest) entries_around
      ∙ ap (λ (z : List ℕ). z ++ rest) (offsets-append at (take i entries) (x ∷ drop (suc i) entries))
      ∙ append_assoc (offsets at (take i entries)) (be 2 here ++ behind) rest
      ∙ ap (λ (z : List ℕ). offsets at (take i entries) ++ z) (append_assoc (be 2 here) behind rest) in
      let long : length (offsets at (take i entries)) ≡ 2 * i = omega (arith, length-offsets at (take i entries), length-take i entries) in
      ap (λ (z : List ℕ). number 2 (drop (2 * i) z)) split
      ∙ ap (number 2) (drop_at (offsets at (take i entries)) (be 2 here ++ (behind ++ rest)) (2 * i) long)
      ∙ number-be 2 here (behind ++ rest) small'

  -- the entry at a place
  pub entry_there : (rest : List ℕ) → list_all fits_fields entries ≡ true → BeginsWithEntry (drop (length front_at) (flat_map entry_bytes entries ++ rest)) (get_or entries i d)
  entry_there rest lawful =
      let x : Entry = get_or entries i d in
      let behind : List ℕ = flat_map entry_bytes (drop (suc i) entries) in
      record {
        lawful = all_there entries i lawful within;
        rest = behind ++ rest;
        split =
            ap (λ (z : List ℕ). drop (length front_at) (z ++ rest)) text_around
            ∙ ap (drop (length front_at)) (append_assoc front_at (entry_bytes x ++ behind) rest)
            ∙ drop_at front_at ((entry_bytes x ++ behind) ++ rest) (length front_at) refl
            ∙ append_assoc (entry_bytes x) behind rest;
      }
    where
      all_there : (es : List Entry) (k : ℕ) → list_all fits_fields es ≡ true → k < length es → fits_fields (get_or es k d) ≡ true
      all_there [] k h lt = absurd (omega arith)
      all_there (e ∷ es) zero h lt = (and_parts (fits_fields e) (list_all fits_fields es) h).0
      all_there (e ∷ es) (suc k) h lt = all_there es k (and_parts (fits_fields e) (list_all fits_fields es) h).1 (omega arith)

-- an entry ends within the bytes that it begins in
pub begins_within : (bytes : List ℕ) (at : ℕ) (e : Entry) → BeginsWithEntry (drop at bytes) e → at ≤ length bytes → at + length (entry_bytes e) ≤ length bytes
begins_within bytes at e begins le = omega (arith, ap length begins.split, length-append (entry_bytes e) begins.rest, length-drop at bytes)
