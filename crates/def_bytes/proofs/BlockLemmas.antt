-- Blocks are read as they were written, and what is read was written so.
use Rattle.std.proofs.Common.{◌≡◌, ◌<◌, ◌≤◌, ◌+◌, ◌-◌, ◌*◌, ◌^◌, inl, inr, ℕ, suc, true, ltb, leb, ◌&&◌, List, [], ◌∷◌, ◌++◌, length, drop, replicate, Option, Some, None, cond, refl, sym, ap, ◌∙◌, subst, arith, length-append, append_assoc}
use Rattle.std.specs.List.{list_all, flat_map}
use Rattle.std.specs.Option.{option_map, option_and_then}
use Rattle.std.specs.Str.{bytes_eq}
use Rattle.std.proofs.lemmas.Bool.{leb-true, and_parts, and_from, cond-true}
use Rattle.std.proofs.lemmas.Option.{cond_some}
use Rattle.std.proofs.lemmas.List.{drop_at, length-replicate}
use Rattle.strat_base.specs.Numbers.{be, number}
use Rattle.strat_base.specs.Entries.{Entry, is_ascending}
use Rattle.strat_base.specs.EntryBytes.{fits_fields, entry_bytes}
use Rattle.def_bytes.specs.Block.{entries_in, offsets, block_front, block_bytes, fits_block, IsBlock, block_in}
use Rattle.strat_base.proofs.EntryBytesLemmas.{entry_in-bytes}
use Rattle.strat_base.proofs.EntryLemmas.{bytes_same, same_bytes}
use Rattle.strat_base.proofs.NumberLemmas.{length-be, number-be}
use Rattle.strat_base.proofs.ResultFacts.{option_cases}

entries_in-bytes : (entries : List Entry) (rest : List ℕ) → list_all fits_fields entries ≡ true → entries_in (length entries) (flat_map entry_bytes entries ++ rest) ≡ Some entries
unfolding entries_in
entries_in-bytes [] rest lawful = refl
entries_in-bytes (e ∷ entries) rest lawful =
    let parts' = and_parts (fits_fields e) (list_all fits_fields entries) lawful in
    let behind : List ℕ = flat_map entry_bytes entries ++ rest in
    ap (entries_in (suc (length entries))) (append_assoc (entry_bytes e) (flat_map entry_bytes entries) rest)
    ∙ ap (λ (o : Option Entry). option_and_then (λ d. option_map (λ x. d ∷ x) (entries_in (length entries) (drop (length (entry_bytes d)) (entry_bytes e ++ behind)))) o) (entry_in-bytes e behind parts'.0)
    ∙ ap (λ (x : List ℕ). option_map (λ y. e ∷ y) (entries_in (length entries) x)) (drop_at (entry_bytes e) behind (length (entry_bytes e)) refl)
    ∙ ap (λ (o : Option (List Entry)). option_map (λ y. e ∷ y) o) (entries_in-bytes entries rest parts'.1)

pub length-offsets : (at : ℕ) (entries : List Entry) → length (offsets at entries) ≡ 2 * length entries
length-offsets at [] = refl
length-offsets at (e ∷ entries) =
    let rest = length-offsets (at + length (entry_bytes e)) entries in
    omega (arith, length-append (be 2 at) (offsets (at + length (entry_bytes e)) entries), length-be 2 at, rest)

module _ (bytes : List ℕ) (entries : List Entry) where
  pub block_in-some : block_in bytes ≡ Some entries → IsBlock bytes entries
  unfolding block_in
  block_in-some is =
      elim (option_cases (entries_in (number 2 bytes) (drop (2 + 2 * number 2 bytes) bytes))) [
        | inl none ↦ absurd (cc)
        | inr found ↦
            let some = ap (λ (o : Option (List Entry)). option_and_then (λ x. cond (fits_block x && bytes_eq bytes (block_bytes x)) (Some x) None) o) (sym found.1) ∙ is in
            let both = cond_some (fits_block found.0 && bytes_eq bytes (block_bytes found.0)) found.0 entries some in
            let parts' = and_parts (fits_block found.0) (bytes_eq bytes (block_bytes found.0)) both.0 in
            subst (IsBlock bytes) both.1 (record { fits = parts'.0; text = bytes_same bytes (block_bytes found.0) parts'.1 })
      ]

  pub block_in-bytes : IsBlock bytes entries → block_in bytes ≡ Some entries
  unfolding block_in block_bytes
  block_in-bytes block =
      let n : ℕ = length entries in
      let front : List ℕ = block_front entries in
      let zeros : List ℕ = replicate (4096 - length front) 0 in
      let body : List ℕ = offsets (2 + 2 * n) entries ++ flat_map entry_bytes entries in
      let all' = and_parts (ltb 0 (length entries) && list_all fits_fields entries && is_ascending entries) (leb (length front) 4096) block.fits in
      let most = and_parts (ltb 0 (length entries) && list_all fits_fields entries) (is_ascending entries) all'.0 in
      let lawful = (and_parts (ltb 0 (length entries)) (list_all fits_fields entries) most.0).1 in
      let short : length front ≤ 4096 = leb-true (length front) 4096 all'.1 in
      let long : length front ≡ 2 + (2 * n + length (flat_map entry_bytes entries)) =
      length-append (be 2 n) body ∙ omega (arith, length-be 2 n, length-append (offsets (2 + 2 * n) entries) (flat_map entry_bytes entries), length-offsets (2 + 2 * n) entries) in
      let small : n < 256 ^ 2 = omega arith in
      let text : bytes ≡ be 2 n ++ (body ++ zeros) = block.text ∙ append_assoc (be 2 n) body zeros in
      let number_is : number 2 bytes ≡ n = ap (number 2) text ∙ number-be 2 n (body ++ zeros) small in
      let head : List ℕ = be 2 n ++ offsets (2 + 2 * n) entries in
      let head_long : length head ≡ 2 + 2 * n = omega (arith, length-append (be 2 n) (offsets (2 + 2 * n) entries), length-be 2 n, length-offsets (2 + 2 * n) entries) in
      let again : bytes ≡ head ++ (flat_map entry_bytes entries ++ zeros) =
      text ∙ ap (λ (x : List ℕ). be 2 n ++ x) (append_assoc (offsets (2 + 2 * n) entries) (flat_map entry_bytes entries) zeros)
      ∙ sym (append_assoc (be 2 n) (offsets (2 + 2 * n) entries) (flat_map entry_bytes entries ++ zeros)) in
      let behind : drop (2 + 2 * number 2 bytes) bytes ≡ flat_map entry_bytes entries ++ zeros =
      ap (λ (k : ℕ). drop (2 + 2 * k) bytes) number_is ∙ ap (drop (2 + 2 * n)) again ∙ drop_at head (flat_map entry_bytes entries ++ zeros) (2 + 2 * n) head_long in
      let read : entries_in (number 2 bytes) (drop (2 + 2 * number 2 bytes) bytes) ≡ Some entries =
      ap (λ (k : ℕ). entries_in k (drop (2 + 2 * number 2 bytes) bytes)) number_is ∙ ap (entries_in n) behind ∙ entries_in-bytes entries zeros lawful in
      ap (λ (o : Option (List Entry)). option_and_then (λ x. cond (fits_block x && bytes_eq bytes (block_bytes x)) (Some x) None) o) read
      ∙ cond-true (fits_block entries && bytes_eq bytes (block_bytes entries)) (Some entries) None (and_from (fits_block entries) (bytes_eq bytes (block_bytes entries)) block.fits (same_bytes bytes (block_bytes entries) block.text))

  -- a block fills what a disk reads and writes at once
  pub length-block_bytes : fits_block entries ≡ true → length (block_bytes entries) ≡ 4096
  unfolding block_bytes
  length-block_bytes fits =
      let front : List ℕ = block_front entries in
      let all' = and_parts (ltb 0 (length entries) && list_all fits_fields entries && is_ascending entries) (leb (length front) 4096) fits in
      let short : length front ≤ 4096 = leb-true (length front) 4096 all'.1 in
      omega (arith, length-append front (replicate (4096 - length front) 0), length-replicate {A = ℕ} (4096 - length front) 0)
