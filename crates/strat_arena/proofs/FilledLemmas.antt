-- Bytes written into cells one after the other.
use Rattle.std.proofs.Common.{◌≡◌, ℕ, suc, ◌+◌, ◌<◌, ◌≤◌, List, [], ◌∷◌, ◌++◌, map, length, take, drop, set, get_or, Option, Some, None, refl, sym, ap, ◌∙◌, append_assoc, arith, add-zero, length-append, length-take, length-drop, take-append-drop, drop-cons}
use Rattle.std.proofs.lemmas.List.{length-map, length_push, map_push, map-append, set_at, take_at, take_more}
use Rattle.strat_arena.specs.Filled.{held_bytes, with_bytes}

-- the bytes of cells that all hold one
pub bytes_back : (xs : List ℕ) → held_bytes (map Some xs) ≡ xs
bytes_back [] = refl
bytes_back (x ∷ xs) = ap (λ (ys : List ℕ). x ∷ ys) (bytes_back xs)

-- there are as many bytes as cells that hold one
pub filled_length : (slots : List (Option ℕ)) (n : ℕ) (bytes : List ℕ) → n ≤ length slots → take n slots ≡ map Some bytes → length bytes ≡ n
filled_length slots n bytes within e = omega (arith, ap length e, length-map bytes Some, length-take n slots)

module _ (slots : List (Option ℕ)) (from : ℕ) where
  abbrev front : List (Option ℕ)
  front = take from slots

  pub none_written : with_bytes slots from [] ≡ slots
  none_written = ap (λ (n : ℕ). front ++ drop n slots) (add-zero from) ∙ take-append-drop from slots

  -- one more byte behind those that are written
  pub one_written : (bytes : List ℕ) (i d : ℕ) → i < length bytes → from + length bytes ≤ length slots
      → set (with_bytes slots from (take i bytes)) (from + i) (Some (get_or bytes i d)) ≡ with_bytes slots from (take (i + 1) bytes)
  one_written bytes i d within fits =
      let done = take i bytes in
      let md : List (Option ℕ) = map Some done in
      let x = get_or bytes i d in
      let sx : Option ℕ = Some x in
      let y = get_or slots (from + i) None in
      let ds = drop (suc (from + i)) slots in
      let long : length done ≡ i = omega (arith, length-take i bytes) in
      let at : from + length done ≡ from + i = omega arith in
      let ahead : length (front ++ md) ≡ from + i = omega (arith, length-append front md, length-take from slots, length-map done Some) in
      let next : from + length (done ++ x ∷ []) ≡ suc (from + i) = omega (arith, length_push done x) in
      let left : set (with_bytes slots from done) (from + i) sx ≡ front ++ md ++ sx ∷ ds
      = ap (λ (l : List (Option ℕ)). set l (from + i) sx)
      (ap (λ (m : ℕ). front ++ (md ++ drop m slots)) at
      ∙ ap (λ (l : List (Option ℕ)). front ++ (md ++ l)) (drop-cons slots (from + i) None (omega arith))
      ∙ sym (append_assoc front md (y ∷ ds)))
      ∙ set_at (front ++ md) y ds sx (from + i) ahead in
      let right : with_bytes slots from (take (i + 1) bytes) ≡ front ++ md ++ sx ∷ ds
      = ap (λ (b : List ℕ). front ++ (map Some b ++ drop (from + length b) slots)) (take_more bytes i d within)
      ∙ ap (λ (l : List (Option ℕ)). front ++ (l ++ drop (from + length (done ++ x ∷ [])) slots)) (map_push Some done x)
      ∙ ap (λ (m : ℕ). front ++ ((md ++ sx ∷ []) ++ drop m slots)) next
      ∙ ap (λ (l : List (Option ℕ)). front ++ l) (append_assoc md (sx ∷ []) ds)
      ∙ sym (append_assoc front md (sx ∷ ds)) in
      left ∙ sym right

  module _ (bytes : List ℕ) (fits : from + length bytes ≤ length slots) where
    pub written_length : length (with_bytes slots from bytes) ≡ length slots
    written_length =
        omega (
          arith,
          length-append front (map Some bytes ++ drop (from + length bytes) slots),
          length-append (map Some bytes) (drop (from + length bytes) slots),
          length-take from slots,
          length-map bytes Some,
          length-drop (from + length bytes) slots,
        )

    -- the front of the cells, up to the last byte that is written
    pub written_front : take (from + length bytes) (with_bytes slots from bytes) ≡ front ++ map Some bytes
    written_front =
        let mb : List (Option ℕ) = map Some bytes in
        let rest = drop (from + length bytes) slots in
        let ahead : length (front ++ mb) ≡ from + length bytes = omega (arith, length-append front mb, length-take from slots, length-map bytes Some) in
        ap (take (from + length bytes)) (sym (append_assoc front mb rest)) ∙ take_at (front ++ mb) rest (from + length bytes) ahead

    -- they hold the bytes that were there and those that were written
    pub written_bytes : (old : List ℕ) → front ≡ map Some old → take (from + length bytes) (with_bytes slots from bytes) ≡ map Some (old ++ bytes)
    written_bytes old e = written_front ∙ ap (λ (l : List (Option ℕ)). l ++ map Some bytes) e ∙ sym (map-append Some old bytes)
