-- A pair added behind the bytes of a buffer changes no pair that was there.
use Rattle.std.proofs.Common.{◌≡◌, ℕ, suc, ◌+◌, ◌<◌, ◌≤◌, List, [], ◌∷◌, ◌++◌, length, get_or, take, drop, map, refl, ap, ◌∙◌, append_assoc, arith, length-append, length-drop}
use Rattle.std.proofs.lemmas.List.{take-append-le, drop-append-le, take_at, drop_at, take_all, map_push}
use Rattle.strat_base.specs.declared.pairs.PairSpan.{PairSpan}
use Rattle.strat_base.specs.PairBuf.{pair_in, IsPlace}

-- a part within the bytes, whatever follows them
part_stays : (from n : ℕ) (bytes more : List ℕ) → from + n ≤ length bytes → take n (drop from (bytes ++ more)) ≡ take n (drop from bytes)
part_stays from n bytes more fits =
    ap (take n) (drop-append-le from bytes more (omega arith)) ∙ take-append-le n (drop from bytes) more (omega (arith, length-drop from bytes))

-- a pair within the bytes, whatever follows them
pair_stays : (bytes more : List ℕ) (place : PairSpan) → IsPlace (length bytes) place → pair_in (bytes ++ more) place ≡ pair_in bytes place
pair_stays bytes more place is j = (
  part_stays place.at place.key_len bytes more (omega (arith, is.within)) j,
  part_stays (place.at + place.key_len) place.value_len bytes more (omega (arith, is.within)) j,
)

-- all pairs within the bytes, whatever follows them
pairs_stay : (bytes more : List ℕ) (places : List PairSpan) → ((k : ℕ) (d : PairSpan) → k < length places → IsPlace (length bytes) (get_or places k d))
    → map (pair_in (bytes ++ more)) places ≡ map (pair_in bytes) places
pairs_stay bytes more [] each = refl
pairs_stay bytes more (place ∷ places) each =
    let first : pair_in (bytes ++ more) place ≡ pair_in bytes place = pair_stays bytes more place (each 0 place (omega arith)) in
    let others = pairs_stay bytes more places (λ k d lt. each (suc k) d (omega arith)) in
    λ j. first j ∷ others j

-- a part behind two others
behind_two : (a b c : List ℕ) → take (length c) (drop (length a + length b) ((a ++ b) ++ c)) ≡ c
behind_two a b c =
    ap (take (length c)) (drop_at (a ++ b) c (length a + length b) (length-append a b)) ∙ take_all (length c) c (omega arith)

-- a pair that was put behind the bytes
pair_behind : (bytes key value : List ℕ) → pair_in ((bytes ++ key) ++ value) (record { at = length bytes; key_len = length key; value_len = length value }) ≡ (key, value)
pair_behind bytes key value =
    let first : take (length key) (drop (length bytes) ((bytes ++ key) ++ value)) ≡ key =
    ap (λ (x : List ℕ). take (length key) (drop (length bytes) x)) (append_assoc bytes key value)
    ∙ ap (take (length key)) (drop_at bytes (key ++ value) (length bytes) refl) ∙ take_at key value (length key) refl in
    let second = behind_two bytes key value in
    λ j. (first j, second j)

-- the pairs after one was put behind the bytes
pub pushed : (bytes key value : List ℕ) (places : List PairSpan) (at : ℕ) → at ≡ length bytes
    → ((k : ℕ) (d : PairSpan) → k < length places → IsPlace (length bytes) (get_or places k d))
    → map (pair_in ((bytes ++ key) ++ value)) (places ++ record { at = at; key_len = length key; value_len = length value } ∷ [])
    ≡ map (pair_in bytes) places ++ (key, value) ∷ []
pushed bytes key value places at at_end each =
    let place : PairSpan = record { at = at; key_len = length key; value_len = length value } in
    let old : map (pair_in ((bytes ++ key) ++ value)) places ≡ map (pair_in bytes) places =
    ap (λ (x : List ℕ). map (pair_in x) places) (append_assoc bytes key value) ∙ pairs_stay bytes (key ++ value) places each in
    let new : pair_in ((bytes ++ key) ++ value) place ≡ (key, value) = rw at_end (pair_behind bytes key value) in
    map_push (pair_in ((bytes ++ key) ++ value)) places place ∙ (λ j. old j ++ new j ∷ [])
