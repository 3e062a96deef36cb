-- A stream is cut into frames in one way.
use Rattle.std.proofs.Common.{◌≡◌, ℕ, ◌+◌, ◌^◌, ◌<◌, true, false, leb, ltb, ◌||◌, List, [], ◌∷◌, ◌++◌, length, take, drop, refl, sym, ap, subst, ◌∙◌, append_assoc, length-append, arith}
use Rattle.std.proofs.lemmas.Bool.{le-ltb, le-leb}
use Rattle.std.proofs.lemmas.List.{take_at, drop_at}
use Rattle.std.specs.List.{flat_map, AllByRecursion}
use Rattle.strat_base.specs.Numbers.{be, number}
use Rattle.strat_base.proofs.NumberLemmas.{length-be, number-be}
use Rattle.strat_model.specs.Stream.{frame, IsBody, is_partial, is_too_long, Splits}

-- a frame and what follows it, with the length in front
regrouped : (body rest : List ℕ) → frame body ++ rest ≡ be 4 (length body) ++ (body ++ rest)
regrouped body rest = append_assoc (be 4 (length body)) body rest

-- the number in front of a frame is its body's length
front_number : (body rest : List ℕ) → IsBody body → number 4 (frame body ++ rest) ≡ length body
front_number body rest short =
    let fits : length body < 256 ^ 4 = omega (arith, short) in
    ap (number 4) (regrouped body rest) ∙ number-be 4 (length body) (body ++ rest) fits

-- what stands behind the length
behind_number : (body rest : List ℕ) → drop 4 (frame body ++ rest) ≡ body ++ rest
behind_number body rest = ap (drop 4) (regrouped body rest) ∙ drop_at (be 4 (length body)) (body ++ rest) 4 (length-be 4 (length body))

-- two frames in front of the same bytes are one
pub same_frame : (a b front rest : List ℕ) → IsBody a → IsBody b → frame a ++ front ≡ frame b ++ rest → (a ≡ b) × (front ≡ rest)
same_frame a b front rest short_a short_b e =
    let len : length a ≡ length b = sym (front_number a front short_a) ∙ ap (number 4) e ∙ front_number b rest short_b in
    let behind : a ++ front ≡ b ++ rest = sym (behind_number a front) ∙ ap (drop 4) e ∙ behind_number b rest in
    let bodies : a ≡ b = sym (take_at a front (length b) len) ∙ ap (take (length b)) behind ∙ take_at b rest (length b) refl in
    let rests : front ≡ rest = sym (drop_at a front (length b) len) ∙ ap (drop (length b)) behind ∙ drop_at b rest (length b) refl in
    (bodies, rests)

-- bytes with a whole frame in front are no rest
not_a_rest : (body rest : List ℕ) → IsBody body → is_too_long (frame body ++ rest) || is_partial (frame body ++ rest) ≡ true → ⊥
not_a_rest body rest short last =
    let bytes : List ℕ = frame body ++ rest in
    let n : number 4 bytes ≡ length body = front_number body rest short in
    let len : length bytes ≡ 4 + length body + length rest = omega (arith, length-append (frame body) rest, length-append (be 4 (length body)) body, length-be 4 (length body)) in
    let long : leb 4 (length bytes) ≡ true = le-leb 4 (length bytes) (omega (arith, len)) in
    let small : ltb 2048 (number 4 bytes) ≡ false = le-ltb 2048 (number 4 bytes) (omega (arith, n, short)) in
    let some : ltb (length bytes) 4 ≡ false = le-ltb (length bytes) 4 (omega (arith, len)) in
    let whole : ltb (length bytes) (4 + number 4 bytes) ≡ false = le-ltb (length bytes) (4 + number 4 bytes) (omega (arith, len, n)) in
    let no : is_too_long bytes || is_partial bytes ≡ false = rw (long, small, some, whole) refl in
    let f : true ≡ false = sym last ∙ no in cc

-- a rest in which no further frame is whole
abbrev IsRest : List ℕ → Type 0
IsRest rest = is_too_long rest || is_partial rest ≡ true

one_reading : (bodies others : List (List ℕ)) (rest other_rest : List ℕ) → AllByRecursion IsBody bodies → AllByRecursion IsBody others → IsRest rest → IsRest other_rest
    → flat_map frame bodies ++ rest ≡ flat_map frame others ++ other_rest → (bodies ≡ others) × (rest ≡ other_rest)
one_reading [] [] rest other_rest each other_each last other_last e = (refl, e)
one_reading [] (b ∷ others) rest other_rest each other_each last other_last e =
    let begins : rest ≡ frame b ++ (flat_map frame others ++ other_rest) = e ∙ append_assoc (frame b) (flat_map frame others) other_rest in
    absurd (not_a_rest b (flat_map frame others ++ other_rest) other_each.0 (subst IsRest begins last))
one_reading (a ∷ bodies) [] rest other_rest each other_each last other_last e =
    let begins : other_rest ≡ frame a ++ (flat_map frame bodies ++ rest) = sym e ∙ append_assoc (frame a) (flat_map frame bodies) rest in
    absurd (not_a_rest a (flat_map frame bodies ++ rest) each.0 (subst IsRest begins other_last))
one_reading (a ∷ bodies) (b ∷ others) rest other_rest each other_each last other_last e =
    let both : frame a ++ (flat_map frame bodies ++ rest) ≡ frame b ++ (flat_map frame others ++ other_rest) =
    sym (append_assoc (frame a) (flat_map frame bodies) rest) ∙ e ∙ append_assoc (frame b) (flat_map frame others) other_rest in
    let first = same_frame a b (flat_map frame bodies ++ rest) (flat_map frame others ++ other_rest) each.0 other_each.0 both in
    let next = one_reading bodies others rest other_rest each.1 other_each.1 last other_last first.1 in
    ((λ j. first.0 j ∷ next.0 j), next.1)

-- two readings of one stream are one
pub one_splitting : (stream : List ℕ) (bodies others : List (List ℕ)) (rest other_rest : List ℕ) → Splits stream bodies rest → Splits stream others other_rest → (bodies ≡ others) × (rest ≡ other_rest)
one_splitting stream bodies others rest other_rest a b = one_reading bodies others rest other_rest a.each b.each a.last b.last (sym a.whole ∙ b.whole)
