-- Frames of puts, one behind the other.
use Rattle.std.proofs.Common.{◌≡◌, ◌≤◌, ◌<◌, ℕ, suc, true, leb, get_or, take, ◌+◌, ◌/◌, ◌%◌, List, [], ◌∷◌, ◌++◌, length, sym, ap, subst, ◌∙◌, arith}
use Rattle.std.specs.List.{flat_map}
use Rattle.std.proofs.lemmas.Grind.{flat_map-append}
use Rattle.std.proofs.lemmas.List.{append-nil, length-append, length-take-le, take_more}
use Rattle.std.proofs.lemmas.Bool.{and_from, le-leb}
use Rattle.strat_base.specs.Numbers.{be}
use Rattle.strat_base.specs.Numbers as numbers
use Rattle.strat_base.proofs.NumberLemmas.{length-be}
use Rattle.strat_base.specs.Sizes.{is_key, is_value}
use Rattle.strat_model.specs.Pairs.{Pair, Pairs}
use Rattle.strat_model.specs.Request.{Request, Put}
use Rattle.strat_model.specs.Spelling.{command_body, command_bytes, counted}
use Rattle.strat_model.specs.Stream.{frame}
use Rattle.def_bulk.specs.Exporting.{put_bodies}
use Rattle.strat_bulk.specs.Runs.{AreLawful}

-- four bytes are those of the lowest 32 bits
be_low : (n : ℕ) → be 4 (n % 4294967296) ≡ be 4 n
unfolding numbers.be
be_low n =
    let a : (n % 4294967296) / 16777216 % 256 ≡ n / 16777216 % 256 = omega arith in
    let b : (n % 4294967296) / 65536 % 256 ≡ n / 65536 % 256 = omega arith in
    let c : (n % 4294967296) / 256 % 256 ≡ n / 256 % 256 = omega arith in
    let d : (n % 4294967296) % 256 ≡ n % 256 = omega arith in
    λ i. a i ∷ b i ∷ c i ∷ d i ∷ []

-- a tag is written by its lowest 32 bits
pub tagged : (n tag : ℕ) (request : Request) → n % 4294967296 ≡ tag → frame (command_body tag request) ≡ frame (command_body n request)
tagged n tag request is = ap (λ (bytes : List ℕ). frame (bytes ++ command_bytes request)) (ap (be 4) (sym is) ∙ be_low n)

-- the next tag
pub next_tag : (n tag : ℕ) → n % 4294967296 ≡ tag → suc n % 4294967296 ≡ (tag + 1) % 4294967296
next_tag n tag is = omega (arith, is)

counted_len : (xs : List ℕ) → length (counted xs) ≡ 2 + length xs
counted_len xs = length-append (be 2 (length xs)) xs ∙ ap (λ (n : ℕ). n + length xs) (length-be 2 (length xs))

fields_len : (key value : List ℕ) → length (be 4 0 ++ (counted key ++ counted value)) ≡ 4 + ((2 + length key) + (2 + length value))
fields_len key value =
    let rest : length (counted key ++ counted value) ≡ (2 + length key) + (2 + length value) = length-append (counted key) (counted value) ∙ (λ i. counted_len key i + counted_len value i) in
    length-append (be 4 0) (counted key ++ counted value) ∙ (λ i. length-be 4 0 i + rest i)

-- a put's frame has 17 bytes beside its key and its value
pub put_len : (tag : ℕ) (key value : List ℕ) → length key ≤ 255 → length value ≤ 1024 → length (frame (command_body tag (Put 0 key value))) ≤ 1296
unfolding numbers.be
put_len tag key value few some =
    let body = command_body tag (Put 0 key value) in
    let one : length (frame body) ≡ 4 + length body = length-append (be 4 (length body)) body ∙ ap (λ (n : ℕ). n + length body) (length-be 4 (length body)) in
    let two : length body ≡ 4 + suc (4 + ((2 + length key) + (2 + length value))) =
    length-append (be 4 tag) (command_bytes (Put 0 key value)) ∙ (λ i. length-be 4 tag i + suc (fields_len key value i)) in
    omega (arith, one, two, few, some)

bodies_then : (n : ℕ) (xs ys : Pairs) → put_bodies n (xs ++ ys) ≡ put_bodies n xs ++ put_bodies (n + length xs) ys
bodies_then n [] ys = ap (λ (k : ℕ). put_bodies k ys) (omega arith)
bodies_then n (p ∷ xs) ys =
    let count : suc n + length xs ≡ n + suc (length xs) = omega arith in
    ap (λ (l : List (List ℕ)). command_body n (Put 0 p.0 p.1) ∷ l) (bodies_then (suc n) xs ys ∙ ap (λ (k : ℕ). put_bodies (suc n) xs ++ put_bodies k ys) count)

-- the frames of pairs and of others behind them
pub frames_then : (n : ℕ) (xs ys : Pairs) → flat_map frame (put_bodies n (xs ++ ys)) ≡ flat_map frame (put_bodies n xs) ++ flat_map frame (put_bodies (n + length xs) ys)
frames_then n xs ys = ap (λ (l : List (List ℕ)). flat_map frame l) (bodies_then n xs ys) ∙ flat_map-append frame (put_bodies n xs) (put_bodies (n + length xs) ys)

-- the frame of one
pub frame_one : (n : ℕ) (p : Pair) → flat_map frame (put_bodies n (p ∷ [])) ≡ frame (command_body n (Put 0 p.0 p.1))
frame_one n p = append-nil (frame (command_body n (Put 0 p.0 p.1)))

-- pairs and others behind them have lawful sizes
pub lawful_both : (xs ys : Pairs) → AreLawful xs → AreLawful ys → AreLawful (xs ++ ys)
lawful_both [] ys first rest = rest
lawful_both (p ∷ xs) ys first rest = (first.0, lawful_both xs ys first.1 rest)

-- so has a page with one pair more
pub lawful_more : (page : Pairs) (i : ℕ) (key value : List ℕ) → i < length page → AreLawful (take i page) → key ≡ (get_or page i ([], [])).0 → value ≡ (get_or page i ([], [])).1 → 1 ≤ length key → length key ≤ 255
    → length value ≤ 1024 → AreLawful (take (i + 1) page)
lawful_more page i key value low so_far of_key of_value some few short =
    let p : Pair = get_or page i ([], []) in
    let key_is : is_key p.0 ≡ true = subst (λ (k : List ℕ). is_key k ≡ true) of_key (and_from (leb 1 (length key)) (leb (length key) 255) (le-leb 1 (length key) some) (le-leb (length key) 255 few)) in
    let value_is : is_value p.1 ≡ true = subst (λ (v : List ℕ). is_value v ≡ true) of_value (le-leb (length value) 1024 short) in
    subst (λ (l : Pairs). AreLawful l) (sym (take_more page i ([], []) low)) (lawful_both (take i page) (p ∷ []) so_far ((key_is, value_is), tt))

-- one pair of a page more
pub page_more : (n : ℕ) (page : Pairs) (i : ℕ) (bytes key value : List ℕ) → i < length page → bytes ≡ flat_map frame (put_bodies n (take i page)) → key ≡ (get_or page i ([], [])).0 → value ≡ (get_or page i ([], [])).1
    → bytes ++ frame (command_body (n + i) (Put 0 key value)) ≡ flat_map frame (put_bodies n (take (i + 1) page))
page_more n page i bytes key value low are of_key of_value =
    let p : Pair = get_or page i ([], []) in
    let one : frame (command_body (n + i) (Put 0 key value)) ≡ flat_map frame (put_bodies (n + length (take i page)) (p ∷ [])) =
    (λ j. frame (command_body (n + i) (Put 0 (of_key j) (of_value j)))) ∙ sym (frame_one (n + i) p) ∙ ap (λ (k : ℕ). flat_map frame (put_bodies (n + k) (p ∷ []))) (sym (length-take-le i page (omega (arith, low)))) in
    (λ j. are j ++ one j) ∙ sym (frames_then n (take i page) (p ∷ [])) ∙ ap (λ (l : Pairs). flat_map frame (put_bodies n l)) (sym (take_more page i ([], []) low))
