-- A manifest is read from the chain of blocks that holds it.
use Rattle.std.proofs.Common.{◌≡◌, ◌≢◌, ◌≤◌, ◌<◌, ◌+◌, ◌-◌, ◌*◌, ◌^◌, ℕ, zero, suc, Bool, true, false, cond, eqb, ltb, leb, not, ◌&&◌, ◌||◌, get_or, inl, inr, List, [], ◌∷◌, ◌++◌, length, take, drop, replicate, Option, Some, None, Ok, Err, refl, sym, ap, ◌∙◌, arith, append_assoc, append-nil, take-append-drop, length-take-le}
use Rattle.std.specs.Prelude.{option_map}
use Rattle.std.specs.List.{AllByRecursion, AllPairs, list_all, list_any}
use Rattle.std.proofs.lemmas.Bool.{cases_lt, and_parts, and_from, ltb-true, lt-ltb, le-leb, cond-true, eq-eqb, ne_eqb}
use Rattle.std.proofs.lemmas.List.{take_all, drop_all, replicate-append-replicate}
use Rattle.strat_base.specs.declared.limits.TheConstants.{BLOCK}
use Rattle.def_crash.specs.Image.{Image, window}
use Rattle.strat_base.specs.Numbers.{be, number}
use Rattle.def_bytes.specs.Chain.{next_block, link_bytes, chain_length, HoldsChain, IsChain}
use Rattle.def_bytes.specs.Manifest.{Manifest, SpellsManifest, manifest_in}
use Rattle.def_bytes.specs.Damage.{Read, and_then, found_or, put_first}
use Rattle.def_bytes.specs.Chained.{link_at, may_follow, chain_from, chained_bytes, manifest_filled, manifest_in_chain, manifest_at}
use Rattle.def_crash.proofs.ImageLemmas.{length-window, window_split}
use Rattle.def_bytes.proofs.ManifestLemmas.{manifest_in-bytes}
use Rattle.strat_base.proofs.NumberLemmas.{length-be, number-be}

-- two lists in two parts each, the first of one length, are the same part by part
parts_same : (xs ys zs ws : List ℕ) → length xs ≡ length zs → xs ++ ys ≡ zs ++ ws → (xs ≡ zs) × (ys ≡ ws)
parts_same [] ys [] ws l e = (refl, e)
parts_same [] ys (z ∷ zs) ws l e = absurd (omega arith)
parts_same (x ∷ xs) ys [] ws l e = absurd (omega arith)
parts_same (x ∷ xs) ys (z ∷ zs) ws l e =
    let first : x ≡ z = cc in
    let others : xs ++ ys ≡ zs ++ ws = cc in
    let rest = parts_same xs ys zs ws (omega arith) others in
    (λ i. first i ∷ rest.0 i, rest.1)

-- each of these blocks may follow those in front of it
abbrev are_linked : List ℕ → List ℕ → Bool
are_linked before [] = true
are_linked before (b ∷ blocks) = may_follow before b && are_linked (b ∷ before) blocks

-- a block is none of these
abbrev IsOutside : List ℕ → ℕ → Type 0
IsOutside blocks b = list_any (λ other. eqb other b) blocks ≡ false

outside_more : (before : List ℕ) (b d : ℕ) → b ≢ d → IsOutside before d → IsOutside (b ∷ before) d
outside_more before b d apart none = ap (λ (t : Bool). t || list_any (λ other. eqb other d) before) (ne_eqb b d apart) ∙ none

-- blocks that may be named, none of them twice, may follow one another
chain_linked : (before blocks : List ℕ) → AllByRecursion (λ b. (1 ≤ b) × (b < 2 ^ 32 - 1)) blocks → AllPairs (λ a b. a ≢ b) blocks → AllByRecursion (IsOutside before) blocks → are_linked before blocks ≡ true
chain_linked before [] named distinct outside = refl
chain_linked before (b ∷ blocks) named distinct outside =
    let low : b < 4294967295 = omega (arith, named.0.1) in
    and_from (may_follow before b) (are_linked (b ∷ before) blocks)
    (and_from (leb 1 b && ltb b 4294967295) (not (list_any (λ other. eqb other b) before))
    (and_from (leb 1 b) (ltb b 4294967295) (le-leb 1 b named.0.0) (lt-ltb b 4294967295 low))
    (ap not outside.0))
    (chain_linked (b ∷ before) blocks named.1
    (λ i j d lt within. distinct (suc i) (suc j) d (omega arith) (omega arith))
    (outside_all blocks (λ k d within. distinct 0 (suc k) d (omega arith) (omega arith)) outside.1))
  where
    outside_all : (rest : List ℕ) → ((k d : ℕ) → k < length rest → b ≢ get_or rest k d) → AllByRecursion (IsOutside before) rest → AllByRecursion (IsOutside (b ∷ before)) rest
    outside_all [] apart all = tt
    outside_all (x ∷ rest) apart all =
        (outside_more before b x (apart 0 0 (omega arith)) all.0, outside_all rest (λ k d within. apart (suc k) d (omega arith)) all.1)

all_outside_none : (blocks : List ℕ) → AllByRecursion (IsOutside []) blocks
all_outside_none [] = tt
all_outside_none (b ∷ blocks) = (refl, all_outside_none blocks)

module _ (c : Image) (b after : ℕ) (bytes : List ℕ) (fits : after < 256 ^ 4) (held : window c (BLOCK * b) BLOCK ≡ link_bytes after bytes) where
  two_parts : (window c (BLOCK * b) 4 ≡ be 4 after) × (window c (BLOCK * b + 4) (BLOCK - 4) ≡ bytes ++ replicate (BLOCK - 4 - length bytes) 0)
  unfolding link_bytes
  two_parts =
      parts_same (window c (BLOCK * b) 4) (window c (BLOCK * b + 4) (BLOCK - 4)) (be 4 after) (bytes ++ replicate (BLOCK - 4 - length bytes) 0)
      (length-window c (BLOCK * b) 4 ∙ sym (length-be 4 after))
      (sym (window_split c (BLOCK * b) 4 (BLOCK - 4)) ∙ held)

  link_read : link_at c b ≡ after
  link_read = ap (number 4) (two_parts.0 ∙ sym (append-nil (be 4 after))) ∙ number-be 4 after [] fits

  bytes_read : window c (BLOCK * b + 4) (BLOCK - 4) ≡ bytes ++ replicate (BLOCK - 4 - length bytes) 0
  bytes_read = two_parts.1

follows_fits : (before : List ℕ) (b : ℕ) → may_follow before b ≡ true → b < 256 ^ 4
follows_fits before b follows =
    let outer = and_parts (leb 1 b && ltb b 4294967295) (not (list_any (λ other. eqb other b) before)) follows in
    let low = ltb-true b 4294967295 (and_parts (leb 1 b) (ltb b 4294967295) outer.0).1 in
    omega (arith, low)

-- the number of the next block fits its field
next_fits : (before blocks : List ℕ) → are_linked before blocks ≡ true → next_block blocks < 256 ^ 4
next_fits before [] linked = omega arith
next_fits before (d ∷ blocks) linked = follows_fits before d (and_parts (may_follow before d) (are_linked (d ∷ before) blocks) linked).0

-- the blocks of a chain are found by their links
blocks_read : (c : Image) (before : List ℕ) (b : ℕ) (blocks bytes : List ℕ) → are_linked (b ∷ before) blocks ≡ true → HoldsChain c (b ∷ blocks) bytes → chain_from c before b (length blocks) ≡ Ok (b ∷ blocks)
unfolding chain_from HoldsChain
blocks_read c before b [] bytes linked held =
    let link : link_at c b ≡ 0 = link_read c b 0 (take (BLOCK - 4) bytes) (omega arith) held.0 in
    cond-true (eqb (link_at c b) 0) (Ok (b ∷ [])) (Err b) (eq-eqb (link_at c b) 0 link)
blocks_read c before b (d ∷ blocks) bytes linked held =
    let parts = and_parts (may_follow (b ∷ before) d) (are_linked (d ∷ b ∷ before) blocks) linked in
    let link : link_at c b ≡ d = link_read c b d (take (BLOCK - 4) bytes) (follows_fits (b ∷ before) d parts.0) held.0 in
    let rest = blocks_read c (b ∷ before) d blocks (drop (BLOCK - 4) bytes) parts.1 held.1 in
    ap (λ (x : ℕ). cond (may_follow (b ∷ before) x) (put_first b (chain_from c (b ∷ before) x (length blocks))) (Err b)) link
    ∙ cond-true (may_follow (b ∷ before) d) (put_first b (chain_from c (b ∷ before) d (length blocks))) (Err b) parts.0
    ∙ ap (λ (r : Read (List ℕ)). put_first b r) rest

-- a front of so many bytes filled with zeros, and behind it the others with zeros
filled : (n k : ℕ) (bytes : List ℕ) → (j : ℕ) × ((take n bytes ++ replicate (n - length (take n bytes)) 0) ++ (drop n bytes ++ replicate k 0) ≡ bytes ++ replicate j 0)
filled n k bytes =
    elim (cases_lt n (length bytes)) [
      | inl lt ↦
          let none : n - length (take n bytes) ≡ 0 = omega (arith, length-take-le n bytes (omega arith)) in (
            k,
            ap (λ (m : ℕ). (take n bytes ++ replicate m 0) ++ (drop n bytes ++ replicate k 0)) none
                ∙ ap (λ (x : List ℕ). x ++ (drop n bytes ++ replicate k 0)) (append-nil (take n bytes))
                ∙ sym (append_assoc (take n bytes) (drop n bytes) (replicate k 0))
                ∙ ap (λ (x : List ℕ). x ++ replicate k 0) (take-append-drop n bytes),
          )
      | inr le ↦ (
        (n - length bytes) + k,
        (λ i. (take_all n bytes le i ++ replicate (n - length (take_all n bytes le i)) 0) ++ (drop_all n bytes le i ++ replicate k 0))
            ∙ append_assoc bytes (replicate (n - length bytes) 0) (replicate k 0)
            ∙ ap (λ (x : List ℕ). bytes ++ x) (replicate-append-replicate (n - length bytes) k 0),
      )
    ]

-- the bytes of a chain are those that it holds, and zeros
bytes_in_chain : (c : Image) (before blocks bytes : List ℕ) → are_linked before blocks ≡ true → HoldsChain c blocks bytes → (k : ℕ) × (chained_bytes c blocks ≡ bytes ++ replicate k 0)
unfolding HoldsChain
bytes_in_chain c before [] bytes linked held = (0, ap (λ (x : List ℕ). x ++ []) (sym held))
bytes_in_chain c before (b ∷ blocks) bytes linked held =
    let parts = and_parts (may_follow before b) (are_linked (b ∷ before) blocks) linked in
    let here = bytes_read c b (next_block blocks) (take (BLOCK - 4) bytes) (next_fits (b ∷ before) blocks parts.1) held.0 in
    let rest = bytes_in_chain c (b ∷ before) blocks (drop (BLOCK - 4) bytes) parts.1 held.1 in
    let all = filled (BLOCK - 4) rest.0 bytes in
    (all.0, (λ i. here i ++ rest.1 i) ∙ all.1)

all_zero : (k : ℕ) → list_all (λ x. eqb x 0) (replicate k 0) ≡ true
all_zero zero = refl
all_zero (suc k) = all_zero k

drop_front : (xs ys : List ℕ) → drop (length xs) (xs ++ ys) ≡ ys
drop_front [] ys = refl
drop_front (x ∷ xs) ys = drop_front xs ys

take_front : (xs ys : List ℕ) → take (length xs) (xs ++ ys) ≡ xs
take_front [] ys = refl
take_front (x ∷ xs) ys = ap (λ (l : List ℕ). x ∷ l) (take_front xs ys)

-- a manifest is read from its bytes and zeros
filled_read : (format : ℕ) (bytes : List ℕ) (k : ℕ) (m : Manifest) → SpellsManifest format bytes m → manifest_filled format (length bytes) (bytes ++ replicate k 0) ≡ Some m
filled_read format bytes k m spells =
    cond-true (list_all (λ x. eqb x 0) (drop (length bytes) (bytes ++ replicate k 0))) (manifest_in format (take (length bytes) (bytes ++ replicate k 0))) None
    (ap (list_all (λ x. eqb x 0)) (drop_front bytes (replicate k 0)) ∙ all_zero k)
    ∙ ap (manifest_in format) (take_front bytes (replicate k 0)) ∙ manifest_in-bytes format m bytes spells

pub chain_read : (format : ℕ) (c : Image) (b : ℕ) (blocks bytes : List ℕ) (m : Manifest) → SpellsManifest format bytes m → IsChain c (b ∷ blocks) bytes
    → manifest_at format c b (length bytes) ≡ Ok (record { manifest = m; blocks = b ∷ blocks })
chain_read format c b blocks bytes m spells chain =
    let linked : are_linked [] (b ∷ blocks) ≡ true = chain_linked [] (b ∷ blocks) chain.named chain.distinct (all_outside_none (b ∷ blocks)) in
    let parts = and_parts (may_follow [] b) (are_linked (b ∷ []) blocks) linked in
    let count : chain_length (length bytes) - 1 ≡ length blocks = omega (arith, chain.count) in
    let read : chain_from c [] b (chain_length (length bytes) - 1) ≡ Ok (b ∷ blocks) = ap (chain_from c [] b) count ∙ blocks_read c [] b blocks bytes parts.1 chain.holds in
    let all = bytes_in_chain c [] (b ∷ blocks) bytes linked chain.holds in
    let found : manifest_filled format (length bytes) (chained_bytes c (b ∷ blocks)) ≡ Some m = ap (manifest_filled format (length bytes)) all.1 ∙ filled_read format bytes all.0 m spells in
    ap (λ (r : Read (List ℕ)). and_then r (manifest_in_chain format c b (length bytes))) read
    ∙ ap (λ (o : Option Manifest). found_or b (option_map (λ x. record { manifest = x; blocks = b ∷ blocks }) o)) found
