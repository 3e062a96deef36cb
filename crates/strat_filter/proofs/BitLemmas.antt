-- Bits that are set stay set.
use Rattle.std.proofs.Common.{◌≡◌, ◌⊎◌, ◌<◌, ◌+◌, ◌*◌, ◌&&◌, ℕ, zero, suc, true, false, Bool, inl, inr, List, [], ◌∷◌, length, replicate, map, set, get_or, refl, sym, ap, ◌∙◌, arith, true≢false, subst}
use Rattle.std.specs.List.{fold, list_all, Contains}
use Rattle.std.proofs.lemmas.List.{length-set, length-replicate, get_or-set_same}
use Rattle.std.proofs.lemmas.Nat.{mod_below}
use Rattle.strat_base.proofs.ListFacts.{Among, all_at, all_from}
use Rattle.strat_base.specs.Entries.{Entry}
use Rattle.strat_filter.specs.Bits.{fnv, place, bit_places, with_hash, has_hash, bits_after, may_hold, low_half, step_of}
use Rattle.strat_filter.specs.Keys.{IsFilterOf}

set_keeps : (bits : List Bool) (at i : ℕ) → get_or bits i false ≡ true → get_or (set bits at true) i false ≡ true
set_keeps [] at i is = is
set_keeps (b ∷ bits) zero zero is = refl
set_keeps (b ∷ bits) zero (suc i) is = is
set_keeps (b ∷ bits) (suc at) zero is = is
set_keeps (b ∷ bits) (suc at) (suc i) is = set_keeps bits at i is

abbrev set_all : List Bool → List ℕ → List Bool
set_all bits ats = fold (λ bs at. set bs at true) bits ats

length_set : (bits : List Bool) (ats : List ℕ) → length (set_all bits ats) ≡ length bits
length_set bits [] = refl
length_set bits (at ∷ ats) = length_set (set bits at true) ats ∙ length-set bits at true

stays_set : (bits : List Bool) (ats : List ℕ) (i : ℕ) → get_or bits i false ≡ true → get_or (set_all bits ats) i false ≡ true
stays_set bits [] i is = is
stays_set bits (at ∷ ats) i is = stays_set (set bits at true) ats i (set_keeps bits at i is)

are_set : (bits : List Bool) (ats : List ℕ) (i : ℕ) → Among i ats → i < length bits → get_or (set_all bits ats) i false ≡ true
are_set bits [] i among lt = absurd among
are_set bits (at ∷ ats) i (inl here) lt = stays_set (set bits at true) ats i (ap (λ (k : ℕ). get_or (set bits k true) i false) (sym here) ∙ get_or-set_same bits i true false lt)
are_set bits (at ∷ ats) i (inr there) lt = let size = length-set bits at true in are_set (set bits at true) ats i there (omega (arith, lt, size))

places_low : (n hash i : ℕ) → 0 < n → Among i (bit_places n hash) → i < n
places_low n hash i some (inl here) = let lt = mod_below (low_half hash + 0 * step_of hash) n some in omega (arith, here, lt)
places_low n hash i some (inr (inl here)) = let lt = mod_below (low_half hash + 1 * step_of hash) n some in omega (arith, here, lt)
places_low n hash i some (inr (inr (inl here))) = let lt = mod_below (low_half hash + 2 * step_of hash) n some in omega (arith, here, lt)
places_low n hash i some (inr (inr (inr (inl here)))) = let lt = mod_below (low_half hash + 3 * step_of hash) n some in omega (arith, here, lt)
places_low n hash i some (inr (inr (inr (inr none)))) = absurd none

length_with : (bits : List Bool) (hash : ℕ) → length (with_hash bits hash) ≡ length bits
length_with bits hash = length_set bits (bit_places (length bits) hash)

-- a hash that was added is there
added : (bits : List Bool) (hash : ℕ) → 0 < length bits → has_hash (with_hash bits hash) hash ≡ true
added bits hash some =
    ap (λ (n : ℕ). list_all (λ at. get_or (with_hash bits hash) at false) (bit_places n hash)) (length_with bits hash)
    ∙ all_from (λ at. get_or (with_hash bits hash) at false) (bit_places (length bits) hash) (λ at among.
    are_set bits (bit_places (length bits) hash) at among (places_low (length bits) hash at some among))

-- and stays there
stays : (bits : List Bool) (hash other : ℕ) → has_hash bits hash ≡ true → has_hash (with_hash bits other) hash ≡ true
stays bits hash other is =
    ap (λ (n : ℕ). list_all (λ at. get_or (with_hash bits other) at false) (bit_places n hash)) (length_with bits other)
    ∙ all_from (λ at. get_or (with_hash bits other) at false) (bit_places (length bits) hash) (λ at among.
    stays_set bits (bit_places (length bits) other) at (all_at (λ k. get_or bits k false) at (bit_places (length bits) hash) is among))

after_stays : (bits : List Bool) (keys : List (List ℕ)) (key : List ℕ) → may_hold bits key ≡ true → may_hold (fold (λ bs k. with_hash bs (fnv k)) bits keys) key ≡ true
after_stays bits [] key is = is
after_stays bits (k ∷ keys) key is = after_stays (with_hash bits (fnv k)) keys key (stays bits (fnv key) (fnv k) is)

after_added : (bits : List Bool) (keys : List (List ℕ)) (key : List ℕ) → 0 < length bits → Among key keys → may_hold (fold (λ bs k. with_hash bs (fnv k)) bits keys) key ≡ true
after_added bits [] key some among = absurd among
after_added bits (k ∷ keys) key some (inl here) =
    after_stays (with_hash bits (fnv k)) keys key (ap (λ (q : List ℕ). may_hold (with_hash bits (fnv k)) q) here ∙ added bits (fnv k) some)
after_added bits (k ∷ keys) key some (inr there) = let size = length_with bits (fnv k) in after_added (with_hash bits (fnv k)) keys key (omega (arith, some, size)) there

-- a filter never refuses a key that was added
pub none_is_lost : (n : ℕ) (keys : List (List ℕ)) (key : List ℕ) → 0 < n → Among key keys → may_hold (bits_after n keys) key ≡ true
none_is_lost n keys key some among = let size = length-replicate n false in after_added (replicate n false) keys key (omega (arith, some, size)) among

pub contained : {X : Type 0} (xs : List X) (x : X) → Contains xs x → Among x xs
contained [] x (k, lt, at) = absurd (omega (arith, lt))
contained (y ∷ ys) x (zero, lt, at) = inl (sym at)
contained (y ∷ ys) x (suc k, lt, at) = inr (contained ys x (k, omega (arith, lt), at))

pub among_contained : {X : Type 0} (xs : List X) (x : X) → Among x xs → Contains xs x
among_contained [] x among = absurd among
among_contained (y ∷ ys) x (inl here) = (zero, omega arith, sym here)
among_contained (y ∷ ys) x (inr there) = let found = among_contained ys x there in (suc found.0, (let lt = found.1 in omega (arith, lt)), found.2)

-- a bit that is set was set before, or is one of those that were set
set_either : (bits : List Bool) (at i : ℕ) → get_or (set bits at true) i false ≡ true → (i ≡ at) ⊎ (get_or bits i false ≡ true)
set_either [] at i is = inr is
set_either (b ∷ bits) zero zero is = inl refl
set_either (b ∷ bits) zero (suc i) is = inr is
set_either (b ∷ bits) (suc at) zero is = inr is
set_either (b ∷ bits) (suc at) (suc i) is = elim (set_either bits at i is) [
  | inl same ↦ inl (ap suc same)
  | inr was ↦ inr was
]

set_among : (bits : List Bool) (ats : List ℕ) (i : ℕ) → get_or (set_all bits ats) i false ≡ true → Among i ats ⊎ (get_or bits i false ≡ true)
set_among bits [] i is = inr is
set_among bits (at ∷ ats) i is = elim (set_among (set bits at true) ats i is) [
  | inl among ↦ inl (inr among)
  | inr was ↦ elim (set_either bits at i was) [
    | inl same ↦ inl (inl same)
    | inr before ↦ inr before
  ]
]

abbrev OfKey : ℕ → List Entry → ℕ → Type 0
OfKey n entries at = (e : Entry) × Among e entries × Among at (bit_places n (fnv e.key))

set_by_one : (bits : List Bool) (entries : List Entry) (n at : ℕ) → length bits ≡ n → get_or (fold (λ bs k. with_hash bs (fnv k)) bits (map (λ e. e.key) entries)) at false ≡ true → OfKey n entries at ⊎ (get_or bits at false ≡ true)
set_by_one bits [] n at size is = inr is
set_by_one bits (e ∷ entries) n at size is = elim (set_by_one (with_hash bits (fnv e.key)) entries n at (length_with bits (fnv e.key) ∙ size) is) [
  | inl later ↦ inl (later.0, inr later.1, later.2)
  | inr was ↦ elim (set_among bits (bit_places (length bits) (fnv e.key)) at was) [
    | inl among ↦ inl (e, inl refl, subst (λ (m : ℕ). Among at (bit_places m (fnv e.key))) size among)
    | inr before ↦ inr before
  ]
]

clear_at : (n at : ℕ) → get_or (replicate n false) at false ≡ false
clear_at zero at = refl
clear_at (suc n) zero = refl
clear_at (suc n) (suc at) = clear_at n at

length_after : (bits : List Bool) (keys : List (List ℕ)) → length (fold (λ bs k. with_hash bs (fnv k)) bits keys) ≡ length bits
length_after bits [] = refl
length_after bits (k ∷ keys) = length_after (with_hash bits (fnv k)) keys ∙ length_with bits (fnv k)

-- each bit of a filter of entries is one of a key of theirs
pub no_other_bits : (bits : List Bool) (entries : List Entry) (at : ℕ) → IsFilterOf bits entries → get_or bits at false ≡ true → (e : Entry) × Contains entries e × Contains (bit_places (length bits) (fnv e.key)) at
no_other_bits bits entries at is on =
    let keys : List (List ℕ) = map (λ e. e.key) entries in
    let size : length bits ≡ is.size = ap (λ (bs : List Bool). length bs) is.made ∙ length_after (replicate is.size false) keys ∙ length-replicate is.size false in
    elim (set_by_one (replicate is.size false) entries (length bits) at (length-replicate is.size false ∙ sym size) (ap (λ (bs : List Bool). get_or bs at false) (sym is.made) ∙ on)) [
      | inl found ↦ (found.0, among_contained entries found.0 found.1, among_contained (bit_places (length bits) (fnv found.0.key)) at found.2)
      | inr was ↦ absurd (true≢false (sym was ∙ clear_at is.size at))
    ]

-- and that of none refuses every key
pub none_refuses : (bits : List Bool) (key : List ℕ) → IsFilterOf bits [] → may_hold bits key ≡ false
none_refuses bits key is = ap (λ (bs : List Bool). may_hold bs key) is.made ∙ refused is.size
  where
    refused : (n : ℕ) → may_hold (replicate n false) key ≡ false
    refused n =
        let bits : List Bool = replicate n false in
        let m : ℕ = length bits in
        let hash : ℕ = fnv key in
        ap (λ (b : Bool). b && list_all (λ at. get_or bits at false) (place m hash 1 ∷ place m hash 2 ∷ place m hash 3 ∷ [])) (clear_at n (place m hash 0))
