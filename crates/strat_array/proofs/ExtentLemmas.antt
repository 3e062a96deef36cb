-- Blocks of extents, extent by extent.
use Rattle.std.proofs.Common.{◌≡◌, ◌<◌, ◌≤◌, ◌+◌, ◌-◌, ◌^◌, ℕ, true, ltb, leb, zero, suc, get_or, List, [], ◌∷◌, ◌++◌, length, drop, Some, refl, ap, sym, subst, ◌∙◌, arith, length-append}
use Rattle.std.specs.List.{list_all, range_with_len, slice_get}
use Rattle.std.proofs.lemmas.Bool.{and_parts, ltb-true}
use Rattle.std.proofs.lemmas.List.{drop_more}
use Rattle.strat_base.specs.declared.descriptors.Extent.{Extent}
use Rattle.def_bytes.specs.Arrays.{blocks_of}
use Rattle.def_bytes.specs.Manifest.{is_lawful_extent}
use Rattle.strat_array.specs.Within.{AreWithin, EndWithin}
use Rattle.strat_array.specs.Pushed.{AreMaximal, blocks_needed}
use Rattle.strat_base.specs.Entries.{Entry}

length-range : (a n : ℕ) → length (range_with_len a n) ≡ n
length-range a zero = refl
length-range a (suc n) = let rest = length-range (a + 1) n in omega (arith, rest)

-- the blocks from an extent on are its own and those of the others
pub blocks_more : (extents : List Extent) (i : ℕ) (d : Extent) → i < length extents → length (blocks_of (drop i extents)) ≡ (get_or extents i d).len + length (blocks_of (drop (i + 1) extents))
blocks_more extents i d lt =
    ap (λ (x : List Extent). length (blocks_of x)) (drop_more extents i d lt)
    ∙ length-append (range_with_len (get_or extents i d).start (get_or extents i d).len) (blocks_of (drop (i + 1) extents))
    ∙ ap (λ (n : ℕ). n + length (blocks_of (drop (i + 1) extents))) (length-range (get_or extents i d).start (get_or extents i d).len)

get_front : (xs ys : List ℕ) (i : ℕ) → i < length xs → slice_get (xs ++ ys) i ≡ slice_get xs i
get_front [] ys i lt = absurd (omega arith)
get_front (x ∷ xs) ys zero lt = refl
get_front (x ∷ xs) ys (suc i) lt = get_front xs ys i (omega arith)

get_back : (xs ys : List ℕ) (i : ℕ) → length xs ≤ i → slice_get (xs ++ ys) i ≡ slice_get ys (i - length xs)
get_back [] ys i le = ap (slice_get ys) (omega arith)
get_back (x ∷ xs) ys zero le = absurd (omega arith)
get_back (x ∷ xs) ys (suc i) le = get_back xs ys i (omega arith) ∙ ap (slice_get ys) (omega arith)

get_range : (a n i : ℕ) → i < n → slice_get (range_with_len a n) i ≡ Some (a + i)
get_range a zero i lt = absurd (omega arith)
get_range a (suc n) zero lt = ap (λ (m : ℕ). Some m) (omega arith)
get_range a (suc n) (suc i) lt = get_range (a + 1) n i (omega arith) ∙ ap (λ (m : ℕ). Some m) (omega arith)

pub block_here : (extents : List Extent) (i rest : ℕ) (d : Extent) → i < length extents → rest < (get_or extents i d).len → slice_get (blocks_of (drop i extents)) rest ≡ Some ((get_or extents i d).start + rest)
block_here extents i rest d lt within =
    let x : Extent = get_or extents i d in
    ap (λ (l : List Extent). slice_get (blocks_of l) rest) (drop_more extents i d lt)
    ∙ get_front (range_with_len x.start x.len) (blocks_of (drop (i + 1) extents)) rest (omega (arith, length-range x.start x.len))
    ∙ get_range x.start x.len rest within

pub block_later : (extents : List Extent) (i rest : ℕ) (d : Extent) → i < length extents → (get_or extents i d).len ≤ rest → slice_get (blocks_of (drop i extents)) rest ≡ slice_get (blocks_of (drop (i + 1) extents)) (rest - (get_or extents i d).len)
block_later extents i rest d lt past =
    let x : Extent = get_or extents i d in
    let behind : List ℕ = blocks_of (drop (i + 1) extents) in
    ap (λ (l : List Extent). slice_get (blocks_of l) rest) (drop_more extents i d lt)
    ∙ get_back (range_with_len x.start x.len) behind rest (omega (arith, length-range x.start x.len))
    ∙ ap (λ (n : ℕ). slice_get behind (rest - n)) (length-range x.start x.len)

lawful_at : (extents : List Extent) (i : ℕ) (d : Extent) → list_all is_lawful_extent extents ≡ true → i < length extents → (get_or extents i d).start + (get_or extents i d).len < 2 ^ 32
lawful_at [] i d lawful lt = absurd (omega arith)
lawful_at (x ∷ extents) zero d lawful lt =
    ltb-true (x.start + x.len) (2 ^ 32) (and_parts (leb 1 x.len) (ltb (x.start + x.len) (2 ^ 32)) (and_parts (is_lawful_extent x) (list_all is_lawful_extent extents) lawful).0).1
lawful_at (x ∷ extents) (suc i) d lawful lt = lawful_at extents i d (and_parts (is_lawful_extent x) (list_all is_lawful_extent extents) lawful).1 (omega arith)

-- extents as a manifest has them, of no more blocks than there are numbers
pub lawful_within : (extents : List Extent) → list_all is_lawful_extent extents ≡ true → length (blocks_of extents) ≤ 4294967295 → AreWithin extents
lawful_within extents lawful few = record { each = λ i d lt. let at = lawful_at extents i d lawful lt in omega (arith, at); few = few }

-- the extents of a writer
pub written_within : (xs ys : List Extent) (pending : List Entry) (count : ℕ) → ys ≡ xs → AreMaximal xs → EndWithin xs → blocks_needed xs pending ≤ count → count ≤ 33554432 → AreMaximal ys × AreWithin ys
written_within xs ys pending count same maximal within few fits =
    subst (λ (l : List Extent). AreMaximal l × AreWithin l) (sym same) (maximal, record { each = within; few = omega (arith, few, fits) })
