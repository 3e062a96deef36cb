-- How many blocks of arrays are read.
use Rattle.std.proofs.Common.{◌≡◌, ◌≤◌, ◌<◌, ◌+◌, ◌*◌, ◌^◌, ℕ, zero, suc, length, refl, eqb, inl, inr, List, [], ◌∷◌, ◌++◌, flat_map, sum_by, ap, ◌∙◌, arith}
use Rattle.std.specs.List.{Contains, filter}
use Rattle.std.proofs.Math.Nat.{pow-suc}
use Rattle.std.proofs.lemmas.Bool.{eq-eqb}
use Rattle.std.proofs.lemmas.List.Sums.{sum_by-cons}
use Rattle.strat_base.proofs.ListFacts.{Among, among_filter, among_in_flat}
use Rattle.strat_base.specs.declared.descriptors.ArrayDesc.{ArrayDesc}
use Rattle.def_bytes.specs.Arrays.{blocks_of}
use Rattle.def_recovery.proofs.BadLemmas.{contained_at}
use Rattle.strat_cursor.proofs.PinLemmas.{among_contained}
use Rattle.strat_cursor.specs.Cursors.{CursorOver, arrays_named, arrays_of_number}
use Rattle.strat_cursor.specs.Looking.{HaveFewBlocks, ReadsArrays, blocks_of_arrays, reads_of_arrays}
use Rattle.strat_cursor.specs.Sources.{arrays_at, reads_of_source, reads_to_seek}
use Rattle.strat_cursor.specs.declared.sources.Source.{Source}
use Rattle.strat_cursor.specs.declared.sources.Source.TheVariants as source

pub reads_joined : (n : ℕ) (xs ys : List ArrayDesc) → reads_of_arrays n (xs ++ ys) ≡ reads_of_arrays n xs + reads_of_arrays n ys
reads_joined n [] ys = omega arith
reads_joined n (a ∷ xs) ys = omega (arith, reads_joined n xs ys)

-- what sources read at most is within what is read of their arrays
pub reads_of_sources : (lo : List ℕ) (n : ℕ) (sources : List Source) → sum_by (reads_of_source (reads_to_seek lo n)) sources ≤ reads_of_arrays n (flat_map arrays_at sources)
reads_of_sources lo n [] = omega arith
reads_of_sources lo n (s ∷ sources) = omega (arith, sum_by-cons (reads_of_source (reads_to_seek lo n)) s sources, by s (reads_of_sources lo n sources))
  where
    few : (key : List ℕ) → reads_to_seek key n ≤ n + 4
    few [] = omega arith
    few (b ∷ key) = omega arith

    by : (t : Source) → sum_by (reads_of_source (reads_to_seek lo n)) sources ≤ reads_of_arrays n (flat_map arrays_at sources)
        → reads_of_source (reads_to_seek lo n) t + sum_by (reads_of_source (reads_to_seek lo n)) sources ≤ reads_of_arrays n (arrays_at t ++ flat_map arrays_at sources)
    by source.None rest = omega (arith, rest)
    by (source.Zero list) rest = omega (arith, rest)
    by (source.Array a) rest = omega (arith, rest, few lo)

-- without a search sources read the blocks of their arrays at most
pub reads_of_blocks : (sources : List Source) → sum_by (reads_of_source 0) sources ≡ blocks_of_arrays (flat_map arrays_at sources)
reads_of_blocks [] = omega arith
reads_of_blocks (s ∷ sources) = sum_by-cons (reads_of_source 0) s sources ∙ by s (reads_of_blocks sources)
  where
    by : (t : Source) → sum_by (reads_of_source 0) sources ≡ blocks_of_arrays (flat_map arrays_at sources) → reads_of_source 0 t + sum_by (reads_of_source 0) sources ≡ blocks_of_arrays (arrays_at t ++ flat_map arrays_at sources)
    by source.None rest = omega (arith, rest)
    by (source.Zero list) rest = omega (arith, rest)
    by (source.Array a) rest = omega (arith, rest)

-- a number is below its power of two
under_power : (n : ℕ) → n < 2 ^ n
under_power zero = omega arith
under_power (suc n) = let less = under_power n in rw (pow-suc 2 n) (omega arith)

-- arrays have fewer blocks than some power of two
pub few_blocks : (arrays : List ArrayDesc) → HaveFewBlocks (blocks_of_arrays arrays) arrays
few_blocks arrays a there = let own = go arrays (contained_at a arrays there.0 there.1 there.2) in omega (arith, own, under_power (blocks_of_arrays arrays))
  where
    go : (rest : List ArrayDesc) → Among a rest → length (blocks_of a.extents) ≤ blocks_of_arrays rest
    go [] among = absurd among
    go (b ∷ rest) (inl here) = let same = ap (λ (x : ArrayDesc). length (blocks_of x.extents)) here in omega (arith, same)
    go (b ∷ rest) (inr among) = omega (arith, go rest among)

-- the arrays of one cursor are among those of several
named_among : {L : Type 0} (cursors : List (CursorOver L)) (c : CursorOver L) (n : ℕ) → Among c cursors → reads_of_arrays n c.arrays ≤ reads_of_arrays n (arrays_named cursors)
named_among [] c n there = absurd there
named_among (d ∷ cursors) c n (inl here) = let same = ap (λ (x : CursorOver _). reads_of_arrays n x.arrays) here in omega (arith, same, reads_joined n d.arrays (arrays_named cursors))
named_among (d ∷ cursors) c n (inr there) = omega (arith, named_among cursors c n there, reads_joined n d.arrays (arrays_named cursors))

-- what is read of one of the cursors of a number is within what is read of their arrays
pub reads_of_one : {L : Type 0} (cursors : List (CursorOver L)) (number : ℕ) (c : CursorOver L) (before now : ℕ) → Contains cursors c → c.number ≡ number
    → ReadsArrays c.arrays before now → ReadsArrays (arrays_of_number number cursors) before now
reads_of_one {L = L} cursors number c before now there is reads = λ n few.
    let its = λ (x : CursorOver L). eqb x.number number in
    let among = among_filter its cursors c (contained_at c cursors there.0 there.1 there.2) (eq-eqb c.number number is) in
    let own = reads n (λ a of. few a (among_contained (arrays_of_number number cursors) a (among_in_flat (λ (x : CursorOver L). x.arrays) (filter its cursors) c a among (contained_at a c.arrays of.0 of.1 of.2)))) in
    record { later = own.later; bound = omega (arith, own.bound, named_among (filter its cursors) c n among) }
