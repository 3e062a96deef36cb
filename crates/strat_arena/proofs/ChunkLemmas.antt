-- Pairs stay where they are while chunks are added and bytes appended.
use Rattle.std.proofs.Common.{◌≡◌, ◌<◌, ◌≤◌, ℕ, suc, ◌-◌, List, [], ◌∷◌, ◌++◌, length, get_or, set, take, drop, map, inl, inr, refl, sym, ap, ◌∙◌, arith, length-append, length-drop, slice_range}
use Rattle.std.proofs.lemmas.Bool.{cases_eq}
use Rattle.std.proofs.lemmas.List.{append-nil, length-set, get_or-set_same, get_or-set_other, take-append-le, drop-append-le}
use Rattle.strat_arena.specs.declared.arena.PairPlace.{PairPlace}
use Rattle.strat_arena.specs.ChunkView.{ChunkView}
use Rattle.strat_arena.specs.Chunks.{chunk_at, pair_at, LiesWithin, Extends}

-- a part within the bytes, whatever follows them
part_stays : (bytes more : List ℕ) (from to : ℕ) → from ≤ to → to ≤ length bytes → slice_range (bytes ++ more) from to ≡ slice_range bytes from to
part_stays bytes more from to ordered within =
    ap (take (to - from)) (drop-append-le from bytes more (omega arith))
    ∙ take-append-le (to - from) (drop from bytes) more (omega (arith, length-drop from bytes))

-- a pair within its chunk, whatever is added
pub pair_kept : (old new : List ChunkView) → Extends old new → (place : PairPlace) → LiesWithin old place → pair_at new place ≡ pair_at old place
pair_kept old new ext place lies =
    let grown = ext.each place.chunk lies.known in
    let bytes = (chunk_at old place.chunk).bytes in
    let key : slice_range (chunk_at new place.chunk).bytes place.start place.mid ≡ slice_range bytes place.start place.mid
    = ap (λ (x : List ℕ). slice_range x place.start place.mid) grown.1 ∙ part_stays bytes grown.0 place.start place.mid lies.key (omega (arith, lies.value, lies.within)) in
    let value : slice_range (chunk_at new place.chunk).bytes place.mid place.end ≡ slice_range bytes place.mid place.end
    = ap (λ (x : List ℕ). slice_range x place.mid place.end) grown.1 ∙ part_stays bytes grown.0 place.mid place.end lies.value lies.within in
    λ j. record { key = key j; value = value j }

-- all pairs, whatever is added
pub pairs_kept : (old new : List ChunkView) → Extends old new → (places : List PairPlace) → ((k : ℕ) (d : PairPlace) → k < length places → LiesWithin old (get_or places k d))
    → map (pair_at new) places ≡ map (pair_at old) places
pairs_kept old new ext [] each = refl
pairs_kept old new ext (place ∷ places) each =
    let first : pair_at new place ≡ pair_at old place = pair_kept old new ext place (each 0 place (omega arith)) in
    let others = pairs_kept old new ext places (λ k d lt. each (suc k) d (omega arith)) in
    λ j. first j ∷ others j

-- a place that lies within its chunk does so afterwards
pub place_kept : (old new : List ChunkView) → Extends old new → (place : PairPlace) → LiesWithin old place → LiesWithin new place
place_kept old new ext place lies =
    let grown = ext.each place.chunk lies.known in
    record {
      known = omega (arith, ext.longer, lies.known);
      key = lies.key;
      value = lies.value;
      within = omega (arith, lies.within, ap length grown.1, length-append (chunk_at old place.chunk).bytes grown.0);
    }

-- bytes are appended to a chunk
pub extends_set : (chunks : List ChunkView) (n : ℕ) (chunk : ChunkView) (more : List ℕ) → n < length chunks → chunk.bytes ≡ (chunk_at chunks n).bytes ++ more → Extends chunks (set chunks n chunk)
extends_set chunks n chunk more known appended = record {
  longer = omega (arith, length-set chunks n chunk);
  each = λ m within.
      elim (cases_eq m n) [
        | inl same ↦ (
          more,
          ap (λ (k : ℕ). (chunk_at (set chunks n chunk) k).bytes) same
              ∙ ap (λ (c : ChunkView). c.bytes) (get_or-set_same chunks n chunk (record { bytes = []; capacity = 0 }) known)
              ∙ appended ∙ ap (λ (k : ℕ). (chunk_at chunks k).bytes ++ more) (sym same),
        )
        | inr apart ↦ (
          [],
          ap (λ (c : ChunkView). c.bytes) (get_or-set_other chunks n m chunk (record { bytes = []; capacity = 0 }) apart)
              ∙ sym (append-nil (chunk_at chunks m).bytes),
        )
      ];
}
