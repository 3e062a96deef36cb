-- What an arena's fields say after a pair was copied behind the bytes of its newest chunk.
use Rattle.std.proofs.Common.{◌≡◌, ◌<◌, ℕ, ◌+◌, ◌-◌, List, [], ◌∷◌, ◌++◌, length, get_or, set, take, drop, map, inl, inr, refl, sym, ap, ◌∙◌, subst, append_assoc, arith, length-append, length-set, slice_range}
use Rattle.std.proofs.lemmas.Bool.{cases_lt}
use Rattle.std.proofs.lemmas.List.{length_push, get_or-set_same, get_or_append_left, get_or_push, take_at, drop_at, take_all, map_push}
use Rattle.std.proofs.lemmas.List.Sums.{sum_by_push}
use Rattle.strat_arena.specs.declared.arena.PairPlace.{PairPlace}
use Rattle.strat_arena.specs.ChunkView.{ChunkView}
use Rattle.strat_arena.specs.ArenaView.{pair_size, total_size}
use Rattle.strat_arena.specs.Chunks.{chunk_at, newest, pair_at, LiesWithin, HasSpace, Extends}
use Rattle.strat_arena.proofs.ChunkLemmas.{pairs_kept, place_kept, extends_set}

-- a part behind another, and the last of three
part_second : (a b c : List ℕ) → slice_range ((a ++ b) ++ c) (length a) (length a + length b) ≡ b
part_second a b c =
    let long : length a + length b - length a ≡ length b = omega arith in
    ap (λ (n : ℕ). take n (drop (length a) ((a ++ b) ++ c))) long
    ∙ ap (λ (x : List ℕ). take (length b) (drop (length a) x)) (append_assoc a b c)
    ∙ ap (take (length b)) (drop_at a (b ++ c) (length a) refl) ∙ take_at b c (length b) refl

part_third : (a b c : List ℕ) → slice_range ((a ++ b) ++ c) (length a + length b) (length a + (length b + length c)) ≡ c
part_third a b c =
    ap (take (length a + (length b + length c) - (length a + length b))) (drop_at (a ++ b) c (length a + length b) (length-append a b))
    ∙ take_all (length a + (length b + length c) - (length a + length b)) c (omega arith)

-- the place of a pair behind bytes of a chunk
abbrev pub place_of : ℕ → List ℕ → List ℕ → List ℕ → PairPlace
place_of n bytes key value = record {
  chunk = n;
  start = length bytes;
  mid = length bytes + length key;
  end = length bytes + (length key + length value);
}

module _ (chunks : List ChunkView) (n : ℕ) (chunk : ChunkView) (key value : List ℕ) (known : n < length chunks)
    (appended : chunk.bytes ≡ (chunk_at chunks n).bytes ++ key ++ value) (place : PairPlace) (is : place ≡ place_of n (chunk_at chunks n).bytes key value) where
  abbrev after : List ChunkView
  after = set chunks n chunk

  abbrev before : List ℕ
  before = (chunk_at chunks n).bytes

  filled : (chunk_at after n).bytes ≡ before ++ key ++ value
  filled = ap (λ (c : ChunkView). c.bytes) (get_or-set_same chunks n chunk (record { bytes = []; capacity = 0 }) known) ∙ appended

  grown : Extends chunks after
  grown = extends_set chunks n chunk (key ++ value) known (appended ∙ append_assoc before key value)

  -- the new place has the pair
  new_pair : pair_at after place ≡ record { key = key; value = value }
  new_pair =
      let first : slice_range (chunk_at after n).bytes (length before) (length before + length key) ≡ key
      = ap (λ (x : List ℕ). slice_range x (length before) (length before + length key)) filled ∙ part_second before key value in
      let second : slice_range (chunk_at after n).bytes (length before + length key) (length before + (length key + length value)) ≡ value
      = ap (λ (x : List ℕ). slice_range x (length before + length key) (length before + (length key + length value))) filled ∙ part_third before key value in
      ap (pair_at after) is ∙ (λ j. record { key = first j; value = second j })

  new_place : LiesWithin after place
  new_place = subst (LiesWithin after) (sym is) (record {
    known = omega (arith, known, length-set chunks n chunk);
    key = omega arith;
    value = omega arith;
    within = omega (arith, ap length filled, length-append (before ++ key) value, length-append before key);
  })

  module _ (places : List PairPlace) (each : (k : ℕ) (d : PairPlace) → k < length places → LiesWithin chunks (get_or places k d)) where
    pub pushed_pairs : map (pair_at after) (places ++ place ∷ []) ≡ map (pair_at chunks) places ++ record { key = key; value = value } ∷ []
    pushed_pairs =
        let old = pairs_kept chunks after grown places each in
        map_push (pair_at after) places place ∙ (λ j. old j ++ new_pair j ∷ [])

    pub pushed_placed : (k : ℕ) (d : PairPlace) → k < length (places ++ place ∷ []) → LiesWithin after (get_or (places ++ place ∷ []) k d)
    pushed_placed k d within =
        elim (cases_lt k (length places)) [
          | inl old ↦ subst (LiesWithin after) (sym (get_or_append_left places (place ∷ []) d k old)) (place_kept chunks after grown (get_or places k d) (each k d old))
          | inr new ↦
              let last : length places ≡ k = omega (arith, length_push places place) in
              subst (LiesWithin after) (sym (get_or_push places place d k last)) new_place
        ]

    pub pushed_total : (used : ℕ) → used ≡ total_size (map (pair_at chunks) places)
        → used + (length key + length value) ≡ total_size (map (pair_at after) (places ++ place ∷ []))
    pushed_total used e =
        let more = sum_by_push pair_size (map (pair_at chunks) places) (record { key = key; value = value }) in
        ap (λ (u : ℕ). u + (length key + length value)) e ∙ sym more ∙ ap total_size (sym pushed_pairs)

  pub pushed_space : n ≡ length chunks - 1 → chunk.capacity ≡ (chunk_at chunks n).capacity → (used spare left : ℕ) → HasSpace chunks used spare
      → left + (length key + length value) ≡ spare → HasSpace after (used + (length key + length value)) left
  pushed_space last same used spare left space fits =
      let at : newest after ≡ chunk
      = ap (λ (m : ℕ). chunk_at after (m - 1)) (length-set chunks n chunk) ∙ ap (chunk_at after) (sym last)
      ∙ get_or-set_same chunks n chunk (record { bytes = []; capacity = 0 }) known in
      let was : newest chunks ≡ chunk_at chunks n = ap (chunk_at chunks) (sym last) in
      let room = space.room in
      let written = space.written in
      record {
        room = omega (arith, room, same, ap (λ (c : ChunkView). c.capacity) at, ap (λ (c : ChunkView). c.capacity) was);
        written = omega (
          arith,
          written,
          ap (λ (c : ChunkView). length c.bytes) at,
          ap (λ (c : ChunkView). length c.bytes) was,
          ap length appended,
          length-append (before ++ key) value,
          length-append before key,
        );
      }
