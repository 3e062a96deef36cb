use Rattle.std.proofs.Common.{◌≡◌, ◌<◌, ◌≤◌, ℕ, ◌+◌, ◌-◌, List, [], ◌∷◌, ◌++◌, length, get_or, set, map, sym, ap, ◌∙◌, subst, arith, length-set}
use Rattle.std.proofs.lemmas.List.{get_or_read}
use Rattle.strat_arena.specs.declared.arena.PairPlace.{PairPlace}
use Rattle.strat_arena.specs.ChunkView.{ChunkView}
use Rattle.strat_arena.specs.ArenaView.{ArenaView, total_size}
use Rattle.strat_arena.specs.Chunks.{chunk_at, pair_at, LiesWithin}
use Rattle.strat_arena.proofs.PushLemmas.{place_of, pushed_pairs, pushed_placed, pushed_total, pushed_space}
use Rattle.strat_arena.proofs.arena.Arena.push.Goals as goal

pub invariant_of-self : goal.invariant_of-self
invariant_of-self c =
    let a = c.self.inside in
    let kept = c.self.invariant in
    let n = c.len-last.result - 1 in
    let key = c.args.key.now in
    let value = c.args.value.now in
    let chunk = c.append_pair-place.new.chunk in
    let place = c.append_pair-place.result in
    let items = c.push_reserved.ensures.items in
    let room : 0 < a.spare_pairs = rw (← c.self.view_is) at c.requires.room in
    let fits : length key + length value ≤ a.spare_bytes = rw (← c.self.view_is) at c.requires.fits in
    let some : 0 < length a.chunks.items = kept.backed (omega arith) in
    let known : n < length a.chunks.items = omega (arith, c.len-last.ensures) in
    let old : c.index_mut.result.now ≡ chunk_at a.chunks.items n = get_or_read a.chunks.items n c.index_mut.result.now known c.index_mut.ensures.value (record { bytes = []; capacity = 0 }) in
    let appended : chunk.bytes ≡ (chunk_at a.chunks.items n).bytes ++ key ++ value = c.append_pair-place.ensures.ok ∙ ap (λ (x : ChunkView). x.bytes ++ key ++ value) old in
    let same : chunk.capacity ≡ (chunk_at a.chunks.items n).capacity = c.append_pair-place.ensures.same ∙ ap (λ (x : ChunkView). x.capacity) old in
    let is : place ≡ place_of n (chunk_at a.chunks.items n).bytes key value = c.append_pair-place.ensures.found ∙ ap (λ (x : ChunkView). place_of n x.bytes key value) old in
    let placed = pushed_placed a.chunks.items n chunk key value known appended place is a.places.items kept.placed in
    let total = pushed_total a.chunks.items n chunk key value known appended place is a.places.items kept.placed a.used_bytes kept.used in
    let last : n ≡ length a.chunks.items - 1 = omega (arith, c.len-last.ensures) in
    let after = set a.chunks.items n chunk in
    record {
      placed = subst (λ (ps : List PairPlace). (k : ℕ) (d : PairPlace) → k < length ps → LiesWithin after (get_or ps k d)) (sym items) placed;
      used = total ∙ ap (λ (ps : List PairPlace). total_size (map (pair_at after) ps)) (sym items);
      space = pushed_space a.chunks.items n chunk key value known appended place is last same a.used_bytes a.spare_bytes (a.spare_bytes - (length key + length value)) kept.space (omega arith);
      places_room = omega (arith, kept.places_room, c.push_reserved.ensures.capacity, c.push_reserved.ensures.len);
      numbers = omega (arith, kept.numbers, c.push_reserved.ensures.len);
      backed = λ _. omega (arith, length-set a.chunks.items n chunk);
    }

pub returns-clause-ok : goal.returns-clause-ok
returns-clause-ok c =
    let a = c.self.inside in
    let kept = c.self.invariant in
    let n = c.len-last.result - 1 in
    let key = c.args.key.now in
    let value = c.args.value.now in
    let chunk = c.append_pair-place.new.chunk in
    let room : 0 < a.spare_pairs = rw (← c.self.view_is) at c.requires.room in
    let some : 0 < length a.chunks.items = kept.backed (omega arith) in
    let known : n < length a.chunks.items = omega (arith, c.len-last.ensures) in
    let old : c.index_mut.result.now ≡ chunk_at a.chunks.items n = get_or_read a.chunks.items n c.index_mut.result.now known c.index_mut.ensures.value (record { bytes = []; capacity = 0 }) in
    let appended : chunk.bytes ≡ (chunk_at a.chunks.items n).bytes ++ key ++ value = c.append_pair-place.ensures.ok ∙ ap (λ (x : ChunkView). x.bytes ++ key ++ value) old in
    let is : c.append_pair-place.result ≡ place_of n (chunk_at a.chunks.items n).bytes key value = c.append_pair-place.ensures.found ∙ ap (λ (x : ChunkView). place_of n x.bytes key value) old in
    ap (map (pair_at (set a.chunks.items n chunk))) c.push_reserved.ensures.items
    ∙ pushed_pairs a.chunks.items n chunk key value known appended c.append_pair-place.result is a.places.items kept.placed
    ∙ ap (λ (v : ArenaView). v.pairs ++ record { key = key; value = value } ∷ []) c.self.view_is
