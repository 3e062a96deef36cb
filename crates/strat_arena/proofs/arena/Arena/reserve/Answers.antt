use Rattle.std.proofs.Common.{◌<◌, ℕ, List, length, get_or, map, sym, ap, ◌∙◌, subst, arith}
use Rattle.std.proofs.lemmas.List.{length-map}
use Rattle.strat_arena.specs.declared.arena.PairPlace.{PairPlace}
use Rattle.strat_arena.specs.ArenaView.{ArenaView, total_size}
use Rattle.strat_arena.specs.Chunks.{pair_at, LiesWithin}
use Rattle.strat_arena.proofs.ChunkLemmas.{pairs_kept, place_kept}
use Rattle.strat_arena.proofs.arena.Arena.reserve.Goals as goal

pub invariant_of-self-2 : goal.invariant_of-self-2
invariant_of-self-2 c =
    let a = c.self.inside in
    let kept = c.self.invariant in
    let chunks = c.make_space.new.chunks.items in
    let grown = c.make_space.ensures.same in
    let items = c.reserve.ensures.items in
    let total = ap total_size (sym (pairs_kept a.chunks.items chunks grown a.places.items kept.placed)) in
    let asked = rw (← c.self.view_is) at c.requires.fits in
    let long = length-map a.places.items (pair_at a.chunks.items) in
    record {
      placed = subst (λ (ps : List PairPlace). (k : ℕ) (d : PairPlace) → k < length ps → LiesWithin chunks (get_or ps k d)) (sym items)
          (λ k d within. place_kept a.chunks.items chunks grown (get_or a.places.items k d) (kept.placed k d within));
      used = kept.used ∙ total ∙ ap (λ (ps : List PairPlace). total_size (map (pair_at chunks) ps)) (sym items);
      space = c.in_ok-spare.ensures.ok;
      places_room = omega (arith, kept.places_room, c.reserve.ensures.capacity, c.reserve.ensures.len, c.in_ok-reserve.ensures.ok, c.max-self-inside.ensures);
      numbers = omega (arith, kept.numbers, c.reserve.ensures.len, c.max-self-inside.ensures);
      backed = λ _. c.in_ok-spare.ensures.found;
    }

pub returns-clause-same : goal.returns-clause-same
returns-clause-same c =
    let a = c.self.inside in
    let chunks = c.make_space.new.chunks.items in
    ap (map (pair_at chunks)) c.reserve.ensures.items
    ∙ pairs_kept a.chunks.items chunks c.make_space.ensures.same a.places.items c.self.invariant.placed
    ∙ ap (λ (v : ArenaView). v.pairs) c.self.view_is
