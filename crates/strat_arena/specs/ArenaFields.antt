-- The fields of an arena.
use Rattle.std.specs.Prelude.{◌≡◌, ℕ, ◌+◌, ◌<◌, ◌≤◌, ◌^◌, map, length, slice_index_or, vec_capacity}
use Rattle.strat_arena.specs.declared.arena.PairPlace.{PairPlace}
use Rattle.strat_arena.specs.ArenaView.{ArenaView, total_size}
use Rattle.strat_arena.specs.Chunks.{pair_at, LiesWithin, HasSpace}
use Rattle.strat_arena.specs.declared.arena.Arena.TheInside.{Inside}

-- the arena of these fields
abbrev pub arena_in : Inside → ArenaView
arena_in a = record {
  pairs = map (pair_at a.chunks.items) a.places.items;
  spare_pairs = a.spare_pairs;
  spare_bytes = a.spare_bytes;
}

-- the fields are those of an arena
pub record IsLaidOut (a : Inside) : Type 0 where
  pub placed : (k : ℕ) (d : PairPlace) → k < length a.places.items
      → LiesWithin a.chunks.items (slice_index_or a.places.items k d)
  pub used : a.used_bytes ≡ total_size (map (pair_at a.chunks.items) a.places.items)
  pub space : HasSpace a.chunks.items a.used_bytes a.spare_bytes
  pub places_room : length a.places.items + a.spare_pairs ≤ vec_capacity a.places
  pub numbers : length a.places.items + a.spare_pairs ≤ 2 ^ 32
  pub backed : 0 < length a.places.items + a.spare_pairs → 0 < length a.chunks.items
