-- Pairs in a list of chunks, of which the last is the one that is filled.
use Rattle.std.specs.Prelude.{◌≡◌, ℕ, ◌+◌, ◌-◌, ◌<◌, ◌≤◌, List, [], ◌++◌, length, slice_index_or, slice_range}
use Rattle.strat_arena.specs.declared.arena.PairPlace.{PairPlace}
use Rattle.strat_arena.specs.ChunkView.{ChunkView}
use Rattle.strat_arena.specs.ArenaView.{KeyValue}

-- the chunk with this number
abbrev pub chunk_at : List ChunkView → ℕ → ChunkView
chunk_at chunks n = slice_index_or chunks n (record { bytes = []; capacity = 0 })

-- the chunk that is filled
abbrev pub newest : List ChunkView → ChunkView
newest chunks = chunk_at chunks (length chunks - 1)

-- the pair of a place
abbrev pub pair_at : List ChunkView → PairPlace → KeyValue
pair_at chunks place = record {
  key = slice_range (chunk_at chunks place.chunk).bytes place.start place.mid;
  value = slice_range (chunk_at chunks place.chunk).bytes place.mid place.end;
}

-- a place lies within the bytes of its chunk
pub record LiesWithin (chunks : List ChunkView) (place : PairPlace) : Type 0 where
  pub known : place.chunk < length chunks
  pub key : place.start ≤ place.mid
  pub value : place.mid ≤ place.end
  pub within : place.end ≤ length (chunk_at chunks place.chunk).bytes

-- the chunk that is filled holds all that is used and all that is spare, and has no byte beyond what is used
pub record HasSpace (chunks : List ChunkView) (used spare : ℕ) : Type 0 where
  pub room : used + spare ≤ (newest chunks).capacity
  pub written : length (newest chunks).bytes ≤ used

-- chunks were only added, and bytes only appended
pub record Extends (old new : List ChunkView) : Type 0 where
  pub longer : length old ≤ length new
  pub each : (n : ℕ) → n < length old
      → (more : List ℕ) × ((chunk_at new n).bytes ≡ (chunk_at old n).bytes ++ more)
