-- The fields of a chunk.
use Rattle.std.specs.Prelude.{◌≡◌, ◌≤◌, map, take, length, Some}
use Rattle.strat_arena.specs.ChunkView.{ChunkView}
use Rattle.strat_arena.specs.Filled.{held_bytes}
use Rattle.strat_arena.specs.declared.chunk.Chunk.TheInside.{Inside}

-- the bytes of the cells that are written
abbrev pub chunk_of : Inside → ChunkView
chunk_of c = record { bytes = held_bytes (take c.written c.cells.slots); capacity = c.capacity }

-- the fields are those of a block whose front is written
pub record IsChunk (c : Inside) : Type 0 where
  pub cells_at : c.cells.at ≡ c.start.ptr
  pub lease_at : c.lease.at ≡ c.start.ptr
  pub lease_len : c.lease.len ≡ c.capacity
  pub lease_by : c.lease.alloc ≡ c.alloc
  pub cells_len : length c.cells.slots ≡ c.capacity
  pub room : c.written ≤ c.capacity
  pub filled : take c.written c.cells.slots ≡ map Some (held_bytes (take c.written c.cells.slots))
