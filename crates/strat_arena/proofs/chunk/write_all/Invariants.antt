-- The bytes that are written.
use Rattle.std.proofs.Common.{◌≡◌, ◌+◌, take}
use Rattle.strat_arena.specs.Filled.{with_bytes}
use Rattle.strat_arena.proofs.chunk.write_all.Given as goal

abbrev pub invariant-loop-byte : goal.invariant-loop-byte
invariant-loop-byte l = record {
  counted : l.at ≡ l.from + l.byte-index;
  same : l.cells.at ≡ l.initial.cells.at;
  slots : l.cells.slots ≡ with_bytes l.initial.cells.slots l.from (take l.byte-index l.piece);
}
