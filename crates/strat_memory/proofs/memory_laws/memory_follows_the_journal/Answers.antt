use Rattle.strat_memory.proofs.MemoryLawLemmas.{memory_follows, room_behind, room_for, entries_few}
use Rattle.strat_memory.proofs.memory_laws.memory_follows_the_journal.Goals as goal

pub returns : goal.returns
returns c = record {
  ok = λ h m change of. memory_follows h m of change;
  room = λ h m change of free. room_for h m of change free;
  fits = λ h m change of room free. room_behind h m of change room free;
  len = λ h m of. entries_few h m of;
}
