-- A store that was recovered, as its callers see it.
use Rattle.std.specs.Prelude.{ℕ, false, [], option_map}
use Rattle.strat_array.specs.Kept.{Blocks}
use Rattle.strat_gate.specs.SuperView.{super_of}
use Rattle.def_recovery.specs.Head.{Head}
use Rattle.def_slice.specs.Opened.{OpenPromotion}
use Rattle.strat_memory.specs.Held.{Held}
use Rattle.strat_memory.specs.declared.open_store.OpenStore.{OpenStore}
use Rattle.strat_memory.specs.declared.open_store.Promoting.{Promoting}
use Rattle.strat_memory.specs.Admitting.{chained_of}

-- the head of a store that was recovered
abbrev pub head_recovered : OpenStore → Head
head_recovered r = record {
  sb = super_of r.sb;
  manifest = (chained_of r.published).manifest;
  journal = r.journal.list;
}

-- a cache for so many blocks that has none
abbrev pub empty_cache : ℕ → Blocks
empty_cache cap = record { entries = []; cap = cap }

-- an open promotion as its callers see it
abbrev pub open_of : Promoting → OpenPromotion
open_of p = record {
  promotion = p.promotion;
  space = p.space;
  budget = p.budget;
  sum = p.sum;
}

-- a store that was recovered as its callers see it, with these blocks cached
abbrev pub held_of : OpenStore → Blocks → Held
held_of r cached = record {
  slot = r.slot;
  sb = super_of r.sb;
  chained = chained_of r.published;
  log = r.journal;
  memory = r.memory;
  levels = r.published.levels;
  filters = r.filters;
  promoting = option_map open_of r.promoting;
  cached = cached;
  spent = false;
}
