-- What an export wrote that ended so.
use Rattle.std.specs.Prelude.{◌≡◌, ◌≢◌, ◌<◌, ℕ, ◌++◌, List, length, take, Option}
use Rattle.def_bulk.specs.Exporting.{exported}
use Rattle.def_crash.specs.Faults.{Rose}
use Rattle.strat_io.specs.Streams.{Appends}
use Rattle.strat_model.specs.Pairs.{Pairs}
use Rattle.strat_model.specs.declared.ended.Ended.{Ended}
use Rattle.strat_model.specs.declared.ended.Ended.TheVariants as ended

-- what is written of some pairs was written whole, or where the sink failed the front of it
abbrev pub WritesPairs : Ended → Option (List ℕ) → Option (List ℕ) → Pairs → Type 0
WritesPairs ended.Sink before now pairs =
    (n : ℕ) × (n < length (exported pairs)) × Appends before now (take n (exported pairs))
WritesPairs _ before now pairs = Appends before now (exported pairs)

-- these pairs are a map where an export is done, and otherwise its first ones
abbrev pub AreTold : Ended → Pairs → Pairs → Type 0
AreTold ended.Done told map = told ≡ map
AreTold _ told map = (rest : Pairs) × (map ≡ told ++ rest)

-- a walk over the pairs of a version may end so: all were written, or the disk, a block or the sink failed
abbrev pub EndsWalk : Ended → Type 0
EndsWalk ended.Done = Unit {0}
EndsWalk ended.Device = Unit {0}
EndsWalk (ended.Damaged block) = Unit {0}
EndsWalk ended.Sink = Unit {0}
EndsWalk _ = ⊥

-- an export may end so, or has no such version, or no memory
abbrev pub EndsExport : Ended → Type 0
EndsExport ended.UnknownVersion = Unit {0}
EndsExport ended.NoMemory = Unit {0}
EndsExport how = EndsWalk how

-- where the store stands on the disk and nothing failed an export ends so
abbrev pub EndsStanding : Ended → Type 0
EndsStanding ended.Done = Unit {0}
EndsStanding ended.UnknownVersion = Unit {0}
EndsStanding ended.NoMemory = Unit {0}
EndsStanding _ = ⊥

-- an export that ended so wrote nothing and read nothing
abbrev pub IsUnbegun : Ended → Type 0
IsUnbegun ended.UnknownVersion = Unit {0}
IsUnbegun ended.NoMemory = Unit {0}
IsUnbegun _ = ⊥

-- when a count of faults rose: that of the disk or the sink where the end names it, and no other
pub record ExportHasCause (how : Ended) (disk_before disk_now sink_before sink_now : ℕ)
    : Type 0 where
  pub device : how ≡ ended.Device → Rose disk_before disk_now
  pub sink : how ≡ ended.Sink → Rose sink_before sink_now
  pub disk_same : how ≢ ended.Device → disk_now ≡ disk_before
  pub sink_same : how ≢ ended.Sink → sink_now ≡ sink_before
