-- The sources of a range in a tournament: the one whose first key is least wins, and of equal keys the first source.
use Rattle.std.specs.Prelude.{◌≡◌, ℕ, List, [], ◌∷◌, length, Option, None, Some, option_map, option_and_then, slice_get}
use Rattle.strat_arena.specs.declared.pool.PoolEntry.{PoolEntry}
use Rattle.strat_base.specs.Entries.{Entry}
use Rattle.strat_merge.specs.Runs.{RunView}
use Rattle.strat_cursor.specs.Sources.{MayBeRead, HasHead, first_at_source}
use Rattle.strat_cursor.specs.declared.scan_buffers.SourcePosition.{SourcePosition}
use Rattle.strat_cursor.specs.declared.sources.Source.{Source}

-- the key of an entry, at version 0
abbrev pub keyed : Entry → Entry
keyed e = record { key = e.key; version = 0; value = None }

-- what a tournament sees of a source: the key of its first entry
abbrev pub contender : Option Entry → RunView
contender head = record {
  blocks = [];
  versions = 0;
  first = option_map keyed head;
  left = λ c. [];
  misfit = λ c. None;
}

-- the first entry that the source of a number has left
abbrev pub head_in : List PoolEntry → List Source → List SourcePosition → ℕ → Option Entry
head_in pool sources positions i =
    option_and_then (λ s. option_and_then (λ d. first_at_source pool s d) (slice_get positions i))
    (slice_get sources i)

-- what a tournament sees of sources
abbrev pub contenders : List PoolEntry → List Source → List SourcePosition → List RunView
contenders pool [] positions = []
contenders pool (s ∷ sources) [] = []
contenders pool (s ∷ sources) (d ∷ positions) =
    contender (first_at_source pool s d) ∷ contenders pool sources positions

-- each source can be read, and the first entry that it has left is at hand
pub record AreAtHand (pool : List PoolEntry) (sources : List Source)
    (positions : List SourcePosition) : Type 0 where
  pub same : length positions ≡ length sources
  pub each : (i : ℕ) (s : Source) (d : SourcePosition) → slice_get sources i ≡ Some s
      → slice_get positions i ≡ Some d → MayBeRead pool s × HasHead s d
