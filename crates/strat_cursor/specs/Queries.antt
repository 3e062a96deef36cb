-- What a scan asks for, and where its sources stand.
use Rattle.std.specs.Prelude.{ℕ, List}
use Rattle.strat_arena.specs.declared.pool.PoolEntry.{PoolEntry}
use Rattle.strat_array.specs.Kept.{Blocks}
use Rattle.strat_base.specs.Tree.{Parents}
use Rattle.strat_base.specs.declared.descriptors.ArrayDesc.{ArrayDesc}
use Rattle.def_crash.specs.Image.{Image}
use Rattle.strat_merge.specs.Bracket.{IsTournament}
use Rattle.strat_merge.specs.Runs.{RunView}
use Rattle.strat_cursor.specs.Contenders.{contenders}
use Rattle.strat_cursor.specs.Emitting.{AreSettled, AreUpTo, sum_over}
use Rattle.strat_cursor.specs.Picking.{AreSourcesOf}
use Rattle.strat_cursor.specs.Sources.{reads_left, steps_left}
use Rattle.strat_cursor.specs.Views.{arrays_read}
use Rattle.strat_cursor.specs.declared.query.Query.{Query}
use Rattle.strat_cursor.specs.declared.scan_buffers.SourcePosition.{SourcePosition}

-- the tree that a query's versions are of
abbrev pub tree_asked : Query → Parents
tree_asked q = q.view.now.tree.now.parents

-- the pool that has the keys and values of a query's lists
abbrev pub pool_asked : Query → List PoolEntry
pool_asked q = q.view.now.pool.now

-- the arrays that a query reads
abbrev pub arrays_queried : Query → List ArrayDesc
arrays_queried q = arrays_read q.view.now q.version

-- a query asks the sources of its view at its version
abbrev pub AsksSources : Query → Type 0
AsksSources q = AreSourcesOf q.view.now q.version q.sources.now

-- what a tournament sees of the sources that a query asks
abbrev pub contenders_asked : Query → List SourcePosition → List RunView
contenders_asked q positions = contenders (pool_asked q) q.sources.now positions

-- each source that a query asks stands at an entry at hand, at its version or an ancestor of it
abbrev pub StandSettled : Query → List SourcePosition → Type 0
StandSettled q positions =
    AreSettled (tree_asked q) q.version (pool_asked q) q.sources.now positions

-- in an image what each source that a query asks has left says of each key to come what all say
abbrev pub StandUpTo : Image → Blocks → Query → List ℕ → List ℕ → List SourcePosition → Type 0
StandUpTo f c q lo last positions =
    AreUpTo f c (pool_asked q) (tree_asked q) q.version lo last q.sources.now positions

-- a query is under way: its sources stand at entries at hand, and a tournament of them is played
abbrev pub IsUnderWay : Query → List SourcePosition → List ℕ → Type 0
IsUnderWay q positions winners =
    StandSettled q positions × IsTournament (contenders_asked q positions) winners

-- how many steps the sources that a query asks may have to go
abbrev pub steps_ahead : Query → List SourcePosition → ℕ
steps_ahead q positions = sum_over (steps_left (pool_asked q)) q.sources.now positions

-- how many blocks they have still to read at most
abbrev pub reads_ahead : Query → List SourcePosition → ℕ
reads_ahead q positions = sum_over reads_left q.sources.now positions
