use Rattle.std.proofs.Common.{◌≡◌, ◌<◌, ℕ, ◌+◌, List, set, sym, subst}
use Rattle.strat_arena.specs.declared.pool.PoolEntry.{PoolEntry}
use Rattle.strat_arena.specs.declared.pool.ArenaPool.TheInside.{Inside}
use Rattle.strat_arena.specs.PoolView.{shares_at, count_shared}
use Rattle.strat_arena.proofs.PoolLemmas.{stays, count_released}
use Rattle.strat_arena.proofs.pool.ArenaPool.release.Goals.{then-entry-eq0, else-entry-eq0}
use Rattle.strat_arena.proofs.pool.ArenaPool.release.Goals as goal

released : (pool now : List PoolEntry) → now ≡ pool → (n : ℕ) (e : PoolEntry) → 0 < shares_at pool n
    → count_shared (set now n e) + 1 ≡ count_shared pool + stays (shares_at (set now n e) n)
released pool now same n e shared =
    subst (λ (x : List PoolEntry). count_shared (set x n e) + 1 ≡ count_shared pool + stays (shares_at (set x n e) n)) (sym same) (count_released pool n e shared)

pub returns-clause-len : goal.returns-clause-len
returns-clause-len c =
    let pool = c.args.self.now in
    let n = c.args.n in
    let P : Inside → Type 0 = λ a. count_shared a.entries.items + 1 ≡ count_shared pool + stays (shares_at a.entries.items n) in
    elim c.if-entry-eq0.branch [
      | then-entry-eq0 w ↦ subst P (sym w.self-inside-is) (released pool c.self.inside.entries.items c.self.view_is n _ c.requires.found)
      | else-entry-eq0 w ↦ subst P (sym w.self-inside-is) (released pool c.self.inside.entries.items c.self.view_is n _ c.requires.found)
    ]
