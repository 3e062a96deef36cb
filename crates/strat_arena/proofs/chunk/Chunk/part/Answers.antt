use Rattle.std.proofs.Common.{ℕ, ◌-◌, List, take, drop, sym, ap, ◌∙◌}
use Rattle.strat_arena.specs.ChunkView.{ChunkView}
use Rattle.strat_arena.specs.Filled.{held_bytes}
use Rattle.strat_arena.proofs.FilledLemmas.{bytes_back}
use Rattle.strat_arena.proofs.chunk.Chunk.part.Goals as goal

pub returns : goal.returns
returns c =
    let shown = ap held_bytes c.front-bytes.ensures ∙ bytes_back c.front-bytes.result.now in
    ap (λ (xs : List ℕ). take (c.args.end - c.args.start) (drop c.args.start xs)) (sym shown ∙ ap (λ (v : ChunkView). v.bytes) c.self.view_is)
