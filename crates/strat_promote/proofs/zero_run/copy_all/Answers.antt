use Rattle.std.proofs.Common.{◌<◌, ◌++◌, ◌∷◌, [], length, List, ap, ◌∙◌, arith}
use Rattle.std.proofs.lemmas.List.{length-map}
use Rattle.strat_arena.specs.Items.{entry_of_item}
use Rattle.strat_arena.specs.PoolView.{arena_at}
use Rattle.strat_base.specs.Entries.{Entry}
use Rattle.strat_base.specs.EntryView.{entry_of}
use Rattle.strat_level.specs.Memtable.{entries_held}
use Rattle.strat_promote.proofs.ZeroLemmas.{front_next}
use Rattle.strat_promote.proofs.zero_run.copy_all.Goals as goal

pub loop-i-preserved : goal.loop-i-preserved
loop-i-preserved c =
    let within : c.loop-i.i < length (entries_held c.args.pool.now c.args.zero.now) =
    omega (arith, length-map c.args.zero.now.items (entry_of_item (arena_at c.args.pool.now c.args.zero.now.arena).pairs), c.loop-i-test.true, ap (λ xs. length xs) c.items-i-end.ensures.ok) in
    record {
      copied = c.in_ok-add_entry.ensures.ok ∙ ap (λ (es : List Entry). es ++ entry_of c.entry.result ∷ []) c.loop-i.invariant.copied
          ∙ front_next (entries_held c.args.pool.now c.args.zero.now) c.loop-i.i (entry_of c.entry.result) within (c.entry.ensures.ok (entry_of c.entry.result));
      alone = c.in_ok-add_entry.ensures.len;
      pairs = c.in_ok-add_entry.ensures.kept;
    }
