use Rattle.std.proofs.Common.{◌<◌, ◌+◌, ◌-◌, ◌/◌, ℕ, length, List, sym, ◌∙◌, arith}
use Rattle.std.proofs.lemmas.List.{length-map}
use Rattle.strat_arena.specs.ArenaView.{KeyValue}
use Rattle.strat_arena.specs.PoolView.{arena_at}
use Rattle.strat_arena.specs.Items.{entry_of_item, entries_of}
use Rattle.strat_level.proofs.PlaceLemmas.{less_before, greater_after}
use Rattle.strat_level.proofs.ItemLemmas.{compared_at}
use Rattle.strat_level.proofs.search.place_of.Goals as goal

pub loop-low-preserved-in-Less : goal.loop-low-preserved-in-Less
loop-low-preserved-in-Less c =
    let pairs : List KeyValue = (arena_at c.args.pool.now c.args.arena).pairs in
    let mid : ℕ = c.loop-low.low + (c.loop-low.high - c.loop-low.low) / 2 in
    let within : mid < length c.args.items.now = omega arith in
    let held : mid < length (entries_of pairs c.args.items.now) = omega (arith, length-map c.args.items.now (entry_of_item pairs)) in
    record {
      order = omega arith;
      within = c.loop-low.invariant.within;
      before = less_before (entries_of pairs c.args.items.now) c.requires.kept c.args.key.now c.args.version mid held
          (λ d. compared_at pairs c.args.items.now mid _ d c.args.key.now c.args.version within ∙ sym c.in-Less.ensures.ok);
      after = c.loop-low.invariant.after;
    }

pub loop-low-preserved : goal.loop-low-preserved
loop-low-preserved c =
    let pairs : List KeyValue = (arena_at c.args.pool.now c.args.arena).pairs in
    let mid : ℕ = c.loop-low.low + (c.loop-low.high - c.loop-low.low) / 2 in
    let within : mid < length c.args.items.now = omega arith in
    record {
      order = omega arith;
      within = omega arith;
      before = c.loop-low.invariant.before;
      after = λ k d le lt. greater_after (entries_of pairs c.args.items.now) c.requires.kept c.args.key.now c.args.version mid
          (λ e. compared_at pairs c.args.items.now mid _ e c.args.key.now c.args.version within ∙ sym c.in-Greater.ensures.ok)
          k d le (omega (arith, length-map c.args.items.now (entry_of_item pairs)));
    }
