use Rattle.std.proofs.Common.{◌≡◌, ◌<◌, false, [], length, sym, ◌∙◌, subst, arith}
use Rattle.strat_array.specs.Told.{TheirPairs, TellsFound, AddsPair}
use Rattle.def_state.specs.LookUp.{looked_up}
use Rattle.strat_cursor.specs.Looking.{levels_there, decides}
use Rattle.strat_store.specs.Filtering.{on_disk_filtered}
use Rattle.strat_store.proofs.LookLemmas.{passes_on, passing_answers, passed_all, reads_left, few_unrefused, adds_none}
use Rattle.strat_store.proofs.level_lookup.get_from_levels.Goals as goal
use Rattle.strat_cursor.proofs.ThroughLemmas.{through_trans, still_cached}

pub returns-in_err-seen-clause-same : goal.returns-in_err-seen-clause-same
returns-in_err-seen-clause-same g c = through_trans _ _ _ _ _ _ _ c.loop-above.invariant.0.looks c.ask_level.ensures.same

pub returns-in_err-seen-clause-kept : goal.returns-in_err-seen-clause-kept
returns-in_err-seen-clause-kept g c = λ f next exposed few own cached.
    still_cached _ _ f next _ _ _ (through_trans _ _ _ _ _ _ _ c.loop-above.invariant.0.looks c.ask_level.ensures.same) exposed few own cached

pub returns-in_err-seen-clause-reads : goal.returns-in_err-seen-clause-reads
returns-in_err-seen-clause-reads g c = λ n each.
    let within : c.loop-above.above < length c.args.held.now.published.levels = omega (arith, c.get-first.ensures.len, c.loop-above-test.true) in
    let so_far = c.loop-above.invariant.3 n each in
    let step = c.ask_level.ensures.reads n (few_unrefused c.args.held.now.filters c.args.held.now.memory.parents c.args.held.now.published.levels c.args.v c.args.key.now n c.loop-above.above within each) in
    let left = reads_left c.args.held.now.filters c.args.held.now.memory.parents c.args.held.now.published.levels c.args.v c.args.key.now n c.loop-above.above within in
    record {
      later = omega (arith, so_far.0, step.later);
      bound = omega (arith, so_far.1, step.bound, left);
    }

pub returns-then-decides-clause-found : goal.returns-then-decides-clause-found
returns-then-decides-clause-found g c = λ f next exposed ordered own numbered cached.
    subst (λ (p : TheirPairs). TellsFound (looked_up (on_disk_filtered f c.args.held.now.filters) c.args.held.now.memory.parents [] (levels_there c.args.held.now.published.levels) c.args.v c.args.key.now) c.args.key.now p c.ask_level.new.out c.in_ok-seen.seen) c.loop-above.invariant.1
    (passing_answers _ _ c.args.held.now.filters c.args.held.now.published.levels c.args.held.now.memory.parents c.args.key.now c.args.v c.loop-above.above c.args.cache.now c.loop-above.cache (g.D.Disk.view c.ask_level.new.disk) c.ask_level.new.cache c.loop-above.out c.ask_level.new.out c.in_ok-seen.seen
    (omega (arith, c.get-first.ensures.len, c.loop-above-test.true)) c.loop-above.invariant.0 c.in_ok-seen.ensures.found (sym c.decides.ensures.ok ∙ c.if-decides.true) f next exposed ordered own numbered cached)

pub returns-then-decides-clause-len : goal.returns-then-decides-clause-len
returns-then-decides-clause-len g c = subst (λ (p : TheirPairs). AddsPair p c.ask_level.new.out c.in_ok-seen.seen) c.loop-above.invariant.1 c.in_ok-seen.ensures.len

pub returns-then-decides-clause-same : goal.returns-then-decides-clause-same
returns-then-decides-clause-same g c = through_trans _ _ _ _ _ _ _ c.loop-above.invariant.0.looks c.ask_level.ensures.same

pub returns-then-decides-clause-kept : goal.returns-then-decides-clause-kept
returns-then-decides-clause-kept g c = λ f next exposed few own cached.
    still_cached _ _ f next _ _ _ (through_trans _ _ _ _ _ _ _ c.loop-above.invariant.0.looks c.ask_level.ensures.same) exposed few own cached

pub returns-then-decides-clause-reads : goal.returns-then-decides-clause-reads
returns-then-decides-clause-reads g c = λ n each.
    let within : c.loop-above.above < length c.args.held.now.published.levels = omega (arith, c.get-first.ensures.len, c.loop-above-test.true) in
    let so_far = c.loop-above.invariant.3 n each in
    let step = c.ask_level.ensures.reads n (few_unrefused c.args.held.now.filters c.args.held.now.memory.parents c.args.held.now.published.levels c.args.v c.args.key.now n c.loop-above.above within each) in
    let left = reads_left c.args.held.now.filters c.args.held.now.memory.parents c.args.held.now.published.levels c.args.v c.args.key.now n c.loop-above.above within in
    record {
      later = omega (arith, so_far.0, step.later);
      bound = omega (arith, so_far.1, step.bound, left);
    }

pub loop-above-preserved : goal.loop-above-preserved
loop-above-preserved g c =
    let within : c.loop-above.above < length c.args.held.now.published.levels = omega (arith, c.get-first.ensures.len, c.loop-above-test.true) in
    let none : decides c.in_ok-seen.seen ≡ false = sym c.decides.ensures.ok ∙ c.if-decides.false in (
      passes_on _ _ c.args.held.now.filters c.args.held.now.published.levels c.args.held.now.memory.parents c.args.key.now c.args.v c.loop-above.above c.args.cache.now c.loop-above.cache (g.D.Disk.view c.ask_level.new.disk) c.ask_level.new.cache c.loop-above.out c.ask_level.new.out c.in_ok-seen.seen
          within c.loop-above.invariant.0 c.ask_level.ensures.same c.in_ok-seen.ensures.found none,
      adds_none _ _ c.in_ok-seen.seen c.in_ok-seen.ensures.len none ∙ c.loop-above.invariant.1,
      c.in_ok-seen.ensures.cause.ok ∙ c.loop-above.invariant.2,
      λ n each.
          let so_far = c.loop-above.invariant.3 n each in
          let step = c.ask_level.ensures.reads n (few_unrefused c.args.held.now.filters c.args.held.now.memory.parents c.args.held.now.published.levels c.args.v c.args.key.now n c.loop-above.above within each) in
          let left = reads_left c.args.held.now.filters c.args.held.now.memory.parents c.args.held.now.published.levels c.args.v c.args.key.now n c.loop-above.above within in
          (omega (arith, so_far.0, step.later), omega (arith, so_far.1, step.bound, left)),
    )

pub returns-clause-kept : goal.returns-clause-kept
returns-clause-kept g c = λ f next exposed few own cached. still_cached _ _ f next _ _ _ c.loop-above.invariant.0.looks exposed few own cached

pub returns-clause-reads : goal.returns-clause-reads
returns-clause-reads g c = λ n each.
    let so_far = c.loop-above.invariant.3 n each in
    record { later = so_far.0; bound = omega (arith, so_far.1) }

pub returns-clause-found : goal.returns-clause-found
returns-clause-found g c = λ f next exposed ordered own numbered cached. (
  passed_all _ _ c.args.held.now.filters c.args.held.now.published.levels c.args.held.now.memory.parents c.args.key.now c.args.v c.loop-above.above c.args.cache.now c.loop-above.cache (omega (arith, c.get-first.ensures.len, c.loop-above-test.false)) c.loop-above.invariant.0
      f next exposed ordered own numbered cached,
  c.loop-above.invariant.1,
)
