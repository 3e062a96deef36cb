use Rattle.std.proofs.Common.{sym, ◌∙◌}
use Rattle.std.proofs.lemmas.Bool.{OnTrue_from}
use Rattle.strat_array.specs.Kept.{is_keyed}
use Rattle.strat_array.proofs.CacheLemmas.{promoted_found, promoted_adds_none}
use Rattle.strat_array.proofs.cache.touch_block.Goals as goal

pub returns-clause-found : goal.returns-clause-found
returns-clause-found c = rw c.promote-there.ensures.entries (OnTrue_from _ _ (λ there. promoted_found (is_keyed c.args.array c.args.index) c.args.blocks.now.entries (sym c.promote-there.ensures.value ∙ there)))

pub returns-clause-kept : goal.returns-clause-kept
returns-clause-kept c = promoted_adds_none _ _ _ c.promote-there.ensures.entries
