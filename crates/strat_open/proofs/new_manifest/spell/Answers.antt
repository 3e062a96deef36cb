use Rattle.std.proofs.Common.{◌≡◌, ap, ◌∙◌, arith}
use Rattle.strat_open.specs.Format.{new_block}
use Rattle.strat_open.proofs.new_manifest.spell.Goals as goal

pub returns-then-format-eq1 : goal.returns-then-format-eq1
returns-then-format-eq1 c = let is : 1 ≡ c.args.format = omega arith in record { ok = c.spell_first.ensures ∙ ap new_block is }

pub returns-else-format-eq1 : goal.returns-else-format-eq1
returns-else-format-eq1 c = let is : 2 ≡ c.args.format = omega arith in record { ok = c.spell_second.ensures ∙ ap new_block is }
