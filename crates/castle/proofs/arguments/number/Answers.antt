use Rattle.std.proofs.Common.{sym, ◌∙◌}
use Rattle.castle.proofs.ArgumentLemmas.{number_too_great}
use Rattle.castle.proofs.arguments.number.Goals as goal

pub returns-in_default : goal.returns-in_default
returns-in_default c =
    number_too_great 32 c.args.least c.args.most c.args.word.now c.parse.result c.in_default.field-0
    (sym c.is_numeral.ensures ∙ c.if-not-is_numeral.false) c.parse.ensures.value.0 c.in_default.is c.ranges.most.fits
