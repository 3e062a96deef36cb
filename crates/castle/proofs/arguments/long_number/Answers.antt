use Rattle.std.proofs.Common.{sym, ◌∙◌, arith}
use Rattle.castle.proofs.ArgumentLemmas.{number_too_great}
use Rattle.castle.proofs.arguments.long_number.Goals as goal

pub returns-in_default : goal.returns-in_default
returns-in_default c =
    number_too_great 64 0 18446744073709551615 c.args.word.now c.parse.result c.in_default.field-0
    (sym c.is_numeral.ensures ∙ c.if-not-is_numeral.false) c.parse.ensures.value.0 c.in_default.is (omega arith)
