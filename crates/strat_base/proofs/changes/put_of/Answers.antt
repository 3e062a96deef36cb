use Rattle.std.proofs.Common.{◌+◌, length, sym, ◌∙◌, ap, arith}
use Rattle.strat_base.specs.Fields.{value_in}
use Rattle.strat_base.proofs.SizeLemmas.{put_found, put_missing}
use Rattle.strat_base.proofs.PlacedLemmas.{rest_of}
use Rattle.strat_base.proofs.changes.put_of.Goals as goal

pub returns-in_err-value : goal.returns-in_err-value
returns-in_err-value c =
    rw c.from_residual-in_err-value.ensures
    (put_missing c.args.version c.args.fields.now c.in_ok-key.key.now c.in_ok-key.ensures.found (1 + length c.in_ok-key.key.now) (omega arith)
    (ap value_in (sym (rest_of c.args.fields.now (1 + length c.in_ok-key.key.now))) ∙ c.in_err-value.ensures.found))

pub returns : goal.returns
returns c =
    put_found c.args.version c.args.fields.now c.in_ok-key.key.now c.in_ok-key.ensures.found (1 + length c.in_ok-key.key.now) (omega arith) c.in_ok-value.value.now
    (ap value_in (sym (rest_of c.args.fields.now (1 + length c.in_ok-key.key.now))) ∙ c.in_ok-value.ensures.found)
