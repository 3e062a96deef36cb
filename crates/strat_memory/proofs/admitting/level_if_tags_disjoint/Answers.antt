use Rattle.strat_memory.proofs.TagLemmas.{not_own_tags}
use Rattle.strat_memory.proofs.admitting.level_if_tags_disjoint.Goals as goal

pub returns-in-Err-Overlap-default-clause-none : goal.returns-in-Err-Overlap-default-clause-none
returns-in-Err-Overlap-default-clause-none c =
    not_own_tags c.args.desc c.in-Err-Overlap-default.field-0-0-0 (rw c.in-Err-Overlap-default.field-0-0-is at c.in-Err-Overlap-default.ensures.cause)
