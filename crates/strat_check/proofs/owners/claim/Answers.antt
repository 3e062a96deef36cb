use Rattle.std.proofs.Common.{◌∙◌, get_or}
use Rattle.std.proofs.lemmas.List.{length-set}
use Rattle.strat_check.proofs.OwnerLemmas.{claimed_more, same_default}
use Rattle.strat_check.proofs.owners.claim.Goals as goal

pub loop-v-preserved : goal.loop-v-preserved
loop-v-preserved c = (
  length-set c.loop-v.owners (get_or c.args.tag.now c.loop-v.v-index 0) c.args.place ∙ c.loop-v.invariant.0,
  claimed_more c.args.owners.now c.loop-v.owners c.args.tag.now c.args.place c.loop-v.v-index (get_or c.args.tag.now c.loop-v.v-index 0) c.loop-v-test.true
      (same_default c.args.tag.now c.loop-v.v-index 0 (get_or c.args.tag.now c.loop-v.v-index 0) c.loop-v-test.true) c.requires.fits c.loop-v.invariant.0 c.loop-v.invariant.1,
)
