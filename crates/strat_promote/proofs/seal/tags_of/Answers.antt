use Rattle.std.proofs.Common.{◌++◌, ◌∷◌, [], List, ℕ, length, get_or, set, replicate, ap, ◌∙◌}
use Rattle.strat_promote.proofs.TagsLemmas.{no_members, member_more}
use Rattle.strat_promote.proofs.seal.tags_of.Goals as goal

pub loop-v-init : goal.loop-v-init
loop-v-init c =
    c.in_ok-tags.ensures.ok ∙ ap {B = List (List ℕ)} (λ (n : ℕ). replicate n []) c.len.ensures.ok ∙ no_members c.args.plan.now.part_of (length c.args.plan.now.parts)

pub loop-v-preserved : goal.loop-v-preserved
loop-v-preserved c =
    let part = get_or c.as_slice-labels.result.now c.loop-v.v 0 in
    c.in_ok-add_version.ensures.ok ∙ ap (λ (tags : List (List ℕ)). set tags part (get_or tags part [] ++ c.loop-v.v ∷ [])) c.loop-v.invariant
    ∙ member_more c.args.plan.now.part_of c.loop-v.v (length c.args.plan.now.parts) part (ap (λ (labels : List ℕ). get_or labels c.loop-v.v 0) c.as_slice-labels.ensures.ok)
