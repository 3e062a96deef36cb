use Rattle.std.proofs.Common.{◌≡◌, ◌<◌, [], Some, length, map, refl, sym, ◌∙◌, arith}
use Rattle.std.specs.List.{slice_get}
use Rattle.std.proofs.lemmas.List.{get_or_read, length-map}
use Rattle.std.proofs.lemmas.Option.{slice_get_read, slice_get_within}
use Rattle.strat_array.specs.Progress.{ArrayProgress}
use Rattle.def_split.specs.Plan.{members}
use Rattle.strat_split.specs.PlanSeen.{part_seen, plan_seen}
use Rattle.strat_promote.proofs.DescribingLemmas.{none_described, one_described, described}
use Rattle.strat_promote.proofs.seal.describe_each.Goals as goal

pub loop-q-init : goal.loop-q-init
loop-q-init c =
    none_described (plan_seen c.args.plan.now) c.args.writers.now c.in_ok-tags.tags.items c.new-arrays.result (length c.args.plan.now.parts)
    (sym (length-map c.args.plan.now.parts part_seen)) c.in_ok-tags.ensures.ok c.new-arrays.ensures.ok

pub loop-q-preserved : goal.loop-q-preserved
loop-q-preserved c =
    let plan = c.args.plan.now in
    let q = c.loop-q.q in
    let w : ArrayProgress = c.index-writers-q.result in
    let within : q < length c.args.writers.now = omega (arith, c.loop-q-test.true) in
    let below : q < length plan.parts = omega (arith, within, c.requires.len) in
    let seen : length (map part_seen plan.parts) ≡ length plan.parts = length-map plan.parts part_seen in
    let there : slice_get c.args.writers.now q ≡ Some w = slice_get_read c.args.writers.now _ q w refl within c.index-writers-q.is in
    let tag : c.replace-tag.result ≡ members (plan_seen plan) q =
    c.replace-tag.ensures.value
    ∙ get_or_read c.loop-q.tags.items q c.index_mut.result.now (omega (arith, c.loop-q.invariant.tagged, below, seen)) c.index_mut.ensures.value []
    ∙ c.loop-q.invariant.left q (omega arith) (omega (arith, below, seen)) in
    one_described (plan_seen plan) q c.args.writers.now c.loop-q.tags.items c.loop-q.arrays c.push.new.self w c.in_ok-desc.desc c.replace-tag.new.dest c.loop-q.invariant there
    (described plan q w c.get-part.result.now c.replace-tag.result c.in_ok-desc.desc below c.get-part.ensures.ok tag c.in_ok-desc.ensures.ok c.in_ok-desc.ensures.found
    c.in_ok-desc.ensures.kept.0 c.in_ok-desc.ensures.kept.1)
    c.in_default.ensures.ok

pub returns-clause-ok : goal.returns-clause-ok
returns-clause-ok c = λ q w at.
    c.loop-q.invariant.each q w (let within = slice_get_within c.args.writers.now q w at in omega (arith, within, c.loop-q-test.false)) at
