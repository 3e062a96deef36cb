use Rattle.std.proofs.Common.{◌≡◌, ℕ, List, length, sym, ap, ◌∙◌, arith}
use Rattle.std.proofs.lemmas.Result.{IfOk-weaker}
use Rattle.strat_base.specs.Tree.{Parents, parent_of}
use Rattle.strat_live.specs.Counting.{SameParents}
use Rattle.def_split.specs.Plan.{IsSplit}
use Rattle.def_state.specs.Counted.{own_at, keys_at}
use Rattle.strat_split.specs.Placing.{IsDivided}
use Rattle.strat_split.specs.PlanSeen.{plan_seen}
use Rattle.strat_split.specs.Survey.{told, Told, AreCounted}
use Rattle.strat_split.specs.declared.parts.Plan.{Plan}
use Rattle.strat_split.proofs.SplitLemmas.{divided_split, counted_lawful, own_counted, live_counted}
use Rattle.strat_split.proofs.split.plan.Goals as goal

pub returns-clause-ok : goal.returns-clause-ok
returns-clause-ok c = λ parents groups same counted.
    let own_same : (told c.survey_of-survey.result).own ≡ c.args.counts.now.own = ap (λ (t : Told). t.own) c.survey_of-survey.ensures.ok in
    let live_same : (told c.survey_of-survey.result).live ≡ c.args.counts.now.live = ap (λ (t : Told). t.live) c.survey_of-survey.ensures.ok in
    let len : length (told c.survey_of-survey.result).own ≡ c.args.horizon = ap (λ (ns : List ℕ). length ns) own_same ∙ c.requires.len in
    let parents_same : (told c.survey_of-survey.result).parents ≡ c.args.tree.now.parents = ap (λ (t : Told). t.parents) c.survey_of-survey.ensures.ok in
    let agree : SameParents (length (told c.survey_of-survey.result).own) parents (told c.survey_of-survey.result).parents = λ v lt. same v (omega arith) ∙ ap (λ (ps : Parents). parent_of ps v) (sym parents_same) in
    let lawful : AreCounted (told c.survey_of-survey.result) = counted_lawful (told c.survey_of-survey.result) c.survey_of-survey.ensures.kept parents groups c.args.counts.now own_same live_same agree counted in
    IfOk-weaker c.split.result (λ (plan : Plan). IsDivided (told c.survey_of-survey.result) plan.part_of plan.parts) (λ (plan : Plan). IsSplit parents (own_at groups) (keys_at parents groups) (plan_seen plan))
    (λ (plan : Plan) divided. divided_split (told c.survey_of-survey.result) lawful plan.part_of plan.parts divided parents agree (own_at groups) (keys_at parents groups)
    (own_counted (told c.survey_of-survey.result) c.survey_of-survey.ensures.kept parents groups c.args.counts.now own_same live_same agree counted)
    (live_counted (told c.survey_of-survey.result) c.survey_of-survey.ensures.kept parents groups c.args.counts.now own_same live_same agree counted))
    (c.split.ensures.ok lawful)
