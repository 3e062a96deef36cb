use Rattle.def_state.specs.State.{versions_of}
use Rattle.def_split.specs.Plan.{horizon_of}
use Rattle.def_split.proofs.LawLemmas.{low_versions, leads_held}
use Rattle.def_split.proofs.PlannedLemmas.{plan_stratified, rule_k, rule_m}
use Rattle.def_split.proofs.laws.the_level_of_a_plan_is_stratified.Goals as goal

pub returns : goal.returns
returns c = record {
  stratified = λ parents entries plan number first tree up low split. plan_stratified parents tree entries plan (low_versions entries (horizon_of plan) low) split number first up;
  described = λ s entries plan number first tree up low split. rule_k (versions_of s) tree entries plan (low_versions entries (horizon_of plan) low) split number first up;
  ascending = λ parents entries plan number first tree up low split. rule_m parents tree entries plan (low_versions entries (horizon_of plan) low) split number first up;
  leads = λ parents entries plan number first tree up low split e. leads_held parents tree entries plan number first up (low_versions entries (horizon_of plan) low) split e;
}
