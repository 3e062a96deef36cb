use Rattle.def_split.specs.Plan.{horizon_of}
use Rattle.def_split.proofs.LawLemmas.{low_versions}
use Rattle.def_split.proofs.SplitLemmas.{plan_of_split}
use Rattle.def_split.proofs.laws.a_split_of_numbers_plans_entries.Goals as goal

pub returns : goal.returns
returns c = λ parents entries own seen plan low own_is seen_is split. plan_of_split parents entries own seen plan (low_versions entries (horizon_of plan) low) own_is seen_is split
