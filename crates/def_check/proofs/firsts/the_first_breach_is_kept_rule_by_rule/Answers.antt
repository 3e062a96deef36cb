use Rattle.def_check.proofs.FirstLemmas.{first_of_rules, first_grown}
use Rattle.def_check.proofs.firsts.the_first_breach_is_kept_rule_by_rule.Goals as goal

pub returns : goal.returns
returns c = record { first = λ s. first_of_rules s; more = λ found levels level. first_grown found levels level }
