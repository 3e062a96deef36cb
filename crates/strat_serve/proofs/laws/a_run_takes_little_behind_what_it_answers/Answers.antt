use Rattle.std.proofs.Common.{length}
use Rattle.strat_serve.proofs.TableLemmas.{few_behind}
use Rattle.strat_serve.proofs.laws.a_run_takes_little_behind_what_it_answers.Goals as goal

pub returns : goal.returns
returns c = λ budget s is. few_behind s.taken s.bodies (length s.answers) is.ahead
