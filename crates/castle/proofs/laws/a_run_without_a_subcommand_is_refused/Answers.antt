use Rattle.castle.proofs.laws.a_run_without_a_subcommand_is_refused.Goals as goal

pub returns : goal.returns
returns g c = record { none = λ status x y d e is. is }
