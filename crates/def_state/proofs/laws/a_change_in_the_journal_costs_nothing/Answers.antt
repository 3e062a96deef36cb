use Rattle.def_state.proofs.laws.a_change_in_the_journal_costs_nothing.Goals as goal

pub returns : goal.returns
returns c = λ s change paid. record { shallow = paid.shallow; bounded = paid.bounded }
