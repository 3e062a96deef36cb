use Rattle.std.proofs.Common.{refl}
use Rattle.def_meaning.proofs.TableOverLemmas.{state_over}
use Rattle.def_meaning.proofs.table_laws.states_without_levels_mean_their_updates.Goals as goal

pub returns : goal.returns
returns c = record { rows = λ s. refl; ok = state_over }
