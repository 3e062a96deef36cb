use Rattle.def_state.proofs.LiveLemmas.{live_few, deciding_live}
use Rattle.def_state.proofs.laws.one_entry_of_a_key_is_live.Goals as goal

pub returns : goal.returns
returns c = record {
  few = λ parents entries key v tree single. live_few parents tree entries key v single;
  deciding = λ parents entries key v tree single. deciding_live parents tree entries key v single;
}
