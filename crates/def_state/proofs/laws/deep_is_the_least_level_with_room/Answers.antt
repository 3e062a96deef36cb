use Rattle.def_state.proofs.SpaceLemmas.{deep_least}
use Rattle.def_state.proofs.laws.deep_is_the_least_level_with_room.Goals as goal

pub returns : goal.returns
returns c = record {
  first = λ mem n some. (deep_least mem n some).0;
  room = λ mem n some. (deep_least mem n some).1;
  least = λ mem n d some. (deep_least mem n some).2 d;
}
