use Rattle.std.proofs.Common.{refl, arith, ◌+◌, ◌*◌}
use Rattle.std.proofs.lemmas.Bool.{le-leb}
use Rattle.def_state.specs.Sound.{journal_max}
use Rattle.def_state.specs.State.{deep}
use Rattle.def_state.proofs.laws.a_new_store_is_sound.Goals as goal

pub returns : goal.returns
returns c = record {
  sound = λ mem changes_max versions_max. record {
    formed = record { tree = refl; pruned = refl; numbered = refl; accepted = refl; fits = le-leb 0 (journal_max mem) (omega arith) };
    stratified = tt;
    roomy = refl;
    old = refl;
    settled = refl;
    described = refl;
    few = refl;
    ascending = refl;
  };
  paid = λ mem changes_max versions_max. record { shallow = refl; bounded = le-leb (0 + 4 * 0) (4 * deep mem 0 * 0) (omega arith) };
  empty = λ mem changes_max versions_max. (refl, refl);
}
