use Rattle.def_state.specs.State.{versions_of}
use Rattle.def_state.proofs.SoundLemmas.{ordered}
use Rattle.def_promote.specs.Purge.{entries_over}
use Rattle.def_promote.specs.Promoted.{fresh_after}
use Rattle.def_promote.proofs.ReplacedLemmas.{replaced_sound}
use Rattle.def_promote.proofs.PromotedLemmas.{promotion_says, promotion_replaces}
use Rattle.def_promote.proofs.laws.a_promotion_says_the_same.Goals as goal

pub returns : goal.returns
returns c = record {
  replaces = λ s j taken kept entries plan first is r. promotion_replaces s is j taken kept entries plan first r;
  says = λ s j taken kept entries plan first written next_array is r. promotion_says s is j taken kept entries plan first r written next_array;
  sound = λ s j taken kept entries plan first written next_array sound r.
      replaced_sound s sound j taken kept (fresh_after s j kept entries plan first) entries (entries_over (versions_of s) kept entries) (promotion_replaces s (ordered s sound) j taken kept entries plan first r) written next_array;
}
