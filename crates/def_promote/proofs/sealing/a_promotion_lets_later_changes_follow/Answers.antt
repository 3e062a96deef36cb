use Rattle.std.proofs.Common.{sym, subst}
use Rattle.def_split.specs.Groups.{grouped_entries}
use Rattle.def_state.specs.Sound.{IsSound}
use Rattle.def_state.specs.State.{State, versions_of}
use Rattle.def_state.proofs.SoundLemmas.{ordered}
use Rattle.def_promote.specs.Promoted.{SaysTheSame, fresh_of_groups}
use Rattle.def_promote.specs.Purge.{entries_over}
use Rattle.def_promote.specs.Sealed.{sealed_at}
use Rattle.def_promote.proofs.PromotedLemmas.{groups_replace}
use Rattle.def_promote.proofs.SealedLemmas.{before_ordered, follows_says, follows_sound}
use Rattle.def_promote.proofs.sealing.a_promotion_lets_later_changes_follow.Goals as goal

pub returns : goal.returns
returns c = record {
  says = λ s sealed rest j taken kept fresh entries over written next_array sound parts r. follows_says s sound sealed rest parts j taken kept fresh entries over r written next_array;
  sound = λ s sealed rest j taken kept fresh entries over written next_array sound parts r. follows_sound s sound sealed rest parts j taken kept fresh entries over r written next_array;
  groups = λ s sealed rest j taken kept groups own seen plan first written next_array final sound parts promotes is.
      let old : State = sealed_at s sealed in
      let r = groups_replace old (before_ordered s (ordered s sound) sealed rest parts) j taken kept groups own seen plan first promotes in
      let fresh = fresh_of_groups old j kept groups plan first in
      let entries = grouped_entries groups in
      let over = entries_over (versions_of old) kept entries in
      subst (λ (x : State). SaysTheSame s x × IsSound x) (sym is) (
        follows_says s sound sealed rest parts j taken kept fresh entries over r written next_array,
        follows_sound s sound sealed rest parts j taken kept fresh entries over r written next_array,
      );
}
