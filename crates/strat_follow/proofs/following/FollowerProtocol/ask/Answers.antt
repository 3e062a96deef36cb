use Rattle.std.proofs.Common.{refl, sym, inl, inr}
use Rattle.strat_base.specs.ChangeView.{change_of}
use Rattle.strat_model.specs.declared.replies.Refusal.TheVariants as why
use Rattle.strat_model.specs.Answer.{refusal}
use Rattle.def_follow.specs.Following as kept
use Rattle.def_follow.specs.Following.{Receipt}
use Rattle.def_follow.specs.Numbered.{Numbered}
use Rattle.strat_follow.proofs.TurnLemmas.{gap_is, old_is, take_is}
use Rattle.strat_follow.proofs.following.FollowerProtocol.ask.Goals as goal

pub returns-in_default-clause-none : goal.returns-in_default-clause-none
returns-in_default-clause-none c =
    let r : Receipt = record { number = c.number_of.result; fate = kept.Malformed; next = c.args.changes } in (
      record { tag = c.number_of.result; answer = refusal why.Malformed; sent = c.write_receipt.new.out },
      record {
        declines = record { receipt = r; passes = inl (record { none = (c.in_default.ensures).none; receipt = (λ i. record { number = c.number_of.ensures i; fate = kept.Malformed; next = c.args.changes }) }); tag = refl; answer = refl; sent = c.write_receipt.ensures.ok };
        calm = refl;
      },
      refl,
    )

pub returns-in-Old-clause-none : goal.returns-in-Old-clause-none
returns-in-Old-clause-none c =
    let n : Numbered = record { number = c.in-Some.number; change = change_of c.in-Some.change } in
    let r : Receipt = record { number = c.in-Some.number; fate = kept.Old; next = c.args.changes } in (
      record { tag = c.in-Some.number; answer = refusal why.Malformed; sent = c.write_receipt-in-Old.new.out },
      record {
        declines = record { receipt = r; passes = inr (record { n = n; spelled = (c.in-Some.ensures).ok; turn = inl (old_is c.args.changes c.in-Some.number (sym (c.in-Old.ensures)), refl); number = refl; next = refl }); tag = refl; answer = refl; sent = c.write_receipt-in-Old.ensures.ok };
        calm = refl;
      },
      refl,
    )

pub returns-in-Gap-clause-none : goal.returns-in-Gap-clause-none
returns-in-Gap-clause-none c =
    let n : Numbered = record { number = c.in-Some.number; change = change_of c.in-Some.change } in
    let r : Receipt = record { number = c.in-Some.number; fate = kept.Gap; next = c.args.changes } in (
      record { tag = c.in-Some.number; answer = refusal why.Malformed; sent = c.write_receipt-in-Gap.new.out },
      record {
        declines = record { receipt = r; passes = inr (record { n = n; spelled = (c.in-Some.ensures).ok; turn = inr (gap_is c.args.changes c.in-Some.number (sym (c.in-Gap.ensures)), refl); number = refl; next = refl }); tag = refl; answer = refl; sent = c.write_receipt-in-Gap.ensures.ok };
        calm = refl;
      },
      refl,
    )
