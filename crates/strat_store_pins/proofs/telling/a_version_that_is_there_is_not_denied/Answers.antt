use Rattle.std.proofs.Common.{◌≡◌, true, inl, inr, refl, sym, ◌∙◌}
use Rattle.strat_model.specs.declared.replies.Refusal.TheVariants as why
use Rattle.strat_model.specs.declared.replies.Reply.{Reply}
use Rattle.strat_model.specs.declared.replies.Reply.TheVariants as reply
use Rattle.strat_store.specs.Getting.{MayTellOfKey}
use Rattle.strat_store.specs.Ranging.{MayTellOfRange}
use Rattle.strat_store_pins.proofs.telling.a_version_that_is_there_is_not_denied.Goals as goal

abbrev denied : Reply
denied = reply.Refused why.UnknownVersion

of_key : (told : Reply) → told ≡ denied → MayTellOfKey told → ⊥
of_key told same (inl is) = let e : denied ≡ reply.Found = sym same ∙ is in cc
of_key told same (inr (inl is)) = let e : denied ≡ reply.Absent = sym same ∙ is in cc
of_key told same (inr (inr (inl is))) = let e : denied ≡ reply.Refused why.DeviceFault = sym same ∙ is in cc
of_key told same (inr (inr (inr is))) = let e : denied ≡ reply.Refused (why.Damaged is.0) = sym same ∙ is.1 in cc

of_range : (told : Reply) → told ≡ denied → MayTellOfRange told → ⊥
of_range told same (inl is) = let e : denied ≡ reply.Pairs is.0 = sym same ∙ is.1 in cc
of_range told same (inr (inl is)) = let e : denied ≡ reply.Refused why.DeviceFault = sym same ∙ is in cc
of_range told same (inr (inr is)) = let e : denied ≡ reply.Refused (why.Damaged is.0) = sym same ∙ is.1 in cc

pub returns : goal.returns
returns c = record {
  ok = (inr (inl refl), inl (true, refl));
  err = (inr (inr (inr (7, refl))), inr (inl refl));
  none = (of_key denied refl, of_range denied refl);
}
