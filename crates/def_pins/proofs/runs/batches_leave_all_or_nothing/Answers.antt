use Rattle.std.proofs.Common.{◌≡◌, List, [], ◌∷◌, true, refl, sym, ap, subst, inl, inr, ◌∙◌}
use Rattle.std.specs.Prelude.{◌⊎◌}
use Rattle.std.specs.List.{AllByRecursion}
use Rattle.strat_model.specs.declared.replies.Refusal.TheVariants as why
use Rattle.strat_model.specs.declared.replies.Reply.TheVariants as reply
use Rattle.strat_model.specs.Answer.{Answer}
use Rattle.strat_model.specs.Batch.{AsksForChange, IsChangeMade, IsDeviceFault}
use Rattle.strat_model.specs.Request.{Request}
use Rattle.strat_model.specs.Run.{Exchange, Interruption, IsRun, Position, is_carried_out}
use Rattle.strat_model.specs.Spelling.{Spells}
use Rattle.def_pins.proofs.runs.batches_leave_all_or_nothing.Goals as goal

-- where others follow, an interrupted body asks for a change
asked : (at : Position) (h : Interruption) (y : Exchange) (more : List Exchange) → more ≡ y ∷ [] → (more ≡ []) ⊎ AsksForChange at h.body h.response
    → (r : Request) × Spells h.body h.response.tag r × (is_carried_out at r ≡ true)
asked at h y more one (inl none) = let e : y ∷ [] ≡ [] = sym one ∙ none in absurd cc
asked at h y more one (inr made) = (made.request, made.spelled, made.made)

pub returns : goal.returns
returns c = record {
  tables = λ x after end h. refl;
  none = λ x after end. refl;
  change = λ mem xs after h y k one. asked after h y k.more one k.change;
  next = λ mem xs after h y k one. (
    (subst (λ (ms : List Exchange). IsRun mem h.done ms k.end) one k.batch.run).0,
    (subst (λ (ms : List Exchange). AllByRecursion (IsChangeMade mem) ms) one k.batch.each).0,
  );
  few = λ mem xs after h k. (k.batch.few, k.batch.run);
  whole = λ mem t k none. k.none (λ met. subst IsDeviceFault none met);
  damaged = λ mem xs after h b k is. k.none (λ met.
      let e : reply.Refused (why.Damaged b) ≡ reply.Refused why.DeviceFault = ap (λ (a : Answer). a.reply) (sym is ∙ met) in absurd cc);
  made = λ mem x made. made.made;
}
