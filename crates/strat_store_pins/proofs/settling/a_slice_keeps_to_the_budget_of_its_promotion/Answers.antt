use Rattle.std.proofs.Common.{◌≡◌, ◌≤◌, ◌<◌, ◌+◌, ◌*◌, ℕ, Option, Some, None, length, refl, sym, subst, arith}
use Rattle.std.specs.Prelude.{option_map}
use Rattle.def_crash.specs.Image.{Image}
use Rattle.strat_level.specs.Target.{IsTarget, leads_down_to}
use Rattle.def_publish.specs.Contents.{Contents}
use Rattle.def_slice.specs.Budget.{KeepsToBudget, SliceNumbers, budget_for}
use Rattle.def_slice.specs.Opened.{AreNumbersOf, OpenPromotion, slice_numbers}
use Rattle.strat_memory.specs.Held.{Held}
use Rattle.strat_publish.specs.Advancing.{HasMostOfKey, SlicesInBudget}
use Rattle.strat_publish.specs.Promoting.{leads_in_memory}
use Rattle.strat_store_pins.proofs.settling.a_slice_keeps_to_the_budget_of_its_promotion.Goals as goal

-- the budget of the promotion that is open
open_budget : (f : Image) (s : Held) (x : Contents) (o : OpenPromotion) (now : Option OpenPromotion) (most : ℕ) → s.promoting ≡ Some o → HasMostOfKey f s x most → SlicesInBudget f s x now
    → KeepsToBudget (slice_numbers o) most (option_map slice_numbers now)
open_budget f s x o now most going all slices =
    slices (slice_numbers o) most (subst (λ (p : Option OpenPromotion). AreNumbersOf s.sb.mem (length s.log.list) (leads_in_memory s.memory s.levels) p (slice_numbers o)) (sym going) refl) all

-- that of one that begins
abbrev begun_numbers : (s : Held) → ℕ → SliceNumbers
begun_numbers s target = record {
  budget = budget_for s.sb.mem (length s.log.list) (leads_down_to (leads_in_memory s.memory s.levels) target);
  sum = leads_down_to (leads_in_memory s.memory s.levels) target;
  taken = 0;
}

begun_budget : (f : Image) (s : Held) (x : Contents) (now : Option OpenPromotion) (target most : ℕ) → s.promoting ≡ None → IsTarget (leads_in_memory s.memory s.levels) s.sb.mem target
    → HasMostOfKey f s x most → SlicesInBudget f s x now → KeepsToBudget (begun_numbers s target) most (option_map slice_numbers now)
begun_budget f s x now target most none is all slices =
    slices (begun_numbers s target) most
    (subst (λ (p : Option OpenPromotion). AreNumbersOf s.sb.mem (length s.log.list) (leads_in_memory s.memory s.levels) p (begun_numbers s target)) (sym none) (target, is, refl)) all

pub returns-clause-same : goal.returns-clause-same
returns-clause-same c = λ f s x o now most going all slices.
    let kept = open_budget f s x o (Some now) most going all slices in (kept.0, kept.1)

pub returns-clause-ok : goal.returns-clause-ok
returns-clause-ok c = λ f s x o now most going all slices.
    let kept = open_budget f s x o (Some now) most going all slices in (kept.2, kept.3)

pub returns-clause-none : goal.returns-clause-none
returns-clause-none c = λ f s x o most going all slices. open_budget f s x o None most going all slices

pub returns-clause-found : goal.returns-clause-found
returns-clause-found c = λ f s x now target most none is all slices.
    let kept = begun_budget f s x (Some now) target most none is all slices in
    (kept.0, let least = kept.2 in let same = kept.0 in omega (arith, least, same))
