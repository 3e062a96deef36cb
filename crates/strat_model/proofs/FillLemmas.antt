-- How full a journal is after one more change.
use Rattle.std.proofs.Common.{◌≡◌, ◌≤◌, ◌<◌, ℕ, ◌+◌, ◌&&◌, Bool, true, false, inl, inr, refl, sym, ap, subst, ◌∙◌, true≢false, arith}
use Rattle.std.specs.Prelude.{if◌then◌else◌}
use Rattle.std.proofs.lemmas.Bool.{and_from, and_right, cases_lt, le-ltb, lt-ltb}
use Rattle.strat_model.specs.Answer.{accepts}
use Rattle.strat_model.specs.Request.{Request}
use Rattle.strat_model.specs.Run.{EmptiesAtOnce, IsAfter, MayFill, Position, fill_after, is_carried_out, is_change}
use Rattle.strat_model.specs.Step.{step}

-- one more, or one behind a region that is full
pub filled_below : (mem fill : ℕ) → fill < mem → fill_after mem fill ≡ fill + 1
filled_below mem fill low = ap (λ (b : Bool). if b then fill + 1 else 1) (lt-ltb fill mem low)

pub filled_full : (mem fill : ℕ) → mem ≤ fill → fill_after mem fill ≡ 1
filled_full mem fill full = ap (λ (b : Bool). if b then fill + 1 else 1) (le-ltb fill mem full)

-- a region that is full may be emptied at once
pub may_fill : (mem fill : ℕ) → 2 ≤ mem → fill ≤ mem → MayFill mem fill (fill_after mem fill)
may_fill mem fill some few = elim (cases_lt fill mem) [
  | inl low ↦ inl (omega (arith, low, some), filled_below mem fill low)
  | inr full ↦ inr (full, ap (λ (n : ℕ). n + mem) (filled_full mem fill full) ∙ (let e : 1 + mem ≡ fill + 1 = omega (arith, full, few) in e))
]

-- then no more changes are there than it takes
pub few_after : (mem fill : ℕ) → 1 ≤ mem → fill ≤ mem → fill_after mem fill ≤ mem
few_after mem fill some few = elim (cases_lt fill mem) [
  | inl low ↦ subst (λ (n : ℕ). n ≤ mem) (sym (filled_below mem fill low)) (omega (arith, low))
  | inr full ↦ subst (λ (n : ℕ). n ≤ mem) (sym (filled_full mem fill full)) some
]

-- where no more are there before and after, it was
pub one_region : (mem before after : ℕ) → MayFill mem before after → before ≤ mem → after ≤ mem → after ≡ fill_after mem before
one_region mem before after (inl more) few still = more.1 ∙ sym (filled_below mem before (omega (arith, more.1, still)))
one_region mem before after (inr anew) few still = (let e : after ≡ 1 = omega (arith, anew.0, anew.1, few) in e) ∙ sym (filled_full mem before anew.0)

-- so one position alone may follow there
pub one_after : (mem : ℕ) (at : Position) (r : Request) (a b : Position) → IsAfter mem at r a → IsAfter mem at r b → at.fill ≤ mem → a.fill ≤ mem → b.fill ≤ mem → a ≡ b
one_after mem at r a b x y few left right = λ i. record { table = (x.table ∙ sym y.table) i; fill = by (is_carried_out at r) refl i }
  where
    by : (t : Bool) → is_carried_out at r ≡ t → a.fill ≡ b.fill
    by true is = one_region mem at.fill a.fill (x.fill is) few left ∙ sym (one_region mem at.fill b.fill (y.fill is) few right)
    by false is = x.same is ∙ sym (y.same is)

-- one change comes to an empty journal
pub first_fill : (mem after : ℕ) → 1 ≤ mem → MayFill mem 0 after → after ≡ 1
first_fill mem after some (inl more) = omega (arith, more.1)
first_fill mem after some (inr anew) = absurd (omega (arith, some, anew.0))

-- a change that is accepted is carried out, and else nothing is
pub carried : (at : Position) (r : Request) → is_change r ≡ true → accepts (step at.table r).answer.reply ≡ true → is_carried_out at r ≡ true
carried at r change taken = and_from (is_change r) (accepts (step at.table r).answer.reply) change taken

pub not_carried : (at : Position) (r : Request) → is_change r ≡ false → is_carried_out at r ≡ false
not_carried at r still = ap (λ (b : Bool). b && accepts (step at.table r).answer.reply) still

pub refused_not : (at : Position) (r : Request) → accepts (step at.table r).answer.reply ≡ false → is_carried_out at r ≡ false
refused_not at r off = and_right (is_change r) (accepts (step at.table r).answer.reply) off

-- then the journal is as full as before
pub stays : (mem : ℕ) (at after : Position) (r : Request) → is_carried_out at r ≡ false → after.table ≡ (step at.table r).table → after.fill ≡ at.fill → IsAfter mem at r after
stays mem at after r off table fill = record { table = table; fill = λ done. absurd (true≢false (sym done ∙ off)); same = λ _. fill }

pub empties_none : (mem : ℕ) (at after : Position) (r : Request) → is_carried_out at r ≡ false → EmptiesAtOnce mem at r after
empties_none mem at after r off = λ done. absurd (true≢false (sym done ∙ off))

-- the position after a command where a full region is emptied at once
abbrev pub emptied_after : ℕ → Position → Request → Position
emptied_after mem at r = record {
  table = (step at.table r).table;
  fill = if is_carried_out at r then fill_after mem at.fill else at.fill;
}

fill_if : (mem fill : ℕ) (b : Bool) → b ≡ true → (if b then fill_after mem fill else fill) ≡ fill_after mem fill
fill_if mem fill b is = ap (λ (t : Bool). if t then fill_after mem fill else fill) is

pub emptied_is_after : (mem : ℕ) (at : Position) (r : Request) → 2 ≤ mem → at.fill ≤ mem → IsAfter mem at r (emptied_after mem at r)
emptied_is_after mem at r some few = record {
  table = refl;
  fill = λ done. subst (λ (n : ℕ). MayFill mem at.fill n) (sym (fill_if mem at.fill (is_carried_out at r) done)) (may_fill mem at.fill some few);
  same = λ off. ap (λ (t : Bool). if t then fill_after mem at.fill else at.fill) off;
}

pub emptied_few : (mem : ℕ) (at : Position) (r : Request) → 1 ≤ mem → at.fill ≤ mem → (emptied_after mem at r).fill ≤ mem
emptied_few mem at r some few = by (is_carried_out at r)
  where
    by : (b : Bool) → (if b then fill_after mem at.fill else at.fill) ≤ mem
    by true = few_after mem at.fill some few
    by false = few
