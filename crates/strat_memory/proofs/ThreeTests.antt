-- Three or four tests that refuse in turn.
use Rattle.std.proofs.Common.{◌≡◌, Bool, true, false, not, true≢false, Some, None, refl, sym, ap}
use Rattle.std.specs.Prelude.{if◌then◌else◌}
use Rattle.strat_model.specs.declared.replies.Refusal.{Refusal}
use Rattle.strat_model.specs.Step.{Outcome, refuses}
use Rattle.strat_model.specs.Table.{Table}

-- of three tests that refuse in turn none does
pub three_none : (k f l : Bool) (a b c : Refusal) → (if not k then Some a else if f then Some b else if l then Some c else None) ≡ None → (k ≡ true) × (f ≡ false) × (l ≡ false)
three_none false f l a b c e = absurd (cc)
three_none true true l a b c e = absurd (cc)
three_none true false true a b c e = absurd (cc)
three_none true false false a b c e = (refl, refl, refl)

-- then what they guard is made
pub three_pass : (k f l : Bool) (t : Table) (a b c : Refusal) (made : Outcome) → k ≡ true → f ≡ false → l ≡ false
    → (if not k then refuses t a else if f then refuses t b else if l then refuses t c else made) ≡ made
three_pass false f l t a b c made known free room = absurd (true≢false (sym known))
three_pass true true l t a b c made known free room = absurd (true≢false free)
three_pass true false true t a b c made known free room = absurd (true≢false room)
three_pass true false false t a b c made known free room = refl

-- and the first that does refuses
pub three_refuse : (k f l : Bool) (t : Table) (a b c r : Refusal) (made : Outcome) → (if not k then Some a else if f then Some b else if l then Some c else None) ≡ Some r
    → (if not k then refuses t a else if f then refuses t b else if l then refuses t c else made) ≡ refuses t r
three_refuse false f l t a b c r made e = let same : a ≡ r = cc in ap (refuses t) same
three_refuse true true l t a b c r made e = let same : b ≡ r = cc in ap (refuses t) same
three_refuse true false true t a b c r made e = let same : c ≡ r = cc in ap (refuses t) same
three_refuse true false false t a b c r made e = absurd (cc)

-- of four that refuse in turn the first that does refuses, as of a drop
pub four_refuse : (k z f l : Bool) (t : Table) (a b c d r : Refusal) (made : Outcome)
    → (if not k then Some a else if z then Some b else if f then Some c else if l then Some d else None) ≡ Some r
    → (if not k then refuses t a else if z then refuses t b else if f then refuses t c else if l then refuses t d else made) ≡ refuses t r
four_refuse false z f l t a b c d r made e = let same : a ≡ r = cc in ap (refuses t) same
four_refuse true true f l t a b c d r made e = let same : b ≡ r = cc in ap (refuses t) same
four_refuse true false f l t a b c d r made e = three_refuse true f l t a c d r made e

-- and where none does, what they guard is made
pub four_pass : (k z f l : Bool) (t : Table) (a b c d : Refusal) (made : Outcome)
    → (if not k then Some a else if z then Some b else if f then Some c else if l then Some d else None) ≡ None
    → (if not k then refuses t a else if z then refuses t b else if f then refuses t c else if l then refuses t d else made) ≡ made
four_pass false z f l t a b c d made e = absurd (cc)
four_pass true true f l t a b c d made e = absurd (cc)
four_pass true false f l t a b c d made e =
    let three = three_none true f l a c d e in
    three_pass true f l t a c d made refl three.1 three.2

-- of four that refuse in turn none does
pub four_none : (k z f l : Bool) (a b c d : Refusal) → (if not k then Some a else if z then Some b else if f then Some c else if l then Some d else None) ≡ None
    → (k ≡ true) × (z ≡ false) × (f ≡ false) × (l ≡ false)
four_none false z f l a b c d e = absurd (cc)
four_none true true f l a b c d e = absurd (cc)
four_none true false f l a b c d e = let three = three_none true f l a c d e in (refl, refl, three.1, three.2)
