use Rattle.std.proofs.Common.{◌≡◌, ◌<◌, ◌-◌, ℕ, Bool, false, ltb, List, length, ap, ◌∙◌, arith}
use Rattle.std.proofs.lemmas.Bool.{false_from_ne_true, lt-ltb, ltb-true}
use Rattle.def_bytes.specs.Damage.{Read, and_then, passed_or}
use Rattle.def_bytes.specs.Layout.{region_first}
use Rattle.def_bytes.specs.Records.{Logged}
use Rattle.def_pins.proofs.journals.a_region_behind_a_full_one_may_not_be_full.Goals as goal

abbrev few_of : ℕ → ℕ → Read (List Logged) → Read (List Logged)
few_of mem region read = and_then read (λ later. passed_or (region_first mem region) (ltb (length later) (mem - 1)) later)

abbrev told : ℕ → ℕ → List Logged → Bool → Read (List Logged)
told mem region front b = passed_or (region_first mem region) b front

pub returns : goal.returns
returns c = record {
  most = λ f mem region front read long.
      let full : ltb (length front) (mem - 1) ≡ false = false_from_ne_true (ltb (length front) (mem - 1)) (λ less. let low = ltb-true (length front) (mem - 1) less in omega (arith, low, long)) in
      ap (few_of mem region) read ∙ ap (told mem region front) full;
  fits = λ f mem region front read few. ap (few_of mem region) read ∙ ap (told mem region front) (lt-ltb (length front) (mem - 1) (omega (arith, few)));
}
