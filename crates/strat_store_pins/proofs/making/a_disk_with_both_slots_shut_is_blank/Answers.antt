use Rattle.std.proofs.Common.{◌≡◌, ◌<◌, ℕ, refl, sym, ap, ◌∙◌, arith}
use Rattle.def_crash.specs.Image.{Image}
use Rattle.strat_store_pins.proofs.making.a_disk_with_both_slots_shut_is_blank.Goals as goal

-- a byte that is another one in an image is so in each image that is equal
shut : (f c : Image) (at byte : ℕ) → c ≡ f → f at ≡ byte → byte < 167 → c at ≡ 167 → ⊥
shut f c at byte same is less up = let e : byte ≡ 167 = sym is ∙ sym (ap (λ (g : Image). g at) same) ∙ up in omega (arith, e, less)

pub returns : goal.returns
returns c = record {
  ok = record {
    first = λ d same. shut _ d 0 0 same refl (omega arith);
    second = λ d same. shut _ d 4096 0 same refl (omega arith);
  };
  same = record {
    first = λ d same. shut _ d 0 1 same refl (omega arith);
    second = λ d same. shut _ d 4096 1 same refl (omega arith);
  };
  none = (
    (λ blank. blank.first _ refl refl),
    (λ blank. blank.second _ refl refl),
  );
}
