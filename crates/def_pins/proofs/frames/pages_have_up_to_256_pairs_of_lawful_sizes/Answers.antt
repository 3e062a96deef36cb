use Rattle.std.proofs.Common.{◌≡◌, ◌≤◌, ℕ, zero, suc, true, false, true≢false, List, [], ◌∷◌, replicate, refl, sym, ap, ◌∙◌, arith}
use Rattle.std.specs.List.{AllByRecursion}
use Rattle.strat_base.specs.Sizes.{is_value}
use Rattle.strat_model.specs.Pairs.{Pair, Pairs}
use Rattle.strat_model.specs.Spelling.{is_pair}
use Rattle.def_pins.proofs.frames.pages_have_up_to_256_pairs_of_lawful_sizes.Goals as goal

-- a test that fails does not pass
failed : false ≡ true → ⊥
failed e = true≢false (sym e)

-- what holds of a pair holds of each of many like it
each_alike : (n : ℕ) (pair : Pair) → is_pair pair ≡ true → AllByRecursion (λ p. is_pair p ≡ true) (replicate n pair)
each_alike zero pair e = tt
each_alike (suc n) pair e = (e, each_alike n pair e)

-- the first byte of the first key
abbrev first_byte : Pairs → ℕ
first_byte (((b ∷ key), value) ∷ pairs) = b
first_byte _ = 0

-- the value of the first pair
abbrev first_value : Pairs → List ℕ
first_value ((key, value) ∷ pairs) = value
first_value [] = []

pub returns : goal.returns
returns c = record {
  most = (let le : 256 ≤ 256 = omega arith in le, each_alike 256 (97 ∷ [], []) refl);
  more = λ p. let le : 257 ≤ 256 = p.0 in omega (arith, le);
  key = ((let le : 1 ≤ 256 = omega arith in le, (refl, tt)), (λ p. failed p.1.0), (λ p. failed p.1.0));
  value = ((let le : 1 ≤ 256 = omega arith in le, (refl, tt)), (λ p. failed p.1.0));
  none = (refl, (λ e. cc));
  found = (
    (replicate 1024 49, refl, refl),
    (λ p. let e : 97 ≡ 63 = ap first_byte p.1 in omega (arith, e)),
    (λ p. let e : replicate 1025 49 ≡ p.0 = ap first_value p.1 in failed (ap is_value e ∙ p.2)),
    (λ p. let e = p.1 in cc),
  );
}
