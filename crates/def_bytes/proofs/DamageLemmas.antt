-- What was read, where something was.
use Rattle.std.proofs.Common.{◌≡◌, ℕ, Bool, true, false, List, ◌∷◌, Option, Some, None, Ok, Err, refl}
use Rattle.def_bytes.specs.Damage.{Read, and_then, passed_or, found_or, put_first}

pub and_then_ok : {A B : Type 0} (r : Read A) (f : A → Read B) (y : B) → and_then r f ≡ Ok y → (x : A) × (r ≡ Ok x) × (f x ≡ Ok y)
and_then_ok (Ok x) f y e = (x, refl, e)
and_then_ok (Err b) f y e = absurd (cc)

pub passed_ok : {A : Type 0} (b : ℕ) (t : Bool) (x y : A) → passed_or b t x ≡ Ok y → (t ≡ true) × (x ≡ y)
passed_ok b true x y e = (refl, cc)
passed_ok b false x y e = absurd (cc)

pub found_ok : {A : Type 0} (b : ℕ) (o : Option A) (y : A) → found_or b o ≡ Ok y → o ≡ Some y
found_ok b None y e = absurd (cc)
found_ok b (Some x) y e = cc

pub put_first_ok : {A : Type 0} (x : A) (r : Read (List A)) (ys : List A) → put_first x r ≡ Ok ys → (xs : List A) × (r ≡ Ok xs) × (x ∷ xs ≡ ys)
put_first_ok x (Ok xs) ys e = (xs, refl, cc)
put_first_ok x (Err b) ys e = absurd (cc)
