-- From the first entry on.
use Rattle.std.proofs.Common.{arith, ◌≡◌, ◌==◌, ℕ, Bool, true, cond, length, not, List, [], ◌∷◌, refl, sym, ap, ◌∙◌}
use Rattle.std.proofs.lemmas.Bool.{eqb-true}
use Rattle.std.specs.List.{filter}
use Rattle.std.specs.Ordering.{is_lt}
use Rattle.strat_array.specs.Left.{all_in, is_from}
use Rattle.strat_array.specs.Steps.{left_from}
use Rattle.strat_base.specs.Entries.{Entry}
use Rattle.strat_base.specs.Order.{key_cmp}

-- no key is below the empty one
pub from_start : (key : List ℕ) → not (is_lt (key_cmp key [])) ≡ true
from_start [] = refl
from_start (b ∷ key) = refl

all_from : (entries : List Entry) → entries ≡ filter (is_from []) entries
all_from [] = refl
all_from (e ∷ entries) = ap (λ (l : List Entry). e ∷ l) (all_from entries) ∙ ap (λ (b : Bool). cond b (e ∷ filter (is_from []) entries) (filter (is_from []) entries)) (sym (from_start e.key))

empty_is : (lo : List ℕ) → (length lo == 0) ≡ true → lo ≡ []
empty_is [] is = refl
empty_is (b ∷ lo) is = absurd (omega (arith, eqb-true (length (b ∷ lo)) 0 is))

-- from the first place on all entries are left
pub left_first : (lists : List (List Entry)) (lo : List ℕ) → (length lo == 0) ≡ true → left_from lists (record { block = 0; index = 0 }) ≡ filter (is_from lo) (all_in lists)
left_first lists lo none = first lists ∙ all_from (all_in lists) ∙ ap (λ (l : List ℕ). filter (is_from l) (all_in lists)) (sym (empty_is lo none))
  where
    first : (l : List (List Entry)) → left_from l (record { block = 0; index = 0 }) ≡ all_in l
    first [] = refl
    first (x ∷ l) = refl
