-- Sums over the items of lists that other lists have.
use Rattle.std.proofs.Common.{◌≡◌, ◌<◌, ◌≤◌, ◌+◌, ℕ, zero, suc, List, [], ◌∷◌, ◌++◌, length, take, get_or, sym, ap, ◌∙◌, arith, add-one, append_assoc, append-nil, length-append}
use Rattle.std.specs.List.{flat_map, sum_by}
use Rattle.std.proofs.lemmas.List.{take_all}
use Rattle.std.proofs.lemmas.List.Sums.{sum_by-append}

module _ {X Y : Type 0} (f : X → List Y) where
  -- the items of one more list
  pub items_next : (xs : List X) (i : ℕ) (x : X) → i < length xs → x ≡ get_or xs i x → flat_map f (take (suc i) xs) ≡ flat_map f (take i xs) ++ f x
  items_next [] i x more is = absurd (omega arith)
  items_next (y ∷ ys) zero x more is = append-nil (f y) ∙ ap f (sym is)
  items_next (y ∷ ys) (suc i) x more is =
      ap (λ (z : List Y). f y ++ z) (items_next ys i x (omega arith) is) ∙ sym (append_assoc (f y) (flat_map f (take i ys)) (f x))

  -- how many they are, with one more list
  pub count_next : (xs : List X) (i : ℕ) (x : X) → i < length xs → x ≡ get_or xs i x → length (flat_map f (take (i + 1) xs)) ≡ length (flat_map f (take i xs)) + length (f x)
  count_next xs i x more is =
      ap (λ (n : ℕ). length (flat_map f (take n xs))) (add-one i) ∙ ap length (items_next xs i x more is) ∙ length-append (flat_map f (take i xs)) (f x)

  -- their sum, with one more list
  pub sum_next : (g : Y → ℕ) (xs : List X) (i : ℕ) (x : X) → i < length xs → x ≡ get_or xs i x → sum_by g (flat_map f (take (i + 1) xs)) ≡ sum_by g (flat_map f (take i xs)) + sum_by g (f x)
  sum_next g xs i x more is =
      ap (λ (n : ℕ). sum_by g (flat_map f (take n xs))) (add-one i) ∙ ap (sum_by g) (items_next xs i x more is) ∙ sum_by-append g (flat_map f (take i xs)) (f x)

  -- all lists were passed
  pub items_all : (xs : List X) (i : ℕ) → length xs ≤ i → flat_map f (take i xs) ≡ flat_map f xs
  items_all xs i over = ap (flat_map f) (take_all i xs over)
