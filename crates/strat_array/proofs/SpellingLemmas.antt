-- The extents of a writer have a spelling in a manifest.
use Rattle.std.proofs.Common.{◌≡◌, ◌≤◌, ◌<◌, ◌+◌, ◌^◌, ℕ, suc, true, eqb, leb, ltb, not, get_or, List, [], ◌∷◌, length, refl, arith}
use Rattle.std.specs.List.{list_all}
use Rattle.std.proofs.lemmas.Bool.{and_from, le-leb, lt-ltb, not_from_false, false_from_ne_true, eqb-true}
use Rattle.strat_array.specs.Pushed.{AreMaximal}
use Rattle.strat_array.specs.Within.{AreWithin}
use Rattle.strat_base.specs.declared.descriptors.Extent.{Extent}
use Rattle.def_bytes.specs.Manifest.{is_lawful_extent, are_apart}

-- each extent ends at a block number
abbrev EndLow : List Extent → Type 0
EndLow xs = (i : ℕ) (d : Extent) → i < length xs → (get_or xs i d).start + (get_or xs i d).len ≤ 4294967295

one_lawful : (x : Extent) → 0 < x.len → x.start + x.len ≤ 4294967295 → is_lawful_extent x ≡ true
one_lawful x some low = and_from (leb 1 x.len) (ltb (x.start + x.len) (2 ^ 32)) (le-leb 1 x.len some) (lt-ltb (x.start + x.len) (2 ^ 32) (omega (arith, low)))

each_lawful : (xs : List Extent) → AreMaximal xs → EndLow xs → list_all is_lawful_extent xs ≡ true
each_lawful [] maximal low = refl
each_lawful (x ∷ []) maximal low = and_from (is_lawful_extent x) true (one_lawful x maximal (low 0 x (omega arith))) refl
each_lawful (x ∷ y ∷ xs) maximal low =
    and_from (is_lawful_extent x) (list_all is_lawful_extent (y ∷ xs)) (one_lawful x maximal.0 (low 0 x (omega arith)))
    (each_lawful (y ∷ xs) maximal.2 (λ i d lt. low (suc i) d (omega (arith, lt))))

pub maximal_lawful : (xs : List Extent) → AreMaximal xs → AreWithin xs → list_all is_lawful_extent xs ≡ true
maximal_lawful xs maximal within = each_lawful xs maximal within.each

pub maximal_apart : (xs : List Extent) → AreMaximal xs → are_apart xs ≡ true
maximal_apart [] maximal = refl
maximal_apart (x ∷ []) maximal = refl
maximal_apart (x ∷ y ∷ xs) maximal =
    and_from (not (eqb (x.start + x.len) y.start)) (are_apart (y ∷ xs))
    (not_from_false (eqb (x.start + x.len) y.start) (false_from_ne_true (eqb (x.start + x.len) y.start) (λ same. maximal.1 (eqb-true (x.start + x.len) y.start same))))
    (maximal_apart (y ∷ xs) maximal.2)
