-- Where no version is dropped.
use Rattle.std.proofs.Common.{◌≡◌, ◌+◌, ℕ, zero, suc, Bool, true, false, not, ◌||◌, List, ◌∷◌, length, map, replicate, Option, Some, None, refl, sym, ap, ◌∙◌}
use Rattle.std.specs.List.{list_all, range_with_len}
use Rattle.std.specs.Option.{option_map_or}
use Rattle.std.proofs.lemmas.Bool.{and_from, eq-eqb}
use Rattle.std.proofs.lemmas.List.{length-replicate, length-map}
use Rattle.strat_base.specs.Marks.{is_dropped, are_pruned}
use Rattle.strat_base.specs.Tree.{Parents, parent_of}

-- no mark is set
pub none_marked : (n : ℕ) → list_all not (replicate n false) ≡ true
none_marked zero = refl
none_marked (suc n) = none_marked n

none_dropped : (n v : ℕ) → is_dropped (replicate n false) v ≡ false
none_dropped zero v = refl
none_dropped (suc n) zero = refl
none_dropped (suc n) (suc v) = none_dropped n v

-- below no version anything is to be dropped
down_none : (parents : Parents) (n v : ℕ) → option_map_or (λ p. not (is_dropped (replicate n false) p) || is_dropped (replicate n false) v) (parent_of parents v) true ≡ true
down_none parents n v = by_parent (parent_of parents v)
  where
    by_parent : (parent : Option ℕ) → option_map_or (λ p. not (is_dropped (replicate n false) p) || is_dropped (replicate n false) v) parent true ≡ true
    by_parent None = refl
    by_parent (Some p) = ap (λ (dropped : Bool). not dropped || is_dropped (replicate n false) v) (none_dropped n p)

down_all : (parents : Parents) (n start len : ℕ)
    → list_all (λ v. option_map_or (λ p. not (is_dropped (replicate n false) p) || is_dropped (replicate n false) v) (parent_of parents v) true) (range_with_len start len) ≡ true
down_all parents n start zero = refl
down_all parents n start (suc len) = and_from _ _ (down_none parents n start) (down_all parents n (start + 1) len)

-- a tree without dropped versions is pruned
pub unmarked_pruned : (parents : List ℕ) → are_pruned (None ∷ map (λ p. Some p) parents) (replicate (suc (length parents)) false) ≡ true
unmarked_pruned parents =
    let tree : Parents = None ∷ map (λ p. Some p) parents in
    let size : length (replicate (suc (length parents)) false) ≡ length tree = length-replicate {A = Bool} (suc (length parents)) false ∙ ap suc (sym (length-map parents (λ (p : ℕ). Some p))) in
    and_from _ _ (and_from _ _ (eq-eqb _ _ size) (ap not (none_dropped (suc (length parents)) 0))) (down_all tree (suc (length parents)) 0 (length tree))
