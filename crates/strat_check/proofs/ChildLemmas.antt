-- The least living children of versions.
use Rattle.std.proofs.Common.{◌≡◌, ◌<◌, ◌≤◌, ◌-◌, ◌+◌, ◌&&◌, not, ℕ, Bool, true, false, cond, eqb, get_or, set, List, length, Option, None, Some, refl, sym, ap, ◌∙◌, arith, true≢false}
use Rattle.std.specs.List.{find, range_with_len}
use Rattle.std.specs.Option.{option_map_or, unwrap_or}
use Rattle.std.proofs.lemmas.Bool.{eqb-true, eq-eqb}
use Rattle.std.proofs.lemmas.List.{get_or-set_same, get_or-set_other}
use Rattle.strat_base.specs.Marks.{Marks, is_dropped}
use Rattle.strat_base.specs.Tree.{Parents, parent_of}
use Rattle.strat_check.specs.Children.{first_from}
use Rattle.strat_tree.specs.Living.{is_living_child}
use Rattle.strat_check.proofs.RangeLemmas.{range_step}

-- one more version is looked at
first_step : (parents : Parents) (marks : Marks) (k v : ℕ) → k < length parents → first_from parents marks k v ≡ cond (is_living_child parents marks v k) k (first_from parents marks (k + 1) v)
first_step parents marks k v lt =
    ap (λ (xs : List ℕ). unwrap_or (find (is_living_child parents marks v) xs) (length parents)) (range_step k (length parents) lt)
    ∙ either (is_living_child parents marks v k) (find (is_living_child parents marks v) (range_with_len (k + 1) (length parents - (k + 1))))
  where
    either : (b : Bool) (o : Option ℕ) → unwrap_or (cond b (Some k) o) (length parents) ≡ cond b k (unwrap_or o (length parents))
    either true o = refl
    either false o = refl

back_one : (c : ℕ) → 0 < c → c - 1 + 1 ≡ c
back_one c some = omega (arith, some)

-- the next version, downwards, was noted
pub next_noted : (parents : Parents) (marks : Marks) (old new : List ℕ) (c : ℕ) → 0 < c → c ≤ length parents
    → ((v : ℕ) → v < length parents → get_or old v (length parents) ≡ first_from parents marks c v)
    → ((v : ℕ) → v < length parents → get_or new v (length parents) ≡ cond (is_living_child parents marks v (c - 1)) (c - 1) (get_or old v (length parents)))
    → (v : ℕ) → v < length parents → get_or new v (length parents) ≡ first_from parents marks (c - 1) v
next_noted parents marks old new c some bound right noted v lt =
    noted v lt
    ∙ ap (λ (k : ℕ). cond (is_living_child parents marks v (c - 1)) (c - 1) k) (right v lt ∙ ap (λ (k : ℕ). first_from parents marks k v) (sym (back_one c some)))
    ∙ sym (first_step parents marks (c - 1) v (omega (arith, some, bound)))

none_of : (b d : Bool) → d ≡ true → (b && not d) ≡ false
none_of true d dead = ap not dead
none_of false d dead = refl

-- a dropped version is no child, and a version without a parent neither
pub dropped_passed : (parents : Parents) (marks : Marks) (first : List ℕ) (c : ℕ) → is_dropped marks c ≡ true
    → (v : ℕ) → v < length parents → get_or first v (length parents) ≡ cond (is_living_child parents marks v c) c (get_or first v (length parents))
dropped_passed parents marks first c dead v lt = ap (λ (b : Bool). cond b c (get_or first v (length parents))) (sym (none_of (option_map_or (λ q. eqb q v) (parent_of parents c) false) (is_dropped marks c) dead))

pub root_passed : (parents : Parents) (marks : Marks) (first : List ℕ) (c : ℕ) → parent_of parents c ≡ None
    → (v : ℕ) → v < length parents → get_or first v (length parents) ≡ cond (is_living_child parents marks v c) c (get_or first v (length parents))
root_passed parents marks first c root v lt = ap (λ (o : Option ℕ). cond (option_map_or (λ q. eqb q v) o false && not (is_dropped marks c)) c (get_or first v (length parents))) (sym root)

-- a living one is noted at its parent
pub child_noted : (parents : Parents) (marks : Marks) (first : List ℕ) (c p : ℕ) → length first ≡ length parents → is_dropped marks c ≡ false → parent_of parents c ≡ Some p
    → (v : ℕ) → v < length parents → get_or (set first p c) v (length parents) ≡ cond (is_living_child parents marks v c) c (get_or first v (length parents))
child_noted parents marks first c p len living is v lt =
    go (eqb p v) refl ∙ ap (λ (b : Bool). cond b c (get_or first v (length parents))) (sym child)
  where
    and_true : (a : Bool) → (a && true) ≡ a
    and_true true = refl
    and_true false = refl

    child : is_living_child parents marks v c ≡ eqb p v
    child = (λ i. option_map_or (λ q. eqb q v) (is i) false && not (living i)) ∙ and_true (eqb p v)

    go : (b : Bool) → eqb p v ≡ b → get_or (set first p c) v (length parents) ≡ cond b c (get_or first v (length parents))
    go true same =
        let at = eqb-true p v same in
        ap (λ (q : ℕ). get_or (set first q c) v (length parents)) at ∙ get_or-set_same first v c (length parents) (omega (arith, lt, len))
    go false other = get_or-set_other first p v c (length parents) (λ same. true≢false (sym (eq-eqb p v (sym same)) ∙ other))
