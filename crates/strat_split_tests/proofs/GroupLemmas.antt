-- Groups of items that are drawn from the greatest version down.
use Rattle.std.proofs.Common.{◌≡◌, ◌≤◌, ◌+◌, ℕ, Bool, true, ltb, leb, ◌&&◌, List, [], ◌∷◌, ◌++◌, length, refl, ◌∙◌, arith}
use Rattle.std.specs.List.{list_all}
use Rattle.std.proofs.lemmas.Bool.{and_parts, and_from, leb-true, le-leb, lt-ltb}
use Rattle.std.proofs.lemmas.List.{length_push}
use Rattle.std.proofs.lemmas.List.Folds.{list_all-append}
use Rattle.strat_arena.specs.declared.items.Item.{Item}
use Rattle.strat_live.specs.Group.{is_descending}
use Rattle.strat_split_tests.specs.Groups.{IsGroupFrom}

all_push : (p : Item → Bool) (items : List Item) (x : Item) → list_all p items ≡ true → p x ≡ true → list_all p (items ++ x ∷ []) ≡ true
all_push p items x all one = list_all-append p items (x ∷ []) ∙ and_from (list_all p items) (p x && true) all (and_from (p x) true one refl)

all_weaker : (p q : Item → Bool) → ((x : Item) → p x ≡ true → q x ≡ true) → (items : List Item) → list_all p items ≡ true → list_all q items ≡ true
all_weaker p q each [] all = refl
all_weaker p q each (x ∷ items) all = let parts = and_parts (p x) (list_all p items) all in and_from (q x) (list_all q items) (each x parts.0) (all_weaker p q each items parts.1)

descending_push : (items : List Item) (x : Item) → is_descending items ≡ true → list_all (λ item. ltb x.version item.version) items ≡ true → is_descending (items ++ x ∷ []) ≡ true
descending_push [] x down above = refl
descending_push (y ∷ items) x down above =
    let parts = and_parts (list_all (λ later. ltb later.version y.version) items) (is_descending items) down in
    let more = and_parts (ltb x.version y.version) (list_all (λ item. ltb x.version item.version) items) above in
    and_from (list_all (λ later. ltb later.version y.version) (items ++ x ∷ [])) (is_descending (items ++ x ∷ [])) (all_push (λ later. ltb later.version y.version) items x parts.0 more.0) (descending_push items x parts.1 more.1)

pub from_none : (versions : ℕ) → IsGroupFrom versions versions []
from_none versions = record { down = refl; below = refl; above = refl; few = omega arith }

pub from_less : (v versions : ℕ) (items : List Item) → IsGroupFrom (v + 1) versions items → IsGroupFrom v versions items
from_less v versions items group =
    let few' = group.few in
    record {
      down = group.down;
      below = group.below;
      above = all_weaker (λ item. leb (v + 1) item.version) (λ item. leb v item.version) (λ item e. let le : v + 1 ≤ item.version = leb-true (v + 1) item.version e in le-leb v item.version (omega arith)) items group.above;
      few = omega arith;
    }

pub from_push : (v versions : ℕ) (items : List Item) (x : Item) → IsGroupFrom (v + 1) versions items → x.version ≡ v → IsGroupFrom v versions (items ++ x ∷ [])
from_push v versions items x group at =
    let few' = group.few in
    let len : length (items ++ x ∷ []) ≡ length items + 1 = length_push items x in
    record {
      down = descending_push items x group.down (all_weaker (λ item. leb (v + 1) item.version) (λ item. ltb x.version item.version) (λ item e. let le : v + 1 ≤ item.version = leb-true (v + 1) item.version e in lt-ltb x.version item.version (omega arith)) items group.above);
      below = all_push (λ item. ltb item.version versions) items x group.below (lt-ltb x.version versions (omega arith));
      above = all_push (λ item. leb v item.version) items x (all_weaker (λ item. leb (v + 1) item.version) (λ item. leb v item.version) (λ item e. let le : v + 1 ≤ item.version = leb-true (v + 1) item.version e in le-leb v item.version (omega arith)) items group.above) (le-leb v x.version (omega arith));
      few = omega arith;
    }
