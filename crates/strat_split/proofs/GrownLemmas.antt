-- A part takes the same items of a key in a tree that grew.
use Rattle.std.proofs.Common.{◌≡◌, ◌<◌, ℕ, zero, suc, Bool, eqb, ltb, ◌&&◌, ◌||◌, not, inl, inr, List, [], ◌∷◌, length, Option, Some, None, refl, sym, ap, ◌∙◌, arith}
use Rattle.std.specs.List.{list_any}
use Rattle.std.specs.Option.{option_map_or}
use Rattle.strat_base.specs.Tree.{Parents, parent_of, climb, IsTree}
use Rattle.strat_base.proofs.ResultFacts.{option_cases}
use Rattle.strat_base.proofs.TreeLemmas.{parent_older}
use Rattle.strat_arena.specs.declared.items.Item.{Item}
use Rattle.strat_live.specs.Counting.{SameParents}
use Rattle.strat_live.specs.Group.{is_live_item}
use Rattle.def_split.specs.Plan.{Plan, horizon_of, part_of, part_at, IsSplit}
use Rattle.strat_split.specs.Taken.{is_inherited_item, is_taken_item}

module _ (parents : Parents) (tree : IsTree parents) (n : ℕ) (others : Parents) (same : SameParents n others parents) where
  climb_same : (k v : ℕ) → v < n → climb k others v ≡ climb k parents v
  unfolding climb
  climb_same zero v lt = refl
  climb_same (suc k) v lt =
      ap (λ (o : Option ℕ). v ∷ option_map_or (λ p. climb k others p) o []) (same v lt) ∙ elim (option_cases (parent_of parents v)) [
        | inl none ↦ ap (λ (o : Option ℕ). v ∷ option_map_or (λ p. climb k others p) o []) none ∙ sym (ap (λ (o : Option ℕ). v ∷ option_map_or (λ p. climb k parents p) o []) none)
        | inr some ↦
            let older : some.0 < v = parent_older parents tree v some.0 some.1 in
            ap (λ (o : Option ℕ). v ∷ option_map_or (λ p. climb k others p) o []) some.1 ∙ ap (λ (x : List ℕ). v ∷ x) (climb_same k some.0 (omega arith)) ∙ sym (ap (λ (o : Option ℕ). v ∷ option_map_or (λ p. climb k parents p) o []) some.1)
      ]

  pub live_item_same : (items : List Item) (p : ℕ) (item : Item) → p < n → is_live_item others items p item ≡ is_live_item parents items p item
  live_item_same items p item lt =
      ap (λ (us : List ℕ). list_any (λ w. eqb w item.version) us && not (list_any (λ (other : Item). ltb item.version other.version && list_any (λ w. eqb w other.version) us) items)) (climb_same p p lt)

  inherited_same : (items : List Item) (above : Option ℕ) (item : Item) → ((p : ℕ) → above ≡ Some p → p < n) → is_inherited_item others items above item ≡ is_inherited_item parents items above item
  inherited_same items None item low = refl
  inherited_same items (Some p) item low = live_item_same items p item (low p refl)

pub taken_same : (parents others : Parents) (own live : ℕ → ℕ) (plan : Plan) (items : List Item) (q : ℕ) (item : Item) → IsTree parents → SameParents (horizon_of plan) others parents → IsSplit parents own live plan → q < length plan.parts
    → is_taken_item others plan items q item ≡ is_taken_item parents plan items q item
taken_same parents others own live plan items q item tree same split lt =
    ap (λ (b : Bool). eqb (part_of plan item.version) q || b) (inherited_same parents tree (horizon_of plan) others same items (part_at plan q).above item (λ p above. split.placed q p lt above))
