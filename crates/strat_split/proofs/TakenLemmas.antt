-- Of the items of one key one at most is live at a version.
use Rattle.std.proofs.Common.{◌≡◌, ◌<◌, ◌≤◌, ℕ, zero, suc, Bool, true, false, cond, eqb, ltb, not, inl, inr, List, [], ◌∷◌, length, get_or, Option, Some, None, refl, sym, ap, ◌∙◌, subst, arith, true≢false}
use Rattle.std.specs.List.{list_any, list_all, position, position_or_len}
use Rattle.std.specs.Option.{option_and_then}
use Rattle.std.proofs.lemmas.Bool.{and_parts, and_from, ltb-true, lt-ltb, eq-eqb, ne_eqb, false_from_ne_true, not_from_true, not_from_false, not-true, or_left, or_right, and_left, and_right, cases_eq, cases_lt, cases_order}
use Rattle.std.proofs.lemmas.List.Quantifiers.{position-Some}
use Rattle.std.proofs.lemmas.List.Sums.{fails_before_first}
use Rattle.std.proofs.lemmas.Option.{slice_get_past}
use Rattle.strat_base.specs.Tree.{Parents, parent_of, path, is_ancestor, IsTree}
use Rattle.strat_base.proofs.ListFacts.{Among, any_from, any_among, all_at}
use Rattle.strat_base.proofs.TreeLemmas.{ancestor_among, among_ancestor, on_root, on_path, from_path, along_path, parent_older}
use Rattle.strat_arena.specs.declared.items.Item.{Item}
use Rattle.strat_live.specs.Counting.{are_below}
use Rattle.strat_live.specs.Group.{is_descending, is_nearer, is_live_item}
use Rattle.def_split.specs.Plan.{Plan, horizon_of, part_of, part_at, IsSplit}
use Rattle.strat_split.specs.Taken.{is_inherited_item, is_taken_item}

pub item_among : (items : List Item) (j : ℕ) (d : Item) → j < length items → Among (get_or items j d) items
item_among [] j d lt = absurd (omega arith)
item_among (x ∷ items) zero d lt = inl refl
item_among (x ∷ items) (suc j) d lt = inr (item_among items j d (omega arith))

-- versions descend
pub version_less : (items : List Item) → is_descending items ≡ true → (i j : ℕ) (d : Item) → i < j → j < length items → (get_or items j d).version < (get_or items i d).version
version_less [] down i j d less lt = absurd (omega arith)
version_less (x ∷ items) down i zero d less lt = absurd (omega arith)
version_less (x ∷ items) down zero (suc j) d less lt =
    let parts = and_parts (list_all (λ later. ltb later.version x.version) items) (is_descending items) down in
    ltb-true (get_or items j d).version x.version (all_at (λ (later : Item). ltb later.version x.version) (get_or items j d) items parts.0 (item_among items j d (omega arith)))
version_less (x ∷ items) down (suc i) (suc j) d less lt =
    version_less items (and_parts (list_all (λ later. ltb later.version x.version) items) (is_descending items) down).1 i j d (omega arith) (omega arith)

-- an item above a live one on the path is not live
pub hidden : (parents : Parents) (items : List Item) → is_descending items ≡ true → (v i j : ℕ) (d : Item) → i < j → j < length items → is_live_item parents items v (get_or items i d) ≡ true → is_live_item parents items v (get_or items j d) ≡ false
hidden parents items down v i j d less lt live =
    let on = (and_parts (is_ancestor parents (get_or items i d).version v) (not (list_any (is_nearer parents v (get_or items i d).version) items)) live).0 in
    let near : is_nearer parents v (get_or items j d).version (get_or items i d) ≡ true = and_from (ltb (get_or items j d).version (get_or items i d).version) (is_ancestor parents (get_or items i d).version v) (lt-ltb (get_or items j d).version (get_or items i d).version (version_less items down i j d less lt)) on in
    let some : list_any (is_nearer parents v (get_or items j d).version) items ≡ true = any_from (is_nearer parents v (get_or items j d).version) (get_or items i d) items (item_among items i d (omega arith)) near in
    and_right (is_ancestor parents (get_or items j d).version v) (not (list_any (is_nearer parents v (get_or items j d).version) items)) (not_from_true (list_any (is_nearer parents v (get_or items j d).version) items) some)

pub live_found : (parents : Parents) (items : List Item) → is_descending items ≡ true → (v i at : ℕ) (d : Item) → i < length items → position (is_live_item parents items v) items ≡ Some at → eqb at i ≡ is_live_item parents items v (get_or items i d)
live_found parents items down v i at d lt found =
    let facts = position-Some (is_live_item parents items v) items at d found in
    elim (cases_order at i) [
      | inl here ↦ eq-eqb at i here ∙ sym (subst (λ (j : ℕ). is_live_item parents items v (get_or items j d) ≡ true) here facts.1)
      | inr (inl before) ↦ ne_eqb at i (λ e. omega (arith, e)) ∙ sym (hidden parents items down v at i d before lt facts.1)
      | inr (inr after) ↦ ne_eqb at i (λ e. omega (arith, e)) ∙ sym (facts.2 i after)
    ]

pub none_live : {X : Type 0} (p : X → Bool) (items : List X) (i : ℕ) (d : X) → i < length items → position p items ≡ None → false ≡ p (get_or items i d)
none_live p items i d lt none = elim (cases_lt (position_or_len p items) (length items)) [
  | inl there ↦
      let some : position p items ≡ Some (position_or_len p items) = ap (λ (b : Bool). cond b (Some (position_or_len p items)) None) (lt-ltb (position_or_len p items) (length items) there) in
      absurd (cc)
  | inr past ↦ sym (fails_before_first p items i d (omega arith))
]

-- no item of the tree is live at a version that isn't there
pub live_past : (parents : Parents) (tree : IsTree parents) (items : List Item) (v i : ℕ) (d : Item) → are_below (length parents) items ≡ true → i < length items → length parents ≤ v → false ≡ is_live_item parents items v (get_or items i d)
live_past parents tree items v i d below lt past =
    let root : parent_of parents v ≡ None = ap (option_and_then (λ (parent : Option ℕ). parent)) (slice_get_past parents v past) in
    let less : (get_or items i d).version < length parents = ltb-true (get_or items i d).version (length parents) (all_at (λ (item : Item). ltb item.version (length parents)) (get_or items i d) items below (item_among items i d lt)) in
    let off : is_ancestor parents (get_or items i d).version v ≡ false = false_from_ne_true (is_ancestor parents (get_or items i d).version v) (λ on. let same : (get_or items i d).version ≡ v = on_root parents tree (get_or items i d).version v root (ancestor_among parents tree (get_or items i d).version v on) in omega arith) in
    sym (and_left (is_ancestor parents (get_or items i d).version v) (not (list_any (is_nearer parents v (get_or items i d).version) items)) off)

-- what is live at a version and isn't its own is live at its parent
live_above : (parents : Parents) (tree : IsTree parents) (items : List Item) (v p : ℕ) (item : Item) → parent_of parents v ≡ Some p → (item.version ≡ v → ⊥) → is_live_item parents items v item ≡ true → is_live_item parents items p item ≡ true
live_above parents tree items v p item some apart live =
    let parts = and_parts (is_ancestor parents item.version v) (not (list_any (is_nearer parents v item.version) items)) live in
    let on : Among item.version (path parents p) = elim (on_path parents tree item.version v p some (ancestor_among parents tree item.version v parts.0)) [ inl here ↦ absurd (apart here) | inr there ↦ there ] in
    let none : list_any (is_nearer parents v item.version) items ≡ false = not-true (list_any (is_nearer parents v item.version) items) parts.1 in
    let none' : list_any (is_nearer parents p item.version) items ≡ false = false_from_ne_true (list_any (is_nearer parents p item.version) items) (λ any.
    let found = any_among (is_nearer parents p item.version) items any in
    let near = and_parts (ltb item.version found.0.version) (is_ancestor parents found.0.version p) found.2 in
    let up : Among found.0.version (path parents v) = from_path parents tree found.0.version v p some (inr (ancestor_among parents tree found.0.version p near.1)) in
    let near' : is_nearer parents v item.version found.0 ≡ true = and_from (ltb item.version found.0.version) (is_ancestor parents found.0.version v) near.0 (among_ancestor parents tree found.0.version v up) in
    true≢false (sym (any_from (is_nearer parents v item.version) found.0 items found.1 near') ∙ none)) in
    and_from (is_ancestor parents item.version p) (not (list_any (is_nearer parents p item.version) items)) (among_ancestor parents tree item.version p on) (not_from_false (list_any (is_nearer parents p item.version) items) none')

-- what is live at a version of a part is taken by the part
module _ (parents : Parents) (tree : IsTree parents) (own live : ℕ → ℕ) (plan : Plan) (split : IsSplit parents own live plan) (items : List Item) (item : Item) where
  taken_up : (v p : ℕ) → v < horizon_of plan → part_of plan v < length plan.parts → parent_of parents v ≡ Some p → (is_live_item parents items p item ≡ true → part_of plan p ≡ part_of plan v → is_taken_item parents plan items (part_of plan p) item ≡ true) → (item.version ≡ v → ⊥) → is_live_item parents items v item ≡ true
      → is_taken_item parents plan items (part_of plan v) item ≡ true
  taken_up v p lt is_part some more apart lives =
      let up : is_live_item parents items p item ≡ true = live_above parents tree items v p item some apart lives in
      elim (split.hangs v p lt is_part some) [
        | inl same ↦ ap (λ (q : ℕ). is_taken_item parents plan items q item) (sym same) ∙ more up same
        | inr hung ↦ or_right (eqb (part_of plan item.version) (part_of plan v)) (is_inherited_item parents items (part_at plan (part_of plan v)).above item) (ap (λ (o : Option ℕ). is_inherited_item parents items o item) hung ∙ up)
      ]

  own_taken : (v : ℕ) → item.version ≡ v → is_taken_item parents plan items (part_of plan v) item ≡ true
  own_taken v here = or_left (eqb (part_of plan item.version) (part_of plan v)) (is_inherited_item parents items (part_at plan (part_of plan v)).above item) (eq-eqb (part_of plan item.version) (part_of plan v) (ap (part_of plan) here))

  pub live_taken : (v : ℕ) → v < horizon_of plan → part_of plan v < length plan.parts → is_live_item parents items v item ≡ true → is_taken_item parents plan items (part_of plan v) item ≡ true
  live_taken = along_path parents tree (λ v. v < horizon_of plan → part_of plan v < length plan.parts → is_live_item parents items v item ≡ true → is_taken_item parents plan items (part_of plan v) item ≡ true)
      (λ v none lt is_part lives.
      let on = (and_parts (is_ancestor parents item.version v) (not (list_any (is_nearer parents v item.version) items)) lives).0 in
      own_taken v (on_root parents tree item.version v none (ancestor_among parents tree item.version v on)))
      (λ v p some ih lt is_part lives.
      let older : p < v = parent_older parents tree v p some in
      elim (cases_eq item.version v) [
        | inl here ↦ own_taken v here
        | inr apart ↦ taken_up v p lt is_part some (λ up same. ih (omega arith) (omega arith) up) apart lives
      ])
