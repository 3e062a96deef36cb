-- Of the items of one key those are taken whose entries are; nothing is asked of other items.
use Rattle.std.proofs.Common.{◌≡◌, ℕ, Bool, true, false, cond, eqb, ◌||◌, List, [], ◌∷◌, map, filter, Option, Some, None, refl, sym, ap, true≢false}
use Rattle.std.specs.List.{list_all}
use Rattle.std.proofs.lemmas.Bool.{and_parts}
use Rattle.strat_base.specs.Tree.{Parents}
use Rattle.strat_base.specs.Entries.{Entry, is_of}
use Rattle.strat_arena.specs.declared.items.Item.{Item}
use Rattle.strat_live.proofs.GroupLemmas.{live_keyed}
use Rattle.def_split.specs.Plan.{Plan, part_of, part_at}
use Rattle.def_split.specs.Planned.{is_inherited, is_taken}
use Rattle.strat_split.specs.Taken.{is_inherited_item, is_taken_item}

module _ (parents : Parents) (items : List Item) (key : List ℕ) (entry : Item → Entry) (keyed : list_all (λ y. is_of key (entry y)) items ≡ true) (at : (item : Item) → (entry item).version ≡ item.version) where
  module _ (plan : Plan) (q : ℕ) where
    pub taken_keyed : (item : Item) → is_of key (entry item) ≡ true → is_taken parents plan (map entry items) q (entry item) ≡ is_taken_item parents plan items q item
    taken_keyed item of_key = λ i. eqb (part_of plan (at item i)) q || inherited (part_at plan q).above i
      where
        inherited : (above : Option ℕ) → is_inherited parents (map entry items) above (entry item) ≡ is_inherited_item parents items above item
        inherited None = refl
        inherited (Some p) = live_keyed parents items key entry keyed at p item of_key

    step_taken : (x : Item) (es : List Entry) (xs : List Item) (a b : Bool) → a ≡ b → es ≡ map entry xs → cond a (entry x ∷ es) es ≡ map entry (cond b (x ∷ xs) xs)
    step_taken x es xs true true e more = ap (λ (ds : List Entry). entry x ∷ ds) more
    step_taken x es xs false false e more = more
    step_taken x es xs true false e more = absurd (true≢false e)
    step_taken x es xs false true e more = absurd (true≢false (sym e))

    all_taken_keyed : (rest : List Item) → list_all (λ y. is_of key (entry y)) rest ≡ true
        → filter (is_taken parents plan (map entry items) q) (map entry rest) ≡ map entry (filter (is_taken_item parents plan items q) rest)
    all_taken_keyed [] all = refl
    all_taken_keyed (x ∷ rest) all =
        let parts = and_parts (is_of key (entry x)) (list_all (λ z. is_of key (entry z)) rest) all in
        step_taken x (filter (is_taken parents plan (map entry items) q) (map entry rest)) (filter (is_taken_item parents plan items q) rest)
        (is_taken parents plan (map entry items) q (entry x)) (is_taken_item parents plan items q x) (taken_keyed x parts.0) (all_taken_keyed rest parts.1)

    pub group_taken : filter (is_taken parents plan (map entry items) q) (map entry items) ≡ map entry (filter (is_taken_item parents plan items q) items)
    group_taken = all_taken_keyed items keyed
