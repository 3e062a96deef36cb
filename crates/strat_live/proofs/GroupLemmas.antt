-- Of the items of one key the first on the path is the live one.
use Rattle.std.proofs.Common.{◌≡◌, ◌<◌, ◌≤◌, ◌+◌, ℕ, Bool, true, false, cond, ltb, ◌&&◌, ◌||◌, not, inl, inr, List, [], ◌∷◌, length, map, Some, None, refl, sym, ap, ◌∙◌, arith, true≢false}
use Rattle.std.specs.List.{list_any, list_all, prefix_len, position_or_len, position}
use Rattle.std.proofs.lemmas.Bool.{and_parts, ltb-true, false_from_ne_true}
use Rattle.strat_base.specs.Tree.{Parents, is_ancestor, IsTree}
use Rattle.strat_base.specs.Entries.{Entry, is_of}
use Rattle.strat_base.proofs.ListFacts.{Among, any_among, all_at}
use Rattle.strat_base.proofs.EntryLemmas.{same_bytes, is_of_key}
use Rattle.strat_base.proofs.TreeLemmas.{ancestor_among, path_le}
use Rattle.strat_arena.specs.declared.items.Item.{Item}
use Rattle.def_state.specs.Live.{is_hidden_by, is_live}
use Rattle.strat_live.specs.Group.{is_descending, is_nearer, is_live_item}

module _ (parents : Parents) (v : ℕ) (items : List Item) where
  on_path : Item → Bool
  on_path item = is_ancestor parents item.version v

  -- the places of a part outside of which nothing is on the path
  live_places : (rest : List Item) → is_descending rest ≡ true → ((y : Item) → Among y items → on_path y ≡ true → Among y rest)
      → position_or_len (is_live_item parents items v) rest ≡ position_or_len on_path rest
  unfolding on_path
  live_places [] down inside = refl
  live_places (x ∷ rest) down inside = go (λ within. live_places rest parts.1 within) (on_path x) refl
    where
      parts : (list_all (λ later. ltb later.version x.version) rest ≡ true) × (is_descending rest ≡ true)
      parts = and_parts (list_all (λ later. ltb later.version x.version) rest) (is_descending rest) down

      -- nothing on the path is nearer
      alone : list_any (is_nearer parents v x.version) items ≡ false
      alone = false_from_ne_true (list_any (is_nearer parents v x.version) items) (λ any.
          let found = any_among (is_nearer parents v x.version) items any in
          let halves = and_parts (ltb x.version found.0.version) (on_path found.0) found.2 in
          let above = ltb-true x.version found.0.version halves.0 in
          elim (inside found.0 found.1 halves.1) [
            | inl here ↦ absurd (omega (arith, above, ap (λ (y : Item). y.version) here))
            | inr there ↦ let less = ltb-true found.0.version x.version (all_at (λ later. ltb later.version x.version) found.0 rest parts.0 there) in absurd (omega (arith, above, less))
          ])

      go : (((y : Item) → Among y items → on_path y ≡ true → Among y rest) → position_or_len (is_live_item parents items v) rest ≡ position_or_len on_path rest) → (b : Bool) → on_path x ≡ b
          → cond (not (b && not (list_any (is_nearer parents v x.version) items))) (1 + prefix_len (λ y. not (is_live_item parents items v y)) rest) 0 ≡ cond (not b) (1 + prefix_len (λ y. not (on_path y)) rest) 0
      go more true on = ap (λ (b : Bool). cond (not (not b)) (1 + prefix_len (λ y. not (is_live_item parents items v y)) rest) 0) alone
      go more false off = ap (λ (n : ℕ). 1 + n) (more (λ y among passes.
          elim (inside y among passes) [
            | inl here ↦ absurd (true≢false (sym passes ∙ ap on_path here ∙ off))
            | inr there ↦ there
          ]))

-- the live item is the first on the path
pub live_first : (parents : Parents) (v : ℕ) (items : List Item) → is_descending items ≡ true
    → position (λ item. is_ancestor parents item.version v) items ≡ position (is_live_item parents items v) items
unfolding on_path
live_first parents v items down =
    ap (λ (n : ℕ). cond (ltb n (length items)) (Some n) None) (sym (live_places parents v items items down (λ y among passes. among)))

-- among entries of one key the tests of the key say nothing
module _ (parents : Parents) (items : List Item) (key : List ℕ) (entry : Item → Entry) (keyed : list_all (λ y. is_of key (entry y)) items ≡ true) (at : (item : Item) → (entry item).version ≡ item.version) where
  hidden_keyed : (v : ℕ) (item : Item) → is_of key (entry item) ≡ true → (others : List Item) → list_all (λ y. is_of key (entry y)) others ≡ true
      → list_any (is_hidden_by parents v (entry item)) (map entry others) ≡ list_any (is_nearer parents v item.version) others
  hidden_keyed v item of_key [] all = refl
  hidden_keyed v item of_key (y ∷ others) all =
      let parts = and_parts (is_of key (entry y)) (list_all (λ z. is_of key (entry z)) others) all in
      let same : is_of (entry item).key (entry y) ≡ true = same_bytes (entry y).key (entry item).key (is_of_key key (entry y) parts.0 ∙ sym (is_of_key key (entry item) of_key)) in
      (λ i. ((same i && ltb (at item i) (at y i)) && is_ancestor parents (at y i) v) || hidden_keyed v item of_key others parts.1 i)

  pub live_keyed : (v : ℕ) (item : Item) → is_of key (entry item) ≡ true → is_live parents (map entry items) v (entry item) ≡ is_live_item parents items v item
  live_keyed v item of_key = λ i. is_ancestor parents (at item i) v && not (hidden_keyed v item of_key items keyed i)

-- no version past the tree's is on a path
pub past_is_off : (parents : Parents) → IsTree parents → (u v : ℕ) → v < length parents → length parents ≤ u → is_ancestor parents u v ≡ false
past_is_off parents tree u v known past = false_from_ne_true (is_ancestor parents u v) (λ on.
    let le : u ≤ v = path_le parents tree u v (ancestor_among parents tree u v on) in omega arith)
