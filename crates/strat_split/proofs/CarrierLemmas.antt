-- What is live at a version of a part is found among what the part takes.
use Rattle.std.proofs.Common.{◌≡◌, ◌<◌, ◌≤◌, ℕ, Bool, true, false, ltb, ◌&&◌, not, inl, inr, List, [], ◌∷◌, length, filter, refl, sym, ap, ◌∙◌, arith, true≢false}
use Rattle.std.specs.List.{list_any, list_all}
use Rattle.std.proofs.lemmas.Bool.{and_parts, and_from, ltb-true, lt-ltb, false_from_ne_true, not_from_false}
use Rattle.strat_base.specs.Tree.{Parents, is_ancestor, IsTree}
use Rattle.strat_base.proofs.ListFacts.{Among, any_from, any_among, all_at, among_filter, filter_among}
use Rattle.strat_arena.specs.declared.items.Item.{Item}
use Rattle.strat_live.specs.Group.{is_descending, is_nearer, is_live_item}
use Rattle.def_split.specs.Plan.{Plan, horizon_of, part_of, IsSplit}
use Rattle.strat_split.specs.Taken.{is_taken_item}
use Rattle.strat_split.proofs.TakenLemmas.{live_taken}

module _ (parents : Parents) (v : ℕ) where
  -- of the items on the path the greatest
  record IsLast (items : List Item) (z : Item) : Type 0 where
    among : Among z items
    on : is_ancestor parents z.version v ≡ true
    greatest : (w : Item) → Among w items → is_ancestor parents w.version v ≡ true → w.version ≤ z.version

  last_up : (x : Item) (rest : List Item) → list_all (λ later. ltb later.version x.version) rest ≡ true → (w : Item) → Among w rest → w.version < x.version
  last_up x rest all w among = ltb-true w.version x.version (all_at (λ (later : Item). ltb later.version x.version) w rest all among)

  last_on : (items : List Item) → is_descending items ≡ true → (y : Item) → Among y items → is_ancestor parents y.version v ≡ true → (z : Item) × IsLast items z
  last_on [] down y among on = absurd among
  last_on (x ∷ rest) down y among on =
      let parts = and_parts (list_all (λ later. ltb later.version x.version) rest) (is_descending rest) down in
      pick (is_ancestor parents x.version v) refl parts.0 (λ there. last_on rest parts.1 y there on) among
    where
      pick : (b : Bool) → is_ancestor parents x.version v ≡ b → list_all (λ later. ltb later.version x.version) rest ≡ true
          → (Among y rest → (z : Item) × IsLast rest z) → Among y (x ∷ rest) → (z : Item) × IsLast (x ∷ rest) z
      pick true is all more here = (
        x,
        record {
          among = inl refl;
          on = is;
          greatest = λ w among_w on_w. elim among_w [
            | inl same ↦ let e : w.version ≡ x.version = ap (λ (i : Item). i.version) same in omega (arith, e)
            | inr there ↦ let less : w.version < x.version = last_up x rest all w there in omega (arith, less)
          ];
        },
      )
      pick false is all more (inl here) = absurd (true≢false (sym on ∙ ap (λ (i : Item). is_ancestor parents i.version v) here ∙ is))
      pick false is all more (inr there) =
          let found = more there in (
            found.0,
            record {
              among = inr found.1.among;
              on = found.1.on;
              greatest = λ w among_w on_w. elim among_w [
                | inl same ↦ absurd (true≢false (sym on_w ∙ ap (λ (i : Item). is_ancestor parents i.version v) same ∙ is))
                | inr below ↦ found.1.greatest w below on_w
              ];
            },
          )

  last_live : (items : List Item) (z : Item) → IsLast items z → is_live_item parents items v z ≡ true
  last_live items z last =
      let none : list_any (is_nearer parents v z.version) items ≡ false = false_from_ne_true (list_any (is_nearer parents v z.version) items) (λ any.
      let found = any_among (is_nearer parents v z.version) items any in
      let halves = and_parts (ltb z.version found.0.version) (is_ancestor parents found.0.version v) found.2 in
      let less : z.version < found.0.version = ltb-true z.version found.0.version halves.0 in
      let most : found.0.version ≤ z.version = last.greatest found.0 found.1 halves.1 in
      omega (arith, less, most)) in
      and_from (is_ancestor parents z.version v) (not (list_any (is_nearer parents v z.version) items)) last.on (not_from_false (list_any (is_nearer parents v z.version) items) none)

same_test : (a b : Bool) → (a ≡ true → b ≡ true) → (b ≡ true → a ≡ true) → a ≡ b
same_test true b there back = sym (there refl)
same_test false true there back = back refl
same_test false false there back = refl

module _ (parents : Parents) (tree : IsTree parents) (own live : ℕ → ℕ) (plan : Plan) (split : IsSplit parents own live plan) (items : List Item) (down : is_descending items ≡ true)
    (v : ℕ) (lt : v < horizon_of plan) (is_part : part_of plan v < length plan.parts) where
  abbrev keep : Item → Bool
  keep item = is_taken_item parents plan items (part_of plan v) item

  nearer_kept : (u : ℕ) → list_any (is_nearer parents v u) (filter keep items) ≡ list_any (is_nearer parents v u) items
  nearer_kept u = same_test (list_any (is_nearer parents v u) (filter keep items)) (list_any (is_nearer parents v u) items)
      (λ any.
      let found = any_among (is_nearer parents v u) (filter keep items) any in
      any_from (is_nearer parents v u) found.0 items (filter_among keep items found.0 found.1).0 found.2)
      (λ any.
      let found = any_among (is_nearer parents v u) items any in
      let halves = and_parts (ltb u found.0.version) (is_ancestor parents found.0.version v) found.2 in
      let last = last_on parents v items down found.0 found.1 halves.1 in
      let taken : keep last.0 ≡ true = live_taken parents tree own live plan split items last.0 v lt is_part (last_live parents v items last.0 last.1) in
      let less : u < found.0.version = ltb-true u found.0.version halves.0 in
      let most : found.0.version ≤ last.0.version = last.1.greatest found.0 found.1 halves.1 in
      let near : is_nearer parents v u last.0 ≡ true = and_from (ltb u last.0.version) (is_ancestor parents last.0.version v) (lt-ltb u last.0.version (omega (arith, less, most))) last.1.on in
      any_from (is_nearer parents v u) last.0 (filter keep items) (among_filter keep items last.0 last.1.among taken) near)

  pub live_in_carrier : (item : Item) → is_live_item parents (filter keep items) v item ≡ is_live_item parents items v item
  live_in_carrier item = ap (λ (b : Bool). is_ancestor parents item.version v && not b) (nearer_kept item.version)
