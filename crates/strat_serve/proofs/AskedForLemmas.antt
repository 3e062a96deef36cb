-- The bodies of a workload are commands.
use Rattle.std.proofs.Common.{◌≡◌, ◌≤◌, ◌<◌, ◌+◌, ◌-◌, ◌^◌, ◌%◌, ℕ, zero, suc, Bool, true, false, cond, eqb, leb, ltb, not, ◌&&◌, [], ◌∷◌, ◌++◌, length, Option, Some, None, refl, ap, inl, inr, arith, length-append, mod-lt}
use Rattle.std.proofs.lemmas.Bool.{le-leb, ltb-true}
use Rattle.std.proofs.lemmas.Fmt.{length-decimal-le}
use Rattle.std.specs.Fmt.{decimal}
use Rattle.std.specs.List.{find, range_with_len}
use Rattle.std.specs.Option.{unwrap_or}
use Rattle.strat_base.specs.Change.{Change, Put, Delete, Clone}
use Rattle.strat_base.specs.Tree.{Parents, has_child}
use Rattle.strat_base.proofs.ListFacts.{find_some, range_among}
use Rattle.strat_base.proofs.ResultFacts.{option_cases}
use Rattle.strat_model.specs.Spelling.{command_body, Spells}
use Rattle.def_meaning.specs.StateTable.{request_for}
use Rattle.def_texts.specs.Workload.{next_draw, drawn, leaf_from, drawn_key, drawn_update, drawn_change, changes_from, workload_changes}
use Rattle.def_state.specs.State.{tree_after}
use Rattle.strat_serve.specs.Generated.{bodies_from, workload_bodies, AskFor}

-- the chosen version is there
leaf_known : (parents : Parents) (v : ℕ) → v < length parents → leaf_from parents v < length parents
leaf_known parents v known =
    elim (option_cases (find (λ u. not (has_child parents u)) (range_with_len v (length parents - v)))) [
      | inl none ↦
          let at : leaf_from parents v ≡ length parents - 1 = ap (λ (o : Option ℕ). unwrap_or o (length parents - 1)) none in
          omega (arith, at, known)
      | inr u ↦
          let at : leaf_from parents v ≡ u.0 = ap (λ (o : Option ℕ). unwrap_or o (length parents - 1)) u.1 in
          let there = find_some (λ u. not (has_child parents u)) (range_with_len v (length parents - v)) u.0 u.1 in
          omega (arith, at, (range_among v (length parents - v) u.0 there.0).1, known)
    ]

-- the tree has a version and not too many
record IsFew (parents : Parents) : Type 0 where
  some : 0 < length parents
  few : length parents ≤ 128

-- a change is asked for by its body, and leaves few versions
abbrev IsAsked : ℕ → Parents → Change → Type 0
IsAsked i parents change = Spells (command_body i (request_for change)) i (request_for change) × IsFew (tree_after parents change)

module _ (i : ℕ) (fits : i < 2 ^ 32) (parents : Parents) (is : IsFew parents) where
  put_asked : (v r : ℕ) → v < length parents → IsAsked i parents (Put v (drawn_key r) (decimal i))
  put_asked v r known =
      let digits : length (decimal i) ≤ 10 = length-decimal-le 10 i (omega arith) (omega (arith, fits)) (omega (arith, fits)) in
      let value : leb (length (decimal i)) 1024 ≡ true = le-leb (length (decimal i)) 1024 (omega (arith, digits)) in (
        record {
          form = record { text = refl; tag_fits = fits; fits = (omega (arith, known, is.few), omega arith, omega (arith, digits)) };
          sizes = rw value refl;
        },
        is,
      )

  delete_asked : (v r : ℕ) → v < length parents → IsAsked i parents (Delete v (drawn_key r))
  delete_asked v r known = (
    record {
      form = record { text = refl; tag_fits = fits; fits = (omega (arith, known, is.few), omega arith) };
      sizes = refl;
    },
    is,
  )

  clone_asked : (v : ℕ) → v < length parents → length parents < 128 → IsAsked i parents (Clone v)
  clone_asked v known room =
      let more : length (parents ++ Some v ∷ []) ≡ suc (length parents) = omega (arith, length-append parents (Some v ∷ [])) in (
        record {
          form = record { text = refl; tag_fits = fits; fits = omega (arith, known, is.few) };
          sizes = refl;
        },
        record { some = omega (arith, more); few = omega (arith, more, room) },
      )

  update_asked : (p v r : ℕ) → v < length parents → IsAsked i parents (drawn_update i p v r)
  update_asked p v r known = by_kind (leb 2 p && leb p 9)
    where
      by_kind : (b : Bool) → IsAsked i parents (cond b (Delete v (drawn_key r)) (Put v (drawn_key r) (decimal i)))
      by_kind true = delete_asked v r known
      by_kind false = put_asked v r known

  drawn_asked : (p q r : ℕ) → IsAsked i parents (drawn_change parents i p q r)
  drawn_asked p q r = by_draw (eqb p 0) (eqb p 1) (ltb (length parents) 128) refl
    where
      known : q % length parents < length parents
      known = mod-lt q is.some

      update : IsAsked i parents (drawn_update i p (leaf_from parents (q % length parents)) r)
      update = update_asked p (leaf_from parents (q % length parents)) r (leaf_known parents (q % length parents) known)

      by_draw : (zero' one few : Bool) → ltb (length parents) 128 ≡ few
          → IsAsked i parents (cond (zero' && few) (Clone (q % length parents)) (cond (one && few) (Clone (length parents - 1)) (drawn_update i p (leaf_from parents (q % length parents)) r)))
      by_draw true one true few = clone_asked (q % length parents) known (ltb-true (length parents) 128 few)
      by_draw false true true few = clone_asked (length parents - 1) (omega (arith, is.some)) (ltb-true (length parents) 128 few)
      by_draw false false true few = update
      by_draw true true false few = update
      by_draw true false false few = update
      by_draw false true false few = update
      by_draw false false false few = update

all_asked : (n i state : ℕ) (parents : Parents) → i + n ≤ 2 ^ 32 → IsFew parents → AskFor i (bodies_from i (changes_from n i state parents)) (changes_from n i state parents)
unfolding changes_from
all_asked zero i state parents le is = tt
all_asked (suc n) i state parents le is =
    let third : ℕ = next_draw (next_draw (next_draw state)) in
    let change : Change = drawn_change parents i (drawn (next_draw state) % 64) (drawn (next_draw (next_draw state))) (drawn third % 1000) in
    let first = drawn_asked i (omega (arith, le)) parents is (drawn (next_draw state) % 64) (drawn (next_draw (next_draw state))) (drawn third % 1000) in
    (first.0, all_asked n (suc i) third (tree_after parents change) (omega (arith, le)) first.1)

pub asked : (seed count : ℕ) → count < 2 ^ 32 → AskFor 1 (workload_bodies seed count) (workload_changes seed count)
asked seed count few = all_asked count 1 seed (None ∷ []) (omega (arith, few)) (record { some = omega arith; few = omega arith })
