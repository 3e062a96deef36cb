-- Levels in order are cut at a number.
use Rattle.std.proofs.Common.{◌≡◌, ◌≤◌, ◌+◌, ◌*◌, ◌^◌, ℕ, suc, true, false, cond, ltb, leb, inl, inr, List, [], ◌∷◌, ◌++◌, length, refl, sym, ap, ◌∙◌, arith}
use Rattle.std.specs.List.{list_all, sum_by}
use Rattle.std.proofs.lemmas.Bool.{cases_lt, lt-ltb, le-ltb, le-leb, lt-leb}
use Rattle.def_state.specs.Level.{Level, level_leads}
use Rattle.def_state.specs.Reading.{level_zero}
use Rattle.def_state.specs.State.{State}
use Rattle.def_state.specs.Sound.{is_numbered_from, IsOrdered}
use Rattle.strat_base.proofs.ListFacts.{Among, all_from, filter_among}
use Rattle.def_split.proofs.ListLemmas.{filter_none, filter_every}
use Rattle.def_promote.specs.Promoted.{levels_to, levels_behind, Takeable}
use Rattle.def_promote.proofs.LevelsLemmas.{numbered_parts}

pub numbered_deep : (least : ℕ) (levels : List Level) → is_numbered_from least levels ≡ true → (level : Level) → Among level levels → least ≤ level.number
numbered_deep least [] h level among = absurd among
numbered_deep least (first ∷ levels) h level (inl here) = let p = numbered_parts least first levels h in let low = p.low in omega (arith, low, ap (λ (l : Level). l.number) here)
numbered_deep least (first ∷ levels) h level (inr there) =
    let p = numbered_parts least first levels h in
    let low = p.low in
    let deep = numbered_deep (suc first.number) levels p.rest level there in
    omega (arith, low, deep)

pub levels_cut : (j least : ℕ) (levels : List Level) → is_numbered_from least levels ≡ true → levels ≡ levels_to j levels ++ levels_behind j levels
levels_cut j least [] h = refl
levels_cut j least (level ∷ levels) h =
    let p = numbered_parts least level levels h in
    elim (cases_lt j level.number) [
      | inl deep ↦
          let not_to : leb level.number j ≡ false = lt-leb level.number j deep in
          let is_behind : ltb j level.number ≡ true = lt-ltb j level.number deep in
          let none : levels_to j levels ≡ [] = filter_none (λ (l : Level). leb l.number j) levels (λ l among. let low = numbered_deep (suc level.number) levels p.rest l among in lt-leb l.number j (omega (arith, low, deep))) in
          let all : levels_behind j levels ≡ levels = filter_every (λ (l : Level). ltb j l.number) levels (λ l among. let low = numbered_deep (suc level.number) levels p.rest l among in lt-ltb j l.number (omega (arith, low, deep))) in
          sym ((λ i. cond (not_to i) (level ∷ levels_to j levels) (levels_to j levels) ++ cond (is_behind i) (level ∷ levels_behind j levels) (levels_behind j levels))
          ∙ (λ i. none i ++ level ∷ all i))
      | inr shallow ↦
          let is_to : leb level.number j ≡ true = le-leb level.number j shallow in
          let not_behind : ltb j level.number ≡ false = le-ltb j level.number shallow in
          ap (λ (ls : List Level). level ∷ ls) (levels_cut j (suc level.number) levels p.rest)
          ∙ sym (λ i. cond (is_to i) (level ∷ levels_to j levels) (levels_to j levels) ++ cond (not_behind i) (level ∷ levels_behind j levels) (levels_behind j levels))
    ]

-- levels down to a number are no deeper
pub shallow_taken : (j : ℕ) (levels : List Level) → list_all (λ level. leb level.number j) (levels_to j levels) ≡ true
shallow_taken j levels = all_from (λ level. leb level.number j) (levels_to j levels) (λ level among. (filter_among (λ l. leb l.number j) levels level among).1)

-- a state's levels down to a number may be taken where there is room
pub takeable : (s : State) → IsOrdered s → (j : ℕ) → 1 ≤ j → j ≤ 22 → length (level_zero s) + sum_by (λ level. length (level_leads level)) (levels_to j s.levels) ≤ s.mem * 2 ^ j
    → Takeable s j (levels_to j s.levels) (levels_behind j s.levels)
takeable s is j least most room = record {
  levels_are = levels_cut j 1 s.levels is.formed.numbered;
  least = least;
  most = most;
  deep = all_from (λ level. ltb j level.number) (levels_behind j s.levels) (λ level among. (filter_among (λ l. ltb j l.number) s.levels level among).1);
  room = room;
}
