-- Changes in two parts, those up to a seal and those that came since: both are accepted in turn.
use Rattle.std.proofs.Common.{◌≡◌, ◌+◌, ℕ, suc, true, List, [], ◌∷◌, ◌++◌, length, fold, refl, ap, ◌∙◌, arith}
use Rattle.std.proofs.lemmas.Bool.{and_parts, and_from}
use Rattle.strat_base.specs.Change.{Change}
use Rattle.strat_base.specs.Marks.{Marks}
use Rattle.strat_base.specs.Tree.{Parents}
use Rattle.def_state.specs.Sound.{are_accepted, is_accepted}
use Rattle.def_state.specs.State.{marks_after, tree_after}

module _ (cm vm : ℕ) where
  pub accepted_front : (front back : List Change) (parents : Parents) (marks : Marks) (n : ℕ) → are_accepted cm vm parents marks n (front ++ back) ≡ true → are_accepted cm vm parents marks n front ≡ true
  accepted_front [] back parents marks n all = refl
  accepted_front (c ∷ front) back parents marks n all =
      let parts = and_parts (is_accepted cm vm parents marks n c) (are_accepted cm vm (tree_after parents c) (marks_after marks c) (suc n) (front ++ back)) all in
      and_from (is_accepted cm vm parents marks n c) (are_accepted cm vm (tree_after parents c) (marks_after marks c) (suc n) front) parts.0
      (accepted_front front back (tree_after parents c) (marks_after marks c) (suc n) parts.1)

  pub accepted_back : (front back : List Change) (parents : Parents) (marks : Marks) (n : ℕ) → are_accepted cm vm parents marks n (front ++ back) ≡ true
      → are_accepted cm vm (fold tree_after parents front) (fold marks_after marks front) (n + length front) back ≡ true
  accepted_back [] back parents marks n all =
      let same : n + 0 ≡ n = omega arith in
      ap (λ (m : ℕ). are_accepted cm vm parents marks m back) same ∙ all
  accepted_back (c ∷ front) back parents marks n all =
      let parts = and_parts (is_accepted cm vm parents marks n c) (are_accepted cm vm (tree_after parents c) (marks_after marks c) (suc n) (front ++ back)) all in
      let same : n + suc (length front) ≡ suc n + length front = omega arith in
      ap (λ (m : ℕ). are_accepted cm vm (fold tree_after (tree_after parents c) front) (fold marks_after (marks_after marks c) front) m back) same
      ∙ accepted_back front back (tree_after parents c) (marks_after marks c) (suc n) parts.1
