-- Where no version was dropped, a version is there if it was made, and takes updates if it has no child.
use Rattle.std.proofs.Common.{◌≡◌, ℕ, Bool, true, false, ◌&&◌, not, [], ◌∷◌, ◌++◌, refl, ap, ◌∙◌}
use Rattle.std.proofs.lemmas.Bool.{and_parts, and_from}
use Rattle.strat_base.specs.Tree.{Parents, is_known, has_child}
use Rattle.strat_base.specs.Marks.{Marks, is_dropped, none_dropped}
use Rattle.strat_base.proofs.MarkLemmas.{living_at, living_child}
use Rattle.def_state.specs.Sound.{is_there, takes_updates}

and_true : (b : Bool) → (b && true) ≡ b
and_true true = refl
and_true false = refl

module _ (parents : Parents) (marks : Marks) (none : none_dropped marks ≡ true) (v : ℕ) where
  pub there_made : is_there parents marks v ≡ is_known parents v
  there_made = ap (λ (b : Bool). is_known parents v && not b) (living_at marks none v) ∙ and_true (is_known parents v)

  pub open_made : takes_updates parents marks v ≡ (is_known parents v && not (has_child parents v))
  open_made = λ i. there_made i && not (living_child parents marks none v i)

pub none_pushed : (marks : Marks) → none_dropped marks ≡ true → none_dropped (marks ++ false ∷ []) ≡ true
none_pushed [] none = refl
none_pushed (m ∷ marks) none =
    let parts = and_parts (not m) (none_dropped marks) none in
    and_from (not m) (none_dropped (marks ++ false ∷ [])) parts.0 (none_pushed marks parts.1)
