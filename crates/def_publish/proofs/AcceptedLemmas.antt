-- Records whose changes were accepted, each in its turn.
use Rattle.std.proofs.Common.{◌≡◌, ℕ, suc, Bool, true, false, cond, List, [], ◌∷◌, map, Ok, Err, refl, ap, ◌∙◌}
use Rattle.std.proofs.lemmas.Bool.{and_parts, cond-true}
use Rattle.strat_base.specs.Change.{Change}
use Rattle.strat_base.specs.Tree.{Parents}
use Rattle.def_bytes.specs.Damage.{Read, put_first}
use Rattle.def_bytes.specs.Records.{Logged}
use Rattle.def_bytes.proofs.DamageLemmas.{put_first_ok}
use Rattle.def_recovery.specs.Opening.{accepted_in}
use Rattle.def_state.specs.Sound.{is_accepted, are_accepted}
use Rattle.def_state.specs.State.{tree_after, marks_after}
use Rattle.strat_base.specs.Marks.{Marks}

-- the changes of records, in order
abbrev pub changes_logged : List Logged → List Change
changes_logged logged = map (λ l. l.change) logged

-- records that were accepted are these changes
pub accepted_changes : (changes_max versions_max : ℕ) (parents : Parents) (marks : Marks) (n : ℕ) (logged : List Logged) (journal : List Change)
    → accepted_in changes_max versions_max parents marks n logged ≡ Ok journal → changes_logged logged ≡ journal
accepted_changes changes_max versions_max parents marks n [] journal e = cc
accepted_changes changes_max versions_max parents marks n (l ∷ logged) journal e =
    by_test (is_accepted changes_max versions_max parents marks n l.change) (accepted_changes changes_max versions_max (tree_after parents l.change) (marks_after marks l.change) (suc n) logged) e
  where
    later : Read (List Change)
    later = accepted_in changes_max versions_max (tree_after parents l.change) (marks_after marks l.change) (suc n) logged

    by_test : (b : Bool) → ((j : List Change) → later ≡ Ok j → changes_logged logged ≡ j)
        → cond b (put_first l.change later) (Err l.block) ≡ Ok journal → l.change ∷ changes_logged logged ≡ journal
    by_test false rest e = absurd (cc)
    by_test true rest e =
        let parts = put_first_ok l.change later journal e in
        ap (λ (j : List Change). l.change ∷ j) (rest parts.0 parts.1) ∙ parts.2

-- changes that are each accepted in turn are accepted as records
pub accepted_logged : (changes_max versions_max : ℕ) (parents : Parents) (marks : Marks) (n : ℕ) (logged : List Logged)
    → are_accepted changes_max versions_max parents marks n (changes_logged logged) ≡ true → accepted_in changes_max versions_max parents marks n logged ≡ Ok (changes_logged logged)
accepted_logged changes_max versions_max parents marks n [] e = refl
accepted_logged changes_max versions_max parents marks n (l ∷ logged) e =
    let parts = and_parts (is_accepted changes_max versions_max parents marks n l.change) (are_accepted changes_max versions_max (tree_after parents l.change) (marks_after marks l.change) (suc n) (changes_logged logged)) e in
    cond-true (is_accepted changes_max versions_max parents marks n l.change) (put_first l.change (accepted_in changes_max versions_max (tree_after parents l.change) (marks_after marks l.change) (suc n) logged)) (Err l.block) parts.0
    ∙ ap (λ (r : Read (List Change)). put_first l.change r) (accepted_logged changes_max versions_max (tree_after parents l.change) (marks_after marks l.change) (suc n) logged parts.1)
