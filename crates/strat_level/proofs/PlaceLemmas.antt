-- Places among entries in order, and what stands there after one is set.
use Rattle.std.proofs.Common.{◌≡◌, ◌<◌, ◌≤◌, ◌+◌, ℕ, zero, suc, true, get_or, inl, inr, List, [], ◌∷◌, length, None, refl, sym, ap, ◌∙◌, subst, arith}
use Rattle.std.proofs.Math.ListN.{set}
use Rattle.std.specs.List.{insert}
use Rattle.std.specs.Ordering.{match_ordering, is_lt, is_gt}
use Rattle.std.specs.declared.cmp.Ordering.{Ordering}
use Rattle.std.specs.declared.cmp.Ordering.TheVariants.{Less, Equal, Greater}
use Rattle.std.proofs.lemmas.Bool.{and_parts, cases_order}
use Rattle.strat_base.specs.Entries.{Entry, is_ascending}
use Rattle.strat_base.proofs.ListFacts.{Among}
use Rattle.def_state.specs.Setting.{set_entry}
use Rattle.def_state.proofs.SettingLemmas.{order, order_itself, order_tied, order_turned, order_back, order_trans, stands_first, first_of}
use Rattle.strat_level.specs.Places.{compared, IsPlaceOf, IsPlaceFor, IsStart, IsEnd}

-- an element at a place is one of the list
among_at : {X : Type 0} (xs : List X) (i : ℕ) (d : X) → i < length xs → Among (get_or xs i d) xs
among_at [] i d lt = absurd (omega arith)
among_at (x ∷ xs) zero d lt = inl refl
among_at (x ∷ xs) (suc i) d lt = inr (among_at xs i d (omega arith))

-- of two places the entry at the first stands before that at the second
pub ascending_at : (entries : List Entry) (i j : ℕ) (d f : Entry) → is_ascending entries ≡ true → i < j → j < length entries → order (get_or entries i d) (get_or entries j f) ≡ Less
ascending_at [] i j d f up lt within = absurd (omega arith)
ascending_at (e ∷ entries) i zero d f up lt within = absurd (omega arith)
ascending_at (e ∷ entries) zero (suc j) d f up lt within =
    first_of e (get_or entries j f) entries (and_parts (stands_first e entries) (is_ascending entries) up).0 (among_at entries j f (omega arith))
ascending_at (e ∷ entries) (suc i) (suc j) d f up lt within =
    ascending_at entries i j d f (and_parts (stands_first e entries) (is_ascending entries) up).1 (omega arith) (omega arith)

-- an entry of a key and a version, which it compares as
sought : List ℕ → ℕ → Entry
sought key version = record { key = key; version = version; value = None }

module _ (entries : List Entry) (up : is_ascending entries ≡ true) (key : List ℕ) (version : ℕ) where
  -- where an entry is less, all before it are
  pub less_before : (mid : ℕ) → mid < length entries → ((d : Entry) → compared (get_or entries mid d) key version ≡ Less) → (k : ℕ) (d : Entry) → k < mid + 1 → compared (get_or entries k d) key version ≡ Less
  unfolding sought
  less_before mid within less k d lt =
      elim (cases_order k mid) [
        | inl here ↦ subst (λ (i : ℕ). compared (get_or entries i d) key version ≡ Less) (sym here) (less d)
        | inr apart ↦
            elim apart [
              | inl before ↦ order_trans (get_or entries k d) (get_or entries mid d) (sought key version) (ascending_at entries k mid d d up before within) (less d)
              | inr after ↦ absurd (omega arith)
            ]
      ]

  -- where an entry is greater, all after it are
  pub greater_after : (mid : ℕ) → ((d : Entry) → compared (get_or entries mid d) key version ≡ Greater) → (k : ℕ) (d : Entry) → mid ≤ k → k < length entries → compared (get_or entries k d) key version ≡ Greater
  unfolding sought
  greater_after mid greater k d le within =
      elim (cases_order mid k) [
        | inl here ↦ subst (λ (i : ℕ). compared (get_or entries i d) key version ≡ Greater) here (greater d)
        | inr apart ↦
            elim apart [
              | inl before ↦
                  order_back (sought key version) (get_or entries k d)
                  (order_trans (sought key version) (get_or entries mid d) (get_or entries k d) (order_turned (get_or entries mid d) (sought key version) (greater d)) (ascending_at entries mid k d d up before within))
              | inr after ↦ absurd (omega arith)
            ]
      ]

  -- where an entry ties, all before it are less and all after it greater
  pub tied_before : (i : ℕ) → IsPlaceOf entries key version i → (k : ℕ) (d : Entry) → k < i → compared (get_or entries k d) key version ≡ Less
  unfolding sought
  tied_before i at k d lt =
      let tied = order_tied (get_or entries i d) (sought key version) (at.tied d) in
      let less = ascending_at entries k i d d up lt at.within in
      (λ j. compared (get_or entries k d) (sym tied.0 j) (sym tied.1 j)) ∙ less

  pub tied_after : (i : ℕ) → IsPlaceOf entries key version i → (k : ℕ) (d : Entry) → i < k → k < length entries → compared (get_or entries k d) key version ≡ Greater
  unfolding sought
  tied_after i at k d lt within =
      let tied = order_tied (get_or entries i d) (sought key version) (at.tied d) in
      let less = ascending_at entries i k d d up lt within in
      (λ j. compared (get_or entries k d) (sym tied.0 j) (sym tied.1 j)) ∙ order_back (get_or entries i d) (get_or entries k d) less

  pub start_of_tie : (i : ℕ) → IsPlaceOf entries key version i → IsStart entries key version i
  start_of_tie i at = record {
    within = let lt = at.within in omega arith;
    before = tied_before i at;
    after = λ k d le within.
        elim (cases_order i k) [
          | inl here ↦ ap is_lt (subst (λ (j : ℕ). compared (get_or entries j d) key version ≡ Equal) here (at.tied d))
          | inr apart ↦ elim apart [ inl lt ↦ ap is_lt (tied_after i at k d lt within) | inr gt ↦ absurd (omega arith) ]
        ];
  }

  pub start_of_gap : (i : ℕ) → IsPlaceFor entries key version i → IsStart entries key version i
  start_of_gap i at = record { within = at.within; before = at.before; after = λ k d le within. ap is_lt (at.after k d le within) }

pub end_of_tie : (entries : List Entry) → is_ascending entries ≡ true → (key : List ℕ) (i : ℕ) → IsPlaceOf entries key 0 i → IsEnd entries key (i + 1)
end_of_tie entries up key i at = record {
  within = let lt = at.within in omega arith;
  before = λ k d lt.
      elim (cases_order k i) [
        | inl here ↦ ap is_gt (subst (λ (j : ℕ). compared (get_or entries j d) key 0 ≡ Equal) (sym here) (at.tied d))
        | inr apart ↦ elim apart [ inl less ↦ ap is_gt (tied_before entries up key 0 i at k d less) | inr gt ↦ absurd (omega arith) ]
      ];
  after = λ k d le within. tied_after entries up key 0 i at k d (omega arith) within;
}

-- an entry is set over the one of its key and version
pub set_at_place : (entries : List Entry) (e : Entry) (i : ℕ) → is_ascending entries ≡ true → IsPlaceOf entries e.key e.version i → set_entry e entries ≡ set entries i e
set_at_place [] e i up at = let lt = at.within in absurd (omega arith)
set_at_place (d ∷ entries) e zero up at =
    let tied = order_tied d e (at.tied d) in
    ap (λ (o : Ordering). match_ordering o (e ∷ d ∷ entries) (e ∷ entries) (d ∷ set_entry e entries)) (order_itself e d (sym tied.0) (sym tied.1))
set_at_place (d ∷ entries) e (suc i) up at =
    let less : order d e ≡ Less = tied_before (d ∷ entries) up e.key e.version (suc i) at 0 d (omega arith) in
    let rest : IsPlaceOf entries e.key e.version i = record { within = let lt = at.within in omega arith; tied = at.tied } in
    ap (λ (o : Ordering). match_ordering o (e ∷ d ∷ entries) (e ∷ entries) (d ∷ set_entry e entries)) (order_back d e less)
    ∙ ap (λ (x : List Entry). d ∷ x) (set_at_place entries e i (and_parts (stands_first d entries) (is_ascending entries) up).1 rest)

-- or in between, where it belongs
pub set_between : (entries : List Entry) (e : Entry) (i : ℕ) → IsPlaceFor entries e.key e.version i → set_entry e entries ≡ insert entries i e
set_between [] e zero at = refl
set_between [] e (suc i) at = let le = at.within in absurd (omega arith)
set_between (d ∷ entries) e zero at =
    ap (λ (o : Ordering). match_ordering o (e ∷ d ∷ entries) (e ∷ entries) (d ∷ set_entry e entries)) (order_turned d e (at.after 0 d (omega arith) (omega arith)))
set_between (d ∷ entries) e (suc i) at =
    let rest : IsPlaceFor entries e.key e.version i = record {
      within = let le = at.within in omega arith;
      before = λ k f lt. at.before (suc k) f (omega arith);
      after = λ k f le lt. at.after (suc k) f (omega arith) (omega arith);
    } in
    ap (λ (o : Ordering). match_ordering o (e ∷ d ∷ entries) (e ∷ entries) (d ∷ set_entry e entries)) (order_back d e (at.before 0 d (omega arith)))
    ∙ ap (λ (x : List Entry). d ∷ x) (set_between entries e i rest)
