-- The entries from a key on say of the key what all entries say.
use Rattle.std.proofs.Common.{◌≡◌, ℕ, Bool, true, false, cond, not, inl, inr, List, [], ◌∷◌, Option, Some, IsTrue, refl, sym, ap, ◌∙◌, subst, true≢false}
use Rattle.std.specs.List.{filter, find, list_all}
use Rattle.std.specs.Ordering.{is_lt}
use Rattle.std.proofs.lemmas.Bool.{and_parts, and_from, cases_Bool}
use Rattle.std.proofs.lemmas.Cmp.{tied_itself, nat_list_cmp_total}
use Rattle.strat_base.specs.Order.{key_cmp}
use Rattle.strat_base.specs.Tree.{Parents, is_ancestor, IsTree}
use Rattle.strat_base.specs.Entries.{Entry, is_of, is_ascending}
use Rattle.strat_base.proofs.ListFacts.{all_at, all_from, filter_among}
use Rattle.strat_base.proofs.EntryLemmas.{is_of_key}
use Rattle.def_state.specs.Reading.{live_of}
use Rattle.def_state.proofs.SettingLemmas.{order, stands_first}
use Rattle.strat_array.specs.declared.seen.Seen.{Seen}
use Rattle.strat_array.specs.Told.{TheirPairs, TellsFound}
use Rattle.strat_array.specs.Left.{is_from}
use Rattle.strat_array.specs.Walk.{is_seen_at}
use Rattle.strat_array.proofs.WalkLemmas.{first_is_live}

pub ascending_filter : (p : Entry → Bool) (entries : List Entry) → is_ascending entries ≡ true → is_ascending (filter p entries) ≡ true
ascending_filter p [] up = refl
ascending_filter p (e ∷ entries) up =
    let parts = and_parts (stands_first e entries) (is_ascending entries) up in
    let rest = ascending_filter p entries parts.1 in
    elim (p e) as (λ b. is_ascending (cond b (e ∷ filter p entries) (filter p entries)) ≡ true) [
      | true ↦
          and_from (stands_first e (filter p entries)) (is_ascending (filter p entries))
          (all_from (λ later. is_lt (order e later)) (filter p entries) (λ d among. all_at (λ later. is_lt (order e later)) d entries parts.0 (filter_among p entries d among).0)) rest
      | false ↦ rest
    ]

pub all_filtered : {X : Type 0} (p : X → Bool) (xs : List X) → list_all p (filter p xs) ≡ true
all_filtered p xs = all_from p (filter p xs) (λ x among. (filter_among p xs x among).1)

-- an entry of a key is not below it
of_from : (key : List ℕ) (e : Entry) → is_of key e ≡ true → is_from key e ≡ true
of_from key e of = ap not (ap is_lt (ap (λ (k : List ℕ). key_cmp k key) (is_of_key key e of) ∙ tied_itself nat_list_cmp_total key))

module _ (parents : Parents) (key : List ℕ) (v : ℕ) where
  not_from : (e : Entry) → is_from key e ≡ false → is_seen_at parents key v e ≡ false
  not_from e below = elim (cases_Bool (is_seen_at parents key v e)) [
    | inl seen ↦ absurd (true≢false (sym (of_from key e (and_parts (is_of key e) (is_ancestor parents e.version v) seen).0) ∙ below))
    | inr unseen ↦ unseen
  ]

  pub find_from : (entries : List Entry) → find (is_seen_at parents key v) (filter (is_from key) entries) ≡ find (is_seen_at parents key v) entries
  find_from [] = refl
  find_from (e ∷ entries) =
      elim (is_from key e) as (λ b. is_from key e ≡ b → find (is_seen_at parents key v) (cond b (e ∷ filter (is_from key) entries) (filter (is_from key) entries)) ≡ find (is_seen_at parents key v) (e ∷ entries)) [
        | true ↦ λ t. ap (λ (o : Option Entry). cond (is_seen_at parents key v e) (Some e) o) (find_from entries)
        | false ↦ λ t. find_from entries ∙ sym (ap (λ (b : Bool). cond b (Some e) (find (is_seen_at parents key v) entries)) (not_from e t))
      ] refl

  -- what is found in the entries that are left from a key on is what is live
  pub answers_live : IsTree parents → (entries left : List Entry) → is_ascending entries ≡ true → left ≡ filter (is_from key) entries → (old new : TheirPairs) (told : Seen)
      → (IsTrue (is_ascending left) → IsTrue (list_all (is_from key) left) → TellsFound (find (is_seen_at parents key v) left) key old new told)
      → TellsFound (live_of parents entries v key) key old new told
  answers_live tree entries left up is old new told answers =
      let found = answers (ap is_ascending is ∙ ascending_filter (is_from key) entries up) (ap (list_all (is_from key)) is ∙ all_filtered (is_from key) entries) in
      subst (λ (o : Option Entry). TellsFound o key old new told)
      (ap (find (is_seen_at parents key v)) is ∙ find_from entries ∙ first_is_live parents tree entries up key v) found
