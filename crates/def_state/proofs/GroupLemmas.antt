-- Among entries in order the first of a key at a version or an ancestor of it decides the key there.
use Rattle.std.proofs.Common.{◌≡◌, ◌≤◌, ℕ, Bool, true, false, cond, ◌&&◌, inl, inr, List, [], ◌∷◌, filter, Option, Some, refl, sym, ap, ◌∙◌, arith, true≢false}
use Rattle.std.specs.List.{find}
use Rattle.std.proofs.lemmas.Bool.{and_parts, and_from, cases_order}
use Rattle.strat_base.specs.Tree.{Parents, is_ancestor, IsTree}
use Rattle.strat_base.specs.Entries.{Entry, is_of, is_at, is_ascending}
use Rattle.def_state.specs.Live.{deciding}
use Rattle.strat_base.proofs.ListFacts.{Among, find_some, find_none}
use Rattle.strat_base.proofs.EntryLemmas.{same_bytes, is_of_key, at_key_version, single_same}
use Rattle.strat_base.proofs.ResultFacts.{option_cases}
use Rattle.strat_base.proofs.TreeLemmas.{ancestor_among, among_ancestor}
use Rattle.def_state.proofs.LevelLemmas.{ascending_single}
use Rattle.def_state.proofs.LiveLemmas.{deciding_some, deciding_found}
use Rattle.def_state.proofs.SettingLemmas.{stands_first, first_of, order_version}

-- a search among those that pass one test is a search for those that pass both
pub find_filter : {X : Type 0} (p q : X → Bool) (xs : List X) → find q (filter p xs) ≡ find (λ x. p x && q x) xs
find_filter p q [] = refl
find_filter {X} p q (x ∷ xs) =
    elim (p x) as (λ b. find q (cond b (x ∷ filter p xs) (filter p xs)) ≡ cond (b && q x) (Some x) (find (λ y. p y && q y) xs)) [
      | true ↦ ap (λ (o : Option X). cond (q x) (Some x) o) (find_filter p q xs)
      | false ↦ find_filter p q xs
    ]

-- the first of a key that passes has the greatest version of those
first_greatest : (p : Entry → Bool) (entries : List Entry) (e d : Entry) → is_ascending entries ≡ true → find p entries ≡ Some e → Among d entries → p d ≡ true → d.key ≡ e.key → d.version ≤ e.version
first_greatest p [] e d up is among passes k = absurd among
first_greatest p (x ∷ entries) e d up is among passes k = go (λ found there. first_greatest p entries e d parts.1 found there passes k) (p x) refl is among
  where
    parts : (stands_first x entries ≡ true) × (is_ascending entries ≡ true)
    parts = and_parts (stands_first x entries) (is_ascending entries) up

    go : (find p entries ≡ Some e → Among d entries → d.version ≤ e.version) → (b : Bool) → p x ≡ b → cond b (Some x) (find p entries) ≡ Some e → Among d (x ∷ entries) → d.version ≤ e.version
    go rest true at found (inl here) =
        let same : x ≡ e = cc in
        omega (arith, ap (λ (y : Entry). y.version) same, ap (λ (y : Entry). y.version) here)
    go rest true at found (inr there) =
        let same : x ≡ e = cc in
        let less = order_version x d (first_of x d entries parts.0 there) (ap (λ (y : Entry). y.key) same ∙ sym k) in
        omega (arith, ap (λ (y : Entry). y.version) same, less)
    go rest false at found (inl here) = absurd (true≢false (sym passes ∙ ap p here ∙ at))
    go rest false at found (inr there) = rest found there

module _ (parents : Parents) (tree : IsTree parents) (entries : List Entry) (up : is_ascending entries ≡ true) (key : List ℕ) (v : ℕ) where
  abbrev of_path : Entry → Bool
  of_path e = is_of key e && is_ancestor parents e.version v

  -- the entry that decides a key is the first of it whose version is on the path
  pub deciding_first : deciding parents entries key v ≡ find (λ e. is_of key e && is_ancestor parents e.version v) entries
  deciding_first =
      elim (option_cases (find of_path entries)) [
        | inl none ↦
            elim (option_cases (deciding parents entries key v)) [
              | inl nothing ↦ nothing ∙ sym none
              | inr d ↦
                  let decides = deciding_some parents tree entries key v d.0 d.1 in
                  let passes = and_from (is_of key d.0) (is_ancestor parents d.0.version v) (same_bytes d.0.key key decides.of_key) (among_ancestor parents tree d.0.version v decides.on_path) in
                  absurd (true≢false (sym passes ∙ find_none of_path entries d.0 none decides.among))
            ]
        | inr found ↦
            let e = found.0 in
            let there = find_some of_path entries e found.1 in
            let parts = and_parts (is_of key e) (is_ancestor parents e.version v) there.1 in
            let k : e.key ≡ key = is_of_key key e parts.0 in
            let d = deciding_found parents tree entries key v e there.0 k (ancestor_among parents tree e.version v parts.1) in
            let decides = deciding_some parents tree entries key v d.0 d.1 in
            let passes = and_from (is_of key d.0) (is_ancestor parents d.0.version v) (same_bytes d.0.key key decides.of_key) (among_ancestor parents tree d.0.version v decides.on_path) in
            let most : d.0.version ≤ e.version = first_greatest of_path entries e d.0 up found.1 decides.among passes (decides.of_key ∙ sym k) in
            elim (cases_order d.0.version e.version) [
              | inl equal ↦
                  let same = single_same entries e d.0 (ascending_single entries up) there.0 decides.among (at_key_version e.key e.version d.0 (decides.of_key ∙ sym k) equal) in
                  d.1 ∙ ap (λ (x : Entry). Some x) (sym same) ∙ sym found.1
              | inr apart ↦
                  elim apart [
                    | inl lt ↦
                        let none = decides.nearest e.version (ancestor_among parents tree e.version v parts.1) lt in
                        absurd (true≢false (sym (at_key_version key e.version e k refl) ∙ find_none (is_at key e.version) entries e none there.0))
                    | inr gt ↦ absurd (omega arith)
                  ]
            ]
      ]

  -- the entry that decides a key is the first of the key's group at the version or an ancestor of it
  pub deciding_group : deciding parents entries key v ≡ find (λ e. is_ancestor parents e.version v) (filter (is_of key) entries)
  deciding_group = deciding_first ∙ sym (find_filter (is_of key) (λ e. is_ancestor parents e.version v) entries)
