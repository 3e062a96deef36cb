-- An array that is read at a version is a third live at it.
use Rattle.std.proofs.Common.{◌≡◌, ◌≤◌, ◌<◌, ◌*◌, ◌&&◌, ℕ, Bool, true, false, not, cond, eqb, leb, ltb, inl, inr, List, [], ◌∷◌, length, filter, Some, refl, sym, ap, subst, arith}
use Rattle.std.specs.List.{Contains, list_any}
use Rattle.std.proofs.lemmas.Bool.{cases_eq, eqb-true, leb-true}
use Rattle.def_recovery.proofs.BadLemmas.{contained_at}
use Rattle.def_state.proofs.LevelLemmas.{lead_below, tagged_below}
use Rattle.def_state.proofs.SoundLemmas.{sound_tree}
use Rattle.def_state.specs.Level.{Level, TaggedArray, IsStratified, is_dense, is_drawn, level_leads}
use Rattle.def_state.specs.Live.{is_hidden_by, is_live, live}
use Rattle.def_state.specs.LookUp.{array_asked, of_state}
use Rattle.def_state.specs.Sound.{IsSound}
use Rattle.def_state.specs.State.{State, versions_of}
use Rattle.strat_base.proofs.EntryLemmas.{held_among}
use Rattle.strat_base.proofs.ListFacts.{Among, all_at, any_among, among_in_flat, any_same, each_of, find_some}
use Rattle.strat_base.proofs.TreeLemmas.{ancestor_among, among_ancestor, below_found, below_greatest, path_order, path_trans, self_on_path}
use Rattle.strat_base.specs.Entries.{Entry, holds_entry, is_of, is_tagged}
use Rattle.strat_base.specs.Tree.{IsTree, Parents, below, is_ancestor, path}

-- two tests that hold of each other's
both_true : (a b : Bool) → (a ≡ true → b ≡ true) → (b ≡ true → a ≡ true) → a ≡ b
both_true true b to from = sym (to refl)
both_true false true to from = from refl
both_true false false to from = refl

filter_same : {X : Type 0} (p q : X → Bool) (xs : List X) → ((x : X) → Among x xs → p x ≡ q x) → filter p xs ≡ filter q xs
filter_same p q [] same = refl
filter_same {X = X} p q (x ∷ xs) same =
    let rest : filter p xs ≡ filter q xs = filter_same p q xs (λ y among. same y (inr among)) in
    (λ i. cond (same x (inl refl) i) (x ∷ rest i) (rest i))

tagged_among : (tag : List ℕ) (v : ℕ) → is_tagged tag v ≡ true → Among v tag
tagged_among tag v e = let found = any_among (λ w. eqb w v) tag e in subst (λ (x : ℕ). Among x tag) (eqb-true found.0 v found.2) found.1

module _ (parents : Parents) (tree : IsTree parents) (v h : ℕ) (known : v < length parents) (positive : 0 < h) where
  -- below a horizon a version has the ancestors of its nearest ancestor there
  same_ancestors : (u : ℕ) → u < h → is_ancestor parents u v ≡ is_ancestor parents u (below parents v h)
  same_ancestors u low =
      let b = below parents v h in
      let found = below_found parents tree v h known positive in
      both_true (is_ancestor parents u v) (is_ancestor parents u b)
      (λ is.
      let on = ancestor_among parents tree u v is in
      elim (cases_eq u b) [
        | inl same ↦ among_ancestor parents tree u b (subst (λ (x : ℕ). Among x (path parents b)) (sym same) (self_on_path parents tree b))
        | inr apart ↦ among_ancestor parents tree u b (path_order parents tree u b v on found.0 (less u b (below_greatest parents tree u v h on low) apart))
      ])
      (λ is. among_ancestor parents tree u v (path_trans parents tree u b v (ancestor_among parents tree u b is) found.0))
    where
      less : (x y : ℕ) → x ≤ y → (x ≡ y → ⊥) → x < y
      less x y le apart = omega (arith, le, apart)

  -- so entries below the horizon are live at both or at none
  same_live : (entries : List Entry) → ((e : Entry) → Among e entries → e.version < h) → live parents entries v ≡ live parents entries (below parents v h)
  same_live entries low =
      let b = below parents v h in
      filter_same (is_live parents entries v) (is_live parents entries b) entries (λ e among.
      let on = same_ancestors e.version (low e among) in
      let hidden : list_any (is_hidden_by parents v e) entries ≡ list_any (is_hidden_by parents b e) entries =
      any_same (is_hidden_by parents v e) (is_hidden_by parents b e) entries (λ d there. ap (λ (t : Bool). is_of e.key d && ltb e.version d.version && t) (same_ancestors d.version (low d there))) in
      (λ i. on i && not (hidden i)))

pub third_live : (s : State) (level : Level) (a : TaggedArray) (v : ℕ) → IsSound s → Contains s.levels level → v < length (versions_of s) → array_asked of_state (versions_of s) level v ≡ Some a
    → length a.content ≤ 3 * length (live (versions_of s) a.content v)
third_live s level a v sound at known asked =
    let parents = versions_of s in
    let tree = sound_tree s sound.formed in
    let strat = each_of (IsStratified parents) s.levels level sound.stratified (contained_at level s.levels at.0 at.1 at.2) in
    let b = below parents v level.horizon in
    let there = find_some (λ x. is_tagged x.tag b) level.arrays a asked in
    let tagged = tagged_among a.tag b there.1 in
    let low : b < level.horizon = tagged_below parents tree level strat b (among_in_flat (λ x. x.tag) level.arrays a b there.0 tagged) in
    let same = same_live parents tree v level.horizon known (omega (arith, low)) a.content (λ e among. lead_below parents tree level strat e (held_among (level_leads level) e (all_at (holds_entry (level_leads level)) e a.content (all_at (is_drawn level) a level.arrays strat.drawn there.0) among))) in
    let dense = leb-true (length a.content) (3 * length (live parents a.content b)) (all_at (λ w. leb (length a.content) (3 * length (live parents a.content w))) b a.tag (all_at (is_dense parents) a level.arrays strat.dense there.0) tagged) in
    omega (arith, dense, ap (λ (l : List Entry). length l) same)
