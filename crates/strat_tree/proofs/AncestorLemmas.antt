-- Steps up the paths of a tree, and the walk by jumps that finds the ancestor below a horizon.
use Rattle.std.proofs.Common.{◌≡◌, ◌<◌, ◌≤◌, ℕ, zero, suc, ◌+◌, ◌-◌, ◌^◌, true, eqb, get_or, inl, inr, List, [], length, Option, Some, None, refl, sym, ap, ◌∙◌, subst, arith, unwrap_or}
use Rattle.std.proofs.Math.Nat.{pow-succ'}
use Rattle.std.proofs.lemmas.Nat.{pow_pos}
use Rattle.std.proofs.lemmas.Bool.{eq-eqb, ne_eqb, cases_Bool}
use Rattle.strat_base.specs.Tree.{Parents, parent_of, path, is_ancestor, below, IsTree}
use Rattle.strat_base.proofs.ListFacts.{Among}
use Rattle.strat_base.proofs.ResultFacts.{option_cases}
use Rattle.strat_base.proofs.TreeLemmas.{parent_older, root_is_zero, path_root, path_up, along_path, ancestor_among, among_ancestor, below_here, below_up, below_found, below_greatest}
use Rattle.std.proofs.lemmas.List.{get_or_read}
use Rattle.strat_tree.specs.Ancestor.{up, ancestor_at}
use Rattle.strat_tree.specs.TreeView.{TreeView}
use Rattle.strat_tree.specs.Jumps.{IsIndex}
use Rattle.strat_tree.specs.TreeFields.{tree_of, IsIndexed}
use Rattle.strat_tree.specs.declared.tree.Tree.TheInside.{Inside}

pub up_root : (parents : Parents) (v : ℕ) → parent_of parents v ≡ None → up parents v ≡ 0
up_root parents v none = ap (λ (o : Option ℕ). unwrap_or o 0) none

pub up_some : (parents : Parents) (v p : ℕ) → parent_of parents v ≡ Some p → up parents v ≡ p
up_some parents v p some = ap (λ (o : Option ℕ). unwrap_or o 0) some

pub at_none : (parents : Parents) (v : ℕ) → ancestor_at parents 0 v ≡ v
unfolding ancestor_at
at_none parents v = refl

pub at_one : (parents : Parents) (v : ℕ) → ancestor_at parents 1 v ≡ up parents v
unfolding ancestor_at
at_one parents v = refl

-- steps after steps are so many steps
pub at_add : (parents : Parents) (m n v : ℕ) → ancestor_at parents (m + n) v ≡ ancestor_at parents m (ancestor_at parents n v)
unfolding ancestor_at
at_add parents m zero v = let none : m + zero ≡ m = omega arith in ap (λ (k : ℕ). ancestor_at parents k v) none
at_add parents m (suc n) v =
    let more : m + suc n ≡ suc (m + n) = omega arith in
    ap (λ (k : ℕ). ancestor_at parents k v) more ∙ at_add parents m n (up parents v)

module _ (parents : Parents) (tree : IsTree parents) where
  pub up_le : (v : ℕ) → up parents v ≤ v - 1
  up_le v =
      elim (option_cases (parent_of parents v)) [
        | inl none ↦ let root = up_root parents v none in omega (arith, root)
        | inr some ↦
            let above = up_some parents v some.0 some.1 in
            let older : some.0 < v = parent_older parents tree v some.0 some.1 in
            omega (arith, above)
      ]

  -- each step leads to a smaller number
  pub at_le : (n v : ℕ) → ancestor_at parents n v ≤ v - n
  unfolding ancestor_at
  at_le zero v = omega arith
  at_le (suc n) v =
      let first : up parents v ≤ v - 1 = up_le v in
      let rest : ancestor_at parents n (up parents v) ≤ up parents v - n = at_le n (up parents v) in
      omega arith

  -- steps that stay at or above a horizon leave what is found below it
  pub below_jump : (n v h : ℕ) → 0 < h → h ≤ ancestor_at parents n v → below parents (ancestor_at parents n v) h ≡ below parents v h
  unfolding ancestor_at
  below_jump zero v h some above = refl
  below_jump (suc n) v h positive above =
      let rest : ancestor_at parents n (up parents v) ≤ up parents v - n = at_le n (up parents v) in
      elim (option_cases (parent_of parents v)) [
        | inl none ↦ let root : up parents v ≡ 0 = up_root parents v none in absurd (omega arith)
        | inr some ↦
            let next : up parents v ≡ some.0 = up_some parents v some.0 some.1 in
            let older : some.0 < v = parent_older parents tree v some.0 some.1 in
            below_jump n (up parents v) h positive above
            ∙ ap (λ (x : ℕ). below parents x h) next
            ∙ sym (below_up parents tree v some.0 h some.1 (omega arith))
      ]

  -- the parent of the last version at or above a horizon is what is found below it
  pub below_last : (v h : ℕ) → v < length parents → 0 < h → h ≤ v → up parents v < h → up parents v ≡ below parents v h
  below_last v h known positive above last =
      elim (option_cases (parent_of parents v)) [
        | inl none ↦ let root : v ≡ 0 = root_is_zero parents tree v known none in absurd (omega arith)
        | inr some ↦
            let next : up parents v ≡ some.0 = up_some parents v some.0 some.1 in
            let lt : some.0 < h = omega arith in
            next ∙ sym (below_here parents tree some.0 h lt) ∙ sym (below_up parents tree v some.0 h some.1 above)
      ]

  -- u is on the path of v exactly where it is found below the number after it
  pub ancestor_by_below : (u v : ℕ) → v < length parents → eqb (below parents v (u + 1)) u ≡ is_ancestor parents u v
  ancestor_by_below u v known =
      elim (cases_Bool (is_ancestor parents u v)) [
        | inl yes' ↦
            let least : u ≤ below parents v (u + 1) = below_greatest parents tree u v (u + 1) (ancestor_among parents tree u v yes') (omega arith) in
            let found = below_found parents tree v (u + 1) known (omega arith) in
            eq-eqb (below parents v (u + 1)) u (omega (arith, found.1)) ∙ sym yes'
        | inr no' ↦
            let found = below_found parents tree v (u + 1) known (omega arith) in
            let among : below parents v (u + 1) ≡ u → is_ancestor parents u v ≡ true
            = λ (e : below parents v (u + 1) ≡ u). among_ancestor parents tree u v (subst (λ (x : ℕ). Among x (path parents v)) e found.0) in
            ne_eqb (below parents v (u + 1)) u (λ e. let yes' = among e in absurd (cc)) ∙ sym no'
      ]

  -- a path is no longer than its version's number says
  pub path_short : (v : ℕ) → length (path parents v) ≤ v + 1
  path_short = along_path parents tree (λ v. length (path parents v) ≤ v + 1)
      (λ v none. let one = ap length (path_root parents tree v none) in omega (arith, one))
      (λ v p some ih.
      let more = ap length (path_up parents tree v p some) in
      let older : p < v = parent_older parents tree v p some in
      omega (arith, more))

-- a walk from v has come to a version at or above the horizon h, and 2 ^ i steps further are below it
pub record IsWalk (parents : Parents) (v h at i : ℕ) : Type 0 where
  pub known : at < length parents
  pub above : h ≤ at
  pub same : below parents at h ≡ below parents v h
  pub far : ancestor_at parents (2 ^ i) at < h

-- a jump is twice the one before it
two_halves : (i : ℕ) → 1 ≤ i → 2 ^ i ≡ 2 ^ (i - 1) + 2 ^ (i - 1)
two_halves zero some = absurd (omega arith)
two_halves (suc i) some = let less : suc i - 1 ≡ i = omega arith in rw less (omega (arith, pow-succ' 2 i))

module _ (parents : Parents) (tree : IsTree parents) (v h : ℕ) (positive : 0 < h) where
  -- a jump that stays at or above the horizon is taken
  pub walk_jumps : (at i next : ℕ) → 1 ≤ i → IsWalk parents v h at i → next ≡ ancestor_at parents (2 ^ (i - 1)) at → h ≤ next → IsWalk parents v h next (i - 1)
  walk_jumps at i next some walk is above =
      let low : ancestor_at parents (2 ^ (i - 1)) at ≤ at - 2 ^ (i - 1) = at_le parents tree (2 ^ (i - 1)) at in
      let known : at < length parents = walk.known in
      let both : ancestor_at parents (2 ^ i) at ≡ ancestor_at parents (2 ^ (i - 1)) next
      = ap (λ (k : ℕ). ancestor_at parents k at) (two_halves i some) ∙ at_add parents (2 ^ (i - 1)) (2 ^ (i - 1)) at ∙ ap (ancestor_at parents (2 ^ (i - 1))) (sym is) in
      let far : ancestor_at parents (2 ^ i) at < h = walk.far in
      record {
        known = omega arith;
        above = above;
        same = ap (λ (x : ℕ). below parents x h) is ∙ below_jump parents tree (2 ^ (i - 1)) at h positive (omega arith) ∙ walk.same;
        far = omega arith;
      }

  -- a jump that goes below it is not
  pub walk_stays : (at i next : ℕ) → IsWalk parents v h at i → next ≡ ancestor_at parents (2 ^ (i - 1)) at → next < h → IsWalk parents v h at (i - 1)
  walk_stays at i next walk is below' =
      record { known = walk.known; above = walk.above; same = walk.same; far = omega (arith, is) }

  -- after all jumps the parent is the version that was sought
  pub walk_ends : (at : ℕ) → IsWalk parents v h at 0 → up parents at ≡ below parents v h
  walk_ends at walk =
      let one : ancestor_at parents 1 at ≡ up parents at = at_one parents at in
      let far : ancestor_at parents 1 at < h = walk.far in
      below_last parents tree at h walk.known positive walk.above (omega arith) ∙ walk.same

-- the jumps of a child of p as far as they are filled
abbrev pub IsRow : Parents → ℕ → List ℕ → ℕ → Type 0
IsRow parents p row i = (k : ℕ) → k < i → get_or row k 0 ≡ ancestor_at parents (2 ^ k - 1) p

pub row_begins : (parents : Parents) (p : ℕ) (row : List ℕ) → get_or row 0 0 ≡ p → IsRow parents p row 1
row_begins parents p row first zero few = first ∙ sym (at_none parents p)
row_begins parents p row first (suc k) few = absurd (omega arith)

-- the end of the last jump is a version
pub row_known : (parents : Parents) → IsTree parents → (p : ℕ) (row : List ℕ) (i : ℕ) → p < length parents → 1 ≤ i → IsRow parents p row i → get_or row (i - 1) 0 < length parents
row_known parents tree p row i known some filled =
    let low : ancestor_at parents (2 ^ (i - 1) - 1) p ≤ p - (2 ^ (i - 1) - 1) = at_le parents tree (2 ^ (i - 1) - 1) p in
    omega (arith, filled (i - 1) (omega arith))

-- a jump from the end of a jump is the next one
pub row_next : (parents : Parents) (p q i next : ℕ) → 1 ≤ i → q ≡ ancestor_at parents (2 ^ (i - 1) - 1) p → next ≡ ancestor_at parents (2 ^ (i - 1)) q → next ≡ ancestor_at parents (2 ^ i - 1) p
row_next parents p q i next some first second =
    let halves : 2 ^ i ≡ 2 ^ (i - 1) + 2 ^ (i - 1) = two_halves i some in
    let positive : 0 < 2 ^ (i - 1) = pow_pos (i - 1) in
    let both : 2 ^ (i - 1) + (2 ^ (i - 1) - 1) ≡ 2 ^ i - 1 = omega arith in
    second ∙ ap (ancestor_at parents (2 ^ (i - 1))) first ∙ sym (at_add parents (2 ^ (i - 1)) (2 ^ (i - 1) - 1) p) ∙ ap (λ (k : ℕ). ancestor_at parents k p) both

-- what the fields of a tree say of the value that callers see
pub record IsSeenAs (a : Inside) (t : TreeView) : Type 0 where
  pub tree : IsTree t.parents
  pub few : length t.parents ≤ 16384
  pub index : IsIndex t.parents a.depths.items a.inner.items a.jumps.items

pub seen_as : (a : Inside) (t : TreeView) → tree_of a ≡ t → IsIndexed a → IsSeenAs a t
seen_as a t same seen =
    subst (λ (x : TreeView). IsSeenAs a x) same (record {
      tree = seen.tree;
      few = omega (arith, seen.fits, seen.few);
      index = seen.index;
    })

-- where a jump leads, as it is read
pub jump_read : (a : Inside) (t : TreeView) → IsSeenAs a t → (v i : ℕ) (row : List ℕ) → v < length t.parents → i < 14 → row ≡ get_or a.jumps.items v row
    → get_or row i 0 ≡ ancestor_at t.parents (2 ^ i) v
jump_read a t seen v i row known few read =
    let within : v < length a.jumps.items = omega (arith, seen.index.jumps_len) in
    ap (λ (xs : List ℕ). get_or xs i 0) (get_or_read a.jumps.items v row within read []) ∙ seen.index.jump v i known few
