-- What a tree keeps of its versions, after one more was added.
use Rattle.std.proofs.Common.{◌≡◌, ◌<◌, ◌≤◌, ℕ, zero, suc, ◌+◌, ◌-◌, ◌^◌, Bool, true, false, eqb, ◌||◌, get_or, set, replicate, inl, inr, List, [], ◌∷◌, ◌++◌, length, Option, Some, None, refl, sym, ap, ◌∙◌, subst, arith, unwrap_or}
use Rattle.std.specs.List.{slice_get}
use Rattle.std.specs.Option.{option_map_or, option_and_then}
use Rattle.std.proofs.lemmas.Bool.{eq-eqb, ne_eqb, cases_eq, cases_lt, or_right}
use Rattle.std.proofs.lemmas.Nat.{pow_pos}
use Rattle.std.proofs.lemmas.List.{length_push, get_or_append_left, get_or_push, get_or-set_same, get_or-set_other, get_or-replicate, length-set}
use Rattle.std.proofs.lemmas.List.Folds.{list_any-append, list_any_none}
use Rattle.std.proofs.lemmas.Option.{slice_get-get_or}
use Rattle.strat_base.specs.Tree.{Parents, parent_of, climb, path, depth, has_child, with_child, IsOlder, IsTree}
use Rattle.strat_base.proofs.ListFacts.{Among}
use Rattle.strat_base.proofs.TreeLemmas.{parent_kept, path_kept, path_child, self_on_path}
use Rattle.strat_tree.specs.Ancestor.{up, ancestor_at}
use Rattle.strat_tree.specs.Jumps.{IsIndex, IsChildRow}
use Rattle.strat_tree.proofs.AncestorLemmas.{up_le, up_some, at_le, path_short, at_add, at_one}

or_false : (b : Bool) → (b || false) ≡ b
or_false true = refl
or_false false = refl

-- a version with this parent is a child of v
is_child : ℕ → Option ℕ → Bool
is_child v parent = option_map_or (λ p. eqb p v) parent false

no_child_of : (parent : Option ℕ) (k v : ℕ) → k < v → IsOlder k (Some parent) → is_child v parent ≡ false
unfolding is_child
no_child_of None k v lt older = refl
no_child_of (Some p) k v lt older = ne_eqb p v (λ e. omega arith)

-- a version that was not made yet is no parent
pub no_child_yet : (parents : Parents) → IsTree parents → (v : ℕ) → length parents ≤ v → has_child parents v ≡ false
unfolding is_child
no_child_yet parents tree v new =
    list_any_none (is_child v) parents (λ k d within. no_child_of (get_or parents k d) k v (omega arith) (subst (IsOlder k) (slice_get-get_or parents k d within) (tree.older k)))

pub path_some : (parents : Parents) → IsTree parents → (v : ℕ) → 1 ≤ length (path parents v)
path_some parents tree v = go (path parents v) (self_on_path parents tree v)
  where
    go : (xs : List ℕ) → Among v xs → 1 ≤ length xs
    go [] among = absurd among
    go (x ∷ xs) among = omega arith

-- version 0 alone is a tree
pub tree_root : IsTree (None ∷ [])
tree_root = record { some = omega arith; older = older }
  where
    older : (v : ℕ) → IsOlder v (slice_get (None ∷ []) v)
    older zero = refl
    older (suc v) = tt

-- the index of version 0 alone
pub index_root : IsIndex (None ∷ []) (0 ∷ []) (false ∷ []) (replicate 14 0 ∷ [])
unfolding climb
index_root = record {
  depths_len = refl;
  inner_len = refl;
  jumps_len = refl;
  deep = λ v within. let root : v ≡ 0 = omega arith in rw root refl;
  child = λ v within. let root : v ≡ 0 = omega arith in rw root refl;
  jump = λ v i within few.
      let root : v ≡ 0 = omega arith in
      let low : ancestor_at (None ∷ []) (2 ^ i) 0 ≤ 0 - 2 ^ i = at_le (None ∷ []) tree_root (2 ^ i) 0 in
      let least : ancestor_at (None ∷ []) (2 ^ i) 0 ≡ 0 = omega arith in
      rw root (get_or-replicate 14 i 0 0 few ∙ sym least);
}

module _ (parents : Parents) (tree : IsTree parents) (p : ℕ) (known : p < length parents) where
  -- no ancestor of an older version changes
  at_kept : (n v : ℕ) → v < length parents → ancestor_at (with_child parents p) n v ≡ ancestor_at parents n v
  unfolding ancestor_at
  at_kept zero v older = refl
  at_kept (suc n) v older =
      let same : up (with_child parents p) v ≡ up parents v = ap (λ (o : Option ℕ). unwrap_or o 0) (parent_kept parents tree p known v older) in
      let low : up parents v ≤ v - 1 = up_le parents tree v in
      ap (ancestor_at (with_child parents p) n) same ∙ at_kept n (up parents v) (omega arith)

  -- the ancestors of the new version are its parent and the ancestors of that
  at_child : (n : ℕ) → 0 < n → ancestor_at (with_child parents p) n (length parents) ≡ ancestor_at parents (n - 1) p
  at_child n some =
      let parent : parent_of (with_child parents p) (length parents) ≡ Some p
      = ap (λ (o : Option (Option ℕ)). option_and_then (λ parent. parent) o)
      (slice_get-get_or (with_child parents p) (length parents) None (omega (arith, length_push parents (Some p)))
      ∙ ap (λ (o : Option ℕ). Some o) (get_or_push parents (Some p) None (length parents) refl)) in
      let first : ancestor_at (with_child parents p) 1 (length parents) ≡ p = at_one (with_child parents p) (length parents) ∙ up_some (with_child parents p) (length parents) p parent in
      let steps : n ≡ n - 1 + 1 = omega arith in
      ap (λ (k : ℕ). ancestor_at (with_child parents p) k (length parents)) steps
      ∙ at_add (with_child parents p) (n - 1) 1 (length parents)
      ∙ ap (ancestor_at (with_child parents p) (n - 1)) first
      ∙ at_kept (n - 1) p known

  depth_kept : (v : ℕ) → v < length parents → depth (with_child parents p) v ≡ depth parents v
  depth_kept v older = ap (λ (xs : List ℕ). length xs - 1) (path_kept parents tree p known v older)

  depth_child : depth (with_child parents p) (length parents) ≡ depth parents p + 1
  depth_child =
      let longer = ap length (path_child parents tree p known) in
      let some : 1 ≤ length (path parents p) = path_some parents tree p in
      omega (arith, longer)

  child_before : (v : ℕ) → has_child (with_child parents p) v ≡ (has_child parents v || eqb p v)
  unfolding is_child
  child_before v = list_any-append (is_child v) parents (Some p ∷ []) ∙ ap (λ (b : Bool). has_child parents v || b) (or_false (eqb p v))

  -- the index of the tree with one more child of p
  pub index_grown : (depths : List ℕ) (inner : List Bool) (jumps : List (List ℕ)) (d : ℕ) (row : List ℕ) → IsIndex parents depths inner jumps
      → d ≡ depth parents p + 1 → IsChildRow parents p row
      → IsIndex (with_child parents p) (depths ++ d ∷ []) (set inner p true ++ false ∷ []) (jumps ++ row ∷ [])
  index_grown depths inner jumps d row index deeper filled =
      let longer : length (with_child parents p) ≡ length parents + 1 = length_push parents (Some p) in
      let depths_len = index.depths_len in
      let jumps_len = index.jumps_len in
      let inner_len : length (set inner p true) ≡ length parents = length-set inner p true ∙ index.inner_len in
      record {
        depths_len = omega (arith, length_push depths d);
        inner_len = omega (arith, length_push (set inner p true) false);
        jumps_len = omega (arith, length_push jumps row);
        deep = λ v within.
            elim (cases_lt v (length parents)) [
              | inl old ↦ get_or_append_left depths (d ∷ []) 0 v (omega arith) ∙ index.deep v old ∙ sym (depth_kept v old)
              | inr new ↦
                  let last : v ≡ length parents = omega arith in
                  get_or_push depths d 0 v (omega arith) ∙ deeper ∙ sym depth_child ∙ ap (depth (with_child parents p)) (sym last)
            ];
        child = λ v within.
            elim (cases_lt v (length parents)) [
              | inl old ↦
                  get_or_append_left (set inner p true) (false ∷ []) false v (omega arith)
                  ∙ elim (cases_eq v p) [
                    | inl same ↦
                        ap (λ (x : ℕ). get_or (set inner p true) x false) same ∙ get_or-set_same inner p true false (omega (arith, index.inner_len))
                        ∙ sym (or_right (has_child parents v) (eqb p v) (eq-eqb p v (sym same)))
                    | inr apart ↦
                        get_or-set_other inner p v true false apart ∙ index.child v old
                        ∙ sym (or_false (has_child parents v))
                        ∙ ap (λ (b : Bool). has_child parents v || b) (sym (ne_eqb p v (λ e. apart (sym e))))
                  ]
                  ∙ sym (child_before v)
              | inr new ↦
                  get_or_push (set inner p true) false false v (omega arith)
                  ∙ sym (ap (λ (b : Bool). b || eqb p v) (no_child_yet parents tree v new) ∙ ne_eqb p v (λ e. omega arith))
                  ∙ sym (child_before v)
            ];
        jump = λ v i within few.
            elim (cases_lt v (length parents)) [
              | inl old ↦
                  ap (λ (xs : List ℕ). get_or xs i 0) (get_or_append_left jumps (row ∷ []) [] v (omega arith))
                  ∙ index.jump v i old few ∙ sym (at_kept (2 ^ i) v old)
              | inr new ↦
                  let last : v ≡ length parents = omega arith in
                  ap (λ (xs : List ℕ). get_or xs i 0) (get_or_push jumps row [] v (omega arith))
                  ∙ filled i few ∙ sym (at_child (2 ^ i) (pow_pos i))
                  ∙ ap (ancestor_at (with_child parents p) (2 ^ i)) (sym last)
            ];
      }

-- a depth leaves room for one more
pub depth_fits : (parents : Parents) → IsTree parents → length parents ≤ 16384 → (v : ℕ) → v < length parents → depth parents v < 16384
depth_fits parents tree few v known = let short : length (path parents v) ≤ v + 1 = path_short parents tree v in omega arith
