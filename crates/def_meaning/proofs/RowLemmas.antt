-- The rows of a table: one for each version, with its parent and its map.
use Rattle.std.proofs.Common.{◌≡◌, ◌≢◌, ◌<◌, ◌≤◌, ◌+◌, ℕ, zero, suc, Bool, true, false, cond, eqb, ltb, not, ◌&&◌, inl, inr, set, get_or, List, [], ◌∷◌, ◌++◌, length, map, Option, Some, None, refl, sym, ap, ◌∙◌, arith}
use Rattle.std.proofs.lemmas.Bool.{cases_Bool, eq-eqb, ne_eqb, ltb-true, cond-true, cond-false}
use Rattle.std.proofs.lemmas.List.{get_or-set_same, get_or-set_other}
use Rattle.std.specs.Map.{remove_entry}
use Rattle.std.specs.BTreeMap.{insert_entry}
use Rattle.std.specs.Ordering.{is_eq}
use Rattle.strat_base.specs.Order.{key_cmp}
use Rattle.strat_base.specs.Tree.{Parents, parent_of, with_child, IsTree}
use Rattle.strat_base.specs.Marks.{Marks, is_dropped, has_living_child, ArePruned}
use Rattle.strat_base.specs.Entries.{Entry, is_at}
use Rattle.strat_base.proofs.ListFacts.{Among, range_among, any_same}
use Rattle.strat_base.proofs.PrunedLemmas.{mark_kept}
use Rattle.std.specs.List.{find, range_with_len}
use Rattle.std.specs.Option.{option_map_or}
use Rattle.def_state.specs.Maps.{map_over}
use Rattle.def_state.specs.Sound.{is_there}
use Rattle.def_state.proofs.MarkLemmas.{open_apart}
use Rattle.def_state.proofs.StepMaps.{past_end}
use Rattle.def_state.proofs.ValueLemmas.{maps_same, value_found, map_put, map_delete, map_kept, map_child}
use Rattle.strat_model.specs.Pairs.{Pairs}
use Rattle.strat_model.specs.Pairs as pairs
use Rattle.strat_model.specs.Table.{Row, Table, parents_of, marks_in}
use Rattle.strat_model.specs.Step.{no_row, has_row, is_frozen, with_pairs, with_dropped}
use Rattle.def_meaning.specs.TableOver.{rows_from, pairs_over, rows_over}

-- rows by what marks and maps they have
pub length-rows : (maps : ℕ → Pairs) (marks : Marks) (v : ℕ) (parents : Parents) → length (rows_from maps marks v parents) ≡ length parents
length-rows maps marks v [] = refl
length-rows maps marks v (p ∷ parents) = ap suc (length-rows maps marks (suc v) parents)

pub parents-rows : (maps : ℕ → Pairs) (marks : Marks) (v : ℕ) (parents : Parents) → map (λ row. row.parent) (rows_from maps marks v parents) ≡ parents
parents-rows maps marks v [] = refl
parents-rows maps marks v (p ∷ parents) = ap (λ (x : Parents). p ∷ x) (parents-rows maps marks (suc v) parents)

-- the row of a version
pub row_at : (maps : ℕ → Pairs) (marks : Marks) (v i : ℕ) (parents : Parents) → i < length parents → (get_or (rows_from maps marks v parents) i no_row).pairs ≡ maps (v + i)
row_at maps marks v i [] lt = absurd (omega arith)
row_at maps marks v zero (p ∷ parents) lt = ap maps (omega arith)
row_at maps marks v (suc i) (p ∷ parents) lt = row_at maps marks (suc v) i parents (omega arith) ∙ ap maps (omega arith)

-- and its mark
marked_at : (maps : ℕ → Pairs) (marks : Marks) (v i : ℕ) (parents : Parents) → i < length parents → is_dropped (map (λ row. row.dropped) (rows_from maps marks v parents)) i ≡ is_dropped marks (v + i)
marked_at maps marks v i [] lt = absurd (omega arith)
marked_at maps marks v zero (p ∷ parents) lt = ap (is_dropped marks) (omega arith)
marked_at maps marks v (suc i) (p ∷ parents) lt = marked_at maps marks (suc v) i parents (omega arith) ∙ ap (is_dropped marks) (omega arith)

-- a table with such rows has the versions that are there, and its frozen ones have a living child
module _ (maps : ℕ → Pairs) (marks : Marks) (parents : Parents) (t : Table) (rows : t.rows ≡ rows_from maps marks 0 parents) where
  pub rows_many : length t.rows ≡ length parents
  rows_many = ap (λ (x : List Row). length x) rows ∙ length-rows maps marks 0 parents

  pub parents_are : parents_of t ≡ parents
  parents_are = ap (λ (x : List Row). parents_of (record t { rows = x })) rows ∙ parents-rows maps marks 0 parents

  mark_is : (v : ℕ) → v < length parents → is_dropped (marks_in t) v ≡ is_dropped marks v
  mark_is v lt = ap (λ (x : List Row). is_dropped (map {A = Row} (λ row. row.dropped) x) v) rows ∙ marked_at maps marks 0 v parents lt ∙ ap (is_dropped marks) (omega arith)

  pub rows_known : (v : ℕ) → has_row t v ≡ is_there parents marks v
  rows_known v = ap (λ (n : ℕ). ltb v n && not (is_dropped (marks_in t) v)) rows_many ∙ by_known (ltb v (length parents)) refl
    where
      by_known : (b : Bool) → ltb v (length parents) ≡ b → (b && not (is_dropped (marks_in t) v)) ≡ (b && not (is_dropped marks v))
      by_known true is = ap not (mark_is v (ltb-true v (length parents) is))
      by_known false is = refl

  pub rows_frozen : (v : ℕ) → is_frozen t v ≡ has_living_child parents marks v
  rows_frozen v =
      (λ i. has_living_child (parents_are i) (marks_in t) v)
      ∙ any_same (λ c. option_map_or (λ p. eqb p v) (parent_of parents c) false && not (is_dropped (marks_in t) c)) (λ c. option_map_or (λ p. eqb p v) (parent_of parents c) false && not (is_dropped marks c)) (range_with_len 0 (length parents))
      (λ c among. let low = (range_among 0 (length parents) c among).1 in ap (λ (b : Bool). option_map_or (λ p. eqb p v) (parent_of parents c) false && not b) (mark_is c (omega (arith, low))))

-- rows whose marks and maps agree
rows_alike : (maps others : ℕ → Pairs) (marks later : Marks) (v : ℕ) (parents : Parents) → ((u : ℕ) → v ≤ u → u < v + length parents → others u ≡ maps u)
    → ((u : ℕ) → v ≤ u → u < v + length parents → is_dropped later u ≡ is_dropped marks u) → rows_from others later v parents ≡ rows_from maps marks v parents
rows_alike maps others marks later v [] same kept = refl
rows_alike maps others marks later v (p ∷ parents) same kept =
    λ i. record { parent = p; dropped = kept v (omega arith) (omega arith) i; pairs = same v (omega arith) (omega arith) i }
    ∷ rows_alike maps others marks later (suc v) parents (λ u le lt. same u (omega arith) (omega arith)) (λ u le lt. kept u (omega arith) (omega arith)) i

pub rows_same : (maps others : ℕ → Pairs) (marks later : Marks) (v : ℕ) (parents : Parents) → ((u : ℕ) → v ≤ u → u < v + length parents → others u ≡ maps u)
    → ((u : ℕ) → is_dropped later u ≡ is_dropped marks u) → rows_from others later v parents ≡ rows_from maps marks v parents
rows_same maps others marks later v parents same kept = rows_alike maps others marks later v parents same (λ u le lt. kept u)

-- rows whose maps differ at one version
pub rows_set : (maps others : ℕ → Pairs) (marks : Marks) (v i : ℕ) (parents : Parents) (new : Pairs) → i < length parents → others (v + i) ≡ new → ((u : ℕ) → u ≢ v + i → others u ≡ maps u)
    → with_pairs (rows_from maps marks v parents) i new ≡ rows_from others marks v parents
rows_set maps others marks v i [] new lt here same = absurd (omega arith)
rows_set maps others marks v zero (p ∷ parents) new lt here same =
    let at : new ≡ others v = sym here ∙ ap others (omega arith) in
    λ j. record { parent = p; dropped = is_dropped marks v; pairs = at j } ∷ sym (rows_same maps others marks marks (suc v) parents (λ u le below. same u (λ e. omega arith)) (λ u. refl)) j
rows_set maps others marks v (suc i) (p ∷ parents) new lt here same =
    λ j. record { parent = p; dropped = is_dropped marks v; pairs = sym (same v (λ e. omega arith)) j }
    ∷ rows_set maps others marks (suc v) i parents new (omega arith) (ap others (omega arith) ∙ here) (λ u apart. same u (λ e. apart (omega arith))) j

-- rows of which one is dropped
pub rows_drop : (maps others : ℕ → Pairs) (marks later : Marks) (v i : ℕ) (parents : Parents) → i < length parents → others (v + i) ≡ [] → is_dropped later (v + i) ≡ true
    → ((u : ℕ) → u ≢ v + i → others u ≡ maps u) → ((u : ℕ) → u ≢ v + i → is_dropped later u ≡ is_dropped marks u)
    → with_dropped (rows_from maps marks v parents) i ≡ rows_from others later v parents
rows_drop maps others marks later v i [] lt here gone same kept = absurd (omega arith)
rows_drop maps others marks later v zero (p ∷ parents) lt here gone same kept =
    let at : [] ≡ others v = sym here ∙ ap others (omega arith) in
    let mark : true ≡ is_dropped later v = sym gone ∙ ap (is_dropped later) (omega arith) in
    λ j. record { parent = p; dropped = mark j; pairs = at j }
    ∷ sym (rows_alike maps others marks later (suc v) parents (λ u le below. same u (λ e. omega arith)) (λ u le below. kept u (λ e. omega arith))) j
rows_drop maps others marks later v (suc i) (p ∷ parents) lt here gone same kept =
    λ j. record { parent = p; dropped = sym (kept v (λ e. omega arith)) j; pairs = sym (same v (λ e. omega arith)) j }
    ∷ rows_drop maps others marks later (suc v) i parents (omega arith) (ap others (omega arith) ∙ here) (ap (is_dropped later) (omega arith) ∙ gone)
    (λ u apart. same u (λ e. apart (omega arith))) (λ u apart. kept u (λ e. apart (omega arith))) j

a_row : Option ℕ → Bool → Pairs → Row
a_row q d m = record { parent = q; dropped = d; pairs = m }

pub rows_push : (maps : ℕ → Pairs) (marks : Marks) (v : ℕ) (parents : Parents) (q : Option ℕ)
    → rows_from maps marks v (parents ++ q ∷ []) ≡ rows_from maps marks v parents ++ record { parent = q; dropped = is_dropped marks (v + length parents); pairs = maps (v + length parents) } ∷ []
unfolding a_row
rows_push maps marks v [] q = ap (λ (n : ℕ). a_row q (is_dropped marks n) (maps n) ∷ []) (omega arith)
rows_push maps marks v (p ∷ parents) q =
    ap (λ (x : List Row). a_row p (is_dropped marks v) (maps v) ∷ x) (rows_push maps marks (suc v) parents q ∙ ap (λ (n : ℕ). rows_from maps marks (suc v) parents ++ a_row q (is_dropped marks n) (maps n) ∷ []) (omega arith))

-- the pairs of a version over a tree, its marks and entries
pub row_pairs : (parents : Parents) (marks : Marks) (entries : List Entry) (v : ℕ) → v < length parents → (get_or (rows_over parents marks entries) v no_row).pairs ≡ pairs_over parents marks entries v
row_pairs parents marks entries v lt = row_at (pairs_over parents marks entries) marks 0 v parents lt ∙ ap (pairs_over parents marks entries) (omega arith)

-- those of a living version, and of a dropped one
pub pairs_living : (parents : Parents) (marks : Marks) (entries : List Entry) (v : ℕ) → is_dropped marks v ≡ false → pairs_over parents marks entries v ≡ map_over parents entries v
pairs_living parents marks entries v living = ap (λ (b : Bool). cond (not b) (map_over parents entries v) []) living

pub pairs_gone : (parents : Parents) (marks : Marks) (entries : List Entry) (v : ℕ) → is_dropped marks v ≡ true → pairs_over parents marks entries v ≡ []
pairs_gone parents marks entries v dropped = ap (λ (b : Bool). cond (not b) (map_over parents entries v) []) dropped

module _ (parents : Parents) (tree : IsTree parents) (marks : Marks) where
  -- lists in which each key and version is found alike give the same rows
  pub rows_found : (entries others : List Entry) → ((key : List ℕ) (u : ℕ) → find (is_at key u) others ≡ find (is_at key u) entries) → rows_over parents marks others ≡ rows_over parents marks entries
  rows_found entries others found =
      rows_same (pairs_over parents marks entries) (pairs_over parents marks others) marks marks 0 parents
      (λ v le lt. ap (λ (m : Pairs). cond (not (is_dropped marks v)) m []) (maps_same parents parents tree tree entries others v v (value_found parents entries others found v))) (λ v. refl)

  -- entries that change the map of one living version, and of no other living one
  changed_rows : (entries others : List Entry) (v : ℕ) (change : Pairs → Pairs) → v < length parents → is_dropped marks v ≡ false
      → ((u : ℕ) → is_dropped marks u ≡ false → map_over parents others u ≡ cond (eqb u v) (change (map_over parents entries u)) (map_over parents entries u))
      → with_pairs (rows_over parents marks entries) v (change (pairs_over parents marks entries v)) ≡ rows_over parents marks others
  changed_rows entries others v change known living changed =
      let before : ℕ → Pairs = pairs_over parents marks entries in
      let after : ℕ → Pairs = pairs_over parents marks others in
      rows_set before after marks 0 v parents (change (before v)) known
      (ap after (omega arith) ∙ pairs_living parents marks others v living ∙ changed v living
      ∙ cond-true (eqb v v) (change (map_over parents entries v)) (map_over parents entries v) (eq-eqb v v refl)
      ∙ ap change (sym (pairs_living parents marks entries v living)))
      (λ u apart.
      elim (cases_Bool (is_dropped marks u)) [
        | inl gone ↦ pairs_gone parents marks others u gone ∙ sym (pairs_gone parents marks entries u gone)
        | inr there ↦
            pairs_living parents marks others u there ∙ changed u there
            ∙ cond-false (eqb u v) (change (map_over parents entries u)) (map_over parents entries u) (ne_eqb u v (λ e. apart (omega arith)))
            ∙ sym (pairs_living parents marks entries u there)
      ])

  module _ (pruned : ArePruned parents marks) (entries : List Entry) (v : ℕ) (key : List ℕ) (known : v < length parents) (living : is_dropped marks v ≡ false)
      (childless : has_living_child parents marks v ≡ false) where
    -- an entry with a value sets its key in the map of its version
    pub put_rows : (value : List ℕ) → with_pairs (rows_over parents marks entries) v (pairs.set key value (pairs_over parents marks entries v))
        ≡ rows_over parents marks (record { key = key; version = v; value = Some value } ∷ entries)
    put_rows value =
        changed_rows entries (record { key = key; version = v; value = Some value } ∷ entries) v (λ (m : Pairs). insert_entry key_cmp m key value) known living
        (λ u there. map_put parents tree entries v key u (open_apart parents tree marks pruned v u childless there) value)

    -- an entry that a key is gone removes the key from the map of its version
    pub delete_rows : with_pairs (rows_over parents marks entries) v (pairs.unset key (pairs_over parents marks entries v))
        ≡ rows_over parents marks (record { key = key; version = v; value = None } ∷ entries)
    delete_rows =
        changed_rows entries (record { key = key; version = v; value = None } ∷ entries) v (λ (m : Pairs). remove_entry (λ k. is_eq (key_cmp key k)) m) known living
        (λ u there. map_delete parents tree entries v key u (open_apart parents tree marks pruned v u childless there))

  -- a child that no entry speaks of has its parent's map
  pub clone_rows : length marks ≡ length parents → (entries : List Entry) (p : ℕ) → p < length parents → is_dropped marks p ≡ false → ((e : Entry) → Among e entries → e.version < length parents)
      → rows_over parents marks entries ++ record { parent = Some p; dropped = false; pairs = pairs_over parents marks entries p } ∷ [] ≡ rows_over (with_child parents p) (marks ++ false ∷ []) entries
  unfolding a_row
  clone_rows len entries p lt living known =
      let before : ℕ → Pairs = pairs_over parents marks entries in
      let after : ℕ → Pairs = pairs_over (with_child parents p) (marks ++ false ∷ []) entries in
      let made : is_dropped (marks ++ false ∷ []) (length parents) ≡ false = mark_kept marks (length parents) ∙ past_end marks (length parents) (omega (arith, len)) in
      let mark : false ≡ is_dropped (marks ++ false ∷ []) (0 + length parents) = sym made ∙ ap (is_dropped (marks ++ false ∷ [])) (omega arith) in
      let last : before p ≡ after (0 + length parents) =
      pairs_living parents marks entries p living ∙ sym (map_child parents tree p lt entries known) ∙ sym (pairs_living (with_child parents p) (marks ++ false ∷ []) entries (length parents) made)
      ∙ ap after (omega arith) in
      (λ i. sym (rows_same before after marks (marks ++ false ∷ []) 0 parents
      (λ u le below. λ j. cond (not (mark_kept marks u j)) (map_kept parents tree p lt entries u (omega arith) j) []) (mark_kept marks)) i ++ a_row (Some p) (mark i) (last i) ∷ [])
      ∙ sym (rows_push after (marks ++ false ∷ []) 0 parents (Some p))

  -- a version that is dropped has no pairs, and the others have what they had
  pub drop_rows : length marks ≡ length parents → (entries : List Entry) (v : ℕ) → v < length parents → with_dropped (rows_over parents marks entries) v ≡ rows_over parents (set marks v true) entries
  drop_rows len entries v lt =
      let after : ℕ → Pairs = pairs_over parents (set marks v true) entries in
      let gone : is_dropped (set marks v true) v ≡ true = get_or-set_same marks v true false (omega (arith, len)) in
      let kept : (u : ℕ) → u ≢ 0 + v → is_dropped (set marks v true) u ≡ is_dropped marks u = λ u apart. get_or-set_other marks v u true false (λ e. apart (omega arith)) in
      rows_drop (pairs_over parents marks entries) after marks (set marks v true) 0 v parents lt
      (ap after (omega arith) ∙ pairs_gone parents (set marks v true) entries v gone) (ap (is_dropped (set marks v true)) (omega arith) ∙ gone)
      (λ u apart. ap (λ (b : Bool). cond (not b) (map_over parents entries u) []) (kept u apart)) kept
