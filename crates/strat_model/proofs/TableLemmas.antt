-- Every step keeps what a table keeps.
use Rattle.std.proofs.Common.{◌≡◌, ◌≢◌, ◌<◌, ◌≤◌, ℕ, zero, suc, ◌+◌, ◌==◌, Bool, true, false, nat_lt, not, if◌then◌else◌, List, [], ◌∷◌, ◌++◌, Option, Some, None, length, map, get_or, drop, filter, refl, sym, ap, ◌∙◌, subst, arith, zero-add, true≢false}
use Rattle.std.specs.Prelude.{slice_set}
use Rattle.std.specs.List.{All, find, list_any, slice_get}
use Rattle.std.specs.List.Sorted.{IsStrictlySortedBy}
use Rattle.std.specs.Option.{option_map_or}
use Rattle.std.proofs.lemmas.Bool.{ltb-true, eqb-false, and_parts, not-true}
use Rattle.std.proofs.lemmas.List.{length-set, length-map, map_push, length_push, get_or-set_other, get_or_append_left, get_or_push}
use Rattle.std.proofs.lemmas.List.Sums.{length-filter, count_by-le-length}
use Rattle.std.proofs.lemmas.List.Elements.{All-set, All-push, All-map, All-weaker, All-filter, All-nil, All-cons}
use Rattle.strat_base.specs.declared.limits.TheConstants.{CHANGES_MAX, VERSIONS_MAX, CURSORS_MAX}
use Rattle.strat_base.specs.Tree.{Parents, IsOlder, IsTree}
use Rattle.strat_base.specs.Marks.{Marks, is_dropped, ArePruned}
use Rattle.strat_base.proofs.PrunedLemmas.{pruned_root, pruned_grown, pruned_dropped}
use Rattle.strat_model.specs.declared.replies.Refusal.TheVariants as why
use Rattle.strat_model.specs.Pairs.{Pairs, set, unset, range, is_between}
use Rattle.strat_model.specs.Request.{Request, Put, Delete, Get, Clone, Scan, Info, OpenCursor, NextPairs, CloseCursor, Stat, DropVersion}
use Rattle.strat_model.specs.Table.{Row, Cursor, Table, fresh, parents_of, marks_in}
use Rattle.strat_model.specs.Step.{Outcome, step, update, has_row, is_frozen, no_row, pairs_at, with_pairs, with_dropped, clone, drop_version, start_cursor, page, refuses, advanced}
use Rattle.strat_model.specs.Answer.{accepts}
use Rattle.strat_model.specs.Kept.{IsMap, IsTable, updated}
use Rattle.strat_model.proofs.MapLemmas.{set_keeps_map, unset_keeps_map, filter_keeps_map, drop_keeps_map}

-- what holds of each side where it is chosen holds of the one that is chosen
pub chosen : {A : Type 0} (P : A → Type 0) (b : Bool) (x y : A) → (b ≡ true → P x) → (b ≡ false → P y) → P (if b then x else y)
chosen P true x y at_x at_y = at_x refl
chosen P false x y at_x at_y = at_y refl

-- what is not false is true
pub true_from_not : (b : Bool) → not b ≡ false → b ≡ true
true_from_not true h = refl
true_from_not false h = cc

-- the table of an outcome keeps what tables keep
abbrev Keeps : Outcome → Type 0
Keeps outcome = IsTable outcome.table

-- another map at a version changes no parent
same_parents : (rows : List Row) (v : ℕ) (pairs : Pairs) → map {A = Row} (λ row. row.parent) (with_pairs rows v pairs) ≡ map {A = Row} (λ row. row.parent) rows
same_parents [] v pairs = refl
same_parents (row ∷ rows) zero pairs = refl
same_parents (row ∷ rows) (suc v) pairs = ap (λ (ps : Parents). row.parent ∷ ps) (same_parents rows v pairs)

-- the map of a version is a map, and that of no version is empty
map_in : (rows : List Row) (v : ℕ) → All {X = Row} (λ row. IsMap row.pairs) rows → IsMap (get_or rows v no_row).pairs
unfolding IsStrictlySortedBy
map_in [] v maps = tt
map_in (row ∷ rows) zero maps = maps 0 no_row (omega arith)
map_in (row ∷ rows) (suc v) maps = map_in rows v (λ k d lt. maps (suc k) d (omega arith))

-- the mark of a version is that of its row
pub mark_at : (rows : List Row) (v : ℕ) → is_dropped (map {A = Row} (λ row. row.dropped) rows) v ≡ (get_or rows v no_row).dropped
mark_at [] v = refl
mark_at (row ∷ rows) zero = refl
mark_at (row ∷ rows) (suc v) = mark_at rows v

-- another map at a version changes no mark
same_marks : (rows : List Row) (v : ℕ) (pairs : Pairs) → map {A = Row} (λ row. row.dropped) (with_pairs rows v pairs) ≡ map {A = Row} (λ row. row.dropped) rows
same_marks [] v pairs = refl
same_marks (row ∷ rows) zero pairs = refl
same_marks (row ∷ rows) (suc v) pairs = ap (λ (ms : Marks). row.dropped ∷ ms) (same_marks rows v pairs)

-- a dropped row has the parent that it had
pub same_tree : (rows : List Row) (v : ℕ) → map {A = Row} (λ row. row.parent) (with_dropped rows v) ≡ map {A = Row} (λ row. row.parent) rows
same_tree [] v = refl
same_tree (row ∷ rows) zero = refl
same_tree (row ∷ rows) (suc v) = ap (λ (ps : Parents). row.parent ∷ ps) (same_tree rows v)

-- and its mark is set
one_marked : (rows : List Row) (v : ℕ) → map {A = Row} (λ row. row.dropped) (with_dropped rows v) ≡ slice_set (map {A = Row} (λ row. row.dropped) rows) v true
one_marked [] v = refl
one_marked (row ∷ rows) zero = refl
one_marked (row ∷ rows) (suc v) = ap (λ (ms : Marks). row.dropped ∷ ms) (one_marked rows v)

-- a version that has a row is below the number of rows
pub row_below : (t : Table) (v : ℕ) → has_row t v ≡ true → v < length t.rows
row_below t v known = ltb-true v (length t.rows) (and_parts (nat_lt v (length t.rows)) (not (is_dropped (marks_in t) v)) known).0

-- and was not dropped
row_lives : (t : Table) (v : ℕ) → has_row t v ≡ true → is_dropped (marks_in t) v ≡ false
row_lives t v known = not-true (is_dropped (marks_in t) v) (and_parts (nat_lt v (length t.rows)) (not (is_dropped (marks_in t) v)) known).1

-- the empty map is a map
empty_map : IsMap []
unfolding IsStrictlySortedBy
empty_map = tt

-- an update
update_keeps : (t : Table) (v : ℕ) (pairs : Pairs) → IsTable t → IsMap pairs → Keeps (update t v pairs)
update_keeps t v pairs is sorted =
    chosen Keeps (not (has_row t v)) _ _ (λ _. is) (λ known.
    chosen Keeps (is_frozen t v) _ _ (λ _. is) (λ unfrozen.
    chosen Keeps (t.changes == t.changes_max) _ _ (λ _. is) (λ room. record {
      maps = All-set {X = Row} (λ row. IsMap row.pairs) t.rows v _ sorted is.maps;
      cursors = is.cursors;
      tree = let P : Parents → Type 0 = IsTree in subst P (sym (same_parents t.rows v pairs)) is.tree;
      pruned = subst (λ (ps : Parents). ArePruned ps (map {A = Row} (λ row. row.dropped) (with_pairs t.rows v pairs))) (sym (same_parents t.rows v pairs))
          (subst (ArePruned (parents_of t)) (sym (same_marks t.rows v pairs)) is.pruned);
      emptied = All-set {X = Row} (λ row. row.dropped ≡ true → row.pairs ≡ []) t.rows v _
          (λ gone. absurd (true≢false (sym gone ∙ sym (mark_at t.rows v) ∙ row_lives t v (true_from_not (has_row t v) known)))) is.emptied;
      within = record {
        changes_max = is.within.changes_max;
        versions_max = is.within.versions_max;
        rows = rw length-set is.within.rows;
        changes = let less = eqb-false t.changes t.changes_max room in omega (arith, is.within.changes);
        updates = omega (arith, is.within.updates);
        cursors = is.within.cursors;
      };
    })))

-- a version more whose parent is there
older_with : (parents : Parents) (n v : ℕ) → ((i : ℕ) → IsOlder (n + i) (slice_get parents i)) → v < n + length parents
    → (i : ℕ) → IsOlder (n + i) (slice_get (parents ++ Some v ∷ []) i)
older_with [] n v older below zero = omega arith
older_with [] n v older below (suc i) = tt
older_with (p ∷ parents) n v older below zero = older 0
older_with (p ∷ parents) n v older below (suc i) =
    let P : Option (Option ℕ) → ℕ → Type 0 = λ o m. IsOlder m o in
    let same : (k : ℕ) → n + suc k ≡ suc n + k = λ k. omega arith in
    subst (P (slice_get (parents ++ Some v ∷ []) i)) (sym (same i))
    (older_with parents (suc n) v (λ k. subst (P (slice_get parents k)) (same k) (older (suc k))) (omega arith) i)

-- the same, counted from version 0
one_more : (parents : Parents) (v : ℕ) → ((i : ℕ) → IsOlder i (slice_get parents i)) → v < length parents
    → (i : ℕ) → IsOlder i (slice_get (parents ++ Some v ∷ []) i)
one_more parents v older below i =
    let P : Option (Option ℕ) → ℕ → Type 0 = λ o m. IsOlder m o in
    subst (P (slice_get (parents ++ Some v ∷ []) i)) (zero-add i)
    (older_with parents 0 v (λ k. subst (P (slice_get parents k)) (sym (zero-add k)) (older k)) (omega arith) i)

-- a clone
clone_keeps : (t : Table) (v : ℕ) → IsTable t → Keeps (clone t v)
clone_keeps t v is =
    chosen Keeps (not (has_row t v)) _ _ (λ _. is) (λ known.
    chosen Keeps (length t.rows == t.versions_max) _ _ (λ _. is) (λ more.
    chosen Keeps (t.changes == t.changes_max) _ _ (λ _. is) (λ room.
    let row : Row = record { parent = Some v; dropped = false; pairs = pairs_at t v } in
    let child : parents_of t ++ Some v ∷ [] ≡ map {A = Row} (λ r. r.parent) (t.rows ++ row ∷ []) = sym (map_push (λ (r : Row). r.parent) t.rows row) in
    let here = true_from_not (has_row t v) known in
    let below : v < length t.rows = row_below t v here in
    let within : v < length (parents_of t) = omega (arith, below, length-map t.rows (λ (r : Row). r.parent)) in
    let marks : marks_in t ++ false ∷ [] ≡ map {A = Row} (λ r. r.dropped) (t.rows ++ row ∷ []) = sym (map_push (λ (r : Row). r.dropped) t.rows row) in
    let P : Parents → Type 0 = IsTree in
    record {
      maps = All-push {X = Row} (λ r. IsMap r.pairs) t.rows row is.maps (map_in t.rows v is.maps);
      cursors = is.cursors;
      tree = subst P child record {
        some = omega (arith, length_push (parents_of t) (Some v));
        older = one_more (parents_of t) v is.tree.older (omega (arith, length-map t.rows (λ (r : Row). r.parent)));
      };
      pruned = subst (λ (ps : Parents). ArePruned ps (map {A = Row} (λ r. r.dropped) (t.rows ++ row ∷ []))) child
          (subst (ArePruned (parents_of t ++ Some v ∷ [])) marks (pruned_grown (parents_of t) is.tree (marks_in t) is.pruned v within (row_lives t v here)));
      emptied = All-push {X = Row} (λ r. r.dropped ≡ true → r.pairs ≡ []) t.rows row is.emptied (λ gone. absurd (true≢false (sym gone)));
      within = record {
        changes_max = is.within.changes_max;
        versions_max = is.within.versions_max;
        rows = let less = eqb-false (length t.rows) t.versions_max more in omega (arith, is.within.rows, length_push t.rows row);
        changes = let less = eqb-false t.changes t.changes_max room in omega (arith, is.within.changes);
        updates = omega (arith, is.within.updates);
        cursors = is.within.cursors;
      };
    })))

-- a drop
drop_keeps : (t : Table) (v : ℕ) → IsTable t → Keeps (drop_version t v)
drop_keeps t v is =
    chosen Keeps (not (has_row t v)) _ _ (λ _. is) (λ known.
    chosen Keeps (v == 0) _ _ (λ _. is) (λ apart.
    chosen Keeps (is_frozen t v) _ _ (λ _. is) (λ unfrozen.
    chosen Keeps (t.changes == t.changes_max) _ _ (λ _. is) (λ room.
    let here = true_from_not (has_row t v) known in
    let below = row_below t v here in
    let some = eqb-false v 0 apart in
    record {
      maps = All-set {X = Row} (λ row. IsMap row.pairs) t.rows v _ empty_map is.maps;
      cursors = is.cursors;
      tree = let P : Parents → Type 0 = IsTree in subst P (sym (same_tree t.rows v)) is.tree;
      pruned = subst (λ (ps : Parents). ArePruned ps (map {A = Row} (λ row. row.dropped) (with_dropped t.rows v))) (sym (same_tree t.rows v))
          (subst (ArePruned (parents_of t)) (sym (one_marked t.rows v))
          (pruned_dropped (parents_of t) is.tree (marks_in t) is.pruned v (omega (arith, some)) (omega (arith, below, length-map t.rows (λ (r : Row). r.parent))) unfrozen));
      emptied = All-set {X = Row} (λ row. row.dropped ≡ true → row.pairs ≡ []) t.rows v _ (λ gone. refl) is.emptied;
      within = record {
        changes_max = is.within.changes_max;
        versions_max = is.within.versions_max;
        rows = rw length-set is.within.rows;
        changes = let less = eqb-false t.changes t.changes_max room in omega (arith, is.within.changes);
        updates = omega (arith, is.within.updates);
        cursors = is.within.cursors;
      };
    }))))

-- a cursor that is opened
start_keeps : (t : Table) (v : ℕ) (lo hi : List ℕ) → IsTable t → Keeps (start_cursor t v lo hi)
start_keeps t v lo hi is =
    chosen Keeps (not (has_row t v)) _ _ (λ _. is) (λ known.
    chosen Keeps (length t.cursors == CURSORS_MAX) _ _ (λ _. is) (λ room.
    let cursor : Cursor = record { number = t.next_cursor; left = range (pairs_at t v) lo hi } in
    record {
      maps = is.maps;
      cursors = All-push {X = Cursor} (λ c. IsMap c.left) t.cursors cursor is.cursors
          (filter_keeps_map (λ pair. is_between lo hi pair.0) (pairs_at t v) (map_in t.rows v is.maps));
      tree = is.tree;
      pruned = is.pruned;
      emptied = is.emptied;
      within = record {
        changes_max = is.within.changes_max;
        versions_max = is.within.versions_max;
        rows = is.within.rows;
        changes = is.within.changes;
        updates = is.within.updates;
        cursors = let less = eqb-false (length t.cursors) CURSORS_MAX room in omega (arith, is.within.cursors, length_push t.cursors cursor);
      };
    }))

-- other cursors, each with a map left
cursors_keep : (t : Table) (cursors : List Cursor) → IsTable t → All {X = Cursor} (λ c. IsMap c.left) cursors → length cursors ≤ length t.cursors
    → IsTable (record t { cursors = cursors })
cursors_keep t cursors is maps few = record {
  maps = is.maps;
  cursors = maps;
  tree = is.tree;
  pruned = is.pruned;
  emptied = is.emptied;
  within = record {
    changes_max = is.within.changes_max;
    versions_max = is.within.versions_max;
    rows = is.within.rows;
    changes = is.within.changes;
    updates = is.within.updates;
    cursors = omega (arith, is.within.cursors, few);
  };
}

-- the next pairs of a cursor
next_keeps : (t : Table) (n limit : ℕ) → IsTable t → (found : Option Cursor)
    → Keeps (option_map_or (λ c. record { answer = page c.left limit; table = record t { cursors = advanced t.cursors n limit } }) found (refuses t why.UnknownCursor))
next_keeps t n limit is None = is
next_keeps t n limit is (Some c) =
    let taken : Cursor → Cursor = λ x. if x.number == n then record x { left = drop limit x.left } else x in
    let Left : Cursor → Type 0 = λ x. IsMap x.left in
    cursors_keep t (advanced t.cursors n limit) is
    (All-map Left taken t.cursors (All-weaker Left (λ x. Left (taken x)) (λ x sorted. chosen Left (x.number == n) _ _ (λ _. drop_keeps_map limit x.left sorted) (λ _. sorted)) t.cursors is.cursors))
    (omega (arith, length-map t.cursors taken))

-- a step at a table leaves a table
pub step_keeps_table : (t : Table) (request : Request) → IsTable t → IsTable (step t request).table
step_keeps_table t (Put v key value) is = update_keeps t v (set key value (pairs_at t v)) is (set_keeps_map key value (pairs_at t v) (map_in t.rows v is.maps))
step_keeps_table t (Delete v key) is = update_keeps t v (unset key (pairs_at t v)) is (unset_keeps_map key (pairs_at t v) (map_in t.rows v is.maps))
step_keeps_table t (Get v key) is = chosen Keeps (has_row t v) _ _ (λ _. is) (λ _. is)
step_keeps_table t (Clone v) is = clone_keeps t v is
step_keeps_table t (Scan v lo hi limit) is = chosen Keeps (has_row t v) _ _ (λ _. is) (λ _. is)
step_keeps_table t (Info v) is = chosen Keeps (has_row t v) _ _ (λ _. is) (λ _. is)
step_keeps_table t (OpenCursor v lo hi) is = start_keeps t v lo hi is
step_keeps_table t (NextPairs n limit) is = next_keeps t n limit is (find (λ c. c.number == n) t.cursors)
step_keeps_table t (CloseCursor n) is =
    let others : Cursor → Bool = λ c. not (c.number == n) in
    chosen Keeps (list_any (λ c. c.number == n) t.cursors) _ _
    (λ _. cursors_keep t (filter others t.cursors) is (All-filter others (λ c. IsMap c.left) t.cursors is.cursors)
    (rw length-filter (count_by-le-length others t.cursors)))
    (λ _. is)
step_keeps_table t Stat is = is
step_keeps_table t (DropVersion v) is = drop_keeps t v is

-- a root alone
root_is_older : (v : ℕ) → IsOlder v (slice_get (None ∷ []) v)
root_is_older zero = refl
root_is_older (suc v) = tt

-- a new table is a table
pub fresh_is_table : (changes_max versions_max : ℕ) → changes_max ≤ CHANGES_MAX → 1 ≤ versions_max → versions_max ≤ VERSIONS_MAX
    → IsTable (fresh changes_max versions_max)
unfolding IsStrictlySortedBy
fresh_is_table changes_max versions_max changes some versions = record {
  maps = All-cons {X = Row} (λ row. IsMap row.pairs) no_row [] tt (All-nil (λ (row : Row). IsMap row.pairs));
  cursors = All-nil (λ (c : Cursor). IsMap c.left);
  tree = record { some = omega arith; older = root_is_older };
  pruned = pruned_root;
  emptied = All-cons {X = Row} (λ row. row.dropped ≡ true → row.pairs ≡ []) no_row [] (λ gone. refl) (All-nil (λ (row : Row). row.dropped ≡ true → row.pairs ≡ []));
  within = record { changes_max = changes; versions_max = versions; rows = some; changes = omega arith; updates = omega arith; cursors = omega arith };
}

-- an update leaves the map of another version, and that of a frozen one
update_leaves : (t : Table) (v : ℕ) (pairs : Pairs) (w : ℕ) → (is_frozen t v ≡ false → w ≢ v) → pairs_at (update t v pairs).table w ≡ pairs_at t w
update_leaves t v pairs w apart =
    let Same : Outcome → Type 0 = λ o. pairs_at o.table w ≡ pairs_at t w in
    chosen Same (not (has_row t v)) _ _ (λ _. refl) (λ _.
    chosen Same (is_frozen t v) _ _ (λ _. refl) (λ unfrozen.
    chosen Same (t.changes == t.changes_max) _ _ (λ _. refl) (λ _.
    ap (λ (row : Row). row.pairs) (get_or-set_other t.rows v w _ no_row (apart unfrozen)))))

-- a clone leaves the maps of all versions
clone_leaves : (t : Table) (v w : ℕ) → w < length t.rows → pairs_at (clone t v).table w ≡ pairs_at t w
clone_leaves t v w there =
    let Same : Outcome → Type 0 = λ o. pairs_at o.table w ≡ pairs_at t w in
    chosen Same (not (has_row t v)) _ _ (λ _. refl) (λ _.
    chosen Same (length t.rows == t.versions_max) _ _ (λ _. refl) (λ _.
    chosen Same (t.changes == t.changes_max) _ _ (λ _. refl) (λ _.
    ap (λ (row : Row). row.pairs) (get_or_append_left t.rows (record { parent = Some v; dropped = false; pairs = pairs_at t v } ∷ []) no_row w there))))

-- a drop leaves the map of another version, and that of a frozen one
drop_leaves_map : (t : Table) (v w : ℕ) → (is_frozen t v ≡ false → w ≢ v) → pairs_at (drop_version t v).table w ≡ pairs_at t w
drop_leaves_map t v w apart =
    let Same : Outcome → Type 0 = λ o. pairs_at o.table w ≡ pairs_at t w in
    chosen Same (not (has_row t v)) _ _ (λ _. refl) (λ _.
    chosen Same (v == 0) _ _ (λ _. refl) (λ _.
    chosen Same (is_frozen t v) _ _ (λ _. refl) (λ unfrozen.
    chosen Same (t.changes == t.changes_max) _ _ (λ _. refl) (λ _.
    ap (λ (row : Row). row.pairs) (get_or-set_other t.rows v w _ no_row (apart unfrozen))))))

-- a step leaves the map of a version that it does not update, or that is frozen
step_leaves : (t : Table) (request : Request) (w : ℕ) → w < length t.rows
    → ((v : ℕ) → updated request ≡ Some v → is_frozen t v ≡ false → w ≢ v) → pairs_at (step t request).table w ≡ pairs_at t w
step_leaves t request w there apart = by_command request apart
  where
    Same : Outcome → Type 0
    Same o = pairs_at o.table w ≡ pairs_at t w

    next : (n limit : ℕ) (found : Option Cursor)
        → Same (option_map_or (λ c. record { answer = page c.left limit; table = record t { cursors = advanced t.cursors n limit } }) found (refuses t why.UnknownCursor))
    next n limit None = refl
    next n limit (Some c) = refl

    by_command : (r : Request) → ((v : ℕ) → updated r ≡ Some v → is_frozen t v ≡ false → w ≢ v) → Same (step t r)
    by_command (Put v key value) apart = update_leaves t v _ w (apart v refl)
    by_command (Delete v key) apart = update_leaves t v _ w (apart v refl)
    by_command (Get v key) apart = chosen Same (has_row t v) _ _ (λ _. refl) (λ _. refl)
    by_command (Clone v) apart = clone_leaves t v w there
    by_command (Scan v lo hi limit) apart = chosen Same (has_row t v) _ _ (λ _. refl) (λ _. refl)
    by_command (Info v) apart = chosen Same (has_row t v) _ _ (λ _. refl) (λ _. refl)
    by_command (OpenCursor v lo hi) apart =
        chosen Same (not (has_row t v)) _ _ (λ _. refl) (λ _. chosen Same (length t.cursors == CURSORS_MAX) _ _ (λ _. refl) (λ _. refl))
    by_command (NextPairs n limit) apart = next n limit (find (λ c. c.number == n) t.cursors)
    by_command (CloseCursor n) apart = chosen Same (list_any (λ c. c.number == n) t.cursors) _ _ (λ _. refl) (λ _. refl)
    by_command Stat apart = refl
    by_command (DropVersion v) apart = drop_leaves_map t v w (apart v refl)

-- a step leaves the map of a version that it does not update
pub step_leaves_others : (t : Table) (request : Request) (w : ℕ) → w < length t.rows → updated request ≢ Some w → pairs_at (step t request).table w ≡ pairs_at t w
step_leaves_others t request w there other = step_leaves t request w there (λ v says _ same. other (says ∙ ap Some (sym same)))

-- a step leaves the map of a frozen version
pub step_leaves_frozen : (t : Table) (request : Request) (w : ℕ) → w < length t.rows → is_frozen t w ≡ true → pairs_at (step t request).table w ≡ pairs_at t w
step_leaves_frozen t request w there frozen =
    step_leaves t request w there (λ v says unfrozen same. let twice : is_frozen t v ≡ true = ap (is_frozen t) (sym same) ∙ frozen in cc)

-- a clone has the map that it was made from
pub clone_has_map : (t : Table) (v : ℕ) → accepts (step t (Clone v)).answer.reply ≡ true → pairs_at (step t (Clone v)).table (length t.rows) ≡ pairs_at t v
clone_has_map t v =
    let Has : Outcome → Type 0 = λ o. accepts o.answer.reply ≡ true → pairs_at o.table (length t.rows) ≡ pairs_at t v in
    chosen Has (not (has_row t v)) _ _ (λ _ h. cc) (λ _.
    chosen Has (length t.rows == t.versions_max) _ _ (λ _ h. cc) (λ _.
    chosen Has (t.changes == t.changes_max) _ _ (λ _ h. cc) (λ _ h.
    ap (λ (row : Row). row.pairs) (get_or_push t.rows (record { parent = Some v; dropped = false; pairs = pairs_at t v }) no_row (length t.rows) refl))))
