-- A whole store may promote: what it holds is known, may be read, and is no more than any store has.
use Rattle.std.proofs.Common.{◌≡◌, ◌<◌, ◌≤◌, ◌+◌, ◌*◌, ◌^◌, ℕ, zero, suc, Bool, true, not, eqb, ltb, leb, ◌&&◌, inl, inr, List, [], ◌∷◌, append-nil, length, length-append, take, drop, map, Contains, flat_map, fold, filter_map, get_or, Option, None, Some, refl, sym, ap, ◌∙◌, subst, arith, set, false, ◌++◌}
use Rattle.std.specs.List.{list_all, range_with_len, sum, sum_by}
use Rattle.std.proofs.lemmas.Bool.Decides.{nat_tests}
use Rattle.std.proofs.lemmas.List.{length-map, take-append-drop}
use Rattle.std.proofs.lemmas.Bool.{and_parts, ltb-true, leb-true, lt-ltb}
use Rattle.std.proofs.lemmas.List.Sums.{sum_by-cons, sum_by-append, sum-map}
use Rattle.strat_array.specs.Within.{AreWithin}
use Rattle.strat_base.proofs.ListFacts.{Among, all_at, all_from}
use Rattle.strat_base.specs.Change.{Change, Put, Delete, Clone, DropVersion}
use Rattle.strat_base.specs.Entries.{Entry}
use Rattle.strat_base.specs.Tree.{Parents, with_child}
use Rattle.strat_base.specs.declared.descriptors.ArrayDesc.{ArrayDesc}
use Rattle.strat_base.specs.declared.descriptors.Extent.{Extent}
use Rattle.strat_base.specs.declared.descriptors.LevelDesc.{LevelDesc}
use Rattle.strat_base.specs.declared.limits.TheConstants.{LEVELS}
use Rattle.def_bytes.specs.Manifest.{Manifest, is_lawful_array, is_lawful_extent, is_lawful_level, is_lawful_manifest, versions_in}
use Rattle.def_bytes.proofs.ManifestLemmas.{pass_at}
use Rattle.strat_level.specs.Levels.{level_numbered, leads_if_any}
use Rattle.strat_promote.proofs.OpeningLemmas.{level_here}
use Rattle.def_recovery.proofs.OpeningLemmas.{level_tests, manifest_tests}
use Rattle.def_recovery.proofs.PassedLemmas.{array_tests, belonging_tests}
use Rattle.def_recovery.specs.Head.{descriptors}
use Rattle.def_recovery.specs.Opened.{parents_in}
use Rattle.def_recovery.specs.Opening.{array_blocks, is_filled}
use Rattle.def_publish.proofs.DescribedLemmas.{blocks_counted}
use Rattle.def_publish.proofs.ListLemmas.{contained_among}
use Rattle.def_publish.specs.Appending.{IsLogOf}
use Rattle.def_publish.specs.Contents.{Contents, contents_head}
use Rattle.def_crash.specs.Moments.{DiskView}
use Rattle.strat_extent.specs.Blocks.{SpaceView}
use Rattle.def_bytes.specs.Arrays.{blocks_of}
use Rattle.def_state.proofs.AppendedLemmas.{length-grown}
use Rattle.def_state.proofs.UpdateLemmas.{all_among}
use Rattle.def_state.specs.Setting.{set_all}
use Rattle.def_state.specs.Sound.{is_accepted, are_accepted, is_there, takes_updates}
use Rattle.def_state.specs.State.{tree_after, update_of, marks_after}
use Rattle.strat_memory.specs.Filters.{LevelFilters}
use Rattle.strat_memory.specs.Held.{Held, IsConsistent, head_held}
use Rattle.strat_memory.specs.Memory.{IsMemoryOf, oldest_entries, oldest_versions}
use Rattle.strat_publish.proofs.SealedLemmas.{few_left, oldest_counts, oldest_listed}
use Rattle.strat_publish.specs.Publishing.{MayCompute}
use Rattle.strat_cursor.specs.Looking.{arrays_there, MayBeFound, HaveOwnIds}
use Rattle.strat_publish.specs.Promoting.{MayPromote, StandsMade}
use Rattle.def_promote.proofs.PaidLemmas.{updates_few}
use Rattle.strat_publish.proofs.PartsLemmas.{accepted_front}
use Rattle.strat_base.specs.Marks.{Marks}
use Rattle.def_state.proofs.MarkLemmas.{there_known, open_there}
use Rattle.def_bytes.specs.Layout.{newest_format}
use Rattle.strat_memory.proofs.NumbersLemmas.{array_lawful, own_numbers, low_numbers}

-- an update that was accepted is at a version that is there
accepted_known : (cm vm : ℕ) (parents : Parents) (marks : Marks) (n : ℕ) (journal : List Change) (e : Entry) → are_accepted cm vm parents marks n journal ≡ true → Among e (filter_map update_of journal)
    → e.version < length (fold tree_after parents journal)
accepted_known cm vm parents marks n [] e accepted among = absurd among
accepted_known cm vm parents marks n (Put v key value ∷ journal) e accepted (inl here) =
    let parts = and_parts (is_accepted cm vm parents marks n (Put v key value)) (are_accepted cm vm parents marks (suc n) journal) accepted in
    let outer = and_parts (takes_updates parents marks v) (not (eqb n cm)) parts.0 in
    let known = there_known parents marks v (open_there parents marks v outer.0) in
    let at : e.version ≡ v = ap (λ (d : Entry). d.version) here in
    omega (arith, at, known, length-grown parents journal)
accepted_known cm vm parents marks n (Put v key value ∷ journal) e accepted (inr rest) =
    accepted_known cm vm parents marks (suc n) journal e (and_parts (is_accepted cm vm parents marks n (Put v key value)) (are_accepted cm vm parents marks (suc n) journal) accepted).1 rest
accepted_known cm vm parents marks n (Delete v key ∷ journal) e accepted (inl here) =
    let parts = and_parts (is_accepted cm vm parents marks n (Delete v key)) (are_accepted cm vm parents marks (suc n) journal) accepted in
    let outer = and_parts (takes_updates parents marks v) (not (eqb n cm)) parts.0 in
    let known = there_known parents marks v (open_there parents marks v outer.0) in
    let at : e.version ≡ v = ap (λ (d : Entry). d.version) here in
    omega (arith, at, known, length-grown parents journal)
accepted_known cm vm parents marks n (Delete v key ∷ journal) e accepted (inr rest) =
    accepted_known cm vm parents marks (suc n) journal e (and_parts (is_accepted cm vm parents marks n (Delete v key)) (are_accepted cm vm parents marks (suc n) journal) accepted).1 rest
accepted_known cm vm parents marks n (Clone v ∷ journal) e accepted among =
    accepted_known cm vm (with_child parents v) (marks ++ false ∷ []) (suc n) journal e (and_parts (is_accepted cm vm parents marks n (Clone v)) (are_accepted cm vm (with_child parents v) (marks ++ false ∷ []) (suc n) journal) accepted).1 among
accepted_known cm vm parents marks n (DropVersion v ∷ journal) e accepted among =
    accepted_known cm vm parents (set marks v true) (suc n) journal e (and_parts (is_accepted cm vm parents marks n (DropVersion v)) (are_accepted cm vm parents (set marks v true) (suc n) journal) accepted).1 among

-- so are the entries of level 0
pub entries_known : (cm vm : ℕ) (parents : Parents) (marks : Marks) (n : ℕ) (journal : List Change) → are_accepted cm vm parents marks n journal ≡ true
    → list_all (λ (e : Entry). ltb e.version (length (fold tree_after parents journal))) (set_all (filter_map update_of journal)) ≡ true
entries_known cm vm parents marks n journal accepted = all_from (λ (e : Entry). ltb e.version (length (fold tree_after parents journal))) (set_all (filter_map update_of journal)) (λ e among.
    lt-ltb e.version (length (fold tree_after parents journal))
    (accepted_known cm vm parents marks n journal e accepted (subst (Among e) (append-nil (filter_map update_of journal)) (all_among (filter_map update_of journal) e among))))

-- changes that are accepted in turn stay within their limit
below_limit : (n m : ℕ) → not (eqb n m) ≡ true → n ≤ m → suc n ≤ m
below_limit n m differ le = grind (arith, nat_tests)

counted_in : (cm vm : ℕ) (parents : Parents) (marks : Marks) (n : ℕ) (c : Change) → is_accepted cm vm parents marks n c ≡ true → not (eqb n cm) ≡ true
counted_in cm vm parents marks n (Put v key value) is = (and_parts (takes_updates parents marks v) (not (eqb n cm)) is).1
counted_in cm vm parents marks n (Delete v key) is = (and_parts (takes_updates parents marks v) (not (eqb n cm)) is).1
counted_in cm vm parents marks n (Clone v) is = (and_parts (is_there parents marks v && not (eqb (length parents) vm)) (not (eqb n cm)) is).1
counted_in cm vm parents marks n (DropVersion v) is = (and_parts (takes_updates parents marks v && not (eqb v 0)) (not (eqb n cm)) is).1

pub accepted_few : (cm vm : ℕ) (parents : Parents) (marks : Marks) (n : ℕ) (journal : List Change) → are_accepted cm vm parents marks n journal ≡ true → n ≤ cm → n + length journal ≤ cm
accepted_few cm vm parents marks n [] accepted le = omega (arith, le)
accepted_few cm vm parents marks n (c ∷ journal) accepted le =
    let parts = and_parts (is_accepted cm vm parents marks n c) (are_accepted cm vm (tree_after parents c) (marks_after marks c) (suc n) journal) accepted in
    let more = accepted_few cm vm (tree_after parents c) (marks_after marks c) (suc n) journal parts.1 (below_limit n cm (counted_in cm vm parents marks n c parts.0) le) in
    omega (arith, more)

-- the leads of the levels by their places are those of all arrays
leads_all : (levels : List (Option LevelDesc)) (a : ℕ) (G : ℕ → ℕ) → ((i : ℕ) → G (a + i) ≡ leads_if_any (get_or levels i None))
    → sum_by G (range_with_len a (length levels)) ≡ sum_by (λ (d : ArrayDesc). d.leads) (arrays_there levels)
leads_all [] a G each = refl
leads_all (None ∷ levels) a G each =
    let at : a ≡ a + 0 = omega arith in
    let here : G a ≡ 0 = ap G at ∙ each 0 in
    let rest = leads_all levels (a + 1) G (λ i. ap G (omega arith) ∙ each (suc i)) in
    let cons = sum_by-cons G a (range_with_len (a + 1) (length levels)) in
    omega (arith, here, rest, cons)
leads_all (Some level ∷ levels) a G each =
    let at : a ≡ a + 0 = omega arith in
    let here : G a ≡ leads_if_any (Some level) = ap G at ∙ each 0 in
    let rest = leads_all levels (a + 1) G (λ i. ap G (omega arith) ∙ each (suc i)) in
    let cons = sum_by-cons G a (range_with_len (a + 1) (length levels)) in
    let two = sum_by-append (λ (d : ArrayDesc). d.leads) level.arrays (arrays_there levels) in
    omega (arith, here, rest, cons, two)

pub leads_summed : (levels : List (Option LevelDesc)) (x : ℕ) → length levels ≡ 22
    → sum (x ∷ map (λ n. leads_if_any (level_numbered levels n)) (range_with_len 1 22)) ≡ x + sum_by (λ (d : ArrayDesc). d.leads) (arrays_there levels)
leads_summed levels x len =
    let F : ℕ → ℕ = λ n. leads_if_any (level_numbered levels n) in
    let all = leads_all levels 1 F (λ i. let next : 1 + i ≡ i + 1 = omega arith in ap F next ∙ ap leads_if_any (level_here levels i)) in
    let many = ap (λ (n : ℕ). sum_by F (range_with_len 1 n)) len in
    let cons = sum_by-cons (λ (n : ℕ). n) x (map F (range_with_len 1 22)) in
    let mapped = sum-map F (range_with_len 1 22) in
    omega (arith, all, many, cons, mapped)

pub entries_few : (journal : List Change) → length (set_all (filter_map update_of journal)) ≤ length journal
entries_few journal =
    let all = few_left (filter_map update_of journal) in
    let few = updates_few journal in
    omega (arith, all, few)

-- what passes for all passes for each
all_read : {X : Type 0} (p : X → Bool) (xs : List X) (i : ℕ) (d : X) → list_all p xs ≡ true → i < length xs → p (get_or xs i d) ≡ true
all_read p [] i d all lt = absurd (omega (arith, lt))
all_read p (x ∷ xs) zero d all lt = (and_parts (p x) (list_all p xs) all).0
all_read p (x ∷ xs) (suc i) d all lt = all_read p xs i d (and_parts (p x) (list_all p xs) all).1 (omega (arith, lt))

pub within_numbers : (next : ℕ) (a : ArrayDesc) → is_lawful_array next a ≡ true → is_filled a ≡ true → AreWithin a.extents
within_numbers next a lawful filled = record {
  each = λ i d lt.
      let one = all_read is_lawful_extent a.extents i d (pass_at (array_tests next a) 7 lawful) lt in
      let x : Extent = get_or a.extents i d in
      let below = ltb-true (x.start + x.len) (2 ^ 32) (and_parts (leb 1 x.len) (ltb (x.start + x.len) (2 ^ 32)) one).1 in
      omega (arith, below);
  few =
      let fits = leb-true (array_blocks a) a.entries (and_parts (leb a.entries (2 * a.leads)) (leb (array_blocks a) a.entries) filled).1 in
      let small = ltb-true a.entries (2 ^ 32) (pass_at (array_tests next a) 3 lawful) in
      let count = blocks_counted a.extents in
      omega (arith, fits, small, count);
}

-- the arrays of lawful levels can be counted
arrays_counted : (versions next : ℕ) (ds : List LevelDesc) → list_all (is_lawful_level versions next) ds ≡ true → length (flat_map (λ (d : LevelDesc). d.arrays) ds) ≤ 4294967296 * length ds
arrays_counted versions next [] lawful = omega arith
arrays_counted versions next (d ∷ ds) lawful =
    let parts = and_parts (is_lawful_level versions next d) (list_all (is_lawful_level versions next) ds) lawful in
    let some = and_parts (leb 1 (length d.arrays)) (ltb (length d.arrays) (2 ^ 32)) (pass_at (level_tests versions next d) 4 parts.0) in
    omega (arith, ltb-true (length d.arrays) (2 ^ 32) some.1, arrays_counted versions next ds parts.1, length-append d.arrays (flat_map (λ (e : LevelDesc). e.arrays) ds))

pub arrays_few : (s : Held) → IsConsistent s → length (flat_map (λ (d : LevelDesc). d.arrays) s.chained.manifest.levels) < 2 ^ 64
arrays_few s whole =
    let m : Manifest = s.chained.manifest in
    let tests = manifest_tests newest_format m in
    let all = arrays_counted (versions_in m) m.next_array m.levels (pass_at tests 8 whole.spelled) in
    omega (arith, all, leb-true (length m.levels) LEVELS (pass_at tests 7 whole.spelled))

-- and another generation has a number
pub generation_left : (s : Held) → IsConsistent s → s.sb.generation + 1 < 2 ^ 64
generation_left s whole =
    let m : Manifest = s.chained.manifest in
    let limited = and_parts (leb s.sb.generation (m.changes + 1) && leb m.next_array (16384 * m.changes + 1) && leb m.written (33554432 * m.changes)) (leb m.compacted (33554432 * m.changes)) (pass_at (belonging_tests s.sb s.chained) 7 whole.belonging) in
    let few = and_parts (leb s.sb.generation (m.changes + 1) && leb m.next_array (16384 * m.changes + 1)) (leb m.written (33554432 * m.changes)) limited.0 in
    let generation = leb-true s.sb.generation (m.changes + 1) (and_parts (leb s.sb.generation (m.changes + 1)) (leb m.next_array (16384 * m.changes + 1)) few.0).0 in
    omega (arith, generation, ltb-true m.changes (2 ^ 32) (pass_at (manifest_tests newest_format m) 0 whole.spelled))

-- a store whose parts are those of a head may promote
pub whole_promotes : (s : Held) → IsConsistent s → MayPromote s.memory s.levels s.chained.manifest.next_array
whole_promotes s whole =
    let m : Manifest = s.chained.manifest in
    let tests = belonging_tests s.sb s.chained in
    let listed : arrays_there s.levels ≡ descriptors m = ap (flat_map (λ (l : LevelDesc). l.arrays)) whole.placed.listed_are in
    let front : List Change = take s.sb.mem s.log.list in
    let many = (oldest_counts (head_held s) s.memory whole.memory).0 in
    let versions : versions_in m ≤ oldest_versions s.memory =
    (let grown = length-grown (parents_in m) front in let count = length-map m.parents (λ (p : ℕ). Some p) in omega (arith, grown, many, count)) in
    let at : (a : ArrayDesc) → Contains (arrays_there s.levels) a → Among a (descriptors m) = λ a of. contained_among (descriptors m) a (subst (λ (rs : List ArrayDesc). Contains rs a) listed of) in
    let array = array_lawful (versions_in m) m.next_array m.levels (pass_at (manifest_tests newest_format m) 8 whole.spelled) (pass_at tests 2 whole.belonging) in
    let limited = and_parts (leb s.sb.generation (m.changes + 1) && leb m.next_array (16384 * m.changes + 1) && leb m.written (33554432 * m.changes)) (leb m.compacted (33554432 * m.changes)) (pass_at tests 7 whole.belonging) in
    let few = and_parts (leb s.sb.generation (m.changes + 1) && leb m.next_array (16384 * m.changes + 1)) (leb m.written (33554432 * m.changes)) limited.0 in
    let changes = leb-true m.changes s.sb.changes_max (pass_at tests 4 whole.belonging) in
    let next = leb-true m.next_array (16384 * m.changes + 1) (and_parts (leb s.sb.generation (m.changes + 1)) (leb m.next_array (16384 * m.changes + 1)) few.0).1 in
    let limit = whole.lawful.changes_most in
    let updates = leb-true m.updates m.changes (pass_at (manifest_tests newest_format m) 1 whole.spelled) in
    let led = leb-true (sum_by (λ (a : ArrayDesc). a.leads) (descriptors m)) m.updates (pass_at tests 5 whole.belonging) in
    let parted : are_accepted s.sb.changes_max s.sb.versions_max (parents_in m) m.marks m.changes (front ++ drop s.sb.mem s.log.list) ≡ true =
    ap (λ (js : List Change). are_accepted s.sb.changes_max s.sb.versions_max (parents_in m) m.marks m.changes js) (take-append-drop s.sb.mem s.log.list) ∙ whole.accepted in
    let taken = accepted_front s.sb.changes_max s.sb.versions_max front (drop s.sb.mem s.log.list) (parents_in m) m.marks m.changes parted in
    let accepted = accepted_few s.sb.changes_max s.sb.versions_max (parents_in m) m.marks m.changes front taken changes in
    let oldest = oldest_listed (head_held s) s.memory whole.memory in
    let entries = ap (λ (es : List Entry). length es) oldest in
    let fewer = entries_few front in
    let sums = leads_summed s.levels (length (oldest_entries s.memory)) whole.placed.count in
    let same = ap (λ (rs : List ArrayDesc). sum_by (λ (a : ArrayDesc). a.leads) rs) listed in
    record {
      low = (λ i. list_all (λ (e : Entry). ltb e.version (many i)) (oldest i)) ∙ entries_known s.sb.changes_max s.sb.versions_max (parents_in m) m.marks m.changes front taken;
      arrays = record {
        within = λ a of. within_numbers m.next_array a (array a (at a of)).0 (all_at is_filled a (descriptors m) (pass_at tests 6 whole.belonging) (at a of));
        low = λ a v of tagged. let lt = (array a (at a of)).1 v tagged in omega (arith, lt, versions);
      };
      some = omega (arith, versions);
      few = omega (arith, sums, same, led, updates, entries, fewer, accepted, limit);
      first = omega (arith, next, changes, limit);
    }

-- a whole store that stands may compute its next contents, once a level was made of them
pub whole_computes : (v : DiskView) (s : Held) (x : Contents) (chain : List Extent) (space : SpaceView) (target : ℕ) (made : Option LevelDesc) (filters : LevelFilters) → IsConsistent s
    → (st : StandsMade v s x space target made filters) → s.sb.mem ≤ length s.log.list → blocks_of chain ≡ s.chained.blocks → MayCompute v space s.memory s.log x target made filters st.beside.others
whole_computes v s x chain space target made filters whole st full chain_is =
    let w = st.stands in
    let same = sym w.held in
    record {
      stands = w.stands;
      full = omega (arith, full, ap (λ (y : Contents). y.sb.mem) w.held, ap (λ (y : Contents). length y.journal) w.held);
      promoted = st.beside.promoted w.stands.content w.stands.exposed;
      filtered = st.filtered w.stands.content w.stands.exposed;
      space = st.beside.space_is;
      memory = subst (λ (y : Contents). IsMemoryOf (contents_head y) s.memory) same whole.memory;
      lawful = subst (λ (y : Contents). is_lawful_manifest newest_format y.chained.manifest ≡ true) same whole.spelled;
      log_is = subst (λ (y : Contents). IsLogOf y s.log) same (record { mem = whole.log.mem; active = whole.log.active; list = refl });
      chain = chain;
      chain_is = chain_is ∙ ap (λ (y : Contents). y.chained.blocks) same;
    }

-- the arrays of a whole store may be read, have numbers of their own, and these are below the next one
pub record MayBeRead (arrays : List ArrayDesc) (next : ℕ) : Type 0 where
  pub within : MayBeFound arrays
  pub own : HaveOwnIds arrays
  pub few : (a : ArrayDesc) → Contains arrays a → a.id < next

pub whole_read : (s : Held) → IsConsistent s → MayBeRead (arrays_there s.levels) s.chained.manifest.next_array
whole_read s whole =
    record {
      within = record { each = (whole_promotes s whole).arrays.within };
      own = own_numbers s.sb s.chained s.levels whole.placed whole.spelled whole.belonging;
      few = low_numbers s.sb s.chained s.levels whole.placed whole.spelled whole.belonging;
    }
