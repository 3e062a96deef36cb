-- Manifests are read as they were written, and what is read was written so.
use Rattle.std.proofs.Common.{◌≡◌, ◌<◌, ◌≤◌, ◌+◌, ◌-◌, ◌^◌, inl, inr, ℕ, zero, suc, Bool, true, false, eqb, not, ltb, leb, get_or, map, replicate, true≢false, ◌&&◌, List, [], ◌∷◌, ◌++◌, length, drop, Some, None, cond, refl, sym, ap, ◌∙◌, subst, arith, length-append, append_assoc, append-nil}
use Rattle.std.specs.List.{flat_map, list_all}
use Rattle.std.specs.Option.{option_and_then}
use Rattle.std.specs.Str.{bytes_eq}
use Rattle.std.proofs.lemmas.Bool.{cases_Bool, or_cases, eqb-true, ltb-true, leb-true, le-leb, and_parts, and_from, cond-true}
use Rattle.std.proofs.lemmas.Bool.Decides.{nat_tests}
use Rattle.std.proofs.lemmas.Option.{cond_some}
use Rattle.std.proofs.lemmas.List.{drop_at, length-map}
use Rattle.strat_base.specs.Marks.{is_dropped}
use Rattle.strat_base.specs.Numbers.{be, number}
use Rattle.def_bytes.specs.Manifest.{Manifest, versions_in, is_lawful_extent, is_counted, is_lawful_array, is_lawful_level, are_older, is_lawful_manifest, list_bytes, extent_bytes, array_bytes, level_bytes, mark_bytes, only, read_mark, read_only, manifest_bytes, SpellsManifest, Parsed, next, all_pass, read_number, read_items, read_list, read_extent, read_array, read_level, read_manifest, manifest_in}
use Rattle.strat_base.specs.declared.descriptors.Extent.{Extent}
use Rattle.strat_base.specs.declared.descriptors.ArrayDesc.{ArrayDesc}
use Rattle.strat_base.specs.declared.descriptors.LevelDesc.{LevelDesc}
use Rattle.strat_base.proofs.ListFacts.{Among, all_at}
use Rattle.strat_base.proofs.EntryLemmas.{bytes_same, same_bytes}
use Rattle.strat_base.proofs.NumberLemmas.{length-be, number-be}
use Rattle.strat_base.proofs.ResultFacts.{option_cases}

-- a value read, and what is left
abbrev pub got : {A : Type 0} → A → List ℕ → Parsed A
got x rest = Some (x, rest)

pub read_number-be : (k x : ℕ) (rest : List ℕ) → x < 256 ^ k → read_number k (be k x ++ rest) ≡ got x rest
unfolding read_number
read_number-be k x rest fits =
    cond-true (leb k (length (be k x ++ rest))) (got (number k (be k x ++ rest)) (drop k (be k x ++ rest))) None
    (le-leb k (length (be k x ++ rest)) (omega (arith, length-append (be k x) rest, length-be k x)))
    ∙ (λ i. got (number-be k x rest fits i) (drop_at (be k x) rest k (length-be k x) i))

module _ {B : Type 0} where
  next_number : (k x : ℕ) (rest : List ℕ) (behind : ℕ → List ℕ → Parsed B) → x < 256 ^ k → next (read_number k (be k x ++ rest)) behind ≡ behind x rest
  next_number k x rest behind fits = ap (λ (r : Parsed ℕ). next r behind) (read_number-be k x rest fits)

module _ {A : Type 0} (read : List ℕ → Parsed A) (item_bytes : A → List ℕ) where
  read_items-bytes : (xs : List A) (rest : List ℕ) → ((x : A) (end : List ℕ) → Among x xs → read (item_bytes x ++ end) ≡ got x end) → read_items read (length xs) (flat_map item_bytes xs ++ rest) ≡ got xs rest
  unfolding read_items
  read_items-bytes [] rest each = refl
  read_items-bytes (x ∷ xs) rest each =
      let behind : List ℕ = flat_map item_bytes xs ++ rest in
      ap (read_items read (suc (length xs))) (append_assoc (item_bytes x) (flat_map item_bytes xs) rest)
      ∙ ap (λ (r : Parsed A). next r (λ y end. next (read_items read (length xs) end) (λ ys last. got (y ∷ ys) last))) (each x behind (inl refl))
      ∙ ap (λ (r : Parsed (List A)). next r (λ ys last. got (x ∷ ys) last)) (read_items-bytes xs rest (λ y end among. each y end (inr among)))

  read_list-bytes : (xs : List A) (rest : List ℕ) → length xs < 2 ^ 32 → ((x : A) (end : List ℕ) → Among x xs → read (item_bytes x ++ end) ≡ got x end) → read_list read (be 4 (length xs) ++ (flat_map item_bytes xs ++ rest)) ≡ got xs rest
  read_list-bytes xs rest few each =
      next_number 4 (length xs) (flat_map item_bytes xs ++ rest) (λ n end. read_items read n end) few ∙ read_items-bytes xs rest each

read_extent-bytes : (x : Extent) (rest : List ℕ) → is_lawful_extent x ≡ true → read_extent (extent_bytes x ++ rest) ≡ got x rest
unfolding read_extent
read_extent-bytes x rest lawful =
    let end : x.start + x.len < 2 ^ 32 = grind (arith, nat_tests) in
    ap read_extent (append_assoc (be 4 x.start) (be 4 x.len) rest)
    ∙ next_number 4 x.start (be 4 x.len ++ rest) (λ start b. next (read_number 4 b) (λ len c. got (record { start = start; len = len }) c)) (omega arith)
    ∙ next_number 4 x.len rest (λ len c. got (record { start = x.start; len = len }) c) (omega arith)

-- one of several tests that pass
pub pass_at : (tests : List Bool) (k : ℕ) → all_pass tests ≡ true → get_or tests k true ≡ true
unfolding all_pass
pass_at [] k h = refl
pass_at (test ∷ tests) zero h = (and_parts test (all_pass tests) h).0
pass_at (test ∷ tests) (suc k) h = pass_at tests k (and_parts test (all_pass tests) h).1

counted_below : {A : Type 0} (xs : List A) → is_counted xs ≡ true → length xs < 2 ^ 32
counted_below xs h = ltb-true (length xs) (2 ^ 32) (and_parts (leb 1 (length xs)) (ltb (length xs) (2 ^ 32)) h).1

module _ (a : ArrayDesc) (rest : List ℕ) where
  behind_extents : List ℕ
  behind_extents = be 4 (length a.versions) ++ (flat_map (be 4) a.versions ++ rest)

  behind_numbers : List ℕ
  behind_numbers = be 4 (length a.extents) ++ (flat_map extent_bytes a.extents ++ behind_extents)

  array_split : array_bytes a ++ rest ≡ be 8 a.id ++ (be 4 a.entries ++ (be 4 a.leads ++ (be 4 a.least ++ behind_numbers)))
  unfolding behind_numbers behind_extents
  array_split = simp append_assoc

  read_array-bytes : (next_array : ℕ) → next_array < 2 ^ 64 → is_lawful_array next_array a ≡ true → read_array (array_bytes a ++ rest) ≡ got a rest
  unfolding read_array behind_numbers behind_extents
  read_array-bytes next_array small lawful =
      let below = ltb-true a.id next_array (pass_at _ 1 lawful) in
      let entries = ltb-true a.entries (2 ^ 32) (pass_at _ 3 lawful) in
      let leads = leb-true a.leads a.entries (pass_at _ 4 lawful) in
      let least = leb-true a.least a.entries (pass_at _ 5 lawful) in
      let extents = pass_at _ 7 lawful in
      let versions = pass_at _ 10 lawful in
      ap read_array array_split
      ∙ next_number 8 a.id (be 4 a.entries ++ (be 4 a.leads ++ (be 4 a.least ++ behind_numbers))) (λ id b. next (read_number 4 b) (λ entries c. next (read_number 4 c) (λ leads d.
      next (read_number 4 d) (λ least e. next (read_list read_extent e) (λ extents f. next (read_list (read_number 4) f) (λ versions g.
      got (record { id = id; entries = entries; leads = leads; least = least; extents = extents; versions = versions }) g)))))) (omega arith)
      ∙ next_number 4 a.entries (be 4 a.leads ++ (be 4 a.least ++ behind_numbers)) (λ entries c. next (read_number 4 c) (λ leads d.
      next (read_number 4 d) (λ least e. next (read_list read_extent e) (λ extents f. next (read_list (read_number 4) f) (λ versions g.
      got (record { id = a.id; entries = entries; leads = leads; least = least; extents = extents; versions = versions }) g))))) (omega arith)
      ∙ next_number 4 a.leads (be 4 a.least ++ behind_numbers) (λ leads d.
      next (read_number 4 d) (λ least e. next (read_list read_extent e) (λ extents f. next (read_list (read_number 4) f) (λ versions g.
      got (record { id = a.id; entries = a.entries; leads = leads; least = least; extents = extents; versions = versions }) g)))) (omega arith)
      ∙ next_number 4 a.least behind_numbers (λ least e. next (read_list read_extent e) (λ extents f. next (read_list (read_number 4) f) (λ versions g.
      got (record { id = a.id; entries = a.entries; leads = a.leads; least = least; extents = extents; versions = versions }) g))) (omega arith)
      ∙ ap (λ (r : Parsed (List Extent)). next r (λ extents f. next (read_list (read_number 4) f) (λ versions g.
      got (record { id = a.id; entries = a.entries; leads = a.leads; least = a.least; extents = extents; versions = versions }) g)))
      (read_list-bytes read_extent extent_bytes a.extents behind_extents (counted_below a.extents (pass_at _ 6 lawful)) (λ x end among. read_extent-bytes x end (all_at is_lawful_extent x a.extents extents among)))
      ∙ ap (λ (r : Parsed (List ℕ)). next r (λ versions g.
      got (record { id = a.id; entries = a.entries; leads = a.leads; least = a.least; extents = a.extents; versions = versions }) g))
      (read_list-bytes (read_number 4) (be 4) a.versions rest (counted_below a.versions (pass_at _ 9 lawful)) (λ v end among. read_number-be 4 v end (ltb-true v (2 ^ 32) (all_at (λ w. ltb w (2 ^ 32)) v a.versions versions among))))

module _ (level : LevelDesc) (rest : List ℕ) where
  behind_horizon : List ℕ
  behind_horizon = be 4 (length level.arrays) ++ (flat_map array_bytes level.arrays ++ rest)

  level_split : level_bytes level ++ rest ≡ be 1 level.number ++ (be 4 level.horizon ++ behind_horizon)
  unfolding behind_horizon
  level_split =
      append_assoc (be 1 level.number) (be 4 level.horizon ++ list_bytes array_bytes level.arrays) rest
      ∙ ap (λ (x : List ℕ). be 1 level.number ++ x) (append_assoc (be 4 level.horizon) (list_bytes array_bytes level.arrays) rest
      ∙ ap (λ (x : List ℕ). be 4 level.horizon ++ x) (append_assoc (be 4 (length level.arrays)) (flat_map array_bytes level.arrays) rest))

  read_level-bytes : (versions next_array : ℕ) → versions ≤ 16384 → next_array < 2 ^ 64 → is_lawful_level versions next_array level ≡ true → read_level (level_bytes level ++ rest) ≡ got level rest
  unfolding read_level behind_horizon
  read_level-bytes versions next_array few small lawful =
      let number = leb-true level.number 22 (pass_at _ 1 lawful) in
      let horizon = leb-true level.horizon versions (pass_at _ 3 lawful) in
      let arrays = pass_at _ 5 lawful in
      ap read_level level_split
      ∙ next_number 1 level.number (be 4 level.horizon ++ behind_horizon) (λ number b. next (read_number 4 b) (λ horizon c. next (read_list read_array c) (λ arrays d.
      got (record { number = number; horizon = horizon; arrays = arrays }) d))) (omega arith)
      ∙ next_number 4 level.horizon behind_horizon (λ horizon c. next (read_list read_array c) (λ arrays d.
      got (record { number = level.number; horizon = horizon; arrays = arrays }) d)) (omega arith)
      ∙ ap (λ (r : Parsed (List ArrayDesc)). next r (λ arrays d. got (record { number = level.number; horizon = level.horizon; arrays = arrays }) d))
      (read_list-bytes read_array array_bytes level.arrays rest (counted_below level.arrays (pass_at _ 4 lawful)) (λ a end among. read_array-bytes a end next_array small (all_at (is_lawful_array next_array) a level.arrays arrays among)))

older_below : (v : ℕ) (parents : List ℕ) (p : ℕ) → are_older v parents ≡ true → Among p parents → p < v + length parents
older_below v [] p h among = absurd among
older_below v (q ∷ parents) p h (inl here) =
    let lt = ltb-true q v (and_parts (ltb q v) (are_older (suc v) parents) h).0 in omega (arith, here, lt)
older_below v (q ∷ parents) p h (inr there) =
    let lt = older_below (suc v) parents p (and_parts (ltb q v) (are_older (suc v) parents) h).1 there in omega (arith, lt)

-- a mark
read_mark-bytes : (mark : Bool) (rest : List ℕ) → read_mark (mark_bytes mark ++ rest) ≡ got mark rest
unfolding read_mark
read_mark-bytes true rest = next_number 1 1 rest (λ n b. got (eqb n 1) b) (omega arith)
read_mark-bytes false rest = next_number 1 0 rest (λ n b. got (eqb n 1) b) (omega arith)

-- what format 2 has alone
read_only-bytes : {A : Type 0} (format : ℕ) (read : List ℕ → Parsed A) (none x : A) (bytes rest : List ℕ) → (eqb format 2 ≡ true → read (bytes ++ rest) ≡ got x rest) → (eqb format 2 ≡ false → x ≡ none)
    → read_only format read none (only format bytes ++ rest) ≡ got x rest
unfolding read_only
read_only-bytes {A = A} format read none x bytes rest has lacks =
    elim (cases_Bool (eqb format 2)) [
      | inl two ↦ (λ i. cond (two i) (read (cond (two i) bytes [] ++ rest)) (got none (cond (two i) bytes [] ++ rest))) ∙ has two
      | inr one ↦ (λ i. cond (one i) (read (cond (one i) bytes [] ++ rest)) (got none (cond (one i) bytes [] ++ rest))) ∙ ap (λ (y : A). got y rest) (sym (lacks one))
    ]

unmarked : (marks : List Bool) → list_all not marks ≡ true → marks ≡ replicate (length marks) false
unmarked [] none = refl
unmarked (true ∷ marks) none = absurd (true≢false (sym none))
unmarked (false ∷ marks) none = ap (λ (ms : List Bool). false ∷ ms) (unmarked marks none)

module _ (format : ℕ) (m : Manifest) where
  behind_marks : List ℕ
  behind_marks = be 1 (length m.levels) ++ flat_map level_bytes m.levels

  behind_parents : List ℕ
  behind_parents = only format (flat_map mark_bytes m.marks) ++ behind_marks

  behind_versions : List ℕ
  behind_versions = flat_map (be 4) m.parents ++ behind_parents

  behind_written : List ℕ
  behind_written = be 8 m.next_array ++ (be 4 (versions_in m) ++ behind_versions)

  -- what is made of the fields behind each other
  from_levels : (changes updates written compacted next_array : ℕ) (parents : List ℕ) (marks : List Bool) → List ℕ → Parsed Manifest
  from_levels changes updates written compacted next_array parents marks g =
      next (read_number 1 g) (λ count h. next (read_items read_level count h) (λ levels i.
      got (record { changes = changes; updates = updates; written = written; compacted = compacted; next_array = next_array; parents = parents; marks = marks; levels = levels }) i))

  from_versions : (changes updates written compacted next_array versions : ℕ) → List ℕ → Parsed Manifest
  from_versions changes updates written compacted next_array versions f =
      next (read_items (read_number 4) (versions - 1) f) (λ parents l.
      next (read_only format (read_items read_mark (suc (length parents))) (replicate (suc (length parents)) false) l) (λ marks g.
      from_levels changes updates written compacted next_array parents marks g))

  from_compacted : (changes updates written compacted : ℕ) → List ℕ → Parsed Manifest
  from_compacted changes updates written compacted d =
      next (read_number 8 d) (λ next_array e. next (read_number 4 e) (λ versions f. from_versions changes updates written compacted next_array versions f))

  read_is : (bytes : List ℕ) → read_manifest format bytes ≡ next (read_number 4 bytes) (λ changes b. next (read_number 4 b) (λ updates c. next (read_number 8 c) (λ written k.
      next (read_only format (read_number 8) 0 k) (λ compacted d. from_compacted changes updates written compacted d))))
  unfolding read_manifest from_compacted from_versions from_levels
  read_is bytes = refl

  has_none : is_lawful_manifest format m ≡ true → eqb format 2 ≡ false → (m.compacted ≡ 0) × (m.marks ≡ replicate (length m.marks) false)
  has_none lawful one =
      let fields = pass_at _ 10 lawful in
      elim (or_cases (eqb format 2) ((eqb format 1 && eqb m.compacted 0) && list_all not m.marks) fields) [
        | inl two ↦ absurd (true≢false (sym two ∙ one))
        | inr old ↦
            let outer = and_parts (eqb format 1 && eqb m.compacted 0) (list_all not m.marks) old in
            (eqb-true m.compacted 0 (and_parts (eqb format 1) (eqb m.compacted 0) outer.0).1, unmarked m.marks outer.1)
      ]

  marks_long : is_lawful_manifest format m ≡ true → length m.marks ≡ suc (length m.parents)
  marks_long lawful =
      let pruned = pass_at _ 12 lawful in
      let outer = and_parts (eqb (length m.marks) (length (None ∷ map (λ p. Some p) m.parents)) && not (is_dropped m.marks 0)) _ pruned in
      let size = eqb-true (length m.marks) (length (None ∷ map (λ p. Some p) m.parents)) (and_parts (eqb (length m.marks) (length (None ∷ map (λ p. Some p) m.parents))) (not (is_dropped m.marks 0)) outer.0).0 in
      let same = length-map m.parents (λ (p : ℕ). Some p) in
      omega (arith, size, same)

  read_manifest-bytes : is_lawful_manifest format m ≡ true → read_manifest format (manifest_bytes format m) ≡ got m []
  unfolding manifest_bytes behind_written behind_versions behind_parents behind_marks from_compacted from_versions from_levels
  read_manifest-bytes lawful =
      let changes = ltb-true m.changes (2 ^ 32) (pass_at _ 0 lawful) in
      let updates = leb-true m.updates m.changes (pass_at _ 1 lawful) in
      let written = ltb-true m.written (2 ^ 64) (pass_at _ 2 lawful) in
      let small = ltb-true m.next_array (2 ^ 64) (pass_at _ 4 lawful) in
      let versions = leb-true (versions_in m) 16384 (pass_at _ 5 lawful) in
      let older = pass_at _ 6 lawful in
      let count = leb-true (length m.levels) 22 (pass_at _ 7 lawful) in
      let levels = pass_at _ 8 lawful in
      let compacted = ltb-true m.compacted (2 ^ 64) (pass_at _ 11 lawful) in
      let long = marks_long lawful in
      read_is (manifest_bytes format m)
      ∙ next_number 4 m.changes (be 4 m.updates ++ (be 8 m.written ++ (only format (be 8 m.compacted) ++ behind_written))) (λ changes b. next (read_number 4 b) (λ updates c. next (read_number 8 c) (λ written k.
      next (read_only format (read_number 8) 0 k) (λ compacted d. from_compacted changes updates written compacted d)))) changes
      ∙ next_number 4 m.updates (be 8 m.written ++ (only format (be 8 m.compacted) ++ behind_written)) (λ updates c. next (read_number 8 c) (λ written k.
      next (read_only format (read_number 8) 0 k) (λ compacted d. from_compacted m.changes updates written compacted d))) (omega arith)
      ∙ next_number 8 m.written (only format (be 8 m.compacted) ++ behind_written) (λ written k. next (read_only format (read_number 8) 0 k) (λ compacted d. from_compacted m.changes m.updates written compacted d)) (omega arith)
      ∙ ap (λ (r : Parsed ℕ). next r (λ compacted d. from_compacted m.changes m.updates m.written compacted d))
      (read_only-bytes format (read_number 8) 0 m.compacted (be 8 m.compacted) behind_written (λ two. read_number-be 8 m.compacted behind_written (omega (arith, compacted))) (λ one. (has_none lawful one).0))
      ∙ next_number 8 m.next_array (be 4 (versions_in m) ++ behind_versions) (λ next_array e. next (read_number 4 e) (λ versions f. from_versions m.changes m.updates m.written m.compacted next_array versions f)) (omega arith)
      ∙ next_number 4 (versions_in m) behind_versions (λ versions f. from_versions m.changes m.updates m.written m.compacted m.next_array versions f) (omega arith)
      ∙ ap (λ (n : ℕ). next (read_items (read_number 4) n behind_versions) (λ parents l.
      next (read_only format (read_items read_mark (suc (length parents))) (replicate (suc (length parents)) false) l) (λ marks g. from_levels m.changes m.updates m.written m.compacted m.next_array parents marks g))) one_less
      ∙ ap (λ (r : Parsed (List ℕ)). next r (λ parents l.
      next (read_only format (read_items read_mark (suc (length parents))) (replicate (suc (length parents)) false) l) (λ marks g. from_levels m.changes m.updates m.written m.compacted m.next_array parents marks g)))
      (read_items-bytes (read_number 4) (be 4) m.parents behind_parents (λ p end among. read_number-be 4 p end (let lt = older_below 1 m.parents p older among in omega (arith, lt, versions))))
      ∙ ap (λ (r : Parsed (List Bool)). next r (λ marks g. from_levels m.changes m.updates m.written m.compacted m.next_array m.parents marks g))
      (read_only-bytes format (read_items read_mark (suc (length m.parents))) (replicate (suc (length m.parents)) false) m.marks (flat_map mark_bytes m.marks) behind_marks
      (λ two. ap (λ (n : ℕ). read_items read_mark n (flat_map mark_bytes m.marks ++ behind_marks)) (sym long) ∙ read_items-bytes read_mark mark_bytes m.marks behind_marks (λ mark end among. read_mark-bytes mark end))
      (λ one. (has_none lawful one).1 ∙ ap (λ (n : ℕ). replicate n false) long))
      ∙ next_number 1 (length m.levels) (flat_map level_bytes m.levels) (λ count h. next (read_items read_level count h) (λ levels i.
      got (record { changes = m.changes; updates = m.updates; written = m.written; compacted = m.compacted; next_array = m.next_array; parents = m.parents; marks = m.marks; levels = levels }) i)) (omega arith)
      ∙ ap (λ (x : List ℕ). next (read_items read_level (length m.levels) x) (λ levels i.
      got (record { changes = m.changes; updates = m.updates; written = m.written; compacted = m.compacted; next_array = m.next_array; parents = m.parents; marks = m.marks; levels = levels }) i)) (sym (append-nil (flat_map level_bytes m.levels)))
      ∙ ap (λ (r : Parsed (List LevelDesc)). next r (λ levels i.
      got (record { changes = m.changes; updates = m.updates; written = m.written; compacted = m.compacted; next_array = m.next_array; parents = m.parents; marks = m.marks; levels = levels }) i))
      (read_items-bytes read_level level_bytes m.levels [] (λ level end among. read_level-bytes level end (versions_in m) m.next_array versions small (all_at (is_lawful_level (versions_in m) m.next_array) level m.levels levels among)))
    where
      one_less : versions_in m - 1 ≡ length m.parents
      one_less = omega arith

  pub manifest_in-bytes : (bytes : List ℕ) → SpellsManifest format bytes m → manifest_in format bytes ≡ Some m
  unfolding manifest_in
  manifest_in-bytes bytes spells =
      let read : read_manifest format bytes ≡ got m [] = ap (read_manifest format) spells.text ∙ read_manifest-bytes spells.lawful in
      ap (λ (r : Parsed Manifest). option_and_then (λ x. cond (is_lawful_manifest format x.0 && bytes_eq bytes (manifest_bytes format x.0)) (Some x.0) None) r) read
      ∙ cond-true (is_lawful_manifest format m && bytes_eq bytes (manifest_bytes format m)) (Some m) None (and_from (is_lawful_manifest format m) (bytes_eq bytes (manifest_bytes format m)) spells.lawful (same_bytes bytes (manifest_bytes format m) spells.text))

  pub manifest_in-some : (bytes : List ℕ) → manifest_in format bytes ≡ Some m → SpellsManifest format bytes m
  unfolding manifest_in
  manifest_in-some bytes is =
      elim (option_cases (read_manifest format bytes)) [
        | inl none ↦ absurd (cc)
        | inr found ↦
            let some = ap (λ (r : Parsed Manifest). option_and_then (λ x. cond (is_lawful_manifest format x.0 && bytes_eq bytes (manifest_bytes format x.0)) (Some x.0) None) r) (sym found.1) ∙ is in
            let both = cond_some (is_lawful_manifest format found.0.0 && bytes_eq bytes (manifest_bytes format found.0.0)) found.0.0 m some in
            let parts = and_parts (is_lawful_manifest format found.0.0) (bytes_eq bytes (manifest_bytes format found.0.0)) both.0 in
            subst (SpellsManifest format bytes) both.1 (record { lawful = parts.0; text = bytes_same bytes (manifest_bytes format found.0.0) parts.1 })
      ]
