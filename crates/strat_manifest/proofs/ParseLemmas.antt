-- A manifest and the parts that are read of it.
use Rattle.std.proofs.Common.{◌≡◌, ◌-◌, ◌<◌, ◌≤◌, ◌^◌, ◌⊎◌, inl, inr, ℕ, zero, suc, Bool, true, false, true≢false, cond, eqb, ltb, ◌==◌, ◌&&◌, List, [], ◌∷◌, ◌++◌, length, take, Some, None, refl, sym, ap, ◌∙◌, subst, arith, append_assoc, append-nil, length-append, replicate}
use Rattle.std.specs.List.{flat_map, list_all}
use Rattle.std.specs.Option.{option_and_then}
use Rattle.std.specs.Str.{bytes_eq}
use Rattle.std.proofs.lemmas.Bool.{ltb-true, leb-true, and_parts, cases_Bool}
use Rattle.std.proofs.lemmas.Bool.Decides.{nat_tests}
use Rattle.std.proofs.lemmas.Option.{cond_some}
use Rattle.std.proofs.lemmas.List.{append_cancel_left, take_at}
use Rattle.strat_base.specs.Numbers.{be, AreBytes}
use Rattle.strat_base.specs.declared.descriptors.LevelDesc.{LevelDesc}
use Rattle.strat_base.proofs.EntryLemmas.{bytes_same}
use Rattle.strat_base.proofs.NumberLemmas.{length-be}
use Rattle.strat_base.proofs.ResultFacts.{option_cases}
use Rattle.def_bytes.specs.Manifest.{Manifest, versions_in, is_lawful_manifest, level_bytes, mark_bytes, only, manifest_bytes, SpellsManifest, Parsed, next, read_number, read_items, read_mark, read_only, read_manifest, manifest_in}
use Rattle.def_bytes.proofs.ManifestLemmas.{read_number-be, pass_at, manifest_in-some, manifest_in-bytes}
use Rattle.strat_manifest.specs.ManifestView.{marks_listed, are_marks, only_size, manifest_of}
use Rattle.strat_manifest.specs.Reading.{read_head, read_marks, read_levels, read_behind}
use Rattle.strat_manifest.specs.declared.manifest.Manifest.{Manifest as Declared}
use Rattle.strat_manifest.specs.declared.parser.Head.{Head}
use Rattle.strat_manifest.proofs.MarkLemmas.{length-marks, marks_size, marks_zeros, marks_spelled, marks_told}
use Rattle.strat_manifest.proofs.PrintLemmas.{only_long}
use Rattle.strat_manifest.proofs.SpelledLemmas.{some_same, next_some, items_spelled, number_spelled_4, head_spelled, levels_spelled, marks_front, marks_low, marks_bare, bytes_behind}

no_item : {A : Type 0} (xs : List A) → length xs ≡ 0 → xs ≡ []
no_item [] e = refl
no_item (x ∷ xs) e = absurd (omega arith)

is_none : (n : ℕ) → true ≡ (n == 0) → n ≡ 0
is_none n is = grind (arith, nat_tests)

not_none : (n : ℕ) → false ≡ (n == 0) → 0 < n
not_none n is = grind (arith, nat_tests)

next_assoc : {A B C : Type 0} (r : Parsed A) (f : A → List ℕ → Parsed B) (g : B → List ℕ → Parsed C) → next (next r f) g ≡ next r (λ x b. next (f x b) g)
next_assoc None f g = refl
next_assoc (Some p) f g = refl

-- what is made of a value that was read
next_same : {A B : Type 0} (r : Parsed A) (f g : A → List ℕ → Parsed B) → ((x : A) (end : List ℕ) → r ≡ Some (x, end) → f x end ≡ g x end) → next r f ≡ next r g
next_same None f g same = refl
next_same (Some p) f g same = same p.0 p.1 refl

items_count : {A : Type 0} (read : List ℕ → Parsed A) (n : ℕ) (bytes : List ℕ) (xs : List A) (rest : List ℕ) → read_items read n bytes ≡ Some (xs, rest) → length xs ≡ n
unfolding read_items
items_count {A = A} read zero bytes xs rest is = let P : (List A × List ℕ) → Type 0 = λ p. length p.0 ≡ 0 in subst P (some_same ([], bytes) (xs, rest) is) refl
items_count {A = A} read (suc n) bytes xs rest is =
    let one = next_some {B = List A} (read bytes) (λ x b. next (read_items read n b) (λ ys end. Some (x ∷ ys, end))) (xs, rest) is in
    let others = next_some {B = List A} (read_items read n one.0.1) (λ ys end. Some (one.0.0 ∷ ys, end)) (xs, rest) one.2 in
    let P : (List A × List ℕ) → Type 0 = λ p. length p.0 ≡ suc n in
    subst P (some_same _ _ others.2) (ap suc (items_count read n one.0.1 others.0.0 others.0.1 others.1))

-- marks are read as the numbers that stand for them
marks_mapped : (n : ℕ) (bytes : List ℕ) → read_items read_mark n bytes ≡ next (read_items (read_number 1) n bytes) (λ xs end. Some (marks_listed xs, end))
unfolding read_items read_mark
marks_mapped zero bytes = refl
marks_mapped (suc n) bytes = by_first (read_number 1 bytes) (λ b. marks_mapped n b)
  where
    by_rest : (x : ℕ) (r : Parsed (List ℕ)) → next (next r (λ xs end. Some (marks_listed xs, end))) (λ ms end. Some (eqb x 1 ∷ ms, end)) ≡ next (next r (λ xs end. Some (x ∷ xs, end))) (λ xs end. Some (marks_listed xs, end))
    by_rest x None = refl
    by_rest x (Some p) = refl

    by_first : (r : Parsed ℕ) → ((b : List ℕ) → read_items read_mark n b ≡ next (read_items (read_number 1) n b) (λ xs end. Some (marks_listed xs, end)))
        → next (next r (λ x b. Some (eqb x 1, b))) (λ mark b. next (read_items read_mark n b) (λ ms end. Some (mark ∷ ms, end)))
        ≡ next (next r (λ x b. next (read_items (read_number 1) n b) (λ xs end. Some (x ∷ xs, end)))) (λ xs end. Some (marks_listed xs, end))
    by_first None later = refl
    by_first (Some p) later = ap (λ (r : Parsed (List Bool)). next r (λ ms end. Some (eqb p.0 1 ∷ ms, end))) (later p.1) ∙ by_rest p.0 (read_items (read_number 1) n p.1)

only_mapped : (format n : ℕ) (bytes : List ℕ) → read_only format (read_items read_mark n) (replicate n false) bytes ≡ next (read_marks format n bytes) (λ xs end. Some (marks_listed xs, end))
unfolding read_only read_marks
only_mapped format n bytes = by_format (eqb format 2)
  where
    by_format : (two : Bool) → cond two (read_items read_mark n bytes) (Some (replicate n false, bytes)) ≡ next (cond two (read_items (read_number 1) n bytes) (Some (replicate n 0, bytes))) (λ xs end. Some (marks_listed xs, end))
    by_format true = marks_mapped n bytes
    by_format false = ap (λ (ms : List Bool). Some (ms, bytes)) (sym (marks_zeros n))

-- what is read behind the numbers in front of a manifest, as the definition has it
module _ (format : ℕ) (h : Head) where
  made : List ℕ → List Bool → List LevelDesc → Manifest
  made parents marks levels =
      record { changes = h.changes; updates = h.updates; written = h.written; compacted = h.compacted; next_array = h.next_array; parents = parents; marks = marks; levels = levels }

  kept : List ℕ → List ℕ → List LevelDesc → Declared
  kept parents marks levels =
      record { changes = h.changes; updates = h.updates; written = h.written; compacted = h.compacted; next_array = h.next_array; parents = parents; marks = marks; levels = levels }

  read_rest : List ℕ → Parsed Manifest
  read_rest b =
      next (read_items (read_number 4) (h.versions - 1) b) (λ parents l.
      next (read_only format (read_items read_mark (suc (length parents))) (replicate (suc (length parents)) false) l) (λ marks g.
      next (read_levels g) (λ levels i. Some (made parents marks levels, i))))

  behind_is : (b : List ℕ) → read_behind format h b
      ≡ next (read_items (read_number 4) (h.versions - 1) b) (λ parents l. next (read_marks format h.versions l) (λ marks g. next (read_levels g) (λ levels i. Some (kept parents marks levels, i))))
  unfolding read_behind kept
  behind_is b = refl

  levels_made : (parents : List ℕ) (r : Parsed (List ℕ)) → next (next r (λ xs end. Some (marks_listed xs, end))) (λ marks g. next (read_levels g) (λ levels i. Some (made parents marks levels, i)))
      ≡ next (next r (λ marks g. next (read_levels g) (λ levels i. Some (kept parents marks levels, i)))) (λ m i. Some (manifest_of m, i))
  unfolding made kept
  levels_made parents None = refl
  levels_made parents (Some p) = sym (next_assoc (read_levels p.1) (λ levels i. Some (kept parents p.0 levels, i)) (λ m i. Some (manifest_of m, i)))

  rest_is : (b : List ℕ) → 1 ≤ h.versions → read_rest b ≡ next (read_behind format h b) (λ m i. Some (manifest_of m, i))
  unfolding read_rest
  rest_is b some =
      next_same (read_items (read_number 4) (h.versions - 1) b) _ _ (λ parents l is.
      let count : suc (length parents) ≡ h.versions = let n = items_count (read_number 4) (h.versions - 1) b parents l is in omega (arith, n) in
      ap (λ (n : ℕ). next (read_only format (read_items read_mark n) (replicate n false) l) (λ marks g. next (read_levels g) (λ levels i. Some (made parents marks levels, i)))) count
      ∙ ap (λ (r : Parsed (List Bool)). next r (λ marks g. next (read_levels g) (λ levels i. Some (made parents marks levels, i)))) (only_mapped format h.versions l)
      ∙ levels_made parents (read_marks format h.versions l))
      ∙ sym (next_assoc (read_items (read_number 4) (h.versions - 1) b) (λ parents l. next (read_marks format h.versions l) (λ marks g. next (read_levels g) (λ levels i. Some (kept parents marks levels, i)))) (λ m i. Some (manifest_of m, i)))
      ∙ ap (λ (r : Parsed Declared). next r (λ m i. Some (manifest_of m, i))) (sym (behind_is b))

-- a manifest is read in two parts
head_first : (format : ℕ) (bytes : List ℕ) → read_manifest format bytes ≡ next (read_head format bytes) (λ h b. read_rest format h b)
unfolding read_manifest read_head read_rest made
head_first format bytes = simp next_assoc

seven : (a b c d e f g x : List ℕ) → a ++ (b ++ (c ++ (d ++ (e ++ (f ++ (g ++ x)))))) ≡ (a ++ (b ++ (c ++ (d ++ (e ++ (f ++ g)))))) ++ x
seven a b c d e f g x = sym (simp append_assoc)

-- the bytes of a manifest before its marks, and behind them
front : ℕ → Declared → List ℕ
front format m = be 4 m.changes ++ (be 4 m.updates ++ (be 8 m.written ++ (only format (be 8 m.compacted) ++ (be 8 m.next_array ++ (be 4 (suc (length m.parents)) ++ flat_map (be 4) m.parents)))))

back : Declared → List ℕ
back m = be 1 (length m.levels) ++ flat_map level_bytes m.levels

manifest_parts : (format : ℕ) (m : Declared) → manifest_bytes format (manifest_of m) ≡ front format m ++ (only format (flat_map mark_bytes (marks_listed m.marks)) ++ back m)
unfolding manifest_bytes front back
manifest_parts format m =
    seven (be 4 m.changes) (be 4 m.updates) (be 8 m.written) (only format (be 8 m.compacted)) (be 8 m.next_array) (be 4 (suc (length m.parents))) (flat_map (be 4) m.parents)
    (only format (flat_map mark_bytes (marks_listed m.marks)) ++ (be 1 (length m.levels) ++ flat_map level_bytes m.levels))

-- what is known of a manifest that was read
record WasRead (format : ℕ) (bytes : List ℕ) (m : Declared) (rest : List ℕ) : Type 0 where
  text : bytes ≡ front format m ++ (only format (flat_map (be 1) m.marks) ++ (back m ++ rest))
  low : list_all (λ x. ltb x 256) m.marks ≡ true
  bare : eqb format 2 ≡ false → are_marks m.marks ≡ true

was_read : (format : ℕ) (bytes : List ℕ) (h : Head) (b : List ℕ) (m : Declared) (rest : List ℕ) → AreBytes bytes → read_head format bytes ≡ Some (h, b) → 1 ≤ h.versions
    → read_behind format h b ≡ Some (m, rest) → WasRead format bytes m rest
unfolding front back kept
was_read format bytes h b m rest fits is some tail =
    let head = head_spelled format bytes h b fits is in
    let heirs = next_some {B = Declared} (read_items (read_number 4) (h.versions - 1) b) (λ parents l. next (read_marks format h.versions l) (λ marks g. next (read_levels g) (λ levels i.
    Some (kept format h parents marks levels, i)))) (m, rest) (sym (behind_is format h b) ∙ tail) in
    let parents : List ℕ = heirs.0.0 in
    let l : List ℕ = heirs.0.1 in
    let spelled = items_spelled (read_number 4) (be 4) number_spelled_4 (h.versions - 1) b parents l head.1 heirs.1 in
    let fits_l = bytes_behind (flat_map (be 4) parents) l b spelled.0 head.1 in
    let marked = next_some {B = Declared} (read_marks format h.versions l) (λ marks g. next (read_levels g) (λ levels i. Some (kept format h parents marks levels, i))) (m, rest) heirs.2 in
    let marks : List ℕ = marked.0.0 in
    let g : List ℕ = marked.0.1 in
    let marks_are = marks_front format h.versions l marks g marked.1 fits_l in
    let fits_g = bytes_behind (only format (flat_map (be 1) marks)) g l marks_are fits_l in
    let others = next_some {B = Declared} (read_levels g) (λ levels i. Some (kept format h parents marks levels, i)) (m, rest) marked.2 in
    let levels : List LevelDesc = others.0.0 in
    let i : List ℕ = others.0.1 in
    let behind = levels_spelled g levels i fits_g others.1 in
    let count : h.versions ≡ suc (length parents) = let e = spelled.1 in omega arith in
    let P : (Declared × List ℕ) → Type 0 = λ p. WasRead format bytes p.0 p.1 in
    subst P (some_same (kept format h parents marks levels, i) (m, rest) others.2) (record {
      text =
          head.0
          ∙ ap (λ (n : ℕ). be 4 h.changes ++ (be 4 h.updates ++ (be 8 h.written ++ (only format (be 8 h.compacted) ++ (be 8 h.next_array ++ (be 4 n ++ b)))))) count
          ∙ ap (λ (x : List ℕ). be 4 h.changes ++ (be 4 h.updates ++ (be 8 h.written ++ (only format (be 8 h.compacted) ++ (be 8 h.next_array ++ (be 4 (suc (length parents)) ++ x))))))
          (spelled.0 ∙ ap (λ (x : List ℕ). flat_map (be 4) parents ++ x) (marks_are ∙ ap (λ (x : List ℕ). only format (flat_map (be 1) marks) ++ x)
          (behind ∙ sym (append_assoc (be 1 (length levels)) (flat_map level_bytes levels) i))))
          ∙ seven (be 4 h.changes) (be 4 h.updates) (be 8 h.written) (only format (be 8 h.compacted)) (be 8 h.next_array) (be 4 (suc (length parents))) (flat_map (be 4) parents)
          (only format (flat_map (be 1) marks) ++ ((be 1 (length levels) ++ flat_map level_bytes levels) ++ i));
      low = marks_low format h.versions l marks g marked.1 fits_l;
      bare = marks_bare format h.versions l marks g marked.1;
    })

-- a number that format 2 has alone
only_skipped : (format x : ℕ) (rest : List ℕ) → x < 2 ^ 64 → (y : ℕ) × (read_only format (read_number 8) 0 (only format (be 8 x) ++ rest) ≡ Some (y, rest))
unfolding read_only
only_skipped format x rest fits = by_format (eqb format 2)
  where
    by_format : (two : Bool) → (y : ℕ) × (cond two (read_number 8 (cond two (be 8 x) [] ++ rest)) (Some (0, cond two (be 8 x) [] ++ rest)) ≡ Some (y, rest))
    by_format true = (x, read_number-be 8 x rest fits)
    by_format false = (0, refl)

-- the numbers in front of a manifest's spelling
head_of_spelling : (format : ℕ) (m : Manifest) → is_lawful_manifest format m ≡ true → (h : Head) (b : List ℕ) → read_head format (manifest_bytes format m) ≡ Some (h, b) → h.versions ≡ versions_in m
unfolding read_head manifest_bytes
head_of_spelling format m lawful h b is =
    let changes = ltb-true m.changes (2 ^ 32) (pass_at _ 0 lawful) in
    let updates = leb-true m.updates m.changes (pass_at _ 1 lawful) in
    let written = ltb-true m.written (2 ^ 64) (pass_at _ 2 lawful) in
    let small = ltb-true m.next_array (2 ^ 64) (pass_at _ 4 lawful) in
    let versions = leb-true (versions_in m) 16384 (pass_at _ 5 lawful) in
    let compacted = ltb-true m.compacted (2 ^ 64) (pass_at _ 11 lawful) in
    let end : List ℕ = flat_map (be 4) m.parents ++ (only format (flat_map mark_bytes m.marks) ++ (be 1 (length m.levels) ++ flat_map level_bytes m.levels)) in
    let e1 = read_number-be 4 m.changes (be 4 m.updates ++ (be 8 m.written ++ (only format (be 8 m.compacted) ++ (be 8 m.next_array ++ (be 4 (versions_in m) ++ end))))) changes in
    let e2 = read_number-be 4 m.updates (be 8 m.written ++ (only format (be 8 m.compacted) ++ (be 8 m.next_array ++ (be 4 (versions_in m) ++ end)))) (omega arith) in
    let e3 = read_number-be 8 m.written (only format (be 8 m.compacted) ++ (be 8 m.next_array ++ (be 4 (versions_in m) ++ end))) (omega arith) in
    let skipped = only_skipped format m.compacted (be 8 m.next_array ++ (be 4 (versions_in m) ++ end)) compacted in
    let e4 = read_number-be 8 m.next_array (be 4 (versions_in m) ++ end) (omega arith) in
    let e5 = read_number-be 4 (versions_in m) end (omega arith) in
    let found = rw (e1, e2, e3, skipped.1, e4, e5) at is in
    let same = some_same _ _ found in
    ap (λ (p : Head × List ℕ). p.0.versions) (sym same)

module _ (format : ℕ) (bytes : List ℕ) where
  -- where nothing is read there is no manifest
  nothing_read : read_manifest format bytes ≡ None → manifest_in format bytes ≡ None
  unfolding manifest_in
  nothing_read none = rw none refl

  pub head_missing : read_head format bytes ≡ None → manifest_in format bytes ≡ None
  head_missing none = nothing_read (head_first format bytes ∙ (rw none refl))

  module _ (h : Head) (b : List ℕ) (head : read_head format bytes ≡ Some (h, b)) where
    -- no manifest has no version, or too many
    pub versions_refused : (h.versions ≡ 0) ⊎ (16384 < h.versions) → manifest_in format bytes ≡ None
    versions_refused wrong =
        elim (option_cases (manifest_in format bytes)) [
          | inl none ↦ none
          | inr some ↦
              let spells = manifest_in-some format some.0 bytes some.1 in
              let count = head_of_spelling format some.0 spells.lawful h b (ap (read_head format) (sym spells.text) ∙ head) in
              let few = leb-true (versions_in some.0) 16384 (pass_at _ 5 spells.lawful) in
              absurd (elim wrong [ inl none ↦ omega arith | inr many ↦ omega arith ])
        ]

    module _ (some_version : 1 ≤ h.versions) where
      rest_read : read_manifest format bytes ≡ next (read_behind format h b) (λ m i. Some (manifest_of m, i))
      rest_read = head_first format bytes ∙ ap (λ (r : Parsed Head). next r (λ k c. read_rest format k c)) head ∙ rest_is format h b some_version

      pub behind_missing : read_behind format h b ≡ None → manifest_in format bytes ≡ None
      behind_missing none = nothing_read (rest_read ∙ (rw none refl))

      module _ (m : Declared) (rest : List ℕ) (tail : read_behind format h b ≡ Some (m, rest)) where
        all_read : read_manifest format bytes ≡ Some (manifest_of m, rest)
        all_read = rest_read ∙ (rw tail refl)

        judged : (x : Manifest) → manifest_in format bytes ≡ Some x → (is_lawful_manifest format (manifest_of m) ≡ true) × (bytes ≡ manifest_bytes format (manifest_of m))
        unfolding manifest_in
        judged x is =
            let some = ap (λ (r : Parsed Manifest). option_and_then (λ y. cond (is_lawful_manifest format y.0 && bytes_eq bytes (manifest_bytes format y.0)) (Some y.0) None) r) (sym all_read) ∙ is in
            let both = cond_some (is_lawful_manifest format (manifest_of m) && bytes_eq bytes (manifest_bytes format (manifest_of m))) (manifest_of m) x some in
            let parts = and_parts (is_lawful_manifest format (manifest_of m)) (bytes_eq bytes (manifest_bytes format (manifest_of m))) both.0 in
            (parts.0, bytes_same bytes (manifest_bytes format (manifest_of m)) parts.1)

        module _ (fits : AreBytes bytes) where
          abbrev raw : List ℕ
          raw = only format (flat_map (be 1) m.marks)

          abbrev marked : List ℕ
          marked = only format (flat_map mark_bytes (marks_listed m.marks))

          read_as : WasRead format bytes m rest
          read_as = was_read format bytes h b m rest fits head some_version tail

          -- the bytes behind the parents, where they are a manifest's
          seen : (x : Manifest) → manifest_in format bytes ≡ Some x → raw ++ (back m ++ rest) ≡ marked ++ back m
          seen x is = append_cancel_left (front format m) (raw ++ (back m ++ rest)) (marked ++ back m) (sym read_as.text ∙ (judged x is).1 ∙ manifest_parts format m)

          raw_long : length raw ≡ only_size format (length m.marks)
          raw_long = only_long format (flat_map (be 1) m.marks) (length m.marks) (bytes_long m.marks)
            where
              bytes_long : (xs : List ℕ) → length (flat_map (be 1) xs) ≡ length xs
              bytes_long [] = refl
              bytes_long (x ∷ xs) = omega (arith, length-append (be 1 x) (flat_map (be 1) xs), length-be 1 x, bytes_long xs)

          marked_long : length marked ≡ only_size format (length m.marks)
          marked_long = only_long format (flat_map mark_bytes (marks_listed m.marks)) (length m.marks) (marks_size (marks_listed m.marks) ∙ length-marks m.marks)

          -- bytes of a manifest leave nothing
          nothing_left : (x : Manifest) → manifest_in format bytes ≡ Some x → length rest ≡ 0
          nothing_left x is =
              let same = ap length (seen x is) in
              omega (arith, same, raw_long, marked_long, length-append raw (back m ++ rest), length-append (back m) rest, length-append marked (back m))

          -- and each mark is 0 or 1
          marks_are : (x : Manifest) → manifest_in format bytes ≡ Some x → are_marks m.marks ≡ true
          marks_are x is =
              elim (cases_Bool (eqb format 2)) [
                | inl two ↦
                    let raw_is : raw ≡ flat_map (be 1) m.marks = ap (λ (t : Bool). cond t (flat_map (be 1) m.marks) []) two in
                    let marked_is : marked ≡ flat_map mark_bytes (marks_listed m.marks) = ap (λ (t : Bool). cond t (flat_map mark_bytes (marks_listed m.marks)) []) two in
                    let same : raw ≡ marked =
                    sym (take_at raw (back m ++ rest) (only_size format (length m.marks)) raw_long)
                    ∙ ap (take (only_size format (length m.marks))) (seen x is)
                    ∙ take_at marked (back m) (only_size format (length m.marks)) marked_long in
                    marks_told m.marks read_as.low (sym raw_is ∙ same ∙ marked_is)
                | inr one ↦ read_as.bare one
              ]

          -- what is left, a byte that is no mark, or a manifest that has no spelling, is refused
          pub all_refused : false ≡ (length rest == 0 && are_marks m.marks && is_lawful_manifest format (manifest_of m)) → manifest_in format bytes ≡ None
          all_refused wrong =
              elim (option_cases (manifest_in format bytes)) [
                | inl none ↦ none
                | inr some ↦
                    let over : (length rest == 0) ≡ true = (let e = nothing_left some.0 some.1 in rw e refl) in
                    let yes : (length rest == 0 && are_marks m.marks && is_lawful_manifest format (manifest_of m)) ≡ true = rw (over, marks_are some.0 some.1, (judged some.0 some.1).0) refl in
                    absurd (true≢false (sym yes ∙ sym wrong))
              ]

          -- else it is spelled by the bytes
          pub all_spelled : true ≡ (length rest == 0 && are_marks m.marks && is_lawful_manifest format (manifest_of m)) → SpellsManifest format bytes (manifest_of m)
          all_spelled right =
              let parts = and_parts (length rest == 0 && are_marks m.marks) (is_lawful_manifest format (manifest_of m)) (sym right) in
              let first = and_parts (length rest == 0) (are_marks m.marks) parts.0 in
              let over : rest ≡ [] = no_item rest (is_none (length rest) (sym first.0)) in
              let same : raw ≡ marked = ap (only format) (marks_spelled m.marks first.1) in
              record {
                lawful = parts.1;
                text =
                    read_as.text ∙ (λ i. front format m ++ (same i ++ (back m ++ over i))) ∙ ap (λ (x : List ℕ). front format m ++ (marked ++ x)) (append-nil (back m))
                    ∙ sym (manifest_parts format m);
              }

          pub all_found : true ≡ (length rest == 0 && are_marks m.marks && is_lawful_manifest format (manifest_of m)) → manifest_in format bytes ≡ Some (manifest_of m)
          all_found right = manifest_in-bytes format (manifest_of m) bytes (all_spelled right)

          pub all_marks : true ≡ (length rest == 0 && are_marks m.marks && is_lawful_manifest format (manifest_of m)) → are_marks m.marks ≡ true
          all_marks right =
              (and_parts (length rest == 0) (are_marks m.marks) (and_parts (length rest == 0 && are_marks m.marks) (is_lawful_manifest format (manifest_of m)) (sym right)).0).1
