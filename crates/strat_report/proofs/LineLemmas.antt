-- Texts that are put together line by line, and lines in parts.
use Rattle.std.proofs.Common.{◌≡◌, ◌<◌, ◌+◌, ℕ, List, [], ◌∷◌, ◌++◌, length, take, get_or, refl, sym, ap, ◌∙◌, add-one, append_assoc, append-nil}
use Rattle.std.specs.List.{flat_map}
use Rattle.std.proofs.lemmas.Grind.{flat_map-append}
use Rattle.std.specs.Prelude.{map, codes}
use Rattle.std.specs.Fmt.{decimal}
use Rattle.strat_base.specs.declared.descriptors.ArrayDesc.{ArrayDesc}
use Rattle.strat_base.specs.declared.descriptors.LevelDesc.{LevelDesc}
use Rattle.def_recovery.specs.Head.{Head, descriptors}
use Rattle.def_texts.specs.Texts.{text, store_line, journal_line, array_line, level_line, level_lines, stored_line, report, summary, sparsest, density_line, versions_text, fraction}
use Rattle.strat_report.specs.Lines.{fractions_text, workload_line, counts_line, arrays_line}
use Rattle.strat_report.proofs.TotalLemmas.{items_next}

-- the lines of two texts one after the other
text_append : (xs ys : List (List ℕ)) → text (xs ++ ys) ≡ text xs ++ text ys
text_append xs ys = flat_map-append (λ line. line ++ 10 ∷ []) xs ys

module _ {X : Type 0} (f : X → List ℕ) where
  -- the text of an item was added behind those before it
  pub added_next : (before out now : List ℕ) (xs : List X) (i : ℕ) (x : X) → i < length xs → x ≡ get_or xs i x → out ≡ before ++ flat_map f (take i xs) → now ≡ out ++ f x
      → now ≡ before ++ flat_map f (take (i + 1) xs)
  added_next before out now xs i x more is sofar one =
      one ∙ ap (λ (y : List ℕ). y ++ f x) sofar ∙ append_assoc before (flat_map f (take i xs)) (f x)
      ∙ ap (λ (y : List ℕ). before ++ y) (sym (items_next f xs i x more is) ∙ ap (λ (n : ℕ). flat_map f (take n xs)) (sym (add-one i)))

-- texts of arrays, and of levels, are the text of all their lines
arrays_lines : (arrays : List ArrayDesc) → flat_map (λ a. text (array_line a ∷ [])) arrays ≡ text (map array_line arrays)
arrays_lines [] = refl
arrays_lines (a ∷ arrays) = ap (λ (x : List ℕ). text (array_line a ∷ []) ++ x) (arrays_lines arrays) ∙ sym (text_append (array_line a ∷ []) (map array_line arrays))

levels_lines : (levels : List LevelDesc) → flat_map (λ l. text (level_lines l)) levels ≡ text (flat_map level_lines levels)
levels_lines [] = refl
levels_lines (l ∷ levels) = ap (λ (x : List ℕ). text (level_lines l) ++ x) (levels_lines levels) ∙ sym (text_append (level_lines l) (flat_map level_lines levels))

-- lines were added, and then others
two_added : (before one two : List ℕ) (xs ys : List (List ℕ)) → one ≡ before ++ text xs → two ≡ one ++ text ys → two ≡ before ++ text (xs ++ ys)
two_added before one two xs ys first second =
    second ∙ ap (λ (x : List ℕ). x ++ text ys) first ∙ append_assoc before (text xs) (text ys) ∙ ap (λ (x : List ℕ). before ++ x) (sym (text_append xs ys))

-- the line of an array was added in three parts
pub array_added : (a : ArrayDesc) (before one two now : List ℕ) → one ≡ before ++ fractions_text a → two ≡ one ++ versions_text a.versions → now ≡ two ++ 10 ∷ [] → now ≡ before ++ text (array_line a ∷ [])
array_added a before one two now first second third =
    rw (third, second, first) (regrouped before (codes "array ") (decimal a.id) (codes " density ") (fraction a.least a.entries) (codes " lead ") (fraction a.leads a.entries) (codes " versions ") (versions_text a.versions) (10 ∷ []))
  where
    regrouped : (b p i q f r g s v e : List ℕ)
        → ((b ++ (p ++ (i ++ (q ++ (f ++ (r ++ (g ++ (s ++ [])))))))) ++ v) ++ e ≡ b ++ (((p ++ (i ++ (q ++ (f ++ (r ++ (g ++ (s ++ (v ++ [])))))))) ++ e) ++ [])
    regrouped b p i q f r g s v e = simp (append_assoc, append-nil)

-- a level was added, and then its arrays
pub level_added : (l : LevelDesc) (before one two : List ℕ) → one ≡ before ++ text (level_line l ∷ []) → two ≡ one ++ flat_map (λ a. text (array_line a ∷ [])) l.arrays → two ≡ before ++ text (level_lines l)
level_added l before one two first second =
    two_added before one two (level_line l ∷ []) (map array_line l.arrays) first (second ∙ ap (λ (x : List ℕ). one ++ x) (arrays_lines l.arrays))

-- a report was added in four parts
pub report_added : (h : Head) (levels : List LevelDesc) (before one two three four : List ℕ) → levels ≡ h.manifest.levels
    → one ≡ before ++ text (store_line h ∷ []) → two ≡ one ++ text (journal_line h ∷ []) → three ≡ two ++ flat_map (λ l. text (level_lines l)) levels → four ≡ three ++ text (stored_line h ∷ [])
    → four ≡ before ++ text (report h)
report_added h levels before one two three four same first second third fourth =
    let head = two_added before one two (store_line h ∷ []) (journal_line h ∷ []) first second in
    let lines = ap (λ (ls : List LevelDesc). flat_map (λ l. text (level_lines l)) ls) same ∙ levels_lines h.manifest.levels in
    let body = two_added before two three (store_line h ∷ journal_line h ∷ []) (flat_map level_lines h.manifest.levels) head (third ∙ ap (λ (x : List ℕ). two ++ x) lines) in
    two_added before three four (store_line h ∷ journal_line h ∷ flat_map level_lines h.manifest.levels) (stored_line h ∷ []) body fourth

-- a summary was added in four parts
pub summary_added : (h : Head) (seed count : ℕ) (before one two three four : List ℕ)
    → one ≡ before ++ text (workload_line seed count ∷ []) → two ≡ one ++ text (counts_line h ∷ []) → three ≡ two ++ text (arrays_line h ∷ [])
    → four ≡ three ++ text (density_line (sparsest (descriptors h.manifest)) ∷ []) → four ≡ before ++ text (summary h seed count)
summary_added h seed count before one two three four first second third fourth =
    let head = two_added before one two (workload_line seed count ∷ []) (counts_line h ∷ []) first second in
    let body = two_added before two three (workload_line seed count ∷ counts_line h ∷ []) (arrays_line h ∷ []) head third in
    two_added before three four (workload_line seed count ∷ counts_line h ∷ arrays_line h ∷ []) (density_line (sparsest (descriptors h.manifest)) ∷ []) body fourth

-- the line of a workload was written piece by piece
pub workload_added : (seed count : ℕ) (before now : List ℕ) → now ≡ before ++ (codes "workload seed " ++ (decimal seed ++ (codes " changes " ++ (decimal count ++ 10 ∷ [])))) → now ≡ before ++ text (workload_line seed count ∷ [])
workload_added seed count before now pieces =
    pieces ∙ ap (λ (x : List ℕ). before ++ x) (regrouped (codes "workload seed ") (decimal seed) (codes " changes ") (decimal count) (10 ∷ []))
  where
    regrouped : (p a q b e : List ℕ) → p ++ (a ++ (q ++ (b ++ e))) ≡ ((p ++ (a ++ (q ++ (b ++ [])))) ++ e) ++ []
    regrouped p a q b e = simp (append_assoc, append-nil)
