-- The texts of a head are those of the state's own head.
use Rattle.std.proofs.Common.{◌≡◌, ◌+◌, ◌-◌, ◌*◌, ℕ, Bool, true, false, cond, ltb, List, [], ◌∷◌, ◌++◌, length, map, Option, Some, None, refl, sym, ap, ◌∙◌}
use Rattle.std.specs.Prelude.{option_map, flat_map, codes}
use Rattle.std.specs.Fmt.{decimal}
use Rattle.std.proofs.Math.ListN.{length-map}
use Rattle.def_crash.specs.Image.{Image}
use Rattle.strat_base.specs.declared.descriptors.ArrayDesc.{ArrayDesc}
use Rattle.strat_base.specs.declared.descriptors.LevelDesc.{LevelDesc}
use Rattle.def_state.specs.State.{State}
use Rattle.def_recovery.specs.Head.{Head, head_versions, journal_count, head_changes, head_updates, descriptors, head_of}
use Rattle.def_recovery.specs.Opening.{state_of}
use Rattle.def_recovery.proofs.HeadLemmas.{unplaced, level_unplaced, head_unplaced, head_said, sum_unplaced, arrays_unplaced, stored_unplaced}
use Rattle.def_texts.specs.Texts.{joined, store_line, journal_line, array_line, level_lines, report, summary, sparser, sparsest, density_line}

lines_unplaced : (arrays : List ArrayDesc) → map array_line (map unplaced arrays) ≡ map array_line arrays
lines_unplaced [] = refl
lines_unplaced (a ∷ arrays) = ap (λ (x : List (List ℕ)). array_line a ∷ x) (lines_unplaced arrays)

levels_unplaced : (ds : List LevelDesc) → flat_map level_lines (map level_unplaced ds) ≡ flat_map level_lines ds
levels_unplaced [] = refl
levels_unplaced (d ∷ ds) =
    let leads = sum_unplaced (λ a. a.leads) (λ a. refl) d.arrays in
    let entries = sum_unplaced (λ a. a.entries) (λ a. refl) d.arrays in
    λ i. (the_line (leads i) (entries i) ∷ lines_unplaced d.arrays i) ++ levels_unplaced ds i
  where
    the_line : ℕ → ℕ → List ℕ
    the_line leads entries = joined (
        codes "level " ∷ decimal d.number ∷ codes " horizon " ∷ decimal d.horizon
        ∷ codes " leads " ∷ decimal leads ∷ codes " entries " ∷ decimal entries ∷ [])

sparser_unplaced : (a : ArrayDesc) (o : Option ArrayDesc) → sparser (unplaced a) (option_map unplaced o) ≡ unplaced (sparser a o)
sparser_unplaced a None = refl
sparser_unplaced a (Some b) = by_test (ltb (b.least * a.entries) (a.least * b.entries))
  where
    by_test : (t : Bool) → cond t (unplaced b) (unplaced a) ≡ unplaced (cond t b a)
    by_test true = refl
    by_test false = refl

sparsest_unplaced : (arrays : List ArrayDesc) → sparsest (map unplaced arrays) ≡ option_map unplaced (sparsest arrays)
sparsest_unplaced [] = refl
sparsest_unplaced (a ∷ arrays) =
    ap (λ (o : Option ArrayDesc). Some (sparser (unplaced a) o)) (sparsest_unplaced arrays) ∙ ap (λ (x : ArrayDesc). Some x) (sparser_unplaced a (sparsest arrays))

density_unplaced : (o : Option ArrayDesc) → density_line (option_map unplaced o) ≡ density_line o
density_unplaced None = refl
density_unplaced (Some a) = refl

report_unplaced : (h : Head) → report (head_unplaced h) ≡ report h
report_unplaced h =
    λ i. store_line h ∷ journal_line h ∷ levels_unplaced h.manifest.levels i ++ the_stored (stored_unplaced h i) ∷ []
  where
    the_stored : ℕ → List ℕ
    the_stored n = joined (
        codes "stored " ∷ decimal n ∷ codes " updates " ∷ decimal (head_updates h) ∷ codes " written " ∷ decimal h.manifest.written ∷ [])

summary_unplaced : (h : Head) (seed count : ℕ) → summary (head_unplaced h) seed count ≡ summary h seed count
summary_unplaced h seed count =
    let arrays : map unplaced (descriptors h.manifest) ≡ descriptors (head_unplaced h).manifest = sym (arrays_unplaced h.manifest.levels) in
    let how_many : length (descriptors (head_unplaced h).manifest) ≡ length (descriptors h.manifest) = ap length (sym arrays) ∙ length-map (descriptors h.manifest) unplaced in
    let levels : length (map level_unplaced h.manifest.levels) ≡ length h.manifest.levels = length-map h.manifest.levels level_unplaced in
    let density : density_line (sparsest (descriptors (head_unplaced h).manifest)) ≡ density_line (sparsest (descriptors h.manifest)) =
    ap (λ (x : List ArrayDesc). density_line (sparsest x)) (sym arrays) ∙ ap density_line (sparsest_unplaced (descriptors h.manifest)) ∙ density_unplaced (sparsest (descriptors h.manifest)) in
    λ i. the_summary (levels i) (how_many i) (stored_unplaced h i) (density i)
  where
    the_summary : ℕ → ℕ → ℕ → List ℕ → List (List ℕ)
    the_summary levels arrays stored density =
        joined (codes "workload seed " ∷ decimal seed ∷ codes " changes " ∷ decimal count ∷ [])
        ∷ joined (
        codes "versions " ∷ decimal (length (head_versions h)) ∷ codes " updates " ∷ decimal (head_updates h)
        ∷ codes " clones " ∷ decimal (head_changes h - head_updates h) ∷ [])
        ∷ joined (
        codes "levels " ∷ decimal levels ∷ codes " arrays " ∷ decimal arrays
        ∷ codes " stored " ∷ decimal stored ∷ codes " written " ∷ decimal h.manifest.written ∷ [])
        ∷ density ∷ []

pub report_said : (c : Image) (h : Head) (s : State) → state_of c h ≡ Some s → report h ≡ report (head_of h.sb.generation s)
report_said c h s e = sym (ap report (head_said c h s e) ∙ report_unplaced h)

pub summary_said : (c : Image) (h : Head) (s : State) (seed count : ℕ) → state_of c h ≡ Some s → summary h seed count ≡ summary (head_of h.sb.generation s) seed count
summary_said c h s seed count e = sym (ap (λ (x : Head). summary x seed count) (head_said c h s e) ∙ summary_unplaced h seed count)
