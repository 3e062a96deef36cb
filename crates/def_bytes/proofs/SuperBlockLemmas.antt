-- Numbers one after the other, written and read back.
use Rattle.std.proofs.Common.{◌≡◌, ◌<◌, ℕ, zero, suc, ◌+◌, ◌^◌, true, List, [], ◌∷◌, ◌++◌, length, take, drop, get_or, Option, Some, None, refl, sym, ◌∙◌, ap, subst, arith, append_assoc, length-append, lit<, ◌≢◌, IfSome, inl, inr}
use Rattle.std.proofs.lemmas.Bool.{cond-true, cond-false, and_from, and_left, eq-eqb, ne_eqb, le-leb, lt-ltb, le-ltb, cases_lt}
use Rattle.std.proofs.Math.Seq.{drop-append-add}
use Rattle.std.proofs.lemmas.List.{drop-drop, drop_at, take_at, append-nil, length-replicate}
use Rattle.def_crash.specs.Image.{Image, window, SameIn}
use Rattle.strat_base.specs.Numbers.{be, number, placed}
use Rattle.strat_base.proofs.NumberLemmas.{length-be, number-be}
use Rattle.def_bytes.specs.SuperBlock.{Super, IsLawful, magic, spelled, fields, zeros, body, in_range, slot_of, slot_in, newer}
use Rattle.def_crash.proofs.ImageLemmas.{window_at, window_same}
use Rattle.def_bytes.specs.Layout.{newest_format, shortest_manifest, first_free}

pub length-zeros : (n : ℕ) → length (zeros n) ≡ n
unfolding zeros
length-zeros n = length-replicate n 0

pub drop-zeros : (k m : ℕ) → drop k (zeros (k + m)) ≡ zeros m
unfolding zeros
drop-zeros zero m = let e : 0 + m ≡ m = omega arith in ap (λ (n : ℕ). zeros n) e
drop-zeros (suc k) m = let e : suc k + m ≡ suc (k + m) = omega arith in ap (λ (n : ℕ). drop (suc k) (zeros n)) e ∙ drop-zeros k m

-- the bytes of these fields
abbrev pub width : List (ℕ × ℕ) → ℕ
width [] = 0
width (field ∷ fields) = field.0 + width fields

pub length-spelled : (fs : List (ℕ × ℕ)) → length (spelled fs) ≡ width fs
length-spelled [] = refl
length-spelled (f ∷ fs) = omega (arith, length-append (be f.0 f.1) (spelled fs), length-be f.0 f.1, length-spelled fs)

pub spelled-append : (fs gs : List (ℕ × ℕ)) → spelled (fs ++ gs) ≡ spelled fs ++ spelled gs
spelled-append [] gs = refl
spelled-append (f ∷ fs) gs = ap (λ (l : List ℕ). be f.0 f.1 ++ l) (spelled-append fs gs) ∙ sym (append_assoc (be f.0 f.1) (spelled fs) (spelled gs))

-- one field more, written where zeros stood
pub spelled_next : (fs : List (ℕ × ℕ)) (k x m : ℕ) → placed (spelled fs ++ zeros (k + m)) (width fs) (be k x) ≡ spelled (fs ++ (k, x) ∷ []) ++ zeros m
spelled_next fs k x m =
    let old = spelled fs ++ zeros (k + m) in
    let front : take (width fs) old ≡ spelled fs = take_at (spelled fs) (zeros (k + m)) (width fs) (length-spelled fs) in
    let behind_fields : drop (width fs) old ≡ zeros (k + m) = drop_at (spelled fs) (zeros (k + m)) (width fs) (length-spelled fs) in
    let end : drop (width fs + length (be k x)) old ≡ zeros m =
    ap (λ (n : ℕ). drop (width fs + n) old) (length-be k x) ∙ sym (drop-drop k (width fs) old) ∙ ap (λ (l : List ℕ). drop k l) behind_fields ∙ drop-zeros k m in
    let last : be k x ++ [] ≡ be k x = append-nil (be k x) in
    (λ j. front j ++ be k x ++ end j)
    ∙ ap (λ (l : List ℕ). spelled fs ++ l ++ zeros m) (sym last)
    ∙ ap (λ (l : List ℕ). l ++ zeros m) (sym (spelled-append fs ((k, x) ∷ [])))

-- a field behind others is read back
pub field_read : (fs gs : List (ℕ × ℕ)) (k x : ℕ) (tail : List ℕ) → x < 256 ^ k → number k (drop (width fs) (spelled (fs ++ (k, x) ∷ gs) ++ tail)) ≡ x
field_read [] gs k x tail fits =
    ap (λ (l : List ℕ). number k l) (append_assoc (be k x) (spelled gs) tail) ∙ number-be k x (spelled gs ++ tail) fits
field_read (f ∷ fs) gs k x tail fits =
    let rest = spelled (fs ++ (k, x) ∷ gs) in
    let whole : drop (f.0 + width fs) ((be f.0 f.1 ++ rest) ++ tail) ≡ drop (width fs) (rest ++ tail) =
    ap (λ (l : List ℕ). drop (f.0 + width fs) l) (append_assoc (be f.0 f.1) rest tail)
    ∙ ap (λ (n : ℕ). drop (n + width fs) (be f.0 f.1 ++ (rest ++ tail))) (sym (length-be f.0 f.1))
    ∙ drop-append-add (be f.0 f.1) (rest ++ tail) (width fs)
    in
    ap (λ (l : List ℕ). number k l) whole ∙ field_read fs gs k x tail fits

pub gate_first : (rest : List ℕ) → get_or (be 1 0xa7 ++ rest) 0 0 ≡ 0xa7
unfolding be
gate_first rest = refl

-- the gate and the fields of a superblock, with their numbers of bytes
abbrev pub open_fields : Super → List (ℕ × ℕ)
open_fields sb = (1, 0xa7) ∷ fields sb

pub open_rest : (sb : Super) (j : ℕ) → get_or (spelled (open_fields sb)) (suc j) 0 ≡ get_or (spelled (fields sb)) j 0
unfolding be
open_rest sb j = refl

-- what a slot's block begins with is read back
pub slot_read : (sb : Super) (tail : List ℕ) → IsLawful sb → slot_of (spelled (open_fields sb) ++ tail) ≡ Some sb
unfolding slot_of
slot_read sb tail lawful =
    let all : List ℕ = spelled (open_fields sb) ++ tail in
    let gate : get_or all 0 0 ≡ 0xa7 = ap (λ (l : List ℕ). get_or l 0 0) (append_assoc (be 1 0xa7) (spelled (fields sb)) tail) ∙ gate_first (spelled (fields sb) ++ tail) in
    let word : number 8 (drop 1 all) ≡ magic = field_read ((1, 0xa7) ∷ []) (drop 1 (fields sb)) 8 magic tail (lit< tt) in
    let format : number 2 (drop 9 all) ≡ sb.format = field_read ((1, 0xa7) ∷ take 1 (fields sb)) (drop 2 (fields sb)) 2 sb.format tail (omega (arith, lawful.format_most)) in
    let generation : number 8 (drop 11 all) ≡ sb.generation = field_read ((1, 0xa7) ∷ take 2 (fields sb)) (drop 3 (fields sb)) 8 sb.generation tail lawful.generation_fits in
    let manifest : number 4 (drop 19 all) ≡ sb.manifest = field_read ((1, 0xa7) ∷ take 3 (fields sb)) (drop 4 (fields sb)) 4 sb.manifest tail (omega (arith, lawful.manifest_most)) in
    let length : number 4 (drop 23 all) ≡ sb.length = field_read ((1, 0xa7) ∷ take 4 (fields sb)) (drop 5 (fields sb)) 4 sb.length tail lawful.length_fits in
    let region : number 1 (drop 27 all) ≡ sb.region = field_read ((1, 0xa7) ∷ take 5 (fields sb)) (drop 6 (fields sb)) 1 sb.region tail (omega (arith, lawful.region_most)) in
    let mem : number 4 (drop 28 all) ≡ sb.mem = field_read ((1, 0xa7) ∷ take 6 (fields sb)) (drop 7 (fields sb)) 4 sb.mem tail (omega (arith, lawful.mem_most)) in
    let changes : number 4 (drop 32 all) ≡ sb.changes_max = field_read ((1, 0xa7) ∷ take 7 (fields sb)) (drop 8 (fields sb)) 4 sb.changes_max tail (omega (arith, lawful.changes_most)) in
    let versions : number 4 (drop 36 all) ≡ sb.versions_max = field_read ((1, 0xa7) ∷ take 8 (fields sb)) [] 4 sb.versions_max tail (omega (arith, lawful.versions_most)) in
    cond-true {A = Option Super} _ _ None (and_from _ _ (eq-eqb _ 0xa7 gate) (eq-eqb _ magic word))
    ∙ (λ j. Some (record {
      format = format j;
      generation = generation j;
      manifest = manifest j;
      length = length j;
      region = region j;
      mem = mem j;
      changes_max = changes j;
      versions_max = versions j;
    }))

pub length-body : (sb : Super) → length (body sb) ≡ 4095
length-body sb = omega (arith, length-append (spelled (fields sb)) (zeros 4056), length-spelled (fields sb), length-zeros 4056)

pub lawful_in_range : (sb : Super) → IsLawful sb → in_range sb ≡ true
lawful_in_range sb lawful =
    and_from _ _ (and_from _ _ (and_from _ _ (and_from _ _ (and_from _ _ (and_from _ _ (and_from _ _ (and_from _ _ (and_from _ _ (and_from _ _ (and_from _ _ (and_from _ _ (le-leb 1 sb.format lawful.format_least) (le-leb sb.format newest_format lawful.format_most))
    (le-leb 1 sb.generation lawful.generation_least))
    (le-leb 4 sb.mem lawful.mem_least)) (le-leb sb.mem 4096 lawful.mem_most))
    (le-leb (first_free sb.mem) sb.manifest lawful.manifest_least)) (lt-ltb sb.manifest 4294967295 lawful.manifest_most))
    (le-leb (shortest_manifest sb.format) sb.length lawful.length_least))
    (le-leb sb.region 1 lawful.region_most))
    (le-leb 1 sb.changes_max lawful.changes_least)) (le-leb sb.changes_max 16777216 lawful.changes_most))
    (le-leb 1 sb.versions_max lawful.versions_least)) (le-leb sb.versions_max 16384 lawful.versions_most)

-- a slot whose gate is not open holds nothing
pub slot_closed : (c : Image) (at : ℕ) → c at ≢ 0xa7 → slot_in c at ≡ None
unfolding slot_in slot_of
slot_closed c at shut =
    let e : at + 0 ≡ at = omega arith in
    let byte : get_or (window c at 40) 0 0 ≡ c at = window_at c at 40 0 (omega arith) ∙ ap c e in
    cond-false {A = Option Super} _ _ None (and_left _ _ (ne_eqb _ 0xa7 (λ is. shut (sym byte ∙ is))))

-- the same bytes hold the same
pub slot_same : (c d : Image) (at : ℕ) → SameIn at 40 c d → slot_in d at ≡ slot_in c at
unfolding slot_in
slot_same c d at same = ap slot_of (window_same c d at 40 same)

-- an open slot with a superblock's bytes holds that superblock
pub slot_laid : (c : Image) (at : ℕ) (sb : Super) → IsLawful sb → window c at 40 ≡ spelled (open_fields sb) → slot_in c at ≡ Some sb
unfolding slot_in
slot_laid c at sb lawful is = ap slot_of (is ∙ sym (append-nil (spelled (open_fields sb)))) ∙ slot_read sb [] lawful

-- what the other slot holds counts where this one's does not
pub newer_first_gone : (s x : Option Super) (P : ℕ × Super → Type 0) → IfSome (newer s x) (λ p. (p.0 ≢ 0) × P p) → newer None x ≡ newer s x
newer_first_gone None x P other = refl
newer_first_gone (Some s) None P other = absurd (other.0 refl)
newer_first_gone (Some s) (Some t) P other = elim (cases_lt s.generation t.generation) [
  | inl less ↦ sym (cond-true _ (Some (1, t)) (Some (0, s)) (lt-ltb s.generation t.generation less))
  | inr most ↦
      let e : newer (Some s) (Some t) ≡ Some (0, s) = cond-false _ (Some (1, t)) (Some (0, s)) (le-ltb s.generation t.generation most) in
      absurd ((subst (λ (o : Option (ℕ × Super)). IfSome o (λ p. (p.0 ≢ 0) × P p)) e other).0 refl)
]

pub newer_second_gone : (x s : Option Super) (P : ℕ × Super → Type 0) → IfSome (newer x s) (λ p. (p.0 ≢ 1) × P p) → newer x None ≡ newer x s
newer_second_gone x None P other = refl
newer_second_gone None (Some s) P other = absurd (other.0 refl)
newer_second_gone (Some t) (Some s) P other = elim (cases_lt t.generation s.generation) [
  | inl less ↦
      let e : newer (Some t) (Some s) ≡ Some (1, s) = cond-true _ (Some (1, s)) (Some (0, t)) (lt-ltb t.generation s.generation less) in
      absurd ((subst (λ (o : Option (ℕ × Super)). IfSome o (λ p. (p.0 ≢ 1) × P p)) e other).0 refl)
  | inr most ↦ sym (cond-false _ (Some (1, s)) (Some (0, t)) (le-ltb t.generation s.generation most))
]

-- the greatest generation counts
pub newer_first : (new : Super) (s x : Option Super) → IfSome (newer s x) (λ p. (p.0 ≢ 0) × (p.1.generation < new.generation)) → newer (Some new) x ≡ Some (0, new)
newer_first new s None other = refl
newer_first new None (Some t) other = cond-false _ (Some (1, t)) (Some (0, new)) (le-ltb new.generation t.generation (omega (arith, other.1)))
newer_first new (Some s) (Some t) other =
    let e : newer None (Some t) ≡ newer (Some s) (Some t) = newer_first_gone (Some s) (Some t) (λ p. p.1.generation < new.generation) other in
    let mine = subst (λ (o : Option (ℕ × Super)). IfSome o (λ p. (p.0 ≢ 0) × (p.1.generation < new.generation))) (sym e) other in
    cond-false _ (Some (1, t)) (Some (0, new)) (le-ltb new.generation t.generation (omega (arith, mine.1)))

pub newer_second : (new : Super) (x s : Option Super) → IfSome (newer x s) (λ p. (p.0 ≢ 1) × (p.1.generation < new.generation)) → newer x (Some new) ≡ Some (1, new)
newer_second new None s other = refl
newer_second new (Some t) None other = cond-true _ (Some (1, new)) (Some (0, t)) (lt-ltb t.generation new.generation other.1)
newer_second new (Some t) (Some s) other =
    let e : newer (Some t) None ≡ newer (Some t) (Some s) = newer_second_gone (Some t) (Some s) (λ p. p.1.generation < new.generation) other in
    let mine = subst (λ (o : Option (ℕ × Super)). IfSome o (λ p. (p.0 ≢ 1) × (p.1.generation < new.generation))) (sym e) other in
    cond-true _ (Some (1, new)) (Some (0, t)) (lt-ltb t.generation new.generation mine.1)
