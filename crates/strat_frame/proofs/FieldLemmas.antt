-- Fields that are read are those that were spelled, and what was spelled is read again.
use Rattle.std.proofs.Common.{◌≡◌, ℕ, ◌^◌, ◌<◌, ◌≤◌, Bool, true, false, cond, leb, eqb, List, [], ◌∷◌, ◌++◌, length, take, drop, Option, Some, None, refl, sym, ap, subst, ◌∙◌, append_assoc, length-append, length-take, arith, ◌%◌}
use Rattle.std.proofs.lemmas.Bool.{leb-true, le-leb, eqb-true}
use Rattle.std.proofs.lemmas.List.{take_at, drop_at, take-append-drop, append-nil, nil_from_length}
use Rattle.std.proofs.lemmas.Option.{cond_some, same_Some}
use Rattle.std.specs.Option.{option_and_then, option_map}
use Rattle.strat_base.specs.Numbers.{be, number, AreBytes}
use Rattle.strat_base.proofs.NumberLemmas.{length-be, number-be, number-lt, AreBytes-drop, be-number_2, be-number_4, be-number_8}
use Rattle.strat_model.specs.Spelling.{counted, FitsCount}
use Rattle.strat_frame.specs.Fields.{Reader, number_then, counted_then, both, all_of, sole_number, sole_long, cursor_limit_in, version_key_in, version_pair_in, version_range_in}

-- the value of a step that found one
pub bind_some : {A B : Type 0} (f : A → Option B) (o : Option A) (y : B) → option_and_then f o ≡ Some y → (x : A) × (o ≡ Some x) × (f x ≡ Some y)
bind_some f None y e = absurd cc
bind_some f (Some x) y e = (x, refl, e)

-- the value of which one was made
pub map_some : {A B : Type 0} (f : A → B) (o : Option A) (y : B) → option_map f o ≡ Some y → (x : A) × (o ≡ Some x) × (f x ≡ y)
map_some f None y e = absurd cc
map_some f (Some x) y e = (x, refl, cc)

-- a choice that found a value found it in one of its arms
pub either_arm : {A : Type 0} (P : A → Type 0) (b : Bool) (o p : Option A) → (b ≡ true → (y : A) → o ≡ Some y → P y) → ((y : A) → p ≡ Some y → P y)
    → (y : A) → cond b o p ≡ Some y → P y
either_arm P true o p f g y e = f refl y e
either_arm P false o p f g y e = g y e

-- no value was found
pub no_arm : {A : Type 0} (P : A → Type 0) (y : A) → ◌≡◌ {A = Option A} None (Some y) → P y
no_arm P y e = absurd cc

-- two texts one after the other
pub two_parts : (bytes first after second rest : List ℕ) → bytes ≡ first ++ after → after ≡ second ++ rest → bytes ≡ (first ++ second) ++ rest
two_parts bytes first after second rest e f = e ∙ ap (λ (x : List ℕ). first ++ x) f ∙ sym (append_assoc first second rest)

-- a text behind which nothing stands
all_parts : (bytes text rest : List ℕ) → bytes ≡ text ++ rest → rest ≡ [] → bytes ≡ text
all_parts bytes text rest e nothing = e ∙ ap (λ (x : List ℕ). text ++ x) nothing ∙ append-nil text

-- a length and so many bytes behind it
counted_front : (bytes after : List ℕ) (n : ℕ) → bytes ≡ be 2 n ++ after → n ≤ length after → bytes ≡ counted (take n after) ++ drop n after
counted_front bytes after n e fits =
    let len : n ≡ length (take n after) = omega (arith, length-take n after, fits) in
    let front : bytes ≡ be 2 (length (take n after)) ++ after = e ∙ ap (λ (k : ℕ). be 2 k ++ after) len in
    two_parts bytes (be 2 (length (take n after))) after (take n after) (drop n after) front (sym (take-append-drop n after))

-- a tag and a byte in front of fields
pub front_parts : (bytes after fields text : List ℕ) (tag byte : ℕ) → bytes ≡ be 4 tag ++ after → after ≡ be 1 byte ++ fields → byte < 256 → byte ∷ fields ≡ text → bytes ≡ be 4 tag ++ text
unfolding be
front_parts bytes after fields text tag byte e f fits g =
    let same : byte % 256 ≡ byte = omega (arith, fits) in
    let behind : after ≡ text = f ∙ ap (λ (n : ℕ). n ∷ fields) same ∙ g in
    e ∙ ap (λ (x : List ℕ). be 4 tag ++ x) behind

-- what a reader takes from the front of bytes is the text of a value that fits, and such a text is read
-- again, whatever follows it
pub record Reads (A : Type 0) (read : Reader A) (text : A → List ℕ) (Fits : A → Type 0) : Type 0 where
  pub takes : (bytes : List ℕ) (x : A) (rest : List ℕ) → AreBytes bytes → read bytes ≡ Some (x, rest) → (bytes ≡ text x ++ rest) × AreBytes rest × Fits x
  pub again : (x : A) (rest : List ℕ) → Fits x → read (text x ++ rest) ≡ Some (x, rest)

-- the same of a reader that takes all of the bytes
pub record ReadsAll (A : Type 0) (read : List ℕ → Option A) (text : A → List ℕ) (Fits : A → Type 0) : Type 0 where
  pub takes : (bytes : List ℕ) (x : A) → AreBytes bytes → read bytes ≡ Some x → (bytes ≡ text x) × Fits x
  pub again : (x : A) → Fits x → read (text x) ≡ Some x

-- a field of k bytes is that of the number in it
abbrev pub IsWide : ℕ → Type 0
IsWide k = (bytes : List ℕ) → k ≤ length bytes → AreBytes bytes → be k (number k bytes) ≡ take k bytes

-- a number of k bytes
pub number_reads : (k : ℕ) → IsWide k → Reads ℕ (number_then k) (be k) (λ n. n < 256 ^ k)
number_reads k wide = record {
  takes = λ bytes n rest fits e.
      let g = cond_some (leb k (length bytes)) (number k bytes, drop k bytes) (n, rest) e in
      let long : k ≤ length bytes = leb-true k (length bytes) g.0 in
      let parts : bytes ≡ be k (number k bytes) ++ drop k bytes = sym (take-append-drop k bytes) ∙ ap (λ (x : List ℕ). x ++ drop k bytes) (sym (wide bytes long fits)) in
      subst (λ (x : ℕ × List ℕ). (bytes ≡ be k x.0 ++ x.1) × AreBytes x.1 × (x.0 < 256 ^ k)) g.1 (parts, AreBytes-drop k bytes fits, number-lt k bytes fits);
  again = λ n rest fits.
      let long : leb k (length (be k n ++ rest)) ≡ true = le-leb k (length (be k n ++ rest)) (omega (arith, length-append (be k n) rest, length-be k n)) in
      rw (long, number-be k n rest fits, drop_at (be k n) rest k (length-be k n)) refl;
}

pub word_reads : Reads ℕ (number_then 4) (be 4) (λ n. n < 2 ^ 32)
word_reads = number_reads 4 be-number_4

-- a length and so many bytes
pub counted_reads : Reads (List ℕ) counted_then counted FitsCount
unfolding counted_then
counted_reads = record {
  takes = λ bytes text rest fits e.
      let b = bind_some (λ (n : ℕ × List ℕ). cond (leb n.0 (length n.1)) (Some (take n.0 n.1, drop n.0 n.1)) None) (number_then 2 bytes) (text, rest) e in
      let n = b.0 in
      let t = (number_reads 2 be-number_2).takes bytes n.0 n.1 fits b.1 in
      let g = cond_some (leb n.0 (length n.1)) (take n.0 n.1, drop n.0 n.1) (text, rest) b.2 in
      let there : n.0 ≤ length n.1 = leb-true n.0 (length n.1) g.0 in
      let short : FitsCount (take n.0 n.1) = omega (arith, length-take n.0 n.1, t.2) in
      subst (λ (x : List ℕ × List ℕ). (bytes ≡ counted x.0 ++ x.1) × AreBytes x.1 × FitsCount x.0) g.1
      (counted_front bytes n.1 n.0 t.0 there, AreBytes-drop n.0 n.1 t.1, short);
  again = λ text rest short.
      let regrouped : counted text ++ rest ≡ be 2 (length text) ++ (text ++ rest) = append_assoc (be 2 (length text)) text rest in
      let long : leb (length text) (length (text ++ rest)) ≡ true = le-leb (length text) (length (text ++ rest)) (omega (arith, length-append text rest)) in
      rw (regrouped, (number_reads 2 be-number_2).again (length text) (text ++ rest) short, long, take_at text rest (length text) refl, drop_at text rest (length text) refl) refl;
}

-- two fields, one after the other
pub both_read : {A B : Type 0} (first : Reader A) (second : Reader B) (s : A → List ℕ) (t : B → List ℕ) (F : A → Type 0) (G : B → Type 0) → Reads A first s F → Reads B second t G
    → Reads (A × B) (both first second) (λ x. s x.0 ++ t x.1) (λ x. F x.0 × G x.1)
unfolding both
both_read {A} {B} first second s t F G is next = record {
  takes = λ bytes x rest fits e.
      let a = bind_some (λ (a : A × List ℕ). option_and_then (λ (b : B × List ℕ). Some ((a.0, b.0), b.1)) (second a.1)) (first bytes) (x, rest) e in
      let b = bind_some (λ (b : B × List ℕ). Some ((a.0.0, b.0), b.1)) (second a.0.1) (x, rest) a.2 in
      let p = is.takes bytes a.0.0 a.0.1 fits a.1 in
      let q = next.takes a.0.1 b.0.0 b.0.1 p.1 b.1 in
      let same : ((a.0.0, b.0.0), b.0.1) ≡ (x, rest) = same_Some ((a.0.0, b.0.0), b.0.1) (x, rest) b.2 in
      subst (λ (y : (A × B) × List ℕ). (bytes ≡ (s y.0.0 ++ t y.0.1) ++ y.1) × AreBytes y.1 × (F y.0.0 × G y.0.1)) same
      (two_parts bytes (s a.0.0) a.0.1 (t b.0.0) b.0.1 p.0 q.0, q.1, (p.2, q.2));
  again = λ x rest fits.
      rw (append_assoc (s x.0) (t x.1) rest, is.again x.0 (t x.1 ++ rest) fits.0, next.again x.1 rest fits.1) refl;
}

-- fields behind which nothing follows
pub all_read : {A : Type 0} (read : Reader A) (text : A → List ℕ) (Fits : A → Type 0) → Reads A read text Fits → ReadsAll A (all_of read) text Fits
unfolding all_of
all_read {A} read text Fits is = record {
  takes = λ bytes x fits e.
      let a = bind_some (λ (y : A × List ℕ). cond (eqb (length y.1) 0) (Some y.0) None) (read bytes) x e in
      let g = cond_some (eqb (length a.0.1) 0) a.0.0 x a.2 in
      let p = is.takes bytes a.0.0 a.0.1 fits a.1 in
      let nothing : a.0.1 ≡ [] = nil_from_length a.0.1 (eqb-true (length a.0.1) 0 g.0) in
      subst (λ (y : A). (bytes ≡ text y) × Fits y) g.1 (all_parts bytes (text a.0.0) a.0.1 p.0 nothing, p.2);
  again = λ x fits. ap (all_of read) (sym (append-nil (text x))) ∙ rw (is.again x [] fits) refl;
}

-- a number in four bytes and no others
pub sole_reads : ReadsAll ℕ sole_number (be 4) (λ n. n < 2 ^ 32)
unfolding sole_number
sole_reads = all_read (number_then 4) (be 4) (λ n. n < 2 ^ 32) word_reads

-- a number in eight bytes
long_reads : Reads ℕ (number_then 8) (be 8) (λ n. n < 2 ^ 64)
long_reads = number_reads 8 be-number_8

-- a number in eight bytes and no others
pub sole_long_reads : ReadsAll ℕ sole_long (be 8) (λ n. n < 2 ^ 64)
unfolding sole_long
sole_long_reads = all_read (number_then 8) (be 8) (λ n. n < 2 ^ 64) long_reads

-- a cursor and a limit
pub cursor_limit_reads : ReadsAll (ℕ × ℕ) cursor_limit_in (λ x. be 8 x.0 ++ be 2 x.1) (λ x. (x.0 < 2 ^ 64) × (x.1 < 2 ^ 16))
unfolding cursor_limit_in
cursor_limit_reads =
    all_read (both (number_then 8) (number_then 2)) _ _
    (both_read (number_then 8) (number_then 2) (be 8) (be 2) (λ n. n < 2 ^ 64) (λ n. n < 2 ^ 16) long_reads (number_reads 2 be-number_2))

-- a version and a key
version_key : Reads (ℕ × List ℕ) (both (number_then 4) counted_then) (λ x. be 4 x.0 ++ counted x.1) (λ x. (x.0 < 2 ^ 32) × FitsCount x.1)
version_key = both_read (number_then 4) counted_then (be 4) counted (λ n. n < 2 ^ 32) FitsCount word_reads counted_reads

pub version_key_reads : ReadsAll (ℕ × List ℕ) version_key_in (λ x. be 4 x.0 ++ counted x.1) (λ x. (x.0 < 2 ^ 32) × FitsCount x.1)
unfolding version_key_in
version_key_reads = all_read (both (number_then 4) counted_then) _ _ version_key

-- a version and two fields of bytes
pub version_pair_reads : ReadsAll ((ℕ × List ℕ) × List ℕ) version_pair_in (λ x. (be 4 x.0.0 ++ counted x.0.1) ++ counted x.1)
    (λ x. ((x.0.0 < 2 ^ 32) × FitsCount x.0.1) × FitsCount x.1)
unfolding version_pair_in
version_pair_reads =
    all_read (both (both (number_then 4) counted_then) counted_then) _ _
    (both_read (both (number_then 4) counted_then) counted_then _ counted _ FitsCount version_key counted_reads)

-- a version, two bounds and a limit
pub version_range_reads : ReadsAll (((ℕ × List ℕ) × List ℕ) × ℕ) version_range_in (λ x. ((be 4 x.0.0.0 ++ counted x.0.0.1) ++ counted x.0.1) ++ be 2 x.1)
    (λ x. (((x.0.0.0 < 2 ^ 32) × FitsCount x.0.0.1) × FitsCount x.0.1) × (x.1 < 2 ^ 16))
unfolding version_range_in
version_range_reads =
    all_read (both (both (both (number_then 4) counted_then) counted_then) (number_then 2)) _ _
    (both_read (both (both (number_then 4) counted_then) counted_then) (number_then 2) _ (be 2) _ (λ n. n < 2 ^ 16)
    (both_read (both (number_then 4) counted_then) counted_then _ counted _ FitsCount version_key counted_reads) (number_reads 2 be-number_2))
