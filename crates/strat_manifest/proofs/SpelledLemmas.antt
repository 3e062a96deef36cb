-- What is read from bytes is spelled by them.
use Rattle.std.proofs.Common.{◌≡◌, ◌≤◌, ◌<◌, inl, inr, ℕ, zero, suc, Bool, cond, eqb, ltb, replicate, List, [], ◌∷◌, ◌++◌, length, drop, Some, None, refl, sym, ap, ◌∙◌, subst, append_assoc, take-append-drop, take, leb, true, false}
use Rattle.std.specs.List.{flat_map, list_all}
use Rattle.std.proofs.lemmas.Bool.{cases_lt, lt-leb, le-leb, lt-ltb, and_from}
use Rattle.std.proofs.lemmas.List.{drop_at}
use Rattle.strat_base.specs.Numbers.{be, number, AreBytes}
use Rattle.strat_base.specs.declared.descriptors.Extent.{Extent}
use Rattle.strat_base.specs.declared.descriptors.ArrayDesc.{ArrayDesc}
use Rattle.strat_base.specs.declared.descriptors.LevelDesc.{LevelDesc}
use Rattle.strat_base.proofs.NumberLemmas.{AreBytes-drop, number-lt, be-number_1, be-number_4, be-number_8}
use Rattle.def_bytes.specs.Manifest.{Parsed, next, read_number, read_items, read_list, read_only, read_extent, read_array, read_level, only, list_bytes, extent_bytes, array_bytes, level_bytes}
use Rattle.strat_manifest.specs.ManifestView.{are_marks}
use Rattle.strat_manifest.specs.Reading.{read_head, read_marks, read_levels}
use Rattle.strat_manifest.specs.declared.parser.Head.{Head}
use Rattle.strat_manifest.proofs.MarkLemmas.{zeros_are_marks}

-- what is read stands in front of what is left
abbrev pub IsSpelled : {A : Type 0} → (List ℕ → Parsed A) → (A → List ℕ) → Type 0
IsSpelled {A} read item_bytes = (bytes : List ℕ) (x : A) (rest : List ℕ) → AreBytes bytes → read bytes ≡ Some (x, rest) → bytes ≡ item_bytes x ++ rest

-- what is left is bytes too
pub bytes_behind : (front rest bytes : List ℕ) → bytes ≡ front ++ rest → AreBytes bytes → AreBytes rest
bytes_behind front rest bytes is fits =
    let left : drop (length front) bytes ≡ rest = ap (drop (length front)) is ∙ drop_at front rest (length front) refl in
    subst AreBytes left (AreBytes-drop (length front) bytes fits)

pub some_same : {X : Type 0} (x y : X) → Some x ≡ Some y → x ≡ y
some_same x y e = cc

-- what was read behind a value
pub next_some : {A B : Type 0} (r : Parsed A) (behind : A → List ℕ → Parsed B) (y : B × List ℕ) → next r behind ≡ Some y
    → (p : A × List ℕ) × (r ≡ Some p) × (behind p.0 p.1 ≡ Some y)
next_some None behind y e = absurd (cc)
next_some (Some p) behind y e = (p, refl, e)

-- a value was read, and behind it another
pub record Step {A B : Type 0} (item_bytes : A → List ℕ) (bytes : List ℕ) (behind : A → List ℕ → Parsed B) (y : B × List ℕ) : Type 0 where
  pub value : A
  pub rest : List ℕ
  pub text : bytes ≡ item_bytes value ++ rest
  pub fits : AreBytes rest
  pub more : behind value rest ≡ Some y

module _ {A B : Type 0} (read : List ℕ → Parsed A) (item_bytes : A → List ℕ) (spelled : IsSpelled read item_bytes) (behind : A → List ℕ → Parsed B) (y : B × List ℕ) where
  step_from : (bytes : List ℕ) → AreBytes bytes → (r : Parsed A) → read bytes ≡ r → next r behind ≡ Some y → Step item_bytes bytes behind y
  step_from bytes fits None is e = absurd (cc)
  step_from bytes fits (Some p) is e =
      let text : bytes ≡ item_bytes p.0 ++ p.1 = spelled bytes p.0 p.1 fits is in
      record { value = p.0; rest = p.1; text = text; fits = bytes_behind (item_bytes p.0) p.1 bytes text fits; more = e }

  pub step : (bytes : List ℕ) → AreBytes bytes → next (read bytes) behind ≡ Some y → Step item_bytes bytes behind y
  step bytes fits e = step_from bytes fits (read bytes) refl e

number_spelled : (k : ℕ) → ((bytes : List ℕ) → k ≤ length bytes → AreBytes bytes → be k (number k bytes) ≡ take k bytes) → IsSpelled (read_number k) (be k)
unfolding read_number
number_spelled k same bytes x rest fits is =
    elim (cases_lt (length bytes) k) [
      | inl short ↦ let no' : leb k (length bytes) ≡ false = lt-leb k (length bytes) short in absurd (let f : None ≡ Some (x, rest) = rw no' at is in cc)
      | inr long ↦
          let yes' : leb k (length bytes) ≡ true = le-leb k (length bytes) long in
          let f : Some (number k bytes, drop k bytes) ≡ Some (x, rest) = rw yes' at is in
          let pair : (number k bytes, drop k bytes) ≡ (x, rest) = cc in
          let P : (ℕ × List ℕ) → Type 0 = λ p. bytes ≡ be k p.0 ++ p.1 in
          subst P pair (sym (ap (λ (front : List ℕ). front ++ drop k bytes) (same bytes long fits) ∙ take-append-drop k bytes))
    ]

pub number_spelled_1 : IsSpelled (read_number 1) (be 1)
number_spelled_1 = number_spelled 1 be-number_1

pub number_spelled_4 : IsSpelled (read_number 4) (be 4)
number_spelled_4 = number_spelled 4 be-number_4

pub number_spelled_8 : IsSpelled (read_number 8) (be 8)
number_spelled_8 = number_spelled 8 be-number_8

module _ {A : Type 0} (read : List ℕ → Parsed A) (item_bytes : A → List ℕ) (spelled : IsSpelled read item_bytes) where
  pub items_spelled : (n : ℕ) (bytes : List ℕ) (xs : List A) (rest : List ℕ) → AreBytes bytes → read_items read n bytes ≡ Some (xs, rest)
      → (bytes ≡ flat_map item_bytes xs ++ rest) × (length xs ≡ n)
  unfolding read_items
  items_spelled zero bytes xs rest fits is =
      let P : (List A × List ℕ) → Type 0 = λ p. (bytes ≡ flat_map item_bytes p.0 ++ p.1) × (length p.0 ≡ 0) in
      subst P (some_same ([], bytes) (xs, rest) is) (refl, refl)
  items_spelled (suc n) bytes xs rest fits is =
      let one = step {B = List A} read item_bytes spelled (λ x b. next (read_items read n b) (λ ys end. Some (x ∷ ys, end))) (xs, rest) bytes fits is in
      let others = next_some {B = List A} (read_items read n one.rest) (λ ys end. Some (one.value ∷ ys, end)) (xs, rest) one.more in
      let behind = items_spelled n one.rest others.0.0 others.0.1 one.fits others.1 in
      let P : (List A × List ℕ) → Type 0 = λ q. (bytes ≡ flat_map item_bytes q.0 ++ q.1) × (length q.0 ≡ suc n) in
      subst P (some_same _ _ others.2) (
        one.text ∙ ap (λ (x : List ℕ). item_bytes one.value ++ x) behind.0 ∙ sym (append_assoc (item_bytes one.value) (flat_map item_bytes others.0.0) others.0.1),
        ap suc behind.1,
      )

  pub list_spelled : IsSpelled (read_list read) (list_bytes item_bytes)
  list_spelled bytes xs rest fits is =
      let count = step (read_number 4) (be 4) number_spelled_4 (λ n b. read_items read n b) (xs, rest) bytes fits is in
      let items = items_spelled count.value count.rest xs rest count.fits count.more in
      count.text
      ∙ ap (λ (x : List ℕ). be 4 count.value ++ x) items.0
      ∙ ap (λ (n : ℕ). be 4 n ++ (flat_map item_bytes xs ++ rest)) (sym items.1)
      ∙ sym (append_assoc (be 4 (length xs)) (flat_map item_bytes xs) rest)

pub extent_spelled : IsSpelled read_extent extent_bytes
unfolding read_extent
extent_spelled bytes x rest fits is =
    let start = step {B = Extent} (read_number 4) (be 4) number_spelled_4 (λ start b. next (read_number 4 b) (λ len c. Some (record { start = start; len = len }, c))) (x, rest) bytes fits is in
    let len = step {B = Extent} (read_number 4) (be 4) number_spelled_4 (λ len c. Some (record { start = start.value; len = len }, c)) (x, rest) start.rest start.fits start.more in
    let P : (Extent × List ℕ) → Type 0 = λ p. bytes ≡ extent_bytes p.0 ++ p.1 in
    subst P (some_same _ _ len.more) (start.text ∙ ap (λ (x : List ℕ). be 4 start.value ++ x) len.text ∙ sym (append_assoc (be 4 start.value) (be 4 len.value) len.rest))

array_joined : {bytes : List ℕ} (id entries leads least : ℕ) (extents : List Extent) (versions rest : List ℕ)
    → bytes ≡ be 8 id ++ (be 4 entries ++ (be 4 leads ++ (be 4 least ++ (list_bytes extent_bytes extents ++ (list_bytes (be 4) versions ++ rest)))))
    → bytes ≡ array_bytes (record { id = id; entries = entries; leads = leads; least = least; extents = extents; versions = versions }) ++ rest
array_joined id entries leads least extents versions rest is = is ∙ sym (simp append_assoc)

pub array_spelled : IsSpelled read_array array_bytes
unfolding read_array
array_spelled bytes a rest fits is =
    let id = step {B = ArrayDesc} (read_number 8) (be 8) number_spelled_8 (λ id b. next (read_number 4 b) (λ entries c. next (read_number 4 c) (λ leads d. next (read_number 4 d) (λ least e.
    next (read_list read_extent e) (λ extents f. next (read_list (read_number 4) f) (λ versions g.
    Some (record { id = id; entries = entries; leads = leads; least = least; extents = extents; versions = versions }, g))))))) (a, rest) bytes fits is in
    let entries = step {B = ArrayDesc} (read_number 4) (be 4) number_spelled_4 (λ entries c. next (read_number 4 c) (λ leads d. next (read_number 4 d) (λ least e.
    next (read_list read_extent e) (λ extents f. next (read_list (read_number 4) f) (λ versions g.
    Some (record { id = id.value; entries = entries; leads = leads; least = least; extents = extents; versions = versions }, g)))))) (a, rest) id.rest id.fits id.more in
    let leads = step {B = ArrayDesc} (read_number 4) (be 4) number_spelled_4 (λ leads d. next (read_number 4 d) (λ least e.
    next (read_list read_extent e) (λ extents f. next (read_list (read_number 4) f) (λ versions g.
    Some (record { id = id.value; entries = entries.value; leads = leads; least = least; extents = extents; versions = versions }, g))))) (a, rest) entries.rest entries.fits entries.more in
    let least = step {B = ArrayDesc} (read_number 4) (be 4) number_spelled_4 (λ least e.
    next (read_list read_extent e) (λ extents f. next (read_list (read_number 4) f) (λ versions g.
    Some (record { id = id.value; entries = entries.value; leads = leads.value; least = least; extents = extents; versions = versions }, g)))) (a, rest) leads.rest leads.fits leads.more in
    let extents = step {B = ArrayDesc} (read_list read_extent) (list_bytes extent_bytes) (list_spelled read_extent extent_bytes extent_spelled) (λ extents f. next (read_list (read_number 4) f) (λ versions g.
    Some (record { id = id.value; entries = entries.value; leads = leads.value; least = least.value; extents = extents; versions = versions }, g))) (a, rest) least.rest least.fits least.more in
    let versions = step {B = ArrayDesc} (read_list (read_number 4)) (list_bytes (be 4)) (list_spelled (read_number 4) (be 4) number_spelled_4) (λ versions g.
    Some (record { id = id.value; entries = entries.value; leads = leads.value; least = least.value; extents = extents.value; versions = versions }, g)) (a, rest) extents.rest extents.fits extents.more in
    let P : (ArrayDesc × List ℕ) → Type 0 = λ p. bytes ≡ array_bytes p.0 ++ p.1 in
    subst P (some_same _ _ versions.more) (
    array_joined id.value entries.value leads.value least.value extents.value versions.value versions.rest
    (id.text ∙ ap (λ (x : List ℕ). be 8 id.value ++ x) (entries.text ∙ ap (λ (x : List ℕ). be 4 entries.value ++ x) (leads.text ∙ ap (λ (x : List ℕ). be 4 leads.value ++ x) (least.text
    ∙ ap (λ (x : List ℕ). be 4 least.value ++ x) (extents.text ∙ ap (λ (x : List ℕ). list_bytes extent_bytes extents.value ++ x) versions.text)))))
    )

pub level_spelled : IsSpelled read_level level_bytes
unfolding read_level
level_spelled bytes l rest fits is =
    let number = step {B = LevelDesc} (read_number 1) (be 1) number_spelled_1 (λ number b. next (read_number 4 b) (λ horizon c. next (read_list read_array c) (λ arrays d.
    Some (record { number = number; horizon = horizon; arrays = arrays }, d)))) (l, rest) bytes fits is in
    let horizon = step {B = LevelDesc} (read_number 4) (be 4) number_spelled_4 (λ horizon c. next (read_list read_array c) (λ arrays d.
    Some (record { number = number.value; horizon = horizon; arrays = arrays }, d))) (l, rest) number.rest number.fits number.more in
    let arrays = step {B = LevelDesc} (read_list read_array) (list_bytes array_bytes) (list_spelled read_array array_bytes array_spelled) (λ arrays d.
    Some (record { number = number.value; horizon = horizon.value; arrays = arrays }, d)) (l, rest) horizon.rest horizon.fits horizon.more in
    let P : (LevelDesc × List ℕ) → Type 0 = λ p. bytes ≡ level_bytes p.0 ++ p.1 in
    subst P (some_same _ _ arrays.more) (
    number.text ∙ ap (λ (x : List ℕ). be 1 number.value ++ x) (horizon.text ∙ ap (λ (x : List ℕ). be 4 horizon.value ++ x) arrays.text
    ∙ sym (append_assoc (be 4 horizon.value) (list_bytes array_bytes arrays.value) arrays.rest))
    ∙ sym (append_assoc (be 1 number.value) (be 4 horizon.value ++ list_bytes array_bytes arrays.value) arrays.rest)
    )

-- what format 2 has alone
only_spelled : {A : Type 0} (format : ℕ) (read : List ℕ → Parsed A) (item_bytes : A → List ℕ) (none : A) → IsSpelled read item_bytes → IsSpelled (read_only format read none) (λ x. only format (item_bytes x))
unfolding read_only
only_spelled {A = A} format read item_bytes none spelled bytes x rest fits is = by_format (eqb format 2) is
  where
    by_format : (two : Bool) → cond two (read bytes) (Some (none, bytes)) ≡ Some (x, rest) → bytes ≡ cond two (item_bytes x) [] ++ rest
    by_format true read_is = spelled bytes x rest fits read_is
    by_format false read_is = let P : (A × List ℕ) → Type 0 = λ p. bytes ≡ p.1 in subst P (some_same (none, bytes) (x, rest) read_is) refl

pub head_spelled : (format : ℕ) (bytes : List ℕ) (h : Head) (rest : List ℕ) → AreBytes bytes → read_head format bytes ≡ Some (h, rest)
    → (bytes ≡ be 4 h.changes ++ (be 4 h.updates ++ (be 8 h.written ++ (only format (be 8 h.compacted) ++ (be 8 h.next_array ++ (be 4 h.versions ++ rest)))))) × AreBytes rest
unfolding read_head
head_spelled format bytes h rest fits is =
    let changes = step {B = Head} (read_number 4) (be 4) number_spelled_4 (λ changes b. next (read_number 4 b) (λ updates c. next (read_number 8 c) (λ written k. next (read_only format (read_number 8) 0 k) (λ compacted d.
    next (read_number 8 d) (λ next_array e. next (read_number 4 e) (λ versions f.
    Some (record { changes = changes; updates = updates; written = written; compacted = compacted; next_array = next_array; versions = versions }, f))))))) (h, rest) bytes fits is in
    let updates = step {B = Head} (read_number 4) (be 4) number_spelled_4 (λ updates c. next (read_number 8 c) (λ written k. next (read_only format (read_number 8) 0 k) (λ compacted d.
    next (read_number 8 d) (λ next_array e. next (read_number 4 e) (λ versions f.
    Some (record { changes = changes.value; updates = updates; written = written; compacted = compacted; next_array = next_array; versions = versions }, f)))))) (h, rest) changes.rest changes.fits changes.more in
    let written = step {B = Head} (read_number 8) (be 8) number_spelled_8 (λ written k. next (read_only format (read_number 8) 0 k) (λ compacted d.
    next (read_number 8 d) (λ next_array e. next (read_number 4 e) (λ versions f.
    Some (record { changes = changes.value; updates = updates.value; written = written; compacted = compacted; next_array = next_array; versions = versions }, f))))) (h, rest) updates.rest updates.fits updates.more in
    let compacted = step {B = Head} (read_only format (read_number 8) 0) (λ x. only format (be 8 x)) (only_spelled format (read_number 8) (be 8) 0 number_spelled_8) (λ compacted d.
    next (read_number 8 d) (λ next_array e. next (read_number 4 e) (λ versions f.
    Some (record { changes = changes.value; updates = updates.value; written = written.value; compacted = compacted; next_array = next_array; versions = versions }, f)))) (h, rest) written.rest written.fits written.more in
    let next_array = step {B = Head} (read_number 8) (be 8) number_spelled_8 (λ next_array e. next (read_number 4 e) (λ versions f.
    Some (record { changes = changes.value; updates = updates.value; written = written.value; compacted = compacted.value; next_array = next_array; versions = versions }, f))) (h, rest) compacted.rest compacted.fits compacted.more in
    let versions = step {B = Head} (read_number 4) (be 4) number_spelled_4 (λ versions f.
    Some (record { changes = changes.value; updates = updates.value; written = written.value; compacted = compacted.value; next_array = next_array.value; versions = versions }, f)) (h, rest) next_array.rest next_array.fits next_array.more in
    let P : (Head × List ℕ) → Type 0 = λ p.
    (bytes ≡ be 4 p.0.changes ++ (be 4 p.0.updates ++ (be 8 p.0.written ++ (only format (be 8 p.0.compacted) ++ (be 8 p.0.next_array ++ (be 4 p.0.versions ++ p.1)))))) × AreBytes p.1
    in
    subst P (some_same _ _ versions.more) (
      changes.text ∙ ap (λ (x : List ℕ). be 4 changes.value ++ x) (updates.text ∙ ap (λ (x : List ℕ). be 4 updates.value ++ x) (written.text ∙ ap (λ (x : List ℕ). be 8 written.value ++ x) (compacted.text
          ∙ ap (λ (x : List ℕ). only format (be 8 compacted.value) ++ x) (next_array.text ∙ ap (λ (x : List ℕ). be 8 next_array.value ++ x) versions.text)))),
      versions.fits,
    )

-- a number of one byte
number_low : (bytes : List ℕ) (x : ℕ) (rest : List ℕ) → AreBytes bytes → read_number 1 bytes ≡ Some (x, rest) → (x < 256) × AreBytes rest
unfolding read_number
number_low bytes x rest fits is = by_length (leb 1 (length bytes)) is
  where
    by_length : (some : Bool) → cond {A = Parsed ℕ} some (Some (number 1 bytes, drop 1 bytes)) None ≡ Some (x, rest) → (x < 256) × AreBytes rest
    by_length true read_is =
        let P : (ℕ × List ℕ) → Type 0 = λ p. (p.0 < 256) × AreBytes p.1 in
        subst P (some_same _ _ read_is) (number-lt 1 bytes fits, AreBytes-drop 1 bytes fits)
    by_length false read_is = absurd (cc)

numbers_low : (n : ℕ) (bytes : List ℕ) (xs : List ℕ) (rest : List ℕ) → AreBytes bytes → read_items (read_number 1) n bytes ≡ Some (xs, rest) → list_all (λ x. ltb x 256) xs ≡ true
unfolding read_items
numbers_low zero bytes xs rest fits is =
    let P : (List ℕ × List ℕ) → Type 0 = λ p. list_all (λ x. ltb x 256) p.0 ≡ true in
    subst P (some_same ([], bytes) (xs, rest) is) refl
numbers_low (suc n) bytes xs rest fits is =
    let one = next_some {B = List ℕ} (read_number 1 bytes) (λ x b. next (read_items (read_number 1) n b) (λ ys end. Some (x ∷ ys, end))) (xs, rest) is in
    let others = next_some {B = List ℕ} (read_items (read_number 1) n one.0.1) (λ ys end. Some (one.0.0 ∷ ys, end)) (xs, rest) one.2 in
    let low = number_low bytes one.0.0 one.0.1 fits one.1 in
    let P : (List ℕ × List ℕ) → Type 0 = λ p. list_all (λ x. ltb x 256) p.0 ≡ true in
    subst P (some_same _ _ others.2)
    (and_from (ltb one.0.0 256) (list_all (λ x. ltb x 256) others.0.0) (lt-ltb one.0.0 256 low.0) (numbers_low n one.0.1 others.0.0 others.0.1 low.1 others.1))

-- what was read as the numbers of marks
module _ (format n : ℕ) (bytes xs rest : List ℕ) (is : read_marks format n bytes ≡ Some (xs, rest)) where
  pub marks_front : AreBytes bytes → bytes ≡ only format (flat_map (be 1) xs) ++ rest
  unfolding read_marks
  marks_front fits =
      only_spelled format (read_items (read_number 1) n) (flat_map (be 1)) (replicate n 0) (λ front ys end low read_is. (items_spelled (read_number 1) (be 1) number_spelled_1 n front ys end low read_is).0)
      bytes xs rest fits is

  pub marks_low : AreBytes bytes → list_all (λ x. ltb x 256) xs ≡ true
  unfolding read_marks read_only
  marks_low fits = by_format (eqb format 2) is
    where
      by_format : (two : Bool) → cond two (read_items (read_number 1) n bytes) (Some (replicate n 0, bytes)) ≡ Some (xs, rest) → list_all (λ x. ltb x 256) xs ≡ true
      by_format true read_is = numbers_low n bytes xs rest fits read_is
      by_format false read_is =
          let P : (List ℕ × List ℕ) → Type 0 = λ p. list_all (λ x. ltb x 256) p.0 ≡ true in subst P (some_same _ _ read_is) (zeros_low n)
        where
          zeros_low : (k : ℕ) → list_all (λ x. ltb x 256) (replicate k 0) ≡ true
          zeros_low zero = refl
          zeros_low (suc k) = zeros_low k

  -- in format 1 they are those of marks
  pub marks_bare : eqb format 2 ≡ false → are_marks xs ≡ true
  unfolding read_marks read_only
  marks_bare one =
      let read_is : Some (replicate n 0, bytes) ≡ Some (xs, rest) = (λ i. cond (sym one i) (read_items (read_number 1) n bytes) (Some (replicate n 0, bytes))) ∙ is in
      let P : (List ℕ × List ℕ) → Type 0 = λ p. are_marks p.0 ≡ true in subst P (some_same _ _ read_is) (zeros_are_marks n)

pub levels_spelled : (bytes : List ℕ) (levels : List LevelDesc) (rest : List ℕ) → AreBytes bytes → read_levels bytes ≡ Some (levels, rest)
    → bytes ≡ be 1 (length levels) ++ (flat_map level_bytes levels ++ rest)
levels_spelled bytes levels rest fits is =
    let count = step {B = List LevelDesc} (read_number 1) (be 1) number_spelled_1 (λ n b. read_items read_level n b) (levels, rest) bytes fits is in
    let items = items_spelled read_level level_bytes level_spelled count.value count.rest levels rest count.fits count.more in
    count.text ∙ ap (λ (x : List ℕ). be 1 count.value ++ x) items.0 ∙ ap (λ (n : ℕ). be 1 n ++ (flat_map level_bytes levels ++ rest)) (sym items.1)
