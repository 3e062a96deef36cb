-- Lists that are spelled item by item, and lengths of spellings.
use Rattle.std.proofs.Common.{Bool, true, false, cond, eqb, ◌≡◌, ◌+◌, ◌*◌, ◌<◌, ◌≤◌, ℕ, zero, suc, List, [], ◌∷◌, ◌++◌, length, take, get_or, refl, sym, ap, ◌∙◌, arith, add-one, append_assoc, append-nil, length-append}
use Rattle.std.specs.List.{flat_map}
use Rattle.std.proofs.lemmas.List.{take_all, get_or_default}
use Rattle.std.proofs.lemmas.List.Folds.{length-flat_map-take}
use Rattle.strat_base.specs.Numbers.{be}
use Rattle.strat_base.specs.declared.descriptors.Extent.{Extent}
use Rattle.strat_base.specs.declared.descriptors.ArrayDesc.{ArrayDesc}
use Rattle.strat_base.specs.declared.descriptors.LevelDesc.{LevelDesc}
use Rattle.strat_base.proofs.NumberLemmas.{length-be}
use Rattle.def_bytes.proofs.ManifestLemmas.{pass_at}
use Rattle.std.proofs.lemmas.Bool.{leb-true}
use Rattle.def_bytes.specs.Manifest.{Manifest, versions_in, extent_bytes, array_bytes, level_bytes, mark_bytes, only, manifest_bytes, list_bytes, is_lawful_manifest}
use Rattle.strat_manifest.specs.ManifestView.{only_size, manifest_of}
use Rattle.strat_manifest.specs.declared.manifest.Manifest.{Manifest as Declared}
use Rattle.strat_manifest.proofs.MarkLemmas.{length-marks, marks_size}

module _ {X : Type 0} (f : X → List ℕ) where
  -- the spelling of one more item
  joined_next : (xs : List X) (i : ℕ) (x : X) → i < length xs → x ≡ get_or xs i x → flat_map f (take (suc i) xs) ≡ flat_map f (take i xs) ++ f x
  joined_next [] i x more is = absurd (omega arith)
  joined_next (y ∷ ys) zero x more is = append-nil (f y) ∙ ap f (sym is)
  joined_next (y ∷ ys) (suc i) x more is =
      ap (λ (z : List ℕ). f y ++ z) (joined_next ys i x (omega arith) is) ∙ sym (append_assoc (f y) (flat_map f (take i ys)) (f x))

  -- an item was added behind those before it
  pub joined_on : (before out now : List ℕ) (xs : List X) (i : ℕ) (x : X) → i < length xs → x ≡ get_or xs i x → out ≡ before ++ flat_map f (take i xs) → now ≡ out ++ f x
      → now ≡ before ++ flat_map f (take (i + 1) xs)
  joined_on before out now xs i x more is sofar one =
      one ∙ ap (λ (y : List ℕ). y ++ f x) sofar ∙ append_assoc before (flat_map f (take i xs)) (f x)
      ∙ ap (λ (y : List ℕ). before ++ y) (sym (joined_next xs i x more is) ∙ ap (λ (n : ℕ). flat_map f (take n xs)) (sym (add-one i)))

  -- the same, where the item is the one at its place
  pub joined_at : (before out now : List ℕ) (xs : List X) (i : ℕ) (d : X) → i < length xs → out ≡ before ++ flat_map f (take i xs) → now ≡ out ++ f (get_or xs i d)
      → now ≡ before ++ flat_map f (take (i + 1) xs)
  joined_at before out now xs i d more sofar one = joined_on before out now xs i (get_or xs i d) more (get_or_default xs i d (get_or xs i d) more) sofar one

  -- all items were added
  pub joined_all : (xs : List X) (i : ℕ) → length xs ≤ i → flat_map f (take i xs) ≡ flat_map f xs
  joined_all xs i over = ap (flat_map f) (take_all i xs over)

pub numbers_size : (xs : List ℕ) → length (flat_map (be 4) xs) ≡ 4 * length xs
numbers_size [] = refl
numbers_size (x ∷ xs) = omega (arith, length-append (be 4 x) (flat_map (be 4) xs), length-be 4 x, numbers_size xs)

extent_size : (x : Extent) → length (extent_bytes x) ≡ 8
extent_size x = omega (arith, length-append (be 4 x.start) (be 4 x.len), length-be 4 x.start, length-be 4 x.len)

pub extents_size : (xs : List Extent) → length (flat_map extent_bytes xs) ≡ 8 * length xs
extents_size [] = refl
extents_size (x ∷ xs) = omega (arith, length-append (extent_bytes x) (flat_map extent_bytes xs), extent_size x, extents_size xs)

pub array_size : (a : ArrayDesc) → length (array_bytes a) ≡ 28 + (8 * length a.extents + 4 * length a.versions)
array_size a =
    omega (
      arith,
      length-append {A = ℕ},
      length-be 8 a.id,
      length-be 4 a.entries,
      length-be 4 a.leads,
      length-be 4 a.least,
      length-be 4 (length a.extents),
      length-be 4 (length a.versions),
      extents_size a.extents,
      numbers_size a.versions,
    )

pub level_size : (l : LevelDesc) → length (level_bytes l) ≡ 9 + length (flat_map array_bytes l.arrays)
level_size l = omega (arith, length-append {A = ℕ}, length-be 1 l.number, length-be 4 l.horizon, length-be 4 (length l.arrays))

-- how long are bytes that stand in format 2 alone
pub only_long : (format : ℕ) (bytes : List ℕ) (n : ℕ) → length bytes ≡ n → length (only format bytes) ≡ only_size format n
only_long format bytes n is = by_format (eqb format 2)
  where
    by_format : (two : Bool) → length (cond two bytes []) ≡ cond two n 0
    by_format true = is
    by_format false = refl

-- the bytes of a manifest, what is known of the length of each part
module _ (format : ℕ) (m : Manifest) where
  compacted_part : List ℕ
  compacted_part = only format (be 8 m.compacted)

  marks_part : List ℕ
  marks_part = only format (flat_map mark_bytes m.marks)

  manifest_text : manifest_bytes format m
      ≡ be 4 m.changes ++ (be 4 m.updates ++ (be 8 m.written ++ (compacted_part ++ (be 8 m.next_array ++ (be 4 (versions_in m) ++ (flat_map (be 4) m.parents ++ (marks_part ++ (be 1 (length m.levels) ++ flat_map level_bytes m.levels))))))))
  unfolding manifest_bytes compacted_part marks_part
  manifest_text = refl

  compacted_long : length compacted_part ≡ only_size format 8
  unfolding compacted_part
  compacted_long = only_long format (be 8 m.compacted) 8 (length-be 8 m.compacted)

  marks_long : length marks_part ≡ only_size format (length m.marks)
  unfolding marks_part
  marks_long = only_long format (flat_map mark_bytes m.marks) (length m.marks) (marks_size m.marks)

  pub manifest_size : length (manifest_bytes format m) ≡ 29 + (only_size format 8 + (only_size format (length m.marks) + (4 * length m.parents + length (flat_map level_bytes m.levels))))
  manifest_size =
      ap length manifest_text ∙ omega (
        arith,
        length-append {A = ℕ},
        length-be 4 m.changes,
        length-be 4 m.updates,
        length-be 8 m.written,
        compacted_long,
        length-be 8 m.next_array,
        length-be 4 (suc (length m.parents)),
        numbers_size m.parents,
        marks_long,
        length-be 1 (length m.levels),
      )

-- the same of a manifest in memory
pub size_in_memory : (format : ℕ) (m : Declared)
    → length (manifest_bytes format (manifest_of m)) ≡ 29 + (only_size format 8 + (only_size format (length m.marks) + (4 * length m.parents + length (flat_map level_bytes m.levels))))
size_in_memory format m =
    manifest_size format (manifest_of m)
    ∙ ap (λ (n : ℕ). 29 + (only_size format 8 + (only_size format n + (4 * length m.parents + length (flat_map level_bytes m.levels))))) (length-marks m.marks)

-- an array was added in three parts
pub array_added : (a : ArrayDesc) (before one two now : List ℕ)
    → one ≡ before ++ (be 8 a.id ++ (be 4 a.entries ++ (be 4 a.leads ++ be 4 a.least)))
    → two ≡ one ++ list_bytes extent_bytes a.extents → now ≡ two ++ list_bytes (be 4) a.versions → now ≡ before ++ array_bytes a
array_added a before one two now first second third = rw (third, second, first) (simp append_assoc)

module _ {X : Type 0} (f : X → List ℕ) where
  -- one more item is as long as its spelling
  pub size_next : (xs : List X) (i : ℕ) (x : X) → i < length xs → x ≡ get_or xs i x → length (flat_map f (take (i + 1) xs)) ≡ length (flat_map f (take i xs)) + length (f x)
  size_next xs i x more is =
      ap (λ (n : ℕ). length (flat_map f (take n xs))) (add-one i) ∙ ap length (joined_next f xs i x more is) ∙ length-append (flat_map f (take i xs)) (f x)

  -- all items are no shorter than those up to one
  pub size_within : (xs : List X) (i : ℕ) (x : X) → i < length xs → x ≡ get_or xs i x → length (flat_map f (take i xs)) + length (f x) ≤ length (flat_map f xs)
  size_within xs i x more is = let whole = length-flat_map-take f xs i x more in let e = ap (λ (y : X). length (f y)) is in omega (arith, e, whole)

-- the arrays of a level are shorter than it
pub arrays_within : (l : LevelDesc) → length l.arrays ≤ length (flat_map array_bytes l.arrays)
arrays_within l = counted l.arrays
  where
    counted : (xs : List ArrayDesc) → length xs ≤ length (flat_map array_bytes xs)
    counted [] = omega arith
    counted (x ∷ xs) = omega (arith, length-append (array_bytes x) (flat_map array_bytes xs), array_size x, counted xs)

-- a level was added in four parts
pub level_added : (l : LevelDesc) (before one two three now : List ℕ)
    → one ≡ before ++ be 1 l.number → two ≡ one ++ be 4 l.horizon → three ≡ two ++ be 4 (length l.arrays) → now ≡ three ++ flat_map array_bytes l.arrays → now ≡ before ++ level_bytes l
level_added l before one two three now first second third fourth = rw (fourth, third, second, first) (simp append_assoc)

-- parts that were added one behind the other
ten_parts : (before a b c d e f g h i j : List ℕ) → (((((before ++ (a ++ (b ++ (c ++ (d ++ e))))) ++ f) ++ g) ++ h) ++ i) ++ j ≡ before ++ (a ++ (b ++ (c ++ (d ++ (e ++ (f ++ (g ++ (h ++ (i ++ j)))))))))
ten_parts before a b c d e f g h i j = simp append_assoc

-- a manifest was added in six parts
pub manifest_added : (format : ℕ) (m : Manifest) (before one two three four five now : List ℕ)
    → one ≡ before ++ (be 4 m.changes ++ (be 4 m.updates ++ (be 8 m.written ++ (only format (be 8 m.compacted) ++ be 8 m.next_array))))
    → two ≡ one ++ be 4 (length m.parents + 1) → three ≡ two ++ flat_map (be 4) m.parents → four ≡ three ++ only format (flat_map mark_bytes m.marks)
    → five ≡ four ++ be 1 (length m.levels) → now ≡ five ++ flat_map level_bytes m.levels → now ≡ before ++ manifest_bytes format m
unfolding manifest_bytes
manifest_added format m before one two three four five now first second third fourth fifth sixth =
    sixth
    ∙ ap (λ (x : List ℕ). x ++ flat_map level_bytes m.levels) (fifth
    ∙ ap (λ (x : List ℕ). x ++ be 1 (length m.levels)) (fourth
    ∙ ap (λ (x : List ℕ). x ++ only format (flat_map mark_bytes m.marks)) (third
    ∙ ap (λ (x : List ℕ). x ++ flat_map (be 4) m.parents) (second
    ∙ (λ i. first i ++ be 4 (add-one (length m.parents) i))))))
    ∙ ten_parts before (be 4 m.changes) (be 4 m.updates) (be 8 m.written) (only format (be 8 m.compacted)) (be 8 m.next_array) (be 4 (suc (length m.parents))) (flat_map (be 4) m.parents)
    (only format (flat_map mark_bytes m.marks)) (be 1 (length m.levels)) (flat_map level_bytes m.levels)

-- a lawful manifest has at most 22 levels
pub few_levels : (format : ℕ) (m : Manifest) → is_lawful_manifest format m ≡ true → length m.levels ≤ 22
few_levels format m lawful = leb-true (length m.levels) 22 (pass_at _ 7 lawful)
