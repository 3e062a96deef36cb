-- Levels that are scanned one after the other, and what recovery gives of them.
use Rattle.std.proofs.Common.{◌≡◌, ◌≤◌, ◌+◌, ◌*◌, ℕ, Bool, true, false, cond, List, [], ◌∷◌, ◌++◌, length, map, take, drop, Option, None, Some, refl, sym, ap, ◌∙◌, arith, append_assoc, append-nil, length-append}
use Rattle.std.specs.List.{sum_by, flat_map, find, slice_get, Contains}
use Rattle.std.proofs.lemmas.List.{map-append, take-append-drop}
use Rattle.std.proofs.lemmas.List.Sums.{fold_push}
use Rattle.std.specs.Option.{option_or, option_map, option_and_then, is_none}
use Rattle.strat_base.specs.Entries.{Entry, is_ascending}
use Rattle.strat_base.specs.declared.descriptors.ArrayDesc.{ArrayDesc}
use Rattle.strat_base.specs.declared.descriptors.LevelDesc.{LevelDesc}
use Rattle.strat_base.proofs.ListFacts.{get_among, among_in_flat}
use Rattle.std.proofs.Math.ListN.{length-map}
use Rattle.std.proofs.lemmas.Option.{slice_get-map}
use Rattle.def_check.proofs.CheckedLemmas.{among_contained}
use Rattle.def_recovery.proofs.BadLemmas.{contained_at}
use Rattle.def_bytes.specs.Arrays.{all_some, block_on, blocks_of, entries_on}
use Rattle.def_check.specs.Checked.{is_unread}
use Rattle.def_check.proofs.FirstLemmas.{first_grown}
use Rattle.def_crash.specs.Faults.{ReadsAtMost}
use Rattle.def_crash.specs.Image.{Image}
use Rattle.def_publish.specs.Occupied.{arrays_in}
use Rattle.def_recovery.proofs.OpeningLemmas.{map_some, next_some, each_some}
use Rattle.def_recovery.specs.Opened.{array_on, level_on}
use Rattle.def_state.specs.Breach.{Breach, breach, breach_unless}
use Rattle.def_state.specs.Level.{TaggedArray, Level}
use Rattle.def_state.specs.Sound.{has_ascending_entries}
use Rattle.strat_promote.specs.Job.{blocks_listed, IsBadInput}
use Rattle.strat_check.specs.Places.{place_of, first_unless, array_list, first_array_breach}
use Rattle.strat_check.specs.Scanned.{IsScanned}
use Rattle.strat_check.specs.StoreScans.{scans_of, content_scanned, IsScannedLevel, AreScannedLevels, HaveScans}
use Rattle.strat_check.specs.Walked.{scan_of}
use Rattle.strat_check.specs.declared.places.Broken.{Broken}
use Rattle.strat_check.specs.declared.scan.Scan.{Scan}
use Rattle.strat_check.specs.declared.store_walk.LevelScans.{LevelScans}
use Rattle.strat_check.specs.declared.store_walk.StoreScans.{StoreScans}
use Rattle.strat_check.proofs.WalkLemmas.{array_of, level_of, take_at}

-- lists

flat_joined : {A B : Type 0} (g : A → List B) (xs ys : List A) → flat_map g (xs ++ ys) ≡ flat_map g xs ++ flat_map g ys
flat_joined g [] ys = refl
flat_joined {B = B} g (x ∷ xs) ys = ap (λ (zs : List B). g x ++ zs) (flat_joined g xs ys) ∙ sym (append_assoc (g x) (flat_map g xs) (flat_map g ys))

pub parted : {A : Type 0} (xs : List A) (i : ℕ) (x : A) → slice_get xs i ≡ Some x → xs ≡ take i xs ++ x ∷ drop (i + 1) xs
parted {A = A} xs i x at = sym (take-append-drop (i + 1) xs) ∙ ap (λ (ys : List A). ys ++ drop (i + 1) xs) (take_at xs i x at) ∙ append_assoc (take i xs) (x ∷ []) (drop (i + 1) xs)

some_joined : {A B : Type 0} (g : A → Option B) (xs ys : List A) (zs ws : List B) → all_some g xs ≡ Some zs → all_some g ys ≡ Some ws → all_some g (xs ++ ys) ≡ Some (zs ++ ws)
some_joined {B = B} g [] ys zs ws first second = let none : [] ≡ zs = cc in second ∙ ap (λ (l : List B). Some (l ++ ws)) none
some_joined {B = B} g (x ∷ xs) ys zs ws first second =
    let parts = each_some g x xs zs first in
    let rest = some_joined g xs ys parts.1 ws parts.3 second in
    (λ i. option_and_then (λ y. option_map (λ more. y ∷ more) (rest i)) (parts.2 i)) ∙ ap (λ (l : List B). Some (l ++ ws)) parts.4

some_one : {A B : Type 0} (g : A → Option B) (x : A) (y : B) → g x ≡ Some y → all_some g (x ∷ []) ≡ Some (y ∷ [])
some_one {B = B} g x y e = ap (λ (o : Option B). option_and_then (λ z. option_map (λ more. z ∷ more) (Some [])) o) e

pub some_more : {A B : Type 0} (g : A → Option B) (xs : List A) (i : ℕ) (x : A) (ys : List B) (y : B) → slice_get xs i ≡ Some x → all_some g (take i xs) ≡ Some ys → g x ≡ Some y
    → all_some g (take (i + 1) xs) ≡ Some (ys ++ y ∷ [])
some_more g xs i x ys y at first here = ap (all_some g) (take_at xs i x at) ∙ some_joined g (take i xs) (x ∷ []) ys (y ∷ []) first (some_one g x y here)

find_here : {A : Type 0} (p : A → Bool) (xs ys : List A) (b : A) → find p xs ≡ Some b → find p (xs ++ ys) ≡ Some b
find_here p [] ys b e = absurd (cc)
find_here {A} p (x ∷ xs) ys b e = go (p x) e (find_here p xs ys b)
  where
    go : (t : Bool) → cond t (Some x) (find p xs) ≡ Some b → (find p xs ≡ Some b → find p (xs ++ ys) ≡ Some b) → cond t (Some x) (find p (xs ++ ys)) ≡ Some b
    go true e rest = e
    go false e rest = rest e

-- blocks that hold entries are passed over

passed_blocks : (f : Image) (front back : List ℕ) (entries : List Entry) → entries_on f front ≡ Some entries → find (is_unread f) (front ++ back) ≡ find (is_unread f) back
unfolding entries_on
passed_blocks f [] back entries e = refl
passed_blocks f (b ∷ front) back entries e =
    let first = next_some (λ xs. option_map (λ rest. xs ++ rest) (entries_on f front)) (block_on f b) entries e in
    let rest = map_some (λ rest. first.0 ++ rest) (entries_on f front) entries first.2 in
    ap (λ (o : Option (List Entry)). cond (is_none o) (Some b) (find (is_unread f) (front ++ back))) first.1 ∙ passed_blocks f front back rest.0 rest.1

pub passed_arrays : (f : Image) (descs : List ArrayDesc) (as' : List TaggedArray) (back : List ℕ) → all_some (array_on f) descs ≡ Some as' → find (is_unread f) (blocks_listed descs ++ back) ≡ find (is_unread f) back
passed_arrays f [] as' back e = refl
passed_arrays f (d ∷ descs) as' back e =
    let parts = each_some (array_on f) d descs as' e in
    ap (find (is_unread f)) (append_assoc (blocks_of d.extents) (blocks_listed descs) back)
    ∙ passed_blocks f (blocks_of d.extents) (blocks_listed descs ++ back) parts.0.content (array_of f d parts.0 parts.2).read
    ∙ passed_arrays f descs parts.1 back parts.3

pub blamed_array : (f : Image) (descs : List ArrayDesc) (i : ℕ) (desc : ArrayDesc) (as' : List TaggedArray) (b : ℕ) → slice_get descs i ≡ Some desc → all_some (array_on f) (take i descs) ≡ Some as'
    → find (is_unread f) (blocks_of desc.extents) ≡ Some b → find (is_unread f) (blocks_listed descs) ≡ Some b
blamed_array f descs i desc as' b at first here =
    ap (λ (ds : List ArrayDesc). find (is_unread f) (blocks_listed ds)) (parted descs i desc at)
    ∙ ap (find (is_unread f)) (flat_joined (λ (a : ArrayDesc). blocks_of a.extents) (take i descs) (desc ∷ drop (i + 1) descs))
    ∙ passed_arrays f (take i descs) as' (blocks_listed (desc ∷ drop (i + 1) descs)) first
    ∙ find_here (is_unread f) (blocks_of desc.extents) (blocks_listed (drop (i + 1) descs)) b here

-- the arrays of a level

pub record AreScannedArrays (f : Image) (n level : ℕ) (descs : List ArrayDesc) (before : Option Broken) (r : LevelScans) : Type 0 where
  pub arrays : List TaggedArray
  pub on_disk : all_some (array_on f) descs ≡ Some arrays
  pub scanned : r.scans ≡ map (scan_of n) arrays
  pub first : place_of r.unordered ≡ option_or (place_of before) (first_array_breach 109 level has_ascending_entries arrays)
  pub few : sum_by (λ (a : TaggedArray). length a.content) arrays ≤ 454 * length (blocks_listed descs)

or_none : {A : Type 0} (o : Option A) → option_or o None ≡ o
or_none None = refl
or_none (Some y) = refl

or_assoc : {A : Type 0} (o p q : Option A) → option_or (option_or o p) q ≡ option_or o (option_or p q)
or_assoc None p q = refl
or_assoc (Some a) p q = refl

sum_pushed : {A : Type 0} (g : A → ℕ) (xs : List A) (x : A) → sum_by g (xs ++ x ∷ []) ≡ sum_by g xs + g x
sum_pushed g xs x = fold_push (λ n y. n + g y) 0 xs x

length_listed : (xs : List ArrayDesc) (x : ArrayDesc) → length (blocks_listed (xs ++ x ∷ [])) ≡ length (blocks_listed xs) + length (blocks_of x.extents)
length_listed xs x =
    let joined = ap (λ (bs : List ℕ). length bs) (flat_joined (λ (a : ArrayDesc). blocks_of a.extents) xs (x ∷ [])) in
    let both = length-append (blocks_listed xs) (blocks_of x.extents ++ []) in
    let one = length-append (blocks_of x.extents) [] in
    omega (arith, joined, both, one)

pub no_arrays_scanned : (f : Image) (n level : ℕ) (before : Option Broken) (r : LevelScans) → r.scans ≡ [] → r.unordered ≡ before → AreScannedArrays f n level [] before r
no_arrays_scanned f n level before r none same = record {
  arrays = [];
  on_disk = refl;
  scanned = none;
  first = ap place_of same ∙ sym (or_none (place_of before));
  few = omega arith;
}

pub array_scanned : (f : Image) (n level : ℕ) (descs : List ArrayDesc) (i : ℕ) (desc : ArrayDesc) (before : Option Broken) (was now : LevelScans) (scan : Scan) → slice_get descs i ≡ Some desc
    → AreScannedArrays f n level (take i descs) before was → IsScanned f (blocks_of desc.extents) n scan → scan.entries ≤ 454 * length (blocks_of desc.extents)
    → now.scans ≡ was.scans ++ scan ∷ []
    → place_of now.unordered ≡ option_or (place_of was.unordered) (first_unless scan.ascends (breach 109 level desc.id)) → AreScannedArrays f n level (take (i + 1) descs) before now
array_scanned f n level descs i desc before was now scan at are s small scans place = record {
  arrays = are.arrays ++ a ∷ [];
  on_disk = some_more (array_on f) descs i desc are.arrays a at are.on_disk here;
  scanned = scans ∙ (λ j. are.scanned j ++ scan_is j ∷ []) ∙ sym (map-append (scan_of n) are.arrays (a ∷ []));
  first =
      place ∙ (λ j. option_or (are.first j) (first_unless (s.ascends j) (breach 109 level desc.id)))
      ∙ or_assoc (place_of before) (first_array_breach 109 level has_ascending_entries are.arrays) (first_unless (is_ascending a.content) (breach 109 level a.id))
      ∙ ap (option_or (place_of before)) (sym (first_grown (λ (b : TaggedArray). breach_unless (has_ascending_entries b) (breach 109 level b.id)) are.arrays a));
  few =
      let sum = sum_pushed (λ (b : TaggedArray). length b.content) are.arrays a in
      let listed = length_listed (take i descs) desc in
      let same = ap (λ (ds : List ArrayDesc). length (blocks_listed ds)) (take_at descs i desc at) in
      let before' = are.few in
      let counted = s.counted in
      omega (arith, sum, listed, same, before', counted, small);
}
  where
    a : TaggedArray
    a = record { id = desc.id; tag = desc.versions; content = s.entries; entries = desc.entries; leads = desc.leads; least = desc.least }

    here : array_on f desc ≡ Some a
    here = ap (option_map (λ entries. record { id = desc.id; tag = desc.versions; content = entries; entries = desc.entries; leads = desc.leads; least = desc.least })) s.read

    scan_is : scan ≡ scan_of n a
    scan_is = λ j. record { ascends = s.ascends j; entries = s.counted j; is_within = s.within j }

pub level_scanned : (f : Image) (n : ℕ) (desc : LevelDesc) (before : Option Broken) (r : LevelScans) → AreScannedArrays f n desc.number desc.arrays before r → IsScannedLevel f n desc before r
level_scanned f n desc before r are = record {
  level = record { number = desc.number; horizon = desc.horizon; arrays = are.arrays };
  on_disk = ap (option_map (λ arrays. record { number = desc.number; horizon = desc.horizon; arrays = arrays })) are.on_disk;
  scanned = are.scanned;
  first = are.first;
  few = are.few;
}

-- the levels of a store

pub no_levels_scanned : (f : Image) (n : ℕ) (r : StoreScans) → r.levels.items ≡ [] → r.unordered ≡ None → AreScannedLevels f n [] r
no_levels_scanned f n r none same = record { levels = []; on_disk = refl; scanned = none; first = ap place_of same; few = omega arith }

arrays_more : (descs : List LevelDesc) (i : ℕ) (desc : LevelDesc) → slice_get descs i ≡ Some desc → blocks_listed (arrays_in (take (i + 1) descs)) ≡ blocks_listed (arrays_in (take i descs)) ++ blocks_listed desc.arrays
arrays_more descs i desc at =
    ap (λ (ds : List LevelDesc). blocks_listed (arrays_in ds)) (take_at descs i desc at)
    ∙ ap blocks_listed (flat_joined (λ (d : LevelDesc). d.arrays) (take i descs) (desc ∷ []) ∙ ap (λ (as' : List ArrayDesc). arrays_in (take i descs) ++ as') (append-nil desc.arrays))
    ∙ flat_joined (λ (a : ArrayDesc). blocks_of a.extents) (arrays_in (take i descs)) desc.arrays

pub levels_scanned : (f : Image) (n : ℕ) (descs : List LevelDesc) (i : ℕ) (desc : LevelDesc) (was now : StoreScans) (next : LevelScans) → slice_get descs i ≡ Some desc → AreScannedLevels f n (take i descs) was
    → IsScannedLevel f n desc was.unordered next → now.levels.items ≡ was.levels.items ++ next.scans ∷ [] → now.unordered ≡ next.unordered → AreScannedLevels f n (take (i + 1) descs) now
levels_scanned f n descs i desc was now next at are one scans same = record {
  levels = are.levels ++ one.level ∷ [];
  on_disk = some_more (level_on f) descs i desc are.levels one.level at are.on_disk one.on_disk;
  scanned = scans ∙ (λ j. are.scanned j ++ one.scanned j ∷ []) ∙ sym (map-append (scans_of n) are.levels (one.level ∷ []));
  first =
      ap place_of same ∙ one.first ∙ ap (λ (o : Option Breach). option_or o (first_array_breach 109 one.level.number has_ascending_entries one.level.arrays)) are.first
      ∙ sym (first_grown (λ (level : Level). array_list 109 level.number has_ascending_entries level.arrays) are.levels one.level);
  few =
      let sum = sum_pushed content_scanned are.levels one.level in
      let listed = ap (λ (bs : List ℕ). length bs) (arrays_more descs i desc at) in
      let both = length-append (blocks_listed (arrays_in (take i descs))) (blocks_listed desc.arrays) in
      let before' = are.few in
      let here = one.few in
      omega (arith, sum, listed, both, before', here);
}

pub passed_levels : (f : Image) (descs : List LevelDesc) (levels : List Level) (back : List ℕ) → all_some (level_on f) descs ≡ Some levels
    → find (is_unread f) (blocks_listed (arrays_in descs) ++ back) ≡ find (is_unread f) back
passed_levels f [] levels back e = refl
passed_levels f (d ∷ descs) levels back e =
    let parts = each_some (level_on f) d descs levels e in
    ap (λ (bs : List ℕ). find (is_unread f) (bs ++ back)) (flat_joined (λ (a : ArrayDesc). blocks_of a.extents) d.arrays (arrays_in descs))
    ∙ ap (find (is_unread f)) (append_assoc (blocks_listed d.arrays) (blocks_listed (arrays_in descs)) back)
    ∙ passed_arrays f d.arrays parts.0.arrays (blocks_listed (arrays_in descs) ++ back) (level_of f d parts.0 parts.2).arrays
    ∙ passed_levels f descs parts.1 back parts.3

pub blamed_level : (f : Image) (descs : List LevelDesc) (i : ℕ) (desc : LevelDesc) (levels : List Level) (b : ℕ) → slice_get descs i ≡ Some desc → all_some (level_on f) (take i descs) ≡ Some levels
    → find (is_unread f) (blocks_listed desc.arrays) ≡ Some b → find (is_unread f) (blocks_listed (arrays_in descs)) ≡ Some b
blamed_level f descs i desc levels b at first here =
    ap (λ (ds : List LevelDesc). find (is_unread f) (blocks_listed (arrays_in ds))) (parted descs i desc at)
    ∙ ap (λ (as' : List ArrayDesc). find (is_unread f) (blocks_listed as')) (flat_joined (λ (d : LevelDesc). d.arrays) (take i descs) (desc ∷ drop (i + 1) descs))
    ∙ ap (find (is_unread f)) (flat_joined (λ (a : ArrayDesc). blocks_of a.extents) (arrays_in (take i descs)) (desc.arrays ++ arrays_in (drop (i + 1) descs)))
    ∙ passed_levels f (take i descs) levels (blocks_listed (desc.arrays ++ arrays_in (drop (i + 1) descs))) first
    ∙ ap (find (is_unread f)) (flat_joined (λ (a : ArrayDesc). blocks_of a.extents) desc.arrays (arrays_in (drop (i + 1) descs)))
    ∙ find_here (is_unread f) (blocks_listed desc.arrays) (blocks_listed (arrays_in (drop (i + 1) descs))) b here

pub reads_level : (descs : List LevelDesc) (i : ℕ) (desc : LevelDesc) (k p q r : ℕ) → slice_get descs i ≡ Some desc → ReadsAtMost (k * length (blocks_listed (arrays_in (take i descs)))) p q
    → ReadsAtMost (k * length (blocks_listed desc.arrays)) q r → ReadsAtMost (k * length (blocks_listed (arrays_in (take (i + 1) descs)))) p r
reads_level descs i desc k p q r at first next =
    let listed = ap (λ (bs : List ℕ). k * length bs) (arrays_more descs i desc at) in
    let both = ap (λ (m : ℕ). k * m) (length-append (blocks_listed (arrays_in (take i descs))) (blocks_listed desc.arrays)) in
    let spread = times_sum k (length (blocks_listed (arrays_in (take i descs)))) (length (blocks_listed desc.arrays)) in
    let a = first.later in
    let b = next.later in
    let c = first.bound in
    let d = next.bound in
    record { later = omega (arith, a, b); bound = omega (arith, c, d, listed, both, spread) }
  where
    times_sum : (k m n : ℕ) → k * (m + n) ≡ k * m + k * n
    times_sum k m n = grind arith

pub reads_all : (descs : List LevelDesc) (i : ℕ) (k p q : ℕ) → ReadsAtMost (k * length (blocks_listed (arrays_in (take i descs)))) p q → ReadsAtMost (k * length (blocks_listed (arrays_in descs))) p q
reads_all descs i k p q first =
    let a = first.later in
    let b = first.bound in
    let parts = ap (λ (ds : List LevelDesc). blocks_listed (arrays_in ds)) (sym (take-append-drop i descs)) ∙ ap blocks_listed (flat_joined (λ (d : LevelDesc). d.arrays) (take i descs) (drop i descs))
    ∙ flat_joined (λ (x : ArrayDesc). blocks_of x.extents) (arrays_in (take i descs)) (arrays_in (drop i descs)) in
    let whole = ap (λ (bs : List ℕ). length bs) parts in
    let both = length-append (blocks_listed (arrays_in (take i descs))) (blocks_listed (arrays_in (drop i descs))) in
    let le : length (blocks_listed (arrays_in (take i descs))) ≤ length (blocks_listed (arrays_in descs)) = omega (arith, whole, both) in
    let more = times_le k (length (blocks_listed (arrays_in (take i descs)))) (length (blocks_listed (arrays_in descs))) le in
    record { later = a; bound = omega (arith, b, more) }
  where
    times_le : (k m n : ℕ) → m ≤ n → k * m ≤ k * n
    times_le k m n le = grind arith

-- scans of levels, counted

pub scans_more : (descs : List LevelDesc) (i : ℕ) (desc : LevelDesc) (was now : List (List Scan)) (next : List Scan) → slice_get descs i ≡ Some desc → HaveScans (take i descs) was → now ≡ was ++ next ∷ []
    → length next ≡ length desc.arrays → HaveScans (take (i + 1) descs) now
scans_more descs i desc was now next at have scans len =
    ap (map (λ (xs : List Scan). length xs)) scans ∙ map-append (λ (xs : List Scan). length xs) was (next ∷ []) ∙ (λ j. have j ++ len j ∷ [])
    ∙ sym (map-append (λ (d : LevelDesc). length d.arrays) (take i descs) (desc ∷ [])) ∙ ap (map (λ (d : LevelDesc). length d.arrays)) (sym (take_at descs i desc at))

pub scans_at : (descs : List LevelDesc) (scans : List (List Scan)) (i : ℕ) (desc : LevelDesc) (xs : List Scan) → HaveScans descs scans → slice_get descs i ≡ Some desc → slice_get scans i ≡ Some xs → length xs ≡ length desc.arrays
scans_at descs scans i desc xs have desc_at scan_at =
    let left : slice_get (map (λ (ys : List Scan). length ys) scans) i ≡ Some (length xs) = slice_get-map (λ (ys : List Scan). length ys) scans i ∙ ap (option_map (λ (ys : List Scan). length ys)) scan_at in
    let right : slice_get (map (λ (d : LevelDesc). length d.arrays) descs) i ≡ Some (length desc.arrays) = slice_get-map (λ (d : LevelDesc). length d.arrays) descs i ∙ ap (option_map (λ (d : LevelDesc). length d.arrays)) desc_at in
    let both : Some (length xs) ≡ Some (length desc.arrays) = sym left ∙ ap (λ (ns : List ℕ). slice_get ns i) have ∙ right in
    cc

pub scans_many : (descs : List LevelDesc) (scans : List (List Scan)) → HaveScans descs scans → length scans ≡ length descs
scans_many descs scans have = sym (length-map scans (λ (ys : List Scan). length ys)) ∙ ap (λ (ns : List ℕ). length ns) have ∙ length-map descs (λ (d : LevelDesc). length d.arrays)

-- the arrays of one level are among those of all

pub arrays_of_level : (levels : List LevelDesc) (i : ℕ) (level : LevelDesc) (a : ArrayDesc) → slice_get levels i ≡ Some level → Contains level.arrays a → Contains (arrays_in levels) a
arrays_of_level levels i level a at has =
    among_contained (arrays_in levels) a (among_in_flat (λ (d : LevelDesc). d.arrays) levels level a (get_among levels i level at) (contained_at a level.arrays has.0 has.1 has.2))

pub reads_once : (n p q : ℕ) → ReadsAtMost n p q → ReadsAtMost (1 * n) p q
reads_once n p q r = let b = r.bound in record { later = r.later; bound = omega (arith, b) }

pub reads_one : (n p q : ℕ) → ReadsAtMost (1 * n) p q → ReadsAtMost n p q
reads_one n p q r = let b = r.bound in record { later = r.later; bound = omega (arith, b) }

pub bad_wider : (f : Image) (levels : List LevelDesc) (i : ℕ) (level : LevelDesc) (b : ℕ) → slice_get levels i ≡ Some level → IsBadInput f level.arrays b → IsBadInput f (arrays_in levels) b
bad_wider f levels i level b at bad = record { array = bad.array; one = arrays_of_level levels i level bad.array at bad.one; misfit = bad.misfit }

pub scans_next : (n : ℕ) (levels : List Level) (scans : List (List Scan)) (i : ℕ) (on : Level) (xs : List Scan) → scans ≡ map (scans_of n) levels → slice_get levels i ≡ Some on → slice_get scans i ≡ Some xs → xs ≡ map (scan_of n) on.arrays
scans_next n levels scans i on xs same on_at scan_at =
    let there : slice_get scans i ≡ Some (scans_of n on) = ap (λ (ss : List (List Scan)). slice_get ss i) same ∙ slice_get-map (scans_of n) levels i ∙ ap (option_map (scans_of n)) on_at in
    let both : Some xs ≡ Some (scans_of n on) = sym scan_at ∙ there in
    cc

pub reads_few : (n m p q : ℕ) → ReadsAtMost n p q → n ≤ m → ReadsAtMost m p q
reads_few n m p q r le = let b = r.bound in record { later = r.later; bound = omega (arith, b, le) }

pub reads_thrice : (m n p q r : ℕ) → ReadsAtMost m p q → ReadsAtMost (2 * n) q r → m ≡ n → ReadsAtMost (3 * n) p r
reads_thrice m n p q r first next same =
    let a = first.later in
    let b = next.later in
    let c = first.bound in
    let d = next.bound in
    record { later = omega (arith, a, b); bound = omega (arith, c, d, same) }
