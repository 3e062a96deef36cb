-- The contents that a promotion and the next manifest make.
use Rattle.std.proofs.Common.{◌≡◌, ◌≤◌, ◌<◌, ℕ, suc, Bool, true, false, cond, leb, ltb, inl, inr, List, [], ◌∷◌, ◌++◌, append-nil, length, map, flat_map, filter, drop, Option, Some, refl, sym, ap, ◌∙◌, subst, arith, None}
use Rattle.std.specs.Option.{option_to_list}
use Rattle.std.proofs.Math.Seq.{drop-append_seam}
use Rattle.std.proofs.lemmas.Bool.{and_parts, cases_lt, lt-leb, le-leb, lt-ltb, le-ltb, ltb-true}
use Rattle.strat_base.proofs.ListFacts.{Among, among_flat}
use Rattle.strat_base.specs.declared.descriptors.ArrayDesc.{ArrayDesc}
use Rattle.strat_base.specs.declared.descriptors.Extent.{Extent}
use Rattle.strat_base.specs.declared.descriptors.LevelDesc.{LevelDesc}
use Rattle.def_crash.specs.Image.{Image}
use Rattle.def_crash.specs.Moments.{DiskView}
use Rattle.strat_extent.proofs.CountLemmas.{times_append}
use Rattle.strat_extent.specs.Blocks.{SpaceView, is_free}
use Rattle.def_bytes.specs.Arrays.{all_some, blocks_of}
use Rattle.def_bytes.specs.Manifest.{Manifest, is_lawful_manifest, is_rising}
use Rattle.def_bytes.proofs.ManifestLemmas.{pass_at}
use Rattle.strat_journal.specs.Log.{Log}
use Rattle.def_promote.specs.Promoted.{levels_behind, promoted, SaysTheSame}
use Rattle.def_promote.specs.Sealed.{grown_by}
use Rattle.def_recovery.proofs.OpeningLemmas.{each_some, map_some, manifest_tests}
use Rattle.def_recovery.specs.Head.{parent_numbers}
use Rattle.def_recovery.specs.Opened.{array_on, level_on}
use Rattle.def_publish.proofs.ComputedLemmas.{promotion_next}
use Rattle.def_publish.proofs.FreeLemmas.{free_stands}
use Rattle.def_publish.proofs.LocalLemmas.{levels_local}
use Rattle.def_publish.proofs.PlaceLemmas.{newest_fits}
use Rattle.def_slice.proofs.LastLemmas.{last_promotes}
use Rattle.def_publish.proofs.OccupiedLemmas.{free_beside}
use Rattle.def_publish.specs.Appending.{IsLogOf}
use Rattle.def_publish.specs.Contents.{Contents, contents_head, contents_state, later_part, sealed_state}
use Rattle.strat_promote.specs.Replacing.{LeavesTheSame}
use Rattle.def_publish.specs.Next.{AreNewArrays, IsNextOf, IsPromotion, MayBeNext, arrays_made}
use Rattle.def_publish.specs.Occupied.{IsSpaceOf, arrays_in, extents_of}
use Rattle.def_publish.specs.Standing.{ContentsStand, ReadsAs}
use Rattle.def_state.specs.Level.{Level}
use Rattle.def_state.specs.Sound.{IsSound}
use Rattle.strat_memory.specs.Memory.{Memory, IsMemoryOf}
use Rattle.strat_publish.specs.Publishing.{IsComputed, IsWrittenBeside, contents_after, descs_to, descs_behind}
use Rattle.def_bytes.specs.Layout.{newest_format}
use Rattle.strat_publish.proofs.SealedLemmas.{marks_then, oldest_counts, parents_then}
use Rattle.strat_publish.proofs.SettlingLemmas.{extents_have, used_not_free}

rising_behind : (n : ℕ) (ns : List ℕ) → is_rising (n ∷ ns) ≡ true → is_rising ns ≡ true
rising_behind n [] rising = refl
rising_behind n (k ∷ ns) rising = (and_parts (ltb n k) (is_rising (k ∷ ns)) rising).1

-- items in the order of their numbers, parted at a number
module _ {X : Type 0} (number : X → ℕ) (t : ℕ) where
  abbrev pub low : List X → List X
  low xs = filter (λ x. leb (number x) t) xs

  abbrev pub high : List X → List X
  high xs = filter (λ x. ltb t (number x)) xs

  all_high : (x : X) (xs : List X) → is_rising (number x ∷ map number xs) ≡ true → t < number x → (low (x ∷ xs) ≡ []) × (high (x ∷ xs) ≡ x ∷ xs)
  all_high x [] rising lt = (
    ap (λ (b : Bool). cond b (x ∷ []) []) (lt-leb (number x) t lt),
    ap (λ (b : Bool). cond b (x ∷ []) []) (lt-ltb t (number x) lt),
  )
  all_high x (y ∷ ys) rising lt =
      let up = ltb-true (number x) (number y) (and_parts (ltb (number x) (number y)) (is_rising (number y ∷ map number ys)) rising).0 in
      let rest = all_high y ys (rising_behind (number x) (number y ∷ map number ys) rising) (omega (arith, lt, up)) in (
        ap (λ (b : Bool). cond b (x ∷ low (y ∷ ys)) (low (y ∷ ys))) (lt-leb (number x) t lt) ∙ rest.0,
        ap (λ (b : Bool). cond b (x ∷ high (y ∷ ys)) (high (y ∷ ys))) (lt-ltb t (number x) lt) ∙ ap (λ (zs : List X). x ∷ zs) rest.1,
      )

  pub parted : (xs : List X) → is_rising (map number xs) ≡ true → xs ≡ low xs ++ high xs
  parted [] rising = refl
  parted (x ∷ xs) rising =
      let rest = parted xs (rising_behind (number x) (map number xs) rising) in
      elim (cases_lt t (number x)) [
        | inl above ↦
            let all = all_high x xs rising above in
            sym (all.1) ∙ ap (λ (zs : List X). zs ++ high (x ∷ xs)) (sym all.0)
        | inr within ↦
            ap (λ (zs : List X). x ∷ zs) rest
            ∙ (λ i. cond (sym (le-leb (number x) t within) i) (x ∷ low xs) (low xs) ++ cond (sym (le-ltb t (number x) within) i) (x ∷ high xs) (high xs))
      ]

-- how many items pass depends on their numbers
passing : {X : Type 0} (number : X → ℕ) (p : ℕ → Bool) (xs : List X) → length (filter (λ x. p (number x)) xs) ≡ length (filter p (map number xs))
passing number p [] = refl
passing number p (x ∷ xs) = by (p (number x)) (passing number p xs)
  where
    by : (b : Bool) → length (filter (λ y. p (number y)) xs) ≡ length (filter p (map number xs))
        → length (cond b (x ∷ filter (λ y. p (number y)) xs) (filter (λ y. p (number y)) xs)) ≡ length (cond b (number x ∷ filter p (map number xs)) (filter p (map number xs)))
    by true rest = ap suc rest
    by false rest = rest

-- levels have the numbers of their descriptors
numbers_read : (f : Image) (ds : List LevelDesc) (levels : List Level) → all_some (level_on f) ds ≡ Some levels → map (λ (l : Level). l.number) levels ≡ map (λ (d : LevelDesc). d.number) ds
numbers_read f [] levels e = let none : [] ≡ levels = cc in ap (map (λ (l : Level). l.number)) (sym none)
numbers_read f (d ∷ ds) levels e =
    let parts = each_some (level_on f) d ds levels e in
    let made = map_some (λ arrays. record { number = d.number; horizon = d.horizon; arrays = arrays }) (all_some (array_on f) d.arrays) parts.0 parts.2 in
    let here : parts.0.number ≡ d.number = ap (λ (l : Level). l.number) (sym made.2) in
    ap (map (λ (l : Level). l.number)) (sym parts.4) ∙ (λ i. here i ∷ numbers_read f ds parts.1 parts.3 i)

-- so the levels behind a number are those of the descriptors behind it
pub behind_dropped : (f : Image) (ds : List LevelDesc) (levels : List Level) (t : ℕ) → all_some (level_on f) ds ≡ Some levels → is_rising (map (λ (d : LevelDesc). d.number) ds) ≡ true
    → levels_behind t levels ≡ drop (length (descs_to t ds)) levels
behind_dropped f ds levels t read rising =
    let same = numbers_read f ds levels read in
    let up : is_rising (map (λ (l : Level). l.number) levels) ≡ true = ap is_rising same ∙ rising in
    let two : levels ≡ low (λ (l : Level). l.number) t levels ++ levels_behind t levels = parted (λ (l : Level). l.number) t levels up in
    let many : length (descs_to t ds) ≡ length (low (λ (l : Level). l.number) t levels) =
    passing (λ (d : LevelDesc). d.number) (λ n. leb n t) ds ∙ ap (λ (ns : List ℕ). length (filter (λ n. leb n t) ns)) (sym same) ∙ sym (passing (λ (l : Level). l.number) (λ n. leb n t) levels) in
    sym (drop-append_seam (low (λ (l : Level). l.number) t levels) (levels_behind t levels)) ∙ ap (λ (n : ℕ). drop n (low (λ (l : Level). l.number) t levels ++ levels_behind t levels)) (sym many)
    ∙ ap (drop (length (descs_to t ds))) (sym two)

-- the next manifest makes the next contents
pub after_next : (old : Contents) (m : Memory) (target : ℕ) (made : Option LevelDesc) (levels : List Level) (first size : ℕ) (blocks : List ℕ) → IsMemoryOf (contents_head old) m → IsSound (contents_state old)
    → is_rising (map (λ (d : LevelDesc). d.number) old.chained.manifest.levels) ≡ true
    → IsNextOf old (contents_after old m target made levels first size blocks) made (descs_to target old.chained.manifest.levels) (descs_behind target old.chained.manifest.levels)
after_next old m target made levels first size blocks of sound rising = record {
  slot = refl;
  generation = refl;
  region = refl;
  promoted = record {
    mem = refl;
    changes_max = refl;
    versions_max = refl;
    format = refl;
    marks = marks_then (contents_head old) m of;
    compacted = refl;
    parents = ap parent_numbers (parents_then (contents_head old) m of);
    updates = (oldest_counts (contents_head old) m of).1;
    changes = (oldest_counts (contents_head old) m of).2;
    journal = refl;
  };
  written = refl;
  next_array = refl;
  levels_were = parted (λ (d : LevelDesc). d.number) target old.chained.manifest.levels rising;
  levels_are = refl;
}

-- contents with a level that was made may be the next ones, in an image that has it
module _ (c : Image) (old new : Contents) (target : ℕ) (made : Option LevelDesc) (reads : ReadsAs c old) (sound : IsSound (contents_state old)) (full : old.sb.mem ≤ length old.journal)
    (left : LeavesTheSame c made (contents_state old) (λ fresh written next. grown_by (promoted (sealed_state old) (fresh ++ levels_behind target old.levels) written next) (later_part old)))
    (numbered : AreNewArrays old.chained.manifest.next_array (arrays_made made)) (levels : new.levels ≡ left.fresh ++ levels_behind target old.levels)
    (next : IsNextOf old new made (descs_to target old.chained.manifest.levels) (descs_behind target old.chained.manifest.levels))
    (rising : is_rising (map (λ (d : LevelDesc). d.number) old.chained.manifest.levels) ≡ true) where
  promotion_here : IsPromotion c old new made (descs_to target old.chained.manifest.levels)
  promotion_here =
      last_promotes c old new made (descs_to target old.chained.manifest.levels) target reads.lies left levels (behind_dropped c old.chained.manifest.levels old.levels target reads.lies.arrays rising)

  pub next_here : MayBeNext c c old new made (descs_to target old.chained.manifest.levels) (descs_behind target old.chained.manifest.levels) × SaysTheSame (contents_state old) (contents_state new)
  next_here =
      promotion_next c c old new made (descs_to target old.chained.manifest.levels) (descs_behind target old.chained.manifest.levels)
      reads (omega (arith, full, (newest_fits c old.slot old.sb reads.newest).mem_least)) sound next numbered promotion_here

-- an array of the level that was made has blocks that are used beside contents
made_in_use : (t : SpaceView) (x : Contents) (made : Option LevelDesc) (besides : List Extent) (b : ℕ) → IsSpaceOf t x (extents_of (arrays_made made) ++ besides)
    → Among b (flat_map (λ (a : ArrayDesc). blocks_of a.extents) (arrays_in (option_to_list made))) → is_free t b ≡ false
made_in_use t x made besides b is among =
    let at = among_flat (λ (a : ArrayDesc). blocks_of a.extents) (arrays_in (option_to_list made)) b among in
    let some = extents_have (arrays_made made) at.0 b (subst (λ (ds : List ArrayDesc). Among at.0 ds) (by_made made) at.1) at.2 in
    used_not_free t b (omega (arith, some, is.used b, times_append (extents_of (arrays_made made)) besides b))
  where
    by_made : (o : Option LevelDesc) → flat_map (λ (l : LevelDesc). l.arrays) (option_to_list o) ≡ arrays_made o
    by_made None = refl
    by_made (Some level) = append-nil level.arrays

-- what was written beside contents is computed
module _ (w u : DiskView) (t r : SpaceView) (old new : Contents) (target : ℕ) (made : Option LevelDesc) (besides others : List Extent) (b : IsWrittenBeside w u t r old new target made besides others)
    (rising : is_rising (map (λ (d : LevelDesc). d.number) old.chained.manifest.levels) ≡ true) (log : Log) (is_log : IsLogOf old log) where
  at_end : ContentsStand u old
  at_end = free_stands (is_free t) old (free_beside t old (extents_of (arrays_made made) ++ besides) b.space) w u b.writing b.stands b.after

  made_read : all_some (level_on at_end.content) (option_to_list made) ≡ Some b.promoted.last.says.fresh
  made_read =
      levels_local b.stands.content at_end.content (option_to_list made) (λ c among.
      b.writing.content b.stands.content at_end.content b.stands.exposed at_end.exposed c (made_in_use t old made besides c b.space among))
      ∙ b.promoted.last.says.read

  pub computed : IsComputed u new.slot new.sb log old new
  computed =
      let left : LeavesTheSame at_end.content made (contents_state old) (λ fresh written next.
      grown_by (promoted (sealed_state old) (fresh ++ levels_behind target old.levels) written next) (later_part old)) =
      record { fresh = b.promoted.last.says.fresh; read = made_read; says = b.promoted.last.says.says; sound = b.promoted.last.says.sound } in
      let may = next_here at_end.content old new target made (at_end.reads at_end.content at_end.left) at_end.sound b.full left b.promoted.last.fresh b.levels b.next rising in
      record {
        stands = at_end;
        log_is = is_log;
        slot_is = refl;
        sb_is = refl;
        made = made;
        taken = descs_to target old.chained.manifest.levels;
        kept = descs_behind target old.chained.manifest.levels;
        was = at_end.content;
        next = may.0;
        says = may.1;
        space = r;
        others = others;
        used = b.used;
        manifest = b.manifest at_end.content at_end.exposed;
      }

-- the levels of a lawful manifest stand in the order of their numbers
pub numbers_rise : (m : Manifest) → is_lawful_manifest newest_format m ≡ true → is_rising (map (λ (d : LevelDesc). d.number) m.levels) ≡ true
numbers_rise m lawful = pass_at (manifest_tests newest_format m) 9 lawful
