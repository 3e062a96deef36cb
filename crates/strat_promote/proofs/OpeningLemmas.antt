-- Runs of a pass that are opened one after another.
use Rattle.std.proofs.Common.{◌≡◌, ◌<◌, ◌+◌, ◌-◌, ℕ, zero, suc, Bool, true, leb, inl, inr, ◌⊎◌, List, [], ◌∷◌, ◌++◌, length, take, get_or, Option, Some, None, Result, Ok, Err, OnErr, cond, refl, sym, ap, ◌∙◌, subst, arith, length-append}
use Rattle.std.specs.List.{slice_get, Contains}
use Rattle.std.proofs.lemmas.Bool.{and_from, le-leb}
use Rattle.std.proofs.lemmas.List.{map-append, append-nil, append_assoc, take_more}
use Rattle.std.proofs.lemmas.List.Folds.{list_all-append}
use Rattle.std.proofs.lemmas.List.Elements.{Contains-append_left, Contains-append_right, Contains-append_cases}
use Rattle.std.proofs.lemmas.Grind.{flat_map-append}
use Rattle.strat_base.specs.Entries.{Entry}
use Rattle.strat_base.specs.declared.descriptors.ArrayDesc.{ArrayDesc}
use Rattle.strat_base.specs.declared.descriptors.LevelDesc.{LevelDesc}
use Rattle.def_crash.specs.Image.{Image}
use Rattle.def_crash.specs.Faults.{ReadsAtMost}
use Rattle.def_crash.specs.Moments.{DiskView, Exposes, OnlyReads}
use Rattle.def_bytes.specs.Arrays.{blocks_of}
use Rattle.strat_level.specs.Levels.{level_numbered}
use Rattle.strat_merge.specs.Gathered.{are_under}
use Rattle.strat_merge.specs.Runs.{RunView, blocks_left, IsBadFor, ReadsFront}
use Rattle.strat_promote.specs.Job.{arrays_to, blocks_listed, AreReadable, IsBadInput}
use Rattle.strat_promote.specs.Leads.{leads_in, misfit_in}
use Rattle.strat_promote.specs.Opening.{arrays_if_any, OpensRuns, IsBlamed}
use Rattle.strat_promote.proofs.LeadLemmas.{front_contains}

-- a block is bad for a run of the one list or of the other
bad_cases : (f : Image) (xs ys : List RunView) (b i : ℕ) (run : RunView) → slice_get (xs ++ ys) i ≡ Some run → run.misfit f ≡ Some b → IsBadFor xs f b ⊎ IsBadFor ys f b
bad_cases f [] ys b i run there says = inr (record { at = i; run = run; there = there; says = says })
bad_cases f (x ∷ xs) ys b zero run there says = inl (record { at = 0; run = run; there = there; says = says })
bad_cases f (x ∷ xs) ys b (suc i) run there says =
    elim (bad_cases f xs ys b i run there says) [
      | inl bad ↦ inl (record { at = suc bad.at; run = bad.run; there = bad.there; says = bad.says })
      | inr bad ↦ inr bad
    ]

pub bad_of_one : (f : Image) (run : RunView) (b : ℕ) → IsBadFor (run ∷ []) f b → run.misfit f ≡ Some b
bad_of_one f run b bad = go bad.at bad.run bad.there bad.says
  where
    go : (i : ℕ) (other : RunView) → slice_get (run ∷ []) i ≡ Some other → other.misfit f ≡ Some b → run.misfit f ≡ Some b
    go zero other there says = let same : run ≡ other = cc in ap (λ (r : RunView). r.misfit f) same ∙ says
    go (suc i) other there says = absurd (cc)

-- a part of some arrays, behind those before it
pub record IsPart (before part all : List ArrayDesc) : Type 0 where
  pub behind : List ArrayDesc
  pub split : all ≡ before ++ (part ++ behind)

module _ (before part all : List ArrayDesc) (is : IsPart before part all) where
  pub part_contains : (a : ArrayDesc) → Contains part a → Contains all a
  part_contains a here =
      subst (λ (xs : List ArrayDesc). Contains xs a) (sym is.split) (Contains-append_right before (part ++ is.behind) a (Contains-append_left part is.behind a here))

  blocks_split : blocks_listed all ≡ blocks_listed before ++ (blocks_listed part ++ blocks_listed is.behind)
  blocks_split =
      ap blocks_listed is.split ∙ flat_map-append (λ (a : ArrayDesc). blocks_of a.extents) before (part ++ is.behind)
      ∙ ap (λ (bs : List ℕ). blocks_listed before ++ bs) (flat_map-append (λ (a : ArrayDesc). blocks_of a.extents) part is.behind)

  pub part_readable : (n : ℕ) → AreReadable n all → AreReadable n part
  part_readable n readable = record { within = λ a here. readable.within a (part_contains a here); low = λ a v here. readable.low a v (part_contains a here) }

  -- what is blamed of the part is blamed of all
  pub part_blamed : (start now : DiskView) (b : ℕ) → OnlyReads start now → IsBlamed now part b → IsBlamed start all b
  part_blamed start now b same blamed = (
    subst (λ (bs : List ℕ). Contains bs b) (sym blocks_split) (Contains-append_right (blocks_listed before) (blocks_listed part ++ blocks_listed is.behind) b (Contains-append_left (blocks_listed part) (blocks_listed is.behind) b blamed.0)),
    λ f exposed. let bad = blamed.1 f (same.same ∙ exposed) in record { array = bad.array; one = part_contains bad.array bad.one; misfit = bad.misfit },
  )

  -- the reads of the part, too, are among those of all
  pub part_reads : (n : ℕ) (start : DiskView) (old mid : List RunView) (first then last : ℕ) → OpensRuns n start before old mid first then → ReadsAtMost (length (blocks_listed part)) then last → ReadsAtMost (length (blocks_listed all)) first last
  part_reads n start old mid first then last opens reads =
      let most = opens.most in
      let later = opens.later in
      let bound = reads.bound in
      let on = reads.later in
      let size : length (blocks_listed all) ≡ length (blocks_listed before ++ (blocks_listed part ++ blocks_listed is.behind)) = ap (λ (bs : List ℕ). length bs) blocks_split in
      let parts = length-append (blocks_listed before) (blocks_listed part ++ blocks_listed is.behind) in
      let rest = length-append (blocks_listed part) (blocks_listed is.behind) in
      record { later = omega (arith, later, on); bound = omega (arith, most, bound, size, parts, rest) }

pub array_part : (all : List ArrayDesc) (i : ℕ) (a : ArrayDesc) → i < length all → a ≡ get_or all i a → IsPart (take i all) (a ∷ []) all
array_part [] i a within is = absurd (omega arith)
array_part (x ∷ all) zero a within is = record { behind = all; split = ap (λ (y : ArrayDesc). y ∷ all) (sym is) }
array_part (x ∷ all) (suc i) a within is =
    let rest = array_part all i a (omega arith) is in record { behind = rest.behind; split = ap (λ (ys : List ArrayDesc). x ∷ ys) rest.split }

pub array_next : (all : List ArrayDesc) (i : ℕ) (a : ArrayDesc) → i < length all → a ≡ get_or all i a → take (i + 1) all ≡ take i all ++ a ∷ []
array_next all i a within is = take_more all i a within ∙ ap (λ (x : ArrayDesc). take i all ++ x ∷ []) (sym is)

-- the arrays of the levels, one level after another
pub level_here : (levels : List (Option LevelDesc)) (k : ℕ) → level_numbered levels (k + 1) ≡ get_or levels k None
level_here levels k =
    let some : leb 1 (k + 1) ≡ true = le-leb 1 (k + 1) (omega arith) in
    let same : (k + 1) - 1 ≡ k = omega arith in
    ap (λ (t : Bool). cond t (get_or levels ((k + 1) - 1) None) None) some ∙ ap (λ (j : ℕ). get_or levels j None) same

pub level_part : (levels : List (Option LevelDesc)) (done target : ℕ) → done < target → IsPart (arrays_to levels done) (arrays_if_any (level_numbered levels (done + 1))) (arrays_to levels target)
level_part levels done target within =
    let found = go levels done target within in
    record { behind = found.0; split = found.1 ∙ ap (λ (l : Option LevelDesc). arrays_to levels done ++ (arrays_if_any l ++ found.0)) (sym (level_here levels done)) }
  where
    go : (levels : List (Option LevelDesc)) (done target : ℕ) → done < target → (rest : List ArrayDesc) × (arrays_to levels target ≡ arrays_to levels done ++ (arrays_if_any (get_or levels done None) ++ rest))
    go levels done zero within = absurd (omega arith)
    go [] zero (suc target) within = ([], refl)
    go [] (suc done) (suc target) within = ([], refl)
    go (l ∷ levels) zero (suc target) within = (arrays_to levels target, refl)
    go (l ∷ levels) (suc done) (suc target) within =
        let found = go levels done target (omega arith) in (
          found.0,
          ap (λ (xs : List ArrayDesc). arrays_if_any l ++ xs) found.1 ∙ sym (append_assoc (arrays_if_any l) (arrays_to levels done) (arrays_if_any (get_or levels done None) ++ found.0)),
        )

pub level_next : (levels : List (Option LevelDesc)) (done : ℕ) → arrays_to levels (done + 1) ≡ arrays_to levels done ++ arrays_if_any (level_numbered levels (done + 1))
level_next levels done =
    let next : done + 1 ≡ suc done = omega arith in
    ap (arrays_to levels) next ∙ go levels done ∙ ap (λ (l : Option LevelDesc). arrays_to levels done ++ arrays_if_any l) (sym (level_here levels done))
  where
    go : (levels : List (Option LevelDesc)) (done : ℕ) → arrays_to levels (suc done) ≡ arrays_to levels done ++ arrays_if_any (get_or levels done None)
    go [] zero = refl
    go [] (suc done) = refl
    go (l ∷ levels) zero = append-nil (arrays_if_any l)
    go (l ∷ levels) (suc done) =
        ap (λ (xs : List ArrayDesc). arrays_if_any l ++ xs) (go levels done) ∙ sym (append_assoc (arrays_if_any l) (arrays_to levels done) (arrays_if_any (get_or levels done None)))

-- no run was put behind others
pub opens_none : (n : ℕ) (disk : DiskView) (runs : List RunView) (reads : ℕ) → OpensRuns n disk [] runs runs reads reads
opens_none n disk runs reads = record {
  opened = [];
  behind = sym (append-nil runs);
  left = λ f exposed. refl;
  under = refl;
  blames = λ f b exposed bad. absurd (cc);
  within = λ b here. here;
  later = omega arith;
  most = omega arith;
}

-- the run of one array was
pub opens_one : (n : ℕ) (disk : DiskView) (a : ArrayDesc) (old new : List RunView) (run : RunView) (before now : ℕ) → new ≡ old ++ run ∷ []
    → ((f : Image) → Exposes disk f → run.left f ≡ leads_in f a) → run.versions ≡ n → ((f : Image) (b : ℕ) → Exposes disk f → run.misfit f ≡ Some b → misfit_in f a ≡ Some b)
    → ReadsFront (blocks_of a.extents) run.blocks before now → OpensRuns n disk (a ∷ []) old new before now
opens_one n disk a old new run before now behind left versions misfit reads =
    let later = reads.later in
    let most = reads.most in
    let size : length (blocks_of a.extents) ≡ length (reads.read ++ run.blocks) = ap (λ (bs : List ℕ). length bs) reads.split in
    let parts = length-append reads.read run.blocks in
    let one : length (blocks_listed (a ∷ [])) ≡ length (blocks_of a.extents) = ap (λ (bs : List ℕ). length bs) (append-nil (blocks_of a.extents)) in
    let two : length (blocks_left (run ∷ [])) ≡ length run.blocks = ap (λ (bs : List ℕ). length bs) (append-nil run.blocks) in
    record {
      opened = run ∷ [];
      behind = behind;
      left = λ f exposed. ap (λ (es : List Entry). es ∷ []) (left f exposed);
      under = and_from (leb run.versions n) true (le-leb run.versions n (omega (arith, versions))) refl;
      blames = λ f b exposed bad. record { array = a; one = (0, omega arith, refl); misfit = misfit f b exposed (bad_of_one f run b bad) };
      within = λ b here.
          subst (λ (bs : List ℕ). Contains bs b) (sym (append-nil (blocks_of a.extents)))
          (front_contains (blocks_of a.extents) run.blocks before now b reads (subst (λ (bs : List ℕ). Contains bs b) (append-nil run.blocks) here));
      later = later;
      most = omega (arith, most, size, parts, one, two);
    }

-- the runs of more arrays were
pub opens_more : (n : ℕ) (disk after : DiskView) (xs ys : List ArrayDesc) (old mid new : List RunView) (first then last : ℕ) → OpensRuns n disk xs old mid first then → OnlyReads disk after
    → OpensRuns n after ys mid new then last → OpensRuns n disk (xs ++ ys) old new first last
opens_more n disk after xs ys old mid new first then last one same two =
    let later = one.later in
    let on = two.later in
    let most = one.most in
    let more = two.most in
    let blocks : blocks_listed (xs ++ ys) ≡ blocks_listed xs ++ blocks_listed ys = flat_map-append (λ (a : ArrayDesc). blocks_of a.extents) xs ys in
    let still : blocks_left (one.opened ++ two.opened) ≡ blocks_left one.opened ++ blocks_left two.opened = flat_map-append (λ (run : RunView). run.blocks) one.opened two.opened in
    let size : length (blocks_listed (xs ++ ys)) ≡ length (blocks_listed xs ++ blocks_listed ys) = ap (λ (bs : List ℕ). length bs) blocks in
    let parts = length-append (blocks_listed xs) (blocks_listed ys) in
    let count : length (blocks_left (one.opened ++ two.opened)) ≡ length (blocks_left one.opened ++ blocks_left two.opened) = ap (λ (bs : List ℕ). length bs) still in
    let counts = length-append (blocks_left one.opened) (blocks_left two.opened) in
    record {
      opened = one.opened ++ two.opened;
      behind = two.behind ∙ ap (λ (runs : List RunView). runs ++ two.opened) one.behind ∙ append_assoc old one.opened two.opened;
      left = λ f exposed.
          map-append (λ (run : RunView). run.left f) one.opened two.opened
          ∙ (λ i. one.left f exposed i ++ two.left f (same.same ∙ exposed) i)
          ∙ sym (map-append (leads_in f) xs ys);
      under = list_all-append (λ (run : RunView). leb run.versions n) one.opened two.opened ∙ and_from (are_under n one.opened) (are_under n two.opened) one.under two.under;
      blames = λ f b exposed bad.
          elim (bad_cases f one.opened two.opened b bad.at bad.run bad.there bad.says) [
            | inl left ↦ let is = one.blames f b exposed left in record { array = is.array; one = Contains-append_left xs ys is.array is.one; misfit = is.misfit }
            | inr right ↦ let is = two.blames f b (same.same ∙ exposed) right in record { array = is.array; one = Contains-append_right xs ys is.array is.one; misfit = is.misfit }
          ];
      within = λ b here.
          subst (λ (bs : List ℕ). Contains bs b) (sym blocks)
          (elim (Contains-append_cases (blocks_left one.opened) (blocks_left two.opened) b (subst (λ (bs : List ℕ). Contains bs b) still here)) [
            | inl left ↦ Contains-append_left (blocks_listed xs) (blocks_listed ys) b (one.within b left)
            | inr right ↦ Contains-append_right (blocks_listed xs) (blocks_listed ys) b (two.within b right)
          ]);
      later = omega (arith, later, on);
      most = omega (arith, most, more, size, parts, count, counts);
    }

-- what is blamed of one array
pub one_blamed : (disk : DiskView) (a : ArrayDesc) (b : ℕ) → Contains (blocks_of a.extents) b × ((f : Image) → Exposes disk f → misfit_in f a ≡ Some b) → IsBlamed disk (a ∷ []) b
one_blamed disk a b blamed = (
  Contains-append_left (blocks_of a.extents) [] b blamed.0,
  λ f exposed. record { array = a; one = (0, omega arith, refl); misfit = blamed.1 f exposed },
)

-- and more of a whole
pub opens_next : (n : ℕ) (disk after : DiskView) (xs ys all : List ArrayDesc) (old mid new : List RunView) (first then last : ℕ) → all ≡ xs ++ ys → OpensRuns n disk xs old mid first then
    → OnlyReads disk after → OpensRuns n after ys mid new then last → OpensRuns n disk all old new first last
opens_next n disk after xs ys all old mid new first then last is one same two =
    subst (λ (zs : List ArrayDesc). OpensRuns n disk zs old new first last) (sym is) (opens_more n disk after xs ys old mid new first then last one same two)

-- where nothing is bad for the runs in front, what is bad is so for the arrays
pub opens_blames : (n : ℕ) (disk : DiskView) (arrays : List ArrayDesc) (old new : List RunView) (first last : ℕ) → OpensRuns n disk arrays old new first last → ((f : Image) (b : ℕ) → IsBadFor old f b → ⊥)
    → (f : Image) (b : ℕ) → Exposes disk f → IsBadFor new f b → IsBadInput f arrays b
opens_blames n disk arrays old new first last opens none f b exposed bad =
    let is : IsBadFor (old ++ opens.opened) f b = subst (λ (runs : List RunView). IsBadFor runs f b) opens.behind bad in
    elim (bad_cases f old opens.opened b is.at is.run is.there is.says) [
      | inl left ↦ absurd (none f b left)
      | inr right ↦ opens.blames f b exposed right
    ]

-- what holds holds where there is an error
pub on_err : {T E : Type 0} (r : Result T E) (P : Type 0) → P → OnErr r P
on_err (Ok x) P p = tt
on_err (Err e) P p = p

pub opens_empty : (n : ℕ) (disk : DiskView) (arrays : List ArrayDesc) (runs : List RunView) (reads : ℕ) → [] ≡ arrays → OpensRuns n disk arrays runs runs reads reads
opens_empty n disk arrays runs reads none = subst (λ (xs : List ArrayDesc). OpensRuns n disk xs runs runs reads reads) none (opens_none n disk runs reads)
