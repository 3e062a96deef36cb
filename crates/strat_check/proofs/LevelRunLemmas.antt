-- The marked runs of a level's arrays are opened one after another.
use Rattle.std.proofs.Common.{◌≡◌, ◌<◌, ◌≤◌, ◌+◌, ◌*◌, ℕ, zero, suc, true, false, leb, ltb, inl, inr, ◌⊎◌, List, [], ◌∷◌, ◌++◌, length, map, filter, take, get_or, unwrap_or, Option, Some, Result, Ok, Err, OnErr, refl, sym, ap, ◌∙◌, subst, arith, length-append, true≢false}
use Rattle.std.specs.List.{list_all, slice_get, Contains}
use Rattle.std.specs.Option.{option_map_or}
use Rattle.std.proofs.lemmas.Bool.{and_from, and_parts, le-leb}
use Rattle.std.proofs.lemmas.List.{length-map, map-append, append-nil, take_more}
use Rattle.std.proofs.lemmas.List.Folds.{list_all-append}
use Rattle.std.proofs.lemmas.List.Elements.{Contains-append_left, Contains-append_right, Contains-append_cases}
use Rattle.std.proofs.lemmas.Grind.{flat_map-append}
use Rattle.strat_base.specs.Entries.{Entry, is_ascending}
use Rattle.strat_base.specs.declared.descriptors.ArrayDesc.{ArrayDesc}
use Rattle.strat_base.proofs.ResultFacts.{option_cases}
use Rattle.def_crash.specs.Image.{Image}
use Rattle.def_crash.specs.Faults.{ReadsAtMost}
use Rattle.def_crash.specs.Moments.{DiskView, Exposes, OnlyReads}
use Rattle.def_bytes.specs.Arrays.{blocks_of, entries_on}
use Rattle.def_check.specs.Marked.{marked, marked_runs}
use Rattle.strat_merge.specs.Gathered.{are_under}
use Rattle.strat_merge.specs.Runs.{RunView, blocks_left, IsBadFor}
use Rattle.strat_promote.specs.Job.{blocks_listed}
use Rattle.strat_promote.specs.Leads.{misfit_in}
use Rattle.strat_promote.specs.Opening.{IsBlamed}
use Rattle.strat_check.specs.LevelRuns.{is_in_order, kept_on, OpensRun, AreLevelRuns}

marked_last : (i : ℕ) (runs : List (List Entry)) (run : List Entry) → marked_runs i (runs ++ run ∷ []) ≡ marked_runs i runs ++ map (marked (i + length runs)) run ∷ []
marked_last i [] run = let same : i ≡ i + 0 = omega arith in ap (λ (j : ℕ). map (marked j) run ∷ []) same
marked_last i (first ∷ runs) run =
    let same : suc i + length runs ≡ i + suc (length runs) = omega arith in
    ap (λ (rest : List (List Entry)). map (marked i) first ∷ rest) (marked_last (suc i) runs run ∙ ap (λ (j : ℕ). marked_runs (suc i) runs ++ map (marked j) run ∷ []) same)

-- an array in order has entries that ascend
in_order : (f : Image) (a : ArrayDesc) → is_in_order f a ≡ true → (c : List Entry) × (entries_on f (blocks_of a.extents) ≡ Some c) × (is_ascending c ≡ true)
in_order f a order =
    elim (option_cases (entries_on f (blocks_of a.extents))) [
      | inl none ↦ absurd (true≢false (sym order ∙ ap (λ (o : Option (List Entry)). option_map_or is_ascending o false) none))
      | inr some ↦ (some.0, some.1, sym (ap (λ (o : Option (List Entry)). option_map_or is_ascending o false) some.1) ∙ order)
    ]

-- a block is bad for a run of the one list or of the other
bad_cases : (f : Image) (xs ys : List RunView) (b i : ℕ) (run : RunView) → slice_get (xs ++ ys) i ≡ Some run → run.misfit f ≡ Some b → IsBadFor xs f b ⊎ IsBadFor ys f b
bad_cases f [] ys b i run there says = inr (record { at = i; run = run; there = there; says = says })
bad_cases f (x ∷ xs) ys b zero run there says = inl (record { at = 0; run = run; there = there; says = says })
bad_cases f (x ∷ xs) ys b (suc i) run there says =
    elim (bad_cases f xs ys b i run there says) [
      | inl bad ↦ inl (record { at = suc bad.at; run = bad.run; there = bad.there; says = bad.says })
      | inr bad ↦ inr bad
    ]

bad_of_one : (f : Image) (run : RunView) (b : ℕ) → IsBadFor (run ∷ []) f b → run.misfit f ≡ Some b
bad_of_one f run b bad = go bad.at bad.run bad.there bad.says
  where
    go : (i : ℕ) (other : RunView) → slice_get (run ∷ []) i ≡ Some other → other.misfit f ≡ Some b → run.misfit f ≡ Some b
    go zero other there says = let same : run ≡ other = cc in ap (λ (r : RunView). r.misfit f) same ∙ says
    go (suc i) other there says = absurd (cc)

-- one more run
pub opened_more : (n : ℕ) (disk after : DiskView) (xs : List ArrayDesc) (a : ArrayDesc) (old new : List RunView) (first then last : ℕ) → AreLevelRuns n disk xs old first then → OnlyReads disk after
    → OpensRun n after (length xs) a old new then last → AreLevelRuns n disk (xs ++ a ∷ []) new first last
opened_more n disk after xs a old new first then last one same more =
    let later = one.later in
    let most = one.most in
    let on = more.read.later in
    let bound = more.read.most in
    let blocks : blocks_listed (xs ++ a ∷ []) ≡ blocks_listed xs ++ blocks_of a.extents =
    flat_map-append (λ (x : ArrayDesc). blocks_of x.extents) xs (a ∷ []) ∙ ap (λ (bs : List ℕ). blocks_listed xs ++ bs) (append-nil (blocks_of a.extents)) in
    let still : blocks_left (old ++ more.run ∷ []) ≡ blocks_left old ++ more.run.blocks =
    flat_map-append (λ (run : RunView). run.blocks) old (more.run ∷ []) ∙ ap (λ (bs : List ℕ). blocks_left old ++ bs) (append-nil more.run.blocks) in
    let size : length (blocks_listed (xs ++ a ∷ [])) ≡ length (blocks_listed xs ++ blocks_of a.extents) = ap (λ (bs : List ℕ). length bs) blocks in
    let parts = length-append (blocks_listed xs) (blocks_of a.extents) in
    let count : length (blocks_left (old ++ more.run ∷ [])) ≡ length (blocks_left old ++ more.run.blocks) = ap (λ (bs : List ℕ). length bs) still in
    let counts = length-append (blocks_left old) more.run.blocks in
    let front : length (blocks_of a.extents) ≡ length (more.read.read ++ more.run.blocks) = ap (λ (bs : List ℕ). length bs) more.read.split in
    let fronts = length-append more.read.read more.run.blocks in
    subst (λ (runs : List RunView). AreLevelRuns n disk (xs ++ a ∷ []) runs first last) (sym more.behind) (record {
      left = λ f exposed order.
          let orders = and_parts (list_all (is_in_order f) xs) (list_all (is_in_order f) (a ∷ [])) (sym (list_all-append (is_in_order f) xs (a ∷ [])) ∙ order) in
          let its = in_order f a (and_parts (is_in_order f a) true orders.1).0 in
          let here : more.run.left f ≡ map (marked (length xs)) (kept_on f n a) =
          more.left f (same.same ∙ exposed) its.0 its.1 its.2
          ∙ ap (λ (o : Option (List Entry)). map (marked (length xs)) (filter (λ e. ltb e.version n) (unwrap_or o []))) (sym its.1) in
          let place : 0 + length (map (kept_on f n) xs) ≡ length xs = omega (arith, length-map xs (kept_on f n)) in
          map-append (λ (run : RunView). run.left f) old (more.run ∷ [])
          ∙ (λ j. one.left f exposed orders.0 j ++ here j ∷ [])
          ∙ ap (λ (k : ℕ). marked_runs 0 (map (kept_on f n) xs) ++ map (marked k) (kept_on f n a) ∷ []) (sym place)
          ∙ sym (ap (marked_runs 0) (map-append (kept_on f n) xs (a ∷ [])) ∙ marked_last 0 (map (kept_on f n) xs) (kept_on f n a));
      len = let len = one.len in omega (arith, len, length-append old (more.run ∷ []), length-append xs (a ∷ []));
      under =
          let versions = more.under in
          list_all-append (λ (run : RunView). leb run.versions (16384 * n)) old (more.run ∷ [])
          ∙ and_from (are_under (16384 * n) old) (are_under (16384 * n) (more.run ∷ [])) one.under (and_from (leb more.run.versions (16384 * n)) true (le-leb more.run.versions (16384 * n) (omega (arith, versions))) refl);
      blames = λ f b exposed bad.
          elim (bad_cases f old (more.run ∷ []) b bad.at bad.run bad.there bad.says) [
            | inl left ↦ let is = one.blames f b exposed left in record { array = is.array; one = Contains-append_left xs (a ∷ []) is.array is.one; misfit = is.misfit }
            | inr right ↦ record { array = a; one = Contains-append_right xs (a ∷ []) a (0, omega arith, refl); misfit = more.blames f b (same.same ∙ exposed) (bad_of_one f more.run b right) }
          ];
      within = λ b here.
          subst (λ (bs : List ℕ). Contains bs b) (sym blocks)
          (elim (Contains-append_cases (blocks_left old) more.run.blocks b (subst (λ (bs : List ℕ). Contains bs b) still here)) [
            | inl left ↦ Contains-append_left (blocks_listed xs) (blocks_of a.extents) b (one.within b left)
            | inr right ↦
                Contains-append_right (blocks_listed xs) (blocks_of a.extents) b
                (subst (λ (bs : List ℕ). Contains bs b) (sym more.read.split) (Contains-append_right more.read.read more.run.blocks b right))
          ]);
      later = omega (arith, later, on);
      most = omega (arith, most, bound, size, parts, count, counts, front, fronts);
    })

-- the blocks of an array of some, and those before it
pub listed_at : (all : List ArrayDesc) (i : ℕ) (a : ArrayDesc) (b : ℕ) → i < length all → a ≡ get_or all i a → Contains (blocks_of a.extents) b → Contains (blocks_listed all) b
listed_at [] i a b within is here = absurd (omega arith)
listed_at (x ∷ all) zero a b within is here = Contains-append_left (blocks_of x.extents) (blocks_listed all) b (subst (λ (y : ArrayDesc). Contains (blocks_of y.extents) b) is here)
listed_at (x ∷ all) (suc i) a b within is here = Contains-append_right (blocks_of x.extents) (blocks_listed all) b (listed_at all i a b (omega arith) is here)

listed_size : (all : List ArrayDesc) (i : ℕ) (a : ArrayDesc) → i < length all → a ≡ get_or all i a → length (blocks_listed (take i all)) + length (blocks_of a.extents) ≤ length (blocks_listed all)
listed_size [] i a within is = absurd (omega arith)
listed_size (x ∷ all) zero a within is =
    let same : length (blocks_of a.extents) ≡ length (blocks_of x.extents) = ap (λ (y : ArrayDesc). length (blocks_of y.extents)) is in
    omega (arith, same, length-append (blocks_of x.extents) (blocks_listed all))
listed_size (x ∷ all) (suc i) a within is =
    let rest = listed_size all i a (omega arith) is in
    omega (arith, rest, length-append (blocks_of x.extents) (blocks_listed (take i all)), length-append (blocks_of x.extents) (blocks_listed all))

pub array_next : (all : List ArrayDesc) (i : ℕ) (a : ArrayDesc) → i < length all → a ≡ get_or all i a → take (i + 1) all ≡ take i all ++ a ∷ []
array_next all i a within is = take_more all i a within ∙ ap (λ (x : ArrayDesc). take i all ++ x ∷ []) (sym is)

-- a block of an array that is bad for it is blamed, and it was read as often as it may be
pub array_blamed : (all : List ArrayDesc) (i : ℕ) (a : ArrayDesc) (start now : DiskView) (b : ℕ) → i < length all → a ≡ get_or all i a → OnlyReads start now
    → Contains (blocks_of a.extents) b × ((f : Image) → Exposes now f → misfit_in f a ≡ Some b) → IsBlamed start all b
array_blamed all i a start now b within is same blamed = (
  listed_at all i a b within is blamed.0,
  λ f exposed. record { array = a; one = (i, within, sym is); misfit = blamed.1 f (same.same ∙ exposed) },
)

pub array_reads : (n : ℕ) (start : DiskView) (all : List ArrayDesc) (i : ℕ) (a : ArrayDesc) (runs : List RunView) (first then last : ℕ) → i < length all → a ≡ get_or all i a → AreLevelRuns n start (take i all) runs first then
    → ReadsAtMost (length (blocks_of a.extents)) then last → ReadsAtMost (length (blocks_listed all)) first last
array_reads n start all i a runs first then last within is opened reads =
    let most = opened.most in
    let later = opened.later in
    let bound = reads.bound in
    let on = reads.later in
    let size = listed_size all i a within is in
    record { later = omega (arith, later, on); bound = omega (arith, most, bound, size) }

-- what holds holds where there is an error
pub on_err : {T E : Type 0} (r : Result T E) (P : Type 0) → P → OnErr r P
on_err (Ok x) P p = tt
on_err (Err e) P p = p

-- a block that a merge of the runs blames is one of the arrays'
pub pass_blamed : (n : ℕ) (disk after : DiskView) (arrays : List ArrayDesc) (runs : List RunView) (first then : ℕ) → AreLevelRuns n disk arrays runs first then → OnlyReads disk after
    → (b : ℕ) → Contains (blocks_left runs) b → ((f : Image) → Exposes after f → IsBadFor runs f b) → IsBlamed disk arrays b
pass_blamed n disk after arrays runs first then opened same b here bad = (opened.within b here, λ f exposed. opened.blames f b exposed (bad f (same.same ∙ exposed)))
