-- A chain as it is written, block by block from its end.
use Rattle.std.proofs.Common.{◌≡◌, ◌≢◌, ◌<◌, ◌≤◌, ◌+◌, ◌-◌, ◌*◌, ◌^◌, ℕ, zero, suc, Bool, true, get_or, List, [], ◌∷◌, ◌++◌, length, take, drop, replicate, Option, Some, None, IsSome, inl, inr, refl, sym, ap, ◌∙◌, subst, arith, length-append, length-take, length-drop, true≢false}
use Rattle.std.specs.Prelude.{⊤}
use Rattle.std.specs.List.{AllByRecursion, AllPairs, range_with_len}
use Rattle.std.proofs.Math.Seq.{drop-append-add}
use Rattle.std.proofs.lemmas.List.{take_at, take_all, drop_all, drop-replicate, drop_more}
use Rattle.std.proofs.lemmas.Bool.{cases_lt}
use Rattle.strat_base.specs.declared.descriptors.Extent.{Extent}
use Rattle.strat_base.specs.Numbers.{be, placed}
use Rattle.strat_base.proofs.NumberLemmas.{length-be}
use Rattle.def_crash.specs.Image.{Image, window, patch}
use Rattle.def_crash.specs.Blocks.{KeepsBlock, TearsBlocks}
use Rattle.def_crash.specs.Moments.{DiskView, Exposes, Passes, Writes}
use Rattle.def_crash.proofs.ImageLemmas.{window_same, window_patch, outside_patch, outside_same_above}
use Rattle.def_crash.proofs.BlockLemmas.{exposed_once, blocks_refl, blocks_trans}
use Rattle.def_crash.proofs.MomentLemmas.{at_told}
use Rattle.strat_extent.specs.Blocks.{SpaceView, AreRuns, inside, times_in, total_len, is_free}
use Rattle.strat_extent.specs.Change.{IsMarked}
use Rattle.strat_extent.proofs.BlockLemmas.{total_listed, marked_none}
use Rattle.strat_extent.proofs.ChangeLemmas.{is_free_of}
use Rattle.strat_extent.proofs.CountLemmas.{inside_in}
use Rattle.strat_extent.proofs.RunLemmas.{none_below, none_above}
use Rattle.def_bytes.specs.Arrays.{blocks_of}
use Rattle.def_bytes.specs.Chain.{next_block, link_bytes, chain_length, HoldsChain, IsChain}
use Rattle.strat_manifest.specs.Chains.{AreAbove, LeavesChain, PutsRun}

-- a part from an offset on has all that follows
pub all_behind : (at : ℕ) (bytes : List ℕ) → take (length bytes - at) (drop at bytes) ≡ drop at bytes
all_behind at bytes = take_all (length bytes - at) (drop at bytes) (let n = length-drop at bytes in omega (arith, n))

-- a block of a chain, put together over zeros
pub link_put : (next : ℕ) (bytes zeros first all : List ℕ) → length bytes ≤ 4092 → zeros ≡ replicate 4096 0 → first ≡ placed zeros 0 (be 4 next) → all ≡ placed first 4 bytes → all ≡ link_bytes next bytes
unfolding link_bytes be
link_put next bytes zeros first all fits none one two =
    let number : first ≡ be 4 next ++ replicate 4092 0 =
    one ∙ ap (λ (z : List ℕ). be 4 next ++ drop (0 + length (be 4 next)) z) none ∙ ap (λ (n : ℕ). be 4 next ++ drop n (replicate 4096 0)) (length-be 4 next) ∙ ap (λ (z : List ℕ). be 4 next ++ z) (drop-replicate 4 4096 0) in
    let front : take 4 (be 4 next ++ replicate 4092 0) ≡ be 4 next = take_at (be 4 next) (replicate 4092 0) 4 (length-be 4 next) in
    let back : drop (4 + length bytes) (be 4 next ++ replicate 4092 0) ≡ replicate (4092 - length bytes) 0 =
    ap (λ (n : ℕ). drop (n + length bytes) (be 4 next ++ replicate 4092 0)) (sym (length-be 4 next)) ∙ drop-append-add (be 4 next) (replicate 4092 0) (length bytes) ∙ drop-replicate (length bytes) 4092 0 in
    two ∙ ap (λ (l : List ℕ). placed l 4 bytes) number ∙ (λ i. front i ++ (bytes ++ back i))

length-replicate : (n : ℕ) → length {A = ℕ} (replicate n 0) ≡ n
length-replicate zero = refl
length-replicate (suc n) = let rest = length-replicate n in omega (arith, rest)

pub length_link : (next : ℕ) (bytes : List ℕ) → length bytes ≤ 4092 → length (link_bytes next bytes) ≡ 4096
unfolding link_bytes
length_link next bytes fits =
    omega (
      arith,
      length-append (be 4 next) (bytes ++ replicate (4092 - length bytes) 0),
      length-append bytes (replicate (4092 - length bytes) 0),
      length-be 4 next,
      length-replicate (4092 - length bytes),
    )

-- blocks that keep their bytes hold what they held
holds_local : (f g : Image) (blocks bytes : List ℕ) → AllByRecursion (λ b. KeepsBlock b f g) blocks → HoldsChain f blocks bytes → HoldsChain g blocks bytes
unfolding HoldsChain
holds_local f g [] bytes keeps held = held
holds_local f g (b ∷ blocks) bytes keeps held = (window_same f g (4096 * b) 4096 keeps.0 ∙ held.0, holds_local f g blocks (drop 4092 bytes) keeps.1 held.1)

above_kept : (f : Image) (b : ℕ) (link rest : List ℕ) → length link ≡ 4096 → AreAbove (b + 1) rest → AllByRecursion (λ q. KeepsBlock q f (patch f (4096 * b) link)) rest
above_kept f b link [] long above = tt
above_kept f b link (q ∷ rest) long above =
    let far : 4096 * b + length link ≤ 4096 * q = omega (arith, above.0) in
    (outside_same_above (4096 * b) (length link) (4096 * q) 4096 far (outside_patch f (4096 * b) link), above_kept f b link rest long above.1)

-- one block was written in front of a chain
link_written : (old new : DiskView) (b next : ℕ) (bytes rest : List ℕ) (f g : Image) → Exposes old f → Exposes new g → Writes old new (4096 * b) (link_bytes next (take 4092 bytes))
    → next ≡ next_block rest → AreAbove (b + 1) rest → HoldsChain f rest (drop 4092 bytes) → HoldsChain g (b ∷ rest) bytes
unfolding HoldsChain
link_written old new b next bytes rest f g told now wrote is above held =
    let link : List ℕ = link_bytes next (take 4092 bytes) in
    let long : length link ≡ 4096 = length_link next (take 4092 bytes) (let n = length-take 4092 bytes in omega (arith, n)) in
    let put : new.content ≡ Some (patch f (4096 * b) link) = at_told old.content (λ h. new.content ≡ Some (patch h (4096 * b) link)) f told wrote in
    let same : patch f (4096 * b) link ≡ g = exposed_once new (patch f (4096 * b) link) g put now in
    subst (λ (h : Image). (window h (4096 * b) 4096 ≡ link_bytes (next_block rest) (take 4092 bytes)) × HoldsChain h rest (drop 4092 bytes)) same (
      ap (window (patch f (4096 * b) link) (4096 * b)) (sym long) ∙ window_patch f (4096 * b) link ∙ ap (λ (n : ℕ). link_bytes n (take 4092 bytes)) is,
      holds_local f (patch f (4096 * b) link) rest (drop 4092 bytes) (above_kept f b link rest long above) held,
    )

-- a disk that exposes its content exposes one
pub exposed_then : (v : DiskView) → IsSome v.content → (f : Image) × Exposes v f
exposed_then v some = go v.content refl some
  where
    go : (o : Option Image) → v.content ≡ o → IsSome o → (f : Image) × Exposes v f
    go None e is = absurd (true≢false (sym is))
    go (Some f) e is = (f, e)

-- an exposed content stays exposed
pub told_then : (old new : DiskView) (f : Image) → Passes old new → Exposes old f → (g : Image) × Exposes new g
told_then old new f passes told = exposed_then new (passes.exposed (some old.content told))
  where
    some : (o : Option Image) → o ≡ Some f → IsSome o
    some None e = absurd (cc)
    some (Some x) e = refl

drop_none : (k : ℕ) → drop {A = ℕ} k [] ≡ []
drop_none zero = refl
drop_none (suc k) = refl

drop_twice : (m n : ℕ) (xs : List ℕ) → drop m (drop n xs) ≡ drop (n + m) xs
drop_twice m zero xs = ap (λ (k : ℕ). drop k xs) (let e : m ≡ 0 + m = omega arith in e)
drop_twice m (suc n) [] = drop_none m ∙ sym (drop_none (suc n + m))
drop_twice m (suc n) (x ∷ xs) = drop_twice m n xs ∙ ap (λ (k : ℕ). drop k (x ∷ xs)) (let e : suc (n + m) ≡ suc n + m = omega arith in e)

-- blocks from a place on hold these bytes
abbrev pub RunHolds : Image → ℕ → ℕ → List ℕ → List ℕ → Type 0
RunHolds g low head blocks bytes = (head ≡ next_block blocks) × AreAbove low blocks × HoldsChain g blocks bytes

-- a run of which the last blocks were written, in front of a chain
pub record RunSoFar (old now : DiskView) (start n next left head : ℕ) (bytes : List ℕ) : Type 0 where
  pub done : ℕ
  pub count : left + done ≡ n
  pub put : (f g : Image) (rest : List ℕ) → Exposes old f → Exposes now g → next ≡ next_block rest → AreAbove (start + n) rest → HoldsChain f rest (drop (4092 * n) bytes)
      → RunHolds g (start + left) head (range_with_len (start + left) done ++ rest) (drop (4092 * left) bytes)
  pub tears : (free : ℕ → Bool) → ((b : ℕ) → start ≤ b → b < start + n → free b ≡ true) → TearsBlocks free old now
  pub first : 0 < done → head ≡ start + left

above_weaker : (low low2 : ℕ) (blocks : List ℕ) → low2 ≤ low → AreAbove low blocks → AreAbove low2 blocks
above_weaker low low2 [] le above = tt
above_weaker low low2 (b ∷ blocks) le above = ((let a = above.0 in omega arith), above_weaker low low2 blocks le above.1)

pub run_more : (old mid new : DiskView) (start n next left later head block : ℕ) (bytes : List ℕ) → RunSoFar old mid start n next left head bytes → left ≡ later + 1 → block ≡ start + later
    → Writes mid new (4096 * block) (link_bytes head (take 4092 (drop (4092 * later) bytes)))
    → ((free : ℕ → Bool) → free block ≡ true → TearsBlocks free mid new)
    → RunSoFar old new start n next later block bytes
run_more old mid new start n next left later head block bytes so more place wrote tears = record {
  done = suc so.done;
  count = omega (arith, so.count);
  put = λ f g rest told now is above held.
      let passes : Passes old mid = (so.tears (λ b. true) (λ b from to. refl)).time in
      let h = told_then old mid f passes told in
      let before = so.put f h.0 rest told h.1 is above held in
      let blocks : List ℕ = range_with_len (start + left) so.done ++ rest in
      let text : drop (4092 * left) bytes ≡ drop 4092 (drop (4092 * later) bytes) = ap (λ (k : ℕ). drop k bytes) (let e : 4092 * left ≡ 4092 * later + 4092 = omega arith in e) ∙ sym (drop_twice 4092 (4092 * later) bytes) in
      let far : AreAbove (block + 1) blocks = above_weaker (start + left) (block + 1) blocks (omega arith) before.1 in
      let there : HoldsChain g (block ∷ blocks) (drop (4092 * later) bytes) =
      link_written mid new block head (drop (4092 * later) bytes) blocks h.0 g h.1 now wrote before.0 far (subst (HoldsChain h.0 blocks) text before.2) in
      let list : block ∷ blocks ≡ range_with_len (start + later) (suc so.done) ++ rest =
      (λ i. place i ∷ (range_with_len ((let e : start + left ≡ (start + later) + 1 = omega arith in e) i) so.done ++ rest)) in (
        place,
        subst (AreAbove (start + later)) list ((let e : start + later ≤ block = omega arith in e), above_weaker (start + left) (start + later) blocks (omega arith) before.1),
        subst (λ (l : List ℕ). HoldsChain g l (drop (4092 * later) bytes)) list there,
      );
  tears = λ free frees.
      blocks_trans free old mid new (so.tears free frees) (tears free (frees block (omega arith) (omega (arith, so.count))));
  first = λ some. place;
}

pub run_all : (old now : DiskView) (start n next left head : ℕ) (bytes : List ℕ) → RunSoFar old now start n next left head bytes → left ≡ 0 → PutsRun old now start n next bytes
run_all old now start n next left head bytes so none f g rest told is_now is above held =
    let all = so.put f g rest told is_now is above held in
    let place : start + left ≡ start = omega arith in
    let count : so.done ≡ n = omega (arith, so.count) in
    subst (λ (k : ℕ). HoldsChain g (range_with_len start n ++ rest) (drop (4092 * k) bytes)) none
    (subst (λ (l : List ℕ). HoldsChain g l (drop (4092 * left) bytes)) (λ i. range_with_len (place i) (count i) ++ rest) all.2)

-- what one write changes in a run
pub run_tears : (old mid new : DiskView) (start n next left head block : ℕ) (bytes : List ℕ) → RunSoFar old mid start n next left head bytes → 0 < left → block ≡ start + (left - 1)
    → ((free : ℕ → Bool) → free block ≡ true → TearsBlocks free mid new)
    → (free : ℕ → Bool) → ((b : ℕ) → start ≤ b → b < start + n → free b ≡ true) → TearsBlocks free old new
run_tears old mid new start n next left head block bytes so some place tears free frees =
    blocks_trans free old mid new (so.tears free frees) (tears free (frees block (omega arith) (omega (arith, so.count))))

-- blocks from one on and below another, each above those before it
abbrev AreRising : ℕ → ℕ → List ℕ → Type 0
AreRising low high [] = ⊤
AreRising low high (b ∷ blocks) = (low ≤ b) × (b < high) × AreRising (b + 1) high blocks

rising_weaker : (low low2 high : ℕ) (blocks : List ℕ) → low2 ≤ low → AreRising low high blocks → AreRising low2 high blocks
rising_weaker low low2 high [] le rising = tt
rising_weaker low low2 high (b ∷ blocks) le rising = ((let r = rising.0 in omega arith), rising.1, rising.2)

rising_range : (low high start n : ℕ) (rest : List ℕ) → low ≤ start → start + n ≤ high → AreRising (start + n) high rest → AreRising low high (range_with_len start n ++ rest)
rising_range low high start zero rest le within rising = rising_weaker (start + 0) low high rest (omega arith) rising
rising_range low high start (suc n) rest le within rising =
    (le, (let e : start < high = omega arith in e), rising_range (start + 1) high (start + 1) n rest (omega arith) (omega arith) (rising_weaker (start + suc n) (start + 1 + n) high rest (omega arith) rising))

-- the blocks of runs rise
rising_runs : (low high : ℕ) (xs : List Extent) → AreRuns low xs (high + 1) → AreRising low high (blocks_of xs)
rising_runs low high [] runs = tt
rising_runs low high (x ∷ xs) runs =
    rising_range low high x.start x.len (blocks_of xs) runs.0 (let r = runs.2 in omega arith) (rising_weaker (x.start + x.len + 1) (x.start + x.len) high (blocks_of xs) (omega arith) (rising_runs (x.start + x.len + 1) high xs runs.3))

rising_above : (low low2 high : ℕ) (blocks : List ℕ) → low2 ≤ low → AreRising low high blocks → AreAbove low2 blocks
rising_above low low2 high [] le rising = tt
rising_above low low2 high (b ∷ blocks) le rising = ((let r = rising.0 in omega arith), rising_above (b + 1) low2 high blocks (let r = rising.0 in omega arith) rising.2)

rising_named : (low high : ℕ) (blocks : List ℕ) → 1 ≤ low → high ≤ 4294967295 → AreRising low high blocks → AllByRecursion (λ b. (1 ≤ b) × (b < 2 ^ 32 - 1)) blocks
rising_named low high [] some within rising = tt
rising_named low high (b ∷ blocks) some within rising =
    (((let r = rising.0 in omega arith), (let r = rising.1 in omega arith)), rising_named (b + 1) high blocks (omega arith) within rising.2)

above_at : (low : ℕ) (blocks : List ℕ) (k d : ℕ) → AreAbove low blocks → k < length blocks → low ≤ get_or blocks k d
above_at low [] k d above lt = absurd (omega arith)
above_at low (b ∷ blocks) zero d above lt = above.0
above_at low (b ∷ blocks) (suc k) d above lt = above_at low blocks k d above.1 (omega arith)

pairs_more : (b : ℕ) (blocks : List ℕ) → AreAbove (b + 1) blocks → AllPairs (λ a c. a ≢ c) blocks → AllPairs (λ a c. a ≢ c) (b ∷ blocks)
pairs_more b blocks above pairs zero zero d lt within = absurd (omega arith)
pairs_more b blocks above pairs zero (suc j) d lt within = λ same. let far = above_at (b + 1) blocks j d above (omega arith) in omega (arith, far, same)
pairs_more b blocks above pairs (suc i) zero d lt within = absurd (omega arith)
pairs_more b blocks above pairs (suc i) (suc j) d lt within = pairs i j d (omega arith) (omega arith)

rising_distinct : (low high : ℕ) (blocks : List ℕ) → AreRising low high blocks → AllPairs (λ a b. a ≢ b) blocks
rising_distinct low high [] rising = λ i j d lt within. absurd (omega arith)
rising_distinct low high (b ∷ blocks) rising = pairs_more b blocks (rising_above (b + 1) (b + 1) high blocks (omega arith) rising.2) (rising_distinct (b + 1) high blocks rising.2)

total_front : (xs : List Extent) (i : ℕ) → total_len (take i xs) ≤ total_len xs
total_front xs zero = omega arith
total_front [] (suc i) = omega arith
total_front (x ∷ xs) (suc i) = let rest = total_front xs i in omega (arith, rest)

total_next : (xs : List Extent) (i : ℕ) (x : Extent) → i < length xs → x ≡ get_or xs i x → total_len (take (suc i) xs) ≡ total_len (take i xs) + x.len
total_next [] i x lt is = absurd (omega arith)
total_next (y ∷ xs) zero x lt is = let e : y.len ≡ x.len = ap (λ (z : Extent). z.len) (sym is) in omega (arith, e)
total_next (y ∷ xs) (suc i) x lt is = let rest = total_next xs i x (omega arith) is in omega (arith, rest)

times_there : (xs : List Extent) (i : ℕ) (x : Extent) (b : ℕ) → i < length xs → x ≡ get_or xs i x → x.start ≤ b → b < x.start + x.len → 0 < times_in xs b
times_there [] i x b lt is from to = absurd (omega arith)
times_there (y ∷ xs) zero x b lt is from to =
    let here : inside y.start (y.start + y.len) b ≡ 1 = subst (λ (z : Extent). inside z.start (z.start + z.len) b ≡ 1) is (inside_in x.start (x.start + x.len) b from to) in omega (arith, here)
times_there (y ∷ xs) (suc i) x b lt is from to = let rest = times_there xs i x b (omega arith) is from to in omega (arith, rest)

runs_drop : (low high : ℕ) (xs : List Extent) (i : ℕ) (x : Extent) → AreRuns low xs high → i < length xs → x ≡ get_or xs i x
    → (0 < x.len) × (x.start + x.len < high) × AreRuns (x.start + x.len + 1) (drop (suc i) xs) high
runs_drop low high [] i x runs lt is = absurd (omega arith)
runs_drop low high (y ∷ xs) zero x runs lt is =
    subst (λ (z : Extent). (0 < z.len) × (z.start + z.len < high) × AreRuns (z.start + z.len + 1) xs high) (sym is) (runs.1, runs.2, runs.3)
runs_drop low high (y ∷ xs) (suc i) x runs lt is = runs_drop (y.start + y.len + 1) high xs i x runs.3 (omega arith) is

-- extents of which the last ones were written
pub record ExtentsSoFar (old now : DiskView) (extents : List Extent) (i at head : ℕ) (bytes : List ℕ) : Type 0 where
  pub put : LeavesChain old now (blocks_of (drop i extents)) (drop at bytes)
  pub first : head ≡ next_block (blocks_of (drop i extents))
  pub place : at ≡ 4092 * total_len (take i extents)
  pub within : i ≤ length extents
  pub tears : (free : ℕ → Bool) → ((b : ℕ) → 0 < times_in extents b → free b ≡ true) → TearsBlocks free old now

drop_past : (n : ℕ) (bytes : List ℕ) → length bytes ≤ n → drop n bytes ≡ []
drop_past n [] le = drop_none n
drop_past zero (x ∷ bytes) le = absurd (omega arith)
drop_past (suc n) (x ∷ bytes) le = drop_past n bytes (omega arith)

pub extents_none : (v : DiskView) (extents : List Extent) (at i : ℕ) (bytes : List ℕ) → i ≡ length extents → at ≡ 4092 * total_len extents → length bytes ≤ at → ExtentsSoFar v v extents i at 0 bytes
unfolding HoldsChain
extents_none v extents at i bytes all place long =
    let none : drop i extents ≡ [] = drop_all i extents (omega arith) in record {
      put = λ told g now. subst (λ (l : List Extent). HoldsChain g (blocks_of l) (drop at bytes)) (sym none) (drop_past at bytes long);
      first = ap (λ (l : List Extent). next_block (blocks_of l)) (sym none);
      place = place ∙ ap (λ (l : List Extent). 4092 * total_len l) (sym (take_all i extents (omega arith)));
      within = omega arith;
      tears = λ free frees. blocks_refl free v;
    }

-- what is to be known of the next extent before its run is written
pub extent_fits : (extents : List Extent) (i j at : ℕ) (run : Extent) (bytes : List ℕ) → AreRuns 0 extents (2 ^ 32) → total_len extents ≡ chain_length (length bytes) → i ≡ j + 1 → j < length extents → run ≡ get_or extents j run
    → at ≡ 4092 * total_len (take i extents)
    → (0 < run.len) × (run.start + run.len ≤ 4294967295) × (4092 * run.len ≤ at) × (at - 4092 * run.len ≤ length bytes) × (4092 * run.len ≤ length (drop (at - 4092 * run.len) bytes) + 4091)
extent_fits extents i j at run bytes runs total next lt is place =
    let one = runs_drop 0 (2 ^ 32) extents j run runs lt is in
    let some = one.0 in
    let high = one.1 in
    let more : total_len (take i extents) ≡ total_len (take j extents) + run.len = ap (λ (k : ℕ). total_len (take k extents)) (let e : i ≡ suc j = omega arith in e) ∙ total_next extents j run lt is in
    let front = total_front extents i in
    let most : 4092 * chain_length (length bytes) ≤ length bytes + 4091 = omega arith in
    let left = length-drop (at - 4092 * run.len) bytes in
    (some, (let e : run.start + run.len ≤ 4294967295 = omega arith in e), (let e : 4092 * run.len ≤ at = omega arith in e), (let e : at - 4092 * run.len ≤ length bytes = omega arith in e), (let e : 4092 * run.len ≤ length (drop (at - 4092 * run.len) bytes) + 4091 = omega arith in e))

module _ (old mid new : DiskView) (extents : List Extent) (i j at head : ℕ) (run : Extent) (bytes : List ℕ) (runs : AreRuns 0 extents (2 ^ 32)) (next : i ≡ j + 1) (lt : j < length extents) (is : run ≡ get_or extents j run)
    (so : ExtentsSoFar old mid extents i at head bytes) (tears : (free : ℕ → Bool) → ((b : ℕ) → run.start ≤ b → b < run.start + run.len → free b ≡ true) → TearsBlocks free mid new) where
  pub extents_torn : (free : ℕ → Bool) → ((b : ℕ) → 0 < times_in extents b → free b ≡ true) → TearsBlocks free old new
  extents_torn free frees = blocks_trans free old mid new (so.tears free frees) (tears free (λ b from to. frees b (times_there extents j run b lt is from to)))

  pub extents_more : (first : ℕ) → first ≡ run.start → PutsRun mid new run.start run.len head (drop (at - 4092 * run.len) bytes) → ExtentsSoFar old new extents j (at - 4092 * run.len) first bytes
  unfolding extents_torn
  extents_more first begins put =
      let one = runs_drop 0 (2 ^ 32) extents j run runs lt is in
      let some = one.0 in
      let rest : List ℕ = blocks_of (drop i extents) in
      let after : i ≡ suc j = omega arith in
      let more : total_len (take i extents) ≡ total_len (take j extents) + run.len = ap (λ (k : ℕ). total_len (take k extents)) after ∙ total_next extents j run lt is in
      let place = so.place in
      let split : drop j extents ≡ run ∷ drop i extents = drop_more extents j run lt ∙ (λ k. sym is k ∷ drop (sym next k) extents) in
      let blocks : blocks_of (drop j extents) ≡ range_with_len run.start run.len ++ rest = ap blocks_of split in
      let behind : drop (4092 * run.len) (drop (at - 4092 * run.len) bytes) ≡ drop at bytes = drop_twice (4092 * run.len) (at - 4092 * run.len) bytes ∙ ap (λ (k : ℕ). drop k bytes) (let e : at - 4092 * run.len + 4092 * run.len ≡ at = omega arith in e) in
      let above : AreAbove (run.start + run.len) rest =
      rising_above (run.start + run.len + 1) (run.start + run.len) 4294967295 rest (omega arith) (rising_runs (run.start + run.len + 1) 4294967295 (drop i extents) (subst (λ (k : ℕ). AreRuns (run.start + run.len + 1) (drop k extents) (2 ^ 32)) (sym after) one.2)) in
      let passes : Passes old mid = (so.tears (λ b. true) (λ b there. refl)).time in record {
        put = λ told g now.
            let h = exposed_then mid (passes.exposed told) in
            subst (λ (l : List ℕ). HoldsChain g l (drop (at - 4092 * run.len) bytes)) (sym blocks)
            (put h.0 g rest h.1 now so.first above (subst (HoldsChain h.0 rest) (sym behind) (so.put told h.0 h.1)));
        first = begins ∙ head_of run.len some ∙ ap next_block (sym blocks);
        place = omega arith;
        within = omega arith;
        tears = extents_torn;
      }
    where
      head_of : (n : ℕ) → 0 < n → run.start ≡ next_block (range_with_len run.start n ++ blocks_of (drop i extents))
      head_of zero lt = absurd (omega arith)
      head_of (suc n) lt = refl

-- blocks that were taken were free
pub taken_free : (before after : SpaceView) (xs : List Extent) → IsMarked before xs after → AreRuns before.first xs (2 ^ 32) → (b : ℕ) → 0 < times_in xs b → is_free before b ≡ true
taken_free before after xs marked runs b some =
    is_free_of before b
    (elim (cases_lt b before.first) [ inl low ↦ absurd (let none = none_below before.first (2 ^ 32) xs b runs low in omega (arith, none, some)) | inr le ↦ le ])
    (elim (cases_lt b 4294967295) [ inl low ↦ low | inr le ↦ absurd (let none = none_above before.first (2 ^ 32) xs b runs (omega arith) in omega (arith, none, some)) ])
    (marked_none before after xs marked b some)

-- bytes that runs of blocks hold are in a chain
pub chain_made : (low : ℕ) (xs : List Extent) (bytes : List ℕ) (g : Image) → 1 ≤ low → AreRuns low xs (2 ^ 32) → total_len xs ≡ chain_length (length bytes) → HoldsChain g (blocks_of xs) bytes → IsChain g (blocks_of xs) bytes
chain_made low xs bytes g some runs total held = record {
  holds = held;
  count = sym (total_listed xs) ∙ total;
  named = rising_named low 4294967295 (blocks_of xs) some (omega arith) (rising_runs low 4294967295 xs runs);
  distinct = rising_distinct low 4294967295 (blocks_of xs) (rising_runs low 4294967295 xs runs);
}

rising_first : (low high : ℕ) (blocks : List ℕ) → AreRising low high blocks → 0 < length blocks → (low ≤ next_block blocks) × (next_block blocks < high)
rising_first low high [] rising some = absurd (omega arith)
rising_first low high (b ∷ blocks) rising some = (rising.0, rising.1)

-- the first block of runs
pub first_fits : (low first n : ℕ) (xs : List Extent) → AreRuns low xs (2 ^ 32) → total_len xs ≡ n → 1 ≤ n → first ≡ next_block (blocks_of xs) → (low ≤ first) × (first < 4294967295)
first_fits low first n xs runs total some is =
    subst (λ (b : ℕ). (low ≤ b) × (b < 4294967295)) (sym is)
    (rising_first low 4294967295 (blocks_of xs) (rising_runs low 4294967295 xs runs) (let e = total_listed xs in omega (arith, e, total, some)))
