-- An array that is counted by itself.
use Rattle.std.proofs.Common.{◌≡◌, ◌<◌, ◌≤◌, ◌+◌, ◌*◌, ◌^◌, ℕ, zero, suc, true, ltb, leb, not, ◌&&◌, List, [], ◌∷◌, ◌++◌, length, filter, Some, Result, Ok, Err, IsErrAnd, refl, sym, ap, ◌∙◌, subst, arith, length-append}
use Rattle.std.specs.List.{slice_get, flat_map, list_all}
use Rattle.std.specs.Option.{option_map}
use Rattle.std.proofs.lemmas.Bool.{and_parts, leb-true}
use Rattle.std.proofs.lemmas.List.Concat.{flat_map-append}
use Rattle.std.proofs.lemmas.List.Filters.{length-filter_both}
use Rattle.std.proofs.lemmas.Result.{err_from_is_err_and}
use Rattle.strat_base.specs.Entries.{Entry, is_ascending}
use Rattle.strat_base.specs.EntryBytes.{entry_bytes, fits_fields}
use Rattle.strat_base.specs.Numbers.{be}
use Rattle.strat_base.specs.declared.failures.Trouble.{Trouble}
use Rattle.strat_base.specs.declared.failures.Trouble.TheVariants.{Damaged, Device, NoMemory}
use Rattle.def_bytes.specs.Arrays.{block_on, entries_on}
use Rattle.def_bytes.specs.Block.{block_front, offsets, fits_block}
use Rattle.def_bytes.proofs.BlockLemmas.{block_in-some, length-offsets}
use Rattle.def_crash.specs.Faults.{HasCause}
use Rattle.def_crash.specs.Image.{Image, window}
use Rattle.def_crash.specs.Moments.{DiskView}
use Rattle.def_crash.proofs.MomentLemmas.{reads_trans, reads_refl}
use Rattle.def_promote.specs.Merging.{MergesTo}
use Rattle.def_recovery.proofs.OpeningLemmas.{map_some, next_some}
use Rattle.def_split.specs.Groups.{grouped_entries}
use Rattle.strat_merge.specs.Reading.{ReadsRuns}
use Rattle.strat_merge.specs.Runs.{RunView, IsBadFor}
use Rattle.strat_promote.proofs.BoundLemmas.{merged_fewer}

-- Reads that follow one another.
module _ {R : Type 0} (view : R → RunView) where
  -- runs were read, and nothing failed
  abbrev pub HaveRead : DiskView → DiskView → ℕ → ℕ → ℕ → ℕ → List R → List R → Type 0
  HaveRead disk after faults failed reads read old new =
      ReadsRuns {T = Unit {0}} view Device Damaged disk after faults failed reads read old new (Ok tt)

  pub read_none : (disk : DiskView) (faults reads : ℕ) (runs : List R) → HaveRead disk disk faults faults reads reads runs runs
  read_none disk faults reads runs = record {
    same = reads_refl disk;
    cause = record { later = omega arith; ok = refl; device = λ is. absurd (cc); other = tt };
    named = λ n is. absurd (cc);
    blamed = λ n is. absurd (cc);
    fewer = λ c n exposes is. is;
    left = record { fewer = λ n here. here; later = omega arith; most = omega arith };
  }

  pub read_on : {T : Type 0} (a b d : DiskView) (f g h p q r : ℕ) (old mid new : List R) (result : Result T Trouble) → HaveRead a b f g p q old mid
      → ReadsRuns view Device Damaged b d g h q r mid new result → ReadsRuns view Device Damaged a d f h p r old new result
  read_on a b d f g h p q r old mid new result one two =
      let calm : g ≡ f = one.cause.ok in
      record {
        same = reads_trans one.same two.same;
        cause = subst (λ (n : ℕ). HasCause Device n h result) calm two.cause;
        named = λ n is. one.left.fewer n (two.named n is);
        blamed = λ n is c exposes. one.fewer c n exposes (two.blamed n is c (one.same.same ∙ exposes));
        fewer = λ c n exposes is. one.fewer c n exposes (two.fewer c n (one.same.same ∙ exposes) is);
        left = record {
          fewer = λ n here. one.left.fewer n (two.left.fewer n here);
          later = let le = one.left.later in let le2 = two.left.later in omega arith;
          most = let le = one.left.most in let le2 = two.left.most in omega arith;
        };
      }

  pub read_well : {T U : Type 0} (x : T) (y : U) (a b : DiskView) (f g p q : ℕ) (old new : List R) → ReadsRuns view Device Damaged a b f g p q old new (Ok x) → ReadsRuns view Device Damaged a b f g p q old new (Ok y)
  read_well x y a b f g p q old new reads = record {
    same = reads.same;
    cause = record { later = reads.cause.later; ok = reads.cause.ok; device = λ is. absurd (cc); other = tt };
    named = λ n is. absurd (cc);
    blamed = λ n is. absurd (cc);
    fewer = reads.fewer;
    left = reads.left;
  }

  -- memory ran out where nothing failed
  pub read_short : {T U : Type 0} (x : T) (a b : DiskView) (f g p q : ℕ) (old new : List R) → ReadsRuns view Device Damaged a b f g p q old new (Ok x)
      → ReadsRuns {T = U} view Device Damaged a b f g p q old new (Err NoMemory)
  read_short x a b f g p q old new reads = record {
    same = reads.same;
    cause = record { later = reads.cause.later; ok = tt; device = λ is. absurd (cc); other = λ ne. reads.cause.ok };
    named = λ n is. absurd (cc);
    blamed = λ n is. absurd (cc);
    fewer = reads.fewer;
    left = reads.left;
  }

  -- an error was handed on
  pub read_failed : {T U : Type 0} (r : Result U Trouble) (t : Trouble) → IsErrAnd r (λ e. e ≡ t) → (a b : DiskView) (f g p q : ℕ) (old new : List R)
      → ReadsRuns {T = T} view Device Damaged a b f g p q old new (Err t) → ReadsRuns view Device Damaged a b f g p q old new r
  read_failed {T} {U} r t told a b f g p q old new reads =
      let e = err_from_is_err_and r told in
      subst (λ (x : Result U Trouble). ReadsRuns view Device Damaged a b f g p q old new x) (sym (e.1 ∙ ap (λ (x : Trouble). Err x) e.2)) (handed reads)
    where
      same_err : (x y : Trouble) → Path (Result U Trouble) (Err x) (Err y) → Path (Result T Trouble) (Err x) (Err y)
      same_err x y is = cc

      handed : ReadsRuns {T = T} view Device Damaged a b f g p q old new (Err t) → ReadsRuns {T = U} view Device Damaged a b f g p q old new (Err t)
      handed reads = record {
        same = reads.same;
        cause = record { later = reads.cause.later; ok = tt; device = λ is. reads.cause.device (same_err t Device is); other = reads.cause.other };
        named = λ n is. reads.named n (same_err t (Damaged n) is);
        blamed = λ n is. reads.blamed n (same_err t (Damaged n) is);
        fewer = reads.fewer;
        left = reads.left;
      }

-- so many groups were taken of runs, and each of them has an entry
pub record AreTaken (runs left : List (List Entry)) (count : ℕ) : Type 0 where
  pub groups : List (List Entry)
  pub merged : MergesTo runs groups left
  pub many : count ≤ length (grouped_entries groups)

pub none_taken : (runs left : List (List Entry)) → left ≡ runs → AreTaken runs left 0
none_taken runs left same = record { groups = []; merged = same; many = omega arith }

pub one_taken : (runs old new : List (List Entry)) (count : ℕ) (group : List Entry) → 0 < length group → ((groups : List (List Entry)) → MergesTo runs groups old → MergesTo runs (groups ++ group ∷ []) new)
    → AreTaken runs old count → AreTaken runs new (count + 1)
one_taken runs old new count group some takes are =
    let all = ap (λ (es : List Entry). length es) (flat_map-append (λ (g : List Entry). g) are.groups (group ∷ [])) in
    let both = length-append (grouped_entries are.groups) (grouped_entries (group ∷ [])) in
    let one = length-append group [] in
    let many = are.many in
    record { groups = are.groups ++ group ∷ []; merged = takes are.groups are.merged; many = omega (arith, all, both, one, some, many) }

-- no more groups were taken than runs have entries
pub few_taken : (runs left : List (List Entry)) (count : ℕ) → AreTaken runs left count → count ≤ length (grouped_entries runs)
few_taken runs left count are = let most = merged_fewer runs are.groups left are.merged in let many = are.many in omega (arith, most, many)

-- Entries of an array are few.

few_in_block : (entries : List Entry) → fits_block entries ≡ true → length entries ≤ 2048
few_in_block entries fits =
    let one = leb-true (length (block_front entries)) 4096 (and_parts (ltb 0 (length entries) && list_all fits_fields entries && is_ascending entries) (leb (length (block_front entries)) 4096) fits).1 in
    let front = length-append (be 2 (length entries)) (offsets (2 + 2 * length entries) entries ++ flat_map entry_bytes entries) in
    let behind = length-append (offsets (2 + 2 * length entries) entries) (flat_map entry_bytes entries) in
    let places = length-offsets (2 + 2 * length entries) entries in
    omega (arith, one, front, behind, places)

pub few_entries : (c : Image) (blocks : List ℕ) (entries : List Entry) → entries_on c blocks ≡ Some entries → length entries ≤ 2048 * length blocks
unfolding entries_on
few_entries c [] entries is = let none : [] ≡ entries = cc in omega (arith, ap (λ (es : List Entry). length es) none)
few_entries c (b ∷ blocks) entries is =
    let first = next_some (λ xs. option_map (λ rest. xs ++ rest) (entries_on c blocks)) (block_on c b) entries is in
    let rest = map_some (λ rest. first.0 ++ rest) (entries_on c blocks) entries first.2 in
    let here = few_in_block first.0 (block_in-some (window c (4096 * b) 4096) first.0 first.1).fits in
    let others = few_entries c blocks rest.0 rest.1 in
    let size = length-append first.0 rest.0 in
    omega (arith, here, others, size, ap (λ (es : List Entry). length es) rest.2)

-- and so are those of versions below a number
pub few_below : (n : ℕ) (c : Image) (blocks : List ℕ) (content : List Entry) → length blocks ≤ 4294967295 → entries_on c blocks ≡ Some content
    → length (filter (λ e. ltb e.version n) content) ≤ 2 ^ 48
few_below n c blocks content few on =
    let most = few_entries c blocks content on in
    let fewer = length-filter_both (λ (e : Entry). ltb e.version n) (λ (e : Entry). not (ltb e.version n)) (λ e. refl) content in
    omega (arith, most, fewer, few)

-- One run alone.

-- what is bad for one run alone is bad for that run
pub bad_alone : (run : RunView) (c : Image) (b : ℕ) → IsBadFor (run ∷ []) c b → run.misfit c ≡ Some b
bad_alone run c b bad = go bad.at bad.there
  where
    go : (i : ℕ) → slice_get (run ∷ []) i ≡ Some bad.run → run.misfit c ≡ Some b
    go zero there = let same : run ≡ bad.run = cc in ap (λ (r : RunView). r.misfit c) same ∙ bad.says
    go (suc i) there = absurd (cc)
