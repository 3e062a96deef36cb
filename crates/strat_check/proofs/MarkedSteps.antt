-- A marked run is a run.
use Rattle.std.proofs.Common.{◌≡◌, ◌<◌, ◌*◌, ℕ, true, ltb, List, [], ◌∷◌, map, filter, drop, get_or, length, Option, Some, None, IsSome, Result, Ok, Err, OnOk, refl, sym, ap, ◌∙◌, subst, arith}
use Rattle.std.specs.Option.{option_map}
use Rattle.std.specs.Ordering.{is_lt}
use Rattle.std.proofs.lemmas.Bool.{ltb-true, lt-ltb}
use Rattle.strat_base.specs.Entries.{Entry, is_ascending, is_tagged, lead_entries}
use Rattle.strat_base.specs.Order.{entry_cmp}
use Rattle.strat_base.specs.declared.descriptors.Extent.{Extent}
use Rattle.strat_base.proofs.ListFacts.{among_range, range_among}
use Rattle.def_crash.specs.Image.{Image}
use Rattle.def_crash.specs.Moments.{DiskView, Exposes}
use Rattle.def_bytes.specs.Arrays.{blocks_of, entries_on}
use Rattle.def_split.proofs.ListLemmas.{bool_same, filter_same}
use Rattle.def_state.proofs.LevelLemmas.{tagged_among, among_tagged}
use Rattle.strat_merge.specs.Runs.{RunView, Advances}
use Rattle.strat_promote.specs.LeadRuns.{BlockReading, PassesOver, is_settled, leads_from}
use Rattle.strat_promote.proofs.LeadLemmas.{is_less, read_whole}
use Rattle.strat_promote.proofs.LeadRunLemmas.{opened, lead_here}
use Rattle.def_check.specs.Marked.{marked}
use Rattle.def_check.proofs.MarkedLemmas.{marked_order}
use Rattle.strat_check.specs.Below.{versions_below}
use Rattle.strat_check.specs.MarkedRuns.{marked_view}

-- a version is in the tag of those below a number where it is below it
pub tagged_below : (n v : ℕ) → is_tagged (versions_below n) v ≡ ltb v n
tagged_below n v =
    bool_same (is_tagged (versions_below n) v) (ltb v n)
    (λ tagged. let within = range_among 0 n v (tagged_among (versions_below n) v tagged) in lt-ltb v n (omega (arith, within.1)))
    (λ low. let less = ltb-true v n low in among_tagged (versions_below n) v (among_range 0 n v (omega arith) (omega (arith, less))))

pub leads_below : (n : ℕ) (entries : List Entry) → lead_entries (versions_below n) entries ≡ filter (λ e. ltb e.version n) entries
leads_below n entries = filter_same (λ e. is_tagged (versions_below n) e.version) (λ e. ltb e.version n) entries (λ e among. tagged_below n e.version)

-- the first entry of a run is of a version below its number
pub low_here : (n : ℕ) (entries : List Entry) (i : ℕ) (d : Entry) (blocks : List ℕ) → i < length entries → is_settled (versions_below n) (drop i entries) blocks ≡ true → (get_or entries i d).version < n
low_here n entries i d blocks lt settled =
    ltb-true (get_or entries i d).version n (sym (tagged_below n (get_or entries i d).version) ∙ lead_here (versions_below n) entries i d blocks lt settled)

-- what a run has left that begins
pub below_opened : (disk : DiskView) (n : ℕ) (extents : List Extent) (old new : BlockReading) (j : ℕ) → old ≡ record { entries = []; blocks = blocks_of extents }
    → is_settled (versions_below n) (drop j new.entries) new.blocks ≡ true → PassesOver disk (versions_below n) old 0 new j → (f : Image) → Exposes disk f
    → (c : List Entry) → entries_on f (blocks_of extents) ≡ Some c → is_ascending c ≡ true
    → (leads_from (versions_below n) n (drop j new.entries) new.blocks).left f ≡ filter (λ e. ltb e.version n) c
below_opened disk n extents old new j begun is passes f exposed c on up =
    opened disk (versions_below n) (versions_below n) n extents old new j begun refl is passes f exposed
    ∙ ap (lead_entries (versions_below n)) (read_whole f None (blocks_of extents) c on up).0
    ∙ leads_below n c

drop_mapped : (i : ℕ) (xs : List Entry) → map (marked i) (drop 1 xs) ≡ drop 1 (map (marked i) xs)
drop_mapped i [] = refl
drop_mapped i (x ∷ xs) = refl

some_of : (i : ℕ) (o : Option Entry) (e : Entry) → option_map (marked i) o ≡ Some e → (d : Entry) × (o ≡ Some d) × (marked i d ≡ e)
some_of i None e is = absurd (cc)
some_of i (Some d) e is = (d, refl, cc)

pub marked_advances : (v : DiskView) (i : ℕ) (old new : RunView) → Advances v old new → Advances v (marked_view i old) (marked_view i new)
marked_advances v i old new step = record {
  rest = λ c exposed. ap (λ (xs : List Entry). map (marked i) xs) (step.rest c exposed) ∙ drop_mapped i (old.left c);
  later = λ e f first next.
      let a = some_of i old.first e first in
      let b = some_of i new.first f next in
      subst (λ (x : Entry). is_lt (entry_cmp x.key x.version f.key f.version) ≡ true) a.2
      (subst (λ (y : Entry). is_lt (entry_cmp a.0.key (marked i a.0).version y.key y.version) ≡ true) b.2
      (marked_order i a.0 b.0 (is_less a.0 b.0 (step.later a.0 b.0 a.1 b.1))));
  bound = ap (λ (n : ℕ). 16384 * n) step.bound;
}

-- what is marked is there
pub some_unmarked : (i : ℕ) (o : Option Entry) → IsSome (option_map (marked i) o) → IsSome o
some_unmarked i None some = some
some_unmarked i (Some e) some = some

-- what holds after a call that succeeds, and what follows from it
pub ok_mapped : {T E A B : Type 0} (r : Result T E) → OnOk r A → (A → B) → OnOk r B
ok_mapped (Ok x) a f = f a
ok_mapped (Err e) a f = tt
