-- How many entries the steps of a slice take.
use Rattle.std.proofs.Common.{◌≡◌, ◌<◌, ◌≤◌, ◌+◌, ◌*◌, ◌-◌, ◌^◌, ◌&&◌, not, ℕ, zero, suc, inl, inr, ◌⊎◌, List, [], ◌∷◌, ◌++◌, length, map, filter, Option, Some, IsSome, length-append, refl, sym, ap, ◌∙◌, subst, arith}
use Rattle.std.specs.List.{slice_get, find}
use Rattle.std.proofs.Math.Nat.{min-eq_left}
use Rattle.std.proofs.lemmas.Bool.{and_parts}
use Rattle.std.proofs.lemmas.List.Elements.{filter-append}
use Rattle.std.proofs.lemmas.List.Filters.{length-filter_both}
use Rattle.strat_base.specs.Entries.{Entry, is_at, is_of}
use Rattle.strat_base.proofs.EntryLemmas.{at_key_version, is_of_key}
use Rattle.strat_base.proofs.ListFacts.{all_at, among_filter, find_some}
use Rattle.def_state.proofs.LevelLemmas.{ascending_single}
use Rattle.def_promote.proofs.UnionLemmas.{find_at, single_fits}
use Rattle.def_crash.specs.Image.{Image}
use Rattle.strat_merge.specs.Gathered.{TakesNext, CountsTaken}
use Rattle.strat_merge.specs.Runs.{RunView, head_at, lefts}
use Rattle.def_split.specs.Groups.{grouped_entries}
use Rattle.def_split.proofs.ListLemmas.{filter_both, filter_le}
use Rattle.def_promote.specs.Merging.{IsNext, MergesTo, rest_of}
use Rattle.strat_promote.specs.Budget.{TakesOneKey, TakesSome, IsNearLimit}
use Rattle.strat_promote.specs.Counted.{AreRunsOf}
use Rattle.strat_promote.specs.InputFields.{input_seen}
use Rattle.strat_promote.specs.InputLaw.{input_law}
use Rattle.strat_promote.specs.Job.{Job, runs_in, input_count}
use Rattle.strat_promote.specs.Stages.{IsUnderway, HasLeft, IsTakenUp, stage_consumed, how_far}
use Rattle.strat_promote.specs.declared.input.Input.{Input}
use Rattle.strat_promote.specs.declared.stage.Stage.{Stage}
use Rattle.strat_promote.specs.declared.stage.Stage.TheVariants as stage
use Rattle.strat_promote.proofs.PassLemmas.{runs_ended}

-- runs without a key are all their entries without it
rest_all : (key : List ℕ) (runs : List (List Entry)) → grouped_entries (map (rest_of key) runs) ≡ rest_of key (grouped_entries runs)
rest_all key [] = refl
rest_all key (run ∷ runs) =
    ap (λ (es : List Entry). rest_of key run ++ es) (rest_all key runs) ∙ sym (filter-append (λ (e : Entry). not (is_of key e)) run (grouped_entries runs))

-- how many entries of a key runs have
abbrev of_key : List ℕ → List (List Entry) → ℕ
of_key key runs = length (filter (is_of key) (grouped_entries runs))

fewer_left : (key other : List ℕ) (runs : List (List Entry)) → of_key key (map (rest_of other) runs) ≤ of_key key runs
fewer_left key other runs =
    let all : List Entry = grouped_entries runs in
    let size = ap (λ (es : List Entry). length (filter (is_of key) es)) (rest_all other runs) in
    let both = ap (λ (es : List Entry). length es)
    (filter_both (λ (e : Entry). not (is_of other e)) (is_of key) (λ (e : Entry). not (is_of other e) && is_of key e) all (λ e among. refl)) in
    let le = filter_le (λ (e : Entry). not (is_of other e) && is_of key e) (is_of key) all (λ e among is. (and_parts (not (is_of other e)) (is_of key e) is).1) in
    omega (arith, size, both, le)

-- what runs have left of a key after some groups is no more than they had
fewer_merged : (key : List ℕ) (runs groups left : List (List Entry)) → MergesTo runs groups left → of_key key left ≤ of_key key runs
fewer_merged key runs [] left same = subst (λ (ls : List (List Entry)). of_key key ls ≤ of_key key runs) (sym same) (omega arith)
fewer_merged key runs (group ∷ groups) left steps =
    let rest = fewer_merged key (map (rest_of steps.0) runs) groups left steps.2 in
    let first = fewer_left key steps.0 runs in
    omega (arith, rest, first)

-- what goes with a key are the entries of the key
pub goes_with : (key : List ℕ) (runs : List (List Entry)) → of_key key runs + length (grouped_entries (map (rest_of key) runs)) ≡ length (grouped_entries runs)
goes_with key runs =
    let both = length-filter_both (is_of key) (λ (e : Entry). not (is_of key e)) (λ e. refl) (grouped_entries runs) in
    let size = ap (λ (es : List Entry). length es) (rest_all key runs) in
    omega (arith, both, size)

-- a group that was taken from the runs of a job has entries of one key
one_key : (f : Image) (job : Job) (groups : List (List Entry)) (old new : List RunView) (before now : ℕ) (group : List Entry) → AreRunsOf f job groups old before
    → TakesNext (lefts f old) (lefts f new) group → CountsTaken (lefts f old) (lefts f new) before now → TakesOneKey f job before now
one_key f job groups old new before now group runs next counts =
    let few = runs.few in
    let taken = runs.taken in
    let less = counts.fewer in
    let small : before + (length (grouped_entries (lefts f old)) - length (grouped_entries (lefts f new))) ≤ 2 ^ 64 - 1 = omega (arith, few, taken, less) in
    let same : now ≡ before + (length (grouped_entries (lefts f old)) - length (grouped_entries (lefts f new))) = counts.counted ∙ min-eq_left small in
    let left = ap (λ (ls : List (List Entry)). length (grouped_entries ls)) next.1.1 in
    let gone = goes_with next.0 (lefts f old) in
    let most = fewer_merged next.0 (runs_in f job) groups (lefts f old) runs.merged in
    record { key = next.0; most = omega (arith, same, less, left, gone, most) }

-- the group of a key has no more entries than the runs have of it
pub next_fits : (runs : List (List Entry)) (key : List ℕ) (group : List Entry) → IsNext runs key group → length group ≤ of_key key runs
next_fits runs key group next =
    let single = ascending_single group next.ascending in
    single_fits group (filter (is_of key) (grouped_entries runs)) single (λ e among.
    let of = all_at (is_of key) e group next.keyed among in
    let found : find (is_at key e.version) group ≡ Some e = find_at group key e.version e single among (at_key_version key e.version e (is_of_key key e of) refl) in
    let there = find_some (is_at key e.version) (grouped_entries runs) e (sym (next.newest e.version) ∙ found) in
    among_filter (is_of key) (grouped_entries runs) e there.0 of)

-- no more are kept of a group than were taken, and some were taken
pub group_fits : (f : Image) (job : Job) (groups : List (List Entry)) (old new : List RunView) (before now : ℕ) (group : List Entry) → AreRunsOf f job groups old before
    → TakesNext (lefts f old) (lefts f new) group → CountsTaken (lefts f old) (lefts f new) before now → (before + length group ≤ now) × (now ≤ 2 ^ 24)
group_fits f job groups old new before now group runs next counts =
    let few = runs.few in
    let taken = runs.taken in
    let less = counts.fewer in
    let small : before + (length (grouped_entries (lefts f old)) - length (grouped_entries (lefts f new))) ≤ 2 ^ 64 - 1 = omega (arith, few, taken, less) in
    let same : now ≡ before + (length (grouped_entries (lefts f old)) - length (grouped_entries (lefts f new))) = counts.counted ∙ min-eq_left small in
    let left = ap (λ (ls : List (List Entry)). length (grouped_entries ls)) next.1.1 in
    let gone = goes_with next.0 (lefts f old) in
    let fits = next_fits (lefts f old) next.0 group next.1.0 in
    (omega (arith, same, less, left, gone, fits), omega (arith, same, few, taken, less))

pub takes_some : (f : Image) (job : Job) (groups : List (List Entry)) (old new : List RunView) (before now : ℕ) (group : List Entry) → AreRunsOf f job groups old before
    → TakesNext (lefts f old) (lefts f new) group → CountsTaken (lefts f old) (lefts f new) before now → TakesSome f job before now
takes_some f job groups old new before now group runs next counts =
    let fits = (group_fits f job groups old new before now group runs next counts).0 in
    let some = next.1.0.some in
    record { some = omega (arith, fits, some); one = one_key f job groups old new before now group runs next counts }

-- where a run begins with an entry, one is left
left_some : (f : Image) (runs : List Input) (i : ℕ) → IsSome (head_at (map input_seen runs) i) → 0 < length (grouped_entries (lefts f (map input_seen runs)))
left_some f [] i some = absurd (cc)
left_some f (run ∷ runs) zero some = first ((input_seen run).left f) (subst (λ (o : Option Entry). IsSome o) ((input_law run).begins f) some)
  where
    first : (es : List Entry) → IsSome (slice_get es 0) → 0 < length (es ++ grouped_entries (lefts f (map input_seen runs)))
    first [] none = absurd (cc)
    first (e ∷ es) some = omega arith
left_some f (run ∷ runs) (suc i) some =
    let rest = left_some f runs i some in
    let size = length-append ((input_seen run).left f) (grouped_entries (lefts f (map input_seen runs))) in
    omega (arith, rest, size)

-- how many entries a stage of a job took
pub taken_most : (f : Image) (job : Job) (first : ℕ) (s : Stage) → IsUnderway f job first s → (stage_consumed s ≤ 2 * input_count f job) × (stage_consumed s ≤ 2 ^ 25)
taken_most f job first stage.Begun under = (omega arith, omega arith)
taken_most f job first (stage.Counting c) under =
    let few = under.runs.few in
    let taken = under.runs.taken in
    (omega (arith, taken), omega (arith, few, taken))
taken_most f job first (stage.Writing w before) under =
    let few = under.0.runs.few in
    let taken = under.0.runs.taken in
    let all = under.1 in
    (omega (arith, taken, all), omega (arith, few, taken, all))

-- how far a stage of a job can be
pub far_most : (f : Image) (job : Job) (first : ℕ) (s : Stage) → IsUnderway f job first s → how_far s ≤ 2 + 2 ^ 25
far_most f job first stage.Begun under = omega arith
far_most f job first (stage.Counting c) under = let most = (taken_most f job first (stage.Counting c) under).1 in omega (arith, most)
far_most f job first (stage.Writing w before) under = let most = (taken_most f job first (stage.Writing w before) under).1 in omega (arith, most)

-- where an entry is left, not all were taken
pub entry_left : (f : Image) (job : Job) (first : ℕ) (s : Stage) → IsUnderway f job first s → HasLeft s → 0 < stage_consumed s → stage_consumed s < 2 * input_count f job
entry_left f job first stage.Begun under left some = absurd (omega (arith, some))
entry_left f job first (stage.Counting c) under left some =
    let taken = under.runs.taken in
    omega (arith, taken, some)
entry_left f job first (stage.Writing w before) under left some =
    let taken = under.0.runs.taken in
    let all = under.1 in
    let more = left_some f w.merger.runs.items left.0 left.1 in
    omega (arith, taken, all, more)

-- where none is left, all were taken
pub none_left_in : (f : Image) (job : Job) (first : ℕ) (s : Stage) → IsUnderway f job first s → IsTakenUp s → 2 * input_count f job ≤ stage_consumed s
none_left_in f job first stage.Begun under none = absurd none
none_left_in f job first (stage.Counting c) under none = absurd none
none_left_in f job first (stage.Writing w before) under none =
    let ended = (runs_ended input_seen input_law f job under.0.groups w.merger.runs.items w.merger.consumed under.0.runs none).1 in
    let all = under.1 in
    omega (arith, ended, all)

-- another part of what was taken
pub key_more : (f : Image) (job : Job) (more before now : ℕ) → TakesOneKey f job before now → TakesOneKey f job (more + before) (more + now)
key_more f job more before now takes = let most = takes.most in record { key = takes.key; most = omega (arith, most) }

-- the same of images with the same runs
pub key_same : (f g : Image) (job : Job) (before now : ℕ) → runs_in g job ≡ runs_in f job → TakesOneKey g job before now → TakesOneKey f job before now
key_same f g job before now same takes =
    let most = takes.most in
    let size = ap (λ (rs : List (List Entry)). length (filter (is_of takes.key) (grouped_entries rs))) same in
    record { key = takes.key; most = omega (arith, most, size) }

-- where nothing was taken
pub none_taken : (f : Image) (job : Job) (before now : ℕ) → now ≤ before → TakesOneKey f job before now
none_taken f job before now le = record { key = []; most = omega (arith, le) }

-- how many entries the steps so far took: fewer than a limit and those of one key; and fewer than the limit, or all
pub record IsHeld (f : Image) (job : Job) (limit taken : ℕ) : Type 0 where
  pub near : IsNearLimit f job limit taken
  pub ahead : (taken < limit) ⊎ (2 * input_count f job ≤ taken)

pub held_begun : (f : Image) (job : Job) (limit taken : ℕ) → taken < limit → IsHeld f job limit taken
held_begun f job limit taken lt = record { near = record { last = []; below = omega (arith, lt) }; ahead = inl lt }

-- one more step
pub near_next : (f : Image) (job : Job) (limit before now : ℕ) → IsHeld f job limit before → TakesOneKey f job before now → now ≤ 2 * input_count f job → IsNearLimit f job limit now
near_next f job limit before now held takes all =
    elim held.ahead [
      | inl lt ↦ let most = takes.most in record { last = takes.key; below = omega (arith, lt, most) }
      | inr whole ↦ let below = held.near.below in record { last = held.near.last; below = omega (arith, whole, all, below) }
    ]
