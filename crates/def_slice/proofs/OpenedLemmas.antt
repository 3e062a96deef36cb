-- A promotion that is open over contents, in slices and between them.
use Rattle.std.proofs.Common.{◌≡◌, ◌≤◌, ◌<◌, ◌+◌, ◌-◌, ◌*◌, ◌^◌, ℕ, zero, suc, Bool, true, false, cond, eqb, leb, ltb, ◌&&◌, inl, inr, List, [], ◌∷◌, ◌++◌, length, Option, Some, None, refl, sym, ap, ◌∙◌, subst, arith, length-append}
use Rattle.std.specs.List.{filter_map, flat_map, sum, count_by}
use Rattle.std.proofs.lemmas.Bool.{and_parts, leb-true, ltb-true, cases_Bool}
use Rattle.std.proofs.lemmas.List.{length-map, take-append-le}
use Rattle.strat_arena.specs.Items.{entry_of_item}
use Rattle.strat_arena.specs.PoolView.{arena_at}
use Rattle.strat_array.specs.Taking.{AreUsed}
use Rattle.strat_array.proofs.TakesLemmas.{used_agree}
use Rattle.strat_base.specs.Change.{Change}
use Rattle.strat_base.specs.Entries.{Entry}
use Rattle.strat_base.specs.declared.descriptors.ArrayDesc.{ArrayDesc}
use Rattle.strat_base.specs.declared.descriptors.Extent.{Extent}
use Rattle.strat_base.specs.declared.descriptors.LevelDesc.{LevelDesc}
use Rattle.strat_base.proofs.ListFacts.{Among, among_left, among_right, among_split, among_in_flat, among_flat}
use Rattle.def_crash.specs.Blocks.{AgreeOn, KeepsTaken}
use Rattle.def_crash.specs.Image.{Image}
use Rattle.def_crash.specs.Moments.{DiskView, Exposes}
use Rattle.strat_extent.specs.Blocks.{SpaceView, times_in, is_used, is_free, uses}
use Rattle.strat_extent.proofs.BlockLemmas.{times_listed}
use Rattle.strat_extent.proofs.CountLemmas.{times_append}
use Rattle.def_bytes.specs.Arrays.{blocks_of, all_some}
use Rattle.def_bytes.specs.Layout.{first_free}
use Rattle.strat_level.specs.Levels.{level_numbered}
use Rattle.strat_level.specs.Memtable.{ItemList}
use Rattle.def_slice.specs.Opened.{KeepsBehind, AreLent, IsBegunOf, IsMostOfKey, MayRead, OpenPromotion, MayBeSliced, IsOpenOver, LeavesEntry, job_open, slice_numbers, sliced_to}
use Rattle.strat_promote.specs.Between.{KeepsItsBlocks}
use Rattle.strat_promote.specs.Job.{Job, arrays_to, blocks_listed, input_count}
use Rattle.strat_promote.specs.Promotions.{IsBegun, IsItsJob, HasBegun, extents_taken, entries_taken, leads_listed, target_of}
use Rattle.strat_promote.specs.StateInputs.{IsBegunOver, job_of_state}
use Rattle.strat_promote.specs.Steps.{Inputs, IsTaskIn}
use Rattle.strat_promote.specs.declared.promotion.Promotion.{Promotion}
use Rattle.strat_promote.specs.declared.step.Task.{Task}
use Rattle.strat_promote.proofs.BetweenLemmas.{goes_on}
use Rattle.strat_promote.proofs.SliceLemmas.{count_same}
use Rattle.strat_promote.proofs.StateInputsLemmas.{begun_its_job}
use Rattle.def_recovery.specs.Head.{descriptors}
use Rattle.def_recovery.specs.Opened.{level_on}
use Rattle.def_slice.specs.Budget.{EndsInTime, KeepsToBudget}
use Rattle.def_slice.proofs.BudgetLemmas.{goes_on as goes_on_time}
use Rattle.def_publish.specs.Appending.{with_batch}
use Rattle.def_publish.specs.Contents.{Contents, contents_state, named_blocks, sealed_state}
use Rattle.def_publish.specs.Occupied.{IsSpaceOf}
use Rattle.def_publish.specs.Standing.{LiesIn, ReadsAs}
use Rattle.def_publish.proofs.ListLemmas.{contained_among}
use Rattle.def_publish.proofs.OccupiedLemmas.{joined_beside, named_used, counted_some}
use Rattle.def_publish.proofs.PlaceLemmas.{named_behind}
use Rattle.def_publish.proofs.PromotedLemmas.{sealed_ordered}
use Rattle.def_promote.specs.Sealed.{sealed_at}
use Rattle.def_state.specs.Setting.{set_all}
use Rattle.def_state.specs.Sound.{IsSound}
use Rattle.def_state.specs.State.{State, versions_of, journal_updates}
use Rattle.def_state.proofs.SoundLemmas.{ordered}

-- what is lent is what it was begun with
module _ (f : Image) (x : Contents) (sealed : List Entry) (levels : List (Option LevelDesc)) (was : Promotion) (inputs : Inputs) (lies : LiesIn f x) (b : IsBegunOf x sealed levels was)
    (lent : AreLent sealed levels (sealed_state x) inputs) where
  pub counted : length inputs.zero.items ≡ length sealed
  counted = sym (length-map inputs.zero.items (entry_of_item (arena_at inputs.pool inputs.zero.arena).pairs)) ∙ ap (λ (es : List Entry). length es) lent.zero

  pub begun_over : IsBegunOver f (sealed_state x) inputs was
  begun_over = record {
    holds = record {
      zero = lent.zero ∙ b.sealed_is;
      levels = ap (λ (ls : List (Option LevelDesc)). all_some (level_on f) (filter_map (λ level. level) ls)) lent.levels_are ∙ ap (all_some (level_on f)) b.listed ∙ lies.arrays;
      numbered = subst (λ (ls : List (Option LevelDesc)). (n : ℕ) (level : LevelDesc) → level_numbered ls n ≡ Some level → level.number ≡ n) (sym lent.levels_are) b.numbered;
      parents = lent.parents;
    };
    next_array = x.chained.manifest.next_array;
    begun = subst (λ (ls : List (Option LevelDesc)). IsBegun inputs.zero ls x.sb.mem (length (versions_of (sealed_state x))) x.chained.manifest.next_array was) (sym lent.levels_are) (b.begun inputs.zero counted);
    few = subst (λ (ls : List (Option LevelDesc)). sum (leads_listed inputs.zero ls) ≤ 2 ^ 24) (sym lent.levels_are) (b.few inputs.zero counted);
  }

pub does_its_job : (f : Image) (x : Contents) (fill : ℕ) (sealed : List Entry) (levels : List (Option LevelDesc)) (others : List Extent) (o : OpenPromotion) (inputs : Inputs) → ReadsAs f x
    → IsSound (contents_state x) → (p : IsOpenOver f x fill sealed levels others o) → AreLent sealed levels (sealed_state x) inputs → IsItsJob f o.promotion inputs (job_open x levels p.going.was)
does_its_job f x fill sealed levels others o inputs reads sound p lent =
    let at_was = begun_its_job f (sealed_state x) inputs p.going.was (sealed_ordered x (ordered (contents_state x) sound)) (begun_over f x sealed levels p.going.was inputs reads.lies p.going.begun lent) in
    let here : IsTaskIn f p.going.was.task inputs (job_open x levels p.going.was) = subst (λ (ls : List (Option LevelDesc)). IsTaskIn f p.going.was.task inputs (job_of_state (sealed_state x) ls (target_of p.going.was))) lent.levels_are at_was in
    subst (λ (t : Task). IsTaskIn f t inputs (job_open x levels p.going.was)) (sym p.going.same.task) here

-- the arrays of a promotion are arrays of the contents
arrays_front : (levels : List (Option LevelDesc)) (j : ℕ) (a : ArrayDesc) → Among a (arrays_to levels j) → Among a (flat_map (λ (l : LevelDesc). l.arrays) (filter_map (λ level. level) levels))
arrays_front [] zero a among = among
arrays_front [] (suc j) a among = among
arrays_front (level ∷ levels) zero a among = absurd among
arrays_front (None ∷ levels) (suc j) a among = arrays_front levels j a among
arrays_front (Some level ∷ levels) (suc j) a among =
    elim (among_split level.arrays (arrays_to levels j) a among) [
      | inl here ↦ among_left level.arrays (flat_map (λ (l : LevelDesc). l.arrays) (filter_map (λ level. level) levels)) a here
      | inr there ↦ among_right level.arrays (flat_map (λ (l : LevelDesc). l.arrays) (filter_map (λ level. level) levels)) a (arrays_front levels j a there)
    ]

module _ (x : Contents) (levels : List (Option LevelDesc)) (listed : filter_map (λ level. level) levels ≡ x.chained.manifest.levels) where
  pub block_named : (j b : ℕ) → Among b (blocks_listed (arrays_to levels j)) → Among b (named_blocks x)
  block_named j b among =
      let at = among_flat (λ (a : ArrayDesc). blocks_of a.extents) (arrays_to levels j) b among in
      let there : Among at.0 (descriptors x.chained.manifest) = subst (λ (ls : List LevelDesc). Among at.0 (flat_map (λ (l : LevelDesc). l.arrays) ls)) listed (arrays_front levels j at.0 at.1) in
      among_right x.chained.blocks (flat_map (λ (a : ArrayDesc). blocks_of a.extents) (descriptors x.chained.manifest)) b
      (among_in_flat (λ (a : ArrayDesc). blocks_of a.extents) (descriptors x.chained.manifest) at.0 b there at.2)

-- a slice that leaves an entry
module _ (f g : Image) (x : Contents) (fill : ℕ) (sealed : List Entry) (levels : List (Option LevelDesc)) (others : List Extent) (o : OpenPromotion) (p : IsOpenOver f x fill sealed levels others o) where
  abbrev job : Job
  job = job_open x levels p.going.was

  pub listed_used : AreUsed o.space (blocks_listed job.arrays)
  listed_used b there =
      named_used o.space x (extents_taken o.promotion ++ others) p.space_is b
      (block_named x levels p.going.begun.listed (target_of p.going.was) b (contained_among (blocks_listed job.arrays) b there))

  same_count : KeepsTaken (is_free o.space) f g → input_count g job ≡ input_count f job
  same_count keeps = count_same f g job (used_agree o.space (blocks_listed job.arrays) f g listed_used keeps)

-- so a promotion may go on after it
abbrev pub slice_goes : (old new : DiskView) (x : Contents) (sealed : List Entry) (levels : List (Option LevelDesc)) (o : OpenPromotion) (q : Promotion) (space : SpaceView) (m : MayBeSliced x sealed levels o)
    → LeavesEntry old new (job_open x levels m.was) o q space → MayBeSliced x sealed levels (sliced_to o q space)
slice_goes old new x sealed levels o q space m slice = record {
  was = m.was;
  begun = m.begun;
  may = m.may;
  same = record { task = slice.same.task ∙ m.same.task };
  steady = slice.steady;
  used = slice.used;
  some = m.some;
  reads = slice.reads m.reads;
}

pub sliced_open : (old new : DiskView) (f g : Image) (x : Contents) (sealed : List Entry) (levels : List (Option LevelDesc)) (others : List Extent) (o : OpenPromotion) (q : Promotion) (space : SpaceView)
    → Exposes old f → Exposes new g → (p : IsOpenOver f x (length x.journal) sealed levels others o) → LeavesEntry old new (job_open x levels p.going.was) o q space
    → (length x.journal + 1 ≤ 2 * x.sb.mem - 2) × IsOpenOver g x (length x.journal + 1) sealed levels others (sliced_to o q space)
sliced_open old new f g x sealed levels others o q space told tells p slice =
    let sliced = slice.sliced f g told tells in
    let left : entries_taken q < 2 * o.sum = omega (arith, sliced.1, p.sum_is) in
    let on = goes_on_time x.sb.mem (length x.journal) o.sum o.budget (entries_taken o.promotion) (entries_taken q) p.on_time slice.most left in (
      on.0,
      record {
        going = slice_goes old new x sealed levels o q space p.going slice;
        underway = sliced.0;
        space_is = joined_beside o.space space x others (extents_taken o.promotion) (extents_taken q) p.space_is slice.takes.first slice.takes.used;
        sum_is = p.sum_is ∙ sym (same_count f g x (length x.journal) sealed levels others o p (slice.tears.content f g told tells));
        on_time = inl on.1;
      },
    )

-- it keeps to the budget of the promotion
pub sliced_in_budget : (old new : DiskView) (f g : Image) (job : Job) (o : OpenPromotion) (q : Promotion) (space : SpaceView) (most : ℕ)
    → Exposes old f → Exposes new g → LeavesEntry old new job o q space → IsMostOfKey f job most → KeepsToBudget (slice_numbers o) most (Some (slice_numbers (sliced_to o q space)))
sliced_in_budget old new f g job o q space most told tells slice all =
    let near = (slice.sliced f g told tells).2 in
    let few = all near.last in
    (refl, refl, slice.most, omega (arith, near.below, few))

-- a change that is appended behind a full region
module _ (x : Contents) (batch : List Change) (full : x.sb.mem ≤ length x.journal) where
  pub same_sealed : sealed_state (with_batch x batch) ≡ sealed_state x
  same_sealed = ap (λ (j : List Change). sealed_at (contents_state x) j) (take-append-le x.sb.mem x.journal batch full)

  pub begun_with : (sealed : List Entry) (levels : List (Option LevelDesc)) (was : Promotion) → IsBegunOf x sealed levels was → IsBegunOf (with_batch x batch) sealed levels was
  begun_with sealed levels was b = record {
    full = omega (arith, full, length-append x.journal batch);
    sealed_is = b.sealed_is ∙ ap (λ (s : State). set_all (journal_updates s)) (sym same_sealed);
    listed = b.listed;
    numbered = b.numbered;
    begun = subst (λ (s : State). (zero : ItemList) → length zero.items ≡ length sealed → IsBegun zero levels x.sb.mem (length (versions_of s)) x.chained.manifest.next_array was) (sym same_sealed) b.begun;
    few = b.few;
  }

  pub same_job : (levels : List (Option LevelDesc)) (was : Promotion) → job_open (with_batch x batch) levels was ≡ job_open x levels was
  same_job levels was = ap (λ (s : State). job_of_state s levels (target_of was)) same_sealed

  -- so a promotion may go on over the contents with it
  abbrev pub change_goes : (sealed : List Entry) (levels : List (Option LevelDesc)) (o : OpenPromotion) → MayBeSliced x sealed levels o → MayBeSliced (with_batch x batch) sealed levels o
  change_goes sealed levels o m = record {
    was = m.was;
    begun = begun_with sealed levels m.was m.begun;
    may = subst (λ (s : State). MayRead sealed levels (length (versions_of s)) x.chained.manifest.next_array) (sym same_sealed) m.may;
    same = m.same;
    steady = m.steady;
    used = m.used;
    some = m.some;
    reads = m.reads;
  }

-- the blocks of extents that a space has beside contents are used, and lie behind the journal
extents_used : (s : SpaceView) (x : Contents) (all xs : List Extent) (b : ℕ) → IsSpaceOf s x all → times_in xs b ≤ times_in all b → Among b (blocks_of xs) → is_used s b ≡ true
extents_used s x all xs b is few among =
    let some : 1 ≤ count_by (λ a. eqb a b) (blocks_of xs) = counted_some (blocks_of xs) b among in
    let here = is.used b in
    let listed = times_listed xs b in
    by_test (is_used s b) refl (omega (arith, here, few, listed, some))
  where
    by_test : (t : Bool) → is_used s b ≡ t → 1 ≤ uses s b → is_used s b ≡ true
    by_test true is le = is
    by_test false is le = absurd (let none : uses s b ≡ 0 = ap (λ (t : Bool). cond t 1 0) is in omega (arith, none, le))

module _ (s : SpaceView) (x : Contents) (xs others : List Extent) (is : IsSpaceOf s x (xs ++ others)) where
  pub taken_used : AreUsed s (blocks_of xs)
  taken_used b there = extents_used s x (xs ++ others) xs b is (let both = times_append xs others b in omega (arith, both)) (contained_among (blocks_of xs) b there)

  pub others_used : AreUsed s (blocks_of others)
  others_used b there = extents_used s x (xs ++ others) others b is (let both = times_append xs others b in omega (arith, both)) (contained_among (blocks_of others) b there)

used_behind : (s : SpaceView) (b : ℕ) → is_used s b ≡ true → s.first ≤ b
used_behind s b used =
    let front = and_parts (leb s.first b && ltb b s.end) (eqb (times_in s.holes b) 0) used in
    leb-true s.first b (and_parts (leb s.first b) (ltb b s.end) front.0).0

not_in_front : (mem b : ℕ) → first_free mem ≤ b → ltb b (first_free mem) ≡ false
not_in_front mem b le = elim (cases_Bool (ltb b (first_free mem))) [
  | inr behind ↦ behind
  | inl front ↦ absurd (omega (arith, le, ltb-true b (first_free mem) front))
]

module _ (f g : Image) (x : Contents) (fill : ℕ) (sealed : List Entry) (levels : List (Option LevelDesc)) (others : List Extent) (o : OpenPromotion) (reads : ReadsAs f x)
    (p : IsOpenOver f x fill sealed levels others o) (keeps : KeepsBehind x.sb.mem f g) where
  agree_read : AgreeOn (blocks_listed (job_open x levels p.going.was).arrays) f g
  agree_read b there =
      let named = block_named x levels p.going.begun.listed (target_of p.going.was) b (contained_among (blocks_listed (job_open x levels p.going.was).arrays) b there) in
      keeps b (not_in_front x.sb.mem b (named_behind x reads.lies.belonging b named))

  pub blocks_stay : KeepsItsBlocks f g (job_open x levels p.going.was) o.promotion
  blocks_stay = record {
    read = agree_read;
    taken = λ b there.
        let used = taken_used o.space x (extents_taken o.promotion) others p.space_is b there in
        let behind = used_behind o.space b used in
        keeps b (not_in_front x.sb.mem b (omega (arith, behind, p.space_is.first)));
  }

  pub count_stays : input_count g (job_open x levels p.going.was) ≡ input_count f (job_open x levels p.going.was)
  count_stays = count_same f g (job_open x levels p.going.was) agree_read

pub appended_open : (f g : Image) (x : Contents) (sealed : List Entry) (levels : List (Option LevelDesc)) (others : List Extent) (o : OpenPromotion) (change : Change) → ReadsAs f x
    → IsOpenOver f x (length x.journal + 1) sealed levels others o → KeepsBehind x.sb.mem f g
    → IsOpenOver g (with_batch x (change ∷ [])) (length (with_batch x (change ∷ [])).journal) sealed levels others o
appended_open f g x sealed levels others o change reads p keeps =
    let batch : List Change = change ∷ [] in
    let same = same_job x batch p.going.begun.full levels p.going.was in
    let long : length x.journal + 1 ≡ length (x.journal ++ batch) = omega (arith, length-append x.journal batch) in
    record {
      going = change_goes x batch p.going.begun.full sealed levels o p.going;
      underway = subst (λ (j : Job). HasBegun g j o.promotion) (sym same) (goes_on f g (job_open x levels p.going.was) o.promotion (blocks_stay f g x (length x.journal + 1) sealed levels others o reads p keeps) p.underway);
      space_is = record { first = p.space_is.first; used = p.space_is.used };
      sum_is = p.sum_is ∙ sym (count_stays f g x (length x.journal + 1) sealed levels others o reads p keeps) ∙ ap (λ (j : Job). input_count g j) (sym same);
      on_time = subst (λ (n : ℕ). EndsInTime x.sb.mem n o.sum o.budget (entries_taken o.promotion)) long p.on_time;
    }
