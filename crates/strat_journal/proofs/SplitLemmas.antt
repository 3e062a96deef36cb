-- The two buffers of a journal: the active region's records once it is full, and those of the region that takes the batch.
use Rattle.std.proofs.Common.{◌≡◌, ◌≢◌, ◌≤◌, ◌<◌, ◌⊎◌, inl, inr, ◌+◌, ◌-◌, ◌*◌, ℕ, Bool, true, cond, List, [], ◌∷◌, ◌++◌, length, take, drop, refl, sym, ap, ◌∙◌, arith, length-append}
use Rattle.std.specs.List.{list_all}
use Rattle.std.proofs.lemmas.Bool.{lt-ltb, le-ltb}
use Rattle.std.proofs.lemmas.List.{append-nil, take_at, take_all, drop_at, drop_all}
use Rattle.strat_base.specs.Change.{Change, is_lawful}
use Rattle.def_bytes.specs.Layout.{region_at, other_region}
use Rattle.def_bytes.specs.Records.{records_bytes}
use Rattle.strat_journal.specs.Buffered.{Buffered, KeepsBoth, no_records, AreOfBoth}
use Rattle.strat_journal.specs.Log.{Log, HasRoomToAppend, taking, gate_in, gate_of, room_of, region_turned}
use Rattle.strat_journal.proofs.TakingLemmas.{taken_short, taken_long}

-- a list of no length
pub none_long : {A : Type 0} (xs : List A) → length xs ≡ 0 → xs ≡ []
none_long [] none = refl
none_long (x ∷ xs) none = absurd (omega (arith, none))

-- what two lists make that are none together
pub front_none : {A : Type 0} (xs ys : List A) → xs ++ ys ≡ [] → xs ≡ []
front_none xs ys none = none_long xs (omega (arith, ap length none, length-append xs ys))

pub back_none : {A : Type 0} (xs ys : List A) → xs ++ ys ≡ [] → ys ≡ []
back_none xs ys none = none_long ys (omega (arith, ap length none, length-append xs ys))

-- a journal of the same changes is the same journal
pub same_log : (mem active active' : ℕ) (stale : Bool) (list list' batch batch' : List Change) → active ≡ active' → list ≡ list' → batch ≡ batch'
    → ◌≡◌ {A = Log} (record { mem = mem; active = active; stale = stale; list = list; batch = batch }) (record { mem = mem; active = active'; stale = stale; list = list'; batch = batch' })
same_log mem active active' stale list list' batch batch' a e f = λ i. record { mem = mem; active = a i; stale = stale; list = e i; batch = f i }

module _ (mem active : ℕ) (stale : Bool) (front back : Buffered) (keeps : KeepsBoth mem active front back) where
  abbrev pub whole : Log
  whole = record { mem = mem; active = active; stale = stale; list = front.list ++ back.list; batch = back.batch }

  pub size : length whole.list ≡ length front.list + length back.list
  size = length-append front.list back.list

  -- while the first buffer is empty the active region has room
  pub short : length front.list ≡ 0 → (front.list ≡ []) × (length back.list < mem)
  short none = elim keeps.split [
    | inl parts ↦ parts
    | inr full ↦ absurd (omega (arith, none, full.0, keeps.mem_least))
  ]

  pub long : length front.list ≢ 0 → (length front.list ≡ mem) × (length back.list + length back.batch + 2 ≤ mem)
  long some = elim keeps.split [
    | inl parts ↦ absurd (some (ap length parts.0))
    | inr full ↦ full
  ]

  pub counted : length whole.list + 2 ≤ mem + mem
  counted = elim keeps.split [
    | inl parts ↦ omega (arith, size, ap length parts.0, parts.1, keeps.mem_least)
    | inr full ↦ omega (arith, size, full.0, full.1)
  ]

  -- what a batch may still take
  pub room_short : length whole.list < mem → room_of whole ≡ mem - length whole.list
  room_short few = ap (λ (b : Bool). cond b (mem - length whole.list) (2 * mem - 2 - length whole.list)) (lt-ltb (length whole.list) mem few)

  pub room_long : mem ≤ length whole.list → room_of whole ≡ 2 * mem - 2 - length whole.list
  room_long many = ap (λ (b : Bool). cond b (mem - length whole.list) (2 * mem - 2 - length whole.list)) (le-ltb (length whole.list) mem many)

  pub room_behind : length back.batch < room_of whole → length back.list + length back.batch < mem
  room_behind room = elim keeps.split [
    | inl parts ↦ omega (arith, room, room_short (omega (arith, size, ap length parts.0, parts.1)), size, ap length parts.0)
    | inr full ↦ omega (arith, room, room_long (omega (arith, size, full.0)), size, full.0)
  ]

  -- with one change more in the batch
  pub batch_grown : (change : Change) → length back.batch < room_of whole → KeepsBoth mem active front (record { mem = back.mem; list = back.list; batch = back.batch ++ change ∷ [] })
  batch_grown change room = record {
    front_mem = keeps.front_mem;
    back_mem = keeps.back_mem;
    front_batch = keeps.front_batch;
    split = elim keeps.split [
      | inl parts ↦ inl parts
      | inr full ↦ inr (full.0, omega (arith, room, room_long (omega (arith, size, full.0)), size, full.0, length-append back.batch (change ∷ [])))
    ];
    mem_least = keeps.mem_least;
    mem_most = keeps.mem_most;
    active_most = keeps.active_most;
  }

  -- the part that takes the batch is what the second buffer has
  pub taken : (taking whole).list ≡ back.list
  taken = elim keeps.split [
    | inl parts ↦ ap (λ (l : Log). l.list) (taken_short whole (omega (arith, size, ap length parts.0, parts.1))) ∙ ap (λ (xs : List Change). xs ++ back.list) parts.0
    | inr full ↦ ap (λ (l : Log). l.list) (taken_long whole (omega (arith, size, full.0))) ∙ drop_at front.list back.list mem full.0
  ]

  pub may_append : list_all is_lawful back.list ≡ true → list_all is_lawful back.batch ≡ true → length back.list + length back.batch ≤ back.mem → HasRoomToAppend whole
  may_append list_fits batch_fits few = record {
    list_fits = ap (list_all is_lawful) taken ∙ list_fits;
    batch_fits = batch_fits;
    few = omega (arith, few, keeps.back_mem, ap length taken);
    active_most = keeps.active_most;
  }

  pub gate_here : length front.list ≡ 0 → (at : ℕ) → at ≡ length (records_bytes back.list) → region_at mem active + at ≡ gate_of whole
  gate_here none at at_is =
      let parts = short none in
      omega (arith, at_is, ap gate_in (taken_short whole (omega (arith, size, ap length parts.0, parts.1))), ap (λ (xs : List Change). length (records_bytes (xs ++ back.list))) parts.0)

  pub gate_there : length front.list ≢ 0 → (at : ℕ) → at ≡ length (records_bytes back.list) → region_at mem (1 - active) + at ≡ gate_of whole
  gate_there some at at_is =
      let full = long some in
      omega (arith, at_is, ap gate_in (taken_long whole (omega (arith, size, full.0))), ap (λ (xs : List Change). length (records_bytes xs)) (drop_at front.list back.list mem full.0))

  -- what stands in each region
  pub active_here : length front.list ≡ 0 → records_bytes back.list ≡ records_bytes (take mem whole.list)
  active_here none =
      let parts = short none in
      ap records_bytes (sym (take_all mem whole.list (omega (arith, size, ap length parts.0, parts.1)) ∙ ap (λ (xs : List Change). xs ++ back.list) parts.0))

  pub active_there : length front.list ≢ 0 → records_bytes front.list ≡ records_bytes (take mem whole.list)
  active_there some = ap records_bytes (sym (take_at front.list back.list mem (long some).0))

  pub later_here : length front.list ≡ 0 → records_bytes front.list ≡ records_bytes (drop mem whole.list)
  later_here none =
      let parts = short none in
      ap records_bytes (parts.0 ∙ sym (drop_all mem whole.list (omega (arith, size, ap length parts.0, parts.1))))

  pub later_there : length front.list ≢ 0 → records_bytes back.list ≡ records_bytes (drop mem whole.list)
  later_there some = ap records_bytes (sym (drop_at front.list back.list mem (long some).0))

  -- what stands behind a full region is less than a region takes
  pub later_few : length (drop mem whole.list) < mem
  later_few = elim keeps.split [
    | inl parts ↦ omega (arith, ap length (drop_all mem whole.list (omega (arith, size, ap length parts.0, parts.1))), keeps.mem_least)
    | inr full ↦ omega (arith, ap length (drop_at front.list back.list mem full.0), full.1)
  ]

  -- the batch joins the list
  pub join_keeps : (length front.list ≢ 0) ⊎ (length (back.list ++ back.batch) ≢ mem) → length back.list + length back.batch ≤ back.mem
      → KeepsBoth mem active front (record { mem = back.mem; list = back.list ++ back.batch; batch = [] })
  join_keeps room few = record {
    front_mem = keeps.front_mem;
    back_mem = keeps.back_mem;
    front_batch = keeps.front_batch;
    split = elim keeps.split [
      | inl parts ↦ elim room [
        | inl some ↦ absurd (some (ap length parts.0))
        | inr other ↦ inl (parts.0, omega (arith, other, few, keeps.back_mem, length-append back.list back.batch))
      ]
      | inr full ↦ inr (full.0, omega (arith, full.1, length-append back.list back.batch))
    ];
    mem_least = keeps.mem_least;
    mem_most = keeps.mem_most;
    active_most = keeps.active_most;
  }

  pub swap_keeps : length front.list ≡ 0 → length (back.list ++ back.batch) ≡ mem
      → KeepsBoth mem active (record { mem = back.mem; list = back.list ++ back.batch; batch = [] }) front
  swap_keeps none full = record {
    front_mem = keeps.back_mem;
    back_mem = keeps.front_mem;
    front_batch = refl;
    split = inr (full, omega (arith, none, ap length keeps.front_batch, keeps.mem_least));
    mem_least = keeps.mem_least;
    mem_most = keeps.mem_most;
    active_most = keeps.active_most;
  }

  pub swapped : length front.list ≡ 0 → (back.list ++ back.batch) ++ front.list ≡ whole.list ++ back.batch
  swapped none =
      let empty = none_long front.list none in
      ap (λ (xs : List Change). (back.list ++ back.batch) ++ xs) empty ∙ append-nil (back.list ++ back.batch) ∙ ap (λ (xs : List Change). (xs ++ back.list) ++ back.batch) (sym empty)

  -- the journal goes on in the other region
  pub forget_keeps : length front.list ≡ 0 → KeepsBoth mem (1 - active) front (record { mem = back.mem; list = []; batch = back.batch })
  forget_keeps none = record {
    front_mem = keeps.front_mem;
    back_mem = keeps.back_mem;
    front_batch = keeps.front_batch;
    split = inl (none_long front.list none, omega (arith, keeps.mem_least));
    mem_least = keeps.mem_least;
    mem_most = keeps.mem_most;
    active_most = omega arith;
  }

  pub clear_keeps : length front.list ≢ 0 → KeepsBoth mem (1 - active) (no_records front.mem) back
  clear_keeps some = record {
    front_mem = keeps.front_mem;
    back_mem = keeps.back_mem;
    front_batch = refl;
    split = inl (refl, omega (arith, (long some).1));
    mem_least = keeps.mem_least;
    mem_most = keeps.mem_most;
    active_most = omega arith;
  }

  pub forgotten : length front.list ≡ 0 → front.list ++ [] ≡ drop mem whole.list
  forgotten none =
      let parts = short none in
      ap (λ (xs : List Change). xs ++ []) parts.0 ∙ sym (drop_all mem whole.list (omega (arith, size, ap length parts.0, parts.1)))

  pub turned : length front.list ≢ 0 → back.list ≡ drop mem whole.list
  turned some = sym (drop_at front.list back.list mem (long some).0)
