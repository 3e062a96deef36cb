-- What a serving run over a workload leaves of a new store.
use Rattle.std.proofs.Common.{◌≡◌, ◌≢◌, ◌≤◌, ◌<◌, ◌+◌, ◌^◌, ℕ, zero, suc, min, List, [], ◌∷◌, ◌++◌, length, take, map, Option, Some, None, refl, sym, ap, subst, ◌∙◌, inl, inr, append-nil, length-append, length-take, arith}
use Rattle.std.specs.Prelude.{◌⊎◌, Ok, Err, IfSome, option_map}
use Rattle.std.proofs.lemmas.List.{take_all, length-map}
use Rattle.def_crash.specs.Image.{Image}
use Rattle.def_crash.specs.Moments.{DiskView, Images, Since, Passes, KeepsImages}
use Rattle.def_crash.specs.Trail.{At, Trail}
use Rattle.def_crash.proofs.MomentLemmas.{now_since_start, since_now}
use Rattle.def_crash.proofs.TrailLemmas.{trail_of_one, at_either, at_below}
use Rattle.def_bytes.specs.Damage.{Read}
use Rattle.strat_model.specs.declared.ended.Ended.{Ended}
use Rattle.strat_model.specs.declared.ended.Ended.TheVariants as ended
use Rattle.strat_model.specs.declared.replies.Refusal.TheVariants as why
use Rattle.strat_model.specs.Answer.{refusal}
use Rattle.strat_model.specs.Batch.{Continuation, tables_behind, tables_continued}
use Rattle.strat_model.specs.Run.{Position, Response, Exchange, Interruption, IsTranscript, Transcript, bodies_of, of_interruption}
use Rattle.strat_model.specs.Stream.{Splits, Whole, Rest, ending_of}
use Rattle.strat_model.specs.Table.{Table, fresh, bare}
use Rattle.def_recovery.specs.Head.{Head}
use Rattle.def_publish.specs.Standing.{ShowsTable}
use Rattle.def_state.specs.State.{State, fresh_state}
use Rattle.strat_memory.proofs.PayingLemmas.{stored_since}
use Rattle.strat_open.specs.Following.{FollowsFrom, IsUnchanged, LeavesOpening}
use Rattle.strat_open.specs.Format.{IsBlank, IsNewDisk, IsNewStore, IsNoneOrNew, head_for}
use Rattle.strat_serve.specs.Generated.{workload_bytes, workload_bodies}
use Rattle.strat_model.proofs.BatchLemmas.{over_nothing}
use Rattle.strat_loop.specs.Session.{Took, AreNextIn, IsAtEnd, Session, EndsFor, GaveUp, RefusesFor, EndHasCause}
use Rattle.strat_serve.specs.Serving.{FollowsRun, Served, RunOutcome}
use Rattle.strat_loop.specs.World.{World, world}
use Rattle.strat_loop.specs.Spoken.{FitsBothRegions}
use Rattle.strat_serve.proofs.StreamedLemmas.{few_bytes, front_of, all_of_it}
use Rattle.castle.specs.Working.{EndsWorkload, EndsAfterAll, workload_start, FollowsNew, CarriesOutWorkload, LeavesWorkload}
use Rattle.castle.proofs.CompleteLemmas.{finds_none, never_damaged, of_run}

-- what is taken of the front of a list
take_less : {A : Type 0} (n m : ℕ) (xs : List A) → n ≤ m → take n (take m xs) ≡ take n xs
take_less zero m xs le = refl
take_less (suc n) zero xs le = absurd (omega (arith, le))
take_less (suc n) (suc m) [] le = refl
take_less (suc n) (suc m) (x ∷ xs) le = ap (λ t. x ∷ t) (take_less n m xs (omega (arith, le)))

-- the front of a front is a front
front_of_front : (all bodies some : List (List ℕ)) → take (length bodies) all ≡ bodies → take (length some) bodies ≡ some → take (length some) all ≡ some
front_of_front all bodies some first second =
    let len : length some ≡ min (length some) (length bodies) = sym (ap length second) ∙ length-take (length some) bodies in
    let few : length some ≤ length bodies = grind (arith, len) in
    sym (take_less (length some) (length bodies) all few) ∙ ap (take (length some)) first ∙ second

-- so are the bodies of a run and those over which it is continued
next_of_front : (all bodies : List (List ℕ)) (run : Transcript) (more : List Exchange) → take (length bodies) all ≡ bodies → AreNextIn bodies run more → AreNextIn all run more
next_of_front all bodies run more front next =
    let some : List (List ℕ) = bodies_of run ++ map (λ (x : Exchange). x.body) more in
    let len : length some ≡ length (bodies_of run) + length more = length-append (bodies_of run) (map (λ (x : Exchange). x.body) more) ∙ ap (λ (n : ℕ). length (bodies_of run) + n) (length-map more (λ (x : Exchange). x.body)) in
    ap (λ (n : ℕ). take n all) (sym len) ∙ front_of_front all bodies some front (ap (λ (n : ℕ). take n bodies) len ∙ next)

some_is : {A : Type 0} (x y : A) → ◌≡◌ {A = Option A} (Some x) (Some y) → x ≡ y
some_is x y e = cc

-- what a source that tells its bytes gave
record Gave (bytes : List ℕ) (left : Option (List ℕ)) (taken : List ℕ) : Type 0 where
  rest : List ℕ
  parts : bytes ≡ taken ++ rest
  now : left ≡ Some rest

gave_of : (bytes : List ℕ) (left : Option (List ℕ)) (taken : List ℕ) → Took (Some bytes) left taken → Gave bytes left taken
gave_of bytes left taken took = let t = took.exposed bytes refl in record { rest = t.0; parts = t.1; now = t.2 }

module _ (seed count : ℕ) (few : count < 2 ^ 32) where
  -- all was taken where the source has nothing left
  all_taken : (left : Option (List ℕ)) (s : Session) → Gave (workload_bytes seed count) left s.taken → IsAtEnd left → workload_bytes seed count ≡ s.taken
  all_taken left s gave ends = gave.parts ∙ ap (λ (x : List ℕ). s.taken ++ x) (ends gave.rest gave.now) ∙ append-nil s.taken

  -- no end of a serving run over a workload is that of its frames
  served_end : (how : Ended) (before now : World) → before.left ≡ Some (workload_bytes seed count) → before.source_faults ≡ 0 → now.source_faults ≡ 0 → before.sink_faults ≡ 0 → now.sink_faults ≡ 0
      → EndHasCause how before now → Served 1099511627776 how before now → EndsWorkload how × (how ≢ ended.Sink)
  served_end ended.Done b n left s0 s1 k0 k1 cause served = (tt, λ is. let f : ended.Done ≡ ended.Sink = is in cc)
  served_end ended.Device b n left s0 s1 k0 k1 cause served = (tt, λ is. let f : ended.Device ≡ ended.Sink = is in cc)
  served_end (ended.Damaged block) b n left s0 s1 k0 k1 cause served = (tt, λ is. let f : ended.Damaged block ≡ ended.Sink = is in cc)
  served_end ended.FrameTooLong b n left s0 s1 k0 k1 cause served =
      let s = served.session in
      let gave = gave_of (workload_bytes seed count) n.left s.taken (subst (λ (o : Option (List ℕ)). Took o n.left s.taken) left served.took) in
      absurd ((front_of seed count s.taken gave.rest s.bodies s.rest few gave.parts served.is.splits).1 served.ends.1)
  served_end ended.Truncated b n left s0 s1 k0 k1 cause served =
      let s = served.session in
      let gave = gave_of (workload_bytes seed count) n.left s.taken (subst (λ (o : Option (List ℕ)). Took o n.left s.taken) left served.took) in
      let whole = all_taken n.left s gave served.ends.2 in
      let none = (all_of_it seed count s.bodies s.rest few (subst (λ (bytes : List ℕ). Splits bytes s.bodies s.rest) (sym whole) served.is.splits)).1 in
      let f : Whole ≡ Rest = ap ending_of (sym none) ∙ served.ends.1 in absurd cc
  served_end ended.Budget b n left s0 s1 k0 k1 cause served =
      let s = served.session in
      let gave = gave_of (workload_bytes seed count) n.left s.taken (subst (λ (o : Option (List ℕ)). Took o n.left s.taken) left served.took) in
      absurd (omega (arith, few, few_bytes seed count few, ap length gave.parts, length-append s.taken gave.rest, served.ends.2))
  served_end ended.Source b n left s0 s1 k0 k1 cause served = absurd (grind (arith, cause.source refl, s0, s1))
  served_end ended.Sink b n left s0 s1 k0 k1 cause served = absurd (grind (arith, cause.sink refl, k0, k1))
  served_end ended.Usage b n left s0 s1 k0 k1 cause served = absurd served.ends
  served_end ended.NotAStore b n left s0 s1 k0 k1 cause served = absurd served.ends
  served_end ended.NoMemory b n left s0 s1 k0 k1 cause served = absurd served.ends
  served_end ended.Unsound b n left s0 s1 k0 k1 cause served = absurd served.ends
  served_end ended.UnknownVersion b n left s0 s1 k0 k1 cause served = absurd served.ends

  gave_up_end : (how : Ended) (before now : World) → GaveUp how before now → EndsWorkload how × (how ≢ ended.Sink)
  gave_up_end ended.NotAStore b n gave = (tt, λ is. let f : ended.NotAStore ≡ ended.Sink = is in cc)
  gave_up_end ended.Device b n gave = (tt, λ is. let f : ended.Device ≡ ended.Sink = is in cc)
  gave_up_end ended.NoMemory b n gave = (tt, λ is. let f : ended.NoMemory ≡ ended.Sink = is in cc)
  gave_up_end (ended.Damaged block) b n gave = (tt, λ is. let f : ended.Damaged block ≡ ended.Sink = is in cc)
  gave_up_end ended.Done b n gave = absurd gave.ends
  gave_up_end ended.Usage b n gave = absurd gave.ends
  gave_up_end ended.FrameTooLong b n gave = absurd gave.ends
  gave_up_end ended.Truncated b n gave = absurd gave.ends
  gave_up_end ended.Source b n gave = absurd gave.ends
  gave_up_end ended.Sink b n gave = absurd gave.ends
  gave_up_end ended.Budget b n gave = absurd gave.ends
  gave_up_end ended.Unsound b n gave = absurd gave.ends
  gave_up_end ended.UnknownVersion b n gave = absurd gave.ends

  pub workload_end : (how : Ended) (before now : World) → before.left ≡ Some (workload_bytes seed count) → before.source_faults ≡ 0 → now.source_faults ≡ 0 → before.sink_faults ≡ 0 → now.sink_faults ≡ 0
      → EndHasCause how before now → RunOutcome 1099511627776 how before now → EndsWorkload how × (how ≢ ended.Sink)
  workload_end how b n left s0 s1 k0 k1 cause (inl gave) = gave_up_end how b n gave
  workload_end how b n left s0 s1 k0 k1 cause (inr served) = served_end how b n left s0 s1 k0 k1 cause served

-- the interruption that a session without a fault has
no_interruption : (broken : Option Response) (h : Option Interruption) → broken ≡ None → broken ≡ option_map (λ i. i.response) h → h ≡ None
no_interruption broken None none is = refl
no_interruption broken (Some i) none is = absurd (let f : ◌≡◌ {A = Option Response} None (Some i.response) = sym none ∙ is in cc)

-- what broke a run off that the device ended is the device's fault
broken_off : (how : Ended) (broken : Option Response) (h : Option Interruption) → how ≡ ended.Device → broken ≡ option_map (λ (i : Interruption). i.response) h
    → IfSome broken (λ (r : Response). r.answer ≡ refusal why.DeviceFault) → IfSome h (λ (i : Interruption). (i.response.answer ≡ refusal why.DeviceFault) × (how ≡ ended.Device))
broken_off how broken None ends same device = tt
broken_off how broken (Some i) ends same device = (subst (λ (o : Option Response). IfSome o (λ (r : Response). r.answer ≡ refusal why.DeviceFault)) same device, ends)

-- the one behind a list's end
last_at : (xs : List Table) (x : Table) (i : ℕ) (P : Table → Type 0) → length xs ≤ i → At (xs ++ x ∷ []) i P → P x
last_at xs x i P le at =
    elim (at_either xs (x ∷ []) i P at) [
      | inl early ↦ absurd (omega (arith, le, at_below xs i P early))
      | inr late ↦ only late.0 late.2
    ]
  where
    only : (j : ℕ) → At (x ∷ []) j P → P x
    only zero p = p
    only (suc j) p = absurd p

-- a new store on a disk that a format left, and what came then
module _ (d0 d1 d2 : DiskView) (later : Passes d0 d1) (passes : Passes d1 d2)
    (moments : IsBlank d0 → (c : Image) → Since d1 d0.moment c → IsNoneOrNew 2 64 16777216 16384 c) (disk : IsNewDisk 2 64 16777216 16384 d1) where
  abbrev pub content : Image
  content = disk.rest.content

  -- what was possible when it was made is the new store
  is_new : (c : Image) → Images d1 c → IsNewStore 2 64 16777216 16384 c
  is_new c image = subst (λ (x : Image). IsNewStore 2 64 16777216 16384 x) (sym (disk.rest.alone c image)) disk.new

  blank_until : IsBlank d0 → (m : ℕ) (c : Image) → d0.moment ≤ m → m ≤ d1.moment → d2.images_at m c → IsNoneOrNew 2 64 16777216 16384 c
  blank_until blank m c low high image = moments blank c (record { at = m; from = low; till = high; left = passes.past m c high image })

  from_follows : (tables : List Table) (n : ℕ) → FollowsFrom d1 d2 content tables n → FollowsNew d0 d2 tables n
  from_follows tables n f = record {
    made = d1.moment;
    synced = f.synced;
    from = later.later;
    later = f.from;
    till = f.till;
    until = blank_until;
    new = λ m c low high image. is_new c (f.until m c low high image);
    trail = f.trail;
    left = f.left;
    stored = f.stored;
    paid = f.paid disk.new.paid;
  }

  from_still : KeepsImages d1 d2 → FollowsNew d0 d2 (fresh 16777216 16384 ∷ []) 0
  from_still kept =
      let each : (c : Image) → Since d2 d1.moment c → IsNewStore 2 64 16777216 16384 c = λ c since. is_new c (kept.each c since) in
      let trail : Trail ShowsTable d2 d2.moment (fresh 16777216 16384 ∷ []) 0 =
      trail_of_one ShowsTable d2 d2.moment (fresh 16777216 16384) [] (omega arith)
      (λ c since. (each c (now_since_start d1 d2 c passes (since_now d2 c since))).shows) in
      record {
        made = d1.moment;
        synced = d2.moment;
        from = later.later;
        later = passes.later;
        till = omega arith;
        until = blank_until;
        new = λ m c low high image. each c (record { at = m; from = low; till = high; left = image });
        trail = trail;
        left = λ c image. (0, omega arith, (each c (now_since_start d1 d2 c passes image)).shows);
        stored = stored_since d2 d2.moment (fresh 16777216 16384 ∷ []) 0 trail;
        paid = λ c since. (each c (now_since_start d1 d2 c passes (since_now d2 c since))).paid;
      }

  -- nothing was carried out
  none_carried : (seed count : ℕ) (how : Ended) → (EndsAfterAll how → ⊥) → FollowsNew d0 d2 (fresh 16777216 16384 ∷ []) 0 → CarriesOutWorkload seed count how d0 d2
  none_carried seed count how early follows =
      let nothing : Transcript = record { exchanges = []; after = workload_start; interruption = None } in
      let c = over_nothing 64 nothing in
      record {
        transcript = nothing;
        run = record { run = refl; interrupted = tt };
        region = (omega arith, tt);
        front = refl;
        all = λ is. absurd (early is);
        continued = c.0;
        next = subst (λ (xs : List Exchange). AreNextIn (workload_bodies seed count) nothing xs) (sym c.1) refl;
        broken = tt;
        follows = follows;
        shows = λ is. absurd (early is);
      }

  follows_opening : LeavesOpening d1 d2 content → FollowsNew d0 d2 (fresh 16777216 16384 ∷ []) 0
  follows_opening (inl same) = from_still same.1
  follows_opening (inr stops) = from_follows (fresh 16777216 16384 ∷ []) 0 (stops.follows (fresh 16777216 16384) disk.new.shows)

  module _ (seed count : ℕ) (few : count < 2 ^ 32) (first left : Option (List ℕ)) (x y : ℕ) (is_first : first ≡ Some (workload_bytes seed count)) where
    abbrev pub before : World
    before = world first 0 None 0 d1 x

    abbrev pub now : World
    now = world left 0 None 0 d2 y

    gave_up_leaves : (how : Ended) → GaveUp how before now → RefusesFor how d1 d2 → LeavesWorkload seed count how d0 d2
    gave_up_leaves ended.NoMemory gave refuses =
        let same : IsUnchanged d1 d2 = gave.kept (λ is. let f : ended.NoMemory ≡ ended.Device = is in cc) in
        record { ends = tt; made = inr (none_carried seed count ended.NoMemory (λ is. is) (from_still same.1)) }
    gave_up_leaves ended.Device gave refuses =
        record { ends = tt; made = inr (none_carried seed count ended.Device (λ is. is) (follows_opening (gave.failed refl content disk.rest.exposed))) }
    gave_up_leaves ended.NotAStore gave refuses =
        let e : ◌≡◌ {A = Read (Option Head)} (Ok (Some (head_for 2 64 16777216 16384))) (Ok None) = sym disk.new.found ∙ finds_none content (refuses.none refl content disk.rest.exposed) in absurd cc
    gave_up_leaves (ended.Damaged block) gave refuses =
        let e : ◌≡◌ {A = Read (Option Head)} (Ok (Some (head_for 2 64 16777216 16384))) (Err block) = sym disk.new.found ∙ gave.damaged block refl content disk.rest.exposed in absurd cc
    gave_up_leaves ended.Done gave refuses = absurd gave.ends
    gave_up_leaves ended.Usage gave refuses = absurd gave.ends
    gave_up_leaves ended.FrameTooLong gave refuses = absurd gave.ends
    gave_up_leaves ended.Truncated gave refuses = absurd gave.ends
    gave_up_leaves ended.Source gave refuses = absurd gave.ends
    gave_up_leaves ended.Sink gave refuses = absurd gave.ends
    gave_up_leaves ended.Budget gave refuses = absurd gave.ends
    gave_up_leaves ended.Unsound gave refuses = absurd gave.ends
    gave_up_leaves ended.UnknownVersion gave refuses = absurd gave.ends

    module _ (how : Ended) (served : Served 1099511627776 how before now) where
      abbrev s : Session
      s = served.session

      run : FollowsRun d1 d2 content (fresh 16777216 16384) s
      run = served.follows content (fresh 16777216 16384) disk.rest.exposed disk.new.shows

      gave : Gave (workload_bytes seed count) left s.taken
      gave = gave_of (workload_bytes seed count) left s.taken (subst (λ (o : Option (List ℕ)). Took o left s.taken) is_first served.took)

      -- a run that ended with its input answered all bodies of the workload, and no fault broke it off
      module _ (done : EndsFor ended.Done 1099511627776 s left) where
        unbroken : run.transcript.interruption ≡ None
        unbroken = no_interruption s.broken run.transcript.interruption done.0.unbroken run.broken_is

        bodies_are : bodies_of run.transcript ≡ workload_bodies seed count
        bodies_are =
            let tr = run.transcript in
            let parts : bodies_of tr ≡ map (λ (e : Exchange). e.body) tr.exchanges ++ [] = ap (λ (h : Option Interruption). map (λ (e : Exchange). e.body) tr.exchanges ++ of_interruption (λ i. i.body) h) unbroken in
            let many : length s.bodies ≤ length (bodies_of tr) =
            omega (
              arith,
              ap length parts,
              length-append (map (λ (e : Exchange). e.body) tr.exchanges) [],
              length-map tr.exchanges (λ (e : Exchange). e.body),
              ap length run.answers_are,
              length-map tr.exchanges (λ (e : Exchange). e.response),
              done.0.all,
            ) in
            let whole : workload_bytes seed count ≡ s.taken = all_taken seed count few left s gave done.2 in
            sym run.front ∙ take_all (length (bodies_of tr)) s.bodies many
            ∙ (all_of_it seed count s.bodies s.rest few (subst (λ (bytes : List ℕ). Splits bytes s.bodies s.rest) (sym whole) served.is.splits)).0

        shows_last : (c : Image) → Images d2 c → ShowsTable c (bare run.transcript.after.table)
        shows_last c image =
            let tr = run.transcript in
            let fronts : List Table = map (λ (e : Exchange). bare e.at.table) tr.exchanges in
            let tables : tables_continued tr run.continued.end ≡ fronts ++ bare tr.after.table ∷ [] = ap (λ (h : Option Interruption). fronts ++ (bare tr.after.table ∷ tables_behind h run.continued.end)) unbroken in
            let found = run.follows.left c image in
            last_at fronts (bare tr.after.table) found.0 (ShowsTable c) (omega (arith, found.1, length-map tr.exchanges (λ (e : Exchange). bare e.at.table)))
            (subst (λ (ts : List Table). At ts found.0 (ShowsTable c)) tables found.2)

      broken_by : (how ≡ ended.Device) ⊎ EndsFor ended.Done 1099511627776 s left → IfSome run.transcript.interruption (λ (i : Interruption). (i.response.answer ≡ refusal why.DeviceFault) × (how ≡ ended.Device))
      broken_by (inl device) = broken_off how s.broken run.transcript.interruption device run.broken_is run.device
      broken_by (inr done) = subst (λ (o : Option Interruption). IfSome o (λ (i : Interruption). (i.response.answer ≡ refusal why.DeviceFault) × (how ≡ ended.Device))) (sym (unbroken done)) tt

      carried : (EndsAfterAll how → EndsFor ended.Done 1099511627776 s left) → (how ≡ ended.Device) ⊎ EndsFor ended.Done 1099511627776 s left → CarriesOutWorkload seed count how d0 d2
      carried done ended_by =
          let state_is : run.begins.shows.state ≡ fresh_state 64 16777216 16384 = some_is _ _ (sym run.begins.shows.reads ∙ disk.new.reads) in
          let mem_is : run.mem ≡ 64 = run.begins.mem_is ∙ ap (λ (z : State). z.mem) state_is in
          let fill_is : run.start.fill ≡ 0 = run.begins.fill ∙ ap (λ (z : State). length z.journal) state_is in
          let start_is : run.start ≡ workload_start = λ j. record { table = run.table j; fill = fill_is j } in
          let continues : (k : Continuation 64 run.transcript) × AreNextIn s.bodies run.transcript k.more × FollowsNew d0 d2 (tables_continued run.transcript k.end) (length run.transcript.exchanges) =
          subst (λ (m : ℕ). (k : Continuation m run.transcript) × AreNextIn s.bodies run.transcript k.more × FollowsNew d0 d2 (tables_continued run.transcript k.end) (length run.transcript.exchanges)) mem_is
          (run.continued, run.next, from_follows (tables_continued run.transcript run.continued.end) (length run.transcript.exchanges) run.follows) in
          record {
            transcript = run.transcript;
            run = subst (λ (m : ℕ). IsTranscript m workload_start run.transcript) mem_is (subst (λ (p : Position). IsTranscript run.mem p run.transcript) start_is run.is);
            region = subst (λ (m : ℕ). FitsBothRegions m run.transcript) mem_is run.region;
            front = front_of_front (workload_bodies seed count) s.bodies (bodies_of run.transcript) (front_of seed count s.taken gave.rest s.bodies s.rest few gave.parts served.is.splits).0 run.front;
            all = λ is. (bodies_are (done is), unbroken (done is));
            continued = continues.0;
            next = next_of_front (workload_bodies seed count) s.bodies run.transcript continues.0.more (front_of seed count s.taken gave.rest s.bodies s.rest few gave.parts served.is.splits).0 continues.1;
            broken = broken_by ended_by;
            follows = continues.2;
            shows = λ is. shows_last (done is);
          }

    served_leaves : (how : Ended) → EndsWorkload how → how ≢ ended.Sink → Served 1099511627776 how before now → LeavesWorkload seed count how d0 d2
    served_leaves ended.Done ends no_sink served = record { ends = tt; made = inr (carried ended.Done served (λ is. served.ends) (inr served.ends)) }
    served_leaves ended.Device ends no_sink served = record { ends = tt; made = inr (carried ended.Device served (λ is. absurd is) (inl refl)) }
    served_leaves (ended.Damaged block) ends no_sink served =
        absurd (never_damaged 1099511627776 (ended.Damaged block) before now content (fresh 16777216 16384) (of_run 1099511627776 (ended.Damaged block) before now (inr served)) disk.rest.exposed disk.new.shows block refl)
    served_leaves ended.Sink ends no_sink served = absurd (no_sink refl)
    served_leaves ended.NotAStore ends no_sink served = absurd served.ends
    served_leaves ended.NoMemory ends no_sink served = absurd served.ends
    served_leaves ended.Usage ends no_sink served = absurd ends
    served_leaves ended.FrameTooLong ends no_sink served = absurd ends
    served_leaves ended.Truncated ends no_sink served = absurd ends
    served_leaves ended.Source ends no_sink served = absurd ends
    served_leaves ended.Budget ends no_sink served = absurd ends
    served_leaves ended.Unsound ends no_sink served = absurd ends
    served_leaves ended.UnknownVersion ends no_sink served = absurd ends

    pub workload_leaves : (how : Ended) → EndsWorkload how → how ≢ ended.Sink → RunOutcome 1099511627776 how before now → RefusesFor how d1 d2 → LeavesWorkload seed count how d0 d2
    workload_leaves how ends no_sink (inl gave) refuses = gave_up_leaves how gave refuses
    workload_leaves how ends no_sink (inr served) refuses = served_leaves how ends no_sink served
