-- A serving run over a disk that shows a table, in words of tables and of crashes.
use Rattle.std.proofs.Common.{◌≡◌, ◌≢◌, ◌≤◌, ◌<◌, ◌+◌, ◌-◌, ◌*◌, ℕ, zero, suc, eqb, eqb-true, cond, Bool, true, false, List, [], ◌∷◌, ◌++◌, length, take, map, Option, Some, None, refl, sym, ap, subst, ◌∙◌, inl, inr, append-nil, length-append, true≢false, arith}
use Rattle.std.specs.Prelude.{option_map, slice_get, IfSome, IsSome}
use Rattle.std.specs.List.{flat_map, list_all, AllByRecursion}
use Rattle.std.proofs.lemmas.Bool.{and_from, cases_lt, eq-eqb, lt-ltb, le-ltb}
use Rattle.strat_base.specs.Numbers.{number}
use Rattle.std.proofs.lemmas.List.{take_all, length-map}
use Rattle.strat_base.specs.Tree.{Parents}
use Rattle.strat_base.specs.declared.failures.Fault.{Fault}
use Rattle.strat_base.specs.declared.failures.Fault.TheVariants as fault
use Rattle.def_crash.specs.Faults.{Rose}
use Rattle.def_crash.specs.Image.{Image}
use Rattle.def_crash.specs.Moments.{DiskView, Since}
use Rattle.def_crash.specs.Trail.{At, Trail}
use Rattle.strat_io.specs.Streams.{Appends}
use Rattle.strat_model.specs.Faults.{fault_told}
use Rattle.strat_model.specs.declared.ended.Ended.{Ended}
use Rattle.strat_model.specs.declared.ended.Ended.TheVariants as ended
use Rattle.strat_model.specs.declared.replies.Refusal.TheVariants as why
use Rattle.strat_model.specs.Answer.{Answer, refusal}
use Rattle.strat_model.specs.Batch.{Continuation, tables_continued}
use Rattle.strat_model.specs.Ended.{status_of}
use Rattle.strat_model.specs.Run.{MayFill, Position, Response, Exchange, Interruption, Transcript, IsTranscript, bodies_of, responses_of, of_interruption, sent_bytes}
use Rattle.strat_model.specs.Stream.{frame, Splits, Whole, Rest, Long, ending_of, is_partial, is_too_long}
use Rattle.strat_model.specs.Table.{Table}
use Rattle.def_publish.specs.Standing.{ShowsTable}
use Rattle.def_state.specs.Level.{Level, IsStratified, is_dense}
use Rattle.def_state.specs.State.{State, stored, updates_of, versions_of}
use Rattle.strat_open.specs.Following.{FollowsFrom}
use Rattle.strat_memory.specs.Paying.{IsPaidIn}
use Rattle.strat_loop.specs.Session.{AreNextIn, Begins, Session, AnswersAll, WaitsForNone, EndsWithFault, EndsFor}
use Rattle.strat_serve.specs.Serving.{AreAnsweredBy, RespondsTo, SendsAllButBatch, Served, FollowsRun, all_responses, listed_response, last_output, output, too_long_bytes}
use Rattle.strat_serve.specs.Tables.{AnswersAllTaken, AnswersUntilFault, AnswersUntilCut, RefusesNext, AnswersUntil, AnswersAsTable, EndsAtTables, GoesThroughTables, IsThrifty, KeepsSpace, begins_at}
use Rattle.strat_loop.specs.Spoken.{FitsBothRegions}
use Rattle.strat_loop.specs.World.{Streams, beside}

-- less than a whole frame is few bytes
partial_short : (bytes : List ℕ) → is_partial bytes ≡ true → length bytes < 2052
partial_short bytes part =
    elim (cases_lt (length bytes) 4) [
      | inl few ↦ omega arith
      | inr some ↦ elim (cases_lt 2048 (number 4 bytes)) [
        | inl big ↦ absurd (let p : is_partial bytes ≡ false = rw (le-ltb (length bytes) 4 some, lt-ltb 2048 (number 4 bytes) big) refl in let f : true ≡ false = sym part ∙ p in cc)
        | inr small ↦ elim (cases_lt (length bytes) (4 + number 4 bytes)) [
          | inl less ↦ omega arith
          | inr whole ↦ absurd (let p : is_partial bytes ≡ false = rw (le-ltb (length bytes) 4 some, le-ltb 2048 (number 4 bytes) small, le-ltb (length bytes) (4 + number 4 bytes) whole) refl in let f : true ≡ false = sym part ∙ p in cc)
        ]
      ]
    ]

-- a rest after which a stream ends whole is none
whole_none : (rest : List ℕ) → ending_of rest ≡ Whole → rest ≡ []
whole_none [] e = refl
whole_none (x ∷ xs) e = absurd (by_test (is_too_long (x ∷ xs)) (eqb (length (x ∷ xs)) 0) refl e)
  where
    by_test : (b k : Bool) → eqb (length (x ∷ xs)) 0 ≡ k → cond b Long (cond k Whole Rest) ≡ Whole → ⊥
    by_test true k is f = let g : Long ≡ Whole = f in cc
    by_test false true is f = omega (arith, eqb-true (length (x ∷ xs)) 0 is)
    by_test false false is f = let g : Rest ≡ Whole = f in cc

-- a stream ends at a length that no frame may have just where one stands next
long_next : (rest : List ℕ) → ending_of rest ≡ Long → is_too_long rest ≡ true
long_next rest e = go (is_too_long rest) (eqb (length rest) 0) refl e
  where
    go : (b k : Bool) → is_too_long rest ≡ b → cond b Long (cond k Whole Rest) ≡ Long → is_too_long rest ≡ true
    go true k is f = is
    go false true is f = absurd (let g : Whole ≡ Long = f in cc)
    go false false is f = absurd (let g : Rest ≡ Long = f in cc)

next_long : (rest : List ℕ) → is_too_long rest ≡ true → ending_of rest ≡ Long
next_long rest e = rw e refl

none_next : (rest : List ℕ) → ending_of rest ≢ Long → is_too_long rest ≡ false
none_next rest other = go (is_too_long rest) refl
  where
    go : (b : Bool) → is_too_long rest ≡ b → is_too_long rest ≡ false
    go true is = absurd (other (next_long rest is))
    go false is = is

-- a list of an interruption's response
listed : (o : Option Interruption) → listed_response (option_map (λ (h : Interruption). h.response) o) ≡ of_interruption (λ (h : Interruption). h.response) o
listed None = refl
listed (Some h) = refl

-- the interruption that a session without a fault has
no_interruption : (broken : Option Response) (h : Option Interruption) → broken ≡ None → broken ≡ option_map (λ i. i.response) h → h ≡ None
no_interruption broken None none is = refl
no_interruption broken (Some i) none is = absurd (let f : ◌≡◌ {A = Option Response} None (Some i.response) = sym none ∙ is in cc)

-- what broke a run off is the device's fault, which is told
broken_off : (R : Type 0) (broken : Option Response) (h : Option Interruption) → broken ≡ option_map (λ (i : Interruption). i.response) h → IfSome broken (λ (r : Response). r.answer ≡ refusal why.DeviceFault)
    → (EndsWithFault broken fault.Device → R) → IfSome h (λ (i : Interruption). (i.response.answer ≡ refusal why.DeviceFault) × R)
broken_off R broken None same device rose = tt
broken_off R broken (Some i) same device rose =
    let is : i.response.answer ≡ refusal why.DeviceFault = subst (λ (o : Option Response). IfSome o (λ (r : Response). r.answer ≡ refusal why.DeviceFault)) same device in
    (is, subst (λ (o : Option Response). EndsWithFault o fault.Device → R) same rose (ap (λ (a : Answer). fault_told a.reply) is))

-- something stands at a place of a list
pub at_some : (xs : List Table) (i : ℕ) (P : Table → Type 0) → At xs i P → (x : Table) × P x
at_some [] i P h = absurd h
at_some (x ∷ xs) zero P h = (x, h)
at_some (x ∷ xs) (suc i) P h = at_some xs i P h

-- the arrays of stratified levels are dense
dense_all : (parents : Parents) (levels : List Level) → AllByRecursion (IsStratified parents) levels → list_all (λ (level : Level). list_all (is_dense parents) level.arrays) levels ≡ true
dense_all parents [] all = refl
dense_all parents (level ∷ levels) all = and_from _ _ all.0.dense (dense_all parents levels all.1)

-- an image that shows a table is thrifty where it stores few entries
pub thrifty_of : (c : Image) (t : Table) (shows : ShowsTable c t) → stored shows.state ≤ 2 * updates_of shows.state → IsThrifty c
thrifty_of c t shows two = record {
  state = shows.state;
  reads = shows.reads;
  sound = shows.sound;
  dense = dense_all (versions_of shows.state) shows.state.levels shows.sound.stratified;
  two = two;
}

module _ (before now : DiskView) (f : Image) (tables : List Table) (n : ℕ) (follows : FollowsFrom before now f tables n) where
  -- what a crash may leave from the sync on is sound, thrifty and paid for
  keeps_since : (c : Image) → Since now follows.synced c → IsThrifty c × (IsPaidIn f → IsPaidIn c)
  keeps_since c since =
      let found = follows.trail.each 0 since.at c (omega arith) (omega (arith, follows.trail.first, since.from)) since.till since.left in
      let shown = at_some tables found.0 (ShowsTable c) found.2 in (
        thrifty_of c shown.0 shown.1 (follows.stored c since shown.1.state shown.1.reads),
        λ paid. follows.paid paid c since,
      )

  pub keeps_space : KeepsSpace f before now
  keeps_space c since = elim (cases_lt since.at follows.synced) [
    | inl early ↦ inl (follows.until since.at c since.from (omega (arith, early)) since.left)
    | inr late ↦ inr (keeps_since c (record { at = since.at; from = late; till = since.till; left = since.left }))
  ]

  pub goes_through : (run : Transcript) (end : Position) → tables ≡ tables_continued run end → n ≡ length run.exchanges → GoesThroughTables run end f before now
  goes_through run end tables_are n_is = record {
    synced = follows.synced;
    from = follows.from;
    till = follows.till;
    content = follows.content;
    one = follows.one;
    until = follows.until;
    trail = subst (λ (k : ℕ). Trail ShowsTable now follows.synced (tables_continued run end) k) n_is (subst (λ (ts : List Table). Trail ShowsTable now follows.synced ts n) tables_are follows.trail);
  }

-- a run that begins where an image leads begins at the table that it shows
module _ (f : Image) (t : Table) (shows : ShowsTable f t) (mem : ℕ) (start : Position) (begins : Begins f mem start) (table : start.table ≡ t) where
  state_is : begins.shows.state ≡ shows.state
  state_is = let e : Some begins.shows.state ≡ Some shows.state = sym begins.shows.reads ∙ shows.reads in cc

  mem_is : mem ≡ shows.state.mem
  mem_is = begins.mem_is ∙ ap (λ (u : State). u.mem) state_is

  start_is : start ≡ begins_at f t shows
  start_is =
      let fill : start.fill ≡ length shows.state.journal = begins.fill ∙ ap (λ (u : State). length u.journal) state_is in
      (λ i. record { table = table i; fill = fill i })

  pub region_there : (run : Transcript) → FitsBothRegions mem run → FitsBothRegions shows.state.mem run
  region_there run fits = subst (λ (m : ℕ). FitsBothRegions m run) mem_is fits

  pub begins_there : (run : Transcript) → IsTranscript mem start run → IsTranscript shows.state.mem (begins_at f t shows) run
  begins_there run is =
      subst (λ (m : ℕ). IsTranscript m (begins_at f t shows) run) mem_is (subst (λ (p : Position). IsTranscript mem p run) start_is is)

module _ (v w : DiskView) (f : Image) (t : Table) (s : Session) (run : FollowsRun v w f t s) where
  abbrev tr : Transcript
  tr = run.transcript

  unbroken : s.broken ≡ None → tr.interruption ≡ None
  unbroken none = no_interruption s.broken tr.interruption none run.broken_is

  -- its responses are those of the session
  responses_are : all_responses s ≡ responses_of tr
  responses_are =
      ap (λ (xs : List Response). xs ++ listed_response s.broken) run.answers_are
      ∙ ap (λ (o : Option Response). map (λ (x : Exchange). x.response) tr.exchanges ++ listed_response o) run.broken_is
      ∙ ap (λ (xs : List Response). map (λ (x : Exchange). x.response) tr.exchanges ++ xs) (listed tr.interruption)

  -- where all bodies were answered they are those of the session
  bodies_are : AnswersAll s → s.bodies ≡ bodies_of tr
  bodies_are all =
      let parts : bodies_of tr ≡ map (λ (e : Exchange). e.body) tr.exchanges ++ [] =
      ap (λ (h : Option Interruption). map (λ (e : Exchange). e.body) tr.exchanges ++ of_interruption (λ i. i.body) h) (unbroken all.unbroken) in
      let many : length s.bodies ≤ length (bodies_of tr) =
      omega (
        arith,
        ap length parts,
        length-append (map (λ (e : Exchange). e.body) tr.exchanges) [],
        length-map tr.exchanges (λ (e : Exchange). e.body),
        ap length run.answers_are,
        length-map tr.exchanges (λ (e : Exchange). e.response),
        all.all,
      ) in
      sym (take_all (length (bodies_of tr)) s.bodies many) ∙ run.front

  -- what it sends
  output_is : output s ≡ sent_bytes (responses_of tr) ++ last_output s.broken (eqb (length s.answers) (length s.bodies)) (is_too_long s.rest)
  output_is = ap (λ (xs : List Response). sent_bytes xs ++ last_output s.broken (eqb (length s.answers) (length s.bodies)) (is_too_long s.rest)) responses_are

  module _ (splits : Splits s.taken s.bodies s.rest) where
    -- a session that answered all bodies
    all_taken : (b : Bool) → AnswersAll s → is_too_long s.rest ≡ b → AnswersAllTaken tr s.taken s.rest (output s) (cond b too_long_bytes [])
    all_taken b all long =
        let same : last_output s.broken (eqb (length s.answers) (length s.bodies)) (is_too_long s.rest) ≡ cond b too_long_bytes [] =
        ap (λ (o : Option Response). last_output o (eqb (length s.answers) (length s.bodies)) (is_too_long s.rest)) all.unbroken
        ∙ ap (λ (a : Bool). last_output None a (is_too_long s.rest)) (eq-eqb _ _ all.all)
        ∙ ap (λ (l : Bool). last_output None true l) long in
        record {
          unbroken = unbroken all.unbroken;
          splits = subst (λ (bs : List (List ℕ)). Splits s.taken bs s.rest) (bodies_are all) splits;
          replies = output_is ∙ ap (λ (x : List ℕ). sent_bytes (responses_of tr) ++ x) same;
        }

    -- what follows the replies
    refuses_next : (broken : Option Response) (a l : Bool) → s.broken ≡ broken → eqb (length s.answers) (length s.bodies) ≡ a → is_too_long s.rest ≡ l → RefusesNext tr s.bodies s.rest (last_output broken a l)
    refuses_next (Some r) a l is all long = inl refl
    refuses_next None false l is all long = inl refl
    refuses_next None true false is all long = inl refl
    refuses_next None true true is all long =
        inr (refl, next_long s.rest long, sym (bodies_are (record { all = eqb-true _ _ all; unbroken = is })), unbroken is)

    -- a session that was cut off
    until_cut : (before now : Option (List ℕ)) (sends : SendsAllButBatch before now s) → AnswersUntilCut 16 tr s.taken sends.cut.sent
    until_cut before now sends = record {
      bodies = s.bodies;
      rest = s.rest;
      splits = splits;
      front = run.front;
      more = last_output s.broken (eqb (length s.answers) (length s.bodies)) (is_too_long s.rest);
      next = refuses_next s.broken (eqb (length s.answers) (length s.bodies)) (is_too_long s.rest) refl refl refl;
      unsent = sends.cut.later;
      some = sends.cut.some;
      cut = sym output_is ∙ sends.cut.parts;
      whole = sends.whole;
      last = omega (arith, sends.last, ap length responses_are);
      part = sends.part;
      replies = sends.replied ∙ ap (λ (xs : List Response). sent_bytes (take sends.whole xs) ++ sends.part) responses_are;
      ahead = sends.ahead;
    }

    -- a session that met a fault
    until_fault : EndsWithFault s.broken fault.Device → WaitsForNone s.taken s.bodies (length s.answers) → AnswersUntilFault tr s.taken (output s)
    until_fault ends ahead = go tr.interruption refl
      where
        go : (o : Option Interruption) → tr.interruption ≡ o → AnswersUntilFault tr s.taken (output s)
        go None none =
            let e : s.broken ≡ None = run.broken_is ∙ ap (option_map (λ (h : Interruption). h.response)) none in
            absurd (subst (λ (o : Option Response). EndsWithFault o fault.Device) e ends)
        go (Some h) some =
            let e : s.broken ≡ Some h.response = run.broken_is ∙ ap (option_map (λ (h : Interruption). h.response)) some in
            record {
              bodies = s.bodies;
              rest = s.rest;
              splits = splits;
              front = run.front;
              broken = h;
              is_broken = some;
              fault = subst (λ (o : Option Response). IfSome o (λ (r : Response). r.answer ≡ refusal why.DeviceFault)) e run.device;
              replies = output_is
                  ∙ ap (λ (o : Option Response). sent_bytes (responses_of tr) ++ last_output o (eqb (length s.answers) (length s.bodies)) (is_too_long s.rest)) e
                  ∙ append-nil (sent_bytes (responses_of tr));
              ahead = subst (λ (n : ℕ). WaitsForNone s.taken s.bodies n) (ap length run.answers_are ∙ length-map tr.exchanges (λ (x : Exchange). x.response)) ahead;
            }

-- no response tells of a damaged block and of the device
told_twice : (broken : Option Response) (block : ℕ) → IfSome broken (λ (r : Response). r.answer ≡ refusal why.DeviceFault) → EndsWithFault broken (fault.Damaged block) → ⊥
told_twice None block device ends = absurd ends
told_twice (Some r) block device ends =
    let f : ◌≡◌ {A = Option Fault} (Some fault.Device) (Some (fault.Damaged block)) = sym (ap (λ (a : Answer). fault_told a.reply) device) ∙ ends in cc

module _ (budget : ℕ) (before now : Streams) (v w : DiskView) (f : Image) (t : Table) (shows : ShowsTable f t) where
  -- a run with this status answers as one of the table, and the images follow its tables
  abbrev pub IsTableRun : ℕ → Type 0
  IsTableRun status =
      (a : AnswersAsTable budget shows.state.mem (begins_at f t shows) status before now) × EndsAtTables a.run a.continued.end w × GoesThroughTables a.run a.continued.end f v w

  module _ (how : Ended) (served : Served budget how (beside before v) (beside now w)) (run : FollowsRun v w f t served.session) (sent : List ℕ) (adds : Appends before.held now.held sent)
      (until : AnswersUntil how budget run.transcript served.session.taken now.left sent) where
    -- it is continued over the same where a region takes as many changes
    continued : (c : Continuation shows.state.mem run.transcript) × AreNextIn served.session.bodies run.transcript c.more
        × EndsAtTables run.transcript c.end w × GoesThroughTables run.transcript c.end f v w
    continued =
        subst (λ (m : ℕ). (c : Continuation m run.transcript) × AreNextIn served.session.bodies run.transcript c.more × EndsAtTables run.transcript c.end w × GoesThroughTables run.transcript c.end f v w)
        (mem_is f t shows run.mem run.start run.begins run.table)
        (run.continued, run.next, run.follows.left, goes_through v w f _ _ run.follows run.transcript run.continued.end refl refl)

    as_table : IsTableRun (status_of how)
    as_table = (
      record {
        how = how;
        ended = refl;
        run = run.transcript;
        is = begins_there f t shows run.mem run.start run.begins run.table run.transcript run.is;
        region = region_there f t shows run.mem run.start run.begins run.table run.transcript run.region;
        broken = broken_off (Rose before.disk_faults now.disk_faults) served.session.broken run.transcript.interruption run.broken_is run.device served.faulted;
        taken = served.session.taken;
        took = served.took;
        within = served.is.within;
        sent = sent;
        adds = adds;
        until = until;
        continued = continued.0;
        next = record {
          bodies = served.session.bodies;
          rest = served.session.rest;
          splits = served.is.splits;
          next = continued.1;
        };
      },
      continued.2,
      continued.3,
    )

  -- a run that was served over a disk that shows a table answers as a run of it
  pub answers_as_table : (how : Ended) (served : Served budget how (beside before v) (beside now w)) (run : FollowsRun v w f t served.session)
      → IsTableRun (status_of how)
  answers_as_table ended.Done served run =
      let s = served.session in
      let none = whole_none s.rest served.ends.1 in
      as_table ended.Done served run (output s) served.sends (
        subst (λ (r : List ℕ). AnswersAllTaken run.transcript s.taken r (output s) []) none
            (all_taken v w f t s run served.is.splits false served.ends.0 (ap is_too_long none)),
        served.ends.2,
        served.ends.3,
      )
  answers_as_table ended.Truncated served run =
      let s = served.session in
      let short : is_too_long s.rest ≡ false = none_next s.rest (λ e. let g : Rest ≡ Long = sym served.ends.1 ∙ e in cc) in
      as_table ended.Truncated served run (output s) served.sends
      (s.rest, all_taken v w f t s run served.is.splits false served.ends.0 short, served.ends.1, served.ends.2, served.ends.3)
  answers_as_table ended.FrameTooLong served run =
      let s = served.session in
      as_table ended.FrameTooLong served run (output s) served.sends
      (s.rest, all_taken v w f t s run served.is.splits true served.ends.0 (long_next s.rest served.ends.1), served.ends.1)
  answers_as_table ended.Budget served run =
      let s = served.session in
      as_table ended.Budget served run (output s) served.sends
      (s.rest, all_taken v w f t s run served.is.splits false served.ends.0 (none_next s.rest served.ends.1), served.ends.1, served.ends.2)
  answers_as_table ended.Source served run =
      let s = served.session in
      as_table ended.Source served run (output s) served.sends
      (s.rest, all_taken v w f t s run served.is.splits false served.ends.0 (none_next s.rest served.ends.1), served.ends.1)
  answers_as_table ended.Device served run =
      let s = served.session in
      as_table ended.Device served run (output s) served.sends (inr (until_fault v w f t s run served.is.splits served.ends served.is.ahead))
  answers_as_table ended.Sink served run =
      let s = served.session in
      as_table ended.Sink served run served.sends.cut.sent served.sends.cut.appends (until_cut v w f t s run served.is.splits before.held now.held served.sends)
  answers_as_table (ended.Damaged block) served run = absurd (told_twice served.session.broken block run.device served.ends)
  answers_as_table ended.NoMemory served run = absurd served.ends
  answers_as_table ended.NotAStore served run = absurd served.ends
  answers_as_table ended.Usage served run = absurd served.ends
  answers_as_table ended.Unsound served run = absurd served.ends
  answers_as_table ended.UnknownVersion served run = absurd served.ends

-- what is there is something
pub there : {A : Type 0} (o : Option A) → IsSome o → (x : A) × (o ≡ Some x)
there (Some x) some = (x, refl)
there None some = absurd (true≢false (sym some))

-- a run that ended otherwise than by the device or the sink was not told of the device's fault
pub no_device_at_end : (how : Ended) (budget : ℕ) (s : Session) (left : Option (List ℕ)) → EndsFor how budget s left → how ≢ ended.Device → how ≢ ended.Sink → EndsWithFault s.broken fault.Device → ⊥
no_device_at_end how budget s left ends device sink told = go how ends device sink
  where
    whole : AnswersAll s → ⊥
    whole all = subst (λ (o : Option Response). EndsWithFault o fault.Device) all.unbroken told

    twice : (o : Option Response) (block : ℕ) → EndsWithFault o fault.Device → EndsWithFault o (fault.Damaged block) → ⊥
    twice None block one other = one
    twice (Some r) block one other = let f : ◌≡◌ {A = Option Fault} (Some fault.Device) (Some (fault.Damaged block)) = sym one ∙ other in cc

    go : (h : Ended) → EndsFor h budget s left → h ≢ ended.Device → h ≢ ended.Sink → ⊥
    go ended.Done ends device sink = whole ends.0
    go ended.Truncated ends device sink = whole ends.0
    go ended.FrameTooLong ends device sink = whole ends.0
    go ended.Budget ends device sink = whole ends.0
    go ended.Source ends device sink = whole ends.0
    go ended.Device ends device sink = device refl
    go ended.Sink ends device sink = sink refl
    go (ended.Damaged block) ends device sink = twice s.broken block told ends
    go ended.NoMemory ends device sink = ends
    go ended.NotAStore ends device sink = ends
    go ended.Usage ends device sink = ends
    go ended.Unsound ends device sink = ends
    go ended.UnknownVersion ends device sink = ends

-- the frames of fewer bodies are fewer bytes
frames_within : (bodies : List (List ℕ)) (n m : ℕ) → n ≤ m → length (flat_map frame (take n bodies)) ≤ length (flat_map frame (take m bodies))
frames_within bodies zero m le = omega arith
frames_within [] (suc n) m le = omega arith
frames_within (b ∷ bs) (suc n) zero le = absurd (omega (arith, le))
frames_within (b ∷ bs) (suc n) (suc m) le =
    let rest : length (flat_map frame (take n bs)) ≤ length (flat_map frame (take m bs)) = frames_within bs n m (omega (arith, le)) in
    omega (arith, rest, length-append (frame b) (flat_map frame (take n bs)), length-append (frame b) (flat_map frame (take m bs)))

-- little was taken behind the frames of the bodies that were answered
pub few_behind : (taken : List ℕ) (bodies : List (List ℕ)) (n : ℕ) → WaitsForNone taken bodies n → length taken < length (flat_map frame (take n bodies)) + 6148
few_behind taken bodies n ahead =
    omega (
      arith,
      ap length ahead.parts,
      length-append (flat_map frame (take ahead.read bodies)) (ahead.held ++ ahead.piece),
      length-append ahead.held ahead.piece,
      ahead.short,
      partial_short ahead.held ahead.part,
      frames_within bodies ahead.read n ahead.few,
    )

-- each response fits its body
pub fits_at : (bodies : List (List ℕ)) (responses : List Response) (i : ℕ) (body : List ℕ) (r : Response) → AreAnsweredBy (take (length responses) bodies) responses
    → slice_get bodies i ≡ Some body → slice_get responses i ≡ Some r → RespondsTo body r
fits_at bodies [] i body r all there told = absurd (let e : ◌≡◌ {A = Option Response} None (Some r) = told in cc)
fits_at [] (t ∷ ts) i body r all there told = absurd all
fits_at (b ∷ bs) (t ∷ ts) zero body r all there told =
    let same : b ≡ body = (let e : ◌≡◌ {A = Option (List ℕ)} (Some b) (Some body) = there in cc) in
    let is : t ≡ r = (let e : ◌≡◌ {A = Option Response} (Some t) (Some r) = told in cc) in
    subst (λ (x : List ℕ). RespondsTo x r) same (subst (λ (x : Response). RespondsTo b x) is all.0)
fits_at (b ∷ bs) (t ∷ ts) (suc i) body r all there told = fits_at bs ts i body r all.1 there told

-- and there is a body for each
pub fits_few : (bodies : List (List ℕ)) (responses : List Response) → AreAnsweredBy (take (length responses) bodies) responses → length responses ≤ length bodies
fits_few bodies [] all = omega arith
fits_few [] (t ∷ ts) all = absurd all
fits_few (b ∷ bs) (t ∷ ts) all = omega (arith, fits_few bs ts all.1)

-- how many changes the journal has after one more, where it has two fewer than both regions take, or the first has room
pub fill_full : (mem before after : ℕ) → 1 ≤ mem → before ≡ 2 * mem - 2 → MayFill mem before after → after ≡ mem - 1
fill_full mem before after some full (inl more) = absurd (omega (arith, full, more.0))
fill_full mem before after some full (inr anew) = omega (arith, some, full, anew.1)

pub fill_short : (mem before after : ℕ) → before < mem → MayFill mem before after → after ≡ before + 1
fill_short mem before after low (inl more) = more.1
fill_short mem before after low (inr anew) = absurd (omega (arith, low, anew.0))

-- at each place of positions of which none has more changes in the journal than so many
pub few_at : (most : ℕ) (ps : List Position) (i : ℕ) (p : Position) → AllByRecursion (λ (q : Position). q.fill ≤ most) ps → slice_get ps i ≡ Some p → p.fill ≤ most
few_at most [] i p each there = absurd (let e : ◌≡◌ {A = Option Position} None (Some p) = there in cc)
few_at most (q ∷ ps) zero p each there =
    let same : q ≡ p = (let e : ◌≡◌ {A = Option Position} (Some q) (Some p) = there in cc) in subst (λ (r : Position). r.fill ≤ most) same each.0
few_at most (q ∷ ps) (suc i) p each there = few_at most ps i p each.1 there

-- no response of these tells of a fault
pub calm_at : (answers : List Response) (i : ℕ) (r : Response) → AllByRecursion (λ (t : Response). fault_told t.answer.reply ≡ None) answers → slice_get answers i ≡ Some r → fault_told r.answer.reply ≡ None
calm_at [] i r all told = absurd (let e : ◌≡◌ {A = Option Response} None (Some r) = told in cc)
calm_at (t ∷ ts) zero r all told = let is : t ≡ r = (let e : ◌≡◌ {A = Option Response} (Some t) (Some r) = told in cc) in subst (λ (x : Response). fault_told x.answer.reply ≡ None) is all.0
calm_at (t ∷ ts) (suc i) r all told = calm_at ts i r all.1 told
