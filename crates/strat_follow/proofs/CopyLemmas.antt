-- A follower whose frames hold the changes of a log keeps to that log.
use Rattle.std.proofs.Common.{◌≡◌, ◌≤◌, ◌<◌, ◌+◌, ℕ, zero, suc, Bool, true, false, eqb, List, [], ◌∷◌, ◌++◌, Option, Some, None, length, take, map, refl, sym, ap, ◌∙◌, subst, inl, inr, append-nil, arith}
use Rattle.std.specs.List.{AllByRecursion, flat_map}
use Rattle.std.specs.Prelude.{IfSome, option_map}
use Rattle.std.proofs.lemmas.Bool.{cases_lt}
use Rattle.std.proofs.lemmas.List.{length-map}
use Rattle.std.proofs.lemmas.List.Concat.{flat_map-append}
use Rattle.strat_base.specs.Change.{Change}
use Rattle.strat_base.specs.declared.failures.Fault.TheVariants as fault
use Rattle.def_crash.specs.Faults.{Rose}
use Rattle.def_crash.specs.Image.{Image}
use Rattle.def_crash.specs.Moments.{DiskView, Exposes, Images, Since}
use Rattle.def_crash.specs.Trail.{At}
use Rattle.def_crash.proofs.MomentLemmas.{at_told}
use Rattle.def_crash.proofs.TrailLemmas.{at_below, at_either}
use Rattle.strat_io.specs.Streams.{Appends}
use Rattle.strat_model.specs.declared.ended.Ended.{Ended}
use Rattle.strat_model.specs.declared.ended.Ended.TheVariants as ended
use Rattle.strat_model.specs.declared.replies.Refusal.{Refusal}
use Rattle.strat_model.specs.declared.replies.Refusal.TheVariants as why
use Rattle.strat_model.specs.Answer.{Answer, refusal}
use Rattle.strat_model.specs.Batch.{tables_before, tables_behind, tables_continued}
use Rattle.strat_model.specs.Faults.{fault_told}
use Rattle.strat_model.specs.Run.{Exchange, Interruption, Position, Response, Transcript, bodies_of, of_interruption}
use Rattle.strat_model.specs.Stream.{is_too_long, Splits}
use Rattle.strat_model.specs.Table.{Table, bare}
use Rattle.def_publish.specs.Standing.{LeavesContent, ShowsTable}
use Rattle.def_follow.specs.Following as kept
use Rattle.def_follow.specs.Following.{Delivery, IsBrokenOff, Receipt, receipt_frame}
use Rattle.def_follow.specs.Keeping.{IsOfLogAt}
use Rattle.def_follow.specs.Log.{IsLog, IsOfLog}
use Rattle.def_follow.specs.OnDisk.{EachOfLog, ShowsOfLog}
use Rattle.def_follow.proofs.DiskLemmas.{trail_of_log}
use Rattle.def_follow.proofs.FollowLemmas.{broken_off, place_is, received}
use Rattle.def_follow.proofs.LogLemmas.{change_counts}
use Rattle.strat_open.specs.Following.{IsUnchanged, LeavesOpening}
use Rattle.strat_loop.specs.Session.{EndsWithFault, GaveUp, SendsPrefix, Took}
use Rattle.strat_loop.specs.Speech.{Said, Speech, IsSpokenBatch, IsSpokenRun, SaysFault, response_of, said_bytes}
use Rattle.strat_loop.specs.Spoken.{FollowsSpokenRun, SendsSaid, Sitting, SpokenOutcome, all_said, last_said, listed_said, output_of}
use Rattle.strat_loop.specs.World.{World}
use Rattle.strat_follow.specs.Copying.{CopiesLogs, KeepsToLog, MayRefuse, SendsOrFails, ShowsTaken}
use Rattle.strat_follow.specs.Follows.{follows}
use Rattle.strat_follow.proofs.ReceiptLemmas.{received_so, broken_so}

-- lists all of whose elements have a property
all_left : {T : Type 0} (P : T → Type 0) (xs ys : List T) → AllByRecursion P (xs ++ ys) → AllByRecursion P xs
all_left P [] ys all = tt
all_left P (x ∷ xs) ys all = (all.0, all_left P xs ys all.1)

all_right : {T : Type 0} (P : T → Type 0) (xs ys : List T) → AllByRecursion P (xs ++ ys) → AllByRecursion P ys
all_right P [] ys all = all
all_right P (x ∷ xs) ys all = all_right P xs ys all.1

all_both : {T : Type 0} (P : T → Type 0) (xs ys : List T) → AllByRecursion P xs → AllByRecursion P ys → AllByRecursion P (xs ++ ys)
all_both P [] ys first second = second
all_both P (x ∷ xs) ys first second = (first.0, all_both P xs ys first.1 second)

all_taken : {T : Type 0} (P : T → Type 0) (n : ℕ) (xs : List T) → AllByRecursion P xs → AllByRecursion P (take n xs)
all_taken P zero [] all = tt
all_taken P (suc n) [] all = tt
all_taken P zero (x ∷ xs) all = tt
all_taken P (suc n) (x ∷ xs) all = (all.0, all_taken P n xs all.1)

all_mapped : {T : Type 0} (P Q : T → Type 0) (xs : List T) → ((x : T) → P x → Q x) → AllByRecursion P xs → AllByRecursion Q xs
all_mapped P Q [] f all = tt
all_mapped P Q (x ∷ xs) f all = (f x all.0, all_mapped P Q xs f all.1)

-- what is at an index has the property of all
at_all : {T : Type 0} (P Q : T → Type 0) (xs : List T) (i : ℕ) → AllByRecursion Q xs → At xs i P → (x : T) × P x × Q x
at_all P Q [] i all at = absurd at
at_all P Q (x ∷ xs) zero all at = (x, at, all.0)
at_all P Q (x ∷ xs) (suc i) all at = at_all P Q xs i all.1 at

-- where nothing is sent for a frame that is too long, nothing is sent behind what was said
pub last_none : (speech : Speech) → speech.too_long ≡ [] → (o : Option Said) (all long : Bool) → last_said speech o all long ≡ []
last_none speech none None true true = none
last_none speech none None true false = refl
last_none speech none None false long = refl
last_none speech none (Some said) all long = refl

-- a sink has what a sitting sends
pub sends_by : (speech : Speech) (how : Ended) (before now : Option (List ℕ)) (s : Sitting) (bytes : List ℕ) → output_of speech s ≡ bytes → SendsSaid speech how before now s → SendsOrFails how before now bytes
sends_by speech ended.Sink before now s bytes e sends = subst (SendsPrefix before now) e sends.cut
sends_by speech ended.Done before now s bytes e sends = subst (Appends before now) e sends
sends_by speech ended.Usage before now s bytes e sends = subst (Appends before now) e sends
sends_by speech ended.NotAStore before now s bytes e sends = subst (Appends before now) e sends
sends_by speech ended.FrameTooLong before now s bytes e sends = subst (Appends before now) e sends
sends_by speech ended.Truncated before now s bytes e sends = subst (Appends before now) e sends
sends_by speech ended.Device before now s bytes e sends = subst (Appends before now) e sends
sends_by speech ended.Source before now s bytes e sends = subst (Appends before now) e sends
sends_by speech ended.NoMemory before now s bytes e sends = subst (Appends before now) e sends
sends_by speech (ended.Damaged block) before now s bytes e sends = subst (Appends before now) e sends
sends_by speech ended.Budget before now s bytes e sends = subst (Appends before now) e sends
sends_by speech ended.Unsound before now s bytes e sends = subst (Appends before now) e sends
sends_by speech ended.UnknownVersion before now s bytes e sends = subst (Appends before now) e sends

module _ (changes_max versions_max : ℕ) (log : List Change) (is : IsLog changes_max versions_max log) where
  abbrev Of : Table → Type 0
  Of t = IsOfLog changes_max versions_max log t

  abbrev InLog : List ℕ → Type 0
  InLog body = IsOfLogAt log body

  -- cursors do not matter
  of_bare : (t : Table) → Of t → Of (bare t)
  of_bare t of = record { place = of.place; within = of.within; table = of.table }

  -- what a receipt says where a table has so many changes
  abbrev Settled : ℕ → Receipt → Type 0
  Settled n r = ((cause : Refusal) → r.fate ≡ kept.Refused cause → cause ≡ why.NoMemory) × (r.fate ≡ kept.Taken → r.number < n)

  -- a run that follows
  record RunOf (at : Position) (xs : List Exchange) (answers : List Said) (after : Position) : Type 0 where
    receipts : List Receipt
    sent : said_bytes answers ≡ flat_map receipt_frame receipts
    tables : AllByRecursion Of (tables_before xs)
    of_log : Of after.table
    rises : at.table.changes ≤ after.table.changes
    settled : AllByRecursion (Settled after.table.changes) receipts

  run_of_log : (mem : ℕ) (at : Position) (xs : List Exchange) (answers : List Said) (after : Position) → IsSpokenRun follows mem at xs answers after
      → AllByRecursion InLog (map (λ (x : Exchange). x.body) xs) → Of at.table → RunOf at xs answers after
  run_of_log mem at [] [] after run there of = record {
    receipts = [];
    sent = refl;
    tables = tt;
    of_log = subst (λ (p : Position). Of p.table) (sym run) of;
    rises = omega (arith, ap (λ (p : Position). p.table.changes) run);
    settled = tt;
  }
  run_of_log mem at [] (said ∷ more) after run there of = absurd run
  run_of_log mem at (x ∷ xs) [] after run there of = absurd run
  run_of_log mem at (x ∷ xs) (said ∷ more) after run there of =
      let mid = run.2.0 in
      let one = received_so mem at x.body said mid run.2.1 in
      let delivery : Delivery = record { body = x.body; receipt = one.receipt; at = at } in
      let right = received changes_max versions_max log is mem delivery mid one.receives there.0 of in
      let rest = run_of_log mem mid xs more after run.2.2 there.1 right.of_log in
      record {
        receipts = one.receipt ∷ rest.receipts;
        sent = (λ i. one.sent i ++ rest.sent i);
        tables = (subst (λ (p : Position). Of (bare p.table)) (sym run.0) (of_bare at.table of), rest.tables);
        of_log = rest.of_log;
        rises = omega (arith, right.rises, rest.rises);
        settled = ((right.free, λ e. omega (arith, right.holds e, rest.rises)), rest.settled);
      }

  -- a table of the log that has these changes at least
  abbrev Behind : ℕ → Table → Type 0
  Behind n t = Of t × (n ≤ t.changes)

  -- a receipt tells of the device's fault, which ended the run
  abbrev IsForDevice : Option Said → Receipt → Type 0
  IsForDevice b r = (r.fate ≡ kept.Refused why.DeviceFault) × EndsWithFault (option_map response_of b) fault.Device

  -- what broke a run off, and the batch behind it
  record TailOf (after : Position) (o : Option Interruption) (b : Option Said) (end : Position) : Type 0 where
    receipts : List Receipt
    sent : said_bytes (listed_said b) ≡ flat_map receipt_frame receipts
    tables : AllByRecursion (Behind after.table.changes) (tables_behind o end)
    fates : AllByRecursion (IsForDevice b) receipts

  -- the table of a change that met a fault
  done_of_log : (mem : ℕ) (at : Position) (body : List ℕ) (r : Receipt) (done : Position) → IsBrokenOff mem at body r done → InLog body → Of at.table → Behind at.table.changes done.table
  done_of_log mem at body r done off there of = (
    broken_off changes_max versions_max log is mem at body r done off there of,
    omega (arith, ap (λ (t : Table). t.changes) off.place.table, (change_counts at.table off.n.change).0 off.accepted),
  )

  tail_of_log : (mem : ℕ) (after : Position) (o : Option Interruption) (b : Option Said) (more : List Exchange) (end : Position)
      → IfSome o (λ h. (said : Said) × (b ≡ Some said) × (h.response ≡ response_of said) × SaysFault follows mem after h.body said h.done)
      → option_map response_of b ≡ option_map (λ h. h.response) o
      → IfSome o (λ h. IsSpokenBatch follows mem 15 h.done more end)
      → IfSome b (λ r. r.answer ≡ refusal why.DeviceFault)
      → AllByRecursion InLog (of_interruption (λ h. h.body) o) → AllByRecursion InLog (map (λ (x : Exchange). x.body) more) → Of after.table
      → TailOf after o b end
  tail_of_log mem after None None more end met same batch device first rest of = record { receipts = []; sent = refl; tables = tt; fates = tt }
  tail_of_log mem after None (Some said) more end met same batch device first rest of =
      absurd (let e : ◌≡◌ {A = Option Response} (Some (response_of said)) None = same in cc)
  tail_of_log mem after (Some h) b more end met same batch device first rest of =
      let said = met.0 in
      let answer : said.answer ≡ refusal why.DeviceFault = subst (λ (x : Option Said). IfSome x (λ r. r.answer ≡ refusal why.DeviceFault)) met.1 device in
      let off = broken_so mem after h.body said h.done met.3 in
      let done = done_of_log mem after h.body off.0 h.done off.1 first.0 of in
      let behind = run_of_log mem h.done more batch.answers end batch.run rest done.0 in
      record {
        receipts = off.0 ∷ [];
        sent = ap (λ (x : Option Said). said_bytes (listed_said x)) met.1 ∙ ap (λ (l : List ℕ). l ++ []) off.2;
        tables = ((of_bare end.table behind.of_log, omega (arith, done.1, behind.rises)), tt);
        fates = (
          (
            off.3 answer,
            subst (λ (x : Option Said). EndsWithFault (option_map response_of x) fault.Device) (sym met.1) (ap (λ (a : Answer). fault_told a.reply) answer),
          ),
          tt,
        );
      }

  -- a device's fault does not tell that a change was taken
  not_taken : (r : Receipt) → r.fate ≡ kept.Refused why.DeviceFault → r.fate ≡ kept.Taken → ⊥
  not_taken r refused taken = let e : kept.Refused why.DeviceFault ≡ kept.Taken = sym refused ∙ taken in cc

  same_cause : (r : Receipt) (a b : Refusal) → r.fate ≡ kept.Refused a → r.fate ≡ kept.Refused b → b ≡ a
  same_cause r a b first second = let e : kept.Refused b ≡ kept.Refused a = sym second ∙ first in cc

  -- a sitting that is a run of a table of the log
  module _ (before now : World) (f : Image) (t : Table) (s : Sitting) (r : FollowsSpokenRun follows before.disk now.disk f t s) (of : Of t) (each : EachOfLog changes_max versions_max log before.disk)
      (there : AllByRecursion InLog s.bodies) (rose : EndsWithFault (option_map response_of s.broken) fault.Device → Rose before.disk_faults now.disk_faults) where
    abbrev run : Transcript
    run = r.transcript

    abbrev more : List Exchange
    more = r.continued.more

    abbrev mapped : List Exchange → List (List ℕ)
    mapped xs = map (λ (x : Exchange). x.body) xs

    abbrev taken_next : AllByRecursion InLog (bodies_of run ++ mapped more)
    taken_next = subst (AllByRecursion InLog) r.next (all_taken InLog (length (bodies_of run) + length more) s.bodies there)

    abbrev own : AllByRecursion InLog (mapped run.exchanges ++ of_interruption (λ h. h.body) run.interruption)
    own = all_left InLog (bodies_of run) (mapped more) taken_next

    abbrev start_of : Of r.start.table
    start_of = subst Of (sym r.table) of

    abbrev front : RunOf r.start run.exchanges s.answers run.after
    front = run_of_log r.mem r.start run.exchanges s.answers run.after r.is.run (all_left InLog (mapped run.exchanges) (of_interruption (λ h. h.body) run.interruption) own) start_of

    abbrev tail : TailOf run.after run.interruption s.broken r.continued.end
    tail = tail_of_log r.mem run.after run.interruption s.broken more r.continued.end r.is.interrupted r.broken_is r.continued.batch r.device
        (all_right InLog (mapped run.exchanges) (of_interruption (λ h. h.body) run.interruption) own) (all_right InLog (bodies_of run) (mapped more) taken_next) front.of_log

    abbrev n : ℕ
    n = run.after.table.changes

    abbrev last_tables : List Table
    last_tables = bare run.after.table ∷ tables_behind run.interruption r.continued.end

    last_behind : AllByRecursion (Behind n) last_tables
    last_behind = ((of_bare run.after.table front.of_log, omega arith), tail.tables)

    all_tables : AllByRecursion Of (tables_continued run r.continued.end)
    all_tables = all_both Of (tables_before run.exchanges) last_tables front.tables (all_mapped (Behind n) Of last_tables (λ x b. b.0) last_behind)

    pub receipts : List Receipt
    receipts = front.receipts ++ tail.receipts

    pub sent_is : output_of follows s ≡ flat_map receipt_frame receipts
    unfolding receipts
    sent_is =
        (λ i. said_bytes (all_said s) ++ last_none follows refl s.broken (eqb (length s.answers) (length s.bodies)) (is_too_long s.rest) i)
        ∙ append-nil (said_bytes (all_said s))
        ∙ flat_map-append (λ (x : Said). x.sent) s.answers (listed_said s.broken)
        ∙ (λ i. front.sent i ++ tail.sent i)
        ∙ sym (flat_map-append receipt_frame front.receipts tail.receipts)

    pub free : AllByRecursion (λ (x : Receipt). (cause : Refusal) → x.fate ≡ kept.Refused cause → MayRefuse before now cause) receipts
    unfolding receipts
    free = all_both (λ (x : Receipt). (cause : Refusal) → x.fate ≡ kept.Refused cause → MayRefuse before now cause) front.receipts tail.receipts
        (all_mapped (Settled n) (λ (x : Receipt). (cause : Refusal) → x.fate ≡ kept.Refused cause → MayRefuse before now cause) front.receipts (λ x settled cause e. inl (settled.0 cause e)) front.settled)
        (all_mapped (IsForDevice s.broken) (λ (x : Receipt). (cause : Refusal) → x.fate ≡ kept.Refused cause → MayRefuse before now cause) tail.receipts (λ x device cause e. inr (same_cause x why.DeviceFault cause device.0 e, rose device.1)) tail.fates)

    pub images : (c : Image) → Since now.disk before.disk.moment c → ShowsOfLog changes_max versions_max log c
    images c since = elim (cases_lt since.at r.follows.synced) [
      | inl early ↦ each c (r.follows.until since.at c since.from (omega (arith, early)) since.left)
      | inr late ↦ trail_of_log changes_max versions_max log now.disk r.follows.synced (tables_continued run r.continued.end) (length run.exchanges) r.follows.trail all_tables since.at c (omega (arith, late)) since.till since.left
    ]

    -- a table of the log with as many changes has what was taken
    holds_at : (u : Table) (b : Behind n u) → AllByRecursion (λ (x : Receipt). x.fate ≡ kept.Taken → x.number < b.0.place) receipts
    unfolding receipts
    holds_at u b =
        let place = place_is changes_max versions_max log is u b.0 in
        all_both (λ (x : Receipt). x.fate ≡ kept.Taken → x.number < b.0.place) front.receipts tail.receipts
        (all_mapped (Settled n) (λ (x : Receipt). x.fate ≡ kept.Taken → x.number < b.0.place) front.receipts (λ x settled e. omega (arith, settled.1 e, b.1, place)) front.settled)
        (all_mapped (IsForDevice s.broken) (λ (x : Receipt). x.fate ≡ kept.Taken → x.number < b.0.place) tail.receipts (λ x device e. absurd (not_taken x device.0 e)) tail.fates)

    pub left : (c : Image) → Images now.disk c → ShowsTaken changes_max versions_max log receipts c
    left c image =
        let found = r.follows.left c image in
        elim (at_either (tables_before run.exchanges) last_tables found.0 (ShowsTable c) found.2) [
          | inl early ↦ absurd (omega (arith, found.1, at_below (tables_before run.exchanges) found.0 (ShowsTable c) early, length-map run.exchanges (λ (x : Exchange). bare x.at.table)))
          | inr late ↦
              let one = at_all (ShowsTable c) (Behind n) last_tables late.0 last_behind late.2 in
              record { table = one.0; shows = one.1; of_log = one.2.0; holds = holds_at one.0 one.2 }
        ]

    pub kept_to : (how : Ended) → SendsSaid follows how before.held now.held s → KeepsToLog changes_max versions_max log how before now
    kept_to how sends = record {
      receipts = receipts;
      sends = sends_by follows how before.held now.held s (flat_map receipt_frame receipts) sent_is sends;
      free = free;
      images = images;
      left = left;
    }

  -- an opening that gave up leaves tables of the log
  module _ (before now : DiskView) (f : Image) (exposed : Exposes before f) (leaves : LeavesContent before) (each : EachOfLog changes_max versions_max log before) where
    unchanged_keeps : IsUnchanged before now → (c : Image) → Since now before.moment c → ShowsOfLog changes_max versions_max log c
    unchanged_keeps unchanged c since = each c (unchanged.1.each c since)

    opening_keeps : LeavesOpening before now f → (c : Image) → Since now before.moment c → ShowsOfLog changes_max versions_max log c
    opening_keeps (inl unchanged) c since = unchanged_keeps unchanged c since
    opening_keeps (inr gate) c since =
        let start : Images before f = at_told before.content (Images before) f exposed leaves in
        let shown = each f start in
        let follows = gate.follows shown.table shown.shows in
        elim (cases_lt since.at follows.synced) [
          | inl early ↦ each c (follows.until since.at c since.from (omega (arith, early)) since.left)
          | inr late ↦ trail_of_log changes_max versions_max log now follows.synced (shown.table ∷ []) 0 follows.trail (shown.of_log, tt) since.at c (omega (arith, late)) since.till since.left
        ]

  -- a run whose opening gave up keeps to the log
  module _ (before now : World) (f : Image) (exposed : Exposes before.disk f) (leaves : LeavesContent before.disk) (each : EachOfLog changes_max versions_max log before.disk) where
    abbrev Keep : Type 0
    Keep = (c : Image) → Since now.disk before.disk.moment c → ShowsOfLog changes_max versions_max log c

    gave_images : (how : Ended) → GaveUp how before now → Keep
    gave_images ended.Device gave = opening_keeps before.disk now.disk f exposed leaves each (gave.failed refl f exposed)
    gave_images ended.NotAStore gave = unchanged_keeps before.disk now.disk f exposed leaves each (gave.kept (λ e. let x : ended.NotAStore ≡ ended.Device = e in cc))
    gave_images (ended.Damaged block) gave = unchanged_keeps before.disk now.disk f exposed leaves each (gave.kept (λ e. let x : ended.Damaged block ≡ ended.Device = e in cc))
    gave_images ended.NoMemory gave = unchanged_keeps before.disk now.disk f exposed leaves each (gave.kept (λ e. let x : ended.NoMemory ≡ ended.Device = e in cc))
    gave_images ended.Done gave = absurd gave.ends
    gave_images ended.Usage gave = absurd gave.ends
    gave_images ended.FrameTooLong gave = absurd gave.ends
    gave_images ended.Truncated gave = absurd gave.ends
    gave_images ended.Source gave = absurd gave.ends
    gave_images ended.Sink gave = absurd gave.ends
    gave_images ended.Budget gave = absurd gave.ends
    gave_images ended.Unsound gave = absurd gave.ends
    gave_images ended.UnknownVersion gave = absurd gave.ends

-- nothing more was sent
nothing_sent : (held now : Option (List ℕ)) → now ≡ held → Appends held now []
nothing_sent held now same = record {
  exposed = λ bytes e. same ∙ e ∙ ap (λ (x : List ℕ). Some x) (sym (append-nil bytes));
  hidden = λ e. same ∙ e;
}

-- a run whose opening gave up took and sent nothing
gave_sends : (how : Ended) (before now : World) → GaveUp how before now → SendsOrFails how before.held now.held []
gave_sends ended.Device before now gave = nothing_sent before.held now.held gave.sink
gave_sends ended.NotAStore before now gave = nothing_sent before.held now.held gave.sink
gave_sends (ended.Damaged block) before now gave = nothing_sent before.held now.held gave.sink
gave_sends ended.NoMemory before now gave = nothing_sent before.held now.held gave.sink
gave_sends ended.Done before now gave = absurd gave.ends
gave_sends ended.Usage before now gave = absurd gave.ends
gave_sends ended.FrameTooLong before now gave = absurd gave.ends
gave_sends ended.Truncated before now gave = absurd gave.ends
gave_sends ended.Source before now gave = absurd gave.ends
gave_sends ended.Sink before now gave = absurd gave.ends
gave_sends ended.Budget before now gave = absurd gave.ends
gave_sends ended.Unsound before now gave = absurd gave.ends
gave_sends ended.UnknownVersion before now gave = absurd gave.ends

pub nothing_taken : (left now : Option (List ℕ)) → now ≡ left → Took left now []
nothing_taken left now same = record { exposed = λ bytes e. (bytes, refl, same ∙ e); hidden = λ e. same ∙ e }

pub no_frame : Splits [] [] []
no_frame = record { whole = refl; each = tt; last = refl }

-- a follower keeps to each log of which its disk has a prefix
module _ (before now : World) (later : before.disk.moment ≤ now.disk.moment) (leaves : LeavesContent before.disk) where
  pub copies_logs : (budget : ℕ) (how : Ended) → SpokenOutcome follows budget how before now → CopiesLogs how before now
  copies_logs budget how (inl gave) f changes_max versions_max log exposed is each =
      let shown = gave_images changes_max versions_max log is before now f exposed leaves each how gave in
      record {
        taken = [];
        took = nothing_taken before.left now.left gave.source;
        bodies = [];
        rest = [];
        splits = no_frame;
        keeps = λ there. record {
          receipts = [];
          sends = gave_sends how before now gave;
          free = tt;
          images = shown;
          left = λ c image.
              let one = shown c (record { at = now.disk.moment; from = later; till = omega arith; left = image }) in
              record { table = one.table; shows = one.shows; of_log = one.of_log; holds = tt };
        };
      }
  copies_logs budget how (inr served) f changes_max versions_max log exposed is each =
      let s = served.sitting in
      let start : Images before.disk f = at_told before.disk.content (Images before.disk) f exposed leaves in
      let shown = each f start in
      record {
        taken = s.taken;
        took = served.took;
        bodies = s.bodies;
        rest = s.rest;
        splits = served.is.splits;
        keeps = λ there.
            kept_to changes_max versions_max log is before now f shown.table s (served.follows f shown.table exposed shown.shows) shown.of_log each there served.faulted how served.sends;
      }
