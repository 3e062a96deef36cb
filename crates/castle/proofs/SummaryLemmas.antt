-- What the summary of a workload says, and what it leaves.
use Rattle.std.proofs.Common.{◌≡◌, ◌≢◌, ◌⊎◌, ℕ, List, [], ◌∷◌, ◌++◌, length, map, Option, Some, None, refl, sym, ap, subst, ◌∙◌, inl, inr, append-nil, true≢false, arith}
use Rattle.std.specs.Prelude.{Ok, Err, IfSome, IsSome}
use Rattle.std.proofs.lemmas.List.{length-map}
use Rattle.def_crash.specs.Faults.{Rose}
use Rattle.def_crash.specs.Image.{Image}
use Rattle.def_crash.specs.Moments.{DiskView, Exposes, Images, Passes, OnlyReads}
use Rattle.def_crash.specs.Trail.{Trail}
use Rattle.def_crash.proofs.MomentLemmas.{now_since_start, at_told}
use Rattle.def_crash.proofs.TrailLemmas.{trail_read}
use Rattle.def_bytes.specs.Damage.{Read, and_then}
use Rattle.def_bytes.specs.SuperBlock.{Super, newest_in}
use Rattle.strat_io.specs.Streams.{Appends}
use Rattle.strat_model.specs.declared.ended.Ended.{Ended}
use Rattle.strat_model.specs.declared.ended.Ended.TheVariants as ended
use Rattle.strat_model.specs.declared.replies.Refusal.TheVariants as why
use Rattle.strat_model.specs.Answer.{refusal}
use Rattle.strat_model.specs.Ended.{status_of}
use Rattle.strat_model.specs.Batch.{tables_behind, tables_continued}
use Rattle.strat_model.specs.Run.{Exchange, Interruption, Position, Transcript}
use Rattle.strat_model.specs.Table.{Table, bare}
use Rattle.def_recovery.specs.Head.{Head}
use Rattle.def_recovery.specs.Opening.{recover, recover_slot, recover_head}
use Rattle.strat_report.specs.Reporting.{summary_text, levels_text, WritesReport, RecoversAs, IsSilent, AppendsFront, ReportHasCause}
use Rattle.def_publish.specs.Standing.{ShowsTable}
use Rattle.strat_memory.proofs.PayingLemmas.{paid_then, stored_since}
use Rattle.strat_loop.specs.Session.{EndHasCause}
use Rattle.strat_loop.specs.World.{World, world}
use Rattle.castle.specs.Working.{EndsOnExposed, FollowsNew, CarriesOutWorkload, LeavesWorkload, SendsSummary, summary_of}
use Rattle.castle.proofs.CompleteLemmas.{finds_head}

-- a disk that only was read since a workload was carried out whole has what that left
module _ (seed count : ℕ) (d0 d2 d3 : DiskView) (reads : OnlyReads d2 d3) where
  was : (c : Image) → Images d3 c → Images d2 c
  was c image = reads.images.each c (now_since_start d2 d3 c reads.time image)

  follows_on : (tr : Transcript) (end : Position) → tr.interruption ≡ None → FollowsNew d0 d2 (tables_continued tr end) (length tr.exchanges) → FollowsNew d0 d3 (tables_continued tr end) (length tr.exchanges)
  follows_on tr end unbroken f =
      let fronts : List Table = map (λ (e : Exchange). bare e.at.table) tr.exchanges in
      let tables : tables_continued tr end ≡ fronts ++ bare tr.after.table ∷ [] = ap (λ (h : Option Interruption). fronts ++ (bare tr.after.table ∷ tables_behind h end)) unbroken in
      let many : length fronts ≡ length tr.exchanges = length-map tr.exchanges (λ (e : Exchange). bare e.at.table) in
      let short : Trail ShowsTable d2 f.synced (fronts ++ bare tr.after.table ∷ []) (length fronts) =
      subst (λ (n : ℕ). Trail ShowsTable d2 f.synced (fronts ++ bare tr.after.table ∷ []) n) (sym many) (subst (λ (ts : List Table). Trail ShowsTable d2 f.synced ts (length tr.exchanges)) tables f.trail) in
      let long = trail_read ShowsTable d2 d3 f.synced fronts (bare tr.after.table) reads short in
      let trail : Trail ShowsTable d3 f.synced (tables_continued tr end) (length tr.exchanges) =
      subst (λ (ts : List Table). Trail ShowsTable d3 f.synced ts (length tr.exchanges)) (sym tables) (subst (λ (n : ℕ). Trail ShowsTable d3 f.synced (fronts ++ bare tr.after.table ∷ []) n) many long) in
      record {
        made = f.made;
        synced = f.synced;
        from = f.from;
        later = f.later;
        till = omega (arith, f.till, reads.time.later);
        until = λ blank m c low high image. f.until blank m c low high (reads.time.past m c (omega (arith, high, f.later, f.till)) image);
        new = λ m c low high image. f.new m c low high (reads.time.past m c (omega (arith, high, f.till)) image);
        trail = trail;
        left = λ c image. f.left c (was c image);
        stored = stored_since d3 f.synced (tables_continued tr end) (length tr.exchanges) trail;
        paid = paid_then d2 d3 f.synced reads.time f.paid (λ c since. f.paid c (record { at = d2.moment; from = f.till; till = omega arith; left = reads.images.each c since }));
      }

  carried_on : (how : Ended) → CarriesOutWorkload seed count ended.Done d0 d2 → CarriesOutWorkload seed count how d0 d3
  carried_on how c = record {
    transcript = c.transcript;
    run = c.run;
    region = c.region;
    front = c.front;
    all = λ is. c.all tt;
    continued = c.continued;
    next = c.next;
    broken = subst (λ (o : Option Interruption). IfSome o (λ (i : Interruption). (i.response.answer ≡ refusal why.DeviceFault) × (how ≡ ended.Device))) (sym (c.all tt).1) tt;
    follows = follows_on c.transcript c.continued.end (c.all tt).1 c.follows;
    shows = λ is f image. c.shows tt f (was f image);
  }

-- what is there is something
there : {A : Type 0} (o : Option A) → IsSome o → (x : A) × (o ≡ Some x)
there (Some x) some = (x, refl)
there None some = absurd (true≢false (sym some))

-- where a store is on the disk a report ends for no other reason
summary_end : (seed count : ℕ) (disk : DiskView) (how : Ended) (k0 k1 : Option (List ℕ)) (f : Image) (t : Table) → WritesReport (summary_text seed count) disk how k0 k1 → Exposes disk f → ShowsTable f t → EndsOnExposed how
summary_end seed count disk ended.Done k0 k1 f t writes exposed shows = tt
summary_end seed count disk ended.Device k0 k1 f t writes exposed shows = tt
summary_end seed count disk ended.Sink k0 k1 f t writes exposed shows = tt
summary_end seed count disk ended.NoMemory k0 k1 f t writes exposed shows = tt
summary_end seed count disk ended.NotAStore k0 k1 f t writes exposed shows =
    let head = finds_head f t shows in
    let e : ◌≡◌ {A = Read (Option Head)} (Ok (Some head.0)) (Ok None) = sym head.1 ∙ writes.0 f exposed in absurd cc
summary_end seed count disk (ended.Damaged block) k0 k1 f t writes exposed shows =
    let head = finds_head f t shows in
    let e : ◌≡◌ {A = Read (Option Head)} (Ok (Some head.0)) (Err block) = sym head.1 ∙ writes.0 f exposed in absurd cc
summary_end seed count disk ended.Usage k0 k1 f t writes exposed shows = absurd writes
summary_end seed count disk ended.FrameTooLong k0 k1 f t writes exposed shows = absurd writes
summary_end seed count disk ended.Truncated k0 k1 f t writes exposed shows = absurd writes
summary_end seed count disk ended.Source k0 k1 f t writes exposed shows = absurd writes
summary_end seed count disk ended.Budget k0 k1 f t writes exposed shows = absurd writes
summary_end seed count disk ended.Unsound k0 k1 f t writes exposed shows = absurd writes
summary_end seed count disk ended.UnknownVersion k0 k1 f t writes exposed shows = absurd writes

-- on a disk that tells its content, which it leaves, the summary ends the run as it ends itself
pub summary_leaves : (seed count : ℕ) (d0 d2 d3 : DiskView) (how : Ended) (k0 k1 : Option (List ℕ)) (f : Image) → Exposes d0 f → Passes d0 d2 → IfSome d2.content (Images d2) → OnlyReads d2 d3
    → LeavesWorkload seed count ended.Done d0 d2 → WritesReport (summary_text seed count) d2 how k0 k1 → LeavesWorkload seed count how d0 d3
summary_leaves seed count d0 d2 d3 how k0 k1 f exposed passes content reads left writes =
    let g = there d2.content (passes.exposed (subst IsSome (sym exposed) refl)) in
    elim left.made [
      | inl none ↦ elim none.ends [
        | inl memory ↦ let e : ended.Done ≡ ended.NoMemory = memory in absurd cc
        | inr device ↦ let e : ended.Done ≡ ended.Device = device in absurd cc
      ]
      | inr carried ↦ record {
        ends = summary_end seed count d2 how k0 k1 g.0 (bare carried.transcript.after.table) writes g.1 (carried.shows tt g.0 (at_told d2.content (Images d2) g.0 g.1 content));
        made = inr (carried_on seed count d0 d2 d3 reads how carried);
      }
    ]

-- where nothing was added nothing changed
adds_nothing : (k0 k1 : Option (List ℕ)) → Appends k0 k1 [] → k1 ≡ k0
adds_nothing None k1 adds = adds.hidden refl
adds_nothing (Some held) k1 adds = adds.exposed held refl ∙ ap Some (append-nil held)

-- the front of a text that is not all of it is of a text with a byte
front_sent : (seed count : ℕ) (disk : DiskView) (k0 k1 : Option (List ℕ)) (found : Read (Option Head)) → RecoversAs disk found → AppendsFront k0 k1 (summary_text seed count found)
    → (head : Head) × RecoversAs disk (Ok (Some head)) × AppendsFront k0 k1 (summary_of head seed count)
front_sent seed count disk k0 k1 (Ok (Some head)) finds sent = (head, finds, sent)
front_sent seed count disk k0 k1 (Ok None) finds sent = absurd (omega (arith, sent.1))
front_sent seed count disk k0 k1 (Err block) finds sent = absurd (omega (arith, sent.1))

module _ (seed count : ℕ) (d2 d3 : DiskView) (reads : OnlyReads d2 d3) (k0 k1 : Option (List ℕ)) where
  finds_on : (found : Read (Option Head)) → RecoversAs d2 found → RecoversAs d3 found
  finds_on found finds = λ f exposed. finds f (sym reads.same ∙ exposed)

  pub summary_sent : (how : Ended) → WritesReport (summary_text seed count) d2 how k0 k1 → SendsSummary how seed count d3 k0 k1
  summary_sent ended.Done writes = (writes.0, finds_on (Ok (Some writes.0)) writes.1, writes.2)
  summary_sent ended.Sink writes =
      let sent = front_sent seed count d2 k0 k1 writes.0 writes.1 writes.2 in
      (sent.0, finds_on (Ok (Some sent.0)) sent.1, sent.2)
  summary_sent ended.NotAStore writes = adds_nothing k0 k1 writes.1
  summary_sent ended.Device writes = writes
  summary_sent ended.NoMemory writes = writes
  summary_sent (ended.Damaged block) writes = adds_nothing k0 k1 writes.1
  summary_sent ended.Usage writes = absurd writes
  summary_sent ended.FrameTooLong writes = absurd writes
  summary_sent ended.Truncated writes = absurd writes
  summary_sent ended.Source writes = absurd writes
  summary_sent ended.Budget writes = absurd writes
  summary_sent ended.Unsound writes = absurd writes
  summary_sent ended.UnknownVersion writes = absurd writes

-- a report blames no source
no_source : (say : Read (Option Head) → List ℕ) (disk : DiskView) (how : Ended) (k0 k1 : Option (List ℕ)) → WritesReport say disk how k0 k1 → how ≢ ended.Source
no_source say disk ended.Source k0 k1 writes is = writes
no_source say disk ended.Done k0 k1 writes is = let e : ended.Done ≡ ended.Source = is in cc
no_source say disk ended.Device k0 k1 writes is = let e : ended.Device ≡ ended.Source = is in cc
no_source say disk ended.Sink k0 k1 writes is = let e : ended.Sink ≡ ended.Source = is in cc
no_source say disk ended.NoMemory k0 k1 writes is = let e : ended.NoMemory ≡ ended.Source = is in cc
no_source say disk ended.NotAStore k0 k1 writes is = let e : ended.NotAStore ≡ ended.Source = is in cc
no_source say disk (ended.Damaged block) k0 k1 writes is = let e : ended.Damaged block ≡ ended.Source = is in cc
no_source say disk ended.Usage k0 k1 writes is = absurd writes
no_source say disk ended.FrameTooLong k0 k1 writes is = absurd writes
no_source say disk ended.Truncated k0 k1 writes is = absurd writes
no_source say disk ended.Budget k0 k1 writes is = absurd writes
no_source say disk ended.Unsound k0 k1 writes is = absurd writes
no_source say disk ended.UnknownVersion k0 k1 writes is = absurd writes

-- what a report's counts say of a run that did nothing to a disk but make that report, before which no count rose
pub report_cause : (say : Read (Option Head) → List ℕ) (disk d0 d3 : DiskView) (how : Ended) (k0 k1 : Option (List ℕ)) (a b m x y : ℕ) (left : Option (List ℕ)) (source : ℕ) → WritesReport say disk how k0 k1
    → ReportHasCause how m b x y → m ≡ a → EndHasCause how (world left source k0 x d0 a) (world left source k1 y d3 b)
report_cause say disk d0 d3 how k0 k1 a b m x y left source writes cause before = record {
  source = λ is. absurd (no_source say disk how k0 k1 writes is);
  sink = cause.sink;
  device = λ is. subst (λ (n : ℕ). Rose n b) before (cause.device is);
  source_same = λ no. refl;
  sink_same = cause.sink_same;
  disk_same = λ no other. cause.disk_same no ∙ before;
}

-- a run of a workload that gave up before it sent anything has one of these statuses, and so has a report
pub silent_by : (how : Ended) → (status_of how ≡ 2) ⊎ (status_of how ≡ 5) ⊎ (status_of how ≡ 8) → IsSilent how
silent_by ended.NotAStore is = tt
silent_by ended.Device is = tt
silent_by ended.NoMemory is = tt
silent_by ended.Done is = absurd (omega (arith, is))
silent_by ended.Usage is = absurd (omega (arith, is))
silent_by ended.FrameTooLong is = absurd (omega (arith, is))
silent_by ended.Truncated is = absurd (omega (arith, is))
silent_by ended.Source is = absurd (omega (arith, is))
silent_by ended.Sink is = absurd (omega (arith, is))
silent_by (ended.Damaged block) is = absurd (omega (arith, is))
silent_by ended.Budget is = absurd (omega (arith, is))
silent_by ended.Unsound is = absurd (omega (arith, is))
silent_by ended.UnknownVersion is = absurd (omega (arith, is))

-- where neither the sink nor the disk failed a run of a workload is done, or found no memory
pub workload_completes : (how : Ended) (before now : World) → EndsOnExposed how → EndHasCause how before now → ¬ Rose before.sink_faults now.sink_faults → ¬ Rose before.disk_faults now.disk_faults
    → (status_of how ≡ 0) ⊎ (status_of how ≡ 8)
workload_completes ended.Done b n ends cause sink disk = inl refl
workload_completes ended.NoMemory b n ends cause sink disk = inr refl
workload_completes ended.Sink b n ends cause sink disk = absurd (sink (cause.sink refl))
workload_completes ended.Device b n ends cause sink disk = absurd (disk (cause.device refl))
workload_completes ended.NotAStore b n ends cause sink disk = absurd ends
workload_completes (ended.Damaged block) b n ends cause sink disk = absurd ends
workload_completes ended.Usage b n ends cause sink disk = absurd ends
workload_completes ended.FrameTooLong b n ends cause sink disk = absurd ends
workload_completes ended.Truncated b n ends cause sink disk = absurd ends
workload_completes ended.Source b n ends cause sink disk = absurd ends
workload_completes ended.Budget b n ends cause sink disk = absurd ends
workload_completes ended.Unsound b n ends cause sink disk = absurd ends
workload_completes ended.UnknownVersion b n ends cause sink disk = absurd ends

-- where recovery finds no store no slot is open
pub no_slot : (f : Image) → recover f ≡ Ok None → newest_in f ≡ Ok None
no_slot f is = by_slot (newest_in f) is
  where
    by_head : (r : Read Head) → and_then r (λ h. Ok (Some h)) ≡ Ok None → ⊥
    by_head (Ok h) e = let x : ◌≡◌ {A = Read (Option Head)} (Ok (Some h)) (Ok None) = e in cc
    by_head (Err block) e = let x : ◌≡◌ {A = Read (Option Head)} (Err block) (Ok None) = e in cc

    by_slot : (r : Read (Option (ℕ × Super))) → and_then r (recover_slot f) ≡ Ok None → r ≡ Ok None
    by_slot (Ok None) e = refl
    by_slot (Ok (Some slot)) e = absurd (by_head (recover_head f slot.1) e)
    by_slot (Err block) e = absurd (let x : ◌≡◌ {A = Read (Option Head)} (Err block) (Ok None) = e in cc)

pub none_reported : (disk : DiskView) (how : Ended) (k0 k1 : Option (List ℕ)) → WritesReport levels_text disk how k0 k1 → how ≡ ended.NotAStore → (f : Image) → Exposes disk f → newest_in f ≡ Ok None
none_reported disk how k0 k1 writes is f exposed =
    no_slot f ((subst (λ (e : Ended). WritesReport levels_text disk e k0 k1) is writes).0 f exposed)
