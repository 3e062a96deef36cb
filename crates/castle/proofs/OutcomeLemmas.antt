-- What runs that format, report and carry out a workload come to, by how they ended.
use Rattle.std.proofs.Common.{◌≡◌, ◌≢◌, ◌≤◌, ◌⊎◌, ◌*◌, ℕ, List, [], ◌∷◌, length, Option, Some, None, refl, sym, ap, subst, ◌∙◌, inl, inr, arith}
use Rattle.std.specs.Prelude.{Ok, Err, IfSome}
use Rattle.std.proofs.lemmas.Bool.{cases_lt}
use Rattle.def_crash.specs.Faults.{Rose}
use Rattle.def_crash.specs.Image.{Image}
use Rattle.def_crash.specs.Moments.{DiskView, Exposes, Since}
use Rattle.def_bytes.specs.SuperBlock.{newest_in}
use Rattle.strat_io.specs.Streams.{Appends}
use Rattle.strat_model.specs.declared.ended.Ended.{Ended}
use Rattle.strat_model.specs.declared.ended.Ended.TheVariants as ended
use Rattle.strat_model.specs.declared.replies.Refusal.TheVariants as why
use Rattle.strat_model.specs.Answer.{refusal}
use Rattle.strat_model.specs.Ended.{status_of}
use Rattle.strat_model.specs.Batch.{tables_continued}
use Rattle.strat_model.specs.Run.{Interruption, Position, Transcript}
use Rattle.strat_model.specs.Table.{fresh}
use Rattle.def_recovery.specs.Head.{Head}
use Rattle.def_recovery.specs.Opening.{recover}
use Rattle.def_texts.specs.Texts.{text, damaged_line}
use Rattle.strat_report.specs.Reporting.{AppendsFront, WritesReport, levels_text}
use Rattle.def_publish.specs.Standing.{ShowsTable}
use Rattle.def_state.specs.State.{State, fresh_state, stored, updates_of}
use Rattle.strat_open.specs.Format.{IsBlank, IsNewStore, IsNoneOrNew}
use Rattle.strat_loop.specs.Session.{SendsPrefix, EndHasCause}
use Rattle.strat_serve.specs.Tables.{BreaksForFault}
use Rattle.strat_loop.specs.World.{Streams, beside}
use Rattle.strat_serve.proofs.TableLemmas.{at_some, thrifty_of}
use Rattle.castle.specs.Headline.{GoesThroughNewTables, IsNoneOrThrifty}
use Rattle.castle.specs.Outcomes.{SendsLine, Formats}
use Rattle.castle.specs.Working.{CarriesOutWorkload, EndsWorkload, EndsOnExposed, EndsAfterAll, FollowsNew, MakesNoStore, SendsSummary, summary_of}
use Rattle.castle.proofs.HeadlineLemmas.{damaged_by, end_of, ended_by, other_by}

-- a store or none shows its table
pub none_or_shown : (mem changes versions : ℕ) (c : Image) → IsNoneOrNew 2 mem changes versions c → (newest_in c ≡ Ok None) ⊎ ShowsTable c (fresh changes versions)
none_or_shown mem changes versions c (inl none) = inl none
none_or_shown mem changes versions c (inr new) = inr new.shows

-- a new store is thrifty
new_thrifty : (c : Image) → IsNewStore 2 64 16777216 16384 c → IsNoneOrThrifty c
new_thrifty c new =
    let same : Some new.shows.state ≡ Some (fresh_state 64 16777216 16384) = sym new.shows.reads ∙ new.reads in
    let is : new.shows.state ≡ fresh_state 64 16777216 16384 = cc in
    inr (thrifty_of c (fresh 16777216 16384) new.shows (subst (λ (s : State). stored s ≤ 2 * updates_of s) (sym is) (omega arith)), new.paid)

pub none_or_thrifty : (c : Image) → IsNoneOrNew 2 64 16777216 16384 c → IsNoneOrThrifty c
none_or_thrifty c (inl none) = inl none
none_or_thrifty c (inr new) = new_thrifty c new

-- the ends of a run that formats
format_ends : (how : Ended) (h k : Option (List ℕ)) (line : List ℕ) → SendsLine how h k line → (status_of how ≡ 0) ⊎ (status_of how ≡ 5) ⊎ (status_of how ≡ 7) ⊎ (status_of how ≡ 8)
format_ends ended.Done h k line sends = inl refl
format_ends ended.Device h k line sends = inr (inl refl)
format_ends ended.Sink h k line sends = inr (inr (inl refl))
format_ends ended.NoMemory h k line sends = inr (inr (inr refl))
format_ends ended.Usage h k line sends = absurd sends
format_ends ended.NotAStore h k line sends = absurd sends
format_ends ended.FrameTooLong h k line sends = absurd sends
format_ends ended.Truncated h k line sends = absurd sends
format_ends ended.Source h k line sends = absurd sends
format_ends (ended.Damaged block) h k line sends = absurd sends
format_ends ended.Budget h k line sends = absurd sends
format_ends ended.Unsound h k line sends = absurd sends
format_ends ended.UnknownVersion h k line sends = absurd sends

-- and of one that reports
report_ends : (how : Ended) (v : DiskView) (h k : Option (List ℕ)) → WritesReport levels_text v how h k
    → (status_of how ≡ 0) ⊎ (status_of how ≡ 2) ⊎ (status_of how ≡ 5) ⊎ (status_of how ≡ 7) ⊎ (status_of how ≡ 8) ⊎ (status_of how ≡ 9)
report_ends ended.Done v h k writes = inl refl
report_ends ended.NotAStore v h k writes = inr (inl refl)
report_ends ended.Device v h k writes = inr (inr (inl refl))
report_ends ended.Sink v h k writes = inr (inr (inr (inl refl)))
report_ends ended.NoMemory v h k writes = inr (inr (inr (inr (inl refl))))
report_ends (ended.Damaged block) v h k writes = inr (inr (inr (inr (inr refl))))
report_ends ended.Usage v h k writes = absurd writes
report_ends ended.FrameTooLong v h k writes = absurd writes
report_ends ended.Truncated v h k writes = absurd writes
report_ends ended.Source v h k writes = absurd writes
report_ends ended.Budget v h k writes = absurd writes
report_ends ended.Unsound v h k writes = absurd writes
report_ends ended.UnknownVersion v h k writes = absurd writes

-- and of one of a workload
work_ends : (how : Ended) → EndsWorkload how → (status_of how ≡ 0) ⊎ (status_of how ≡ 2) ⊎ (status_of how ≡ 5) ⊎ (status_of how ≡ 7) ⊎ (status_of how ≡ 8) ⊎ (status_of how ≡ 9)
work_ends ended.Done ends = inl refl
work_ends ended.NotAStore ends = inr (inl refl)
work_ends ended.Device ends = inr (inr (inl refl))
work_ends ended.Sink ends = inr (inr (inr (inl refl)))
work_ends ended.NoMemory ends = inr (inr (inr (inr (inl refl))))
work_ends (ended.Damaged block) ends = inr (inr (inr (inr (inr refl))))
work_ends ended.Usage ends = absurd ends
work_ends ended.FrameTooLong ends = absurd ends
work_ends ended.Truncated ends = absurd ends
work_ends ended.Source ends = absurd ends
work_ends ended.Budget ends = absurd ends
work_ends ended.Unsound ends = absurd ends
work_ends ended.UnknownVersion ends = absurd ends

exposed_ends : (how : Ended) → EndsOnExposed how → (status_of how ≡ 0) ⊎ (status_of how ≡ 5) ⊎ (status_of how ≡ 7) ⊎ (status_of how ≡ 8)
exposed_ends ended.Done ends = inl refl
exposed_ends ended.Device ends = inr (inl refl)
exposed_ends ended.Sink ends = inr (inr (inl refl))
exposed_ends ended.NoMemory ends = inr (inr (inr refl))
exposed_ends ended.NotAStore ends = absurd ends
exposed_ends (ended.Damaged block) ends = absurd ends
exposed_ends ended.Usage ends = absurd ends
exposed_ends ended.FrameTooLong ends = absurd ends
exposed_ends ended.Truncated ends = absurd ends
exposed_ends ended.Source ends = absurd ends
exposed_ends ended.Budget ends = absurd ends
exposed_ends ended.Unsound ends = absurd ends
exposed_ends ended.UnknownVersion ends = absurd ends

-- what a run of a workload sent that was not done, and whose sink did not fail
work_same : (how : Ended) (seed count : ℕ) (w : DiskView) (h k : Option (List ℕ)) → SendsSummary how seed count w h k → status_of how ≢ 0 → status_of how ≢ 7 → k ≡ h
work_same ended.Done seed count w h k sends done cut = absurd (done refl)
work_same ended.Sink seed count w h k sends done cut = absurd (cut refl)
work_same ended.Device seed count w h k sends done cut = sends
work_same ended.NoMemory seed count w h k sends done cut = sends
work_same ended.NotAStore seed count w h k sends done cut = sends
work_same (ended.Damaged block) seed count w h k sends done cut = sends
work_same ended.Usage seed count w h k sends done cut = sends
work_same ended.FrameTooLong seed count w h k sends done cut = sends
work_same ended.Truncated seed count w h k sends done cut = sends
work_same ended.Source seed count w h k sends done cut = sends
work_same ended.Budget seed count w h k sends done cut = sends
work_same ended.Unsound seed count w h k sends done cut = sends
work_same ended.UnknownVersion seed count w h k sends done cut = sends

-- which counts rose over a run that is none of the source's failing
pub causes : (status : ℕ) (how : Ended) → status ≡ status_of how → (x y : Streams) (v w : DiskView) → EndHasCause how (beside x v) (beside y w) → status ≢ 6
    → (status ≡ 5 → Rose x.disk_faults y.disk_faults) × (status ≡ 7 → Rose x.sink_faults y.sink_faults) × (y.source_faults ≡ x.source_faults)
    × (status ≢ 7 → y.sink_faults ≡ x.sink_faults) × (status ≢ 5 → status ≢ 7 → y.disk_faults ≡ x.disk_faults)
causes status how is x y v w cause other = (
  λ five. cause.device (ended_by status 5 how is five (λ nine. omega (arith, nine))),
  λ seven. cause.sink (ended_by status 7 how is seven (λ nine. omega (arith, nine))),
  cause.source_same (other_by status 6 how ended.Source is refl other),
  λ no. cause.sink_same (other_by status 7 how ended.Sink is refl no),
  λ no and. cause.disk_same (other_by status 5 how ended.Device is refl no) (other_by status 7 how ended.Sink is refl and),
)

module _ (status : ℕ) (how : Ended) (is : status ≡ status_of how) where
  by : (n : ℕ) → status ≡ n → n ≢ 9 → how ≡ end_of n
  by n this other = ended_by status n how is this other

  -- what a run that formats sent
  pub format_sent : (h k : Option (List ℕ)) (line : List ℕ) → SendsLine how h k line → (status ≡ 0 → Appends h k line) × (status ≡ 7 → SendsPrefix h k line) × ((status ≡ 5) ⊎ (status ≡ 8) → k ≡ h)
  format_sent h k line sends = (
    λ done. subst (λ (e : Ended). SendsLine e h k line) (by 0 done (λ nine. omega (arith, nine))) sends,
    λ cut. subst (λ (e : Ended). SendsLine e h k line) (by 7 cut (λ nine. omega (arith, nine))) sends,
    λ gave. elim gave [
      | inl device ↦ subst (λ (e : Ended). SendsLine e h k line) (by 5 device (λ nine. omega (arith, nine))) sends
      | inr memory ↦ subst (λ (e : Ended). SendsLine e h k line) (by 8 memory (λ nine. omega (arith, nine))) sends
    ],
  )

  pub format_left : (status ≡ 0) ⊎ (status ≡ 7) → Formats how
  format_left (inl done) = subst Formats (sym (by 0 done (λ nine. omega (arith, nine)))) tt
  format_left (inr cut) = subst Formats (sym (by 7 cut (λ nine. omega (arith, nine)))) tt

  pub work_left : (status ≡ 0) ⊎ (status ≡ 7) → EndsAfterAll how
  work_left (inl done) = subst EndsAfterAll (sym (by 0 done (λ nine. omega (arith, nine)))) tt
  work_left (inr cut) = subst EndsAfterAll (sym (by 7 cut (λ nine. omega (arith, nine)))) tt

  pub format_ends_by : (h k : Option (List ℕ)) (line : List ℕ) → SendsLine how h k line → (status ≡ 0) ⊎ (status ≡ 5) ⊎ (status ≡ 7) ⊎ (status ≡ 8)
  format_ends_by h k line sends = subst (λ (n : ℕ). (n ≡ 0) ⊎ (n ≡ 5) ⊎ (n ≡ 7) ⊎ (n ≡ 8)) (sym is) (format_ends how h k line sends)

  pub report_ends_by : (v : DiskView) (h k : Option (List ℕ)) → WritesReport levels_text v how h k → (status ≡ 0) ⊎ (status ≡ 2) ⊎ (status ≡ 5) ⊎ (status ≡ 7) ⊎ (status ≡ 8) ⊎ (status ≡ 9)
  report_ends_by v h k writes = subst (λ (n : ℕ). (n ≡ 0) ⊎ (n ≡ 2) ⊎ (n ≡ 5) ⊎ (n ≡ 7) ⊎ (n ≡ 8) ⊎ (n ≡ 9)) (sym is) (report_ends how v h k writes)

  pub work_ends_by : EndsWorkload how → (status ≡ 0) ⊎ (status ≡ 2) ⊎ (status ≡ 5) ⊎ (status ≡ 7) ⊎ (status ≡ 8) ⊎ (status ≡ 9)
  work_ends_by ends = subst (λ (n : ℕ). (n ≡ 0) ⊎ (n ≡ 2) ⊎ (n ≡ 5) ⊎ (n ≡ 7) ⊎ (n ≡ 8) ⊎ (n ≡ 9)) (sym is) (work_ends how ends)

  pub exposed_ends_by : EndsOnExposed how → (status ≡ 0) ⊎ (status ≡ 5) ⊎ (status ≡ 7) ⊎ (status ≡ 8)
  exposed_ends_by ends = subst (λ (n : ℕ). (n ≡ 0) ⊎ (n ≡ 5) ⊎ (n ≡ 7) ⊎ (n ≡ 8)) (sym is) (exposed_ends how ends)

  -- what a report wrote
  module _ (v : DiskView) (h k : Option (List ℕ)) (writes : WritesReport levels_text v how h k) where
    pub report_done : status ≡ 0 → WritesReport levels_text v ended.Done h k
    report_done this = subst (λ (e : Ended). WritesReport levels_text v e h k) (by 0 this (λ nine. omega (arith, nine))) writes

    pub report_none : status ≡ 2 → WritesReport levels_text v ended.NotAStore h k
    report_none this = subst (λ (e : Ended). WritesReport levels_text v e h k) (by 2 this (λ nine. omega (arith, nine))) writes

    pub report_cut : status ≡ 7 → WritesReport levels_text v ended.Sink h k
    report_cut this = subst (λ (e : Ended). WritesReport levels_text v e h k) (by 7 this (λ nine. omega (arith, nine))) writes

    pub report_same : (status ≡ 5) ⊎ (status ≡ 8) → k ≡ h
    report_same (inl this) = subst (λ (e : Ended). WritesReport levels_text v e h k) (by 5 this (λ nine. omega (arith, nine))) writes
    report_same (inr this) = subst (λ (e : Ended). WritesReport levels_text v e h k) (by 8 this (λ nine. omega (arith, nine))) writes

    pub report_damaged : (f : Image) → Exposes v f → status ≡ 9 → (block : ℕ) × (recover f ≡ Err block) × Appends h k (text (damaged_line block ∷ []))
    report_damaged f exposed this =
        let damaged = damaged_by status how is this in
        let wrote = subst (λ (e : Ended). WritesReport levels_text v e h k) damaged.1 writes in
        (damaged.0, wrote.0 f exposed, wrote.1)

  -- what a run of a workload sent
  pub work_sent : (seed count : ℕ) (w : DiskView) (h k : Option (List ℕ)) (g : Image) → Exposes w g → SendsSummary how seed count w h k
      → (status ≡ 0 → (head : Head) × (recover g ≡ Ok (Some head)) × Appends h k (summary_of head seed count))
      × (status ≡ 7 → (head : Head) × (recover g ≡ Ok (Some head)) × AppendsFront h k (summary_of head seed count)) × (status ≢ 0 → status ≢ 7 → k ≡ h)
  work_sent seed count w h k g exposed sends = (
    λ done. let s = subst (λ (e : Ended). SendsSummary e seed count w h k) (by 0 done (λ nine. omega (arith, nine))) sends in (s.0, s.1 g exposed, s.2),
    λ cut. let s = subst (λ (e : Ended). SendsSummary e seed count w h k) (by 7 cut (λ nine. omega (arith, nine))) sends in (s.0, s.1 g exposed, s.2),
    λ done cut. work_same how seed count w h k sends (λ this. done (is ∙ this)) (λ this. cut (is ∙ this)),
  )

  -- it found no memory
  pub out_of_memory : status ≡ 8 → how ≡ ended.NoMemory
  out_of_memory eight = by 8 eight (λ nine. omega (arith, nine))

  -- no store was made for want of memory or as the device failed
  pub made_none : (v w : DiskView) → MakesNoStore how v w → (status ≡ 5) ⊎ (status ≡ 8)
  made_none v w none = elim none.ends [
    | inl memory ↦ inr (is ∙ ap status_of memory)
    | inr device ↦ inl (is ∙ ap status_of device)
  ]

-- what broke off a run of a workload, the disk counted
pub breaks_for_fault : (seed count : ℕ) (how : Ended) (x y : Streams) (v w : DiskView) (c : CarriesOutWorkload seed count how v w) → EndHasCause how (beside x v) (beside y w) → BreaksForFault c.transcript x y
breaks_for_fault seed count how x y v w c cause = go c.transcript.interruption c.broken
  where
    go : (o : Option Interruption) → IfSome o (λ (h : Interruption). (h.response.answer ≡ refusal why.DeviceFault) × (how ≡ ended.Device))
        → IfSome o (λ (h : Interruption). (h.response.answer ≡ refusal why.DeviceFault) × Rose x.disk_faults y.disk_faults)
    go None broken = tt
    go (Some h) broken = (broken.0, cause.device broken.1)

-- what crashes leave of a run of a workload
module _ (v w : DiskView) (run : Transcript) (end : Position) (follows : FollowsNew v w (tables_continued run end) (length run.exchanges)) where
  pub goes_new : GoesThroughNewTables run end v w
  goes_new = record {
    made = follows.made;
    synced = follows.synced;
    from = follows.from;
    later = follows.later;
    till = follows.till;
    until = λ blank m c low high image. none_or_shown 64 16777216 16384 c (follows.until blank m c low high image);
    new = λ m c low high image. (follows.new m c low high image).shows;
    trail = follows.trail;
  }

  thrifty_since : (c : Image) → Since w follows.synced c → IsNoneOrThrifty c
  thrifty_since c since =
      let found = follows.trail.each 0 since.at c (omega arith) (omega (arith, follows.trail.first, since.from)) since.till since.left in
      let shown = at_some (tables_continued run end) found.0 (ShowsTable c) found.2 in
      inr (
        thrifty_of c shown.0 shown.1 (follows.stored c since shown.1.state shown.1.reads),
        follows.paid c since,
      )

  pub new_space : IsBlank v → (c : Image) → Since w v.moment c → IsNoneOrThrifty c
  new_space blank c since = elim (cases_lt follows.made since.at) [
    | inr early ↦ none_or_thrifty c (follows.until blank since.at c since.from early since.left)
    | inl made ↦ elim (cases_lt follows.synced since.at) [
      | inr until ↦ new_thrifty c (follows.new since.at c (omega (arith, made)) until since.left)
      | inl late ↦ thrifty_since c (record { at = since.at; from = omega (arith, late); till = since.till; left = since.left })
    ]
  ]
