-- A leader over a disk that shows a table.
use Rattle.std.proofs.Common.{◌≡◌, ◌⊎◌, ◌+◌, ℕ, false, eqb, List, [], ◌∷◌, ◌++◌, Option, Some, None, length, refl, sym, ap, ◌∙◌, subst, inl, inr, append-nil, append_assoc, arith}
use Rattle.std.specs.Prelude.{IfSome, Ok, option_map}
use Rattle.std.proofs.lemmas.List.Concat.{flat_map-append}
use Rattle.def_crash.specs.Faults.{Rose}
use Rattle.def_crash.specs.Image.{Image}
use Rattle.def_crash.specs.Moments.{DiskView, Exposes}
use Rattle.def_bytes.specs.Damage.{Read}
use Rattle.strat_io.specs.Streams.{Appends}
use Rattle.strat_model.specs.declared.ended.Ended.{Ended}
use Rattle.strat_model.specs.declared.ended.Ended.TheVariants as ended
use Rattle.strat_model.specs.Answer.{Answer, accepts}
use Rattle.strat_model.specs.Run.{Interruption, IsFault, Position, Response, Transcript}
use Rattle.strat_model.specs.Stream.{is_too_long}
use Rattle.strat_model.specs.Table.{Table, bare}
use Rattle.def_recovery.specs.Head.{Head}
use Rattle.def_recovery.specs.Opening.{recover}
use Rattle.def_publish.specs.Contents.{contents_head}
use Rattle.def_publish.specs.Standing.{ShowsTable}
use Rattle.def_publish.proofs.PartsLemmas.{reads_head, state_parts}
use Rattle.def_state.specs.State.{changes_of}
use Rattle.def_follow.specs.Log.{AreTakenFrom, table_after}
use Rattle.strat_store.specs.Applying.{change_wanted}
use Rattle.strat_open.specs.Following.{FollowsFrom}
use Rattle.strat_loop.specs.Session.{EndHasCause, GaveUp, SendsPrefix}
use Rattle.strat_loop.specs.Speech.{Said, SaysFault, response_of, said_bytes}
use Rattle.strat_loop.specs.Spoken.{FollowsSpokenRun, Sitting, all_said, listed_said, output_of}
use Rattle.strat_loop.specs.World.{World}
use Rattle.strat_follow.specs.Copying.{SendsOrFails}
use Rattle.strat_follow.specs.Leading.{LeadOutcome, LeadsOn, LeadsTable, LeadsTables, StopsAtJournal, journal_frames}
use Rattle.strat_follow.specs.Leads.{change_frames, leads}
use Rattle.strat_follow.proofs.CopyLemmas.{last_none, no_frame, nothing_taken, sends_by}
use Rattle.strat_follow.proofs.MadeLemmas.{RunMade, denied_frame, frames_then, run_made}

-- what recovery finds of an image that shows a table, with as many changes
head_at : (f : Image) (t : Table) → ShowsTable f t → (h : Head) × (recover f ≡ Ok (Some h)) × (t.changes ≡ h.manifest.changes + length h.journal)
head_at f t shows =
    let parts = state_parts f shows.state shows.reads in (
      contents_head parts.contents,
      reads_head f parts.contents parts.reads,
      ap (λ (u : Table). u.changes) (sym shows.table) ∙ ap changes_of (sym parts.state),
    )

one_head : (f : Image) (a b : Head) → recover f ≡ Ok (Some a) → recover f ≡ Ok (Some b) → a ≡ b
one_head f a b first second =
    let both : ◌≡◌ {A = Read (Option Head)} (Ok (Some a)) (Ok (Some b)) = sym first ∙ second in cc

-- a table that an image shows has no cursors
bare_is : (f : Image) (t : Table) → ShowsTable f t → bare t ≡ t
bare_is f t shows = subst (λ (u : Table). bare u ≡ u) shows.table refl

-- bytes that are sent behind others
pub appends_then : (a b c : Option (List ℕ)) (x y : List ℕ) → Appends a b x → Appends b c y → Appends a c (x ++ y)
appends_then a b c x y first second = record {
  exposed = λ held e. second.exposed (held ++ x) (first.exposed held e) ∙ ap (λ (l : List ℕ). Some l) (append_assoc held x y);
  hidden = λ e. second.hidden (first.hidden e);
}

sends_behind : (how : Ended) (a b c : Option (List ℕ)) (x y : List ℕ) → Appends a b x → SendsOrFails how b c y → SendsOrFails how a c (x ++ y)
sends_behind ended.Sink a b c x y first second = record {
  sent = x ++ second.sent;
  later = second.later;
  parts = ap (λ (l : List ℕ). x ++ l) second.parts ∙ sym (append_assoc x second.sent second.later);
  some = second.some;
  appends = appends_then a b c x second.sent first second.appends;
}
sends_behind ended.Done a b c x y first second = appends_then a b c x y first second
sends_behind ended.Usage a b c x y first second = appends_then a b c x y first second
sends_behind ended.NotAStore a b c x y first second = appends_then a b c x y first second
sends_behind ended.FrameTooLong a b c x y first second = appends_then a b c x y first second
sends_behind ended.Truncated a b c x y first second = appends_then a b c x y first second
sends_behind ended.Device a b c x y first second = appends_then a b c x y first second
sends_behind ended.Source a b c x y first second = appends_then a b c x y first second
sends_behind ended.NoMemory a b c x y first second = appends_then a b c x y first second
sends_behind (ended.Damaged block) a b c x y first second = appends_then a b c x y first second
sends_behind ended.Budget a b c x y first second = appends_then a b c x y first second
sends_behind ended.Unsound a b c x y first second = appends_then a b c x y first second
sends_behind ended.UnknownVersion a b c x y first second = appends_then a b c x y first second

-- nothing is sent for a change that met a fault
fault_denied : (a : Answer) → IsFault a → accepts a.reply ≡ false
fault_denied a (inl device) = ap (λ (x : Answer). accepts x.reply) device
fault_denied a (inr damaged) = ap (λ (x : Answer). accepts x.reply) damaged.1

broken_none : (mem : ℕ) (after : Position) (o : Option Interruption) (b : Option Said)
    → IfSome o (λ h. (said : Said) × (b ≡ Some said) × (h.response ≡ response_of said) × SaysFault leads mem after h.body said h.done)
    → option_map response_of b ≡ option_map (λ h. h.response) o → said_bytes (listed_said b) ≡ []
broken_none mem after None None met same = refl
broken_none mem after None (Some said) met same = absurd (let e : ◌≡◌ {A = Option Response} (Some (response_of said)) None = same in cc)
broken_none mem after (Some h) b met same =
    let said = met.0 in
    let fault = met.3 in
    let none : said.sent ≡ [] = fault.asked.text ∙ denied_frame after.table.changes (change_wanted fault.request) (accepts said.answer.reply) (fault_denied said.answer fault.answer) in
    ap (λ (x : Option Said). said_bytes (listed_said x)) met.1 ∙ ap (λ (l : List ℕ). l ++ []) none

-- what a leader sends for what it took
leads_output : (before now : DiskView) (f : Image) (t : Table) (s : Sitting) (r : FollowsSpokenRun leads before now f t s) (m : RunMade r.start r.transcript.exchanges s.answers r.transcript.after)
    → output_of leads s ≡ change_frames t.changes m.made
leads_output before now f t s r m =
    (λ i. said_bytes (all_said s) ++ last_none leads refl s.broken (eqb (length s.answers) (length s.bodies)) (is_too_long s.rest) i)
    ∙ append-nil (said_bytes (all_said s))
    ∙ flat_map-append (λ (x : Said). x.sent) s.answers (listed_said s.broken)
    ∙ (λ i. m.sent i ++ broken_none r.mem r.transcript.after r.transcript.interruption s.broken r.is.interrupted r.broken_is i)
    ∙ append-nil (change_frames r.start.table.changes m.made)
    ∙ ap (λ (u : Table). change_frames u.changes m.made) r.table

module _ (budget : ℕ) (how : Ended) (before now : World) (f : Image) (t : Table) (exposed : Exposes before.disk f) (shows : ShowsTable f t) where
  -- a run over nothing
  abbrev start_at : Position
  start_at = record { table = t; fill = length shows.state.journal }

  abbrev no_run : Transcript
  no_run = record { exchanges = []; after = start_at; interruption = None }

  over_nothing : (head : Head) → recover f ≡ Ok (Some head) → t.changes ≡ head.manifest.changes + length head.journal → now.left ≡ before.left
      → (GaveUp how before now ⊎ SendsOrFails how before.held now.held (change_frames head.manifest.changes (head.journal ++ [])))
      → (GaveUp how before now ⊎ FollowsFrom before.disk now.disk f (bare t ∷ []) 0) → LeadsTable budget how f t before now
  over_nothing head found count source sends follows = record {
    head = head;
    found = found;
    mem = shows.state.mem;
    start = start_at;
    begins = record { shows = shows; fill = refl; mem_is = refl };
    table = refl;
    count = count;
    taken = [];
    took = nothing_taken before.left now.left source;
    bodies = [];
    rest = [];
    splits = no_frame;
    run = no_run;
    answers = [];
    broken = None;
    is = record { run = refl; interrupted = tt };
    front = refl;
    made = [];
    are_made = refl;
    sends = sends;
    takes = tt;
    after = refl;
    continued = record { more = []; end = start_at; none = λ _. refl; batch = tt; change = tt };
    next = refl;
    follows = follows;
  }

  gave : GaveUp how before now → LeadsTable budget how f t before now
  gave up = let head = head_at f t shows in over_nothing head.0 head.1 head.2 up.source (inl up) (inl up)

  stopped : StopsAtJournal how before now → LeadsTable budget how f t before now
  stopped stop =
      let head = head_at f t shows in
      let same : stop.head ≡ head.0 = one_head f stop.head head.0 (stop.found f exposed) head.1 in
      let cut : SendsPrefix before.held now.held (change_frames head.0.manifest.changes (head.0.journal ++ [])) =
      subst (SendsPrefix before.held now.held) (ap journal_frames same ∙ ap (change_frames head.0.manifest.changes) (sym (append-nil head.0.journal))) stop.cut in
      over_nothing head.0 head.1 head.2 stop.source
      (inr (subst (λ (e : Ended). SendsOrFails e before.held now.held (change_frames head.0.manifest.changes (head.0.journal ++ []))) (sym stop.ends) cut))
      (inr (subst (λ (u : Table). FollowsFrom before.disk now.disk f (u ∷ []) 0) (sym (bare_is f t shows)) (stop.follows f t exposed shows)))

  led : LeadsOn budget how before now → LeadsTable budget how f t before now
  led on =
      let head = head_at f t shows in
      let same : on.head ≡ head.0 = one_head f on.head head.0 (on.found f exposed) head.1 in
      let h = head.0 in
      let s = on.served.sitting in
      let r = on.served.follows f t exposed shows in
      let m = run_made r.mem r.start r.transcript.exchanges s.answers r.transcript.after r.is.run in
      let journal : Appends before.held on.held (change_frames h.manifest.changes h.journal) = subst (Appends before.held on.held) (ap journal_frames same) on.sent in
      let output : output_of leads s ≡ change_frames (h.manifest.changes + length h.journal) m.made =
      leads_output before.disk now.disk f t s r m ∙ ap (λ (n : ℕ). change_frames n m.made) head.2 in
      let sends : SendsOrFails how before.held now.held (change_frames h.manifest.changes (h.journal ++ m.made)) =
      subst (SendsOrFails how before.held now.held) (sym (frames_then h.manifest.changes h.journal m.made))
      (sends_behind how before.held on.held now.held (change_frames h.manifest.changes h.journal) (change_frames (h.manifest.changes + length h.journal) m.made) journal
      (sends_by leads how on.held now.held s (change_frames (h.manifest.changes + length h.journal) m.made) output on.served.sends)) in
      record {
        head = h;
        found = head.1;
        mem = r.mem;
        start = r.start;
        begins = r.begins;
        table = r.table;
        count = head.2;
        taken = s.taken;
        took = on.served.took;
        bodies = s.bodies;
        rest = s.rest;
        splits = on.served.is.splits;
        run = r.transcript;
        answers = s.answers;
        broken = s.broken;
        is = r.is;
        front = r.front;
        made = m.made;
        are_made = m.are_made;
        sends = inr sends;
        takes = subst (λ (u : Table). AreTakenFrom (bare u) m.made) r.table m.takes;
        after = ap (λ (u : Table). table_after (bare u) m.made) (sym r.table) ∙ m.table;
        continued = r.continued;
        next = r.next;
        follows = inr r.follows;
      }

  leads_table : LeadOutcome budget how before now → LeadsTable budget how f t before now
  leads_table (inl up) = gave up
  leads_table (inr (inl stop)) = stopped stop
  leads_table (inr (inr on)) = led on

-- so it is with each table that the disk may show
pub leads_tables : (budget : ℕ) (how : Ended) (before now : World) → LeadOutcome budget how before now → LeadsTables budget how before now
leads_tables budget how before now outcome f t exposed shows = leads_table budget how before now f t exposed shows outcome

-- a run that found no memory before it touched anything gave up
pub no_memory : (before : World) → GaveUp ended.NoMemory before before
no_memory before = record {
  ends = tt;
  source = refl;
  sink = refl;
  kept = λ other. (refl, record { each = λ c since. let now : since.at ≡ before.disk.moment = omega (arith, since.from, since.till) in subst (λ (m : ℕ). before.disk.images_at m c) now since.left });
  failed = λ is. absurd (let x : ended.NoMemory ≡ ended.Device = is in cc);
  damaged = λ block is. absurd (let x : ended.NoMemory ≡ ended.Damaged block = is in cc);
}

-- what ended a run behind a part of it in which nothing failed is its cause
pub caused_after : (how : Ended) (before mid now : World) → mid.source_faults ≡ before.source_faults → mid.sink_faults ≡ before.sink_faults → mid.disk_faults ≡ before.disk_faults
    → EndHasCause how mid now → EndHasCause how before now
caused_after how before mid now source sink disk cause = record {
  source = λ e. subst (λ (n : ℕ). Rose n now.source_faults) source (cause.source e);
  sink = λ e. subst (λ (n : ℕ). Rose n now.sink_faults) sink (cause.sink e);
  device = λ e. subst (λ (n : ℕ). Rose n now.disk_faults) disk (cause.device e);
  source_same = λ other. cause.source_same other ∙ source;
  sink_same = λ other. cause.sink_same other ∙ sink;
  disk_same = λ other and. cause.disk_same other and ∙ disk;
}
