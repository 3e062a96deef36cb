-- What a run that exports a version comes to, whether it opened the store or gave up.
use Rattle.std.proofs.Common.{◌≡◌, ◌≢◌, ◌⊎◌, ℕ, Bool, true, false, List, [], Option, Some, None, refl, sym, ap, subst, ◌∙◌, inl, inr, arith}
use Rattle.std.specs.Prelude.{Contains, Ok, Err, IsErrOf}
use Rattle.std.specs.List.{filter_map}
use Rattle.std.proofs.lemmas.List.{append-nil}
use Rattle.def_bytes.specs.Damage.{Read}
use Rattle.def_crash.proofs.MomentLemmas.{now_since_start, since_split}
use Rattle.def_crash.specs.Faults.{Rose}
use Rattle.def_crash.specs.Image.{Image}
use Rattle.def_crash.specs.Moments.{DiskView, OnlyReads, Passes, Since}
use Rattle.def_meaning.specs.StateTable.{table_of}
use Rattle.def_publish.specs.Contents.{Contents, contents_state}
use Rattle.def_publish.specs.Several.{EachShows, ShowsOneOf}
use Rattle.def_publish.specs.Standing.{ShowsTable}
use Rattle.def_recovery.specs.Head.{Head, head_versions}
use Rattle.def_recovery.specs.Opening.{recover}
use Rattle.def_state.specs.Sound.{is_there}
use Rattle.strat_base.specs.Marks.{Marks}
use Rattle.strat_base.specs.Tree.{Parents}
use Rattle.strat_base.specs.declared.descriptors.ArrayDesc.{ArrayDesc}
use Rattle.strat_base.specs.declared.descriptors.LevelDesc.{LevelDesc}
use Rattle.strat_bulk.specs.Runs.{AreLawful}
use Rattle.strat_bulk.specs.Ending.{AreTold, EndsExport, EndsStanding, ExportHasCause, IsUnbegun, WritesPairs}
use Rattle.strat_cursor.specs.Looking.{NamesNoBlock, arrays_asked}
use Rattle.strat_io.specs.Streams.{Appends}
use Rattle.strat_level.specs.Levels.{desc_for}
use Rattle.strat_memory.specs.Held.{Held, IsConsistent, StandsWith, head_held}
use Rattle.strat_model.specs.Ended.{status_of}
use Rattle.strat_model.specs.Kept.{IsMap}
use Rattle.strat_model.specs.Pairs.{Pairs}
use Rattle.strat_model.specs.Step.{pairs_at}
use Rattle.strat_model.specs.Table.{Table}
use Rattle.strat_model.specs.declared.ended.Ended.{Ended}
use Rattle.strat_model.specs.declared.ended.Ended.TheVariants as ended
use Rattle.strat_open.specs.Causes.{ended_for}
use Rattle.strat_open.specs.Following.{IsOpenedAs}
use Rattle.strat_open.specs.declared.attach_fault.AttachFault.{AttachFault}
use Rattle.strat_open.specs.declared.attach_fault.AttachFault.TheVariants as fault
use Rattle.strat_loop.specs.Session.{EndHasCause}
use Rattle.strat_loop.specs.World.{world}
use Rattle.castle.specs.Exporting.{EndsExporting, ExportsVersion, FindsVersion, IsBadAt}
use Rattle.castle.proofs.CompleteLemmas.{finds_head}
use Rattle.strat_memory.specs.Memory.{has_version}

-- an opening that gave up so answered this
pub as_err : {T : Type 0} (e x : AttachFault) → e ≡ x → IsErrOf {T = T} {E = AttachFault} (Err e) x
as_err e x is = ap (λ (f : AttachFault). Err f) is

-- a sink that was given nothing
none_sent : (a : Option (List ℕ)) → Appends a a []
none_sent a = record { exposed = λ held is. is ∙ ap (λ (l : List ℕ). Some l) (sym (append-nil held)); hidden = λ none. none }

-- an opening that gave up ends a run so
gave_ends : (e : AttachFault) → EndsExporting (ended_for e)
gave_ends fault.NotAStore = tt
gave_ends fault.Device = tt
gave_ends (fault.Damaged block) = tt
gave_ends fault.NoMemory = tt

gave_writes : (e : AttachFault) (h : Option (List ℕ)) → WritesPairs (ended_for e) h h []
gave_writes fault.NotAStore h = none_sent h
gave_writes fault.Device h = none_sent h
gave_writes (fault.Damaged block) h = none_sent h
gave_writes fault.NoMemory h = none_sent h

gave_told : (e : AttachFault) (map : Pairs) → AreTold (ended_for e) [] map
gave_told fault.NotAStore map = (map, refl)
gave_told fault.Device map = (map, refl)
gave_told (fault.Damaged block) map = (map, refl)
gave_told fault.NoMemory map = (map, refl)

-- so it does not end
gave_other : (e : AttachFault) → (ended_for e ≡ ended.Done) ⊎ (ended_for e ≡ ended.Sink) ⊎ (ended_for e ≡ ended.UnknownVersion) ⊎ (ended_for e ≡ ended.Source) → ⊥
gave_other fault.NotAStore is = elim is [
  | inl x ↦ let y : ended.NotAStore ≡ ended.Done = x in absurd (cc)
  | inr (inl x) ↦ let y : ended.NotAStore ≡ ended.Sink = x in absurd (cc)
  | inr (inr (inl x)) ↦ let y : ended.NotAStore ≡ ended.UnknownVersion = x in absurd (cc)
  | inr (inr (inr x)) ↦ let y : ended.NotAStore ≡ ended.Source = x in absurd (cc)
]
gave_other fault.Device is = elim is [
  | inl x ↦ let y : ended.Device ≡ ended.Done = x in absurd (cc)
  | inr (inl x) ↦ let y : ended.Device ≡ ended.Sink = x in absurd (cc)
  | inr (inr (inl x)) ↦ let y : ended.Device ≡ ended.UnknownVersion = x in absurd (cc)
  | inr (inr (inr x)) ↦ let y : ended.Device ≡ ended.Source = x in absurd (cc)
]
gave_other (fault.Damaged block) is = elim is [
  | inl x ↦ let y : ended.Damaged block ≡ ended.Done = x in absurd (cc)
  | inr (inl x) ↦ let y : ended.Damaged block ≡ ended.Sink = x in absurd (cc)
  | inr (inr (inl x)) ↦ let y : ended.Damaged block ≡ ended.UnknownVersion = x in absurd (cc)
  | inr (inr (inr x)) ↦ let y : ended.Damaged block ≡ ended.Source = x in absurd (cc)
]
gave_other fault.NoMemory is = elim is [
  | inl x ↦ let y : ended.NoMemory ≡ ended.Done = x in absurd (cc)
  | inr (inl x) ↦ let y : ended.NoMemory ≡ ended.Sink = x in absurd (cc)
  | inr (inr (inl x)) ↦ let y : ended.NoMemory ≡ ended.UnknownVersion = x in absurd (cc)
  | inr (inr (inr x)) ↦ let y : ended.NoMemory ≡ ended.Source = x in absurd (cc)
]

-- which fault an end is of
none_of : (e : AttachFault) → ended_for e ≡ ended.NotAStore → e ≡ fault.NotAStore
none_of fault.NotAStore is = refl
none_of fault.Device is = let y : ended.Device ≡ ended.NotAStore = is in absurd (cc)
none_of (fault.Damaged block) is = let y : ended.Damaged block ≡ ended.NotAStore = is in absurd (cc)
none_of fault.NoMemory is = let y : ended.NoMemory ≡ ended.NotAStore = is in absurd (cc)

device_of : (e : AttachFault) → ended_for e ≡ ended.Device → e ≡ fault.Device
device_of fault.Device is = refl
device_of fault.NotAStore is = let y : ended.NotAStore ≡ ended.Device = is in absurd (cc)
device_of (fault.Damaged block) is = let y : ended.Damaged block ≡ ended.Device = is in absurd (cc)
device_of fault.NoMemory is = let y : ended.NoMemory ≡ ended.Device = is in absurd (cc)

damaged_of : (e : AttachFault) (b : ℕ) → ended_for e ≡ ended.Damaged b → e ≡ fault.Damaged b
damaged_of (fault.Damaged block) b is = let y : ended.Damaged block ≡ ended.Damaged b = is in let same : block ≡ b = cc in ap (λ (n : ℕ). fault.Damaged n) same
damaged_of fault.NotAStore b is = let y : ended.NotAStore ≡ ended.Damaged b = is in absurd (cc)
damaged_of fault.Device b is = let y : ended.Device ≡ ended.Damaged b = is in absurd (cc)
damaged_of fault.NoMemory b is = let y : ended.NoMemory ≡ ended.Damaged b = is in absurd (cc)

-- a run whose opening gave up
module _ (version : ℕ) (e : AttachFault) (left held : Option (List ℕ)) (source_faults sink_faults disk_old disk_new : ℕ) (old new : DiskView)
    (none : e ≡ fault.NotAStore → (f : Image) → old.content ≡ Some f → recover f ≡ Ok None)
    (damaged : (b : ℕ) → e ≡ fault.Damaged b → (f : Image) → old.content ≡ Some f → recover f ≡ Err b)
    (trail : (f : Image) → old.content ≡ Some f → EachShows old → (c : Image) → Since new old.moment c → ShowsOneOf old c)
    (device : e ≡ fault.Device → Rose disk_old disk_new) (calm : e ≢ fault.Device → disk_new ≡ disk_old) where
  gave_complete : (a : AttachFault) → e ≡ a → ¬ Rose disk_old disk_new → (f : Image) (t : Table) → old.content ≡ Some f → ShowsTable f t → (status_of (ended_for a) ≡ 0) ⊎ (status_of (ended_for a) ≡ 12) ⊎ (status_of (ended_for a) ≡ 8)
  gave_complete fault.NotAStore is none_rose f t exposed shows =
      let head = finds_head f t shows in
      let x : ◌≡◌ {A = Read (Option Head)} (Ok (Some head.0)) (Ok None) = sym head.1 ∙ none is f exposed in absurd (cc)
  gave_complete fault.Device is none_rose f t exposed shows = absurd (none_rose (device is))
  gave_complete (fault.Damaged block) is none_rose f t exposed shows =
      let head = finds_head f t shows in
      let x : ◌≡◌ {A = Read (Option Head)} (Ok (Some head.0)) (Err block) = sym head.1 ∙ damaged block is f exposed in absurd (cc)
  gave_complete fault.NoMemory is none_rose f t exposed shows = inr (inr refl)

  pub gave_up : (how : Ended) → how ≡ ended_for e → ExportsVersion version how (world left source_faults held sink_faults old disk_old) (world left source_faults held sink_faults new disk_new)
  gave_up how is =
      subst (λ (h : Ended). ExportsVersion version h (world left source_faults held sink_faults old disk_old) (world left source_faults held sink_faults new disk_new)) (sym is)
      (record {
        ends = gave_ends e;
        told = [];
        writes = gave_writes e held;
        lawful = tt;
        ordered = λ done. absurd (gave_other e (inl done));
        map = λ f t exposed shows. gave_told e (pairs_at t version);
        unknown = λ x. absurd (gave_other e (inr (inr (inl x))));
        known = λ x. absurd (elim x [
          | inl done ↦ gave_other e (inl done)
          | inr sink ↦ gave_other e (inr (inl sink))
        ]);
        none = λ x f exposed. none (none_of e x) f exposed;
        damaged = λ b x f exposed. inl (damaged b (damaged_of e b x) f exposed);
        left = trail;
        cause = record {
          source = λ x. absurd (gave_other e (inr (inr (inr x))));
          sink = λ x. absurd (gave_other e (inr (inl x)));
          device = λ x. device (device_of e x);
          source_same = λ _. refl;
          sink_same = λ _. refl;
          disk_same = λ other _. calm (λ x. other (ap ended_for x));
        };
        calm = λ other. calm (λ x. other (ap ended_for x));
        complete = λ rose f t exposed shows. gave_complete e refl rose.disk f t exposed shows;
      })

export_ends : (how : Ended) → EndsExport how → EndsExporting how
export_ends ended.Done ends = tt
export_ends ended.Device ends = tt
export_ends ended.Sink ends = tt
export_ends ended.NoMemory ends = tt
export_ends (ended.Damaged block) ends = tt
export_ends ended.UnknownVersion ends = tt
export_ends ended.NotAStore ends = absurd ends
export_ends ended.Usage ends = absurd ends
export_ends ended.FrameTooLong ends = absurd ends
export_ends ended.Truncated ends = absurd ends
export_ends ended.Source ends = absurd ends
export_ends ended.Budget ends = absurd ends
export_ends ended.Unsound ends = absurd ends

standing_ends : (how : Ended) → EndsStanding how → (status_of how ≡ 0) ⊎ (status_of how ≡ 12) ⊎ (status_of how ≡ 8)
standing_ends ended.Done ends = inl refl
standing_ends ended.UnknownVersion ends = inr (inl refl)
standing_ends ended.NoMemory ends = inr (inr refl)
standing_ends ended.Device ends = absurd ends
standing_ends ended.Sink ends = absurd ends
standing_ends (ended.Damaged block) ends = absurd ends
standing_ends ended.NotAStore ends = absurd ends
standing_ends ended.Usage ends = absurd ends
standing_ends ended.FrameTooLong ends = absurd ends
standing_ends ended.Truncated ends = absurd ends
standing_ends ended.Source ends = absurd ends
standing_ends ended.Budget ends = absurd ends
standing_ends ended.Unsound ends = absurd ends

-- a version that is not unknown is known
known_by : (b : Bool) (how : Ended) → (b ≡ false → how ≡ ended.UnknownVersion) → (how ≡ ended.Done) ⊎ (how ≡ ended.Sink) → b ≡ true
known_by true how unknown is = refl
known_by false how unknown (inl done) = let x : ended.Done ≡ ended.UnknownVersion = sym done ∙ unknown refl in absurd (cc)
known_by false how unknown (inr sink) = let x : ended.Sink ≡ ended.UnknownVersion = sym sink ∙ unknown refl in absurd (cc)

-- a run that opened the store, and exported the version
module _ (version : ℕ) (how : Ended) (left held_old held_new : Option (List ℕ)) (source_faults sink_old sink_new disk_old disk_mid disk_new : ℕ) (old mid new : DiskView) (s : Held)
    (opened : IsOpenedAs old mid s) (whole : IsConsistent s) (passes : Passes old mid) (same : disk_mid ≡ disk_old)
    (trail : (f : Image) → old.content ≡ Some f → EachShows old → (c : Image) → Since mid old.moment c → ShowsOneOf old c)
    (told : Pairs) (writes : WritesPairs how held_old held_new told) (lawful : AreLawful told) (are : (x : Contents) → StandsWith mid s x → AreTold how told (pairs_at (table_of (contents_state x)) version))
    (sorted : (x : Contents) → StandsWith mid s x → how ≡ ended.Done → IsMap (pairs_at (table_of (contents_state x)) version))
    (unknown : how ≡ ended.UnknownVersion → has_version s.memory version ≡ false) (only : has_version s.memory version ≡ false → how ≡ ended.UnknownVersion)
    (ends : EndsExport how) (found : (x : Contents) → StandsWith mid s x → ¬ Rose disk_mid disk_new → ¬ Rose sink_old sink_new → EndsStanding how)
    (damaged : (b : ℕ) → how ≡ ended.Damaged b → NamesNoBlock mid.content (arrays_asked s.memory.parents s.levels version) b)
    (reads : OnlyReads mid new) (cause : ExportHasCause how disk_mid disk_new sink_old sink_new) where
  finds : (b : Bool) → has_version s.memory version ≡ b → FindsVersion old version b
  finds b is f exposed = (
    head_held s,
    opened.found f exposed,
    subst (λ (ms : Marks). is_there (head_versions (head_held s)) ms version ≡ b) whole.memory.marks
        (subst (λ (ps : Parents). is_there ps s.memory.marks version ≡ b) whole.memory.parents is),
  )

  named_here : (a : ArrayDesc) → Contains (arrays_asked s.memory.parents s.levels version) a → Contains (filter_map (λ level. desc_for (head_versions (head_held s)) level version) s.chained.manifest.levels) a
  named_here a of =
      subst (λ (ls : List LevelDesc). Contains (filter_map (λ level. desc_for (head_versions (head_held s)) level version) ls) a) whole.placed.listed_are
      (subst (λ (ps : Parents). Contains (arrays_asked ps s.levels version) a) whole.memory.parents of)

  bad_here : (b : ℕ) → NamesNoBlock mid.content (arrays_asked s.memory.parents s.levels version) b → IsBadAt (head_held s) version new b
  bad_here b is = record {
    array = is.array;
    named = named_here is.array is.one;
    one = is.none.0;
    bad = λ f exposed. is.none.1 f (sym reads.same ∙ exposed);
  }

  left_so : (f : Image) → old.content ≡ Some f → EachShows old → (c : Image) → Since new old.moment c → ShowsOneOf old c
  left_so f exposed each c since = elim (since_split mid new old.moment c reads.time since) [
    | inl before ↦ trail f exposed each c before
    | inr after ↦ trail f exposed each c (now_since_start old mid c passes (reads.images.each c after))
  ]

  caused : EndHasCause how (world left source_faults held_old sink_old old disk_old) (world left source_faults held_new sink_new new disk_new)
  caused = record {
    source = λ x. absurd (subst EndsExport x ends);
    sink = cause.sink;
    device = λ x. subst (λ (n : ℕ). Rose n disk_new) same (cause.device x);
    source_same = λ _. refl;
    sink_same = cause.sink_same;
    disk_same = λ other _. cause.disk_same other ∙ same;
  }

  pub exported_so : ExportsVersion version how (world left source_faults held_old sink_old old disk_old) (world left source_faults held_new sink_new new disk_new)
  exported_so = record {
    ends = export_ends how ends;
    told = told;
    writes = writes;
    lawful = lawful;
    ordered = λ done f t exposed shows. let at = opened.stands f t exposed shows in subst (λ (u : Table). IsMap (pairs_at u version)) at.2 (sorted at.0 at.1 done);
    map = λ f t exposed shows. let at = opened.stands f t exposed shows in subst (λ (u : Table). AreTold how told (pairs_at u version)) at.2 (are at.0 at.1);
    unknown = λ x. finds false (unknown x);
    known = λ x. finds true (known_by (has_version s.memory version) how only x);
    none = λ x. absurd (subst EndsExport x ends);
    damaged = λ b x f exposed. inr (head_held s, opened.found f exposed, bad_here b (damaged b x));
    left = left_so;
    cause = caused;
    calm = λ other. cause.disk_same other ∙ same;
    complete = λ rose f t exposed shows.
        let at = opened.stands f t exposed shows in standing_ends how (found at.0 at.1 (λ x. rose.disk (subst (λ (n : ℕ). Rose n disk_new) same x)) rose.sink);
  }

exporting_ends_of : (how : Ended) → EndsExporting how → (status_of how ≡ 0) ⊎ (status_of how ≡ 2) ⊎ (status_of how ≡ 5) ⊎ (status_of how ≡ 7) ⊎ (status_of how ≡ 8) ⊎ (status_of how ≡ 9) ⊎ (status_of how ≡ 12)
exporting_ends_of ended.Done ends = inl refl
exporting_ends_of ended.NotAStore ends = inr (inl refl)
exporting_ends_of ended.Device ends = inr (inr (inl refl))
exporting_ends_of ended.Sink ends = inr (inr (inr (inl refl)))
exporting_ends_of ended.NoMemory ends = inr (inr (inr (inr (inl refl))))
exporting_ends_of (ended.Damaged block) ends = inr (inr (inr (inr (inr (inl refl)))))
exporting_ends_of ended.UnknownVersion ends = inr (inr (inr (inr (inr (inr refl)))))
exporting_ends_of ended.Usage ends = absurd ends
exporting_ends_of ended.FrameTooLong ends = absurd ends
exporting_ends_of ended.Truncated ends = absurd ends
exporting_ends_of ended.Source ends = absurd ends
exporting_ends_of ended.Budget ends = absurd ends
exporting_ends_of ended.Unsound ends = absurd ends

-- with which status it ends
pub exporting_ends : (status : ℕ) (how : Ended) → status ≡ status_of how → EndsExporting how → (status ≡ 0) ⊎ (status ≡ 2) ⊎ (status ≡ 5) ⊎ (status ≡ 7) ⊎ (status ≡ 8) ⊎ (status ≡ 9) ⊎ (status ≡ 12)
exporting_ends status how is ends = subst (λ (n : ℕ). (n ≡ 0) ⊎ (n ≡ 2) ⊎ (n ≡ 5) ⊎ (n ≡ 7) ⊎ (n ≡ 8) ⊎ (n ≡ 9) ⊎ (n ≡ 12)) (sym is) (exporting_ends_of how ends)

-- it wrote nothing where it ends so
pub export_unbegun : (how : Ended) → EndsExport how → (status_of how ≡ 2) ⊎ (status_of how ≡ 8) ⊎ (status_of how ≡ 12) → IsUnbegun how
export_unbegun ended.UnknownVersion ends is = tt
export_unbegun ended.NoMemory ends is = tt
export_unbegun ended.Done ends is = absurd (omega (arith, is))
export_unbegun ended.Device ends is = absurd (omega (arith, is))
export_unbegun ended.Sink ends is = absurd (omega (arith, is))
export_unbegun (ended.Damaged block) ends is = absurd (omega (arith, is))
export_unbegun ended.NotAStore ends is = absurd ends
export_unbegun ended.Usage ends is = absurd ends
export_unbegun ended.FrameTooLong ends is = absurd ends
export_unbegun ended.Truncated ends is = absurd ends
export_unbegun ended.Source ends is = absurd ends
export_unbegun ended.Budget ends is = absurd ends
export_unbegun ended.Unsound ends is = absurd ends
