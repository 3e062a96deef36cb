-- A serving run whose opening gave up, and what an end says of the opening.
use Rattle.std.proofs.Common.{◌≡◌, ◌≢◌, ℕ, List, Some, refl, sym, ap, subst, ◌∙◌, inl, inr}
use Rattle.std.proofs.lemmas.Bool.{cases_eq}
use Rattle.std.specs.Prelude.{Option, None, Ok, Err}
use Rattle.strat_base.specs.declared.failures.Fault.{Fault}
use Rattle.strat_base.specs.declared.failures.Fault.TheVariants as broken
use Rattle.def_crash.specs.Faults.{Rose}
use Rattle.def_crash.specs.Image.{Image}
use Rattle.def_crash.specs.Moments.{DiskView}
use Rattle.def_bytes.specs.Damage.{Read, and_then}
use Rattle.def_bytes.specs.SuperBlock.{Super, newest_in}
use Rattle.def_recovery.specs.Head.{Head}
use Rattle.def_recovery.specs.Opening.{recover, recover_head, recover_slot}
use Rattle.strat_model.specs.Faults.{broken_by}
use Rattle.strat_model.specs.declared.ended.Ended.{Ended}
use Rattle.strat_model.specs.declared.ended.Ended.TheVariants as ended
use Rattle.strat_open.specs.declared.attach_fault.AttachFault.{AttachFault}
use Rattle.strat_open.specs.declared.attach_fault.AttachFault.TheVariants as fault
use Rattle.strat_open.specs.Causes.{ended_for}
use Rattle.strat_open.specs.Following.{IsUnchanged, LeavesOpening}
use Rattle.strat_loop.specs.Pending.{SendsAtEnd}
use Rattle.strat_loop.specs.Session.{IsGivenUp, GaveUp, RefusesFor, EndHasCause, EndsFor, IsEarlyEnd}
use Rattle.strat_loop.specs.Speech.{Speech}
use Rattle.strat_loop.specs.Spoken.{ServedBy, session_of}
use Rattle.strat_loop.specs.World.{World}

-- an opening that gave up ends a run so
ends_given_up : (f : AttachFault) → IsGivenUp (ended_for f)
ends_given_up fault.NotAStore = tt
ends_given_up fault.Device = tt
ends_given_up (fault.Damaged block) = tt
ends_given_up fault.NoMemory = tt

-- only the device's fault ends a run so
device_is : (f : AttachFault) → ended_for f ≡ ended.Device → f ≡ fault.Device
device_is fault.NotAStore e = absurd (let x : ended.NotAStore ≡ ended.Device = e in cc)
device_is fault.Device e = refl
device_is (fault.Damaged block) e = absurd (let x : ended.Damaged block ≡ ended.Device = e in cc)
device_is fault.NoMemory e = absurd (let x : ended.NoMemory ≡ ended.Device = e in cc)

-- and only a damaged block ends it so
damaged_is : (f : AttachFault) (b : ℕ) → ended_for f ≡ ended.Damaged b → f ≡ fault.Damaged b
damaged_is fault.NotAStore b e = absurd (let x : ended.NotAStore ≡ ended.Damaged b = e in cc)
damaged_is fault.Device b e = absurd (let x : ended.Device ≡ ended.Damaged b = e in cc)
damaged_is (fault.Damaged block) b e = let x : ended.Damaged block ≡ ended.Damaged b = e in let same : block ≡ b = cc in ap (λ (n : ℕ). fault.Damaged n) same
damaged_is fault.NoMemory b e = absurd (let x : ended.NoMemory ≡ ended.Damaged b = e in cc)

-- and only want of a store
none_is : (f : AttachFault) → ended_for f ≡ ended.NotAStore → f ≡ fault.NotAStore
none_is fault.NotAStore e = refl
none_is fault.Device e = absurd (let x : ended.Device ≡ ended.NotAStore = e in cc)
none_is (fault.Damaged block) e = absurd (let x : ended.Damaged block ≡ ended.NotAStore = e in cc)
none_is fault.NoMemory e = absurd (let x : ended.NoMemory ≡ ended.NotAStore = e in cc)

-- where recovery finds no store no slot is open
no_slot : (f : Image) → recover f ≡ Ok None → newest_in f ≡ Ok None
no_slot f e = go (newest_in f) refl
  where
    head : (r : Read Head) → and_then r (λ h. Ok (Some h)) ≡ Ok None → ⊥
    head (Ok h) e = let x : ◌≡◌ {A = Read (Option Head)} (Ok (Some h)) (Ok None) = e in cc
    head (Err b) e = let x : ◌≡◌ {A = Read (Option Head)} (Err b) (Ok None) = e in cc

    go : (r : Read (Option (ℕ × Super))) → newest_in f ≡ r → newest_in f ≡ Ok None
    go (Ok None) is = is
    go (Ok (Some slot)) is = absurd (head (recover_head f slot.1) (ap (λ (r : Read (Option (ℕ × Super))). and_then r (recover_slot f)) (sym is) ∙ e))
    go (Err b) is = absurd (let x : ◌≡◌ {A = Read (Option Head)} (Err b) (Ok None) = ap (λ (r : Read (Option (ℕ × Super))). and_then r (recover_slot f)) (sym is) ∙ e in cc)

-- nothing was read or sent, and nothing became of the disk but what an opening may make of it
pub gave_up : (how : Ended) (f : AttachFault) (before : World) (disk : DiskView) (faults : ℕ) → how ≡ ended_for f
    → (f ≡ fault.Device → (g : Image) → before.disk.content ≡ Some g → LeavesOpening before.disk disk g)
    → (f ≢ fault.Device → IsUnchanged before.disk disk)
    → ((b : ℕ) → f ≡ fault.Damaged b → (g : Image) → before.disk.content ≡ Some g → recover g ≡ Err b)
    → GaveUp how before (record before { disk = disk; disk_faults = faults })
gave_up how f before disk faults is device kept damaged = record {
  ends = subst IsGivenUp (sym is) (ends_given_up f);
  source = refl;
  sink = refl;
  kept = λ other. kept (λ device. other (is ∙ ap ended_for device));
  failed = λ fails. device (device_is f (sym is ∙ fails));
  damaged = λ b e. damaged b (damaged_is f b (sym is ∙ e));
}

-- and what the disk's bytes say of that end
pub gave_up_for : (how : Ended) (f : AttachFault) (before now : DiskView) → how ≡ ended_for f
    → (f ≡ fault.NotAStore → (g : Image) → before.content ≡ Some g → recover g ≡ Ok None)
    → ((b : ℕ) → f ≡ fault.Damaged b → (g : Image) → before.content ≡ Some g → recover g ≡ Err b) → RefusesFor how before now
gave_up_for how f before now is none damaged = record {
  none = λ e g exposed. no_slot g (none (none_is f (sym is ∙ e)) g exposed);
  damaged = λ b e g exposed. inl (damaged b (damaged_is f b (sym is ∙ e)) g exposed);
}

-- what the disk's bytes say where a run that opened the store found a damaged block
pub served_refuses : (speech : Speech) (budget : ℕ) (how : Ended) (before now : World) → ServedBy speech budget how before now → RefusesFor how before.disk now.disk
served_refuses speech budget how before now served = record {
  none = λ e. absurd (subst (λ (x : Ended). EndsFor x budget (session_of served.sitting) now.left) e served.ends);
  damaged = λ b e f exposed. inr (served.damaged b (subst (λ (x : Ended). EndsFor x budget (session_of served.sitting) now.left) e served.ends));
}

-- such a run did not end early
pub served_late : (speech : Speech) (budget : ℕ) (how : Ended) (before now : World) → ServedBy speech budget how before now → IsEarlyEnd how before.disk → ⊥
served_late speech budget ended.NotAStore before now served early = served.ends
served_late speech budget ended.NoMemory before now served early = served.ends
served_late speech budget (ended.Damaged block) before now served early =
    let x : ◌≡◌ {A = Read (Option Head)} (Ok (Some served.head)) (Err early.block) = sym (served.found early.content early.exposed) ∙ early.damaged in cc
served_late speech budget ended.Done before now served early = early
served_late speech budget ended.Usage before now served early = early
served_late speech budget ended.FrameTooLong before now served early = early
served_late speech budget ended.Truncated before now served early = early
served_late speech budget ended.Device before now served early = early
served_late speech budget ended.Source before now served early = early
served_late speech budget ended.Sink before now served early = early
served_late speech budget ended.Budget before now served early = early
served_late speech budget ended.Unsound before now served early = early
served_late speech budget ended.UnknownVersion before now served early = early

-- its end has its cause since before the opening
pub caused_since : (how : Ended) (before mid now : World) → mid.source_faults ≡ before.source_faults → mid.sink_faults ≡ before.sink_faults → mid.disk_faults ≡ before.disk_faults → EndHasCause how mid now → EndHasCause how before now
caused_since how before mid now source sink disk cause = record {
  source = λ e. subst (λ (n : ℕ). Rose n now.source_faults) source (cause.source e);
  sink = λ e. subst (λ (n : ℕ). Rose n now.sink_faults) sink (cause.sink e);
  device = λ e. subst (λ (n : ℕ). Rose n now.disk_faults) disk (cause.device e);
  source_same = λ other. cause.source_same other ∙ source;
  sink_same = λ other. cause.sink_same other ∙ sink;
  disk_same = λ other and. cause.disk_same other and ∙ disk;
}

-- a run that ended with its input has no cause
pub caused_by_none : (how : Ended) (held : ℕ) (before now : World) → (held ≡ 0 → how ≡ ended.Done) → (held ≢ 0 → how ≡ ended.Truncated)
    → now.source_faults ≡ before.source_faults → now.sink_faults ≡ before.sink_faults → now.disk_faults ≡ before.disk_faults → EndHasCause how before now
caused_by_none how held before now done truncated source sink disk = elim (cases_eq held 0) [
  | inl none ↦ let is : how ≡ ended.Done = done none in record {
    source = λ e. absurd (let x : ended.Done ≡ ended.Source = sym is ∙ e in cc);
    sink = λ e. absurd (let x : ended.Done ≡ ended.Sink = sym is ∙ e in cc);
    device = λ e. absurd (let x : ended.Done ≡ ended.Device = sym is ∙ e in cc);
    source_same = λ _. source;
    sink_same = λ _. sink;
    disk_same = λ _ _. disk;
  }
  | inr some ↦ let is : how ≡ ended.Truncated = truncated some in record {
    source = λ e. absurd (let x : ended.Truncated ≡ ended.Source = sym is ∙ e in cc);
    sink = λ e. absurd (let x : ended.Truncated ≡ ended.Sink = sym is ∙ e in cc);
    device = λ e. absurd (let x : ended.Truncated ≡ ended.Device = sym is ∙ e in cc);
    source_same = λ _. source;
    sink_same = λ _. sink;
    disk_same = λ _ _. disk;
  }
]

-- and its cause is the device's alone
pub caused_by_fault : (how : Ended) (f : Fault) (before now : World) → how ≡ broken_by f → (f ≡ broken.Device → Rose before.disk_faults now.disk_faults)
    → (f ≢ broken.Device → now.disk_faults ≡ before.disk_faults) → now.source_faults ≡ before.source_faults → now.sink_faults ≡ before.sink_faults → EndHasCause how before now
caused_by_fault how broken.Device before now is rose same source sink = record {
  source = λ e. absurd (let x : ended.Device ≡ ended.Source = sym is ∙ e in cc);
  sink = λ e. absurd (let x : ended.Device ≡ ended.Sink = sym is ∙ e in cc);
  device = λ _. rose refl;
  source_same = λ _. source;
  sink_same = λ _. sink;
  disk_same = λ other. absurd (other is);
}
caused_by_fault how (broken.Damaged block) before now is rose same source sink = record {
  source = λ e. absurd (let x : ended.Damaged block ≡ ended.Source = sym is ∙ e in cc);
  sink = λ e. absurd (let x : ended.Damaged block ≡ ended.Sink = sym is ∙ e in cc);
  device = λ e. absurd (let x : ended.Damaged block ≡ ended.Device = sym is ∙ e in cc);
  source_same = λ _. source;
  sink_same = λ _. sink;
  disk_same = λ _ _. same (λ e. let x : broken.Damaged block ≡ broken.Device = e in cc);
}

-- or it is the sink's, where the disk may have failed too
pub caused_by_sink : (how : Ended) (before now : World) → how ≡ ended.Sink → Rose before.sink_faults now.sink_faults → now.source_faults ≡ before.source_faults → EndHasCause how before now
caused_by_sink how before now is rose source = record {
  source = λ e. absurd (let x : ended.Sink ≡ ended.Source = sym is ∙ e in cc);
  sink = λ _. rose;
  device = λ e. absurd (let x : ended.Sink ≡ ended.Device = sym is ∙ e in cc);
  source_same = λ _. source;
  sink_same = λ other. absurd (other is);
  disk_same = λ _ other. absurd (other is);
}

-- a run that was to end for a fault ended for it, or for the sink's, at the pending replies
pub caused_at_end : (how result : Ended) (f : Fault) (before now : World) (mid : Option (List ℕ)) (was : ℕ) (bytes : List ℕ) → how ≡ broken_by f → (f ≡ broken.Device → Rose before.disk_faults now.disk_faults)
    → (f ≢ broken.Device → now.disk_faults ≡ before.disk_faults) → now.source_faults ≡ before.source_faults → was ≡ before.sink_faults
    → SendsAtEnd how result mid now.held was now.sink_faults bytes → EndHasCause result before now
caused_at_end how result f before now mid was bytes is rose same source sink (inl all) =
    caused_by_fault result f before now (all.0 ∙ is) rose same source (all.2 ∙ sink)
caused_at_end how result f before now mid was bytes is rose same source sink (inr cut) =
    caused_by_sink result before now cut.0 (subst (λ (n : ℕ). Rose n now.sink_faults) sink cut.2) source

-- and one that ended at a frame that is too long has that cause at most
pub caused_at_long : (result : Ended) (before now : World) (mid : Option (List ℕ)) (was : ℕ) (bytes : List ℕ) → now.source_faults ≡ before.source_faults → was ≡ before.sink_faults → now.disk_faults ≡ before.disk_faults
    → SendsAtEnd ended.FrameTooLong result mid now.held was now.sink_faults bytes → EndHasCause result before now
caused_at_long result before now mid was bytes source sink disk (inl all) =
    let is : result ≡ ended.FrameTooLong = all.0 in
    record {
      source = λ e. absurd (let x : ended.FrameTooLong ≡ ended.Source = sym is ∙ e in cc);
      sink = λ e. absurd (let x : ended.FrameTooLong ≡ ended.Sink = sym is ∙ e in cc);
      device = λ e. absurd (let x : ended.FrameTooLong ≡ ended.Device = sym is ∙ e in cc);
      source_same = λ _. source;
      sink_same = λ _. all.2 ∙ sink;
      disk_same = λ _ _. disk;
    }
caused_at_long result before now mid was bytes source sink disk (inr cut) = caused_by_sink result before now cut.0 (subst (λ (n : ℕ). Rose n now.sink_faults) sink cut.2) source
