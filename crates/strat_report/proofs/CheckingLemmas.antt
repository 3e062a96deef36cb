-- What a check wrote, by its verdict.
use Rattle.std.proofs.Common.{◌≡◌, ◌≢◌, ◌<◌, ◌≤◌, ◌⊎◌, ℕ, true, false, List, [], ◌∷◌, length, take, Option, Some, None, Ok, Err, refl, sym, ap, ◌∙◌, subst, inl, inr, append-nil, true≢false, arith}
use Rattle.def_crash.specs.Faults.{Rose}
use Rattle.def_bytes.specs.Damage.{Read}
use Rattle.def_state.specs.Breach.{Breach}
use Rattle.strat_io.specs.Streams.{Appends}
use Rattle.strat_model.specs.declared.ended.Ended.{Ended}
use Rattle.strat_model.specs.declared.ended.Ended.TheVariants as ended
use Rattle.strat_check.specs.Verdicts.{verdict_for, VerdictHasCause}
use Rattle.strat_check.specs.declared.verdict.Verdict.{Verdict}
use Rattle.strat_check.specs.declared.verdict.Verdict.TheVariants as verdict
use Rattle.strat_report.specs.Checking.{check_text, end_of_check, says_nothing, verdict_text, verdict_end, EndsCheck, SaysCheck, WritesCheck}
use Rattle.strat_report.specs.Reporting.{AppendsFront, IsSilent, ReportHasCause}

-- what is said of the verdict for what a check finds, and how the check ends
said_for : (found : Read (Option (List Breach))) → verdict_text (verdict_for found) ≡ check_text found
said_for (Ok (Some [])) = refl
said_for (Ok (Some (b ∷ breaches))) = refl
said_for (Ok None) = refl
said_for (Err block) = refl

ends_for : (found : Read (Option (List Breach))) → verdict_end (verdict_for found) ≡ end_of_check found
ends_for (Ok (Some [])) = refl
ends_for (Ok (Some (b ∷ breaches))) = refl
ends_for (Ok None) = refl
ends_for (Err block) = refl

-- a check with a verdict ends as one may
pub ends_check : (v : Verdict) → EndsCheck (verdict_end v)
ends_check verdict.Sound = tt
ends_check (verdict.Unsound rule level array) = tt
ends_check (verdict.Damaged block) = tt
ends_check verdict.NotAStore = tt
ends_check verdict.Device = tt
ends_check verdict.NoMemory = tt

-- a verdict of which nothing is said, and one of which something is
pub quiet_text : (v : Verdict) → says_nothing v ≡ true → verdict_text v ≡ []
quiet_text verdict.Sound quiet = absurd (true≢false (sym quiet))
quiet_text (verdict.Unsound rule level array) quiet = absurd (true≢false (sym quiet))
quiet_text (verdict.Damaged block) quiet = absurd (true≢false (sym quiet))
quiet_text verdict.NotAStore quiet = refl
quiet_text verdict.Device quiet = refl
quiet_text verdict.NoMemory quiet = refl

pub told_aloud : (v : Verdict) → says_nothing v ≡ false → IsSilent (verdict_end v) → ⊥
told_aloud verdict.Sound told silent = silent
told_aloud (verdict.Unsound rule level array) told silent = silent
told_aloud (verdict.Damaged block) told silent = silent
told_aloud verdict.NotAStore told silent = true≢false told
told_aloud verdict.Device told silent = true≢false told
told_aloud verdict.NoMemory told silent = true≢false told

-- which verdict blames the device, and how a check with it ends
pub told_calm : (v : Verdict) → says_nothing v ≡ false → v ≢ verdict.Device
told_calm v told is = true≢false (sym (ap says_nothing is) ∙ told)

pub device_end : (v : Verdict) → verdict_end v ≡ ended.Device → v ≡ verdict.Device
device_end verdict.Device is = refl
device_end verdict.Sound is = absurd (let e : ended.Done ≡ ended.Device = is in cc)
device_end (verdict.Unsound rule level array) is = absurd (let e : ended.Unsound ≡ ended.Device = is in cc)
device_end (verdict.Damaged block) is = absurd (let e : ended.Damaged block ≡ ended.Device = is in cc)
device_end verdict.NotAStore is = absurd (let e : ended.NotAStore ≡ ended.Device = is in cc)
device_end verdict.NoMemory is = absurd (let e : ended.NoMemory ≡ ended.Device = is in cc)

pub no_sink_end : (v : Verdict) → verdict_end v ≢ ended.Sink
no_sink_end verdict.Device is = let e : ended.Device ≡ ended.Sink = is in cc
no_sink_end verdict.Sound is = let e : ended.Done ≡ ended.Sink = is in cc
no_sink_end (verdict.Unsound rule level array) is = let e : ended.Unsound ≡ ended.Sink = is in cc
no_sink_end (verdict.Damaged block) is = let e : ended.Damaged block ≡ ended.Sink = is in cc
no_sink_end verdict.NotAStore is = let e : ended.NotAStore ≡ ended.Sink = is in cc
no_sink_end verdict.NoMemory is = let e : ended.NoMemory ≡ ended.Sink = is in cc

-- the counts of a check that wrote all that it had to say, and of one that the sink cut off
module _ (v : Verdict) (disk_before disk_now : ℕ) (cause : VerdictHasCause v disk_before disk_now) where
  pub end_cause : (sink : ℕ) → ReportHasCause (verdict_end v) disk_before disk_now sink sink
  end_cause sink = record {
    device = λ is. cause.device (device_end v is);
    sink = λ is. absurd (no_sink_end v is);
    disk_same = λ no. cause.other (λ is. no (ap verdict_end is));
    sink_same = λ no. refl;
    disk_later = cause.later;
    sink_later = omega arith;
  }

  pub memory_cause : v ≢ verdict.Device → (sink : ℕ) → ReportHasCause ended.NoMemory disk_before disk_now sink sink
  memory_cause calm sink = record {
    device = λ is. absurd (let e : ended.NoMemory ≡ ended.Device = is in cc);
    sink = λ is. absurd (let e : ended.NoMemory ≡ ended.Sink = is in cc);
    disk_same = λ no. cause.other calm;
    sink_same = λ no. refl;
    disk_later = cause.later;
    sink_later = omega arith;
  }

  pub sink_cause : v ≢ verdict.Device → (sink_before sink_now : ℕ) → Rose sink_before sink_now → sink_before ≤ sink_now → ReportHasCause ended.Sink disk_before disk_now sink_before sink_now
  sink_cause calm sink_before sink_now rose later = record {
    device = λ is. absurd (let e : ended.Sink ≡ ended.Device = is in cc);
    sink = λ is. rose;
    disk_same = λ no. cause.other calm;
    sink_same = λ no. absurd (no refl);
    disk_later = cause.later;
    sink_later = later;
  }

-- a sink that took nothing holds what it held
took_nothing : (before now : Option (List ℕ)) → Appends before now [] → now ≡ before
took_nothing None now appends = appends.hidden refl
took_nothing (Some held) now appends = appends.exposed held refl ∙ ap (λ (x : List ℕ). Some x) (append-nil held)

pub appends_nothing : (held : Option (List ℕ)) → Appends held held []
appends_nothing held = record {
  exposed = λ bytes e. e ∙ ap (λ (x : List ℕ). Some x) (sym (append-nil bytes));
  hidden = λ e. e;
}

-- a verdict is that for what a check finds, or memory or the device gave out
abbrev pub IsFor : Read (Option (List Breach)) → Verdict → Type 0
IsFor found v = (v ≡ verdict_for found) ⊎ (v ≡ verdict.NoMemory) ⊎ (v ≡ verdict.Device)

module _ (found : Read (Option (List Breach))) (v : Verdict) (before now : Option (List ℕ)) where
  -- all that is said of the verdict was written
  pub wrote_line : (line : List ℕ) → line ≡ verdict_text v → IsFor found v → Appends before now line → WritesCheck found (verdict_end v) before now
  wrote_line line spelled (inl is) appends =
      let same : line ≡ check_text found = spelled ∙ ap verdict_text is ∙ said_for found in
      inl (inl (ap verdict_end is ∙ ends_for found, subst (Appends before now) same appends))
  wrote_line line spelled (inr (inl is)) appends =
      let none : line ≡ [] = spelled ∙ ap verdict_text is in
      inl (inr (ap verdict_end is, took_nothing before now (subst (Appends before now) none appends)))
  wrote_line line spelled (inr (inr is)) appends =
      let none : line ≡ [] = spelled ∙ ap verdict_text is in
      inr (inr (ap verdict_end is, took_nothing before now (subst (Appends before now) none appends)))

  -- the sink took the front of it
  pub wrote_front : (line : List ℕ) (n : ℕ) → line ≡ verdict_text v → IsFor found v → n < length line → Appends before now (take n line) → WritesCheck found ended.Sink before now
  wrote_front line n spelled (inl is) less appends =
      let same : line ≡ check_text found = spelled ∙ ap verdict_text is ∙ said_for found in
      inr (inl (refl, subst (AppendsFront before now) same (n, less, appends)))
  wrote_front line n spelled (inr (inl is)) less appends =
      let none : line ≡ [] = spelled ∙ ap verdict_text is in
      absurd (let short : n < length {A = ℕ} [] = subst (λ (x : List ℕ). n < length x) none less in omega (arith, short))
  wrote_front line n spelled (inr (inr is)) less appends =
      let none : line ≡ [] = spelled ∙ ap verdict_text is in
      absurd (let short : n < length {A = ℕ} [] = subst (λ (x : List ℕ). n < length x) none less in omega (arith, short))

-- if neither the device nor the sink failed, a check said all that it had to say
pub says_all : (found : Read (Option (List Breach))) (how : Ended) (before now : Option (List ℕ)) → WritesCheck found how before now → how ≢ ended.Device → how ≢ ended.Sink → SaysCheck found how before now
says_all found how before now (inl says) calm sent = says
says_all found how before now (inr (inl front)) calm sent = absurd (sent front.0)
says_all found how before now (inr (inr gave)) calm sent = absurd (calm gave.0)
