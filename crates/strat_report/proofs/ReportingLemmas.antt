-- How a report ends, and what it wrote then.
use Rattle.std.proofs.Common.{◌≡◌, ◌≢◌, ◌<◌, ℕ, List, [], length, take, Option, Some, None, Ok, Err, refl, sym, ap, ◌∙◌, subst, inl, inr, append-nil}
use Rattle.def_crash.specs.Image.{Image}
use Rattle.def_crash.specs.Moments.{DiskView, Exposes}
use Rattle.def_bytes.specs.Damage.{Read}
use Rattle.strat_io.specs.Streams.{Appends}
use Rattle.strat_model.specs.declared.ended.Ended.{Ended}
use Rattle.strat_model.specs.declared.ended.Ended.TheVariants as ended
use Rattle.def_recovery.specs.Head.{Head}
use Rattle.def_recovery.specs.Opening.{recover}
use Rattle.strat_report.specs.Reporting.{end_for, RecoversAs, AppendsFront, GivesUp, IsSaid, WritesReport, IsComplete}

-- nothing was written, as far as a sink tells
appends_nothing : (before now : Option (List ℕ)) → now ≡ before → Appends before now []
appends_nothing before now same = record {
  exposed = λ held e. same ∙ e ∙ ap (λ (x : List ℕ). Some x) (sym (append-nil held));
  hidden = λ e. same ∙ e;
}

module _ (say : Read (Option Head) → List ℕ) (disk : DiskView) where
  -- what is to be said of a store, and of a damaged block
  pub said_store : (head : Head) (bytes : List ℕ) → RecoversAs disk (Ok (Some head)) → bytes ≡ say (Ok (Some head)) → IsSaid say disk bytes ended.Done
  said_store head bytes finds spelled =
      record { found = Ok (Some head); finds = finds; some = λ e. absurd (cc); spelled = spelled; ends = refl }

  pub said_damage : (block : ℕ) (bytes : List ℕ) → RecoversAs disk (Err block) → bytes ≡ say (Err block) → IsSaid say disk bytes (ended.Damaged block)
  said_damage block bytes finds spelled =
      record { found = Err block; finds = finds; some = λ e. absurd (cc); spelled = spelled; ends = refl }

  -- all that was to be said was written
  pub wrote_all : (bytes : List ℕ) (how : Ended) (before now : Option (List ℕ)) → IsSaid say disk bytes how → Appends before now bytes → WritesReport say disk how before now
  wrote_all bytes how before now said appends = by_found said.found said.finds said.some said.spelled said.ends
    where
      by_found : (found : Read (Option Head)) → RecoversAs disk found → found ≢ Ok None → bytes ≡ say found → how ≡ end_for found → WritesReport say disk how before now
      by_found (Ok (Some head)) finds some spelled ends =
          subst (λ (h : Ended). WritesReport say disk h before now) (sym ends) (head, finds, subst (Appends before now) spelled appends)
      by_found (Ok None) finds some spelled ends = absurd (some refl)
      by_found (Err block) finds some spelled ends =
          subst (λ (h : Ended). WritesReport say disk h before now) (sym ends) (finds, subst (Appends before now) spelled appends)

  -- the sink failed on the way
  pub wrote_front : (bytes : List ℕ) (how : Ended) (before now : Option (List ℕ)) → IsSaid say disk bytes how
      → (n : ℕ) × (n < length bytes) × Appends before now (take n bytes) → WritesReport say disk ended.Sink before now
  wrote_front bytes how before now said front = (said.found, said.finds, subst (AppendsFront before now) said.spelled front)

  -- a report that gave up wrote nothing
  pub wrote_nothing : (how : Ended) (held : Option (List ℕ)) → say (Ok None) ≡ [] → GivesUp disk how → WritesReport say disk how held held
  wrote_nothing ended.NotAStore held none gives = (gives, subst (Appends held held) (sym none) (appends_nothing held held refl))
  wrote_nothing ended.Device held none gives = refl
  wrote_nothing ended.NoMemory held none gives = refl
  wrote_nothing ended.Done held none gives = absurd gives
  wrote_nothing ended.Usage held none gives = absurd gives
  wrote_nothing ended.FrameTooLong held none gives = absurd gives
  wrote_nothing ended.Truncated held none gives = absurd gives
  wrote_nothing ended.Source held none gives = absurd gives
  wrote_nothing ended.Sink held none gives = absurd gives
  wrote_nothing (ended.Damaged block) held none gives = absurd gives
  wrote_nothing ended.Budget held none gives = absurd gives
  wrote_nothing ended.Unsound held none gives = absurd gives
  wrote_nothing ended.UnknownVersion held none gives = absurd gives

  -- what was written is complete, unless the sink or the disk failed
  pub completes : (how : Ended) (before now : Option (List ℕ)) → WritesReport say disk how before now → how ≢ ended.Device → how ≢ ended.Sink
      → (f : Image) → Exposes disk f → IsComplete say (recover f) how before now
  completes how before now writes calm sent f exposed = by_end how writes calm sent
    where
      complete_for : (h : Ended) (found : Read (Option Head)) → RecoversAs disk found → h ≡ end_for found → Appends before now (say found) → IsComplete say (recover f) h before now
      complete_for h found finds ends appends =
          subst (λ (r : Read (Option Head)). IsComplete say r h before now) (sym (finds f exposed)) (inl (ends, appends))

      by_end : (h : Ended) → WritesReport say disk h before now → h ≢ ended.Device → h ≢ ended.Sink → IsComplete say (recover f) h before now
      by_end ended.Done w calm sent = complete_for ended.Done (Ok (Some w.0)) w.1 refl w.2
      by_end (ended.Damaged block) w calm sent = complete_for (ended.Damaged block) (Err block) w.0 refl w.1
      by_end ended.NoMemory w calm sent = inr (refl, w)
      by_end ended.Device w calm sent = absurd (calm refl)
      by_end ended.Sink w calm sent = absurd (sent refl)
      by_end ended.NotAStore w calm sent = complete_for ended.NotAStore (Ok None) w.0 refl w.1
      by_end ended.Usage w calm sent = absurd w
      by_end ended.FrameTooLong w calm sent = absurd w
      by_end ended.Truncated w calm sent = absurd w
      by_end ended.Source w calm sent = absurd w
      by_end ended.Budget w calm sent = absurd w
      by_end ended.Unsound w calm sent = absurd w
      by_end ended.UnknownVersion w calm sent = absurd w
