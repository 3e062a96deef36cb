-- What closing a gate leaves.
use Rattle.std.proofs.Common.{◌≡◌, ◌≢◌, ◌≤◌, ◌<◌, ℕ, inl, inr, [], ◌∷◌, length, drop, Some, Ok, sym, ap, ◌∙◌, subst, arith}
use Rattle.std.proofs.lemmas.List.{length-map}
use Rattle.def_crash.specs.Image.{Image, HoldsBytes, patch}
use Rattle.def_crash.specs.Moments.{DiskView, Images, Since, Passes, TearsOnly, IsDurable}
use Rattle.def_crash.proofs.MomentLemmas.{settled_at, now_since, now_since_start, since_earlier}
use Rattle.def_bytes.specs.Layout.{region_at, other_region}
use Rattle.def_bytes.specs.Records.{Logged, journal_of}
use Rattle.strat_gate.specs.Gates.{EndsShut}
use Rattle.strat_gate.proofs.RaisingLemmas.{patched_first}
use Rattle.strat_journal.specs.Log.{Log, Stands, GivesLater, KeepsShortJournal, region_turned, IsRegionShut}
use Rattle.strat_journal.specs.Records.{changes_in_order}
use Rattle.def_bytes.proofs.DamageLemmas.{and_then_ok}
use Rattle.strat_journal.proofs.LaidLemmas.{journal_kept}
use Rattle.strat_journal.proofs.TwoLemmas.{changes}

-- a gate that was closed on a settled disk is closed in every image
pub closed_shut : (old new : DiskView) (f : Image) (at : ℕ) → Passes old new → EndsShut f at old new → old.content ≡ Some f → IsDurable old → (c : Image) → Images new c → c at ≢ 0xa7
closed_shut old new f at passes (inl still) exposed settled c left =
    let was : Images old c = still.2.each c (since_earlier new old.moment new.moment c passes.later (now_since new c left)) in
    let same : c ≡ f = settled_at old f exposed settled c was in
    λ up. still.0 (ap (λ (d : Image). d at) (sym same) ∙ up)
closed_shut old new f at passes (inr shut) exposed settled c left =
    let same : c ≡ patch f at (0 ∷ []) = settled_at new (patch f at (0 ∷ [])) shut.0 shut.1 c left in
    λ up. let bad : 0 ≡ 0xa7 = sym (patched_first f at 0 []) ∙ ap (λ (d : Image). d at) (sym same) ∙ up in omega (arith, bad)

-- a call that tears a region's first gate alone keeps what the other region holds, wherever that has room
pub keeps_short : (old new : DiskView) (mem active : ℕ) → 4 ≤ mem → active ≤ 1 → ((d : Image) → Images old d → HoldsBytes d) → TearsOnly old new (region_at mem active) 1
    → (c : Image) → Since new old.moment c → KeepsShortJournal old mem (other_region active) c
keeps_short old new mem active some one bytes tears c since =
    let torn = tears.each c since in
    (torn.0, torn.1, λ logged short e. journal_kept torn.0 c mem active logged (bytes torn.0 torn.1) one some short torn.2 e)

-- a journal goes on in the other region once its own is closed, with what the list has behind the first one
pub turned_stands : (old new : DiskView) (log : Log) → log.active ≤ 1 → length (drop log.mem log.list) < log.mem
    → ((c : Image) → Since new old.moment c → KeepsShortJournal old log.mem (other_region log.active) c)
    → GivesLater old log → Passes old new → IsRegionShut new log.mem log.active → Stands new (region_turned log)
turned_stands old new log few short keeps later passes shut =
    let back : log.active ≡ other_region (other_region log.active) = omega (arith, few) in
    record {
      given = λ c left.
          let was = keeps c (now_since_start old new c passes left) in
          let read = and_then_ok (journal_of was.0 log.mem (other_region log.active)) (λ logged. Ok (changes logged)) (drop log.mem log.list) (later was.0 was.1) in
          let last : Ok (changes read.0) ≡ Ok (drop log.mem log.list) = read.2 in
          let same : changes read.0 ≡ drop log.mem log.list = cc in
          ap changes_in_order (was.2 read.0 (omega (arith, short, ap length same, length-map read.0 (λ (l : Logged). l.change))) read.1) ∙ last;
      shut = λ c left room. subst (λ (r : ℕ). c (region_at log.mem r) ≢ 0xa7) back (shut c left);
    }
