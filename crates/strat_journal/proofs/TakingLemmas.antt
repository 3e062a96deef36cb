-- What an append leaves, in whichever region the batch goes.
use Rattle.std.proofs.Common.{Bool, cond, Some, ◌≡◌, ◌≤◌, ◌<◌, ◌+◌, ℕ, ◌⊎◌, inl, inr, List, [], ◌∷◌, ◌++◌, length, drop, sym, ap, ◌∙◌, subst, arith, length-append}
use Rattle.std.proofs.lemmas.Bool.{lt-ltb, le-ltb, cases_lt}
use Rattle.def_crash.specs.Image.{Image, HoldsBytes, patch}
use Rattle.def_crash.specs.Moments.{DiskView, Images, Since, TearsOnly, IsDurable}
use Rattle.def_crash.proofs.MomentLemmas.{settled_at, tears_wider}
use Rattle.def_bytes.specs.Layout.{region_at, region_size, other_region}
use Rattle.std.specs.List.{list_all}
use Rattle.strat_base.specs.Change.{is_lawful}
use Rattle.def_bytes.specs.Records.{records_bytes}
use Rattle.strat_gate.specs.Raising.{BehindOrRaised}
use Rattle.strat_journal.specs.Log.{Log, Stands, GivesAllOrNone, HasRoomToAppend, batch_joined, batch_region, behind_log, taking, gate_in, gate_of}
use Rattle.strat_journal.proofs.AppendLemmas.{Ready, any_given, all_given}
use Rattle.strat_journal.proofs.BehindLemmas.{any_behind, all_behind}
use Rattle.strat_journal.proofs.LaidLemmas.{length-records_bytes, region_takes}

-- the part of a journal that takes the batch, by whether the active region has room
pub taken_short : (log : Log) → length log.list < log.mem → taking log ≡ log
taken_short log short = ap (λ (b : Bool). cond b log (behind_log log)) (lt-ltb (length log.list) log.mem short)

pub taken_long : (log : Log) → log.mem ≤ length log.list → taking log ≡ behind_log log
taken_long log long = ap (λ (b : Bool). cond b log (behind_log log)) (le-ltb (length log.list) log.mem long)

region_short : (log : Log) → length log.list < log.mem → batch_region log ≡ log.active
region_short log short = ap (λ (b : Bool). cond b log.active (other_region log.active)) (lt-ltb (length log.list) log.mem short)

region_long : (log : Log) → log.mem ≤ length log.list → batch_region log ≡ other_region log.active
region_long log long = ap (λ (b : Bool). cond b log.active (other_region log.active)) (le-ltb (length log.list) log.mem long)

-- a batch of this part fits the region
high : (part : Log) → Ready part → (rest : List ℕ) → 0xa7 ∷ rest ≡ records_bytes part.batch ++ 0 ∷ [] → gate_in part + 1 + length rest ≤ region_at part.mem part.active + region_size part.mem
high part ready rest split = omega (
  arith,
  ap length split,
  length-append (records_bytes part.batch) (0 ∷ []),
  length-records_bytes part.list ready.list_fits,
  length-records_bytes part.batch ready.batch_fits,
  ready.few,
  region_takes part.mem,
)

-- an append, over the views of the disk before and after it
module _ (log : Log) (may : HasRoomToAppend log) (some : 0 < length log.batch) (rest : List ℕ) (split : 0xa7 ∷ rest ≡ records_bytes log.batch ++ 0 ∷ []) where
  ready_short : length log.list < log.mem → Ready log
  ready_short short = let same = taken_short log short in record {
    list_fits = ap (λ (l : Log). list_all is_lawful l.list) (sym same) ∙ may.list_fits;
    batch_fits = may.batch_fits;
    some = some;
    few = omega (arith, may.few, ap (λ (l : Log). length l.list) same);
    active_most = may.active_most;
  }

  ready_long : log.mem ≤ length log.list → Ready (behind_log log)
  ready_long long = let same = taken_long log long in record {
    list_fits = ap (λ (l : Log). list_all is_lawful l.list) (sym same) ∙ may.list_fits;
    batch_fits = may.batch_fits;
    some = some;
    few = omega (arith, may.few, ap (λ (l : Log). length l.list) same);
    active_most = omega arith;
  }

  gate_short : length log.list < log.mem → gate_of log ≡ gate_in log
  gate_short short = ap gate_in (taken_short log short)

  gate_long : log.mem ≤ length log.list → gate_of log ≡ gate_in (behind_log log)
  gate_long long = ap gate_in (taken_long log long)

  pub append_images : (old new : DiskView) → TearsOnly old new (gate_of log) (1 + length rest) → TearsOnly old new (region_at log.mem (batch_region log)) (region_size log.mem)
  append_images old new tears = elim (cases_lt (length log.list) log.mem) [
    | inl short ↦
        subst (λ (r : ℕ). TearsOnly old new (region_at log.mem r) (region_size log.mem)) (sym (region_short log short))
        (tears_wider old new (gate_of log) (1 + length rest) (region_at log.mem log.active) (region_size log.mem) (omega (arith, gate_short short)) (omega (arith, gate_short short, high log (ready_short short) rest split)) tears)
    | inr long ↦
        subst (λ (r : ℕ). TearsOnly old new (region_at log.mem r) (region_size log.mem)) (sym (region_long log long))
        (tears_wider old new (gate_of log) (1 + length rest) (region_at log.mem (other_region log.active)) (region_size log.mem) (omega (arith, gate_long long)) (omega (arith, gate_long long, high (behind_log log) (ready_long long) rest split)) tears)
  ]

  module _ (old : DiskView) (f : Image) (there : Images old f) (holds : (d : Image) → Images old d → HoldsBytes d) (stands : Stands old log) where
    pub append_moment : (c : Image) → BehindOrRaised old f (gate_of log) rest c → GivesAllOrNone log c
    append_moment c left = elim (cases_lt (length log.list) log.mem) [
      | inl short ↦ any_given log (ready_short short) old holds stands f there rest split (high log (ready_short short) rest split) c (subst (λ (n : ℕ). BehindOrRaised old f n rest c) (gate_short short) left)
      | inr long ↦ any_behind log may.active_most long (ready_long long) old holds stands.given f there rest split (high (behind_log log) (ready_long long) rest split) c (subst (λ (n : ℕ). BehindOrRaised old f n rest c) (gate_long long) left)
    ]

    pub append_stands : (new : DiskView) → new.content ≡ Some (patch f (gate_of log) (0xa7 ∷ rest)) → IsDurable new → Stands new (batch_joined log)
    append_stands new content settled = elim (cases_lt (length log.list) log.mem) [
      | inl short ↦
          all_given log (ready_short short) old holds stands f there rest split (high log (ready_short short) rest split) new
          (settled_at new (patch f (gate_in log) (0xa7 ∷ rest)) (content ∙ ap (λ (n : ℕ). Some (patch f n (0xa7 ∷ rest))) (gate_short short)) settled)
      | inr long ↦
          all_behind log may.active_most long (ready_long long) old holds stands.given f there rest split (high (behind_log log) (ready_long long) rest split) new
          (settled_at new (patch f (gate_in (behind_log log)) (0xa7 ∷ rest)) (content ∙ ap (λ (n : ℕ). Some (patch f n (0xa7 ∷ rest))) (gate_long long)) settled)
    ]

  pub append_content : (f : Image) (new : DiskView) → new.content ≡ Some (patch f (gate_of log) (0xa7 ∷ rest)) → new.content ≡ Some (patch f (gate_of log) (records_bytes log.batch ++ 0 ∷ []))
  append_content f new content = content ∙ ap (λ (x : List ℕ). Some (patch f (gate_of log) x)) split
