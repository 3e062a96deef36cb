-- What the steps of an append leave: until the first gate is raised the list, and then the list or all of the batch behind it.
use Rattle.std.proofs.Common.{Bool, cond, take, drop, Some, ◌-◌, ◌≡◌, ◌≢◌, ◌≤◌, ◌<◌, ◌+◌, ℕ, zero, suc, true, ◌⊎◌, inl, inr, List, [], ◌∷◌, ◌++◌, length, Ok, sym, ap, ◌∙◌, subst, arith, length-append}
use Rattle.std.specs.List.{list_all}
use Rattle.std.proofs.lemmas.Bool.{cases_eq, lt-ltb}
use Rattle.def_crash.specs.Image.{Image, HoldsBytes, Outside, window, patch}
use Rattle.def_crash.specs.Moments.{DiskView, Images, Since, TearsOnly, IsDurable}
use Rattle.strat_base.specs.Change.{Change, is_lawful}
use Rattle.def_bytes.specs.Layout.{region_at, region_size, other_region}
use Rattle.def_crash.proofs.ImageLemmas.{window_same, window_patch, outside_patch}
use Rattle.def_crash.proofs.MomentLemmas.{settled_at, tears_wider}
use Rattle.def_bytes.specs.Records.{records_bytes}
use Rattle.strat_journal.specs.Records.{journal_changes}
use Rattle.strat_gate.specs.Raising.{BehindOrRaised}
use Rattle.strat_gate.proofs.RaisingLemmas.{patched_first, patched_twice}
use Rattle.strat_journal.specs.Log.{Log, Stands, GivesAllOrNone, batch_joined, gate_in}
use Rattle.strat_journal.proofs.RecordLemmas.{window_front, window_rest, window_both}
use Rattle.strat_journal.proofs.LaidLemmas.{LaidIn, records_bytes-append, all_lawful-append, length-records_bytes, region_takes, laid_given, given_laid}

-- a journal that may append: its changes are lawful, and those of the batch find room
pub record Ready (log : Log) : Type 0 where
  pub list_fits : list_all is_lawful log.list ≡ true
  pub batch_fits : list_all is_lawful log.batch ≡ true
  pub some : 0 < length log.batch
  pub few : length log.list + length log.batch ≤ log.mem
  pub active_most : log.active ≤ 1

-- the first byte of one region does not lie in the other
pub regions_apart : (mem active at : ℕ) → active ≤ 1 → region_at mem active ≤ at → (n : ℕ) → at + n ≤ region_at mem active + region_size mem
    → (region_at mem (other_region active) < at) ⊎ (at + n ≤ region_at mem (other_region active))
regions_apart mem zero at few low n high = inr (omega arith)
regions_apart mem (suc zero) at few low n high = inl (omega arith)
regions_apart mem (suc (suc k)) at few low n high = absurd (omega arith)

-- a gate that is raised in front of a text
first_raised : (c : Image) (at : ℕ) (rest : List ℕ) → c at ≡ 0xa7 → window c (at + 1) (length rest) ≡ rest → window c at (length (0xa7 ∷ rest)) ≡ 0xa7 ∷ rest
unfolding window
first_raised c at rest up there =
    let next : suc at ≡ at + 1 = omega arith in
    let behind : window c (suc at) (length rest) ≡ rest = ap (λ (n : ℕ). window c n (length rest)) next ∙ there in
    λ i. up i ∷ behind i

pub one_is : (c : Image) (at byte : ℕ) → window c at 1 ≡ byte ∷ [] → c at ≡ byte
unfolding window
one_is c at byte e = cc

-- a change of bytes behind the gate, within the region, keeps what stands
module _ (log : Log) (ready : Ready log) where
  keeps_other : (d c : Image) (at n : ℕ) → region_at log.mem log.active ≤ at → at + n ≤ region_at log.mem log.active + region_size log.mem → Outside at n d c
      → c (region_at log.mem (other_region log.active)) ≡ d (region_at log.mem (other_region log.active))
  keeps_other d c at n low high out = elim (regions_apart log.mem log.active at ready.active_most low n high) [
    | inl under ↦ out.below (region_at log.mem (other_region log.active)) under
    | inr past ↦ out.above (region_at log.mem (other_region log.active)) past
  ]

  pub keeps_laid : (d c : Image) (n : ℕ) → Outside (gate_in log + 1) n d c → LaidIn d log.mem log.active log.list → LaidIn c log.mem log.active log.list
  keeps_laid d c n out laid = record {
    text = window_same d c (region_at log.mem log.active) (length (records_bytes log.list)) (record { byte = λ i low high. out.below i (omega arith) }) ∙ laid.text;
    lawful = laid.lawful;
    few = laid.few;
    closed = λ lt up. laid.closed lt (sym (out.below (gate_in log) (omega arith)) ∙ up);
    within = laid.within;
  }

  -- the list and the whole batch stand where the gate of an image in which the rest of the batch was written is raised
  pub raised_laid : (f c : Image) (rest : List ℕ) → 0xa7 ∷ rest ≡ records_bytes log.batch ++ 0 ∷ [] → LaidIn f log.mem log.active log.list
      → window f (gate_in log + 1) (length rest) ≡ rest → Outside (gate_in log) 1 f c → c (gate_in log) ≡ 0xa7
      → LaidIn c log.mem log.active (log.list ++ log.batch)
  raised_laid f c rest split laid there out up =
      let behind : List ℕ = records_bytes log.batch in
      let whole : window c (gate_in log) (length (behind ++ 0 ∷ [])) ≡ behind ++ 0 ∷ [] =
      subst (λ (x : List ℕ). window c (gate_in log) (length x) ≡ x) split (first_raised c (gate_in log) rest up (window_same f c (gate_in log + 1) (length rest) (record { byte = λ i low high. out.above i (omega arith) }) ∙ there)) in
      let front : window c (region_at log.mem log.active) (length (records_bytes log.list)) ≡ records_bytes log.list =
      window_same f c (region_at log.mem log.active) (length (records_bytes log.list)) (record { byte = λ i low high. out.below i (omega arith) }) ∙ laid.text in
      let text : window c (region_at log.mem log.active) (length (records_bytes log.list ++ behind)) ≡ records_bytes log.list ++ behind =
      window_both c (region_at log.mem log.active) (records_bytes log.list) behind front (window_front c (gate_in log) behind (0 ∷ []) whole) in
      let all : records_bytes log.list ++ behind ≡ records_bytes (log.list ++ log.batch) = sym (records_bytes-append log.list log.batch) in
      let size : length (records_bytes (log.list ++ log.batch)) ≡ length (records_bytes log.list) + length behind = omega (arith, ap length all, length-append (records_bytes log.list) behind) in
      let lawful : list_all is_lawful (log.list ++ log.batch) ≡ true = all_lawful-append log.list log.batch ready.list_fits ready.batch_fits in
      let shut : c (gate_in log + length behind) ≡ 0 = one_is c (gate_in log + length behind) 0 (window_rest c (gate_in log) behind (0 ∷ []) whole) in
      record {
        text = subst (λ (x : List ℕ). window c (region_at log.mem log.active) (length x) ≡ x) all text;
        lawful = lawful;
        few = omega (arith, length-append log.list log.batch, ready.few);
        closed = λ lt open'. let same : region_at log.mem log.active + length (records_bytes (log.list ++ log.batch)) ≡ gate_in log + length behind = omega (arith, size) in
            let bad : 0 ≡ 0xa7 = sym shut ∙ ap c (sym same) ∙ open' in omega (arith, bad);
        within = omega (arith, length-records_bytes (log.list ++ log.batch) lawful, length-append log.list log.batch, ready.few, region_takes log.mem);
      }

-- an append, over the views of the disk before and after it
module _ (log : Log) (ready : Ready log) (old : DiskView) (holds : (d : Image) → Images old d → HoldsBytes d) (stands : Stands old log)
    (f : Image) (there : Images old f) (rest : List ℕ) (split : 0xa7 ∷ rest ≡ records_bytes log.batch ++ 0 ∷ [])
    (high : gate_in log + 1 + length rest ≤ region_at log.mem log.active + region_size log.mem) where
  fewer : length log.list < log.mem
  fewer = omega (arith, ready.some, ready.few)

  old_laid : (d : Image) → Images old d → LaidIn d log.mem log.active log.list
  old_laid d left = given_laid d log.mem log.active log.list (holds d left) (stands.given d left) fewer

  -- what was written while the gate was closed
  abbrev written : Image
  written = patch f (gate_in log + 1) rest

  written_laid : LaidIn written log.mem log.active log.list
  written_laid = keeps_laid log ready f written (length rest) (outside_patch f (gate_in log + 1) rest) (old_laid f there)

  -- the other region is closed in each image that differs from that one in the gate alone
  raised_other : (c : Image) → Outside (gate_in log) 1 written c → c (region_at log.mem (other_region log.active)) ≢ 0xa7
  raised_other c out up =
      stands.shut f there fewer (sym (keeps_other log ready f written (gate_in log + 1) (length rest) (omega arith) high (outside_patch f (gate_in log + 1) rest))
      ∙ sym (keeps_other log ready written c (gate_in log) 1 (omega arith) (omega (arith, high)) out) ∙ up)

  raised_given : (c : Image) → Outside (gate_in log) 1 written c → c (gate_in log) ≡ 0xa7 → journal_changes c log.mem log.active ≡ Ok (log.list ++ log.batch)
  raised_given c out up =
      laid_given c log.mem log.active (log.list ++ log.batch)
      (raised_laid log ready written c rest split written_laid (window_patch f (gate_in log + 1) rest) out up)
      (λ full. raised_other c out)

  shut_given : (c : Image) → Outside (gate_in log) 1 written c → c (gate_in log) ≢ 0xa7 → journal_changes c log.mem log.active ≡ Ok log.list
  shut_given c out shut =
      laid_given c log.mem log.active log.list
      (record {
        text = window_same written c (region_at log.mem log.active) (length (records_bytes log.list)) (record { byte = λ i low more. out.below i (omega arith) }) ∙ written_laid.text;
        lawful = written_laid.lawful;
        few = written_laid.few;
        closed = λ lt. shut;
        within = written_laid.within;
      })
      (λ full. raised_other c out)

  -- each image gives the list or all
  pub any_given : (c : Image) → BehindOrRaised old f (gate_in log) rest c → GivesAllOrNone log c
  any_given c (inl behind) =
      inl (laid_given c log.mem log.active log.list (keeps_laid log ready behind.0 c (length rest) behind.2 (old_laid behind.0 behind.1)) (λ full. absurd (omega (arith, fewer, full))))
  any_given c (inr out) =
      elim (cases_eq (c (gate_in log)) 0xa7) [
        | inl up ↦ inr (raised_given c out up)
        | inr shut ↦ inl (shut_given c out shut)
      ]

  -- and after it all
  pub all_given : (new : DiskView) → ((c : Image) → Images new c → c ≡ patch f (gate_in log) (0xa7 ∷ rest)) → Stands new (batch_joined log)
  all_given new settled =
      let out : Outside (gate_in log) 1 written (patch f (gate_in log) (0xa7 ∷ rest)) = patched_twice f (gate_in log) rest in
      let up : patch f (gate_in log) (0xa7 ∷ rest) (gate_in log) ≡ 0xa7 = patched_first f (gate_in log) 0xa7 rest in
      record {
        given = λ c left. subst (λ (c : Image). journal_changes c log.mem log.active ≡ Ok (log.list ++ log.batch)) (sym (settled c left)) (raised_given (patch f (gate_in log) (0xa7 ∷ rest)) out up);
        shut = λ c left lt. subst (λ (c : Image). c (region_at log.mem (other_region log.active)) ≢ 0xa7) (sym (settled c left)) (raised_other (patch f (gate_in log) (0xa7 ∷ rest)) out);
      }
