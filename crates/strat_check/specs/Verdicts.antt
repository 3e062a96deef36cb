-- What a check answers.
use Rattle.std.specs.Prelude.{◌≡◌, ◌≢◌, ◌≤◌, ◌⊎◌, ℕ, ◌+◌, ◌*◌, List, [], ◌∷◌, length, Option, Some, None, Result, Ok, Err}
use Rattle.def_crash.specs.Faults.{Rose}
use Rattle.def_crash.specs.Image.{Image}
use Rattle.def_crash.specs.Moments.{DiskView, Exposes}
use Rattle.def_bytes.specs.Chain.{chain_length}
use Rattle.def_bytes.specs.Damage.{Read}
use Rattle.def_bytes.specs.Layout.{region_blocks}
use Rattle.def_state.specs.Breach.{Breach}
use Rattle.def_check.specs.Checked.{checked, listed_blocks}
use Rattle.def_recovery.specs.Head.{Head}
use Rattle.strat_base.specs.declared.failures.Trouble.{Trouble}
use Rattle.strat_base.specs.declared.failures.Trouble.TheVariants as trouble
use Rattle.strat_open.specs.declared.attach_fault.AttachFault.{AttachFault}
use Rattle.strat_open.specs.declared.attach_fault.AttachFault.TheVariants as attach
use Rattle.strat_check.specs.declared.places.Broken.{Broken}
use Rattle.strat_check.specs.declared.verdict.Verdict.{Verdict}
use Rattle.strat_check.specs.declared.verdict.Verdict.TheVariants as verdict

-- the answer for what a check finds: the first breach, if there is one
abbrev pub verdict_for : Read (Option (List Breach)) → Verdict
verdict_for (Ok (Some [])) = verdict.Sound
verdict_for (Ok (Some (b ∷ breaches))) = verdict.Unsound b.rule b.level b.array
verdict_for (Ok None) = verdict.NotAStore
verdict_for (Err block) = verdict.Damaged block

-- the verdict on a store that could not be read
abbrev pub verdict_unread : AttachFault → Verdict
verdict_unread attach.NotAStore = verdict.NotAStore
verdict_unread attach.Device = verdict.Device
verdict_unread (attach.Damaged block) = verdict.Damaged block
verdict_unread attach.NoMemory = verdict.NoMemory

-- the verdict on a store whose arrays were gone through
abbrev pub verdict_told : Result (Option Broken) Trouble → Verdict
verdict_told (Ok None) = verdict.Sound
verdict_told (Ok (Some b)) = verdict.Unsound b.rule b.level b.array
verdict_told (Err trouble.NoMemory) = verdict.NoMemory
verdict_told (Err trouble.Device) = verdict.Device
verdict_told (Err (trouble.Damaged block)) = verdict.Damaged block

-- a check answered what it finds in an exposed content, or gave up: memory ran out, or the device failed
abbrev pub IsRight : DiskView → Verdict → Type 0
IsRight disk answer = (f : Image) → Exposes disk f
    → (answer ≡ verdict_for (checked f)) ⊎ (answer ≡ verdict.NoMemory) ⊎ (answer ≡ verdict.Device)

-- the device is blamed just where it counted a fault
pub record VerdictHasCause (answer : Verdict) (before now : ℕ) : Type 0 where
  pub later : before ≤ now
  pub device : answer ≡ verdict.Device → Rose before now
  pub other : answer ≢ verdict.Device → now ≡ before

-- how often a check of a store reads at most: what recovery reads, and each block of an array three times
abbrev pub reads_of_check : Head → ℕ
reads_of_check h =
    chain_length h.sb.length + 2 * region_blocks h.sb.mem + 2
    + 3 * length (listed_blocks h.manifest)
