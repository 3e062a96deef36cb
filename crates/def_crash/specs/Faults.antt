-- Counts: how often a source, a sink or a disk failed, which errors a failure explains, and how often a disk was read.
use Rattle.std.specs.Prelude.{◌≡◌, ◌≢◌, ◌≤◌, ℕ, ◌+◌, ◌-◌, ◌^◌, min, Result, OnOk, OnErr, IsErrOf, IfErr}

-- a count of one more; at the last value of its type a count stands still
abbrev pub one_more : ℕ → ℕ
one_more n = min (n + 1) (2 ^ 64 - 1)

-- a count has risen, or stands at its end
abbrev pub Rose : ℕ → ℕ → Type 0
Rose before now = one_more before ≤ now

-- a count of faults never falls, stays where the call succeeds, and rises where it fails
pub record CountsFaults {T E : Type 0} (before now : ℕ) (result : Result T E) : Type 0 where
  pub later : before ≤ now
  pub ok : OnOk result (now ≡ before)
  pub err : OnErr result (Rose before now)

-- the error that stands for the device comes only where a fault was counted, and any other only where none was
pub record HasCause {T E : Type 0} (failure : E) (before now : ℕ)
    (result : Result T E) : Type 0 where
  pub later : before ≤ now
  pub ok : OnOk result (now ≡ before)
  pub device : IsErrOf result failure → Rose before now
  pub other : IfErr result (λ e. e ≢ failure → now ≡ before)

-- a count of reads never falls, and rose by so many at most
pub record ReadsAtMost (most before now : ℕ) : Type 0 where
  pub later : before ≤ now
  pub bound : now ≤ before + most
