-- What formatting leaves alone.
use Rattle.std.proofs.Common.{◌≤◌, ◌<◌, ℕ, ◌+◌, inl, inr, refl, ◌∙◌}
use Rattle.std.proofs.lemmas.Bool.{cases_lt}
use Rattle.def_crash.specs.Moments.{DiskView, Passes, TearsOnly}
use Rattle.def_crash.proofs.MomentLemmas.{since_now, since_split, now_since_start}
use Rattle.strat_open.specs.Format.{IsFormatted, KeepsOthers}

-- a call that tears only what formatting may write
pub tears_keep : (mem at n : ℕ) (old new : DiskView) → ((i : ℕ) → at ≤ i → i < at + n → IsFormatted mem i) → TearsOnly old new at n → KeepsOthers mem old new
tears_keep mem at n old new inside tears = record {
  each = λ c since.
      let it = tears.each c since in (
        it.0,
        it.1,
        λ i other. elim (cases_lt i at) [
          | inl below ↦ it.2.below i below
          | inr from ↦ elim (cases_lt i (at + n)) [
            | inl within ↦ absurd (other (inside i from within))
            | inr past ↦ it.2.above i past
          ]
        ],
      );
}

-- two calls, one after the other
pub keep_trans : (mem : ℕ) (old mid new : DiskView) → Passes old mid → Passes mid new → KeepsOthers mem old mid → KeepsOthers mem mid new → KeepsOthers mem old new
keep_trans mem old mid new first second before after = record {
  each = λ c since. elim (since_split mid new old.moment c second since) [
    | inl early ↦ before.each c early
    | inr late ↦
        let y = after.each c late in
        let x = before.each y.0 (now_since_start old mid y.0 first y.1) in
        (x.0, x.1, λ i other. y.2 i other ∙ x.2 i other)
  ];
}

-- nothing happened
pub keep_refl : (mem : ℕ) (v : DiskView) → KeepsOthers mem v v
keep_refl mem v = record { each = λ c since. (c, since_now v c since, λ i other. refl) }
