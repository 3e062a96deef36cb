-- Faults of a cursor from those of a reading, and what a reading of one cursor's arrays is to those of all.
use Rattle.std.proofs.Common.{◌≡◌, ℕ, Bool, true, false, inl, inr, List, Result, Ok, Err, sym, ap, ◌∙◌, true≢false}
use Rattle.std.specs.List.{Contains}
use Rattle.std.specs.Result.{IsErrAnd, IsErrOf}
use Rattle.strat_array.specs.Kept.{Blocks}
use Rattle.strat_base.proofs.ListFacts.{among_in_flat}
use Rattle.strat_base.specs.declared.failures.Fault.{Fault}
use Rattle.strat_base.specs.declared.failures.Fault.TheVariants as fault
use Rattle.def_crash.specs.Moments.{DiskView}
use Rattle.def_recovery.proofs.BadLemmas.{contained_at}
use Rattle.strat_cursor.specs.CursorFaults.{as_next_fault}
use Rattle.strat_cursor.specs.Cursors.{OpenCursor, arrays_named}
use Rattle.strat_cursor.specs.Looking.{LooksThrough}
use Rattle.strat_cursor.specs.declared.cursors.NextFault.{NextFault}
use Rattle.strat_cursor.specs.declared.cursors.NextFault.TheVariants.{UnknownCursor, Damaged}
use Rattle.strat_cursor.proofs.PinLemmas.{among_contained}

never_unknown : (x : Fault) → as_next_fault x ≡ UnknownCursor → ⊥
never_unknown fault.Device e = cc
never_unknown (fault.Damaged b) e = cc

-- no reading fails for want of a cursor
pub found_err : (r : Result Bool NextFault) (x : Fault) (opened : Bool) → IsErrAnd r (λ e. e ≡ as_next_fault x) → opened ≡ true
    → (IsErrOf r UnknownCursor → opened ≡ false) × (opened ≡ false → IsErrOf r UnknownCursor)
found_err (Ok more) x opened and is = absurd and
found_err (Err e) x opened and is = (λ unknown. absurd (let same : e ≡ UnknownCursor = cc in never_unknown x (sym and ∙ same)), λ none. absurd (true≢false (sym is ∙ none)))

pub found_ok : (more opened : Bool) → opened ≡ true
    → (IsErrOf {T = Bool} {E = NextFault} (Ok more) UnknownCursor → opened ≡ false) × (opened ≡ false → IsErrOf {T = Bool} {E = NextFault} (Ok more) UnknownCursor)
found_ok more opened is = (λ none. absurd (cc), λ none. absurd (true≢false (sym is ∙ none)))

same_block : (x : Fault) (b : ℕ) → as_next_fault x ≡ Damaged b → x ≡ fault.Damaged b
same_block fault.Device b e = absurd (cc)
same_block (fault.Damaged a) b e = let same : a ≡ b = cc in ap (λ n. fault.Damaged n) same

-- the block of a fault is that of the reading
pub damaged_err : (r : Result Bool NextFault) (x : Fault) (b : ℕ) → IsErrAnd r (λ e. e ≡ as_next_fault x) → IsErrOf r (Damaged b) → IsErrOf {T = Bool} {E = Fault} (Err x) (fault.Damaged b)
damaged_err (Ok more) x b and of = absurd and
damaged_err (Err e) x b and of = let same : e ≡ Damaged b = cc in ap (λ (y : Fault). Err y) (same_block x b (sym and ∙ same))

-- what looks through the arrays of one cursor looks through those of all
pub looks_named : (old new : DiskView) (c d : Blocks) (cursors : List OpenCursor) (one : OpenCursor) → Contains cursors one → LooksThrough old new one.arrays c d
    → LooksThrough old new (arrays_named cursors) c d
looks_named old new c d cursors one there looks = record {
  disk = looks.disk;
  cap = looks.cap;
  cached = λ k x in_new. elim (looks.cached k x in_new) [
    | inl before ↦ inl before
    | inr read ↦ inr (
      read.0,
      among_contained (arrays_named cursors) read.0
          (among_in_flat (λ (y : OpenCursor). y.arrays) cursors one read.0 (contained_at one cursors there.0 there.1 there.2) (contained_at read.0 one.arrays read.1.0 read.1.1 read.1.2)),
      read.2,
    )
  ];
}
