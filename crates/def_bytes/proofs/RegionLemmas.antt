-- How many records a region has.
use Rattle.std.proofs.Common.{◌≡◌, ◌≤◌, ◌+◌, ◌-◌, ℕ, zero, suc, Bool, true, false, cond, List, [], length, Option, Some, None, Ok, refl, sym, ap, arith}
use Rattle.std.proofs.lemmas.Bool.{cond-false}
use Rattle.def_crash.specs.Image.{Image, window}
use Rattle.strat_base.specs.Change.{Change, change_in, change_bytes}
use Rattle.def_bytes.specs.Layout.{is_open}
use Rattle.def_bytes.proofs.DamageLemmas.{put_first_ok}
use Rattle.def_bytes.specs.Records.{Logged, block_of, record_then, records}

-- nothing is read where the first gate is closed
pub records_closed : (c : Image) (end n at : ℕ) → is_open (c at) ≡ false → records c end n at ≡ Ok []
unfolding records
records_closed c end zero at closed = refl
records_closed c end (suc n) at closed = cond-false (is_open (c at)) _ (Ok []) closed

-- no more records are read than were asked for
pub records_few : (c : Image) (end n at : ℕ) (logged : List Logged) → records c end n at ≡ Ok logged → length logged ≤ n
unfolding records
records_few c end zero at logged e = let none : [] ≡ logged = cc in omega (arith, ap length (sym none))
records_few c end (suc n) at logged e =
    by_gate (is_open (c at)) (change_in (window c (at + 1) (end - (at + 1)))) (λ next. records_few c end n next) e
  where
    by_gate : (b : Bool) (o : Option Change) → ((next : ℕ) (l : List Logged) → records c end n next ≡ Ok l → length l ≤ n)
        → cond b (record_then at (λ next. records c end n next) o) (Ok []) ≡ Ok logged → length logged ≤ suc n
    by_gate false o rest e = let none : [] ≡ logged = cc in omega (arith, ap length (sym none))
    by_gate true None rest e = absurd (cc)
    by_gate true (Some change) rest e =
        let next : ℕ = at + 1 + length (change_bytes change) in
        let parts = put_first_ok (record { change = change; block = block_of at }) (records c end n next) logged e in
        let few : length parts.0 ≤ n = rest next parts.0 parts.1 in
        omega (arith, ap length parts.2)
