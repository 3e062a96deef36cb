-- What a run that checks a store comes to, by how it ended.
use Rattle.std.proofs.Common.{◌≡◌, ◌≢◌, ◌⊎◌, ℕ, List, [], ◌∷◌, Option, Some, None, refl, sym, ap, subst, ◌∙◌, inl, inr, arith}
use Rattle.std.specs.Prelude.{Ok, Err}
use Rattle.def_crash.specs.Image.{Image}
use Rattle.def_crash.specs.Moments.{DiskView}
use Rattle.def_bytes.specs.Damage.{Read, and_then}
use Rattle.def_bytes.specs.SuperBlock.{newest_in}
use Rattle.def_state.specs.Breach.{Breach, breaches}
use Rattle.def_state.specs.State.{State}
use Rattle.strat_io.specs.Streams.{Appends}
use Rattle.strat_model.specs.declared.ended.Ended.{Ended}
use Rattle.strat_model.specs.declared.ended.Ended.TheVariants as ended
use Rattle.strat_model.specs.Ended.{status_of}
use Rattle.def_recovery.specs.Head.{Head}
use Rattle.def_recovery.specs.Opening.{recover}
use Rattle.def_check.specs.Checked.{checked, check_head, read_state}
use Rattle.strat_report.specs.Checking.{check_text, end_of_check, EndsCheck, WritesCheck}
use Rattle.strat_report.specs.Reporting.{AppendsFront, ReportHasCause}
use Rattle.strat_loop.specs.Session.{EndHasCause}
use Rattle.strat_loop.specs.World.{world}
use Rattle.castle.proofs.SummaryLemmas.{no_slot}

-- the ends of a check
check_ends : (how : Ended) → EndsCheck how
    → (status_of how ≡ 0) ⊎ (status_of how ≡ 2) ⊎ (status_of how ≡ 5) ⊎ (status_of how ≡ 7) ⊎ (status_of how ≡ 8) ⊎ (status_of how ≡ 9) ⊎ (status_of how ≡ 11)
check_ends ended.Done ends = inl refl
check_ends ended.NotAStore ends = inr (inl refl)
check_ends ended.Device ends = inr (inr (inl refl))
check_ends ended.Sink ends = inr (inr (inr (inl refl)))
check_ends ended.NoMemory ends = inr (inr (inr (inr (inl refl))))
check_ends (ended.Damaged block) ends = inr (inr (inr (inr (inr (inl refl)))))
check_ends ended.Unsound ends = inr (inr (inr (inr (inr (inr refl)))))
check_ends ended.UnknownVersion ends = absurd ends
check_ends ended.Usage ends = absurd ends
check_ends ended.FrameTooLong ends = absurd ends
check_ends ended.Truncated ends = absurd ends
check_ends ended.Source ends = absurd ends
check_ends ended.Budget ends = absurd ends

-- a check blames no source
no_source : (how : Ended) → EndsCheck how → how ≢ ended.Source
no_source how ends is = subst EndsCheck is ends

-- what its counts say of a run that did nothing else
pub check_cause : (d0 d3 : DiskView) (how : Ended) (k0 k1 : Option (List ℕ)) (m b x y : ℕ) (left : Option (List ℕ)) (source : ℕ) → EndsCheck how
    → ReportHasCause how m b x y → EndHasCause how (world left source k0 x d0 m) (world left source k1 y d3 b)
check_cause d0 d3 how k0 k1 m b x y left source ends cause = record {
  source = λ is. absurd (no_source how ends is);
  sink = cause.sink;
  device = cause.device;
  source_same = λ no. refl;
  sink_same = cause.sink_same;
  disk_same = λ no other. cause.disk_same no;
}

-- how a check ends where nothing fails, by what it finds
told_ends : (found : Read (Option (List Breach))) → (n : ℕ) → n ≡ status_of (end_of_check found) → (n ≡ 0) ⊎ (n ≡ 2) ⊎ (n ≡ 9) ⊎ (n ≡ 11)
told_ends (Ok (Some [])) n is = inl is
told_ends (Ok (Some (b ∷ later))) n is = inr (inr (inr is))
told_ends (Ok None) n is = inr (inl is)
told_ends (Err block) n is = inr (inr (inl is))

told_sound : (found : Read (Option (List Breach))) → status_of (end_of_check found) ≡ 0 → found ≡ Ok (Some [])
told_sound (Ok (Some [])) is = refl
told_sound (Ok (Some (b ∷ later))) is = absurd (omega (arith, is))
told_sound (Ok None) is = absurd (omega (arith, is))
told_sound (Err block) is = absurd (omega (arith, is))

told_none : (found : Read (Option (List Breach))) → status_of (end_of_check found) ≡ 2 → found ≡ Ok None
told_none (Ok None) is = refl
told_none (Ok (Some [])) is = absurd (omega (arith, is))
told_none (Ok (Some (b ∷ later))) is = absurd (omega (arith, is))
told_none (Err block) is = absurd (omega (arith, is))

told_damaged : (found : Read (Option (List Breach))) → status_of (end_of_check found) ≡ 9 → (block : ℕ) × (found ≡ Err block)
told_damaged (Err block) is = (block, refl)
told_damaged (Ok None) is = absurd (omega (arith, is))
told_damaged (Ok (Some [])) is = absurd (omega (arith, is))
told_damaged (Ok (Some (b ∷ later))) is = absurd (omega (arith, is))

told_unsound : (found : Read (Option (List Breach))) → status_of (end_of_check found) ≡ 11 → (b : Breach) × (later : List Breach) × (found ≡ Ok (Some (b ∷ later)))
told_unsound (Ok (Some (b ∷ later))) is = (b, later, refl)
told_unsound (Ok (Some [])) is = absurd (omega (arith, is))
told_unsound (Ok None) is = absurd (omega (arith, is))
told_unsound (Err block) is = absurd (omega (arith, is))

-- a check finds no store where recovery finds none
finds_none : (c : Image) → checked c ≡ Ok None → recover c ≡ Ok None
finds_none c is = by_head (recover c) is
  where
    by_state : (r : Read State) → and_then r (λ s. Ok (Some (breaches s))) ≡ Ok None → ⊥
    by_state (Ok s) e = let x : ◌≡◌ {A = Read (Option (List Breach))} (Ok (Some (breaches s))) (Ok None) = e in cc
    by_state (Err block) e = let x : ◌≡◌ {A = Read (Option (List Breach))} (Err block) (Ok None) = e in cc

    by_head : (r : Read (Option Head)) → and_then r (check_head c) ≡ Ok None → r ≡ Ok None
    by_head (Ok None) e = refl
    by_head (Ok (Some h)) e = absurd (by_state (read_state c h) e)
    by_head (Err block) e = absurd (let x : ◌≡◌ {A = Read (Option (List Breach))} (Err block) (Ok None) = e in cc)

pub no_store_found : (c : Image) → checked c ≡ Ok None → newest_in c ≡ Ok None
no_store_found c is = no_slot c (finds_none c is)

-- a run that checked a store and ended so
module _ (found : Read (Option (List Breach))) (status : ℕ) (how : Ended) (is : status ≡ status_of how) (h k : Option (List ℕ)) (writes : WritesCheck found how h k) where
  -- what was said, if neither memory, the device nor the sink gave out
  said : status ≢ 5 → status ≢ 7 → status ≢ 8 → (status ≡ status_of (end_of_check found)) × Appends h k (check_text found)
  said five seven eight = go writes
    where
      go : WritesCheck found how h k → (status ≡ status_of (end_of_check found)) × Appends h k (check_text found)
      go (inl (inl all)) = (is ∙ ap status_of all.0, all.1)
      go (inl (inr short)) = absurd (eight (is ∙ ap status_of short.0))
      go (inr (inl front)) = absurd (seven (is ∙ ap status_of front.0))
      go (inr (inr gave)) = absurd (five (is ∙ ap status_of gave.0))

  pub check_sound : status ≡ 0 → (found ≡ Ok (Some [])) × Appends h k (check_text found)
  check_sound this =
      let all = said (λ no. omega (arith, no, this)) (λ no. omega (arith, no, this)) (λ no. omega (arith, no, this)) in
      (told_sound found (sym all.0 ∙ this), all.1)

  pub check_none : status ≡ 2 → (found ≡ Ok None) × Appends h k (check_text found)
  check_none this =
      let all = said (λ no. omega (arith, no, this)) (λ no. omega (arith, no, this)) (λ no. omega (arith, no, this)) in
      (told_none found (sym all.0 ∙ this), all.1)

  pub check_damaged : status ≡ 9 → (block : ℕ) × (found ≡ Err block) × Appends h k (check_text found)
  check_damaged this =
      let all = said (λ no. omega (arith, no, this)) (λ no. omega (arith, no, this)) (λ no. omega (arith, no, this)) in
      let at = told_damaged found (sym all.0 ∙ this) in
      (at.0, at.1, all.1)

  pub check_unsound : status ≡ 11 → (b : Breach) × (later : List Breach) × (found ≡ Ok (Some (b ∷ later))) × Appends h k (check_text found)
  check_unsound this =
      let all = said (λ no. omega (arith, no, this)) (λ no. omega (arith, no, this)) (λ no. omega (arith, no, this)) in
      let at = told_unsound found (sym all.0 ∙ this) in
      (at.0, at.1, at.2, all.1)

  pub check_cut : status ≡ 7 → AppendsFront h k (check_text found)
  check_cut this = go writes
    where
      go : WritesCheck found how h k → AppendsFront h k (check_text found)
      go (inl (inl all)) = absurd (let ends = told_ends found status (is ∙ ap status_of all.0) in omega (arith, ends, this))
      go (inl (inr short)) = absurd (let eight : status ≡ 8 = is ∙ ap status_of short.0 in omega (arith, eight, this))
      go (inr (inl front)) = front.1
      go (inr (inr gave)) = absurd (let five : status ≡ 5 = is ∙ ap status_of gave.0 in omega (arith, five, this))

  pub check_same : (status ≡ 5) ⊎ (status ≡ 8) → k ≡ h
  check_same this = go writes
    where
      go : WritesCheck found how h k → k ≡ h
      go (inl (inl all)) = absurd (let ends = told_ends found status (is ∙ ap status_of all.0) in omega (arith, ends, this))
      go (inl (inr short)) = short.1
      go (inr (inl front)) = absurd (let seven : status ≡ 7 = is ∙ ap status_of front.0 in omega (arith, seven, this))
      go (inr (inr gave)) = gave.1

-- the status that a check ends with
pub check_ends_by : (status : ℕ) (how : Ended) → status ≡ status_of how → EndsCheck how → (status ≡ 0) ⊎ (status ≡ 2) ⊎ (status ≡ 5) ⊎ (status ≡ 7) ⊎ (status ≡ 8) ⊎ (status ≡ 9) ⊎ (status ≡ 11)
check_ends_by status how is ends = subst (λ (n : ℕ). (n ≡ 0) ⊎ (n ≡ 2) ⊎ (n ≡ 5) ⊎ (n ≡ 7) ⊎ (n ≡ 8) ⊎ (n ≡ 9) ⊎ (n ≡ 11)) (sym is) (check_ends how ends)
