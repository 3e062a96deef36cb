-- What recovery takes as the journal is that of both regions.
use Rattle.std.proofs.Common.{◌≡◌, ◌≢◌, ◌≤◌, ◌<◌, ◌+◌, ◌-◌, ◌*◌, ℕ, zero, suc, Bool, true, false, cond, eqb, ltb, inl, inr, ◌⊎◌, List, [], ◌∷◌, ◌++◌, length, Option, Some, None, Ok, Err, refl, sym, ap, ◌∙◌, length-append, arith}
use Rattle.std.proofs.lemmas.Bool.{cond-false, cond-true, eqb-true, eq-eqb, false_from_ne_true, ltb-true, lt-ltb}
use Rattle.def_crash.specs.Image.{Image, window}
use Rattle.strat_base.specs.Change.{Change, change_in, change_bytes}
use Rattle.def_bytes.specs.Layout.{region_first, region_at, region_size, other_region, is_open}
use Rattle.def_bytes.specs.Damage.{Read, and_then, passed_or, put_first}
use Rattle.def_bytes.proofs.DamageLemmas.{and_then_ok, passed_ok, put_first_ok}
use Rattle.def_bytes.proofs.RegionLemmas.{records_closed, records_few}
use Rattle.def_bytes.specs.Records.{Logged, block_of, record_then, records, region_records, full_then, journal_of, first_records, records_behind, journal_in_two}

-- a list of records ends by a closed gate where it has fewer than were asked for, so asking for more changes nothing
pub records_more : (c : Image) (end n at : ℕ) (logged : List Logged) → records c end n at ≡ Ok logged → length logged < n → records c end (suc n) at ≡ Ok logged
unfolding records
records_more c end zero at logged e few = absurd (omega (arith, few))
records_more c end (suc n) at logged e few =
    by_gate (is_open (c at)) (change_in (window c (at + 1) (end - (at + 1)))) (λ next l. records_more c end n next l) e
  where
    by_gate : (b : Bool) (o : Option Change) → ((next : ℕ) (l : List Logged) → records c end n next ≡ Ok l → length l < n → records c end (suc n) next ≡ Ok l)
        → cond b (record_then at (λ next. records c end n next) o) (Ok []) ≡ Ok logged
        → cond b (record_then at (λ next. records c end (suc n) next) o) (Ok []) ≡ Ok logged
    by_gate false o rest e = e
    by_gate true None rest e = absurd (cc)
    by_gate true (Some change) rest e =
        let next : ℕ = at + 1 + length (change_bytes change) in
        let parts = put_first_ok (record { change = change; block = block_of at }) (records c end n next) logged e in
        let fewer : length parts.0 < n = omega (arith, few, ap length parts.2) in
        ap (λ (r : Read (List Logged)). put_first (record { change = change; block = block_of at }) r) (rest next parts.0 parts.1 fewer)
        ∙ ap (λ (l : List Logged). Ok l) parts.2

abbrev read_list : List Logged → Read (List Logged)
read_list l = Ok l

none_few : (l : List Logged) → length l ≤ 0 → read_list [] ≡ read_list l
none_few [] few = refl
none_few (x ∷ l) few = absurd (omega (arith, few))

-- and nor does asking for fewer, down to how many there are
pub records_fewer : (c : Image) (end n at : ℕ) (logged : List Logged) → records c end (suc n) at ≡ Ok logged → length logged ≤ n → records c end n at ≡ Ok logged
unfolding records
records_fewer c end zero at logged e few = none_few logged few
records_fewer c end (suc n) at logged e few =
    by_gate (is_open (c at)) (change_in (window c (at + 1) (end - (at + 1)))) (λ next l. records_fewer c end n next l) e
  where
    by_gate : (b : Bool) (o : Option Change) → ((next : ℕ) (l : List Logged) → records c end (suc n) next ≡ Ok l → length l ≤ n → records c end n next ≡ Ok l)
        → cond b (record_then at (λ next. records c end (suc n) next) o) (Ok []) ≡ Ok logged
        → cond b (record_then at (λ next. records c end n next) o) (Ok []) ≡ Ok logged
    by_gate false o rest e = e
    by_gate true None rest e = absurd (cc)
    by_gate true (Some change) rest e =
        let next : ℕ = at + 1 + length (change_bytes change) in
        let parts = put_first_ok (record { change = change; block = block_of at }) (records c end (suc n) next) logged e in
        let fewer : length parts.0 ≤ n = omega (arith, few, ap length parts.2) in
        ap (λ (r : Read (List Logged)). put_first (record { change = change; block = block_of at }) r) (rest next parts.0 parts.1 fewer)
        ∙ ap (λ (l : List Logged). Ok l) parts.2

module _ (c : Image) (mem region : ℕ) (some : 0 < mem) where
  abbrev end : ℕ
  end = region_at mem region + region_size mem

  -- records behind a full region are all of their region
  pub behind_whole : (logged : List Logged) → records_behind c mem region ≡ Ok logged → (region_records c mem region ≡ Ok logged) × (length logged + 2 ≤ mem)
  behind_whole logged e =
      let found = and_then_ok (first_records c mem region (mem - 1)) (λ l. passed_or (region_first mem region) (ltb (length l) (mem - 1)) l) logged e in
      let passed = passed_ok (region_first mem region) (ltb (length found.0) (mem - 1)) found.0 logged found.2 in
      let few : length found.0 < mem - 1 = ltb-true (length found.0) (mem - 1) passed.0 in
      let n : suc (mem - 1) ≡ mem = omega (arith, some) in (
        ap (λ (m : ℕ). records c end m (region_at mem region)) (sym n) ∙ records_more c end (mem - 1) (region_at mem region) found.0 found.1 few ∙ ap (λ (l : List Logged). Ok l) passed.1,
        omega (arith, few, ap length passed.1),
      )

  pub whole_behind : (logged : List Logged) → region_records c mem region ≡ Ok logged → length logged + 2 ≤ mem → records_behind c mem region ≡ Ok logged
  whole_behind logged e few =
      let n : suc (mem - 1) ≡ mem = omega (arith, some) in
      let first : first_records c mem region (mem - 1) ≡ Ok logged =
      records_fewer c end (mem - 1) (region_at mem region) logged (ap (λ (m : ℕ). records c end m (region_at mem region)) n ∙ e) (omega (arith, few)) in
      ap (λ (r : Read (List Logged)). and_then r (λ l. passed_or (region_first mem region) (ltb (length l) (mem - 1)) l)) first
      ∙ ap (λ (b : Bool). passed_or (region_first mem region) b logged) (lt-ltb (length logged) (mem - 1) (omega (arith, few)))

-- a full list and what is read behind it
abbrev pub joined_to : List Logged → Read (List Logged) → Read (List Logged)
joined_to front others = and_then others (λ later. Ok (front ++ later))

module _ (c : Image) (mem active : ℕ) where
  abbrev front_end : ℕ
  front_end = region_at mem active + region_size mem

  -- a journal: the records of the active region alone, where it has room, or those of both
  pub journal_cut : (others : Read (List Logged)) (logged : List Logged) → and_then (region_records c mem active) (full_then mem others) ≡ Ok logged
      → ((region_records c mem active ≡ Ok logged) × (length logged < mem))
      ⊎ ((front : List Logged) × (later : List Logged) × (region_records c mem active ≡ Ok front) × (length front ≡ mem) × (others ≡ Ok later) × (front ++ later ≡ logged))
  journal_cut others logged e =
      let found = and_then_ok (region_records c mem active) (full_then mem others) logged e in
      let few = records_few c front_end mem (region_at mem active) found.0 found.1 in
      by_test (eqb (length found.0) mem) found.0 refl found.1 few found.2
    where
      by_test : (b : Bool) (l : List Logged) → eqb (length l) mem ≡ b → region_records c mem active ≡ Ok l → length l ≤ mem
          → cond b (and_then others (λ later. Ok (l ++ later))) (Ok l) ≡ Ok logged
          → ((region_records c mem active ≡ Ok logged) × (length logged < mem))
          ⊎ ((front : List Logged) × (later : List Logged) × (region_records c mem active ≡ Ok front) × (length front ≡ mem) × (others ≡ Ok later) × (front ++ later ≡ logged))
      by_test true l is read few e =
          let behind = and_then_ok others (λ later. Ok (l ++ later)) logged e in
          let last : Ok (l ++ behind.0) ≡ Ok logged = behind.2 in
          let same : l ++ behind.0 ≡ logged = cc in
          inr (l, behind.0, read, eqb-true (length l) mem is, behind.1, same)
      by_test false l is read few e =
          let same : l ≡ logged = cc in
          let apart : length l ≢ mem = λ eq. absurd (let f : true ≡ false = sym (eq-eqb (length l) mem eq) ∙ is in cc) in
          inl (read ∙ e, omega (arith, few, apart, ap length same))

  -- both readings join the same lists
  pub join_short : (others : Read (List Logged)) (logged : List Logged) → region_records c mem active ≡ Ok logged → length logged < mem → and_then (region_records c mem active) (full_then mem others) ≡ Ok logged
  join_short others logged read few =
      ap (λ (r : Read (List Logged)). and_then r (full_then mem others)) read
      ∙ cond-false (eqb (length logged) mem) (joined_to logged others) (Ok logged) (not_equal (eqb (length logged) mem) refl)
    where
      not_equal : (b : Bool) → eqb (length logged) mem ≡ b → b ≡ false
      not_equal false is = refl
      not_equal true is = absurd (omega (arith, few, eqb-true (length logged) mem is))

  pub join_full : (others : Read (List Logged)) (front later : List Logged) → region_records c mem active ≡ Ok front → length front ≡ mem → others ≡ Ok later → and_then (region_records c mem active) (full_then mem others) ≡ Ok (front ++ later)
  join_full others front later read full behind =
      ap (λ (r : Read (List Logged)). and_then r (full_then mem others)) read
      ∙ cond-true (eqb (length front) mem) (joined_to front others) (Ok front) (eq-eqb (length front) mem full)
      ∙ ap (joined_to front) behind

  -- what is behind a full region is short
  behind_few : (region : ℕ) (logged : List Logged) → records_behind c mem region ≡ Ok logged → length logged + 2 ≤ mem
  behind_few region logged e =
      let found = and_then_ok (first_records c mem region (mem - 1)) (λ l. passed_or (region_first mem region) (ltb (length l) (mem - 1)) l) logged e in
      let passed = passed_ok (region_first mem region) (ltb (length found.0) (mem - 1)) found.0 logged found.2 in
      omega (arith, ltb-true (length found.0) (mem - 1) passed.0, ap length passed.1)

  pub length-two : (logged : List Logged) → journal_in_two c mem active ≡ Ok logged → length logged ≤ 2 * mem - 2
  length-two logged e = elim (journal_cut (records_behind c mem (other_region active)) logged e) [
    | inl short ↦ omega (arith, short.1)
    | inr both ↦ omega (arith, both.3, behind_few (other_region active) both.1 both.4, length-append both.0 both.1, ap length both.5)
  ]

module _ (c : Image) (mem active : ℕ) (some : 0 < mem) where
  -- what recovery takes is the journal of both regions
  pub two_whole : (logged : List Logged) → journal_in_two c mem active ≡ Ok logged → (journal_of c mem active ≡ Ok logged) × (length logged ≤ 2 * mem - 2)
  two_whole logged e = elim (journal_cut c mem active (records_behind c mem (other_region active)) logged e) [
    | inl short ↦ (join_short c mem active (region_records c mem (other_region active)) logged short.0 short.1, omega (arith, short.1, some))
    | inr both ↦
        let whole = behind_whole c mem (other_region active) some both.1 both.4 in (
          join_full c mem active (region_records c mem (other_region active)) both.0 both.1 both.2 both.3 whole.0 ∙ ap (λ (l : List Logged). Ok l) both.5,
          omega (arith, both.3, whole.1, length-append both.0 both.1, ap length both.5),
        )
  ]

  pub whole_two : (logged : List Logged) → journal_of c mem active ≡ Ok logged → length logged ≤ 2 * mem - 2 → journal_in_two c mem active ≡ Ok logged
  whole_two logged e few = elim (journal_cut c mem active (region_records c mem (other_region active)) logged e) [
    | inl short ↦ join_short c mem active (records_behind c mem (other_region active)) logged short.0 short.1
    | inr both ↦
        let least : length both.1 + 2 ≤ mem = omega (arith, few, both.3, length-append both.0 both.1, ap length both.5, some) in
        join_full c mem active (records_behind c mem (other_region active)) both.0 both.1 both.2 both.3 (whole_behind c mem (other_region active) some both.1 both.4 least)
        ∙ ap (λ (l : List Logged). Ok l) both.5
  ]

put_some : {X : Type 0} (x : X) (r : Read (List X)) → put_first x r ≡ Ok [] → ⊥
put_some x (Ok xs) e = cc
put_some x (Err block) e = cc

-- no record was read where a gate is closed
none_read : (b : Bool) (r : Read (List Logged)) → (b ≡ true → r ≡ Ok [] → ⊥) → cond b r (Ok []) ≡ Ok [] → b ≡ false
none_read false r some e = refl
none_read true r some e = absurd (some refl e)

first_some : (o : Option Change) (later : ℕ → Read (List Logged)) (at : ℕ) → record_then at later o ≡ Ok [] → ⊥
first_some None later at e = cc
first_some (Some change) later at e = put_some (record { change = change; block = block_of at }) (later (at + 1 + length (change_bytes change))) e

pub closed_first : (c : Image) (end n at : ℕ) → 0 < n → records c end n at ≡ Ok [] → is_open (c at) ≡ false
unfolding records
closed_first c end zero at some e = absurd (omega (arith, some))
closed_first c end (suc n) at some e =
    none_read (is_open (c at)) (record_then at (λ next. records c end n next) (change_in (window c (at + 1) (end - (at + 1)))))
    (λ up none. first_some (change_in (window c (at + 1) (end - (at + 1)))) (λ next. records c end n next) at none) e

-- where a journal just fills a region the first gate of the other one is closed
pub full_closed : (c : Image) (mem active : ℕ) (logged : List Logged) → 1 < mem → journal_in_two c mem active ≡ Ok logged → length logged ≡ mem → is_open (c (region_at mem (other_region active))) ≡ false
full_closed c mem active logged some e full = elim (journal_cut c mem active (records_behind c mem (other_region active)) logged e) [
  | inl short ↦ absurd (omega (arith, short.1, full))
  | inr both ↦
      let region : ℕ = other_region active in
      let none : both.1 ≡ [] = nothing both.1 (omega (arith, full, both.3, length-append both.0 both.1, ap length both.5)) in
      let found = and_then_ok (first_records c mem region (mem - 1)) (λ l. passed_or (region_first mem region) (ltb (length l) (mem - 1)) l) both.1 both.4 in
      let passed = passed_ok (region_first mem region) (ltb (length found.0) (mem - 1)) found.0 both.1 found.2 in
      let read : first_records c mem region (mem - 1) ≡ Ok [] = found.1 ∙ ap (λ (l : List Logged). Ok l) (passed.1 ∙ none) in
      closed_first c (region_at mem region + region_size mem) (mem - 1) (region_at mem region) (omega (arith, some)) read
]
  where
    nothing : (l : List Logged) → length l ≤ 0 → l ≡ []
    nothing [] few = refl
    nothing (x ∷ l) few = absurd (omega (arith, few))

-- a closed first gate of the active region leaves no journal
pub journal_none : (c : Image) (mem active : ℕ) → 0 < mem → c (region_at mem active) ≢ 0xa7 → journal_in_two c mem active ≡ Ok []
journal_none c mem active some shut =
    let closed : is_open (c (region_at mem active)) ≡ false = false_from_ne_true (is_open (c (region_at mem active))) (λ up. shut (eqb-true (c (region_at mem active)) 0xa7 up)) in
    join_short c mem active (records_behind c mem (other_region active)) [] (records_closed c (region_at mem active + region_size mem) mem (region_at mem active) closed) (omega (arith, some))

-- a closed first gate of a region leaves nothing behind a full one
pub behind_none : (c : Image) (mem region : ℕ) → 1 < mem → is_open (c (region_at mem region)) ≡ false → records_behind c mem region ≡ Ok []
behind_none c mem region some closed =
    ap (λ (r : Read (List Logged)). and_then r (λ l. passed_or (region_first mem region) (ltb (length l) (mem - 1)) l)) (records_closed c (region_at mem region + region_size mem) (mem - 1) (region_at mem region) closed)
    ∙ ap (λ (b : Bool). passed_or (region_first mem region) b []) (lt-ltb 0 (mem - 1) (omega (arith, some)))
