-- How the journal of both regions is read.
use Rattle.std.proofs.Common.{◌≡◌, ◌≤◌, ◌<◌, ◌+◌, ◌-◌, ℕ, Bool, IsTrue, ◌++◌, true, false, eqb, ltb, inl, inr, List, [], ◌∷◌, length, map, Ok, Err, refl, sym, ap, ◌∙◌, subst, arith, true≢false, length-append}
use Rattle.std.proofs.lemmas.Bool.{cases_Bool, cases_eq, cond-true, eq-eqb, lt-ltb, le-ltb}
use Rattle.std.proofs.lemmas.List.{append-nil, length-map, map-append}
use Rattle.strat_base.specs.Change.{Change}
use Rattle.def_crash.specs.Image.{Image}
use Rattle.std.specs.Prelude.{◌↔◌}
use Rattle.def_bytes.specs.Damage.{Read, and_then, passed_or}
use Rattle.def_bytes.specs.Layout.{region_first, region_at, other_region, is_open}
use Rattle.def_bytes.specs.Records.{Logged, region_records, full_then, first_records, records_behind, journal_in_two}
use Rattle.def_bytes.proofs.TwoRegionsLemmas.{joined_to, join_short, join_full, behind_none, two_whole}
use Rattle.strat_journal.specs.declared.journal.Logged.{Logged as Owned}
use Rattle.strat_journal.specs.Log.{Log, IsStale, RecoversTo}
use Rattle.strat_journal.specs.Records.{changes_in_order, journal_changes, logged_of}
use Rattle.strat_journal.proofs.ReadLemmas.{stale_is}

-- the test of records behind a full region
abbrev tested : ℕ → ℕ → Read (List Logged) → Read (List Logged)
tested mem region read = and_then read (λ later. passed_or (region_first mem region) (ltb (length later) (mem - 1)) later)

module _ (c : Image) (mem region : ℕ) (items : List Owned) (read : first_records c mem region (mem - 1) ≡ Ok (map logged_of items)) where
  pub behind_few : length items < mem - 1 → records_behind c mem region ≡ Ok (map logged_of items)
  behind_few few =
      ap (tested mem region) read
      ∙ ap (λ (b : Bool). passed_or (region_first mem region) b (map logged_of items)) (lt-ltb (length (map logged_of items)) (mem - 1) (omega (arith, few, length-map items logged_of)))

  pub behind_many : mem - 1 ≤ length items → records_behind c mem region ≡ Err (region_first mem region)
  behind_many many =
      ap (tested mem region) read
      ∙ ap (λ (b : Bool). passed_or (region_first mem region) b (map logged_of items)) (le-ltb (length (map logged_of items)) (mem - 1) (omega (arith, many, length-map items logged_of)))

pub behind_bad : (c : Image) (mem region block : ℕ) → first_records c mem region (mem - 1) ≡ Err block → records_behind c mem region ≡ Err block
behind_bad c mem region block bad = ap (tested mem region) bad

module _ (c : Image) (mem active : ℕ) (items : List Owned) (read : region_records c mem active ≡ Ok (map logged_of items)) where
  abbrev logged : List Logged
  logged = map logged_of items

  -- where a region has room, it has the whole journal
  pub later_none : (later : List Owned) (stale : Bool) → length items < mem → later ≡ [] → stale ≡ is_open (c (region_at mem (other_region active)))
      → (journal_in_two c mem active ≡ Ok (logged ++ map logged_of later)) × (IsTrue stale ↔ IsStale c mem active (length items + length later))
  later_none later stale short none open' = (
    join_short c mem active (records_behind c mem (other_region active)) logged read (omega (arith, short, length-map items logged_of))
        ∙ ap (λ (l : List Logged). Ok l) (sym (append-nil logged))
        ∙ ap (λ (l : List Owned). Ok (logged ++ map logged_of l)) (sym none),
    stale_is stale (c (region_at mem (other_region active))) mem (length items) (length items + length later) open' (omega arith) (λ up. omega (arith, short)) (omega (arith, ap length none)),
  )

  -- where it is full, the other one has the rest
  pub later_there : (later : List Owned) → length items ≡ mem → records_behind c mem (other_region active) ≡ Ok (map logged_of later)
      → (journal_in_two c mem active ≡ Ok (logged ++ map logged_of later)) × (IsTrue false ↔ IsStale c mem active (length items + length later))
  later_there later full there = (
    join_full c mem active (records_behind c mem (other_region active)) logged (map logged_of later) read (length-map items logged_of ∙ full) there,
    (λ up. absurd (true≢false (sym up)), λ stale. absurd (omega (arith, stale.0, full))),
  )

  -- what is damaged behind a full region is damage of the journal
  pub behind_torn : (block : ℕ) → length items ≡ mem → records_behind c mem (other_region active) ≡ Err block → journal_in_two c mem active ≡ Err block
  behind_torn block full bad =
      ap (λ (r : Read (List Logged)). and_then r (full_then mem (records_behind c mem (other_region active)))) read
      ∙ cond-true (eqb (length logged) mem) (joined_to logged (records_behind c mem (other_region active))) (Ok logged) (eq-eqb (length logged) mem (length-map items logged_of ∙ full))
      ∙ ap (joined_to logged) bad

changes-mapped : (items : List Owned) → map (λ (l : Logged). l.change) (map logged_of items) ≡ map (λ (l : Owned). l.change) items
changes-mapped [] = refl
changes-mapped (l ∷ items) = ap (λ (xs : List Change). l.change ∷ xs) (changes-mapped items)

-- the changes that an opening reads are those of the journal
pub changes_now : (c : Image) (mem active : ℕ) (items : List Owned) (list : List Change) → 0 < mem → journal_in_two c mem active ≡ Ok (map logged_of items)
    → list ≡ map (λ (l : Owned). l.change) items → journal_changes c mem active ≡ Ok list
changes_now c mem active items list some e list_is =
    ap changes_in_order (two_whole c mem active some (map logged_of items) e).0
    ∙ ap (λ (xs : List Change). Ok xs) (changes-mapped items ∙ sym list_is)

-- what was read of both regions is what recovery reads of an image
pub recovers : (f : Image) (mem active : ℕ) (first later all : List Owned) (stale : Bool) (log : Log) → 0 < mem → all ≡ first ++ later
    → log.list ≡ map (λ (l : Owned). l.change) first ++ map (λ (l : Owned). l.change) later → log.stale ≡ stale
    → (journal_in_two f mem active ≡ Ok (map logged_of first ++ map logged_of later)) × (IsTrue stale ↔ IsStale f mem active (length first + length later))
    → RecoversTo f mem active all log
recovers f mem active first later all stale log some all_is list_is stale_is' read =
    let mapped : map logged_of all ≡ map logged_of first ++ map logged_of later = ap (map logged_of) all_is ∙ map-append logged_of first later in
    let found : journal_in_two f mem active ≡ Ok (map logged_of all) = read.0 ∙ ap (λ (l : List Logged). Ok l) (sym mapped) in
    let changes : log.list ≡ map (λ (l : Owned). l.change) all = list_is ∙ sym (ap (map (λ (l : Owned). l.change)) all_is ∙ map-append (λ (l : Owned). l.change) first later) in
    let size : length log.list ≡ length first + length later = ap length changes ∙ length-map all (λ (l : Owned). l.change) ∙ ap length all_is ∙ length-append first later in
    record {
      records = found;
      changes = changes_now f mem active all log.list some found changes;
      stale = subst (λ (b : Bool). IsTrue b ↔ IsStale f mem active (length log.list)) (sym stale_is') (subst (λ (n : ℕ). IsTrue stale ↔ IsStale f mem active n) (sym size) read.1);
    }
