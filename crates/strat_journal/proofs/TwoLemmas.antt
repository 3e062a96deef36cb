-- A journal over two regions, by the changes of each region.
use Rattle.std.proofs.Common.{◌≡◌, ◌≤◌, ◌⊎◌, inl, inr, ℕ, List, ◌++◌, length, map, take, drop, Ok, sym, ap, ◌∙◌, arith}
use Rattle.std.proofs.lemmas.List.{length-map, map-append, take_at, drop_at, take-append-drop, append_assoc}
use Rattle.strat_base.specs.Change.{Change}
use Rattle.def_crash.specs.Image.{Image}
use Rattle.def_bytes.specs.Layout.{other_region}
use Rattle.def_bytes.specs.Records.{Logged, region_records, journal_of}
use Rattle.def_bytes.proofs.DamageLemmas.{and_then_ok}
use Rattle.def_bytes.proofs.TwoRegionsLemmas.{journal_cut, join_full}
use Rattle.strat_journal.specs.Log.{Log, GivesAllOrNone}
use Rattle.strat_journal.specs.Records.{changes_in_order, journal_changes}

abbrev pub changes : List Logged → List Change
changes logged = map (λ (l : Logged). l.change) logged

-- what a journal of at least a region's changes has in each region
pub record InBoth (c : Image) (mem active : ℕ) (list : List Change) : Type 0 where
  pub front : List Logged
  pub later : List Logged
  pub here : region_records c mem active ≡ Ok front
  pub full : length front ≡ mem
  pub there : region_records c mem (other_region active) ≡ Ok later
  pub front_is : changes front ≡ take mem list
  pub later_is : changes later ≡ drop mem list

pub in_both : (c : Image) (mem active : ℕ) (list : List Change) → journal_changes c mem active ≡ Ok list → mem ≤ length list → InBoth c mem active list
in_both c mem active list e long =
    let whole = and_then_ok (journal_of c mem active) (λ logged. Ok (changes logged)) list e in
    let last : Ok (changes whole.0) ≡ Ok list = whole.2 in
    let same : changes whole.0 ≡ list = cc in
    let size : length whole.0 ≡ length list = sym (length-map whole.0 (λ (l : Logged). l.change)) ∙ ap length same in
    elim (journal_cut c mem active (region_records c mem (other_region active)) whole.0 whole.1) [
      | inl short ↦ absurd (omega (arith, short.1, size, long))
      | inr both ↦
          let parts : changes both.0 ++ changes both.1 ≡ list = sym (map-append (λ (l : Logged). l.change) both.0 both.1) ∙ ap changes both.5 ∙ same in
          let front_long : length (changes both.0) ≡ mem = length-map both.0 (λ (l : Logged). l.change) ∙ both.3 in
          record {
            front = both.0;
            later = both.1;
            here = both.2;
            full = both.3;
            there = both.4;
            front_is = sym (take_at (changes both.0) (changes both.1) mem front_long) ∙ ap (λ (j : List Change). take mem j) parts;
            later_is = sym (drop_at (changes both.0) (changes both.1) mem front_long) ∙ ap (λ (j : List Change). drop mem j) parts;
          }
    ]

-- an image that has the same records in the active region, and these in the other
pub both_given : (c : Image) (mem active : ℕ) (front later : List Logged) → region_records c mem active ≡ Ok front → length front ≡ mem → region_records c mem (other_region active) ≡ Ok later
    → journal_changes c mem active ≡ Ok (changes front ++ changes later)
both_given c mem active front later here full there =
    ap changes_in_order (join_full c mem active (region_records c mem (other_region active)) front later here full there)
    ∙ ap (λ (j : List Change). Ok j) (map-append (λ (l : Logged). l.change) front later)

module _ (log : Log) (d c : Image) (given : journal_changes d log.mem log.active ≡ Ok log.list) (long : log.mem ≤ length log.list)
    (same : region_records c log.mem log.active ≡ region_records d log.mem log.active) where
  abbrev parts : InBoth d log.mem log.active log.list
  parts = in_both d log.mem log.active log.list given long

  behind_reads : (later : List Logged) (tail : List Change) → region_records c log.mem (other_region log.active) ≡ Ok later → changes later ≡ tail
      → journal_changes c log.mem log.active ≡ Ok (take log.mem log.list ++ tail)
  behind_reads later tail there is =
      both_given c log.mem log.active parts.front later (same ∙ parts.here) parts.full there ∙ (λ i. Ok (parts.front_is i ++ is i))

  -- a batch behind a full region: all or none of the other region's records is all or none of the journal's
  pub all_or_none : (later : List Logged) → region_records c log.mem (other_region log.active) ≡ Ok later
      → (changes later ≡ drop log.mem log.list) ⊎ (changes later ≡ drop log.mem log.list ++ log.batch) → GivesAllOrNone log c
  all_or_none later there (inl none) = inl (behind_reads later (drop log.mem log.list) there none ∙ ap (λ (j : List Change). Ok j) (take-append-drop log.mem log.list))
  all_or_none later there (inr all) =
      inr (behind_reads later (drop log.mem log.list ++ log.batch) there all
      ∙ ap (λ (j : List Change). Ok j) (sym (append_assoc (take log.mem log.list) (drop log.mem log.list) log.batch) ∙ ap (λ (j : List Change). j ++ log.batch) (take-append-drop log.mem log.list)))
