-- Changes that join the journal together: what they leave is sound, and their tables may stand in a trail.
use Rattle.std.proofs.Common.{◌≡◌, ◌<◌, ◌+◌, ℕ, suc, inl, inr, List, [], ◌∷◌, ◌++◌, length, refl, sym, ap, subst, ◌∙◌, append_assoc, length-append, arith}
use Rattle.std.proofs.lemmas.Bool.{and_parts}
use Rattle.strat_base.specs.Change.{Change}
use Rattle.def_crash.specs.Image.{Image}
use Rattle.def_crash.specs.Moments.{DiskView}
use Rattle.def_crash.specs.Trail.{Trail}
use Rattle.def_crash.proofs.TrailLemmas.{at_either, at_left, at_right, trail_put_in}
use Rattle.strat_journal.specs.Log.{Log, Stands, batch_joined}
use Rattle.strat_model.specs.Table.{Table}
use Rattle.def_promote.specs.Sealed.{grown_by}
use Rattle.def_promote.proofs.SealedLemmas.{sound_after}
use Rattle.def_meaning.specs.StateTable.{table_of}
use Rattle.def_meaning.proofs.StateTableLemmas.{stays_sound, steps_to}
use Rattle.def_state.specs.Sound.{IsSound, Takes, are_accepted, is_accepted}
use Rattle.def_state.specs.State.{State, appended, changes_of, tree_after, versions_of, marks_of, marks_after}
use Rattle.def_state.proofs.StepLemmas.{versions-appended, marks-appended}
use Rattle.def_publish.specs.Appending.{AppendsBatch, IsLogOf, with_batch}
use Rattle.def_publish.specs.Contents.{Contents, contents_state}
use Rattle.def_publish.specs.Batches.{TakesBatch, tables_through}
use Rattle.def_publish.specs.Standing.{ContentsStand, ShowsTable}
use Rattle.def_publish.proofs.AppendLemmas.{appended_trail, either_trail}

-- tables put in behind the places that a trail has reached
pub spread : {T : Type 0} (shows : Image → T → Type 0) (v : DiskView) (start n : ℕ) (xs ys zs : List T) → n < length xs → Trail shows v start (xs ++ zs) n → Trail shows v start (xs ++ (ys ++ zs)) n
spread shows v start n xs ys zs low t = record {
  mark = t.mark;
  first = t.first;
  rise = t.rise;
  last = t.last;
  place = omega (arith, low, length-append xs (ys ++ zs));
  each = λ k m c le from high left.
      let p = t.each k m c le from high left in
      elim (at_either xs zs p.0 (shows c) p.2) [
        | inl here ↦ (p.0, p.1, at_left xs (ys ++ zs) p.0 (shows c) here)
        | inr there ↦ (
          length xs + (length ys + there.0),
          omega (arith, le, low),
          at_right xs (ys ++ zs) (length ys + there.0) (shows c) (at_right ys zs there.0 (shows c) there.2),
        )
      ];
}

-- and before its last one, which it has reached
pub put_in : {T : Type 0} (shows : Image → T → Type 0) (v : DiskView) (start : ℕ) (x y : T) (between : List T) → Trail shows v start (x ∷ y ∷ []) 1 → Trail shows v start (x ∷ (between ++ y ∷ [])) (1 + length between)
put_in shows v start x y between t = trail_put_in shows v start (x ∷ []) between (y ∷ []) 1 (omega arith) t

-- the first change of a batch is taken, and after it the others are
takes_first : (s : State) (c : Change) (batch : List Change) → TakesBatch s (c ∷ batch) → Takes s c
takes_first s c batch takes =
    let parts = and_parts (is_accepted s.changes_max s.versions_max (versions_of s) (marks_of s) (changes_of s) c) (are_accepted s.changes_max s.versions_max (tree_after (versions_of s) c) (marks_after (marks_of s) c) (suc (changes_of s)) batch) takes.accepted in
    record { sound = takes.sound; accepted = parts.0; room = omega (arith, takes.room) }

takes_others : (s : State) (c : Change) (batch : List Change) → TakesBatch s (c ∷ batch) → TakesBatch (appended s c) batch
takes_others s c batch takes =
    let parts = and_parts (is_accepted s.changes_max s.versions_max (versions_of s) (marks_of s) (changes_of s) c) (are_accepted s.changes_max s.versions_max (tree_after (versions_of s) c) (marks_after (marks_of s) c) (suc (changes_of s)) batch) takes.accepted in
    let more = length-append s.journal (c ∷ []) in
    let counted : changes_of (appended s c) ≡ suc (changes_of s) = omega (arith, more) in
    record {
      sound = stays_sound s c (takes_first s c batch takes);
      accepted = (λ i. are_accepted s.changes_max s.versions_max (versions-appended s c i) (marks-appended s c i) (counted i) batch) ∙ parts.1;
      room = omega (arith, takes.room, more);
    }

grown_first : (s : State) (c : Change) (batch : List Change) → grown_by (appended s c) batch ≡ grown_by s (c ∷ batch)
grown_first s c batch = ap (λ (journal : List Change). record s { journal = journal }) (append_assoc s.journal (c ∷ []) batch)

-- the table steps through those of a batch, of which the last is that of the state with all its changes
pub ends_grown : (c : Change) (batch : List Change) (s : State) → TakesBatch s (c ∷ batch)
    → (between : List Table) × (tables_through (table_of s) (c ∷ batch) ≡ between ++ table_of (grown_by s (c ∷ batch)) ∷ []) × (length between ≡ length batch)
ends_grown c [] s takes = ([], ap (λ (t : Table). t ∷ []) (steps_to s c (takes_first s c [] takes)), refl)
ends_grown c (d ∷ batch) s takes =
    let later = ends_grown d batch (appended s c) (takes_others s c (d ∷ batch) takes) in (
      table_of (appended s c) ∷ later.0,
      ap (λ (t : Table). t ∷ tables_through t (d ∷ batch)) (steps_to s c (takes_first s c (d ∷ batch) takes))
          ∙ ap (λ (ts : List Table). table_of (appended s c) ∷ ts) later.1
          ∙ ap (λ (z : State). table_of (appended s c) ∷ (later.0 ++ table_of z ∷ [])) (grown_first s c (d ∷ batch)),
      ap suc later.2,
    )

pub batch_sound : (x : Contents) (batch : List Change) → TakesBatch (contents_state x) batch → IsSound (contents_state (with_batch x batch))
batch_sound x batch takes = sound_after batch (contents_state x) takes.sound takes.accepted takes.room

-- while a batch is appended the images go through its tables
module _ (old new : DiskView) (x : Contents) (log : Log) (stands : ContentsStand old x) (is : IsLogOf x log) (appends : AppendsBatch old new log) (takes : TakesBatch (contents_state x) log.batch)
    (some : 0 < length log.batch) where
  abbrev t : Table
  t = table_of (contents_state x)

  abbrev last : List Change → Table
  last batch = table_of (grown_by (contents_state x) batch)

  pub batch_either : Trail ShowsTable new old.moment (t ∷ tables_through t log.batch) 0
  batch_either = go log.batch takes some (either_trail old new x log stands is appends (batch_sound x log.batch takes))
    where
      go : (batch : List Change) → TakesBatch (contents_state x) batch → 0 < length batch → Trail ShowsTable new old.moment (t ∷ last batch ∷ []) 0 → Trail ShowsTable new old.moment (t ∷ tables_through t batch) 0
      go [] all any two = absurd (omega (arith, any))
      go (c ∷ batch) all any two =
          let parts = ends_grown c batch (contents_state x) all in
          subst (λ (ts : List Table). Trail ShowsTable new old.moment (t ∷ ts) 0) (sym parts.1)
          (spread ShowsTable new old.moment 0 (t ∷ []) parts.0 (last (c ∷ batch) ∷ []) (omega arith) two)

  pub batch_trail : Stands new (batch_joined log) → Trail ShowsTable new old.moment (t ∷ tables_through t log.batch) (length log.batch)
  batch_trail joined = go log.batch takes some (appended_trail old new x log stands is appends (batch_sound x log.batch takes) joined)
    where
      go : (batch : List Change) → TakesBatch (contents_state x) batch → 0 < length batch → Trail ShowsTable new old.moment (t ∷ last batch ∷ []) 1
          → Trail ShowsTable new old.moment (t ∷ tables_through t batch) (length batch)
      go [] all any two = absurd (omega (arith, any))
      go (c ∷ batch) all any two =
          let parts = ends_grown c batch (contents_state x) all in
          let many : 1 + length parts.0 ≡ length (c ∷ batch) = omega (arith, parts.2) in
          subst (λ (n : ℕ). Trail ShowsTable new old.moment (t ∷ tables_through t (c ∷ batch)) n) many
          (subst (λ (ts : List Table). Trail ShowsTable new old.moment (t ∷ ts) (1 + length parts.0)) (sym parts.1)
          (put_in ShowsTable new old.moment t (last (c ∷ batch)) parts.0 two))
