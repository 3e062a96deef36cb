-- A change that ends a promotion: what it left is published, and then comes its record.
use Rattle.std.proofs.Common.{◌≡◌, ◌≤◌, ◌+◌, List, [], ◌∷◌, ◌++◌, length, Option, sym, ap, ◌∙◌, subst, arith}
use Rattle.std.proofs.lemmas.List.{length-append}
use Rattle.strat_base.specs.Change.{Change}
use Rattle.strat_base.specs.Entries.{Entry}
use Rattle.strat_base.specs.declared.descriptors.Extent.{Extent}
use Rattle.strat_base.specs.declared.descriptors.LevelDesc.{LevelDesc}
use Rattle.def_crash.specs.Moments.{DiskView}
use Rattle.def_crash.specs.Trail.{Trail}
use Rattle.def_crash.proofs.TrailLemmas.{trail_join}
use Rattle.strat_extent.specs.Blocks.{is_free}
use Rattle.strat_journal.specs.Log.{Log}
use Rattle.strat_model.specs.Step.{step}
use Rattle.strat_model.specs.Table.{Table}
use Rattle.def_slice.specs.Ending.{PublishesNext, EndsOpen}
use Rattle.def_slice.specs.Opened.{OpenPromotion, AppendsOne, StandsOpen}
use Rattle.def_slice.proofs.LastLemmas.{fill_after}
use Rattle.strat_promote.specs.Promotions.{extents_taken}
use Rattle.def_promote.specs.Promoted.{SaysTheSame}
use Rattle.def_meaning.specs.StateTable.{table_of, request_for}
use Rattle.def_meaning.proofs.StateTableLemmas.{stays_sound, steps_to}
use Rattle.def_publish.specs.Appending.{with_batch}
use Rattle.def_publish.specs.Contents.{Contents, contents_state}
use Rattle.def_publish.specs.Standing.{ShowsTable, ContentsStand}
use Rattle.def_publish.proofs.AppendLemmas.{appended_trail, appended_stands}
use Rattle.def_publish.proofs.OccupiedLemmas.{free_beside}
use Rattle.def_publish.proofs.PromotedLemmas.{none_later}
use Rattle.def_publish.proofs.TableLemmas.{same_table}
use Rattle.def_publish.proofs.TurnLemmas.{turned_trail, turned_contents}
use Rattle.def_state.specs.Sound.{is_accepted, IsSound, Takes}

module _ (v0 mid lay v1 v2 : DiskView) (x y : Contents) (sealed : List Entry) (levels : List (Option LevelDesc)) (others : List Extent) (o : OpenPromotion) (log turned : Log) (change : Change)
    (s : StandsOpen v0 x sealed levels others o) (ends : EndsOpen v0 mid lay v1 v2 x y o log turned change) where
  abbrev p : PublishesNext v0 mid lay v1 (is_free o.space) x y log
  p = ends.publishes

  abbrev append : AppendsOne v1 v2 turned change
  append = ends.append

  says : SaysTheSame (contents_state x) (contents_state y)
  says = p.prepared.next.says

  stands1 : ContentsStand v1 y
  stands1 = turned_contents mid lay v1 x y log p.prepared p.lays p.laid ends.log_is p.torn p.time p.left p.leaves p.shut

  trail1 : Trail ShowsTable v1 v0.moment (table_of (contents_state x) ∷ []) 0
  trail1 =
      turned_trail mid lay v1 x y log p.prepared p.lays p.laid ends.log_is p.torn p.time v0 (is_free o.space) s.stands
      (free_beside o.space x (extents_taken o.promotion ++ others) s.open_over.space_is) p.tears

  filled : (length y.journal + x.sb.mem ≡ length x.journal) × (length y.journal + 2 ≤ y.sb.mem)
  filled = fill_after x y s.stands.sound s.open_over.going.begun.full p.prepared.next

  -- so the region that is active then has room for the change
  pub end_takes : Takes (contents_state y) change
  end_takes = record {
    sound = p.prepared.next.sound;
    accepted = (λ i. is_accepted (says.changes_max i) (says.versions_max i) (says.versions i) (says.marks i) (says.changes i) change) ∙ ends.accepted;
    room = omega (arith, filled.1);
  }

  abbrev next : Contents
  next = with_batch y (change ∷ [])

  sound : IsSound (contents_state (with_batch y turned.batch))
  sound = subst (λ (b : List Change). IsSound (contents_state (with_batch y b))) (sym append.one) (stays_sound (contents_state y) change end_takes)

  -- the contents with the change stand
  pub end_stands : ContentsStand v2 next
  end_stands = subst (λ (b : List Change). ContentsStand v2 (with_batch y b)) append.one (appended_stands v1 v2 y turned stands1 ends.turned_is append.appends sound append.stands ends.leaves)

  trail2 : Trail ShowsTable v2 v1.moment (table_of (contents_state y) ∷ table_of (contents_state next) ∷ []) 1
  trail2 = subst (λ (b : List Change). Trail ShowsTable v2 v1.moment (table_of (contents_state y) ∷ table_of (contents_state (with_batch y b)) ∷ []) 1) append.one
      (appended_trail v1 v2 y turned stands1 ends.turned_is append.appends sound append.stands)

  same : table_of (contents_state y) ≡ table_of (contents_state x)
  same = same_table (contents_state x) (contents_state y) says

  -- a trail of two tables
  pub end_trail : Trail ShowsTable v2 v0.moment (table_of (contents_state x) ∷ table_of (contents_state next) ∷ []) 1
  end_trail =
      trail_join ShowsTable v1 v2 v0.moment [] (table_of (contents_state next) ∷ []) (table_of (contents_state x)) 1 append.appends.time trail1
      (subst (λ (t : Table). Trail ShowsTable v2 v1.moment (t ∷ table_of (contents_state next) ∷ []) 1) same trail2)

  -- of which the later one is that of the step
  pub end_step : table_of (contents_state next) ≡ (step (table_of (contents_state x)) (request_for change)).table
  end_step = sym (steps_to (contents_state y) change end_takes) ∙ ap (λ (t : Table). (step t (request_for change)).table) same

  -- and the journal is shorter by a region, but for the change
  pub end_fill : length next.journal + x.sb.mem ≡ length x.journal + 1
  end_fill = omega (arith, filled.0, length-append y.journal (change ∷ []))

  -- where the journal just fills its region, it then has the change alone
  pub end_alone : length x.journal ≤ x.sb.mem → next.journal ≡ change ∷ []
  end_alone few = ap (λ (j : List Change). j ++ change ∷ []) (p.prepared.next.journal ∙ none_later x few)
