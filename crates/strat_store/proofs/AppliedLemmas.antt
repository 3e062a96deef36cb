-- A change at a store with open cursors: it does to the table with its cursors what it does to the one without.
use Rattle.std.proofs.Common.{◌≡◌, ◌≢◌, ◌≤◌, ◌+◌, ◌&&◌, ℕ, Bool, true, false, not, eqb, inl, inr, ◌⊎◌, List, [], ◌∷◌, ◌++◌, length, Contains, Some, refl, sym, ap, subst, ◌∙◌, arith, true≢false}
use Rattle.std.specs.Prelude.{if◌then◌else◌}
use Rattle.strat_base.specs.Change.{Change}
use Rattle.strat_base.specs.Change as change
use Rattle.strat_base.specs.declared.descriptors.ArrayDesc.{ArrayDesc}
use Rattle.def_crash.specs.Blocks.{AgreeOn}
use Rattle.def_crash.specs.Image.{Image}
use Rattle.def_crash.specs.Moments.{DiskView}
use Rattle.strat_cursor.proofs.HoldingLemmas.{goes_on_in, goes_on_later}
use Rattle.strat_cursor.proofs.RowLemmas.{image_rows}
use Rattle.strat_cursor.proofs.RetiredLemmas.{retired_rest}
use Rattle.strat_cursor.specs.Cursors.{MayGoOn, arrays_named}
use Rattle.strat_cursor.specs.Held.{AreRowsOf, HeldCursor, HeldCursors}
use Rattle.def_bytes.specs.Arrays.{blocks_of}
use Rattle.def_bytes.specs.Chained.{Chained}
use Rattle.def_bytes.specs.Manifest.{Manifest}
use Rattle.strat_promote.specs.Job.{blocks_listed}
use Rattle.strat_model.specs.Answer.{Answer, accepts, plain}
use Rattle.strat_model.specs.Pairs.{Pairs, set, unset}
use Rattle.strat_model.specs.Run.{Position, is_carried_out, is_change, takes_memory}
use Rattle.strat_model.specs.Step.{Outcome, clone, drop_version, has_row, is_frozen, pairs_at, refuses, step, update, with_dropped, with_pairs}
use Rattle.strat_model.specs.Table.{Cursor, Table}
use Rattle.strat_model.specs.declared.replies.Refusal.TheVariants as why
use Rattle.strat_model.specs.declared.replies.Reply.TheVariants as reply
use Rattle.def_meaning.specs.StateTable.{request_for, table_of}
use Rattle.def_publish.specs.Next.{arrays_made}
use Rattle.def_publish.specs.Contents.{Contents, contents_state}
use Rattle.strat_store.proofs.CursoringLemmas.{agree_of, cursor_names}
use Rattle.strat_store.specs.Applying.{IsAppliedTo, is_fault}
use Rattle.strat_store.specs.Cursoring.{IsAppliedAt, LeavesCursors}
use Rattle.strat_memory.specs.Held.{Held, IsConsistent, StandsAt, StandsWith, arrays_held, position_at, position_with}
use Rattle.strat_memory.specs.Memory.{KeepsRows}
use Rattle.strat_publish.specs.Settling.{HasPublished, KeepsPublished, LeavesPublished, arrays_taken}
use Rattle.strat_store.proofs.LeavingLemmas.{wanted_of}

-- a table with other cursors
abbrev pub beside : Table → List Cursor → ℕ → Table
beside t rows next = record t { cursors = rows; next_cursor = next }

-- an outcome with other cursors
abbrev pub outcome_beside : Outcome → List Cursor → ℕ → Outcome
outcome_beside o rows next = record { answer = o.answer; table = beside o.table rows next }

update_beside : (t : Table) (rows : List Cursor) (next v : ℕ) (pairs : Pairs) → update (beside t rows next) v pairs ≡ outcome_beside (update t v pairs) rows next
update_beside t rows next v pairs = by (has_row t v) (is_frozen t v) (eqb t.changes t.changes_max)
  where
    done : Table → Outcome
    done z = record {
      answer = plain reply.Done;
      table = record z { rows = with_pairs z.rows v pairs; updates = z.updates + 1; changes = z.changes + 1 };
    }

    choose : Bool → Bool → Bool → Table → Outcome
    choose k frozen full z = if not k then refuses z why.UnknownVersion else if frozen then refuses z why.Frozen else if full then refuses z why.ChangeLimit else done z

    by : (k frozen full : Bool) → choose k frozen full (beside t rows next) ≡ outcome_beside (choose k frozen full t) rows next
    by false frozen full = refl
    by true true full = refl
    by true false true = refl
    by true false false = refl

clone_beside : (t : Table) (rows : List Cursor) (next v : ℕ) → clone (beside t rows next) v ≡ outcome_beside (clone t v) rows next
clone_beside t rows next v = by (has_row t v) (eqb (length t.rows) t.versions_max) (eqb t.changes t.changes_max)
  where
    done : Table → Outcome
    done z = record {
      answer = plain (reply.Made (length z.rows));
      table = record z { rows = z.rows ++ record { parent = Some v; dropped = false; pairs = pairs_at z v } ∷ []; changes = z.changes + 1 };
    }

    choose : Bool → Bool → Bool → Table → Outcome
    choose k many full z = if not k then refuses z why.UnknownVersion else if many then refuses z why.VersionLimit else if full then refuses z why.ChangeLimit else done z

    by : (k many full : Bool) → choose k many full (beside t rows next) ≡ outcome_beside (choose k many full t) rows next
    by false many full = refl
    by true true full = refl
    by true false true = refl
    by true false false = refl

drop_beside : (t : Table) (rows : List Cursor) (next v : ℕ) → drop_version (beside t rows next) v ≡ outcome_beside (drop_version t v) rows next
drop_beside t rows next v = by (has_row t v) (eqb v 0) (is_frozen t v) (eqb t.changes t.changes_max)
  where
    choose : Bool → Bool → Bool → Bool → Table → Outcome
    choose k first frozen full z =
        if not k then refuses z why.UnknownVersion else if first then refuses z why.Root else if frozen then refuses z why.Frozen else if full then refuses z why.ChangeLimit else
        record { answer = plain reply.Done; table = record z { rows = with_dropped z.rows v; changes = z.changes + 1 } }

    by : (k first frozen full : Bool) → choose k first frozen full (beside t rows next) ≡ outcome_beside (choose k first frozen full t) rows next
    by false first frozen full = refl
    by true true frozen full = refl
    by true false true full = refl
    by true false false true = refl
    by true false false false = refl

-- a change does the same beside any cursors
pub change_beside : (t : Table) (rows : List Cursor) (next : ℕ) (c : Change) → step (beside t rows next) (request_for c) ≡ outcome_beside (step t (request_for c)) rows next
change_beside t rows next (change.Put v key value) = update_beside t rows next v (set key value (pairs_at t v))
change_beside t rows next (change.Delete v key) = update_beside t rows next v (unset key (pairs_at t v))
change_beside t rows next (change.Clone v) = clone_beside t rows next v
change_beside t rows next (change.DropVersion v) = drop_beside t rows next v

-- a position with other cursors
abbrev place_beside : Position → List Cursor → ℕ → Position
place_beside p rows next = record { table = beside p.table rows next; fill = p.fill }

-- it is carried out beside any cursors, or beside none
carried_beside : (p : Position) (rows : List Cursor) (next : ℕ) (c : Change) → is_carried_out (place_beside p rows next) (request_for c) ≡ is_carried_out p (request_for c)
carried_beside p rows next c = ap (λ (o : Outcome). is_change (request_for c) && accepts o.answer.reply) (change_beside p.table rows next c)

-- a change takes memory
takes_for : (c : Change) → takes_memory (request_for c) ≡ true
takes_for (change.Put v key value) = refl
takes_for (change.Delete v key) = refl
takes_for (change.Clone v) = refl
takes_for (change.DropVersion v) = refl

-- the number of the next array never falls
pub next_later : (s new : Held) → KeepsPublished s new ⊎ HasPublished s new → s.chained.manifest.next_array ≤ new.chained.manifest.next_array
next_later s new (inl same) = let e : new.chained.manifest.next_array ≡ s.chained.manifest.next_array = ap (λ (k : Chained). k.manifest.next_array) same.chained in omega (arith, e)
next_later s new (inr has) =
    let e : new.chained.manifest.next_array ≡ s.chained.manifest.next_array + length (arrays_made has.after.are.made) = ap (λ (k : Manifest). k.next_array) has.after.are.manifest_is in
    omega (arith, e)

-- where the blocks of its arrays stay, what the cursors of a store had left stays, and they may go on
module _ (f g : Image) (s : Held) (whole : IsConsistent s) (agree : AgreeOn (blocks_listed (arrays_held s.memory s.levels)) f g) where
  named_agree : (a : ArrayDesc) → Contains (arrays_named s.memory.cursors.opened) a → AgreeOn (blocks_of a.extents) f g
  named_agree a of = agree_of (arrays_held s.memory s.levels) f g a (whole.kept.named a of) agree

  pub rows_kept : (rows : List Cursor) → AreRowsOf f s.memory.parents s.memory.cursors.opened rows → AreRowsOf g s.memory.parents s.memory.cursors.opened rows
  rows_kept rows are = image_rows f g s.memory.parents s.memory.cursors.opened rows named_agree are

  pub going_kept : (c : HeldCursor) → Contains s.memory.cursors.opened c → MayGoOn f s.chained.manifest.next_array c s.cached → MayGoOn g s.chained.manifest.next_array c s.cached
  going_kept c of goes = goes_on_in f g s.chained.manifest.next_array c s.cached (λ a one. named_agree a (cursor_names s.memory.cursors.opened c a of one)) goes

-- a store that stands after a change has the cursors that it had
module _ (v now : DiskView) (s new : Held) (x : Contents) (rows : List Cursor) (c : Change) (answer : Answer) (carried : Bool) (whole : IsConsistent s) (at : StandsAt v s x rows)
    (leaves : LeavesPublished v now s carried answer.reply new) (cursors : LeavesCursors s (request_for c) answer new) (keeps : KeepsRows s.memory new.memory) (cached : new.cached ≡ s.cached) where
  abbrev f : Image
  f = at.stands.stands.content

  abbrev t : Table
  t = table_of (contents_state x)

  kept_cursors : (new.memory.cursors.opened ≡ s.memory.cursors.opened) × (new.memory.cursors.next ≡ s.memory.cursors.next)
  kept_cursors = elim (cursors.changed c (wanted_of c)) [
    | inl same ↦ (ap (λ (k : HeldCursors). k.opened) same, ap (λ (k : HeldCursors). k.next) same)
    | inr has ↦
        let gone = arrays_taken has.after.target s.chained.manifest in (
          ap (λ (k : HeldCursors). k.opened) has.after.cursors_are ∙ (retired_rest s.memory.cursors gone).0,
          ap (λ (k : HeldCursors). k.next) has.after.cursors_are ∙ (retired_rest s.memory.cursors gone).1,
        )
  ]

  later : s.chained.manifest.next_array ≤ new.chained.manifest.next_array
  later = next_later s new leaves.either

  stands_after : (y : Contents) → answer.reply ≢ reply.Refused why.DeviceFault → StandsWith now new y → StandsAt now new y rows
  stands_after y calm w = record {
    stands = w;
    rows_are = subst (λ (cs : List HeldCursor). AreRowsOf g new.memory.parents cs rows) (sym kept_cursors.0) (keeps g rows (image_rows f g s.memory.parents s.memory.cursors.opened rows agree_all at.rows_are));
    going = λ k of.
        let here = subst (λ (cs : List HeldCursor). Contains cs k) kept_cursors.0 of in
        goes_on_later g s.chained.manifest.next_array new.chained.manifest.next_array k new.cached later
        (subst (MayGoOn g s.chained.manifest.next_array k) (sym cached)
        (goes_on_in f g s.chained.manifest.next_array k s.cached (λ a one. agree_all a (cursor_names s.memory.cursors.opened k a here one)) (at.going k here)));
  }
    where
      g : Image
      g = w.stands.content

      agree_all : (a : ArrayDesc) → Contains (arrays_named s.memory.cursors.opened) a → AgreeOn (blocks_of a.extents) f g
      agree_all a of = agree_of (arrays_held s.memory s.levels) f g a (whole.kept.named a of) (leaves.beside calm f g at.stands.stands.exposed w.stands.exposed)

  place_after : (y : Contents) (p : Position) → position_with new y ≡ p → position_at new y rows ≡ place_beside p rows s.memory.cursors.next
  place_after y p is =
      ap (λ (n : ℕ). record { table = beside (table_of (contents_state y)) rows n; fill = length new.log.list }) kept_cursors.1
      ∙ ap (λ (q : Position). place_beside q rows s.memory.cursors.next) is

  -- no fault of the device
  calm_of : new.spent ≡ is_fault answer.reply → new.spent ≡ false → answer.reply ≢ reply.Refused why.DeviceFault
  calm_of spent going = λ failed. true≢false (sym (ap is_fault failed) ∙ (sym spent ∙ going))

  pub change_applied : new.spent ≡ is_fault answer.reply → IsAppliedTo now s x (request_for c) answer new → IsAppliedAt now s x rows (request_for c) answer new
  change_applied spent applied =
      let same = change_beside t rows s.memory.cursors.next c in
      let carried = carried_beside (position_with s x) rows s.memory.cursors.next c in
      elim applied [
        | inl is ↦ inl (record {
          told = is.told ∙ sym (ap (λ (o : Outcome). o.answer) same);
          going = is.going;
          after = is.after;
          left = rows;
          stands = stands_after is.after (calm_of spent is.going) is.stands;
          place = record {
            table = ap (λ (n : ℕ). beside (table_of (contents_state is.after)) rows n) kept_cursors.1
                ∙ ap (λ (u : Table). beside u rows s.memory.cursors.next) is.place.table
                ∙ sym (ap (λ (o : Outcome). o.table) same);
            fill = λ done. is.place.fill (sym carried ∙ done);
            same = λ off. is.place.same (sym carried ∙ off);
          };
        })
        | inr (inl is) ↦ inr (inl (record {
          takes = takes_for c;
          acceptable = ap (λ (o : Outcome). accepts o.answer.reply) same ∙ is.acceptable;
          full = λ _. is.full;
          told = is.told;
          going = is.going;
          stands = stands_after x (calm_of spent is.going) is.stands;
          place = place_after x (position_with s x) is.place;
        }))
        | inr (inr is) ↦ inr (inr (record {
          reached = is.reached;
          acceptable = ap (λ (o : Outcome). accepts o.answer.reply) same ∙ is.acceptable;
          told = is.told;
          spent = is.spent;
        }))
      ]
