-- Changes that wait to become durable together: what a store with them holds, and what their table tells.
use Rattle.std.proofs.Common.{◌≡◌, ◌≤◌, ◌<◌, ◌+◌, ℕ, suc, zero, Bool, true, ltb, inl, List, [], ◌∷◌, ◌++◌, length, Option, Some, None, refl, sym, ap, ◌∙◌, subst, true≢false, arith, append_assoc, length-append}
use Rattle.std.specs.Prelude.{Contains, fold, option_map, is_none, slice_get, unwrap_or}
use Rattle.std.proofs.lemmas.Bool.{and_parts, ltb-true}
use Rattle.std.proofs.lemmas.List.{append-nil}
use Rattle.std.proofs.lemmas.List.Sums.{fold-append}
use Rattle.strat_array.specs.Kept.{Blocks}
use Rattle.strat_base.specs.Change.{Change}
use Rattle.strat_base.specs.Change as change
use Rattle.strat_base.specs.Marks.{Marks}
use Rattle.strat_base.specs.Tree.{Parents}
use Rattle.def_crash.specs.Moments.{DiskView}
use Rattle.strat_cursor.specs.Held.{AreRowsOf, HeldCursor, HeldCursors}
use Rattle.strat_cursor.specs.Looking.{AreOfOldArrays}
use Rattle.strat_journal.specs.Log.{Log, batch_joined}
use Rattle.strat_model.specs.Answer.{Answer, accepts, plain}
use Rattle.strat_model.specs.Request.{Request}
use Rattle.strat_model.specs.Run.{IsAfter, Position, is_carried_out}
use Rattle.strat_model.proofs.FillLemmas.{carried}
use Rattle.strat_model.specs.Step.{Outcome, step}
use Rattle.strat_model.specs.Table.{Cursor, Table}
use Rattle.strat_model.specs.declared.replies.Refusal.{Refusal}
use Rattle.strat_model.specs.declared.replies.Reply.{Reply}
use Rattle.def_recovery.specs.Head.{head_versions}
use Rattle.def_recovery.specs.Opened.{parents_in}
use Rattle.def_recovery.specs.Opening.{state_of}
use Rattle.def_recovery.proofs.HeadLemmas.{state_with}
use Rattle.def_meaning.specs.StateTable.{request_for, table_of}
use Rattle.def_meaning.proofs.StateTableLemmas.{steps_to}
use Rattle.def_publish.specs.Appending.{IsLogOf, with_batch}
use Rattle.def_publish.specs.Batches.{TakesBatch}
use Rattle.def_publish.specs.Contents.{Contents, contents_head, contents_state}
use Rattle.def_publish.proofs.BatchLemmas.{batch_sound}
use Rattle.def_state.specs.Level.{Level}
use Rattle.def_state.specs.Sound.{Takes, are_accepted, is_accepted}
use Rattle.def_state.specs.State.{changes_of, marks_after, marks_of, tree_after, versions_of}
use Rattle.strat_memory.specs.Admitting.{chained_of}
use Rattle.strat_memory.specs.Held.{Held, IsConsistent, StandsAt, StandsWith, contents_held, head_held, position_at}
use Rattle.strat_memory.specs.Memory.{KeepsRows, Memory, memory_after, refusal_of_change, reply_to}
use Rattle.strat_memory.proofs.MemoryLawLemmas.{change_answered_with, change_taken}
use Rattle.strat_memory.specs.RecoveredFields.{held_of}
use Rattle.strat_memory.specs.declared.open_store.OpenStore.{OpenStore}
use Rattle.strat_store.specs.Applying.{change_wanted}
use Rattle.strat_store.specs.Staging.{HasRoomForStaged, IsStaged, IsStagedAt, has_place, held_joined, may_stage, position_staged, replies_over, replies_staged, reply_over, takes_staged, with_staged}
use Rattle.strat_store.proofs.AppliedLemmas.{beside, change_beside}
use Rattle.strat_store.proofs.ApplyLemmas.{spent_consistent, wanted_for}
use Rattle.strat_store.proofs.ChangingLemmas.{changes_it, cursors_stay, told_well}
use Rattle.strat_store.proofs.GoingLemmas.{open_as, sealed_stay}

-- the replies to changes and one more
replies_more : (ps : Parents) (batch : List Change) (c : Change) → replies_over ps (batch ++ c ∷ []) ≡ replies_over ps batch ++ reply_over (fold tree_after ps batch) c ∷ []
replies_more ps [] c = refl
replies_more ps (d ∷ batch) c = ap (λ (rs : List Reply). reply_over ps d ∷ rs) (replies_more (tree_after ps d) batch c)

replies_many : (ps : Parents) (batch : List Change) → length (replies_over ps batch) ≡ length batch
replies_many ps [] = refl
replies_many ps (c ∷ batch) = ap suc (replies_many (tree_after ps c) batch)

pub length_replies : (s : Held) → length (replies_staged s) ≡ length s.log.batch
length_replies s = replies_many (head_versions (head_held s)) s.log.batch

-- the last of a list
get_last : (xs : List Reply) (x : Reply) → slice_get (xs ++ x ∷ []) (length xs) ≡ Some x
get_last [] x = refl
get_last (y ∷ ys) x = get_last ys x

-- what memory tells of a change is what its tree tells
told_over : (m : Memory) (c : Change) → reply_over m.parents c ≡ reply_to m c
told_over m (change.Put v key value) = refl
told_over m (change.Delete v key) = refl
told_over m (change.Clone v) = refl
told_over m (change.DropVersion v) = refl

-- the replies to what is staged, and to one more
pub replies_next : (s : Held) → IsConsistent (held_joined s) → (c : Change) → replies_staged (with_staged s c) ≡ replies_staged s ++ reply_over s.memory.parents c ∷ []
replies_next s whole c =
    let versions = head_versions (head_held s) in
    let tree : fold tree_after versions s.log.batch ≡ s.memory.parents = sym (fold-append tree_after (parents_in s.chained.manifest) s.log.list s.log.batch) ∙ sym whole.memory.parents in
    replies_more versions s.log.batch c ∙ ap (λ (ps : Parents). replies_staged s ++ reply_over ps c ∷ []) tree

-- a reply that is there
pub told_there : (rs : List Reply) (i : ℕ) (other told : Reply) → i < length rs → told ≡ unwrap_or (slice_get rs i) other → slice_get rs i ≡ Some told
told_there [] i other told low is = absurd (omega (arith, low))
told_there (r ∷ rs) zero other told low is = ap (λ (q : Reply). Some q) (sym is)
told_there (r ∷ rs) (suc i) other told low is = told_there rs i other told (omega (arith, low)) is

-- with none staged a store is as ever
joined_list : (log : Log) → log.batch ≡ [] → batch_joined log ≡ log
joined_list log none = λ i. record {
  mem = log.mem;
  active = log.active;
  stale = log.stale;
  list = (ap (λ (cs : List Change). log.list ++ cs) none ∙ append-nil log.list) i;
  batch = sym none i;
}

pub joined_none : (s : Held) → s.log.batch ≡ [] → held_joined s ≡ s
joined_none s none = ap (λ (log : Log). record s { log = log }) (joined_list s.log none)

pub fits_none : (log : Log) → log.batch ≡ [] → HasRoomForStaged log
fits_none log none some = absurd (let size : length log.batch ≡ 0 = ap (λ (cs : List Change). length cs) none in omega (arith, size, some))

pub consistent_staged : (s : Held) → IsConsistent s → AreOfOldArrays s.chained.manifest.next_array s.cached → IsStaged s
consistent_staged s whole old = record {
  whole = subst IsConsistent (sym (joined_none s whole.log.batch)) whole;
  few = let none : length s.log.batch ≡ 0 = ap (λ (cs : List Change). length cs) whole.log.batch in omega (arith, none);
  room = fits_none s.log whole.log.batch;
  cached = old;
}

batch_none : (x : Contents) (batch : List Change) → batch ≡ [] → with_batch x batch ≡ x
batch_none x batch none = ap (λ (js : List Change). record x { journal = js }) (ap (λ (cs : List Change). x.journal ++ cs) none ∙ append-nil x.journal)

pub staged_none : (s : Held) (x : Contents) (rows : List Cursor) → s.log.batch ≡ [] → position_staged s x rows ≡ position_at s x rows
staged_none s x rows none = λ i. position_at (joined_none s none i) (batch_none x s.log.batch none i) rows

-- one more that is staged joins the list behind the others
pub joined_more : (log added : Log) (c : Change) → added ≡ record log { batch = log.batch ++ c ∷ [] } → batch_joined added ≡ record (batch_joined log) { list = (batch_joined log).list ++ c ∷ [] }
joined_more log added c is = ap batch_joined is ∙ ap (λ (js : List Change). record log { list = js; batch = [] }) (sym (append_assoc log.list log.batch (c ∷ [])))

-- between two commands with none staged
pub as_ever : (r : OpenStore) → r.journal.batch ≡ [] → ((cached : Blocks) → IsConsistent (held_joined (held_of r cached))) → (cached : Blocks) → IsConsistent (held_of r cached)
as_ever r none whole cached = subst IsConsistent (joined_none (held_of r cached) none) (whole cached)

pub ever_joined : (r : OpenStore) → ((cached : Blocks) → IsConsistent (held_of r cached)) → (cached : Blocks) → IsConsistent (held_joined (held_of r cached))
ever_joined r whole cached = subst IsConsistent (sym (joined_none (held_of r cached) (whole cached).log.batch)) (whole cached)

-- a store whose staged changes joined its list
pub joins_whole : (r new : OpenStore) → new ≡ record r { journal = batch_joined r.journal } → ((cached : Blocks) → IsConsistent (held_joined (held_of r cached))) → (cached : Blocks) → IsConsistent (held_of new cached)
joins_whole r new is whole cached = subst (λ (o : OpenStore). IsConsistent (held_of o cached)) (sym is) (whole cached)

-- as many replies are kept as changes are staged
pub replies_counted : (r : OpenStore) (cached : Blocks) (replies : List Reply) → replies ≡ replies_staged (held_of r cached) → length replies ≡ length r.journal.batch
replies_counted r cached replies are = ap (λ (rs : List Reply). length rs) are ∙ length_replies (held_of r cached)

-- and one more where one more is
pub replies_pushed : (r new : OpenStore) (cached : Blocks) (c : Change) (replies more : List Reply) (told : Reply) → IsConsistent (held_joined (held_of r cached)) → replies ≡ replies_staged (held_of r cached)
    → new ≡ record r { journal = record r.journal { batch = r.journal.batch ++ c ∷ [] }; memory = memory_after r.memory c } → told ≡ reply_over r.memory.parents c → more ≡ replies ++ told ∷ []
    → more ≡ replies_staged (held_of new cached)
replies_pushed r new cached c replies more told whole are is tells pushed =
    pushed
    ∙ ap (λ (rs : List Reply). rs ++ told ∷ []) are
    ∙ ap (λ (q : Reply). replies_staged (held_of r cached) ++ q ∷ []) tells
    ∙ sym (replies_next (held_of r cached) whole c)
    ∙ ap (λ (o : OpenStore). replies_staged (held_of o cached)) (sym is)

-- what holds between two calls
pub staged_of : (r : OpenStore) (cached : Blocks) (b : Bool) (replies : List Reply) → ((others : Blocks) → IsConsistent (held_joined (held_of r others))) → AreOfOldArrays (chained_of r.published).manifest.next_array cached
    → replies ≡ replies_staged (held_of r cached) → length replies ≤ 16 → HasRoomForStaged r.journal → IsStaged (record (held_of r cached) { spent = b })
staged_of r cached b replies whole old are few room = record {
  whole = spent_consistent (held_joined (held_of r cached)) b (whole cached);
  few = omega (arith, replies_counted r cached replies are, few);
  room = room;
  cached = old;
}

pub replies_none : (s : Held) → s.log.batch ≡ [] → replies_staged s ≡ []
replies_none s none = ap (λ (cs : List Change). replies_over (head_versions (head_held s)) cs) none

-- changes that are accepted behind others
accepted_rest : (cm vm : ℕ) (parents : Parents) (marks : Marks) (n : ℕ) (journal batch : List Change) → are_accepted cm vm parents marks n (journal ++ batch) ≡ true
    → are_accepted cm vm (fold tree_after parents journal) (fold marks_after marks journal) (n + length journal) batch ≡ true
accepted_rest cm vm parents marks n [] batch all =
    let at : n ≡ n + 0 = omega arith in
    subst (λ (k : ℕ). are_accepted cm vm parents marks k batch ≡ true) at all
accepted_rest cm vm parents marks n (c ∷ journal) batch all =
    let parts = and_parts (is_accepted cm vm parents marks n c) (are_accepted cm vm (tree_after parents c) (marks_after marks c) (suc n) (journal ++ batch)) all in
    let at : suc n + length journal ≡ n + suc (length journal) = omega arith in
    subst (λ (k : ℕ). are_accepted cm vm (fold tree_after (tree_after parents c) journal) (fold marks_after (marks_after marks c) journal) k batch ≡ true) at
    (accepted_rest cm vm (tree_after parents c) (marks_after marks c) (suc n) journal batch parts.1)

-- a store with staged changes that stands on a disk
module _ (v : DiskView) (s : Held) (x : Contents) (whole : IsConsistent (held_joined s)) (stands : StandsWith v s x) where
  abbrev y : Contents
  y = with_batch x s.log.batch

  pub staged_log : IsLogOf x s.log
  staged_log = record {
    mem = whole.log.mem ∙ sym (ap (λ (z : Contents). z.sb.mem) stands.held);
    active = whole.log.active ∙ sym (ap (λ (z : Contents). z.sb.region) stands.held);
    list = sym (ap (λ (z : Contents). z.journal) stands.held);
  }

  pub takes_batch : TakesBatch (contents_state x) s.log.batch
  takes_batch =
      let held : contents_held s x.levels ≡ x = sym stands.held in
      let accepted = accepted_rest s.sb.changes_max s.sb.versions_max (parents_in s.chained.manifest) s.chained.manifest.marks s.chained.manifest.changes s.log.list s.log.batch whole.accepted in
      let list : length s.log.list ≡ length x.journal = ap (λ (z : Contents). length z.journal) held in
      let mem : s.sb.mem ≡ x.sb.mem = ap (λ (z : Contents). z.sb.mem) held in
      record {
        sound = stands.stands.sound;
        accepted = subst (λ (z : Contents). are_accepted (contents_state z).changes_max (contents_state z).versions_max (versions_of (contents_state z)) (marks_of (contents_state z)) (changes_of (contents_state z)) s.log.batch ≡ true) held accepted;
        room = omega (arith, whole.log.few, whole.lawful.mem_least, length-append s.log.list s.log.batch, list, mem);
      }

  staged_read : state_of stands.stands.content (head_held (held_joined s)) ≡ Some (contents_state y)
  staged_read =
      ap (λ (z : Contents). state_of stands.stands.content (contents_head (with_batch z s.log.batch))) (sym stands.held)
      ∙ ap (λ (o : Option (List Level)). option_map (state_with (contents_head y)) o) (stands.stands.reads stands.stands.content stands.stands.left).lies.arrays

  -- one more that memory takes
  module _ (c : Change) (free : refusal_of_change s.memory c ≡ None) (room : length s.log.list + length s.log.batch < s.log.mem) where
    list_few : (length x.journal ≡ length s.log.list) × (x.sb.mem ≡ s.log.mem)
    list_few = (ap (λ (z : Contents). length z.journal) stands.held, sym staged_log.mem)

    next_takes : Takes (contents_state y) c
    next_takes = record {
      sound = batch_sound x s.log.batch takes_batch;
      accepted = change_taken stands.stands.content (head_held (held_joined s)) (contents_state y) s.memory staged_read whole.memory c free;
      room = omega (arith, room, list_few.0, list_few.1, length-append x.journal s.log.batch, whole.lawful.mem_least, whole.log.mem);
    }

    next_table : table_of (contents_state (with_batch x (s.log.batch ++ c ∷ []))) ≡ (step (table_of (contents_state y)) (request_for c)).table
    next_table =
        ap (λ (js : List Change). table_of (contents_state (record x { journal = js }))) (sym (append_assoc x.journal s.log.batch (c ∷ [])))
        ∙ sym (steps_to (contents_state y) c next_takes)

    module _ (rows : List Cursor) where
      abbrev p : Position
      p = position_staged s x rows

      abbrev q : Position
      q = position_staged (with_staged s c) x rows

      next_answer : (step p.table (request_for c)).answer ≡ plain (reply_to s.memory c)
      next_answer = change_answered_with stands.stands.content (head_held (held_joined s)) (contents_state y) s.memory staged_read whole.memory rows s.memory.cursors.next c free

      next_accepts : accepts (step p.table (request_for c)).answer.reply ≡ true
      next_accepts = ap (λ (a : Answer). accepts a.reply) next_answer ∙ (told_well s.memory c).0

      next_carried : is_carried_out p (request_for c) ≡ true
      next_carried = carried p (request_for c) (changes_it c) next_accepts

      next_fill : q.fill ≡ p.fill + 1
      next_fill = omega (arith, length-append s.log.list s.log.batch, length-append s.log.list (s.log.batch ++ c ∷ []), length-append s.log.batch (c ∷ []))

      under : p.fill < s.log.mem
      under = omega (arith, room, length-append s.log.list s.log.batch)

      next_place : IsAfter s.log.mem p (request_for c) q
      next_place = record {
        table = ap (λ (n : ℕ). beside (table_of (contents_state (with_batch x (s.log.batch ++ c ∷ [])))) rows n) (ap (λ (k : HeldCursors). k.next) (cursors_stay s.memory c))
            ∙ ap (λ (t : Table). beside t rows s.memory.cursors.next) next_table
            ∙ sym (ap (λ (o : Outcome). o.table) (change_beside (table_of (contents_state y)) rows s.memory.cursors.next c));
        fill = λ done. inl (omega (arith, under, whole.lawful.mem_least, whole.log.mem), next_fill);
        same = λ off. absurd (true≢false (sym next_carried ∙ off));
      }

    next_kept : slice_get (replies_staged (with_staged s c)) (length s.log.batch) ≡ Some (reply_to s.memory c)
    next_kept =
        ap (λ (n : ℕ). slice_get (replies_staged (with_staged s c)) n) (sym (length_replies s))
        ∙ ap (λ (rs : List Reply). slice_get rs (length (replies_staged s))) (replies_next s whole c ∙ ap (λ (r : Reply). replies_staged s ++ r ∷ []) (told_over s.memory c))
        ∙ get_last (replies_staged s) (reply_to s.memory c)

-- it still stands where one more is staged
stands_staged : (v : DiskView) (s : Held) (x : Contents) (rows : List Cursor) (c : Change) → KeepsRows s.memory (memory_after s.memory c) → StandsAt v s x rows → StandsAt v (with_staged s c) x rows
stands_staged v s x rows c keeps at =
    let f = at.stands.stands.content in
    let m = memory_after s.memory c in
    let same : m.cursors.opened ≡ s.memory.cursors.opened = ap (λ (k : HeldCursors). k.opened) (cursors_stay s.memory c) in
    record {
      stands = record {
        stands = at.stands.stands;
        held = at.stands.held;
        cached = at.stands.cached;
        filtered = at.stands.filtered;
        open_over = open_as f s (with_staged s c) x (length s.log.list) s.promoting (sealed_stay s.memory c) refl at.stands.open_over;
      };
      rows_are = subst (λ (cs : List HeldCursor). AreRowsOf f m.parents cs rows) (sym same) (keeps f rows at.rows_are);
      going = λ k of. at.going k (subst (λ (cs : List HeldCursor). Contains cs k) same of);
    }

-- what the test of a change says
none_of : (o : Option Refusal) → is_none o ≡ true → o ≡ None
none_of None is = refl
none_of (Some r) is = absurd (true≢false (sym is))

pub place_free : (s : Held) (c : Change) → takes_staged s (Some c) ≡ true → (has_place s.log ≡ true) × (refusal_of_change s.memory c ≡ None)
place_free s c takes =
    let parts = and_parts (has_place s.log) (is_none (refusal_of_change s.memory c)) takes in
    (parts.0, none_of (refusal_of_change s.memory c) parts.1)

pub place_room : (log : Log) → has_place log ≡ true → (length log.batch < 16) × (length log.list + length log.batch < log.mem)
place_room log place =
    let parts = and_parts (ltb (length log.batch) 16) (ltb (length log.list + length log.batch) log.mem) place in
    (ltb-true (length log.batch) 16 parts.0, ltb-true (length log.list + length log.batch) log.mem parts.1)

-- a change that is staged is the step of the table
pub staged_at : (v : DiskView) (s : Held) (x : Contents) (rows : List Cursor) (request : Request) (c : Change) → IsStaged s → StandsAt v s x rows → change_wanted request ≡ Some c → may_stage s request ≡ true
    → KeepsRows s.memory (memory_after s.memory c) → IsStagedAt v s x rows request (with_staged s c)
staged_at v s x rows request c staged at wanted may keeps =
    let takes : takes_staged s (Some c) ≡ true = ap (takes_staged s) (sym wanted) ∙ may in
    let parts = place_free s c takes in
    let free : refusal_of_change s.memory c ≡ None = parts.1 in
    let room = (place_room s.log parts.0).1 in
    subst (λ (r : Request). IsStagedAt v s x rows r (with_staged s c)) (wanted_for request c wanted)
    (record {
      carried = next_carried v s x staged.whole at.stands c free room rows;
      told = reply_to s.memory c;
      kept = next_kept v s x staged.whole at.stands c free room;
      answer = next_answer v s x staged.whole at.stands c free room rows;
      stands = stands_staged v s x rows c keeps at;
      place = next_place v s x staged.whole at.stands c free room rows;
    })
