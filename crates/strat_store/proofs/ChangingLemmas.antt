-- A change that is carried out on a store that stands.
use Rattle.std.proofs.Common.{◌≡◌, ◌≢◌, ◌≤◌, ◌<◌, ◌+◌, ◌-◌, ◌*◌, ℕ, suc, Bool, true, false, inl, inr, not, if◌then◌else◌, List, [], ◌∷◌, ◌++◌, length, Option, Some, None, refl, sym, ap, ◌∙◌, subst, true≢false, arith, length-append}
use Rattle.std.specs.List.{list_all}
use Rattle.std.proofs.lemmas.Bool.{and_parts, and_from, le-ltb}
use Rattle.std.proofs.lemmas.List.Folds.{list_all-append}
use Rattle.std.specs.Prelude.{IfSome, fold, is_some, option_map, flat_map}
use Rattle.strat_array.specs.Kept.{Blocks}
use Rattle.strat_base.specs.Change.{Change, is_lawful}
use Rattle.strat_base.specs.Change as change
use Rattle.strat_base.specs.Tree.{Parents}
use Rattle.strat_base.specs.declared.descriptors.ArrayDesc.{ArrayDesc}
use Rattle.strat_base.specs.declared.descriptors.LevelDesc.{LevelDesc}
use Rattle.strat_base.proofs.ListFacts.{Among, among_in_flat, among_right, get_among}
use Rattle.def_crash.specs.Blocks.{AgreeOn, KeepsBlock, KeepsTaken}
use Rattle.def_crash.specs.Image.{Image}
use Rattle.def_crash.specs.Moments.{DiskView, Exposes}
use Rattle.def_crash.specs.Trail.{Trail}
use Rattle.def_crash.proofs.ImageLemmas.{window_same}
use Rattle.strat_cursor.specs.Held.{AreRowsOf, HeldCursors}
use Rattle.def_bytes.specs.Arrays.{blocks_of}
use Rattle.def_bytes.specs.Block.{block_in}
use Rattle.def_bytes.specs.Chained.{Chained}
use Rattle.def_bytes.specs.Layout.{first_free}
use Rattle.def_bytes.specs.SuperBlock.{Super}
use Rattle.strat_gate.specs.SuperView.{super_of}
use Rattle.strat_journal.specs.Log.{Log, batch_region}
use Rattle.strat_model.specs.Answer.{plain, accepts}
use Rattle.strat_model.specs.Run.{is_carried_out, is_change, reaches_disk}
use Rattle.strat_model.proofs.FillLemmas.{carried}
use Rattle.strat_model.specs.Step.{step}
use Rattle.strat_model.specs.Table.{Table, bare}
use Rattle.strat_model.specs.declared.replies.Refusal.TheVariants as why
use Rattle.strat_model.specs.declared.replies.Reply.{Reply}
use Rattle.strat_model.specs.declared.replies.Reply.TheVariants as reply
use Rattle.def_recovery.specs.Head.{descriptors}
use Rattle.def_recovery.specs.Opened.{parents_in}
use Rattle.def_recovery.specs.Opening.{state_of}
use Rattle.def_meaning.specs.StateTable.{table_of, request_for}
use Rattle.def_recovery.proofs.HeadLemmas.{state_with}
use Rattle.def_meaning.proofs.StateTableLemmas.{accepts_same, steps_to}
use Rattle.def_publish.specs.Appending.{IsLogOf, with_batch}
use Rattle.def_publish.specs.Contents.{Contents, contents_head, contents_state}
use Rattle.def_publish.specs.Standing.{ShowsTable, ContentsStand}
use Rattle.def_publish.proofs.ListLemmas.{among_contained, contained_among}
use Rattle.def_state.specs.Level.{Level}
use Rattle.def_state.specs.Sound.{is_accepted, are_accepted, accepts_change, Takes}
use Rattle.def_state.specs.State.{tree_after, marks_after}
use Rattle.strat_store.specs.Applying.{IsAppliedTo, FollowsStep, is_fault, ran_short, table_left}
use Rattle.strat_memory.specs.Held.{AreKept, Held, IsOpenAt, head_held, contents_held, IsConsistent, StandsWith, position_with}
use Rattle.strat_cursor.specs.Looking.{AreCachedFrom}
use Rattle.strat_memory.specs.Memory.{HasRoomFor, KeepsRows, Memory, refusal_of_change, memory_after, reply_to, IsMemoryOf}
use Rattle.strat_publish.specs.Publishing.{is_in_front}
use Rattle.strat_memory.specs.Admitting.{chained_of}
use Rattle.strat_memory.specs.RecoveredFields.{held_of, open_of}
use Rattle.strat_store.specs.Applying.{held_after}
use Rattle.strat_memory.specs.declared.open_store.OpenStore.{OpenStore}
use Rattle.strat_publish.proofs.KeptLemmas.{named_behind}
use Rattle.strat_store.proofs.GoingLemmas.{going_more, open_more, sealed_stay}
use Rattle.strat_store.proofs.LoggingLemmas.{batch_low}
use Rattle.strat_memory.proofs.MemoryLawLemmas.{accepted_same, change_answered, change_taken, memory_follows, room_behind}
use Rattle.strat_base.specs.Marks.{Marks}

-- a command that asks for a change reaches the disk, and is one
pub reached : (c : Change) → reaches_disk (request_for c) ≡ true
reached (change.Put v key value) = refl
reached (change.Delete v key) = refl
reached (change.Clone v) = refl
reached (change.DropVersion v) = refl

pub changes_it : (c : Change) → is_change (request_for c) ≡ true
changes_it (change.Put v key value) = refl
changes_it (change.Delete v key) = refl
changes_it (change.Clone v) = refl
changes_it (change.DropVersion v) = refl

-- what is told of a change that is accepted is no refusal
pub told_well : (m : Memory) (c : Change) → (accepts (reply_to m c) ≡ true) × (is_fault (reply_to m c) ≡ false) × (ran_short (reply_to m c) ≡ false)
told_well m (change.Put v key value) = (refl, refl, refl)
told_well m (change.Delete v key) = (refl, refl, refl)
told_well m (change.Clone v) = (refl, refl, refl)
told_well m (change.DropVersion v) = (refl, refl, refl)

-- and no value
pub finds_none : (m : Memory) (c : Change) (told : Reply) → told ≡ reply_to m c → told ≢ reply.Found
finds_none m (change.Put v key value) told tells found = let e : reply.Done ≡ reply.Found = sym tells ∙ found in absurd (cc)
finds_none m (change.Delete v key) told tells found = let e : reply.Done ≡ reply.Found = sym tells ∙ found in absurd (cc)
finds_none m (change.Clone v) told tells found = let e : reply.Made (length m.parents) ≡ reply.Found = sym tells ∙ found in absurd (cc)
finds_none m (change.DropVersion v) told tells found = let e : reply.Done ≡ reply.Found = sym tells ∙ found in absurd (cc)

-- one more change is accepted behind others
accepted_more : (cm vm : ℕ) (parents : Parents) (marks : Marks) (n : ℕ) (journal : List Change) (c : Change) → are_accepted cm vm parents marks n journal ≡ true
    → is_accepted cm vm (fold tree_after parents journal) (fold marks_after marks journal) (n + length journal) c ≡ true → are_accepted cm vm parents marks n (journal ++ c ∷ []) ≡ true
accepted_more cm vm parents marks n [] c all one =
    let at : n + 0 ≡ n = omega arith in
    and_from (is_accepted cm vm parents marks n c) true (subst (λ (k : ℕ). is_accepted cm vm parents marks k c ≡ true) at one) refl
accepted_more cm vm parents marks n (d ∷ journal) c all one =
    let parts = and_parts (is_accepted cm vm parents marks n d) (are_accepted cm vm (tree_after parents d) (marks_after marks d) (suc n) journal) all in
    let at : n + suc (length journal) ≡ suc n + length journal = omega arith in
    and_from (is_accepted cm vm parents marks n d) (are_accepted cm vm (tree_after parents d) (marks_after marks d) (suc n) (journal ++ c ∷ [])) parts.0
    (accepted_more cm vm (tree_after parents d) (marks_after marks d) (suc n) journal c parts.1 (subst (λ (k : ℕ). is_accepted cm vm (fold tree_after (tree_after parents d) journal) (fold marks_after (marks_after marks d) journal) k c ≡ true) at one))

-- a change leaves cursors alone
pub cursors_stay : (m : Memory) (c : Change) → (memory_after m c).cursors ≡ m.cursors
cursors_stay m (change.Put v key value) = refl
cursors_stay m (change.Delete v key) = refl
cursors_stay m (change.Clone v) = refl
cursors_stay m (change.DropVersion v) = refl

kept_still : (sb : Super) (chained : Chained) (levels : List (Option LevelDesc)) (m k : Memory) → k.cursors ≡ m.cursors → AreKept sb chained levels m → AreKept sb chained levels k
kept_still sb chained levels m k same kept =
    let here : AreKept sb chained levels (record k { cursors = m.cursors }) =
    record { named = kept.named; needed = kept.needed; ids = kept.ids; below = kept.below; within = kept.within; once = kept.once; few = kept.few } in
    subst (λ (cs : HeldCursors). AreKept sb chained levels (record k { cursors = cs })) (sym same) here

-- the cursors of a table stay while the versions do
pub rows_stay : (m k : Memory) → k.parents ≡ m.parents → KeepsRows m k
rows_stay m k same f rows are = subst (λ (ps : Parents). AreRowsOf f ps m.cursors.opened rows) (sym same) are

-- blocks that are cached are as they stand on the disk while the blocks of arrays do
cached_still : (f g : Image) (chained : Chained) (c : Blocks) → AgreeOn (chained.blocks ++ flat_map (λ (a : ArrayDesc). blocks_of a.extents) (descriptors chained.manifest)) f g
    → AreCachedFrom f chained.manifest.next_array (descriptors chained.manifest) c → AreCachedFrom g chained.manifest.next_array (descriptors chained.manifest) c
cached_still f g chained c agree was = record {
  old = was.old;
  same = λ a index block x among there at.
      let named : Among block (flat_map (λ (a : ArrayDesc). blocks_of a.extents) (descriptors chained.manifest)) =
      among_in_flat (λ (a : ArrayDesc). blocks_of a.extents) (descriptors chained.manifest) a block (contained_among (descriptors chained.manifest) a among) (get_among (blocks_of a.extents) index block at) in
      let keeps : KeepsBlock block f g = agree block (among_contained _ block (among_right chained.blocks _ block named)) in
      ap block_in (window_same f g (4096 * block) 4096 keeps) ∙ was.same a index block x among there at;
}

-- so they are where the blocks behind the journal do
pub cached_behind : (f g : Image) (s : Held) → IsConsistent s → KeepsTaken (is_in_front s.sb.mem) f g → AreCachedFrom f s.chained.manifest.next_array (descriptors s.chained.manifest) s.cached
    → AreCachedFrom g s.chained.manifest.next_array (descriptors s.chained.manifest) s.cached
cached_behind f g s whole keeps was = cached_still f g s.chained s.cached (λ b of. keeps b (le-ltb b (first_free s.sb.mem) (named_behind s whole b of))) was

-- level 0 has room for a change where the journal has
pub room_kept : (s : Held) → IsConsistent s → (c : Change) → length s.log.list < 2 * s.sb.mem - 2 → (s.memory.sealed ≡ None → length s.log.list < s.sb.mem) → HasRoomFor s.memory c
room_kept s whole c room newer = room_behind (head_held s) s.memory whole.memory c newer room

module _ (r : OpenStore) (cached : Blocks) (kept : IsConsistent (held_of r cached)) where
  -- the journal is that of the contents that the store holds
  module _ (x : Contents) (held : x ≡ contents_held (held_of r cached) x.levels) where
    pub log_of : IsLogOf x r.journal
    log_of = record {
      mem = kept.log.mem ∙ sym (ap (λ (y : Contents). y.sb.mem) held);
      active = kept.log.active ∙ sym (ap (λ (y : Contents). y.sb.region) held);
      list = sym (ap (λ (y : Contents). y.journal) held);
    }

  -- the region that takes the next change is one of the two
  pub region_low : batch_region r.journal ≤ 1
  region_low = batch_low r.journal (omega (arith, kept.log.active, kept.lawful.region_most))

  -- a change that is not refused leaves a store consistent
  module _ (c : Change) (lawful : is_lawful c ≡ true) (free : refusal_of_change r.memory c ≡ None) (room : length r.journal.list < 2 * r.sb.mem - 2) (newer : r.memory.sealed ≡ None → length r.journal.list < r.sb.mem) where
    accepted_last : are_accepted r.sb.changes_max r.sb.versions_max (parents_in (chained_of r.published).manifest) (chained_of r.published).manifest.marks (chained_of r.published).manifest.changes (r.journal.list ++ c ∷ []) ≡ true
    accepted_last =
        let one : is_accepted r.memory.changes_max r.memory.versions_max r.memory.parents r.memory.marks r.memory.changes c ≡ true =
        accepted_same r.memory c ∙ ap (λ o. not (is_some o)) free in
        accepted_more r.sb.changes_max r.sb.versions_max (parents_in (chained_of r.published).manifest) (chained_of r.published).manifest.marks (chained_of r.published).manifest.changes r.journal.list c kept.accepted
        ((λ i. is_accepted (sym kept.memory.changes_max i) (sym kept.memory.versions_max i) (sym kept.memory.parents i) (sym kept.memory.marks i) (sym kept.memory.changes i) c) ∙ one)

    pub kept_more : (j : Log) (m : Memory) → j ≡ record r.journal { list = r.journal.list ++ c ∷ [] } → m ≡ memory_after r.memory c
        → IsConsistent (held_of (record r { journal = j; memory = m }) cached)
    kept_more j m grown follows =
        let list : r.journal.list ++ c ∷ [] ≡ j.list = sym (ap (λ (l : Log). l.list) grown) in
        record {
          slot = kept.slot;
          lawful = kept.lawful;
          spelled = kept.spelled;
          belonging = kept.belonging;
          log = record {
            mem = ap (λ (l : Log). l.mem) grown ∙ kept.log.mem;
            active = ap (λ (l : Log). l.active) grown ∙ kept.log.active;
            batch = ap (λ (l : Log). l.batch) grown ∙ kept.log.batch;
            few = omega (arith, room, ap length list, length-append r.journal.list (c ∷ []));
            lawful = subst (λ (cs : List Change). list_all is_lawful cs ≡ true) list
                (list_all-append is_lawful r.journal.list (c ∷ []) ∙ and_from (list_all is_lawful r.journal.list) (list_all is_lawful (c ∷ [])) kept.log.lawful (and_from (is_lawful c) true lawful refl));
          };
          accepted = subst (λ (cs : List Change). are_accepted r.sb.changes_max r.sb.versions_max (parents_in (chained_of r.published).manifest) (chained_of r.published).manifest.marks (chained_of r.published).manifest.changes cs ≡ true) list accepted_last;
          memory =
              let of : IsMemoryOf (record (head_held (held_of r cached)) { journal = r.journal.list ++ c ∷ [] }) (memory_after r.memory c) = memory_follows (head_held (held_of r cached)) r.memory kept.memory c free newer in
              subst (λ (m : Memory). IsMemoryOf (record (head_held (held_of r cached)) { journal = j.list }) m) (sym follows)
              (subst (λ (cs : List Change). IsMemoryOf (record (head_held (held_of r cached)) { journal = cs }) (memory_after r.memory c)) list of);
          placed = kept.placed;
          kept = kept_still (super_of r.sb) (chained_of r.published) r.published.levels r.memory m (ap (λ (k : Memory). k.cursors) follows ∙ cursors_stay r.memory c) kept.kept;
          going = going_more (held_of r cached) j m c (sym list) (ap (λ (k : Memory). k.sealed) follows ∙ sealed_stay r.memory c) (ap (λ (k : Memory). k.cursors) follows ∙ cursors_stay r.memory c) kept.going;
        }

  -- and what stands on the disk answers as its table does
  module _ (v : DiskView) (x : Contents) (stands : StandsWith v (held_of r cached) x) where
    pub state_held : state_of stands.stands.content (head_held (held_of r cached)) ≡ Some (contents_state x)
    state_held =
        ap (λ (y : Contents). state_of stands.stands.content (contents_head y)) (sym stands.held)
        ∙ ap (λ (o : Option (List Level)). option_map (state_with (contents_head x)) o) (stands.stands.reads stands.stands.content stands.stands.left).lies.arrays

    module _ (c : Change) (free : refusal_of_change r.memory c ≡ None) where
      answered : (step (table_of (contents_state x)) (request_for c)).answer ≡ plain (reply_to r.memory c)
      answered = change_answered stands.stands.content (head_held (held_of r cached)) (contents_state x) r.memory state_held kept.memory c free

      taken : accepts_change (contents_state x) c ≡ true
      taken = change_taken stands.stands.content (head_held (held_of r cached)) (contents_state x) r.memory state_held kept.memory c free

      pub acceptable : accepts (step (table_of (contents_state x)) (request_for c)).answer.reply ≡ true
      acceptable = accepts_same (contents_state x) c ∙ taken

      -- a fault of the device
      pub breaks : (r' : OpenStore) (w : DiskView) → IsAppliedTo w (held_of r cached) x (request_for c) (plain (reply.Refused why.DeviceFault)) (held_after r' cached (reply.Refused why.DeviceFault))
      breaks r' w = inr (inr (record { reached = reached c; acceptable = acceptable; told = refl; spent = refl }))

      module _ (room : length r.journal.list < 2 * r.sb.mem - 2) where
        pub takes : Takes (contents_state x) c
        takes = record {
          sound = stands.stands.sound;
          accepted = taken;
          room = omega (arith, room, ap (λ (y : Contents). length y.journal) stands.held, ap (λ (y : Contents). y.sb.mem) stands.held);
        }

        steps : table_of (contents_state (with_batch x (c ∷ []))) ≡ bare (step (table_of (contents_state x)) (request_for c)).table
        steps = ap bare (sym (steps_to (contents_state x) c takes))

        -- the trail of the tables before and after
        pub step_trail : (w : DiskView) (n : ℕ) → Trail ShowsTable w v.moment (table_of (contents_state x) ∷ table_of (contents_state (with_batch x (c ∷ []))) ∷ []) n
            → Trail ShowsTable w v.moment (table_of (contents_state x) ∷ bare (step (table_of (contents_state x)) (request_for c)).table ∷ []) n
        step_trail w n trail = subst (λ (t : Table). Trail ShowsTable w v.moment (table_of (contents_state x) ∷ t ∷ []) n) steps trail

        pub told_trail : (w : DiskView) (told : Reply) → told ≡ reply_to r.memory c → Trail ShowsTable w v.moment (table_of (contents_state x) ∷ table_of (contents_state (with_batch x (c ∷ []))) ∷ []) 1
            → FollowsStep v w x (request_for c) (plain told)
        told_trail w told tells trail =
            let well : true ≡ accepts told = sym (ap accepts tells ∙ (told_well r.memory c).0) in
            let still : false ≡ ran_short told = sym (ap ran_short tells ∙ (told_well r.memory c).2) in
            let t : Table = table_of (contents_state x) in
            subst (λ (b : Bool). Trail ShowsTable w v.moment (t ∷ table_left t (request_for c) told ∷ []) (if b then 1 else 0)) well
            (subst (λ (b : Bool). Trail ShowsTable w v.moment (t ∷ (if b then t else bare (step t (request_for c)).table) ∷ []) 1) still (step_trail w 1 trail))

        more_held : (j : Log) → j ≡ record r.journal { list = r.journal.list ++ c ∷ [] } → with_batch x (c ∷ []) ≡ contents_held (held_of (record r { journal = j }) cached) x.levels
        more_held j grown =
            ap (λ (y : Contents). with_batch y (c ∷ [])) stands.held
            ∙ ap (λ (cs : List Change). record { slot = r.slot; sb = super_of r.sb; chained = chained_of r.published; journal = cs; levels = x.levels }) (sym (ap (λ (l : Log). l.list) grown))

        -- one change more is in the journal, and that is carried out
        one_more : (j : Log) → j ≡ record r.journal { list = r.journal.list ++ c ∷ [] } → length j.list ≡ length r.journal.list + 1
        one_more j grown = ap (λ (l : Log). length l.list) grown ∙ length-append r.journal.list (c ∷ [])

        low : length r.journal.list < 2 * r.journal.mem - 2
        low = omega (arith, room, kept.log.mem)

        done_so : is_carried_out (position_with (held_of r cached) x) (request_for c) ≡ true
        done_so = carried (position_with (held_of r cached) x) (request_for c) (changes_it c) acceptable

        -- the blocks behind the journal stay
        behind : (w : DiskView) (now : ContentsStand w (with_batch x (c ∷ []))) → ((f g : Image) → Exposes v f → Exposes w g → KeepsTaken (is_in_front r.journal.mem) f g)
            → KeepsTaken (is_in_front r.sb.mem) stands.stands.content now.content
        behind w now keeps =
            subst (λ (n : ℕ). KeepsTaken (is_in_front n) stands.stands.content now.content) kept.log.mem (keeps stands.stands.content now.content stands.stands.exposed now.exposed)

        -- the change is carried out
        pub carries : (w : DiskView) (j : Log) (m : Memory) (told : Reply) → IfSome (option_map open_of r.promoting) (IsOpenAt stands.stands.content (held_of r cached) x (length r.journal.list + 1))
            → j ≡ record r.journal { list = r.journal.list ++ c ∷ [] } → m ≡ memory_after r.memory c → told ≡ reply_to r.memory c → ContentsStand w (with_batch x (c ∷ []))
            → ((f g : Image) → Exposes v f → Exposes w g → KeepsTaken (is_in_front r.journal.mem) f g)
            → IsAppliedTo w (held_of r cached) x (request_for c) (plain told) (held_after (record r { journal = j; memory = m }) cached told)
        carries w j m told next grown follows tells now keeps = inl (record {
          told = ap plain tells ∙ sym answered;
          going = ap is_fault tells ∙ (told_well r.memory c).1;
          after = with_batch x (c ∷ []);
          stands = record {
            stands = now;
            held = more_held j grown;
            cached = cached_behind stands.stands.content now.content (held_of r cached) kept (behind w now keeps) stands.cached;
            filtered = stands.filtered;
            open_over = open_more stands.stands.content now.content (held_of r cached) (held_after (record r { journal = j; memory = m }) cached told) x c (option_map open_of r.promoting)
                (stands.stands.reads stands.stands.content stands.stands.left) (ap (λ (y : Contents). length y.journal) stands.held) (one_more j grown)
                (subst (λ (y : Contents). KeepsTaken (is_in_front y.sb.mem) stands.stands.content now.content) (sym stands.held) (behind w now keeps))
                (ap (λ (k : Memory). k.sealed) follows ∙ sealed_stay r.memory c) refl next;
          };
          place = record {
            table = sym (steps_to (contents_state x) c takes);
            fill = λ done. inl (low, one_more j grown);
            same = λ off. absurd (true≢false (sym done_so ∙ off));
          };
        })
