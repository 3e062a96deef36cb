-- What a command leaves of the superblock and the manifest of a store.
use Rattle.std.proofs.Common.{◌≡◌, ◌≢◌, ◌≤◌, ◌<◌, ◌+◌, ◌*◌, ◌&&◌, ℕ, Bool, true, false, inl, inr, List, length, Contains, Option, Some, None, Ok, refl, sym, ap, ◌∙◌, subst, arith, true≢false}
use Rattle.std.specs.Prelude.{IfSome, option_map}
use Rattle.std.proofs.lemmas.Grind.{flat_map-append}
use Rattle.std.proofs.lemmas.List.Elements.{Contains-append_left, Contains-append_right}
use Rattle.strat_array.specs.Kept.{Blocks}
use Rattle.strat_base.specs.Change.{Change}
use Rattle.strat_base.specs.Change as change
use Rattle.strat_base.specs.Tree.{Parents}
use Rattle.strat_base.specs.declared.descriptors.ArrayDesc.{ArrayDesc}
use Rattle.strat_base.specs.declared.descriptors.LevelDesc.{LevelDesc}
use Rattle.strat_base.specs.declared.failures.Trouble.{Trouble}
use Rattle.strat_base.specs.declared.failures.Trouble.TheVariants as trouble
use Rattle.def_crash.proofs.BlockLemmas.{keeps_trans}
use Rattle.def_crash.specs.Blocks.{AgreeOn, KeepsTaken}
use Rattle.def_crash.specs.Image.{Image}
use Rattle.def_crash.specs.Moments.{DiskView, Exposes, Passes, TearsOnly, OnlyReads}
use Rattle.strat_cursor.proofs.RetiredLemmas.{retired_rest}
use Rattle.strat_cursor.specs.Cursors.{retired_all}
use Rattle.strat_cursor.specs.Held.{AreRowsOf, HeldCursor, HeldCursors}
use Rattle.strat_cursor.specs.Looking.{arrays_there}
use Rattle.def_bytes.specs.Arrays.{blocks_of}
use Rattle.def_bytes.specs.Chained.{Chained}
use Rattle.def_bytes.specs.Layout.{first_free, region_at, region_size}
use Rattle.def_bytes.specs.Manifest.{Manifest}
use Rattle.def_bytes.specs.SuperBlock.{Super, newest_in}
use Rattle.strat_model.specs.Answer.{Answer, accepts}
use Rattle.strat_model.specs.Request.{Request, Put, Delete, Clone, DropVersion}
use Rattle.strat_model.specs.Run.{is_change}
use Rattle.strat_model.specs.declared.replies.Refusal.{Refusal}
use Rattle.strat_model.specs.declared.replies.Refusal.TheVariants as why
use Rattle.strat_model.specs.declared.replies.Reply.{Reply}
use Rattle.strat_model.specs.declared.replies.Reply.TheVariants as reply
use Rattle.strat_store.specs.Applying.{HoldsTheSame, IsUntouched, change_wanted, is_fault, may_write, refusal_of_trouble}
use Rattle.strat_promote.specs.Job.{arrays_to, blocks_listed}
use Rattle.strat_promote.specs.Promotions.{ReadsOf, target_of}
use Rattle.def_meaning.specs.StateTable.{request_for}
use Rattle.def_publish.specs.Contents.{Contents, contents_state}
use Rattle.def_publish.specs.Standing.{ReadsAs}
use Rattle.def_slice.specs.Opened.{OpenPromotion}
use Rattle.def_state.specs.State.{IsPaid}
use Rattle.strat_store.specs.Cursoring.{LeavesCursors}
use Rattle.strat_memory.specs.Held.{HasReadFrom, Held, ArePlaced, IsConsistent, IsOnDisk, StandsWith, arrays_held, contents_held}
use Rattle.strat_memory.specs.Memory.{IsReadyFrom, KeepsRows, Memory, refusal_of_change, reply_to}
use Rattle.strat_memory.specs.Paying.{ArePaidSince}
use Rattle.strat_publish.specs.Counting.{CountsWritten}
use Rattle.strat_memory.specs.RecoveredFields.{held_of, open_of}
use Rattle.strat_memory.specs.declared.open_store.Promoting.{Promoting}
use Rattle.strat_publish.specs.Advancing.{StaysOpen}
use Rattle.strat_store.specs.Applying.{held_after}
use Rattle.strat_publish.specs.Publishing.{is_in_front}
use Rattle.strat_memory.specs.Filters.{LevelFilters}
use Rattle.strat_publish.specs.Settling.{ArePublishedAfter, HaveOldOrNext, KeepSuper, KeepsCursors, KeepsPublished, HasPublished, LeavesPublished, arrays_taken, carries_out}
use Rattle.strat_memory.specs.declared.open_store.OpenStore.{OpenStore}
use Rattle.strat_publish.proofs.AdvancingLemmas.{read_open}
use Rattle.strat_publish.proofs.KeptLemmas.{behind_kept, left_held}
use Rattle.strat_publish.proofs.LaidLemmas.{kept_on}
use Rattle.def_publish.proofs.PlaceLemmas.{places}
use Rattle.strat_memory.proofs.OnDiskLemmas.{behind_read, read_on, some_told, told_some, torn_on}
use Rattle.strat_memory.proofs.PayingLemmas.{paid_reads}
use Rattle.strat_publish.proofs.SealedLemmas.{ready_cursors}
use Rattle.strat_publish.proofs.SettledLemmas.{agree_once}

-- in one of the journal's regions, where all behind the journal stays
logged_in : (v w : DiskView) (s : Held) (region : ℕ) → IsConsistent s → region ≤ 1 → TearsOnly v w (region_at s.log.mem region) (region_size s.log.mem) → Passes v w
    → ((f g : Image) → Exposes v f → Exposes w g → KeepsTaken (is_in_front s.sb.mem) f g) → IsOnDisk v s → IsOnDisk w s
logged_in v w s region whole low torn time keeps on =
    let p = places s.log.mem region low in
    torn_on v w s (region_at s.log.mem region) (region_size s.log.mem) whole.belonging p.behind_slots
    (subst (λ (n : ℕ). region_at s.log.mem region + region_size s.log.mem ≤ 4096 * first_free n) whole.log.mem p.in_front) torn time
    (λ f g was now. behind_read f g s whole (keeps f g was now)) on

-- what an open promotion has read, where the store keeps it and its levels
pub read_same : (f : Image) (s t : Held) → KeepsPublished s t → t.promoting ≡ s.promoting → HasReadFrom f s → HasReadFrom f t
read_same f s t same going read =
    let one = subst (λ (ls : List (Option LevelDesc)). IfSome s.promoting (λ o. ReadsOf f (arrays_to ls (target_of o.promotion)) o.promotion)) (sym same.levels) read in
    subst (λ (p : Option OpenPromotion). IfSome p (λ o. ReadsOf f (arrays_to t.levels (target_of o.promotion)) o.promotion)) (sym going) one

pub same_on : (v : DiskView) (s t : Held) → KeepsPublished s t → t.promoting ≡ s.promoting → IsOnDisk v s → IsOnDisk v t
same_on v s t same going on = kept_on v s t same (λ f now. read_same f s t same going (read_open v s on f now)) on

-- a change that was logged
pub logged_leaves : (v w : DiskView) (s t : Held) (region : ℕ) → IsConsistent s → region ≤ 1 → KeepsPublished s t → t.promoting ≡ s.promoting → TearsOnly v w (region_at s.log.mem region) (region_size s.log.mem) → Passes v w
    → ((f g : Image) → Exposes v f → Exposes w g → KeepsTaken (is_in_front s.sb.mem) f g) → IsOnDisk v s → IsOnDisk w t
logged_leaves v w s t region whole low same going torn time keeps on = same_on w s t same going (logged_in v w s region whole low torn time keeps on)

-- what is told of a change that is accepted is no refusal
pub taken_well : (m : Memory) (c : Change) (told : Reply) → told ≡ reply_to m c → (accepts told ≡ false → told ≡ reply.Refused why.DeviceFault) × (may_write told ≡ true)
taken_well m (change.Put v key value) told is = (λ refused. absurd (true≢false (sym (ap accepts is) ∙ refused)), ap may_write is)
taken_well m (change.Delete v key) told is = (λ refused. absurd (true≢false (sym (ap accepts is) ∙ refused)), ap may_write is)
taken_well m (change.Clone v) told is = (λ refused. absurd (true≢false (sym (ap accepts is) ∙ refused)), ap may_write is)
taken_well m (change.DropVersion v) told is = (λ refused. absurd (true≢false (sym (ap accepts is) ∙ refused)), ap may_write is)

pub taken_calm : (m : Memory) (c : Change) (told : Reply) → told ≡ reply_to m c → (b : ℕ) → told ≡ reply.Refused (why.Damaged b) → ⊥
taken_calm m (change.Put v key value) told is b bad = true≢false (sym (ap accepts is) ∙ ap accepts bad)
taken_calm m (change.Delete v key) told is b bad = true≢false (sym (ap accepts is) ∙ ap accepts bad)
taken_calm m (change.Clone v) told is b bad = true≢false (sym (ap accepts is) ∙ ap accepts bad)
taken_calm m (change.DropVersion v) told is b bad = true≢false (sym (ap accepts is) ∙ ap accepts bad)

-- nor is want of memory, or a fault, one that leaves the disk
pub troubled : (t : Trouble) (told : Refusal) → told ≡ refusal_of_trouble t → may_write (reply.Refused told) ≡ true
troubled trouble.NoMemory told is = ap (λ (q : Refusal). may_write (reply.Refused q)) is
troubled trouble.Device told is = ap (λ (q : Refusal). may_write (reply.Refused q)) is
troubled (trouble.Damaged b) told is = ap (λ (q : Refusal). may_write (reply.Refused q)) is

-- a command that asks for a change is one
wanted_change : (r : Request) (c : Change) → change_wanted r ≡ Some c → is_change r ≡ true
wanted_change (Put v key value) c wanted = refl
wanted_change (Delete v key) c wanted = refl
wanted_change (Clone v) c wanted = refl
wanted_change (DropVersion v) c wanted = refl
wanted_change _ c wanted = absurd (cc)

-- a store that keeps what is published, its journal and its memory, but for what is ready, holds the same once it has given up its promotion
pub holds_the_same : (r new : OpenStore) (cached : Blocks) (told : Reply) → KeepsPublished (held_of r cached) (held_of new cached) → new.journal ≡ r.journal
    → IsReadyFrom r.sb.mem r.memory new.memory → new.promoting ≡ None → HoldsTheSame (held_of r cached) (held_after new cached told)
holds_the_same r new cached told keeps journal memory none = (
  memory,
  λ i. record {
    slot = keeps.slot i;
    sb = keeps.sb i;
    chained = keeps.chained i;
    log = journal i;
    memory = new.memory;
    levels = keeps.levels i;
    filters = keeps.filters i;
    promoting = ap (λ (o : Option Promoting). option_map open_of o) none i;
    cached = cached;
    spent = is_fault told;
  },
)

-- a change that is refused leaves the disk as it was
pub untouched_by : (v w : DiskView) (request : Request) (c : Change) (r new : OpenStore) (cached : Blocks) (told : Reply) → change_wanted request ≡ Some c
    → ((q : Refusal) → refusal_of_change r.memory c ≡ Some q → (told ≡ reply.Refused q) × (new ≡ r) × OnlyReads v w) → (refusal_of_change r.memory c ≡ None → may_write told ≡ true)
    → (told ≡ reply.Refused why.NoMemory → HoldsTheSame (held_of r cached) (held_after new cached told))
    → IsUntouched v w request (held_of r cached) told (held_after new cached told)
untouched_by v w request c r new cached told wanted refuses writes same = record {
  looks = λ none. absurd (let x : Some c ≡ None = sym wanted ∙ none in cc);
  refused = λ d q asks e.
      let both : Some c ≡ Some d = sym wanted ∙ asks in
      let same : c ≡ d = cc in
      let one = refuses q (subst (λ (x : Change). refusal_of_change r.memory x ≡ Some q) (sym same) e) in
      (one.0, ap (λ (s : OpenStore). held_after s cached told) one.1, one.2);
  taken = λ d asks e.
      let both : Some c ≡ Some d = sym wanted ∙ asks in
      let same : c ≡ d = cc in
      writes (subst (λ (x : Change). refusal_of_change r.memory x ≡ None) (sym same) e);
  short = λ d asks short. same short;
  cached = λ d asks. refl;
  calm = λ may. by_refusal (refusal_of_change r.memory c) refl (may (wanted_change request c wanted));
}
  where
    by_refusal : (o : Option Refusal) → refusal_of_change r.memory c ≡ o → may_write told ≡ false → OnlyReads v w
    by_refusal None is still = absurd (true≢false (sym (writes is) ∙ still))
    by_refusal (Some q) is still = (refuses q is).2

-- the blocks of the arrays that a store holds are as they were
abbrev pub KeepsArrays : DiskView → DiskView → Held → Type 0
KeepsArrays v w s = (f g : Image) → Exposes v f → Exposes w g → AgreeOn (blocks_listed (arrays_held s.memory s.levels)) f g

-- those of the levels are among them
pub held_there : (s : Held) (b : ℕ) → Contains (blocks_listed (arrays_there s.levels)) b → Contains (blocks_listed (arrays_held s.memory s.levels)) b
held_there s b of =
    subst (λ (bs : List ℕ). Contains bs b) (sym (flat_map-append (λ (a : ArrayDesc). blocks_of a.extents) (arrays_there s.levels) s.memory.cursors.retired))
    (Contains-append_left (blocks_listed (arrays_there s.levels)) (blocks_listed s.memory.cursors.retired) b of)

read_keeps : (v w : DiskView) (s : Held) → OnlyReads v w → KeepsArrays v w s
read_keeps v w s reads f g was now = agree_once v f g (blocks_listed (arrays_held s.memory s.levels)) was (sym reads.same ∙ now)

-- where those behind the journal stay
pub front_keeps : (v w : DiskView) (s : Held) → IsConsistent s → ((f g : Image) → Exposes v f → Exposes w g → KeepsTaken (is_in_front s.sb.mem) f g) → KeepsArrays v w s
front_keeps v w s whole keeps f g was now = behind_kept s s.sb.mem f g whole refl (keeps f g was now)

-- over two calls
pub both_keep : (v u w : DiskView) (s : Held) (mem : ℕ) → IsConsistent s → mem ≡ s.sb.mem → Passes v u → KeepsArrays v u s → ((f g : Image) → Exposes u f → Exposes w g → KeepsTaken (is_in_front mem) f g) → KeepsArrays v w s
both_keep v u w s mem whole mem_is time first second f g was now b of =
    let mid = some_told u.content (time.exposed (told_some v.content f was)) in
    keeps_trans b f mid.0 g (first f mid.0 was mid.1 b of) (behind_kept s mem mid.0 g whole mem_is (second mid.0 g mid.1 now) b of)

-- a store that is spent or not holds the same
pub keeps_spent : (s t : Held) (b : Bool) → KeepsPublished s t → KeepsPublished s (record t { spent = b })
keeps_spent s t b same = record { slot = same.slot; sb = same.sb; chained = same.chained; levels = same.levels; filters = same.filters }

pub on_spent : (v : DiskView) (s : Held) (b : Bool) → IsOnDisk v s → IsOnDisk v (record s { spent = b })
on_spent v s b on = record { content = on.content; exposed = on.exposed; newest = on.newest; chain = on.chain; read = on.read }

-- an image of contents that a store holds has the superblock that it holds
pub super_held : (s : Held) (x : Contents) (c : Image) → x ≡ contents_held s x.levels → ReadsAs c x → newest_in c ≡ Ok (Some (s.slot, s.sb))
super_held s x c held reads = reads.newest ∙ ap (λ (y : Contents). Ok (Some (y.slot, y.sb))) held

-- what keeps that of a store which holds the same, or of one that has published since, has the old one or the next one
pub super_kept : (w : DiskView) (start : ℕ) (s mid : Held) → KeepsPublished s mid → KeepSuper w start mid.slot mid.sb → HaveOldOrNext w start s.slot s.sb
super_kept w start s mid same keeps c since = inl (keeps c since ∙ (λ i. Ok (Some (same.slot i, same.sb i))))

pub super_next : (w : DiskView) (start : ℕ) (s mid : Held) → HasPublished s mid → KeepSuper w start mid.slot mid.sb → HaveOldOrNext w start s.slot s.sb
super_next w start s mid has keeps c since = inr (
  mid.sb,
  keeps c since ∙ ap (λ (n : ℕ). Ok (Some (n, mid.sb))) has.slot,
  ap (λ (b : Super). b.format) has.after.are.sb_is,
  ap (λ (b : Super). b.generation) has.after.are.sb_is,
)

-- nothing was carried out
pub left_alone : (v w : DiskView) (s : Held) (carried : Bool) (told : Reply) (b : Bool) → carried ≡ false → OnlyReads v w → LeavesPublished v w s carried told (record s { spent = b })
left_alone v w s carried told b none reads =
    let same : KeepsPublished s (record s { spent = b }) = record { slot = refl; sb = refl; chained = refl; levels = refl; filters = refl } in
    record {
      either = inl same;
      kept = λ _ _. same;
      next = λ done full. absurd (true≢false (sym done ∙ none));
      below = λ few. refl;
      on_disk = λ other on. on_spent w s b (read_on v w s on reads);
      beside = λ other. read_keeps v w s reads;
      paid = λ x stands paid. paid_reads v w x stands.stands reads paid;
      superblocks = λ x stands c since. inl (super_held s x c stands.held (stands.stands.reads c (reads.images.each c since)));
      counted = λ x stands. inl refl;
    }

-- nor where blocks were cached, and cursors opened, paged or closed
pub left_queried : (v w : DiskView) (r new : OpenStore) (m : Memory) (old now : Blocks) (carried : Bool) (told : Reply) (b : Bool) → new ≡ record r { memory = m } → carried ≡ false → OnlyReads v w
    → LeavesPublished v w (held_of r old) carried told (record (held_of new now) { spent = b })
left_queried v w r new m old now carried told b is none reads =
    let s : Held = held_of r old in
    let t : Held = record (held_of (record r { memory = m }) now) { spent = b } in
    let same : KeepsPublished s t = record { slot = refl; sb = refl; chained = refl; levels = refl; filters = refl } in
    subst (λ (z : OpenStore). LeavesPublished v w s carried told (record (held_of z now) { spent = b })) (sym is)
    (record {
      either = inl same;
      kept = λ _ _. same;
      next = λ done full. absurd (true≢false (sym done ∙ none));
      below = λ few. refl;
      on_disk = λ other on. same_on w s t same refl (read_on v w s on reads);
      beside = λ other. read_keeps v w s reads;
      paid = λ x stands paid. paid_reads v w x stands.stands reads paid;
      superblocks = λ x stands c since. inl (super_held s x c stands.held (stands.stands.reads c (reads.images.each c since)));
      counted = λ x stands. inl refl;
    })

-- a change was carried out, or met a fault, where the journal had room
pub leaves_room : (v w : DiskView) (s t : Held) (carried : Bool) (told : Reply) (b : Bool) → length s.log.list < s.log.mem → KeepsPublished s t → t.promoting ≡ s.promoting → (told ≢ reply.Refused why.DeviceFault → IsOnDisk v s → IsOnDisk w t)
    → ((x : Contents) → StandsWith v s x → (IsPaid (contents_state x) → ArePaidSince w v.moment) × HaveOldOrNext w v.moment s.slot s.sb) → (told ≢ reply.Refused why.DeviceFault → KeepsArrays v w s)
    → LeavesPublished v w s carried told (record t { spent = b })
leaves_room v w s t carried told b room same going still pays agree =
    let all = keeps_spent s t b same in
    record {
      either = inl all;
      kept = λ _ _. all;
      next = λ done full. absurd (omega (arith, full, room));
      below = λ few. going;
      on_disk = λ other on. on_spent w t b (still other on);
      beside = agree;
      paid = λ x stands. (pays x stands).0;
      superblocks = λ x stands. (pays x stands).1;
      counted = λ x stands. inl (ap (λ (c : Chained). c.manifest) same.chained);
    }

-- a publication gave up
pub gives_up : (v w : DiskView) (r new : OpenStore) (cached : Blocks) (t : Trouble) (told : Refusal) → told ≡ refusal_of_trouble t → r.journal.mem ≤ length r.journal.list → KeepsPublished (held_of r cached) (held_of new cached)
    → ((t ≡ trouble.Device → ⊥) → IsOnDisk v (held_of r cached) → IsOnDisk w (held_of new cached))
    → ((x : Contents) → StandsWith v (held_of r cached) x → (IsPaid (contents_state x) → ArePaidSince w v.moment) × HaveOldOrNext w v.moment (held_of r cached).slot (held_of r cached).sb) → KeepsArrays v w (held_of r cached)
    → LeavesPublished v w (held_of r cached) false (reply.Refused told) (held_after new cached (reply.Refused told))
gives_up v w r new cached t told is full same still pays agree =
    let all = keeps_spent (held_of r cached) (held_of new cached) (is_fault (reply.Refused told)) same in
    record {
      either = inl all;
      kept = λ _ _. all;
      next = λ done full. absurd (true≢false (sym done));
      below = λ few. absurd (omega (arith, full, few));
      on_disk = λ other on. on_spent w (held_of new cached) (is_fault (reply.Refused told)) (still (λ e. other (ap (λ (q : Refusal). reply.Refused q) (is ∙ ap refusal_of_trouble e))) on);
      beside = λ other. agree;
      paid = λ x stands. (pays x stands).0;
      superblocks = λ x stands. (pays x stands).1;
      counted = λ x stands. inl (ap (λ (c : Chained). c.manifest) same.chained);
    }

-- what a publication left stays behind a change
pub still_published : (s mid t : Held) → HasPublished s mid → KeepsPublished mid t → t.memory.cursors ≡ mid.memory.cursors → t.promoting ≡ mid.promoting → HasPublished s t
still_published s mid t has same cursors going =
    let manifest_is : t.chained.manifest ≡ mid.chained.manifest = ap (λ (c : Chained). c.manifest) same.chained in
    let gone : List ArrayDesc = arrays_taken has.after.target s.chained.manifest in
    record {
      full = has.full;
      closed = going ∙ has.closed;
      slot = same.slot ∙ has.slot;
      after = record {
        target = has.after.target;
        made = has.after.made;
        low = has.after.low;
        are = record {
          made = has.after.are.made;
          first = has.after.are.first;
          size = has.after.are.size;
          numbered = has.after.are.numbered;
          manifest_is = manifest_is ∙ has.after.are.manifest_is;
          sb_is = same.sb ∙ has.after.are.sb_is;
        };
        cursors_are = subst (λ (cs : HeldCursors). cs ≡ record (retired_all gone s.memory.cursors) { room = cs.room }) (sym cursors) has.after.cursors_are;
        filters_are = same.filters ∙ has.after.filters_are;
      };
    }

pub renews : (v u w : DiskView) (s mid t : Held) (told : Reply) → HasPublished s mid → KeepsPublished mid t × (told ≢ reply.Refused why.DeviceFault → IsOnDisk u mid → IsOnDisk w t) → t.memory.cursors ≡ mid.memory.cursors → t.promoting ≡ mid.promoting
    → (accepts told ≡ false → told ≡ reply.Refused why.DeviceFault) → (IsOnDisk v s → IsOnDisk u mid)
    → ((x : Contents) → StandsWith v s x → (IsPaid (contents_state x) → ArePaidSince w v.moment) × HaveOldOrNext w v.moment s.slot s.sb)
    → ((x : Contents) → StandsWith v s x → CountsWritten s.chained.manifest mid.chained.manifest)
    → (told ≢ reply.Refused why.DeviceFault → KeepsArrays v w s)
    → LeavesPublished v w s (accepts told) told (record t { spent = is_fault told })
renews v u w s mid t told has keeps cursors going refused still pays counts agree =
    let manifest_is : t.chained.manifest ≡ mid.chained.manifest = ap (λ (c : Chained). c.manifest) keeps.0.chained in
    let done : HasPublished s (record t { spent = is_fault told }) = still_published s mid (record t { spent = is_fault told }) has (keeps_spent mid t (is_fault told) keeps.0) cursors going in
    record {
      either = inr done;
      kept = λ none other. absurd (other (refused none));
      next = λ did all. inl done;
      below = λ few. let full = has.full in absurd (omega (arith, full, few));
      on_disk = λ other on. on_spent w t (is_fault told) (keeps.1 other (still on));
      beside = agree;
      paid = λ x stands. (pays x stands).0;
      superblocks = λ x stands. (pays x stands).1;
      counted = λ x stands. inr (subst (CountsWritten s.chained.manifest) (sym manifest_is) (counts x stands));
    }

-- a store whose promotion stays open holds what it held
pub open_keeps : (s mid : Held) → StaysOpen s mid → KeepsPublished s mid
open_keeps s mid stays = record {
  slot = ap (λ (h : Held). h.slot) stays.held;
  sb = ap (λ (h : Held). h.sb) stays.held;
  chained = ap (λ (h : Held). h.chained) stays.held;
  levels = ap (λ (h : Held). h.levels) stays.held;
  filters = ap (λ (h : Held). h.filters) stays.held;
}

keeps_both : (s mid t : Held) → KeepsPublished s mid → KeepsPublished mid t → KeepsPublished s t
keeps_both s mid t first second = record {
  slot = second.slot ∙ first.slot;
  sb = second.sb ∙ first.sb;
  chained = second.chained ∙ first.chained;
  levels = second.levels ∙ first.levels;
  filters = second.filters ∙ first.filters;
}

-- and so it does behind a change
pub promotes : (v u w : DiskView) (s mid t : Held) (told : Reply) → StaysOpen s mid → KeepsPublished mid t × (told ≢ reply.Refused why.DeviceFault → IsOnDisk u mid → IsOnDisk w t) → t.promoting ≡ mid.promoting → (IsOnDisk v s → IsOnDisk u mid)
    → ((x : Contents) → StandsWith v s x → (IsPaid (contents_state x) → ArePaidSince w v.moment) × HaveOldOrNext w v.moment s.slot s.sb) → (told ≢ reply.Refused why.DeviceFault → KeepsArrays v w s)
    → LeavesPublished v w s (accepts told) told (record t { spent = is_fault told })
promotes v u w s mid t told stays keeps going still pays agree =
    let same : KeepsPublished s t = keeps_both s mid t (open_keeps s mid stays) keeps.0 in
    let all : KeepsPublished s (record t { spent = is_fault told }) = keeps_spent s t (is_fault told) same in
    record {
      either = inl all;
      kept = λ _ _. all;
      next = λ did full. inr (record { full = stays.full; room = stays.room; keeps = all; promotion = stays.promotion; open_is = going ∙ stays.open_is });
      below = λ few. let full = stays.full in absurd (omega (arith, full, few));
      on_disk = λ other on. on_spent w t (is_fault told) (keeps.1 other (still on));
      beside = agree;
      paid = λ x stands. (pays x stands).0;
      superblocks = λ x stands. (pays x stands).1;
      counted = λ x stands. inl (ap (λ (c : Chained). c.manifest) same.chained);
    }

-- what a change leaves of cursors
pub wanted_of : (c : Change) → change_wanted (request_for c) ≡ Some c
wanted_of (change.Put v key value) = refl
wanted_of (change.Delete v key) = refl
wanted_of (change.Clone v) = refl
wanted_of (change.DropVersion v) = refl

pub cursors_same : (s t : Held) → t.memory.cursors ≡ s.memory.cursors → KeepsCursors s t
cursors_same s t e = e ∙ (λ i. record s.memory.cursors { room = sym (ap (λ (cs : HeldCursors). cs.room) e) i })

pub cursors_ready : (s mid t : Held) → IsReadyFrom s.sb.mem s.memory mid.memory → t.memory.cursors ≡ mid.memory.cursors → KeepsCursors s t
cursors_ready s mid t ready e = e ∙ ready_cursors s.sb.mem s.memory mid.memory ready ∙ (λ i. record s.memory.cursors { room = sym (ap (λ (cs : HeldCursors). cs.room) e) i })

pub cursors_left : (s t : Held) (c : Change) (answer : Answer) → KeepsCursors s t → LeavesCursors s (request_for c) answer t
cursors_left s t c answer keeps = record {
  looked = λ none. absurd (let e : Some c ≡ None = sym (wanted_of c) ∙ none in cc);
  changed = λ d asks. inl keeps;
  retired = λ a of.
      let was : Contains s.memory.cursors.retired a = subst (λ (rs : List ArrayDesc). Contains rs a) (ap (λ (cs : HeldCursors). cs.retired) keeps) of in
      Contains-append_right (arrays_there s.levels) s.memory.cursors.retired a was;
}

pub cursors_published : (s t : Held) (c : Change) (answer : Answer) → ArePlaced s.chained.manifest.levels s.levels → HasPublished s t → LeavesCursors s (request_for c) answer t
cursors_published s t c answer placed has = record {
  looked = λ none. absurd (let e : Some c ≡ None = sym (wanted_of c) ∙ none in cc);
  changed = λ d asks. inr has;
  retired = λ a of. left_held s has.after.target a placed (subst (λ (rs : List ArrayDesc). Contains rs a) (ap (λ (cs : HeldCursors). cs.retired) has.after.cursors_are) of);
}

-- and of the cursors of a table
pub rows_renewed : (old mid new : Memory) → mid.parents ≡ old.parents → mid.cursors.opened ≡ old.cursors.opened → KeepsRows mid new → KeepsRows old new
rows_renewed old mid new parents opened keeps f rows are =
    subst (λ (cs : List HeldCursor). AreRowsOf f new.parents cs rows) opened (keeps f rows (
    subst (λ (ps : Parents). AreRowsOf f ps mid.cursors.opened rows) (sym parents) (subst (λ (cs : List HeldCursor). AreRowsOf f old.parents cs rows) (sym opened) are)
    ))

pub opened_after : (sb next_sb : Super) (m next : Manifest) (memory : Memory) (cursors : HeldCursors) (filters left : List LevelFilters) → ArePublishedAfter sb m memory filters next_sb next cursors left → cursors.opened ≡ memory.cursors.opened
opened_after sb next_sb m next memory cursors filters left after =
    ap (λ (cs : HeldCursors). cs.opened) after.cursors_are ∙ (retired_rest memory.cursors (arrays_taken after.target m)).0

pub leaves_wanted : (v w : DiskView) (s t : Held) (r : Request) (c : Change) (told : Reply) → change_wanted r ≡ Some c → LeavesPublished v w s (accepts told) told t
    → LeavesPublished v w s (carries_out r told) told t
leaves_wanted v w s t r c told wanted leaves =
    subst (λ (b : Bool). LeavesPublished v w s b told t) (sym (ap (λ (b : Bool). b && accepts told) (wanted_change r c wanted))) leaves
