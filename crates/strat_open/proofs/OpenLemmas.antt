-- A disk on which a store was recovered, while the region that is not active is shut.
use Rattle.std.proofs.Common.{◌≡◌, ◌≢◌, ◌<◌, ◌≤◌, ◌⊎◌, ℕ, Bool, true, false, inl, inr, List, [], ◌∷◌, length, replicate, Option, None, Some, Result, Ok, Err, refl, sym, ap, ◌∙◌, subst, arith, true≢false}
use Rattle.std.specs.Prelude.{IsTrue, IfErr, IfSome, IsErrOf, option_map, ◌↔◌}
use Rattle.strat_base.specs.declared.descriptors.ArrayDesc.{ArrayDesc}
use Rattle.strat_array.specs.Kept.{Blocks}
use Rattle.def_crash.specs.Faults.{HasCause, Rose}
use Rattle.def_crash.specs.Image.{Image, Outside}
use Rattle.def_crash.specs.Moments.{DiskView, Exposes, Images, Since, Passes, TearsOnly, IsDurable, KeepsImages, OnlyReads}
use Rattle.def_crash.specs.Trail.{Trail}
use Rattle.def_crash.proofs.MomentLemmas.{each_then, leaves_refl, leaves_tears, now_since_start, passes_trans, reads_trans, settled_at, since_now, at_told, reads_keep_durable}
use Rattle.def_crash.proofs.TrailLemmas.{trail_of_one}
use Rattle.strat_cursor.specs.Held.{no_cursors}
use Rattle.def_bytes.specs.Chained.{manifest_at}
use Rattle.def_bytes.specs.Layout.{region_at, other_region}
use Rattle.def_bytes.specs.SuperBlock.{Super}
use Rattle.strat_gate.specs.SuperView.{super_of}
use Rattle.strat_journal.specs.Log.{IsStale}
use Rattle.strat_model.specs.Table.{Table}
use Rattle.def_recovery.specs.Head.{Head, descriptors}
use Rattle.def_meaning.specs.StateTable.{table_of}
use Rattle.def_publish.specs.Contents.{Contents, contents_head, contents_state}
use Rattle.def_publish.specs.Standing.{ReadsAs, ShowsTable, LeavesContent, ContentsStand}
use Rattle.def_publish.proofs.FreeLemmas.{shows_contents}
use Rattle.def_publish.proofs.GateLemmas.{gate_kept, gate_stands, opened_stands}
use Rattle.def_publish.proofs.ListLemmas.{contained_among}
use Rattle.def_publish.proofs.PartsLemmas.{reads_head, reads_state, StateParts, state_parts}
use Rattle.def_publish.proofs.PlaceLemmas.{one_super}
use Rattle.def_state.specs.Sound.{IsSound}
use Rattle.strat_open.specs.declared.attach_fault.AttachFault.{AttachFault}
use Rattle.strat_open.specs.declared.attach_fault.AttachFault.TheVariants.{Device}
use Rattle.strat_open.specs.Following.{ChangesGateAlone, FollowsFrom, IsOpenedAs, LeavesOpening}
use Rattle.strat_memory.specs.Filters.{no_filters}
use Rattle.strat_memory.specs.Held.{contents_held, IsConsistent, IsOpenAt, StandsWith}
use Rattle.strat_cursor.specs.Looking.{AreCachedFrom}
use Rattle.strat_memory.specs.Paying.{IsPaidIn, ArePaidSince}
use Rattle.strat_memory.specs.Admitting.{chained_of}
use Rattle.strat_memory.specs.RecoveredFields.{head_recovered, held_of, empty_cache, open_of}
use Rattle.strat_open.specs.Recovering.{IsRecoveredFrom, ReadsAsSound}
use Rattle.strat_memory.specs.declared.open_store.OpenStore.{OpenStore}
use Rattle.strat_memory.specs.declared.open_store.Promoting.{Promoting}
use Rattle.strat_memory.proofs.FilterLemmas.{none_filtered}
use Rattle.strat_memory.proofs.OnDiskLemmas.{gate_on}
use Rattle.strat_memory.proofs.PayingLemmas.{paid_as, stored_since}

module _ (old : DiskView) (f : Image) (x : Contents) (sb : Super) (stale : Bool) (exposed : Exposes old f) (durable : IsDurable old) (same : x.sb ≡ sb) (is : ReadsAsSound f stale x) where
  -- each image reads as these contents
  each_reads : (c : Image) → Images old c → ReadsAs c x
  each_reads c left = subst (λ (d : Image). ReadsAs d x) (sym (settled_at old f exposed durable c left)) is.reads

  -- also where nothing was written
  pub quiet_reads : (c : Image) → Since old old.moment c → ReadsAs c x
  quiet_reads c since = each_reads c (since_now old c since)

  pub quiet_stands : LeavesContent old → stale ≡ false → ContentsStand old x
  quiet_stands leaves calm = opened_stands old f x exposed durable leaves is.reads is.sound (λ few up. true≢false (sym (is.stale_is.1 (few, up)) ∙ calm))

  module _ (new : DiskView) (due : stale ≡ true) (torn : TearsOnly old new (region_at sb.mem (other_region sb.region)) 1) where
    few : length x.journal < x.sb.mem
    few = (is.stale_is.0 due).0

    torn_there : TearsOnly old new (region_at x.sb.mem (other_region x.sb.region)) 1
    torn_there = subst (λ (s : Super). TearsOnly old new (region_at s.mem (other_region s.region)) 1) (sym same) torn

    pub shut_reads : (c : Image) → Since new old.moment c → ReadsAs c x
    shut_reads = gate_kept old new x few each_reads torn_there

    pub shut_stands : Passes old new → LeavesContent new → ((c : Image) → Images new c → c (region_at sb.mem (other_region sb.region)) ≢ 0xa7) → ContentsStand new x
    shut_stands time leaves shut =
        gate_stands old new x few each_reads torn_there is.sound time f exposed durable leaves
        (subst (λ (s : Super). (c : Image) → Images new c → c (region_at s.mem (other_region s.region)) ≢ 0xa7) (sym same) shut)

-- and where nothing had to be shut it was shut already
pub quiet_shut : (f : Image) (stale : Bool) (mem region count : ℕ) → (IsTrue stale ↔ IsStale f mem region count) → count < mem → stale ≡ false → (c : Image) → c ≡ f
    → c (region_at mem (other_region region)) ≢ 0xa7
quiet_shut f stale mem region count is few calm c same up =
    true≢false (sym (is.1 (few, ap (λ (d : Image). d (region_at mem (other_region region))) (sym same) ∙ up)) ∙ calm)

-- where nothing was written no byte was torn
pub quiet_tears : (v : DiskView) (at n : ℕ) → TearsOnly v v at n
quiet_tears v at n = leaves_tears v v at n (leaves_refl v)

-- a cache that has no block
none_cached : (g : Image) (next cap : ℕ) (arrays : List ArrayDesc) → AreCachedFrom g next arrays (record { entries = []; cap = cap })
none_cached g next cap arrays = record {
  old = λ k x there. absurd (contained_among [] (k, x) there);
  same = λ a index block x of there at. absurd (contained_among [] ((a.id, index), x) there);
}

-- the contents of an image that shows a table, in which this store was recovered
module _ (f : Image) (r : OpenStore) (is : IsRecoveredFrom f r) (t : Table) (shows : ShowsTable f t) where
  abbrev parts : StateParts f shows.state
  parts = state_parts f shows.state shows.reads

  abbrev pub opened_contents : Contents
  opened_contents = parts.contents

  supers : (opened_contents.slot ≡ r.slot) × (opened_contents.sb ≡ super_of r.sb)
  supers = one_super opened_contents.slot r.slot opened_contents.sb (super_of r.sb) (sym parts.reads.newest ∙ is.newest)

  pub opened_super : opened_contents.sb ≡ super_of r.sb
  opened_super = supers.1

  heads : contents_head opened_contents ≡ head_recovered r
  heads =
      let e : Ok (Some (contents_head opened_contents)) ≡ Ok (Some (head_recovered r)) = sym (reads_head f opened_contents parts.reads) ∙ is.head in
      cc

  chained : opened_contents.chained ≡ chained_of r.published
  chained =
      let e : Ok opened_contents.chained ≡ Ok (chained_of r.published) = sym parts.reads.lies.chain ∙ ap (λ (sb : Super). manifest_at sb.format f sb.manifest sb.length) opened_super ∙ is.chain in
      cc

  pub opened_held : (cached : Blocks) → opened_contents ≡ contents_held (held_of r cached) opened_contents.levels
  opened_held cap = λ i. record { slot = supers.0 i; sb = supers.1 i; chained = chained i; journal = (heads i).journal; levels = opened_contents.levels }

  opened_state : IsSound (contents_state opened_contents)
  opened_state = subst IsSound (sym parts.state) shows.sound

  pub opened_table : table_of (contents_state opened_contents) ≡ t
  opened_table = ap table_of parts.state ∙ shows.table

  pub opened_sound : ReadsAsSound f r.journal.stale opened_contents
  opened_sound = record {
    reads = parts.reads;
    sound = opened_state;
    stale_is = subst (λ (h : Head). IsTrue r.journal.stale ↔ IsStale f h.sb.mem h.sb.region (length h.journal)) (sym heads) is.stale;
  }

  pub held_stands : (now : DiskView) (cap : ℕ) → r.filters ≡ replicate 22 no_filters → r.promoting ≡ None → ContentsStand now opened_contents → StandsWith now (held_of r (empty_cache cap)) opened_contents
  held_stands now cap unfiltered unbegun stands = record {
    stands = stands;
    held = opened_held (empty_cache cap);
    cached = none_cached stands.content (chained_of r.published).manifest.next_array cap (descriptors (chained_of r.published).manifest);
    filtered = none_filtered opened_contents.levels r.filters unfiltered;
    open_over = subst (λ (p : Option Promoting). IfSome (option_map open_of p) (IsOpenAt stands.content (held_of r (empty_cache cap)) opened_contents (length r.journal.list))) (sym unbegun) tt;
  }

  -- a disk was synced and looked at, and then its images read as these contents
  module _ (before synced read now : DiskView) (exposed : Exposes before f) (syncs : OnlyReads before synced) (settled : IsDurable synced) (left : Images synced f)
      (looks : OnlyReads synced read) (passes : Passes read now) (images : (c : Image) → Since now read.moment c → ReadsAs c opened_contents) where
    there : synced.content ≡ Some f
    there = syncs.same ∙ exposed

    on : Passes synced now
    on = passes_trans looks.time passes

    shows_later : (c : Image) → Since now synced.moment c → ShowsTable c t
    shows_later = each_then read now synced.moment (λ c. ShowsTable c t) passes
        (λ c since. subst (λ (d : Image). ShowsTable d t) (sym (settled_at synced f there settled c (looks.images.each c since))) shows)
        (λ c since. subst (λ (u : Table). ShowsTable c u) opened_table (shows_contents c opened_contents opened_state (images c since)))

    trail : Trail ShowsTable now synced.moment (t ∷ []) 0
    trail = trail_of_one ShowsTable now synced.moment t [] on.later shows_later

    -- and is paid for where the content is
    paid_later : IsPaidIn f → ArePaidSince now synced.moment
    paid_later paid = each_then read now synced.moment IsPaidIn passes
        (λ c since. subst IsPaidIn (sym (settled_at synced f there settled c (looks.images.each c since))) paid)
        (λ c since. paid_as c opened_contents (images c since) (paid (contents_state opened_contents) (reads_state f opened_contents parts.reads)))

    pub opened_follows : FollowsFrom before now f (t ∷ []) 0
    opened_follows = record {
      synced = synced.moment;
      from = syncs.time.later;
      till = on.later;
      content = on.kept synced.moment f (omega arith) left;
      one = λ c left. settled_at synced f there settled c (on.past synced.moment c (omega arith) left);
      until = λ m c low high left. syncs.images.each c (record { at = m; from = low; till = high; left = on.past m c high left });
      trail = trail;
      left = λ c left. trail.each 0 now.moment c (omega arith) trail.last (omega arith) left;
      stored = stored_since now synced.moment (t ∷ []) 0 trail;
      paid = paid_later;
    }

-- no gate is shut behind a full region
calm_behind : (stale : Bool) (f : Image) (mem region n : ℕ) → (IsTrue stale ↔ IsStale f mem region n) → mem ≤ n → stale ≡ false
calm_behind true f mem region n is full = absurd (let few = (is.0 refl).0 in omega (arith, few, full))
calm_behind false f mem region n is full = refl

-- a disk was synced, a store was recovered from it, and the other region was shut
module _ (before synced read now : DiskView) (r : OpenStore) (syncs : OnlyReads before synced) (settled : IsDurable synced) (leaves : LeavesContent synced) (looks : OnlyReads synced read) (passes : Passes read now)
    (found : (f : Image) → Exposes before f → IsRecoveredFrom f r)
    (images : (f : Image) (x : Contents) → Exposes read f → IsDurable read → x.sb ≡ super_of r.sb → ReadsAsSound f r.journal.stale x → (c : Image) → Since now read.moment c → ReadsAs c x)
    (torn : TearsOnly read now (region_at r.sb.mem (other_region r.sb.region)) 1) where
  looked : (f : Image) → Exposes before f → (c : Image) → Images read c → c ≡ f
  looked f exposed = settled_at read f (looks.same ∙ syncs.same ∙ exposed) (reads_keep_durable synced read looks settled)

  at_gate : (f : Image) → Exposes before f → (c : Image) → Since now before.moment c → Images before c ⊎ Outside (region_at r.sb.mem (other_region r.sb.region)) 1 f c
  at_gate f exposed =
      let all : OnlyReads before read = reads_trans syncs looks in
      each_then read now before.moment (λ c. Images before c ⊎ Outside (region_at r.sb.mem (other_region r.sb.region)) 1 f c) passes
      (λ c since. inl (all.images.each c since))
      (λ c since.
      let t = torn.each c since in
      let is : t.0 ≡ f = settled_at read f (all.same ∙ exposed) (reads_keep_durable synced read looks settled) t.0 t.1 in
      inr (subst (λ (d : Image). Outside (region_at r.sb.mem (other_region r.sb.region)) 1 d c) is t.2))

  -- at the end each image is the content, but for that gate
  left_alone : (f : Image) → Exposes before f → (c : Image) → Images now c → Outside (region_at r.sb.mem (other_region r.sb.region)) 1 f c
  left_alone f exposed c left =
      let t = torn.each c (now_since_start read now c passes left) in
      let is : t.0 ≡ f = settled_at read f (looks.same ∙ syncs.same ∙ exposed) (reads_keep_durable synced read looks settled) t.0 t.1 in
      subst (λ (d : Image). Outside (region_at r.sb.mem (other_region r.sb.region)) 1 d c) is t.2

  gate_alone : (f : Image) → Exposes before f → ChangesGateAlone before now f r.slot (super_of r.sb)
  gate_alone f exposed = record { newest = (found f exposed).newest; images = at_gate f exposed }

  pub from_opening : (f : Image) (t : Table) → Exposes before f → ShowsTable f t → FollowsFrom before now f (t ∷ []) 0
  from_opening f t exposed shows =
      let there : synced.content ≡ Some f = syncs.same ∙ exposed in
      let is = found f exposed in
      opened_follows f r is t shows before synced read now exposed syncs settled (at_told synced.content (Images synced) f there leaves) looks passes
      (images f (opened_contents f r is t shows) (looks.same ∙ there) (reads_keep_durable synced read looks settled) (opened_super f r is t shows) (opened_sound f r is t shows))

  pub leaves_follows : (f : Image) → Exposes before f → LeavesOpening before now f
  leaves_follows f exposed = inr (record {
    slot = r.slot;
    sb = super_of r.sb;
    gate = gate_alone f exposed;
    follows = λ t shows. from_opening f t exposed shows;
  })

  pub opened_as : ((f : Image) (x : Contents) → Exposes read f → IsDurable read → x.sb ≡ super_of r.sb → ReadsAsSound f r.journal.stale x → ContentsStand now x)
      → ((f : Image) → Exposes read f → IsDurable read → length r.journal.list < r.sb.mem → (IsTrue r.journal.stale ↔ IsStale f r.sb.mem r.sb.region (length r.journal.list))
      → (c : Image) → Images now c → c (region_at r.sb.mem (other_region r.sb.region)) ≢ 0xa7)
      → (r.journal.stale ≡ false → now ≡ read)
      → r.memory.cursors ≡ no_cursors → r.filters ≡ replicate 22 no_filters → r.promoting ≡ None → ((cached : Blocks) → IsConsistent (held_of r cached)) → (cap : ℕ) → IsOpenedAs before now (held_of r (empty_cache cap))
  opened_as stands shuts calm none unfiltered unbegun whole cap = record {
    going = refl;
    closed = none;
    unfiltered = unfiltered;
    unbegun = ap (option_map open_of) unbegun;
    found = λ f exposed. (found f exposed).head;
    chain = λ f exposed. (found f exposed).chain;
    gate = gate_alone;
    on_disk = λ f exposed.
        let kept = whole (empty_cache cap) in
        let is = found f exposed in
        gate_on read now (held_of r (empty_cache cap)) f kept.belonging kept.lawful.region_most (looks.same ∙ syncs.same ∙ exposed) (reads_keep_durable synced read looks settled) is.newest is.chain torn passes (ap (option_map open_of) unbegun);
    alone = left_alone;
    shut = λ f exposed few. shuts f (looks.same ∙ syncs.same ∙ exposed) (reads_keep_durable synced read looks settled) few (found f exposed).stale;
    whole = λ f exposed full c left.
        let same : now ≡ read = calm (calm_behind r.journal.stale f r.sb.mem r.sb.region (length r.journal.list) (found f exposed).stale full) in
        looked f exposed c (subst (λ (v : DiskView). Images v c) same left);
    stands = λ f t exposed shows.
        let is = found f exposed in (
          opened_contents f r is t shows,
          held_stands f r is t shows now cap unfiltered unbegun
              (stands f (opened_contents f r is t shows) (looks.same ∙ syncs.same ∙ exposed) (reads_keep_durable synced read looks settled) (opened_super f r is t shows) (opened_sound f r is t shows)),
          opened_table f r is t shows,
        );
    follows = from_opening;
  }

-- a disk that was only read is as it was, whatever the outcome
pub looks_kept : {T : Type 0} (r : Result T AttachFault) (old new : DiskView) → OnlyReads old new → IfErr r (λ e. e ≢ Device → (new.content ≡ old.content) × KeepsImages old new)
looks_kept (Ok x) old new looks = tt
looks_kept (Err e) old new looks = λ _. (looks.same, looks.images)

-- a call that fails as the device did has its cause, where a fault was counted
pub failed_cause : {T : Type 0} (r : Result T AttachFault) (before now : ℕ) → IsErrOf r Device → before ≤ now → Rose before now → HasCause Device before now r
failed_cause (Ok x) before now is later rose = absurd (cc)
failed_cause (Err e) before now is later rose =
    let same : e ≡ Device = cc in
    record { later = later; ok = tt; device = λ failed. rose; other = λ no. absurd (no same) }
