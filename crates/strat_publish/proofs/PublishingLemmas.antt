-- A publication of a store: the sync, the laying of the next superblock, and the turn of the journal.
use Rattle.std.proofs.Common.{◌≡◌, ◌≤◌, ◌<◌, ◌+◌, ◌*◌, ◌⊎◌, ℕ, false, inl, inr, [], ◌∷◌, Some, Ok, refl, sym, subst, arith}
use Rattle.std.proofs.lemmas.Bool.{ltb-false}
use Rattle.def_crash.specs.Blocks.{TearsBlocks}
use Rattle.def_crash.specs.Image.{Image}
use Rattle.def_crash.specs.Moments.{DiskView, Exposes, Images, Since, Passes, TearsOnly, OnlyReads, IsDurable}
use Rattle.def_crash.specs.Trail.{Trail}
use Rattle.def_crash.proofs.BlockLemmas.{reads_tear_none}
use Rattle.def_crash.proofs.MomentLemmas.{each_then, now_since_start, settled_at, at_told}
use Rattle.def_bytes.specs.Layout.{region_at, first_free}
use Rattle.def_bytes.specs.SuperBlock.{Super, newest_in}
use Rattle.strat_gate.specs.Laying.{LaysOver, OldOrNew}
use Rattle.strat_journal.specs.Log.{Log, region_turned, IsRegionShut}
use Rattle.def_meaning.specs.StateTable.{table_of}
use Rattle.def_publish.specs.Appending.{IsLogOf}
use Rattle.def_publish.specs.Contents.{Contents, contents_state}
use Rattle.def_publish.specs.Publication.{IsPrepared, LaysSuper, HasLaid}
use Rattle.def_publish.specs.Standing.{ReadsAs, ShowsTable, AreFree, LeavesContent, ContentsStand}
use Rattle.def_publish.proofs.ComputedLemmas.{computed_prepared}
use Rattle.def_publish.proofs.FreeLemmas.{read_trail, still_told}
use Rattle.def_publish.proofs.PlaceLemmas.{places}
use Rattle.def_publish.proofs.PublishLemmas.{unlaid_trail, laying_reads, shutting_reads}
use Rattle.def_publish.proofs.TurnLemmas.{turned_log, turned_trail, turned_contents}
use Rattle.def_state.specs.State.{IsPaid}
use Rattle.strat_memory.proofs.PayingLemmas.{paid_as, paid_reads, paid_then}
use Rattle.strat_memory.specs.Paying.{ArePaidSince}
use Rattle.strat_publish.specs.Publishing.{IsComputed, is_in_front}

-- a call that tears a range in front of a space, on a disk that is durable
pub torn_in_front : (v w : DiskView) (mem at n : ℕ) → at + n ≤ 4096 * first_free mem → IsDurable v → LeavesContent w → TearsOnly v w at n → Passes v w → TearsBlocks (is_in_front mem) v w
torn_in_front v w mem at n within durable leaves torn time = record {
  images = λ c since.
      let one = torn.each c since in
      (one.0, one.1, λ b taken. record { byte = λ i from to. one.2.above i (let far = ltb-false b (first_free mem) taken in omega (arith, far, from, within)) });
  content = λ f g told now b taken.
      let left : Images w g = at_told w.content (Images w) g now leaves in
      let one = torn.each g (now_since_start v w g time left) in
      let same : one.0 ≡ f = settled_at v f told durable one.0 one.1 in
      record {
        byte = λ i from to.
            let far = ltb-false b (first_free mem) taken in
            subst (λ (d : Image). g i ≡ d i) same (one.2.above i (omega (arith, far, from, within)));
      };
  time = time;
}

-- no block at all is free
none_free : (x : Contents) → AreFree (λ b. false) x
none_free x = record { behind = λ b low. refl; unnamed = λ b named. refl }

module _ (v0 v1 : DiskView) (slot : ℕ) (sb : Super) (log : Log) (x y : Contents) (c : IsComputed v0 slot sb log x y) (reads : OnlyReads v0 v1) where
  -- up to the sync
  pub synced_trail : Trail ShowsTable v1 v0.moment (table_of (contents_state x) ∷ []) 0
  synced_trail = read_trail x v0 v1 reads c.stands

  pub synced_paid : IsPaid (contents_state x) → ArePaidSince v1 v0.moment
  synced_paid paid = paid_reads v0 v1 x c.stands reads paid

  -- an image of the old contents or of the new ones
  abbrev pub IsEither : Image → Type 0
  IsEither d = ReadsAs d x ⊎ ReadsAs d y

  pub synced_either : (d : Image) → Since v1 v0.moment d → IsEither d
  synced_either d since = inl (c.stands.reads d (reads.images.each d since))

  module _ (durable : IsDurable v1) (leaves1 : LeavesContent v1) where
    ready : IsPrepared v1 x y
    ready = computed_prepared v0 v1 x y c.made c.taken c.kept c.space c.others c.stands c.was c.next c.says c.used c.manifest reads durable leaves1

    -- a journal that turned is that of the next contents
    pub next_of : (turned : Log) → turned ≡ region_turned log → IsLogOf y turned
    next_of turned is = subst (IsLogOf y) (sym is) (turned_log x y log ready.next c.log_is)

    module _ (v2 : DiskView) (torn : TearsOnly v1 v2 (4096 * slot) 4096) (time : Passes v1 v2)
        (each : (f : Image) → LaysOver v1 f slot sb → (d : Image) → Since v2 v1.moment d → OldOrNew f slot sb d) where
      lays : LaysSuper v1 v2 y.slot y.sb
      lays =
          let as_laid : LaysSuper v1 v2 slot sb = record { images = torn; time = time; each = each } in
          subst (λ (n : ℕ). LaysSuper v1 v2 n y.sb) (sym c.slot_is) (subst (λ (b : Super). LaysSuper v1 v2 slot b) (sym c.sb_is) as_laid)

      -- up to the laying
      pub lay_trail : Trail ShowsTable v2 v0.moment (table_of (contents_state x) ∷ []) 0
      lay_trail = unlaid_trail v0 v1 x y (λ b. false) c.stands (none_free x) (reads_tear_none (λ b. false) v0 v1 reads) ready v2 lays

      pub lay_paid : IsPaid (contents_state x) → IsPaid (contents_state y) → ArePaidSince v2 v0.moment
      lay_paid was is = paid_then v1 v2 v0.moment time (synced_paid was) (λ d since. elim (laying_reads v1 x y ready v2 lays d since) [ inl old ↦ paid_as d x old was | inr new ↦ paid_as d y new is ])

      pub lay_either : (d : Image) → Since v2 v0.moment d → IsEither d
      lay_either = each_then v1 v2 v0.moment IsEither time synced_either (laying_reads v1 x y ready v2 lays)

      module _ (settled : IsDurable v2) (found : (f : Image) → LaysOver v1 f slot sb → (d : Image) → Images v2 d → newest_in d ≡ Ok (Some (slot, sb)))
          (v3 : DiskView) (shut : TearsOnly v2 v3 (region_at log.mem log.active) 1) (passes : Passes v2 v3) where
        laid : HasLaid v1 v2 y.slot y.sb
        laid =
            let as_laid : HasLaid v1 v2 slot sb = record { durable = settled; found = found } in
            subst (λ (n : ℕ). HasLaid v1 v2 n y.sb) (sym c.slot_is) (subst (λ (b : Super). HasLaid v1 v2 slot b) (sym c.sb_is) as_laid)

        -- up to the turn
        pub turn_trail : Trail ShowsTable v3 v0.moment (table_of (contents_state x) ∷ []) 0
        turn_trail = turned_trail v1 v2 v3 x y log ready lays laid c.log_is shut passes v0 (λ b. false) c.stands (none_free x) (reads_tear_none (λ b. false) v0 v1 reads)

        shut_there : TearsOnly v2 v3 (region_at x.sb.mem x.sb.region) 1
        shut_there = subst (λ (m : ℕ). TearsOnly v2 v3 (region_at m x.sb.region) 1) c.log_is.mem (subst (λ (r : ℕ). TearsOnly v2 v3 (region_at log.mem r) 1) c.log_is.active shut)

        pub turn_paid : IsPaid (contents_state x) → IsPaid (contents_state y) → ArePaidSince v3 v0.moment
        turn_paid was is = paid_then v2 v3 v0.moment passes (lay_paid was is) (λ d since. paid_as d y (shutting_reads v1 x y ready v2 lays laid v3 shut_there passes d since) is)

        pub turn_either : (d : Image) → Since v3 v0.moment d → IsEither d
        turn_either = each_then v2 v3 v0.moment IsEither passes lay_either (λ d since. inr (shutting_reads v1 x y ready v2 lays laid v3 shut_there passes d since))

        pub turn_stands : LeavesContent v2 → LeavesContent v3 → ((f : Image) → Exposes v2 f → IsDurable v2 → IsRegionShut v3 log.mem log.active) → ContentsStand v3 y
        turn_stands leaves2 leaves3 none =
            let told = still_told v1 v2 ready.stands.content time ready.stands.exposed leaves2 in
            turned_contents v1 v2 v3 x y log ready lays laid c.log_is shut passes leaves2 leaves3 (none told.content told.exposed settled)

-- where the region of a journal lies
pub gate_in_front : (mem active : ℕ) → active ≤ 1 → region_at mem active + 1 ≤ 4096 * first_free mem
gate_in_front mem active few = let p = places mem active few in omega (arith, p.in_front)

pub slot_in_front : (mem slot : ℕ) → slot < 2 → 4096 * slot + 4096 ≤ 4096 * first_free mem
slot_in_front mem slot few = omega (arith, few)
