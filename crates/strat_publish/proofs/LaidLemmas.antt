-- What a publication lays on a disk: another superblock and manifest stand there in the place of those before.
use Rattle.std.proofs.Common.{◌≡◌, ◌≢◌, ◌≤◌, ◌<◌, ◌-◌, ◌*◌, ℕ, Bool, true, false, inl, inr, List, [], Option, Some, None, Ok, refl, sym, ap, ◌∙◌, subst, arith}
use Rattle.std.specs.Prelude.{IsSome, IfSome}
use Rattle.std.proofs.lemmas.Bool.{cases_lt, le-ltb, ltb-false}
use Rattle.strat_base.specs.declared.descriptors.Extent.{Extent}
use Rattle.strat_base.specs.declared.descriptors.LevelDesc.{LevelDesc}
use Rattle.strat_base.proofs.ListFacts.{among_left}
use Rattle.def_crash.specs.Blocks.{KeepsTaken}
use Rattle.def_crash.specs.Image.{Image, SameIn}
use Rattle.def_crash.specs.Moments.{DiskView, Exposes, Images, Passes, TearsOnly, OnlyReads, IsDurable}
use Rattle.def_crash.proofs.ImageLemmas.{outside_same}
use Rattle.def_crash.proofs.MomentLemmas.{now_since_start, settled_at, at_told}
use Rattle.def_bytes.specs.Arrays.{blocks_of}
use Rattle.def_bytes.specs.Chained.{Chained, manifest_at}
use Rattle.def_bytes.specs.Layout.{region_at, first_free, newest_format}
use Rattle.def_bytes.specs.Manifest.{Manifest, manifest_bytes, is_lawful_manifest}
use Rattle.def_bytes.specs.SuperBlock.{Super, newest_in}
use Rattle.def_bytes.proofs.ChainLemmas.{chain_read}
use Rattle.strat_gate.specs.Laying.{LaysOver}
use Rattle.strat_promote.specs.Job.{blocks_listed}
use Rattle.def_recovery.specs.Head.{descriptors}
use Rattle.def_recovery.specs.Opening.{belongs}
use Rattle.def_publish.specs.Contents.{Contents, named_blocks}
use Rattle.def_publish.specs.Next.{HasManifest}
use Rattle.def_publish.specs.Standing.{LeavesContent}
use Rattle.def_publish.proofs.ListLemmas.{among_contained}
use Rattle.def_publish.proofs.LocalLemmas.{manifest_local}
use Rattle.def_publish.proofs.PlaceLemmas.{places, newest_chosen, newest_local}
use Rattle.strat_memory.specs.Filters.{LevelFilters}
use Rattle.strat_memory.specs.Held.{HasReadFrom, Held, IsConsistent, IsOnDisk, contents_held}
use Rattle.strat_publish.specs.Publishing.{IsWrittenTo, LaysSuperblock, WritesManifest}
use Rattle.strat_publish.specs.Settling.{KeepsPublished, WritesBeside, held_next}
use Rattle.strat_memory.proofs.OnDiskLemmas.{still_on, told_some, some_told, chain_behind, unread}

-- a store that holds the same superblock and manifest
pub kept_on : (v : DiskView) (s t : Held) → KeepsPublished s t → ((f : Image) → Exposes v f → HasReadFrom f t) → IsOnDisk v s → IsOnDisk v t
kept_on v s t same read on = record {
  content = on.content;
  exposed = on.exposed;
  newest = λ c left. on.newest c left ∙ (λ i. Ok (Some (sym same.slot i, sym same.sb i)));
  chain = λ c left. (λ i. manifest_at (same.sb i).format c (same.sb i).manifest (same.sb i).length) ∙ on.chain c left ∙ (λ i. Ok (sym same.chained i));
  read = read on.content on.exposed;
}

-- the slots lie in front of what is free
slots_same : (free : ℕ → Bool) (mem : ℕ) (d c : Image) → ((b : ℕ) → b < first_free mem → free b ≡ false) → KeepsTaken free d c → SameIn 0 8192 d c
slots_same free mem d c behind keeps = record {
  byte = λ i low high. elim (cases_lt i 4096) [
    | inl first ↦ (keeps 0 (behind 0 (omega arith))).byte i (omega arith) (omega (arith, first))
    | inr second ↦ (keeps 1 (behind 1 (omega arith))).byte i (omega (arith, second)) (omega (arith, high))
  ];
}

-- what was written is free beside what a store holds
pub beside_on : (v w : DiskView) (s : Held) → s.promoting ≡ None → WritesBeside v w s → IsOnDisk v s → IsOnDisk w s
beside_on v w s none beside on =
    let named : List ℕ = named_blocks (contents_held s []) in
    still_on v w s on beside.tears.time (λ f g was now read. unread g s none) (λ c left.
    let one = beside.tears.images c (now_since_start v w c beside.tears.time left) in (
      one.0,
      one.1,
      slots_same beside.free s.sb.mem one.0 c beside.beside.behind one.2,
      λ b among. one.2 b (beside.beside.unnamed b (among_contained named b (among_left s.chained.blocks (blocks_listed (descriptors s.chained.manifest)) b among))),
    ))

-- a superblock is laid on a disk that was synced, and then the gate of a region is shut
module _ (v0 v1 v2 v3 : DiskView) (slot : ℕ) (sb : Super) (mem active : ℕ) (few : slot < 2) (reads : OnlyReads v0 v1) (durable : IsDurable v1)
    (torn : TearsOnly v1 v2 (4096 * slot) 4096) (time : Passes v1 v2) (found : (f : Image) → LaysOver v1 f slot sb → (c : Image) → Images v2 c → newest_in c ≡ Ok (Some (slot, sb)))
    (shut : TearsOnly v2 v3 (region_at mem active) 1) (passes : Passes v2 v3) (one : active ≤ 1) where
  pub laid_superblock : LaysSuperblock v0 v3 mem slot sb
  laid_superblock = record {
    newest = λ f other was told is apart less c left.
        let there : Exposes v1 f = reads.same ∙ told in
        let chosen = newest_chosen f other was is in
        let over : LaysOver v1 f slot sb = record {
          content = there;
          same = λ d left. subst (λ (e : Image). SameIn 0 8192 f e) (sym (settled_at v1 f there durable d left)) (record { byte = λ i low high. refl });
          newest = subst (λ (o : Option (ℕ × Super)). IfSome o (λ s. (s.0 ≢ slot) × (s.1.generation < sb.generation))) (sym chosen.found) (apart, less);
        } in
        let last = shut.each c (now_since_start v2 v3 c passes left) in
        newest_local last.0 c (outside_same (region_at mem active) 1 0 8192 (places mem active one).behind_slots last.2) ∙ found f over last.0 last.1;
    behind = λ f c told left b taken.
        let there : Exposes v1 f = reads.same ∙ told in
        let last = shut.each c (now_since_start v2 v3 c passes left) in
        let first = torn.each last.0 (now_since_start v1 v2 last.0 time last.1) in
        let same : first.0 ≡ f = settled_at v1 f there durable first.0 first.1 in
        let far = ltb-false b (first_free mem) taken in
        let within = (places mem active one).in_front in
        record { byte = λ i from to. last.2.above i (omega (arith, far, from, within)) ∙ first.2.above i (omega (arith, far, from, few)) ∙ ap (λ (d : Image). d i) same };
  }

-- a manifest that was written is read
pub written_at : (v w u : DiskView) (first size : ℕ) (chain : List Extent) (m : Manifest) → Passes v w → is_lawful_manifest newest_format m ≡ true
    → (IsSome w.content → (g : Image) → Exposes u g → (new : Contents) → IsWrittenTo first size chain m new → HasManifest g new)
    → WritesManifest v u first size (record { manifest = m; blocks = blocks_of chain })
written_at v w u first size chain m time lawful stored some g told =
    let chained : Chained = record { manifest = m; blocks = blocks_of chain } in
    let new : Contents = record {
      slot = 0;
      sb = record { format = newest_format; generation = 0; manifest = first; length = size; region = 0; mem = 0; changes_max = 0; versions_max = 0 };
      chained = chained;
      journal = [];
      levels = [];
    } in
    let has = stored (time.exposed some) g told new (record { chained = refl; format = refl; first_is = refl; length_is = refl }) in
    ap (manifest_at newest_format g first) has.size ∙ chain_read newest_format g first has.others (manifest_bytes newest_format m) m (record { lawful = lawful; text = refl }) has.chain
    ∙ (λ i. Ok (record { manifest = m; blocks = sym has.blocks i }))

-- the same of a superblock and a manifest that are these
pub written_as : (v w : DiskView) (sb is : Super) (chained here : Chained) → is ≡ sb → here ≡ chained → WritesManifest v w sb.manifest sb.length chained → WritesManifest v w is.manifest is.length here
written_as v w sb is chained here sb_is chained_is written =
    subst (λ (k : Super). WritesManifest v w k.manifest k.length here) (sym sb_is) (subst (λ (ch : Chained). WritesManifest v w sb.manifest sb.length ch) (sym chained_is) written)

-- a superblock that leads to a manifest written beside what a store holds takes its place
pub published_on : (v w u : DiskView) (s : Held) (target : ℕ) (sb : Super) (chained : Chained) (levels : List (Option LevelDesc)) (made : LevelFilters) → IsConsistent s → s.promoting ≡ None → sb.format ≡ newest_format → WritesBeside v w s → WritesManifest v w sb.manifest sb.length chained
    → LeavesContent w → LaysSuperblock w u s.log.mem (1 - s.slot) sb → Passes w u → s.sb.generation < sb.generation → sb.mem ≡ s.sb.mem → belongs sb chained ≡ true
    → IsOnDisk v s → IsOnDisk u (held_next s target sb chained levels made)
published_on v w u s target sb chained levels made whole none format beside written leaves laid time greater mem belonging on =
    let mid = beside_on v w s none beside on in
    let told = some_told u.content (time.exposed (told_some w.content mid.content mid.exposed)) in
    let g : Image = mid.content in
    let log_mem = whole.log.mem in
    let slot = whole.slot in
    record {
      content = told.0;
      exposed = told.1;
      newest = λ c left. laid.newest g s.slot s.sb mid.exposed (mid.newest g (at_told w.content (Images w) g mid.exposed leaves)) (λ e. absurd (omega (arith, e, slot))) greater c left;
      chain = λ c left.
          manifest_local sb.format g c sb.manifest sb.length chained
          (ap (λ (f : ℕ). manifest_at f g sb.manifest sb.length) format ∙ written (told_some v.content on.content on.exposed) g mid.exposed)
          (λ b among.
          let behind = chain_behind (held_next s target sb chained levels made) belonging b among in
          laid.behind g c mid.exposed left b (le-ltb b (first_free s.log.mem) (omega (arith, behind, mem, log_mem))));
      read = tt;
    }
