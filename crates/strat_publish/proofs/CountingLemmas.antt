-- What a store pays for its arrays, while a publication writes and counts them.
use Rattle.std.proofs.Common.{◌≡◌, ◌+◌, ◌⊎◌, ℕ, Bool, true, false, leb, inl, inr, Some, Ok, List, ◌++◌, map, filter, flat_map, Contains, sym, ap, ◌∙◌, subst, arith, length}
use Rattle.std.specs.List.{sum_by}
use Rattle.std.specs.Option.{option_to_list}
use Rattle.std.proofs.lemmas.Bool.{le-leb, lt-leb}
use Rattle.std.proofs.lemmas.List.{append-nil}
use Rattle.std.proofs.lemmas.List.Concat.{flat_map-append}
use Rattle.std.proofs.lemmas.List.Elements.{filter-append}
use Rattle.strat_array.proofs.OrderLemmas.{filter_each, filter_none}
use Rattle.strat_base.proofs.ListFacts.{Among, among_right, range_among}
use Rattle.strat_base.specs.declared.descriptors.ArrayDesc.{ArrayDesc}
use Rattle.strat_base.specs.declared.descriptors.LevelDesc.{LevelDesc}
use Rattle.def_crash.specs.Image.{Image}
use Rattle.def_crash.specs.Moments.{DiskView, Since}
use Rattle.def_bytes.specs.Chained.{Chained}
use Rattle.def_bytes.specs.Manifest.{Manifest}
use Rattle.def_bytes.specs.SuperBlock.{Super}
use Rattle.def_split.proofs.ListLemmas.{among_map}
use Rattle.def_recovery.specs.Head.{descriptors}
use Rattle.def_publish.proofs.FreeLemmas.{free_reads}
use Rattle.def_publish.proofs.ListLemmas.{contained_among, among_contained}
use Rattle.def_publish.specs.Contents.{Contents, contents_state}
use Rattle.def_publish.specs.Next.{arrays_made}
use Rattle.def_publish.specs.Standing.{ReadsAs}
use Rattle.def_state.specs.Level.{Level}
use Rattle.def_state.specs.State.{IsPaid}
use Rattle.strat_publish.proofs.WholeLemmas.{whole_read}
use Rattle.strat_publish.proofs.SettledLemmas.{free_here, next_arrays}
use Rattle.strat_publish.proofs.SettlingLemmas.{listed_arrays}
use Rattle.strat_memory.specs.Filters.{LevelFilters}
use Rattle.strat_memory.specs.Held.{Held, IsConsistent, StandsWith, contents_held}
use Rattle.strat_memory.specs.Paying.{ArePaidSince}
use Rattle.strat_publish.specs.Counting.{CountsWritten}
use Rattle.strat_publish.specs.Settling.{HasOldOrNext, HaveOldOrNext, WritesBeside, IsReadied, contents_next, super_after}
use Rattle.strat_publish.proofs.KeptLemmas.{arrays_of_made}
use Rattle.strat_memory.proofs.PayingLemmas.{paid_as}

-- while free blocks are written, the contents are read that stand
reads_beside : (v w : DiskView) (s : Held) (x : Contents) → StandsWith v s x → WritesBeside v w s → (c : Image) → Since w v.moment c → ReadsAs c x
reads_beside v w s x stands beside c since = free_reads beside.free x (free_here v w s x stands beside) v w beside.tears stands.stands.reads c since

-- so they are paid for
pub paid_beside : (v w : DiskView) (s : Held) (x : Contents) → StandsWith v s x → WritesBeside v w s → IsPaid (contents_state x) → ArePaidSince w v.moment
paid_beside v w s x stands beside paid c since = paid_as c x (reads_beside v w s x stands beside c since) paid

-- and have the superblock that is held
pub held_super : (s : Held) (x : Contents) (c : Image) → x ≡ contents_held s x.levels → ReadsAs c x → HasOldOrNext s.slot s.sb c
held_super s x c held reads = inl (reads.newest ∙ ap (λ (y : Contents). Ok (Some (y.slot, y.sb))) held)

pub super_beside : (v w : DiskView) (s : Held) (x : Contents) → StandsWith v s x → WritesBeside v w s → HaveOldOrNext w v.moment s.slot s.sb
super_beside v w s x stands beside c since = held_super s x c stands.held (reads_beside v w s x stands beside c since)

-- while the next superblock is laid, that one or the next one
pub super_laid : (v : DiskView) (start : ℕ) (s : Held) (x : Contents) (sb : Super) (chained : Chained) (levels : List Level) (first size : ℕ) → x ≡ contents_held s x.levels → sb ≡ super_after s.sb first size
    → ((c : Image) → Since v start c → ReadsAs c x ⊎ ReadsAs c (contents_next s sb chained levels)) → HaveOldOrNext v start s.slot s.sb
super_laid v start s x sb chained levels first size held is either c since =
    elim (either c since) [
      | inl old ↦ held_super s x c held old
      | inr new ↦ inr (sb, new.newest, ap (λ (b : Super). b.format) is, ap (λ (b : Super). b.generation) is)
    ]

-- the next manifest counts what was written
pub counts_next : (w : DiskView) (s : Held) (x : Contents) → IsConsistent s → x ≡ contents_held s x.levels → (sb : Super) (chained : Chained) (filters : List LevelFilters) → IsReadied w s x sb chained filters → CountsWritten s.chained.manifest chained.manifest
counts_next w s x whole held sb chained filters ready =
    let c = ready.computed in
    let next = c.next.follows.next in
    let n : ℕ = s.chained.manifest.next_array in
    let arrays : LevelDesc → List ArrayDesc = λ l. l.arrays in
    let is_new : ArrayDesc → Bool = λ a. leb n a.id in
    let made : List ArrayDesc = arrays_made c.made in
    let rest : List ArrayDesc = flat_map arrays c.kept in
    let same : x.chained.manifest ≡ s.chained.manifest = ap (λ (y : Contents). y.chained.manifest) held in
    let listed : descriptors chained.manifest ≡ made ++ rest =
    ap (flat_map arrays) next.levels_are ∙ flat_map-append arrays (option_to_list c.made) c.kept ∙ ap (λ (l : List ArrayDesc). l ++ rest) (arrays_of_made c.made) in
    let low : (a : ArrayDesc) → Among a rest → is_new a ≡ false = λ a of.
    let levels : c.taken ++ c.kept ≡ s.chained.manifest.levels = sym next.levels_were ∙ ap (λ (m : Manifest). m.levels) same in
    let there : Among a (descriptors s.chained.manifest) =
    subst (λ (ls : List LevelDesc). Among a (flat_map arrays ls)) levels
    (subst (Among a) (sym (flat_map-append arrays c.taken c.kept)) (among_right (flat_map arrays c.taken) rest a of)) in
    lt-leb n a.id ((whole_read s whole).few a (subst (λ (rs : List ArrayDesc). Contains rs a) (sym (listed_arrays s whole.placed)) (among_contained (descriptors s.chained.manifest) a there))) in
    let high : (a : ArrayDesc) → Among a made → is_new a ≡ true = λ a of.
    let there : Among a.id (map (λ (d : ArrayDesc). d.id) made) = among_map (λ (d : ArrayDesc). d.id) made a of in
    let from = (range_among x.chained.manifest.next_array (length made) a.id (subst (Among a.id) c.next.follows.fresh.numbered there)).0 in
    le-leb n a.id (omega (arith, from, ap (λ (m : Manifest). m.next_array) same)) in
    let chosen : filter is_new (descriptors chained.manifest) ≡ made =
    ap (filter is_new) listed ∙ filter-append is_new made rest ∙ (λ i. filter_each is_new made high i ++ filter_none is_new rest low i) ∙ append-nil made in
    record {
      raised = next.written ∙ (λ i. (same i).written + sum_by (λ (a : ArrayDesc). a.entries) (sym chosen i));
      others = λ a of old. elim (next_arrays w s x held sb chained filters ready a (contained_among (descriptors chained.manifest) a of)) [
        | inl new ↦ absurd (omega (arith, new, old))
        | inr was ↦ among_contained (descriptors s.chained.manifest) a was
      ];
    }
