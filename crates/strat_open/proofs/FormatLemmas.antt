-- What a crash leaves of a disk while a new store is made on it, phase by phase.
use Rattle.std.proofs.Common.{◌≡◌, ◌≢◌, ◌≤◌, ◌<◌, ℕ, ◌+◌, ◌*◌, inl, inr, List, [], length, Some, None, Ok, Option, IfSome, refl, sym, ap, subst, ◌∙◌, arith}
use Rattle.std.proofs.lemmas.Bool.{le-leb}
use Rattle.std.proofs.lemmas.List.{length-replicate}
use Rattle.def_bytes.specs.Chain.{link_bytes}
use Rattle.def_crash.specs.Image.{Image, Outside, SameIn, patch, window}
use Rattle.def_bytes.specs.Layout.{region_at, first_free, shortest_manifest}
use Rattle.def_bytes.specs.Manifest.{manifest_bytes}
use Rattle.def_crash.specs.Moments.{DiskView, Images, Since, Passes, TearsOnly, IsDurable}
use Rattle.strat_base.specs.Numbers.{be}
use Rattle.def_bytes.specs.SuperBlock.{Super, slot_in, newer, verdict, chosen_in, newest_in}
use Rattle.def_crash.proofs.ImageLemmas.{over_below, outside_same_above, window_same, window_patch}
use Rattle.def_crash.proofs.MomentLemmas.{now_since_start, at_told, settled_at}
use Rattle.def_bytes.proofs.SuperBlockLemmas.{slot_closed}
use Rattle.strat_gate.specs.Laying.{LaysOver, OldOrNew}
use Rattle.def_bytes.proofs.TwoRegionsLemmas.{journal_none}
use Rattle.def_bytes.specs.Records.{journal_in_two}
use Rattle.def_state.specs.Sound.{journal_max, IsSound}
use Rattle.def_state.specs.State.{deep, fresh_state, IsPaid}
use Rattle.strat_open.specs.Format.{new_block, IsNewDisk, IsShut, IsNewStore, IsNoneOrNew, super_for}
use Rattle.strat_open.proofs.NewBlockLemmas.{two_formats}
use Rattle.strat_open.proofs.NewStoreLemmas.{head_found, state_found}
use Rattle.strat_open.proofs.ShutLemmas.{StaysBlank}

-- the manifest of a new store fills a block
first_full : length (new_block 1) ≡ 4096
unfolding link_bytes manifest_bytes be
first_full = ap (λ (n : ℕ). 33 + n) (length-replicate {A = ℕ} 4063 0)

second_full : length (new_block 2) ≡ 4096
unfolding link_bytes manifest_bytes be
second_full = ap (λ (n : ℕ). 42 + n) (length-replicate {A = ℕ} 4054 0)

pub length-new_block : (format : ℕ) → (1 ≤ format) × (format ≤ 2) → length (new_block format) ≡ 4096
length-new_block format form = elim (two_formats format form.0 form.1) [
  | inl one ↦ ap (λ (f : ℕ). length (new_block f)) one ∙ first_full
  | inr two ↦ ap (λ (f : ℕ). length (new_block f)) two ∙ second_full
]

-- an image with both slots shut is no store
pub none_newest : (c : Image) → c 0 ≢ 0xa7 → c 4096 ≢ 0xa7 → newest_in c ≡ Ok None
none_newest c first second =
    let one : slot_in c 0 ≡ None = slot_closed c 0 first in
    let two : slot_in c 4096 ≡ None = slot_closed c 4096 second in
    λ j. verdict (newer (one j) (two j))

-- where both slots stay shut, no image is a store
pub none_yet : (format mem changes_max versions_max : ℕ) (old new : DiskView) → StaysBlank old new → (c : Image) → Since new old.moment c → IsNoneOrNew format mem changes_max versions_max c
none_yet format mem changes_max versions_max old new stays c since = let shut = stays.each c since in inl (none_newest c shut.0 shut.1)

-- once the manifest is there: each image is the content, in which both slots and both regions are shut, and the manifest has its block
pub record Prepared (format mem : ℕ) (v : DiskView) : Type 0 where
  pub content : Image
  pub exposed : v.content ≡ Some content
  pub only : (c : Image) → Images v c → c ≡ content
  pub first : content 0 ≢ 0xa7
  pub second : content 4096 ≢ 0xa7
  pub active : content (region_at mem 0) ≢ 0xa7
  pub other : content (region_at mem 1) ≢ 0xa7
  pub block : window content (4096 * first_free mem) 4096 ≡ new_block format

-- after the gates were shut and the manifest was written
pub prepared : (format mem : ℕ) → (1 ≤ format) × (format ≤ 2) → (v1 v2 : DiskView) → IsShut mem v1 → IfSome v1.content (λ f. v2.content ≡ Some (patch f (4096 * first_free mem) (new_block format))) → IsDurable v2
    → Prepared format mem v2
prepared format mem form v1 v2 shut writes settled =
    let at : ℕ = 4096 * first_free mem in
    let f : Image = shut.content in
    let bytes : List ℕ = new_block format in
    let exposed : v2.content ≡ Some (patch f at bytes) =
    at_told v1.content (λ (g : Image). v2.content ≡ Some (patch g at bytes)) f shut.exposed writes in
    record {
      content = patch f at bytes;
      exposed = exposed;
      only = settled_at v2 (patch f at bytes) exposed settled;
      first = λ up. shut.first (sym (over_below at (length bytes) _ f 0 (omega arith)) ∙ up);
      second = λ up. shut.second (sym (over_below at (length bytes) _ f 4096 (omega arith)) ∙ up);
      active = λ up. shut.active (sym (over_below at (length bytes) _ f (region_at mem 0) (omega arith)) ∙ up);
      other = λ up. shut.other (sym (over_below at (length bytes) _ f (region_at mem 1) (omega arith)) ∙ up);
      block = ap (λ (n : ℕ). window (patch f at bytes) at n) (sym (length-new_block format form)) ∙ window_patch f at bytes;
    }

-- the superblock may be laid into the first slot
pub lays_over : (format mem : ℕ) (v : DiskView) (p : Prepared format mem v) (sb : Super) → LaysOver v p.content 0 sb
lays_over format mem v p sb =
    let one : slot_in p.content 0 ≡ None = slot_closed p.content 0 p.first in
    let two : slot_in p.content 4096 ≡ None = slot_closed p.content 4096 p.second in
    let none : chosen_in p.content ≡ None = λ j. newer (one j) (two j) in
    record {
      content = p.exposed;
      same = λ c left. record { byte = λ i from to. λ j. p.only c left j i };
      newest = subst (λ (o : Option (ℕ × Super)). IfSome o (λ s. (s.0 ≢ 0) × (s.1.generation < sb.generation))) (sym none) tt;
    }

-- the state of a new store is sound
fresh_sound : (mem changes_max versions_max : ℕ) → IsSound (fresh_state mem changes_max versions_max)
fresh_sound mem changes_max versions_max = record {
  formed = record { tree = refl; pruned = refl; numbered = refl; accepted = refl; fits = le-leb 0 (journal_max mem) (omega arith) };
  stratified = tt;
  roomy = refl;
  old = refl;
  settled = refl;
  described = refl;
  few = refl;
  ascending = refl;
}

-- and it has written nothing
fresh_paid : (mem changes_max versions_max : ℕ) → IsPaid (fresh_state mem changes_max versions_max)
fresh_paid mem changes_max versions_max = record { shallow = refl; bounded = le-leb (0 + 4 * 0) (4 * deep mem 0 * 0) (omega arith) }

module _ (format mem changes_max versions_max : ℕ) (some : 0 < mem) (v : DiskView) (p : Prepared format mem v) where
  -- the content with the new superblock in the first block is a new store
  new_store : (c : Image) → Outside 0 4096 p.content c → newest_in c ≡ Ok (Some (0, super_for format mem changes_max versions_max)) → IsNewStore format mem changes_max versions_max c
  new_store c out newest =
      let sb : Super = super_for format mem changes_max versions_max in
      let same : SameIn (4096 * first_free mem) 4096 p.content c = outside_same_above 0 4096 (4096 * first_free mem) 4096 (omega arith) out in
      let block : window c (4096 * first_free mem) 4096 ≡ new_block format = window_same p.content c (4096 * first_free mem) 4096 same ∙ p.block in
      let none : journal_in_two c mem 0 ≡ Ok [] = journal_none c mem 0 some (λ up. p.active (sym (out.above (region_at mem 0) (omega arith)) ∙ up)) in
      record {
        found = head_found c sb refl refl block 0 newest none;
        reads = state_found c sb refl refl block 0 newest none;
        shows = record {
          state = fresh_state mem changes_max versions_max;
          reads = state_found c sb refl refl block 0 newest none;
          sound = fresh_sound mem changes_max versions_max;
          table = refl;
        };
        slot = λ up. p.second (sym (out.above 4096 (omega arith)) ∙ up);
        region = λ up. p.other (sym (out.above (region_at mem 1) (omega arith)) ∙ up);
        paid = λ s reads.
            let e : Some (fresh_state mem changes_max versions_max) ≡ Some s = sym (state_found c sb refl refl block 0 newest none) ∙ reads in
            let same : fresh_state mem changes_max versions_max ≡ s = cc in
            subst IsPaid same (fresh_paid mem changes_max versions_max);
      }

  -- the superblock of a new store, with its manifest's block and length as they were reckoned
  abbrev super_at : ℕ → ℕ → Super
  super_at first size = record (super_for format mem changes_max versions_max) { manifest = first; length = size }

  -- an image of the content, but for the first block
  torn_front : (new : DiskView) → TearsOnly v new 0 4096 → (c : Image) → Since new v.moment c → Outside 0 4096 p.content c
  torn_front new tears c since = let torn = tears.each c since in subst (λ (d : Image). Outside 0 4096 d c) (p.only torn.0 torn.1) torn.2

  -- while the superblock is laid, an image is no store or the new one
  pub laying : (new : DiskView) (first size : ℕ) → first ≡ first_free mem → size ≡ shortest_manifest format → TearsOnly v new 0 4096
      → ((c : Image) → Since new v.moment c → OldOrNew p.content 0 (super_at first size) c) → (c : Image) → Since new v.moment c → IsNoneOrNew format mem changes_max versions_max c
  laying new first size is long tears either c since = elim (either c since) [
    | inl old ↦ inl (old ∙ none_newest p.content p.first p.second)
    | inr here ↦ inr (new_store c (torn_front new tears c since) (here ∙ (λ j. Ok (Some (0, super_at (is j) (long j))))))
  ]

  -- once it is laid, an image is the new store
  pub laid : (new : DiskView) (first size : ℕ) → first ≡ first_free mem → size ≡ shortest_manifest format → Passes v new → TearsOnly v new 0 4096
      → ((c : Image) → Images new c → newest_in c ≡ Ok (Some (0, super_at first size))) → (c : Image) → Images new c → IsNewStore format mem changes_max versions_max c
  laid new first size is long passes tears newest c left =
      new_store c (torn_front new tears c (now_since_start v new c passes left)) (newest c left ∙ (λ j. Ok (Some (0, super_at (is j) (long j)))))

-- a settled disk each of whose images is a new store is a new disk
pub new_disk : (format mem changes_max versions_max : ℕ) (v : DiskView) (f : Image) → v.content ≡ Some f → ((c : Image) → Images v c → c ≡ f) → IfSome v.content (Images v)
    → ((c : Image) → Images v c → IsNewStore format mem changes_max versions_max c) → IsNewDisk format mem changes_max versions_max v
new_disk format mem changes_max versions_max v f exposed alone law each = record {
  rest = record { content = f; exposed = exposed; alone = alone };
  new = each f (at_told v.content (Images v) f exposed law);
}
