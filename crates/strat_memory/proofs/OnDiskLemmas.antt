-- The superblock and the manifest that a store holds stay on its disk, whatever its arrays hold.
use Rattle.std.proofs.Common.{◌≡◌, ◌≤◌, ◌+◌, ◌*◌, ℕ, true, ltb, List, [], Contains, flat_map, Option, Some, None, Ok, refl, sym, ap, ◌∙◌, subst, arith, true≢false}
use Rattle.std.specs.Prelude.{IsSome, IfSome}
use Rattle.std.proofs.lemmas.Bool.{le-ltb}
use Rattle.strat_base.proofs.ListFacts.{Among, among_left, among_right}
use Rattle.strat_base.specs.declared.descriptors.ArrayDesc.{ArrayDesc}
use Rattle.strat_base.specs.declared.descriptors.LevelDesc.{LevelDesc}
use Rattle.def_crash.specs.Blocks.{KeepsTaken}
use Rattle.def_crash.specs.Image.{Image, SameIn}
use Rattle.def_crash.specs.Moments.{DiskView, Exposes, Images, Passes, TearsOnly, OnlyReads, IsDurable}
use Rattle.def_crash.proofs.BlockLemmas.{exposed_once, keeps_refl}
use Rattle.def_crash.proofs.ImageLemmas.{outside_same, outside_same_above}
use Rattle.def_crash.proofs.MomentLemmas.{now_since_start, settled_at}
use Rattle.def_bytes.specs.Chained.{manifest_at}
use Rattle.def_bytes.specs.Layout.{region_at, region_size, other_region, first_free}
use Rattle.def_bytes.specs.SuperBlock.{newest_in}
use Rattle.strat_promote.specs.Job.{arrays_to, blocks_listed}
use Rattle.strat_promote.specs.Promotions.{ReadsOf, target_of}
use Rattle.def_recovery.specs.Head.{descriptors}
use Rattle.def_recovery.specs.Opening.{belongs}
use Rattle.def_slice.specs.Opened.{OpenPromotion}
use Rattle.def_publish.proofs.ListLemmas.{contained_among}
use Rattle.def_publish.proofs.LocalLemmas.{SameOn, manifest_local}
use Rattle.def_publish.proofs.PlaceLemmas.{places, newest_local, named_behind}
use Rattle.strat_memory.proofs.OpenLemmas.{agree_read}
use Rattle.strat_memory.specs.Held.{HasReadFrom, Held, IsConsistent, IsOnDisk, contents_held}

pub told_some : (o : Option Image) (f : Image) → o ≡ Some f → IsSome o
told_some None f e = absurd (cc)
told_some (Some x) f e = refl

pub some_told : (o : Option Image) → IsSome o → (g : Image) × (o ≡ Some g)
some_told (Some g) some = (g, refl)
some_told None some = absurd (true≢false (sym some))

-- where no promotion is open nothing was read
pub unread : (f : Image) (s : Held) → s.promoting ≡ None → HasReadFrom f s
unread f s none = subst (λ (p : Option OpenPromotion). IfSome p (λ o. ReadsOf f (arrays_to s.levels (target_of o.promotion)) o.promotion)) (sym none) tt

-- and what an open one has read stays where all behind the journal does
pub behind_read : (f g : Image) (s : Held) → IsConsistent s → KeepsTaken (λ b. ltb b (first_free s.sb.mem)) f g → HasReadFrom f s → HasReadFrom g s
behind_read f g s whole keeps =
    agree_read f g s (λ b of.
    let there = ap (flat_map (λ (l : LevelDesc). l.arrays)) whole.placed.listed_are in
    let among = among_right s.chained.blocks (blocks_listed (descriptors s.chained.manifest)) b (contained_among _ b (subst (λ (ds : List ArrayDesc). Contains (blocks_listed ds) b) there of)) in
    keeps b (le-ltb b (first_free s.sb.mem) (named_behind (contents_held s []) whole.belonging b among)))

-- each image has the slots of one of before, and the blocks of the chain
pub still_on : (v w : DiskView) (s : Held) → IsOnDisk v s → Passes v w
    → ((f g : Image) → Exposes v f → Exposes w g → HasReadFrom f s → HasReadFrom g s)
    → ((c : Image) → Images w c → (d : Image) × Images v d × SameIn 0 8192 d c × SameOn d c s.chained.blocks) → IsOnDisk w s
still_on v w s on time reads each =
    let told = some_told w.content (time.exposed (told_some v.content on.content on.exposed)) in
    record {
      content = told.0;
      exposed = told.1;
      newest = λ c left. let one = each c left in newest_local one.0 c one.2 ∙ on.newest one.0 one.1;
      chain = λ c left. let one = each c left in manifest_local s.sb.format one.0 c s.sb.manifest s.sb.length s.chained (on.chain one.0 one.1) one.3;
      read = reads on.content told.0 on.exposed told.1 on.read;
    }

-- a disk that was only read
pub read_on : (v w : DiskView) (s : Held) → IsOnDisk v s → OnlyReads v w → IsOnDisk w s
read_on v w s on reads =
    still_on v w s on reads.time (λ f g was now. subst (λ (h : Image). HasReadFrom h s) (exposed_once v f g was (sym reads.same ∙ now))) (λ c left. (
      c,
      reads.images.each c (now_since_start v w c reads.time left),
      record { byte = λ i low high. refl },
      λ b among. keeps_refl b c,
    ))

-- the blocks of a chain lie behind the journal
pub chain_behind : (s : Held) → belongs s.sb s.chained ≡ true → (b : ℕ) → Among b s.chained.blocks → first_free s.sb.mem ≤ b
chain_behind s belonging b among =
    named_behind (contents_held s []) belonging b (among_left s.chained.blocks _ b among)

-- what was written lies between the slots and what is free
pub torn_on : (v w : DiskView) (s : Held) (at n : ℕ) → belongs s.sb s.chained ≡ true → 8192 ≤ at → at + n ≤ 4096 * first_free s.sb.mem → TearsOnly v w at n → Passes v w
    → ((f g : Image) → Exposes v f → Exposes w g → HasReadFrom f s → HasReadFrom g s) → IsOnDisk v s → IsOnDisk w s
torn_on v w s at n belonging low high torn time reads on =
    still_on v w s on time reads (λ c left.
    let one = torn.each c (now_since_start v w c time left) in (
      one.0,
      one.1,
      outside_same at n 0 8192 low one.2,
      λ b among. let behind = chain_behind s belonging b among in outside_same_above at n (4096 * b) 4096 (omega (arith, behind, high)) one.2,
    ))

-- in the journal's active region
pub logged_on : (v w : DiskView) (s : Held) → IsConsistent s → TearsOnly v w (region_at s.log.mem s.log.active) (region_size s.log.mem) → Passes v w
    → ((f g : Image) → Exposes v f → Exposes w g → HasReadFrom f s → HasReadFrom g s) → IsOnDisk v s → IsOnDisk w s
logged_on v w s whole torn time reads on =
    let most = whole.lawful.region_most in
    let active = whole.log.active in
    let mem = whole.log.mem in
    let p = places s.log.mem s.log.active (omega (arith, most, active)) in
    torn_on v w s (region_at s.log.mem s.log.active) (region_size s.log.mem) whole.belonging p.behind_slots
    (subst (λ (n : ℕ). region_at s.log.mem s.log.active + region_size s.log.mem ≤ 4096 * first_free n) mem p.in_front) torn time reads on

-- in the first gate of the other region, on a disk that was durable
pub gate_on : (v w : DiskView) (s : Held) (f : Image) → belongs s.sb s.chained ≡ true → s.sb.region ≤ 1 → Exposes v f → IsDurable v → newest_in f ≡ Ok (Some (s.slot, s.sb))
    → manifest_at s.sb.format f s.sb.manifest s.sb.length ≡ Ok s.chained → TearsOnly v w (region_at s.sb.mem (other_region s.sb.region)) 1 → Passes v w → s.promoting ≡ None → IsOnDisk w s
gate_on v w s f belonging few exposed durable newest chain torn time none =
    let p = places s.sb.mem s.sb.region few in
    let here : IsOnDisk v s = record {
      content = f;
      exposed = exposed;
      newest = λ c left. ap newest_in (settled_at v f exposed durable c left) ∙ newest;
      chain = λ c left. ap (λ (d : Image). manifest_at s.sb.format d s.sb.manifest s.sb.length) (settled_at v f exposed durable c left) ∙ chain;
      read = unread f s none;
    } in
    torn_on v w s (region_at s.sb.mem (other_region s.sb.region)) 1 belonging p.gate_behind p.gate_within torn time (λ g h was now read. unread h s none) here
