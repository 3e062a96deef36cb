-- Writes of free blocks change nothing that contents are read from.
use Rattle.std.proofs.Common.{◌≡◌, ◌*◌, ◌/◌, ℕ, Bool, false, List, [], ◌∷◌, Option, Some, None, IsSome, refl, sym, ap, ◌∙◌, arith, true≢false}
use Rattle.std.specs.List.{Contains}
use Rattle.def_crash.specs.Blocks.{AgreeOn, KeepsTaken, TearsBlocks}
use Rattle.def_crash.specs.Image.{Image, SameIn}
use Rattle.def_crash.specs.Moments.{DiskView, Exposes, Images, Since, Passes, OnlyReads}
use Rattle.def_crash.specs.Trail.{Trail}
use Rattle.def_crash.proofs.BlockLemmas.{reads_tear_none}
use Rattle.def_crash.proofs.MomentLemmas.{now_since_start, at_told}
use Rattle.def_crash.proofs.TrailLemmas.{trail_of_one}
use Rattle.def_bytes.specs.Arrays.{entries_on}
use Rattle.def_bytes.specs.Layout.{region_at, other_region, first_free}
use Rattle.strat_model.specs.Table.{Table}
use Rattle.def_meaning.specs.StateTable.{table_of}
use Rattle.def_state.specs.Sound.{IsSound}
use Rattle.def_publish.specs.Contents.{Contents, contents_state, named_blocks}
use Rattle.def_publish.specs.Standing.{ReadsAs, ShowsTable, AreFree, LeavesContent, ContentsStand}
use Rattle.def_publish.proofs.ListLemmas.{among_contained}
use Rattle.def_publish.proofs.LocalLemmas.{entries_local}
use Rattle.def_publish.proofs.PartsLemmas.{reads_state, reads_same}
use Rattle.def_publish.proofs.PlaceLemmas.{places, newest_fits}

-- an image of contents whose state is sound shows their table
pub shows_contents : (c : Image) (x : Contents) → IsSound (contents_state x) → ReadsAs c x → ShowsTable c (table_of (contents_state x))
shows_contents c x sound r = record { state = contents_state x; reads = reads_state c x r; sound = sound; table = refl }

pub one_table : (c : Image) (t u : Table) → ShowsTable c t → ShowsTable c u → t ≡ u
one_table c t u a b =
    let e : Some a.state ≡ Some b.state = sym a.reads ∙ b.reads in
    let same : a.state ≡ b.state = cc in
    sym a.table ∙ ap table_of same ∙ b.table

-- a disk that exposes its content goes on doing so
pub record Told (v : DiskView) : Type 0 where
  pub content : Image
  pub exposed : Exposes v content
  pub left : Images v content

pub still_told : (old new : DiskView) (f : Image) → Passes old new → Exposes old f → LeavesContent new → Told new
still_told old new f time exposed leaves = go new.content refl (time.exposed (some old.content exposed))
  where
    some : (o : Option Image) → o ≡ Some f → IsSome o
    some None e = absurd (cc)
    some (Some x) e = refl

    go : (o : Option Image) → new.content ≡ o → IsSome o → Told new
    go None e is = absurd (true≢false (sym is))
    go (Some g) e is = record { content = g; exposed = e; left = at_told new.content (Images new) g e leaves }

module _ (free : ℕ → Bool) (x : Contents) (are_free : AreFree free x) where
  -- what lies in front of the first block that is not the slots' or the journal's
  front_kept : (d c : Image) → KeepsTaken free d c → SameIn 0 (4096 * first_free x.sb.mem) d c
  front_kept d c kept = record {
    byte = λ i low high. (kept (i / 4096) (are_free.behind (i / 4096) (omega (arith, high)))).byte i (omega arith) (omega arith);
  }

  named_kept : (d c : Image) → KeepsTaken free d c → AgreeOn (named_blocks x) d c
  named_kept d c kept b named = kept b (are_free.unnamed b named)

  pub kept_reads : (d c : Image) → KeepsTaken free d c → ReadsAs d x → ReadsAs c x
  kept_reads d c kept r = reads_same d c x r (front_kept d c kept) (named_kept d c kept)

  module _ (old new : DiskView) (torn : TearsBlocks free old new) where
    pub free_reads : ((c : Image) → Images old c → ReadsAs c x) → (c : Image) → Since new old.moment c → ReadsAs c x
    free_reads each c since = let one = torn.images c since in kept_reads one.0 c one.2 (each one.0 one.1)

    module _ (s : ContentsStand old x) where
      -- each image now has the slots of the content of before
      slots_kept : (c : Image) → Images new c → SameIn 0 8192 s.content c
      slots_kept c left =
          let one = torn.images c (now_since_start old new c torn.time left) in
          let was = s.slots one.0 one.1 in
          let front = front_kept one.0 c one.2 in
          record { byte = λ i low high. front.byte i low (omega arith) ∙ was.byte i low high }

      pub free_stands : LeavesContent new → ContentsStand new x
      free_stands leaves =
          let t = still_told old new s.content torn.time s.exposed leaves in
          let reads : (c : Image) → Images new c → ReadsAs c x = λ c left. free_reads s.reads c (now_since_start old new c torn.time left) in
          let fits = newest_fits s.content x.slot x.sb (s.reads s.content s.left).newest in
          let p = places x.sb.mem x.sb.region fits.region in
          record {
            content = t.content;
            exposed = t.exposed;
            left = t.left;
            reads = reads;
            slots = λ c left. record { byte = λ i low high. (slots_kept c left).byte i low high ∙ sym ((slots_kept t.content t.left).byte i low high) };
            shut = λ c left few up.
                let one = torn.images c (now_since_start old new c torn.time left) in
                let front = front_kept one.0 c one.2 in
                s.shut one.0 one.1 few (sym (front.byte (region_at x.sb.mem (other_region x.sb.region)) (omega arith) (omega (arith, p.gate_within))) ∙ up);
            sound = s.sound;
          }

      -- no table changes while they are written
      pub free_trail : Trail ShowsTable new old.moment (table_of (contents_state x) ∷ []) 0
      free_trail =
          trail_of_one ShowsTable new old.moment (table_of (contents_state x)) [] torn.time.later (λ c since. shows_contents c x s.sound (free_reads s.reads c since))

-- blocks none of which is free keep their entries
pub blocks_kept : (free : ℕ → Bool) (blocks : List ℕ) (d c : Image) → ((b : ℕ) → Contains blocks b → free b ≡ false) → KeepsTaken free d c → entries_on c blocks ≡ entries_on d blocks
blocks_kept free blocks d c taken kept = entries_local d c blocks (λ b among. kept b (taken b (among_contained blocks b among)))

-- a disk that is only read tears no block
none_free : (x : Contents) → AreFree (λ b. false) x
none_free x = record { behind = λ b lt. refl; unnamed = λ b named. refl }

module _ (x : Contents) (old new : DiskView) (reads : OnlyReads old new) (s : ContentsStand old x) where
  pub read_stands : LeavesContent new → ContentsStand new x
  read_stands = free_stands (λ b. false) x (none_free x) old new (reads_tear_none (λ b. false) old new reads) s

  pub read_trail : Trail ShowsTable new old.moment (table_of (contents_state x) ∷ []) 0
  read_trail = free_trail (λ b. false) x (none_free x) old new (reads_tear_none (λ b. false) old new reads) s
