-- A publication, phase by phase: the next contents are prepared, their superblock is laid, the old region is shut.
use Rattle.std.proofs.Common.{◌≡◌, ◌≢◌, ◌≤◌, ◌<◌, ◌+◌, ◌*◌, ℕ, Bool, true, false, inl, inr, ◌⊎◌, List, [], ◌∷◌, ◌++◌, length, drop, Option, Some, IfSome, Ok, sym, ap, ◌∙◌, subst, arith}
use Rattle.std.proofs.lemmas.Bool.{cases_lt, eqb-true, false_from_ne_true, leb-true}
use Rattle.std.proofs.lemmas.List.{length-map, map-append, length-drop, drop_all, drop_at}
use Rattle.strat_base.specs.Change.{Change}
use Rattle.def_crash.specs.Blocks.{TearsBlocks}
use Rattle.def_crash.specs.Image.{Image}
use Rattle.def_crash.specs.Moments.{DiskView, Exposes, Images, Since, Passes, TearsOnly, OnlyReads, IsDurable}
use Rattle.def_crash.specs.Trail.{Trail}
use Rattle.def_crash.proofs.MomentLemmas.{now_since_start, each_then, settled_at}
use Rattle.def_crash.proofs.TrailLemmas.{trail_of_one}
use Rattle.def_bytes.specs.Layout.{region_at, region_size, other_region, first_free, is_open}
use Rattle.def_bytes.specs.Records.{Logged, region_records, records_behind}
use Rattle.def_bytes.specs.SuperBlock.{newest_in, Super}
use Rattle.def_bytes.proofs.RegionLemmas.{records_closed}
use Rattle.def_bytes.proofs.TwoRegionsLemmas.{join_short}
use Rattle.strat_gate.specs.Laying.{LaysOver}
use Rattle.def_recovery.specs.Opened.{parents_in}
use Rattle.def_meaning.specs.StateTable.{table_of}
use Rattle.def_state.specs.Sound.{are_accepted, journal_max}
use Rattle.strat_model.specs.Table.{Table}
use Rattle.def_publish.specs.Contents.{Contents, contents_state}
use Rattle.def_publish.specs.Standing.{LiesIn, IsLogged, ReadsAs, ShowsTable, AreFree, LeavesContent, ContentsStand}
use Rattle.def_publish.specs.Publication.{Succeeds, IsPrepared, LaysSuper, HasLaid}
use Rattle.def_publish.proofs.FreeLemmas.{still_told, shows_contents, free_reads, read_stands}
use Rattle.def_publish.proofs.AcceptedLemmas.{changes_logged, accepted_changes, accepted_logged}
use Rattle.def_publish.proofs.GateLemmas.{length-logged, gate_kept, gate_stands}
use Rattle.def_publish.proofs.JournalLemmas.{journal_local, journal_turned}
use Rattle.def_publish.proofs.LocalLemmas.{lies_local}
use Rattle.def_publish.proofs.PlaceLemmas.{places, newest_chosen, newest_fits, named_behind}
use Rattle.def_publish.proofs.TableLemmas.{same_table}

-- two images that differ in the slots alone
abbrev BehindSlots : Image → Image → Type 0
BehindSlots d c = (i : ℕ) → 8192 ≤ i → c i ≡ d i

free_behind_slots : (mem b : ℕ) → first_free mem ≤ b → 8192 ≤ 4096 * b
free_behind_slots mem b far = omega (arith, far)

lies_behind_slots : (d c : Image) (x : Contents) → BehindSlots d c → LiesIn d x → LiesIn c x
lies_behind_slots d c x same lies = lies_local d c x lies (λ b among.
    let far = free_behind_slots x.sb.mem b (named_behind x lies.belonging b among) in
    record { byte = λ i low high. same i (omega (arith, far, low)) })

logged_behind_slots : (d c : Image) (x : Contents) → BehindSlots d c → x.sb.region ≤ 1 → IsLogged d x → IsLogged c x
logged_behind_slots d c x same region l =
    let p = places x.sb.mem x.sb.region region in
    record {
      logged = l.logged;
      read = journal_local d c x.sb.mem x.sb.region (record { byte = λ i low high. same i (omega (arith, low, p.behind_slots)) })
          (record { byte = λ i low high. same i (omega (arith, low, p.gate_behind)) })
          ∙ l.read;
      accepted = l.accepted;
    }

twice_other : (region : ℕ) → region ≤ 1 → other_region (other_region region) ≡ region
twice_other region few = omega arith

module _ (v1 : DiskView) (x y : Contents) (p : IsPrepared v1 x y) where
  pub lays_over : LaysOver v1 p.stands.content y.slot y.sb
  lays_over =
      let chosen = newest_chosen p.stands.content x.slot x.sb (p.stands.reads p.stands.content p.stands.left).newest in
      let P : Option (ℕ × Super) → Type 0 = λ o. IfSome o (λ s. (s.0 ≢ y.slot) × (s.1.generation < y.sb.generation)) in
      let other : x.slot ≢ y.slot = λ e. omega (arith, e, p.next.slot) in
      record {
        content = p.stands.exposed;
        same = p.stands.slots;
        newest = subst P (sym chosen.found) (other, p.next.later);
      }

  -- both have regions of one size
  same_mem : y.sb.mem ≡ x.sb.mem
  same_mem = p.next.says.mem

  region_few : x.sb.region ≤ 1
  region_few = (newest_fits p.stands.content x.slot x.sb (p.stands.reads p.stands.content p.stands.left).newest).region

  -- the gate that a publication shuts is that of the region that was active
  pub old_gate : region_at y.sb.mem (other_region y.sb.region) ≡ region_at x.sb.mem x.sb.region
  old_gate = (λ i. region_at (same_mem i) (other_region (p.next.region i))) ∙ ap (region_at x.sb.mem) (twice_other x.sb.region region_few)

  -- the other region has the journal of the next contents: what came behind a full one, or nothing
  behind : (c : Image) → IsLogged c x → 0 < x.sb.mem → (length x.journal < x.sb.mem → c (region_at x.sb.mem (other_region x.sb.region)) ≢ 0xa7)
      → (later : List Logged) × (length later < x.sb.mem) × (region_records c x.sb.mem (other_region x.sb.region) ≡ Ok later) × (changes_logged later ≡ y.journal)
  behind c l some shut = elim (cases_lt (length x.journal) x.sb.mem) [
    | inl short ↦
        let at : ℕ = region_at x.sb.mem (other_region x.sb.region) in
        let closed : is_open (c at) ≡ false = false_from_ne_true (is_open (c at)) (λ up. shut short (eqb-true (c at) 0xa7 up)) in
        ([], some, records_closed c (at + region_size x.sb.mem) x.sb.mem at closed, sym (p.next.journal ∙ drop_all x.sb.mem x.journal (omega (arith, short))))
    | inr full ↦
        let long : x.sb.mem ≤ length l.logged = omega (arith, full, length-logged c x l) in
        let turned = journal_turned c x.sb.mem x.sb.region l.logged some region_few l.read long in
        let mapped : changes_logged l.logged ≡ x.journal = accepted_changes x.sb.changes_max x.sb.versions_max (parents_in x.chained.manifest) x.chained.manifest.marks x.chained.manifest.changes l.logged x.journal l.accepted in
        let both : changes_logged turned.1 ++ changes_logged turned.0 ≡ x.journal = sym (map-append (λ (l : Logged). l.change) turned.1 turned.0) ∙ ap changes_logged turned.3 ∙ mapped in
        let front : length (changes_logged turned.1) ≡ x.sb.mem = length-map turned.1 (λ (l : Logged). l.change) ∙ turned.2 in
        (turned.0, turned.4, turned.5, sym (drop_at (changes_logged turned.1) (changes_logged turned.0) x.sb.mem front) ∙ ap (λ (j : List Change). drop x.sb.mem j) both ∙ sym p.next.journal)
  ]

  -- an image that differs in the slots alone reads as the next contents where it has their superblock
  new_reads : (d c : Image) → Images v1 d → BehindSlots d c → newest_in c ≡ Ok (Some (y.slot, y.sb)) → ReadsAs c y
  new_reads d c was same newest =
      let r = p.stands.reads d was in
      let old_logged = logged_behind_slots d c x same region_few r.logged in
      let fits = newest_fits d x.slot x.sb r.newest in
      let far = (places x.sb.mem x.sb.region region_few).gate_behind in
      let at : ℕ = region_at x.sb.mem (other_region x.sb.region) in
      let turned = behind c old_logged (omega (arith, fits.mem_least)) (λ short up. p.stands.shut d was (omega (arith, short)) (sym (same at (omega (arith, far))) ∙ up)) in
      let here : region_records c y.sb.mem y.sb.region ≡ Ok turned.0 = (λ i. region_records c (same_mem i) (p.next.region i)) ∙ turned.2 in
      let few : length turned.0 < y.sb.mem = omega (arith, turned.1, same_mem) in
      let changes_are : changes_logged turned.0 ≡ y.journal = turned.3 in
      let accepted : are_accepted y.sb.changes_max y.sb.versions_max (parents_in y.chained.manifest) y.chained.manifest.marks y.chained.manifest.changes (changes_logged turned.0) ≡ true =
      ap (are_accepted y.sb.changes_max y.sb.versions_max (parents_in y.chained.manifest) y.chained.manifest.marks y.chained.manifest.changes) changes_are ∙ p.next.sound.formed.accepted in
      record {
        newest = newest;
        lies = lies_behind_slots d c y same (p.lies d was);
        logged = record {
          logged = turned.0;
          read = join_short c y.sb.mem y.sb.region (records_behind c y.sb.mem (other_region y.sb.region)) turned.0 here few;
          accepted = accepted_logged y.sb.changes_max y.sb.versions_max (parents_in y.chained.manifest) y.chained.manifest.marks y.chained.manifest.changes turned.0 accepted ∙ ap (λ (j : List Change). Ok j) changes_are;
        };
      }

  old_reads : (d c : Image) → Images v1 d → BehindSlots d c → newest_in c ≡ newest_in p.stands.content → ReadsAs c x
  old_reads d c was same newest =
      let r = p.stands.reads d was in
      record {
        newest = newest ∙ (p.stands.reads p.stands.content p.stands.left).newest;
        lies = lies_behind_slots d c x same r.lies;
        logged = logged_behind_slots d c x same region_few r.logged;
      }

  same_meaning : table_of (contents_state y) ≡ table_of (contents_state x)
  same_meaning = same_table (contents_state x) (contents_state y) p.next.says

  -- each of both shows the table of before
  old_shows : (c : Image) → ReadsAs c x → ShowsTable c (table_of (contents_state x))
  old_shows c r = shows_contents c x p.stands.sound r

  new_shows : (c : Image) → ReadsAs c y → ShowsTable c (table_of (contents_state x))
  new_shows c r = subst (λ (t : Table). ShowsTable c t) same_meaning (shows_contents c y p.next.sound r)

  module _ (v2 : DiskView) (lays : LaysSuper v1 v2 y.slot y.sb) where
    torn_slot : (c : Image) → Since v2 v1.moment c → (d : Image) × Images v1 d × BehindSlots d c
    torn_slot c since =
        let one = lays.images.each c since in
        (one.0, one.1, λ i low. one.2.above i (omega (arith, low, p.next.slot)))

    -- while the superblock is laid
    pub laying_reads : (c : Image) → Since v2 v1.moment c → ReadsAs c x ⊎ ReadsAs c y
    laying_reads c since =
        let one = torn_slot c since in
        elim (lays.each p.stands.content lays_over c since) [
          | inl old ↦ inl (old_reads one.0 c one.1 one.2 old)
          | inr new ↦ inr (new_reads one.0 c one.1 one.2 new)
        ]

    laying_shows : (c : Image) → Since v2 v1.moment c → ShowsTable c (table_of (contents_state x))
    laying_shows c since = elim (laying_reads c since) [ inl old ↦ old_shows c old | inr new ↦ new_shows c new ]

    pub laying_trail : Trail ShowsTable v2 v1.moment (table_of (contents_state x) ∷ []) 0
    laying_trail = trail_of_one ShowsTable v2 v1.moment (table_of (contents_state x)) [] lays.time.later laying_shows

    module _ (laid : HasLaid v1 v2 y.slot y.sb) where
      -- once it is laid
      pub laid_reads : (c : Image) → Images v2 c → ReadsAs c y
      laid_reads c left =
          let one = torn_slot c (now_since_start v1 v2 c lays.time left) in
          new_reads one.0 c one.1 one.2 (laid.found p.stands.content lays_over c left)

      module _ (v3 : DiskView) (torn : TearsOnly v2 v3 (region_at x.sb.mem x.sb.region) 1) (time : Passes v2 v3) where
        none_left : length y.journal < y.sb.mem
        none_left = omega (
          arith,
          ap (λ (j : List Change). length j) p.next.journal,
          length-drop x.sb.mem x.journal,
          leb-true (length x.journal) (journal_max x.sb.mem) p.stands.sound.formed.fits,
          same_mem,
          p.next.lawful.mem_least,
        )

        torn_gate : TearsOnly v2 v3 (region_at y.sb.mem (other_region y.sb.region)) 1
        torn_gate = subst (λ (at : ℕ). TearsOnly v2 v3 at 1) (sym old_gate) torn

        -- while the old region is shut
        pub shutting_reads : (c : Image) → Since v3 v2.moment c → ReadsAs c y
        shutting_reads c since = gate_kept v2 v3 y none_left laid_reads torn_gate c since

        all_shows : (c : Image) → Since v3 v1.moment c → ShowsTable c (table_of (contents_state x))
        all_shows = each_then v2 v3 v1.moment (λ c. ShowsTable c (table_of (contents_state x))) time laying_shows (λ c since. new_shows c (shutting_reads c since))

        pub published_trail : Trail ShowsTable v3 v1.moment (table_of (contents_state x) ∷ []) 0
        published_trail =
            let later : v1.moment ≤ v3.moment = omega (arith, lays.time.later, time.later) in
            trail_of_one ShowsTable v3 v1.moment (table_of (contents_state x)) [] later all_shows

        -- once it is shut
        module _ (leaves2 : LeavesContent v2) (leaves3 : LeavesContent v3) (shut : (c : Image) → Images v3 c → c (region_at x.sb.mem x.sb.region) ≢ 0xa7) where
          pub published_stands : ContentsStand v3 y
          published_stands =
              let t = still_told v1 v2 p.stands.content lays.time p.stands.exposed leaves2 in
              gate_stands v2 v3 y none_left laid_reads torn_gate p.next.sound time t.content t.exposed laid.durable leaves3
              (λ c left up. shut c left (sym (ap c old_gate) ∙ up))

-- all of a publication, with the writes of free blocks before it
module _ (v0 v1 : DiskView) (x y : Contents) (free : ℕ → Bool) (s : ContentsStand v0 x) (are_free : AreFree free x) (wrote : TearsBlocks free v0 v1) (p : IsPrepared v1 x y)
    (v2 : DiskView) (lays : LaysSuper v1 v2 y.slot y.sb) where
  writing_shows : (c : Image) → Since v1 v0.moment c → ShowsTable c (table_of (contents_state x))
  writing_shows c since = shows_contents c x s.sound (free_reads free x are_free v0 v1 wrote s.reads c since)

  up_to_laying : (c : Image) → Since v2 v0.moment c → ShowsTable c (table_of (contents_state x))
  up_to_laying = each_then v1 v2 v0.moment (λ c. ShowsTable c (table_of (contents_state x))) lays.time writing_shows (laying_shows v1 x y p v2 lays)

  pub unlaid_trail : Trail ShowsTable v2 v0.moment (table_of (contents_state x) ∷ []) 0
  unlaid_trail =
      let later : v0.moment ≤ v2.moment = omega (arith, wrote.time.later, lays.time.later) in
      trail_of_one ShowsTable v2 v0.moment (table_of (contents_state x)) [] later up_to_laying

  module _ (laid : HasLaid v1 v2 y.slot y.sb) (v3 : DiskView) (torn : TearsOnly v2 v3 (region_at x.sb.mem x.sb.region) 1) (time : Passes v2 v3) where
    pub whole_trail : Trail ShowsTable v3 v0.moment (table_of (contents_state x) ∷ []) 0
    whole_trail =
        let later : v0.moment ≤ v3.moment = omega (arith, wrote.time.later, lays.time.later, time.later) in
        trail_of_one ShowsTable v3 v0.moment (table_of (contents_state x)) [] later
        (each_then v2 v3 v0.moment (λ c. ShowsTable c (table_of (contents_state x))) time up_to_laying
        (λ c since. new_shows v1 x y p c (shutting_reads v1 x y p v2 lays laid v3 torn time c since)))

-- a sync after all was written prepares
pub synced_prepares : (old new : DiskView) (x y : Contents) (s : ContentsStand old x) → Succeeds x y → LiesIn s.content y → OnlyReads old new → IsDurable new → LeavesContent new → IsPrepared new x y
synced_prepares old new x y s next lies reads durable leaves =
    let s1 = read_stands x old new reads s leaves in
    let told : Exposes new s.content = reads.same ∙ s.exposed in
    record {
      stands = s1;
      next = next;
      lies = λ c left. subst (λ (d : Image). LiesIn d y) (sym (settled_at new s.content told durable c left)) lies;
    }
