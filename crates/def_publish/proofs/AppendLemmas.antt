-- A batch that joins the journal keeps contents standing.
use Rattle.std.proofs.Common.{◌≡◌, ◌≢◌, ◌≤◌, ◌<◌, ◌-◌, ◌*◌, ℕ, Bool, true, false, cond, ltb, inl, inr, ◌⊎◌, List, [], ◌∷◌, ◌++◌, length, map, Ok, sym, ap, ◌∙◌, subst, arith, length-append}
use Rattle.std.proofs.lemmas.Bool.{leb-true, lt-ltb, cases_lt}
use Rattle.std.proofs.lemmas.List.{length-map}
use Rattle.strat_base.specs.Change.{Change}
use Rattle.def_crash.specs.Image.{Image, SameIn, Outside}
use Rattle.def_crash.specs.Moments.{DiskView, Images, Since}
use Rattle.def_crash.specs.Trail.{Trail}
use Rattle.def_crash.proofs.MomentLemmas.{now_since_start}
use Rattle.def_crash.proofs.TrailLemmas.{trail_of_either, trail_of_two}
use Rattle.def_bytes.specs.Layout.{region_at, region_size, other_region}
use Rattle.def_bytes.specs.Records.{Logged, journal_of}
use Rattle.def_bytes.proofs.DamageLemmas.{and_then_ok}
use Rattle.strat_journal.specs.Log.{Log, Stands, batch_joined, batch_region}
use Rattle.strat_journal.specs.Records.{changes_in_order, journal_changes}
use Rattle.def_bytes.proofs.TwoRegionsLemmas.{two_whole, whole_two}
use Rattle.def_publish.proofs.GateLemmas.{full_shut}
use Rattle.def_recovery.specs.Opened.{parents_in}
use Rattle.def_meaning.specs.StateTable.{table_of}
use Rattle.def_state.specs.Sound.{are_accepted, journal_max, IsSound}
use Rattle.def_publish.specs.Contents.{Contents, contents_state, with_journal}
use Rattle.def_publish.specs.Standing.{ReadsAs, ShowsTable, LeavesContent, ContentsStand}
use Rattle.def_publish.specs.Appending.{IsLogOf, with_batch, AppendsBatch}
use Rattle.def_publish.proofs.AcceptedLemmas.{changes_logged, accepted_changes, accepted_logged}
use Rattle.def_publish.proofs.FreeLemmas.{still_told, shows_contents}
use Rattle.def_publish.proofs.LocalLemmas.{lies_local}
use Rattle.def_publish.proofs.PlaceLemmas.{places, newest_fits, newest_local, named_behind}

-- the journal of contents is the journal of an image that reads as them
pub changes_read : (c : Image) (x : Contents) → ReadsAs c x → journal_changes c x.sb.mem x.sb.region ≡ Ok x.journal
changes_read c x r =
    let fits = newest_fits c x.slot x.sb r.newest in
    ap changes_in_order (two_whole c x.sb.mem x.sb.region (omega (arith, fits.mem_least)) r.logged.logged r.logged.read).0
    ∙ ap (λ (j : List Change). Ok j) (accepted_changes x.sb.changes_max x.sb.versions_max (parents_in x.chained.manifest) x.chained.manifest.marks x.chained.manifest.changes r.logged.logged x.journal r.logged.accepted)

-- what the journal in memory asks of the disk
pub stands_journal : (v : DiskView) (x : Contents) (log : Log) → ContentsStand v x → IsLogOf x log → Stands v log
stands_journal v x log s l = record {
  given = λ c left. (λ i. journal_changes c (l.mem i) (l.active i)) ∙ changes_read c x (s.reads c left) ∙ ap (λ (j : List Change). Ok j) (sym l.list);
  shut = λ c left few up. s.shut c left (omega (arith, few, l.mem, ap (λ (j : List Change). length j) l.list)) (sym (λ i. c (region_at (l.mem i) (other_region (l.active i)))) ∙ up);
}

-- an image that differs in one region alone, and gives other changes
pub reads_changes : (d c : Image) (x : Contents) (region : ℕ) (journal : List Change) → region ≤ 1 → ReadsAs d x → Outside (region_at x.sb.mem region) (region_size x.sb.mem) d c
    → journal_changes c x.sb.mem x.sb.region ≡ Ok journal → IsSound (contents_state (with_journal x journal)) → ReadsAs c (with_journal x journal)
reads_changes d c x region journal one r out given sound =
    let fits = newest_fits d x.slot x.sb r.newest in
    let p = places x.sb.mem region one in
    let found = and_then_ok (journal_of c x.sb.mem x.sb.region) (λ logged. Ok (map (λ (l : Logged). l.change) logged)) journal given in
    let last : Ok (changes_logged found.0) ≡ Ok journal = found.2 in
    let same : changes_logged found.0 ≡ journal = cc in
    let fit = leb-true (length journal) (journal_max x.sb.mem) sound.formed.fits in
    let few : length found.0 ≤ 2 * x.sb.mem - 2 = omega (arith, fit, ap length same, length-map found.0 (λ (l : Logged). l.change)) in
    let accepted : are_accepted x.sb.changes_max x.sb.versions_max (parents_in x.chained.manifest) x.chained.manifest.marks x.chained.manifest.changes (changes_logged found.0) ≡ true =
    ap (are_accepted x.sb.changes_max x.sb.versions_max (parents_in x.chained.manifest) x.chained.manifest.marks x.chained.manifest.changes) same ∙ sound.formed.accepted in
    record {
      newest = newest_local d c (record { byte = λ i low high. out.below i (omega (arith, high, p.behind_slots)) }) ∙ r.newest;
      lies = let lies = lies_local d c x r.lies (λ b among.
          let far = named_behind x r.lies.belonging b among in
          record { byte = λ i low high. out.above i (omega (arith, p.in_front, far, low)) }) in
          record { chain = lies.chain; belonging = lies.belonging; arrays = lies.arrays };
      logged = record {
        logged = found.0;
        read = whole_two c x.sb.mem x.sb.region (omega (arith, fits.mem_least)) found.0 found.1 few;
        accepted = accepted_logged x.sb.changes_max x.sb.versions_max (parents_in x.chained.manifest) x.chained.manifest.marks x.chained.manifest.changes found.0 accepted ∙ ap (λ (j : List Change). Ok j) same;
      };
    }

module _ (old new : DiskView) (x : Contents) (log : Log) (s : ContentsStand old x) (l : IsLogOf x log) (a : AppendsBatch old new log)
    (sound : IsSound (contents_state (with_batch x log.batch))) where
  -- only the region that takes the batch is torn
  abbrev taker : ℕ
  taker = batch_region log

  active_few : log.active ≤ 1
  active_few = omega (arith, l.active, (newest_fits s.content x.slot x.sb (s.reads s.content s.left).newest).region)

  taker_few : taker ≤ 1
  taker_few = either (ltb (length log.list) log.mem) active_few
    where
      either : (b : Bool) → log.active ≤ 1 → cond b log.active (other_region log.active) ≤ 1
      either true few = few
      either false few = omega arith

  torn_region : (c : Image) → Since new old.moment c → (d : Image) × Images old d × Outside (region_at x.sb.mem taker) (region_size x.sb.mem) d c
  torn_region c since =
      let one = a.images.each c since in
      (one.0, one.1, subst (λ (m : ℕ). Outside (region_at m taker) (region_size m) one.0 c) l.mem one.2)

  given_as : (c : Image) (list journal : List Change) → list ≡ journal → journal_changes c log.mem log.active ≡ Ok list → journal_changes c x.sb.mem x.sb.region ≡ Ok journal
  given_as c list journal same given = (λ i. journal_changes c (sym l.mem i) (sym l.active i)) ∙ given ∙ ap (λ (j : List Change). Ok j) same

  batch_reads : (c : Image) → Since new old.moment c → journal_changes c log.mem log.active ≡ Ok (log.list ++ log.batch) → ReadsAs c (with_batch x log.batch)
  batch_reads c since given =
      let one = torn_region c since in
      reads_changes one.0 c x taker (x.journal ++ log.batch) taker_few (s.reads one.0 one.1) one.2
      (given_as c (log.list ++ log.batch) (x.journal ++ log.batch) (ap (λ (j : List Change). j ++ log.batch) l.list) given) sound

  -- at any moment an image reads as before, or with all of the batch
  pub either_reads : (c : Image) → Since new old.moment c → ReadsAs c x ⊎ ReadsAs c (with_batch x log.batch)
  either_reads c since =
      let one = torn_region c since in
      elim (a.each s.content s.exposed (stands_journal old x log s l) c since) [
        | inl none ↦ inl (reads_changes one.0 c x taker x.journal taker_few (s.reads one.0 one.1) one.2 (given_as c log.list x.journal l.list none) s.sound)
        | inr all ↦ inr (batch_reads c since all)
      ]

  either_shows : (c : Image) → Since new old.moment c → ShowsTable c (table_of (contents_state x)) ⊎ ShowsTable c (table_of (contents_state (with_batch x log.batch)))
  either_shows c since = elim (either_reads c since) [
    | inl none ↦ inl (shows_contents c x s.sound none)
    | inr all ↦ inr (shows_contents c (with_batch x log.batch) sound all)
  ]

  pub either_trail : Trail ShowsTable new old.moment (table_of (contents_state x) ∷ table_of (contents_state (with_batch x log.batch)) ∷ []) 0
  either_trail = trail_of_either ShowsTable new old.moment (table_of (contents_state x)) (table_of (contents_state (with_batch x log.batch))) [] a.time.later either_shows

  module _ (joined : Stands new (batch_joined log)) where
    pub appended_reads : (c : Image) → Images new c → ReadsAs c (with_batch x log.batch)
    appended_reads c left = batch_reads c (now_since_start old new c a.time left) (joined.given c left)

    pub appended_trail : Trail ShowsTable new old.moment (table_of (contents_state x) ∷ table_of (contents_state (with_batch x log.batch)) ∷ []) 1
    appended_trail =
        trail_of_two ShowsTable new old.moment (table_of (contents_state x)) (table_of (contents_state (with_batch x log.batch))) [] a.time.later either_shows
        (λ c left. shows_contents c (with_batch x log.batch) sound (appended_reads c left))

    slots_kept : (c : Image) → Images new c → SameIn 0 8192 s.content c
    slots_kept c left =
        let one = torn_region c (now_since_start old new c a.time left) in
        let was = s.slots one.0 one.1 in
        let p = places x.sb.mem taker taker_few in
        record { byte = λ i low high. one.2.below i (omega (arith, high, p.behind_slots)) ∙ was.byte i low high }

    -- where the active region has still room the batch went there
    here_taken : length log.list < x.sb.mem → taker ≡ x.sb.region
    here_taken few = ap (λ (b : Bool). cond b log.active (other_region log.active)) (lt-ltb (length log.list) log.mem (omega (arith, few, l.mem))) ∙ l.active

    still_shut : (c : Image) → Images new c → length (x.journal ++ log.batch) ≤ x.sb.mem → c (region_at x.sb.mem (other_region x.sb.region)) ≢ 0xa7
    still_shut c left few up = elim (cases_lt (length (x.journal ++ log.batch)) x.sb.mem) [
      | inr full ↦ full_shut c (with_batch x log.batch) (appended_reads c left) (omega (arith, few, full)) up
      | inl part ↦
          let one = torn_region c (now_since_start old new c a.time left) in
          let p = places x.sb.mem x.sb.region (newest_fits one.0 x.slot x.sb (s.reads one.0 one.1).newest).region in
          let was : length x.journal < x.sb.mem = omega (arith, part, length-append x.journal log.batch) in
          let same = here_taken (omega (arith, was, ap (λ (j : List Change). length j) l.list)) in
          let out : Outside (region_at x.sb.mem x.sb.region) (region_size x.sb.mem) one.0 c = subst (λ (r : ℕ). Outside (region_at x.sb.mem r) (region_size x.sb.mem) one.0 c) same one.2 in
          let gate : c (region_at x.sb.mem (other_region x.sb.region)) ≡ one.0 (region_at x.sb.mem (other_region x.sb.region)) = elim p.apart [
            | inl in_front ↦ out.above (region_at x.sb.mem (other_region x.sb.region)) in_front
            | inr behind ↦ out.below (region_at x.sb.mem (other_region x.sb.region)) (omega (arith, behind))
          ] in
          s.shut one.0 one.1 (omega (arith, was)) (sym gate ∙ up)
    ]

    pub appended_stands : LeavesContent new → ContentsStand new (with_batch x log.batch)
    appended_stands leaves =
        let t = still_told old new s.content a.time s.exposed leaves in
        record {
          content = t.content;
          exposed = t.exposed;
          left = t.left;
          reads = appended_reads;
          slots = λ c left. record { byte = λ i low high. (slots_kept c left).byte i low high ∙ sym ((slots_kept t.content t.left).byte i low high) };
          shut = still_shut;
          sound = sound;
        }
