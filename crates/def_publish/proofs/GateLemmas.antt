-- The first gate of the region that is not active may be shut, and contents that were opened stand.
use Rattle.std.proofs.Common.{◌≡◌, ◌≢◌, ◌<◌, ℕ, true, false, inl, inr, List, [], ◌∷◌, length, sym, ap, ◌∙◌, subst, arith}
use Rattle.std.proofs.lemmas.Bool.{cases_lt, eq-eqb, true≢false}
use Rattle.std.proofs.lemmas.List.{length-map}
use Rattle.strat_base.specs.Change.{Change}
use Rattle.def_crash.specs.Image.{Image, SameIn, Outside}
use Rattle.def_crash.specs.Moments.{DiskView, Exposes, Images, Since, Passes, TearsOnly, IsDurable}
use Rattle.def_crash.specs.Trail.{Trail}
use Rattle.def_crash.proofs.MomentLemmas.{now_since_start, settled_at, at_told}
use Rattle.def_crash.proofs.TrailLemmas.{trail_of_one}
use Rattle.def_bytes.specs.Layout.{region_at, region_size, other_region, is_open}
use Rattle.def_bytes.specs.Records.{Logged}
use Rattle.def_recovery.specs.Opened.{parents_in}
use Rattle.def_meaning.specs.StateTable.{table_of}
use Rattle.def_state.specs.Sound.{IsSound}
use Rattle.def_publish.specs.Contents.{Contents, contents_state}
use Rattle.def_publish.specs.Standing.{IsLogged, ReadsAs, ShowsTable, LeavesContent, ContentsStand}
use Rattle.def_publish.proofs.AcceptedLemmas.{accepted_changes}
use Rattle.def_publish.proofs.FreeLemmas.{still_told, shows_contents}
use Rattle.def_bytes.proofs.TwoRegionsLemmas.{full_closed}
use Rattle.def_publish.proofs.JournalLemmas.{journal_kept}
use Rattle.def_publish.proofs.LocalLemmas.{lies_local}
use Rattle.def_publish.proofs.PlaceLemmas.{places, newest_fits, newest_local, named_behind}

-- how many records the journal of contents has
pub length-logged : (c : Image) (x : Contents) (l : IsLogged c x) → length l.logged ≡ length x.journal
length-logged c x l =
    sym (length-map l.logged (λ (r : Logged). r.change))
    ∙ ap (λ (j : List Change). length j) (accepted_changes x.sb.changes_max x.sb.versions_max (parents_in x.chained.manifest) x.chained.manifest.marks x.chained.manifest.changes l.logged x.journal l.accepted)

-- where the journal leaves room nothing looks at the first gate of the other region
pub gate_reads : (d c : Image) (x : Contents) → ReadsAs d x → length x.journal < x.sb.mem → Outside (region_at x.sb.mem (other_region x.sb.region)) 1 d c → ReadsAs c x
gate_reads d c x r few out =
    let fits = newest_fits d x.slot x.sb r.newest in
    let p = places x.sb.mem x.sb.region fits.region in
    let region : SameIn (region_at x.sb.mem x.sb.region) (region_size x.sb.mem) d c = record {
      byte = λ i low high. elim p.apart [
        | inl in_front ↦ out.below i (omega (arith, in_front, high))
        | inr behind ↦ out.above i (omega (arith, behind, low))
      ];
    } in
    record {
      newest = newest_local d c (record { byte = λ i low high. out.below i (omega (arith, high, p.gate_behind)) }) ∙ r.newest;
      lies = lies_local d c x r.lies (λ b among.
          let far = named_behind x r.lies.belonging b among in
          record { byte = λ i low high. out.above i (omega (arith, p.gate_within, far, low)) });
      logged = record {
        logged = r.logged.logged;
        read = journal_kept d c x.sb.mem x.sb.region r.logged.logged region (omega (arith, few, length-logged d x r.logged)) r.logged.read;
        accepted = r.logged.accepted;
      };
    }

-- a call that tears one gate alone leaves each image the contents of one of before, whatever the others show
pub each_keeps : (old new : DiskView) (mem gate : ℕ) → TearsOnly old new (region_at mem gate) 1 → (c : Image) → Since new old.moment c
    → (d : Image) × Images old d × ((x : Contents) → ReadsAs d x → x.sb.mem ≡ mem → other_region x.sb.region ≡ gate → length x.journal < mem → ReadsAs c x)
each_keeps old new mem gate torn c since =
    let one = torn.each c since in (
      one.0,
      one.1,
      λ x reads mem_is gate_is few.
          let at : region_at mem gate ≡ region_at x.sb.mem (other_region x.sb.region) = λ i. region_at (sym mem_is i) (sym gate_is i) in
          gate_reads one.0 c x reads (omega (arith, few, mem_is)) (subst (λ (n : ℕ). Outside n 1 one.0 c) at one.2),
    )

-- a journal that fills its region was read where the other region's first gate is shut
pub full_shut : (c : Image) (x : Contents) → ReadsAs c x → length x.journal ≡ x.sb.mem → c (region_at x.sb.mem (other_region x.sb.region)) ≢ 0xa7
full_shut c x r full up =
    let fits = newest_fits c x.slot x.sb r.newest in
    let closed : is_open (c (region_at x.sb.mem (other_region x.sb.region))) ≡ false =
    full_closed c x.sb.mem x.sb.region r.logged.logged (omega (arith, fits.mem_least)) r.logged.read (length-logged c x r.logged ∙ full) in
    let opened : is_open (c (region_at x.sb.mem (other_region x.sb.region))) ≡ true = eq-eqb (c (region_at x.sb.mem (other_region x.sb.region))) 0xa7 up in
    true≢false (sym opened ∙ closed)

-- the gate is shut by a call that tears it alone
module _ (old new : DiskView) (x : Contents) (few : length x.journal < x.sb.mem) (reads : (c : Image) → Images old c → ReadsAs c x)
    (torn : TearsOnly old new (region_at x.sb.mem (other_region x.sb.region)) 1) where
  pub gate_kept : (c : Image) → Since new old.moment c → ReadsAs c x
  gate_kept c since = let one = torn.each c since in gate_reads one.0 c x (reads one.0 one.1) few one.2

  module _ (sound : IsSound (contents_state x)) (time : Passes old new) where
    pub gate_trail : Trail ShowsTable new old.moment (table_of (contents_state x) ∷ []) 0
    gate_trail = trail_of_one ShowsTable new old.moment (table_of (contents_state x)) [] time.later (λ c since. shows_contents c x sound (gate_kept c since))

    module _ (f : Image) (exposed : Exposes old f) (durable : IsDurable old) (leaves : LeavesContent new) where
      -- each image now has the slots of the content of before
      slots_kept : (c : Image) → Images new c → SameIn 0 8192 f c
      slots_kept c left =
          let one = torn.each c (now_since_start old new c time left) in
          let whole : one.0 ≡ f = settled_at old f exposed durable one.0 one.1 in
          let fits = newest_fits one.0 x.slot x.sb (reads one.0 one.1).newest in
          let p = places x.sb.mem x.sb.region fits.region in
          record { byte = λ i low high. one.2.below i (omega (arith, high, p.gate_behind)) ∙ (λ j. whole j i) }

      pub gate_stands : ((c : Image) → Images new c → c (region_at x.sb.mem (other_region x.sb.region)) ≢ 0xa7) → ContentsStand new x
      gate_stands shut =
          let t = still_told old new f time exposed leaves in
          record {
            content = t.content;
            exposed = t.exposed;
            left = t.left;
            reads = λ c left. gate_kept c (now_since_start old new c time left);
            slots = λ c left. record { byte = λ i low high. (slots_kept c left).byte i low high ∙ sym ((slots_kept t.content t.left).byte i low high) };
            shut = λ c left fits. shut c left;
            sound = sound;
          }

-- contents that were read from a durable disk stand, where the other region's first gate is shut or not asked for
pub opened_stands : (v : DiskView) (f : Image) (x : Contents) → Exposes v f → IsDurable v → LeavesContent v → ReadsAs f x → IsSound (contents_state x)
    → (length x.journal < x.sb.mem → f (region_at x.sb.mem (other_region x.sb.region)) ≢ 0xa7) → ContentsStand v x
opened_stands v f x exposed durable leaves r sound shut =
    let whole : (c : Image) → Images v c → c ≡ f = settled_at v f exposed durable in
    record {
      content = f;
      exposed = exposed;
      left = at_told v.content (Images v) f exposed leaves;
      reads = λ c left. subst (λ (d : Image). ReadsAs d x) (sym (whole c left)) r;
      slots = λ c left. record { byte = λ i low high. λ j. whole c left j i };
      shut = λ c left few up.
          let here : f (region_at x.sb.mem (other_region x.sb.region)) ≡ 0xa7 = (λ j. sym (whole c left) j (region_at x.sb.mem (other_region x.sb.region))) ∙ up in
          elim (cases_lt (length x.journal) x.sb.mem) [
            | inl part ↦ shut part here
            | inr full ↦ full_shut f x r (omega (arith, full, few)) here
          ];
      sound = sound;
    }
