-- What recovery finds in an image, and the contents that the image reads as.
use Rattle.std.proofs.Common.{◌≡◌, ◌*◌, ℕ, Bool, List, Option, Some, Ok, sym, ap, ◌∙◌, arith}
use Rattle.std.specs.Prelude.{option_and_then}
use Rattle.strat_base.specs.Change.{Change}
use Rattle.def_crash.specs.Blocks.{AgreeOn}
use Rattle.def_crash.specs.Image.{Image, SameIn}
use Rattle.def_state.specs.Level.{Level}
use Rattle.def_state.specs.State.{State}
use Rattle.def_bytes.specs.Arrays.{all_some}
use Rattle.def_bytes.specs.Chained.{Chained, manifest_at}
use Rattle.def_bytes.specs.Damage.{Read, and_then, passed_or}
use Rattle.def_bytes.specs.Layout.{other_region, first_free}
use Rattle.def_bytes.specs.Manifest.{Manifest}
use Rattle.def_bytes.specs.Records.{Logged, journal_in_two}
use Rattle.def_bytes.specs.SuperBlock.{Super}
use Rattle.def_bytes.proofs.DamageLemmas.{and_then_ok, passed_ok}
use Rattle.def_recovery.specs.Head.{Head}
use Rattle.def_recovery.specs.Opened.{parents_in, level_on}
use Rattle.def_recovery.specs.Opening.{belongs, recover_manifest, accepted_in, recover_journal, recover_head, recover_slot, recover, opened, state_of, reads_as}
use Rattle.def_recovery.proofs.OpeningLemmas.{map_some, state_found}
use Rattle.def_recovery.proofs.HeadLemmas
use Rattle.def_publish.specs.Contents.{Contents, contents_head, contents_state, named_blocks}
use Rattle.def_publish.specs.Standing.{ReadsAs}
use Rattle.def_publish.proofs.JournalLemmas.{journal_local}
use Rattle.def_publish.proofs.LocalLemmas.{same_on, lies_local}
use Rattle.def_publish.proofs.PlaceLemmas.{one_super, places, newest_fits, newest_local}

module _ (c : Image) (x : Contents) (r : ReadsAs c x) where
  manifest_read : recover_manifest c x.sb ≡ Ok x.chained.manifest
  manifest_read =
      ap (λ (found : Read Chained). and_then found (λ y. passed_or x.sb.manifest (belongs x.sb y) y.manifest)) r.lies.chain
      ∙ ap (λ (t : Bool). passed_or x.sb.manifest t x.chained.manifest) r.lies.belonging

  journal_read : recover_journal c x.sb x.chained.manifest ≡ Ok x.journal
  journal_read =
      ap (λ (found : Read (List Logged)). and_then found (accepted_in x.sb.changes_max x.sb.versions_max (parents_in x.chained.manifest) x.chained.manifest.marks x.chained.manifest.changes)) r.logged.read
      ∙ r.logged.accepted

  head_read : recover_head c x.sb ≡ Ok (contents_head x)
  head_read =
      ap (λ (found : Read Manifest). and_then found (λ m. and_then (recover_journal c x.sb m) (λ journal. Ok (record { sb = x.sb; manifest = m; journal = journal })))) manifest_read
      ∙ ap (λ (found : Read (List Change)). and_then found (λ journal. Ok (record { sb = x.sb; manifest = x.chained.manifest; journal = journal }))) journal_read

  -- recovery finds the head of the contents
  pub reads_head : recover c ≡ Ok (Some (contents_head x))
  reads_head =
      ap (λ (found : Read (Option (ℕ × Super))). and_then found (recover_slot c)) r.newest
      ∙ ap (λ (found : Read Head). and_then found (λ h. Ok (Some h))) head_read

  -- and the image reads as their state
  pub reads_state : reads_as c ≡ Some (contents_state x)
  reads_state =
      ap (λ (found : Read (Option Head)). option_and_then (state_of c) (opened found)) reads_head
      ∙ ap (λ (o : Option (List Level)). option_levels o) r.lies.arrays
    where
      option_levels : Option (List Level) → Option State
      option_levels o = Rattle.std.specs.Prelude.option_map (HeadLemmas.state_with (contents_head x)) o

-- the contents of an image that reads as a state
pub record StateParts (c : Image) (s : State) : Type 0 where
  pub contents : Contents
  pub reads : ReadsAs c contents
  pub state : contents_state contents ≡ s

pub state_parts : (c : Image) (s : State) → reads_as c ≡ Some s → StateParts c s
state_parts c s e =
    let found = state_found c s e in
    let sb : Super = found.slot.1 in
    let chained = and_then_ok (manifest_at sb.format c sb.manifest sb.length) (λ y. passed_or sb.manifest (belongs sb y) y.manifest) found.manifest found.chained in
    let passed = passed_ok sb.manifest (belongs sb chained.0) chained.0.manifest found.manifest chained.2 in
    let logged = and_then_ok (journal_in_two c sb.mem sb.region) (accepted_in sb.changes_max sb.versions_max (parents_in found.manifest) found.manifest.marks found.manifest.changes) found.journal found.logged in
    let levels = map_some (HeadLemmas.state_with (record { sb = sb; manifest = found.manifest; journal = found.journal })) (all_some (level_on c) found.manifest.levels) s found.state in
    record {
      contents = record { slot = found.slot.0; sb = sb; chained = chained.0; journal = found.journal; levels = levels.0 };
      reads = record {
        newest = found.newest;
        lies = record {
          chain = chained.1;
          belonging = passed.0;
          arrays = ap (λ (m : Manifest). all_some (level_on c) m.levels) passed.1 ∙ levels.1;
        };
        logged = record {
          logged = logged.0;
          read = logged.1;
          accepted = ap (λ (m : Manifest). accepted_in sb.changes_max sb.versions_max (parents_in m) m.marks m.changes logged.0) passed.1 ∙ logged.2;
        };
      };
      state = ap (λ (m : Manifest). HeadLemmas.state_with (record { sb = sb; manifest = m; journal = found.journal }) levels.0) passed.1 ∙ levels.2;
    }

-- an image reads as contents where it is the same in front of the free blocks and in the blocks that they name
pub reads_same : (f c : Image) (x : Contents) → ReadsAs f x → SameIn 0 (4096 * first_free x.sb.mem) f c → AgreeOn (named_blocks x) f c → ReadsAs c x
reads_same f c x r front agree =
    let fits = newest_fits f x.slot x.sb r.newest in
    let p = places x.sb.mem x.sb.region fits.region in
    let q = places x.sb.mem (other_region x.sb.region) (omega arith) in
    record {
      newest = newest_local f c (record { byte = λ i low high. front.byte i low (omega arith) }) ∙ r.newest;
      lies = lies_local f c x r.lies (same_on f c (named_blocks x) agree);
      logged = record {
        logged = r.logged.logged;
        read = journal_local f c x.sb.mem x.sb.region (record { byte = λ i low high. front.byte i (omega arith) (omega (arith, p.in_front)) })
            (record { byte = λ i low high. front.byte i (omega arith) (omega (arith, q.in_front)) })
            ∙ r.logged.read;
        accepted = r.logged.accepted;
      };
    }

-- so recovery finds the same in both
pub reads_as_local : (f c : Image) (x : Contents) → ReadsAs f x → SameIn 0 (4096 * first_free x.sb.mem) f c → AgreeOn (named_blocks x) f c → (reads_as c ≡ reads_as f) × (recover c ≡ recover f)
reads_as_local f c x r front agree =
    let s = reads_same f c x r front agree in
    (reads_state c x s ∙ sym (reads_state f x r), reads_head c x s ∙ sym (reads_head f x r))

-- an image reads as one thing
module _ (c : Image) (x y : Contents) (r : ReadsAs c x) (s : ReadsAs c y) where
  same_super : (x.slot ≡ y.slot) × (x.sb ≡ y.sb)
  same_super = one_super x.slot y.slot x.sb y.sb (sym r.newest ∙ s.newest)

  same_chained : x.chained ≡ y.chained
  same_chained =
      let e : Ok x.chained ≡ Ok y.chained = sym r.lies.chain ∙ ap (λ (sb : Super). manifest_at sb.format c sb.manifest sb.length) same_super.1 ∙ s.lies.chain in
      cc

  same_levels : x.levels ≡ y.levels
  same_levels =
      let e : Some x.levels ≡ Some y.levels = sym r.lies.arrays ∙ ap (λ (z : Chained). all_some (level_on c) z.manifest.levels) same_chained ∙ s.lies.arrays in
      cc

  same_journal : x.journal ≡ y.journal
  same_journal =
      let e : Ok x.journal ≡ Ok y.journal = sym (journal_read c x r) ∙ (λ i. recover_journal c (same_super.1 i) (same_chained i).manifest) ∙ journal_read c y s in
      cc

  pub one_contents : x ≡ y
  one_contents = λ i. record { slot = same_super.0 i; sb = same_super.1 i; chained = same_chained i; journal = same_journal i; levels = same_levels i }
