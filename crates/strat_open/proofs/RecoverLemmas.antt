-- What recovery finds of a store, part by part.
use Rattle.std.proofs.Common.{◌≡◌, ◌≤◌, ◌<◌, ◌+◌, ℕ, suc, Bool, true, false, cond, ltb, List, [], ◌∷◌, length, map, Option, None, Some, Result, Ok, Err, refl, sym, ap, ◌∙◌, subst, arith}
use Rattle.std.proofs.lemmas.Bool.{and_from, leb-true}
use Rattle.std.specs.List.{list_all}
use Rattle.std.specs.Prelude.{fold}
use Rattle.strat_base.specs.declared.failures.Trouble.{Trouble}
use Rattle.strat_base.specs.declared.failures.Trouble.TheVariants.{NoMemory, Device, Damaged}
use Rattle.strat_open.specs.declared.attach_fault.AttachFault.{AttachFault}
use Rattle.strat_open.specs.declared.attach_fault.AttachFault.TheVariants as fault
use Rattle.strat_open.specs.Causes.{of_trouble}
use Rattle.def_crash.specs.Image.{Image}
use Rattle.def_bytes.specs.Chained.{Chained, manifest_at}
use Rattle.def_bytes.specs.Damage.{Read, and_then, passed_or, put_first}
use Rattle.def_bytes.specs.Manifest.{Manifest, are_older, versions_in}
use Rattle.def_bytes.proofs.DamageLemmas.{put_first_ok}
use Rattle.strat_base.specs.Change.{Change}
use Rattle.strat_base.specs.Tree.{Parents}
use Rattle.def_bytes.specs.Records.{Logged, journal_in_two}
use Rattle.def_recovery.specs.Head.{Head}
use Rattle.def_recovery.specs.Opened.{parents_in}
use Rattle.def_recovery.specs.Opening.{belongs, recover_manifest, accepted_in, recover_journal, recover_head, recover_slot, recover}
use Rattle.def_state.specs.Sound.{is_accepted, are_accepted}
use Rattle.def_state.specs.State.{tree_after, marks_after}
use Rattle.strat_base.specs.Entries.{Entry}
use Rattle.def_slice.specs.Lists.{HoldLists}
use Rattle.strat_memory.specs.Memory.{Memory, memory_after, sealed_entries, IsMemoryOf}
use Rattle.strat_open.proofs.RedoLemmas.{accepted_by, memory_follows_all}
use Rattle.def_bytes.specs.SuperBlock.{Super, newest_in}
use Rattle.def_bytes.proofs.ManifestLemmas.{pass_at}
use Rattle.def_recovery.proofs.OpeningLemmas.{manifest_tests}
use Rattle.def_recovery.proofs.PassedLemmas.{belonging_tests}
use Rattle.strat_memory.specs.Admitting.{chained_of, IsAdmitted}
use Rattle.strat_memory.specs.declared.admitting.Published.{Published}
use Rattle.strat_base.specs.Marks.{Marks, are_pruned}
use Rattle.strat_manifest.specs.ManifestView.{marks_listed}
use Rattle.def_bytes.specs.Layout.{newest_format}
use Rattle.strat_memory.proofs.AdmitLemmas.{manifest_low}

-- what was admitted may be loaded
module _ (sb : Super) (p : Published) (is : IsAdmitted sb p) where
  pub load_older : (parents : List ℕ) → parents ≡ p.manifest.parents → are_older 1 parents ≡ true
  load_older parents same = ap (are_older 1) same ∙ pass_at (manifest_tests newest_format (chained_of p).manifest) 6 is.spelled

  pub load_pruned : (parents marks : List ℕ) → parents ≡ p.manifest.parents → marks ≡ p.manifest.marks → are_pruned (None ∷ map (λ v. Some v) parents) (marks_listed marks) ≡ true
  load_pruned parents marks same alike =
      (λ i. are_pruned (None ∷ map (λ v. Some v) (same i)) (marks_listed (alike i))) ∙ pass_at (manifest_tests newest_format (chained_of p).manifest) 12 is.spelled

  pub load_room : (parents : List ℕ) → parents ≡ p.manifest.parents → 1 + length parents ≤ sb.versions_max
  load_room parents same = omega (
    arith,
    ap (λ (ps : List ℕ). length ps) same,
    leb-true (versions_in (chained_of p).manifest) sb.versions_max (pass_at (belonging_tests sb (chained_of p)) 3 is.belonging),
  )

  pub load_counts : (p.manifest.updates ≤ p.manifest.changes) × (p.manifest.changes ≤ sb.changes_max)
  load_counts = (
    leb-true p.manifest.updates p.manifest.changes (pass_at (manifest_tests newest_format (chained_of p).manifest) 1 is.spelled),
    leb-true p.manifest.changes sb.changes_max (pass_at (belonging_tests sb (chained_of p)) 4 is.belonging),
  )

pub manifest_damaged : (c : Image) (sb : Super) (y : Chained) → sb.manifest < 4294967295 → manifest_at sb.format c sb.manifest sb.length ≡ Ok y
    → (list_all (λ x. ltb x 4294967295) y.blocks ≡ true → belongs sb y ≡ false) → recover_manifest c sb ≡ Err sb.manifest
manifest_damaged c sb y low e not' =
    ap (λ (r : Read Chained). and_then r (λ y. passed_or sb.manifest (belongs sb y) y.manifest)) e
    ∙ ap (λ (t : Bool). passed_or sb.manifest t y.manifest) (not' (manifest_low sb.format c sb.manifest sb.length y low e))

-- a manifest that was read and admitted is what recovery finds
pub manifest_recovered : (c : Image) (sb : Super) (y : Chained) → manifest_at sb.format c sb.manifest sb.length ≡ Ok y → belongs sb y ≡ true → recover_manifest c sb ≡ Ok y.manifest
manifest_recovered c sb y e own =
    ap (λ (r : Read Chained). and_then r (λ y. passed_or sb.manifest (belongs sb y) y.manifest)) e
    ∙ ap (λ (t : Bool). passed_or sb.manifest t y.manifest) own

-- a result has one error
pub same_err_in : {T : Type 0} (r : Result T Trouble) (e d : Trouble) → r ≡ Err e → r ≡ Err d → e ≡ d
same_err_in r e d one other = let both : Err e ≡ Err d = sym one ∙ other in cc

-- an error that names a block names no other
pub damaged_block : {T : Type 0} (b block : ℕ) → ◌≡◌ {A = Result T Trouble} (Err (Damaged b)) (Err (Damaged block)) → b ≡ block
damaged_block b block e = cc

-- before any change level 0 has room for a whole region
spare_all : (mem : ℕ) (entries : List Entry) (sealed : Option (List Entry)) (spare : ℕ) → HoldLists mem [] entries sealed spare → mem ≤ spare
spare_all mem entries None spare lists = omega (arith, lists.2)
spare_all mem entries (Some older) spare lists = omega (arith, lists.0)

-- memory of a manifest accepts the changes that a store with it does
module _ (sb : Super) (manifest : Manifest) (m : Memory) (of : IsMemoryOf (record { sb = sb; manifest = manifest; journal = [] }) m) where
  pub memory_accepts : (logged : List Logged) → accepted_by m logged ≡ accepted_in sb.changes_max sb.versions_max (parents_in manifest) manifest.marks manifest.changes logged
  memory_accepts logged =
      let count : m.changes ≡ manifest.changes = omega (arith, of.changes) in
      λ i. accepted_in (of.changes_max i) (of.versions_max i) (of.parents i) (of.marks i) (count i) logged

  pub memory_room : (n : ℕ) → n ≤ sb.mem → n ≤ m.spare
  memory_room n few = omega (arith, spare_all sb.mem m.entries (sealed_entries m) m.spare of.lists, few)

  pub memory_redone : (now : Memory) (changes : List Change) → are_accepted m.changes_max m.versions_max m.parents m.marks m.changes changes ≡ true → length changes ≤ sb.mem → now ≡ fold memory_after m changes → IsMemoryOf (record { sb = sb; manifest = manifest; journal = changes }) now
  memory_redone now changes accepted few is = subst (IsMemoryOf (record { sb = sb; manifest = manifest; journal = changes })) (sym is) (memory_follows_all sb manifest [] changes m of accepted (λ unsealed. omega (arith, few)))

-- changes that are accepted as records are accepted each in its turn
pub accepted_in_turn : (changes_max versions_max : ℕ) (parents : Parents) (marks : Marks) (n : ℕ) (logged : List Logged) (journal : List Change)
    → accepted_in changes_max versions_max parents marks n logged ≡ Ok journal → are_accepted changes_max versions_max parents marks n journal ≡ true
accepted_in_turn changes_max versions_max parents marks n [] journal e =
    let none : [] ≡ journal = cc in
    subst (λ (js : List Change). are_accepted changes_max versions_max parents marks n js ≡ true) none refl
accepted_in_turn changes_max versions_max parents marks n (l ∷ logged) journal e =
    by_test (is_accepted changes_max versions_max parents marks n l.change) refl (accepted_in_turn changes_max versions_max (tree_after parents l.change) (marks_after marks l.change) (suc n) logged) e
  where
    later : Read (List Change)
    later = accepted_in changes_max versions_max (tree_after parents l.change) (marks_after marks l.change) (suc n) logged

    by_test : (b : Bool) → is_accepted changes_max versions_max parents marks n l.change ≡ b
        → ((js : List Change) → later ≡ Ok js → are_accepted changes_max versions_max (tree_after parents l.change) (marks_after marks l.change) (suc n) js ≡ true)
        → cond b (put_first l.change later) (Err l.block) ≡ Ok journal → are_accepted changes_max versions_max parents marks n journal ≡ true
    by_test false is rest e = absurd (cc)
    by_test true is rest e =
        let parts = put_first_ok l.change later journal e in
        subst (λ (js : List Change). are_accepted changes_max versions_max parents marks n js ≡ true) parts.2
        (and_from (is_accepted changes_max versions_max parents marks n l.change) (are_accepted changes_max versions_max (tree_after parents l.change) (marks_after marks l.change) (suc n) parts.0) is (rest parts.0 parts.1))

-- a journal that was read and accepted is what recovery finds, and so is one that is damaged
pub journal_recovered : (c : Image) (sb : Super) (m : Manifest) (logged : List Logged) (r : Read (List Change)) → journal_in_two c sb.mem sb.region ≡ Ok logged
    → accepted_in sb.changes_max sb.versions_max (parents_in m) m.marks m.changes logged ≡ r → recover_journal c sb m ≡ r
journal_recovered c sb m logged r read accepted =
    ap (λ (x : Read (List Logged)). and_then x (accepted_in sb.changes_max sb.versions_max (parents_in m) m.marks m.changes)) read ∙ accepted

module _ (c : Image) (sb : Super) where
  -- a head is found where its manifest and its journal are
  pub head_recovered_from : (m : Manifest) (journal : List Change) → recover_manifest c sb ≡ Ok m → recover_journal c sb m ≡ Ok journal → recover_head c sb ≡ Ok (record { sb = sb; manifest = m; journal = journal })
  head_recovered_from m journal manifest changes =
      ap (λ (found : Read Manifest). and_then found (λ m. and_then (recover_journal c sb m) (λ journal. Ok (record { sb = sb; manifest = m; journal = journal })))) manifest
      ∙ ap (λ (found : Read (List Change)). and_then found (λ journal. Ok (record { sb = sb; manifest = m; journal = journal }))) changes

  pub head_damaged_manifest : (b : ℕ) → recover_manifest c sb ≡ Err b → recover_head c sb ≡ Err b
  head_damaged_manifest b e = ap (λ (found : Read Manifest). and_then found (λ m. and_then (recover_journal c sb m) (λ journal. Ok (record { sb = sb; manifest = m; journal = journal })))) e

  pub head_damaged_journal : (m : Manifest) (b : ℕ) → recover_manifest c sb ≡ Ok m → recover_journal c sb m ≡ Err b → recover_head c sb ≡ Err b
  head_damaged_journal m b manifest e =
      ap (λ (found : Read Manifest). and_then found (λ m. and_then (recover_journal c sb m) (λ journal. Ok (record { sb = sb; manifest = m; journal = journal })))) manifest
      ∙ ap (λ (found : Read (List Change)). and_then found (λ journal. Ok (record { sb = sb; manifest = m; journal = journal }))) e

  -- and the store's behind its newest superblock
  pub store_recovered_from : (slot : ℕ) (h : Head) → newest_in c ≡ Ok (Some (slot, sb)) → recover_head c sb ≡ Ok h → recover c ≡ Ok (Some h)
  store_recovered_from slot h newest head =
      ap (λ (r : Read (Option (ℕ × Super))). and_then r (recover_slot c)) newest ∙ ap (λ (r : Read Head). and_then r (λ h. Ok (Some h))) head

  pub store_damaged : (slot b : ℕ) → newest_in c ≡ Ok (Some (slot, sb)) → recover_head c sb ≡ Err b → recover c ≡ Err b
  store_damaged slot b newest damaged =
      ap (λ (r : Read (Option (ℕ × Super))). and_then r (recover_slot c)) newest ∙ ap (λ (r : Read Head). and_then r (λ h. Ok (Some h))) damaged

damaged_trouble : (t : Trouble) (block : ℕ) → of_trouble t ≡ fault.Damaged block → t ≡ Damaged block
damaged_trouble NoMemory block e = absurd (cc)
damaged_trouble Device block e = absurd (cc)
damaged_trouble (Damaged other) block e = cc

-- a trouble that is handed on as damage was that damage
pub trouble_is : {T : Type 0} (r : Result T AttachFault) (x : AttachFault) (t : Trouble) (block : ℕ) → r ≡ Err x → x ≡ of_trouble t → r ≡ Err (fault.Damaged block) → t ≡ Damaged block
trouble_is r x t block is same given =
    let both : Err x ≡ Err (fault.Damaged block) = sym is ∙ given in
    let it : x ≡ fault.Damaged block = cc in
    damaged_trouble t block (sym same ∙ it)
