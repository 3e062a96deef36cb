-- What an image shows that has the manifest of a new store.
use Rattle.std.proofs.Common.{◌≡◌, ◌≤◌, ◌<◌, ◌-◌, ◌*◌, ◌⊎◌, inl, inr, ℕ, Bool, true, false, cond, leb, ltb, List, [], ◌∷◌, length, Option, Some, None, Ok, Err, refl, sym, ap, ◌∙◌, arith}
use Rattle.std.specs.Prelude.{option_and_then}
use Rattle.std.proofs.lemmas.Bool.{and_parts, leb-true, le-leb, ltb-true}
use Rattle.std.proofs.lemmas.List.{take_all, drop_all}
use Rattle.strat_base.specs.declared.limits.TheConstants.{BLOCK}
use Rattle.strat_base.specs.Change.{Change}
use Rattle.strat_base.specs.Numbers.{be}
use Rattle.def_crash.specs.Image.{Image, window}
use Rattle.def_bytes.specs.Chain.{link_bytes, chain_length, HoldsChain, IsChain}
use Rattle.def_bytes.specs.Chained.{Chained, manifest_at}
use Rattle.def_bytes.specs.Damage.{Read, and_then, passed_or}
use Rattle.def_bytes.specs.Layout.{first_free, newest_format, shortest_manifest}
use Rattle.def_bytes.specs.Manifest.{Manifest, manifest_bytes, all_pass, is_lawful_manifest, SpellsManifest, new_manifest}
use Rattle.def_bytes.specs.Records.{Logged, journal_in_two}
use Rattle.def_bytes.specs.SuperBlock.{Super, in_range, chosen_in, verdict, newest_in}
use Rattle.def_bytes.proofs.ChainLemmas.{chain_read}
use Rattle.def_recovery.specs.Head.{Head}
use Rattle.def_recovery.specs.Opened.{parents_in}
use Rattle.def_recovery.specs.Opening.{belongs, recover_manifest, accepted_in, recover_journal, recover_slot, recover, opened, state_of, reads_as}
use Rattle.def_state.specs.State.{fresh_state}
use Rattle.strat_open.specs.Format.{new_block}
use Rattle.strat_open.proofs.NewBlockLemmas.{two_formats}

-- a superblock that is read in a slot
abbrev slot_read : ℕ → Super → Read (Option (ℕ × Super))
slot_read slot sb = Ok (Some (slot, sb))

-- two superblocks that are read are the same where what is read is
one_super : (n m : ℕ) (x y : Super) → slot_read n x ≡ slot_read m y → x ≡ y
one_super n m x y e =
    let pair : (n, x) ≡ (m, y) = cc in
    ap (λ (p : ℕ × Super). p.1) pair

-- the newest superblock has its fields in range
pub newest_fits : (c : Image) (slot : ℕ) (sb : Super) → newest_in c ≡ Ok (Some (slot, sb)) → in_range sb ≡ true
newest_fits c slot sb e = by_slot (chosen_in c) e
  where
    by_test : (n : ℕ) (s : Super) (b : Bool) → in_range s ≡ b → cond b (slot_read n s) (Err n) ≡ slot_read slot sb → in_range sb ≡ true
    by_test n s false fits e = absurd (cc)
    by_test n s true fits e =
        let same : s ≡ sb = one_super n slot s sb e in
        ap in_range (sym same) ∙ fits

    by_slot : (found : Option (ℕ × Super)) → verdict found ≡ Ok (Some (slot, sb)) → in_range sb ≡ true
    by_slot None e = absurd (cc)
    by_slot (Some s) e = by_test s.0 s.1 (in_range s.1) refl e

-- what an opening needs of the fields of the newest superblock
pub record Fits (sb : Super) : Type 0 where
  pub format : (sb.format ≡ 1) ⊎ (sb.format ≡ 2)
  pub manifest_least : first_free sb.mem ≤ sb.manifest
  pub manifest_most : sb.manifest < 4294967295
  pub region : sb.region ≤ 1
  pub mem_least : 4 ≤ sb.mem
  pub mem_most : sb.mem ≤ 4096
  pub versions : 1 ≤ sb.versions_max

pub fits_of : (c : Image) (slot : ℕ) (sb : Super) → newest_in c ≡ Ok (Some (slot, sb)) → Fits sb
fits_of c slot sb e =
    let found = newest_fits c slot sb e in
    let p1 = and_parts _ (leb sb.versions_max 16384) found in
    let p2 = and_parts _ (leb 1 sb.versions_max) p1.0 in
    let p3 = and_parts _ (leb sb.changes_max 16777216) p2.0 in
    let p4 = and_parts _ (leb 1 sb.changes_max) p3.0 in
    let p5 = and_parts _ (leb sb.region 1) p4.0 in
    let p6 = and_parts _ (leb (shortest_manifest sb.format) sb.length) p5.0 in
    let p7 = and_parts _ (ltb sb.manifest 4294967295) p6.0 in
    let p8 = and_parts _ (leb (first_free sb.mem) sb.manifest) p7.0 in
    let p9 = and_parts _ (leb sb.mem 4096) p8.0 in
    let p10 = and_parts _ (leb 4 sb.mem) p9.0 in
    let p11 = and_parts _ (leb 1 sb.generation) p10.0 in
    let p12 = and_parts (leb 1 sb.format) (leb sb.format newest_format) p11.0 in
    record {
      format = two_formats sb.format (leb-true 1 sb.format p12.0) (leb-true sb.format newest_format p12.1);
      manifest_least = leb-true (first_free sb.mem) sb.manifest p8.1;
      manifest_most = ltb-true sb.manifest 4294967295 p7.1;
      region = leb-true sb.region 1 p5.1;
      mem_least = leb-true 4 sb.mem p10.1;
      mem_most = leb-true sb.mem 4096 p9.1;
      versions = leb-true 1 sb.versions_max p2.1;
    }

-- a new store's manifest is spelled in either format, in as few bytes as one may have
first_lawful : is_lawful_manifest 1 new_manifest ≡ true
unfolding all_pass
first_lawful = refl

second_lawful : is_lawful_manifest 2 new_manifest ≡ true
unfolding all_pass
second_lawful = refl

new_spelled : (format : ℕ) → (format ≡ 1) ⊎ (format ≡ 2) → SpellsManifest format (manifest_bytes format new_manifest) new_manifest
new_spelled format is = record {
  lawful = elim is [
    | inl one ↦ ap (λ (f : ℕ). is_lawful_manifest f new_manifest) one ∙ first_lawful
    | inr two ↦ ap (λ (f : ℕ). is_lawful_manifest f new_manifest) two ∙ second_lawful
  ];
  text = refl;
}

first_long : length (manifest_bytes 1 new_manifest) ≡ 29
unfolding manifest_bytes be
first_long = refl

second_long : length (manifest_bytes 2 new_manifest) ≡ 38
unfolding manifest_bytes be
second_long = refl

length-new : (format : ℕ) → (format ≡ 1) ⊎ (format ≡ 2) → length (manifest_bytes format new_manifest) ≡ shortest_manifest format
length-new format is = elim is [
  | inl one ↦ ap (λ (f : ℕ). length (manifest_bytes f new_manifest)) one ∙ first_long ∙ sym (ap shortest_manifest one)
  | inr two ↦ ap (λ (f : ℕ). length (manifest_bytes f new_manifest)) two ∙ second_long ∙ sym (ap shortest_manifest two)
]

few_bytes : (format : ℕ) → (format ≡ 1) ⊎ (format ≡ 2) → (1 ≤ shortest_manifest format) × (shortest_manifest format ≤ 38)
few_bytes format is = elim is [
  | inl one ↦ let e = ap shortest_manifest one in (omega (arith, e), omega (arith, e))
  | inr two ↦ let e = ap shortest_manifest two in (omega (arith, e), omega (arith, e))
]

-- a superblock of the first generation leads to the manifest of a new store, and to a journal without changes
module _ (c : Image) (sb : Super) (once : sb.generation ≡ 1) (size : sb.length ≡ shortest_manifest sb.format) (block : window c (BLOCK * sb.manifest) BLOCK ≡ new_block sb.format) where
  module _ (fits : Fits sb) where
    bytes : List ℕ
    bytes = manifest_bytes sb.format new_manifest

    long : length bytes ≡ shortest_manifest sb.format
    unfolding bytes
    long = length-new sb.format fits.format

    few : length bytes ≤ BLOCK - 4
    few = let most = few_bytes sb.format fits.format in omega (arith, long, most.1)

    one_block : 1 ≡ chain_length (length bytes)
    one_block = elim fits.format [
      | inl one ↦ sym (ap chain_length (long ∙ ap shortest_manifest one))
      | inr two ↦ sym (ap chain_length (long ∙ ap shortest_manifest two))
    ]

    the_chain : IsChain c (sb.manifest ∷ []) bytes
    unfolding HoldsChain bytes
    the_chain = record {
      holds = (
        block ∙ ap (link_bytes 0) (sym (take_all (BLOCK - 4) bytes few)),
        drop_all (BLOCK - 4) bytes few,
      );
      count = one_block;
      named = ((omega (arith, fits.manifest_least), omega (arith, fits.manifest_most)), tt);
      distinct = λ i j d lt within. absurd (omega arith);
    }

    found_chain : manifest_at sb.format c sb.manifest sb.length ≡ Ok (record { manifest = new_manifest; blocks = sb.manifest ∷ [] })
    unfolding bytes
    found_chain = ap (manifest_at sb.format c sb.manifest) (size ∙ sym long) ∙ chain_read sb.format c sb.manifest [] bytes new_manifest (new_spelled sb.format fits.format) the_chain

    it_belongs : belongs sb (record { manifest = new_manifest; blocks = sb.manifest ∷ [] }) ≡ true
    unfolding all_pass
    it_belongs =
        let low : leb (first_free sb.mem) sb.manifest ≡ true = le-leb (first_free sb.mem) sb.manifest fits.manifest_least in
        let some : leb 1 sb.versions_max ≡ true = le-leb 1 sb.versions_max fits.versions in
        let first : leb sb.generation 1 ≡ true = le-leb sb.generation 1 (omega (arith, once)) in
        let least : leb 0 sb.changes_max ≡ true = le-leb 0 sb.changes_max (omega arith) in
        simp (low, some, first, least)

    -- it is the manifest of the superblock
    manifest_found : recover_manifest c sb ≡ Ok new_manifest
    manifest_found =
        ap (λ (r : Read Chained). and_then r (λ found. passed_or sb.manifest (belongs sb found) found.manifest)) found_chain
        ∙ ap (λ (test : Bool). passed_or sb.manifest test new_manifest) it_belongs

  -- an opening finds the head, and the image reads as the state of a new store
  module _ (slot : ℕ) (newest : newest_in c ≡ Ok (Some (slot, sb))) (empty : journal_in_two c sb.mem sb.region ≡ Ok []) where
    journal_found : recover_journal c sb new_manifest ≡ Ok []
    journal_found = ap (λ (r : Read (List Logged)). and_then r (accepted_in sb.changes_max sb.versions_max (parents_in new_manifest) new_manifest.marks new_manifest.changes)) empty

    pub head_found : recover c ≡ Ok (Some (record { sb = sb; manifest = new_manifest; journal = [] }))
    head_found =
        ap (λ (r : Read (Option (ℕ × Super))). and_then r (recover_slot c)) newest
        ∙ ap (λ (r : Read Manifest). and_then (and_then r (λ m. and_then (recover_journal c sb m) (λ journal. Ok (record { sb = sb; manifest = m; journal = journal })))) (λ h. Ok (Some h))) (manifest_found (fits_of c slot sb newest))
        ∙ ap (λ (r : Read (List Change)). and_then (and_then r (λ journal. Ok (record { sb = sb; manifest = new_manifest; journal = journal }))) (λ h. Ok (Some h))) journal_found

    pub state_found : reads_as c ≡ Some (fresh_state sb.mem sb.changes_max sb.versions_max)
    state_found = ap (λ (r : Read (Option Head)). option_and_then (state_of c) (opened r)) head_found
