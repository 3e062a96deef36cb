-- Where slots, journal regions and named blocks lie beside one another, and what is read of the slots.
use Rattle.std.proofs.Common.{◌≡◌, ◌≤◌, ◌+◌, ◌*◌, ℕ, zero, suc, Bool, true, false, cond, leb, ltb, ◌⊎◌, inl, inr, Option, Some, None, Ok, Err, refl, sym, ap, ◌∙◌, arith}
use Rattle.std.proofs.lemmas.Bool.{and_parts, leb-true}
use Rattle.strat_base.proofs.ListFacts.{Among, all_at}
use Rattle.def_crash.specs.Image.{Image, SameIn}
use Rattle.def_bytes.specs.Damage.{Read}
use Rattle.def_bytes.specs.Layout.{region_at, region_size, other_region, first_free, shortest_manifest}
use Rattle.def_bytes.specs.SuperBlock.{Super, in_range, newer, chosen_in, verdict, newest_in}
use Rattle.def_bytes.proofs.ManifestLemmas.{pass_at}
use Rattle.def_bytes.proofs.SuperBlockLemmas.{slot_same}
use Rattle.std.specs.List.{list_all}
use Rattle.def_state.specs.Level.{is_distinct}
use Rattle.def_recovery.specs.Opening.{belongs}
use Rattle.def_publish.specs.Contents.{Contents, named_blocks}

-- where a region and the first gate of the other one lie
pub record Places (mem region : ℕ) : Type 0 where
  pub behind_slots : 8192 ≤ region_at mem region
  pub in_front : region_at mem region + region_size mem ≤ 4096 * first_free mem
  pub gate_behind : 8192 ≤ region_at mem (other_region region)
  pub gate_within : region_at mem (other_region region) + 1 ≤ 4096 * first_free mem
  pub apart : (region_at mem region + region_size mem ≤ region_at mem (other_region region))
      ⊎ (region_at mem (other_region region) + 1 ≤ region_at mem region)

pub places : (mem region : ℕ) → region ≤ 1 → Places mem region
places mem zero few = record {
  behind_slots = omega arith;
  in_front = omega arith;
  gate_behind = omega arith;
  gate_within = omega arith;
  apart = inl (omega arith);
}
places mem (suc zero) few = record {
  behind_slots = omega arith;
  in_front = omega arith;
  gate_behind = omega arith;
  gate_within = omega arith;
  apart = inr (omega arith);
}
places mem (suc (suc region)) few = absurd (omega arith)

-- a superblock that is read in a slot
abbrev pub slot_read : ℕ → Super → Read (Option (ℕ × Super))
slot_read slot sb = Ok (Some (slot, sb))

pub one_super : (n m : ℕ) (x y : Super) → slot_read n x ≡ slot_read m y → (n ≡ m) × (x ≡ y)
one_super n m x y e =
    let pair : (n, x) ≡ (m, y) = cc in
    (ap (λ (p : ℕ × Super). p.0) pair, ap (λ (p : ℕ × Super). p.1) pair)

-- the slot that is chosen, where the newest superblock is this one
pub record Chosen (c : Image) (slot : ℕ) (sb : Super) : Type 0 where
  pub found : chosen_in c ≡ Some (slot, sb)
  pub fits : in_range sb ≡ true

pub newest_chosen : (c : Image) (slot : ℕ) (sb : Super) → newest_in c ≡ Ok (Some (slot, sb)) → Chosen c slot sb
newest_chosen c slot sb e = by_slot (chosen_in c) refl e
  where
    by_test : (n : ℕ) (s : Super) (b : Bool) → chosen_in c ≡ Some (n, s) → in_range s ≡ b → cond b (slot_read n s) (Err n) ≡ slot_read slot sb → Chosen c slot sb
    by_test n s false is fits e = absurd (cc)
    by_test n s true is fits e =
        let same = one_super n slot s sb e in
        record {
          found = is ∙ (λ i. Some (same.0 i, same.1 i));
          fits = ap in_range (sym same.1) ∙ fits;
        }

    by_slot : (found : Option (ℕ × Super)) → chosen_in c ≡ found → verdict found ≡ Ok (Some (slot, sb)) → Chosen c slot sb
    by_slot None is e = absurd (cc)
    by_slot (Some s) is e = by_test s.0 s.1 (in_range s.1) is refl e

-- what proofs need of the fields of the newest superblock
pub record Fits (sb : Super) : Type 0 where
  pub region : sb.region ≤ 1
  pub mem_least : 4 ≤ sb.mem
  pub mem_most : sb.mem ≤ 4096

pub newest_fits : (c : Image) (slot : ℕ) (sb : Super) → newest_in c ≡ Ok (Some (slot, sb)) → Fits sb
newest_fits c slot sb e =
    let found = newest_chosen c slot sb e in
    let p1 = and_parts _ (leb sb.versions_max 16384) found.fits in
    let p2 = and_parts _ (leb 1 sb.versions_max) p1.0 in
    let p3 = and_parts _ (leb sb.changes_max 16777216) p2.0 in
    let p4 = and_parts _ (leb 1 sb.changes_max) p3.0 in
    let p5 = and_parts _ (leb sb.region 1) p4.0 in
    let p6 = and_parts _ (leb (shortest_manifest sb.format) sb.length) p5.0 in
    let p7 = and_parts _ (ltb sb.manifest 4294967295) p6.0 in
    let p8 = and_parts _ (leb (first_free sb.mem) sb.manifest) p7.0 in
    let p9 = and_parts _ (leb sb.mem 4096) p8.0 in
    let p10 = and_parts _ (leb 4 sb.mem) p9.0 in
    record { region = leb-true sb.region 1 p5.1; mem_least = leb-true 4 sb.mem p10.1; mem_most = leb-true sb.mem 4096 p9.1 }

-- the newest superblock is read from blocks 0 and 1
pub newest_local : (f c : Image) → SameIn 0 8192 f c → newest_in c ≡ newest_in f
newest_local f c same =
    let first = slot_same f c 0 (record { byte = λ i low high. same.byte i low (omega arith) }) in
    let second = slot_same f c 4096 (record { byte = λ i low high. same.byte i (omega arith) (omega arith) }) in
    λ i. verdict (newer (first i) (second i))

-- contents name no block in front of the free ones
pub named_behind : (x : Contents) → belongs x.sb x.chained ≡ true → (b : ℕ) → Among b (named_blocks x) → first_free x.sb.mem ≤ b
named_behind x belonging b among =
    let own = pass_at _ 0 belonging in
    let parts = and_parts (is_distinct (named_blocks x)) (list_all (λ b. leb (first_free x.sb.mem) b) (named_blocks x)) own in
    leb-true (first_free x.sb.mem) b (all_at (λ b. leb (first_free x.sb.mem) b) b (named_blocks x) parts.1 among)
