-- What descriptors say of arrays, and what the arrays are.
use Rattle.std.proofs.Common.{◌≡◌, ◌∙◌, ◌&&◌, ℕ, Bool, true, eqb, List, [], ◌∷◌, ◌++◌, length, map, flat_map, Some, refl, sym, ap, subst}
use Rattle.std.specs.List.{list_all}
use Rattle.std.proofs.lemmas.Bool.{and_parts, eqb-true}
use Rattle.std.proofs.lemmas.List.{map-append}
use Rattle.strat_base.specs.declared.descriptors.ArrayDesc.{ArrayDesc}
use Rattle.strat_base.specs.declared.descriptors.LevelDesc.{LevelDesc}
use Rattle.def_crash.specs.Image.{Image}
use Rattle.def_bytes.specs.Arrays.{all_some, blocks_of, entries_on}
use Rattle.def_recovery.proofs.OpeningLemmas.{each_some, map_some}
use Rattle.def_recovery.specs.Head.{Head, descriptors}
use Rattle.def_recovery.specs.Opened.{array_on, level_on, parents_in}
use Rattle.def_recovery.specs.Opening.{state_of}
use Rattle.def_state.specs.Level.{Level, TaggedArray, density, lead_fraction, least_live, own_leads}
use Rattle.def_state.specs.Sound.{IsSound, is_described}
use Rattle.def_state.specs.State.{State, densities, lead_fractions, versions_of}

-- the least number live, and the leads, each of all entries, as a descriptor has them
abbrev least_said : ArrayDesc → ℕ × ℕ
least_said a = (a.least, a.entries)

abbrev leads_said : ArrayDesc → ℕ × ℕ
leads_said a = (a.leads, a.entries)

module _ (c : Image) (s : State) where
  one_said : (a : ArrayDesc) (x : TaggedArray) → array_on c a ≡ Some x → is_described s x ≡ true → (least_said a ≡ density (versions_of s) x) × (leads_said a ≡ lead_fraction x)
  one_said a x on told =
      let made = map_some (λ entries. record { id = a.id; tag = a.versions; content = entries; entries = a.entries; leads = a.leads; least = a.least }) (entries_on c (blocks_of a.extents)) x on in
      let both = and_parts (eqb x.entries (length x.content) && eqb x.leads (length (own_leads x))) (eqb x.least (least_live (versions_of s) x)) told in
      let two = and_parts (eqb x.entries (length x.content)) (eqb x.leads (length (own_leads x))) both.0 in
      let entries : a.entries ≡ length x.content = ap (λ (y : TaggedArray). y.entries) made.2 ∙ eqb-true x.entries (length x.content) two.0 in
      let leads : a.leads ≡ length (own_leads x) = ap (λ (y : TaggedArray). y.leads) made.2 ∙ eqb-true x.leads (length (own_leads x)) two.1 in
      let least : a.least ≡ least_live (versions_of s) x = ap (λ (y : TaggedArray). y.least) made.2 ∙ eqb-true x.least (least_live (versions_of s) x) both.1 in
      (λ i. (least i, entries i), λ i. (leads i, entries i))

  each_said : (rs : List ArrayDesc) (xs : List TaggedArray) → all_some (array_on c) rs ≡ Some xs → list_all (is_described s) xs ≡ true
      → (map least_said rs ≡ map (density (versions_of s)) xs) × (map leads_said rs ≡ map lead_fraction xs)
  each_said [] xs e told = let none : [] ≡ xs = cc in (ap (map (density (versions_of s))) none, ap (map lead_fraction) none)
  each_said (a ∷ rs) xs e told =
      let parts = each_some (array_on c) a rs xs e in
      let tests : list_all (is_described s) (parts.0 ∷ parts.1) ≡ true = ap (list_all (is_described s)) parts.4 ∙ told in
      let here = and_parts (is_described s parts.0) (list_all (is_described s) parts.1) tests in
      let first = one_said a parts.0 parts.2 here.0 in
      let rest = each_said rs parts.1 parts.3 here.1 in (
        (λ i. first.0 i ∷ rest.0 i) ∙ ap (map (density (versions_of s))) parts.4,
        (λ i. first.1 i ∷ rest.1 i) ∙ ap (map lead_fraction) parts.4,
      )

  levels_said : (ds : List LevelDesc) (ls : List Level) → all_some (level_on c) ds ≡ Some ls → list_all (λ (l : Level). list_all (is_described s) l.arrays) ls ≡ true
      → (map least_said (flat_map (λ (d : LevelDesc). d.arrays) ds) ≡ flat_map (λ (l : Level). map (density (versions_of s)) l.arrays) ls)
      × (map leads_said (flat_map (λ (d : LevelDesc). d.arrays) ds) ≡ flat_map (λ (l : Level). map lead_fraction l.arrays) ls)
  levels_said [] ls e told =
      let none : [] ≡ ls = cc in
      (ap (flat_map (λ (l : Level). map (density (versions_of s)) l.arrays)) none, ap (flat_map (λ (l : Level). map lead_fraction l.arrays)) none)
  levels_said (d ∷ ds) ls e told =
      let parts = each_some (level_on c) d ds ls e in
      let made = map_some (λ arrays. record { number = d.number; horizon = d.horizon; arrays = arrays }) (all_some (array_on c) d.arrays) parts.0 parts.2 in
      let tests : list_all (λ (l : Level). list_all (is_described s) l.arrays) (parts.0 ∷ parts.1) ≡ true = ap (list_all (λ (l : Level). list_all (is_described s) l.arrays)) parts.4 ∙ told in
      let here = and_parts (list_all (is_described s) parts.0.arrays) (list_all (λ (l : Level). list_all (is_described s) l.arrays) parts.1) tests in
      let same : made.0 ≡ parts.0.arrays = ap (λ (l : Level). l.arrays) made.2 in
      let first = each_said d.arrays parts.0.arrays (made.1 ∙ ap (λ (xs : List TaggedArray). Some xs) same) here.0 in
      let rest = levels_said ds parts.1 parts.3 here.1 in
      let behind : List ArrayDesc = flat_map (λ (l : LevelDesc). l.arrays) ds in (
        map-append least_said d.arrays behind ∙ (λ i. first.0 i ++ rest.0 i) ∙ ap (flat_map (λ (l : Level). map (density (versions_of s)) l.arrays)) parts.4,
        map-append leads_said d.arrays behind ∙ (λ i. first.1 i ++ rest.1 i) ∙ ap (flat_map (λ (l : Level). map lead_fraction l.arrays)) parts.4,
      )

-- so what is said of a sound state is what it has
pub fractions_said : (c : Image) (h : Head) (s : State) → state_of c h ≡ Some s → IsSound s
    → (map (λ (a : ArrayDesc). (a.least, a.entries)) (descriptors h.manifest) ≡ densities s) × (map (λ (a : ArrayDesc). (a.leads, a.entries)) (descriptors h.manifest) ≡ lead_fractions s)
fractions_said c h s read sound =
    let made =
    map_some (λ (levels : List Level). record {
      mem = h.sb.mem;
      changes_max = h.sb.changes_max;
      versions_max = h.sb.versions_max;
      parents = parents_in h.manifest;
      marks = h.manifest.marks;
      changes = h.manifest.changes;
      updates = h.manifest.updates;
      written = h.manifest.written;
      compacted = h.manifest.compacted;
      next_array = h.manifest.next_array;
      levels = levels;
      journal = h.journal;
    }) (all_some (level_on c) h.manifest.levels) s read in
    let same : made.0 ≡ s.levels = ap (λ (t : State). t.levels) made.2 in
    levels_said c s h.manifest.levels s.levels (made.1 ∙ ap (λ (ls : List Level). Some ls) same) sound.described
