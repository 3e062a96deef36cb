-- A head tells of its state what a state's own head tells.
use Rattle.std.proofs.Common.{◌≡◌, ◌+◌, ◌-◌, ◌*◌, ℕ, Bool, true, false, cond, ltb, List, [], ◌∷◌, ◌++◌, length, map, Option, Some, None, refl, sym, ap, ◌∙◌}
use Rattle.std.specs.Prelude.{option_map, flat_map, fold, sum_by, codes}
use Rattle.std.specs.Fmt.{decimal}
use Rattle.std.proofs.lemmas.List.{map-append}
use Rattle.std.proofs.Math.ListN.{length-map}
use Rattle.def_crash.specs.Image.{Image}
use Rattle.def_state.specs.Level.{TaggedArray, Level}
use Rattle.def_bytes.specs.Manifest.{Manifest}
use Rattle.strat_base.specs.declared.descriptors.ArrayDesc.{ArrayDesc}
use Rattle.strat_base.specs.declared.descriptors.LevelDesc.{LevelDesc}
use Rattle.def_bytes.specs.Arrays.{blocks_of, entries_on}
use Rattle.def_bytes.specs.Arrays.{all_some}
use Rattle.def_recovery.specs.Opened.{array_on, level_on, parents_in}
use Rattle.def_state.specs.State.{State, versions_of, updates_of, changes_of}
use Rattle.def_recovery.specs.Head.{Head, head_versions, journal_count, head_changes, head_updates, head_stored, descriptors, described, level_described, parent_numbers, head_of}
use Rattle.def_recovery.specs.Opening.{state_of}
use Rattle.def_recovery.proofs.OpeningLemmas.{map_some, each_some}

-- a descriptor that does not say where its array lies
abbrev pub unplaced : ArrayDesc → ArrayDesc
unplaced a = record a { extents = [] }

abbrev pub level_unplaced : LevelDesc → LevelDesc
level_unplaced d = record d { arrays = map unplaced d.arrays }

array_said : (c : Image) (a : ArrayDesc) (x : TaggedArray) → array_on c a ≡ Some x → described x ≡ unplaced a
array_said c a x e =
    let made = map_some (λ entries. record { id = a.id; tag = a.versions; content = entries; entries = a.entries; leads = a.leads; least = a.least }) (entries_on c (blocks_of a.extents)) x e in
    ap described (sym made.2)

arrays_said : (c : Image) (arrays : List ArrayDesc) (xs : List TaggedArray) → all_some (array_on c) arrays ≡ Some xs → map described xs ≡ map unplaced arrays
arrays_said c [] xs e = let none : [] ≡ xs = cc in ap (λ (x : List TaggedArray). map described x) (sym none)
arrays_said c (a ∷ arrays) xs e =
    let parts = each_some (array_on c) a arrays xs e in
    ap (λ (x : List TaggedArray). map described x) (sym parts.4) ∙ (λ i. array_said c a parts.0 parts.2 i ∷ arrays_said c arrays parts.1 parts.3 i)

level_said : (c : Image) (d : LevelDesc) (x : Level) → level_on c d ≡ Some x → level_described x ≡ level_unplaced d
level_said c d x e =
    let made = map_some (λ arrays. record { number = d.number; horizon = d.horizon; arrays = arrays }) (all_some (array_on c) d.arrays) x e in
    ap level_described (sym made.2) ∙ (λ i. record { number = d.number; horizon = d.horizon; arrays = arrays_said c d.arrays made.0 made.1 i })

levels_said : (c : Image) (ds : List LevelDesc) (xs : List Level) → all_some (level_on c) ds ≡ Some xs → map level_described xs ≡ map level_unplaced ds
levels_said c [] xs e = let none : [] ≡ xs = cc in ap (λ (x : List Level). map level_described x) (sym none)
levels_said c (d ∷ ds) xs e =
    let parts = each_some (level_on c) d ds xs e in
    ap (λ (x : List Level). map level_described x) (sym parts.4) ∙ (λ i. level_said c d parts.0 parts.2 i ∷ levels_said c ds parts.1 parts.3 i)

parents_said : (ps : List ℕ) → parent_numbers (map (λ p. Some p) ps) ≡ ps
parents_said [] = refl
parents_said (p ∷ ps) = ap (λ (x : List ℕ). p ∷ x) (parents_said ps)

-- the head without where its parts lie
abbrev pub head_unplaced : Head → Head
head_unplaced h = record h {
  sb = record (h.sb) { format = 0; manifest = 0; length = 0; region = 0 };
  manifest = record (h.manifest) { levels = map level_unplaced h.manifest.levels };
}

-- the state of a head with these levels
abbrev pub state_with : Head → List Level → State
state_with h levels = record {
  mem = h.sb.mem;
  changes_max = h.sb.changes_max;
  versions_max = h.sb.versions_max;
  parents = parents_in h.manifest;
  marks = h.manifest.marks;
  changes = h.manifest.changes;
  updates = h.manifest.updates;
  written = h.manifest.written;
  compacted = h.manifest.compacted;
  next_array = h.manifest.next_array;
  levels = levels;
  journal = h.journal;
}

pub head_said : (c : Image) (h : Head) (s : State) → state_of c h ≡ Some s → head_of h.sb.generation s ≡ head_unplaced h
head_said c h s e =
    let m : Manifest = h.manifest in
    let made = map_some (state_with h) (all_some (level_on c) m.levels) s e in
    ap (head_of h.sb.generation) (sym made.2)
    ∙ (λ i. record {
      sb = record { format = 0; generation = h.sb.generation; manifest = 0; length = 0; region = 0; mem = h.sb.mem; changes_max = h.sb.changes_max; versions_max = h.sb.versions_max };
      manifest = record { changes = m.changes; updates = m.updates; written = m.written; compacted = m.compacted; next_array = m.next_array; parents = parents_said m.parents i; marks = m.marks; levels = levels_said c m.levels made.0 made.1 i };
      journal = h.journal;
    })

sum_from : (f : ArrayDesc → ℕ) → ((a : ArrayDesc) → f (unplaced a) ≡ f a) → (arrays : List ArrayDesc) (n : ℕ)
    → fold (λ m a. m + f a) n (map unplaced arrays) ≡ fold (λ m a. m + f a) n arrays
sum_from f same [] n = refl
sum_from f same (a ∷ arrays) n = sum_from f same arrays (n + f (unplaced a)) ∙ ap (λ (k : ℕ). fold (λ m x. m + f x) (n + k) arrays) (same a)

pub sum_unplaced : (f : ArrayDesc → ℕ) → ((a : ArrayDesc) → f (unplaced a) ≡ f a) → (arrays : List ArrayDesc) → sum_by f (map unplaced arrays) ≡ sum_by f arrays
sum_unplaced f same arrays = sum_from f same arrays 0

pub arrays_unplaced : (ds : List LevelDesc) → flat_map (λ (d : LevelDesc). d.arrays) (map level_unplaced ds) ≡ map unplaced (flat_map (λ (d : LevelDesc). d.arrays) ds)
arrays_unplaced [] = refl
arrays_unplaced (d ∷ ds) =
    ap (λ (x : List ArrayDesc). map unplaced d.arrays ++ x) (arrays_unplaced ds) ∙ sym (map-append unplaced d.arrays (flat_map (λ (e : LevelDesc). e.arrays) ds))

pub stored_unplaced : (h : Head) → head_stored (head_unplaced h) ≡ head_stored h
stored_unplaced h =
    ap (λ (n : ℕ). n + journal_count h) (ap (λ (x : List ArrayDesc). sum_by (λ a. a.entries) x) (arrays_unplaced h.manifest.levels) ∙ sum_unplaced (λ a. a.entries) (λ a. refl) (descriptors h.manifest))

pub counts_said : (c : Image) (h : Head) (s : State) → state_of c h ≡ Some s → (head_versions h ≡ versions_of s) × (head_updates h ≡ updates_of s) × (head_changes h ≡ changes_of s)
counts_said c h s e =
    let made = map_some (state_with h) (all_some (level_on c) h.manifest.levels) s e in
    (ap versions_of made.2, ap updates_of made.2, ap changes_of made.2)
