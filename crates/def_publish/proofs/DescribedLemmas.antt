-- What the descriptors of arrays that stand in an image have of the arrays.
use Rattle.std.proofs.Common.{◌≡◌, ◌≤◌, ◌<◌, ◌*◌, ℕ, Bool, eqb, leb, ltb, ◌&&◌, inl, inr, List, [], ◌∷◌, ◌++◌, length, map, Option, Some, refl, sym, ap, ◌∙◌, subst, arith, length-append}
use Rattle.std.specs.Prelude.{option_map}
use Rattle.std.specs.List.{list_all, flat_map, filter, sum_by, range_with_len}
use Rattle.std.proofs.lemmas.Bool.{and_parts, eqb-true, leb-true, ltb-true}
use Rattle.std.proofs.lemmas.List.FromFn.{length-range_with_len}
use Rattle.std.proofs.lemmas.List.Sums.{sum_by-cons, sum_by-append, length-filter, count_by-le-length}
use Rattle.strat_base.specs.Entries.{Entry, is_ascending}
use Rattle.strat_base.specs.EntryBytes.{fits_fields}
use Rattle.strat_base.specs.declared.descriptors.ArrayDesc.{ArrayDesc}
use Rattle.strat_base.specs.declared.descriptors.LevelDesc.{LevelDesc}
use Rattle.strat_base.specs.declared.descriptors.Extent.{Extent}
use Rattle.strat_base.specs.declared.limits.TheConstants.{BLOCK}
use Rattle.strat_base.proofs.ListFacts.{Among, all_at, each_of}
use Rattle.def_crash.specs.Image.{Image, window}
use Rattle.def_bytes.specs.Arrays.{all_some, blocks_of, entries_on}
use Rattle.def_bytes.specs.Block.{block_in, block_front}
use Rattle.def_bytes.proofs.BlockLemmas.{block_in-some}
use Rattle.def_recovery.specs.Opened.{array_on, level_on}
use Rattle.def_recovery.proofs.OpeningLemmas.{map_some, next_some, each_some}
use Rattle.def_state.specs.Level.{TaggedArray, Level, own_leads, least, least_live, level_leads, is_led, IsStratified}
use Rattle.def_state.specs.Live.{live, is_live}
use Rattle.def_state.specs.State.{State, versions_of}
use Rattle.def_state.specs.Sound.{is_described, IsSound}

-- where something is made of each item of a list, it is made of one
pub made_of : {A B : Type 0} (f : A → Option B) (ds : List A) (ys : List B) (d : A) → all_some f ds ≡ Some ys → Among d ds → (y : B) × Among y ys × (f d ≡ Some y)
made_of f [] ys d e among = absurd among
made_of f (x ∷ ds) ys d e (inl here) =
    let parts = each_some f x ds ys e in
    (parts.0, subst (Among parts.0) parts.4 (inl refl), ap f here ∙ parts.2)
made_of f (x ∷ ds) ys d e (inr there) =
    let parts = each_some f x ds ys e in
    let rest = made_of f ds parts.1 d parts.3 there in
    (rest.0, subst (Among rest.0) parts.4 (inr rest.1), rest.2)

pub filter_few : {X : Type 0} (p : X → Bool) (xs : List X) → length (filter p xs) ≤ length xs
filter_few p xs = omega (arith, length-filter p xs, count_by-le-length p xs)

-- a block has an entry
block_some : (bytes : List ℕ) (entries : List Entry) → block_in bytes ≡ Some entries → 0 < length entries
block_some bytes entries is =
    ltb-true 0 (length entries)
    (and_parts (ltb 0 (length entries)) (list_all fits_fields entries) (and_parts (ltb 0 (length entries) && list_all fits_fields entries) (is_ascending entries)
    (and_parts (ltb 0 (length entries) && list_all fits_fields entries && is_ascending entries) (leb (length (block_front entries)) 4096) (block_in-some bytes entries is).fits).0).0).0

-- so an array has no more blocks than entries
blocks_few : (c : Image) (blocks : List ℕ) (entries : List Entry) → entries_on c blocks ≡ Some entries → length blocks ≤ length entries
unfolding entries_on
blocks_few c [] entries e = omega arith
blocks_few c (b ∷ blocks) entries e =
    let first = next_some (λ xs. option_map (λ rest. xs ++ rest) (entries_on c blocks)) (block_in (window c (BLOCK * b) BLOCK)) entries e in
    let rest = map_some (λ rest. first.0 ++ rest) (entries_on c blocks) entries first.2 in
    let fewer = blocks_few c blocks rest.0 rest.1 in
    let some = block_some (window c (BLOCK * b) BLOCK) first.0 first.1 in
    omega (arith, fewer, some, ap length rest.2, length-append first.0 rest.0)

-- and it has a block where it has an entry
blocks_some : (c : Image) (blocks : List ℕ) (entries : List Entry) → entries_on c blocks ≡ Some entries → 0 < length entries → 0 < length blocks
unfolding entries_on
blocks_some c [] entries e some = let none : [] ≡ entries = cc in absurd (omega (arith, some, ap length none))
blocks_some c (b ∷ blocks) entries e some = omega arith

pub blocks_counted : (xs : List Extent) → sum_by (λ x. x.len) xs ≡ length (blocks_of xs)
blocks_counted [] = refl
blocks_counted (x ∷ xs) =
    omega (arith, sum_by-cons (λ y. y.len) x xs, blocks_counted xs, length-append (range_with_len x.start x.len) (blocks_of xs), length-range_with_len x.start x.len)

-- at no version of a tag more entries are live than there are
least_few : (n : ℕ) (f : ℕ → ℕ) (vs : List ℕ) → ((v : ℕ) → f v ≤ n) → least (map f vs) ≤ n
least_few n f [] each = omega arith
least_few n f (v ∷ []) each = each v
least_few n f (v ∷ w ∷ vs) each = omega (arith, each v)

-- the tags of arrays are those of their descriptors
pub tags_kept : (g : Image) (rs : List ArrayDesc) (xs : List TaggedArray) → all_some (array_on g) rs ≡ Some xs → flat_map (λ x. x.tag) xs ≡ flat_map (λ a. a.versions) rs
tags_kept g [] xs e = let none : [] ≡ xs = cc in ap (flat_map (λ (x : TaggedArray). x.tag)) (sym none)
tags_kept g (a ∷ rs) xs e =
    let parts = each_some (array_on g) a rs xs e in
    let made = map_some (λ entries. record { id = a.id; tag = a.versions; content = entries; entries = a.entries; leads = a.leads; least = a.least }) (entries_on g (blocks_of a.extents)) parts.0 parts.2 in
    ap (flat_map (λ (x : TaggedArray). x.tag)) (sym parts.4)
    ∙ (λ i. ap (λ (x : TaggedArray). x.tag) (sym made.2) i ++ tags_kept g rs parts.1 parts.3 i)

-- a level that stands in an image
pub record StandsAsLevel (g : Image) (s : State) (d : LevelDesc) : Type 0 where
  pub level : Level
  pub among : Among level s.levels
  pub on : level_on g d ≡ Some level
  pub numbered : level.number ≡ d.number
  pub aged : level.horizon ≡ d.horizon
  pub arrays : all_some (array_on g) d.arrays ≡ Some level.arrays

pub level_stands : (g : Image) (s : State) (d : LevelDesc) (level : Level) → Among level s.levels → level_on g d ≡ Some level → StandsAsLevel g s d
level_stands g s d level among on =
    let made = map_some (λ arrays. record { number = d.number; horizon = d.horizon; arrays = arrays }) (all_some (array_on g) d.arrays) level on in
    record {
      level = level;
      among = among;
      on = on;
      numbered = ap (λ (l : Level). l.number) (sym made.2);
      aged = ap (λ (l : Level). l.horizon) (sym made.2);
      arrays = made.1 ∙ ap (λ (l : Level). Some l.arrays) made.2;
    }

-- an array that stands in an image, of a sound state
pub record StandsAsArray (g : Image) (s : State) (level : Level) (a : ArrayDesc) : Type 0 where
  pub array : TaggedArray
  pub among : Among array level.arrays
  pub id : array.id ≡ a.id
  pub tag : array.tag ≡ a.versions
  pub entries : a.entries ≡ length array.content
  pub leads : a.leads ≡ length (own_leads array)
  pub least : a.least ≤ a.entries
  pub led : a.entries ≤ 2 * a.leads
  pub within : a.leads ≤ a.entries
  pub some : 0 < a.entries → 0 < length (blocks_of a.extents)
  pub few : length (blocks_of a.extents) ≤ a.entries

module _ (g : Image) (s : State) (sound : IsSound s) where
  described : (level : Level) → Among level s.levels → (x : TaggedArray) → Among x level.arrays → (x.entries ≡ length x.content) × (x.leads ≡ length (own_leads x)) × (x.least ≡ least_live (versions_of s) x)
  described level in_state x among =
      let k = all_at (is_described s) x level.arrays (all_at (λ l. list_all (is_described s) l.arrays) level s.levels sound.described in_state) among in
      let least_is = and_parts (eqb x.entries (length x.content) && eqb x.leads (length (own_leads x))) (eqb x.least (least_live (versions_of s) x)) k in
      let counts = and_parts (eqb x.entries (length x.content)) (eqb x.leads (length (own_leads x))) least_is.0 in
      (eqb-true x.entries (length x.content) counts.0, eqb-true x.leads (length (own_leads x)) counts.1, eqb-true x.least (least_live (versions_of s) x) least_is.1)

  pub array_stands : (level : Level) → Among level s.levels → (a : ArrayDesc) (x : TaggedArray) → Among x level.arrays → array_on g a ≡ Some x → StandsAsArray g s level a
  array_stands level in_state a x among on =
      let made = map_some (λ entries. record { id = a.id; tag = a.versions; content = entries; entries = a.entries; leads = a.leads; least = a.least }) (entries_on g (blocks_of a.extents)) x on in
      let read : entries_on g (blocks_of a.extents) ≡ Some x.content = made.1 ∙ ap (λ (y : TaggedArray). Some y.content) made.2 in
      let entries : a.entries ≡ x.entries = ap (λ (y : TaggedArray). y.entries) made.2 in
      let leads : a.leads ≡ x.leads = ap (λ (y : TaggedArray). y.leads) made.2 in
      let least_is : a.least ≡ x.least = ap (λ (y : TaggedArray). y.least) made.2 in
      let k = described level in_state x among in
      let e = leb-true (length x.content) (2 * length (own_leads x)) (all_at is_led x level.arrays (each_of (IsStratified (versions_of s)) s.levels level sound.stratified in_state).led among) in
      let low = least_few (length x.content) (λ v. length (live (versions_of s) x.content v)) x.tag (λ v. filter_few (is_live (versions_of s) x.content v) x.content) in
      let filtered = filter_few (λ (y : Entry). Rattle.strat_base.specs.Entries.is_tagged x.tag y.version) x.content in
      record {
        array = x;
        among = among;
        id = ap (λ (y : TaggedArray). y.id) (sym made.2);
        tag = ap (λ (y : TaggedArray). y.tag) (sym made.2);
        entries = entries ∙ k.0;
        leads = leads ∙ k.1;
        least = omega (arith, entries, least_is, k.0, k.2, low);
        led = omega (arith, entries, leads, k.0, k.1, e);
        within = omega (arith, entries, leads, k.0, k.1, filtered);
        some = λ some. blocks_some g (blocks_of a.extents) x.content read (omega (arith, some, entries, k.0));
        few = omega (arith, blocks_few g (blocks_of a.extents) x.content read, entries, k.0);
      }

  arrays_counted : (level : Level) → Among level s.levels → (rs : List ArrayDesc) (xs : List TaggedArray) → ((x : TaggedArray) → Among x xs → Among x level.arrays) → all_some (array_on g) rs ≡ Some xs
      → sum_by (λ a. a.leads) rs ≡ length (flat_map own_leads xs)
  arrays_counted level in_state [] xs there e = let none : [] ≡ xs = cc in ap (λ (ys : List TaggedArray). length (flat_map own_leads ys)) none
  arrays_counted level in_state (a ∷ rs) xs there e =
      let parts = each_some (array_on g) a rs xs e in
      let made = map_some (λ entries. record { id = a.id; tag = a.versions; content = entries; entries = a.entries; leads = a.leads; least = a.least }) (entries_on g (blocks_of a.extents)) parts.0 parts.2 in
      let leads : a.leads ≡ parts.0.leads = ap (λ (y : TaggedArray). y.leads) made.2 in
      let inside : (x : TaggedArray) → Among x (parts.0 ∷ parts.1) → Among x level.arrays = λ x among. there x (subst (Among x) parts.4 among) in
      let own = (described level in_state parts.0 (inside parts.0 (inl refl))).1 in
      let rest = arrays_counted level in_state rs parts.1 (λ x among. inside x (inr among)) parts.3 in
      omega (arith, leads, own, rest, sum_by-cons (λ (x : ArrayDesc). x.leads) a rs, length-append (own_leads parts.0) (flat_map own_leads parts.1), ap (λ (ys : List TaggedArray). length (flat_map own_leads ys)) parts.4)

  levels_counted : (es : List LevelDesc) (levels : List Level) → ((l : Level) → Among l levels → Among l s.levels) → all_some (level_on g) es ≡ Some levels
      → sum_by (λ a. a.leads) (flat_map (λ d. d.arrays) es) ≡ sum_by (λ l. length (level_leads l)) levels
  levels_counted [] levels there e = let none : [] ≡ levels = cc in ap (sum_by (λ (l : Level). length (level_leads l))) none
  levels_counted (d ∷ es) levels there e =
      let parts = each_some (level_on g) d es levels e in
      let inside : (l : Level) → Among l (parts.0 ∷ parts.1) → Among l s.levels = λ l among. there l (subst (Among l) parts.4 among) in
      let made = map_some (λ arrays. record { number = d.number; horizon = d.horizon; arrays = arrays }) (all_some (array_on g) d.arrays) parts.0 parts.2 in
      let read : all_some (array_on g) d.arrays ≡ Some parts.0.arrays = made.1 ∙ ap (λ (l : Level). Some l.arrays) made.2 in
      let here = arrays_counted parts.0 (inside parts.0 (inl refl)) d.arrays parts.0.arrays (λ x among. among) read in
      let rest = levels_counted es parts.1 (λ l among. inside l (inr among)) parts.3 in
      omega (
        arith,
        here,
        rest,
        sum_by-append (λ (a : ArrayDesc). a.leads) d.arrays (flat_map (λ (x : LevelDesc). x.arrays) es),
        sum_by-cons (λ (l : Level). length (level_leads l)) parts.0 parts.1,
        ap (sum_by (λ (l : Level). length (level_leads l))) parts.4,
      )

  module _ (ds : List LevelDesc) (read : all_some (level_on g) ds ≡ Some s.levels) where
    pub level_there : (d : LevelDesc) → Among d ds → StandsAsLevel g s d
    level_there d among = let found = made_of (level_on g) ds s.levels d read among in level_stands g s d found.0 found.1 found.2

    pub array_there : (d : LevelDesc) (a : ArrayDesc) (in_levels : Among d ds) → Among a d.arrays → StandsAsArray g s (level_there d in_levels).level a
    array_there d a in_levels among =
        let l = level_there d in_levels in
        let found = made_of (array_on g) d.arrays l.level.arrays a l.arrays among in
        array_stands l.level l.among a found.0 found.1 found.2

    -- the leads of descriptors are those of the state
    pub leads_counted : sum_by (λ a. a.leads) (flat_map (λ d. d.arrays) ds) ≡ sum_by (λ l. length (level_leads l)) s.levels
    leads_counted = levels_counted ds s.levels (λ l among. among) read
