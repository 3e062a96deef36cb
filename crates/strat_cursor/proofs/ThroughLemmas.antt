-- Blocks of several arrays are looked at, each through one cache.
use Rattle.std.proofs.Common.{◌≡◌, ◌<◌, ℕ, true, inl, inr, ◌⊎◌, List, [], ◌∷◌, Contains, map, Option, Some, refl, sym, ap, ◌∙◌, subst, arith, true≢false}
use Rattle.std.proofs.lemmas.Bool.{and_parts, not-true}
use Rattle.std.specs.List.{slice_get}
use Rattle.strat_array.specs.Kept.{Kept, Blocks, IsBlockRead, Looks}
use Rattle.strat_array.specs.Within.{IsNoBlock}
use Rattle.strat_base.proofs.ListFacts.{Among}
use Rattle.strat_base.specs.Entries.{Entry, is_tagged}
use Rattle.strat_base.specs.declared.descriptors.ArrayDesc.{ArrayDesc}
use Rattle.def_crash.proofs.MomentLemmas.{reads_refl, reads_trans}
use Rattle.def_crash.specs.Image.{Image}
use Rattle.def_crash.specs.Moments.{DiskView}
use Rattle.def_bytes.specs.Arrays.{blocks_of, block_on}
use Rattle.def_recovery.proofs.BadLemmas.{contained_at}
use Rattle.def_state.proofs.LevelLemmas.{among_tagged}
use Rattle.def_state.specs.Level.{is_distinct}
use Rattle.strat_cursor.specs.Looking.{AreCachedFrom, LooksThrough, NamesNoBlock, HaveOwnIds}

-- an element by its place
contained_among : {X : Type 0} (xs : List X) (x : X) → Contains xs x → Among x xs
contained_among xs x at = contained_at x xs at.0 at.1 at.2

-- the number of an array among others names it
id_among : (arrays : List ArrayDesc) (b : ArrayDesc) → Among b arrays → Among b.id (map (λ a. a.id) arrays)
id_among [] b there = there
id_among (a ∷ arrays) b (inl here) = inl (ap (λ (x : ArrayDesc). x.id) here)
id_among (a ∷ arrays) b (inr there) = inr (id_among arrays b there)

one_id : (a : ArrayDesc) (arrays : List ArrayDesc) (b : ArrayDesc) → is_distinct (map (λ a. a.id) (a ∷ arrays)) ≡ true → Among b arrays → b.id ≡ a.id → ⊥
one_id a arrays b own there same =
    let parts = and_parts _ (is_distinct (map (λ a. a.id) arrays)) own in
    true≢false (sym (among_tagged (map (λ a. a.id) arrays) a.id (subst (λ (n : ℕ). Among n (map (λ a. a.id) arrays)) same (id_among arrays b there))) ∙ not-true (is_tagged (map (λ a. a.id) arrays) a.id) parts.0)

pub id_names : (arrays : List ArrayDesc) (a b : ArrayDesc) → is_distinct (map (λ a. a.id) arrays) ≡ true → Among a arrays → Among b arrays → a.id ≡ b.id → a ≡ b
id_names [] a b own one other same = absurd one
id_names (x ∷ arrays) a b own (inl one) (inl other) same = one ∙ sym other
id_names (x ∷ arrays) a b own (inl one) (inr other) same = absurd (one_id x arrays b own other (sym same ∙ ap (λ (y : ArrayDesc). y.id) one))
id_names (x ∷ arrays) a b own (inr one) (inl other) same = absurd (one_id x arrays a own one (same ∙ ap (λ (y : ArrayDesc). y.id) other))
id_names (x ∷ arrays) a b own (inr one) (inr other) same = id_names arrays a b (and_parts _ (is_distinct (map (λ a. a.id) arrays)) own).1 one other same

-- the blocks of one of several arrays stay in a cache as an image has them while only such are added that stand on the disk
pub still_one : (content : Option Image) (f : Image) (arrays : List ArrayDesc) (c d : Blocks) → content ≡ Some f → HaveOwnIds arrays
    → ((k : ℕ × ℕ) (x : List Entry) → Contains d.entries (k, x) → Contains c.entries (k, x) ⊎ ((a : ArrayDesc) × Contains arrays a × IsBlockRead content a.id (blocks_of a.extents) k x))
    → (a : ArrayDesc) → Contains arrays a
    → ((index block : ℕ) (x : List Entry) → Contains c.entries ((a.id, index), x) → slice_get (blocks_of a.extents) index ≡ Some block → block_on f block ≡ Some x)
    → (index block : ℕ) (x : List Entry) → Contains d.entries ((a.id, index), x) → slice_get (blocks_of a.extents) index ≡ Some block → block_on f block ≡ Some x
still_one content f arrays c d exposed own cached a of same index block x there at =
    elim (cached (a.id, index) x there) [
      | inl before ↦ same index block x before at
      | inr got ↦
          let read = got.2 in
          let one : got.0 ≡ a = id_names arrays got.0 a own (contained_among arrays got.0 got.1) (contained_among arrays a of) (sym read.mine) in
          let place : Some block ≡ Some read.block = sym at ∙ ap (λ (z : ArrayDesc). slice_get (blocks_of z.extents) index) (sym one) ∙ read.place in
          let here : block ≡ read.block = cc in
          ap (block_on f) here ∙ read.read f exposed
    ]

-- and so those of all of them
pub still_same : (content : Option Image) (f : Image) (arrays : List ArrayDesc) (c d : Blocks) → content ≡ Some f → HaveOwnIds arrays
    → ((k : ℕ × ℕ) (x : List Entry) → Contains d.entries (k, x) → Contains c.entries (k, x) ⊎ ((a : ArrayDesc) × Contains arrays a × IsBlockRead content a.id (blocks_of a.extents) k x))
    → ((a : ArrayDesc) (index block : ℕ) (x : List Entry) → Contains arrays a → Contains c.entries ((a.id, index), x) → slice_get (blocks_of a.extents) index ≡ Some block → block_on f block ≡ Some x)
    → (a : ArrayDesc) (index block : ℕ) (x : List Entry) → Contains arrays a → Contains d.entries ((a.id, index), x) → slice_get (blocks_of a.extents) index ≡ Some block → block_on f block ≡ Some x
still_same content f arrays c d exposed own cached same a index block x of there at =
    still_one content f arrays c d exposed own cached a of (λ i b y held place. same a i b y of held place) index block x there at

pub still_cached : (old new : DiskView) (f : Image) (next : ℕ) (arrays : List ArrayDesc) (c d : Blocks) → LooksThrough old new arrays c d → old.content ≡ Some f
    → ((a : ArrayDesc) → Contains arrays a → a.id < next) → HaveOwnIds arrays → AreCachedFrom f next arrays c → AreCachedFrom f next arrays d
still_cached old new f next arrays c d looks exposed few own cached = record {
  old = λ k x there.
      elim (looks.cached k x there) [
        | inl before ↦ cached.old k x before
        | inr got ↦ omega (arith, got.2.mine, few got.0 got.1)
      ];
  same = still_same old.content f arrays c d exposed own looks.cached cached.same;
}

-- looking through arrays
pub through_refl : (v : DiskView) (arrays : List ArrayDesc) (c : Blocks) → LooksThrough v v arrays c c
through_refl v arrays c = record { disk = reads_refl v; cap = refl; cached = λ k x there. inl there }

pub through_trans : (old mid new : DiskView) (arrays : List ArrayDesc) (c d e : Blocks) → LooksThrough old mid arrays c d → LooksThrough mid new arrays d e → LooksThrough old new arrays c e
through_trans old mid new arrays c d e first second = record {
  disk = reads_trans first.disk second.disk;
  cap = second.cap ∙ first.cap;
  cached = λ k x there.
      elim (second.cached k x there) [
        | inl before ↦ first.cached k x before
        | inr got ↦
            let read = got.2 in
            inr (got.0, got.1, record { mine = read.mine; block = read.block; place = read.place; read = λ f exposed. read.read f (first.disk.same ∙ exposed) })
      ];
}

pub through_one : (old new : DiskView) (arrays : List ArrayDesc) (a : ArrayDesc) (c d : Blocks) (s t : Option Kept) → Contains arrays a → Looks old new a.id (blocks_of a.extents) c d s t → LooksThrough old new arrays c d
through_one old new arrays a c d s t of looks = record {
  disk = looks.disk;
  cap = looks.cap;
  cached = λ k x there.
      elim (looks.cached k x there) [
        | inl before ↦ inl before
        | inr read ↦ inr (a, of, read)
      ];
}

-- a block that a list of arrays names, where one of them does
pub names_one : (content : Option Image) (arrays : List ArrayDesc) (a : ArrayDesc) (b : ℕ) → Contains arrays a → IsNoBlock content (blocks_of a.extents) b → NamesNoBlock content arrays b
names_one content arrays a b of none = record { array = a; one = of; none = none }

pub names_earlier : (old mid : Option Image) (arrays : List ArrayDesc) (b : ℕ) → mid ≡ old → NamesNoBlock mid arrays b → NamesNoBlock old arrays b
names_earlier old mid arrays b same is = record { array = is.array; one = is.one; none = (is.none.0, λ f exposed. is.none.1 f (same ∙ exposed)) }

-- the same for more arrays
pub through_more : (old new : DiskView) (some arrays : List ArrayDesc) (c d : Blocks) → LooksThrough old new some c d → ((a : ArrayDesc) → Contains some a → Contains arrays a) → LooksThrough old new arrays c d
through_more old new some arrays c d looks more = record {
  disk = looks.disk;
  cap = looks.cap;
  cached = λ k x there.
      elim (looks.cached k x there) [
        | inl before ↦ inl before
        | inr got ↦ inr (got.0, more got.0 got.1, got.2)
      ];
}

pub names_more : (content : Option Image) (some arrays : List ArrayDesc) (b : ℕ) → ((a : ArrayDesc) → Contains some a → Contains arrays a) → NamesNoBlock content some b → NamesNoBlock content arrays b
names_more content some arrays b more is = record { array = is.array; one = more is.array is.one; none = is.none }

pub only_one : (a : ArrayDesc) → Contains (a ∷ []) a
only_one a = (0, omega arith, refl)

-- arrays of one number are one
pub same_array : (arrays : List ArrayDesc) (a b : ArrayDesc) → HaveOwnIds arrays → Contains arrays a → Contains arrays b → a.id ≡ b.id → a ≡ b
same_array arrays a b own one other same = id_names arrays a b own (contained_among arrays a one) (contained_among arrays b other) same
