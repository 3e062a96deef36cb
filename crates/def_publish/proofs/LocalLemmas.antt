-- What lies in the blocks that contents name stays while these blocks do.
use Rattle.std.proofs.Common.{◌≡◌, ◌+◌, ◌-◌, ◌*◌, ℕ, zero, suc, Bool, true, false, cond, eqb, inl, inr, List, [], ◌∷◌, ◌++◌, Option, Ok, Err, refl, sym, ap, ◌∙◌, subst, arith}
use Rattle.std.specs.Prelude.{option_map, option_and_then, flat_map}
use Rattle.strat_base.specs.declared.limits.TheConstants.{BLOCK}
use Rattle.strat_base.specs.declared.descriptors.ArrayDesc.{ArrayDesc}
use Rattle.strat_base.specs.declared.descriptors.LevelDesc.{LevelDesc}
use Rattle.strat_base.specs.Numbers.{number}
use Rattle.strat_base.specs.Entries.{Entry}
use Rattle.strat_base.proofs.ListFacts.{Among, among_left, among_right, among_split, among_in_flat}
use Rattle.def_crash.specs.Image.{Image, window}
use Rattle.def_crash.specs.Blocks.{KeepsBlock, AgreeOn}
use Rattle.def_crash.proofs.ImageLemmas.{window_same}
use Rattle.def_state.specs.Level.{TaggedArray}
use Rattle.def_bytes.specs.Arrays.{all_some, blocks_of, block_on, entries_on}
use Rattle.def_bytes.specs.Block.{block_in}
use Rattle.def_bytes.specs.Chain.{chain_length}
use Rattle.def_bytes.specs.Chained.{Chained, link_at, may_follow, chain_from, chained_bytes, manifest_filled, manifest_in_chain, manifest_at}
use Rattle.def_bytes.specs.Damage.{Read, and_then, passed_or, found_or, put_first}
use Rattle.def_bytes.proofs.DamageLemmas.{and_then_ok, passed_ok, found_ok, put_first_ok}
use Rattle.def_recovery.specs.Opened.{array_on, level_on}
use Rattle.def_recovery.proofs.OpeningLemmas.{map_some}
use Rattle.def_publish.specs.Contents.{Contents, named_blocks}
use Rattle.def_publish.specs.Standing.{LiesIn}
use Rattle.def_publish.proofs.ListLemmas.{among_contained}

-- two images have the same bytes in each of these blocks
abbrev pub SameOn : Image → Image → List ℕ → Type 0
SameOn f c blocks = (b : ℕ) → Among b blocks → KeepsBlock b f c

pub same_on : (f c : Image) (blocks : List ℕ) → AgreeOn blocks f c → SameOn f c blocks
same_on f c blocks agree b among = agree b (among_contained blocks b among)

link_same : (f c : Image) (b : ℕ) → KeepsBlock b f c → link_at c b ≡ link_at f b
link_same f c b keeps = ap (number 4) (window_same f c (BLOCK * b) 4 (record { byte = λ i low high. keeps.byte i (omega arith) (omega arith) }))

text_same : (f c : Image) (b : ℕ) → KeepsBlock b f c → window c (BLOCK * b + 4) (BLOCK - 4) ≡ window f (BLOCK * b + 4) (BLOCK - 4)
text_same f c b keeps = window_same f c (BLOCK * b + 4) (BLOCK - 4) (record { byte = λ i low high. keeps.byte i (omega arith) (omega arith) })

block_same : (f c : Image) (b : ℕ) → KeepsBlock b f c → block_on c b ≡ block_on f b
block_same f c b keeps = ap block_in (window_same f c (BLOCK * b) BLOCK (record { byte = λ i low high. keeps.byte i (omega arith) (omega arith) }))

-- a chain is found by the same links
chain_local : (f c : Image) (before : List ℕ) (b n : ℕ) (blocks : List ℕ) → chain_from f before b n ≡ Ok blocks → SameOn f c blocks → chain_from c before b n ≡ Ok blocks
unfolding chain_from
chain_local f c before b zero blocks e same =
    let one = passed_ok b (eqb (link_at f b) 0) (b ∷ []) blocks e in
    let here : KeepsBlock b f c = same b (subst (λ (l : List ℕ). Among b l) one.1 (inl refl)) in
    ap (λ (k : ℕ). passed_or b (eqb k 0) (b ∷ [])) (link_same f c b here) ∙ e
chain_local f c before b (suc n) blocks e same =
    by_test (may_follow (b ∷ before) (link_at f b)) refl (λ rest e' on. chain_local f c (b ∷ before) (link_at f b) n rest e' on) e
  where
    by_test : (t : Bool) → may_follow (b ∷ before) (link_at f b) ≡ t
        → ((rest : List ℕ) → chain_from f (b ∷ before) (link_at f b) n ≡ Ok rest → SameOn f c rest → chain_from c (b ∷ before) (link_at f b) n ≡ Ok rest)
        → cond t (put_first b (chain_from f (b ∷ before) (link_at f b) n)) (Err b) ≡ Ok blocks
        → cond (may_follow (b ∷ before) (link_at c b)) (put_first b (chain_from c (b ∷ before) (link_at c b) n)) (Err b) ≡ Ok blocks
    by_test false is further e = absurd (cc)
    by_test true is further e =
        let rest = put_first_ok b (chain_from f (b ∷ before) (link_at f b) n) blocks e in
        let here : KeepsBlock b f c = same b (subst (λ (l : List ℕ). Among b l) rest.2 (inl refl)) in
        let later : SameOn f c rest.0 = λ d among. same d (subst (λ (l : List ℕ). Among d l) rest.2 (inr among)) in
        let there = further rest.0 rest.1 later in
        ap (λ (k : ℕ). cond (may_follow (b ∷ before) k) (put_first b (chain_from c (b ∷ before) k n)) (Err b)) (link_same f c b here)
        ∙ ap (λ (t : Bool). cond t (put_first b (chain_from c (b ∷ before) (link_at f b) n)) (Err b)) is
        ∙ ap (λ (r : Read (List ℕ)). put_first b r) there
        ∙ ap (λ (l : List ℕ). Ok l) rest.2

bytes_local : (f c : Image) (blocks : List ℕ) → SameOn f c blocks → chained_bytes c blocks ≡ chained_bytes f blocks
bytes_local f c [] same = refl
bytes_local f c (b ∷ blocks) same = λ i. text_same f c b (same b (inl refl)) i ++ bytes_local f c blocks (λ d among. same d (inr among)) i

pub manifest_local : (format : ℕ) (f c : Image) (first n : ℕ) (x : Chained) → manifest_at format f first n ≡ Ok x → SameOn f c x.blocks → manifest_at format c first n ≡ Ok x
manifest_local format f c first n x e same =
    let read = and_then_ok (chain_from f [] first (chain_length n - 1)) (manifest_in_chain format f first n) x e in
    let made = map_some (λ m. record { manifest = m; blocks = read.0 }) (manifest_filled format n (chained_bytes f read.0)) x
    (found_ok first (option_map (λ m. record { manifest = m; blocks = read.0 }) (manifest_filled format n (chained_bytes f read.0))) x read.2) in
    let on : SameOn f c read.0 = subst (λ (l : List ℕ). SameOn f c l) (sym (ap (λ (y : Chained). y.blocks) made.2)) same in
    ap (λ (r : Read (List ℕ)). and_then r (manifest_in_chain format c first n)) (chain_local f c [] first (chain_length n - 1) read.0 read.1 on)
    ∙ ap (λ (l : List ℕ). found_or first (option_map (λ m. record { manifest = m; blocks = read.0 }) (manifest_filled format n l))) (bytes_local f c read.0 on)
    ∙ read.2

pub entries_local : (f c : Image) (blocks : List ℕ) → SameOn f c blocks → entries_on c blocks ≡ entries_on f blocks
unfolding entries_on
entries_local f c [] same = refl
entries_local f c (b ∷ blocks) same =
    λ i. option_and_then (λ entries. option_map (λ rest. entries ++ rest) (entries_local f c blocks (λ d among. same d (inr among)) i)) (block_same f c b (same b (inl refl)) i)

array_local : (f c : Image) (a : ArrayDesc) → SameOn f c (blocks_of a.extents) → array_on c a ≡ array_on f a
array_local f c a same =
    ap (λ (o : Option (List Entry)). option_map (λ entries. record { id = a.id; tag = a.versions; content = entries; entries = a.entries; leads = a.leads; least = a.least }) o)
    (entries_local f c (blocks_of a.extents) same)

-- what is made of each of some items, by two functions that make the same of each
some_same : {A B : Type 0} (g h : A → Option B) (xs : List A) → ((x : A) → Among x xs → g x ≡ h x) → all_some g xs ≡ all_some h xs
some_same g h [] same = refl
some_same g h (x ∷ xs) same =
    λ i. option_and_then (λ y. option_map (λ ys. y ∷ ys) (some_same g h xs (λ z among. same z (inr among)) i)) (same x (inl refl) i)

level_local : (f c : Image) (d : LevelDesc) → SameOn f c (flat_map (λ a. blocks_of a.extents) d.arrays) → level_on c d ≡ level_on f d
level_local f c d same =
    ap (λ (o : Option (List TaggedArray)). option_map (λ arrays. record { number = d.number; horizon = d.horizon; arrays = arrays }) o)
    (some_same (array_on c) (array_on f) d.arrays (λ a here. array_local f c a (λ b among. same b (among_in_flat (λ a. blocks_of a.extents) d.arrays a b here among))))

-- the blocks of the arrays of levels
abbrev pub level_blocks : List LevelDesc → List ℕ
level_blocks ds = flat_map (λ (a : ArrayDesc). blocks_of a.extents) (flat_map (λ (d : LevelDesc). d.arrays) ds)

blocks_among : (xs : List ArrayDesc) (bs : List ArrayDesc) (b : ℕ) → ((a : ArrayDesc) → Among a xs → Among a bs) → Among b (flat_map (λ a. blocks_of a.extents) xs) → Among b (flat_map (λ a. blocks_of a.extents) bs)
blocks_among xs bs b within among = go xs within among
  where
    go : (cs : List ArrayDesc) → ((a : ArrayDesc) → Among a cs → Among a bs) → Among b (flat_map (λ a. blocks_of a.extents) cs) → Among b (flat_map (λ a. blocks_of a.extents) bs)
    go [] within among = absurd among
    go (a ∷ cs) within among = elim (among_split (blocks_of a.extents) (flat_map (λ a. blocks_of a.extents) cs) b among) [
      | inl here ↦ among_in_flat (λ a. blocks_of a.extents) bs a b (within a (inl refl)) here
      | inr there ↦ go cs (λ d in_rest. within d (inr in_rest)) there
    ]

pub levels_local : (f c : Image) (ds : List LevelDesc) → SameOn f c (level_blocks ds) → all_some (level_on c) ds ≡ all_some (level_on f) ds
levels_local f c ds same =
    some_same (level_on c) (level_on f) ds (λ d here. level_local f c d (λ b among.
    same b (blocks_among d.arrays (flat_map (λ (e : LevelDesc). e.arrays) ds) b (λ a within. among_in_flat (λ (e : LevelDesc). e.arrays) ds d a here within) among)))

pub lies_local : (f c : Image) (x : Contents) → LiesIn f x → SameOn f c (named_blocks x) → LiesIn c x
lies_local f c x lies same =
    let arrays : List ℕ = level_blocks x.chained.manifest.levels in
    record {
      chain = manifest_local x.sb.format f c x.sb.manifest x.sb.length x.chained lies.chain (λ b among. same b (among_left x.chained.blocks arrays b among));
      belonging = lies.belonging;
      arrays = levels_local f c x.chained.manifest.levels (λ b among. same b (among_right x.chained.blocks arrays b among)) ∙ lies.arrays;
    }
