-- Blocks that are kept stay right while an array is looked at.
use Rattle.std.proofs.Common.{◌≡◌, ℕ, zero, suc, Bool, true, false, cond, inl, inr, List, [], ◌∷◌, length, Contains, Option, Some, None, IsSome, IfSome, refl, sym, ap, ◌∙◌, subst, arith, true≢false}
use Rattle.std.specs.List.{slice_get}
use Rattle.std.specs.Map.{lookup}
use Rattle.std.specs.Option.{option_map, option_and_then, option_or}
use Rattle.lru.proofs.CallerLemmas.{Contains-lookup}
use Rattle.strat_base.specs.Entries.{Entry}
use Rattle.def_crash.specs.Image.{Image}
use Rattle.def_crash.specs.Moments.{DiskView, OnlyReads}
use Rattle.def_crash.proofs.MomentLemmas.{reads_refl, reads_trans}
use Rattle.strat_array.specs.Blocks.{lists_on}
use Rattle.def_bytes.specs.Arrays.{block_on}
use Rattle.strat_array.specs.Kept.{Kept, Blocks, is_keyed, held_block, kept_block, AddsNone, AddsOnly, IsBlockRead, Looks, ArrayStands}
use Rattle.strat_array.proofs.CacheLemmas.{keyed_same}

-- the first of the blocks that are read, and the others
module _ (f : Image) (b : ℕ) (blocks : List ℕ) (lists : List (List Entry)) where
  pub listed_parts : lists_on f (b ∷ blocks) ≡ Some lists → (x : List Entry) × (xs : List (List Entry)) × (block_on f b ≡ Some x) × (lists_on f blocks ≡ Some xs) × (lists ≡ x ∷ xs)
  listed_parts is = go (block_on f b) (lists_on f blocks) refl refl is
    where
      go : (o : Option (List Entry)) (p : Option (List (List Entry))) → block_on f b ≡ o → lists_on f blocks ≡ p → option_and_then (λ x. option_map (λ xs. x ∷ xs) p) o ≡ Some lists
          → (x : List Entry) × (xs : List (List Entry)) × (block_on f b ≡ Some x) × (lists_on f blocks ≡ Some xs) × (lists ≡ x ∷ xs)
      go None p r l h = absurd (cc)
      go (Some x) None r l h = absurd (cc)
      go (Some x) (Some xs) r l h = (x, xs, r, l, cc)

-- a block that is listed is read as its list
pub listed_at : (f : Image) (blocks : List ℕ) (lists : List (List Entry)) (i b : ℕ) → lists_on f blocks ≡ Some lists → slice_get blocks i ≡ Some b → (x : List Entry) × (slice_get lists i ≡ Some x) × (block_on f b ≡ Some x)
listed_at f [] lists i b is at = absurd (cc)
listed_at f (d ∷ blocks) lists zero b is at =
    let parts = listed_parts f d blocks lists is in
    let same : d ≡ b = cc in
    (parts.0, ap (λ (l : List (List Entry)). slice_get l 0) parts.4, ap (block_on f) (sym same) ∙ parts.2)
listed_at f (d ∷ blocks) lists (suc i) b is at =
    let parts = listed_parts f d blocks lists is in
    let found = listed_at f blocks parts.1 i b parts.3 at in
    (found.0, ap (λ (l : List (List Entry)). slice_get l (suc i)) parts.4 ∙ found.1, found.2)

pub listed_length : (f : Image) (blocks : List ℕ) (lists : List (List Entry)) → lists_on f blocks ≡ Some lists → length lists ≡ length blocks
listed_length f [] lists is = let e : [] ≡ lists = cc in ap (λ (l : List (List Entry)). length l) (sym e)
listed_length f (b ∷ blocks) lists is =
    let parts = listed_parts f b blocks lists is in
    let rest = listed_length f blocks parts.1 parts.3 in
    omega (arith, ap (λ (l : List (List Entry)). length l) parts.4, rest)

pub looks_refl : (v : DiskView) (array : ℕ) (blocks : List ℕ) (c : Blocks) (s : Option Kept) → Looks v v array blocks c c s s
looks_refl v array blocks c s = record { disk = reads_refl v; cap = refl; cached = λ k x there. inl there; held = λ k x there. inl there }

read_earlier : (old mid : Option Image) (array : ℕ) (blocks : List ℕ) (k : ℕ × ℕ) (x : List Entry) → mid ≡ old → IsBlockRead mid array blocks k x → IsBlockRead old array blocks k x
read_earlier old mid array blocks k x same is = record { mine = is.mine; block = is.block; place = is.place; read = λ f exposed. is.read f (same ∙ exposed) }

pub looks_trans : (old mid new : DiskView) (array : ℕ) (blocks : List ℕ) (c d e : Blocks) (s t u : Option Kept) → Looks old mid array blocks c d s t → Looks mid new array blocks d e t u → Looks old new array blocks c e s u
looks_trans old mid new array blocks c d e s t u first second = record {
  disk = reads_trans first.disk second.disk;
  cap = second.cap ∙ first.cap;
  cached = λ k x there.
      elim (second.cached k x there) [
        | inl before ↦ first.cached k x before
        | inr read ↦ inr (read_earlier old.content mid.content array blocks k x first.disk.same read)
      ];
  held = λ k x there.
      elim (second.held k x there) [
        | inl before ↦ first.held k x before
        | inr got ↦
            elim got [
              | inl kept ↦
                  elim (first.cached k x kept.cached) [
                    | inl earlier ↦ inr (inl (record { mine = kept.mine; block = kept.block; place = kept.place; cached = earlier }))
                    | inr read ↦ inr (inr read)
                  ]
              | inr read ↦ inr (inr (read_earlier old.content mid.content array blocks k x first.disk.same read))
            ]
      ];
}

-- an array stands after it was looked at as before
pub stands_after : (old new : DiskView) (array : ℕ) (blocks : List ℕ) (c d : Blocks) (s t : Option Kept) (lists : List (List Entry)) → Looks old new array blocks c d s t → ArrayStands old.content array blocks c s lists → ArrayStands new.content array blocks d t lists
stands_after old new array blocks c d s t lists looks stands = record {
  image = stands.image;
  exposed = looks.disk.same ∙ stands.exposed;
  listed = stands.listed;
  cached = λ index x y there is.
      elim (looks.cached (array, index) x there) [
        | inl before ↦ stands.cached index x y before is
        | inr read ↦ at_read index x read y is
      ];
  held = λ index x there.
      elim (looks.held (array, index) x there) [
        | inl before ↦ stands.held index x before
        | inr got ↦
            elim got [
              | inl kept ↦
                  let at = listed_at stands.image blocks lists index kept.block stands.listed kept.place in
                  let same : x ≡ at.0 = stands.cached index x at.0 kept.cached at.1 in
                  at.1 ∙ ap (λ (l : List Entry). Some l) (sym same)
              | inr read ↦
                  let at = listed_at stands.image blocks lists index read.block stands.listed read.place in
                  let here : block_on stands.image read.block ≡ Some x = read.read stands.image stands.exposed in
                  at.1 ∙ sym at.2 ∙ here
            ]
      ];
}
  where
    at_read : (index : ℕ) (x : List Entry) → IsBlockRead old.content array blocks (array, index) x → (y : List Entry) → slice_get lists index ≡ Some y → x ≡ y
    at_read index x read y is =
        let at = listed_at stands.image blocks lists index read.block stands.listed read.place in
        let here : block_on stands.image read.block ≡ Some x = read.read stands.image stands.exposed in
        let both : Some x ≡ Some y = sym here ∙ at.2 ∙ sym at.1 ∙ is in
        cc

-- what is kept of a block is what stands there
module _ (content : Option Image) (array : ℕ) (blocks : List ℕ) (c : Blocks) (lists : List (List Entry)) (index : ℕ) (x y : List Entry) where
  cached_is : (s : Option Kept) → ArrayStands content array blocks c s lists → lookup (is_keyed array index) c.entries ≡ Some x → slice_get lists index ≡ Some y → x ≡ y
  cached_is s stands found at =
      let there = Contains-lookup (is_keyed array index) c.entries x found in
      let key : there.0 ≡ (array, index) = keyed_same array index there.0 there.2 in
      stands.cached index x y (subst (λ (k : ℕ × ℕ). Contains c.entries (k, x)) key there.1) at

  pub kept_is : (s : Option Kept) → ArrayStands content array blocks c s lists → kept_block c s array index ≡ Some x → slice_get lists index ≡ Some y → x ≡ y
  kept_is None stands found at = cached_is None stands found at
  kept_is (Some kept) stands found at =
      elim (is_keyed array index kept.0) as (λ b. is_keyed array index kept.0 ≡ b → x ≡ y) [
        | true ↦ λ t.
            let same : kept.1 ≡ x = one t in
            let key : kept.0 ≡ (array, index) = keyed_same array index kept.0 t in
            let here : slice_get lists index ≡ Some x = stands.held index x (λ j. Some (key j, same j)) in
            let both : Some x ≡ Some y = sym here ∙ at in
            cc
        | false ↦ λ t. cached_is (Some kept) stands (other t) at
      ] refl
    where
      one : is_keyed array index kept.0 ≡ true → kept.1 ≡ x
      one t = let e : Some kept.1 ≡ Some x = sym (ap (λ (b : Bool). option_or (cond b (Some kept.1) None) (lookup (is_keyed array index) c.entries)) t) ∙ found in cc

      other : is_keyed array index kept.0 ≡ false → lookup (is_keyed array index) c.entries ≡ Some x
      other t = sym (ap (λ (b : Bool). option_or (cond b (Some kept.1) None) (lookup (is_keyed array index) c.entries)) t) ∙ found

pub held_is : (content : Option Image) (array : ℕ) (blocks : List ℕ) (c : Blocks) (lists : List (List Entry)) (index : ℕ) (x : List Entry) (s : Option Kept) → ArrayStands content array blocks c s lists → held_block s array index ≡ Some x → slice_get lists index ≡ Some x
held_is content array blocks c lists index x None stands held = absurd (cc)
held_is content array blocks c lists index x (Some kept) stands held =
    elim (is_keyed array index kept.0) as (λ b. is_keyed array index kept.0 ≡ b → slice_get lists index ≡ Some x) [
      | true ↦ λ t.
          let e : Some kept.1 ≡ Some x = sym (ap (λ (b : Bool). cond b (Some kept.1) None) t) ∙ held in
          let same : kept.1 ≡ x = cc in
          let key : kept.0 ≡ (array, index) = keyed_same array index kept.0 t in
          stands.held index x (λ j. Some (key j, same j))
      | false ↦ λ t. let e : None ≡ Some x = sym (ap (λ (b : Bool). cond b (Some kept.1) None) t) ∙ held in absurd (cc)
    ] refl

-- the looks of a call that brings a block
module _ (old : DiskView) (array : ℕ) (blocks : List ℕ) (c d : Blocks) (s : Option Kept) (recalled : AddsNone c d) where
  pub looks_recalled : Looks old old array blocks c d s s
  looks_recalled = record { disk = reads_refl old; cap = recalled.cap; cached = λ k x there. inl (recalled.each k x there); held = λ k x there. inl there }

  pub looks_lost : (new : DiskView) (t : Option Kept) → OnlyReads old new → t ≡ None → Looks old new array blocks c d s t
  looks_lost new t reads none = record {
    disk = reads;
    cap = recalled.cap;
    cached = λ k x there. inl (recalled.each k x there);
    held = λ k x there. let e : None ≡ Some (k, x) = sym none ∙ there in absurd (cc);
  }

  pub looks_fetched : (new : DiskView) (index block : ℕ) (e : Blocks) (t : Option Kept) (y : List Entry) → OnlyReads old new → AddsOnly d e (array, index) y → IsSome t
      → IfSome t (λ kept. (kept.0 ≡ (array, index)) × ((f : Image) → old.content ≡ Some f → block_on f block ≡ Some kept.1)) → IfSome t (λ kept. y ≡ kept.1)
      → slice_get blocks index ≡ Some block → Looks old new array blocks c e s t
  looks_fetched new index block e None y reads adds some fetched is place = absurd (true≢false (sym some))
  looks_fetched new index block e (Some kept) y reads adds some fetched is place = record {
    disk = reads;
    cap = adds.cap ∙ recalled.cap;
    cached = λ k x there.
        elim (adds.each k x there) [
          | inl before ↦ inl (recalled.each k x before)
          | inr this ↦ inr (mine k x this.0 (this.1 ∙ is))
        ];
    held = λ k x there.
        let one : kept ≡ (k, x) = cc in
        inr (inr (mine k x (sym (ap (λ (p : Kept). p.0) one) ∙ fetched.0) (sym (ap (λ (p : Kept). p.1) one))));
  }
    where
      mine : (k : ℕ × ℕ) (x : List Entry) → k ≡ (array, index) → x ≡ kept.1 → IsBlockRead old.content array blocks k x
      mine k x key same = record {
        mine = ap (λ (p : ℕ × ℕ). p.0) key;
        block = block;
        place = ap (λ (p : ℕ × ℕ). slice_get blocks p.1) key ∙ place;
        read = λ f exposed. fetched.1 f exposed ∙ ap (λ (l : List Entry). Some l) (sym same);
      }
