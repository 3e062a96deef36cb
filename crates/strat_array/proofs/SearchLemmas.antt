-- Blocks of an array that a search looks at.
use Rattle.std.proofs.Common.{◌≡◌, ◌<◌, ◌*◌, ◌/◌, ◌^◌, ℕ, zero, suc, eqb, List, Option, Some, None, IsSome, refl, sym, ap, ◌∙◌, arith, true≢false, eq-eqb}
use Rattle.std.specs.List.{slice_get}
use Rattle.strat_base.specs.Entries.{Entry}
use Rattle.strat_base.proofs.ListFacts.{any_from, get_among}
use Rattle.def_crash.specs.Image.{Image}
use Rattle.def_crash.specs.Moments.{DiskView}
use Rattle.def_bytes.specs.Arrays.{block_on}
use Rattle.strat_array.specs.Kept.{Kept, Blocks, kept_block, Looks, ArrayStands}
use Rattle.strat_array.specs.Within.{IsNoBlock}
use Rattle.strat_array.proofs.KeptLemmas.{listed_at, stands_after, kept_is}

-- a block that was asked for and is none is one of the array's
pub no_block : (content : Option Image) (blocks : List ℕ) (index block b : ℕ) → slice_get blocks index ≡ Some block → b ≡ block → ((f : Image) → content ≡ Some f → block_on f block ≡ None) → IsNoBlock content blocks b
no_block content blocks index block b place same none = (
  any_from (λ other. eqb other b) block blocks (get_among blocks index block place) (eq-eqb block b (sym same)),
  λ f exposed. ap (block_on f) same ∙ none f exposed,
)

pub no_block_same : (old mid : Option Image) (blocks : List ℕ) (b : ℕ) → mid ≡ old → IsNoBlock mid blocks b → IsNoBlock old blocks b
no_block_same old mid blocks b same is = (is.0, λ f exposed. is.1 f (same ∙ exposed))

-- half of a gap is closed by one halving less
pub half_more : (gap m : ℕ) → 0 < gap → gap < 2 ^ m → (k : ℕ) × (m ≡ suc k) × (gap / 2 < 2 ^ k)
half_more gap zero some lt = absurd (omega arith)
half_more gap (suc k) some lt = let e : 2 ^ suc k ≡ 2 * 2 ^ k = grind arith in (k, refl, omega (arith, e))

pub kept_listed : (old new : DiskView) (array : ℕ) (blocks : List ℕ) (c d : Blocks) (s t : Option Kept) (lists : List (List Entry)) (index block : ℕ)
    → Looks old new array blocks c d s t → slice_get blocks index ≡ Some block → IsSome (kept_block d t array index) → ArrayStands old.content array blocks c s lists → kept_block d t array index ≡ slice_get lists index
kept_listed old new array blocks c d s t lists index block looks place some stands =
    let now = stands_after old new array blocks c d s t lists looks stands in
    let at = listed_at stands.image blocks lists index block stands.listed place in
    go (kept_block d t array index) some refl now at.0 at.1
  where
    go : (o : Option (List Entry)) → IsSome o → kept_block d t array index ≡ o → ArrayStands new.content array blocks d t lists → (y : List Entry) → slice_get lists index ≡ Some y → kept_block d t array index ≡ slice_get lists index
    go None none is now y at = absurd (true≢false (sym none))
    go (Some x) some is now y at =
        let same : x ≡ y = kept_is new.content array blocks d lists index x y t now is at in
        is ∙ ap (λ (l : List Entry). Some l) same ∙ sym at
