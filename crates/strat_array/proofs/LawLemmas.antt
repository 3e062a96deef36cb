-- From the entries of an array's blocks to each block's own.
use Rattle.std.proofs.Common.{◌≡◌, ℕ, zero, suc, List, [], ◌∷◌, ◌++◌, Contains, Option, Some, None, refl, sym, ap, ◌∙◌}
use Rattle.std.specs.List.{slice_get}
use Rattle.std.specs.Option.{option_map, option_and_then}
use Rattle.strat_base.specs.Entries.{Entry}
use Rattle.def_crash.specs.Image.{Image}
use Rattle.def_bytes.specs.Arrays.{block_on, entries_on}
use Rattle.strat_array.specs.Blocks.{lists_on}
use Rattle.strat_array.specs.Kept.{Blocks, ArrayStands}
use Rattle.strat_array.specs.Left.{all_in}
use Rattle.strat_array.proofs.KeptLemmas.{listed_parts, listed_at}

-- the entries of blocks are those of each, one after the other
pub listed : (f : Image) (blocks : List ℕ) (entries : List Entry) → entries_on f blocks ≡ Some entries → (lists : List (List Entry)) × (lists_on f blocks ≡ Some lists) × (all_in lists ≡ entries)
unfolding entries_on
listed f [] entries is = ([], refl, cc)
listed f (b ∷ blocks) entries is = go (listed f blocks) (block_on f b) (entries_on f blocks) refl refl is
  where
    go : ((rest : List Entry) → entries_on f blocks ≡ Some rest → (lists : List (List Entry)) × (lists_on f blocks ≡ Some lists) × (all_in lists ≡ rest)) → (o : Option (List Entry)) (p : Option (List Entry)) → block_on f b ≡ o → entries_on f blocks ≡ p → option_and_then (λ x. option_map (λ rest. x ++ rest) p) o ≡ Some entries
        → (lists : List (List Entry)) × (lists_on f (b ∷ blocks) ≡ Some lists) × (all_in lists ≡ entries)
    go others None p here behind h = absurd (cc)
    go others (Some x) None here behind h = absurd (cc)
    go later (Some x) (Some rest) here behind h =
        let others = later rest behind in
        let whole : x ++ rest ≡ entries = cc in (
          x ∷ others.0,
          ap (λ (o : Option (List Entry)). option_and_then (λ y. option_map (λ ys. y ∷ ys) (lists_on f blocks)) o) here ∙ ap (λ (o : Option (List (List Entry))). option_map (λ ys. x ∷ ys) o) others.1,
          ap (λ (r : List Entry). x ++ r) others.2 ∙ whole,
        )

get_block : (f : Image) (blocks : List ℕ) (lists : List (List Entry)) (i : ℕ) (y : List Entry) → lists_on f blocks ≡ Some lists → slice_get lists i ≡ Some y → (b : ℕ) × (slice_get blocks i ≡ Some b)
get_block f [] lists i y is at = let e : [] ≡ lists = cc in let none : slice_get [] i ≡ Some y = ap (λ (l : List (List Entry)). slice_get l i) e ∙ at in absurd (cc)
get_block f (b ∷ blocks) lists zero y is at = (b, refl)
get_block f (b ∷ blocks) lists (suc i) y is at =
    let parts = listed_parts f b blocks lists is in
    get_block f blocks parts.1 i y parts.3 (sym (ap (λ (l : List (List Entry)). slice_get l (suc i)) parts.4) ∙ at)

pub array_stands : (content : Option Image) (f : Image) (array : ℕ) (blocks : List ℕ) (c : Blocks) (entries : List Entry) → content ≡ Some f → entries_on f blocks ≡ Some entries
    → ((index block : ℕ) (x : List Entry) → Contains c.entries ((array, index), x) → slice_get blocks index ≡ Some block → block_on f block ≡ Some x)
    → (lists : List (List Entry)) × ArrayStands content array blocks c None lists × (all_in lists ≡ entries)
array_stands content f array blocks c entries exposed is right =
    let found = listed f blocks entries is in (
      found.0,
      record {
        image = f;
        exposed = exposed;
        listed = found.1;
        cached = λ index x y there at.
            let b = get_block f blocks found.0 index y found.1 at in
            let here = listed_at f blocks found.0 index b.0 found.1 b.1 in
            let one : Some x ≡ Some y = sym (right index b.0 x there b.1) ∙ here.2 ∙ sym here.1 ∙ at in
            cc;
        held = λ index x none. absurd (cc);
      },
      found.2,
    )
