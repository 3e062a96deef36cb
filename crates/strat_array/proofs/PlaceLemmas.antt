-- The place that a search ends with.
use Rattle.std.proofs.Common.{◌≡◌, ◌<◌, ◌≤◌, ◌+◌, ◌-◌, ◌*◌, ℕ, zero, suc, true, get_or, inl, inr, List, [], ◌∷◌, length, Some, refl, sym, ap, ◌∙◌, subst, arith, true≢false}
use Rattle.std.specs.List.{filter, list_all, slice_get}
use Rattle.std.proofs.lemmas.Bool.{and_parts, and_from, cases_lt}
use Rattle.strat_base.specs.declared.limits.TheConstants.{BLOCK}
use Rattle.strat_base.specs.Entries.{Entry, is_ascending}
use Rattle.def_crash.specs.Image.{Image, window}
use Rattle.strat_array.specs.declared.place.Place.{Place}
use Rattle.strat_array.specs.Blocks.{lists_on}
use Rattle.strat_array.specs.Left.{all_in, left_at, has_entry, is_from, starts_below, Bound}
use Rattle.strat_block.specs.Places.{IsFirstFrom}
use Rattle.strat_array.specs.Steps.{left_from, IsSettled}
use Rattle.strat_array.proofs.BlockFacts.{block_filled}
use Rattle.strat_array.proofs.KeptLemmas.{listed_parts}
use Rattle.strat_array.proofs.SeekLemmas.{none_dropped, sought_left}
use Rattle.strat_array.proofs.WalkLemmas.{left_past}

-- each block that is read has an entry
pub listed_filled : (f : Image) (blocks : List ℕ) (lists : List (List Entry)) → lists_on f blocks ≡ Some lists → list_all has_entry lists ≡ true
listed_filled f [] lists is = let e : [] ≡ lists = cc in ap (list_all has_entry) (sym e)
listed_filled f (b ∷ blocks) lists is =
    let parts = listed_parts f b blocks lists is in
    ap (list_all has_entry) parts.4
    ∙ and_from (has_entry parts.0) (list_all has_entry parts.1) (block_filled (window f (BLOCK * b) BLOCK) parts.0 parts.2) (listed_filled f blocks parts.1 parts.3)

pub filled_at : (lists : List (List Entry)) (i : ℕ) → list_all has_entry lists ≡ true → i < length lists → 0 < length (get_or lists i [])
filled_at [] i filled lt = absurd (omega arith)
filled_at ([] ∷ lists) zero filled lt = absurd (true≢false (sym filled))
filled_at ((e ∷ entries) ∷ lists) zero filled lt = omega arith
filled_at (entries ∷ lists) (suc i) filled lt = filled_at lists i (and_parts (has_entry entries) (list_all has_entry lists) filled).1 (omega arith)

pub get_of : {X : Type 0} (xs : List X) (i : ℕ) (d : X) → i < length xs → slice_get xs i ≡ Some (get_or xs i d)
get_of [] i d lt = absurd (omega arith)
get_of (x ∷ xs) zero d lt = refl
get_of (x ∷ xs) (suc i) d lt = get_of xs i d (omega arith)

-- all is left at the start
pub left_start : (lists : List (List Entry)) → left_at lists 0 0 ≡ all_in lists
left_start [] = refl
left_start (entries ∷ lists) = refl

module _ (key : List ℕ) (lists : List (List Entry)) (filled : list_all has_entry lists ≡ true) where
  pub sought_at_start : is_ascending (all_in lists) ≡ true → (n : ℕ) → n ≡ 0 → Bound key n lists → left_at lists 0 0 ≡ filter (is_from key) (all_in lists)
  sought_at_start up n zero' bound =
      left_start lists ∙ sym (none_dropped lists key up filled (λ some. ap (λ (i : ℕ). starts_below key (get_or lists i [])) (sym zero') ∙ bound.above (omega arith)))

  -- a place at a block's start is that of an entry, or the end
  pub settled_at_start : (n : ℕ) → n ≤ length lists → (place : Place) → place.block ≡ n → place.index ≡ 0 → IsSettled lists place
  settled_at_start n within place block index = elim (cases_lt n (length lists)) [
    | inl lt ↦ let some = filled_at lists n filled lt in inl (let same = ap (λ (i : ℕ). length (get_or lists i [])) block in omega (arith, same, some))
    | inr le ↦ inr (omega arith, index)
  ]

  module _ (n : ℕ) (some : 0 < n) (bound : Bound key n lists) where
    one : n ≡ n - 1 + 1
    one = omega arith

    again : Bound key (n - 1 + 1) lists
    again = subst (λ (i : ℕ). Bound key i lists) one bound

    -- the place at the start of the block after the last that begins below a key, where that ends below it
    pub sought_past : is_ascending (all_in lists) ≡ true → (place : Place) → IsFirstFrom key (get_or lists (n - 1) []) (length (get_or lists (n - 1) [])) → place.block ≡ n → place.index ≡ 0 → left_from lists place ≡ filter (is_from key) (all_in lists)
    sought_past up place first block index =
        let within : n - 1 < length lists = omega (arith, bound.within) in
        (λ j. left_at lists (block_is j) (index j))
        ∙ sym (left_past lists (n - 1) (length (get_or lists (n - 1) [])) (get_or lists (n - 1) []) (get_of lists (n - 1) [] within) (omega arith))
        ∙ sought_left key (n - 1) (length (get_or lists (n - 1) [])) lists up filled within again first
      where
        block_is : place.block ≡ n - 1 + 1
        block_is = block ∙ one

    -- the place within the last block that begins below a key
    pub sought_inside : is_ascending (all_in lists) ≡ true → (i : ℕ) (place : Place) → IsFirstFrom key (get_or lists (n - 1) []) i → place.block + 1 ≡ n → place.index ≡ i → left_from lists place ≡ filter (is_from key) (all_in lists)
    sought_inside up i place first block index =
        let within : n - 1 < length lists = omega (arith, bound.within) in
        (λ j. left_at lists (block_is j) (index j))
        ∙ sought_left key (n - 1) i lists up filled within again first
      where
        block_is : place.block ≡ n - 1
        block_is = omega (arith, block)
