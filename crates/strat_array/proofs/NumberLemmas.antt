-- Numbers of blocks that are left.
use Rattle.std.proofs.Common.{◌≡◌, ◌<◌, ◌+◌, ℕ, get_or, List, ◌++◌, length, drop, ap, ◌∙◌, sym}
use Rattle.std.specs.List.{range_with_len}
use Rattle.std.proofs.lemmas.List.{drop_more}
use Rattle.strat_base.specs.declared.descriptors.Extent.{Extent}
use Rattle.def_bytes.specs.Arrays.{blocks_of}

-- behind an empty run comes the next extent
pub empty_before : (extents : List Extent) (i start len : ℕ) (d : Extent) → i < length extents → len ≡ 0
    → range_with_len (get_or extents i d).start (get_or extents i d).len ++ blocks_of (drop (i + 1) extents) ≡ range_with_len start len ++ blocks_of (drop i extents)
empty_before extents i start len d lt none =
    sym (ap (λ (n : ℕ). range_with_len start n ++ blocks_of (drop i extents)) none ∙ ap blocks_of (drop_more extents i d lt))
