-- A block has an entry.
use Rattle.std.proofs.Common.{◌≡◌, ◌<◌, ℕ, true, ltb, leb, ◌&&◌, List, [], ◌∷◌, length, Some, refl, arith}
use Rattle.std.specs.List.{list_all}
use Rattle.std.proofs.lemmas.Bool.{and_parts, ltb-true}
use Rattle.strat_base.specs.Entries.{Entry, is_ascending}
use Rattle.strat_base.specs.EntryBytes.{fits_fields}
use Rattle.def_bytes.specs.Block.{block_in, block_front}
use Rattle.def_bytes.proofs.BlockLemmas.{block_in-some}
use Rattle.strat_array.specs.Left.{has_entry}

pub block_filled : (bytes : List ℕ) (entries : List Entry) → block_in bytes ≡ Some entries → has_entry entries ≡ true
block_filled bytes entries is = go entries (ltb-true 0 (length entries) some)
  where
    some : ltb 0 (length entries) ≡ true
    some = (and_parts (ltb 0 (length entries)) (list_all fits_fields entries) (and_parts (ltb 0 (length entries) && list_all fits_fields entries) (is_ascending entries)
        (and_parts (ltb 0 (length entries) && list_all fits_fields entries && is_ascending entries) (leb (length (block_front entries)) 4096) (block_in-some bytes entries is).fits).0).0).0

    go : (xs : List Entry) → 0 < length xs → has_entry xs ≡ true
    go [] none = absurd (omega arith)
    go (x ∷ xs) none = refl
