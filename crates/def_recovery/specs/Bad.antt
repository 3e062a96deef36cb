-- Which blocks of a disk are bad.
use Rattle.std.specs.Prelude.{◌≡◌, ℕ, ◌-◌, ◌==◌, nat_lt, nat_le, ◌&&◌, Bool, true, false, List, [], ◌∷◌, ◌++◌, length, slice_get, Option, Some, None, Err, IsTrue}
use Rattle.std.specs.List.{Contains, list_any, list_all}
use Rattle.std.specs.Ordering.{is_lt}
use Rattle.strat_base.specs.Order.{entry_cmp}
use Rattle.def_crash.specs.Image.{Image}
use Rattle.strat_base.specs.Entries.{Entry, lead_entries}
use Rattle.strat_base.specs.declared.descriptors.ArrayDesc.{ArrayDesc}
use Rattle.def_bytes.specs.Arrays.{blocks_of, block_on, entries_on}
use Rattle.def_recovery.specs.Opening.{recover}

-- a block of an array is no block of entries
pub record IsUnread (c : Image) (a : ArrayDesc) (b : ℕ) : Type 0 where
  pub mine : IsTrue (list_any (λ other. other == b) (blocks_of a.extents))
  pub unread : block_on c b ≡ None

-- entries begin after an entry, if there is one
abbrev pub begins_after : Option Entry → List Entry → Bool
begins_after None entries = true
begins_after (Some last) [] = true
begins_after (Some last) (e ∷ entries) = is_lt (entry_cmp last.key last.version e.key e.version)

-- entries fit after those of an array's earlier blocks: in order, of versions that are there, and
-- with no more leads in all than the descriptor says
abbrev pub fits_behind : ℕ → ArrayDesc → List Entry → List Entry → Bool
fits_behind versions a before entries =
    begins_after (slice_get before (length before - 1)) entries
    && list_all (λ e. nat_lt e.version versions) entries
    && nat_le (length (lead_entries a.versions (before ++ entries))) a.leads

-- a block of an array holds entries that do not fit their place in it
pub record IsMisplaced (c : Image) (versions : ℕ) (a : ArrayDesc) (b : ℕ) : Type 0 where
  pub front : List ℕ
  pub back : List ℕ
  pub place : blocks_of a.extents ≡ front ++ b ∷ back
  pub before : List Entry
  pub entries : List Entry
  pub earlier : entries_on c front ≡ Some before
  pub here : block_on c b ≡ Some entries
  pub misfit : fits_behind versions a before entries ≡ false

-- a block is bad: recovery refuses it; or it is no block of entries and of an array that is named;
-- or it does not fit its place in an array that is merged
pub data IsBad (c : Image) (versions : ℕ) (named merged : List ArrayDesc) (b : ℕ) : Type 0 where
  refused : recover c ≡ Err b → IsBad c versions named merged b
  unread : (a : ArrayDesc) → Contains named a → IsUnread c a b → IsBad c versions named merged b
  misplaced : (a : ArrayDesc) → Contains merged a → IsMisplaced c versions a b
      → IsBad c versions named merged b
