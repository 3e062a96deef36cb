-- Which array of a level has a version in its tag.
use Rattle.std.specs.Prelude.{◌≡◌, ◌<◌, ℕ, ◌==◌, List, [], length, slice_index, slice_index_or}
use Rattle.strat_base.specs.Entries.{is_tagged}

-- for each version below their number, the place of the tag that has it
abbrev pub AreOwners : List (List ℕ) → List ℕ → Type 0
AreOwners tags owners = (u i : ℕ) → u < length owners → i < 16384
    → (slice_index owners u == i) ≡ is_tagged (slice_index_or tags i []) u
