-- A buffer of pairs: their bytes one after the other, and where each pair lies.
use Rattle.std.specs.Prelude.{◌≤◌, ◌<◌, ℕ, ◌+◌, ◌*◌, List, length, take, drop, slice_index_or}
use Rattle.strat_base.specs.declared.pairs.PairSpan.{PairSpan}
use Rattle.strat_base.specs.declared.limits.TheConstants.{KEY_MAX, VALUE_MAX, PAIRS_MAX}

-- the pair of a span
abbrev pub pair_in : List ℕ → PairSpan → List ℕ × List ℕ
pair_in bytes place = (
  take place.key_len (drop place.at bytes),
  take place.value_len (drop (place.at + place.key_len) bytes),
)

-- a span is within the bytes and is that of a pair of lawful size
pub record IsPlace (room : ℕ) (place : PairSpan) : Type 0 where
  pub within : place.at + place.key_len + place.value_len ≤ room
  pub key_some : 1 ≤ place.key_len
  pub key : place.key_len ≤ KEY_MAX
  pub value : place.value_len ≤ VALUE_MAX

-- a pair has sizes as they may be
pub record IsPair (pair : List ℕ × List ℕ) : Type 0 where
  pub key_some : 1 ≤ length pair.0
  pub key : length pair.0 ≤ KEY_MAX
  pub value : length pair.1 ≤ VALUE_MAX

-- each span is within the bytes, and the memory that was taken holds as many pairs as there may be
pub record HoldsPairs (bytes : List ℕ) (byte_room : ℕ) (places : List PairSpan)
    (place_room : ℕ) : Type 0 where
  pub each : (k : ℕ) (d : PairSpan) → k < length places
      → IsPlace (length bytes) (slice_index_or places k d)
  pub few : length bytes ≤ (KEY_MAX + VALUE_MAX) * length places
  pub count : length places ≤ PAIRS_MAX
  pub bytes_fit : (KEY_MAX + VALUE_MAX) * PAIRS_MAX ≤ byte_room
  pub places_fit : PAIRS_MAX ≤ place_room
